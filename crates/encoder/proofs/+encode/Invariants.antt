-- `encoder::encode` meets its contract: the operands before their symbol, from the end. Assumes nothing.
use Rattle.encoder.proofs.+encode.Given as goal

abbrev pub decreases-encode : goal.decreases-encode
decreases-encode l = l.p
