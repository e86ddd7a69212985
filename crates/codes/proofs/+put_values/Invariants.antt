-- `codes::put_values` meets its contract: the values after a leaf, after a stem and after a fork, one list after another. Assumes nothing.
use Rattle.codes.proofs.+put_values.Given as goal

abbrev pub decreases-put_values : goal.decreases-put_values
decreases-put_values l = l.n
