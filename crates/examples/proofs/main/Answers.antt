-- `examples::main` meets what `answer` asks: the text that Run wrote lies within the out bytes. Assumes nothing.
use Rattle.lines.proofs.Within.{text_within}
use Rattle.examples.proofs.main.Goals as goal

pub answer-requires-clause-within : goal.answer-requires-clause-within
answer-requires-clause-within c = λ t s o p r t' s' o' e. text_within _ _ _ _ r e
