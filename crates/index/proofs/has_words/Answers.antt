-- `index::has_words` meets its contract. Assumes nothing.
use Rattle.index.proofs.Words.{words_then, words_else}
use Rattle.index.proofs.has_words.Goals as goal

pub returns-then-word-a : goal.returns-then-word-a
returns-then-word-a c = let a = c.args in words_then a.table.now a.i a.a a.b _ c.word.ensures.0 _ c.word-then-word-a.ensures.0 c.if-word-a.true

pub returns-else-word-a : goal.returns-else-word-a
returns-else-word-a c = let a = c.args in words_else a.table.now a.i a.a a.b _ c.word.ensures.0 c.if-word-a.false
