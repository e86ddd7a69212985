-- `text_reader::read_text` meets its contract: words, and none. Assumes nothing.
use native.Mathlib.Omega.{arith}
use mathlib.Core.Path.{◌≡◌, sym}
use lib.Seq.{length-take-le}
use Rattle.std.specs.Prelude.{Some, None, Err}
use Rattle.table.specs.declared.Refusal.TheVariants.{RuleText}
use Rattle.text_reader.proofs.Giving.{text_broken, text_read, text_words, lexed_words, lexed_broken}
use Rattle.text_reader.proofs.read_text.Goals as goal

pub returns-in_err-n : goal.returns-in_err-n
returns-in_err-n c =
    let r : c.from_residual.result ≡ Err RuleText = grind arith in
    let o : c.lex.result ≡ None = grind arith in
    rw r (text_broken _ _ c.requires.few (lexed_broken _ _ _ _ c.lex.ensures o))

pub slice_bounds-read_words-end : goal.slice_bounds-read_words-end
slice_bounds-read_words-end c =
    let s : c.lex.result ≡ Some c.in_ok-n.n = grind arith in
    (lexed_words _ _ _ _ _ c.lex.ensures s).2

pub slice_bounds-read_words-end-2 : goal.slice_bounds-read_words-end-2
slice_bounds-read_words-end-2 c =
    let s : c.lex.result ≡ Some c.in_ok-n.n = grind arith in
    sym (length-take-le _ _ (lexed_words _ _ _ _ _ c.lex.ensures s).2)

pub read_words-requires : goal.read_words-requires
read_words-requires c =
    let s : c.lex.result ≡ Some c.in_ok-n.n = grind arith in
    let q = lexed_words _ _ _ _ _ c.lex.ensures s in
    text_words _ _ _ _ _ _ c.requires q.1 q.2

pub returns : goal.returns
returns c =
    let s : c.lex.result ≡ Some c.in_ok-n.n = grind arith in
    let q = lexed_words _ _ _ _ _ c.lex.ensures s in
    text_read _ _ _ c.requires.few q.0 c.read_words.ensures
