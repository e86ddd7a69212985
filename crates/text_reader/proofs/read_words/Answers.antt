-- `text_reader::read_words` meets its contract: one expression, and no more. Assumes nothing.
use native.Mathlib.Omega.{arith}
use mathlib.Core.Path.{◌≡◌}
use lib.ListN.{length}
use Rattle.std.specs.Prelude.{Some, None, Err}
use Rattle.table.specs.declared.Refusal.TheVariants.{RuleText}
use Rattle.parser.proofs.Phrases.{told_phrase, told_nothing}
use Rattle.text_reader.proofs.Giving.{words_none, words_more, words_stand, words_given}
use Rattle.text_reader.proofs.read_words.Goals as goal

pub returns-in_err-phrase : goal.returns-in_err-phrase
returns-in_err-phrase c =
    let r : c.from_residual.result ≡ Err RuleText = grind arith in
    let o : c.expression.result ≡ None = grind arith in
    rw r (words_none c.args.words.now c.args.names.now c.args.post.now (length c.args.names.now) (omega arith) (told_nothing _ _ _ _ _ _ c.expression.ensures.0 o) _)

pub returns-then-phrase-words : goal.returns-then-phrase-words
returns-then-phrase-words c =
    let s : c.expression.result ≡ Some c.in_ok-phrase.phrase = grind arith in
    let o = told_phrase _ _ _ _ _ _ c.expression.ensures.0 s in
    words_more c.args.words.now c.args.names.now c.args.post.now (length c.args.names.now) (omega arith) _ _ _ o c.if-phrase-words.true _

pub give-requires : goal.give-requires
give-requires c =
    let s : c.expression.result ≡ Some c.in_ok-phrase.phrase = grind arith in
    let o = told_phrase _ _ _ _ _ _ c.expression.ensures.0 s in
    record { e = o.e; is = words_stand c.args.words.now c.args.names.now c.args.post.now (length c.args.names.now) (omega arith) _ _ _ o c.if-phrase-words.false c.expression.auto.post c.requires.post_few }

pub returns : goal.returns
returns c =
    let s : c.expression.result ≡ Some c.in_ok-phrase.phrase = grind arith in
    let o = told_phrase _ _ _ _ _ _ c.expression.ensures.0 s in
    let g = words_stand c.args.words.now c.args.names.now c.args.post.now (length c.args.names.now) (omega arith) _ _ _ o c.if-phrase-words.false c.expression.auto.post c.requires.post_few in
    words_given c.args.words.now c.args.names.now c.args.post.now (length c.args.names.now) (omega arith) _ _ _ o c.if-phrase-words.false _ (c.give.ensures o.e g)
