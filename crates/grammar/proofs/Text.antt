-- The reader finds the meaning of a text exactly where the grammar allows one, and there is one at most. Assumes nothing.
use Prim.Native.Nat.{ℕ, ◌≤◌, ◌<◌}
use mathlib.Core.Path.{◌≡◌, refl, ap, ◌∙◌}
use mathlib.Core.Logic.{◌↔◌}
use mathlib.Core.Bool.{Bool, true, false, cond}
use mathlib.Core.List.{List, [], ◌∷◌}
use mathlib.Core.Option.{Option, none, some}
use native.Mathlib.Omega.{arith}
use lib.ListN.{length}
use lib.Dec.{leb}
use borrow.Author.Tests.{leb-true, le-leb}
use Rattle.calculus.specs.Term.{ClosedUnder}
use Rattle.grammar.specs.Expression.{Expression}
use Rattle.grammar.specs.Meaning.{term_of, K, I, stem_of_stem, and_tree, or_tree, implies_tree, not_tree}
use Rattle.grammar.specs.Tokens.{Token, Spells}
use Rattle.grammar.specs.Grammar.{Bound, nearest, farther, Level, Reads, the_leaf, the_name, group, abstraction, one_operand, applied, one_application, negated, one_negation, both, one_conjunction, either, one_disjunction, follows, of_text}
use Rattle.grammar.specs.Words.{lex, tokens}
use Rattle.grammar.specs.Reader.{Read, nothing, read, empty, parse}
use Rattle.grammar.specs.Text.{IsText, all_read, of_words, read_text}
use Rattle.grammar.proofs.Complete.{complete}
use Rattle.grammar.proofs.Sound.{sound}
use Rattle.grammar.proofs.Spelled as spelled

abbrev Good : List ℕ → Option Expression → Type 0
Good l none = Unit {0}
Good l (some e) = IsText l e

good_whole : (l ws : List ℕ) → Spells l (tokens ws) → length l ≤ 8192 → (x : Read) → parse 32 [] empty (tokens ws) ≡ x → Good l (all_read x)
unfolding all_read
good_whole l ws s h nothing q = tt
good_whole l ws s h (read e []) q = record { tokens = tokens ws; spelled = s; reads = (sound 32 [] (tokens ws) e [] q).0; short = h }
good_whole l ws s h (read e (t ∷ r)) q = tt

good_words : (l : List ℕ) → length l ≤ 8192 → (o : Option (List ℕ)) → lex 0 0 l ≡ o → Good l (of_words o)
unfolding of_words
good_words l h none q = tt
good_words l h (some ws) q = good_whole l ws (spelled.spelled l ws q) h (parse 32 [] empty (tokens ws)) refl

good : (l : List ℕ) → Good l (read_text l)
unfolding read_text
good l = go (leb (length l) 8192) refl
  where
    go : (z : Bool) → leb (length l) 8192 ≡ z → Good l (cond z (of_words (lex 0 0 l)) none)
    go true e = good_words l (leb-true _ _ e) (lex 0 0 l) refl
    go false e = tt

found : {l : List ℕ} {e : Expression} → IsText l e → read_text l ≡ some e
unfolding read_text of_words all_read
found {l} {e} h =
    let g = spelled.read h.spelled in
    let p = complete h.reads of_text in
    let q : parse 32 [] empty (tokens g.words) ≡ read e [] = ap (parse 32 [] empty) g.tells ∙ p in
    rw (le-leb _ _ h.short, g.found, q)

-- "it is accepted exactly when the grammar, written without the parser, allows it"
pub text_exact : (l : List ℕ) (e : Expression) → (read_text l ≡ some e) ↔ IsText l e
text_exact l e = (λ q. rw q at (good l), found)

-- "Every text has at most one reading"
pub text_unique : {l : List ℕ} {e f : Expression} → IsText l e → IsText l f → e ≡ f
text_unique h g = let x = found h in let y = found g in cc

bound_less : {Γ : List ℕ} {x i : ℕ} → Bound Γ x i → i < length Γ
bound_less nearest = omega arith
bound_less (farther n b) = omega (arith, bound_less b)

-- what is read has no variable from outside
pub closed : {Γ : List ℕ} {d : ℕ} {l : Level} {ts r : List Token} {e : Expression} → Reads Γ d l ts e r → ClosedUnder (length Γ) (term_of e)
unfolding term_of K I stem_of_stem and_tree or_tree implies_tree not_tree
closed the_leaf = tt
closed (the_name b) = bound_less b
closed (group h) = closed h
closed (abstraction h n) = closed h
closed (one_operand h) = closed h
closed (applied h g) = (closed h, closed g)
closed (one_application h) = closed h
closed (negated h) = (search, closed h)
closed (one_negation h) = closed h
closed (both h g) = ((search, closed h), closed g)
closed (one_conjunction h) = closed h
closed (either h g) = ((search, closed h), closed g)
closed (one_disjunction h) = closed h
closed (follows h g) = ((search, closed h), closed g)
