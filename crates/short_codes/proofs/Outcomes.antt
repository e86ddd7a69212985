-- The answers of the two operations, each exactly on its condition. Assumes nothing.
use Prim.Native.Nat.{ℕ, ◌≤◌, ◌<◌}
use mathlib.Core.Path.{◌≡◌, refl, sym, ap, subst, ◌∙◌}
use mathlib.Core.Bool.{Bool, true, false, cond}
use mathlib.Core.List.{List, [], ◌++◌}
use mathlib.Core.Logic.{◌↔◌}
use mathlib.Core.Option.{Option, none, some}
use native.Mathlib.Omega.{arith}
use lib.ListN.{length, get_or, drop}
use lib.Dec.{leb, ltb}
use borrow.Author.Tests.{lt-ltb, le-ltb, ltb-true, ltb-false, leb-true, leb-false}
use Rattle.calculus.specs.Tree.{Tree}
use Rattle.table.specs.Nodes.{tree_at}
use Rattle.table.specs.Outcome.{Outcome, whole_out, into_out, at_entry, unless}
use Rattle.table.specs.Refusal.{given_by, Given, given, not_given, nothing}
use Rattle.table.specs.declared.Refusal.{Refusal}
use Rattle.table.specs.declared.Refusal.TheVariants.{Node, Out}
use Rattle.table.proofs.Entry.{entry_lacks, lacks_entry}
use Rattle.table.proofs.Words.{zero_one}
use Rattle.table.proofs.Wrote.{into_short, into_written}
use Rattle.ternary.specs.Text.{text}
use Rattle.ternary.proofs.OneText.{length_text}
use Rattle.short_codes.specs.Values.{values, numeral}
use Rattle.short_codes.specs.ShortCodes.{code_of, code, code_text}
use Rattle.short_codes.specs.Claims.{IsCode, Coded, CodeTexts}
use Rattle.short_codes.specs.Claims.Coded.{of_entry, not_in_use, too_many, coded}
use Rattle.short_codes.specs.Claims.CodeTexts.{no_code, no_room, written}
use Rattle.short_codes.proofs.Codes.{code_of_exactly, none_exactly, code_below, every_code, code_numeral}

module _ (w : List ℕ) (u v : ℕ) where
  code_case : Coded w u v (code w u v)
  unfolding code given_by
  code_case = go (at_entry true w u []) (ltb v u) (code_of (tree_at w v)) refl refl refl
    where
      go : (o : Option Refusal) (x : Bool) (y : Option ℕ) → at_entry true w u [] ≡ o → ltb v u ≡ x → code_of (tree_at w v) ≡ y → Coded w u v (unless o not_given (cond x (given_by y) (not_given Node)))
      go (some e) x y p q r = of_entry (entry_lacks true w u [] p)
      go none false y p q r = not_in_use p (ltb-false v u q)
      go none true none p q r = too_many (record { entered = p; in_use = ltb-true v u q }) (omega (arith, length_text (tree_at w v), (none_exactly (tree_at w v)).0 r))
      go none true (some c) p q r = coded (record { entered = p; in_use = ltb-true v u q }) ((code_of_exactly (tree_at w v) c).0 r)

  pub code_gives : {a : Given} → Coded w u v a → code w u v ≡ a
  unfolding code given_by
  code_gives (of_entry l) = rw (lacks_entry l)
  code_gives (not_in_use p h) = rw (p, le-ltb v u h)
  code_gives (too_many k h) = rw (k.entered, lt-ltb v u k.in_use, (none_exactly (tree_at w v)).1 (omega (arith, length_text (tree_at w v))))
  code_gives (coded k {c = c} i) = rw (k.entered, lt-ltb v u k.in_use, (code_of_exactly (tree_at w v) c).1 i)

  -- "The library gives the code of a node's tree (after 1, 2 and 3), or none exactly when its text has more than ten digits" ([12])
  pub code_exactly : (a : Given) → (code w u v ≡ a) ↔ Coded w u v a
  code_exactly a = (λ e. subst (Coded w u v) e code_case, code_gives)

module _ (c : ℕ) (out : List ℕ) where
  pub no_code_text : 1374 ≤ c → code_text c out ≡ whole_out nothing [] [] out
  unfolding code_text
  no_code_text h = rw (le-ltb c 1374 h)

  pub code_into : c < 1374 → code_text c out ≡ into_out given not_given (numeral (get_or values c 0)) out
  unfolding code_text
  code_into h = rw (lt-ltb c 1374 h)

  -- the same by the tree whose code it is
  text_of : {t : Tree} → IsCode t c → code_text c out ≡ into_out given not_given (text t) out
  text_of i = code_into (code_below i) ∙ ap (λ (l : List ℕ). into_out given not_given l out) (code_numeral i)

  text_short : {t : Tree} → IsCode t c → length out < length (text t) → code_text c out ≡ whole_out (not_given Out) [] [] out
  text_short {t} i h = text_of i ∙ into_short given not_given (text t) out h

  text_written : {t : Tree} → IsCode t c → length (text t) ≤ length out → code_text c out ≡ whole_out (given (length (text t))) [] [] (text t ++ drop (length (text t)) out)
  text_written {t} i h = text_of i ∙ into_written given not_given (text t) out h

  text_case : CodeTexts c out (code_text c out)
  text_case = go (ltb c 1374) refl
    where
      room : {t : Tree} → IsCode t c → (z : Bool) → leb (length (text t)) (length out) ≡ z → CodeTexts c out (code_text c out)
      room {t} i true p = let k = leb-true (length (text t)) (length out) p in written i k (text_written i k)
      room {t} i false p = let k = leb-false (length (text t)) (length out) p in no_room i k (text_short i k)

      go : (z : Bool) → ltb c 1374 ≡ z → CodeTexts c out (code_text c out)
      go true p = let x = every_code c (ltb-true c 1374 p) in room x.1 (leb (length (text x.0)) (length out)) refl
      go false p = let h = ltb-false c 1374 p in no_code h (no_code_text h)

  -- "a code's text, or none from 1,374 on, then 10 if out is shorter" ([12])
  pub code_text_exactly : (o : Outcome Given) → (code_text c out ≡ o) ↔ CodeTexts c out o
  code_text_exactly o = (λ e. subst (CodeTexts c out) e text_case, only)
    where
      only : CodeTexts c out o → code_text c out ≡ o
      only (no_code h e) = no_code_text h ∙ sym e
      only (no_room i k e) = text_short i k ∙ sym e
      only (written i k e) = text_written i k ∙ sym e

-- The text of a tree's code is the tree's text: what `code` gives of a node is given back as the text of that node's tree, where out has room for it.
pub code_then_text : (w : List ℕ) (u v c : ℕ) (out : List ℕ) → code w u v ≡ given c → length (text (tree_at w v)) ≤ length out
    → code_text c out ≡ whole_out (given (length (text (tree_at w v)))) [] [] (text (tree_at w v) ++ drop (length (text (tree_at w v))) out)
code_then_text w u v c out e h = go ((code_exactly w u v (given c)).0 e) refl
  where
    go : {a : Given} → Coded w u v a → a ≡ given c → code_text c out ≡ whole_out (given (length (text (tree_at w v)))) [] [] (text (tree_at w v) ++ drop (length (text (tree_at w v))) out)
    go (of_entry l) q = zero_one (cc)
    go (not_in_use p k) q = zero_one (cc)
    go (too_many k m) q = zero_one (cc)
    go (coded k {c = d} i) q = let p : d ≡ c = cc in text_written c out (rw p at i) h
