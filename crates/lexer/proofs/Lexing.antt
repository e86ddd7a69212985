-- Laws of the loop over a text. Assumes nothing.
use Prim.Native.Nat.{ℕ, zero, suc, ◌+◌, ◌*◌, ◌≤◌, ◌<◌}
use mathlib.Core.Path.{◌≡◌, refl, sym, ap, ◌∙◌}
use mathlib.Core.Bool.{Bool, true, false, cond, not}
use mathlib.Core.List.{List, [], ◌∷◌, ◌++◌, append_assoc, append-nil}
use mathlib.Core.Option.{Option, none, some}
use native.Mathlib.Omega.{arith}
use native.Mathlib.Numerals.{add-one}
use lib.ListN.{length, get_or, take, drop, set, length-set, drop_of_length-le}
use lib.Seq.{drop-cons, take-suc-set}
use lib.Dec.{ltb}
use borrow.Author.Tests.{lt-ltb, le-ltb, eq-eqb, ne_eqb, not-true, not-false}
use Rattle.grammar.specs.Words.{letter, flush, before, is_sign, separate, lex}
use Rattle.lexer.specs.Code.{name_of, Flushed, Lexes}
use Rattle.std.specs.Prelude as code

-- words before others
unfoldable pub prepend : List ℕ → Option (List ℕ) → Option (List ℕ)
prepend ws none = none
prepend ws (some us) = some (ws ++ us)

prepend_nil : (o : Option (List ℕ)) → o ≡ prepend [] o
unfolding prepend
prepend_nil none = refl
prepend_nil (some ws) = refl

prepend_flush : (ws : List ℕ) (k w : ℕ) (o : Option (List ℕ)) → prepend ws (flush k w o) ≡ prepend (ws ++ name_of k w) o
unfolding prepend flush name_of
prepend_flush ws zero w none = refl
prepend_flush ws (suc k) w none = refl
prepend_flush ws zero w (some us) = ap (λ (l : List ℕ). some (l ++ us)) (sym (append-nil ws))
prepend_flush ws (suc k) w (some us) = ap some (sym (append_assoc ws (w ∷ []) us))

prepend_before : (ws : List ℕ) (b : ℕ) (o : Option (List ℕ)) → prepend ws (before b o) ≡ prepend (ws ++ (b ∷ [])) o
unfolding prepend before
prepend_before ws b none = refl
prepend_before ws b (some us) = ap some (sym (append_assoc ws (b ∷ []) us))

-- numbers below 256 to the k
unfoldable pub top : ℕ → ℕ
top zero = 1
top (suc k) = top k * 256

pub top_small : (k : ℕ) → k < 8 → top k ≤ 72057594037927936
unfolding top
top_small zero h = omega arith
top_small (suc zero) h = omega arith
top_small (suc (suc zero)) h = omega arith
top_small (suc (suc (suc zero))) h = omega arith
top_small (suc (suc (suc (suc zero)))) h = omega arith
top_small (suc (suc (suc (suc (suc zero))))) h = omega arith
top_small (suc (suc (suc (suc (suc (suc zero)))))) h = omega arith
top_small (suc (suc (suc (suc (suc (suc (suc zero))))))) h = omega arith
top_small (suc (suc (suc (suc (suc (suc (suc (suc k)))))))) h = absurd (omega arith)

pub top_more : (k w b : ℕ) → w < top k → b < 256 → w * 256 + b < top (k + 1)
unfolding top
top_more k w b h g = rw add-one (omega arith)

pub record Lexing (text words₀ words : List ℕ) (i n k w : ℕ) : Type 0 where
  pub leads : lex 0 0 text ≡ prepend (take n words) (lex k w (drop i text))
  pub within : i ≤ length text
  pub few : n + k ≤ i
  pub letters : k ≤ 8
  pub below : w < top k
  pub same : length words ≡ length words₀

pub lexing_start : (text words : List ℕ) → Lexing text words words 0 0 0 0
unfolding top
lexing_start text words =
    record { leads = prepend_nil (lex 0 0 text); within = omega arith; few = omega arith; letters = omega arith; below = omega arith; same = refl }

module _ (text words₀ words : List ℕ) (i n k w : ℕ) (v : Lexing text words₀ words i n k w) where
  module _ (h : i < length text) where
    unfolded : lex k w (drop i text)
        ≡ cond (letter (get_or text i 0)) (cond (ltb k 8) (lex (suc k) (w * 256 + get_or text i 0) (drop (i + 1) text)) none) (flush k w (separate (get_or text i 0) (lex 0 0 (drop (i + 1) text))))
    unfolding lex
    unfolded =
        ap (lex k w) (drop-cons text i 0 h)
        ∙ ap (λ (j : ℕ). cond (letter (get_or text i 0)) (cond (ltb k 8) (lex (suc k) (w * 256 + get_or text i 0) (drop j text)) none) (flush k w (separate (get_or text i 0) (lex 0 0 (drop j text))))) (sym (add-one i))

    pub lexing_long : true ≡ letter (get_or text i 0) → k ≡ 8 → lex 0 0 text ≡ none
    unfolding prepend
    lexing_long l e =
        let z : lex k w (drop i text) ≡ none = unfolded ∙ rw (← l, le-ltb k 8 (omega arith)) in
        v.leads ∙ ap (prepend (take n words)) z

    pub lexing_letter : true ≡ letter (get_or text i 0) → (k ≡ 8 → ⊥) → get_or text i 0 < 256 → Lexing text words₀ words (i + 1) n (k + 1) (w * 256 + get_or text i 0)
    lexing_letter l e b =
        let c : k < 8 = omega (arith, v.letters) in
        record {
          leads = v.leads ∙ ap (prepend (take n words)) (unfolded ∙ rw (← l, lt-ltb k 8 c, ← add-one k));
          within = omega arith;
          few = omega (arith, v.few);
          letters = omega arith;
          below = top_more k w (get_or text i 0) v.below b;
          same = v.same;
        }

    module _ (l : false ≡ letter (get_or text i 0)) (m : ℕ) (ws : List ℕ) (s : length ws ≡ length words) (f : Flushed words n k w m ws) where
      flushed : lex 0 0 text ≡ prepend (take m ws) (separate (get_or text i 0) (lex 0 0 (drop (i + 1) text)))
      flushed =
          v.leads ∙ ap (prepend (take n words)) (unfolded ∙ rw (← l))
          ∙ prepend_flush (take n words) k w (separate (get_or text i 0) (lex 0 0 (drop (i + 1) text)))
          ∙ ap (λ (x : List ℕ). prepend x (separate (get_or text i 0) (lex 0 0 (drop (i + 1) text)))) (sym f.front)

      pub lexing_space : get_or text i 0 ≡ 32 → Lexing text words₀ ws (i + 1) m 0 0
      unfolding separate top
      lexing_space e = record {
        leads = flushed ∙ rw (eq-eqb (get_or text i 0) 32 e);
        within = omega arith;
        few = omega (arith, v.few, f.most);
        letters = omega arith;
        below = omega arith;
        same = s ∙ v.same;
      }

      module _ (e : get_or text i 0 ≡ 32 → ⊥) (b : Bool) (q : b ≡ is_sign (get_or text i 0)) where
        pub lexing_broken : not b ≡ true → lex 0 0 text ≡ none
        unfolding separate prepend
        lexing_broken z = flushed ∙ rw (ne_eqb (get_or text i 0) 32 e, ← q, not-true b z)

        pub lexing_sign : not b ≡ false → m < length ws → Lexing text words₀ (set ws m (get_or text i 0)) (i + 1) (m + 1) 0 0
        unfolding separate top
        lexing_sign z r = let y : take (m + 1) (set ws m (get_or text i 0)) ≡ take m ws ++ (get_or text i 0 ∷ []) = rw (add-one, take-suc-set ws m (get_or text i 0) r) in record {
          leads =
              flushed ∙ rw (ne_eqb (get_or text i 0) 32 e, ← q, not-false b z)
              (prepend_before (take m ws) (get_or text i 0) (lex 0 0 (drop (i + 1) text)))
              ∙ ap (λ (x : List ℕ). prepend x (lex 0 0 (drop (i + 1) text))) (sym y);
          within = omega arith;
          few = omega (arith, v.few, f.most);
          letters = omega arith;
          below = omega arith;
          same = simp length-set (s ∙ v.same);
        }

  pub lexing_done : length text ≤ i → (m : ℕ) (ws : List ℕ) → length ws ≡ length words → Flushed words n k w m ws
      → Lexes (lex 0 0 text) (length text) ws (code.Some m)
  unfolding Lexes lex prepend
  lexing_done h m ws s f = (
    v.leads ∙ ap (λ (x : List ℕ). prepend (take n words) (lex k w x)) (drop_of_length-le text h)
        ∙ prepend_flush (take n words) k w (some [])
        ∙ ap some (append-nil (take n words ++ name_of k w) ∙ sym f.front),
    omega (arith, v.few, v.within, f.most),
    omega (arith, f.inside),
  )

pub flushed_none : (l : List ℕ) (n k w : ℕ) → k ≡ 0 → n + k ≤ length l → Flushed l n k w n l
unfolding name_of
flushed_none l n k w e h = rw e (record { front = sym (append-nil (take n l)); least = omega arith; most = omega arith; inside = omega arith })

pub flushed_name : (l : List ℕ) (n k w : ℕ) → (k ≡ 0 → ⊥) → n + k ≤ length l → Flushed l n k w (n + 1) (set l n w)
unfolding name_of
flushed_name l n zero w e h = absurd (e refl)
flushed_name l n (suc k) w e h = record { front = rw (add-one, take-suc-set l n w (omega arith)); least = omega arith; most = omega arith; inside = omega arith }

pub lexes_broken : (o : Option (List ℕ)) (n : ℕ) (ws : List ℕ) → o ≡ none → Lexes o n ws code.None
unfolding Lexes
lexes_broken o n ws e = e

-- what the loop over a text cites
pub ruleset steps = (lexing_long, lexing_broken, lexing_done, lexes_broken, top_small)
