-- Laws of hexadecimal, and that what was written lies within its array. Assumes nothing.
use Prim.Native.Nat.{ℕ, zero, suc, ◌+◌, ◌*◌, ◌/◌, ◌%◌, ◌≤◌, ◌<◌}
use mathlib.Core.Path.{◌≡◌, refl, sym, ap, subst, ◌∙◌}
use mathlib.Core.List.{List, [], ◌∷◌, ◌++◌, append_assoc}
use native.Mathlib.Omega.{arith}
use native.Mathlib.Numerals.{add-one}
use lib.ListN.{length, get_or, take, drop, set, length-append, length-set}
use Rattle.std.proofs.lemmas.List.{take-append-drop}
use lib.Seq.{take-length, take-suc-set, drop-drop, drop-set-lt}
use Rattle.calculus.specs.Bytes.{bytes}
use Rattle.table.specs.Outcome.{Outcome, whole_out}
use Rattle.grammar.specs.Meaning.{term_of}
use Rattle.grammar.specs.Outcome.{Encoded, rule_text}
use Rattle.std.specs.Prelude.{Ok}
use Rattle.grammar.proofs.Exact.{given_bytes_lem}
use Rattle.rule_text.specs.Line.{digit, digits}

-- a byte's two digits, after those of the bytes before it
digits_more : (bytes : List ℕ) (i : ℕ) → i < length bytes
    → digits (take (suc i) bytes) ≡ digits (take i bytes) ++ (digit (get_or bytes i 0 / 16) ∷ (digit (get_or bytes i 0 % 16) ∷ []))
unfolding digits
digits_more [] i h = absurd (omega arith)
digits_more (b ∷ bytes) zero h = refl
digits_more (b ∷ bytes) (suc i) h = ap (λ (l : List ℕ). digit (b / 16) ∷ (digit (b % 16) ∷ l)) (digits_more bytes i (omega arith))

-- the first i bytes are spelled, and nothing else changes
pub record Spelled (bytes line₀ line : List ℕ) (i : ℕ) : Type 0 where
  pub front : take (2 * i) line ≡ digits (take i bytes)
  pub rest : drop (2 * i) line ≡ drop (2 * i) line₀
  pub same : length line ≡ length line₀

pub spelled_none : (bytes line : List ℕ) → Spelled bytes line line 0
unfolding digits
spelled_none bytes line = record { front = refl; rest = refl; same = refl }

pub spelled_more : (bytes line₀ line : List ℕ) (i x y : ℕ) → Spelled bytes line₀ line i → i < length bytes → 2 * i + 1 < length line
    → x ≡ digit (get_or bytes i 0 / 16) → y ≡ digit (get_or bytes i 0 % 16) → Spelled bytes line₀ (set (set line (2 * i) x) (2 * i + 1) y) (i + 1)
spelled_more bytes line₀ line i x y v h l p q =
    let e : 2 * (i + 1) ≡ suc (2 * i + 1) = omega arith in
    let f : 2 * i + 1 ≡ suc (2 * i) = omega arith in
    let g : 2 * i + 2 ≡ 2 * (i + 1) = omega arith in
    let a : 2 * i + 1 < length (set line (2 * i) x) = simp length-set l in
    let one : take (2 * i + 1) (set line (2 * i) x) ≡ take (2 * i) line ++ (x ∷ []) = rw f (take-suc-set line (2 * i) x (omega arith)) in
    record {
      front =
          ap (λ (n : ℕ). take n (set (set line (2 * i) x) (2 * i + 1) y)) e ∙ take-suc-set (set line (2 * i) x) (2 * i + 1) y a
          ∙ rw (one, v.front, append_assoc, p, q, add-one) (sym (digits_more bytes i h));
      rest =
          drop-set-lt (2 * (i + 1)) (set line (2 * i) x) (2 * i + 1) y (omega arith) ∙ drop-set-lt (2 * (i + 1)) line (2 * i) x (omega arith)
          ∙ ap (λ (n : ℕ). drop n line) (sym g) ∙ sym (drop-drop 2 (2 * i) line) ∙ ap (drop 2) v.rest ∙ drop-drop 2 (2 * i) line₀ ∙ ap (λ (n : ℕ). drop n line₀) g;
      same = simp length-set v.same;
    }

-- all bytes
pub spelled_all : (bytes line₀ line : List ℕ) (i : ℕ) → i ≡ length bytes → Spelled bytes line₀ line i → line ≡ digits bytes ++ drop (2 * length bytes) line₀
spelled_all bytes line₀ line i e v =
    let w : Spelled bytes line₀ line (length bytes) = subst (λ (n : ℕ). Spelled bytes line₀ line n) e v in
    sym (take-append-drop (2 * length bytes) line) ∙ rw (w.front, w.rest, take-length bytes)

-- the bytes of a rule lie within the array that they were written to
pub bytes_within : (text out : List ℕ) {a : Encoded} {x : List ℕ} {n : ℕ} → whole_out a [] [] x ≡ rule_text text out → a ≡ Ok n → (n ≤ length x) × (n ≤ 4096)
bytes_within text out {a} {x} {n} e q =
    let g = given_bytes_lem text out n (ap (λ (o : Outcome Encoded). o.answer) (sym e) ∙ q) in
    let f = ap length (ap (λ (o : Outcome Encoded). o.out) (e ∙ g.given)) in (
      omega (arith, g.counted, f, length-append (bytes (term_of g.reading)) (drop (length (bytes (term_of g.reading))) out)),
      omega (arith, g.counted, g.is_rule.short),
    )
