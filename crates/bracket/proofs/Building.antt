-- What building a term's words gives, by the term's first byte. Assumes nothing.
use Prim.Native.Nat.{ℕ, ◌+◌, ◌*◌, ◌-◌, ◌<◌, ◌≤◌}
use mathlib.Core.Path.{◌≡◌, refl, ap, ◌∙◌}
use mathlib.Core.List.{List, [], ◌∷◌, ◌++◌}
use native.Mathlib.Omega.{arith}
use lib.ListN.{length, get_or, set, take, drop, length-append, length-set}
use lib.Seq.{paste, sets, length-sets, take-set-le}
use Rattle.calculus.specs.Term.{Term, leaf, var}
use Rattle.calculus.specs.Bytes.{bytes}
use Rattle.calculus.specs.Abstraction.{Combination, bracket, translate}
use Rattle.calculus.proofs.Size.{width_pos, bracket_width}
use Rattle.bracket.specs.Words.{words, Holds, Written, run, BuildAt, Builds}
use Rattle.bracket.proofs.Standing.{part, moved, joined, behind, fewer, kept}
use Rattle.bracket.proofs.Stores.{take_sets, stored, copied}
use Rattle.bracket.proofs.Runs.{words_pos, words_width}
use Rattle.bracket.proofs.Terms.{IsApp, IsAbs, is_leaf, is_app, is_abs, is_var}

pub run_pos : (t : Term) → 1 ≤ length (run t)
run_pos t = words_pos (translate t)

-- the parts of an application take a word less than the whole
pub app_run : {b : List ℕ} {at : ℕ} {t : Term} (k : IsApp b at t) → length (run t) ≡ 1 + length (run k.function) + length (run k.argument)
unfolding translate words
app_run k = ap (λ (t : Term). length (run t)) k.is ∙ omega (arith, length-append (run k.function) (run k.argument))

-- an abstraction's words are no fewer than its body's
pub abs_run : {b : List ℕ} {at : ℕ} {t : Term} (k : IsAbs b at t)
    → (length (run k.body) ≤ length (run t)) × (length (run t) ≡ length (words (bracket (translate k.body))))
unfolding translate
abs_run {t = t} k =
    let c = translate k.body in
    let e : length (run t) ≡ length (words (bracket c)) = ap (λ (t : Term). length (run t)) k.is in
    (omega (arith, words_width c, words_width (bracket c), bracket_width c, width_pos c), e)

-- a body ends before q where its abstraction does
pub body_apart : {b : List ℕ} {at : ℕ} {t : Term} (k : IsAbs b at t) (w q : ℕ) → w + length (run t) ≤ q → w + length (run k.body) ≤ q
body_apart k w q l = omega (arith, (abs_run k).0)

-- where an application's function part is built, its words end at e, from where the argument's have room
pub function_end : {b : List ℕ} {at : ℕ} {s : List ℕ} {w q n e : ℕ} {s₁ : List ℕ} (p : BuildAt b at s w q) → get_or b at 0 ≡ 1
    → ((f : Term) → Holds b (at + 1) (bytes f) → Builds (at + 1) (w + 1) f n e s s₁) → (w + 1 ≤ e) × (e ≤ q) × (q ≤ 65536)
function_end p one F =
    let k = is_app _ _ _ p.stands one in
    let f = F k.function k.first in
    (omega (arith, f.ends), omega (arith, f.ends, p.room, app_run k), omega (arith, p.space, p.short))

-- where an abstraction's body is built and abstracted, the words from q to e have room in its place
pub abstraction_end : {b : List ℕ} {at : ℕ} {s : List ℕ} {w q n₁ e₁ e : ℕ} {s₁ s₂ : List ℕ} (p : BuildAt b at s w q) → get_or b at 0 ≡ 2
    → ((a : Term) → Holds b (at + 1) (bytes a) → Builds (at + 1) w a n₁ e₁ s s₁)
    → ((c : Combination) → Holds s₁ w (words c) → w + length (words c) ≤ q → Written s₁ q (words (bracket c)) e s₂)
    → (q ≤ e) × (e ≤ length s₂) × (w + (e - q) ≤ length s₂)
abstraction_end {w = w} {q = q} {s₁ = s₁} p two B C =
    let k = is_abs _ _ _ p.stands two in
    let a = B k.body k.inner in
    let r = C (translate k.body) a.stands (body_apart k w q p.room) in
    let x : List ℕ = words (bracket (translate k.body)) in
    let m = (abs_run k).1 in
    let same = ap length r.stored ∙ length-sets s₁ q x ∙ a.same_length in
    (omega (arith, r.end), omega (arith, r.end, m, p.space, same), omega (arith, r.end, m, p.room, p.space, same))

-- a leaf and a variable are one word
one_word : (at : ℕ) (s : List ℕ) (w : ℕ) (t : Term) (x n : ℕ) → run t ≡ x ∷ [] → n ≡ at + length (bytes t) → w < length s
    → Builds at w t n (w + 1) s (set s w x)
one_word at s w t x n e r l =
    record {
      read = r;
      ends = omega (arith, ap length e);
      stands = rw e (stored (x ∷ []) s w (omega arith));
      before = take-set-le w s w x (omega arith);
      same_length = length-set s w x;
    }

module _ (b : List ℕ) (at : ℕ) (s : List ℕ) (w : ℕ) (t : Term) (h : Holds b at (bytes t)) where
  pub build_leaf : w < length s → get_or b at 0 ≡ 0 → Builds at w t (at + 1) (w + 1) s (set s w 0)
  unfolding bytes translate words
  build_leaf l e = rw (is_leaf b at t h e) (one_word at s w leaf 0 (at + 1) refl refl l)

  pub build_var : w < length s → (get_or b at 0 ≡ 0 → ⊥) → (get_or b at 0 ≡ 1 → ⊥) → (get_or b at 0 ≡ 2 → ⊥)
      → Builds at w t (at + 2) (w + 1) s (set s w (2 * get_or b (at + 1) 0 + 1))
  unfolding bytes translate words
  build_var l x y z = rw (is_var b at t h x y z).is (one_word at s w (var (get_or b (at + 1) 0)) _ (at + 2) refl refl l)

  -- the function part's words are written first, then the word before them, which says how many they are, then the argument's
  pub build_app : (n₁ e₁ n₂ e₂ : ℕ) (s₁ s₂ : List ℕ) → w < length s → get_or b at 0 ≡ 1
      → ((f : Term) → Holds b (at + 1) (bytes f) → Builds (at + 1) (w + 1) f n₁ e₁ s s₁)
      → ((a : Term) → Holds b n₁ (bytes a) → Builds n₁ e₁ a n₂ e₂ (set s₁ w (2 * (e₁ - w - 1))) s₂)
      → Builds at w t n₂ e₂ s s₂
  unfolding bytes translate words
  build_app n₁ e₁ n₂ e₂ s₁ s₂ l e F A =
      let k = is_app b at t h e in
      let f = F k.function k.first in
      let a = A k.argument (rw f.read k.second) in
      let x : List ℕ = run k.function in
      let y : List ℕ = run k.argument in
      let m : ℕ = 2 * (e₁ - w - 1) in
      let z : m ≡ 2 * length x = omega (arith, f.ends) in
      let v : List ℕ = set s₁ w m in
      let word : Holds v w (m ∷ []) = stored (m ∷ []) s₁ w (omega (arith, f.same_length)) in
      let both : Holds v w (m ∷ x) = joined v (m ∷ []) x w word (behind s₁ x (w + 1) w m (omega arith) f.stands) in
      let i : e₁ ≡ w + length (m ∷ x) = omega (arith, f.ends) in
      let all : Holds s₂ w (m ∷ (x ++ y)) =
      joined s₂ (m ∷ x) y w (kept v s₂ (m ∷ x) w e₁ a.before (omega arith) both) (moved s₂ y a.stands i) in
      rw k.is
      (record {
        read = omega (arith, f.read, a.read, length-append (bytes k.function) (bytes k.argument));
        ends = omega (arith, f.ends, a.ends, length-append x y);
        stands = rw (← z) all;
        before = fewer v s₂ w e₁ (omega arith) a.before ∙ take-set-le w s₁ w m (omega arith) ∙ fewer s s₁ w (w + 1) (omega arith) f.before;
        same_length = a.same_length ∙ length-set s₁ w m ∙ f.same_length;
      })

  -- the body's words are abstracted from q on, and the abstraction is copied over them
  pub build_abs : (q n₁ e₁ e₂ : ℕ) (s₁ s₂ s₃ : List ℕ) → w + length (run t) ≤ q → q + length (run t) ≤ length s → get_or b at 0 ≡ 2
      → ((a : Term) → Holds b (at + 1) (bytes a) → Builds (at + 1) w a n₁ e₁ s s₁)
      → ((c : Combination) → Holds s₁ w (words c) → w + length (words c) ≤ q → Written s₁ q (words (bracket c)) e₂ s₂)
      → s₃ ≡ paste s₂ w (drop q s₂) (e₂ - q)
      → Builds at w t n₁ (w + (e₂ - q)) s s₃
  unfolding bytes translate
  build_abs q n₁ e₁ e₂ s₁ s₂ s₃ room space e B C M =
      let k = is_abs b at t h e in
      let m = abs_run k in
      let a = B k.body k.inner in
      let c : Combination = translate k.body in
      let x : List ℕ = words (bracket c) in
      let r = C c a.stands (omega arith) in
      let there : Holds s₂ q x = rw r.stored (stored x s₁ q (omega (arith, a.same_length))) in
      let same : length s₂ ≡ length s = ap length r.stored ∙ length-sets s₁ q x ∙ a.same_length in
      let z : s₃ ≡ sets s₂ w x = M ∙ copied s₂ q (e₂ - q) w (omega (arith, r.end, same)) (omega (arith, r.end, same)) ∙ ap (sets s₂ w) (part s₂ x q (e₂ - q) there (omega (arith, r.end))) in
      rw k.is
      (record {
        read = omega (arith, a.read);
        ends = omega (arith, r.end);
        stands = rw z (stored x s₂ w (omega arith));
        before = ap (take w) z ∙ take_sets x s₂ w w (omega arith) ∙ ap (take w) r.stored ∙ take_sets x s₁ q w (omega arith) ∙ a.before;
        same_length = ap length z ∙ length-sets s₂ w x ∙ same;
      })
