-- The text of a list of digits, written item by item. Assumes nothing.
use Prim.Native.Nat.{ℕ, zero, suc, ◌+◌, ◌≤◌, ◌<◌}
use mathlib.Core.Path.{◌≡◌, refl, sym, ap, subst, ◌∙◌}
use mathlib.Core.List.{List, [], ◌∷◌, ◌++◌, append_assoc, append-nil}
use mathlib.Core.Option.{some}
use native.Mathlib.Omega.{arith}
use native.Mathlib.Numerals.{add-one}
use lib.ListN.{length, get_or, take, set, length-set}
use lib.Seq.{take-suc, take_all}
use Rattle.table.specs.Outcome.{whole, frames}
use Rattle.table.specs.Wrote.{Wrote}
use Rattle.std.specs.Prelude.{Result}
use Rattle.table.specs.declared.Made.{Made}
use Rattle.table.specs.declared.Refusal.{Refusal}
use Rattle.table.proofs.Wrote.{wrote_none, wrote_one, wrote_then}
use Rattle.ternary.specs.Text.{text}
use Rattle.ternary.specs.Read.{read}
use Rattle.weights.specs.Digits.{digit_tree, list_tree}
use Rattle.weights.specs.Weights.{checked_digits}
use Rattle.weights.specs.Claims.{NineDigits}
use Rattle.weights.proofs.Reading.{no_stack, list_as_read}

-- the bytes of d Ks
unfoldable pub ks : ℕ → List ℕ
ks zero = []
ks (suc d) = ks d ++ (50 ∷ 48 ∷ [])

-- and of one before others
k_first : (d : ℕ) → (50 ∷ 48 ∷ ks d) ≡ ks d ++ (50 ∷ 48 ∷ [])
unfolding ks
k_first zero = refl
k_first (suc d) = ap (λ (l : List ℕ). l ++ (50 ∷ 48 ∷ [])) (k_first d)

-- a digit's text is its Ks and the leaf
digit_text : (d : ℕ) → ks d ++ (48 ∷ []) ≡ text (digit_tree d)
unfolding ks text digit_tree
digit_text zero = refl
digit_text (suc d) = ap (λ (l : List ℕ). l ++ (48 ∷ [])) (sym (k_first d)) ∙ ap (λ (l : List ℕ). 50 ∷ 48 ∷ l) (digit_text d)

-- what stands before the end of a list: of each item the digit of its fork, and its text
unfoldable pub items : List ℕ → List ℕ
items [] = []
items (d ∷ l) = (50 ∷ text (digit_tree d)) ++ items l

items_then : (l m : List ℕ) → items (l ++ m) ≡ items l ++ items m
unfolding items
items_then [] m = refl
items_then (d ∷ l) m = rw (items_then l m) (sym (append_assoc (50 ∷ text (digit_tree d)) (items l) (items m)))

list_text : (l : List ℕ) → items l ++ (48 ∷ []) ≡ text (list_tree l)
unfolding items text list_tree
list_text [] = refl
list_text (d ∷ l) = append_assoc (50 ∷ text (digit_tree d)) (items l) (48 ∷ []) ∙ ap (λ (m : List ℕ). 50 ∷ (text (digit_tree d) ++ m)) (list_text l)

-- A write after others. Bytes b were bytes a, and xs are written in them from w to e.
module _ {a b xs : List ℕ} {w e : ℕ} (n : length b ≡ length a) (h : Wrote a w xs e b) where
  -- one byte
  pub one_byte : (c : ℕ) → e < length b → Wrote a w (xs ++ (c ∷ [])) (e + 1) (set b e c)
  one_byte c k = wrote_then a b (set b e c) xs (c ∷ []) w e (e + 1) n h (wrote_one b e c k)

-- K by K: the loop of one item
pub no_k : (a : List ℕ) (w : ℕ) → w ≤ length a → Wrote a w (ks 0) w a
unfolding ks
no_k a w h = wrote_none a w h

module _ {a b : List ℕ} {w e : ℕ} (i : ℕ) (n : length b ≡ length a) (h : Wrote a w (ks i) e b) where
  pub one_k : e + 1 < length b → Wrote a w (ks (i + 1)) (e + 2) (set (set b e 50) (e + 1) 48)
  unfolding ks
  one_k k =
      let x = one_byte n h 50 (omega arith) in
      let y = one_byte (length-set b e 50 ∙ n) x 48 (rw (length-set b e 50) k) in
      let z : e + 1 + 1 ≡ e + 2 = omega arith in
      rw (add-one i)
      (subst (λ (r : ℕ). Wrote a w (ks i ++ (50 ∷ 48 ∷ [])) r (set (set b e 50) (e + 1) 48)) z
      (subst (λ (l : List ℕ). Wrote a w l (e + 1 + 1) (set (set b e 50) (e + 1) 48)) (append_assoc (ks i) (50 ∷ []) (48 ∷ [])) y))

-- the fork's byte, the Ks and the leaf
pub item_ends : (a : List ℕ) (w : ℕ) → w < length a → {b : List ℕ} {e : ℕ} (i : ℕ) → length b ≡ length (set a w 50) → Wrote (set a w 50) (w + 1) (ks i) e b
    → {d : ℕ} → i ≡ d → e < length b → Wrote a w (50 ∷ text (digit_tree d)) (e + 1) (set b e 48)
item_ends a w k {b} {e} i n h {d} q m =
    let x = wrote_then a (set a w 50) b (50 ∷ []) (ks i) w (w + 1) e (length-set a w 50) (wrote_one a w 50 k) h in
    subst (λ (l : List ℕ). Wrote a w (50 ∷ l) (e + 1) (set b e 48)) (ap (λ (j : ℕ). ks j ++ (48 ∷ [])) q ∙ digit_text d) (one_byte (n ∙ length-set a w 50) x 48 m)

-- item by item: the loop of the list
pub list_begins : (a l : List ℕ) → Wrote a 0 (items (take 0 l)) 0 a
unfolding items
list_begins a l = wrote_none a 0 (omega arith)

module _ {a b : List ℕ} (l : List ℕ) {e : ℕ} (i : ℕ) (n : length b ≡ length a) (h : Wrote a 0 (items (take i l)) e b) where
  pub one_item : i < length l → {c : List ℕ} {f : ℕ} → Wrote b e (50 ∷ text (digit_tree (get_or l i 0))) f c → Wrote a 0 (items (take (i + 1) l)) f c
  unfolding items
  one_item k {c} {f} g =
      let q : items (take (i + 1) l) ≡ items (take i l) ++ (50 ∷ text (digit_tree (get_or l i 0))) =
      rw (add-one i, take-suc l i 0 k) (items_then (take i l) (get_or l i 0 ∷ []) ∙ ap (λ (m : List ℕ). items (take i l) ++ m) (append-nil (50 ∷ text (digit_tree (get_or l i 0))))) in
      rw q (wrote_then a b c (items (take i l)) (50 ∷ text (digit_tree (get_or l i 0))) 0 e f n h g)

  pub list_ends : length l ≤ i → e < length b → Wrote a 0 (text (list_tree l)) (e + 1) (set b e 48)
  list_ends k m =
      subst (λ (x : List ℕ). Wrote a 0 x (e + 1) (set b e 48)) (ap (λ (x : List ℕ). items x ++ (48 ∷ [])) (take_all i l k) ∙ list_text l) (one_byte n h 48 m)

-- Read of the bytes that are written lays the list out
pub laid_by_read : (w : List ℕ) (u : ℕ) (s : List ℕ) → length s ≤ 65536 → 3 ≤ frames s → {l : List ℕ} → NineDigits l → {a b : List ℕ} {n : ℕ} → Wrote a 0 (text (list_tree l)) n b
    → {r : Result Made Refusal} {z y : List ℕ} → whole r z y ≡ read w u s (take n b) → whole r z [] ≡ checked_digits w u (some l)
laid_by_read w u s k f n h e = ap no_stack e ∙ ap (λ (t : List ℕ). no_stack (read w u s t)) h.front ∙ list_as_read w u s k f n
