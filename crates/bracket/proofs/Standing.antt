-- Laws of what stands in a list from an index on. Assumes nothing.
use Prim.Native.Nat.{ℕ, ◌+◌, ◌<◌, ◌≤◌}
use mathlib.Core.Path.{◌≡◌, refl, sym, ap, ap₂, subst, ◌∙◌}
use mathlib.Core.List.{List, [], ◌∷◌, ◌++◌, append_assoc}
use native.Mathlib.Nat.{add-zero, add_assoc}
use native.Mathlib.Omega.{arith}
use lib.ListN.{length, drop, take, set, get_or, length-append, length-drop, take-append-drop}
use lib.Seq.{drop-drop, take-take, get_or-drop, drop-set-lt, drop-append_seam, take-append_seam}
use Rattle.std.proofs.lemmas.List.{drop-take}
use Rattle.bracket.specs.Words.{Holds}

module _ (s : List ℕ) (p : ℕ) where
  -- the first part of a run, and the second
  pub left : (xs ys : List ℕ) → Holds s p (xs ++ ys) → Holds s p xs
  unfolding Holds
  left xs ys h =
      h ∙ append_assoc xs ys _
      ∙ ap (λ (l : List ℕ). xs ++ l) (sym (drop-append_seam xs _) ∙ ap (drop (length xs)) (sym (append_assoc xs ys _) ∙ sym h) ∙ drop-drop (length xs) p s)

  pub right : (xs ys : List ℕ) → Holds s p (xs ++ ys) → Holds s (p + length xs) ys
  unfolding Holds
  right xs ys h =
      sym (drop-drop (length xs) p s) ∙ ap (drop (length xs)) (h ∙ append_assoc xs ys _) ∙ drop-append_seam xs _
      ∙ ap (λ (k : ℕ). ys ++ drop k s) (ap (λ (k : ℕ). p + k) (length-append xs ys) ∙ sym (add_assoc p _ _))

  -- a run with a word in it lies inside the list, which has that word first
  pub inside : (x : ℕ) (xs : List ℕ) → Holds s p (x ∷ xs) → p + length (x ∷ xs) ≤ length s
  unfolding Holds
  inside x xs h =
      omega (arith, ap length h, length-drop p s, length-append (x ∷ xs) (drop (p + length (x ∷ xs)) s), length-drop (p + length (x ∷ xs)) s)

  pub head : (x : ℕ) (xs : List ℕ) → Holds s p (x ∷ xs) → get_or s p 0 ≡ x
  unfolding Holds
  head x xs h = ap (λ (k : ℕ). get_or s k 0) (sym (add-zero p)) ∙ sym (get_or-drop p s 0 0) ∙ ap (λ (l : List ℕ). get_or l 0 0) h

  pub tail : (x : ℕ) (xs : List ℕ) → Holds s p (x ∷ xs) → Holds s (p + 1) xs
  unfolding Holds
  tail x xs h = right (x ∷ []) xs h

pub moved : (s xs : List ℕ) {a b : ℕ} → Holds s a xs → a ≡ b → Holds s b xs
moved s xs h e = subst (λ (k : ℕ). Holds s k xs) e h

-- the part of a list in which a run stands is the run, and where it is read it stands
pub part : (s xs : List ℕ) (p n : ℕ) → Holds s p xs → length xs ≡ n → take n (drop p s) ≡ xs
unfolding Holds
part s xs p n h e = ap₂ (λ (k : ℕ) (l : List ℕ). take k l) (sym e) h ∙ take-append_seam xs _

read_there : (s xs : List ℕ) (p : ℕ) → take (length xs) (drop p s) ≡ xs → Holds s p xs
unfolding Holds
read_there s xs p e = sym (take-append-drop (length xs) (drop p s)) ∙ ap₂ (λ (l m : List ℕ). l ++ m) e (drop-drop (length xs) p s)

-- two runs, one after the other
pub joined : (s xs ys : List ℕ) (p : ℕ) → Holds s p xs → Holds s (p + length xs) ys → Holds s p (xs ++ ys)
unfolding Holds
joined s xs ys p h g =
    h ∙ ap (λ (l : List ℕ). xs ++ l) g ∙ sym (append_assoc xs ys _)
    ∙ ap (λ (k : ℕ). (xs ++ ys) ++ drop k s) (add_assoc p _ _ ∙ ap (λ (k : ℕ). p + k) (sym (length-append xs ys)))

-- a word stored before a run leaves it as it is
pub behind : (s xs : List ℕ) (p i x : ℕ) → i < p → Holds s p xs → Holds (set s i x) p xs
unfolding Holds
behind s xs p i x l h = drop-set-lt p s i x l ∙ h ∙ ap (λ (m : List ℕ). xs ++ m) (sym (drop-set-lt (p + length xs) s i x (omega arith)))

-- lists with the same words before e have the same words before w
pub fewer : (s s' : List ℕ) (w e : ℕ) → w ≤ e → take e s' ≡ take e s → take w s' ≡ take w s
fewer s s' w e l h = sym (take-take w e s' l) ∙ ap (take w) h ∙ take-take w e s l

-- a run that ends before e stands in every list with the same words before e
pub kept : (s s' xs : List ℕ) (p e : ℕ) → take e s' ≡ take e s → p + length xs ≤ e → Holds s p xs → Holds s' p xs
kept s s' xs p e h l g =
    let n : ℕ = length xs in
    read_there s' xs p (sym (drop-take p n s') ∙ ap (drop p) (fewer s s' (p + n) e l h) ∙ drop-take p n s ∙ part s xs p n g refl)
