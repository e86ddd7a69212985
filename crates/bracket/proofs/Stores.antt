-- Laws of runs of stores. Assumes nothing.
use Prim.Native.Nat.{ℕ, suc, ◌+◌, ◌<◌, ◌≤◌}
use mathlib.Core.Path.{◌≡◌, refl, sym, ap, ap₂, ◌∙◌}
use mathlib.Core.List.{List, [], ◌∷◌, ◌++◌, append_assoc}
use native.Mathlib.Nat.{add-zero, add-suc, suc-add}
use native.Mathlib.Omega.{arith}
use lib.ListN.{length, drop, take, set, length-append, length-drop}
use lib.Seq.{paste, sets, sets-eq, set_comm, take-set-le, drop-set-lt, drop_at, length-take-le}
use Rattle.std.proofs.lemmas.List.Edits.{paste_all}
use Rattle.bracket.specs.Words.{Holds, Written}

-- two runs, the second written after the first, or before it
sets_more : (xs ys l : List ℕ) (q : ℕ) → sets (sets l q xs) (q + length xs) ys ≡ sets l q (xs ++ ys)
sets_more [] ys l q = ap (λ (k : ℕ). sets l k ys) (add-zero q)
sets_more (x ∷ xs) ys l q =
    ap (λ (k : ℕ). sets (sets (set l q x) (suc q) xs) k ys) (add-suc q (length xs) ∙ sym (suc-add q (length xs))) ∙ sets_more xs ys (set l q x) (suc q)

pub written_more : {d d₁ d₂ xs ys : List ℕ} {q e r : ℕ} → Written d q xs e d₁ → Written d₁ e ys r d₂ → Written d q (xs ++ ys) r d₂
written_more {d} {xs = xs} {ys = ys} {q = q} i j =
    record {
      end = omega (arith, i.end, j.end, length-append xs ys);
      stored = j.stored ∙ ap₂ (λ (l : List ℕ) (n : ℕ). sets l n ys) i.stored i.end ∙ sets_more xs ys d q;
    }

set_sets : (ys l : List ℕ) (i q x : ℕ) → i < q → set (sets l q ys) i x ≡ sets (set l i x) q ys
set_sets [] l i q x h = refl
set_sets (y ∷ ys) l i q x h = set_sets ys (set l q y) i (suc q) x (omega arith) ∙ ap (λ (m : List ℕ). sets m (suc q) ys) (set_comm l q i y x (λ e. omega arith))

sets_sets : (xs ys l : List ℕ) (i q : ℕ) → i + length xs ≤ q → sets (sets l q ys) i xs ≡ sets (sets l i xs) q ys
sets_sets [] ys l i q h = refl
sets_sets (x ∷ xs) ys l i q h = ap (λ (m : List ℕ). sets m (suc i) xs) (set_sets ys l i q x (omega arith)) ∙ sets_sets xs ys (set l i x) (suc i) q (omega arith)

pub sets_before : (xs ys l : List ℕ) (q k : ℕ) → k ≡ q + length xs → sets (sets l k ys) q xs ≡ sets l q (xs ++ ys)
sets_before xs ys l q k e = sets_sets xs ys l q k (omega arith) ∙ ap (λ (i : ℕ). sets (sets l q xs) i ys) e ∙ sets_more xs ys l q

pub take_sets : (xs l : List ℕ) (q k : ℕ) → k ≤ q → take k (sets l q xs) ≡ take k l
take_sets [] l q k h = refl
take_sets (x ∷ xs) l q k h = take_sets xs (set l q x) (suc q) k (omega arith) ∙ take-set-le k l q x h

drop_sets : (xs l : List ℕ) (q k : ℕ) → q + length xs ≤ k → drop k (sets l q xs) ≡ drop k l
drop_sets [] l q k h = refl
drop_sets (x ∷ xs) l q k h = drop_sets xs (set l q x) (suc q) k (omega arith) ∙ drop-set-lt k l q x (omega arith)

-- what was stored stands there
pub stored : (xs l : List ℕ) (q : ℕ) → q + length xs ≤ length l → Holds (sets l q xs) q xs
unfolding Holds
stored xs l q h =
    ap (drop q) (sets-eq xs l q h ∙ append_assoc (take q l) xs _) ∙ drop_at (take q l) _ q (length-take-le q l (omega arith))
    ∙ ap (λ (r : List ℕ). xs ++ r) (sym (drop_sets xs l q (q + length xs) (omega arith)))

-- words copied into a list, and a part of the list copied
pub pasted : (xs s : List ℕ) (q n : ℕ) → n ≡ length xs → q + n ≤ length s → paste s q xs n ≡ sets s q xs
pasted xs s q n e h = paste_all s q xs n e ∙ ap (λ (k : ℕ). take q s ++ (xs ++ drop (q + k) s)) e ∙ sym (append_assoc (take q s) xs _) ∙ sym (sets-eq xs s q (omega arith))

pub copied : (s : List ℕ) (from n at : ℕ) → from + n ≤ length s → at + n ≤ length s → paste s at (drop from s) n ≡ sets s at (take n (drop from s))
copied s from n at f h =
    let xs : List ℕ = take n (drop from s) in
    let len : length xs ≡ n = length-take-le n (drop from s) (omega (arith, length-drop from s)) in
    sym (sets-eq xs s at (omega arith) ∙ ap (λ (k : ℕ). (take at s ++ xs) ++ drop (at + k) s) len)
