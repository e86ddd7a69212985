-- Laws of writing a tree digit by digit, one for each way that its code goes. Assumes nothing.
use Prim.Native.Nat.{ℕ, suc, ◌+◌, ◌-◌, ◌*◌, ◌≤◌, ◌<◌}
use mathlib.Core.Path.{◌≡◌, refl, sym, ap, ◌∙◌, subst}
use mathlib.Core.Bool.{Bool, true, false, cond}
use mathlib.Core.List.{List, [], ◌∷◌, append_assoc}
use native.Mathlib.Omega.{arith}
use lib.ListN.{length, get_or, set, length-set}
use lib.Seq.{get_or-set_same, get_or-set_other}
use lib.Dec.{leb}
use borrow.Author.Tests.{leb-true, leb-false, lt-ltb, le-ltb, ne_eqb}
use Rattle.calculus.specs.Tree.{Tree, leaf, stem, fork}
use Rattle.table.specs.Nodes.{first, second, tree_at}
use Rattle.table.specs.Outcome.{frames}
use Rattle.table.specs.declared.Refusal.{Refusal}
use Rattle.table.specs.declared.Refusal.TheVariants.{Out, Frames}
use Rattle.table.proofs.Words.{sound_node}
use Rattle.table.proofs.Trees.{tree_leaf, tree_stem, tree_fork}
use Rattle.ternary.specs.Text.{text}
use Rattle.ternary.specs.Write.{Room, left, lacks, next, spend, digits}
use Rattle.writer.specs.declared.Walk.{Walk}
use Rattle.writer.specs.declared.Digit.{Digit}
use Rattle.ternary.specs.Text.{texts}
use Rattle.std.specs.Prelude.{Some, Result, Ok, Err}
use Rattle.writer.specs.Code.{Stepped, digit_with, leaf_digit, fork_digit, HoldsTrees, Stands, StandsAt, rest_of, DigitSays}

-- ---- the digits of trees one after another

-- two stretches of digits after a third
next_next : (f g : ℕ → Room) (r : Room) → next f (next g r) ≡ next (λ n. next f (g n)) r
unfolding next
next_next f g (left n) = refl
next_next f g (lacks e) = refl

pub rest_out : (all : ℕ) (x : Tree) (xs : List Tree) → rest_of all (x ∷ xs) 0 ≡ lacks Out
unfolding rest_of digits spend next
rest_out all leaf xs = refl
rest_out all (stem p) xs = refl
rest_out all (fork p q) xs = refl

rest_leaf : (all n : ℕ) (xs : List Tree) → rest_of all (leaf ∷ xs) (suc n) ≡ rest_of all xs n
unfolding rest_of digits spend next
rest_leaf all n xs = refl

rest_stem : (all n : ℕ) (p : Tree) (xs : List Tree) → rest_of all (stem p ∷ xs) (suc n) ≡ rest_of all (p ∷ xs) n
unfolding rest_of digits spend next
rest_stem all n p xs = refl

rest_fork : (all n : ℕ) (p q : Tree) (xs : List Tree) → length xs < all → rest_of all (fork p q ∷ xs) (suc n) ≡ rest_of all (p ∷ (q ∷ xs)) n
unfolding rest_of digits spend
rest_fork all n p q xs h = rw (lt-ltb (length xs) all h) (next_next (rest_of all xs) (digits all (length xs) q) (digits all (suc (length xs)) p n))

rest_full : (all n : ℕ) (p q : Tree) (xs : List Tree) → all ≤ length xs → rest_of all (fork p q ∷ xs) (suc n) ≡ lacks Frames
unfolding rest_of digits spend next
rest_full all n p q xs h = rw (le-ltb (length xs) all h)

-- one tree alone
next_left : (r : Room) → next left r ≡ r
unfolding next
next_left (left n) = refl
next_left (lacks e) = refl

pub rest_one : (all : ℕ) (x : Tree) (n : ℕ) → rest_of all (x ∷ []) n ≡ digits all 0 x n
unfolding rest_of
rest_one all x n = next_left (digits all 0 x n)

-- ---- the frames that hold second branches

holds_set : (w : List ℕ) (u : ℕ) (s : List ℕ) (xs : List Tree) (k v : ℕ) → length xs ≤ k → HoldsTrees w u s xs → HoldsTrees w u (set s (k * 3) v) xs
unfolding HoldsTrees
holds_set w u s [] k v h o = tt
holds_set w u s (x ∷ xs) k v h o =
    let e : get_or (set s (k * 3) v) (length xs * 3) 0 ≡ get_or s (length xs * 3) 0 = get_or-set_other s (k * 3) (length xs * 3) v 0 (λ q. omega arith) in
    rw e (o.0, o.1, holds_set w u s xs k v (omega arith) o.2)

-- ---- what each digit says

module _ {w : List ℕ} {u : ℕ} {s : List ℕ} {k : Walk} {x : Tree} {xs : List Tree} (o : Stands w u s k x xs) where
  pub is_leaf : first w k.at ≡ 0 → {d : Digit} → d ≡ leaf_digit s k.held → DigitSays w u s s x xs (Ok d)
  unfolding DigitSays StandsAt HoldsTrees texts text
  is_leaf e {d} q = rw (q, sym o.tree ∙ tree_leaf w u k.at o.fine.unbroken o.inside e, o.held_is) (go xs o.holds o.held_is)
    where
      go : (ys : List Tree) → HoldsTrees w u s ys → k.held ≡ length ys → DigitSays w u s s leaf ys (Ok (leaf_digit s (length ys)))
      go [] r l = ([], refl, (λ n. rest_leaf (frames s) n []), refl)
      go (y ∷ ys) r l =
          let m : suc (length ys) - 1 ≡ length ys = omega arith in
          rw (ne_eqb (suc (length ys)) 0 (λ (z : suc (length ys) ≡ 0). omega arith), m) (
            y ∷ ys,
            (y, ys, refl, record { fine = o.fine; inside = r.0; tree = r.1; held_is = refl; holds = r.2; frames_held = omega (arith, o.frames_held) }),
            (λ n. rest_leaf (frames s) n (y ∷ ys)),
            refl,
          )

  module _ (n : first w k.at ≡ 0 → ⊥) where
    -- the first branch
    branch : first w k.at - 1 + 1 ≡ first w k.at
    branch = omega (arith, n)

    branch_in : first w k.at - 1 < u
    branch_in = omega (arith, (sound_node w u k.at o.inside o.fine.unbroken).first_in, o.inside)

    pub is_stem_lem : second w k.at ≡ 0
        → DigitSays w u s s x xs (Ok (record { value = 49; next = Some (record { at = first w k.at - 1; held = k.held }) }))
    unfolding DigitSays StandsAt texts text
    is_stem_lem e =
        let p = tree_at w (first w k.at - 1) in
        rw (sym o.tree ∙ tree_stem w u k.at o.fine.unbroken o.inside (first w k.at - 1) (sym branch) e) (
          p ∷ xs,
          (p, xs, refl, record { fine = o.fine; inside = branch_in; tree = refl; held_is = o.held_is; holds = o.holds; frames_held = o.frames_held }),
          (λ n. rest_stem (frames s) n p xs),
          refl,
        )

    module _ (m : second w k.at ≡ 0 → ⊥) where
      is_tree : x ≡ fork (tree_at w (first w k.at - 1)) (tree_at w (second w k.at - 1))
      is_tree =
          sym o.tree
          ∙ tree_fork w u k.at o.fine.unbroken o.inside (first w k.at - 1) (second w k.at - 1) (sym branch) (omega (arith, m))

      -- no frame, or one more held
      is_full : frames s ≤ k.held → DigitSays w u s s x xs (Err Frames)
      unfolding DigitSays
      is_full g = rw is_tree (λ n. rest_full (frames s) n _ _ xs (omega (arith, o.held_is)))

      is_held : k.held < frames s
          → DigitSays w u s (set s (k.held * 3) (second w k.at - 1)) x xs
          (Ok (record { value = 50; next = Some (record { at = first w k.at - 1; held = k.held + 1 }) }))
      unfolding DigitSays StandsAt HoldsTrees texts text
      is_held g =
          let p = tree_at w (first w k.at - 1) in
          let r = tree_at w (second w k.at - 1) in
          let b = second w k.at - 1 in
          let z : List ℕ = set s (k.held * 3) b in
          let e : get_or z (length xs * 3) 0 ≡ b = ap (λ (i : ℕ). get_or z (i * 3) 0) (sym o.held_is) ∙ get_or-set_same s (k.held * 3) b 0 (omega arith) in
          let i : b < u = omega (arith, (sound_node w u k.at o.inside o.fine.unbroken).second_in, o.inside, m) in
          rw is_tree (
            p ∷ (r ∷ xs),
            (
              p,
              r ∷ xs,
              refl,
              record {
                fine = o.fine;
                inside = branch_in;
                tree = refl;
                held_is = omega (arith, o.held_is);
                holds = (rw e i, ap (tree_at w) e, holds_set w u s xs k.held b (omega (arith, o.held_is)) o.holds);
                frames_held = omega (arith, length-set s (k.held * 3) b);
              },
            ),
            (λ n. rest_fork (frames s) n p r xs (omega (arith, o.held_is))),
            ap (λ (l : List ℕ). 50 ∷ l) (append_assoc (text p) (text r) (texts xs)),
          )

      pub is_fork : {d : Result Digit Refusal} {z : List ℕ} → digit_with d z ≡ fork_digit s k.held (first w k.at - 1) (second w k.at - 1) → DigitSays w u s z x xs d
      is_fork {d} {z} q = subst (λ (y : Stepped). DigitSays w u s y.stack x xs y.digit) (sym q) (go (leb (frames s) k.held) refl)
        where
          go : (b : Bool) → leb (frames s) k.held ≡ b
              → let y = cond b (digit_with (Err Frames) s)
              (digit_with (Ok (record { value = 50; next = Some (record { at = first w k.at - 1; held = k.held + 1 }) })) (set s (k.held * 3) (second w k.at - 1))) in
              DigitSays w u s y.stack x xs y.digit
          go true b = is_full (leb-true (frames s) k.held b)
          go false b = is_held (leb-false (frames s) k.held b)
