-- Laws of the index: one entry more, and what a search has seen. Assumes nothing.
use Prim.Native.Nat.{ℕ, ◌+◌, ◌-◌, ◌*◌, ◌≤◌, ◌<◌}
use mathlib.Core.Path.{◌≡◌, refl, sym, ◌∙◌, subst}
use mathlib.Core.Bool.{Bool, true, false}
use mathlib.Core.List.{List}
use mathlib.Core.Option.{none, some}
use native.Mathlib.Omega.{arith}
use lib.ListN.{length, get_or, set}
use lib.Seq.{get_or-set_same, get_or-set_other}
use lib.Bits.{and_le_l, and_le_r}
use lib.Dec.{eqb, ltb}
use borrow.Author.Tests.{eqb-true, eqb-false, ltb-true, ltb-false}
use Rattle.table.specs.Nodes.{first, second, has_words, find}
use Rattle.table.proofs.Words.{told_apart, sound_node, find_none, find_has, same_first, same_second, has_words_lem}
use Rattle.index.specs.Index.{home, Reached, Indexed, Ready, Vacant}
use Rattle.index.specs.Code.{Sought}
use Rattle.index.specs.declared.Found.{Found}
use Rattle.index.specs.declared.Found.TheVariants.{Node, Place}

-- an index with one entry more
pub set_run : (l : List ℕ) (p v k : ℕ) → get_or l p 0 ≡ 0 → (get_or l k 0 ≡ 0 → ⊥) → get_or (set l p v) k 0 ≡ 0 → ⊥
set_run l p v k free h e =
    let q : get_or (set l p v) k 0 ≡ get_or l k 0 = get_or-set_other l p k v 0 (λ c. h (rw c free)) in
    h (omega arith)

-- Setting an empty entry keeps every node that was reached.
keeps : (w z : List ℕ) (s : ℕ) (ix : List ℕ) (p v i : ℕ) → get_or ix p 0 ≡ 0 → 0 < i → first z i ≡ first w i → second z i ≡ second w i → Reached w s ix i → Reached z s (set ix p v) i
keeps w z s ix p v i free o f g r =
    record {
      place = r.place;
      from = rw (f, g) r.from;
      holds = get_or-set_other ix p r.place v 0 (λ e. other e) ∙ r.holds;
      run = rw (f, g) (λ k l m. set_run ix p v k free (r.run k l m));
    }
  where
    other : r.place ≡ p → ⊥
    other e = let q : get_or ix r.place 0 ≡ 0 = rw e free in omega (arith, r.holds)

pub indexed_more : (w z : List ℕ) (u s : ℕ) (ix : List ℕ) (a b p : ℕ) → Indexed w u s ix → Vacant u s ix a b p → p < length ix
    → ((i : ℕ) → i < u → first z i ≡ first w i) → ((i : ℕ) → i < u → second z i ≡ second w i) → first z u ≡ a → second z u ≡ b
    → Indexed z (u + 1) s (set ix p u)
indexed_more w z u s ix a b p x v h f g fa gb =
    record {
      each = λ i o l. each i o l (eqb i u) refl;
      inside = λ k n. inside k n (eqb k p) refl;
      low = λ k n. low k n (eqb k p) refl;
    }
  where
    each : (i : ℕ) → 0 < i → i < u + 1 → (y : Bool) → eqb i u ≡ y → Reached z s (set ix p u) i
    each i o l true y =
        let e : i ≡ u = eqb-true i u y in
        rw e
        (record {
          place = p;
          from = rw (fa, gb) v.from;
          holds = get_or-set_same ix p u 0 h;
          run = rw (fa, gb) (λ k m n. set_run ix p u k v.free (v.run k m n));
        })
    each i o l false y =
        let n : (i ≡ u → ⊥) = eqb-false i u y in
        let m : i < u = omega arith in
        keeps w z s ix p u i v.free o (f i m) (g i m) (x.each i o m)

    inside : (k : ℕ) → (get_or (set ix p u) k 0 ≡ 0 → ⊥) → (y : Bool) → eqb k p ≡ y → get_or (set ix p u) k 0 < u + 1
    inside k n true y =
        let q : get_or (set ix p u) k 0 ≡ u = rw (eqb-true k p y) (get_or-set_same ix p u 0 h) in
        omega arith
    inside k n false y =
        let q : get_or (set ix p u) k 0 ≡ get_or ix k 0 = get_or-set_other ix p k u 0 (eqb-false k p y) in
        omega (arith, x.inside k (λ e. n (q ∙ e)))

    low : (k : ℕ) → (get_or (set ix p u) k 0 ≡ 0 → ⊥) → (y : Bool) → eqb k p ≡ y → k + 1 < s + (u + 1)
    low k n true y = omega (arith, eqb-true k p y, v.below)
    low k n false y =
        let q : get_or (set ix p u) k 0 ≡ get_or ix k 0 = get_or-set_other ix p k u 0 (eqb-false k p y) in
        omega (arith, x.low k (λ e. n (q ∙ e)))

-- What a search has seen of the entries from the home of a and b up to `at`; and `at` is in the index.
pub record Passed (w : List ℕ) (u s : ℕ) (ix : List ℕ) (a b at : ℕ) : Type 0 where
  pub below : at < s + u
  pub from : home a b s ≤ at
  pub full : (k : ℕ) → home a b s ≤ k → k < at → get_or ix k 0 ≡ 0 → ⊥
  pub other : (k : ℕ) → home a b s ≤ k → k < at → has_words w (get_or ix k 0) a b ≡ false

pub passed_none : (w : List ℕ) (u s : ℕ) (ix : List ℕ) (a b at : ℕ) → at ≡ home a b s → at < s → Passed w u s ix a b at
passed_none w u s ix a b at e h =
    record { below = omega arith; from = omega arith; full = λ k l m q. omega arith; other = λ k l m. absurd (omega arith) }

pub passed_more : (w : List ℕ) (u s : ℕ) (ix : List ℕ) (a b at : ℕ) → Indexed w u s ix → Passed w u s ix a b at → (get_or ix at 0 ≡ 0 → ⊥) → has_words w (get_or ix at 0) a b ≡ false → Passed w u s ix a b (at + 1)
passed_more w u s ix a b at i x n d =
    record {
      below = i.low at n;
      from = omega (arith, x.from);
      full = λ k l m. full k l m (eqb k at) refl;
      other = λ k l m. other k l m (eqb k at) refl;
    }
  where
    full : (k : ℕ) → home a b s ≤ k → k < at + 1 → (y : Bool) → eqb k at ≡ y → get_or ix k 0 ≡ 0 → ⊥
    full k l m true y = rw (eqb-true k at y) n
    full k l m false y = let o : (k ≡ at → ⊥) = eqb-false k at y in x.full k l (omega arith)

    other : (k : ℕ) → home a b s ≤ k → k < at + 1 → (y : Bool) → eqb k at ≡ y → has_words w (get_or ix k 0) a b ≡ false
    other k l m true y = rw (eqb-true k at y) d
    other k l m false y = let o : (k ≡ at → ⊥) = eqb-false k at y in x.other k l (omega arith)

-- An empty entry is met: no node has the words, which are not the leaf's.
pub none_met : (w : List ℕ) (u s : ℕ) (ix : List ℕ) (a b at : ℕ) → Ready w u s ix → (a ≡ 0 → ⊥) → Passed w u s ix a b at → get_or ix at 0 ≡ 0 → find w u a b ≡ none
none_met w u s ix a b at x n d free = find_none w u a b (λ i l p q. has i l p q (eqb i 0) refl)
  where
    -- it would stand before, at, or after this entry
    ask : (i : ℕ) (r : Reached w s ix i) → 0 < i → first w i ≡ a → second w i ≡ b → home a b s ≤ r.place → (y z : Bool) → ltb r.place at ≡ y → ltb at r.place ≡ z → ⊥
    ask i r o p q f true z y m = told_apart (rw r.holds (has_words_lem w i a b p q)) (d.other r.place f (ltb-true r.place at y))
    ask i r o p q f false true y m = r.run at (rw (p, q) d.from) (ltb-true at r.place m) free
    ask i r o p q f false false y m =
        let c : r.place ≡ at = omega (arith, ltb-false r.place at y, ltb-false at r.place m) in
        let e : get_or ix r.place 0 ≡ 0 = rw c free in
        omega (arith, r.holds)

    has : (i : ℕ) → i < u → first w i ≡ a → second w i ≡ b → (y : Bool) → eqb i 0 ≡ y → ⊥
    has i l p q true y =
        let e : i ≡ 0 = eqb-true i 0 y in
        let k = sound_node w u i l x.fine.unbroken in
        n (omega (arith, k.first_in))
    has i l p q false y =
        let e : (i ≡ 0 → ⊥) = eqb-false i 0 y in
        let r = x.indexed.each i (omega arith) l in
        ask i r (omega arith) p q (rw (← p, ← q) r.from) (ltb r.place at) (ltb at r.place) refl refl

-- the home of two words
pub home_below : (a b s : ℕ) → 0 < s → home a b s < s
unfolding home
home_below a b s h = omega (arith, and_le_r (a * 2122696415 + b * 735350203) (s - 1))

-- what a search for the leaf answers: its place, where no node is in use, else node 0
pub sought_first : (w : List ℕ) (u s : ℕ) (ix : List ℕ) (a b : ℕ) → Ready w u s ix → a ≡ 0 → b ≡ 0 → u ≡ 0 → Sought w u s ix a b (Place 0)
unfolding Sought find home
sought_first w u s ix a b x d e h =
    let o : home a b s ≡ 0 = rw (d, e) (omega (arith, and_le_l 0 (s - 1))) in
    let free : get_or ix 0 0 ≡ 0 = go (eqb (get_or ix 0 0) 0) refl in
    (rw h refl, record { below = omega (arith, x.some_slots); from = omega arith; free = free; run = λ k l m q. omega arith })
  where
    go : (y : Bool) → eqb (get_or ix 0 0) 0 ≡ y → get_or ix 0 0 ≡ 0
    go true y = eqb-true (get_or ix 0 0) 0 y
    go false y = absurd (omega (arith, x.indexed.inside 0 (eqb-false (get_or ix 0 0) 0 y)))

pub sought_leaf : (w : List ℕ) (u s : ℕ) (ix : List ℕ) (a b : ℕ) → Ready w u s ix → a ≡ 0 → b ≡ 0 → 0 < u → Sought w u s ix a b (Node 0)
unfolding Sought
sought_leaf w u s ix a b x d e h =
    let k = sound_node w u 0 h x.fine.unbroken in
    find_has w u a b 0 x.fine.unbroken h (omega (arith, k.first_in)) (omega (arith, k.second_in))

module _ (w : List ℕ) (u s : ℕ) (ix : List ℕ) (a b at e : ℕ) (q : e ≡ get_or ix at 0) where
  pub passed_entry : Indexed w u s ix → Passed w u s ix a b at → (e ≡ 0 → ⊥) → false ≡ has_words w e a b → Passed w u s ix a b (at + 1)
  passed_entry x d n f = passed_more w u s ix a b at x d (rw q at n) (rw q at (sym f))

  pub sought_place : Ready w u s ix → (a ≡ 0 → ⊥) → Passed w u s ix a b at → e ≡ 0 → Sought w u s ix a b (Place at)
  unfolding Sought
  sought_place x n d z =
      let free : get_or ix at 0 ≡ 0 = sym q ∙ z in
      (none_met w u s ix a b at x n d free, record { below = d.below; from = d.from; free = free; run = d.full })

  pub sought_node : Ready w u s ix → (e ≡ 0 → ⊥) → true ≡ has_words w e a b → Sought w u s ix a b (Node e)
  unfolding Sought
  sought_node x n f =
      find_has w u a b e x.fine.unbroken (rw (← q) at (x.indexed.inside at (rw q at n))) (same_first w e a b (sym f)) (same_second w e a b (sym f))

-- what a caller learns by its match
pub node_sought : (w : List ℕ) (u s : ℕ) (ix : List ℕ) (a b n : ℕ) (r : Found) → Sought w u s ix a b r → r ≡ Node n → find w u a b ≡ some n
unfolding Sought
node_sought w u s ix a b n r x e = subst (Sought w u s ix a b) e x

pub none_sought : (w : List ℕ) (u s : ℕ) (ix : List ℕ) (a b p : ℕ) (r : Found) → Sought w u s ix a b r → r ≡ Place p → find w u a b ≡ none
unfolding Sought
none_sought w u s ix a b p r x e = (subst (Sought w u s ix a b) e x).0

pub place_sought : (w : List ℕ) (u s : ℕ) (ix : List ℕ) (a b p : ℕ) (r : Found) → Sought w u s ix a b r → r ≡ Place p → Vacant u s ix a b p
unfolding Sought
place_sought w u s ix a b p r x e = (subst (Sought w u s ix a b) e x).1
