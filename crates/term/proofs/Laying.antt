-- What the first word of a tree's run says of the tree, and what laying it out comes to. Assumes nothing.
use Prim.Native.Nat.{ℕ, ◌+◌, ◌/◌}
use mathlib.Core.Path.{◌≡◌, refl, sym, ◌∙◌}
use mathlib.Core.List.{List, ◌++◌}
use native.Mathlib.Omega.{arith}
use lib.ListN.{length, get_or}
use Rattle.std.specs.Prelude.{Option as Optional, Some, None}
use Rattle.calculus.specs.Tree.{Tree, leaf, stem, fork}
use Rattle.calculus.specs.Abstraction.{term}
use Rattle.table.specs.Nodes.{Placed, Making, make, and_then, lay}
use Rattle.table.specs.declared.Made.{Made}
use Rattle.table.specs.Claims.{Unbroken}
use Rattle.table.proofs.Making.{stem_words, fork_words, lay_places, then_got, then_full}
use Rattle.index.specs.Index.{Ready}
use Rattle.index.specs.Code.{got_by, ReadyGot}
use Rattle.bracket.specs.Words.{words, Holds}
use Rattle.bracket.proofs.Standing.{left, right, head, tail, moved}

module _ (s : List ℕ) (p : ℕ) where
  pub is_leaf : (t : Tree) → Holds s p (words (term t)) → get_or s p 0 ≡ 0 → t ≡ leaf
  unfolding words term
  is_leaf leaf h e = refl
  is_leaf (stem t) h e = absurd (omega (arith, head s p _ _ h))
  is_leaf (fork a b) h e = absurd (omega (arith, head s p _ _ h))

  pub record IsStem (t : Tree) : Type 0 where
    pub branch : Tree
    pub same : t ≡ stem branch
    pub only : Holds s (p + 2) (words (term branch))

  pub is_stem_lem : (t : Tree) → Holds s p (words (term t)) → get_or s p 0 ≡ 2 → IsStem t
  unfolding words term
  is_stem_lem leaf h e = absurd (omega (arith, head s p _ _ h))
  is_stem_lem (stem a) h e =
      record { branch = a; same = refl; only = moved s _ (tail s (p + 1) 0 _ (tail s p 2 _ h)) (omega arith) }
  is_stem_lem (fork a b) h e = absurd (omega (arith, head s p _ _ h))

  pub record IsFork (t : Tree) : Type 0 where
    pub branch : Tree
    pub further : Tree
    pub same : t ≡ fork branch further
    pub half : p + 1 + get_or s p 0 / 2 ≡ p + 3 + length (words (term branch))
    pub first : Holds s (p + 3) (words (term branch))
    pub second : Holds s (p + 1 + get_or s p 0 / 2) (words (term further))

  pub is_fork : (t : Tree) → Holds s p (words (term t)) → (get_or s p 0 ≡ 0 → ⊥) → (get_or s p 0 ≡ 2 → ⊥) → IsFork t
  unfolding words term
  is_fork leaf h n o = absurd (n (head s p _ _ h))
  is_fork (stem a) h n o = absurd (o (head s p _ _ h))
  is_fork (fork a b) h n o =
      let x : List ℕ = words (term a) in
      let y : List ℕ = words (term b) in
      let e = head s p _ _ h in
      let g : Holds s (p + 3) (x ++ y) = moved s _ (tail s (p + 1 + 1) 0 _ (tail s (p + 1) 2 _ (tail s p _ _ h))) (omega arith) in
      let f : p + 1 + get_or s p 0 / 2 ≡ p + 3 + length x = omega arith in
      record {
        branch = a;
        further = b;
        same = refl;
        half = f;
        first = left s (p + 3) x y g;
        second = moved s y (right s (p + 3) x y g) (sym f);
      }

-- where a node has no place, nothing is to say of the index, and else the table is ready
pub full_ready : (d : List ℕ) (o : ℕ) (ix : List ℕ) → ReadyGot None d o ix
unfolding ReadyGot
full_ready d o ix = tt

pub next_ready : (m : Made) (d : List ℕ) (o : ℕ) (ix : List ℕ) → ReadyGot (Some m) d o ix → Ready d m.used o ix
unfolding ReadyGot
next_ready m d o ix x = x

-- what wanting a node above branches that are laid out asks: the table is ready, and they are in use
module _ {d : List ℕ} {n o : ℕ} {i₀ : List ℕ} (f : Ready d n o i₀) where
  pub stem_next : (a : Tree) (m : Made) (d₁ i₁ : List ℕ) → got_by (Some m) d₁ ≡ lay (record { words = d; used = n }) a → ReadyGot (Some m) d₁ o i₁
      → Ready d₁ m.used o i₁ × Unbroken m.used (m.node + 1) 0
  unfolding got_by ReadyGot
  stem_next a m d₁ i₁ e x = (x, stem_words (lay_places f.fine a (sym e)).inside)

  pub fork_next : (a b : Tree) (m k : Made) (d₁ d₂ i₂ : List ℕ) → got_by (Some m) d₁ ≡ lay (record { words = d; used = n }) b
      → got_by (Some k) d₂ ≡ lay (record { words = d₁; used = m.used }) a → ReadyGot (Some k) d₂ o i₂
      → Ready d₂ k.used o i₂ × Unbroken k.used (k.node + 1) (m.node + 1)
  unfolding got_by ReadyGot
  fork_next a b m k d₁ d₂ i₂ e g x =
      let p = lay_places f.fine b (sym e) in
      let q = lay_places p.fine a (sym g) in
      (x, fork_words q.inside (omega (arith, p.inside, q.extends.kept.up)))

-- the next step after a tree is laid out, or has no place
module _ (d : List ℕ) {x : Making} (next : Placed → Making) where
  stops : got_by None d ≡ x → got_by None d ≡ and_then x next
  unfolding got_by
  stops e = sym (then_full next (sym e))

  goes_on : {m : Made} → got_by (Some m) d ≡ x → {y : Making} → y ≡ next (record { table = record { words = d; used = m.used }; node = m.node }) → y ≡ and_then x next
  unfolding got_by
  goes_on e g = g ∙ sym (then_got next (sym e))

module _ (s : List ℕ) (p : ℕ) (d : List ℕ) (n : ℕ) (t : Tree) (h : Holds s p (words (term t))) where
  pub lay_leaf : (r : Optional Made) (d₁ : List ℕ) → get_or s p 0 ≡ 0 → got_by r d₁ ≡ make (record { words = d; used = n }) 0 0
      → got_by r d₁ ≡ lay (record { words = d; used = n }) t
  unfolding lay
  lay_leaf r d₁ e q = rw (is_leaf s p t h e) q

  pub stem_stops : (d₁ : List ℕ) → get_or s p 0 ≡ 2
      → ((a : Tree) → Holds s (p + 2) (words (term a)) → got_by None d₁ ≡ lay (record { words = d; used = n }) a)
      → got_by None d₁ ≡ lay (record { words = d; used = n }) t
  unfolding lay
  stem_stops d₁ e A =
      let k = is_stem_lem s p t h e in
      rw k.same (stops d₁ (λ o. make o.table (o.node + 1) 0) (A k.branch k.only))

  pub lay_stem : (m : Made) (d₁ : List ℕ) → get_or s p 0 ≡ 2
      → ((a : Tree) → Holds s (p + 2) (words (term a)) → got_by (Some m) d₁ ≡ lay (record { words = d; used = n }) a)
      → (r : Optional Made) (d₂ : List ℕ) → got_by r d₂ ≡ make (record { words = d₁; used = m.used }) (m.node + 1) 0
      → got_by r d₂ ≡ lay (record { words = d; used = n }) t
  unfolding lay
  lay_stem m d₁ e A r d₂ g =
      let k = is_stem_lem s p t h e in
      rw k.same (goes_on d₁ (λ o. make o.table (o.node + 1) 0) (A k.branch k.only) g)

  module _ (z : get_or s p 0 ≡ 0 → ⊥) (e : get_or s p 0 ≡ 2 → ⊥) where
    pub second_stops : (d₁ : List ℕ) → ((b : Tree) → Holds s (p + 1 + get_or s p 0 / 2) (words (term b)) → got_by None d₁ ≡ lay (record { words = d; used = n }) b)
        → got_by None d₁ ≡ lay (record { words = d; used = n }) t
    unfolding lay
    second_stops d₁ B =
        let f = is_fork s p t h z e in
        rw f.same
        (stops d₁ (λ o. and_then (lay o.table f.branch) (λ y. make y.table (y.node + 1) (o.node + 1))) (B f.further f.second))

    module _ (m : Made) (d₁ : List ℕ) (B : (b : Tree) → Holds s (p + 1 + get_or s p 0 / 2) (words (term b)) → got_by (Some m) d₁ ≡ lay (record { words = d; used = n }) b) where
      pub first_stops : (d₂ : List ℕ) → ((a : Tree) → Holds s (p + 3) (words (term a)) → got_by None d₂ ≡ lay (record { words = d₁; used = m.used }) a)
          → got_by None d₂ ≡ lay (record { words = d; used = n }) t
      unfolding lay
      first_stops d₂ A =
          let f = is_fork s p t h z e in
          rw f.same
          (goes_on d₁ (λ o. and_then (lay o.table f.branch) (λ y. make y.table (y.node + 1) (o.node + 1))) (B f.further f.second)
          (stops d₂ (λ y. make y.table (y.node + 1) (m.node + 1)) (A f.branch f.first)))

      pub lay_fork : (k : Made) (d₂ : List ℕ) → ((a : Tree) → Holds s (p + 3) (words (term a)) → got_by (Some k) d₂ ≡ lay (record { words = d₁; used = m.used }) a)
          → (r : Optional Made) (d₃ : List ℕ) → got_by r d₃ ≡ make (record { words = d₂; used = k.used }) (k.node + 1) (m.node + 1)
          → got_by r d₃ ≡ lay (record { words = d; used = n }) t
      unfolding lay
      lay_fork k d₂ A r d₃ o =
          let f = is_fork s p t h z e in
          rw f.same
          (goes_on d₁ (λ y. and_then (lay y.table f.branch) (λ c. make c.table (c.node + 1) (y.node + 1))) (B f.further f.second)
          (goes_on d₂ (λ y. make y.table (y.node + 1) (m.node + 1)) (A f.branch f.first) o))
