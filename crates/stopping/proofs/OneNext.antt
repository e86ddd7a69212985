-- After so many uses an application has one next use at most, and so has a run. Assumes nothing.
use Prim.Native.Nat.{ℕ, zero, suc, ◌+◌, ◌-◌, ◌≤◌, ◌<◌}
use mathlib.Core.Path.{◌≡◌, refl, sym, ap, ◌∙◌}
use mathlib.Core.List.{List, ◌∷◌, ◌++◌}
use mathlib.Core.Logic.{◌⊎◌, inl, inr}
use native.Mathlib.Omega.{arith}
use lib.ListN.{length}
use Rattle.calculus.specs.Tree.{Tree, leaf, stem, fork}
use Rattle.calculus.specs.declared.Uses.{Uses}
use Rattle.calculus.specs.Uses.{no_uses, one_spread, one_triage, ◌⊕◌, steps}
use Rattle.calculus.specs.Rules.{Apply, by_leaf, by_stem, by_drop, by_spread, by_triage, ApplyAll, at_end, and_next}
use Rattle.calculus.proofs.Counts.{none_uses, uses_assoc}
use Rattle.calculus.proofs.Unique.{apply_unique}
use Rattle.applying.proofs.Leads.{uses_some}
use Rattle.stopping.specs.declared.Kind.{Kind}
use Rattle.stopping.specs.Next.{rule_of, Next, at_first, spread_first, spread_second, spread_third, triage_first, triage_second, NextAll}

-- the steps of uses, as one number
count : Uses → ℕ
count k = steps k

plus : (a b : Uses) → count (a ⊕ b) ≡ count a + count b
unfolding count
plus a b = omega arith

-- k are fewer uses than a, and as many as j
record Fewer (k a : Uses) : Type 0 where
  fewer : count k < count a

record Level (k j : Uses) : Type 0 where
  level : count k ≡ count j

-- uses within an application that come before it is completed
less : (o : Uses) {k a : Uses} → Fewer k a → (b : Uses) → Fewer (o ⊕ k) (o ⊕ a ⊕ b)
less o {k} {a} h b = record { fewer = rw (plus o k, plus (o ⊕ a) b, plus o a) (omega (arith, h.fewer)) }

less_last : (o : Uses) {k a : Uses} → Fewer k a → Fewer (o ⊕ k) (o ⊕ a)
less_last o {k} {a} h = record { fewer = rw (plus o k, plus o a) (omega (arith, h.fewer)) }

longer : {k o : Uses} → Fewer k o → (b : Uses) → Fewer k (o ⊕ b)
longer {k} {o} h b = record { fewer = rw (plus o b) (omega (arith, h.fewer)) }

some_use : {f n r : Tree} {k : Uses} → Apply f n r k → Fewer no_uses k
unfolding count
some_use x = record { fewer = uses_some x }

-- a use that comes next comes before the application is completed
next_fewer : {f N v : Tree} {a k : Uses} {r : Kind} → Next f N k r → Apply f N v a → Fewer k a
next_fewer at_first x = some_use x
next_fewer (spread_first x) (by_spread {a = a} {b = b} {c = c} p q s) = longer (less one_spread (next_fewer x p) b) c
next_fewer (spread_second {k = k} p x) (by_spread {a = a} {b = b} {c = c} p' q s) = rw (apply_unique p p').1 (less (one_spread ⊕ a) (next_fewer x q) c)
next_fewer (spread_third p q x) (by_spread {a = a} {b = b} {c = c} p' q' s) =
    let i = apply_unique p p' in
    let j = apply_unique q q' in
    rw (i.1, j.1) (less_last (one_spread ⊕ a ⊕ b) (next_fewer x (rw (← i.0, ← j.0) at s)))
next_fewer (triage_first x) (by_triage {a = a} {b = b} p q) = less one_triage (next_fewer x p) b
next_fewer (triage_second p x) (by_triage {a = a} p' q) =
    let i = apply_unique p p' in
    rw i.1 (less_last (one_triage ⊕ a) (next_fewer x (rw (← i.0) at q)))

-- "Each use is one step": so many steps are fewer than the application's
pub next_less : {f N v : Tree} {a k : Uses} {r : Kind} → Next f N k r → Apply f N v a → steps k < steps a
unfolding count
next_less x y = (next_fewer x y).fewer

after_none : {k a : Uses} → Fewer k a → Fewer (no_uses ⊕ k) a
after_none {k} {a} h = rw (none_uses k) h

-- fewer uses are not as many
not_same : {A : Type 0} {k a : Uses} → Fewer k a → Level k a → A
not_same h e = absurd (omega (arith, h.fewer, e.level))

turned : {k j : Uses} → Level k j → Level j k
turned e = record { level = sym e.level }

same_left : (o : Uses) {k j : Uses} → Level (o ⊕ k) (o ⊕ j) → Level k j
same_left o {k} {j} e = record { level = omega (arith, plus o k, plus o j, e.level) }

-- the first use of spread and of triage
spread_taken : (k : Uses) → Fewer no_uses (one_spread ⊕ k)
unfolding count
spread_taken k = record { fewer = omega arith }

triage_taken : (k : Uses) → Fewer no_uses (one_triage ⊕ k)
unfolding count
triage_taken k = record { fewer = omega arith }

-- the same number of uses leads to the same uses and the same next rule
level_unique : {f N : Tree} {k j : Uses} {r c : Kind} → Next f N k r → Next f N j c → Level k j → (k ≡ j) × (r ≡ c)
level_unique at_first at_first e = (refl, refl)
level_unique at_first (spread_first {k = k} y) e = not_same (spread_taken k) e
level_unique at_first (spread_second {a = a} {k = k} p y) e = not_same (longer (spread_taken a) k) e
level_unique at_first (spread_third {a = a} {b = b} {k = k} p q y) e = not_same (longer (longer (spread_taken a) b) k) e
level_unique at_first (triage_first {k = k} y) e = not_same (triage_taken k) e
level_unique at_first (triage_second {a = a} {k = k} p y) e = not_same (longer (triage_taken a) k) e
level_unique (spread_first {k = k} x) at_first e = not_same (spread_taken k) (turned e)
level_unique (spread_first x) (spread_first y) e = let s = level_unique x y (same_left one_spread e) in (ap (λ (z : Uses). one_spread ⊕ z) s.0, s.1)
level_unique (spread_first x) (spread_second {k = j} p y) e = not_same (less one_spread (next_fewer x p) j) e
level_unique (spread_first x) (spread_third {b = b} {k = j} p q y) e = not_same (longer (less one_spread (next_fewer x p) b) j) e
level_unique (spread_second {a = a} {k = k} p x) at_first e = not_same (longer (spread_taken a) k) (turned e)
level_unique (spread_second {k = j} p x) (spread_first y) e = not_same (less one_spread (next_fewer y p) j) (turned e)
level_unique (spread_second {k = k} p x) (spread_second {a = a} p' y) e =
    let i = (apply_unique p p').1 in
    let s = level_unique x y (same_left (one_spread ⊕ a) (rw i at e)) in
    (rw (i, s.0), s.1)
level_unique (spread_second p x) (spread_third {a = a} {k = j} p' q y) e =
    not_same (less (one_spread ⊕ a) (next_fewer x q) j) (rw (apply_unique p p').1 at e)
level_unique (spread_third {a = a} {b = b} {k = k} p q x) at_first e = not_same (longer (longer (spread_taken a) b) k) (turned e)
level_unique (spread_third {b = b} {k = j} p q x) (spread_first y) e = not_same (longer (less one_spread (next_fewer y p) b) j) (turned e)
level_unique (spread_third {a = a} {k = j} p q x) (spread_second p' y) e =
    not_same (less (one_spread ⊕ a) (next_fewer y q) j) (rw (apply_unique p' p).1 at (turned e))
level_unique (spread_third p q x) (spread_third {a = a} {b = b} p' q' y) e =
    let i = apply_unique p p' in
    let j = apply_unique q q' in
    let s = level_unique x (rw (← i.0, ← j.0) at y) (same_left (one_spread ⊕ a ⊕ b) (rw (i.1, j.1) at e)) in
    (rw (i.1, j.1, s.0), s.1)
level_unique (triage_first {k = k} x) at_first e = not_same (triage_taken k) (turned e)
level_unique (triage_first x) (triage_first y) e = let s = level_unique x y (same_left one_triage e) in (ap (λ (z : Uses). one_triage ⊕ z) s.0, s.1)
level_unique (triage_first x) (triage_second {k = j} p y) e = not_same (less one_triage (next_fewer x p) j) e
level_unique (triage_second {a = a} {k = k} p x) at_first e = not_same (longer (triage_taken a) k) (turned e)
level_unique (triage_second {k = j} p x) (triage_first y) e = not_same (less one_triage (next_fewer y p) j) (turned e)
level_unique (triage_second p x) (triage_second {a = a} p' y) e =
    let i = apply_unique p p' in
    let s = level_unique x (rw (← i.0) at y) (same_left (one_triage ⊕ a) (rw i.1 at e)) in
    (rw (i.1, s.0), s.1)

-- after so many uses of an application one use at most comes next
pub next_unique : {f N : Tree} {k j : Uses} {r c : Kind} → Next f N k r → Next f N j c → steps k ≡ steps j → (k ≡ j) × (r ≡ c)
unfolding count
next_unique x y e = level_unique x y (record { level = e })

-- The use that comes next after m steps.
record After (f N : Tree) (m : ℕ) : Type 0 where
  k : Uses
  r : Kind
  next : Next f N k r
  taken : count k ≡ m

-- After m steps a use comes next, or the application is completed.
data Going (f N : Tree) (m : ℕ) : Type 0 where
  wants : After f N m → Going f N m
  ended : {v : Tree} {a : Uses} → Apply f N v a → count a ≤ m → Going f N m

one_spread_lem : count one_spread ≡ 1
unfolding count
one_spread_lem = refl

one_triage_lem : count one_triage ≡ 1
unfolding count
one_triage_lem = refl

-- what is known of fewer steps
abbrev Below : ℕ → Type 0
Below m = (f N : Tree) (j : ℕ) → j ≤ m → Going f N j

spread_going : (p y N : Tree) (m : ℕ) → Below m → Going (fork (stem p) y) N (suc m)
spread_going p y N m rec = first (rec y N m (omega arith))
  where
    third : {v w : Tree} {a b : Uses} → Apply y N v a → Apply p N w b → (j : ℕ) → count a + count b + j ≡ m → Going v w j → Going (fork (stem p) y) N (suc m)
    third {a = a} {b = b} x z j e (wants i) =
        wants (record {
          k = one_spread ⊕ a ⊕ b ⊕ i.k;
          r = i.r;
          next = spread_third x z i.next;
          taken = rw (plus (one_spread ⊕ a ⊕ b) i.k, plus (one_spread ⊕ a) b, plus one_spread a, one_spread_lem) (omega (arith, i.taken));
        })
    third {a = a} {b = b} x z j e (ended {a = c} u q) =
        ended (by_spread x z u) (rw (plus (one_spread ⊕ a ⊕ b) c, plus (one_spread ⊕ a) b, plus one_spread a, one_spread_lem) (omega arith))

    second : {v : Tree} {a : Uses} → Apply y N v a → (j : ℕ) → count a + j ≡ m → Going p N j → Going (fork (stem p) y) N (suc m)
    second {a = a} x j e (wants i) =
        wants (record { k = one_spread ⊕ a ⊕ i.k; r = i.r; next = spread_second x i.next; taken = rw (plus (one_spread ⊕ a) i.k, plus one_spread a, one_spread_lem) (omega (arith, i.taken)) })
    second {v} {a} x j e (ended {v = w} {a = b} z q) = third x z (j - count b) (omega arith) (rec v w (j - count b) (omega arith))

    first : Going y N m → Going (fork (stem p) y) N (suc m)
    first (wants i) = wants (record { k = one_spread ⊕ i.k; r = i.r; next = spread_first i.next; taken = rw (plus one_spread i.k, one_spread_lem) (omega (arith, i.taken)) })
    first (ended {a = a} x q) = second x (m - count a) (omega arith) (rec p N (m - count a) (omega arith))

triage_going : (p q y N : Tree) (m : ℕ) → Below m → Going (fork (fork p q) y) N (suc m)
triage_going p q y N m rec = first (rec N p m (omega arith))
  where
    second : {v : Tree} {a : Uses} → Apply N p v a → (j : ℕ) → count a + j ≡ m → Going v q j → Going (fork (fork p q) y) N (suc m)
    second {a = a} x j e (wants i) =
        wants (record { k = one_triage ⊕ a ⊕ i.k; r = i.r; next = triage_second x i.next; taken = rw (plus (one_triage ⊕ a) i.k, plus one_triage a, one_triage_lem) (omega (arith, i.taken)) })
    second {a = a} x j e (ended {a = b} z l) = ended (by_triage x z) (rw (plus (one_triage ⊕ a) b, plus one_triage a, one_triage_lem) (omega arith))

    first : Going N p m → Going (fork (fork p q) y) N (suc m)
    first (wants i) = wants (record { k = one_triage ⊕ i.k; r = i.r; next = triage_first i.next; taken = rw (plus one_triage i.k, one_triage_lem) (omega (arith, i.taken)) })
    first (ended {v = v} {a = a} x l) = second x (m - count a) (omega arith) (rec v q (m - count a) (omega arith))

-- the first use, and those after it
no_steps : Below 0
unfolding count
no_steps f N zero h = wants (record { k = no_uses; r = rule_of f; next = at_first; taken = refl })
no_steps f N (suc m) h = absurd (omega arith)

one_step_more : (n : ℕ) → Below n → Below (suc n)
unfolding count
one_step_more n rec f N zero h = no_steps f N zero (omega arith)
one_step_more n rec leaf N (suc m) h = ended by_leaf (omega arith)
one_step_more n rec (stem p) N (suc m) h = ended by_stem (omega arith)
one_step_more n rec (fork leaf y) N (suc m) h = ended by_drop (omega arith)
one_step_more n rec (fork (stem p) y) N (suc m) h = spread_going p y N m (λ f M j l. rec f M j (omega arith))
one_step_more n rec (fork (fork p q) y) N (suc m) h = triage_going p q y N m (λ f M j l. rec f M j (omega arith))

going : (n : ℕ) → Below n
going zero = no_steps
going (suc n) = one_step_more n (going n)

-- After each number of steps a use comes next, or the application is completed in that many at most; with `next_unique` and `next_less` there is exactly one use
-- as long as it is not.
pub next_always : (f N : Tree) (m : ℕ) → ((k : Uses) × (r : Kind) × Next f N k r × (steps k ≡ m)) ⊎ ((v : Tree) × (a : Uses) × Apply f N v a × (steps a ≤ m))
unfolding count
next_always f N m = go (going m f N m (omega arith))
  where
    go : Going f N m → ((k : Uses) × (r : Kind) × Next f N k r × (steps k ≡ m)) ⊎ ((v : Tree) × (a : Uses) × Apply f N v a × (steps a ≤ m))
    go (wants i) = inl (i.k, i.r, i.next, i.taken)
    go (ended {v = v} {a = a} x h) = inr (v, a, x, h)

-- The same for the trees that a program is applied to in order: the place is the same, too.
all_unique : {f : Tree} {a b : List Tree} {N M g h : Tree} (us vs : List Tree) {k j m n : Uses} {r c : Kind} → ApplyAll f a g k → ApplyAll f b h j → Next g N m r → Next h M n c
    → a ++ (N ∷ us) ≡ b ++ (M ∷ vs) → Level (k ⊕ m) (j ⊕ n) → (length a ≡ length b) × (r ≡ c)
all_unique {N = N} {M = M} us vs at_end at_end x y q e =
    let p : M ≡ N = cc in
    (refl, (level_unique x (rw p at y) (same_left no_uses e)).1)
all_unique {N = N} us vs {m = m} {n = n} at_end (and_next {N = M} {a = a} {b = b} z zs) x y q e =
    let p : M ≡ N = cc in
    not_same (longer (longer (after_none (next_fewer x (rw p at z))) b) n) e
all_unique {M = M} us vs {m = m} {n = n} (and_next {N = N} {a = a} {b = b} z zs) at_end x y q e =
    let p : N ≡ M = cc in
    not_same (longer (longer (after_none (next_fewer y (rw p at z))) b) m) (turned e)
all_unique us vs {m = m} {n = n} (and_next {N = N} {b = k} z zs) (and_next {N = M} {a = a} {b = j} v ws) x y q e =
    let p : M ≡ N = cc in
    let i = apply_unique z (rw p at v) in
    let d = rw (i.1, uses_assoc a k m, uses_assoc a j n) at e in
    let s = all_unique us vs zs (rw (← i.0) at ws) x y (cc) (same_left a d) in
    (ap suc s.0, s.1)

-- After so many steps of the whole run one use at most comes next: "That rule is shown to be the next use by the definitions" ([14]).
pub next_all_unique : {f : Tree} {args : List Tree} {i h : ℕ} {k j : Uses} {r c : Kind} → NextAll f args i k r → NextAll f args h j c → steps k ≡ steps j → (i ≡ h) × (r ≡ c)
unfolding count
next_all_unique {k = k} {j = j} x y e =
    let d : Level k j = record { level = e } in
    let s = all_unique x.after y.after x.so_far y.so_far x.next y.next (sym x.arguments_are ∙ y.arguments_are) (rw (x.uses_are, y.uses_are) at d) in
    (omega (arith, s.0, x.place, y.place), s.1)
