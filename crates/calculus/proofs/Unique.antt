-- The five rules, and the evaluations that rest on them, give one tree, with one count of each rule's uses. Assumes nothing.
use mathlib.Core.Path.{◌≡◌, refl}
use mathlib.Core.List.{List}
use Rattle.calculus.specs.Tree.{Tree}
use Rattle.calculus.specs.declared.Uses.{Uses}
use Rattle.calculus.specs.Rules.{Apply, by_leaf, by_stem, by_drop, by_spread, by_triage, Closed, Eval, of_tree, of_app, ApplyAll, at_end, and_next}

-- "Applying program f to program N" (The five rules) gives one tree, with one count of each rule's uses.
pub apply_unique : {f N r o : Tree} {a b : Uses} → Apply f N r a → Apply f N o b → (r ≡ o) × (a ≡ b)
apply_unique by_leaf by_leaf = (refl, refl)
apply_unique by_stem by_stem = (refl, refl)
apply_unique by_drop by_drop = (refl, refl)
apply_unique (by_spread x y z) (by_spread p q r) =
    let i = apply_unique x p in
    let j = apply_unique y q in
    let k = apply_unique z (rw (← i.0, ← j.0) at r) in
    (k.0, rw (i.1, j.1, k.1))
apply_unique (by_triage x y) (by_triage p q) =
    let i = apply_unique x p in
    let j = apply_unique y (rw (← i.0) at q) in
    (j.0, rw (i.1, j.1))

-- "A closed term is evaluated function part first, then argument part, then applied": to one tree, with one count of each rule's uses.
pub eval_unique : {c : Closed} {r o : Tree} {a b : Uses} → Eval c r a → Eval c o b → (r ≡ o) × (a ≡ b)
eval_unique of_tree of_tree = (refl, refl)
eval_unique (of_app x y z) (of_app p q r) =
    let i = eval_unique x p in
    let j = eval_unique y q in
    let k = apply_unique z (rw (← i.0, ← j.0) at r) in
    (k.0, rw (i.1, j.1, k.1))

-- "applies the translated rule's tree to the first argument by the five rules, that outcome to the second, and so on": to one tree, with one
-- count of each rule's uses.
pub apply_all_unique : {f r o : Tree} {Ns : List Tree} {a b : Uses} → ApplyAll f Ns r a → ApplyAll f Ns o b → (r ≡ o) × (a ≡ b)
apply_all_unique at_end at_end = (refl, refl)
apply_all_unique (and_next x y) (and_next p q) =
    let i = apply_unique x p in
    let j = apply_all_unique y (rw (← i.0) at q) in
    (j.0, rw (i.1, j.1))
