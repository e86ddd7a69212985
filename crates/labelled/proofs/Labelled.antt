-- A labelled tree on an argument, by the equations and by the five rules. Assumes nothing.
use Prim.Native.Nat.{ℕ, ◌+◌}
use mathlib.Core.Path.{◌≡◌, refl, ap, ◌∙◌, subst}
use mathlib.Core.List.{List, ◌∷◌}
use native.Mathlib.Omega.{arith}
use Rattle.calculus.specs.Tree.{Tree}
use Rattle.calculus.specs.declared.Uses.{Uses}
use Rattle.calculus.specs.Uses.{one_stem, one_drop, one_spread, ◌⊕◌, steps, InSteps}
use Rattle.calculus.specs.Rules.{Apply, by_stem, by_drop, by_spread, ApplyAll, and_next}
use Rattle.calculus.specs.Abstraction.{Combination, app, term}
use Rattle.calculus.specs.Equations.{of_drop, of_spread, Equal, same, joined, inside, equated}
use Rattle.labelled.specs.Label.{labelled}
use Rattle.calculus.proofs.Counts.{same_uses}
use Rattle.labelled.specs.Claims.{label_uses, OfRule, SixMore}

-- "By the equations, this on any argument equals f on it." (Operations, Label) The argument is any term, whether or not it has a tree.
pub labelled_equal : (f t : Tree) (z : Combination) → Equal (app (term (labelled f t)) z) (app (term f) z)
unfolding term
labelled_equal f t z = joined (equated of_spread) (joined (inside (joined (equated of_spread) (inside (equated of_drop) same)) same) (equated of_drop))

in_labelled : (a : Uses) → one_spread ⊕ (one_spread ⊕ one_drop ⊕ a ⊕ one_stem) ⊕ one_drop ⊕ one_drop ≡ a ⊕ label_uses
in_labelled a = same_uses (omega arith) (omega arith) (omega arith) (omega arith) (omega arith)

-- "Each use is one step": the six steps of a label
pub label_steps : steps label_uses ≡ 6
label_steps = refl

-- Branch-first, the labelled tree gives what the rule f gives, with the uses of the rule and six more, whatever the label.
pub labelled_gives : {f N r : Tree} {a : Uses} (t : Tree) → Apply f N r a → Apply (labelled f t) N r (a ⊕ label_uses)
labelled_gives {a = a} t p = subst (Apply _ _ _) (in_labelled a) (by_spread (by_spread by_drop p by_stem) by_drop by_drop)

-- Where the labelled tree gives a tree, so does the rule, and the same.
pub labelled_only : {f t N r : Tree} {k : Uses} → Apply (labelled f t) N r k → OfRule f N r k
labelled_only (by_spread (by_spread {b = a} by_drop p by_stem) by_drop by_drop) = record { own = a; rule_gives = p; uses = in_labelled a }

-- the steps, where the uses differ by those of a label
six_by : {P Q : Tree → Uses → Type 0} → ((r : Tree) (a : Uses) → P r a → Q r (a ⊕ label_uses))
    → ((r : Tree) (k : Uses) → Q r k → (a : Uses) × P r a × (k ≡ a ⊕ label_uses)) → SixMore P Q
six_by {P} {Q} more fewer =
    record {
      exactly = λ r s. (λ h. record { uses = h.uses ⊕ label_uses; gives = more r h.uses h.gives; counted = omega (arith, h.counted) }, back);
      at_least = λ r s h. let o = fewer r h.uses h.gives in let e = ap steps o.2 in omega (arith, h.counted);
      no_tree = λ n r s h. let o = fewer r h.uses h.gives in n r (steps o.0) (record { uses = o.0; gives = o.1; counted = refl });
    }
  where
    back : {r : Tree} {s : ℕ} → InSteps (Q r) (s + 6) → InSteps (P r) s
    back {r} h = let o = fewer r h.uses h.gives in let e = ap steps o.2 in record { uses = o.0; gives = o.1; counted = omega (arith, h.counted) }

-- "Without resource limits, a labelled rule on an argument gives the rule's tree in exactly six more steps, and has no tree where the rule has none."
-- ([4])
pub six_more : (f t N : Tree) → SixMore (Apply f N) (Apply (labelled f t) N)
six_more f t N = six_by (λ r a h. labelled_gives t h) (λ r k h. let o = labelled_only h in (o.own, o.rule_gives, o.uses))

-- The same of a rule on several arguments, one after another.
pub six_more_all : (f t N : Tree) (Ns : List Tree) → SixMore (ApplyAll f (N ∷ Ns)) (ApplyAll (labelled f t) (N ∷ Ns))
six_more_all f t N Ns = six_by (λ r a h. more h) (λ r k h. fewer h)
  where
    swap : (a b : Uses) → (a ⊕ label_uses) ⊕ b ≡ a ⊕ b ⊕ label_uses
    swap a b = same_uses (omega arith) (omega arith) (omega arith) (omega arith) (omega arith)

    more : {r : Tree} {a : Uses} → ApplyAll f (N ∷ Ns) r a → ApplyAll (labelled f t) (N ∷ Ns) r (a ⊕ label_uses)
    more (and_next {a = a} {b = b} p q) = subst (ApplyAll _ _ _) (swap a b) (and_next (labelled_gives t p) q)

    fewer : {r : Tree} {k : Uses} → ApplyAll (labelled f t) (N ∷ Ns) r k → (a : Uses) × ApplyAll f (N ∷ Ns) r a × (k ≡ a ⊕ label_uses)
    fewer (and_next {b = b} p q) = let o = labelled_only p in (o.own ⊕ b, and_next o.rule_gives q, ap (λ (x : Uses). x ⊕ b) o.uses ∙ swap o.own b)
