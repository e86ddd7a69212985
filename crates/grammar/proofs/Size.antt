-- A phrase has at most two symbols a token, less one. Assumes nothing.
use Prim.Native.Nat.{ℕ, ◌+◌, ◌*◌, ◌≤◌}
use mathlib.Core.Path.{◌≡◌}
use mathlib.Core.List.{List, [], ◌∷◌, ◌++◌}
use native.Mathlib.Omega.{arith}
use lib.ListN.{length, length-append}
use Rattle.grammar.specs.Expression.{Expression}
use Rattle.grammar.specs.Tokens.{Token}
use Rattle.grammar.specs.Grammar.{Level, Reads, the_leaf, the_name, group, abstraction, one_operand, applied, one_application, negated, one_negation, both, one_conjunction, either, one_disjunction, follows}
use Rattle.grammar.specs.Postfix.{postfix}

two_symbols : (xs ys : List ℕ) (s : ℕ) → length (xs ++ (ys ++ (s ∷ []))) ≡ length xs + length ys + 1
two_symbols xs ys s = omega (arith, length-append xs (ys ++ (s ∷ [])), length-append ys (s ∷ []))

pub size : {Γ : List ℕ} {d : ℕ} {l : Level} {ts r : List Token} {e : Expression} → Reads Γ d l ts e r → length (postfix e) + 1 + 2 * length r ≤ 2 * length ts
unfolding postfix
size the_leaf = omega arith
size (the_name b) = omega arith
size (group h) = omega (arith, size h)
size (abstraction {b = b} h n) = omega (arith, size h, length-append (postfix b) (4 ∷ []))
size (one_operand h) = size h
size (applied {f = f} {a = a} h g) = omega (arith, size h, size g, two_symbols (postfix f) (postfix a) 0)
size (one_application h) = size h
size (negated {e = e} h) = omega (arith, size h, length-append (postfix e) (5 ∷ []))
size (one_negation h) = size h
size (both {a = a} {b = b} h g) = omega (arith, size h, size g, two_symbols (postfix a) (postfix b) 1)
size (one_conjunction h) = size h
size (either {a = a} {b = b} h g) = omega (arith, size h, size g, two_symbols (postfix a) (postfix b) 2)
size (one_disjunction h) = size h
size (follows {a = a} {b = b} h g) = omega (arith, size h, size g, two_symbols (postfix a) (postfix b) 3)
