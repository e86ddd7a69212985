-- Laws of counts. Assumes nothing.
use mathlib.Core.Path.{◌≡◌}
use native.Mathlib.Omega.{arith}
use Rattle.calculus.specs.declared.Uses.{Uses}
use Rattle.calculus.specs.Uses.{no_uses, ◌⊕◌}

-- counts are the same where they are the same rule by rule
pub same_uses : {a b : Uses} → a.leaf ≡ b.leaf → a.stem ≡ b.stem → a.drop ≡ b.drop → a.spread ≡ b.spread → a.triage ≡ b.triage → a ≡ b
same_uses l s d p t = λ i. record { leaf = l i; stem = s i; drop = d i; spread = p i; triage = t i }

pub uses_none : (a : Uses) → a ⊕ no_uses ≡ a
uses_none a = same_uses (omega arith) (omega arith) (omega arith) (omega arith) (omega arith)

pub none_uses : (a : Uses) → no_uses ⊕ a ≡ a
none_uses a = same_uses (omega arith) (omega arith) (omega arith) (omega arith) (omega arith)

pub uses_assoc : (a b c : Uses) → a ⊕ b ⊕ c ≡ a ⊕ (b ⊕ c)
uses_assoc a b c = same_uses (omega arith) (omega arith) (omega arith) (omega arith) (omega arith)
