-- An expression that begins with an abstraction is that abstraction: its body reaches as far as it can. Assumes nothing.
use Prim.Native.Nat.{ℕ}
use mathlib.Core.Path.{◌≡◌, refl, ◌∙◌}
use mathlib.Core.List.{List, ◌∷◌}
use Rattle.grammar.specs.Expression.{Expression}
use Rattle.grammar.specs.Tokens.{Token, name, backslash, stop}
use Rattle.grammar.specs.Grammar.{Ends, Level, Reads, abstraction}
use Rattle.grammar.specs.Reader.{Read, nothing, read, empty, follow, abstracted, body, binder, operand_by, parse, more, operand}
use Rattle.grammar.proofs.Enough.{parse_operand}
use Rattle.grammar.proofs.Complete.{ends_more}
use Rattle.grammar.proofs.Sound.{sound_operand}

backslash_ends : {Γ : List ℕ} {d : ℕ} {ts r : List Token} {e : Expression} → Reads Γ d Level.operand (backslash ∷ ts) e r → Ends r
backslash_ends (abstraction h n) = n

pub parse_backslash : (d : ℕ) (Γ : List ℕ) (ts : List Token) → parse d Γ empty (backslash ∷ ts) ≡ operand d Γ (backslash ∷ ts)
unfolding follow
parse_backslash d Γ ts = parse_operand d Γ empty (backslash ∷ ts) tt ∙ go (operand d Γ (backslash ∷ ts)) refl
  where
    go : (x : Read) → operand d Γ (backslash ∷ ts) ≡ x → follow x (λ a s. more d Γ empty a s) ≡ x
    go nothing e = refl
    go (read a s) e = ends_more d Γ a (backslash_ends (sound_operand d Γ (backslash ∷ ts) a s e))

pub parse_abstraction : (d : ℕ) (Γ : List ℕ) (x : ℕ) (ts : List Token)
    → parse d Γ empty (backslash ∷ (name x ∷ (stop ∷ ts))) ≡ abstracted (parse d (x ∷ Γ) empty ts)
unfolding operand operand_by binder body
parse_abstraction d Γ x ts = parse_backslash d Γ (name x ∷ (stop ∷ ts))
