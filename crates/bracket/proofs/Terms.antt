-- What the first byte of a term's bytes says of the term. Assumes nothing.
use Prim.Native.Nat.{ℕ, ◌+◌, ◌<◌, ◌≤◌}
use mathlib.Core.Path.{◌≡◌, refl, sym, ap, ◌∙◌}
use mathlib.Core.List.{List, []}
use native.Mathlib.Omega.{arith}
use lib.ListN.{length, get_or}
use Rattle.calculus.specs.Term.{Term, leaf, app, abs, var}
use Rattle.calculus.specs.Bytes.{bytes}
use Rattle.calculus.proofs.Rule.{bytes_pos, bytes_prefix}
use Rattle.bracket.specs.Words.{Holds}
use Rattle.bracket.proofs.Standing.{left, right, inside, head, tail}

module _ (s : List ℕ) (p : ℕ) where
  pub ends : (t : Term) → Holds s p (bytes t) → p + length (bytes t) ≤ length s
  unfolding bytes
  ends leaf h = inside s p 0 [] h
  ends (app f a) h = inside s p 1 _ h
  ends (abs b) h = inside s p 2 _ h
  ends (var i) h = inside s p 3 _ h

  pub begins : (t : Term) → Holds s p (bytes t) → p < length s
  begins t h = omega (arith, ends t h, bytes_pos t)

  pub is_leaf : (t : Term) → Holds s p (bytes t) → get_or s p 0 ≡ 0 → t ≡ leaf
  unfolding bytes
  is_leaf leaf h e = refl
  is_leaf (app f a) h e = absurd (omega (arith, head s p 1 _ h))
  is_leaf (abs b) h e = absurd (omega (arith, head s p 2 _ h))
  is_leaf (var i) h e = absurd (omega (arith, head s p 3 _ h))

  pub record IsApp (t : Term) : Type 0 where
    pub function : Term
    pub argument : Term
    pub is : t ≡ app function argument
    pub first : Holds s (p + 1) (bytes function)
    pub second : Holds s (p + 1 + length (bytes function)) (bytes argument)

  pub is_app : (t : Term) → Holds s p (bytes t) → get_or s p 0 ≡ 1 → IsApp t
  unfolding bytes
  is_app leaf h e = absurd (omega (arith, head s p 0 _ h))
  is_app (app f a) h e =
      let g = tail s p 1 _ h in
      record { function = f; argument = a; is = refl; first = left s (p + 1) (bytes f) (bytes a) g; second = right s (p + 1) (bytes f) (bytes a) g }
  is_app (abs b) h e = absurd (omega (arith, head s p 2 _ h))
  is_app (var i) h e = absurd (omega (arith, head s p 3 _ h))

  pub record IsAbs (t : Term) : Type 0 where
    pub body : Term
    pub is : t ≡ abs body
    pub inner : Holds s (p + 1) (bytes body)

  pub is_abs : (t : Term) → Holds s p (bytes t) → get_or s p 0 ≡ 2 → IsAbs t
  unfolding bytes
  is_abs leaf h e = absurd (omega (arith, head s p 0 _ h))
  is_abs (app f a) h e = absurd (omega (arith, head s p 1 _ h))
  is_abs (abs b) h e = record { body = b; is = refl; inner = tail s p 2 _ h }
  is_abs (var i) h e = absurd (omega (arith, head s p 3 _ h))

  pub record IsVar (t : Term) : Type 0 where
    pub is : t ≡ var (get_or s (p + 1) 0)
    pub within : p + 1 < length s

  pub is_var : (t : Term) → Holds s p (bytes t) → (get_or s p 0 ≡ 0 → ⊥) → (get_or s p 0 ≡ 1 → ⊥) → (get_or s p 0 ≡ 2 → ⊥) → IsVar t
  unfolding bytes
  is_var leaf h a b c = absurd (a (head s p 0 _ h))
  is_var (app f x) h a b c = absurd (b (head s p 1 _ h))
  is_var (abs b) h x y z = absurd (z (head s p 2 _ h))
  is_var (var i) h a b c = record { is = ap var (sym (head s (p + 1) i [] (tail s p 3 _ h))); within = omega (arith, inside s p 3 _ h) }

-- one term stands at a place
pub unique : (s : List ℕ) (p : ℕ) (t u : Term) → Holds s p (bytes t) → Holds s p (bytes u) → t ≡ u
unfolding Holds
unique s p t u h g = (bytes_prefix t u _ _ (sym h ∙ g)).0
