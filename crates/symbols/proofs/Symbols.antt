-- Laws of an expression by its symbols: the last one, what it puts before its operands, and how deep abstractions nest. Assumes nothing.
use Prim.Native.Nat.{ℕ, zero, suc, ◌+◌, ◌-◌, ◌≤◌, ◌<◌, max}
use mathlib.Core.Path.{◌≡◌, refl, sym, ap, ◌∙◌}
use mathlib.Core.List.{List, [], ◌∷◌, ◌++◌, append_assoc}
use native.Mathlib.Omega.{arith}
use native.Mathlib.Numerals.{add-one}
use lib.ListN.{length, get_or, take, length-append}
use lib.Seq.{get_or-take, take-take, take-suc, take-append_seam, get_or-append_seam, length-take-le}
use Rattle.calculus.specs.Bytes.{bytes}
use Rattle.grammar.specs.Expression.{Expression, leaf, var, app, abs, not, and, or, implies}
use Rattle.grammar.specs.Meaning.{term_of, and_tree, or_tree, implies_tree, not_tree, K, I, stem_of_stem}
use Rattle.grammar.specs.Postfix.{postfix, lead, total}
use Rattle.symbols.specs.Code.{Small, Nests}
use Rattle.calculus.specs.Term.{nesting}

pub lead_var : (s : ℕ) → 7 ≤ s → length (lead s) ≡ 2
unfolding lead
lead_var s t =
    let e : s ≡ suc (suc (suc (suc (suc (suc (suc (s - 7))))))) = omega arith in
    ap (λ (i : ℕ). length (lead i)) e

pub lead_two : (s : ℕ) → 1 ≤ s → s ≤ 2 → length (lead s) ≡ 23
unfolding lead bytes K I stem_of_stem and_tree or_tree
lead_two zero h g = absurd (omega arith)
lead_two (suc zero) h g = refl
lead_two (suc (suc zero)) h g = refl
lead_two (suc (suc (suc s))) h g = absurd (omega arith)

-- the last symbol
pub record Last (post : List ℕ) (p : ℕ) (zs : List ℕ) (s : ℕ) : Type 0 where
  pub some : 0 < p
  pub is : get_or post (p - 1) 0 ≡ s
  pub rest : take (p - 1) post ≡ zs

pub last : (post : List ℕ) (p : ℕ) (zs : List ℕ) (s : ℕ) → p ≤ length post → take p post ≡ zs ++ (s ∷ []) → Last post p zs s
last post p zs s h e =
    let n : length zs + 1 ≡ p = omega (arith, ap length e, length-take-le p post h, length-append zs (s ∷ [])) in
    let z : length zs ≡ p - 1 = omega arith in
    let g : get_or post (p - 1) 0 ≡ s =
    sym (get_or-take p post (p - 1) 0 (omega arith)) ∙ ap (λ (l : List ℕ). get_or l (p - 1) 0) e
    ∙ ap (λ (i : ℕ). get_or (zs ++ (s ∷ [])) i 0) (sym z) ∙ get_or-append_seam zs s [] 0 in
    let r : take (p - 1) post ≡ zs =
    sym (take-take (p - 1) p post (omega arith)) ∙ ap (take (p - 1)) e
    ∙ ap (λ (i : ℕ). take i (zs ++ (s ∷ []))) (sym z) ∙ take-append_seam zs (s ∷ []) in
    record { some = omega arith; is = g; rest = r }

-- a beginning of the symbols
pub beginning : (post : List ℕ) (p : ℕ) (xs ys : List ℕ) → take p post ≡ xs ++ ys → p ≤ length post → take (length xs) post ≡ xs
beginning post p xs ys e h =
    let n : length xs ≤ p = omega (arith, ap length e, length-take-le p post h, length-append xs ys) in
    sym (take-take (length xs) p post n) ∙ ap (take (length xs)) e ∙ take-append_seam xs ys

-- the size of a term's bytes is counted by symbols
total_append : (xs ys : List ℕ) → total (xs ++ ys) ≡ total xs + total ys
unfolding total
total_append [] ys = omega arith
total_append (s ∷ xs) ys = omega (arith, total_append xs ys)

total_one : (xs : List ℕ) (s : ℕ) → total (xs ++ (s ∷ [])) ≡ total xs + length (lead s)
unfolding total
total_one xs s = omega (arith, total_append xs (s ∷ []))

total_two : (xs ys : List ℕ) (s : ℕ) → total (xs ++ (ys ++ (s ∷ []))) ≡ total xs + total ys + length (lead s)
total_two xs ys s = omega (arith, total_append xs (ys ++ (s ∷ [])), total_one ys s)

pub total_take : (l : List ℕ) (i : ℕ) → i < length l → total (take (i + 1) l) ≡ total (take i l) + length (lead (get_or l i 0))
total_take l i h = rw (add-one, take-suc l i 0 h) (total_one (take i l) (get_or l i 0))

pub total_postfix : (e : Expression) → total (postfix e) ≡ length (bytes (term_of e))
unfolding total postfix lead term_of bytes
total_postfix leaf = refl
total_postfix (var i) = let z : i + 7 ≡ suc (suc (suc (suc (suc (suc (suc i)))))) = omega arith in ap (λ (k : ℕ). total (k ∷ [])) z
total_postfix (app f a) = omega (arith, total_two (postfix f) (postfix a) 0, total_postfix f, total_postfix a, length-append (bytes (term_of f)) (bytes (term_of a)))
total_postfix (abs b) = omega (arith, total_one (postfix b) 4, total_postfix b)
total_postfix (not a) = omega (arith, total_one (postfix a) 5, total_postfix a, length-append (bytes not_tree) (bytes (term_of a)))
total_postfix (and a b) =
    omega (arith, total_two (postfix a) (postfix b) 1, total_postfix a, total_postfix b, length-append (1 ∷ (bytes and_tree ++ bytes (term_of a))) (bytes (term_of b)), length-append (bytes and_tree) (bytes (term_of a)))
total_postfix (or a b) =
    omega (arith, total_two (postfix a) (postfix b) 2, total_postfix a, total_postfix b, length-append (1 ∷ (bytes or_tree ++ bytes (term_of a))) (bytes (term_of b)), length-append (bytes or_tree) (bytes (term_of a)))
total_postfix (implies a b) =
    omega (arith, total_two (postfix a) (postfix b) 3, total_postfix a, total_postfix b, length-append (1 ∷ (bytes implies_tree ++ bytes (term_of a))) (bytes (term_of b)), length-append (bytes implies_tree) (bytes (term_of a)))

pub lead_one : (s : ℕ) → s < 7 → (s ≡ 1 → ⊥) → (s ≡ 2 → ⊥) → (s ≡ 3 → ⊥) → (s ≡ 5 → ⊥) → length (lead s) ≡ 1
unfolding lead
lead_one zero h a b c d = refl
lead_one (suc zero) h a b c d = absurd (a refl)
lead_one (suc (suc zero)) h a b c d = absurd (b refl)
lead_one (suc (suc (suc zero))) h a b c d = absurd (c refl)
lead_one (suc (suc (suc (suc zero)))) h a b c d = refl
lead_one (suc (suc (suc (suc (suc zero))))) h a b c d = absurd (d refl)
lead_one (suc (suc (suc (suc (suc (suc zero)))))) h a b c d = refl
lead_one (suc (suc (suc (suc (suc (suc (suc s))))))) h a b c d = absurd (omega arith)

unfoldable pub symbol : Expression → ℕ
symbol leaf = 6
symbol (var i) = i + 7
symbol (app f a) = 0
symbol (abs b) = 4
symbol (not a) = 5
symbol (and a b) = 1
symbol (or a b) = 2
symbol (implies a b) = 3

unfoldable pub operands : Expression → List ℕ
operands leaf = []
operands (var i) = []
operands (app f a) = postfix f ++ postfix a
operands (abs b) = postfix b
operands (not a) = postfix a
operands (and a b) = postfix a ++ postfix b
operands (or a b) = postfix a ++ postfix b
operands (implies a b) = postfix a ++ postfix b

pub postfix_last : (e : Expression) → postfix e ≡ operands e ++ (symbol e ∷ [])
unfolding postfix operands symbol
postfix_last leaf = refl
postfix_last (var i) = refl
postfix_last (app f a) = sym (append_assoc (postfix f) (postfix a) _)
postfix_last (abs b) = refl
postfix_last (not a) = refl
postfix_last (and a b) = sym (append_assoc (postfix a) (postfix b) _)
postfix_last (or a b) = sym (append_assoc (postfix a) (postfix b) _)
postfix_last (implies a b) = sym (append_assoc (postfix a) (postfix b) _)

pub record Binary (e : Expression) : Type 0 where
  pub f : Expression
  pub a : Expression
  pub parts : operands e ≡ postfix f ++ postfix a
  pub code : bytes (term_of e) ≡ lead (symbol e) ++ (bytes (term_of f) ++ bytes (term_of a))
  pub small : Small e → Small f × Small a
  pub nest : nesting (term_of e) ≡ max (nesting (term_of f)) (nesting (term_of a))

pub binary : (e : Expression) → symbol e < 4 → Binary e
unfolding symbol operands term_of bytes lead nesting K I stem_of_stem and_tree or_tree implies_tree
binary leaf h = absurd (omega arith)
binary (var i) h = absurd (omega arith)
binary (app f a) h = record { f = f; a = a; parts = refl; code = refl; small = λ s. s; nest = refl }
binary (abs b) h = absurd (omega arith)
binary (not a) h = absurd (omega arith)
binary (and a b) h = record { f = a; a = b; parts = refl; code = refl; small = λ s. s; nest = omega arith }
binary (or a b) h = record { f = a; a = b; parts = refl; code = refl; small = λ s. s; nest = omega arith }
binary (implies a b) h = record { f = a; a = b; parts = refl; code = refl; small = λ s. s; nest = omega arith }

pub record Unary (e : Expression) : Type 0 where
  pub a : Expression
  pub parts : operands e ≡ postfix a
  pub code : bytes (term_of e) ≡ lead (symbol e) ++ bytes (term_of a)
  pub small : Small e → Small a
  pub nest_abs : symbol e ≡ 4 → nesting (term_of e) ≡ nesting (term_of a) + 1
  pub nest_not : symbol e ≡ 5 → nesting (term_of e) ≡ nesting (term_of a)

pub unary : (e : Expression) → 4 ≤ symbol e → symbol e < 6 → Unary e
unfolding symbol operands term_of bytes lead nesting K I stem_of_stem and_tree or_tree implies_tree not_tree
unary leaf h g = absurd (omega arith)
unary (var i) h g = absurd (omega arith)
unary (app f a) h g = absurd (omega arith)
unary (abs b) h g = record { a = b; parts = refl; code = refl; small = λ s. s; nest_abs = λ z. omega arith; nest_not = λ z. absurd (omega arith) }
unary (not a) h g = record { a = a; parts = refl; code = refl; small = λ s. s; nest_abs = λ z. absurd (omega arith); nest_not = λ z. omega arith }
unary (and a b) h g = absurd (omega arith)
unary (or a b) h g = absurd (omega arith)
unary (implies a b) h g = absurd (omega arith)

pub record Atom (e : Expression) : Type 0 where
  pub parts : operands e ≡ []
  pub code : bytes (term_of e) ≡ lead (symbol e)
  pub few : Small e → symbol e < 263
  pub nest : nesting (term_of e) ≡ 0

pub atom : (e : Expression) → 6 ≤ symbol e → Atom e
unfolding symbol operands term_of bytes lead nesting
atom leaf h = record { parts = refl; code = refl; few = λ s. omega arith; nest = refl }
atom (var i) h =
    let z : i + 7 ≡ suc (suc (suc (suc (suc (suc (suc i)))))) = omega arith in
    record { parts = refl; code = sym (ap lead z); few = λ s. omega arith; nest = refl }
atom (app f a) h = absurd (omega arith)
atom (abs b) h = absurd (omega arith)
atom (not a) h = absurd (omega arith)
atom (and a b) h = absurd (omega arith)
atom (or a b) h = absurd (omega arith)
atom (implies a b) h = absurd (omega arith)

-- what stands last, and what before it
pub last_of : (e : Expression) (xs post : List ℕ) (p : ℕ) → take p post ≡ xs ++ postfix e → p ≤ length post → Last post p (xs ++ operands e) (symbol e)
last_of e xs post p h w = last post p (xs ++ operands e) (symbol e) w (h ∙ ap (λ (l : List ℕ). xs ++ l) (postfix_last e) ∙ sym (append_assoc xs (operands e) _))

pub nesting_few : (e : Expression) → nesting (term_of e) < length (postfix e)
unfolding term_of nesting postfix K I stem_of_stem and_tree or_tree implies_tree not_tree
nesting_few leaf = omega arith
nesting_few (var i) = omega arith
nesting_few (app f a) = omega (arith, nesting_few f, nesting_few a, length-append (postfix f) (postfix a ++ (0 ∷ [])), length-append (postfix a) (0 ∷ []))
nesting_few (abs b) = omega (arith, nesting_few b, length-append (postfix b) (4 ∷ []))
nesting_few (not a) = omega (arith, nesting_few a, length-append (postfix a) (5 ∷ []))
nesting_few (and f a) = omega (arith, nesting_few f, nesting_few a, length-append (postfix f) (postfix a ++ (1 ∷ [])), length-append (postfix a) (1 ∷ []))
nesting_few (or f a) = omega (arith, nesting_few f, nesting_few a, length-append (postfix f) (postfix a ++ (2 ∷ [])), length-append (postfix a) (2 ∷ []))
nesting_few (implies f a) = omega (arith, nesting_few f, nesting_few a, length-append (postfix f) (postfix a ++ (3 ∷ [])), length-append (postfix a) (3 ∷ []))

module _ (e : Expression) (xs post : List ℕ) (p : ℕ) (h : take p post ≡ xs ++ postfix e) (w : p ≤ length post) where
  pub is_symbol : get_or post (p - 1) 0 ≡ symbol e
  is_symbol = (last_of e xs post p h w).is

  pub has_symbol : 0 < p
  has_symbol = (last_of e xs post p h w).some

  module _ (b : Binary e) where
    pub right_stands : take (p - 1) post ≡ (xs ++ postfix b.f) ++ postfix b.a
    right_stands = (last_of e xs post p h w).rest ∙ ap (λ (l : List ℕ). xs ++ l) b.parts ∙ sym (append_assoc xs (postfix b.f) (postfix b.a))

    pub left_stands : (n : ℕ) → n ≡ length (xs ++ postfix b.f) → take n post ≡ xs ++ postfix b.f
    left_stands n z = ap (λ (i : ℕ). take i post) z ∙ beginning post (p - 1) (xs ++ postfix b.f) (postfix b.a) right_stands (omega arith)

    pub left_less : (n : ℕ) → n ≡ length (xs ++ postfix b.f) → n < p
    left_less n z =
        omega (arith, ap length right_stands, length-take-le (p - 1) post (omega arith), length-append (xs ++ postfix b.f) (postfix b.a), has_symbol)

  module _ (u : Unary e) where
    pub only_stands : take (p - 1) post ≡ xs ++ postfix u.a
    only_stands = (last_of e xs post p h w).rest ∙ ap (λ (l : List ℕ). xs ++ l) u.parts

  module _ (t : Atom e) where
    pub atom_begins : p - 1 ≡ length xs
    atom_begins =
        omega (arith, ap length (last_of e xs post p h w).rest, ap length t.parts, length-append xs (operands e), length-take-le (p - 1) post (omega arith))

-- nesting
module _ (e : Expression) (xs post : List ℕ) (p : ℕ) (h : take p post ≡ xs ++ postfix e) (w : p ≤ length post) where
  module _ (k : get_or post (p - 1) 0 < 4) where
    pub deep_parts : Binary e
    deep_parts = binary e (omega (arith, is_symbol e xs post p h w))

    pub deep_two : (i j n m r : ℕ) → Nests deep_parts.a (xs ++ postfix deep_parts.f) i n → Nests deep_parts.f xs j m → r ≡ max m n → Nests e xs j r
    deep_two i j n m r x y z = record { begins = y.begins; deep = omega (arith, x.deep, y.deep, deep_parts.nest) }

  module _ (k : get_or post (p - 1) 0 ≡ 4) where
    pub deep_body : Unary e
    deep_body = unary e (omega (arith, is_symbol e xs post p h w)) (omega (arith, is_symbol e xs post p h w))

    pub deep_abs : (i n : ℕ) → Nests deep_body.a xs i n → Nests e xs i (n + 1)
    deep_abs i n x = record { begins = x.begins; deep = omega (arith, x.deep, deep_body.nest_abs (omega (arith, is_symbol e xs post p h w))) }

    pub deep_few : (i n : ℕ) → Nests deep_body.a xs i n → n < p
    deep_few i n x =
        omega (arith, x.deep, nesting_few deep_body.a, ap length (only_stands e xs post p h w deep_body), length-append xs (postfix deep_body.a), length-take-le (p - 1) post (omega arith), has_symbol e xs post p h w)

  module _ (k : get_or post (p - 1) 0 ≡ 5) where
    pub deep_operand : Unary e
    deep_operand = unary e (omega (arith, is_symbol e xs post p h w)) (omega (arith, is_symbol e xs post p h w))

    pub deep_not : (i n : ℕ) → Nests deep_operand.a xs i n → Nests e xs i n
    deep_not i n x = record { begins = x.begins; deep = omega (arith, x.deep, deep_operand.nest_not (omega (arith, is_symbol e xs post p h w))) }

  pub deep_none : 6 ≤ get_or post (p - 1) 0 → Nests e xs (p - 1) 0
  deep_none k =
      let t = atom e (omega (arith, is_symbol e xs post p h w)) in
      record { begins = atom_begins e xs post p h w t; deep = omega (arith, t.nest) }
