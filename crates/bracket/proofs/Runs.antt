-- What the first word of a term's run says of the term, and the words that bracket abstraction writes for it. Assumes nothing.
use Prim.Native.Nat.{ℕ, zero, suc, ◌+◌, ◌*◌, ◌-◌, ◌/◌, ◌%◌, ◌<◌, ◌≤◌}
use mathlib.Core.Path.{◌≡◌, refl, ap, ◌∙◌}
use mathlib.Core.List.{List, [], ◌∷◌, ◌++◌}
use native.Mathlib.Omega.{arith}
use lib.ListN.{length, take, get_or, length-append}
use lib.Seq.{sets}
use Rattle.calculus.specs.Abstraction.{Combination, leaf, app, var, bracket, width}
use Rattle.calculus.proofs.Size.{width_pos}
use Rattle.bracket.specs.Words.{words, Holds, Written, BracketAt}
use Rattle.bracket.proofs.Standing.{left, right, inside, head, tail, moved, kept}
use Rattle.bracket.proofs.Stores.{sets_before, written_more, take_sets}

-- a run of n leaves and variables has 2n − 1 words
pub words_width : (c : Combination) → length (words c) + 1 ≡ 2 * width c
unfolding words width
words_width leaf = refl
words_width (app u v) = omega (arith, words_width u, words_width v, length-append (words u) (words v))
words_width (var i) = refl

pub words_pos : (c : Combination) → 1 ≤ length (words c)
words_pos c = omega (arith, words_width c, width_pos c)

module _ (s : List ℕ) (p : ℕ) where
  pub ends : (c : Combination) → Holds s p (words c) → p + length (words c) ≤ length s
  unfolding words
  ends leaf h = inside s p _ _ h
  ends (app u v) h = inside s p _ _ h
  ends (var i) h = inside s p _ _ h

  pub begins : (c : Combination) → Holds s p (words c) → p < length s
  begins c h = omega (arith, ends c h, words_pos c)

  pub is_leaf : (c : Combination) → Holds s p (words c) → get_or s p 0 ≡ 0 → c ≡ leaf
  unfolding words
  is_leaf leaf h e = refl
  is_leaf (app u v) h e = absurd (omega (arith, head s p _ _ h, words_pos u))
  is_leaf (var i) h e = absurd (omega (arith, head s p _ _ h))

  -- an odd word is a variable
  pub is_var : (c : Combination) → Holds s p (words c) → get_or s p 0 % 2 ≡ 1 → (i : ℕ) × (c ≡ var i) × (get_or s p 0 ≡ 2 * i + 1)
  unfolding words
  is_var leaf h e = absurd (omega (arith, head s p _ _ h))
  is_var (app u v) h e = absurd (omega (arith, head s p _ _ h))
  is_var (var i) h e = (i, refl, head s p _ _ h)

  -- an even word that is not 0 is an application, and its half says where the argument starts
  pub record IsApp (c : Combination) : Type 0 where
    pub function : Combination
    pub argument : Combination
    pub is : c ≡ app function argument
    pub half : get_or s p 0 ≡ 2 * length (words function)
    pub long : length (words c) ≡ 1 + length (words function) + length (words argument)
    pub first : Holds s (p + 1) (words function)
    pub second : Holds s (p + 1 + get_or s p 0 / 2) (words argument)

  pub is_app : (c : Combination) → Holds s p (words c) → (get_or s p 0 ≡ 0 → ⊥) → (get_or s p 0 % 2 ≡ 1 → ⊥) → IsApp c
  unfolding words
  is_app leaf h n o = absurd (n (head s p _ _ h))
  is_app (app u v) h n o =
      let e = head s p _ _ h in
      let g = tail s p _ (words u ++ words v) h in
      record {
        function = u;
        argument = v;
        is = refl;
        half = e;
        long = omega (arith, length-append (words u) (words v));
        first = left s (p + 1) (words u) (words v) g;
        second = moved s (words v) (right s (p + 1) (words u) (words v) g) (omega arith);
      }
  is_app (var i) h n o = absurd (o (omega (arith, head s p _ _ h)))

-- what bracket abstraction writes
pub length_bracket : (u v : Combination) → length (words (bracket (app u v))) ≡ 5 + length (words (bracket v)) + length (words (bracket u))
unfolding words bracket
length_bracket u v = simp (length-append) (omega arith)

-- a run that ends before q stands as before once two runs are written from q on
pub unwritten : (zs : List ℕ) (p : ℕ) {s s₁ s₂ xs ys : List ℕ} {q e₁ e₂ : ℕ} → Holds s p zs → p + length zs ≤ q
    → Written s (q + 5) xs e₁ s₁ → Written s₁ q ys e₂ s₂ → Holds s₂ p zs
unwritten zs p {s} {s₁} {s₂} {xs} {ys} {q} h l a b =
    kept s s₂ zs p q (ap (take q) b.stored ∙ take_sets ys s₁ q q (omega arith) ∙ ap (take q) a.stored ∙ take_sets xs s (q + 5) q (omega arith)) l h

module _ (s : List ℕ) (p : ℕ) (c : Combination) (h : Holds s p (words c)) where
  pub bracket_leaf : get_or s p 0 ≡ 0 → words (bracket c) ≡ 6 ∷ 2 ∷ 0 ∷ 0 ∷ 0 ∷ []
  unfolding words bracket
  bracket_leaf e = rw (is_leaf s p c h e)

  pub bracket_nearest : get_or s p 0 ≡ 1 → words (bracket c) ≡ 10 ∷ 2 ∷ 0 ∷ 2 ∷ 0 ∷ 0 ∷ 2 ∷ 0 ∷ 0 ∷ []
  unfolding words bracket
  bracket_nearest e =
      let k = is_var s p c h (omega arith) in
      let z : k.0 ≡ 0 = omega (arith, k.2) in
      rw (k.1, z)

  pub bracket_other : (get_or s p 0 ≡ 1 → ⊥) → get_or s p 0 % 2 ≡ 1 → words (bracket c) ≡ 6 ∷ 2 ∷ 0 ∷ 0 ∷ (get_or s p 0 - 2) ∷ []
  unfolding words bracket
  bracket_other n e = let k = is_var s p c h e in go k.0 k.1 k.2
    where
      go : (i : ℕ) → c ≡ var i → get_or s p 0 ≡ 2 * i + 1 → words (bracket c) ≡ 6 ∷ 2 ∷ 0 ∷ 0 ∷ (get_or s p 0 - 2) ∷ []
      go zero f g = absurd (n (omega arith))
      go (suc i) f g = rw f (ap (λ (k : ℕ). 6 ∷ 2 ∷ 0 ∷ 0 ∷ k ∷ []) (omega arith))

  -- an application: v' is written five words after q, then the five words before it, then u'
  pub bracket_app : (q e₁ e₂ r : ℕ) (s₁ s₂ s₃ : List ℕ) → p + length (words c) ≤ q → (get_or s p 0 ≡ 0 → ⊥) → (get_or s p 0 % 2 ≡ 1 → ⊥)
      → ((v : Combination) → Holds s (p + 1 + get_or s p 0 / 2) (words v) → p + 1 + get_or s p 0 / 2 + length (words v) ≤ q + 5
      → Written s (q + 5) (words (bracket v)) e₁ s₁)
      → Written s₁ q (2 * (e₁ - q - 1) ∷ 2 ∷ 0 ∷ 2 ∷ 0 ∷ []) e₂ s₂
      → ((u : Combination) → Holds s₂ (p + 1) (words u) → p + 1 + length (words u) ≤ e₁ → Written s₂ e₁ (words (bracket u)) r s₃)
      → Written s q (words (bracket c)) r s₃
  unfolding words bracket
  bracket_app q e₁ e₂ r s₁ s₂ s₃ l n o A P F =
      let k = is_app s p c h n o in
      let a = A k.argument k.second (omega (arith, k.half, k.long)) in
      let f = F k.function (unwritten (words k.function) (p + 1) k.first (omega (arith, k.long)) a P) (omega (arith, k.long, a.end)) in
      let u : List ℕ = words (bracket k.function) in
      let v : List ℕ = words (bracket k.argument) in
      let m : ℕ = 2 * (e₁ - q - 1) in
      let x : List ℕ = m ∷ 2 ∷ 0 ∷ 2 ∷ 0 ∷ [] in
      let w : m ≡ 2 * length (2 ∷ 0 ∷ 2 ∷ 0 ∷ v) = omega (arith, a.end) in
      let t : s₂ ≡ sets s q (x ++ v) = P.stored ∙ ap (λ (l : List ℕ). sets l q x) a.stored ∙ sets_before x v s q (q + 5) refl in
      let g : e₁ ≡ q + length (x ++ v) = omega (arith, a.end) in
      rw (k.is, ← w) (written_more {xs = x ++ v} {ys = u} (record { end = g; stored = t }) f)

-- the room that an application's abstraction takes
pub app_room : {s : List ℕ} {p : ℕ} {c : Combination} (k : IsApp s p c) → length (words (bracket c)) ≡ 5 + length (words (bracket k.argument)) + length (words (bracket k.function))
app_room k = ap (λ (x : Combination). length (words (bracket x))) k.is ∙ length_bracket k.function k.argument

-- an application's argument ends before the place of the argument's abstraction
pub app_apart : {s : List ℕ} {p : ℕ} {c : Combination} (k : IsApp s p c) (q : ℕ) → p + length (words c) ≤ q
    → p + 1 + get_or s p 0 / 2 + length (words k.argument) ≤ q + 5
app_apart k q l = omega (arith, k.half, k.long)

-- where an application's argument has its abstraction from five words after q on, that ends at e
pub argument_end : {s : List ℕ} {p q e : ℕ} {s₁ : List ℕ} (r : BracketAt s p q) → (get_or s p 0 ≡ 0 → ⊥) → (get_or s p 0 % 2 ≡ 1 → ⊥)
    → ((v : Combination) → Holds s (p + 1 + get_or s p 0 / 2) (words v) → p + 1 + get_or s p 0 / 2 + length (words v) ≤ q + 5
    → Written s (q + 5) (words (bracket v)) e s₁)
    → (q + 5 ≤ e) × (e ≤ 65536)
argument_end {q = q} r n o A =
    let k = is_app _ _ _ r.stands n o in
    let a = A k.argument k.second (app_apart k q r.apart) in
    (omega (arith, a.end), omega (arith, a.end, r.room, r.short, app_room k))
