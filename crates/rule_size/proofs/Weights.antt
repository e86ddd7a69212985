-- What a rule's term counts: the size of its tree, in one pass over its bytes, and one law for each way that the code that reads the bytes goes.
-- Assumes nothing.
use Prim.Native.Nat.{ℕ, zero, suc, ◌+◌, ◌*◌, ◌-◌, ◌<◌, ◌≤◌}
use mathlib.Core.Path.{◌≡◌, refl, sym, ap, ◌∙◌}
use mathlib.Core.Bool.{Bool, true, false, cond}
use mathlib.Core.List.{List, [], ◌∷◌, ◌++◌}
use mathlib.Core.Option.{Option, none, some}
use Rattle.std.specs.Prelude.{None, Some}
use native.Mathlib.Numerals.{add-one}
use native.Mathlib.Omega.{arith}
use lib.ListN.{length, drop, get_or, drop_of_length-le, length-append, length-drop, get_or-append}
use lib.Seq.{drop-cons, drop-drop}
use lib.Dec.{leb}
use borrow.Author.Tests.{lt-ltb, le-ltb, le-leb, lt-leb, eq-eqb, ne_eqb}
use Rattle.calculus.specs.Term.{Term, leaf, app, abs, var, nesting}
use Rattle.calculus.specs.Bytes.{bytes, abstraction, application, argument, parse, whole, rule}
use Rattle.calculus.specs.Abstraction.{Combination, ClosedOver, bracket, translate, width}
use Rattle.calculus.specs.Abstraction as combination
use Rattle.calculus.proofs.Rule.{bytes_pos, parse_sound, rule_exact}
use Rattle.calculus.proofs.Size.{translate_within, rule_size_lem}
use Rattle.rule_size.specs.Weight.{leaf_weight, weight, measured, size_of}
use Rattle.rule_size.specs.declared.Measured.{Measured}

-- what a leaf counts under one abstraction more
pub leaf_weight_more : (i : ℕ) {u : ℕ} → u ≡ leaf_weight i → u * 5 ≡ leaf_weight (i + 1)
unfolding leaf_weight
leaf_weight_more i e = rw (add-one i) (omega arith)

leaf_weight_up : (d k : ℕ) → leaf_weight d ≤ leaf_weight (k + d)
unfolding leaf_weight
leaf_weight_up d zero = let e : 0 + d ≡ d = omega arith in rw e (omega arith)
leaf_weight_up d (suc k) = let e : suc k + d ≡ suc (k + d) = omega arith in rw e (omega (arith, leaf_weight_up d k))

pub leaf_weight_most : (d : ℕ) → d ≤ 16 → leaf_weight d ≤ 152587890625
unfolding leaf_weight
leaf_weight_most d h = let e : (16 - d) + d ≡ 16 = omega arith in rw e at (leaf_weight_up d (16 - d))

-- an abstraction takes 2 away where it is translated
pub weight_bracket : (d : ℕ) (c : Combination) → weight d (bracket c) + 2 * leaf_weight d ≡ weight (suc d) c
unfolding weight leaf_weight bracket
weight_bracket d combination.leaf = omega arith
weight_bracket d (combination.app u v) = omega (arith, weight_bracket d u, weight_bracket d v)
weight_bracket d (combination.var zero) = let e : suc d - 1 - 0 ≡ d = omega arith in rw e (omega arith)
weight_bracket d (combination.var (suc i)) = let e : suc d - 1 - suc i ≡ d - 1 - i = omega arith in rw e (omega arith)

-- under no abstraction, a term without variables counts its leaves
pub weight_closed : (c : Combination) → ClosedOver 0 c → weight 0 c ≡ width c
unfolding weight leaf_weight width
weight_closed combination.leaf h = refl
weight_closed (combination.app u v) h = omega (arith, weight_closed u h.0, weight_closed v h.1)
weight_closed (combination.var i) h = absurd (omega arith)

-- A term counts at most three times 5 to the 16th for each of its bytes: no sum of a rule's parts wraps at 64 bits.
pub weight_most : (t : Term) (d : ℕ) → d + nesting t ≤ 16 → weight d (translate t) ≤ 457763671875 * length (bytes t)
unfolding weight translate bytes nesting
weight_most leaf d h = omega (arith, leaf_weight_most d (omega arith))
weight_most (app f a) d h = omega (arith, weight_most f d (omega arith), weight_most a d (omega arith), length-append (bytes f) (bytes a))
weight_most (abs b) d h = omega (arith, weight_most b (suc d) (omega arith), weight_bracket d (translate b))
weight_most (var i) d h = omega (arith, leaf_weight_most d (omega arith), leaf_weight_most (d - 1 - i) (omega arith))

-- a term was found: it ends inside the bytes, and its weight has room
pub record Found (at : ℕ) (s : List ℕ) (m : Measured) : Type 0 where
  pub after : at < m.next
  pub within : m.next ≤ length s
  pub most : m.weight ≤ 457763671875 * (m.next - at)

module _ (at d : ℕ) (s : List ℕ) (m : Measured) (deep : d ≤ 16)
    (M : (n : ℕ) → length s - at ≤ n → m ≡ measured at d (parse n d (drop at s))) where
  pub found : (m.next ≡ 0 → ⊥) → Found at s m
  unfolding measured
  found nz = go (parse (length s) d (drop at s)) refl (M (length s) (omega arith))
    where
      go : (P : Option Term) → parse (length s) d (drop at s) ≡ P → m ≡ measured at d P → Found at s m
      go none e q = absurd (nz (ap (λ (x : Measured). x.next) q))
      go (some t) e q =
          let g = parse_sound (length s) d (drop at s) t deep e in
          let len : length (drop at s) ≡ length (bytes t ++ drop (length (bytes t)) (drop at s)) = ap length g.0 in
          let len₂ = length-append (bytes t) (drop (length (bytes t)) (drop at s)) in
          let len₃ = length-drop at s in
          let pos = bytes_pos t in
          let most = weight_most t d g.2 in
          let x : m.next ≡ at + length (bytes t) = ap (λ (x : Measured). x.next) q in
          let y : m.weight ≡ weight d (translate t) = ap (λ (x : Measured). x.weight) q in
          record { after = omega arith; within = omega arith; most = omega arith }

  -- an abstraction's weight is at least what it takes away
  pub found_less : d ≡ suc (d - 1) → (m.next ≡ 0 → ⊥) → 2 * leaf_weight (d - 1) ≤ m.weight
  unfolding measured
  found_less up nz = go (parse (length s) d (drop at s)) (M (length s) (omega arith))
    where
      go : (P : Option Term) → m ≡ measured at d P → 2 * leaf_weight (d - 1) ≤ m.weight
      go none q = absurd (nz (ap (λ (x : Measured). x.next) q))
      go (some t) q =
          let y : m.weight ≡ weight d (translate t) = ap (λ (x : Measured). x.weight) q in
          let z : weight d (translate t) ≡ weight (suc (d - 1)) (translate t) = ap (λ (k : ℕ). weight k (translate t)) up in
          omega (arith, weight_bracket (d - 1) (translate t))

-- no term
abbrev pub none_found : Measured
none_found = record { next = 0; weight = 0 }

pub at_end : (n d at : ℕ) (s : List ℕ) → length s ≤ at → none_found ≡ measured at d (parse n d (drop at s))
unfolding parse measured
at_end zero d at s h = refl
at_end (suc n) d at s h = rw (drop_of_length-le s h)

-- what is left of the list begins with the byte at the position, and the bound is a successor
record Peeled (n d at b : ℕ) (s : List ℕ) : Type 0 where
  m : ℕ
  enough : length s - (at + 1) ≤ m
  same : parse n d (drop at s) ≡ parse (suc m) d (b ∷ drop (at + 1) s)

peel : (n d at b : ℕ) (s : List ℕ) → at < length s → length s - at ≤ n → get_or s at 0 ≡ b → Peeled n d at b s
peel zero d at b s lt le e = absurd (omega arith)
peel (suc n) d at b s lt le e =
    record {
      m = n;
      enough = omega arith;
      same = ap (parse (suc n) d) (drop-cons s at 0 lt ∙ ap (λ (k : ℕ). k ∷ drop (suc at) s) e ∙ ap (λ (k : ℕ). b ∷ drop k s) (sym (add-one at)));
    }

module _ (n d at : ℕ) (s : List ℕ) (lt : at < length s) (le : length s - at ≤ n) where
  pub is_leaf : {u : ℕ} → u ≡ leaf_weight d → get_or s at 0 ≡ 0 → ◌≡◌ {A = Measured} (record { next = at + 1; weight = u }) (measured at d (parse n d (drop at s)))
  unfolding parse measured bytes translate weight
  is_leaf e q = rw ((peel n d at 0 s lt le q).same, e)

  pub is_var : {u v : ℕ} → u ≡ leaf_weight d → v ≡ leaf_weight (d - 1 - get_or s (at + 1) 0) → get_or s at 0 ≡ 3 → at + 1 < length s → get_or s (at + 1) 0 < d
      → ◌≡◌ {A = Measured} (record { next = at + 2; weight = u + 2 * v }) (measured at d (parse n d (drop at s)))
  unfolding parse measured bytes translate weight
  is_var e f q h i = rw ((peel n d at 3 s lt le q).same, drop-cons s (at + 1) 0 h, lt-ltb _ _ i, e, f)

  pub free_var : get_or s at 0 ≡ 3 → at + 1 < length s → d ≤ get_or s (at + 1) 0 → none_found ≡ measured at d (parse n d (drop at s))
  unfolding parse measured
  free_var q h i = rw ((peel n d at 3 s lt le q).same, drop-cons s (at + 1) 0 h, le-ltb _ _ i)

  pub cut : get_or s at 0 ≡ 3 → length s ≤ at + 1 → none_found ≡ measured at d (parse n d (drop at s))
  unfolding parse measured
  cut q h = rw ((peel n d at 3 s lt le q).same, drop_of_length-le s h)

  pub other : (get_or s at 0 ≡ 0 → ⊥) → (get_or s at 0 ≡ 1 → ⊥) → (get_or s at 0 ≡ 2 → ⊥) → (get_or s at 0 ≡ 3 → ⊥) → none_found ≡ measured at d (parse n d (drop at s))
  unfolding parse measured
  other x y z o =
      let p = peel n d at (get_or s at 0) s lt le refl in
      rw p.same (go p.m (drop (at + 1) s) (get_or s at 0) x y z o)
    where
      go : (m : ℕ) (l : List ℕ) (k : ℕ) → (k ≡ 0 → ⊥) → (k ≡ 1 → ⊥) → (k ≡ 2 → ⊥) → (k ≡ 3 → ⊥) → none_found ≡ measured at d (parse (suc m) d (k ∷ l))
      go m l zero x y z o = absurd (x refl)
      go m l (suc zero) x y z o = absurd (y refl)
      go m l (suc (suc zero)) x y z o = absurd (z refl)
      go m l (suc (suc (suc zero))) x y z o = absurd (o refl)
      go m l (suc (suc (suc (suc k)))) x y z o = refl

  pub too_deep : get_or s at 0 ≡ 2 → 16 ≤ d → none_found ≡ measured at d (parse n d (drop at s))
  unfolding parse measured
  too_deep q h = rw ((peel n d at 2 s lt le q).same, le-ltb _ _ h)

  -- an abstraction, by what its body measures
  module _ (b : Measured) (q : get_or s at 0 ≡ 2) (h : d < 16)
      (B : (k : ℕ) → length s - (at + 1) ≤ k → b ≡ measured (at + 1) (d + 1) (parse k (d + 1) (drop (at + 1) s))) where
    of_abs : {m : Measured} → ((P : Option Term) → b ≡ measured (at + 1) (suc d) P → m ≡ measured at d (abstraction P)) → m ≡ measured at d (parse n d (drop at s))
    unfolding parse
    of_abs f =
        let p = peel n d at 2 s lt le q in
        let e : d + 1 ≡ suc d = omega arith in
        rw (p.same, lt-ltb _ _ h) (f (parse p.m (suc d) (drop (at + 1) s)) (rw e at (B p.m p.enough)))

    pub no_body : b.next ≡ 0 → none_found ≡ measured at d (parse n d (drop at s))
    unfolding measured abstraction
    no_body z = of_abs (λ P f. go P f)
      where
        go : (P : Option Term) → b ≡ measured (at + 1) (suc d) P → none_found ≡ measured at d (abstraction P)
        go none e = refl
        go (some t) e = absurd (omega (arith, ap (λ (x : Measured). x.next) e))

    pub is_abs : {u : ℕ} → u ≡ leaf_weight d → (b.next ≡ 0 → ⊥) → ◌≡◌ {A = Measured} (record { next = b.next; weight = b.weight - 2 * u }) (measured at d (parse n d (drop at s)))
    unfolding measured abstraction bytes translate
    is_abs {u} f nz = of_abs (λ P g. go P g)
      where
        go : (P : Option Term) → b ≡ measured (at + 1) (suc d) P → ◌≡◌ {A = Measured} (record { next = b.next; weight = b.weight - 2 * u }) (measured at d (abstraction P))
        go none e = absurd (nz (ap (λ (x : Measured). x.next) e))
        go (some t) e =
            let x : b.next ≡ at + suc (length (bytes t)) = ap (λ (x : Measured). x.next) e ∙ omega arith in
            let y : b.weight - 2 * u ≡ weight d (bracket (translate t)) = omega (arith, ap (λ (x : Measured). x.weight) e, weight_bracket d (translate t)) in
            rw (x, y)

  -- an application, by what its function part and its argument measure
  module _ (f : Measured) (q : get_or s at 0 ≡ 1)
      (F : (k : ℕ) → length s - (at + 1) ≤ k → f ≡ measured (at + 1) d (parse k d (drop (at + 1) s))) where
    pub no_function : f.next ≡ 0 → none_found ≡ measured at d (parse n d (drop at s))
    unfolding parse measured argument
    no_function z =
        let p = peel n d at 1 s lt le q in
        rw p.same (go (parse p.m d) (parse p.m d (drop (at + 1) s)) (F p.m p.enough))
      where
        go : (read : List ℕ → Option Term) (P : Option Term) → f ≡ measured (at + 1) d P → none_found ≡ measured at d (argument read (drop (at + 1) s) P)
        go read none e = refl
        go read (some t) e = absurd (omega (arith, ap (λ (x : Measured). x.next) e))

    module _ (a : Measured) (nz : f.next ≡ 0 → ⊥) (after : at + 1 < f.next)
        (A : (k : ℕ) → length s - f.next ≤ k → a ≡ measured f.next d (parse k d (drop f.next s))) where
      of_app : {m : Measured} → ((t : Term) (P : Option Term) → f ≡ measured (at + 1) d (some t) → a ≡ measured f.next d P → m ≡ measured at d (application t P))
          → m ≡ measured at d (parse n d (drop at s))
      unfolding parse argument measured
      of_app {m} g =
          let p = peel n d at 1 s lt le q in
          let enough : length s - (at + 1) ≤ p.m = p.enough in
          rw p.same (go p.m (parse p.m d (drop (at + 1) s)) (F p.m p.enough) (A p.m (omega arith)))
        where
          go : (k : ℕ) (P : Option Term) → f ≡ measured (at + 1) d P → a ≡ measured f.next d (parse k d (drop f.next s)) → m ≡ measured at d (argument (parse k d) (drop (at + 1) s) P)
          go k none e r = absurd (nz (ap (λ (x : Measured). x.next) e))
          go k (some t) e r =
              let x : f.next ≡ at + 1 + length (bytes t) = ap (λ (x : Measured). x.next) e in
              g t (parse k d (drop (length (bytes t)) (drop (at + 1) s))) e (rw (drop-drop (length (bytes t)) (at + 1) s, ← x) r)

      pub no_argument : a.next ≡ 0 → none_found ≡ measured at d (parse n d (drop at s))
      unfolding measured application
      no_argument z = of_app (λ t P e r. go t P e r)
        where
          go : (t : Term) (P : Option Term) → f ≡ measured (at + 1) d (some t) → a ≡ measured f.next d P → none_found ≡ measured at d (application t P)
          go t none e r = refl
          go t (some u) e r = absurd (omega (arith, ap (λ (x : Measured). x.next) r))

      pub is_app : (a.next ≡ 0 → ⊥) → ◌≡◌ {A = Measured} (record { next = a.next; weight = f.weight + a.weight }) (measured at d (parse n d (drop at s)))
      unfolding measured application bytes translate weight
      is_app na = of_app (λ t P e r. go t P e r)
        where
          go : (t : Term) (P : Option Term) → f ≡ measured (at + 1) d (some t) → a ≡ measured f.next d P
              → ◌≡◌ {A = Measured} (record { next = a.next; weight = f.weight + a.weight }) (measured at d (application t P))
          go t none e r = absurd (na (ap (λ (x : Measured). x.next) r))
          go t (some u) e r =
              let x : a.next ≡ at + suc (length (bytes t ++ bytes u)) = omega (arith, ap (λ (x : Measured). x.next) e, ap (λ (x : Measured). x.next) r, length-append (bytes t) (bytes u)) in
              let y : f.weight + a.weight ≡ weight d (translate t) + weight d (translate u) = omega (arith, ap (λ (x : Measured). x.weight) e, ap (λ (x : Measured). x.weight) r) in
              rw (x, y)

-- the size of a rule's tree
none_size : (z : Bool) (P : Option Term) → P ≡ none → None ≡ size_of (cond z P none)
unfolding size_of
none_size true P e = rw e
none_size false P e = refl

module _ (s : List ℕ) where
  pub too_long : 4096 < length s → None ≡ size_of (rule s)
  unfolding rule size_of
  too_long h = rw (lt-leb _ _ h)

  pub empty : length s ≡ 0 → None ≡ size_of (rule s)
  unfolding rule whole parse
  empty h = none_size (leb (length s) 4096) (whole (length s) (parse (length s) 0 s)) (go s h)
    where
      go : (s : List ℕ) → length s ≡ 0 → whole (length s) (parse (length s) 0 s) ≡ none
      go [] e = refl
      go (x ∷ s) e = absurd (omega arith)

  -- the term that is read, where the bytes are no rule, or are one
  no_rule : (P : Option Term) → parse (length s) 0 s ≡ P → whole (length s) P ≡ none → None ≡ size_of (rule s)
  unfolding rule
  no_rule P e h = none_size (leb (length s) 4096) (whole (length s) (parse (length s) 0 s)) (rw e h)

  first_byte : (t : Term) → parse (length s) 0 s ≡ some t → get_or s 0 0 ≡ get_or (bytes t) 0 0
  first_byte t e =
      let g = parse_sound (length s) 0 s t (omega arith) e in
      ap (λ (l : List ℕ). get_or l 0 0) g.0 ∙ get_or-append (bytes t) _ 0 0 (omega (arith, bytes_pos t))

  pub other_first : (get_or s 0 0 ≡ 2 → ⊥) → None ≡ size_of (rule s)
  unfolding whole bytes
  other_first h = go (parse (length s) 0 s) refl
    where
      go : (P : Option Term) → parse (length s) 0 s ≡ P → None ≡ size_of (rule s)
      go none e = no_rule none e refl
      go (some leaf) e = no_rule (some leaf) e refl
      go (some (app f a)) e = no_rule (some (app f a)) e refl
      go (some (abs b)) e = absurd (h (first_byte (abs b) e))
      go (some (var i)) e = no_rule (some (var i)) e refl

  module _ (m : Measured) (nz : length s ≡ 0 → ⊥) (M : (n : ℕ) → length s - 0 ≤ n → m ≡ measured 0 0 (parse n 0 (drop 0 s))) where
    read : m ≡ measured 0 0 (parse (length s) 0 s)
    read = M (length s) (omega arith)

    pub not_whole : (m.next ≡ length s → ⊥) → None ≡ size_of (rule s)
    unfolding whole measured
    not_whole h = go (parse (length s) 0 s) refl read
      where
        go : (P : Option Term) → parse (length s) 0 s ≡ P → m ≡ measured 0 0 P → None ≡ size_of (rule s)
        go none e r = no_rule none e refl
        go (some leaf) e r = no_rule (some leaf) e refl
        go (some (app f a)) e r = no_rule (some (app f a)) e refl
        go (some (abs b)) e r =
            let x : m.next ≡ 0 + length (bytes (abs b)) = ap (λ (x : Measured). x.next) r in
            no_rule (some (abs b)) e (rw (ne_eqb (length (bytes (abs b))) (length s) (λ q. h (omega arith))))
        go (some (var i)) e r = no_rule (some (var i)) e refl

    found_rule : length s ≤ 4096 → m.next ≡ length s → (b : Term) → parse (length s) 0 s ≡ some (abs b) → m ≡ measured 0 0 (some (abs b)) → rule s ≡ some (abs b)
    unfolding rule whole measured
    found_rule short h b e r =
        let x : length (bytes (abs b)) ≡ length s = omega (arith, ap (λ (x : Measured). x.next) r) in
        rw (le-leb _ _ short, e, eq-eqb _ _ x)

    pub is_rule : length s ≤ 4096 → get_or s 0 0 ≡ 2 → m.next ≡ length s → Some m.weight ≡ size_of (rule s)
    unfolding measured size_of bytes
    is_rule short two h = go (parse (length s) 0 s) refl read
      where
        go : (P : Option Term) → parse (length s) 0 s ≡ P → m ≡ measured 0 0 P → Some m.weight ≡ size_of (rule s)
        go none e r = absurd (nz (sym h ∙ ap (λ (x : Measured). x.next) r))
        go (some leaf) e r = absurd (omega (arith, first_byte leaf e))
        go (some (app f a)) e r = absurd (omega (arith, first_byte (app f a) e))
        go (some (abs b)) e r =
            let k = found_rule short h b e r in
            let i = (rule_exact s (abs b)).0 k in
            let e = ap (λ (x : Measured). x.weight) r ∙ weight_closed (translate (abs b)) (translate_within (abs b) 0 i.closed) ∙ sym (rule_size_lem i) in
            rw (k, e)
        go (some (var i)) e r = absurd (omega (arith, first_byte (var i) e))
