-- The bytes of a term are no other's, and the reader of bytes finds a rule's term exactly where there is one. Assumes nothing.
use Prim.Native.Nat.{ℕ, zero, suc, ◌+◌, ◌≤◌}
use mathlib.Core.Path.{◌≡◌, refl, ap}
use mathlib.Core.Logic.{◌↔◌}
use mathlib.Core.Bool.{Bool, true, false, cond}
use mathlib.Core.List.{List, [], ◌∷◌, ◌++◌, append_assoc, append-nil}
use mathlib.Core.Option.{Option, none, some}
use native.Mathlib.Omega.{arith}
use lib.ListN.{length, drop, length-append}
use lib.Seq.{drop-drop, drop-length, drop-append_seam}
use lib.Dec.{ltb, leb, eqb}
use borrow.Author.Tests.{ltb-true, lt-ltb, leb-true, le-leb, eqb-true, eq-eqb}
use Rattle.calculus.specs.Term.{Term, leaf, app, abs, var, ClosedUnder, nesting, parameters}
use Rattle.calculus.specs.Bytes.{bytes, IsRule, abstraction, application, argument, parse, whole, rule}

-- A term has a byte.
pub bytes_pos : (t : Term) → 1 ≤ length (bytes t)
unfolding bytes
bytes_pos leaf = omega arith
bytes_pos (app f a) = omega arith
bytes_pos (abs b) = omega arith
bytes_pos (var i) = omega arith

-- a list begins with the bytes of a term, and others follow
data Begins : List ℕ → Term → List ℕ → Type 0 where
  with_leaf : {r : List ℕ} → Begins (0 ∷ r) leaf r
  with_app : {l m r : List ℕ} {f a : Term} → Begins l f m → Begins m a r → Begins (1 ∷ l) (app f a) r
  with_abs : {l r : List ℕ} {b : Term} → Begins l b r → Begins (2 ∷ l) (abs b) r
  with_var : {r : List ℕ} {i : ℕ} → Begins (3 ∷ i ∷ r) (var i) r

begins : (t : Term) (r : List ℕ) → Begins (bytes t ++ r) t r
unfolding bytes
begins leaf r = with_leaf
begins (app f a) r = rw append_assoc (with_app (begins f (bytes a ++ r)) (begins a r))
begins (abs b) r = with_abs (begins b r)
begins (var i) r = with_var

begins_unique : {l r s : List ℕ} {t u : Term} → Begins l t r → Begins l u s → (t ≡ u) × (r ≡ s)
begins_unique with_leaf with_leaf = (refl, refl)
begins_unique (with_app x y) (with_app p q) =
    let i = begins_unique x p in
    let j = begins_unique y (rw (← i.1) at q) in
    (cc, j.1)
begins_unique (with_abs x) (with_abs p) = let i = begins_unique x p in (cc, i.1)
begins_unique with_var with_var = (refl, refl)

-- "A term in bytes" (Translation) ends by itself: a list begins with the bytes of one term at most.
pub bytes_prefix : (t u : Term) (r s : List ℕ) → bytes t ++ r ≡ bytes u ++ s → (t ≡ u) × (r ≡ s)
bytes_prefix t u r s e = begins_unique (begins t r) (rw e (begins u s))

-- "A term in bytes" (Translation) is one term: two terms with the same bytes are equal.
pub bytes_unique : (t u : Term) → bytes t ≡ bytes u → t ≡ u
bytes_unique t u e = (bytes_prefix t u [] [] (cc)).0

-- what is read under d abstractions stands at the list's beginning, and its variables and nesting are as a rule's must be
abbrev Good : ℕ → List ℕ → Option Term → Type 0
Good d l none = Unit {0}
Good d l (some t) = (l ≡ bytes t ++ drop (length (bytes t)) l) × ClosedUnder d t × (d + nesting t ≤ 16)

good_abs : (d : ℕ) (l : List ℕ) (z : Bool) → ltb d 16 ≡ z → (P : Option Term) → (suc d ≤ 16 → Good (suc d) l P)
    → Good d (2 ∷ l) (cond z (abstraction P) none)
unfolding abstraction bytes nesting
good_abs d l true e none h = tt
good_abs d l true e (some b) h = let g = h (ltb-true d 16 e) in (ap (λ (k : List ℕ). 2 ∷ k) g.0, g.1, omega arith)
good_abs d l false e P h = tt

good_var : (d i : ℕ) (l : List ℕ) (z : Bool) → ltb i d ≡ z → d ≤ 16 → Good d (3 ∷ i ∷ l) (cond z (some (var i)) none)
unfolding bytes nesting
good_var d i l true e h = (refl, ltb-true i d e, omega arith)
good_var d i l false e h = tt

good_app : (d : ℕ) (l : List ℕ) (f : Term) → Good d l (some f) → (Q : Option Term) → Good d (drop (length (bytes f)) l) Q
    → Good d (1 ∷ l) (application f Q)
unfolding application bytes nesting
good_app d l f h none g = tt
good_app d l f h (some a) g =
    let x = append_assoc (bytes f) (bytes a) (drop (length (bytes f ++ bytes a)) l) in
    let y = drop-drop (length (bytes a)) (length (bytes f)) l in
    let z = length-append (bytes f) (bytes a) in
    (cc, (h.1, g.1), omega arith)

good_argument : (d : ℕ) (l : List ℕ) (read : List ℕ → Option Term) → ((k : List ℕ) → Good d k (read k)) → (P : Option Term) → Good d l P
    → Good d (1 ∷ l) (argument read l P)
unfolding argument
good_argument d l read g none h = tt
good_argument d l read g (some f) h = good_app d l f h (read (drop (length (bytes f)) l)) (g (drop (length (bytes f)) l))

parse_good : (n d : ℕ) (l : List ℕ) → d ≤ 16 → Good d l (parse n d l)
unfolding parse bytes nesting
parse_good zero d l h = tt
parse_good (suc n) d [] h = tt
parse_good (suc n) d (zero ∷ l) h = (refl, tt, omega arith)
parse_good (suc n) d (suc zero ∷ l) h = good_argument d l (parse n d) (λ k. parse_good n d k h) (parse n d l) (parse_good n d l h)
parse_good (suc n) d (suc (suc zero) ∷ l) h = good_abs d l (ltb d 16) refl (parse n (suc d) l) (parse_good n (suc d) l)
parse_good (suc n) d (suc (suc (suc zero)) ∷ []) h = tt
parse_good (suc n) d (suc (suc (suc zero)) ∷ (i ∷ l)) h = good_var d i l (ltb i d) refl h
parse_good (suc n) d (suc (suc (suc (suc k))) ∷ l) h = tt

-- The term that is read is the list's beginning, has no variable from outside the d abstractions around it, and keeps to 16 nested with them.
pub parse_sound : (n d : ℕ) (l : List ℕ) (t : Term) → d ≤ 16 → parse n d l ≡ some t
    → (l ≡ bytes t ++ drop (length (bytes t)) l) × ClosedUnder d t × (d + nesting t ≤ 16)
parse_sound n d l t h e = rw e at (parse_good n d l h)

-- A list that begins with the bytes of such a term is read as that term.
pub parse_bytes : (n d : ℕ) (t : Term) (r : List ℕ) → length (bytes t) ≤ n → ClosedUnder d t → d + nesting t ≤ 16
    → parse n d (bytes t ++ r) ≡ some t
unfolding parse bytes nesting argument application abstraction
parse_bytes zero d t r n≥ h k = absurd (omega (arith, bytes_pos t))
parse_bytes (suc n) d leaf r n≥ h k = refl
parse_bytes (suc n) d (app f a) r n≥ h k =
    let len = length-append (bytes f) (bytes a) in
    let x = parse_bytes n d f (bytes a ++ r) (omega arith) h.0 (omega arith) in
    let y = parse_bytes n d a r (omega arith) h.1 (omega arith) in
    simp (append_assoc, drop-append_seam, x, y)
parse_bytes (suc n) d (abs b) r n≥ h k = rw (lt-ltb d 16 (omega arith), parse_bytes n (suc d) b r (omega arith) h (omega arith))
parse_bytes (suc n) d (var i) r n≥ h k = rw (lt-ltb i d h)

-- what is found is a rule's term
abbrev GoodRule : List ℕ → Option Term → Type 0
GoodRule l none = Unit {0}
GoodRule l (some t) = IsRule l t

good_whole : (l : List ℕ) (P : Option Term) → length l ≤ 4096 → Good 0 l P → GoodRule l (whole (length l) P)
unfolding whole
good_whole l none h g = tt
good_whole l (some leaf) h g = tt
good_whole l (some (app f a)) h g = tt
good_whole l (some (abs b)) h g = go (eqb (length (bytes (abs b))) (length l)) refl
  where
    go : (z : Bool) → eqb (length (bytes (abs b))) (length l) ≡ z → GoodRule l (cond z (some (abs b)) none)
    go true e =
        let x = eqb-true (length (bytes (abs b))) (length l) e in
        let y = drop-length l in
        let z = append-nil (bytes (abs b)) in
        record { body = b; begins = refl; whole = cc; closed = g.1; short = h; shallow = omega arith }
    go false e = tt
good_whole l (some (var i)) h g = tt

rule_good : (l : List ℕ) → GoodRule l (rule l)
unfolding rule
rule_good l = go (leb (length l) 4096) refl
  where
    go : (z : Bool) → leb (length l) 4096 ≡ z → GoodRule l (cond z (whole (length l) (parse (length l) 0 l)) none)
    go true e = good_whole l (parse (length l) 0 l) (leb-true _ _ e) (parse_good (length l) 0 l (omega arith))
    go false e = tt

rule_found : {l : List ℕ} {t : Term} → IsRule l t → rule l ≡ some t
unfolding rule whole
rule_found {l} {t} h =
    let x = parse_bytes (length l) 0 t [] (omega (arith, ap length h.whole)) h.closed (omega arith) in
    let p : parse (length l) 0 l ≡ some t = cc (append-nil (bytes t)) in
    let q : length (bytes (abs h.body)) ≡ length l = cc in
    rw (le-leb _ _ h.short, p, h.begins, eq-eqb _ _ q)

-- "A rule is a whole term that begins with 2, has no variable whose abstraction lies outside it, has at most 4,096 bytes and no more than 16
-- abstractions nested." (Translation) The reader of bytes finds a term exactly where it is a rule's.
pub rule_exact : (l : List ℕ) (t : Term) → (rule l ≡ some t) ↔ IsRule l t
rule_exact l t = (λ e. rw e at (rule_good l), rule_found)

-- a rule has a leading parameter
pub rule_leads : (b : List ℕ) {t : Term} → rule b ≡ some t → 1 ≤ parameters t
unfolding parameters
rule_leads b {t} e = let r = (rule_exact b t).0 e in rw r.begins (omega arith)
