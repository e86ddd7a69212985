-- Laws of a table's words: the node with given words, what is known of a sound node, a node's words once it is made, words cleared. Assumes nothing.
use Prim.Native.Nat.{ℕ, zero, suc, ◌+◌, ◌-◌, ◌*◌, ◌≤◌, ◌<◌}
use mathlib.Core.Path.{◌≡◌, refl, sym, ap, ◌∙◌}
use mathlib.Core.Bool.{Bool, true, false, cond, not, ◌&&◌, ◌||◌}
use mathlib.Core.List.{List, [], ◌∷◌, ◌++◌, append_assoc, append-nil}
use mathlib.Core.Option.{Option, none, some}
use native.Mathlib.Omega.{arith}
use native.Mathlib.Numerals.{add-one}
use lib.ListN.{length, get_or, set, take, drop, replicate, length-append, length-take, length-drop, length-set, length-replicate, get_or-replicate, take-append-drop, replicate-append-replicate, get_or-append}
use lib.Seq.{drop-length, drop-cons, set_at, get_or-set_same, get_or-set_other, get_or-take, get_or-drop, get_or-append-add, length-take-le}
use lib.Dec.{ltb, eqb}
use borrow.Author.Tests.{ltb-false, eqb-true, eqb-false, le-ltb, eq-eqb, ne_eqb, not-true}
use Rattle.table.specs.Nodes.{first, second, broken, has_words, find, is_none, sound, cleared}
use Rattle.table.specs.Claims.{Unbroken}

-- What follows where `cc` finds two constructors said to be equal: it proves 0 ≡ 1 from them.
pub zero_one : {A : Type 0} → ◌≡◌ {A = ℕ} 0 1 → A
zero_one e = absurd (omega arith)

-- a conjunction that holds, and a disjunction that does not
pub and_left : (a b : Bool) → (a && b) ≡ true → a ≡ true
and_left true b e = refl
and_left false b e = e

pub and_right : (a b : Bool) → (a && b) ≡ true → b ≡ true
and_right true b e = e
and_right false true e = refl
and_right false false e = e

pub or_left : (a b : Bool) → (a || b) ≡ false → a ≡ false
or_left true b e = e
or_left false b e = refl

pub or_right : (a b : Bool) → (a || b) ≡ false → b ≡ false
or_right true true e = e
or_right true false e = refl
or_right false b e = e

-- two Bools that are told apart
pub told_apart : {A : Type 0} {x : Bool} → x ≡ true → x ≡ false → A
told_apart p q = zero_one (cc)

-- the two words of a node
pub same_first : (w : List ℕ) (i a b : ℕ) → has_words w i a b ≡ true → first w i ≡ a
unfolding has_words
same_first w i a b e = eqb-true (first w i) a (and_left (eqb (first w i) a) (eqb (second w i) b) e)

pub same_second : (w : List ℕ) (i a b : ℕ) → has_words w i a b ≡ true → second w i ≡ b
unfolding has_words
same_second w i a b e = eqb-true (second w i) b (and_right (eqb (first w i) a) (eqb (second w i) b) e)

pub has_words_lem : (w : List ℕ) (i a b : ℕ) → first w i ≡ a → second w i ≡ b → has_words w i a b ≡ true
unfolding has_words
has_words_lem w i a b p q = rw (eq-eqb (first w i) a p, eq-eqb (second w i) b q)

-- where none has the words, none is found
pub find_none : (w : List ℕ) (u a b : ℕ) → ((i : ℕ) → i < u → first w i ≡ a → second w i ≡ b → ⊥) → find w u a b ≡ none
unfolding find
find_none w zero a b h = refl
find_none w (suc k) a b h = go (has_words w k a b) refl (find_none w k a b (λ i l. h i (omega arith)))
  where
    go : (z : Bool) → has_words w k a b ≡ z → find w k a b ≡ none → cond z (some k) (find w k a b) ≡ none
    go true e r = absurd (h k (omega arith) (same_first w k a b e) (same_second w k a b e))
    go false e r = r

-- what is found is a used node with the words
pub record Finds (w : List ℕ) (u a b n : ℕ) : Type 0 where
  pub inside : n < u
  pub first_is : first w n ≡ a
  pub second_is : second w n ≡ b

pub finds : (w : List ℕ) (u a b n : ℕ) → find w u a b ≡ some n → Finds w u a b n
unfolding find
finds w zero a b n e = zero_one (cc)
finds w (suc k) a b n e = go (has_words w k a b) refl e (λ f. finds w k a b n f)
  where
    go : (z : Bool) → has_words w k a b ≡ z → cond z (some k) (find w k a b) ≡ some n → (find w k a b ≡ some n → Finds w k a b n) → Finds w (suc k) a b n
    go true s f r =
        let q : k ≡ n = cc in
        rw (← q) (record { inside = omega arith; first_is = same_first w k a b s; second_is = same_second w k a b s })
    go false s f r =
        let x = r f in
        record { inside = omega (arith, x.inside); first_is = x.first_is; second_is = x.second_is }

-- where none is found, none has the words
pub none_has : (w : List ℕ) (u a b : ℕ) → find w u a b ≡ none → (i : ℕ) → i < u → first w i ≡ a → second w i ≡ b → ⊥
unfolding find
none_has w zero a b e i h p q = omega arith
none_has w (suc k) a b e i h p q = go (has_words w k a b) refl e (λ f l. none_has w k a b f i l p q)
  where
    go : (z : Bool) → has_words w k a b ≡ z → cond z (some k) (find w k a b) ≡ none → (find w k a b ≡ none → i < k → ⊥) → ⊥
    go true s f r = zero_one (cc)
    go false s f r = at (eqb i k) refl
      where
        at : (z : Bool) → eqb i k ≡ z → ⊥
        at true z = told_apart (has_words_lem w k a b (rw (← eqb-true i k z) p) (rw (← eqb-true i k z) q)) s
        at false z = let n : (i ≡ k → ⊥) = eqb-false i k z in r f (omega arith)

pub is_none_lem : (o : Option ℕ) → is_none o ≡ true → o ≡ none
unfolding is_none
is_none_lem none e = refl
is_none_lem (some n) e = zero_one (cc)

-- the node found in two tables that agree on their words
pub find_same : (w z : List ℕ) (u a b : ℕ) → ((i : ℕ) → i < u * 2 → get_or z i 0 ≡ get_or w i 0) → find z u a b ≡ find w u a b
unfolding find has_words
find_same w z zero a b h = refl
find_same w z (suc k) a b h =
    let p : get_or z (k * 2) 0 ≡ get_or w (k * 2) 0 = h (k * 2) (omega arith) in
    let q : get_or z (k * 2 + 1) 0 ≡ get_or w (k * 2 + 1) 0 = h (k * 2 + 1) (omega arith) in
    rw (p, q, find_same w z k a b (λ i l. h i (omega arith)))

pub unbroken : (i a b : ℕ) → broken i a b ≡ false → Unbroken i a b
unfolding broken
unbroken i a b e =
    let r = or_right (eqb a 0 && not (eqb b 0)) (ltb i a || ltb i b) e in
    record {
      first_in = ltb-false i a (or_left (ltb i a) (ltb i b) r);
      second_in = ltb-false i b (or_right (ltb i a) (ltb i b) r);
      no_gap = gap (eqb b 0) refl (or_left (eqb a 0 && not (eqb b 0)) (ltb i a || ltb i b) e);
    }
  where
    gap : (z : Bool) → eqb b 0 ≡ z → (eqb a 0 && not z) ≡ false → a ≡ 0 → b ≡ 0
    gap true q h o = eqb-true b 0 q
    gap false q h o = let n : ◌≡◌ {A = ℕ} 0 1 = cc (eq-eqb a 0 o) in absurd (omega arith)

pub not_broken : (i a b : ℕ) → Unbroken i a b → broken i a b ≡ false
unfolding broken
not_broken i a b o = rw (le-ltb i a o.first_in, le-ltb i b o.second_in) (go (eqb a 0) refl)
  where
    go : (z : Bool) → eqb a 0 ≡ z → ((z && not (eqb b 0)) || false) ≡ false
    go true e = rw (eq-eqb b 0 (o.no_gap (eqb-true a 0 e)))
    go false e = refl

-- what is known of the last node of a sound table, and of those before it
pub record LastSound (w : List ℕ) (k : ℕ) : Type 0 where
  pub unbroken_last : broken k (first w k) (second w k) ≡ false
  pub only : find w k (first w k) (second w k) ≡ none
  pub before : sound w k ≡ true

pub last_sound : (w : List ℕ) (k : ℕ) → sound w (suc k) ≡ true → LastSound w k
unfolding sound
last_sound w k e =
    let x = not (broken k (first w k) (second w k)) in
    let y = is_none (find w k (first w k) (second w k)) in
    let r = and_right x (y && sound w k) e in
    record {
      unbroken_last = borrow.Author.Tests.not-true _ (and_left x (y && sound w k) e);
      only = is_none_lem _ (and_left y (sound w k) r);
      before = and_right y (sound w k) r;
    }

pub sound_more : (w : List ℕ) (k : ℕ) → LastSound w k → sound w (k + 1) ≡ true
unfolding sound is_none
sound_more w k x = rw (add-one k, x.unbroken_last, x.only, x.before)

-- each node of a sound table
pub sound_below : (w : List ℕ) (u i : ℕ) → i < u → sound w u ≡ true → LastSound w i
sound_below w zero i h e = absurd (omega arith)
sound_below w (suc k) i h e = go (eqb i k) refl (λ (l : i < k). sound_below w k i l (last_sound w k e).before)
  where
    go : (z : Bool) → eqb i k ≡ z → (i < k → LastSound w i) → LastSound w i
    go true z r = rw (eqb-true i k z) (last_sound w k e)
    go false z r = let n : (i ≡ k → ⊥) = eqb-false i k z in r (omega arith)

pub sound_node : (w : List ℕ) (u i : ℕ) → i < u → sound w u ≡ true → Unbroken i (first w i) (second w i)
sound_node w u i h e = unbroken i (first w i) (second w i) (sound_below w u i h e).unbroken_last

-- "two equal used nodes": nodes with the same words are one in a sound table
pub same_words : (w : List ℕ) (u i j : ℕ) → sound w u ≡ true → i < u → j < u → first w i ≡ first w j → second w i ≡ second w j → i ≡ j
same_words w u i j e h k p q = go (ltb i j) (ltb j i) refl refl
  where
    go : (y z : Bool) → ltb i j ≡ y → ltb j i ≡ z → i ≡ j
    go true z l m = absurd (none_has w j (first w j) (second w j) (sound_below w u j k e).only i (borrow.Author.Tests.ltb-true i j l) p q)
    go false true l m = absurd (none_has w i (first w i) (second w i) (sound_below w u i h e).only j (borrow.Author.Tests.ltb-true j i m) (sym p) (sym q))
    go false false l m = omega (arith, ltb-false i j l, ltb-false j i m)

-- the one node with the words is the node found
pub find_has : (w : List ℕ) (u a b n : ℕ) → sound w u ≡ true → n < u → first w n ≡ a → second w n ≡ b → find w u a b ≡ some n
find_has w u a b n e h p q = go (find w u a b) refl
  where
    go : (o : Option ℕ) → find w u a b ≡ o → o ≡ some n
    go none f = absurd (none_has w u a b f n h p q)
    go (some m) f = let x = finds w u a b m f in ap some (same_words w u m n e x.inside h (x.first_is ∙ sym p) (x.second_is ∙ sym q))

-- the nodes below u are sound in two tables that agree on their words
pub sound_same : (w z : List ℕ) (u : ℕ) → ((i : ℕ) → i < u * 2 → get_or z i 0 ≡ get_or w i 0) → sound z u ≡ sound w u
unfolding sound
sound_same w z zero h = refl
sound_same w z (suc k) h =
    let a : get_or z (k * 2) 0 ≡ get_or w (k * 2) 0 = h (k * 2) (omega arith) in
    let b : get_or z (k * 2 + 1) 0 ≡ get_or w (k * 2 + 1) 0 = h (k * 2 + 1) (omega arith) in
    rw (a, b, find_same w z k (first w k) (second w k) (λ i l. h i (omega arith)), sound_same w z k (λ i l. h i (omega arith)))

-- the words of a node that is written, and all others
abbrev pub wrote : List ℕ → ℕ → ℕ → ℕ → List ℕ
wrote w i a b = set (set w (i * 2) a) (i * 2 + 1) b

pub wrote_other : (w : List ℕ) (i a b j : ℕ) → (j ≡ i * 2 → ⊥) → (j ≡ i * 2 + 1 → ⊥) → get_or (wrote w i a b) j 0 ≡ get_or w j 0
wrote_other w i a b j h k = get_or-set_other (set w (i * 2) a) (i * 2 + 1) j b 0 k ∙ get_or-set_other w (i * 2) j a 0 h

pub wrote_first : (w : List ℕ) (i a b : ℕ) → i * 2 + 1 < length w → first (wrote w i a b) i ≡ a
wrote_first w i a b h =
    get_or-set_other (set w (i * 2) a) (i * 2 + 1) (i * 2) b 0 (λ e. omega arith) ∙ get_or-set_same w (i * 2) a 0 (omega arith)

pub wrote_second : (w : List ℕ) (i a b : ℕ) → i * 2 + 1 < length w → second (wrote w i a b) i ≡ b
wrote_second w i a b h = get_or-set_same (set w (i * 2) a) (i * 2 + 1) b 0 (simp length-set (omega arith))

pub length_wrote : (w : List ℕ) (i a b : ℕ) → length (wrote w i a b) ≡ length w
length_wrote w i a b = length-set (set w (i * 2) a) (i * 2 + 1) b ∙ length-set w (i * 2) a

pub sound_wrote : (w : List ℕ) (u a b : ℕ) → u * 2 + 1 < length w → Unbroken u a b → find w u a b ≡ none → sound w u ≡ true → sound (wrote w u a b) (u + 1) ≡ true
sound_wrote w u a b h k f e =
    let p = wrote_first w u a b h in
    let q = wrote_second w u a b h in
    let o : ((i : ℕ) → i < u * 2 → get_or (wrote w u a b) i 0 ≡ get_or w i 0) = λ i l. wrote_other w u a b i (λ r. omega arith) (λ r. omega arith) in
    sound_more (wrote w u a b) u
    (record {
      unbroken_last = rw (p, q) (not_broken u a b k);
      only = rw (p, q) (find_same w (wrote w u a b) u a b o ∙ f);
      before = sound_same w (wrote w u a b) u o ∙ e;
    })

-- words cleared
pub cleared_none : (w : List ℕ) (a : ℕ) → cleared w a a ≡ w
cleared_none w a = let q : a - a ≡ 0 = omega arith in rw q (take-append-drop a w)

pub length_cleared : (w : List ℕ) (a b : ℕ) → a ≤ b → b ≤ length w → length (cleared w a b) ≡ length w
length_cleared w a b h k = simp (length-append, length-take, length-replicate, length-drop) (omega arith)

pub cleared_more : (w : List ℕ) (a i : ℕ) → a ≤ i → i < length w → set (cleared w a i) i 0 ≡ cleared w a (i + 1)
cleared_more w a i h k =
    let p : List ℕ = take a w ++ replicate (i - a) 0 in
    let e : cleared w a i ≡ p ++ (get_or w i 0 ∷ drop (suc i) w) = rw (drop-cons w i 0 k) (sym (append_assoc (take a w) (replicate (i - a) 0) (get_or w i 0 ∷ drop (suc i) w))) in
    let l : length p ≡ i = simp (length-append, length-take, length-replicate) (omega arith) in
    let m : (i - a) + 1 ≡ i + 1 - a = omega arith in
    let r : ◌≡◌ {A = List ℕ} (replicate (i + 1 - a) 0) (replicate (i - a) 0 ++ (0 ∷ [])) = rw (← m) (sym (replicate-append-replicate (i - a) 1 0)) in
    ap (λ (x : List ℕ). set x i 0) e ∙ set_at p (get_or w i 0) (drop (suc i) w) 0 i l ∙ rw (r, add-one) (simp append_assoc)

pub cleared_all : (w : List ℕ) → cleared w 0 (length w) ≡ replicate (length w) 0
cleared_all w =
    let q : length w - 0 ≡ length w = omega arith in
    rw (q, drop-length w) (append-nil (replicate (length w) 0))

pub cleared_below : (w : List ℕ) (a b i : ℕ) → a ≤ length w → i < a → get_or (cleared w a b) i 0 ≡ get_or w i 0
cleared_below w a b i h k =
    get_or-append (take a w) (replicate (b - a) 0 ++ drop b w) 0 i (simp length-take (omega arith)) ∙ get_or-take a w i 0 k

pub cleared_inside : (w : List ℕ) (a b i : ℕ) → a ≤ i → i < b → b ≤ length w → get_or (cleared w a b) i 0 ≡ 0
cleared_inside w a b i h k l =
    let n : length (take a w) ≡ a = length-take-le a w (omega arith) in
    let e : length (take a w) + (i - a) ≡ i = omega arith in
    ap (λ (j : ℕ). get_or (cleared w a b) j 0) (sym e)
    ∙ get_or-append-add (take a w) (replicate (b - a) 0 ++ drop b w) (i - a) 0
    ∙ get_or-append (replicate (b - a) 0) (drop b w) 0 (i - a) (simp length-replicate (omega arith))
    ∙ get_or-replicate (b - a) (i - a) 0 0 (omega arith)

pub cleared_beyond : (w : List ℕ) (a b i : ℕ) → a ≤ b → b ≤ i → b ≤ length w → get_or (cleared w a b) i 0 ≡ get_or w i 0
cleared_beyond w a b i h k l =
    let n : length (take a w) ≡ a = length-take-le a w (omega arith) in
    let z : List ℕ = replicate (b - a) 0 in
    let m : length z ≡ b - a = length-replicate (b - a) 0 in
    let e : length (take a w) + (length z + (i - b)) ≡ i = omega arith in
    let f : b + (i - b) ≡ i = omega arith in
    ap (λ (j : ℕ). get_or (cleared w a b) j 0) (sym e)
    ∙ get_or-append-add (take a w) (replicate (b - a) 0 ++ drop b w) (length z + (i - b)) 0
    ∙ get_or-append-add z (drop b w) (i - b) 0
    ∙ get_or-drop b w (i - b) 0
    ∙ ap (λ (j : ℕ). get_or w j 0) f

-- a lent stack that was written meanwhile, and is cleared whole
pub cleared_zeros : (s z : List ℕ) (n : ℕ) → length s ≡ length z → n ≡ length z → cleared s 0 n ≡ replicate (length z) 0
cleared_zeros s z n a b = ap (cleared s 0) (b ∙ sym a) ∙ cleared_all s ∙ ap (λ (k : ℕ). replicate k 0) a
