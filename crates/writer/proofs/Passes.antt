-- Laws of the two passes over a tree's digits, the one that measures and the one that writes. Assumes nothing.
use Prim.Native.Nat.{ℕ, zero, suc, ◌+◌, ◌-◌, ◌/◌, ◌≤◌, ◌<◌}
use mathlib.Core.Path.{◌≡◌, refl, sym, ap, ap₂, ◌∙◌, subst}
use mathlib.Core.List.{List, [], ◌∷◌, ◌++◌, append-nil}
use native.Mathlib.Omega.{arith}
use native.Mathlib.Numerals.{add-one}
use lib.ListN.{length, set, take, drop, length-set, take-append-drop}
use lib.Seq.{take-suc-set, drop-set-lt, drop-drop, append_snoc, length-take-le}
use Rattle.std.specs.Prelude.{Option, Some, None, Result, Ok, Err, IsOk, SomeIff, ok_or}
use Rattle.calculus.specs.Tree.{Tree}
use Rattle.table.specs.Nodes.{Sound, tree_at}
use Rattle.table.specs.Outcome.{frames}
use Rattle.table.specs.declared.Refusal.{Refusal}
use Rattle.table.specs.declared.Refusal.TheVariants.{Out}
use Rattle.ternary.specs.Text.{text, texts}
use Rattle.ternary.specs.Write.{Room, left, lacks, digits}
use Rattle.writer.specs.declared.Walk.{Walk}
use Rattle.writer.specs.declared.Digit.{Digit}
use Rattle.writer.specs.Code.{HoldsTrees, Stands, StandsSome, StandsAt, rest_of, DigitSays, FitsIn}
use Rattle.writer.proofs.Writing.{rest_one, rest_out}

-- a place on the way through the digits that lead to the room `goal`, with n out bytes left and a stack as long as s₀
pub record Walks (w : List ℕ) (u : ℕ) (s₀ s : List ℕ) (o : Option Walk) (n : ℕ) (goal : Room) : Type 0 where
  pub trees : List Tree
  pub stands : StandsAt w u s o trees
  pub rest : rest_of (frames s) trees n ≡ goal
  pub same : length s ≡ length s₀

pub walks_begin : (w : List ℕ) (u : ℕ) (s : List ℕ) (i n : ℕ) → Sound (record { words = w; used = u }) → i < u
    → Walks w u s s (Some (record { at = i; held = 0 })) n (digits (frames s) 0 (tree_at w i) n)
unfolding HoldsTrees StandsAt
walks_begin w u s i n f h =
    record {
      trees = tree_at w i ∷ [];
      stands = (tree_at w i, [], refl, record { fine = f; inside = h; tree = refl; held_is = refl; holds = tt; frames_held = omega arith });
      rest = rest_one (frames s) (tree_at w i) n;
      same = refl;
    }

-- no digit is left
pub walks_end : {w : List ℕ} {u : ℕ} {s₀ s : List ℕ} {n : ℕ} {goal : Room} → Walks w u s₀ s None n goal → left n ≡ goal
unfolding StandsAt rest_of
walks_end {s = s} {n} o = sym (ap (λ (ts : List Tree). rest_of (frames s) ts n) o.stands) ∙ o.rest

module _ {w : List ℕ} {u : ℕ} {s₀ s : List ℕ} {k : Walk} {n : ℕ} {goal : Room} (o : Walks w u s₀ s (Some k) n goal) where
  -- the trees that come next
  comes : (x : Tree) × (xs : List Tree) × (o.trees ≡ x ∷ xs) × Stands w u s k x xs
  unfolding StandsAt
  comes = o.stands

  pub stands_some : StandsSome w u s k
  stands_some = (comes.0, comes.1, comes.3)

  rest_is : rest_of (frames s) (comes.0 ∷ comes.1) n ≡ goal
  rest_is = sym (ap (λ (ts : List Tree). rest_of (frames s) ts n) comes.2) ∙ o.rest

  pub walks_out : n ≡ 0 → lacks Out ≡ goal
  walks_out e = sym (ap (rest_of (frames s) (comes.0 ∷ comes.1)) e ∙ rest_out (frames s) comes.0 comes.1) ∙ rest_is

  module _ (z : List ℕ) {r : Result Digit Refusal} (says : (x : Tree) (xs : List Tree) → Stands w u s k x xs → DigitSays w u s z x xs r) where
    -- what the digit says at this place, as it is q
    said : {q : Result Digit Refusal} → r ≡ q → DigitSays w u s z comes.0 comes.1 q
    said e = subst (λ (y : Result Digit Refusal). DigitSays w u s z comes.0 comes.1 y) e (says comes.0 comes.1 comes.3)

    pub walks_refused : {e : Refusal} → r ≡ Err e → {m : ℕ} → n ≡ suc m → lacks e ≡ goal
    unfolding DigitSays
    walks_refused q {m} h = sym (ap (rest_of (frames s) (comes.0 ∷ comes.1)) h ∙ said q m) ∙ rest_is

    module _ {d : Digit} (q : r ≡ Ok d) {m : ℕ} (h : n ≡ suc m) (e : length z ≡ length s) where
      pub walks_more : Walks w u s₀ z d.next m goal
      unfolding DigitSays
      walks_more =
          let t = said q in
          let f : frames z ≡ frames s = ap (λ (i : ℕ). i / 3) e in
          record {
            trees = t.0;
            stands = t.1;
            rest = rw f (sym (ap (rest_of (frames s) (comes.0 ∷ comes.1)) h ∙ t.2 m) ∙ rest_is);
            same = e ∙ o.same;
          }

      -- the texts of the trees that come next, with the digit before them
      pub walks_text : texts o.trees ≡ d.value ∷ texts walks_more.trees
      unfolding DigitSays walks_more
      walks_text = ap texts comes.2 ∙ (said q).3

-- ---- the pass that writes

-- a place on the way, with `done` digits of the text of t written, and the other out bytes as at the start
pub record Puts (w : List ℕ) (u : ℕ) (s₀ s : List ℕ) (t : Tree) (o₀ o : List ℕ) (k : Option Walk) (done : ℕ) : Type 0 where
  pub goal : Room
  pub walks : Walks w u s₀ s k (length o₀ - done) goal
  pub fits : FitsIn goal
  pub inside : done ≤ length o₀
  pub same_out : length o ≡ length o₀
  pub so_far : text t ≡ take done o ++ texts walks.trees
  pub others : drop done o ≡ drop done o₀

pub puts_begin : (w : List ℕ) (u : ℕ) (s : List ℕ) (i : ℕ) (o : List ℕ) → Sound (record { words = w; used = u }) → i < u
    → FitsIn (digits (frames s) 0 (tree_at w i) (length o)) → Puts w u s s (tree_at w i) o o (Some (record { at = i; held = 0 })) 0
unfolding texts walks_begin
puts_begin w u s i o f h r =
    record {
      goal = digits (frames s) 0 (tree_at w i) (length o - 0);
      walks = walks_begin w u s i (length o - 0) f h;
      fits = let n : length o ≡ length o - 0 = omega arith in rw (← n) r;
      inside = omega arith;
      same_out = refl;
      so_far = sym (append-nil (text (tree_at w i)));
      others = refl;
    }

-- one out byte is taken, where one is left
pub spend_one : (o : Option ℕ) (n : ℕ) {m : ℕ} → SomeIff o (1 ≤ n) (n - 1) → Ok m ≡ ok_or o Out → n ≡ suc m
spend_one o n h e = grind arith

pub spend_none : (o : Option ℕ) (n : ℕ) {e : Refusal} → SomeIff o (1 ≤ n) (n - 1) → Err e ≡ ok_or o Out → (n ≡ 0) × (e ≡ Out)
spend_none o n h e = grind arith

-- what fits lacks nothing
fits_not : {A : Type 0} {e : Refusal} {r : Room} → lacks e ≡ r → FitsIn r → A
unfolding FitsIn
fits_not q f = absurd (subst FitsIn (sym q) f)

-- all digits are written
pub puts_end : {w : List ℕ} {u : ℕ} {s₀ s : List ℕ} {t : Tree} {o₀ o : List ℕ} {done : ℕ} → Puts w u s₀ s t o₀ o None done
    → (done ≡ length (text t)) × (o ≡ text t ++ drop done o₀)
unfolding StandsAt texts
puts_end {t = t} {o₀} {o} {done} p =
    let e : text t ≡ take done o = p.so_far ∙ ap (λ (ts : List Tree). take done o ++ texts ts) p.walks.stands ∙ append-nil (take done o) in
    let l : length (take done o) ≡ done = length-take-le done o (omega (arith, p.inside, p.same_out)) in
    (sym (ap length e ∙ l), sym (take-append-drop done o) ∙ ap₂ (λ (a b : List ℕ). a ++ b) (sym e) p.others)

module _ {w : List ℕ} {u : ℕ} {s₀ s : List ℕ} {t : Tree} {o₀ o : List ℕ} {k : Walk} {done : ℕ} (p : Puts w u s₀ s t o₀ o (Some k) done) where
  some_left : 0 < length o₀ - done
  some_left = go (length o₀ - done) refl
    where
      go : (n : ℕ) → length o₀ - done ≡ n → 0 < n
      go zero e = fits_not (walks_out p.walks e) p.fits
      go (suc n) e = omega arith

  one_less : length o₀ - done ≡ suc (length o₀ - (done + 1))
  one_less = omega (arith, some_left)

  pub puts_room : done < length o
  puts_room = omega (arith, some_left, p.same_out)

  module _ (z : List ℕ) (r : Result Digit Refusal) (says : (x : Tree) (xs : List Tree) → Stands w u s k x xs → DigitSays w u s z x xs r) where
    -- the digit is not refused
    pub puts_digit : IsOk r
    puts_digit = go r refl
      where
        go : (y : Result Digit Refusal) → r ≡ y → IsOk y
        go (Ok d) q = refl
        go (Err e) q = fits_not (walks_refused p.walks z says q one_less) p.fits

    module _ {d : Digit} (q : r ≡ Ok d) (e : length z ≡ length s) where
      -- the text with one digit more
      longer : text t ≡ take (done + 1) (set o done d.value) ++ texts (walks_more p.walks z says q one_less e).trees
      longer =
          let l = texts (walks_more p.walks z says q one_less e).trees in
          p.so_far ∙ ap (λ (r : List ℕ). take done o ++ r) (walks_text p.walks z says q one_less e) ∙ sym (append_snoc (take done o) d.value l)
          ∙ ap (λ (r : List ℕ). r ++ l) (sym (take-suc-set o done d.value puts_room) ∙ ap (λ (n : ℕ). take n (set o done d.value)) (sym (add-one done)))

      pub puts_more : Puts w u s₀ z t o₀ (set o done d.value) d.next (done + 1)
      puts_more =
          record {
            goal = p.goal;
            walks = walks_more p.walks z says q one_less e;
            fits = p.fits;
            inside = omega (arith, some_left);
            same_out = length-set o done d.value ∙ p.same_out;
            so_far = longer;
            others = drop-set-lt (done + 1) o done d.value (omega arith) ∙ sym (drop-drop 1 done o) ∙ ap (drop 1) p.others ∙ drop-drop 1 done o₀;
          }
