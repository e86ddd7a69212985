-- What a list of calls keeps of the table, refused calls included. Assumes nothing.
use Prim.Native.Nat.{ℕ}
use mathlib.Core.Path.{◌≡◌, refl, ap, ◌∙◌}
use mathlib.Core.List.{List, [], ◌∷◌}
use native.Mathlib.Omega.{arith}
use Rattle.std.specs.Prelude.{Err, Ok, Result}
use Rattle.calculus.specs.Tree.{Tree}
use Rattle.calculus.specs.declared.Uses.{Uses}
use Rattle.table.specs.Nodes.{Table, Sound, sound}
use Rattle.table.specs.Refusal.{made_numbers, refused_numbers, made, not_made}
use Rattle.table.specs.Claims.{Has, Kept, Places}
use Rattle.table.specs.declared.Refusal.{Refusal}
use Rattle.table.specs.declared.Made.{Made}
use Rattle.table.proofs.Words.{sound_same}
use Rattle.table.proofs.Trees.{kept_refl, kept_trans}
use Rattle.table.proofs.Making.{stays}
use Rattle.ternary.specs.Read as ternary
use Rattle.ternary.proofs.Reading.{read_gives, read_refused}
use Rattle.translation.specs.Translate as translation
use Rattle.translation.proofs.Translates.{translate_gives, translate_refused}
use Rattle.applying.specs.Apply as applying
use Rattle.applying.specs.declared.Applied.{Applied as Answer}
use Rattle.applying.proofs.Follows.{apply_follows, apply_refused}
use Rattle.applying.specs.Apply.{applied, not_applied}
use Rattle.calls.specs.Calls.{Call, read, translate, apply, left, left_by}

-- z has all nodes of t as they were, and is sound where t is
pub record Goes (t z : Table) : Type 0 where
  pub kept : Kept t z
  pub sound_too : Sound t → Sound z

pub goes_refl : (t : Table) → Goes t t
goes_refl t = record { kept = kept_refl t; sound_too = λ s. s }

pub goes_trans : {t z y : Table} → Goes t z → Goes z y → Goes t y
goes_trans a b = record { kept = kept_trans a.kept b.kept; sound_too = λ s. b.sound_too (a.sound_too s) }

-- a table with the same nodes in use
kept_sound : {t z : Table} → Kept t z → z.used ≡ t.used → Sound t → Sound z
kept_sound {t} {z} k e s =
    record {
      short = omega (arith, s.short, k.same_length);
      within = omega (arith, s.within, k.same_length);
      unbroken = ap (sound z.words) e ∙ sound_same t.words z.words t.used k.below ∙ s.unbroken;
    }

-- a node that was placed, in a table that is sound then
placed_goes : {t z : Table} {v : ℕ} {x : Tree} → Places t (record { table = z; node = v }) x → Goes t z
placed_goes p = record { kept = p.extends.kept; sound_too = λ s. p.fine }

-- a refused call: `used` is as it was
refused_goes : {t : Table} {w : List ℕ} → Kept t (record { words = w; used = t.used }) → Goes t (record { words = w; used = t.used })
refused_goes k = record { kept = k; sound_too = kept_sound k refl }

-- what a call leaves where its answer is known
pub left_read : (s l : List ℕ) (t : Table) {v u : ℕ} → (ternary.read t.words t.used s l).answer ≡ made v u
    → left (read s l) t ≡ record { words = (ternary.read t.words t.used s l).table; used = u }
unfolding left made_numbers
left_read s l t e = rw e

pub left_translate : (s b : List ℕ) (t : Table) {v u : ℕ} → (translation.translate t.words t.used s b).answer ≡ made v u
    → left (translate s b) t ≡ record { words = (translation.translate t.words t.used s b).table; used = u }
unfolding left made_numbers
left_translate s b t e = rw e

pub left_apply : (s : List ℕ) (f n limit : ℕ) (t : Table) {v u j : ℕ} {i : Uses} → (applying.apply t.words t.used s f n limit).answer ≡ applied v u j i
    → left (apply s f n limit) t ≡ record { words = (applying.apply t.words t.used s f n limit).table; used = u }
unfolding left applying.applied_numbers
left_apply s f n limit t e = rw e

-- "Each call gets the words and the used that the last one left": no call, refused or not, takes a node's tree away.
pub left_goes : (c : Call) (t : Table) → Goes t (left c t)
unfolding left made_numbers applying.applied_numbers refused_numbers
left_goes (read s l) t = go (ternary.read t.words t.used s l).answer refl
  where
    go : (a : Result Made Refusal) → (ternary.read t.words t.used s l).answer ≡ a → Goes t (record { words = (ternary.read t.words t.used s l).table; used = (made_numbers t.used a).used })
    go (Ok m) e = placed_goes (read_gives t.words t.used s l m.node m.used e).places
    go (Err r) e = refused_goes (read_refused t.words t.used s l r e)
left_goes (translate s b) t = go (translation.translate t.words t.used s b).answer refl
  where
    go : (a : Result Made Refusal) → (translation.translate t.words t.used s b).answer ≡ a → Goes t (record { words = (translation.translate t.words t.used s b).table; used = (made_numbers t.used a).used })
    go (Ok m) e = placed_goes (translate_gives t.words t.used s b m.node m.used e).lays.places
    go (Err r) e = refused_goes (translate_refused t.words t.used s b r e)
left_goes (apply s f n limit) t = go (applying.apply t.words t.used s f n limit).answer refl
  where
    go : (a : Result Answer Refusal) → (applying.apply t.words t.used s f n limit).answer ≡ a
        → Goes t (record { words = (applying.apply t.words t.used s f n limit).table; used = (applying.applied_numbers t.used a).used })
    go (Ok m) e =
        let q = apply_follows t.words t.used s f n limit m.node m.used m.steps m.uses e in
        record { kept = q.extends.kept; sound_too = λ x. q.fine }
    go (Err r) e = refused_goes (apply_refused t.words t.used s f n limit r e)

pub left_by_goes : (cs : List Call) (t : Table) → Goes t (left_by cs t)
unfolding left_by
left_by_goes [] t = goes_refl t
left_by_goes (c ∷ cs) t = goes_trans (left_goes c t) (left_by_goes cs (left c t))

-- a node in use keeps its tree through a list of calls
pub stays_by : (cs : List Call) {t : Table} {i : ℕ} {x : Tree} → Sound t → Has t i x → Has (left_by cs t) i x
stays_by cs {t} s h = stays s (left_by_goes cs t).kept h
