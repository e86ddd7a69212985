-- Laws of the two searches through the places of a day. Assumes nothing.
use Prim.Native.Nat.{ℕ, ◌+◌, ◌≤◌, ◌<◌}
use mathlib.Core.Path.{◌≡◌, refl, ap, ◌∙◌}
use mathlib.Core.Bool.{Bool, true, false, cond}
use mathlib.Core.List.{List, [], ◌∷◌}
use mathlib.Core.Option.{none, some}
use lib.Dec.{leb, eqb}
use lib.ListN.{length, get_or, drop, drop_of_length-le}
use borrow.Author.Tests.{le-leb, lt-leb, eq-eqb, ne_eqb}
use Rattle.std.specs.Prelude.{Option, Some, None, option_map}
use Rattle.std.specs.List.{find}
use denote.Bor.{Bor}
use Rattle.week.specs.declared.Window.{Window}
use Rattle.week.specs.Weeks.{holds, packet_at}
use Rattle.table.proofs.Lists.{from_place}
use Rattle.windows.specs.Code.{found_of, first_from}

-- the packet of the first place that holds the minute
first_holding : (minute : ℕ) (day : List Window) → found_of (option_map (λ (w : Window). w.packet) (find (holds minute) day)) ≡ packet_at minute day
unfolding packet_at found_of
first_holding minute [] = refl
first_holding minute (w ∷ ws) = go (holds minute w) (first_holding minute ws)
  where
    go : (z : Bool) → found_of (option_map (λ (v : Window). v.packet) (find (holds minute) ws)) ≡ packet_at minute ws
        → found_of (option_map (λ (v : Window). v.packet) (cond z (Some w) (find (holds minute) ws))) ≡ cond z (some w.packet) (packet_at minute ws)
    go true e = refl
    go false e = e

pub packet_found : (minute : ℕ) (day : List Window) (o : Option (Bor Window)) {r : Option ℕ} → option_map (λ (b : Bor Window). b.now) o ≡ find (holds minute) day
    → r ≡ option_map (λ (b : Bor Window). b.now.packet) o → found_of r ≡ packet_at minute day
packet_found minute day o e q = ap found_of (q ∙ go o ∙ ap (option_map (λ (w : Window). w.packet)) e) ∙ first_holding minute day
  where
    go : (x : Option (Bor Window)) → option_map (λ (b : Bor Window). b.now.packet) x ≡ option_map (λ (w : Window). w.packet) (option_map (λ (b : Bor Window). b.now) x)
    go (Some b) = refl
    go None = refl

-- the search for the next beginning, from place i on
module _ (minute : ℕ) (day : List Window) (i : ℕ) (z : Window) (h : i < length day) where
  first_place : first_from minute (drop i day)
      ≡ cond (eqb (get_or day i z).packet 0) none (cond (leb minute (get_or day i z).first) (some (get_or day i z).first) (first_from minute (drop (i + 1) day)))
  unfolding first_from
  first_place = ap (first_from minute) (from_place day i z h)

  pub first_unused : (get_or day i z).packet ≡ 0 → first_from minute (drop i day) ≡ none
  first_unused a = first_place ∙ rw (eq-eqb _ _ a)

  pub first_here : ((get_or day i z).packet ≡ 0 → ⊥) → minute ≤ (get_or day i z).first → first_from minute (drop i day) ≡ some (get_or day i z).first
  first_here a b = first_place ∙ rw (ne_eqb _ _ a, le-leb _ _ b)

  pub first_later : ((get_or day i z).packet ≡ 0 → ⊥) → (get_or day i z).first < minute → first_from minute (drop i day) ≡ first_from minute (drop (i + 1) day)
  first_later a b = first_place ∙ rw (ne_eqb _ _ a, lt-leb _ _ b)

module _ (minute : ℕ) (day : List Window) (i : ℕ) (h : length day ≤ i) where
  pub first_end : first_from minute (drop i day) ≡ none
  unfolding first_from
  first_end = ap (first_from minute) (drop_of_length-le day h)
