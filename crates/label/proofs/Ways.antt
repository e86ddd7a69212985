-- Laws of Label's nodes, part by part, and of what its code answers. Assumes nothing.
use Prim.Native.Nat.{ℕ, ◌+◌, ◌≤◌, ◌<◌}
use mathlib.Core.Path.{◌≡◌, refl, sym, ap, ◌∙◌}
use mathlib.Core.List.{List, []}
use native.Mathlib.Omega.{arith}
use Rattle.std.specs.Prelude.{Option, Some, None, Result}
use Rattle.table.specs.Nodes.{Table, Placed, Making, got, full, Sound, make, and_then}
use Rattle.table.specs.Outcome.{Outcome, whole, placed, stopped, settled}
use Rattle.table.specs.declared.Made.{Made}
use Rattle.table.specs.declared.Refusal.{Refusal}
use Rattle.table.specs.Claims.{Unbroken}
use Rattle.table.proofs.Making.{stem_words, fork_words, make_places, and_got, then_got, then_full}
use Rattle.index.specs.Index.{Ready}
use Rattle.index.specs.Code.{got_by, ReadyGot, ReadyMade}
use Rattle.index.proofs.Ready.{node_got, node_ready, full_got, settled_ready}
use Rattle.labelled.specs.Label.{nodes, label_rule}
use Rattle.label.specs.Code.{constant_nodes, spread_nodes, rule_nodes, whole_nodes}

-- a node in use, in a table that was t
pub record Stands (t : Table) (m : Placed) : Type 0 where
  pub fine : Sound m.table
  pub inside : m.node < m.table.used
  pub up : t.used ≤ m.table.used

after : {t : Table} {m n : Placed} → Stands t m → Stands m.table n → Stands t n
after p q = record { fine = q.fine; inside = q.inside; up = omega (arith, p.up, q.up) }

pub one_stands : {t : Table} → Sound t → (a b : ℕ) → Unbroken t.used a b → {m : Placed} → make t a b ≡ got m → Stands t m
one_stands s a b o e = let p = make_places s a b o e in record { fine = p.fine; inside = p.inside; up = p.extends.kept.up }

pub constant_stands : {t : Table} → Sound t → (leaf : ℕ) → leaf < t.used → {m : Placed} → constant_nodes t leaf ≡ got m → Stands t m
unfolding constant_nodes
constant_stands {t} s leaf h e =
    let g = and_got (make t (leaf + 1) 0) (λ n. make n.table (leaf + 1) (n.node + 1)) e in
    let p = one_stands s (leaf + 1) 0 (stem_words h) g.first_is in
    after p (one_stands p.fine (leaf + 1) (g.first.node + 1) (fork_words (omega (arith, p.up)) p.inside) g.rest)

spread_stands : {t : Table} → Sound t → (i y : ℕ) → i < t.used → y < t.used → {m : Placed} → spread_nodes t i y ≡ got m → Stands t m
unfolding spread_nodes
spread_stands {t} s i y h k e =
    let g = and_got (make t (i + 1) 0) (λ n. make n.table (n.node + 1) (y + 1)) e in
    let p = one_stands s (i + 1) 0 (stem_words h) g.first_is in
    after p (one_stands p.fine (g.first.node + 1) (y + 1) (fork_words p.inside (omega (arith, p.up))) g.rest)

pub rule_stands : {t : Table} → Sound t → (leaf f : ℕ) → leaf < t.used → f < t.used → {m : Placed} → rule_nodes t leaf f ≡ got m → Stands t m
unfolding rule_nodes
rule_stands {t} s leaf f h k e =
    let g = and_got (constant_nodes t leaf) (λ n. spread_nodes n.table f n.node) e in
    let p = constant_stands s leaf h g.first_is in
    after p (spread_stands p.fine f g.first.node (omega (arith, p.up)) p.inside g.rest)

-- what was made is a node in use, and the table is ready for the next
pub record Onward (u : ℕ) (m : Made) (z : List ℕ) (s : ℕ) (ix : List ℕ) : Type 0 where
  pub ready : Ready z m.used s ix
  pub inside : m.node < m.used
  pub up : u ≤ m.used
  pub most : m.used ≤ 65536

pub onward : {t : Table} {x : Making} → ((n : Placed) → x ≡ got n → Stands t n) → {r : Option Made} {z : List ℕ} {s : ℕ} {ix : List ℕ}
    → (got_by r z ≡ x) × ReadyGot r z s ix → {m : Made} → r ≡ Some m → Onward t.used m z s ix
onward stands e q =
    let d = stands _ (node_got e.0 q) in
    let y = node_ready e.1 q in
    record { ready = y; inside = d.inside; up = d.up; most = omega (arith, y.fine.short, y.fine.within) }

-- a further node, once there is the one before, or no place for that
module _ (r : Option Made) (w : List ℕ) (x : Making) (next : Placed → Making) (e : got_by r w ≡ x) where
  pub no_place : r ≡ None → {o : Option Made} → o ≡ None → (s : ℕ) (ix : List ℕ) → (got_by o w ≡ and_then x next) × ReadyGot o w s ix
  unfolding got_by ReadyGot
  no_place q p s ix = rw p (sym (then_full next (full_got e q)), tt)

  pub goes_on : {m : Made} → r ≡ Some m → (g : Option Made) (z : List ℕ) {P : Type 0}
      → (got_by g z ≡ next (record { table = record { words = w; used = m.used }; node = m.node })) × P → (got_by g z ≡ and_then x next) × P
  goes_on q g z f = (f.0 ∙ sym (then_got next (node_got e q)), f.1)

-- the parts are Label's nodes
same_next : (x : Making) {f g : Placed → Making} → ((m : Placed) → f m ≡ g m) → and_then x f ≡ and_then x g
unfolding and_then
same_next (got m) h = h m
same_next (full z) h = refl

in_turn : (x : Making) (f g : Placed → Making) → and_then (and_then x f) g ≡ and_then x (λ m. and_then (f m) g)
unfolding and_then
in_turn (got m) f g = refl
in_turn (full z) f g = refl

pub of_nodes : (t : Table) (f l : ℕ) (g : Option Made) (z : List ℕ) {P : Type 0}
    → (got_by g z ≡ and_then (make t 0 0) (λ n. and_then (rule_nodes n.table n.node f) (λ m. whole_nodes m.table n.node l m.node))) × P
    → (got_by g z ≡ nodes t f l) × P
unfolding nodes rule_nodes whole_nodes constant_nodes spread_nodes
of_nodes t f l g z e = (
  e.0 ∙ same_next (make t 0 0) (λ (n1 : Placed).
      in_turn _ _ _ ∙ in_turn _ _ _ ∙ same_next _ (λ (n2 : Placed). same_next _ (λ (n3 : Placed). in_turn _ _ _))),
  e.1,
)

-- Label has no stack
settled_none : {r : Result Made Refusal} {z n : List ℕ} (u : ℕ) (x : Making) → whole r z n ≡ settled u [] x → whole r z [] ≡ settled u [] x
unfolding settled placed stopped
settled_none {r} {z} u (got m) e = ap (λ (o : Outcome (Result Made Refusal)). whole o.answer o.table []) e
settled_none {r} {z} u (full y) e = ap (λ (o : Outcome (Result Made Refusal)). whole o.answer o.table []) e

pub is_labelled_lem : (w : List ℕ) (u f l : ℕ) (g : Option Made) (y : List ℕ) (s : ℕ) (ix : List ℕ) {r : Result Made Refusal} {z n : List ℕ} → whole r z n ≡ settled u [] (got_by g y)
    → got_by g y ≡ nodes (record { words = w; used = u }) f l → ReadyGot g y s ix → (whole r z [] ≡ label_rule w u f l) × ReadyMade r z s ix
unfolding label_rule
is_labelled_lem w u f l g y s ix e q x = (settled_none u _ (e ∙ ap (settled u []) q), settled_ready g y [] u s ix e x)
