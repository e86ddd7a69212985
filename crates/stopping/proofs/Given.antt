-- A run that is given more comes to the same place and the same use: through Translate, Read of each argument, and Apply in order. Assumes nothing.
use Prim.Native.Nat.{ℕ, ◌+◌, ◌-◌, ◌≤◌, ◌<◌}
use mathlib.Core.Path.{◌≡◌, refl, sym, subst}
use mathlib.Core.List.{List, [], ◌∷◌}
use native.Mathlib.Omega.{arith}
use Rattle.calculus.specs.declared.Uses.{Uses}
use Rattle.calculus.specs.Uses.{◌⊕◌, steps}
use Rattle.calculus.specs.Term.{Term}
use Rattle.calculus.specs.Abstraction.{rule_tree}
use Rattle.table.specs.Nodes.{Table, Placed, capacity, Sound}
use Rattle.table.specs.Outcome.{frames}
use Rattle.table.proofs.Making.{lay_places}
use Rattle.applying.specs.Machine.{State, done, uses}
use Rattle.applying.specs.Apply.{begin}
use Rattle.applying.specs.States.{Good}
use Rattle.applying.proofs.States.{Later, uses_later}
use Rattle.applying.proofs.Cases.{sound_begin}
use Rattle.fields.specs.Packet.{Packet}
use Rattle.running.specs.Claims.{ReadsHad, all_read, and_read, Reached, at_first, and_applied}
use Rattle.stopping.specs.Claims.{Comes}
use Rattle.stopping.proofs.Ample.{Like, lay_like, on_table, led_like, done_like}

-- all these nodes are in use
abbrev pub AllIn : ℕ → List ℕ → Type 0
AllIn u [] = Unit {0}
AllIn u (n ∷ ns) = (n < u) × AllIn u ns

all_up : {u v : ℕ} → u ≤ v → (ns : List ℕ) → AllIn u ns → AllIn v ns
all_up h [] i = tt
all_up h (n ∷ ns) i = (omega (arith, i.0), all_up h ns i.1)

-- The reads of the same texts, with more frames and more nodes.
record ReadLike (d : ℕ) (s : List ℕ) (z : Table) (ls : List (List ℕ)) (y : Table) (ns : List ℕ) (x : Table) : Type 0 where
  table : Table
  had : ReadsHad s x ls table ns
  like : Like d y table
  fine : Sound y
  inside : AllIn y.used ns
  up : z.used ≤ y.used

reads_like : {d : ℕ} (s v : List ℕ) → frames s ≤ frames v → {z y : Table} {ls : List (List ℕ)} {ns : List ℕ} → ReadsHad s z ls y ns → Sound z → {x : Table} → Like d z x
    → ReadLike d v z ls y ns x
reads_like s v h all_read f {x} l = record { table = x; had = all_read; like = l; fine = f; inside = tt; up = omega arith }
reads_like s v h (and_read {l = u} {ls = ls} {x = t} {m = m} {ns = ns} is enough g r) f {x} l =
    let a = lay_like l t g in
    let p = lay_places f t g in
    let b = reads_like s v h r p.fine a.like in
    record {
      table = b.table;
      had = subst (λ (n : ℕ). ReadsHad v x (u ∷ ls) b.table (n ∷ ns)) a.same_node (and_read is (omega arith) a.is b.had);
      like = b.like;
      fine = b.fine;
      inside = (omega (arith, p.inside, b.up), b.inside);
      up = omega (arith, p.extends.kept.up, b.up);
    }

-- The same applications, with more frames, nodes and steps.
record ReachedLike (d all limit : ℕ) (x : Table) (v : ℕ) (ns : List ℕ) (z : Table) (v' : ℕ) (ns' : List ℕ) (k : Uses) : Type 0 where
  table : Table
  reached : Reached all limit x v ns table v' ns' k
  like : Like d z table
  fine : Sound z
  function_in : v' < z.used
  inside : AllIn z.used ns'

reached_like : {d all limit more_frames more_steps : ℕ} → all ≤ more_frames → limit ≤ more_steps → {z : Table} {v : ℕ} {ns : List ℕ} {z' : Table} {v' : ℕ} {ns' : List ℕ} {k : Uses}
    → Reached all limit z v ns z' v' ns' k → Sound z → v < z.used → AllIn z.used ns → {x : Table} → Like d z x → ReachedLike d more_frames more_steps x v ns z' v' ns' k
reached_like h q at_first f i a {x} l = record { table = x; reached = at_first; like = l; fine = f; function_in = i; inside = a }
reached_like {d} {all} {limit} {more_frames} {more_steps} h q {v = first} {ns = args} (and_applied {z' = z} {v' = v} {n = n} {ns' = ns} {k = k} {j = j} {m = m} r e) f i a {x} l =
    let b = reached_like {more_frames = more_frames} {more_steps = more_steps} h q r f i a l in
    let g = sound_begin {all = all} b.fine b.function_in b.inside.0 in
    let c = done_like (limit - steps k) (more_steps - steps k) h (omega arith) g b.like e in
    let o = subst (Later all z) e (uses_later (limit - steps k) g) in
    record {
      table = c.0.table;
      reached = subst (λ (n : ℕ). Reached more_frames more_steps x first args c.0.table n ns (k ⊕ j)) c.2 (and_applied b.reached c.3);
      like = c.1;
      fine = o.fine;
      function_in = o.ready;
      inside = all_up o.extends.kept.up ns b.inside.1;
    }

-- What is given to a run is at least what was given, for the same rule and the same arguments, with d nodes more.
pub record Ample (d : ℕ) (w s : List ℕ) (p : Packet) (w' s' : List ℕ) (p' : Packet) : Type 0 where
  pub nodes : capacity w + d ≤ capacity w'
  pub frames_more : frames s ≤ frames s'
  pub steps_more : p.limit ≤ p'.limit
  pub same_arguments : p'.arguments ≡ p.arguments

-- It comes to the same place, the same steps and the same use, on a table that is like the first.
pub record ComesLike (d : ℕ) (w s : List ℕ) (w' s' : List ℕ) (p' : Packet) (t : Term) (i j : ℕ) (y : State) : Type 0 where
  pub table : Table
  pub like : Like d y.table table
  pub comes : Comes w' s' p' t i j (on_table y table)
  pub good : Good (frames s) y

pub comes_like : {d : ℕ} {w s : List ℕ} {p : Packet} {w' s' : List ℕ} {p' : Packet} {t : Term} {i j : ℕ} {y : State} → Ample d w s p w' s' p' → Sound (record { words = w; used = 0 })
    → Comes w s p t i j y → ComesLike d w s w' s' p' t i j y
comes_like {d} {w} {s} {p} {w'} {s'} {p'} {t} {i} {j} {y} m f c =
    let empty : Like d (record { words = w; used = 0 }) (record { words = w'; used = 0 }) = record { same_used = refl; same_words = λ i h. absurd (omega arith); room = m.nodes } in
    let a = lay_like empty (rule_tree t) c.rule_laid.nodes_enough in
    let q = lay_places f (rule_tree t) c.rule_laid.nodes_enough in
    let b = reads_like s s' m.frames_more c.arguments_read q.fine a.like in
    let e = reached_like {more_frames = frames s'} {more_steps = p'.limit} m.frames_more m.steps_more c.reached b.fine (omega (arith, q.inside, b.up)) b.inside b.like in
    let g = sound_begin {all = frames s} e.fine e.function_in e.inside.0 in
    let o = led_like c.taken m.frames_more g e.like c.led in
    record {
      table = o.0;
      like = o.1;
      comes = record {
        placed = a.placed;
        rule_laid = record { frames_enough = omega (arith, c.rule_laid.frames_enough, m.frames_more); nodes_enough = a.is };
        read_table = b.table;
        read_nodes = c.read_nodes;
        arguments_read = rw m.same_arguments b.had;
        table = e.table;
        function = c.function;
        argument = c.argument;
        left = c.left;
        k = c.k;
        reached = subst (λ (n : ℕ). Reached (frames s') p'.limit b.table n c.read_nodes e.table c.function (c.argument ∷ c.left) c.k) (sym a.same_node) e.reached;
        place = c.place;
        taken = c.taken;
        led = o.2;
        steps_are = c.steps_are;
        within_limit = omega (arith, c.within_limit, m.steps_more);
      };
      good = (subst (Later (frames s) c.table) c.led (uses_later c.taken g)).ready;
    }

like_same : (t : Table) → Like 0 t t
like_same t = record { same_used = refl; same_words = λ i h. refl; room = omega arith }

-- the table of an application that is come to is sound, and the nodes that it names are in use, as are those of the arguments left
pub record Stands (t : Table) (f : ℕ) (ns : List ℕ) : Type 0 where
  pub fine : Sound t
  pub function_in : f < t.used
  pub inside : AllIn t.used ns

pub comes_stands : {w s : List ℕ} {p : Packet} {t : Term} {i j : ℕ} {y : State} → Sound (record { words = w; used = 0 }) → (c : Comes w s p t i j y)
    → Stands c.table c.function (c.argument ∷ c.left)
comes_stands {w} {s} {p} {t} f c =
    let q = lay_places f (rule_tree t) c.rule_laid.nodes_enough in
    let b = reads_like s s (omega arith) c.arguments_read q.fine (like_same c.placed.table) in
    let e = reached_like {more_frames = frames s} {more_steps = p.limit} (omega arith) (omega arith) c.reached b.fine (omega (arith, q.inside, b.up)) b.inside (like_same c.read_table) in
    record { fine = e.fine; function_in = e.function_in; inside = e.inside }

-- and so is what follows, where it gives a node
pub done_stands : (all limit : ℕ) {t : Table} {f n : ℕ} {ns : List ℕ} → Stands t f (n ∷ ns) → {m : Placed} {k : Uses} → uses all limit (begin t.words t.used f n) ≡ done m k
    → Stands m.table m.node ns
done_stands all limit {t} {f} {n} {ns} x e =
    let o = subst (Later all t) e (uses_later limit (sound_begin {all = all} x.fine x.function_in x.inside.0)) in
    record { fine = o.fine; function_in = o.ready; inside = all_up o.extends.kept.up ns x.inside.1 }
