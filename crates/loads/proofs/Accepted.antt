-- What Read makes of a load, and the frames that it takes. Assumes nothing.
use Prim.Native.Nat.{ℕ, ◌+◌, ◌*◌, ◌≤◌}
use mathlib.Core.Path.{◌≡◌, refl}
use mathlib.Core.Bool.{true}
use mathlib.Core.List.{List, [], ◌∷◌}
use mathlib.Core.Option.{Option, none, some}
use native.Mathlib.Omega.{arith}
use lib.ListN.{length}
use Rattle.calculus.specs.Tree.{Tree}
use Rattle.table.specs.Nodes.{Placed, got, capacity, lay}
use Rattle.table.specs.Outcome.{frames, at_entry, placed}
use Rattle.table.specs.declared.Refusal.{Refusal}
use Rattle.table.proofs.Words.{zero_one}
use Rattle.table.specs.Refusal.{not_made}
use Rattle.ternary.specs.Text.{text, most_pending}
use Rattle.ternary.specs.Wanted.{wanted_after, wanted_from, wanted, many_wanted, most_wanted}
use Rattle.ternary.specs.Read.{read}
use Rattle.ternary.specs.Lacks.{Readable, ReadLacks, ReadHas}
use Rattle.ternary.proofs.OneText.{whole_text}
use Rattle.ternary.proofs.Wanted.{none_wanted, wanted_whole, most_wanted_lem, digits_within}
use Rattle.ternary.proofs.Reading.{some_readable, read_lacks, read_lays, read_room}
use Rattle.loads.specs.Loads.{load}
use Rattle.loads.specs.Claims.{IsCount, LoadLacks}
use Rattle.loads.proofs.Loads.{load_many, load_whole}

-- of digits that use up the trees wanted, twice the most wanted before one is at most their number and the number wanted before them
most_half : (l : List ℕ) (n : ℕ) → wanted_from (some n) l ≡ some 0 → most_wanted (some n) l * 2 ≤ length l + n
unfolding wanted_from most_wanted many_wanted
most_half [] n e = omega arith
most_half (c ∷ l) n e = go (wanted_after c (some n)) refl e (most_half l)
  where
    go : (o : Option ℕ) → wanted_after c (some n) ≡ o → wanted_from o l ≡ some 0 → ((k : ℕ) → wanted_from (some k) l ≡ some 0 → most_wanted (some k) l * 2 ≤ length l + k)
        → most_wanted (some n) (c ∷ l) * 2 ≤ length (c ∷ l) + n
    go none p q f = zero_one (cc (none_wanted l))
    go (some k) p q f =
        let a = (digits_within (c ∷ []) n k p).1 in
        let b = (digits_within (c ∷ l) n 0 e).0 in
        rw p (omega (arith, f k q))

module _ (seed n : ℕ) (k : IsCount n) where
  -- the tree of a load, whose text it is
  abbrev pub load_tree : Tree
  load_tree = (load_whole seed n k).0

  pub load_text : load seed n ≡ text load_tree
  load_text = whole_text (load seed n) load_tree (load_whole seed n k).1

  load_readable : Readable (load seed n) load_tree
  load_readable = record { short = omega (arith, load_many seed n k, k.to_most); tree_is = (load_whole seed n k).1 }

  -- half as many frames as digits, rounded up, are enough
  pub load_frames : most_pending (load seed n) * 2 ≤ n + 1
  unfolding wanted
  load_frames =
      let w = load_whole seed n k in
      omega (arith, most_wanted_lem (load seed n) w.0 w.1, most_half (load seed n) 1 ((wanted_whole (load seed n)).1 w), load_many seed n k)

  module _ (w : List ℕ) (u : ℕ) (s : List ℕ) where
    -- "Every nonempty load is a whole text that Read accepts given a table that passes 1 and 2, nodes and frames." ([10])
    pub load_reads : at_entry true w u s ≡ none → most_pending (load seed n) ≤ frames s → {m : Placed} → lay (record { words = w; used = u }) load_tree ≡ got m
        → read w u s (load seed n) ≡ placed m s
    load_reads e f {m} g = read_lays w u s (load seed n) (record { entered = e; readable_as = load_readable; frames_enough = f; placed_as = m; nodes_enough = g })

    -- The other way: where Read refuses a load, one of these is lacking.
    pub load_refused : (e : Refusal) → (read w u s (load seed n)).answer ≡ not_made e → LoadLacks w u s (load seed n) e
    load_refused e q = go (read_lacks w u s (load seed n) e q)
      where
        go : {f : Refusal} {w' s' : List ℕ} → ReadLacks w u s (load seed n) f w' s' → LoadLacks w u s (load seed n) f
        go (ReadLacks.of_entry p) = LoadLacks.of_entry p
        go (ReadLacks.no_text p r) = zero_one (cc (some_readable load_readable))
        go (ReadLacks.no_frames p r h) = LoadLacks.no_frames p h
        go (ReadLacks.no_nodes p r h a) = LoadLacks.no_nodes p h r.tree_is a

    -- a free node for each digit and a frame for each two of them, rounded up, are enough
    pub load_room : at_entry true w u s ≡ none → n ≤ frames s * 2 → u + n ≤ capacity w → ReadHas w u s (load seed n) load_tree
    load_room e f h = read_room w u s (load seed n) e load_readable (omega (arith, load_frames)) (omega (arith, load_many seed n k))
