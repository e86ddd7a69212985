-- Read and Write undo one another. Assumes nothing.
use Prim.Native.Nat.{ℕ}
use mathlib.Core.Path.{◌≡◌, sym, ap, ◌∙◌}
use mathlib.Core.List.{List}
use lib.ListN.{take}
use Rattle.std.specs.Prelude.{Ok}
use Rattle.table.specs.Nodes.{tree_at}
use Rattle.table.specs.Refusal.{made}
use Rattle.ternary.specs.Text.{text}
use Rattle.ternary.specs.Read.{read}
use Rattle.ternary.specs.Write.{write}
use Rattle.ternary.proofs.OneText.{whole_text}
use Rattle.ternary.proofs.Reading.{read_gives}
use Rattle.ternary.proofs.Writes.{write_gives, write_text, written_readable}

-- "Write a node's tree as text" and "Read a text into the table": Read of the digits that Write wrote of node i gives a node with the tree of i.
pub write_read : (w : List ℕ) (u : ℕ) (s : List ℕ) (i : ℕ) (o : List ℕ) (n : ℕ) → (write w u s i o).answer ≡ Ok n
    → (w₂ : List ℕ) (u₂ : ℕ) (s₂ : List ℕ) (v u' : ℕ) → (read w₂ u₂ s₂ (take n (write w u s i o).out)).answer ≡ made v u'
    → tree_at (read w₂ u₂ s₂ (take n (write w u s i o).out)).table v ≡ tree_at w i
write_read w u s i o n a w₂ u₂ s₂ v u' b =
    let r = read_gives w₂ u₂ s₂ (take n (write w u s i o).out) v u' b in
    let e = written_readable w u s i o n (write_gives w u s i o n a) in
    r.places.tree ∙ cc (r.whole_text, e.tree_is)

-- Write of the node that Read gave, from the table that Read left, writes the text that was read.
pub read_write : (w : List ℕ) (u : ℕ) (s l : List ℕ) (v u' : ℕ) → (read w u s l).answer ≡ made v u'
    → (s₂ o : List ℕ) (n : ℕ) → (write (read w u s l).table u' s₂ v o).answer ≡ Ok n
    → take n (write (read w u s l).table u' s₂ v o).out ≡ l
read_write w u s l v u' a s₂ o n b =
    let r = read_gives w u s l v u' a in
    write_text (read w u s l).table u' s₂ v o n (write_gives (read w u s l).table u' s₂ v o n b)
    ∙ ap text r.places.tree ∙ sym (whole_text l r.tree r.whole_text)
