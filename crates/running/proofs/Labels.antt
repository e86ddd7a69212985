-- Run passes over a packet's label ([1]). Assumes nothing.
use Prim.Native.Nat.{ℕ, ◌≤◌}
use mathlib.Core.Path.{◌≡◌, refl}
use mathlib.Core.List.{List, [], ◌∷◌, ◌++◌, append-nil}
use mathlib.Core.Option.{none, some}
use native.Mathlib.Omega.{arith}
use lib.ListN.{length, length-append}
use Rattle.calculus.specs.Tree.{Tree}
use Rattle.ternary.specs.Text.{tree_of}
use Rattle.ternary.specs.Read.{readable, is_some}
use Rattle.ternary.proofs.Reading.{some_readable}
use Rattle.fields.specs.Packet.{Packet, field_bytes, IsPacket, with_label}
use Rattle.fields.proofs.Exact.{packet_found}
use Rattle.fields.proofs.Labels.{label_added, Rest, label_taken}
use Rattle.running.specs.Run.{all_readable, label_texts, parts_lack, stages, run_packet, run}

-- one text more, which Read takes
one_more : (ls : List (List ℕ)) (v : List ℕ) {x : Tree} → readable v ≡ some x → all_readable (ls ++ (v ∷ [])) ≡ all_readable ls
unfolding all_readable is_some
one_more [] v h = rw h
one_more (l ∷ ls) v h = rw (one_more ls v h)

module _ (w s o : List ℕ) where
  of_packet : (p : Packet) → p.label ≡ none → (v : List ℕ) {x : Tree} → readable v ≡ some x → run_packet w s o (some (with_label p (some v))) ≡ run_packet w s o (some p)
  unfolding run_packet parts_lack label_texts stages
  of_packet p e v h = rw (e, one_more p.arguments v h, append-nil)

  -- "otherwise passes over it: tree, steps and used are those of the packet without it, where that text is whole and the packet keeps within 16,384
  -- bytes" ([1]). The bytes l are a packet without a label, v is a label's text: Run of both is Run of l, in the answer and in every lent word and byte.
  pub run_label : {l : List ℕ} {p : Packet} → IsPacket l p → p.label ≡ none → (v : List ℕ) {x : Tree} → tree_of v ≡ some x → length (l ++ field_bytes 4 v) ≤ 16384
      → run w s o (l ++ field_bytes 4 v) ≡ run w s o l
  unfolding run field_bytes
  run_label {l} {p} h e v t short =
      let a = length-append l (field_bytes 4 v) in
      let r = some_readable (record { tree_is = t; short = omega arith }) in
      rw (packet_found (label_added h e v short), packet_found h, of_packet p e v r)

  -- Every packet with a label is such a one: it ends with the label's field, and what stands before is the packet without it.
  pub run_labelled : {l : List ℕ} {p : Packet} → IsPacket l p → (v : List ℕ) → p.label ≡ some v → {x : Tree} → tree_of v ≡ some x
      → (u : Rest l p v) × (run w s o l ≡ run w s o u.rest)
  run_labelled {l} {p} h v e t = let u = label_taken h v e in (u, same u.rest u.bytes u.is_packet h.short)
    where
      same : (rest : List ℕ) → l ≡ rest ++ field_bytes 4 v → IsPacket rest (with_label p none) → length l ≤ 16384 → run w s o l ≡ run w s o rest
      same rest q i short = rw q (run_label i refl v t (rw (← q) short))
