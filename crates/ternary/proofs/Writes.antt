-- Laws of Write for its callers: the two kinds of its outcome, each refusal exactly on its condition, and what it wrote. Assumes nothing.
use Prim.Native.Nat.{◌<◌, ℕ, ◌-◌}
use mathlib.Core.Path.{◌≡◌, refl, sym, ap}
use mathlib.Core.Bool.{Bool, true, false, cond}
use mathlib.Core.List.{List}
use mathlib.Core.Option.{Option, none, some}
use native.Mathlib.Omega.{arith}
use lib.ListN.{length, take, drop}
use lib.Seq.{take_at}
use lib.Dec.{ltb, leb}
use borrow.Author.Tests.{ltb-true, ltb-false, leb-true, lt-ltb, le-ltb}
use Rattle.std.specs.Prelude.{Err, Ok}
use Rattle.calculus.specs.Tree.{Tree, size}
use Rattle.table.specs.Nodes.{tree_at}
use Rattle.table.specs.Outcome.{Outcome, Entered, whole_out, frames, zeros, at_entry, unless}
use Rattle.table.specs.Refusal.{number, clears}
use Rattle.table.specs.declared.Refusal.{Refusal}
use Rattle.table.specs.declared.Refusal.TheVariants.{Node, Frames, Out}
use Rattle.table.proofs.Entry.{entered, enters, entry_lacks, lacks_entry, entry_keeps}
use Rattle.ternary.specs.Text.{text}
use Rattle.ternary.specs.Write.{Room, lacks, digits, written, write_tree, write, Written}
use Rattle.ternary.specs.Held.{NoFrame, OutFull, Spent, enough, no_out, no_frame}
use Rattle.ternary.specs.Lacks.{Readable, Begun, WriteLacks, WriteHas, all_written, WriteCase, Writes}
use Rattle.ternary.specs.Lacks.WriteLacks.{of_entry, no_node, no_room}
use Rattle.ternary.specs.Lacks.WriteCase.{refuses, writes}
use Rattle.table.proofs.Words.{zero_one}
use Rattle.ternary.proofs.OneText.{text_read, length_text}
use Rattle.ternary.proofs.EachDigit.{digits_spend, spent_digits, digits_left}

module _ (w : List ℕ) (u : ℕ) (s : List ℕ) (i : ℕ) (o : List ℕ) where
  -- Write's outcome is of one kind or the other.
  pub write_case : WriteCase w u s i o (write w u s i o)
  unfolding write write_tree written
  write_case = go (at_entry (leb (length o) 65535) w u s) (ltb i u) refl refl
    where
      t : Tree
      t = tree_at w i

      go : (a : Option Refusal) (b : Bool) → at_entry (leb (length o) 65535) w u s ≡ a → ltb i u ≡ b
          → WriteCase w u s i o (unless a (λ e. whole_out (Err e) w s o) (cond b (written w s o t (digits (frames s) 0 t (length o))) (whole_out (Err Node) w s o)))
      go (some e) b p q = refuses (of_entry (entry_lacks (leb (length o) 65535) w u s p)) refl
      go none false p q = refuses (no_node p (ltb-false i u q)) refl
      go none true p q = room (digits_spend (frames s) 0 t (length o))
        where
          room : {r : Room} → Spent (frames s) 0 t (length o) r → WriteCase w u s i o (written w s o t r)
          room (enough m h k) = writes (record { entered = p; inside = ltb-true i u q; bytes_enough = omega (arith, length_text t); frames_enough = k }) refl
          room (no_out h) = refuses (no_room p (ltb-true i u q) (no_out h)) refl
          room (no_frame h) = refuses (no_room p (ltb-true i u q) (no_frame h)) refl

  -- "the out bytes stay as at entry, also where Write stops part way": no refusal of Write changes an out byte or a table word.
  pub write_refused : (e : Refusal) → (write w u s i o).answer ≡ Err e → ((write w u s i o).out ≡ o) × ((write w u s i o).table ≡ w)
  write_refused e q = go write_case
    where
      go : WriteCase w u s i o (write w u s i o) → ((write w u s i o).out ≡ o) × ((write w u s i o).table ≡ w)
      go (refuses k r) = (cc, cc)
      go (writes h r) = zero_one (cc)

  -- "Numbers 1 to 6 [..] leave lent memory as found. Numbers 7 to 10 set to 0 [..] the whole stack": a refusal comes only on its condition, and leaves
  -- the stack so.
  pub write_lacks : (e : Refusal) → (write w u s i o).answer ≡ Err e → WriteLacks w u s i o e (write w u s i o).stack
  write_lacks e q = go write_case
    where
      go : WriteCase w u s i o (write w u s i o) → WriteLacks w u s i o e (write w u s i o).stack
      go (refuses {e = f} {s'} k r) =
          let b : (write w u s i o).stack ≡ s' = cc in
          let c : f ≡ e = cc in
          rw (b, ← c) k
      go (writes h r) = zero_one (cc)

  -- The other way: on each condition its refusal comes, with the table and the out bytes as found.
  pub write_stops : {e : Refusal} {s' : List ℕ} → WriteLacks w u s i o e s' → write w u s i o ≡ whole_out (Err e) w s' o
  unfolding write write_tree written
  write_stops (of_entry p) = rw (lacks_entry p)
  write_stops (no_node p h) = rw (p, le-ltb i u h)
  write_stops {e} (no_room p h x) = rw (p, lt-ltb i u h, spent_digits (frames s) 0 (tree_at w i) (length o) (lacks e) x)

  -- "10 if out is full": only where the digits are begun, are more than the bytes, and no fork among those written lacks a frame; and there always, with
  -- the table and the out bytes as found and the stack set to 0.
  pub write_out : ((write w u s i o).answer ≡ Err Out → Begun w u s i o × OutFull (frames s) 0 (tree_at w i) (length o))
      × (Begun w u s i o → OutFull (frames s) 0 (tree_at w i) (length o) → write w u s i o ≡ whole_out (Err Out) w (zeros s) o)
  unfolding clears number
  write_out = (λ q. go (write_lacks Out q), λ b h. write_stops (no_room b.0 b.1 (no_out h)))
    where
      go : {s' : List ℕ} → WriteLacks w u s i o Out s' → Begun w u s i o × OutFull (frames s) 0 (tree_at w i) (length o)
      go (of_entry p) = zero_one (cc (entry_keeps p))
      go (no_room p h (no_out x)) = ((p, h), x)

  -- "9 if the digit is 2 and every frame is held by a fork whose second branch is not begun": only where the digits are begun and the first that cannot be
  -- written is such a 2, with a byte left for it; and there always, with the same memory.
  pub write_frames : ((write w u s i o).answer ≡ Err Frames → Begun w u s i o × NoFrame (frames s) 0 (tree_at w i) (length o))
      × (Begun w u s i o → NoFrame (frames s) 0 (tree_at w i) (length o) → write w u s i o ≡ whole_out (Err Frames) w (zeros s) o)
  unfolding clears number
  write_frames = (λ q. go (write_lacks Frames q), λ b h. write_stops (no_room b.0 b.1 (no_frame h)))
    where
      go : {s' : List ℕ} → WriteLacks w u s i o Frames s' → Begun w u s i o × NoFrame (frames s) 0 (tree_at w i) (length o)
      go (of_entry p) = zero_one (cc (entry_keeps p))
      go (no_room p h (no_frame x)) = ((p, h), x)

  -- on an entered table, with a node in use, Write is what its inner definition says
  pub entered_write : Entered (leb (length o) 65535) w u s → i < u → write_tree w s o (tree_at w i) ≡ write w u s i o
  unfolding write
  entered_write e h = rw (enters e, lt-ltb i u h)

  -- With a node in use, a byte for each digit and a frame for each fork, no refusal comes.
  pub write_limits : WriteHas w u s i o → write w u s i o ≡ all_written w s o (tree_at w i)
  unfolding write write_tree written
  write_limits h =
      let n = length o - size (tree_at w i) in
      let d = (digits_left (frames s) 0 (tree_at w i) (length o) n).1 (omega (arith, length_text (tree_at w i), h.bytes_enough), h.frames_enough) in
      rw (h.entered, lt-ltb i u h.inside, d)

module _ (w : List ℕ) (u : ℕ) (s : List ℕ) (i : ℕ) (o : List ℕ) (n : ℕ) where
  -- "Write a node's tree as text": where Write gives digits, all of this holds.
  pub write_gives : (write w u s i o).answer ≡ Ok n → Writes w u s i o n
  write_gives q = go (write_case w u s i o)
    where
      go : WriteCase w u s i o (write w u s i o) → Writes w u s i o n
      go (refuses k r) = zero_one (cc)
      go (writes h r) =
          let d : n ≡ length (text (tree_at w i)) = cc in
          record {
            had = h;
            digits_are = d;
            out_is = rw d (ap (λ (z : Outcome Written). z.out) r);
            fits = omega (arith, length_text (tree_at w i), h.bytes_enough);
            table = cc;
            stack = cc;
          }

  -- The first n out bytes are the text, which is whole and at most 65,535 bytes long.
  pub write_text : Writes w u s i o n → take n (write w u s i o).out ≡ text (tree_at w i)
  write_text x = rw x.out_is (take_at (text (tree_at w i)) (drop n o) n (sym x.digits_are))

  pub written_readable : Writes w u s i o n → Readable (take n (write w u s i o).out) (tree_at w i)
  written_readable x =
      let b = leb-true (length o) 65535 (entered (leb (length o) 65535) w u s x.had.entered).limits_kept in
      rw (write_text x) (record { short = omega (arith, x.digits_are, x.fits); tree_is = text_read (tree_at w i) })
