-- The step limit of a packet: one that Apply takes, and what Run does where none is named; and at most eight arguments. Assumes nothing.
use Prim.Native.Nat.{ℕ, zero, suc, ◌≤◌}
use mathlib.Core.Path.{◌≡◌}
use mathlib.Core.Bool.{◌&&◌}
use mathlib.Core.List.{List, [], ◌∷◌, ◌++◌}
use mathlib.Core.Option.{Option, none, some}
use native.Mathlib.Omega.{arith}
use lib.ListN.{length}
use lib.Dec.{leb, eqb}
use borrow.Author.Tests.{leb-true}
use Rattle.table.proofs.Words.{and_right}
use Rattle.applying.proofs.States.{cond_by}
use Rattle.fields.specs.Packet.{Field, Packet, default_limit, high_first, with_argument, after_limit, after_arguments, after_rule, from_fields, fields, packet, field_bytes, argument_bytes, label_bytes}
use Rattle.fields.proofs.Limits.{hundred_thousand, default_named}
use Rattle.running.specs.Run.{run}

-- a packet with a step limit that Apply takes and at most k arguments
abbrev Most : ℕ → Option Packet → Type 0
Most k none = Unit {0}
Most k (some p) = (p.limit ≤ 1000000) × (length p.arguments ≤ k)

limit_most : (k : ℕ) (r : List ℕ) (n : ℕ) (fs : List Field) → n ≤ 1000000 → Most k (after_limit r n fs)
unfolding after_limit
limit_most k r n [] h = (h, omega arith)
limit_most k r n (f ∷ []) h = cond_by (Most k) (eqb f.tag 4) (λ e. (h, omega arith)) (λ e. tt)
limit_most k r n (f ∷ (g ∷ fs)) h = tt

arguments_most : (k : ℕ) (r : List ℕ) (fs : List Field) → Most k (after_arguments r fs)
unfolding after_arguments
arguments_most k r [] = limit_most k r default_limit [] (omega arith)
arguments_most k r (f ∷ fs) =
    let n = leb (high_first 0 f.value) 1000000 in
    cond_by (Most k) (eqb f.tag 3)
    (λ t. cond_by (Most k) (eqb (length f.value) 4 && n)
    (λ e. limit_most k r (high_first 0 f.value) fs (leb-true _ _ (and_right (eqb (length f.value) 4) n e))) (λ e. tt))
    (λ t. limit_most k r default_limit (f ∷ fs) (omega arith))

with_most : (k : ℕ) (v : List ℕ) (x : Option Packet) → Most k x → Most (suc k) (with_argument v x)
unfolding with_argument
with_most k v none h = tt
with_most k v (some p) h = (h.0, omega (arith, h.1))

after_most : (r : List ℕ) (k : ℕ) (fs : List Field) → Most k (after_rule r k fs)
unfolding after_rule
after_most r zero fs = arguments_most 0 r fs
after_most r (suc k) [] = arguments_most (suc k) r []
after_most r (suc k) (f ∷ fs) =
    cond_by (Most (suc k)) (eqb f.tag 2) (λ e. with_most k f.value (after_rule r k fs) (after_most r k fs)) (λ e. arguments_most (suc k) r (f ∷ fs))

from_most : (x : Option (List Field)) → Most 8 (from_fields x)
unfolding from_fields
from_most none = tt
from_most (some []) = tt
from_most (some (f ∷ fs)) = cond_by (Most 8) (eqb f.tag 1) (λ e. after_most f.value 8 fs) (λ e. tt)

packet_most : (l : List ℕ) {p : Packet} → packet l ≡ some p → Most 8 (some p)
unfolding packet
packet_most l e =
    let m : Most 8 (packet l) = cond_by (Most 8) (leb (length l) 16384) (λ h. from_most (fields (length l) l)) (λ h. tt) in
    rw e at m

-- "the step limit, at most 1,000,000." (The packet)
pub packet_limit : (l : List ℕ) {p : Packet} → packet l ≡ some p → p.limit ≤ 1000000
packet_limit l e = (packet_most l e).0

-- "none to eight of tag 2, an argument's text" (The packet)
pub packet_few : (l : List ℕ) {p : Packet} → packet l ≡ some p → length p.arguments ≤ 8
packet_few l e = (packet_most l e).1

-- "Without tag 3 the limit becomes 100,000." ([2]) Run of a packet without tag 3 is Run of the same packet with tag 3 of 100,000, where this keeps
-- within 16,384 bytes: in the answer and in every lent word and byte.
pub run_default : (w s o r : List ℕ) (vs : List (List ℕ)) → length vs ≤ 8 → (v : Option (List ℕ))
    → length (field_bytes 1 r ++ (argument_bytes vs ++ (field_bytes 3 hundred_thousand ++ label_bytes v))) ≤ 16384
    → run w s o (field_bytes 1 r ++ (argument_bytes vs ++ label_bytes v))
    ≡ run w s o (field_bytes 1 r ++ (argument_bytes vs ++ (field_bytes 3 hundred_thousand ++ label_bytes v)))
unfolding run
run_default w s o r vs few v short = rw (default_named r vs few v short)
