-- What a writer holds after writes in turn. Assumes nothing.
use Prim.Native.Nat.{ℕ}
use mathlib.Core.Path.{◌≡◌, ◌∙◌, ap}
use lib.ListN.{replicate}
use mathlib.Core.List.{List, ◌++◌, append_assoc}
use Rattle.std.specs.Prelude.{⊤, Result, Ok, Err, Option, Some, None, OnOk}
use Rattle.std.specs.Io.KnownBytes.{Appends}
use Rattle.std.specs.Borrow.{Bor, MutBor}
use Rattle.table.specs.declared.Refusal.{Refusal}
use Rattle.running.specs.declared.Ran.{Ran}
use Rattle.lines.specs.Line.{line_of, Calls, Answered}

both : (a b c : Option (List ℕ)) (x y : List ℕ) → Appends a b x → Appends b c y → Appends a c (x ++ y)
both None b c x y p q = tt
both (Some k) None c x y p q = absurd p
both (Some k) (Some m) None x y p q = absurd q
both (Some k) (Some m) (Some n) x y p q = q ∙ ap (λ (l : List ℕ). l ++ y) p ∙ append_assoc k x y

pub in_turn : {E : Type 0} (r : Result ⊤ E) (a b c d : Option (List ℕ)) (x y z : List ℕ) → Appends a b x → Appends b c y → OnOk r (Appends c d z) → OnOk r (Appends a d (x ++ (y ++ z)))
in_turn (Ok u) a b c d x y z p q s = both a b d x (y ++ z) p (both b c d y z q s)
in_turn (Err e) a b c d x y z p q s = tt

-- a line that is appended where writing does not fail
pub answered : {E : Type 0} (calls : Calls) (packet : List ℕ) (old new : Option (List ℕ)) (r : Result ⊤ E) (t s o : MutBor (List ℕ)) (p : Bor (List ℕ)) (a : Result Ran Refusal) (t' s' o' : MutBor (List ℕ))
    → calls t s o p a t' s' o' → t.now ≡ replicate 16384 0 → s.now ≡ replicate 12288 0 → o.now ≡ replicate 16384 0 → p.now ≡ packet
    → OnOk r (Appends old new (line_of a o'.now)) → OnOk r (Answered calls packet old new)
answered calls packet old new (Ok u) t s o p a t' s' o' c e f g h l =
    record { table = t; stack = s; out = o; asked = p; answer = a; left_table = t'; left_stack = s'; left_out = o'; called = c; table_is = e; stack_is = f; out_is = g; asked_is = h; appended = l }
answered calls packet old new (Err d) t s o p a t' s' o' c e f g h l = tt
