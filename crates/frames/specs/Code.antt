-- What the code's own values say in terms of the definitions: a frame by its words, a state, and what a use led to. Assumes nothing: these are definitions.
use Rattle.std.specs.Prelude.{ℕ, zero, suc, ◌+◌, ◌*◌, cond, List, [], ◌∷◌, get_or, set, eqb}
use Rattle.calculus.specs.declared.Uses.{Uses}
use Rattle.calculus.specs.Uses.{counts}
use Rattle.table.specs.declared.Refusal.TheVariants.{Nodes, Frames}
use Rattle.applying.specs.declared.Frame.{Frame}
use Rattle.applying.specs.declared.Frame.TheVariants.{SpreadFirst, SpreadSecond, TriageFirst}
use Rattle.frames.specs.declared.Machine.{Machine}
use Rattle.frames.specs.declared.End.{End}
use Rattle.frames.specs.declared.End.TheVariants as ended
use Rattle.frames.specs.declared.Turned.{Turned}
use Rattle.applying.specs.Machine.{State, Turn, more, done, stop}

-- a frame by its three words in the stack: a tag and two node numbers, of which a frame that names one node leaves the second as it was
unfoldable pub frame_of : ℕ → ℕ → ℕ → Frame
frame_of tag a b = cond (eqb tag 0) (SpreadFirst a b) (cond (eqb tag 1) (SpreadSecond a) (TriageFirst a))

unfoldable pub frame_at : List ℕ → ℕ → Frame
frame_at s d = frame_of (get_or s (d * 3) 0) (get_or s (d * 3 + 1) 0) (get_or s (d * 3 + 2) 0)

-- the stack with frame d written
unfoldable pub pushed : List ℕ → ℕ → Frame → List ℕ
pushed s d (SpreadFirst p n) = set (set (set s (d * 3) 0) (d * 3 + 1) p) (d * 3 + 2) n
pushed s d (SpreadSecond v) = set (set s (d * 3) 1) (d * 3 + 1) v
pushed s d (TriageFirst q) = set (set s (d * 3) 2) (d * 3 + 1) q

-- the lowest d frames of a stack, the last one first
unfoldable pub frames_of : List ℕ → ℕ → List Frame
frames_of s zero = []
frames_of s (suc d) = frame_at s d ∷ frames_of s d

-- the counts that the code's state has
abbrev pub uses_of : Machine → Uses
uses_of m = counts m.leaf m.stem m.drop m.spread m.triage

-- the state that the code's numbers and the lent words say
abbrev pub state_of : Machine → List ℕ → List ℕ → State
state_of m w s =
    record {
      table = record { words = w; used = m.used };
      function = m.function;
      argument = m.argument;
      frames = frames_of s m.held;
      uses = uses_of m;
    }

-- what a use led to
abbrev pub end_of : End → Machine → List ℕ → List ℕ → Turn
end_of ended.More m w s = more (state_of m w s)
end_of ended.Done m w s = done (record { table = record { words = w; used = m.used }; node = m.function }) (uses_of m)
end_of ended.Nodes m w s = stop Nodes (state_of m w s)
end_of ended.Frames m w s = stop Frames (state_of m w s)

abbrev pub turn_of : Turned → List ℕ → List ℕ → Turn
turn_of r w s = end_of r.end r.state w s

-- the code's state with these uses
abbrev pub machine_of : ℕ → ℕ → ℕ → ℕ → Uses → Machine
machine_of used f n held k =
    record {
      used = used;
      function = f;
      argument = n;
      held = held;
      leaf = k.leaf;
      stem = k.stem;
      drop = k.drop;
      spread = k.spread;
      triage = k.triage;
    }

-- a further application, of the node f to the node n
abbrev pub more_of : ℕ → ℕ → ℕ → ℕ → Uses → Turned
more_of used f n held k = record { state = machine_of used f n held k; end = ended.More }
