-- The invariant of the loop of `machine::uses`, the run goes on at the state that the words and numbers say now.
use Rattle.table.specs.Outcome.{frames}
use Rattle.frames.specs.Code.{state_of}
use Rattle.index.specs.Index.{Ready}
use Rattle.machine.proofs.Going.{Going}
use Rattle.machine.proofs.uses.Given as goal

abbrev pub invariant-loop : goal.invariant-loop
invariant-loop l =
    Going (frames l.initial.stack) (state_of l.initial.state l.initial.table l.initial.stack) l.budget (state_of l.state l.table l.stack) l.counter × Ready l.table l.state.used l.slots l.index
