-- `generator::numbers` meets its contract: each case of the answer. Assumes nothing.
use Rattle.loads.specs.Loads.{generated_numbers}
use Rattle.generator.proofs.numbers.Goals as goal

pub returns-in-Ok : goal.returns-in-Ok
unfolding generated_numbers
returns-in-Ok c = rw c.in-Ok.is

pub returns-in-Err : goal.returns-in-Err
unfolding generated_numbers
returns-in-Err c = rw (c.in-Err.is, c.number.ensures)
