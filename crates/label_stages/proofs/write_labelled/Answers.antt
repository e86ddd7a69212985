-- `label_stages::write_labelled` meets its contract. Assumes nothing.
use native.Mathlib.Omega.{arith}
use Rattle.label_stages.proofs.Ways.{labels_stop, labels_next, labels_ready}
use Rattle.label_stages.proofs.write_labelled.Goals as goal

pub returns-in-Err : goal.returns-in-Err
returns-in-Err c =
    let p = c.requires in
    labels_stop p.0 p.1 p.2 c.label_rule.ensures.0 c.in-Err.is (c.stop.ensures _)

pub write_outcome-requires : goal.write_outcome-requires
write_outcome-requires c =
    let p = c.requires in
    let r = labels_ready p.0 p.1 p.2 c.label_rule.ensures.0 c.in-Ok.is in
    (r.0, r.1, omega arith)

pub returns-in-Ok : goal.returns-in-Ok
returns-in-Ok c =
    let p = c.requires in
    labels_next p.0 p.1 p.2 c.label_rule.ensures.0 c.in-Ok.is c.write_outcome.ensures
