-- `rules::grow` meets its contract: the node is there, or a place for it is free or not. Assumes nothing.
use Rattle.index.proofs.Ready.{node_ready}
use Rattle.frames.specs.Code.{frames_of}
use Rattle.rules.specs.Code.{ReadyEnd}
use Rattle.rules.proofs.Steps.{grow_full, grow_got, got_word, resume_ready}
use Rattle.rules.proofs.grow.Goals as goal

pub returns-in_default : goal.returns-in_default
unfolding ReadyEnd
returns-in_default c =
    let a = c.args in
    (grow_full a.state a.uses a.table.now a.stack.now a.a a.b c.make.new.table c.make.ensures.0 c.in_default.is, tt)

pub resume-requires : goal.resume-requires
resume-requires c =
    let x = c.in-Some in
    let a = c.args in
    let r = node_ready c.make.ensures.1 x.is in
    (c.requires.1, got_word a.state a.uses a.table.now a.stack.now a.a a.b c.make.new.table c.make.ensures.0 x.is r c.requires.0.fine c.requires.2)

pub returns : goal.returns
returns c =
    let x = c.in-Some in
    let a = c.args in
    let z = c.make.new.table in
    let e = c.resume.ensures z in
    let r = node_ready c.make.ensures.1 x.is in (
      grow_got a.state a.uses a.table.now a.stack.now a.a a.b z c.make.ensures.0 x.is e,
      resume_ready c.resume.result z _ (frames_of a.stack.now a.state.held) a.uses x.field-0.node e r,
    )
