-- Runs of document 01's rules that stop, computed: what `stopped` answers of each. Assumes nothing.
use Prim.Native.Nat.{ℕ}
use mathlib.Core.Path.{◌≡◌, refl}
use mathlib.Core.List.{List, [], ◌∷◌}
use lib.ListN.{replicate}
use Rattle.calculus.specs.Tree.{size}
use Rattle.calculus.specs.Bytes as bytes
use Rattle.calculus.specs.Abstraction as abstraction
use Rattle.table.specs.Nodes as nodes
use Rattle.table.specs.Outcome as outcome
use Rattle.table.specs.declared.Refusal.TheVariants.{Steps, Nodes, Out}
use Rattle.ternary.specs.Text as text
use Rattle.ternary.specs.Read as read
use Rattle.ternary.specs.Write as write
use Rattle.translation.specs.Translate as translate
use Rattle.applying.specs.Machine as machine
use Rattle.applying.specs.Ended as application
use Rattle.fields.specs.Packet as packet
use Rattle.running.specs.Run as run
use Rattle.running.specs.Tell as telling
use Rattle.stopping.specs.declared.Kind.TheVariants.{Leaf, Stem, Spread}
use Rattle.stopping.specs.declared.Stopped.{Stopped}
use Rattle.stopping.specs.declared.Stopped.TheVariants.{Applying, Refused, Completed}
use Rattle.stopping.specs.Stopped as stopping

-- 01 0006 020103000300 02 0001 30 with a step limit: the rule Δ(ΔI)I, where I is Δ(ΔΔ)(ΔΔ), on Δ. By the five rules its uses are spread; spread, stem,
-- leaf, drop for I on Δ; the same four again; leaf. The first stem wants ΔΔΔ, the only node that is not there.
abbrev twice : ℕ → List ℕ
twice limit = 1 ∷ 0 ∷ 6 ∷ 2 ∷ 1 ∷ 3 ∷ 0 ∷ 3 ∷ 0 ∷ 2 ∷ 0 ∷ 1 ∷ 48 ∷ 3 ∷ 0 ∷ 4 ∷ 0 ∷ 0 ∷ 0 ∷ limit ∷ []

-- what is given of it with room for so many nodes, 24 frames, which is what Translate needs, and so many out bytes
abbrev of : ℕ → ℕ → ℕ → Stopped
of words out limit = (stopping.stopped (replicate words 7) (replicate 72 5) (replicate out 9) (twice limit)).answer

-- With six nodes and ten steps it is completed. With nine steps the last use is wanted; with none the first. With five nodes the third use lacks one, and
-- where that use is over the limit, too, the limit comes first. Write's lack, of a byte, is no stop while applying.
pub stops :
    of 12 2 10 ∷ of 12 2 9 ∷ of 12 2 0 ∷ of 10 2 10 ∷ of 10 2 3 ∷ of 10 2 2 ∷ of 12 1 10 ∷ []
    ≡ Completed ∷ Applying Steps 1 9 Leaf ∷ Applying Steps 1 0 Spread ∷ Applying Nodes 1 2 Stem ∷ Applying Nodes 1 2 Stem ∷ Applying Steps 1 2 Stem ∷ Refused Out ∷ []
unfolding size
    bytes.bytes bytes.abstraction bytes.application bytes.argument bytes.parse bytes.whole bytes.rule
    abstraction.bracket abstraction.translate abstraction.grown abstraction.tree_of abstraction.rule_tree
    nodes.broken nodes.has_words nodes.find nodes.is_none nodes.sound nodes.branches nodes.tree_to nodes.new_node nodes.or_new nodes.make nodes.and_then nodes.lay
    outcome.fits outcome.at_entry outcome.stopped outcome.placed outcome.settled outcome.laid outcome.laid_within
    text.text text.take_leaf text.take_stem text.take_fork text.take_digit text.pending text.single text.tree_of text.many_pending text.most_pending
    read.readable read.read_tree read.read read.is_some
    write.next write.spend write.digits write.written write.write_tree write.write
    translate.translate_rule translate.translate
    machine.fork_rule machine.rule machine.resume machine.grow_by machine.grow machine.hold machine.use_rule machine.take_rule machine.turn machine.after machine.uses
    application.ended application.apply_ended
    packet.before packet.fields packet.high_first packet.with_argument packet.after_limit packet.after_arguments packet.after_rule packet.from_fields packet.packet
    run.stopped run.after_made_by run.after_written run.writes run.reads_by run.all_readable run.label_texts run.parts_lack run.lengths_fit
    telling.after_ended telling.tell_applies telling.tell_stages telling.tell_packet telling.tell
    stopping.kind stopping.stop_by stopping.stopped
stops = refl
