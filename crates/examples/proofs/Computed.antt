-- The starred lines, proved about the definitions by one computed test over the whole table.
use mathlib.Core.Path.{◌≡◌, refl}
use mathlib.Core.List.{map}
use Rattle.calculus.specs.Tree.{size}
use Rattle.calculus.specs.Bytes as bytes
use Rattle.calculus.specs.Abstraction as abstraction
use Rattle.table.specs.Nodes as nodes
use Rattle.table.specs.Outcome as outcome
use Rattle.table.specs.Refusal as refusal
use Rattle.ternary.specs.Text as text
use Rattle.ternary.specs.Read as read
use Rattle.ternary.specs.Write as write
use Rattle.translation.specs.Translate as translate
use Rattle.applying.specs.Machine as machine
use Rattle.applying.specs.Apply as apply
use Rattle.fields.specs.Packet as packet
use Rattle.running.specs.Run as run
use Rattle.examples.specs.Rows as examples
use Rattle.examples.specs.Starred.{Row, rows}

pub starred : map (λ (r : Row). examples.line r.input) rows ≡ map (λ (r : Row). r.outcome) rows
unfolding rows size
    bytes.bytes bytes.abstraction bytes.application bytes.argument bytes.parse bytes.whole bytes.rule
    abstraction.bracket abstraction.translate abstraction.grown abstraction.tree_of abstraction.rule_tree
    nodes.broken nodes.has_words nodes.find nodes.is_none nodes.sound nodes.branches nodes.tree_to nodes.new_node nodes.or_new nodes.make nodes.and_then nodes.lay
    outcome.fits outcome.at_entry outcome.stopped outcome.placed outcome.settled outcome.laid outcome.laid_within
    refusal.number refusal.refused_numbers
    text.text text.take_leaf text.take_stem text.take_fork text.take_digit text.pending text.single text.tree_of text.many_pending text.most_pending
    read.readable read.read_tree read.read
    write.next write.spend write.digits write.written write.write_tree write.write
    translate.translate_rule translate.translate
    machine.fork_rule machine.rule machine.resume machine.grow_by machine.grow machine.hold machine.use_rule machine.take_rule machine.turn machine.after machine.uses
    apply.settle apply.apply_nodes apply.apply
    packet.before packet.fields packet.high_first packet.with_argument packet.after_limit packet.after_arguments packet.after_rule packet.from_fields packet.packet packet.field_bytes packet.argument_bytes
    run.ran_numbers run.stopped run.after_made_by run.after_applied run.after_written run.writes run.applies run.reads_by run.stages run.all_readable run.label_texts run.parts_lack run.run_packet run.lengths_fit run.run
    examples.after_made examples.after_applied examples.apply_line examples.read_all examples.place examples.taken examples.run_line examples.line
starred = refl
