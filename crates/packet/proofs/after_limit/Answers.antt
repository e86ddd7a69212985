-- `packet::after_limit` meets its contract: what is no label, or not the last field, is refused. Assumes nothing.
use mathlib.Core.Path.{sym, ◌∙◌}
use Rattle.packet.proofs.Forms.{is_no_end, is_end, limit_end, left_broken, limit_tag, limit_more, limit_label}
use Rattle.packet.proofs.after_limit.Goals.{then-packet-at-ne4-via-then-packet-at-ne4, then-packet-at-ne4-via-else-packet-at-ne4+then-end-packet}
use Rattle.packet.proofs.after_limit.Goals as goal

pub returns-in_err-end : goal.returns-in_err-end
returns-in_err-end c =
    let a = c.args in
    λ q. c.from_residual.ensures ∙ left_broken a.packet.now a.at a.count q _ c.if-at-packet.true (is_no_end a.packet.now a.at c.in_err-end.ensures)

pub returns-then-packet-at-ne4 : goal.returns-then-packet-at-ne4
returns-then-packet-at-ne4 c =
    let a = c.args in
    let g = is_end a.packet.now a.at _ c.in_ok-end.ensures in
    λ q. elim c.then-packet-at-ne4.branch [
      | then-packet-at-ne4-via-then-packet-at-ne4 w ↦ limit_tag a.packet.now a.at a.count g.1 q a.limit w.if-packet-at-ne4.true
      | then-packet-at-ne4-via-else-packet-at-ne4+then-end-packet w ↦ limit_more a.packet.now a.at a.count g.1 q a.limit (λ e. w.if-end-packet.true (g.0 ∙ e))
    ]

pub returns-else-end-packet : goal.returns-else-end-packet
returns-else-end-packet c =
    let a = c.args in
    let g = is_end a.packet.now a.at _ c.in_ok-end.ensures in
    λ q. limit_label a.packet.now a.at a.count g.1 q a.limit c.if-packet-at-ne4.false _ g.0 (sym g.0 ∙ c.if-end-packet.false)

pub returns-else-at-packet : goal.returns-else-at-packet
returns-else-at-packet c = let a = c.args in λ q. limit_end a.packet.now a.at a.count q a.limit c.if-at-packet.false
