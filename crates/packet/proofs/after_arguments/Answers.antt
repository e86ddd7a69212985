-- `packet::after_arguments` meets its contract: what is no limit may be a label, and a broken limit is refused. Assumes nothing.
use mathlib.Core.Path.{sym, ap, ◌∙◌}
use native.Mathlib.Omega.{arith}
use Rattle.packet.specs.Code.{form_of, counted}
use Rattle.packet.proofs.Forms.{is_no_end, is_end, left_broken, arguments_other, arguments_size, arguments_most, arguments_limit}
use Rattle.packet.proofs.after_arguments.Goals.{then-at-packet-via-then-at-packet, then-at-packet-via-else-at-packet+then-packet-at-ne3}
use Rattle.packet.proofs.after_arguments.Goals as goal

pub returns-then-at-packet : goal.returns-then-at-packet
returns-then-at-packet c =
    let a = c.args in
    λ q. c.after_limit.ensures q ∙ ap (λ x. counted a.count (form_of x)) (arguments_other a.packet.now a.at q (λ h e. elim c.then-at-packet.branch [
      | then-at-packet-via-then-at-packet w ↦ omega arith
      | then-at-packet-via-else-at-packet+then-packet-at-ne3 w ↦ w.if-packet-at-ne3.true e
    ]))

pub returns-in_err-end : goal.returns-in_err-end
returns-in_err-end c =
    let a = c.args in
    λ q. c.from_residual.ensures ∙ left_broken a.packet.now a.at a.count q _ (omega arith) (is_no_end a.packet.now a.at c.in_err-end.ensures)

pub returns-then-end-at : goal.returns-then-end-at
returns-then-end-at c =
    let a = c.args in
    let g = is_end a.packet.now a.at _ c.in_ok-end.ensures in
    λ q. arguments_size a.packet.now a.at a.count g.1 q c.if-packet-at-ne3.false (λ e. c.if-end-at.true (g.0 ∙ e))

pub four_bytes-limit-requires : goal.four_bytes-limit-requires
four_bytes-limit-requires c = let g = is_end c.args.packet.now c.args.at _ c.in_ok-end.ensures in omega arith

pub returns-then-limit-gt1000000 : goal.returns-then-limit-gt1000000
returns-then-limit-gt1000000 c =
    let a = c.args in
    let g = is_end a.packet.now a.at _ c.in_ok-end.ensures in
    λ q. arguments_most a.packet.now a.at a.count g.1 q c.if-packet-at-ne3.false (sym g.0 ∙ c.if-end-at.false) _ c.four_bytes-limit.ensures c.if-limit-gt1000000.true

pub after_limit-requires-2 : goal.after_limit-requires-2
after_limit-requires-2 c = let g = is_end c.args.packet.now c.args.at _ c.in_ok-end.ensures in omega arith

pub returns : goal.returns
returns c =
    let a = c.args in
    let g = is_end a.packet.now a.at _ c.in_ok-end.ensures in
    λ q. c.after_limit-2.ensures q
    ∙ arguments_limit a.packet.now a.at a.count g.1 q c.if-packet-at-ne3.false (sym g.0 ∙ c.if-end-at.false) _ c.four_bytes-limit.ensures c.if-limit-gt1000000.false g.0
