-- Translate lays its nodes as Read would. Assumes nothing.
use Prim.Native.Nat.{ℕ}
use mathlib.Core.Path.{◌≡◌, sym, ap, ◌∙◌}
use mathlib.Core.List.{List}
use mathlib.Core.Option.{some}
use Rattle.std.specs.Prelude.{Result}
use Rattle.calculus.specs.Term.{Term}
use Rattle.calculus.specs.Bytes.{rule}
use Rattle.calculus.specs.Abstraction.{rule_tree}
use Rattle.table.specs.Nodes.{Placed, got, lay}
use Rattle.table.specs.Outcome.{Outcome}
use Rattle.table.proofs.Laid.{placed_node, placed_words}
use Rattle.table.specs.Refusal.{made}
use Rattle.table.specs.declared.Refusal.{Refusal}
use Rattle.table.specs.declared.Made.{Made}
use Rattle.ternary.specs.Text.{text}
use Rattle.ternary.specs.Read.{read}
use Rattle.ternary.proofs.OneText.{text_read}
use Rattle.ternary.proofs.Reading.{read_gives}
use Rattle.translation.specs.Translate.{translate}
use Rattle.translation.proofs.Translates.{translate_gives}

-- "Nodes lie as Read would lay its text." (Operations, Translate) Where Translate gives a node, and Read of its tree's text into the same table does,
-- the two give the same node and leave the same words, with as many nodes in use.
pub lies_as_read : (w : List ℕ) (u : ℕ) (s b : List ℕ) {t : Term} → rule b ≡ some t → (v u' : ℕ) → (translate w u s b).answer ≡ made v u' → (z : List ℕ) (v₂ u₂ : ℕ)
    → (read w u z (text (rule_tree t))).answer ≡ made v₂ u₂ → (v ≡ v₂) × (u' ≡ u₂) × ((translate w u s b).table ≡ (read w u z (text (rule_tree t))).table)
lies_as_read w u s b {t} h v u' d z v₂ u₂ e =
    let p = translate_gives w u s b v u' d in
    let q = read_gives w u z (text (rule_tree t)) v₂ u₂ e in
    let a : p.term ≡ t = cc p.is_rule in
    let x : q.tree ≡ rule_tree p.term = cc (q.whole_text, text_read (rule_tree t)) in
    let y : got p.had.placed_as ≡ got q.had.placed_as = sym p.had.nodes_enough ∙ ap (lay (record { words = w; used = u })) (sym x) ∙ q.had.nodes_enough in
    let m : p.had.placed_as ≡ q.had.placed_as = cc in
    let i = placed_node p.had.placed_as s (sym (ap (λ (o : Outcome (Result Made Refusal)). o.answer) p.laid_is) ∙ d) in
    let j = placed_node q.had.placed_as z (sym (ap (λ (o : Outcome (Result Made Refusal)). o.answer) q.laid_is) ∙ e) in (
      sym i.0 ∙ ap (λ (k : Placed). k.node) m ∙ j.0,
      sym i.1 ∙ ap (λ (k : Placed). k.table.used) m ∙ j.1,
      ap (λ (o : Outcome (Result Made Refusal)). o.table) p.laid_is
          ∙ placed_words p.had.placed_as s
          ∙ ap (λ (k : Placed). k.table.words) m
          ∙ sym (placed_words q.had.placed_as z)
          ∙ ap (λ (o : Outcome (Result Made Refusal)). o.table) (sym q.laid_is),
    )
