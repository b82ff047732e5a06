use Rattle.std.proofs.Common.{◌≡◌, ℕ, ◌-◌, List, length, take, drop, ◌∙◌, ap, subst}
use Rattle.std.proofs.lemmas.List.{take_rest}
use Rattle.std.specs.Prelude.{Option, Some, None, MatchOption, IfOk}
use Rattle.yaml_texts.specs.Texts.{scalar_text}
use Rattle.yaml_tree.specs.Scalars.{column_around}
use Rattle.yaml_tree.proofs.ScalarSteps.{said_here}
use Rattle.yaml_tree.proofs.scalars.scalar.Goals as goal
use Rattle.yaml_tree.proofs.scalars.scalar.Goals.{then-needs_column, else-needs_column}

pub returns : goal.returns
returns c =
    let bytes = c.args.bytes.now in
    let t = c.args.tree.now in
    let row = c.leaf-row.result in
    let text = c.text-text.result.now in
    let rest = take (length bytes - row.to) (drop row.to bytes) in
    let column = c.if-needs_column.column in
    let around = column_around bytes t c.args.leaf in
    let same : scalar_text row.class column text rest ≡ scalar_text row.class around text rest =
    elim c.if-needs_column.branch [
      | then-needs_column w ↦ ap (λ (k : Option ℕ). scalar_text row.class k text rest) (w.column-is ∙ w.column_around-column.ensures)
      | else-needs_column w ↦ ap (λ (k : Option ℕ). scalar_text row.class k text rest) w.column-is ∙ c.needs_column.ensures w.if-needs_column.false around rest
    ] in
    subst (λ (s : Option (List ℕ)). IfOk c.decoded.result (λ r. MatchOption r (s ≡ None) (λ v. s ≡ Some v.items)))
    (said_here bytes t c.args.leaf row text rest column c.leaf-row.ensures.leaf c.text-text.ensures (take_rest bytes row.to) same)
    c.decoded.ensures
