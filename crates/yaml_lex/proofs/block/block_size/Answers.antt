use Rattle.std.proofs.Common.{ℕ, Option, MatchOption, sym, subst}
use Rattle.yaml_lex.specs.BlockScalars.{IsBlock}
use Rattle.yaml_lex.specs.Scanning.{NoBlock}
use Rattle.yaml_lex.proofs.Lines.{no-block}
use Rattle.yaml_lex.proofs.block.block_size.Goals as goal

pub returns-in_err-head : goal.returns-in_err-head
returns-in_err-head c =
    subst (λ (r : Option ℕ). MatchOption r (NoBlock c.args.column c.args.text.now) (IsBlock c.args.column c.args.text.now)) (sym c.from_residual.ensures)
    (no-block c.args.column c.args.text.now c.in_err-head.ensures.head)
