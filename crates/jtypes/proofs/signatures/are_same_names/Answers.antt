use Rattle.std.proofs.Common.{◌∙◌, sym}
use Rattle.jtypes.proofs.Lists.{name_lists_decide}
use Rattle.jtypes.proofs.signatures.are_same_names.Goals as goal

pub returns : goal.returns
returns c =
    let decide = name_lists_decide c.args.names.now c.args.others.now in
    (λ h. decide.0 (sym c.eq.ensures ∙ h), λ e. c.eq.ensures ∙ decide.1 e)
