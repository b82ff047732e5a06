use Rattle.std.proofs.Common.{rules}
use Rattle.std.specs.Prelude.{◌==◌}
use Rattle.std.proofs.lemmas.Bool.Decides.{nat_tests}
use Rattle.std.proofs.lemmas.Iterator.Search.{any_from_yields_List}
use Rattle.std.proofs.lemmas.Iterator.Splits.{YieldsList-from_slice_split}
use Rattle.kept_files.specs.Kinds.{begins_with_dot}
use Rattle.kept_files.proofs.kind.is_hidden.Goals as goal

-- `split` gives the parts, and `any` tests each
pub returns : goal.returns
returns c =
    let split = c.split.ensures in
    any_from_yields_List begins_with_dot _ _ c.any.result c.any.ensures.ran
    (YieldsList-from_slice_split _ (λ b. b == 47) c.args.path.now split.rest split.done split.closure (λ x b q called. search (rules, nat_tests)))
    (λ x b q called. search rules)
