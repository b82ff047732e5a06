use Rattle.std.proofs.Common.{sym, ap, ◌∙◌}
use Rattle.std.specs.Option.{option_map}
use Rattle.scheduler.proofs.Renamed.{renamed}
use Rattle.scheduler.proofs.decide.fate_by_renaming.Goals as goal

pub returns-clause-is : goal.returns-clause-is
returns-clause-is g c = λ read are.
    renamed read c.args.file.now c.args.options.now c.in_ok-path.path c.in-Some.bytes.items c.in_ok-fate.fate
    (sym (ap (option_map (λ v. v.items)) c.in-Some.is) ∙ c.in_ok-bytes.ensures) c.in_ok-path.ensures
    (c.in_ok-fate.ensures.is read are)
