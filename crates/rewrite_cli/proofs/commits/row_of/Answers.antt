use Rattle.std.proofs.Common.{refl}
use Rattle.command_words.specs.Asking.{asked_told}
use Rattle.rewrite_cli.specs.Ends.{ran_told}
use Rattle.rewrite_cli.proofs.CommitSteps.{made, row_is}
use Rattle.rewrite_cli.proofs.commits.row_of.Goals as goal

pub returns : goal.returns
returns c =
    row_is c.args.runs.now (asked_told c.args.asked) (ran_told c.args.ran.now) c.args.changes.now c.requires.changes
    (made c.in_ok-next_run.field-0 c.in_ok-from_slice.field-0 c.args.ran.now.cycles c.in_ok-counted.field-0 c.in_ok-counted-2.field-0 c.in_ok-counted-3.field-0 c.args.digest)
    c.in_ok-next_run.ensures c.in_ok-from_slice.ensures refl c.in_ok-counted.ensures c.in_ok-counted-2.ensures c.in_ok-counted-3.ensures c.requires.digest
