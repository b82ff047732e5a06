use Rattle.std.proofs.Common.{sym, subst}
use Rattle.std.proofs.lemmas.Bool.{false≢true}
use Rattle.journal_text.specs.Changes.{IsFree}
use Rattle.journal_text.proofs.paths.allowed_path.Goals as goal

pub returns-else-is_free : goal.returns-else-is_free
returns-else-is_free c = λ may. false≢true (c.if-is_free.ensures.1 (subst IsFree (sym c.in-Ok.ensures.cases.0) may.free))
