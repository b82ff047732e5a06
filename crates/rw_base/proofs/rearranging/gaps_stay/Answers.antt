use Rattle.rw_base.specs.EditLaws.{gaps_old, gaps_new}
use Rattle.rw_base.proofs.rearranging.gaps_stay.Goals as goal

pub returns-clause-old : goal.returns-clause-old
returns-clause-old c = λ t bytes edits tree fit size. gaps_old t tree bytes edits fit size

pub returns-clause-new : goal.returns-clause-new
returns-clause-new c = λ t bytes edits tree fit. gaps_new t tree bytes edits fit
