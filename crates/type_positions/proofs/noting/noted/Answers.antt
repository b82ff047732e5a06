use Rattle.std.proofs.Common.{◌∙◌, ap, ◌∷◌, [], ◌++◌}
use Rattle.judging.specs.JudgingLaws.{judged_noting}
use Rattle.judging.specs.declared.log.Note.TheVariants as note
use Rattle.type_positions.proofs.noting.noted.Goals as goal

pub returns : goal.returns
returns c = λ w.
    let old = c.args.log.now in
    judged_noting w old c.note.new.self (note.Symbol c.args.leaf c.args.symbol ∷ []) c.args.symbol c.in_ok-note.ensures.asks
    (c.in_ok-note.ensures.notes ∙ ap (λ s. old.notes ++ note.Symbol c.args.leaf s ∷ []) c.in_ok-copy.ensures)
