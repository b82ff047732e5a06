use Rattle.std.proofs.Common.{◌≡◌, ◌∙◌, ◌+◌, sym, ap, cond, None, Some}
use Rattle.indexmap.specs.IndexMap.{get}
use Rattle.jtypes.specs.World.{name_eq}
use Rattle.j_names.proofs.Numbering.{kept_by}
use Rattle.j_names.proofs.frames.number_of_name.Goals as goal

pub returns-clause-keeps : goal.returns-clause-keeps
returns-clause-keeps c n i h =
    let before = get name_eq c.args.numbers.now in
    let name = c.args.name.now in
    let number = c.len-number.result + 1 in
    let none : None ≡ before name = c.in_default.ensures.value in
    c.in_ok-insert.ensures.updates.0 n
    ∙ ap (λ k. cond (name_eq k n) (Some number) (before n)) c.in_ok-copy.ensures
    ∙ kept_by before name n i number (sym none) h
