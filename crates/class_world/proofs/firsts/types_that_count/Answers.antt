use Rattle.std.proofs.Common.{◌∙◌, ap, List, ◌++◌, map}
use denote.Bor.{Bor}
use Rattle.declared_types.specs.declared.written.DeclaredType.{DeclaredType}
use Rattle.class_world.specs.Worlds.{all_declared, first_of_each}
use Rattle.class_world.proofs.OneMore.{all_three}
use Rattle.class_world.proofs.firsts.types_that_count.Goals as goal

pub returns : goal.returns
returns c =
    c.in_ok-firsts.ensures
    ∙ ap (λ (xs : List (Bor DeclaredType)). first_of_each (map (λ d. d.now) xs)) c.as_slice.ensures.value
    ∙ ap first_of_each (all_three c.args.files.now c.args.stubs.now c.args.prelude.now _ _ _
    (c.in_ok-put_all.ensures
    ∙ ap (λ (xs : List (Bor DeclaredType)). map (λ d. d.now) xs ++ all_declared c.args.files.now) c.new-all.ensures.items)
    c.in_ok-put_all-2.ensures c.in_ok-put_types.ensures)
