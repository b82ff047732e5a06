use Rattle.std.proofs.Common.{◌≡◌, ◌∙◌, [], ap, List, map}
use denote.Bor.{Bor}
use Rattle.jtypes.specs.ListWorld.{world_in}
use Rattle.jtypes.specs.World.{world_of}
use Rattle.declared_types.specs.declared.written.DeclaredType.{DeclaredType}
use Rattle.class_world.specs.Worlds.{headers, headers_with_supertypes, fields_in, methods_in, world_of_types}
use Rattle.class_world.proofs.rows.rows_of_types.Goals as goal

pub returns : goal.returns
unfolding world_of_types headers_with_supertypes
returns c =
    let all : List DeclaredType = map (λ (d : Bor DeclaredType). d.now) c.args.types.now in
    let below : world_in c.in_ok-below.below ≡ world_of (headers all) [] [] =
    c.in_ok-below.ensures ∙ ap (λ hs. world_of hs [] []) (c.as_slice.ensures.value ∙ c.in_ok-headers.ensures) in
    c.in_ok-rows.ensures
    ∙ ap (λ hs. world_of hs (fields_in (world_in c.in_ok-below.below) all) (methods_in (world_in c.in_ok-below.below) all))
    (c.as_slice-2.ensures.value ∙ c.in_ok-headers.ensures)
    ∙ ap (λ w. world_of (headers all) (fields_in w all) (methods_in w all)) below
