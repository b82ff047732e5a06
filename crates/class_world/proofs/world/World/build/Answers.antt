use Rattle.std.proofs.Common.{◌≡◌, ◌∙◌, sym, ap, subst, List, [], ◌∷◌, ◌++◌, map}
use denote.Bor.{Bor}
use Rattle.declared_types.specs.declared.written.DeclaredType.{DeclaredType}
use Rattle.class_world.specs.Once.{NamesDiffer}
use Rattle.class_world.specs.Worlds.{all_declared, first_of_each, the_world, world_of_types}
use Rattle.class_world.proofs.OneMore.{firsts_differ}
use Rattle.class_world.proofs.world.World.build.Goals as goal

pub returns : goal.returns
unfolding the_world
returns c = record {
  gives =
      c.in_ok-rows.ensures
      ∙ ap (λ (ds : List (Bor DeclaredType)). world_of_types (map (λ d. d.now) ds)) c.as_slice.ensures.value
      ∙ ap world_of_types c.in_ok-types.ensures;
}

pub rows_of_types-requires : goal.rows_of_types-requires
rows_of_types-requires c =
    let all : List DeclaredType = all_declared (c.args.files.now ++ c.args.stubs.now ++ c.args.prelude.now ∷ []) in
    record {
      names_differ = subst NamesDiffer
          (sym (ap (λ (ds : List (Bor DeclaredType)). map (λ d. d.now) ds) c.as_slice.ensures.value
          ∙ c.in_ok-types.ensures)) (firsts_differ all);
    }
