-- One part of a node, as its own function judges it.
use Rattle.std.specs.Prelude.{◌≡◌, ℕ, List, [], ◌∷◌, ◌++◌}
use Rattle.rw_base.specs.Trees.{Numbered}
use Rattle.jtypes.specs.World.{World}
use Rattle.j_names.specs.declared.context.Frame.{Frame}
use Rattle.judging.specs.declared.log.Log.{Log}
use Rattle.judging.specs.Judging.{Judging, and_then, Judged}
use Rattle.judged_trees.specs.Tables.{Site, Tables}
use Rattle.judged_trees.specs.Trees.{judged, placed}

module _ {V G : Type 0} (t : Tables V G) where
  -- a part by its number, kind and trees; `from` are the trees from it on
  unfoldable pub part_of : Site G → List Frame → Numbered → List V → List Frame → ℕ → ℕ → Numbered
      → Judging (V × List Frame)
  part_of site around from values left n k own =
      and_then (t.scope_for site from values around left) (λ before.
      placed t before (judged t (record { number = n; kind = k; trees = own; given = t.given_to site from values })
      (around ++ before)))

-- a function that judges a part puts its value, and what it leaves in scope behind the scopes around the node
pub record PartJudged {V : Type 0} (d : Judging (V × List Frame)) (w : World) (old new : Log) (around scopes : List Frame)
    (before after : List V) : Type 0 where
  pub value : V
  pub left : List Frame
  pub judged : Judged d w old new (value, left)
  pub frames : scopes ≡ around ++ left
  pub values : after ≡ before ++ value ∷ []
