-- The judgement of a tree: the parts of each node from the left, each in its scope, and then the node.
use Rattle.std.specs.Prelude.{List, [], ◌∷◌, ◌++◌}
use Rattle.rw_base.specs.Trees.{none, leaf, node, Numbered}
use Rattle.j_names.specs.declared.context.Frame.{Frame}
use Rattle.judging.specs.Judging.{Judging, give, and_then}
use Rattle.judged_trees.specs.Tables.{Site, Tables}

module _ {V G : Type 0} (t : Tables V G) where
  -- a node, by what its parts give and leave in scope
  abbrev pub closed : Site G → List Frame → Judging (List V × List Frame) → Judging (V × List Frame)
  closed site around parts = and_then parts (λ p.
      and_then (t.value_of site p.0 (around ++ p.1)) (λ v. give (v, t.left_in_scope site p.0 p.1)))

  -- a part in the scopes that are put before it, which stay in front of those that it leaves
  abbrev pub placed : List Frame → Judging (V × List Frame) → Judging (V × List Frame)
  placed before part = and_then part (λ v. give (v.0, before ++ v.1))

  -- the parts of a node, from the left: their values, and what they leave in scope
  unfoldable pub parts : Site G → List Frame → Numbered → List V → List Frame → Judging (List V × List Frame)
  parts site around none values left = give (values, left)
  parts site around (leaf i rest) values left = parts site around rest values left
  parts site around (node n k own rest) values left =
      let from = node n k own rest in
      let inner : Site G = record { number = n; kind = k; trees = own; given = t.given_to site from values } in
      and_then (and_then (t.scope_for site from values around left) (λ before.
      placed before (closed inner (around ++ before) (parts inner (around ++ before) own [] [])))) (λ v.
      parts site around rest (values ++ v.0 ∷ []) v.1)

  -- the judgement of a node in the scopes around it: what it gives, and what it leaves in scope
  unfoldable pub judged : Site G → List Frame → Judging (V × List Frame)
  judged site around = closed site around (parts site around site.trees [] [])
