-- The names among some parts are leaves of the tree.
use Rattle.std.proofs.Common.{ℕ, ◌<◌, List, [], ◌∷◌, length, refl}
use Rattle.std.specs.Prelude.{All}
use Rattle.std.specs.Option.{option_to_list}
use Rattle.std.proofs.lemmas.List.Elements.{All-nil, All-cons, All-head, All-filter, All-map}
use Rattle.rw_base.specs.declared.tree.Leaf.{Leaf}
use Rattle.rw_base.specs.declared.tree.NodeId.{NodeId}
use Rattle.rw_base.specs.declared.tree.NodeRow.{NodeRow}
use Rattle.rw_base.specs.declared.tree.Part.{Part}
use Rattle.rw_base.specs.declared.tree.Part.TheVariants as part
use Rattle.rw_base.specs.Arena.{Arena, AreBelow, kind_of}
use Rattle.rw_base.specs.Laid.{forest_of}
use Rattle.rw_base.specs.PartLaws.{forest_nil, forest_leaf, forest_node}
use Rattle.rw_base.specs.Trees.{Numbered}
use Rattle.java_nodes.specs.Directly.{leaves_in, names_in, first_of, is_name, class_at}
use Rattle.written_bodies.specs.declared.fields.WrittenField.{WrittenField}
use Rattle.written_bodies.specs.Bodies.{name_in, named_fields, dims_in, IsFieldOf}

first_inside : (P : ℕ → Type 0) (xs : List ℕ) → All P xs → All P (option_to_list (first_of xs))
first_inside P [] h = All-nil P
first_inside P (x ∷ xs) h = All-cons P x [] (All-head P x xs h) (All-nil P)

module _ (leaf_count n : ℕ) (rows : List NodeRow) where
  leaves_inside : (ps : List Part) → AreBelow leaf_count n ps
      → All (λ i. i < leaf_count) (leaves_in (forest_of rows ps))
  leaves_inside [] b = rw (forest_nil rows) (All-nil (λ i. i < leaf_count))
  leaves_inside (part.Leaf i ∷ ps) b =
      rw (forest_leaf rows i ps)
      (All-cons (λ i. i < leaf_count) i (leaves_in (forest_of rows ps)) b.0 (leaves_inside ps b.1))
  leaves_inside (part.Node m ∷ ps) b = rw (forest_node rows m ps) (leaves_inside ps b.1)

  pub name_inside : (ls : List Leaf) (ps : List Part) → AreBelow leaf_count n ps
      → All (λ i. i < leaf_count) (name_in ls (forest_of rows ps))
  name_inside ls ps b =
      first_inside (λ i. i < leaf_count) (names_in ls (forest_of rows ps))
      (All-filter (λ i. is_name (class_at ls i)) (λ i. i < leaf_count) (leaves_in (forest_of rows ps))
      (leaves_inside ps b))

-- the fields of a type that is a node of the tree
pub named_inside : (t : Arena) (ty : NodeId) (brackets : Numbered) (ps : List Part) → ty.0 < length t.nodes
    → AreBelow (length t.leaves) (length t.nodes) ps
    → All (IsFieldOf t) (named_fields ty.0 (kind_of t.nodes ty.0) brackets (name_in t.leaves (forest_of t.nodes ps)))
named_inside t ty brackets ps inside b =
    let field : ℕ → WrittenField = λ name. record {
      name = name;
      dims = dims_in brackets;
      ty = ty;
      kind = kind_of t.nodes ty.0;
    } in
    let names = name_in t.leaves (forest_of t.nodes ps) in
    All-map (IsFieldOf t) field names (λ k d lt. record {
      name = name_inside (length t.leaves) (length t.nodes) t.nodes t.leaves ps b k d lt;
      ty = inside;
      kind = refl;
    })
