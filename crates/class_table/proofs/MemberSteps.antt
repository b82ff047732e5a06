-- The members among the parts of a node: one part further.
use Rattle.std.proofs.Common.{◌≡◌, ℕ, ◌+◌, ◌<◌, ◌≤◌, List, [], ◌++◌, length, get_or, drop, refl}
use Rattle.rw_base.specs.declared.tree.NodeId.{NodeId}
use Rattle.rw_base.specs.declared.tree.Part.{Part}
use Rattle.rw_base.specs.declared.tree.Part.TheVariants as part
use Rattle.rw_base.specs.Arena.{Arena, kind_of}
use Rattle.rw_base.specs.Trees.{none, leaf, node}
use Rattle.jtypes.specs.declared.signatures.ClassKind.{ClassKind}
use Rattle.class_table.specs.declared.modifiers.Mods.{Mods}
use Rattle.declared_types.specs.declared.written.WrittenField.{WrittenField}
use Rattle.declared_types.specs.declared.written.WrittenMethod.{WrittenMethod}
use Rattle.class_table.specs.Words.{Word, Parts, parts_at, trees_of}
use Rattle.class_table.specs.Members.{mods_inside, fields_in, methods_in, node_fields, node_methods}
use Rattle.class_table.proofs.Gathering.{over_leaf, over_node, over_end}

module _ (c : ClassKind) (mods : Mods) where
  abbrev pub own_fields : ℕ → Parts → List WrittenField
  own_fields k kids = node_fields c mods k kids (fields_in c (mods_inside mods k kids) kids)

  fields_skip : (w : Word) (f : Parts) → fields_in c mods (leaf w f) ≡ fields_in c mods f
  unfolding fields_in
  fields_skip w f = refl

  fields_add : (k : ℕ) (kids f : Parts)
      → fields_in c mods (node tt k kids f) ≡ own_fields k kids ++ fields_in c mods f
  unfolding fields_in
  fields_add k kids f = refl

  fields_none : fields_in c mods none ≡ []
  unfolding fields_in
  fields_none = refl

  module _ (t : Arena) (bytes : List ℕ) (ps : List Part) (k : ℕ) (out all : List WrittenField)
      (so_far : out ++ fields_in c mods (trees_of t bytes (drop k ps)) ≡ all) where
    pub fields_leaf : (d : Part) (i : ℕ) → k < length ps → get_or ps k d ≡ part.Leaf i
        → out ++ fields_in c mods (trees_of t bytes (drop (k + 1) ps)) ≡ all
    fields_leaf = over_leaf (fields_in c mods) own_fields fields_skip fields_add fields_none t bytes ps k out all so_far

    pub fields_node : (d : Part) (m : NodeId) (new : List WrittenField) → k < length ps → get_or ps k d ≡ part.Node m
        → new ≡ out ++ own_fields (kind_of t.nodes m.0) (parts_at t bytes m.0)
        → new ++ fields_in c mods (trees_of t bytes (drop (k + 1) ps)) ≡ all
    fields_node = over_node (fields_in c mods) own_fields fields_skip fields_add fields_none t bytes ps k out all so_far

    pub fields_end : length ps ≤ k → out ≡ all
    fields_end = over_end (fields_in c mods) own_fields fields_skip fields_add fields_none t bytes ps k out all so_far

module _ (mods : Mods) where
  abbrev pub own_methods : ℕ → Parts → List WrittenMethod
  own_methods k kids = node_methods mods k kids (methods_in (mods_inside mods k kids) kids)

  methods_skip : (w : Word) (f : Parts) → methods_in mods (leaf w f) ≡ methods_in mods f
  unfolding methods_in
  methods_skip w f = refl

  methods_add : (k : ℕ) (kids f : Parts)
      → methods_in mods (node tt k kids f) ≡ own_methods k kids ++ methods_in mods f
  unfolding methods_in
  methods_add k kids f = refl

  methods_none : methods_in mods none ≡ []
  unfolding methods_in
  methods_none = refl

  module _ (t : Arena) (bytes : List ℕ) (ps : List Part) (k : ℕ) (out all : List WrittenMethod)
      (so_far : out ++ methods_in mods (trees_of t bytes (drop k ps)) ≡ all) where
    pub methods_leaf : (d : Part) (i : ℕ) → k < length ps → get_or ps k d ≡ part.Leaf i
        → out ++ methods_in mods (trees_of t bytes (drop (k + 1) ps)) ≡ all
    methods_leaf =
        over_leaf (methods_in mods) own_methods methods_skip methods_add methods_none t bytes ps k out all so_far

    pub methods_node : (d : Part) (m : NodeId) (new : List WrittenMethod) → k < length ps → get_or ps k d ≡ part.Node m
        → new ≡ out ++ own_methods (kind_of t.nodes m.0) (parts_at t bytes m.0)
        → new ++ methods_in mods (trees_of t bytes (drop (k + 1) ps)) ≡ all
    methods_node =
        over_node (methods_in mods) own_methods methods_skip methods_add methods_none t bytes ps k out all so_far

    pub methods_end : length ps ≤ k → out ≡ all
    methods_end =
        over_end (methods_in mods) own_methods methods_skip methods_add methods_none t bytes ps k out all so_far
