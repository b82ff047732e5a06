-- The declared types among the parts of a node: one part further.
use Rattle.std.proofs.Common.{◌≡◌, ◌∙◌, ℕ, ◌+◌, ◌<◌, ◌≤◌, Bool, true, false, List, [], ◌∷◌, ◌++◌, length, get_or, drop}
use Rattle.std.proofs.Common.{Option, Some, None, refl, ap, sym, append_assoc, append-nil, if◌then◌else◌}
use Rattle.jtypes.specs.declared.signatures.ClassKind.{ClassKind}
use Rattle.rw_base.specs.declared.tree.NodeId.{NodeId}
use Rattle.rw_base.specs.declared.tree.Part.{Part}
use Rattle.rw_base.specs.declared.tree.Part.TheVariants as part
use Rattle.rw_base.specs.Arena.{Arena, kind_of}
use Rattle.rw_base.specs.Trees.{none, leaf, node}
use Rattle.class_table.specs.declared.around.Around.{Around}
use Rattle.declared_types.specs.declared.written.DeclaredType.{DeclaredType}
use Rattle.class_table.specs.Words.{Word, Parts, parts_at, trees_of}
use Rattle.class_table.specs.Declarations.{class_kind, around_in, private_inside, node_types, types_in}
use Rattle.class_table.specs.Declarations.{inside, qualified, declared, holds_types}
use Rattle.class_table.specs.TypesWritten.{type_params}
use Rattle.class_table.proofs.Gathering.{over_leaf, over_node, over_end}

module _ (a : Around) (p : Bool) where
  abbrev pub own_types : ℕ → Parts → List DeclaredType
  own_types k kids =
      node_types a p k (class_kind k) kids (types_in (around_in a (class_kind k) kids) (private_inside k kids) kids)

  types_skip : (w : Word) (f : Parts) → types_in a p (leaf w f) ≡ types_in a p f
  unfolding types_in
  types_skip w f = refl

  types_add : (k : ℕ) (kids f : Parts) → types_in a p (node tt k kids f) ≡ own_types k kids ++ types_in a p f
  unfolding types_in
  types_add k kids f = refl

  types_none : types_in a p none ≡ []
  unfolding types_in
  types_none = refl

  module _ (k : ℕ) (kids : Parts) (old : List DeclaredType) (are_private : Bool)
      (same : are_private ≡ private_inside k kids) where
    -- with the types in it
    by_kind : (o : Option ClassKind) → class_kind k ≡ o
        → own_types k kids ≡ node_types a p k o kids (types_in (around_in a o kids) (private_inside k kids) kids)
    by_kind o e = ap (λ x. node_types a p k x kids (types_in (around_in a x kids) (private_inside k kids) kids)) e

    pub declared_types : (t : ClassKind) (inner : Around) (mid new : List DeclaredType) → class_kind k ≡ Some t
        → inner ≡ inside a (qualified a kids) (type_params kids) → mid ≡ old ++ declared a p t kids ∷ []
        → new ≡ mid ++ types_in inner are_private kids → new ≡ old ++ own_types k kids
    declared_types t inner mid new is around row more =
        let deep = types_in (inside a (qualified a kids) (type_params kids)) (private_inside k kids) kids in
        more
        ∙ (ap (λ x. mid ++ types_in x are_private kids) around
        ∙ (ap (λ x. mid ++ types_in (inside a (qualified a kids) (type_params kids)) x kids) same
        ∙ (ap (λ x. x ++ deep) row
        ∙ (append_assoc old (declared a p t kids ∷ []) deep ∙ ap (λ x. old ++ x) (sym (by_kind (Some t) is))))))

    pub held_types : (new : List DeclaredType) → class_kind k ≡ None → holds_types k ≡ true
        → new ≡ old ++ types_in a are_private kids → new ≡ old ++ own_types k kids
    held_types new is holds more =
        let deep = types_in a (private_inside k kids) kids in
        more
        ∙ (ap (λ x. old ++ types_in a x kids) same
        ∙ ap (λ x. old ++ x) (sym (by_kind None is ∙ ap (λ b. if b then deep else []) holds)))

    pub no_types : class_kind k ≡ None → holds_types k ≡ false → old ≡ old ++ own_types k kids
    no_types is holds =
        let deep = types_in a (private_inside k kids) kids in
        sym (append-nil old) ∙ ap (λ x. old ++ x) (sym (by_kind None is ∙ ap (λ b. if b then deep else []) holds))

  module _ (t : Arena) (bytes : List ℕ) (ps : List Part) (k : ℕ) (out all : List DeclaredType)
      (so_far : out ++ types_in a p (trees_of t bytes (drop k ps)) ≡ all) where
    pub types_leaf : (d : Part) (i : ℕ) → k < length ps → get_or ps k d ≡ part.Leaf i
        → out ++ types_in a p (trees_of t bytes (drop (k + 1) ps)) ≡ all
    types_leaf = over_leaf (types_in a p) own_types types_skip types_add types_none t bytes ps k out all so_far

    pub types_node : (d : Part) (m : NodeId) (new : List DeclaredType) → k < length ps → get_or ps k d ≡ part.Node m
        → new ≡ out ++ own_types (kind_of t.nodes m.0) (parts_at t bytes m.0)
        → new ++ types_in a p (trees_of t bytes (drop (k + 1) ps)) ≡ all
    types_node = over_node (types_in a p) own_types types_skip types_add types_none t bytes ps k out all so_far

    pub types_end : length ps ≤ k → out ≡ all
    types_end = over_end (types_in a p) own_types types_skip types_add types_none t bytes ps k out all so_far
