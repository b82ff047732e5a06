-- What a part is given, by the first of the trees from it on.
use Rattle.std.proofs.Common.{◌≡◌, ℕ, List, refl}
use Rattle.std.specs.Prelude.{Some, None}
use Rattle.rw_base.specs.Trees.{leaf, node, Numbered}
use Rattle.java_reader.specs.Kinds.{kind_in}
use Rattle.java_reader.specs.declared.kind.Kind.{Kind}
use Rattle.judged_trees.specs.Tables.{Site}
use Rattle.j_attrib.specs.Around.{Around}
use Rattle.j_attrib.specs.Givens.{given_by, given_to}
use Rattle.j_attrib.specs.declared.value.Given.{Given}
use Rattle.j_attrib.specs.declared.value.Given.TheVariants as given
use Rattle.j_attrib.specs.declared.value.Value.{Value}

module _ (u : Around) (at : Site Given) (vs : List Value) where
  pub given_leaf : (i : ℕ) (rest from : Numbered) → from ≡ leaf i rest → given.Nothing ≡ given_to u at from vs
  unfolding given_to
  given_leaf i rest from e = rw e refl

  pub given_none : (n k : ℕ) (own rest from : Numbered) → kind_in at.kind ≡ None → from ≡ node n k own rest
      → given.Nothing ≡ given_to u at from vs
  unfolding given_to
  given_none n k own rest from e f = rw (f, e) refl

  pub given_node : (n k : ℕ) (own rest from : Numbered) (kind : Kind) → kind_in at.kind ≡ Some kind
      → from ≡ node n k own rest → given_by u at vs k rest kind ≡ given_to u at from vs
  unfolding given_to
  given_node n k own rest from kind e f = rw (f, e) refl
