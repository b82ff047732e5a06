-- Judgements of written types, packages and imports, put together of what their calls ask and note.
use Rattle.std.proofs.Common.{◌≡◌, ℕ, ◌+◌, ◌<◌, ◌≤◌, List, [], ◌∷◌, Bool, Some, length, get_or, drop, ap}
use Rattle.std.proofs.Common.{◌∙◌, ◌++◌, false, sym, append-nil, append_assoc, arith}
use Rattle.std.specs.Prelude.{◌==◌}
use Rattle.rw_base.specs.declared.tree.NodeId.{NodeId}
use Rattle.rw_base.specs.declared.tree.NodeRow.{NodeRow}
use Rattle.rw_base.specs.declared.tree.Part.{Part}
use Rattle.rw_base.specs.declared.tree.Part.TheVariants as part
use Rattle.rw_base.specs.Laid.{forest_of, kids_of}
use Rattle.rw_base.specs.PartLaws.{leaf_next, node_next, none_next, below_next, leaf_below, node_below}
use Rattle.rw_base.specs.Trees.{Numbered}
use Rattle.java_lex.specs.declared.class.TheConstants.{PRIM, STATIC}
use Rattle.java_nodes.specs.Directly.{has_word}
use Rattle.jtypes.specs.World.{World}
use Rattle.jtypes.specs.declared.symbol.Symbol.{Symbol}
use Rattle.j_names.specs.declared.context.Frame.{Frame}
use Rattle.judging.specs.Judging.{Judged, and_then, give}
use Rattle.judging.specs.JudgingLaws.{judged_give, judged_then}
use Rattle.judging.specs.declared.log.Log.{Log}
use Rattle.type_positions.specs.Declarations.{imported}
use Rattle.type_positions.specs.TypeNames.{type_name}
use Rattle.type_positions.specs.WrittenTypes.{written_type}
use Rattle.type_positions.specs.declared.names.ImportPart.{ImportPart}
use Rattle.type_positions.specs.declared.names.NamedLeaf.{NamedLeaf}
use Rattle.type_positions.specs.declared.written.MeantType.{MeantType}
use Rattle.type_positions.specs.declared.written.WrittenType.{WrittenType}
use Rattle.j_attrib.specs.Around.{Around, dims, first_name, first_word, name_at, named}
use Rattle.j_attrib.specs.Values.{value_at}
use Rattle.j_attrib.specs.WrittenRows.{class_type, lone_parameter, more_dims, outer_type}
use Rattle.j_attrib.specs.WrittenRows.{class_meant, import_from, import_part, import_parts, named_type, written_in}
use Rattle.j_attrib.specs.declared.value.Given.{Given}
use Rattle.j_attrib.specs.declared.value.Given.TheVariants as given
use Rattle.j_attrib.specs.declared.value.Value.{Value}
use Rattle.j_attrib.specs.declared.value.Value.TheVariants as value
use Rattle.j_attrib.proofs.DeclaredSteps.{node_wider}

module _ (u : Around) where
  pub type_named : (s : List Frame) (trees : Numbered) (t : WrittenType) (w : World) (l n : Log) (m : MeantType)
      → t ≡ written_in u trees → Judged (written_type u.context s t) w l n m
      → Judged (named_type u s trees) w l n (value.Written m)
  unfolding named_type
  type_named s trees t w l n m e h =
      judged_then (written_type u.context s (written_in u trees)) (λ x. give (value.Written x)) w l n n m
      (value.Written m) (rw e at h) (judged_give w n (value.Written m))

  -- what stands behind the first name of an import, part by part
  pub imports_leaf : (rows : List NodeRow) (ps : List Part) (k : ℕ) (d : Part) (i : ℕ) → k < length ps
      → get_or ps k d ≡ part.Leaf i
      → import_parts u (forest_of rows (drop k ps)) ≡ import_parts u (forest_of rows (drop (k + 1) ps))
  unfolding import_parts
  imports_leaf rows ps k d i h e = ap (import_parts u) (leaf_next rows ps k d i h e)

  pub imports_node : (rows : List NodeRow) (ps : List Part) (k : ℕ) (d : Part) (m : NodeId) → k < length ps
      → get_or ps k d ≡ part.Node m
      → import_parts u (forest_of rows (drop k ps))
      ≡ import_part u (first_name u (kids_of rows m.0)) ∷ import_parts u (forest_of rows (drop (k + 1) ps))
  unfolding import_parts
  imports_node rows ps k d m h e = ap (import_parts u) (node_next rows ps k d m h e)

  pub imports_none : (rows : List NodeRow) (ps : List Part) (k : ℕ) → length ps ≤ k
      → import_parts u (forest_of rows (drop k ps)) ≡ []
  unfolding import_parts
  imports_none rows ps k le = ap (import_parts u) (none_next rows ps k le)

  pub over_leaf : (rows : List NodeRow) (ps : List Part) (k : ℕ) (d : Part) (i : ℕ) (list all : List ImportPart)
      → k < length ps → get_or ps k d ≡ part.Leaf i → list ++ import_parts u (forest_of rows (drop k ps)) ≡ all
      → list ++ import_parts u (forest_of rows (drop (k + 1) ps)) ≡ all
  over_leaf rows ps k d i list all h e f = rw (imports_leaf rows ps k d i h e) at f

  pub over_node : (rows : List NodeRow) (ps : List Part) (k : ℕ) (d : Part) (m : NodeId) (p : ImportPart)
      (list all : List ImportPart) → k < length ps → get_or ps k d ≡ part.Node m
      → p ≡ import_part u (first_name u (kids_of rows m.0))
      → list ++ import_parts u (forest_of rows (drop k ps)) ≡ all
      → (list ++ p ∷ []) ++ import_parts u (forest_of rows (drop (k + 1) ps)) ≡ all
  over_node rows ps k d m p list all h e g f =
      rw g (append_assoc list (import_part u (first_name u (kids_of rows m.0)) ∷ [])
      (import_parts u (forest_of rows (drop (k + 1) ps))) ∙ (rw (imports_node rows ps k d m h e) at f))

  pub over_all : (rows : List NodeRow) (ps : List Part) (k : ℕ) (list all : List ImportPart) → length ps ≤ k
      → list ++ import_parts u (forest_of rows (drop k ps)) ≡ all → list ≡ all
  over_all rows ps k list all le f = sym (append-nil list) ∙ (rw (imports_none rows ps k le) at f)

  -- a type with `[]` whose name stands in a part
  pub outer_dims : (s : List Frame) (trees : Numbered) (vs : List Value) (w : World) (l : Log) (v : Value)
      → (first_word u trees == PRIM) ≡ false → v ≡ more_dims u (dims trees) (value_at vs 0)
      → Judged (outer_type u s trees vs) w l l v
  unfolding outer_type
  outer_dims s trees vs w l v e f = rw (e, f) (judged_give w l (more_dims u (dims trees) (value_at vs 0)))

  -- a lambda's parameter without a type
  pub lambda_lone : (s : List Frame) (trees : Numbered) (g : Given) (leaves : List ℕ) (w : World) (l n : Log)
      (v : Value) → g ≡ given.LambdaParam → 1 ≤ length leaves → length leaves < 2
      → ((x : Around) (y : World) → Judged (lone_parameter x (get_or leaves 0 0)) y l n v)
      → Judged (class_type u s trees g leaves) w l n v
  unfolding class_type
  lambda_lone s trees g [] w l n v e le lt h = absurd (omega arith)
  lambda_lone s trees g (i ∷ []) w l n v e le lt h = rw e (h u w)
  lambda_lone s trees g (i ∷ j ∷ is) w l n v e le lt h = absurd (omega arith)

  -- the name of an annotation's type
  pub annotated : (s : List Frame) (leaves : List ℕ) (names : List NamedLeaf) (w : World) (l n : Log) (m : Symbol)
      (v : Value) → names ≡ named u leaves → Judged (type_name u.context s names) w l n m
      → ((x : Around) → v ≡ class_meant x m)
      → Judged (and_then (type_name u.context s (named u leaves)) (λ x. give (class_meant u x))) w l n v
  annotated s leaves names w l n m v e h f =
      rw (f u)
      (judged_then (type_name u.context s (named u leaves)) (λ x. give (class_meant u x)) w l n n m (class_meant u m)
      (rw e at h) (judged_give w n (class_meant u m)))

  pub import_meant : (trees : Numbered) (i : ℕ) (is_static : Bool) (p : NamedLeaf) (ps : List ImportPart) (w : World)
      (l n : Log) (s : Symbol) → p ≡ record { leaf = i; name = name_at u i }
      → is_static ≡ has_word STATIC u.tree.leaves trees → ps ≡ import_parts u trees
      → Judged (imported u.context is_static p ps) w l n s
      → Judged (import_from u trees (Some i)) w l n value.Nothing
  import_meant trees i is_static p ps w l n s e f g h =
      judged_then
      (imported u.context (has_word STATIC u.tree.leaves trees) (record { leaf = i; name = name_at u i })
      (import_parts u trees)) (λ x. give value.Nothing) w l n n s value.Nothing (rw (e, f, g) at h)
      (judged_give w n value.Nothing)

pub ruleset of_imports = (over_leaf, over_node, over_all, below_next, leaf_below, node_below, node_wider)
