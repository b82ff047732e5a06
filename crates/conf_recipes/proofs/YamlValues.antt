-- The edits of ChangeValue, one entry after another, and that they fit.
use Rattle.std.proofs.Common.{◌≡◌, ℕ, zero, suc, ◌+◌, ◌<◌, ◌≤◌, ◌==◌, ◌||◌, Bool, true, false, List, [], ◌∷◌, ◌++◌, length, map, drop, get_or, refl, sym, ap, subst, ◌∙◌, append_assoc, append-nil, arith}
use Rattle.std.specs.Prelude.{Option, Some, None, IfSome, if◌then◌else◌}
use Rattle.std.specs.List.{flat_map}
use Rattle.std.specs.Option.{option_to_list}
use Rattle.std.proofs.lemmas.Bool.{ne_eqb}
use Rattle.rw_base.specs.declared.edit.Edit.{Edit}
use Rattle.rw_base.specs.declared.tree.NodeId.{NodeId}
use Rattle.rw_base.specs.declared.tree.NodeRow.{NodeRow}
use Rattle.rw_base.specs.declared.tree.Part.{Part}
use Rattle.rw_base.specs.declared.tree.Part.TheVariants as part
use Rattle.rw_base.specs.Arena.{Arena, IsTree, AreBelow, kind_of, first_of, past_of}
use Rattle.rw_base.specs.Trees.{Numbered, none, leaf, node}
use Rattle.rw_base.specs.Laid.{kids_of, forest_of}
use Rattle.rw_base.specs.PartLaws.{forest_nil, forest_leaf, forest_node}
use Rattle.rw_base.specs.NewText.{AreEdits}
use Rattle.rw_grammar.specs.Results.{class_in}
use Rattle.rw_host.specs.declared.file.FileEdit.{FileEdit}
use Rattle.rw_host.specs.declared.file.FileEdit.TheVariants as edit
use Rattle.kept_files.specs.FileEdits.{with_edits, FitsFile}
use Rattle.kept_files.specs.States.{yaml_in, tree_in}
use Rattle.kept_files.specs.declared.file.KeptFile.{KeptFile}
use Rattle.yaml_lex.specs.declared.class.TheConstants.{SCALAR, FSCALAR}
use Rattle.yaml_texts.specs.Spelled.{spelled}
use Rattle.yaml_tree.specs.declared.entry.EntryView.{EntryView}
use Rattle.yaml_tree.specs.declared.key_path.PathStep.{PathStep}
use Rattle.yaml_tree.specs.declared.option.ChangeValue.{ChangeValue}
use Rattle.yaml_tree.specs.Found.{found_in}
use Rattle.conf_recipes.specs.YamlRecipes.{in_yaml}
use Rattle.conf_recipes.specs.YamlLeaves.{is_scalar, entry_at, entries_found, text_at, lone_leaf, value_leaf, value_edits}
use Rattle.conf_recipes.specs.YamlRecipes.{values_changed, value_changed}
use Rattle.conf_recipes.proofs.Loops.{loop_end, loop_step}
use Rattle.conf_recipes.proofs.YamlKeys.{node_there}
use Rattle.conf_recipes.proofs.YamlSpans.{IsLaid, laid_rises, node_laid, AreFound, path_finds}
use Rattle.conf_recipes.proofs.YamlEdits.{IsEntryIn, IsValueIn, AreWritten, written_both, one_written, entries_written, written_are_edits, none_fit, fits_file}

-- ---- a node that is one scalar

module _ (class : ℕ → ℕ) (rows : List NodeRow) where
  many_parts : (ps : List Part) → (length ps ≡ 1 → ⊥) → None ≡ lone_leaf class (forest_of rows ps)
  many_parts [] more = sym (ap (lone_leaf class) (forest_nil rows))
  many_parts (part.Node m ∷ ps) more = sym (ap (lone_leaf class) (forest_node rows m ps))
  many_parts (part.Leaf i ∷ []) more = absurd (more refl)
  many_parts (part.Leaf i ∷ part.Leaf j ∷ ps) more =
      sym (ap (lone_leaf class) (forest_leaf rows i (part.Leaf j ∷ ps)
      ∙ ap (λ f. leaf i f) (forest_leaf rows j ps)))
  many_parts (part.Leaf i ∷ part.Node m ∷ ps) more =
      sym (ap (lone_leaf class) (forest_leaf rows i (part.Node m ∷ ps)
      ∙ ap (λ f. leaf i f) (forest_node rows m ps)))

  pub many_leaves : (kids : Numbered) (ps : List Part) → kids ≡ forest_of rows ps → (length ps ≡ 1 → ⊥)
      → None ≡ lone_leaf class kids
  many_leaves kids ps e more = many_parts ps more ∙ ap (lone_leaf class) (sym e)

  pub one_node : (kids : Numbered) (ps : List Part) (d : Part) (m : NodeId) → kids ≡ forest_of rows ps
      → length ps ≡ 1 → get_or ps 0 d ≡ part.Node m → None ≡ lone_leaf class kids
  one_node kids [] d m e one h = absurd (cc)
  one_node kids (p ∷ ps) d m e one h =
      sym (ap (lone_leaf class) (e ∙ (ap (λ q. forest_of rows (q ∷ ps)) h ∙ forest_node rows m ps)))

  one_part : (ps : List Part) (d : Part) (i : ℕ) → length ps ≡ 1 → get_or ps 0 d ≡ part.Leaf i
      → forest_of rows ps ≡ leaf i none
  one_part [] d i one h = absurd (cc)
  one_part (p ∷ q ∷ ps) d i one h = absurd (omega (arith, one))
  one_part (p ∷ []) d i one h =
      ap (λ q. forest_of rows (q ∷ [])) h
      ∙ (forest_leaf rows i [] ∙ ap (λ f. leaf i f) (forest_nil rows))

  pub lone_yes : (kids : Numbered) (ps : List Part) (d : Part) (i : ℕ) (y : Bool) → kids ≡ forest_of rows ps
      → (length ps ≡ 1) → get_or ps 0 d ≡ part.Leaf i → y ≡ is_scalar (class i) → y ≡ true
      → Some i ≡ lone_leaf class kids
  lone_yes kids ps d i y e one h is holds =
      ap (λ x. if x then Some i else None) (sym holds ∙ is) ∙ ap (lone_leaf class) (sym (e ∙ one_part ps d i one h))

  pub lone_no : (kids : Numbered) (ps : List Part) (d : Part) (i : ℕ) (y : Bool) → kids ≡ forest_of rows ps
      → (length ps ≡ 1) → get_or ps 0 d ≡ part.Leaf i → y ≡ is_scalar (class i) → y ≡ false
      → None ≡ lone_leaf class kids
  lone_no kids ps d i y e one h is fails =
      ap (λ x. if x then Some i else None) (sym fails ∙ is) ∙ ap (lone_leaf class) (sym (e ∙ one_part ps d i one h))

pub ruleset lone_leaves = (many_leaves, one_node, lone_yes, lone_no)

-- ---- one entry after another

pub no_value : (t : Arena) (text : List ℕ) (es : List EntryView) → option_to_list None ≡ es → (out : List Edit)
    → out ≡ out ++ flat_map (value_edits t text) es
no_value t text es e out = sym (ap (λ xs. out ++ flat_map (value_edits t text) xs) (sym e) ∙ append-nil out)

pub one_value : (t : Arena) (text : List ℕ) (e : EntryView) (es : List EntryView) → option_to_list (Some e) ≡ es
    → (out new : List Edit) → new ≡ out ++ map (λ l. text_at l text) (option_to_list (value_leaf t e.value))
    → new ≡ out ++ flat_map (value_edits t text) es
one_value t text e es is out new pushed =
    pushed ∙ (ap (λ xs. out ++ xs) (sym (append-nil (value_edits t text e)))
    ∙ ap (λ xs. out ++ flat_map (value_edits t text) xs) is)

pub ruleset at_entries = (no_value, one_value)

pub values_over : (t : Arena) (text : List ℕ) (n : NodeId) (ns : List NodeId)
    → flat_map (value_edits t text) (flat_map (entry_at t) (n ∷ ns))
    ≡ flat_map (value_edits t text) (entry_at t n) ++ flat_map (value_edits t text) (flat_map (entry_at t) ns)
values_over t text n ns = both (entry_at t n) (flat_map (entry_at t) ns)
  where
    both : (xs ys : List EntryView) → flat_map (value_edits t text) (xs ++ ys)
        ≡ flat_map (value_edits t text) xs ++ flat_map (value_edits t text) ys
    both [] ys = refl
    both (x ∷ xs) ys = ap (λ z. value_edits t text x ++ z) (both xs ys)
        ∙ sym (append_assoc (value_edits t text x) (flat_map (value_edits t text) xs)
        (flat_map (value_edits t text) ys))

module _ (t : Arena) (text : List ℕ) (ns : List NodeId) (k : ℕ) (out : List Edit) (all : List Edit) where
  pub values_end : length ns ≤ k
      → out ++ flat_map (value_edits t text) (flat_map (entry_at t) (drop k ns)) ≡ all → out ≡ all
  values_end le so_far =
      loop_end (λ xs. flat_map (value_edits t text) (flat_map (entry_at t) xs))
      (λ n. flat_map (value_edits t text) (entry_at t n)) ns all refl out k le so_far

  pub values_more : (n : NodeId) (more : List Edit) → k < length ns → n ≡ get_or ns k n
      → more ≡ out ++ flat_map (value_edits t text) (entry_at t n)
      → out ++ flat_map (value_edits t text) (flat_map (entry_at t) (drop k ns)) ≡ all
      → more ++ flat_map (value_edits t text) (flat_map (entry_at t) (drop (k + 1) ns)) ≡ all
  values_more n more lt here is so_far =
      loop_step (λ xs. flat_map (value_edits t text) (flat_map (entry_at t) xs))
      (λ n. flat_map (value_edits t text) (entry_at t n)) ns all (values_over t text) out more k n lt
      (is ∙ ap (λ m. out ++ flat_map (value_edits t text) (entry_at t m)) here) so_far

pub ruleset loops = (values_end, values_more, node_there)

-- ---- they fit

module _ (t : Arena) (text : List ℕ) where
  lone_written : (kids : Numbered) (a b c d : ℕ) → a ≤ c → d ≤ b → IsLaid t c kids d
      → AreWritten t a (map (λ l. text_at l text) (option_to_list (lone_leaf (class_in t.leaves) kids))) b
  lone_written kids a b c d low high h = by_kids kids h
    where
      rises : (l : ℕ) → (l ≡ c) × (c < length t.leaves) × (c + 1 ≡ d) → AreWritten t a (text_at l text ∷ []) b
      rises l h =
          let here = h.0 in
          let inside = h.1 in
          let ends = h.2 in
          one_written t a l text b (omega arith) (omega arith) (omega arith)

      by_test : (l : ℕ) (x : Bool) → a ≤ b → (l ≡ c) × (c < length t.leaves) × (c + 1 ≡ d)
          → AreWritten t a (map (λ l. text_at l text) (option_to_list (if x then Some l else None))) b
      by_test l true ab h = rises l h
      by_test l false ab h = ab

      ends : a ≤ b
      ends = omega (arith, low, high, laid_rises t c kids d h)

      by_kids : (kids : Numbered) → IsLaid t c kids d
          → AreWritten t a (map (λ l. text_at l text) (option_to_list (lone_leaf (class_in t.leaves) kids))) b
      by_kids none h = ends
      by_kids (node n k kids f) h = ends
      by_kids (leaf l none) h =
          by_test l (is_scalar (class_in t.leaves l)) ends (h.0, h.1, h.2)
      by_kids (leaf l (leaf k f)) h = ends
      by_kids (leaf l (node n k kids f)) h = ends

  value_written : IsTree t → (a b : ℕ) (e : EntryView) → a ≤ b → IsEntryIn t a b e
      → AreWritten t a (value_edits t text e) b
  value_written tree a b e ab is = by_value e.value is.value
    where
      by_value : (o : Option NodeId) → IfSome o (IsValueIn t a b)
          → AreWritten t a (map (λ l. text_at l text) (option_to_list (value_leaf t o))) b
      by_value None v = ab
      by_value (Some m) v =
          lone_written (kids_of t.nodes m.0) a b (first_of t.nodes m.0) (past_of t.nodes m.0) v.first v.past
          (node_laid t tree m.0 v.inside)

  pub values_fit : IsTree t → (bytes : List ℕ) (path : List PathStep) (es : List Edit)
      → es ≡ flat_map (value_edits t text) (entries_found bytes path t) → AreEdits t es
  values_fit tree bytes path es is =
      let ns = found_in bytes path t in
      subst (AreEdits t) (sym is)
      (written_are_edits t 0 (flat_map (value_edits t text) (flat_map (entry_at t) ns)) (length t.leaves)
      (entries_written t (value_edits t text) (value_written tree) tree 0 ns (length t.leaves)
      (path_finds t tree bytes path)))

pub ruleset fit = (values_fit, none_fit)

-- ---- the file

pub value_changed_none : (f g : KeptFile) (options : ChangeValue) → f ≡ g → None ≡ yaml_in f
    → edit.Keep ≡ value_changed options g
unfolding value_changed
value_changed_none f g options same e =
    ap (in_yaml (λ t bytes. values_changed options t bytes (spelled options.value))) (e ∙ ap yaml_in same)

pub value_changed_some : (f g : KeptFile) (options : ChangeValue) (t : Arena) (bytes : List ℕ) (es : List Edit)
    (e : FileEdit) → f ≡ g → Some (t, bytes) ≡ yaml_in f
    → es ≡ values_changed options t bytes (spelled options.value) → e ≡ with_edits es → e ≡ value_changed options g
unfolding value_changed
value_changed_some f g options t bytes es e same there are is =
    is ∙ (ap with_edits are
    ∙ ap (in_yaml (λ t bytes. values_changed options t bytes (spelled options.value))) (there ∙ ap yaml_in same))

pub ruleset files = (value_changed_none, value_changed_some, fits_file)
