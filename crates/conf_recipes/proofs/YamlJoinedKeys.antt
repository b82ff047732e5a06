-- The edits of keys joined by dots, one part after another, and that they fit.
use Rattle.std.proofs.Common.{◌≡◌, ℕ, zero, suc, ◌+◌, ◌<◌, ◌≤◌, ◌==◌, ◌||◌, Bool, true, false, List, [], ◌∷◌, ◌++◌, length, take, drop, get_or, refl, sym, ap, subst, ◌∙◌, append_assoc, append-nil, arith}
use Rattle.std.specs.Prelude.{Option, Some, None, if◌then◌else◌}
use Rattle.std.specs.Option.{option_to_list}
use Rattle.std.specs.Str.{bytes_eq}
use Rattle.rw_base.specs.declared.edit.Edit.{Edit}
use Rattle.rw_base.specs.declared.tree.NodeId.{NodeId}
use Rattle.rw_base.specs.declared.tree.Part.{Part}
use Rattle.rw_base.specs.declared.tree.Part.TheVariants as part
use Rattle.rw_base.specs.Arena.{Arena, IsTree, kind_of, first_of, past_of}
use Rattle.rw_base.specs.Trees.{Numbered, none, leaf, node}
use Rattle.rw_base.specs.Laid.{kids_of, forest_of}
use Rattle.rw_base.specs.PartLaws.{leaf_next, node_next, none_next}
use Rattle.rw_base.specs.NewText.{AreEdits}
use Rattle.rw_grammar.specs.Results.{class_in}
use Rattle.rw_host.specs.declared.file.FileEdit.{FileEdit}
use Rattle.rw_host.specs.declared.file.FileEdit.TheVariants as edit
use Rattle.kept_files.specs.FileEdits.{with_edits, FitsFile}
use Rattle.kept_files.specs.States.{yaml_in, tree_in}
use Rattle.kept_files.specs.declared.file.KeptFile.{KeptFile}
use Rattle.yaml_texts.specs.Spelled.{spelled}
use Rattle.yaml_tree.specs.declared.entry.EntryView.{EntryView}
use Rattle.yaml_tree.specs.declared.option.YamlChangePropertyKey.{YamlChangePropertyKey}
use Rattle.yaml_tree.specs.Entries.{key_in, own_entry, with_key}
use Rattle.yaml_tree.specs.Found.{is_marked, key_text}
use Rattle.conf_recipes.specs.YamlLeaves.{text_at, key_edit}
use Rattle.conf_recipes.specs.YamlJoinedKeys.{Inside, is_mapping, left_inside, renamed, from_rests, from_key, from_entry, from_value, from_part, joined_keys_in}
use Rattle.conf_recipes.specs.YamlRecipes.{in_yaml, joined_keys_changed, yaml_property_key_changed}
use Rattle.conf_recipes.proofs.YamlSpans.{IsLaid, laid_rises, node_laid}
use Rattle.conf_recipes.proofs.YamlEdits.{AreWritten, written_earlier, written_both, one_written, written_are_edits, IsFirst, key_first, fits_file}

-- ---- the key of an entry

no_key : (class : ℕ → ℕ) (n kind : ℕ) (kids : Numbered) (o : Option ℕ)
    → option_to_list None ≡ with_key class n kind kids o → None ≡ o
no_key class n kind kids None e = refl
no_key class n kind kids (Some key) e = absurd (cc)

some_key : (class : ℕ → ℕ) (n kind : ℕ) (kids : Numbered) (entry : EntryView) (o : Option ℕ)
    → option_to_list (Some entry) ≡ with_key class n kind kids o → Some entry.key_leaf ≡ o
some_key class n kind kids entry None e = absurd (cc)
some_key class n kind kids entry (Some key) e =
    let same : entry.key_leaf ≡ key = ap (λ (es : List EntryView). (get_or es 0 entry).key_leaf) e in
    ap Some same

pub key_none : (class : ℕ → ℕ) (n kind : ℕ) (kids : Numbered)
    → option_to_list None ≡ own_entry class true n kind kids → None ≡ key_in class true kind kids
key_none class n kind kids e = no_key class n kind kids (key_in class true kind kids) e

pub key_some : (class : ℕ → ℕ) (n kind : ℕ) (kids : Numbered) (entry : EntryView)
    → option_to_list (Some entry) ≡ own_entry class true n kind kids
    → Some entry.key_leaf ≡ key_in class true kind kids
key_some class n kind kids entry e = some_key class n kind kids entry (key_in class true kind kids) e

pub ruleset keys = (key_none, key_some)

-- ---- one part after another

module _ (t : Arena) (bytes : List ℕ) (in_mapping : Bool) (old new : List ℕ) (ps : List Part) (all out : List Edit) where
  pub parts_end : (k : ℕ) → length ps ≤ k
      → out ++ joined_keys_in t bytes (forest_of t.nodes (drop k ps)) in_mapping old new ≡ all → out ≡ all
  unfolding joined_keys_in
  parts_end k le w =
      sym (append-nil out)
      ∙ (ap (λ (g : Numbered). out ++ joined_keys_in t bytes g in_mapping old new) (sym (none_next t.nodes ps k le)) ∙ w)

  module _ (k : ℕ) (d : Part) (lt : k < length ps) where
    pub parts_leaf : (i : ℕ) → get_or ps k d ≡ part.Leaf i
        → out ++ joined_keys_in t bytes (forest_of t.nodes (drop k ps)) in_mapping old new ≡ all
        → out ++ joined_keys_in t bytes (forest_of t.nodes (drop (k + 1) ps)) in_mapping old new ≡ all
    unfolding joined_keys_in
    parts_leaf i e w =
        ap (λ (g : Numbered). out ++ joined_keys_in t bytes g in_mapping old new)
        (sym (leaf_next t.nodes ps k d i lt e)) ∙ w

    pub parts_node : (m : NodeId) (more : List Edit) → get_or ps k d ≡ part.Node m
        → more ≡ out ++ from_part t bytes in_mapping old new (kind_of t.nodes m.0) (kids_of t.nodes m.0)
        (joined_keys_in t bytes (kids_of t.nodes m.0))
        → out ++ joined_keys_in t bytes (forest_of t.nodes (drop k ps)) in_mapping old new ≡ all
        → more ++ joined_keys_in t bytes (forest_of t.nodes (drop (k + 1) ps)) in_mapping old new ≡ all
    unfolding joined_keys_in
    parts_node m more e is w =
        let here = from_part t bytes in_mapping old new (kind_of t.nodes m.0) (kids_of t.nodes m.0)
        (joined_keys_in t bytes (kids_of t.nodes m.0)) in
        let rest = joined_keys_in t bytes (forest_of t.nodes (drop (k + 1) ps)) in_mapping old new in
        ap (λ x. x ++ rest) is
        ∙ (append_assoc out here rest
        ∙ (ap (λ (g : Numbered). out ++ joined_keys_in t bytes g in_mapping old new)
        (sym (node_next t.nodes ps k d m lt e)) ∙ w))

-- ---- they fit

module _ (t : Arena) (bytes : List ℕ) where
  abbrev Fits : ℕ → ℕ → Inside → Type 0
  Fits a b inside = (in_mapping : Bool) (old new : List ℕ) → AreWritten t a (inside in_mapping old new) b

  rests_written : (a b : ℕ) (inside : Inside) → a ≤ b → Fits a b inside → (old new : Option (List ℕ))
      → AreWritten t a (from_rests t bytes old new inside) b
  rests_written a b inside ab fits (Some old) (Some new) = fits false old new
  rests_written a b inside ab fits (Some old) None = ab
  rests_written a b inside ab fits None new = ab

  renamed_written : (a b key : ℕ) → IsFirst t a b key → (new : List ℕ) (plain : Option (List ℕ))
      → AreWritten t a (renamed t bytes key new plain) b
  unfolding key_edit
  renamed_written a b key is new None = let past = is.past in omega arith
  renamed_written a b key is new (Some plain) =
      let here = is.here in
      let inside = is.inside in
      let past = is.past in
      one_written t a key _ b (omega arith) (omega arith) (omega arith)

  key_written : (a b key : ℕ) (inside : Inside) → IsFirst t a b key → Fits a b inside → (old new : List ℕ)
      (text : Option (List ℕ)) → AreWritten t a (from_key t bytes key old new inside text) b
  key_written a b key inside is fits old new None = let past = is.past in omega arith
  key_written a b key inside is fits old new (Some text) = by_test (bytes_eq text old)
    where
      by_test : (same : Bool) → AreWritten t a (if same then renamed t bytes key new (spelled new)
          else from_rests t bytes (left_inside text old) (left_inside text new) inside) b
      by_test true = renamed_written a b key is new (spelled new)
      by_test false = let past = is.past in
          rests_written a b inside (omega arith) fits (left_inside text old) (left_inside text new)

  entry_written : (a b kind : ℕ) (kids : Numbered) (inside : Inside) → IsLaid t a kids b → Fits a b inside
      → (old new : List ℕ) (o : Option ℕ) → key_in (class_in t.leaves) true kind kids ≡ o
      → AreWritten t a (from_entry t bytes old new inside o) b
  entry_written a b kind kids inside h fits old new None e = laid_rises t a kids b h
  entry_written a b kind kids inside h fits old new (Some key) e =
      key_written a b key inside (key_first t (class_in t.leaves) kind kids a b key h e) fits old new
      (key_text bytes t.leaves key)

  part_written : (a b kind : ℕ) (kids : Numbered) (inside : Inside) → IsLaid t a kids b → Fits a b inside
      → (in_mapping : Bool) (old new : List ℕ) → AreWritten t a (from_part t bytes in_mapping old new kind kids inside) b
  part_written a b kind kids inside h fits true old new =
      entry_written a b kind kids inside h fits old new (key_in (class_in t.leaves) true kind kids) refl
  part_written a b kind kids inside h fits false old new = by_tests (is_mapping t kind kids) (is_marked kind)
    where
      by_tests : (x y : Bool) → AreWritten t a (if x then inside true old new
          else if y then inside false old new else []) b
      by_tests true y = fits true old new
      by_tests false true = fits false old new
      by_tests false false = laid_rises t a kids b h

  all_written : (f : Numbered) (a b : ℕ) → IsLaid t a f b → Fits a b (joined_keys_in t bytes f)
  unfolding joined_keys_in
  all_written none a b h in_mapping old new = laid_rises t a none b h
  all_written (leaf l f) a b h in_mapping old new =
      written_earlier t a (a + 1) (joined_keys_in t bytes f in_mapping old new) b (omega arith)
      (all_written f (a + 1) b h.2 in_mapping old new)
  all_written (node n kind kids f) a b h in_mapping old new =
      written_both t a (from_part t bytes in_mapping old new kind kids (joined_keys_in t bytes kids))
      (past_of t.nodes n) (joined_keys_in t bytes f in_mapping old new) b
      (part_written a (past_of t.nodes n) kind kids (joined_keys_in t bytes kids) h.1
      (all_written kids a (past_of t.nodes n) h.1) in_mapping old new)
      (all_written f (past_of t.nodes n) b h.2 in_mapping old new)

pub joined_keys_fit : (t : Arena) → IsTree t → (bytes : List ℕ) (options : YamlChangePropertyKey) (es : List Edit)
    → es ≡ joined_keys_changed options t bytes → AreEdits t es
joined_keys_fit t tree bytes options es is =
    let root = t.root in
    subst (AreEdits t) (sym is)
    (written_are_edits t (first_of t.nodes root) (joined_keys_changed options t bytes) (past_of t.nodes root)
    (all_written t bytes (kids_of t.nodes root) (first_of t.nodes root) (past_of t.nodes root)
    (node_laid t tree root tree.root) false options.old_property_key options.new_property_key))

pub ruleset fit = (joined_keys_fit)

-- ---- the file

pub joined_none : (f g : KeptFile) (options : YamlChangePropertyKey) → f ≡ g → None ≡ yaml_in f
    → edit.Keep ≡ yaml_property_key_changed options g
unfolding yaml_property_key_changed
joined_none f g options same e = ap (in_yaml (joined_keys_changed options)) (e ∙ ap yaml_in same)

pub joined_some : (f g : KeptFile) (options : YamlChangePropertyKey) (t : Arena) (bytes : List ℕ) (es : List Edit)
    (e : FileEdit) → f ≡ g → Some (t, bytes) ≡ yaml_in f → es ≡ joined_keys_changed options t bytes
    → e ≡ with_edits es → e ≡ yaml_property_key_changed options g
unfolding yaml_property_key_changed
joined_some f g options t bytes es e same there are is =
    is ∙ (ap with_edits are ∙ ap (in_yaml (joined_keys_changed options)) (there ∙ ap yaml_in same))

pub ruleset files = (joined_none, joined_some, fits_file)
