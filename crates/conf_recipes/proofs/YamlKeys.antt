-- The edits of ChangeKey, one entry after another, and that they fit.
use Rattle.std.proofs.Common.{◌≡◌, ℕ, zero, suc, ◌+◌, ◌-◌, ◌<◌, ◌≤◌, Bool, true, false, List, [], ◌∷◌, ◌++◌, length, map, take, drop, get_or, refl, sym, ap, subst, ◌∙◌, append_assoc, append-nil, arith, add-one, drop-cons}
use Rattle.std.specs.Prelude.{Option, Some, None, if◌then◌else◌, slice_get}
use Rattle.std.specs.List.{flat_map}
use Rattle.std.specs.Option.{option_to_list}
use Rattle.std.proofs.lemmas.List.{take_rest}
use Rattle.rw_base.specs.declared.edit.Edit.{Edit}
use Rattle.rw_base.specs.declared.tree.NodeId.{NodeId}
use Rattle.rw_base.specs.Arena.{Arena, IsTree, end_of}
use Rattle.rw_base.specs.NewText.{AreEdits}
use Rattle.yaml_texts.specs.Spelled.{in_quotes, spelled}
use Rattle.yaml_tree.specs.declared.entry.EntryView.{EntryView}
use Rattle.yaml_tree.specs.declared.key_path.PathStep.{PathStep}
use Rattle.yaml_tree.specs.declared.option.ChangeKey.{ChangeKey}
use Rattle.yaml_tree.specs.Found.{found_in}
use Rattle.conf_recipes.specs.YamlLeaves.{entry_at, entries_found, text_at, wants_quotes, key_edit, entry_key_edit}
use Rattle.conf_recipes.specs.YamlRecipes.{keys_changed}
use Rattle.rw_base.specs.declared.tree.Leaf.{Leaf}
use Rattle.rw_base.specs.Arena.{leaf_at, past_of}
use Rattle.rw_host.specs.declared.file.FileEdit.{FileEdit}
use Rattle.rw_host.specs.declared.file.FileEdit.TheVariants as edit
use Rattle.kept_files.specs.FileEdits.{with_edits, FitsFile}
use Rattle.kept_files.specs.States.{yaml_in, tree_in}
use Rattle.kept_files.specs.declared.file.KeptFile.{KeptFile}
use Rattle.conf_recipes.specs.YamlRecipes.{in_yaml}
use Rattle.conf_recipes.specs.YamlLeaves.{bytes_behind}
use Rattle.conf_recipes.specs.YamlRecipes.{key_changed}
use Rattle.conf_recipes.proofs.Loops.{loop_end, loop_step}
use Rattle.conf_recipes.proofs.YamlSpans.{AreFound, path_finds}
use Rattle.conf_recipes.proofs.YamlEdits.{IsEntryIn, AreWritten, one_written, entries_written, written_are_edits, none_fit, fits_file}

-- a node that is found is one of the tree
pub found_inside : (t : Arena) (a : ℕ) (ns : List NodeId) (b k : ℕ) (d : NodeId) → AreFound t a ns b → k < length ns
    → (get_or ns k d).0 < length t.nodes
found_inside t a [] b k d h lt = absurd (omega arith)
found_inside t a (n ∷ ns) b zero d h lt = h.1
found_inside t a (n ∷ ns) b (suc k) d h lt = found_inside t (past_of t.nodes n.0) ns b k d h.2 (omega arith)

map_flat : {A B : Type 0} (f : A → B) (xs : List A) → flat_map (λ x. f x ∷ []) xs ≡ map f xs
map_flat f [] = refl
map_flat f (x ∷ xs) = ap (λ ys. f x ∷ ys) (map_flat f xs)

pub keys_fit : (t : Arena) → IsTree t → (bytes plain new : List ℕ) (path : List PathStep) (es : List Edit)
    → es ≡ map (entry_key_edit bytes t plain new) (entries_found bytes path t) → AreEdits t es
unfolding key_edit entry_key_edit
keys_fit t tree bytes plain new path es is =
    let ns = found_in bytes path t in
    let edit : EntryView → Edit = entry_key_edit bytes t plain new in
    subst (AreEdits t) (sym is)
    (written_are_edits t 0 (map edit (flat_map (entry_at t) ns)) (length t.leaves)
    (subst (λ es. AreWritten t 0 es (length t.leaves)) (map_flat edit (flat_map (entry_at t) ns))
    (entries_written t (λ e. edit e ∷ []) (λ a b e rises is. one_written t a e.key_leaf _ b is.first is.inside is.past)
    tree 0 ns (length t.leaves) (path_finds t tree bytes path))))

pub ruleset fit = (keys_fit, none_fit)

-- ---- one entry after another

map_both : {A B : Type 0} (f : A → B) (xs ys : List A) → map f (xs ++ ys) ≡ map f xs ++ map f ys
map_both f [] ys = refl
map_both f (x ∷ xs) ys = ap (λ z. f x ∷ z) (map_both f xs ys)

module _ (bytes : List ℕ) (t : Arena) (plain new : List ℕ) where
  pub no_entry : (es : List EntryView) → option_to_list None ≡ es → (out : List Edit)
      → out ≡ out ++ map (entry_key_edit bytes t plain new) es
  no_entry es e out =
      sym (ap (λ xs. out ++ map (entry_key_edit bytes t plain new) xs) (sym e) ∙ append-nil out)

  pub one_entry : (e : EntryView) (es : List EntryView) → option_to_list (Some e) ≡ es → (out more : List Edit)
      (x : Edit) → more ≡ out ++ x ∷ [] → x ≡ key_edit bytes t plain new e.key_leaf
      → more ≡ out ++ map (entry_key_edit bytes t plain new) es
  unfolding entry_key_edit
  one_entry e es is out more x pushed same =
      pushed ∙ (ap (λ y. out ++ y ∷ []) same ∙ ap (λ xs. out ++ map (entry_key_edit bytes t plain new) xs) is)

  module _ (ns : List NodeId) (k : ℕ) (out : List Edit) (all : List Edit) where
    pub keys_end : length ns ≤ k
        → out ++ map (entry_key_edit bytes t plain new) (flat_map (entry_at t) (drop k ns)) ≡ all → out ≡ all
    keys_end le so_far =
        loop_end (λ xs. map (entry_key_edit bytes t plain new) (flat_map (entry_at t) xs))
        (λ n. map (entry_key_edit bytes t plain new) (entry_at t n)) ns all refl out k le so_far

    pub keys_more : (n : NodeId) (more : List Edit) → k < length ns → n ≡ get_or ns k n
        → more ≡ out ++ map (entry_key_edit bytes t plain new) (entry_at t n)
        → out ++ map (entry_key_edit bytes t plain new) (flat_map (entry_at t) (drop k ns)) ≡ all
        → more ++ map (entry_key_edit bytes t plain new) (flat_map (entry_at t) (drop (k + 1) ns)) ≡ all
    keys_more n more lt here is so_far =
        loop_step (λ xs. map (entry_key_edit bytes t plain new) (flat_map (entry_at t) xs))
        (λ n. map (entry_key_edit bytes t plain new) (entry_at t n)) ns all
        (λ x ys. map_both (entry_key_edit bytes t plain new) (entry_at t x) (flat_map (entry_at t) ys)) out more k n lt
        (is ∙ ap (λ m. out ++ map (entry_key_edit bytes t plain new) (entry_at t m)) here) so_far

-- nodes that are found are in the tree, one after another
pub node_there : (t : Arena) → IsTree t → (bytes : List ℕ) (path : List PathStep) (ns : List NodeId) (k : ℕ)
    (d : NodeId) → ns ≡ found_in bytes path t → k < length ns → (get_or ns k d).0 < length t.nodes
node_there t tree bytes path ns k d same lt =
    found_inside t 0 ns (length t.leaves) k d
    (subst (λ ms. AreFound t 0 ms (length t.leaves)) (sym same) (path_finds t tree bytes path)) lt

pub ruleset loops = (keys_end, keys_more, node_there)

-- ---- the bytes behind a leaf

some_behind : (bytes : List ℕ) (leaves : List Leaf) (i : ℕ) → i < length leaves
    → drop (leaf_at leaves i).to bytes ≡ bytes_behind bytes (slice_get leaves i)
unfolding leaf_at
some_behind bytes [] i lt = absurd (omega arith)
some_behind bytes (l ∷ leaves) zero lt = refl
some_behind bytes (l ∷ leaves) (suc i) lt = some_behind bytes leaves i (omega arith)

pub none_behind : (bytes : List ℕ) (leaves : List Leaf) (i : ℕ) → length leaves ≤ i
    → [] ≡ bytes_behind bytes (slice_get leaves i)
none_behind bytes [] i le = refl
none_behind bytes (l ∷ leaves) zero le = absurd (omega arith)
none_behind bytes (l ∷ leaves) (suc i) le = none_behind bytes leaves i (omega arith)

pub here_behind : (bytes : List ℕ) (leaves : List Leaf) (l : Leaf) (i : ℕ) → i < length leaves → l ≡ leaf_at leaves i
    → take (length bytes - l.to) (drop l.to bytes) ≡ bytes_behind bytes (slice_get leaves i)
here_behind bytes leaves l i lt e =
    take_rest bytes l.to ∙ (ap (λ x. drop x.to bytes) e ∙ some_behind bytes leaves i lt)

pub ruleset behind = (here_behind, none_behind)

pub ruleset entries = (no_entry, one_entry)

-- ---- the file

pub key_changed_none : (f g : KeptFile) (options : ChangeKey) → f ≡ g → None ≡ yaml_in f
    → edit.Keep ≡ key_changed options g
unfolding key_changed
key_changed_none f g options same e =
    ap (in_yaml (λ t bytes. keys_changed options t bytes (spelled options.new_key))) (e ∙ ap yaml_in same)

pub key_changed_some : (f g : KeptFile) (options : ChangeKey) (t : Arena) (bytes : List ℕ) (es : List Edit)
    (e : FileEdit) → f ≡ g → Some (t, bytes) ≡ yaml_in f
    → es ≡ keys_changed options t bytes (spelled options.new_key) → e ≡ with_edits es → e ≡ key_changed options g
unfolding key_changed
key_changed_some f g options t bytes es e same there are is =
    is ∙ (ap with_edits are
    ∙ ap (in_yaml (λ t bytes. keys_changed options t bytes (spelled options.new_key))) (there ∙ ap yaml_in same))

pub ruleset files = (key_changed_none, key_changed_some, fits_file)
