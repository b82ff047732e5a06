-- The edits of DeleteKey in a file.
use Rattle.std.proofs.Common.{◌≡◌, ℕ, ◌<◌, Bool, List, length, sym, ap, subst, ◌∙◌}
use Rattle.std.specs.Prelude.{Some, None}
use Rattle.std.specs.List.{AllByRecursion}
use Rattle.rw_base.specs.declared.edit.Edit.{Edit}
use Rattle.rw_base.specs.declared.tree.NodeId.{NodeId}
use Rattle.rw_base.specs.Arena.{Arena, IsTree}
use Rattle.rw_host.specs.declared.file.FileEdit.{FileEdit}
use Rattle.rw_host.specs.declared.file.FileEdit.TheVariants as edit
use Rattle.kept_files.specs.FileEdits.{with_edits}
use Rattle.kept_files.specs.States.{yaml_in}
use Rattle.kept_files.specs.declared.file.KeptFile.{KeptFile}
use Rattle.yaml_tree.specs.declared.key_path.PathStep.{PathStep}
use Rattle.yaml_tree.specs.declared.option.DeleteKey.{DeleteKey}
use Rattle.yaml_tree.specs.Found.{found_in}
use Rattle.conf_recipes.specs.YamlDeletions.{deletions, is_among, is_marked_in}
use Rattle.conf_recipes.specs.YamlRecipes.{in_yaml, keys_deleted, key_deleted}
use Rattle.conf_recipes.proofs.YamlSpans.{path_finds}
use Rattle.conf_recipes.proofs.YamlEdits.{fits_file}
use Rattle.conf_recipes.proofs.YamlDeletions.{HaveMarks, found_have_marks, same_deletions, keys_deleted_fit}

pub found_marked : (t : Arena) → IsTree t → (bytes : List ℕ) (path : List PathStep) (ns xs : List NodeId) (count : ℕ)
    → ns ≡ found_in bytes path t → xs ≡ ns → count ≡ length t.nodes → AllByRecursion (λ n. n.0 < count) xs
found_marked t tree bytes path ns xs count found same long =
    subst (λ c. HaveMarks c xs) (sym long)
    (subst (HaveMarks (length t.nodes)) (sym (same ∙ found))
    (found_have_marks t 0 (found_in bytes path t) (length t.leaves) (path_finds t tree bytes path)))

pub by_marks : (t : Arena) (bytes : List ℕ) (options : DeleteKey) (marks : List Bool) (ns xs : List NodeId)
    (es : List Edit) → es ≡ deletions t bytes (is_marked_in marks)
    → ((m : ℕ) → is_marked_in marks m ≡ is_among xs m) → xs ≡ ns → ns ≡ found_in bytes options.key_path t
    → es ≡ keys_deleted options t bytes
by_marks t bytes options marks ns xs es is are same found =
    is ∙ (same_deletions t bytes (is_marked_in marks) (is_among xs) are
    ∙ ap (λ ms. deletions t bytes (is_among ms)) (same ∙ found))

pub ruleset fit = (keys_deleted_fit, by_marks, found_marked)

-- ---- the file

pub deleted_none : (f g : KeptFile) (options : DeleteKey) → f ≡ g → None ≡ yaml_in f → edit.Keep ≡ key_deleted options g
unfolding key_deleted
deleted_none f g options same e = ap (in_yaml (keys_deleted options)) (e ∙ ap yaml_in same)

pub deleted_some : (f g : KeptFile) (options : DeleteKey) (t : Arena) (bytes : List ℕ) (es : List Edit)
    (e : FileEdit) → f ≡ g → Some (t, bytes) ≡ yaml_in f → es ≡ keys_deleted options t bytes
    → e ≡ with_edits es → e ≡ key_deleted options g
unfolding key_deleted
deleted_some f g options t bytes es e same there are is =
    is ∙ (ap with_edits are ∙ ap (in_yaml (keys_deleted options)) (there ∙ ap yaml_in same))

pub ruleset files = (deleted_none, deleted_some, fits_file)
