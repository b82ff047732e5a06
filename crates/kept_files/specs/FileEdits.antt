-- What a recipe does to a file, and the new bytes that come of it.
use Rattle.std.specs.Prelude.{ℕ, List, [], ◌∷◌, Option, Some, None}
use Rattle.rw_base.specs.Arena.{Arena}
use Rattle.rw_base.specs.NewText.{AreEdits, new_text}
use Rattle.rw_base.specs.declared.edit.Edit.{Edit}
use Rattle.rw_host.specs.declared.file.FileEdit.{FileEdit}
use Rattle.rw_host.specs.declared.file.FileEdit.TheVariants as edit
use Rattle.kept_files.specs.States.{tree_in}
use Rattle.kept_files.specs.declared.file.KeptFile.{KeptFile}

-- no edit is none
abbrev pub with_edits : List Edit → FileEdit
with_edits [] = edit.Keep
with_edits (e ∷ es) = edit.Edit (e ∷ es) None

-- edits are of the tree that was read
abbrev pub FitTree : Option Arena → List Edit → Type 0
FitTree (Some t) es = AreEdits t es
FitTree None es = ⊥

abbrev pub FitsFile : KeptFile → FileEdit → Type 0
FitsFile f (edit.Edit es path) = FitTree (tree_in f.reading) es
FitsFile f _ = Unit {0}

-- the new bytes of a file with these edits of its tree
abbrev pub text_by : Option Arena → Option (List ℕ) → List Edit → List ℕ
text_by (Some t) (Some bytes) es = new_text t bytes es
text_by _ _ es = []

unfoldable pub edited : KeptFile → List Edit → List ℕ
edited f es = text_by (tree_in f.reading) f.bytes es

-- the new bytes of a file that a recipe edits
unfoldable pub text_after : KeptFile → FileEdit → Option (List ℕ)
text_after f (edit.Edit es path) = Some (edited f es)
text_after f _ = None
