use Rattle.std.proofs.Common.{◌≡◌, List, ℕ, length, sym, ap, subst, ◌∙◌}
use Rattle.std.specs.Prelude.{Some}
use Rattle.rw_base.specs.Arena.{Arena, end_of}
use Rattle.rw_base.specs.NewText.{new_text}
use Rattle.rw_base.specs.declared.edit.Edit.{Edit}
use Rattle.kept_files.specs.FileEdits.{edited, text_by}
use Rattle.kept_files.specs.States.{EndsAt, IsKept, tree_in}
use Rattle.kept_files.specs.declared.file.KeptFile.{KeptFile}
use Rattle.scheduler.proofs.laws.an_edited_file_keeps_its_gaps.Goals as goal

-- the bytes of a kept file end where its tree does
ends : (f : KeptFile) (t : Arena) (bytes : List ℕ) → IsKept f → tree_in f.reading ≡ Some t → f.bytes ≡ Some bytes
    → length bytes ≡ end_of t
ends f t bytes k r b = sym (subst (λ o. EndsAt o (Some bytes)) r (subst (λ o. EndsAt (tree_in f.reading) o) b k.whole))

edited_is : (f : KeptFile) (t : Arena) (bytes : List ℕ) (es : List Edit) → tree_in f.reading ≡ Some t
    → f.bytes ≡ Some bytes → edited f es ≡ new_text t bytes es
unfolding edited
edited_is f t bytes es r b = ap (λ o. text_by o f.bytes es) r ∙ ap (λ o. text_by (Some t) o es) b

pub returns-clause-old : goal.returns-clause-old
returns-clause-old c = λ f t bytes es kept tree is_bytes is_tree fit. c.gaps_stay.ensures.old t bytes es is_tree fit
    (ends f t bytes kept tree is_bytes)

pub returns-clause-new : goal.returns-clause-new
returns-clause-new c = λ f t bytes es tree is_bytes is_tree fit. c.gaps_stay.ensures.new t bytes es is_tree fit
    ∙ sym (edited_is f t bytes es tree is_bytes)
