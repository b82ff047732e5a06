-- What scanners have, file by file and leaf by leaf.
use Rattle.std.proofs.Common.{◌≡◌, ℕ, ◌+◌, ◌<◌, ◌≤◌, List, [], ◌∷◌, ◌++◌, length, drop, get_or, refl, sym, ap, ◌∙◌, append_assoc}
use Rattle.std.proofs.lemmas.List.{drop_all, append-nil}
use Rattle.kept_files.specs.States.{State, no_file}
use Rattle.recipe_yaml.specs.declared.plans.PlannedLeaf.{PlannedLeaf}
use Rattle.recipe_yaml.specs.declared.plans.LeafRecipe.{LeafRecipe}
use Rattle.kept_files.specs.declared.scan_value.ScanValue.{ScanValue}
use Rattle.scheduler.specs.Edits.{scan}
use Rattle.scheduler.proofs.Decided.{cut}
use Rattle.scheduler.specs.Runs.{scanned, scanned_from, value_for, values_for}

module _ (l : LeafRecipe) (files : State) (n : ℕ) where
  pub scanned_more : (v w a : List (List ℕ)) → n < length files → scanned_from l files n (drop n files) v ≡ a → w ≡ scan l files n v → scanned_from l files (n + 1) (drop (n + 1) files) w ≡ a
  scanned_more v w a lt e h =
      ap (scanned_from l files (n + 1) (drop (n + 1) files)) h
      ∙ (sym (ap (λ fs. scanned_from l files n fs v) (cut files n no_file lt)) ∙ e)

  pub scanned_end : (v a : List (List ℕ)) → length files ≤ n → scanned_from l files n (drop n files) v ≡ a → v ≡ a
  scanned_end v a le e = sym (ap (λ fs. scanned_from l files n fs v) (drop_all n files le)) ∙ e

pub scanned_start : (l : LeafRecipe) (files : State) → scanned_from l files 0 files [] ≡ scanned l files
unfolding scanned
scanned_start l files = refl

pub ruleset scans = (scanned_more, scanned_end, scanned_start)

module _ (first : State) (leaves : List PlannedLeaf) (i : ℕ) where
  pub values_more : (d : PlannedLeaf) (v : ScanValue) (done all : List ScanValue) → i < length leaves → v.texts ≡ scanned (get_or leaves i d).recipe first → done ++ values_for first (drop i leaves) ≡ all → (done ++ v ∷ []) ++ values_for first (drop (i + 1) leaves) ≡ all
  values_more d v done all lt h e =
      let same : v ≡ value_for first (get_or leaves i d) = ap (λ t. record { texts = t }) h in
      append_assoc done (v ∷ []) (values_for first (drop (i + 1) leaves))
      ∙ (ap (λ x. done ++ x ∷ values_for first (drop (i + 1) leaves)) same
      ∙ (sym (ap (λ ls. done ++ values_for first ls) (cut leaves i d lt)) ∙ e))

  pub values_end : (done all : List ScanValue) → length leaves ≤ i → done ++ values_for first (drop i leaves) ≡ all → done ≡ all
  values_end done all le e = sym (ap (λ ls. done ++ values_for first ls) (drop_all i leaves le) ∙ append-nil done) ∙ e

pub ruleset all_scans = (values_more, values_end)
