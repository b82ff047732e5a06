-- One list beside another, and the fates of files, one after another.
use Rattle.std.proofs.Common.{◌≡◌, ℕ, ◌+◌, ◌<◌, ◌≤◌, List, [], ◌∷◌, ◌++◌, length, drop, get_or, sym, ap, ◌∙◌, append_assoc, append-nil}
use Rattle.std.proofs.lemmas.List.{drop_all}
use Rattle.kept_files.specs.Readings.{Reads}
use Rattle.kept_files.specs.States.{State}
use Rattle.kept_files.specs.declared.file.KeptFile.{KeptFile}
use Rattle.recipe_yaml.specs.declared.plans.Plan.{Plan}
use Rattle.recipe_yaml.specs.declared.plans.PlannedLeaf.{PlannedLeaf}
use Rattle.scheduler.specs.declared.fate.Fate.{Fate}
use Rattle.scheduler.specs.Fates.{fate_at, fates_from}
use Rattle.scheduler.specs.Steps.{beside, IsFateKept, AreFatesKept}
use Rattle.scheduler.proofs.Decided.{cut}

module _ {A B C : Type 0} (f : A → B → List C) (xs : List A) (ys : List B) (i : ℕ) where
  pub beside_more : (d : A) (b : B) (done more all : List C) → i < length xs → i < length ys → more ≡ f (get_or xs i d) (get_or ys i b) → done ++ beside f (drop i xs) (drop i ys) ≡ all → (done ++ more) ++ beside f (drop (i + 1) xs) (drop (i + 1) ys) ≡ all
  unfolding beside
  beside_more d b done more all lx ly h e =
      append_assoc done more (beside f (drop (i + 1) xs) (drop (i + 1) ys))
      ∙ (ap (λ m. done ++ (m ++ beside f (drop (i + 1) xs) (drop (i + 1) ys))) h
      ∙ (sym (ap (λ zs. done ++ beside f zs (drop i ys)) (cut xs i d lx)
      ∙ ap (λ zs. done ++ beside f (get_or xs i d ∷ drop (i + 1) xs) zs) (cut ys i b ly))
      ∙ e))

  pub beside_end : (done all : List C) → length xs ≤ i → done ++ beside f (drop i xs) (drop i ys) ≡ all → done ≡ all
  unfolding beside
  beside_end done all le e = sym (ap (λ zs. done ++ beside f zs (drop i ys)) (drop_all i xs le) ∙ append-nil done) ∙ e

pub ruleset besides = (beside_more, beside_end)

-- ---- the fates of the files from one on

module _ (read : Reads) (plan : Plan) (l : PlannedLeaf) (value : List (List ℕ)) (files : State) (n : ℕ) where
  pub fates_more : (f : KeptFile) (d : Fate) (done all : List Fate) → n < length files → d ≡ fate_at read plan l value files n → done ++ fates_from read plan l value files n (drop n files) ≡ all → (done ++ d ∷ []) ++ fates_from read plan l value files (n + 1) (drop (n + 1) files) ≡ all
  unfolding fates_from
  fates_more f d done all lt h e =
      append_assoc done (d ∷ []) (fates_from read plan l value files (n + 1) (drop (n + 1) files))
      ∙ (ap (λ x. done ++ x ∷ fates_from read plan l value files (n + 1) (drop (n + 1) files)) h
      ∙ (sym (ap (λ fs. done ++ fates_from read plan l value files n fs) (cut files n f lt)) ∙ e))

  pub fates_end : (done all : List Fate) → length files ≤ n → done ++ fates_from read plan l value files n (drop n files) ≡ all → done ≡ all
  unfolding fates_from
  fates_end done all le e = sym (ap (λ fs. done ++ fates_from read plan l value files n fs) (drop_all n files le) ∙ append-nil done) ∙ e

pub kept_more : (ds : List Fate) (d : Fate) → AreFatesKept ds → IsFateKept d → AreFatesKept (ds ++ d ∷ [])
unfolding AreFatesKept
kept_more [] d r s = (s, tt)
kept_more (e ∷ ds) d r s = (r.0, kept_more ds d r.1 s)

pub kept_none : AreFatesKept []
unfolding AreFatesKept
kept_none = tt

pub ruleset fates_by = (fates_more, fates_end, kept_more, kept_none)
