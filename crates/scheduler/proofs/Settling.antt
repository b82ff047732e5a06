-- What becomes of one file, and then of those behind it.
use Rattle.std.proofs.Common.{◌≡◌, ℕ, ◌||◌, true, false, List, [], ◌∷◌, ◌++◌, ◌≤◌, length, drop, refl, sym, ap, ◌∙◌}
use Rattle.std.proofs.lemmas.List.{drop_all, append-nil}
use Rattle.std.specs.Str.{bytes_eq}
use Rattle.kept_files.specs.States.{State, has_path}
use Rattle.kept_files.specs.declared.file.KeptFile.{KeptFile}
use Rattle.rw_base.specs.declared.place.Refused.{Refused}
use Rattle.scheduler.specs.declared.fate.Fate.{Fate}
use Rattle.scheduler.specs.declared.fate.Fate.TheVariants.{Stays, Goes, Lost, Taken, Becomes}
use Rattle.scheduler.specs.Fates.{settled, is_among}

module _ (stood : State) (taken : List (List ℕ)) (f : KeptFile) (fs : State) (ds : List Fate) where
  pub stays : settled stood taken (f ∷ fs) (Stays ∷ ds) ≡ Stays ∷ settled stood taken fs ds
  unfolding settled
  stays = refl

  pub goes : settled stood taken (f ∷ fs) (Goes ∷ ds) ≡ Goes ∷ settled stood taken fs ds
  unfolding settled
  goes = refl

  pub lost : (r : Refused) → settled stood taken (f ∷ fs) (Lost r ∷ ds) ≡ Lost r ∷ settled stood taken fs ds
  unfolding settled
  lost r = refl

  pub taken_before : settled stood taken (f ∷ fs) (Taken ∷ ds) ≡ Taken ∷ settled stood taken fs ds
  unfolding settled
  taken_before = refl

  pub own_path : (g : KeptFile) → bytes_eq g.path f.path ≡ true → settled stood taken (f ∷ fs) (Becomes g ∷ ds) ≡ Becomes g ∷ settled stood taken fs ds
  unfolding settled
  own_path g e = rw e refl

  pub taken_path : (g : KeptFile) → bytes_eq g.path f.path ≡ false → (has_path stood g.path || is_among g.path taken) ≡ true → settled stood taken (f ∷ fs) (Becomes g ∷ ds) ≡ Taken ∷ settled stood taken fs ds
  unfolding settled
  taken_path g e t = rw (e, t) refl

  pub free_path : (g : KeptFile) → bytes_eq g.path f.path ≡ false → (has_path stood g.path || is_among g.path taken) ≡ false → settled stood taken (f ∷ fs) (Becomes g ∷ ds) ≡ Becomes g ∷ settled stood (taken ++ g.path ∷ []) fs ds
  unfolding settled
  free_path g e t = rw (e, t) refl

pub settled_end : (stood : State) (taken : List (List ℕ)) (files : State) (ds : List Fate) (i : ℕ) (done all : List Fate) → length files ≤ i → done ++ settled stood taken (drop i files) (drop i ds) ≡ all → done ≡ all
unfolding settled
settled_end stood taken files ds i done all le e = sym (ap (λ fs. done ++ settled stood taken fs (drop i ds)) (drop_all i files le) ∙ append-nil done) ∙ e

pub ruleset cases = (settled_end, stays, goes, lost, taken_before, own_path, taken_path, free_path)
