-- Whether two states are the same, file by file.
use Rattle.std.proofs.Common.{◌≡◌, ◌≢◌, ℕ, suc, ◌+◌, ◌<◌, ◌≤◌, Bool, true, false, [], ◌∷◌, length, drop, get_or, refl, sym, ap, ◌∙◌, arith}
use Rattle.std.specs.Prelude.{◌&&◌}
use Rattle.std.proofs.lemmas.List.{drop_all, get_or_default}
use Rattle.kept_files.specs.States.{State, file_at, no_file}
use Rattle.kept_files.specs.declared.file.KeptFile.{KeptFile}
use Rattle.scheduler.specs.Runs.{same_file, same_files}
use Rattle.scheduler.proofs.Decided.{cut}

pub is_at : (files : State) (i : ℕ) (f : KeptFile) → i < length files → get_or files i f ≡ f → f ≡ file_at files i
unfolding file_at
is_at files i f lt e = sym e ∙ get_or_default files i f no_file lt

pub same_of : (f g f1 g1 : KeptFile) (b : Bool) → b ≡ same_file f g → f ≡ f1 → g ≡ g1 → b ≡ same_file f1 g1
same_of f g f1 g1 b e p q = e ∙ (ap (λ x. same_file x g) p ∙ ap (same_file f1) q)

pub ruleset same_is = (is_at, same_of)

module _ (a b : State) (i : ℕ) where
  split : i < length a → length a ≡ length b → same_files (drop i a) (drop i b) ≡ (same_file (file_at a i) (file_at b i) && same_files (drop (i + 1) a) (drop (i + 1) b))
  unfolding same_files file_at
  split lt e = ap (λ xs. same_files xs (drop i b)) (cut a i no_file lt) ∙ ap (λ xs. same_files (file_at a i ∷ drop (i + 1) a) xs) (cut b i no_file (omega (arith, e)))

  pub same_more : (all : Bool) → i < length a → length a ≡ length b → same_file (file_at a i) (file_at b i) ≡ true → same_files (drop i a) (drop i b) ≡ all → same_files (drop (i + 1) a) (drop (i + 1) b) ≡ all
  same_more all lt e s h = sym (ap (λ t. t && same_files (drop (i + 1) a) (drop (i + 1) b)) s) ∙ (sym (split lt e) ∙ h)

  pub same_not : (all : Bool) → i < length a → length a ≡ length b → same_file (file_at a i) (file_at b i) ≡ false → same_files (drop i a) (drop i b) ≡ all → false ≡ all
  same_not all lt e s h = sym (ap (λ t. t && same_files (drop (i + 1) a) (drop (i + 1) b)) s) ∙ (sym (split lt e) ∙ h)

pub same_end : (a b : State) (i : ℕ) (all : Bool) → length a ≤ i → length a ≡ length b → same_files (drop i a) (drop i b) ≡ all → true ≡ all
unfolding same_files
same_end a b i all le e h = sym (ap (λ xs. same_files xs (drop i b)) (drop_all i a le) ∙ ap (same_files []) (drop_all i b (omega (arith, e)))) ∙ h

and_false : (x : Bool) → (x && false) ≡ false
and_false true = refl
and_false false = refl

pub same_lengths : (a b : State) → length a ≢ length b → false ≡ same_files a b
unfolding same_files
same_lengths [] [] ne = absurd (ne refl)
same_lengths [] (g ∷ b) ne = refl
same_lengths (f ∷ a) [] ne = refl
same_lengths (f ∷ a) (g ∷ b) ne = sym (ap (λ z. same_file f g && z) (sym (same_lengths a b (λ e. ne (ap suc e)))) ∙ and_false (same_file f g))

pub ruleset same_by = (same_more, same_not, same_end, same_lengths)
