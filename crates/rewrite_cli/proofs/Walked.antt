-- One file more of a walk over paths.
use Rattle.std.proofs.Common.{◌≡◌, ℕ, ◌+◌, ◌++◌, ◌||◌, Bool, true, false, List, [], ◌∷◌, length, refl, sym, ap, ◌∙◌, append_assoc, append-nil, arith}
use Rattle.std.specs.Prelude.{is_some}
use Rattle.rw_host.specs.Files.{Files}
use Rattle.kept_files.specs.Readings.{Reads}
use Rattle.rewrite_cli.specs.Sources.{bytes_at, bytes_read}
use Rattle.rewrite_cli.specs.Checking.{line_of, refusal_at, lines, any_refused}

or_assoc : (a b c : Bool) → ((a || b) || c) ≡ (a || (b || c))
or_assoc true b c = refl
or_assoc false b c = refl

or_false : (a : Bool) → (a || false) ≡ a
or_false true = refl
or_false false = refl

module _ (files : Files) (path : List ℕ) (left left' : List (List ℕ)) (cut : left' ≡ path ∷ left) where
  pub text_more : (read : Reads) (files' : Files) (path' : List ℕ) → files' ≡ files → path' ≡ path → (old new all : List ℕ) → new ≡ old ++ line_of path' (refusal_at read files' path') → old ++ lines read files left' ≡ all → new ++ lines read files left ≡ all
  text_more read files' path' fs ps old new all e h =
      ap (λ t. t ++ lines read files left) (e ∙ ap (λ p. old ++ line_of p (refusal_at read files' p)) ps ∙ ap (λ f. old ++ line_of path (refusal_at read f path)) fs) ∙ append_assoc old (line_of path (refusal_at read files path)) (lines read files left)
      ∙ sym (ap (λ l. old ++ lines read files l) cut) ∙ h

  pub refused_more : (read : Reads) (files' : Files) (path' : List ℕ) → files' ≡ files → path' ≡ path → (old new all : Bool) → new ≡ (old || is_some (refusal_at read files' path')) → (old || any_refused read files left') ≡ all → (new || any_refused read files left) ≡ all
  refused_more read files' path' fs ps old new all e h =
      ap (λ t. t || any_refused read files left) (e ∙ ap (λ p. old || is_some (refusal_at read files' p)) ps ∙ ap (λ f. old || is_some (refusal_at read f path)) fs) ∙ or_assoc old (is_some (refusal_at read files path)) (any_refused read files left)
      ∙ sym (ap (λ l. old || any_refused read files l) cut) ∙ h

  pub bytes_more : (files' : Files) (path' : List ℕ) → files' ≡ files → path' ≡ path → (old new all : ℕ) → new ≡ old + bytes_at files' path' → old + bytes_read files left' ≡ all → new + bytes_read files left ≡ all
  bytes_more files' path' fs ps old new all e h =
      let more : bytes_read files left' ≡ bytes_at files path + bytes_read files left = ap (bytes_read files) cut in
      let here : bytes_at files' path' ≡ bytes_at files path = ap (bytes_at files') ps ∙ ap (λ f. bytes_at f path) fs in
      omega (arith, e, h, more, here)

pub no_items : {A : Type 0} (xs : List A) → length xs ≡ 0 → xs ≡ []
no_items [] e = refl
no_items (x ∷ xs) e = absurd (omega (arith, e))

pub text_all : (files : Files) (read : Reads) (text all : List ℕ) (left : List (List ℕ)) → length left ≡ 0 → text ++ lines read files left ≡ all → text ≡ all
text_all files read text all left none h = sym (append-nil text) ∙ sym (ap (λ l. text ++ lines read files l) (no_items left none)) ∙ h

pub refused_all : (files : Files) (read : Reads) (any all : Bool) (left : List (List ℕ)) → length left ≡ 0 → (any || any_refused read files left) ≡ all → any ≡ all
refused_all files read any all left none h = sym (or_false any) ∙ sym (ap (λ l. any || any_refused read files l) (no_items left none)) ∙ h
