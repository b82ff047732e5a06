-- A value for each row, from those of the rows before it.
use Rattle.std.specs.Prelude.{◌≡◌, ℕ, ◌<◌, List, [], ◌∷◌, ◌++◌, length, slice_index_or}

module _ {R A : Type 0} (none_yet : A) (step : ℕ → R → (ℕ → A) → A) where
  abbrev pub row_values : List A → List R → List A
  row_values vs [] = vs
  row_values vs (r ∷ rs) = row_values (vs ++ step (length vs) r (λ m. slice_index_or vs m none_yet) ∷ []) rs

  unfoldable pub value : List R → ℕ → A
  value rows n = slice_index_or (row_values [] rows) n none_yet

  -- The row numbered n reads the values of rows before it alone.
  abbrev pub ReadsBelow : ℕ → R → Type 0
  ReadsBelow n r = (f h : ℕ → A) → ((m : ℕ) → m < n → f m ≡ h m) → step n r f ≡ step n r h
