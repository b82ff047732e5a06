-- The value of a row is its step from the values of the rows that it reads.
use Rattle.std.proofs.Common.{◌≡◌, ℕ, zero, suc, ◌+◌, ◌<◌, List, [], ◌∷◌, ◌++◌, length, get_or, refl, sym, ◌∙◌, ap}
use Rattle.std.proofs.Common.{subst, append_assoc, append-nil, arith, length-append}
use Rattle.std.specs.Prelude.{slice_get, Some}
use Rattle.std.proofs.Math.ListN.{get_or-append}
use Rattle.std.proofs.Math.Seq.{get_or-append_seam}
use Rattle.rw_base.specs.Rows.{row_values, value, ReadsBelow}

module _ {R A : Type 0} (none_yet : A) (step : ℕ → R → (ℕ → A) → A) where
  folded_append : (vs : List A) (xs ys : List R)
      → row_values none_yet step vs (xs ++ ys) ≡ row_values none_yet step (row_values none_yet step vs xs) ys
  folded_append vs [] ys = refl
  folded_append vs (r ∷ xs) ys = folded_append (vs ++ step (length vs) r (λ m. get_or vs m none_yet) ∷ []) xs ys

  pub row_values_front : (vs : List A) (rs : List R) → (more : List A) × (row_values none_yet step vs rs ≡ vs ++ more)
  row_values_front vs [] = ([], sym (append-nil vs))
  row_values_front vs (r ∷ rs) =
      let x = step (length vs) r (λ m. get_or vs m none_yet) in
      let e = row_values_front (vs ++ x ∷ []) rs in
      (x ∷ e.0, e.1 ∙ append_assoc vs (x ∷ []) e.0)

  length-row_values : (vs : List A) (rs : List R) → length (row_values none_yet step vs rs) ≡ length vs + length rs
  length-row_values vs [] = omega arith
  length-row_values vs (r ∷ rs) =
      let x = step (length vs) r (λ m. get_or vs m none_yet) in
      omega (arith, length-row_values (vs ++ x ∷ []) rs, length-append vs (x ∷ []))

  split_at : (rows : List R) (n : ℕ) (r : R) → slice_get rows n ≡ Some r → (xs : List R) × (ys : List R)
      × (rows ≡ xs ++ r ∷ ys) × (length xs ≡ n)
  split_at [] n r h = absurd (cc)
  split_at (x ∷ rows) zero r h = ([], rows, ap (λ y. y ∷ rows) (cc), refl)
  split_at (x ∷ rows) (suc n) r h = let s = split_at rows n r h in (x ∷ s.0, s.1, ap (λ ys. x ∷ ys) s.2, ap suc s.3)

  seam : (xs ys : List R) (r : R) → ReadsBelow none_yet step (length xs) r →
      get_or (row_values none_yet step [] (xs ++ r ∷ ys)) (length xs) none_yet ≡ step (length xs) r
      (λ m. get_or (row_values none_yet step [] (xs ++ r ∷ ys)) m none_yet)
  seam xs ys r reads =
      let vs = row_values none_yet step [] xs in
      let x = step (length vs) r (λ m. get_or vs m none_yet) in
      let long : length vs ≡ length xs = length-row_values [] xs ∙ omega arith in
      let more = row_values_front (vs ++ x ∷ []) ys in
      let whole : row_values none_yet step [] (xs ++ r ∷ ys) ≡ vs ++ x ∷ more.0 = folded_append [] xs (r ∷ ys)
      ∙ (more.1 ∙ append_assoc vs (x ∷ []) more.0) in
      ap (λ g. get_or g (length xs) none_yet) whole
      ∙ (ap (λ n. get_or (vs ++ x ∷ more.0) n none_yet) (sym long)
      ∙ (get_or-append_seam vs x more.0 none_yet
      ∙ (ap (λ k. step k r (λ m. get_or vs m none_yet)) long
      ∙ reads (λ m. get_or vs m none_yet) (λ m. get_or (row_values none_yet step [] (xs ++ r ∷ ys)) m none_yet)
      (λ m h. sym (ap (λ g. get_or g m none_yet) whole
      ∙ get_or-append vs (x ∷ more.0) none_yet m (subst (λ k. m < k) (sym long) h))))))

  -- the value of a row, by those of the rows that it reads
  pub value_at : (rows : List R) (n : ℕ) (r : R) → slice_get rows n ≡ Some r → ReadsBelow none_yet step n r
      → value none_yet step rows n ≡ step n r (value none_yet step rows)
  unfolding value
  value_at rows n r h reads =
      let s = split_at rows n r h in
      subst (λ (m : ℕ). get_or (row_values none_yet step [] rows) m none_yet ≡ step m r
      (λ k. get_or (row_values none_yet step [] rows) k none_yet)) s.3
      (subst (λ (rs : List R). get_or (row_values none_yet step [] rs) (length s.0) none_yet ≡ step (length s.0) r
      (λ k. get_or (row_values none_yet step [] rs) k none_yet)) (sym s.2)
      (seam s.0 s.1 r (subst (λ m. ReadsBelow none_yet step m r) (sym s.3) reads)))
