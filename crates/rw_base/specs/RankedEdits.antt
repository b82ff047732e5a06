-- Edits whose spots rise by some rank are edits of a tree.
use Rattle.std.proofs.Common.{◌≡◌, ◌≢◌, ℕ, ◌+◌, ◌<◌, List, [], ◌∷◌, ap, arith}
use Rattle.std.specs.Prelude.{All}
use Rattle.std.proofs.lemmas.List.Elements.{All-nil, All-cons}
use Rattle.rw_base.specs.declared.edit.Edit.{Edit}
use Rattle.rw_base.specs.declared.edit.Spot.{Spot}
use Rattle.rw_base.specs.Arena.{Arena}
use Rattle.rw_base.specs.NewText.{AreEdits, AreRanked}

module _ (t : Arena) (rank : Spot → ℕ) where
  later_differ : (s : Spot) (from : ℕ) (es : List Edit) → rank s < from → AreRanked t rank from es
      → All (λ f. f.spot ≢ s) es
  unfolding AreRanked
  later_differ s from [] lt are = All-nil (λ (f : Edit). f.spot ≢ s)
  later_differ s from (e ∷ es) lt are =
      let low = are.0 in
      All-cons (λ (f : Edit). f.spot ≢ s) e es
      (λ same. let r : rank e.spot ≡ rank s = ap rank same in omega arith)
      (later_differ s (rank e.spot + 1) es (omega arith) are.3)

  pub ranked_are_edits : (from : ℕ) (es : List Edit) → AreRanked t rank from es → AreEdits t es
  unfolding AreRanked AreEdits
  ranked_are_edits from [] are = tt
  ranked_are_edits from (e ∷ es) are =
      let rest = are.3 in (
        are.1,
        are.2,
        later_differ e.spot (rank e.spot + 1) es (omega arith) rest,
        ranked_are_edits
            (rank e.spot + 1) es rest,
      )
