-- What a table's cells and columns say of the step at a cell.
use Rattle.std.proofs.Common.{◌≡◌, ℕ, ◌<◌, List, [], ◌++◌, length, get_or, refl, sym, ◌∙◌, ap, subst, inl, inr, Bool, true, false, append-nil}
use Rattle.std.specs.Prelude.{◌↔◌, Option, Some, None, map, find}
use Rattle.std.proofs.lemmas.Bool.{false≢true}
use Rattle.std.proofs.lemmas.List.{get_or_default}
use Rattle.rw_grammar.specs.declared.cells.Cell.{Cell}
use Rattle.rw_grammar.specs.declared.cells.Cell.TheVariants as cell
use Rattle.rw_grammar.specs.declared.machine.Task.{Task}
use Rattle.rw_grammar.specs.declared.machine.Moved.{Moved}
use Rattle.rw_grammar.specs.Parts.{Parts, rule, IsAt, rule_of}
use Rattle.rw_grammar.specs.Begins.{CanBeEmpty}
use Rattle.rw_grammar.specs.Faults.{IsFine}
use Rattle.rw_grammar.specs.Cells.{any_of, grown, shape_at, rules_at, cell_at, AllBelow, NamesBelow, bit, IsTable, column_for, picked, or_else}
use Rattle.rw_grammar.specs.Machine.{Begins, Picks, Acts, Does}
use Rattle.rw_grammar.specs.TreeLaws.{sound_fine}
use Rattle.rw_grammar.proofs.CellLaws.{shape_is, names_inside, alternative, found, rule_is, rule_count}

module _ (cells : List Cell) (roots : List ℕ) (empty : List Bool) (columns : List (List Bool)) (table : IsTable cells roots empty columns) where
  abbrev rules : ℕ → Parts
  rules = rule_of (rules_at cells roots)

  abbrev shape : ℕ → Parts
  shape = shape_at cells

  cell_is : (n : ℕ) (d : Cell) {x : Cell} → n < length cells → get_or cells n d ≡ x → cell_at cells n ≡ x
  cell_is n d lt e = get_or_default cells n cell.End d lt ∙ e

  pub stands : (n : ℕ) (d : Cell) {x : Cell} → n < length cells → get_or cells n d ≡ x → shape n ≡ grown shape x
  stands n d lt e = shape_is cells n table.laid.named lt ∙ ap (grown shape) (cell_is n d lt e)

  pub names : (n : ℕ) (d : Cell) {x : Cell} → n < length cells → get_or cells n d ≡ x → NamesBelow (length cells) x
  names n d lt e = subst (NamesBelow (length cells)) (cell_is n d lt e) (names_inside cells n table.laid.named lt)

  pub begins_bit : (next : Option ℕ) (n : ℕ) → n < length cells → (bit (column_for columns next) n ≡ true) ↔ Begins rules next (shape n)
  begins_bit None n lt = (λ h. absurd (false≢true h), λ h. absurd h)
  begins_bit (Some c) n lt = table.begins c n lt

  pub is_begun : (col : List Bool) (next : Option ℕ) (n : ℕ) → n < length cells → true ≡ bit col n → col ≡ column_for columns next → Begins rules next (shape n)
  is_begun col next n lt h e = (begins_bit next n lt).0 (sym (ap (λ bs. bit bs n) e) ∙ sym h)

  pub not_begun : (col : List Bool) (next : Option ℕ) (n : ℕ) → n < length cells → false ≡ bit col n → col ≡ column_for columns next → Begins rules next (shape n) → ⊥
  not_begun col next n lt h e g = false≢true (h ∙ (ap (λ bs. bit bs n) e ∙ (begins_bit next n lt).1 g))

  pub picks : (next : Option ℕ) (ys : List ℕ) (y : ℕ) → AllBelow (length cells) ys → picked (column_for columns next) empty ys ≡ Some y → (y < length cells) × Picks rules next (any_of (map shape ys)) (shape y)
  picks next ys y below h = go (find (bit (column_for columns next)) ys) refl h
    where
      unbegun : find (bit (column_for columns next)) ys ≡ None → (j : ℕ) (z : Parts) → IsAt j z (any_of (map shape ys)) → Begins rules next z → ⊥
      unbegun e j z p g =
          let a = alternative shape ys j z p in
          let not_set = a.1.unfound (bit (column_for columns next)) e in
          false≢true (sym not_set ∙ (begins_bit next a.0 (a.1.inside (length cells) below)).1 (subst (Begins rules next) a.2 g))

      go : (o : Option ℕ) → find (bit (column_for columns next)) ys ≡ o → or_else o (find (bit empty) ys) ≡ Some y → (y < length cells) × Picks rules next (any_of (map shape ys)) (shape y)
      go (Some w) e q =
          let same : w ≡ y = cc in
          let f = found shape (bit (column_for columns next)) ys y (e ∙ ap Some same) in
          let lt = f.1.inside (length cells) below in
          (lt, (f.0, f.1.at, inl ((begins_bit next y lt).0 f.2)))
      go None e q =
          let f = found shape (bit empty) ys y q in
          let lt = f.1.inside (length cells) below in
          (lt, (f.0, f.1.at, inr ((table.empties y lt).0 f.2, unbegun e)))

  pub no_pick : (next : Option ℕ) (ys : List ℕ) → AllBelow (length cells) ys → picked (column_for columns next) empty ys ≡ None → (j : ℕ) (z : Parts) → IsAt j z (any_of (map shape ys)) → (Begins rules next z → ⊥) × (CanBeEmpty rules z → ⊥)
  no_pick next ys below h j z p =
      let a = alternative shape ys j z p in
      let lt = a.1.inside (length cells) below in
      let e = neither (find (bit (column_for columns next)) ys) (find (bit empty) ys) h in (
        λ g. false≢true (sym (a.1.unfound (bit (column_for columns next)) e.0) ∙ (begins_bit next a.0 lt).1 (subst (Begins rules next) a.2 g)),
        λ d. false≢true (sym (a.1.unfound (bit empty) e.1) ∙ (table.empties a.0 lt).1 (subst (CanBeEmpty rules) a.2 d)),
      )
    where
      neither : (o q : Option ℕ) → or_else o q ≡ None → (o ≡ None) × (q ≡ None)
      neither None q h = (refl, h)
      neither (Some y) q h = absurd (cc)

  -- a rule that is fine is there, with its first cell
  pub rule_there : (r k : ℕ) (p : Parts) → p ≡ rule r (shape k) → IsFine rules (length roots) p → r < length roots
  rule_there r k p e f = (subst (IsFine rules (length roots)) e f).0

  pub root_is : (r m : ℕ) → r < length roots → m ≡ get_or roots r 0 → (m < length cells) × (shape m ≡ rules r)
  root_is r m lt e = (subst (λ w. w < length cells) (sym e) (table.laid.inside r lt), ap shape e ∙ sym (rule_is cells roots r lt))

  pub each_fine : (r : ℕ) → IsFine rules (length roots) (rules r)
  each_fine r = subst (λ n. IsFine rules n (rules r)) (rule_count cells roots) (sound_fine (rules_at cells roots) table.sound r)

  module _ (next : Option ℕ) (current at place : ℕ) (old new : List Task) where
    pub does : (to : Moved) (pushed : List Task) → new ≡ old ++ pushed → Acts rules shape (length cells) next current at place (shape current) to pushed → Does rules shape (length cells) next current at place old new to
    does to pushed e a = record { pushed = pushed; tasks = e; acts = a }

    pub does_nothing : (to : Moved) → new ≡ old → Acts rules shape (length cells) next current at place (shape current) to [] → Does rules shape (length cells) next current at place old new to
    does_nothing to e a = record { pushed = []; tasks = e ∙ sym (append-nil old); acts = a }
