-- Steps of the loop over nodes, columns counted byte by byte, and what a leaf says.
use Rattle.std.proofs.Common.{◌≡◌, ℕ, zero, suc, ◌+◌, ◌<◌, min, Bool, true, false, cond, List, [], ◌∷◌, length, get_or}
use Rattle.std.proofs.Common.{take, drop, refl, sym, ◌∙◌, ap, arith}
use Rattle.std.specs.Prelude.{Option, Some, if◌then◌else◌}
use Rattle.std.proofs.lemmas.List.{drop_min, drop_more}
use Rattle.rw_base.specs.declared.tree.Leaf.{Leaf}
use Rattle.rw_base.specs.declared.tree.NodeRow.{NodeRow}
use Rattle.rw_base.specs.Arena.{Arena, leaf_at, row_at, no_row, text_of}
use Rattle.rw_base.specs.Utf8.{mark_size}
use Rattle.rw_grammar.specs.Results.{class_in}
use Rattle.yaml_lex.specs.declared.context.Context.{Context}
use Rattle.yaml_lex.specs.Characters.{is_line_end, is_continuation}
use Rattle.yaml_lex.specs.Contexts.{start, past, past_byte}
use Rattle.yaml_texts.specs.Texts.{scalar_text}
use Rattle.yaml_tree.specs.Scalars.{is_around, opening_around, column_at, column_around, scalar_of}
use Rattle.yaml_tree.specs.Decoding.{next_column, column_behind}

-- ---- the collection around a leaf

module _ (i : ℕ) (rows : List NodeRow) (n : ℕ) (low : n < length rows) where
  split : drop n rows ≡ row_at rows n ∷ drop (n + 1) rows
  unfolding row_at
  split = drop_more rows n no_row low

  by_row : (b : Bool) → is_around i (row_at rows n) ≡ b
      → opening_around i (drop n rows) ≡ cond b (Some (row_at rows n).first) (opening_around i (drop (n + 1) rows))
  by_row b e =
      ap (opening_around i) split
      ∙ ap (λ c. cond c (Some (row_at rows n).first) (opening_around i (drop (n + 1) rows))) e

  pub around_here : is_around i (row_at rows n) ≡ true → opening_around i (drop n rows) ≡ Some (row_at rows n).first
  around_here e = by_row true e

  pub around_later : is_around i (row_at rows n) ≡ false
      → opening_around i (drop n rows) ≡ opening_around i (drop (n + 1) rows)
  around_later e = by_row false e

-- ---- columns

column_of : (v : Bool) (x y : Context) → (cond v x y).column ≡ cond v x.column y.column
column_of true x y = refl
column_of false x y = refl

by_byte : (p : Context) (b : ℕ) → (past_byte p b).column ≡ next_column p.column b
unfolding past_byte
by_byte p b = column_of (is_line_end b) _ _

by_text : (p : Context) (s : List ℕ) → (past p s).column ≡ column_behind p.column s
by_text p [] = refl
by_text p (b ∷ rest) = by_text (past_byte p b) rest ∙ ap (λ c. column_behind c rest) (by_byte p b)

-- the count of the bytes from the mark on
pub counted : (bytes : List ℕ) (at mark skip : ℕ) → mark ≡ mark_size bytes → skip ≡ min mark (length (take at bytes))
    → column_behind 0 (drop skip (take at bytes)) ≡ column_at bytes at
counted bytes at mark skip is less =
    let front = take at bytes in
    ap (λ k. column_behind 0 (drop k front)) (less ∙ ap (λ m. min m (length front)) is)
    ∙ (ap (column_behind 0) (drop_min (mark_size bytes) front)
    ∙ sym (by_text start (drop (mark_size bytes) front)))

-- behind a line end it is counted from there
pub from_line : (k column : ℕ) (s : List ℕ) (d : ℕ) → k < length s → is_line_end (get_or s k d) ≡ true
    → column_behind 0 (drop (suc k) s) ≡ column_behind column s
from_line k column [] d lt e = absurd (omega arith)
from_line zero column (b ∷ s) d lt e =
    ap (λ c. column_behind c s) (sym (ap (λ t. cond t 0 (if is_continuation b then column else column + 1)) e))
from_line (suc k) column (b ∷ s) d lt e = from_line k (next_column column b) s d (omega arith) e

-- ---- what a leaf says

pub said_here : (bytes : List ℕ) (t : Arena) (i : ℕ) (row : Leaf) (text rest : List ℕ) (column : Option ℕ)
    → row ≡ leaf_at t.leaves i → text ≡ text_of bytes (leaf_at t.leaves i) → rest ≡ drop row.to bytes
    → scalar_text row.class column text rest ≡ scalar_text row.class (column_around bytes t i) text rest
    → scalar_text row.class column text rest ≡ scalar_of bytes t i
said_here bytes t i row text rest column leaf words behind same =
    let around = column_around bytes t i in
    same
    ∙ (ap (λ (r : List ℕ). scalar_text row.class around text r) behind
    ∙ (ap (λ (l : Leaf). scalar_text l.class around text (drop l.to bytes)) leaf
    ∙ ap (λ (w : List ℕ). scalar_text (class_in t.leaves i) around w (drop (leaf_at t.leaves i).to bytes)) words))
