-- What the small functions of the scanner give.
use Rattle.std.specs.Prelude.{◌≡◌, ℕ, ◌+◌, ◌-◌, ◌<◌, ◌≤◌, ◌⊎◌, Bool, true, false, List, [], length, take, drop}
use Rattle.std.specs.Prelude.{slice_index, Option}
use Rattle.yaml_lex.specs.Characters.{is_blank}
use Rattle.yaml_lex.specs.declared.context.Context.{Context}
use Rattle.yaml_lex.specs.declared.collections.Collection.{Collection}
use Rattle.rw_base.specs.declared.place.Cause.TheVariants.{NotUtf8, BadLeaf}
use Rattle.yaml_lex.specs.declared.form.LeafForm.{LeafForm}
use Rattle.yaml_lex.specs.declared.form.LeafForm.TheVariants as form
use Rattle.yaml_lex.specs.declared.piece.Piece.{Piece}
use Rattle.yaml_lex.specs.declared.piece.Piece.TheVariants as piece
use Rattle.yaml_lex.specs.Contexts.{past}
use Rattle.yaml_lex.specs.Collections.{is_refused}
use Rattle.yaml_lex.specs.Leaves.{IsPassed, IsNext, IsBad}
use Rattle.yaml_lex.specs.Scalars.{ends_plain, IsPlain, IsQuoted, IsName, IsRun}
use Rattle.yaml_lex.specs.BlockScalars.{ending_size, is_blank_line, IsHead, IsBlock}

-- ---- scalars

-- The first n bytes go up to what ends a plain scalar, without the blanks before that. It may stand right here.
pub record IsPlainEnd (flow : Bool) (s : List ℕ) (n : ℕ) : Type 0 where
  pub blanks : ℕ
  pub inside : n + blanks ≤ length s
  pub goes : (k : ℕ) → k < n + blanks → ends_plain flow (drop k s) ≡ false
  pub ends : ends_plain flow (drop (n + blanks) s) ≡ true
  pub last : 0 < n → is_blank (slice_index s (n - 1)) ≡ false
  pub trailing : (k : ℕ) → n ≤ k → k < n + blanks → is_blank (slice_index s k) ≡ true

-- no front is one of these
abbrev pub NoPlain : Bool → List ℕ → Type 0
NoPlain flow s = (n : ℕ) → IsPlain flow s n → ⊥

abbrev pub NoQuoted : List ℕ → Type 0
NoQuoted s = (n : ℕ) → IsQuoted s n → ⊥

abbrev pub NoName : List ℕ → Type 0
NoName s = (n : ℕ) → IsName s n → ⊥

abbrev pub NoHead : List ℕ → Type 0
NoHead s = (n : ℕ) → IsHead s n → ⊥

abbrev pub NoBlock : Option ℕ → List ℕ → Type 0
NoBlock column s = (n : ℕ) → IsBlock column s n → ⊥

-- ---- block scalars

-- a line end stands here, or the end
abbrev pub AtLineEnd : List ℕ → Type 0
AtLineEnd s = (s ≡ []) ⊎ (0 < ending_size s)

-- a line of blanks alone, so many
pub record IsBlankLine (s : List ℕ) (n : ℕ) : Type 0 where
  pub blank : is_blank_line s ≡ true
  pub run : IsRun is_blank s n
  pub ends : AtLineEnd (drop n s)

-- ---- pieces

-- the first n bytes are passed over, step by step
pub data Passes : Context → List ℕ → ℕ → Type 0 where
  none : {p : Context} {s : List ℕ} {n : ℕ} → n ≡ 0 → Passes p s n
  more : {p : Context} {s : List ℕ} {n : ℕ} (m k : ℕ) → IsPassed p s m
      → Passes (past p (take m s)) (drop m s) k → n ≡ m + k → Passes p s n

abbrev pub IsPiece : Bool → Context → List Collection → List ℕ → Piece → Type 0
IsPiece broken p os s piece.End = (s ≡ []) × (broken ≡ false)
IsPiece broken p os s (piece.Passed n) = Passes p s n × (0 < n) × (n ≤ length s)
IsPiece broken p os s (piece.Leaf class n) =
    IsNext p os s class n × (is_refused p class os ≡ false) × (0 < n) × (n ≤ length s)
IsPiece broken p os s (piece.Bad n cause) = IsBad broken p os s n cause × (n ≤ length s)

-- the bad place where no leaf of a form begins
abbrev pub bad_place : LeafForm → List ℕ → Bool → Piece
bad_place form.Quoted s true = piece.Bad (length s) NotUtf8
bad_place form.Quoted s false = piece.Bad 0 BadLeaf
bad_place form.Document s broken = piece.Bad 0 BadLeaf
bad_place form.DocumentEnd s broken = piece.Bad 0 BadLeaf
bad_place form.Colon s broken = piece.Bad 0 BadLeaf
bad_place form.Dash s broken = piece.Bad 0 BadLeaf
bad_place form.Sign s broken = piece.Bad 0 BadLeaf
bad_place form.Name s broken = piece.Bad 0 BadLeaf
bad_place form.Block s broken = piece.Bad 0 BadLeaf
bad_place form.Plain s broken = piece.Bad 0 BadLeaf
