-- A text cut into leaves, up to the end or the first bad place. At each place blanks, line ends and comments come
-- first (YAML 1.2, chapters 6 to 9, in a subset: no tags, no directives, no complex keys, no plain scalar over several
-- lines).
use Rattle.std.specs.Prelude.{◌≡◌, ℕ, ◌+◌, ◌<◌, ◌==◌, ◌&&◌, ◌||◌, not, Bool, true, false, List, [], ◌∷◌}
use Rattle.std.specs.Prelude.{◌++◌, length, take, drop, slice_index, Option, Some, None, if◌then◌else◌}
use Rattle.rw_base.specs.Utf8.{utf8_front, is_broken, mark_size, behind_mark}
use Rattle.rw_base.specs.declared.tree.Leaf.{Leaf}
use Rattle.rw_base.specs.declared.leaves.Bad.{Bad}
use Rattle.rw_base.specs.declared.place.Cause.{Cause}
use Rattle.rw_base.specs.declared.place.Cause.TheVariants.{NotUtf8, BadLeaf}
use Rattle.yaml_lex.specs.declared.class.TheConstants.{DOC, DOCEND, DASH, KEY, SCALAR, COLON, FSCALAR, BLOCK, ANCHOR}
use Rattle.yaml_lex.specs.declared.class.TheConstants.{ALIAS, BRACKET_OPEN, BRACKET_CLOSE, BRACE_OPEN, BRACE_CLOSE}
use Rattle.yaml_lex.specs.declared.class.TheConstants.{COMMA, END}
use Rattle.yaml_lex.specs.declared.form.LeafForm.{LeafForm}
use Rattle.yaml_lex.specs.declared.form.LeafForm.TheVariants as form
use Rattle.yaml_lex.specs.declared.context.Context.{Context}
use Rattle.yaml_lex.specs.declared.context.Previous.{Previous}
use Rattle.yaml_lex.specs.declared.context.Previous.TheVariants as previous
use Rattle.yaml_lex.specs.declared.collections.Collection.{Collection}
use Rattle.yaml_lex.specs.Characters.{is_white, is_flow_sign, is_name_mark, is_block_mark}
use Rattle.yaml_lex.specs.Characters.{is_quote, begins, is_gap, is_key_end, is_line_over}
use Rattle.yaml_lex.specs.Contexts.{start, past, in_flow, past_leaf}
use Rattle.yaml_lex.specs.Collections.{left_open, innermost, is_refused, open_behind, textless_before, closes}
use Rattle.yaml_lex.specs.Scalars.{IsRun, IsPlain, IsQuoted, IsName, in_line}
use Rattle.yaml_lex.specs.BlockScalars.{IsBlock, is_three}

-- ---- which leaf

abbrev pub is_key : Previous → Bool
is_key previous.Key = true
is_key previous.Quoted = false
is_key previous.Other = false

abbrev pub is_quoted : Previous → Bool
is_quoted previous.Key = false
is_quoted previous.Quoted = true
is_quoted previous.Other = false

-- a colon between key and value in flow context: behind a quoted scalar, or before white space or a sign
abbrev pub is_flow_colon : Context → List ℕ → Bool
is_flow_colon p rest = in_flow p && (is_quoted p.previous || begins is_white rest || begins is_flow_sign rest)

-- `:` that is a leaf: behind a KEY, or in flow context
abbrev pub is_colon : Context → List ℕ → Bool
is_colon p [] = false
is_colon p (b ∷ rest) = (b == 58) && (is_key p.previous || is_flow_colon p rest)

-- `-` before a blank, a line end or the end, in block context
abbrev pub is_dash : Context → List ℕ → Bool
is_dash p [] = false
is_dash p (b ∷ rest) = (b == 45) && not (in_flow p) && is_gap rest

-- What kind of leaf can begin here: the first whose test holds.
unfoldable pub form_of : Context → List ℕ → LeafForm
form_of p s =
    if (p.column == 0) && is_three 45 s then form.Document
    else if (p.column == 0) && is_three 46 s then form.DocumentEnd
    else if is_colon p s then form.Colon
    else if is_dash p s then form.Dash
    else if begins is_flow_sign s then form.Sign
    else if begins is_name_mark s then form.Name
    else if begins is_block_mark s then form.Block
    else if begins is_quote s then form.Quoted
    else form.Plain

-- The first n bytes are the text of a leaf of this form. A block scalar that is first on its line closes collections
-- before its lines are measured.
abbrev pub IsText : LeafForm → Context → List Collection → List ℕ → ℕ → Type 0
IsText form.Document p os s n = n ≡ 3
IsText form.DocumentEnd p os s n = n ≡ 3
IsText form.Colon p os s n = n ≡ 1
IsText form.Dash p os s n = n ≡ 1
IsText form.Sign p os s n = n ≡ 1
IsText form.Name p os s n = IsName s n
IsText form.Block p os s n = IsBlock (innermost (left_open p BLOCK os)) s n
IsText form.Quoted p os s n = IsQuoted s n
IsText form.Plain p os s n = IsPlain (in_flow p) s n

-- the class of a scalar before a rest: in flow context FSCALAR, else KEY where that is the end of a key, else SCALAR
unfoldable pub scalar_class : Context → List ℕ → ℕ
scalar_class p rest = if in_flow p then FSCALAR else if is_key_end rest then KEY else SCALAR

unfoldable pub sign_class : ℕ → ℕ
sign_class b =
    if b == 91 then BRACKET_OPEN
    else if b == 93 then BRACKET_CLOSE
    else if b == 123 then BRACE_OPEN
    else if b == 125 then BRACE_CLOSE
    else COMMA

-- the class of a leaf of this form, whose text is the first n bytes
abbrev pub class_of : LeafForm → Context → List ℕ → ℕ → ℕ
class_of form.Document p s n = DOC
class_of form.DocumentEnd p s n = DOCEND
class_of form.Colon p s n = COLON
class_of form.Dash p s n = DASH
class_of form.Sign p s n = sign_class (slice_index s 0)
class_of form.Name p s n = if slice_index s 0 == 38 then ANCHOR else ALIAS
class_of form.Block p s n = BLOCK
class_of form.Quoted p s n = scalar_class p (drop n s)
class_of form.Plain p s n = scalar_class p (drop n s)

-- ---- prefixes

-- no tab may stand here: before the first leaf of a line, where more than blanks and a comment follows
abbrev pub forbids_tab : Context → List ℕ → Bool
forbids_tab p s = p.first && not (is_line_over s)

abbrev pub is_bad_tab : Context → List ℕ → Bool
is_bad_tab p s = (slice_index s 0 == 9) && forbids_tab p s

-- `#` at a line's start or behind a blank
abbrev pub begins_comment : Context → List ℕ → Bool
begins_comment p s = p.spaced && (slice_index s 0 == 35)

-- The first n bytes are passed over: white space, or a comment up to its line's end.
pub data IsPassed (p : Context) (s : List ℕ) (n : ℕ) : Type 0 where
  white : begins is_white s ≡ true → is_bad_tab p s ≡ false → n ≡ 1 → IsPassed p s n
  comment : begins_comment p s ≡ true → IsRun in_line s n → IsPassed p s n

-- here a leaf begins
pub record IsLeafPlace (p : Context) (s : List ℕ) : Type 0 where
  pub some : 0 < length s
  pub not_white : begins is_white s ≡ false
  pub not_comment : begins_comment p s ≡ false

-- the first n bytes are the text of the next leaf, which has this class
pub record IsNext (p : Context) (os : List Collection) (s : List ℕ) (class n : ℕ) : Type 0 where
  pub place : IsLeafPlace p s
  pub text : IsText (form_of p s) p os s n
  pub class_is : class ≡ class_of (form_of p s) p s n

-- no leaf of this form begins here
abbrev pub BeginsNone : LeafForm → Context → List Collection → List ℕ → Type 0
BeginsNone f p os s = (n : ℕ) → IsText f p os s n → ⊥

-- The text is bad at byte n. `broken` says that bytes follow it that aren't UTF-8.
pub data IsBad (broken : Bool) (p : Context) (os : List Collection) (s : List ℕ) (n : ℕ) (cause : Cause)
    : Type 0 where
  -- the text ends, and bytes that aren't UTF-8 follow
  cut_off : s ≡ [] → broken ≡ true → n ≡ 0 → cause ≡ NotUtf8 → IsBad broken p os s n cause
  -- a tab stands before the first leaf of a line
  tab : is_bad_tab p s ≡ true → n ≡ 0 → cause ≡ BadLeaf → IsBad broken p os s n cause
  -- a quoted scalar is open where bytes follow that aren't UTF-8
  open_quote : IsLeafPlace p s → form_of p s ≡ form.Quoted → broken ≡ true → BeginsNone (form_of p s) p os s
      → n ≡ length s → cause ≡ NotUtf8 → IsBad broken p os s n cause
  -- no leaf begins here
  no_leaf : IsLeafPlace p s → (form_of p s ≡ form.Quoted → broken ≡ false) → BeginsNone (form_of p s) p os s
      → n ≡ 0 → cause ≡ BadLeaf → IsBad broken p os s n cause
  -- a KEY or DASH can't stand here
  refused : (class size : ℕ) → IsNext p os s class size → is_refused p class os ≡ true
      → n ≡ 0 → cause ≡ BadLeaf → IsBad broken p os s n cause

-- ---- the cut

-- the leaf whose text is n bytes from byte `at` on, and the end leaf there
abbrev pub leaf_from : ℕ → ℕ → ℕ → ℕ → Leaf
leaf_from from at n class = record { prefix_from = from; from = at; to = at + n; class = class }

abbrev pub end_leaf : ℕ → ℕ → Leaf
end_leaf from at = record { prefix_from = from; from = at; to = at; class = END }

-- The text that is left begins at byte `at`, and the prefix of the next leaf at byte `from`; p is the context there,
-- and os are the open collections. The text is cut into these leaves, up to the bad place if there is one. The leaves
-- without text before a leaf stand where the leaf before it ends; a bad place has none.
pub data Cuts (broken : Bool)
    : ℕ → ℕ → Context → List Collection → List ℕ → List Leaf → Option Bad → Type 0 where
  passed : {from at : ℕ} {p : Context} {os : List Collection} {s : List ℕ} {leaves : List Leaf} {bad : Option Bad}
      (n : ℕ) → IsPassed p s n
      → Cuts broken from (at + n) (past p (take n s)) os (drop n s) leaves bad
      → Cuts broken from at p os s leaves bad
  leaf : {from at : ℕ} {p : Context} {os : List Collection} {s : List ℕ} {leaves all : List Leaf} {bad : Option Bad}
      (class n : ℕ) → IsNext p os s class n → is_refused p class os ≡ false
      → Cuts broken (at + n) (at + n) (past_leaf class s (past p (take n s))) (open_behind p class os) (drop n s)
      leaves bad
      → all ≡ textless_before from p class os ++ leaf_from from at n class ∷ leaves
      → Cuts broken from at p os s all bad
  ended : {from at : ℕ} {p : Context} {os : List Collection} {s : List ℕ} {all : List Leaf}
      → s ≡ [] → broken ≡ false → all ≡ closes from (length os) ++ end_leaf from at ∷ []
      → Cuts broken from at p os s all None
  stopped : {from at : ℕ} {p : Context} {os : List Collection} {s : List ℕ}
      (n : ℕ) (cause : Cause) → IsBad broken p os s n cause
      → Cuts broken from at p os s (end_leaf from (at + n) ∷ []) (Some (record { byte = at + n; cause = cause }))

-- ---- whole files

-- These are the leaves of a file, up to its first bad place.
unfoldable pub AreYamlLeaves : List ℕ → List Leaf → Option Bad → Type 0
AreYamlLeaves bytes leaves bad =
    Cuts (is_broken bytes) 0 (mark_size (utf8_front bytes)) start [] (behind_mark (utf8_front bytes)) leaves bad
