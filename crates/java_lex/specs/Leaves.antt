-- A text cut into leaves, up to the end or the first bad place. At each place white space and comments come first, and
-- then the longest leaf of those that begin there.
use Rattle.std.specs.Prelude.{◌≡◌, ℕ, ◌+◌, ◌<◌, ◌≤◌, Bool, true, false, List, [], ◌∷◌, ◌++◌, length}
use Rattle.std.specs.Prelude.{take, drop, slice_index, Option, Some, None}
use Rattle.rw_base.specs.Utf8.{utf8_front, is_broken, mark_size}
use Rattle.rw_base.specs.declared.tree.Leaf.{Leaf}
use Rattle.rw_base.specs.declared.place.Cause.{Cause}
use Rattle.rw_base.specs.declared.place.Cause.TheVariants.{NotUtf8, BadLeaf}
use Rattle.java_lex.specs.declared.class.TheConstants.{END}
use Rattle.rw_base.specs.declared.leaves.Bad.{Bad}
use Rattle.rw_base.specs.Expressions.{Expression}
use Rattle.java_lex.specs.Literals.{literal_refused, comment_refused}
use Rattle.java_lex.specs.Kinds.{IsLeaf, Fits, kinds, is_literal}
use Rattle.java_lex.specs.Escapes.{IsFirstRefused, NoneRefused}
use Rattle.java_lex.specs.Blanks.{is_white, begins_comment, IsComment, IsOpenComment}

-- The first n bytes are a leaf of this class, and no longer front is a leaf.
pub record IsLongest (s : List ℕ) (class n : ℕ) : Type 0 where
  pub is : IsLeaf class (take n s)
  pub inside : n ≤ length s
  pub longest : (m k : ℕ) → n < m → m ≤ length s → IsLeaf k (take m s) → ⊥

-- no front is a leaf
abbrev pub BeginsNone : List ℕ → Type 0
BeginsNone s = (m k : ℕ) → IsLeaf k (take m s) → ⊥

-- with more behind it the whole text can become a leaf other than a word
abbrev pub CanGoOn : List ℕ → Type 0
CanGoOn s = (more : List ℕ) × (class : ℕ) × Fits class kinds (s ++ more)

-- The first n bytes are passed over: white space, or a comment without an escape that is refused.
pub data IsBlank (s : List ℕ) (n : ℕ) : Type 0 where
  white : 0 < length s → is_white (slice_index s 0) ≡ true → n ≡ 1 → IsBlank s n
  comment : IsComment s n → NoneRefused comment_refused (take n s) → IsBlank s n

-- Here a leaf begins: neither white space nor a comment stands here, nor the end.
pub record IsLeafPlace (s : List ℕ) : Type 0 where
  pub some : 0 < length s
  pub not_white : is_white (slice_index s 0) ≡ false
  pub not_comment : begins_comment s ≡ false

-- The first n bytes are the next leaf, of this class. A literal has no escape that is refused.
pub record IsNextLeaf (s : List ℕ) (class n : ℕ) : Type 0 where
  pub place : IsLeafPlace s
  pub longest : IsLongest s class n
  pub accepted : is_literal class ≡ true → NoneRefused literal_refused (take n s)

-- Where it is bad at byte n that a comment or literal is still open at the text's end. It is bad at its start, but
-- where bytes that aren't UTF-8 follow, it counts as open, and is bad at its first escape that is refused or at those
-- bytes.
pub data IsBadOpen (broken : Bool) (escape : Expression) (s : List ℕ) (n : ℕ) (cause : Cause) : Type 0 where
  never_closed : broken ≡ false → n ≡ 0 → cause ≡ BadLeaf → IsBadOpen broken escape s n cause
  escaped : broken ≡ true → IsFirstRefused escape s n → cause ≡ BadLeaf → IsBadOpen broken escape s n cause
  cut_off : broken ≡ true → NoneRefused escape s → n ≡ length s → cause ≡ NotUtf8 → IsBadOpen broken escape s n cause

-- The text is bad at byte n. `broken` says that bytes follow it that aren't UTF-8.
pub data IsBad (broken : Bool) (s : List ℕ) (n : ℕ) (cause : Cause) : Type 0 where
  -- the text ends, and bytes that aren't UTF-8 follow
  broken_end : s ≡ [] → broken ≡ true → n ≡ 0 → cause ≡ NotUtf8 → IsBad broken s n cause
  -- an escape that is refused stands in a comment
  in_comment : (size : ℕ) → IsComment s size → IsFirstRefused comment_refused (take size s) n → cause ≡ BadLeaf
      → IsBad broken s n cause
  -- a comment isn't closed
  open_comment : IsOpenComment s → IsBadOpen broken comment_refused s n cause → IsBad broken s n cause
  -- an escape that is refused stands in a literal
  in_literal : (class size : ℕ) → IsLeafPlace s → IsLongest s class size → is_literal class ≡ true
      → IsFirstRefused literal_refused (take size s) n → cause ≡ BadLeaf → IsBad broken s n cause
  -- a literal isn't closed
  open_literal : IsLeafPlace s → BeginsNone s → CanGoOn s → IsBadOpen broken literal_refused s n cause
      → IsBad broken s n cause
  -- no leaf begins here
  no_leaf : IsLeafPlace s → BeginsNone s → (CanGoOn s → ⊥) → n ≡ 0 → cause ≡ BadLeaf → IsBad broken s n cause

-- the end leaf at a byte
abbrev pub end_leaf : ℕ → ℕ → Leaf
end_leaf from at = record { prefix_from = from; from = at; to = at; class = END }

-- The text that is left begins at byte `at`, and the prefix of the next leaf at byte `from`. It is cut into these
-- leaves, up to the bad place if there is one.
pub data Cuts (broken : Bool) : ℕ → ℕ → List ℕ → List Leaf → Option Bad → Type 0 where
  passed : {from at : ℕ} {s : List ℕ} {leaves : List Leaf} {bad : Option Bad} (n : ℕ) → IsBlank s n
      → Cuts broken from (at + n) (drop n s) leaves bad → Cuts broken from at s leaves bad
  leaf : {from at : ℕ} {s : List ℕ} {leaves : List Leaf} {bad : Option Bad} (class n : ℕ) → IsNextLeaf s class n
      → Cuts broken (at + n) (at + n) (drop n s) leaves bad
      → Cuts broken from at s (record { prefix_from = from; from = at; to = at + n; class = class } ∷ leaves) bad
  ended : {from at : ℕ} {s : List ℕ} → s ≡ [] → broken ≡ false → Cuts broken from at s (end_leaf from at ∷ []) None
  stopped : {from at : ℕ} {s : List ℕ} (n : ℕ) (cause : Cause) → IsBad broken s n cause
      → Cuts broken from at s (end_leaf from (at + n) ∷ []) (Some (record { byte = at + n; cause = cause }))

-- ---- whole files

-- These are the leaves of a file, up to its first bad place.
unfoldable pub AreJavaLeaves : List ℕ → List Leaf → Option Bad → Type 0
AreJavaLeaves bytes leaves bad =
    let text = utf8_front bytes in
    let mark = mark_size text in
    Cuts (is_broken bytes) 0 mark (drop mark text) leaves bad
