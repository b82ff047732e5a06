-- The leaves of a list with their marks, segment by segment: a segment ends with `;`, `{` or `}`, or with the leaves.
use Rattle.std.specs.Prelude.{◌≡◌, ℕ, ◌<◌, Bool, true, ◌==◌, List, [], ◌∷◌, ◌++◌, length, slice_index_or, if◌then◌else◌}
use Rattle.rw_base.specs.declared.tree.Leaf.{Leaf}
use Rattle.rw_base.specs.Arena.{no_leaf}
use Rattle.java_lex.specs.declared.class.TheConstants.{BRACE_OPEN, BRACE_CLOSE, SEMICOLON}
use Rattle.java_lex.specs.Marks.{among, IsMark}

-- the class of a leaf by its number, END where none is there; and whether its prefix is empty
abbrev pub class_at : List Leaf → ℕ → ℕ
class_at leaves i = (slice_index_or leaves i no_leaf).class

abbrev pub is_tight : List Leaf → ℕ → Bool
is_tight leaves i = (slice_index_or leaves i no_leaf).prefix_from == (slice_index_or leaves i no_leaf).from

-- the leaves that end a segment
abbrev pub separates : Leaf → Bool
separates l = among l.class (SEMICOLON ∷ BRACE_OPEN ∷ BRACE_CLOSE ∷ [])

-- a leaf before the first of these segments
abbrev pub with_leaf : Leaf → List (List Leaf) → List (List Leaf)
with_leaf l [] = (l ∷ []) ∷ []
with_leaf l (p ∷ ps) = (l ∷ p) ∷ ps

-- leaves cut behind each `;`, `{` and `}`
abbrev pub segments : List Leaf → List (List Leaf)
segments [] = []
segments (l ∷ ls) = if separates l then (l ∷ []) ∷ segments ls else with_leaf l (segments ls)

-- the same leaf with another class
abbrev pub with_class : Leaf → ℕ → Leaf
with_class l m = record { prefix_from = l.prefix_from; from = l.from; to = l.to; class = m }

-- The leaves of a segment, each with the class that its mark gives.
pub record IsSegmentMarked (segment marked : List Leaf) : Type 0 where
  pub long : length marked ≡ length segment
  pub each : (i : ℕ) → i < length segment
      → (m : ℕ) × IsMark (class_at segment) (is_tight segment) i m
      × (slice_index_or marked i no_leaf ≡ with_class (slice_index_or segment i no_leaf) m)

abbrev pub AreSegmentsMarked : List (List Leaf) → List Leaf → Type 0
AreSegmentsMarked [] marked = marked ≡ []
AreSegmentsMarked (p ∷ ps) marked =
    (front others : List Leaf) × (marked ≡ front ++ others) × IsSegmentMarked p front × AreSegmentsMarked ps others

-- The leaves with their marks.
unfoldable pub AreMarked : List Leaf → List Leaf → Type 0
AreMarked leaves marked = AreSegmentsMarked (segments leaves) marked

-- ---- the words of the laws of marks

-- no segment goes on behind these leaves: there are none, or the last is `;`, `{` or `}`
abbrev pub ends_segment : List Leaf → Bool
ends_segment [] = true
ends_segment (l ∷ []) = separates l
ends_segment (l ∷ (m ∷ ls)) = ends_segment (m ∷ ls)

-- the same leaves but for their classes
abbrev pub AreSameButClasses : List Leaf → List Leaf → Type 0
AreSameButClasses [] [] = Unit {0}
AreSameButClasses [] (m ∷ ms) = ⊥
AreSameButClasses (l ∷ ls) [] = ⊥
AreSameButClasses (l ∷ ls) (m ∷ ms) = (m ≡ with_class l m.class) × AreSameButClasses ls ms
