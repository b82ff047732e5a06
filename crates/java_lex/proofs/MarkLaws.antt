-- Laws of the marks of a list of leaves.
use Rattle.std.proofs.Common.{◌≡◌, ℕ, zero, suc, ◌+◌, ◌-◌, ◌<◌, Bool, true, false, List, [], ◌∷◌, ◌++◌, length, refl, sym, ◌∙◌, ap, subst, arith, append_assoc, inl, inr}
use Rattle.std.specs.Prelude.{Option, nat_eq, slice_index_or, if◌then◌else◌}
use Rattle.std.proofs.lemmas.Bool.Decides.{nat_tests}
use Rattle.rw_base.specs.declared.tree.Leaf.{Leaf}
use Rattle.rw_base.specs.declared.leaves.Bad.{Bad}
use Rattle.rw_base.specs.Arena.{no_leaf, leaf_at, Tile, end_from}
use Rattle.java_lex.specs.declared.class.TheConstants.{END}
use Rattle.java_lex.specs.Tiles.{AreTiles}
use Rattle.java_lex.specs.Laws.{offset_leaf, offset_leaves}
use Rattle.java_lex.specs.Marks.{IsMark}
use Rattle.java_lex.specs.Segments.{AreMarked, segments, with_leaf, separates, with_class, IsSegmentMarked, AreSegmentsMarked, class_at, is_tight, ends_segment, AreSameButClasses}
use Rattle.java_lex.proofs.SegmentSteps.{one_mark, segments_append, marks_append}

-- ---- one list of marks

list_same : (xs ys : List Leaf) → length xs ≡ length ys
    → ((i : ℕ) → i < length xs → slice_index_or xs i no_leaf ≡ slice_index_or ys i no_leaf) → xs ≡ ys
list_same [] [] e h = refl
list_same [] (y ∷ ys) e h = absurd (omega arith)
list_same (x ∷ xs) [] e h = absurd (omega arith)
list_same (x ∷ xs) (y ∷ ys) e h =
    ap (λ z. z ∷ xs) (h 0 (omega arith)) ∙ ap (λ zs. y ∷ zs) (list_same xs ys (omega arith) (λ i lt. h (suc i) (omega arith)))

inside_of : (i m n : ℕ) → m ≡ n → i < m → i < n
inside_of i m n e h = omega arith

segment_one : (p ms ns : List Leaf) → IsSegmentMarked p ms → IsSegmentMarked p ns → ms ≡ ns
segment_one p ms ns f g = list_same ms ns (f.long ∙ sym g.long) (λ i lt.
    let inside = inside_of i (length ms) (length p) f.long lt in
    let a = f.each i inside in
    let b = g.each i inside in
    a.2 ∙ ap (λ m. with_class (slice_index_or p i no_leaf) m) (one_mark (class_at p) (is_tight p) i a.0 b.0 a.1 b.1) ∙ sym b.2)

segments_one : (ps : List (List Leaf)) (ms ns : List Leaf) → AreSegmentsMarked ps ms → AreSegmentsMarked ps ns → ms ≡ ns
segments_one [] ms ns f g = f ∙ sym g
segments_one (p ∷ ps) ms ns f g =
    f.2 ∙ ap (λ x. x ++ f.1) (segment_one p f.0 g.0 f.3 g.3) ∙ ap (λ y. g.0 ++ y) (segments_one ps f.1 g.1 f.4 g.4) ∙ sym g.2

pub marks-one : (leaves ms ns : List Leaf) → AreMarked leaves ms → AreMarked leaves ns → ms ≡ ns
unfolding AreMarked
marks-one leaves ms ns f g = segments_one (segments leaves) ms ns f g

-- ---- marks of a part

pub marks-join : (xs ys ms ns : List Leaf) → ends_segment xs ≡ true → AreMarked xs ms → AreMarked ys ns → AreMarked (xs ++ ys) (ms ++ ns)
unfolding AreMarked
marks-join xs ys ms ns e f g =
    subst (λ ps. AreSegmentsMarked ps (ms ++ ns)) (sym (segments_append xs ys e)) (marks_append (segments xs) (segments ys) ms ns f g)

split_marks : (ps qs : List (List Leaf)) (marked : List Leaf) → AreSegmentsMarked (ps ++ qs) marked
    → (ms ns : List Leaf) × (marked ≡ ms ++ ns) × AreSegmentsMarked ps ms × AreSegmentsMarked qs ns
split_marks [] qs marked h = ([], marked, refl, refl, h)
split_marks (p ∷ ps) qs marked h =
    let r = split_marks ps qs h.1 h.4 in
    (h.0 ++ r.0, r.1, h.2 ∙ ap (λ w. h.0 ++ w) r.2 ∙ sym (append_assoc h.0 r.0 r.1), (h.0, r.0, refl, h.3, r.3), r.4)

pub marks-part : (xs ys marked : List Leaf) → ends_segment xs ≡ true → AreMarked (xs ++ ys) marked
    → (ms ns : List Leaf) × (marked ≡ ms ++ ns) × AreMarked xs ms × AreMarked ys ns
unfolding AreMarked
marks-part xs ys marked e h =
    split_marks (segments xs) (segments ys) marked (subst (λ ps. AreSegmentsMarked ps marked) (segments_append xs ys e) h)

-- ---- what marks change

-- Each leaf has another class at most, and the end stays the end.
data Kept : List Leaf → List Leaf → Type 0 where
  none_left : {ls ms : List Leaf} → ls ≡ [] → ms ≡ [] → Kept ls ms
  one_kept : {ls ms : List Leaf} (l m : Leaf) (rest others : List Leaf) → ls ≡ l ∷ rest → ms ≡ m ∷ others → m ≡ with_class l m.class
      → (l.class ≡ END → m.class ≡ END) → Kept rest others → Kept ls ms

-- the end has no mark
end_mark : (c : ℕ → ℕ) (tight : ℕ → Bool) (i m : ℕ) → c i ≡ END → IsMark c tight i m → m ≡ END
end_mark c tight i m e h = elim h [ inl a ↦ absurd (omega (arith, a.0.0, e)) | inr b0 ↦ elim b0.1 [ inl a ↦ absurd (omega (arith, a.0.0, e)) | inr b1 ↦ elim b1.1 [ inl a ↦ absurd (omega (arith, a.0.0, e)) | inr b2 ↦ elim b2.1 [ inl a ↦ absurd (omega (arith, a.0.0, e)) | inr b3 ↦ elim b3.1 [ inl a ↦ absurd (omega (arith, a.0.0, e)) | inr b4 ↦ elim b4.1 [ inl a ↦ absurd (omega (arith, a.0.0, e)) | inr b5 ↦ elim b5.1 [ inl a ↦ absurd (omega (arith, a.0.0, e)) | inr b6 ↦ elim b6.1 [ inl a ↦ absurd (omega (arith, a.0.0, e)) | inr b7 ↦ elim b7.1 [ inl a ↦ absurd (omega (arith, a.0.0.0, e)) | inr b8 ↦ elim b8.1 [ inl a ↦ absurd (omega (arith, a.0.0, e)) | inr b9 ↦ b9.1 ∙ e ] ] ] ] ] ] ] ] ] ]

kept_list : (ls ms : List Leaf) → length ms ≡ length ls
    → ((i : ℕ) → i < length ls → (m : ℕ) × (slice_index_or ms i no_leaf ≡ with_class (slice_index_or ls i no_leaf) m)
    × ((slice_index_or ls i no_leaf).class ≡ END → m ≡ END)) → Kept ls ms
kept_list [] [] e h = none_left refl refl
kept_list [] (m ∷ ms) e h = absurd (omega arith)
kept_list (l ∷ ls) [] e h = absurd (omega arith)
kept_list (l ∷ ls) (m ∷ ms) e h =
    let here = h 0 (omega arith) in
    let class_is : m.class ≡ here.0 = ap (λ (x : Leaf). x.class) here.1 in
    one_kept l m ls ms refl refl (here.1 ∙ ap (λ k. with_class l k) (sym class_is)) (λ z. class_is ∙ here.2 z)
    (kept_list ls ms (omega arith) (λ i lt. h (suc i) (omega arith)))

kept_segment : (p ms : List Leaf) → IsSegmentMarked p ms → Kept p ms
kept_segment p ms f = kept_list p ms f.long (λ i lt.
    let a = f.each i lt in
    (a.0, a.2, λ z. end_mark (class_at p) (is_tight p) i a.0 z a.1))

kept_append : (xs ys ms ns : List Leaf) → Kept xs ms → Kept ys ns → Kept (xs ++ ys) (ms ++ ns)
kept_append xs ys ms ns (none_left e f) g =
    subst (λ x. Kept (x ++ ys) (ms ++ ns)) (sym e) (subst (λ y. Kept ys (y ++ ns)) (sym f) g)
kept_append xs ys ms ns (one_kept l m rest others e f is stays k) g =
    one_kept l m (rest ++ ys) (others ++ ns) (ap (λ x. x ++ ys) e) (ap (λ x. x ++ ns) f) is stays (kept_append rest ys others ns k g)

all_leaves : List (List Leaf) → List Leaf
all_leaves [] = []
all_leaves (p ∷ ps) = p ++ all_leaves ps

all_with : (l : Leaf) (ps : List (List Leaf)) → all_leaves (with_leaf l ps) ≡ l ∷ all_leaves ps
unfolding all_leaves
all_with l [] = refl
all_with l (p ∷ ps) = refl

all_segments : (ls : List Leaf) → all_leaves (segments ls) ≡ ls
unfolding all_leaves
all_segments [] = refl
all_segments (l ∷ ls) = either (separates l) (segments ls) (all_segments ls)
  where
    either : (b : Bool) (ps : List (List Leaf)) → all_leaves ps ≡ ls → all_leaves (if b then (l ∷ []) ∷ ps else with_leaf l ps) ≡ l ∷ ls
    either true ps e = ap (λ x. l ∷ x) e
    either false ps e = all_with l ps ∙ ap (λ x. l ∷ x) e

kept_segments : (ps : List (List Leaf)) (marked : List Leaf) → AreSegmentsMarked ps marked → Kept (all_leaves ps) marked
unfolding all_leaves
kept_segments [] marked h = none_left refl h
kept_segments (p ∷ ps) marked h =
    subst (λ x. Kept (p ++ all_leaves ps) x) (sym h.2) (kept_append p (all_leaves ps) h.0 h.1 (kept_segment p h.0 h.3) (kept_segments ps h.1 h.4))

kept : (leaves marked : List Leaf) → AreMarked leaves marked → Kept leaves marked
unfolding AreMarked
kept leaves marked h = subst (λ x. Kept x marked) (all_segments leaves) (kept_segments (segments leaves) marked h)

same_kept : (ls ms : List Leaf) → Kept ls ms → AreSameButClasses ls ms
same_kept ls ms (none_left e f) = subst (λ x. AreSameButClasses x ms) (sym e) (subst (λ y. AreSameButClasses [] y) (sym f) tt)
same_kept ls ms (one_kept l m rest others e f is stays k) =
    subst (λ x. AreSameButClasses x ms) (sym e) (subst (λ y. AreSameButClasses (l ∷ rest) y) (sym f) (is, same_kept rest others k))

pub marks-same : (leaves marked : List Leaf) → AreMarked leaves marked → AreSameButClasses leaves marked
marks-same leaves marked h = same_kept leaves marked (kept leaves marked h)

-- ---- marked leaves tile

kept_length : (ls ms : List Leaf) → Kept ls ms → length ms ≡ length ls
kept_length ls ms (none_left e f) = ap length f ∙ sym (ap length e)
kept_length ls ms (one_kept l m rest others e f is stays k) =
    ap length f ∙ ap suc (kept_length rest others k) ∙ sym (ap length e)

kept_end : (from : ℕ) (ls ms : List Leaf) → Kept ls ms → end_from from ms ≡ end_from from ls
kept_end from ls ms (none_left e f) = ap (λ x. end_from from x) f ∙ sym (ap (λ x. end_from from x) e)
kept_end from ls ms (one_kept l m rest others e f is stays k) =
    let to_is : m.to ≡ l.to = ap (λ (x : Leaf). x.to) is in
    ap (λ x. end_from from x) f ∙ ap (λ n. end_from n others) to_is ∙ kept_end l.to rest others k ∙ sym (ap (λ x. end_from from x) e)

kept_tile : (at : ℕ) (ls ms : List Leaf) → Kept ls ms → Tile at ls → Tile at ms
kept_tile at ls ms (none_left e f) t = subst (λ x. Tile at x) (sym f) tt
kept_tile at ls ms (one_kept l m rest others e f is stays k) t =
    let w : Tile at (l ∷ rest) = subst (λ x. Tile at x) e t in
    let front_is : m.prefix_from ≡ l.prefix_from = ap (λ (x : Leaf). x.prefix_from) is in
    let from_is : m.from ≡ l.from = ap (λ (x : Leaf). x.from) is in
    let to_is : m.to ≡ l.to = ap (λ (x : Leaf). x.to) is in
    subst (λ x. Tile at x) (sym f)
    (front_is ∙ w.0, omega (arith, w.1), omega (arith, w.2), kept_tile m.to rest others k (subst (λ n. Tile n rest) (sym to_is) w.3))

record KeptLeaf (l m : Leaf) : Type 0 where
  is : m ≡ with_class l m.class
  stays : l.class ≡ END → m.class ≡ END

kept_at : (ls ms : List Leaf) (i : ℕ) → Kept ls ms → KeptLeaf (slice_index_or ls i no_leaf) (slice_index_or ms i no_leaf)
kept_at ls ms i (none_left e f) =
    subst (λ x. KeptLeaf (slice_index_or x i no_leaf) (slice_index_or ms i no_leaf)) (sym e)
    (subst (λ y. KeptLeaf (slice_index_or [] i no_leaf) (slice_index_or y i no_leaf)) (sym f) (nothing i))
  where
    nothing : (n : ℕ) → KeptLeaf (slice_index_or [] n no_leaf) (slice_index_or [] n no_leaf)
    nothing zero = record { is = refl; stays = λ z. z }
    nothing (suc n) = record { is = refl; stays = λ z. z }
kept_at ls ms zero (one_kept l m rest others e f is stays k) =
    subst (λ x. KeptLeaf (slice_index_or x 0 no_leaf) (slice_index_or ms 0 no_leaf)) (sym e)
    (subst (λ y. KeptLeaf l (slice_index_or y 0 no_leaf)) (sym f) (record { is = is; stays = stays }))
kept_at ls ms (suc i) (one_kept l m rest others e f is stays k) =
    subst (λ x. KeptLeaf (slice_index_or x (suc i) no_leaf) (slice_index_or ms (suc i) no_leaf)) (sym e)
    (subst (λ y. KeptLeaf (slice_index_or rest i no_leaf) (slice_index_or y (suc i) no_leaf)) (sym f) (kept_at rest others i k))

pub marks-tile : (bytes : List ℕ) (leaves marked : List Leaf) (bad : Option Bad) → AreTiles bytes leaves bad → AreMarked leaves marked → AreTiles bytes marked bad
unfolding leaf_at
marks-tile bytes leaves marked bad t h =
    let k = kept leaves marked h in
    let long = kept_length leaves marked k in
    let last_is : length marked - 1 ≡ length leaves - 1 = ap (λ n. n - 1) long in
    let last = kept_at leaves marked (length leaves - 1) k in
    let from_is : (slice_index_or marked (length marked - 1) no_leaf).from ≡ (slice_index_or leaves (length leaves - 1) no_leaf).from =
    ap (λ n. (slice_index_or marked n no_leaf).from) last_is ∙ ap (λ (x : Leaf). x.from) last.is in
    record {
      cut = record {
        tile = kept_tile 0 leaves marked k t.cut.tile;
        ends = kept_end 0 leaves marked k ∙ t.cut.ends;
        inside = t.cut.inside;
        some = let some = t.cut.some in omega arith;
        empty_end = from_is ∙ t.cut.empty_end ∙ sym (kept_end 0 leaves marked k);
      };
      few = let few = t.few in omega arith;
      end_class = ap (λ n. (slice_index_or marked n no_leaf).class) last_is ∙ last.stays t.end_class;
    }

-- ---- where the leaves stand

each_offset : ℕ → List (List Leaf) → List (List Leaf)
each_offset by [] = []
each_offset by (p ∷ ps) = offset_leaves by p ∷ each_offset by ps

offset_with : (by : ℕ) (l : Leaf) (ps : List (List Leaf)) → with_leaf (offset_leaf by l) (each_offset by ps) ≡ each_offset by (with_leaf l ps)
unfolding each_offset
offset_with by l [] = refl
offset_with by l (p ∷ ps) = refl

offset_segments : (by : ℕ) (ls : List Leaf) → segments (offset_leaves by ls) ≡ each_offset by (segments ls)
unfolding each_offset
offset_segments by [] = refl
offset_segments by (l ∷ ls) =
    ap (λ ps. if separates l then (offset_leaf by l ∷ []) ∷ ps else with_leaf (offset_leaf by l) ps) (offset_segments by ls)
    ∙ either (separates l) (segments ls)
  where
    either : (b : Bool) (ps : List (List Leaf)) → (if b then (offset_leaf by l ∷ []) ∷ each_offset by ps else with_leaf (offset_leaf by l) (each_offset by ps))
        ≡ each_offset by (if b then (l ∷ []) ∷ ps else with_leaf l ps)
    either true ps = refl
    either false ps = offset_with by l ps

offset_length : (by : ℕ) (ls : List Leaf) → length (offset_leaves by ls) ≡ length ls
offset_length by [] = refl
offset_length by (l ∷ ls) = ap suc (offset_length by ls)

offset_append : (by : ℕ) (xs ys : List Leaf) → offset_leaves by (xs ++ ys) ≡ offset_leaves by xs ++ offset_leaves by ys
offset_append by [] ys = refl
offset_append by (x ∷ xs) ys = ap (λ zs. offset_leaf by x ∷ zs) (offset_append by xs ys)

offset_at : (by : ℕ) (ls : List Leaf) (i : ℕ) → i < length ls → slice_index_or (offset_leaves by ls) i no_leaf ≡ offset_leaf by (slice_index_or ls i no_leaf)
offset_at by [] i h = absurd (omega arith)
offset_at by (l ∷ ls) zero h = refl
offset_at by (l ∷ ls) (suc i) h = offset_at by ls i (omega arith)

same_class : (by : ℕ) (ls : List Leaf) (i : ℕ) → class_at ls i ≡ class_at (offset_leaves by ls) i
same_class by [] i = refl
same_class by (l ∷ ls) zero = refl
same_class by (l ∷ ls) (suc i) = same_class by ls i

eq_plus : (a b by : ℕ) → nat_eq a b ≡ nat_eq (a + by) (b + by)
eq_plus a b by = grind (arith, nat_tests)

same_tight : (by : ℕ) (ls : List Leaf) (i : ℕ) → is_tight ls i ≡ is_tight (offset_leaves by ls) i
same_tight by [] i = refl
same_tight by (l ∷ ls) zero = eq_plus l.prefix_from l.from by
same_tight by (l ∷ ls) (suc i) = same_tight by ls i

offset_mark : (by : ℕ) (p : List Leaf) (i m : ℕ) → IsMark (class_at p) (is_tight p) i m → IsMark (class_at (offset_leaves by p)) (is_tight (offset_leaves by p)) i m
offset_mark by p i m h =
    let classes : class_at p ≡ class_at (offset_leaves by p) = λ j k. same_class by p k j in
    let tights : is_tight p ≡ is_tight (offset_leaves by p) = λ j k. same_tight by p k j in
    subst (λ (tight : ℕ → Bool). IsMark (class_at (offset_leaves by p)) tight i m) tights (subst (λ (c : ℕ → ℕ). IsMark c (is_tight p) i m) classes h)

offset_segment : (by : ℕ) (p ms : List Leaf) → IsSegmentMarked p ms → IsSegmentMarked (offset_leaves by p) (offset_leaves by ms)
offset_segment by p ms f = record {
  long = offset_length by ms ∙ f.long ∙ sym (offset_length by p);
  each = λ i lt.
      let inside : i < length p = inside_of i (length (offset_leaves by p)) (length p) (offset_length by p) lt in
      let there : i < length ms = inside_of i (length p) (length ms) (sym f.long) inside in
      let a = f.each i inside in (
        a.0,
        offset_mark by p i a.0 a.1,
        offset_at by ms i there ∙ ap (λ l. offset_leaf by l) a.2
            ∙ ap (λ l. with_class l a.0) (sym (offset_at by p i inside)),
      );
}

offset_marks : (by : ℕ) (ps : List (List Leaf)) (marked : List Leaf) → AreSegmentsMarked ps marked → AreSegmentsMarked (each_offset by ps) (offset_leaves by marked)
unfolding each_offset
offset_marks by [] marked h = ap (λ x. offset_leaves by x) h
offset_marks by (p ∷ ps) marked h = (
  offset_leaves by h.0,
  offset_leaves by h.1,
  ap (λ x. offset_leaves by x) h.2 ∙ offset_append by h.0 h.1,
  offset_segment by p h.0 h.3,
  offset_marks by ps h.1 h.4,
)

pub marks-anywhere : (by : ℕ) (leaves marked : List Leaf) → AreMarked leaves marked → AreMarked (offset_leaves by leaves) (offset_leaves by marked)
unfolding AreMarked
marks-anywhere by leaves marked h =
    subst (λ ps. AreSegmentsMarked ps (offset_leaves by marked)) (sym (offset_segments by leaves)) (offset_marks by (segments leaves) marked h)
