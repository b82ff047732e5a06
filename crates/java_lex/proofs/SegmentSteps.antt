-- Segments, and marks segment by segment.
use Rattle.std.proofs.Common.{max, ◌≡◌, ℕ, zero, suc, ◌+◌, ◌-◌, ◌<◌, ◌≤◌, Bool, true, false, List, [], ◌∷◌, ◌++◌, length, take, drop, refl, sym, ◌∙◌, ap, subst, arith, append_assoc, inl, inr}
use Rattle.std.specs.Prelude.{slice_index_or, if◌then◌else◌, IsTrue, nat_eq, ◌↔◌}
use Rattle.std.proofs.Common.{◌≢◌, ◌⊎◌}
use Rattle.std.proofs.lemmas.Bool.Decides.{nat_tests}
use Rattle.std.proofs.lemmas.Slice.{take-put_mid, drop-put_mid}
use borrow.Rule.Slice.PartMut.{put_mid, mid_of, same_len_mid}
use Rattle.std.proofs.lemmas.List.{take_rest, length-take-le, length-drop}
use Rattle.rw_base.specs.declared.tree.Leaf.{Leaf}
use Rattle.java_lex.specs.declared.class.TheConstants.{ID, DOT, GREATER}
use Rattle.java_lex.specs.KnownSegments.{longest_of}
use Rattle.java_lex.specs.Marks.{IsMark, EndsInSet, Adjoins, set, next, IsPlain, lone, further}
use Rattle.java_lex.specs.Segments.{AreMarked, segments, with_leaf, separates, IsSegmentMarked, AreSegmentsMarked, ends_segment, class_at, is_tight}
use Rattle.rw_base.specs.Arena.{no_leaf}

-- ---- where the first segment ends

pub segment_at : (ls : List Leaf) (n : ℕ) → ((k : ℕ) → k < n → separates (slice_index_or ls k no_leaf) ≡ false) → n < length ls
    → separates (slice_index_or ls n no_leaf) ≡ true → segments ls ≡ take (suc n) ls ∷ segments (drop (suc n) ls)
segment_at [] n none h is = absurd (omega arith)
segment_at (l ∷ ls) zero none h is = ap (λ b. if b then (l ∷ []) ∷ segments ls else with_leaf l (segments ls)) is
segment_at (l ∷ ls) (suc n) none h is =
    ap (λ b. if b then (l ∷ []) ∷ segments ls else with_leaf l (segments ls)) (none 0 (omega arith))
    ∙ ap (with_leaf l) (segment_at ls n (λ k lt. none (suc k) (omega arith)) (omega arith) is)

pub segment_all : (ls : List Leaf) → ((k : ℕ) → k < length ls → separates (slice_index_or ls k no_leaf) ≡ false) → 0 < length ls → segments ls ≡ ls ∷ []
segment_all [] none h = absurd (omega arith)
segment_all (l ∷ []) none h = ap (λ b. if b then (l ∷ []) ∷ [] else with_leaf l []) (none 0 (omega arith))
segment_all (l ∷ (m ∷ ls)) none h =
    ap (λ b. if b then (l ∷ []) ∷ segments (m ∷ ls) else with_leaf l (segments (m ∷ ls))) (none 0 (omega arith))
    ∙ ap (with_leaf l) (segment_all (m ∷ ls) (λ k lt. none (suc k) (omega arith)) (omega arith))

pub take_all : (ls : List Leaf) → take (length ls) ls ≡ ls
take_all [] = refl
take_all (l ∷ ls) = ap (λ r. l ∷ r) (take_all ls)

pub drop_all : (ls : List Leaf) → drop (length ls) ls ≡ []
drop_all [] = refl
drop_all (l ∷ ls) = drop_all ls

pub segment_whole : (ls : List Leaf) → ((k : ℕ) → k < length ls → separates (slice_index_or ls k no_leaf) ≡ false) → 0 < length ls
    → segments ls ≡ take (length ls) ls ∷ segments (drop (length ls) ls)
segment_whole ls none h = segment_all ls none h ∙ (ap (λ p. p ∷ []) (sym (take_all ls)) ∙ ap (λ r. take (length ls) ls ∷ segments r) (sym (drop_all ls)))

-- ---- one more segment

drop_twice : (a b : ℕ) (ls : List Leaf) → drop b (drop a ls) ≡ drop (a + b) ls
drop_twice zero b ls = ap (λ n. drop n ls) (omega arith)
drop_twice (suc a) b [] = nothing b ∙ sym (nothing (suc a + b))
  where
    nothing : (n : ℕ) → drop n (let e : List Leaf = [] in e) ≡ []
    nothing zero = refl
    nothing (suc n) = refl
drop_twice (suc a) b (l ∷ ls) = drop_twice a b ls ∙ ap (λ n. drop n (l ∷ ls)) (let e : suc (a + b) ≡ suc a + b = omega arith in e)

pub next_segment : (old new ys : List Leaf) (from size k : ℕ) → k ≡ size → from ≤ length new → drop from new ≡ drop from old → length ys ≡ size
    → segments (drop from new) ≡ take size (drop from new) ∷ segments (drop size (drop from new)) → IsSegmentMarked (take size (drop from new)) ys
    → ((rest : List Leaf) → AreSegmentsMarked (segments (drop from old)) rest → AreSegmentsMarked (segments old) (take from new ++ rest))
    → (rest : List Leaf) → AreSegmentsMarked (segments (drop (from + size) old)) rest
    → AreSegmentsMarked (segments old) (take (from + size) (put_mid from k new ys) ++ rest)
next_segment old new ys from size k e inside left long segment marked done rest more =
    let cut : segments (drop from old) ≡ take size (drop from new) ∷ segments (drop (from + size) old) =
    ap segments (sym left) ∙ (segment ∙ ap (λ r. take size (drop from new) ∷ segments r) (ap (drop size) left ∙ drop_twice from size old)) in
    let both : AreSegmentsMarked (segments (drop from old)) (ys ++ rest) = subst (λ ps. AreSegmentsMarked ps (ys ++ rest)) (sym cut) (ys, rest, refl, marked, more) in
    let there : take (from + size) (put_mid from k new ys) ≡ take from new ++ ys = take-put_mid from k new ys (from + size) (omega arith) inside in
    subst (AreSegmentsMarked (segments old)) (sym (append_assoc (take from new) ys rest) ∙ ap (λ w. w ++ rest) (sym there)) (done (ys ++ rest) both)

-- ---- segments of a part of the leaves

joined_append : (l : Leaf) (ps qs : List (List Leaf)) → (ps ≡ [] → ⊥) → with_leaf l (ps ++ qs) ≡ with_leaf l ps ++ qs
joined_append l [] qs some = absurd (some refl)
joined_append l (p ∷ ps) qs some = refl

some_segments : (l : Leaf) (ls : List Leaf) → segments (l ∷ ls) ≡ [] → ⊥
some_segments l ls = by_test (separates l) (segments ls)
  where
    by_test : (b : Bool) (ps : List (List Leaf)) → (if b then (l ∷ []) ∷ ps else with_leaf l ps) ≡ [] → ⊥
    by_test true ps e = cc
    by_test false [] e = cc
    by_test false (p ∷ ps) e = cc

-- What ends with `;`, `{` or `}` is cut alike, whatever follows: the segments of all are its segments and those of the rest.
pub segments_append : (xs ys : List Leaf) → ends_segment xs ≡ true → segments (xs ++ ys) ≡ segments xs ++ segments ys
segments_append [] ys h = refl
segments_append (l ∷ []) ys h =
    ap (λ b. if b then (l ∷ []) ∷ segments ys else with_leaf l (segments ys)) h
    ∙ sym (ap (λ b. (if b then (l ∷ []) ∷ [] else with_leaf l []) ++ segments ys) h)
segments_append (l ∷ (m ∷ xs)) ys h =
    ap (λ ps. if separates l then (l ∷ []) ∷ ps else with_leaf l ps) (segments_append (m ∷ xs) ys h)
    ∙ by_test (separates l)
  where
    by_test : (b : Bool) → (if b then (l ∷ []) ∷ (segments (m ∷ xs) ++ segments ys) else with_leaf l (segments (m ∷ xs) ++ segments ys))
        ≡ (if b then (l ∷ []) ∷ segments (m ∷ xs) else with_leaf l (segments (m ∷ xs))) ++ segments ys
    by_test true = refl
    by_test false = joined_append l (segments (m ∷ xs)) (segments ys) (some_segments m xs)

-- So the marks of a part that stands between such ends are those of the part alone.
pub marks_append : (ps qs : List (List Leaf)) (ms ns : List Leaf) → AreSegmentsMarked ps ms → AreSegmentsMarked qs ns → AreSegmentsMarked (ps ++ qs) (ms ++ ns)
marks_append [] qs ms ns h g = subst (λ w. AreSegmentsMarked qs (w ++ ns)) (sym h) g
marks_append (p ∷ ps) qs ms ns h g =
    (h.0, h.1 ++ ns, ap (λ w. w ++ ns) h.2 ∙ append_assoc h.0 h.1 ns, h.3, marks_append ps qs h.1 ns h.4 g)

-- ---- the last of adjoining `>`

pub set_next : (leaves : List Leaf) (i : ℕ) → class_at leaves i ≡ GREATER → Adjoins (class_at leaves) (is_tight leaves) i
    → EndsInSet (class_at leaves) (is_tight leaves) i → EndsInSet (class_at leaves) (is_tight leaves) (i + 1)
set_next leaves i h a (set g) = absurd (omega (arith, h, g))
set_next leaves i h a (next _ _ s) = s

pub set_stops : (leaves : List Leaf) (i : ℕ) → (class_at leaves i ≡ GREATER → Adjoins (class_at leaves) (is_tight leaves) i → ⊥)
    → EndsInSet (class_at leaves) (is_tight leaves) i → class_at leaves i ≡ 75
set_stops leaves i n (set g) = g
set_stops leaves i n (next h a _) = absurd (n h a)

-- ---- the end

no_more : (ls : List Leaf) (n : ℕ) → length ls ≤ n → drop n ls ≡ []
no_more [] zero h = refl
no_more [] (suc n) h = refl
no_more (l ∷ ls) zero h = absurd (omega arith)
no_more (l ∷ ls) (suc n) h = no_more ls n (omega arith)

whole : (ls : List Leaf) (n : ℕ) → length ls ≤ n → take n ls ++ [] ≡ ls
whole [] zero h = refl
whole [] (suc n) h = refl
whole (l ∷ ls) zero h = absurd (omega arith)
whole (l ∷ ls) (suc n) h = ap (λ r. l ∷ r) (whole ls n (omega arith))

pub all_done : (old new : List Leaf) (from : ℕ) → length old ≤ from → length new ≤ from
    → ((rest : List Leaf) → AreSegmentsMarked (segments (drop from old)) rest → AreSegmentsMarked (segments old) (take from new ++ rest))
    → AreSegmentsMarked (segments old) new
all_done old new from h g done =
    subst (AreSegmentsMarked (segments old)) (whole new from g) (done [] (subst (λ r. AreSegmentsMarked (segments r) []) (sym (no_more old from h)) refl))

-- ---- what the code does with one segment

pub record Further (old new : List Leaf) (from : ℕ) : Type 0 where
  pub inside : from ≤ length new
  pub long : length new ≡ length old
  pub left : drop from new ≡ drop from old
  pub done : (rest : List Leaf) → AreSegmentsMarked (segments (drop from old)) rest → AreSegmentsMarked (segments old) (take from new ++ rest)

pub further_on : (old new ys : List Leaf) (from size k : ℕ) → k ≡ size → Further old new from → from ≤ length new
    → size ≤ length (take (length new - from) (drop from new))
    → segments (take (length new - from) (drop from new)) ≡ take size (take (length new - from) (drop from new)) ∷ segments (drop size (take (length new - from) (drop from new)))
    → IsSegmentMarked (mid_of from k new) ys → Further old (put_mid from k new ys) (from + size)
further_on old new ys from size k e f inside size_in segment marked =
    let rest : take (length new - from) (drop from new) ≡ drop from new = take_rest new from in
    let few : size ≤ length (drop from new) = subst (λ (r : List Leaf). size ≤ length r) rest size_in in
    let cut : segments (drop from new) ≡ take size (drop from new) ∷ segments (drop size (drop from new)) =
    subst (λ (r : List Leaf). segments r ≡ take size r ∷ segments (drop size r)) rest segment in
    let mid : mid_of from k new ≡ take size (drop from new) = ap (λ n. take n (drop from new)) e in
    let same : length ys ≡ size = marked.long ∙ (ap length mid ∙ length-take-le size (drop from new) few) in
    let marked_here : IsSegmentMarked (take size (drop from new)) ys = subst (λ p. IsSegmentMarked p ys) mid marked in
    let long : length (put_mid from k new ys) ≡ length new = same_len_mid from k new ys marked.long in
    record {
      inside = omega (arith, long, length-drop from new);
      long = long ∙ f.long;
      left =
          drop-put_mid from k new ys (from + size) (omega arith) inside (same ∙ sym e)
          ∙ (sym (drop_twice from size new) ∙ (ap (drop size) f.left ∙ drop_twice from size old));
      done = next_segment old new ys from size k e inside f.left same cut marked_here f.done;
    }

is_set : (r : ℕ) → IsTrue (nat_eq r 75) → r ≡ 75
is_set r h = grind (arith, nat_tests)

set_is : (r : ℕ) → r ≡ 75 → IsTrue (nat_eq r 75)
set_is r h = grind (arith, nat_tests)

pub set_here : (leaves : List Leaf) (i at r : ℕ) → r ≡ class_at leaves at
    → (EndsInSet (class_at leaves) (is_tight leaves) i ↔ EndsInSet (class_at leaves) (is_tight leaves) at)
    → (class_at leaves at ≡ GREATER → Adjoins (class_at leaves) (is_tight leaves) at → ⊥)
    → (IsTrue (nat_eq r 75) ↔ EndsInSet (class_at leaves) (is_tight leaves) i)
set_here leaves i at r e same stop =
    (λ t. same.1 (set (sym e ∙ is_set r t)), λ s. set_is r (e ∙ set_stops leaves at stop (same.0 s)))

-- ---- plain names

pub plain_next : (c : ℕ → ℕ) (i j : ℕ) → c i ≡ ID → i + 1 ≢ j → c (i + 1) ≡ DOT → IsPlain c i j ↔ IsPlain c (i + 2) j
plain_next c i j h n g = (go, λ s. further h g s)
  where
    go : IsPlain c i j → IsPlain c (i + 2) j
    go (lone _ q) = absurd (n (sym q))
    go (further _ _ s) = s

pub plain_name : (c : ℕ → ℕ) (i j : ℕ) → IsPlain c i j → c i ≡ ID
plain_name c i j (lone h _) = h
plain_name c i j (further h _ _) = h

pub plain_stops : (c : ℕ → ℕ) (i j : ℕ) → c (i + 1) ≢ DOT → IsPlain c i j → j ≡ i + 1
plain_stops c i j n (lone _ q) = q
plain_stops c i j n (further _ g _) = absurd (n g)

-- ---- laws

-- Leaves that end with `;`, `{` or `}` are marked alike, whatever follows, and what follows is marked as if nothing stood before.
pub marked_append : (xs ys ms ns : List Leaf) → ends_segment xs ≡ true → AreMarked xs ms → AreMarked ys ns → AreMarked (xs ++ ys) (ms ++ ns)
unfolding AreMarked
marked_append xs ys ms ns e h g = subst (λ ps. AreSegmentsMarked ps (ms ++ ns)) (sym (segments_append xs ys e)) (marks_append (segments xs) (segments ys) ms ns h g)

one_first : {H : Type 0} (k : ℕ) (O : ℕ → Type 0) → ((m n : ℕ) → O m → O n → m ≡ n) → (m n : ℕ)
    → ((H × (m ≡ k)) ⊎ ((H → ⊥) × O m)) → ((H × (n ≡ k)) ⊎ ((H → ⊥) × O n)) → m ≡ n
one_first k O one m n (inl h) (inl g) = h.1 ∙ sym g.1
one_first k O one m n (inl h) (inr g) = absurd (g.0 h.0)
one_first k O one m n (inr h) (inl g) = absurd (h.0 g.0)
one_first k O one m n (inr h) (inr g) = one m n h.1 g.1

-- A leaf has one mark.
pub one_mark : (c : ℕ → ℕ) (tight : ℕ → Bool) (i m n : ℕ) → IsMark c tight i m → IsMark c tight i n → m ≡ n
one_mark c tight i =
    one_first _ _ (one_first _ _ (one_first _ _ (one_first _ _ (one_first _ _
    (one_first _ _ (one_first _ _ (one_first _ _ (one_first _ _ (one_first _ _ (λ m n h g. h ∙ sym g))))))))))

-- ---- how long segments are

-- the first segment of the rest, and the segments behind it
pub rest_segments : (ls : List Leaf) (from size : ℕ) → segments (take (length ls - from) (drop from ls)) ≡ take size (take (length ls - from) (drop from ls)) ∷ segments (drop size (take (length ls - from) (drop from ls)))
    → segments (drop from ls) ≡ take size (drop from ls) ∷ segments (drop (from + size) ls)
rest_segments ls from size e =
    subst (λ (r : List Leaf). segments r ≡ take size r ∷ segments (drop size r)) (take_rest ls from) e
    ∙ ap (λ r. take size (drop from ls) ∷ segments r) (drop_twice from size ls)

pub rest_inside : (ls : List Leaf) (from size : ℕ) → from ≤ length ls → size ≤ length (take (length ls - from) (drop from ls)) → from + size ≤ length ls
rest_inside ls from size h inside =
    let there : size ≤ length (drop from ls) = subst (λ (r : List Leaf). size ≤ length r) (take_rest ls from) inside in
    omega (arith, length-drop from ls)

longest_first : (ls : List Leaf) (size : ℕ) (ps qs : List (List Leaf)) → size ≤ length ls → ps ≡ take size ls ∷ qs → longest_of ps ≡ max size (longest_of qs)
longest_first ls size ps qs inside e = ap (λ x. longest_of x) e ∙ ap (λ n. max n (longest_of qs)) (length-take-le size ls inside)

max_all : (longest size rest all new whole : ℕ) → max longest all ≡ whole → all ≡ max size rest → new ≡ max longest size → max new rest ≡ whole
max_all longest size rest all new whole e f g = omega arith

-- one more segment
pub longest_more : (ls : List Leaf) (from size longest new : ℕ) → size ≤ length (take (length ls - from) (drop from ls))
    → segments (take (length ls - from) (drop from ls)) ≡ take size (take (length ls - from) (drop from ls)) ∷ segments (drop size (take (length ls - from) (drop from ls)))
    → new ≡ max longest size → max longest (longest_of (segments (drop from ls))) ≡ longest_of (segments ls)
    → max new (longest_of (segments (drop (from + size) ls))) ≡ longest_of (segments ls)
longest_more ls from size longest new inside e g same =
    let there : size ≤ length (drop from ls) = subst (λ (r : List Leaf). size ≤ length r) (take_rest ls from) inside in
    max_all longest size (longest_of (segments (drop (from + size) ls))) (longest_of (segments (drop from ls))) new (longest_of (segments ls)) same
    (longest_first (drop from ls) size (segments (drop from ls)) (segments (drop (from + size) ls)) there (rest_segments ls from size e)) g

max_end : (n all : ℕ) → max n 0 ≡ all → n ≡ all
max_end n all e = omega arith

pub longest_end : (ls : List Leaf) (from n : ℕ) → length ls ≤ from → max n (longest_of (segments (drop from ls))) ≡ longest_of (segments ls) → n ≡ longest_of (segments ls)
longest_end ls from n h same =
    max_end n (longest_of (segments ls)) (sym (ap (λ r. max n (longest_of (segments r))) (no_more ls from h)) ∙ same)

pub longest_start : (n : ℕ) → max 0 n ≡ n
longest_start n = omega arith

both_fit : (size rest all n : ℕ) → all ≡ max size rest → all ≤ n → (size ≤ n) × (rest ≤ n)
both_fit size rest all n e h = (omega arith, omega arith)

pub old_segments : (old new : List Leaf) (from size : ℕ) → Further old new from
    → segments (take (length new - from) (drop from new)) ≡ take size (take (length new - from) (drop from new)) ∷ segments (drop size (take (length new - from) (drop from new)))
    → segments (drop from old) ≡ take size (drop from old) ∷ segments (drop (from + size) old)
old_segments old new from size f e =
    subst (λ (r : List Leaf). segments r ≡ take size r ∷ segments (drop size r)) (take_rest new from ∙ f.left) e
    ∙ ap (λ r. take size (drop from old) ∷ segments r) (drop_twice from size old)

-- the first segment of the rest has room, and so have those behind it
pub room_rest : (old new : List Leaf) (from size n : ℕ) → Further old new from → size ≤ length (take (length new - from) (drop from new))
    → segments (take (length new - from) (drop from new)) ≡ take size (take (length new - from) (drop from new)) ∷ segments (drop size (take (length new - from) (drop from new)))
    → longest_of (segments (drop from old)) ≤ n → (size ≤ n) × (longest_of (segments (drop (from + size) old)) ≤ n)
room_rest old new from size n f inside e h =
    let there : size ≤ length (drop from old) = subst (λ (r : List Leaf). size ≤ length r) (take_rest new from ∙ f.left) inside in
    both_fit size (longest_of (segments (drop (from + size) old))) (longest_of (segments (drop from old))) n
    (longest_first (drop from old) size (segments (drop from old)) (segments (drop (from + size) old)) there (old_segments old new from size f e)) h
