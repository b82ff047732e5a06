-- Heights of rows, and which node lies too deep.
use Rattle.std.proofs.Common.{◌≡◌, ℕ, zero, suc, ◌+◌, ◌-◌, ◌<◌, ◌≤◌, max, List, [], ◌∷◌, ◌++◌, length, get_or, refl, sym, ◌∙◌, ap, subst, Bool, true, false, ◌&&◌, arith, append_assoc, append-nil, length-append}
use Rattle.std.specs.Prelude.{Some, None, slice_get, slice_index, slice_index_or, nat_le, nat_lt, if◌then◌else◌}
use Rattle.std.proofs.lemmas.Bool.Decides.{nat_tests}
use Rattle.std.proofs.lemmas.List.{get_or_at}
use Rattle.rw_base.specs.declared.tree.Part.{Part}
use Rattle.rw_base.specs.declared.tree.Part.TheVariants as part
use Rattle.rw_base.specs.declared.tree.NodeRow.{NodeRow}
use Rattle.rw_base.specs.Arena.{row_at, no_row, first_of, parts_of}
use Rattle.rw_base.specs.Trees.{none, leaf, node, Forest, size, width, trees_in}
use Rattle.rw_base.specs.Rows.{value, row_values}
use Rattle.rw_base.specs.RowLaws.{value_at}
use Rattle.rw_base.specs.Laid.{parts_from, rows_from}
use Rattle.rw_base.specs.LaidLaws.{row_from, length-rows, length-parts, rows_leaf, rows_node}
use Rattle.rw_grammar.specs.Depth.{worth, highest_of, first_above, height_by, all_heights}
use Rattle.rw_grammar.specs.declared.depth.TheConstants.{DEPTH_LIMIT}
use Rattle.rw_grammar.specs.Results.{around, too_deep, IsFirstOf}
use Rattle.rw_grammar.specs.Results as results

-- ---- the heights that the code makes

fold_append : (vs : List ℕ) (xs ys : List NodeRow) → row_values 0 height_by vs (xs ++ ys) ≡ row_values 0 height_by (row_values 0 height_by vs xs) ys
fold_append vs [] ys = refl
fold_append vs (r ∷ xs) ys = fold_append (vs ++ height_by (length vs) r (λ m. slice_index_or vs m 0) ∷ []) xs ys

-- one more row
pub heights_more : (rows : List NodeRow) (r : NodeRow) → all_heights (rows ++ r ∷ []) ≡ all_heights rows ++ height_by (length (all_heights rows)) r (slice_index (all_heights rows)) ∷ []
heights_more rows r = fold_append [] rows (r ∷ [])

-- parts are no higher than the highest node
pub highest_below : (f : ℕ → ℕ) (b : ℕ) (ps : List Part) → ((n : ℕ) → f n ≤ b) → highest_of f ps ≤ b
highest_below f b [] h = omega arith
highest_below f b (part.Leaf i ∷ ps) h = highest_below f b ps h
highest_below f b (part.Node n ∷ ps) h = omega (arith, h n.0, highest_below f b ps h)

pub worth_one : (n : ℕ) → worth n ≤ 1
worth_one n = go (nat_le 2 n)
  where
    go : (b : Bool) → (if b then 1 else 0) ≤ 1
    go true = omega arith
    go false = omega arith

pub few_more : (hs : List ℕ) (h b : ℕ) → ((n : ℕ) → slice_index hs n ≤ b) → h ≤ b + 1 → (n : ℕ) → slice_index (hs ++ h ∷ []) n ≤ b + 1
few_more [] h b few le zero = le
few_more [] h b few le (suc n) = omega arith
few_more (x ∷ hs) h b few le zero = omega (arith, few 0)
few_more (x ∷ hs) h b few le (suc n) = few_more hs h b (λ k. few (suc k)) le n

-- ---- rows of a forest among others

record Among (rows : List NodeRow) (n at : ℕ) (f : Forest) : Type 0 where
  before : List NodeRow
  behind : List NodeRow
  long : length before ≡ n
  all : rows ≡ before ++ (rows_from n at f ++ behind)

among_leaf : (rows : List NodeRow) (n at i : ℕ) (f : Forest) → Among rows n at (leaf i f) → Among rows n (at + 1) f
among_leaf rows n at i f s = record { before = s.before; behind = s.behind; long = s.long; all = s.all ∙ ap (λ rs. s.before ++ (rs ++ s.behind)) (rows_leaf n at i f) }

module _ (rows : List NodeRow) (n at k : ℕ) (kids f : Forest) (s : Among rows n at (node tt k kids f)) where
  split : rows ≡ s.before ++ (rows_from n at kids ++ (row_from n at k kids ∷ (rows_from (n + (size kids + 1)) (at + width kids) f ++ s.behind)))
  split = s.all ∙ ap (λ w. s.before ++ w) (ap (λ rs. rs ++ s.behind) (rows_node n at k kids f) ∙ append_assoc (rows_from n at kids) (row_from n at k kids ∷ rows_from (n + (size kids + 1)) (at + width kids) f) s.behind)

  among_kids : Among rows n at kids
  among_kids = record { before = s.before; behind = row_from n at k kids ∷ (rows_from (n + (size kids + 1)) (at + width kids) f ++ s.behind); long = s.long; all = split }

  front_long : length (s.before ++ rows_from n at kids) ≡ n + size kids
  front_long = omega (arith, length-append s.before (rows_from n at kids), length-rows n at kids, s.long)

  seam : rows ≡ (s.before ++ rows_from n at kids) ++ (row_from n at k kids ∷ (rows_from (n + (size kids + 1)) (at + width kids) f ++ s.behind))
  seam = split ∙ sym (append_assoc s.before (rows_from n at kids) (row_from n at k kids ∷ (rows_from (n + (size kids + 1)) (at + width kids) f ++ s.behind)))

  among_rest : Among rows (n + (size kids + 1)) (at + width kids) f
  among_rest = record {
    before = (s.before ++ rows_from n at kids) ++ row_from n at k kids ∷ [];
    behind = s.behind;
    long = omega (arith, length-append (s.before ++ rows_from n at kids) (row_from n at k kids ∷ []), front_long);
    all = seam ∙ sym (append_assoc (s.before ++ rows_from n at kids) (row_from n at k kids ∷ []) (rows_from (n + (size kids + 1)) (at + width kids) f ++ s.behind));
  }

  row_here : slice_get rows (n + size kids) ≡ Some (row_from n at k kids)
  row_here = ap (λ rs. slice_get rs (n + size kids)) seam ∙ (ap (slice_get ((s.before ++ rows_from n at kids) ++ (row_from n at k kids ∷ (rows_from (n + (size kids + 1)) (at + width kids) f ++ s.behind)))) (sym front_long) ∙ get_seam (s.before ++ rows_from n at kids) (rows_from (n + (size kids + 1)) (at + width kids) f ++ s.behind) (row_from n at k kids))
    where
      get_seam : (xs ys : List NodeRow) (r : NodeRow) → slice_get (xs ++ r ∷ ys) (length xs) ≡ Some r
      get_seam [] ys r = refl
      get_seam (x ∷ xs) ys r = get_seam xs ys r

  row_at_here : (d : NodeRow) → get_or rows (n + size kids) d ≡ row_from n at k kids
  row_at_here d = ap (λ rs. get_or rs (n + size kids) d) seam ∙ get_or_at (s.before ++ rows_from n at kids) (row_from n at k kids) (rows_from (n + (size kids + 1)) (at + width kids) f ++ s.behind) d (n + size kids) front_long

  inside_here : n + size kids < length rows
  inside_here = omega (arith, ap length seam, length-append (s.before ++ rows_from n at kids) (row_from n at k kids ∷ (rows_from (n + (size kids + 1)) (at + width kids) f ++ s.behind)), front_long)

-- ---- heights of forests

abbrev height : Forest → ℕ
height none = 0
height (leaf i f) = height f
height (node u k kids f) = max (worth (trees_in kids) + height kids) (height f)

-- parts read the heights of nodes below alone
reads : (n m : ℕ) (f : Forest) → m + size f ≤ n → (g h : ℕ → ℕ) → ((k : ℕ) → k < n → g k ≡ h k) → highest_of g (parts_from m f) ≡ highest_of h (parts_from m f)
unfolding parts_from
reads n m none le g h q = refl
reads n m (leaf i f) le g h q = reads n m f le g h q
reads n m (node _ k kids f) le g h q =
    ap (λ x. max x (highest_of g (parts_from (m + (size kids + 1)) f))) (q (m + size kids) (omega arith)) ∙ ap (max (h (m + size kids))) (reads n (m + (size kids + 1)) f (omega arith) g h q)

abbrev tall : List NodeRow → ℕ → ℕ
tall rows n = value 0 height_by rows n

-- a node's height, by that of its trees
tall_by : (rows : List NodeRow) (n at k : ℕ) (kids f : Forest) → Among rows n at (node tt k kids f) → highest_of (tall rows) (parts_from n kids) ≡ height kids → tall rows (n + size kids) ≡ worth (trees_in kids) + height kids
tall_by rows n at k kids f s e =
    value_at 0 height_by rows (n + size kids) (row_from n at k kids) (row_here rows n at k kids f s) (λ g h q. ap (λ x. worth (length (parts_from n kids)) + x) (reads (n + size kids) n kids (omega arith) g h q))
    ∙ (ap (λ c. worth c + highest_of (tall rows) (parts_from n kids)) (length-parts n kids) ∙ ap (λ x. worth (trees_in kids) + x) e)

-- the heights of parts are those of their trees
heights_are : (rows : List NodeRow) (n at : ℕ) (f : Forest) → Among rows n at f → highest_of (tall rows) (parts_from n f) ≡ height f
unfolding parts_from
heights_are rows n at none s = refl
heights_are rows n at (leaf i f) s = heights_are rows n (at + 1) f (among_leaf rows n at i f s)
heights_are rows n at (node _ k kids f) s =
    ap (λ x. max x (highest_of (tall rows) (parts_from (n + (size kids + 1)) f))) (tall_by rows n at k kids f s (heights_are rows n at kids (among_kids rows n at k kids f s)))
    ∙ ap (max (worth (trees_in kids) + height kids)) (heights_are rows (n + (size kids + 1)) (at + width kids) f (among_rest rows n at k kids f s))

tall_here : (rows : List NodeRow) (n at k : ℕ) (kids f : Forest) → Among rows n at (node tt k kids f) → tall rows (n + size kids) ≡ worth (trees_in kids) + height kids
tall_here rows n at k kids f s = tall_by rows n at k kids f s (heights_are rows n at kids (among_kids rows n at k kids f s))

-- ---- what is low is nowhere too deep

-- a node's own place, where it is too deep, and those in it
abbrev own_deep : ℕ → ℕ → Forest → List ℕ
own_deep k at kids = results.here k at kids ++ too_deep (around k kids) at kids

le_false : (a b : ℕ) → b < a → nat_le a b ≡ false
le_false a b h = grind (arith, nat_tests, h)

le_true : (a b : ℕ) → a ≤ b → nat_le a b ≡ true
le_true a b h = grind (arith, nat_tests, h)

lt_true : (a b : ℕ) → nat_lt a b ≡ true → a < b
lt_true a b h = grind (arith, nat_tests, h)

lt_false : (a b : ℕ) → nat_lt a b ≡ false → b ≤ a
lt_false a b h = grind (arith, nat_tests, h)

-- of a node
own_flat : (k at allowed : ℕ) (kids : Forest) → k + allowed ≡ DEPTH_LIMIT → worth (trees_in kids) + height kids ≤ allowed →
    ((j a b : ℕ) → j + b ≡ DEPTH_LIMIT → height kids ≤ b → too_deep j a kids ≡ []) → own_deep k at kids ≡ []
own_flat k at allowed kids e le flat = go (nat_le 2 (trees_in kids)) le
  where
    go : (b : Bool) → (if b then 1 else 0) + height kids ≤ allowed → (if b && nat_le DEPTH_LIMIT k then at ∷ [] else []) ++ too_deep (if b then k + 1 else k) at kids ≡ []
    go true h =
        let low : nat_le DEPTH_LIMIT k ≡ false = le_false DEPTH_LIMIT k (omega arith) in
        rw low (flat (k + 1) at (allowed - 1) (omega arith) (omega arith))
    go false h = flat k at allowed e (omega arith)

flat : (f : Forest) (k at allowed : ℕ) → k + allowed ≡ DEPTH_LIMIT → height f ≤ allowed → too_deep k at f ≡ []
flat none k at allowed e le = refl
flat (leaf i f) k at allowed e le = flat f k (at + 1) allowed e le
flat (node u r kids f) k at allowed e le =
    let own = own_flat k at allowed kids e (omega arith) (λ j a b q h. flat kids j a b q h) in
    let rest = flat f k (at + width kids) allowed e (omega arith) in
    sym (append_assoc (results.here k at kids) (too_deep (around k kids) at kids) (too_deep k (at + width kids) f)) ∙ (ap (λ xs. xs ++ too_deep k (at + width kids) f) own ∙ rest)

-- ---- the way down to the first node that is too deep

-- A node below which, or at which, the first such place is.
pub record Spot (rows : List NodeRow) (whole : List ℕ) (n allowed : ℕ) : Type 0 where
  first : ℕ
  at : ℕ
  kind : ℕ
  around_it : ℕ
  kids : Forest
  others : Forest
  among : Among rows first at (node tt kind kids others)
  is : n ≡ first + size kids
  depth : around_it + allowed ≡ DEPTH_LIMIT
  high : allowed < worth (trees_in kids) + height kids
  rest : List ℕ
  ahead : whole ≡ own_deep around_it at kids ++ rest

enter : (rows : List NodeRow) (whole rest : List ℕ) (f : Forest) (n at k allowed m : ℕ) → Among rows n at f → k + allowed ≡ DEPTH_LIMIT → first_above (tall rows) allowed (parts_from n f) ≡ Some m → whole ≡ too_deep k at f ++ rest → (m < n + size f) × Spot rows whole m allowed
unfolding parts_from
enter rows whole rest none n at k allowed m s e h w = absurd (cc)
enter rows whole rest (leaf i f) n at k allowed m s e h w = enter rows whole rest f n (at + 1) k allowed m (among_leaf rows n at i f s) e h w
enter rows whole rest (node _ r kids f) n at k allowed m s e h w =
    go (nat_lt allowed (tall rows (n + size kids))) refl h (λ q v. enter rows whole rest f (n + (size kids + 1)) (at + width kids) k allowed m (among_rest rows n at r kids f s) e q v)
  where
    parted : whole ≡ own_deep k at kids ++ (too_deep k (at + width kids) f ++ rest)
    parted =
        w ∙ (ap (λ xs. xs ++ rest) (sym (append_assoc (results.here k at kids) (too_deep (around k kids) at kids) (too_deep k (at + width kids) f)))
        ∙ append_assoc (own_deep k at kids) (too_deep k (at + width kids) f) rest)

    go : (b : Bool) → nat_lt allowed (tall rows (n + size kids)) ≡ b → (if b then Some (n + size kids) else first_above (tall rows) allowed (parts_from (n + (size kids + 1)) f)) ≡ Some m →
        (first_above (tall rows) allowed (parts_from (n + (size kids + 1)) f) ≡ Some m → whole ≡ too_deep k (at + width kids) f ++ rest → (m < n + (size kids + 1) + size f) × Spot rows whole m allowed) → (m < n + (size kids + 1 + size f)) × Spot rows whole m allowed
    go true t q next =
        let same : m ≡ n + size kids = cc in (
          omega (arith, same),
          record {
            first = n;
            at = at;
            kind = r;
            around_it = k;
            kids = kids;
            others = f;
            among = s;
            is = same;
            depth = e;
            high = subst (λ x. allowed < x) (tall_here rows n at r kids f s) (lt_true allowed (tall rows (n + size kids)) t);
            rest = too_deep k (at + width kids) f ++ rest;
            ahead = parted;
          },
        )
    go false t q next =
        let low : worth (trees_in kids) + height kids ≤ allowed = subst (λ x. x ≤ allowed) (tall_here rows n at r kids f s) (lt_false allowed (tall rows (n + size kids)) t) in
        let r' = next q (parted ∙ ap (λ xs. xs ++ (too_deep k (at + width kids) f ++ rest)) (own_flat k at allowed kids e low (λ j a b p g. flat kids j a b p g))) in
        (omega (arith, r'.0), r'.1)

none_above : (rows : List NodeRow) (f : Forest) (n at allowed : ℕ) → Among rows n at f → first_above (tall rows) allowed (parts_from n f) ≡ None → height f ≤ allowed
unfolding parts_from
none_above rows none n at allowed s h = omega arith
none_above rows (leaf i f) n at allowed s h = none_above rows f n (at + 1) allowed (among_leaf rows n at i f s) h
none_above rows (node _ r kids f) n at allowed s h = go (nat_lt allowed (tall rows (n + size kids))) refl h (λ q. none_above rows f (n + (size kids + 1)) (at + width kids) allowed (among_rest rows n at r kids f s) q)
  where
    go : (b : Bool) → nat_lt allowed (tall rows (n + size kids)) ≡ b → (if b then Some (n + size kids) else first_above (tall rows) allowed (parts_from (n + (size kids + 1)) f)) ≡ None →
        (first_above (tall rows) allowed (parts_from (n + (size kids + 1)) f) ≡ None → height f ≤ allowed) → max (worth (trees_in kids) + height kids) (height f) ≤ allowed
    go true t q next = absurd (cc)
    go false t q next = omega (arith, next q, subst (λ x. x ≤ allowed) (tall_here rows n at r kids f s) (lt_false allowed (tall rows (n + size kids)) t))

same_above : (f g : ℕ → ℕ) (a : ℕ) (ps : List Part) → ((n : ℕ) → f n ≡ g n) → first_above f a ps ≡ first_above g a ps
same_above f g a [] h = refl
same_above f g a (part.Leaf i ∷ ps) h = same_above f g a ps h
same_above f g a (part.Node n ∷ ps) h = ap (λ x. if nat_lt a x then Some n.0 else first_above f a ps) (h n.0) ∙ ap (λ o. if nat_lt a (g n.0) then Some n.0 else o) (same_above f g a ps h)

tall_is : (rows : List NodeRow) (n : ℕ) → slice_index (all_heights rows) n ≡ tall rows n
unfolding value
tall_is rows n = refl

-- ---- what the code asks

module _ (rows : List NodeRow) (hs : List ℕ) (made : hs ≡ all_heights rows) where
  height_is : (n : ℕ) → slice_index hs n ≡ tall rows n
  height_is n = ap (λ (xs : List ℕ). slice_index xs n) made ∙ tall_is rows n

  module _ (k : ℕ) (kids : Forest) (are : rows ≡ rows_from 0 0 (node tt k kids none)) where
    root_among : Among rows 0 0 (node tt k kids none)
    root_among = record { before = []; behind = []; long = refl; all = are ∙ sym (append-nil (rows_from 0 0 (node tt k kids none))) }

    pub last_is : length rows - 1 ≡ size kids
    last_is = omega (arith, ap length are, length-rows 0 0 (node tt k kids none))

    pub root_low : slice_index hs (length rows - 1) ≤ DEPTH_LIMIT → too_deep 0 0 (node tt k kids none) ≡ []
    root_low le =
        let zero_size : 0 + size kids ≡ size kids = omega arith in
        let t = tall_here rows 0 0 k kids none root_among in
        flat (node tt k kids none) 0 0 DEPTH_LIMIT (omega arith) (omega (arith, t, height_is (length rows - 1), ap (tall rows) (last_is ∙ sym zero_size), le))

    pub root_spot : DEPTH_LIMIT < slice_index hs (length rows - 1) → Spot rows (too_deep 0 0 (node tt k kids none)) (length rows - 1) DEPTH_LIMIT
    root_spot lt =
        let zero_size : 0 + size kids ≡ size kids = omega arith in
        record {
          first = 0;
          at = 0;
          kind = k;
          around_it = 0;
          kids = kids;
          others = none;
          among = root_among;
          is = last_is ∙ sym zero_size;
          depth = omega arith;
          high = omega (arith, tall_here rows 0 0 k kids none root_among, height_is (length rows - 1), ap (tall rows) (last_is ∙ sym zero_size), lt);
          rest = [];
          ahead = sym (append_assoc (results.here 0 0 kids) (too_deep (around 0 kids) 0 kids) []);
        }

  module _ (whole : List ℕ) (n allowed : ℕ) (s : Spot rows whole n allowed) where
    pub spot_inside : n < length rows
    spot_inside = omega (arith, s.is, inside_here rows s.first s.at s.kind s.kids s.others s.among)

    row_is : row_at rows n ≡ row_from s.first s.at s.kind s.kids
    unfolding row_at
    row_is = ap (λ j. get_or rows j no_row) s.is ∙ row_at_here rows s.first s.at s.kind s.kids s.others s.among no_row

    module _ (ps : List Part) (got : ps ≡ parts_of rows n) where
      parts_are : ps ≡ parts_from s.first s.kids
      parts_are = got ∙ ap (λ (r : NodeRow). r.parts) row_is

      counts_is : worth (length ps) ≡ worth (trees_in s.kids)
      counts_is = ap (λ (qs : List Part). worth (length qs)) parts_are ∙ ap worth (length-parts s.first s.kids)

      -- the place is here
      pub spot_found : (first : ℕ) → first ≡ first_of rows n → allowed < worth (length ps) → IsFirstOf first whole
      spot_found first first_is lt = go (nat_le 2 (trees_in s.kids)) refl
        where
          go : (b : Bool) → nat_le 2 (trees_in s.kids) ≡ b → IsFirstOf first whole
          go true e =
              let deep : nat_le DEPTH_LIMIT s.around_it ≡ true = le_true DEPTH_LIMIT s.around_it (omega (arith, s.depth, lt, counts_is, worth_one (trees_in s.kids))) in
              let here_is : results.here s.around_it s.at s.kids ≡ s.at ∷ [] = rw (e, deep) refl in
              record {
                others = too_deep (around s.around_it s.kids) s.at s.kids ++ s.rest;
                all = s.ahead ∙ (ap (λ xs. (xs ++ too_deep (around s.around_it s.kids) s.at s.kids) ++ s.rest) here_is ∙ ap (λ i. i ∷ (too_deep (around s.around_it s.kids) s.at s.kids ++ s.rest)) (sym (first_is ∙ ap (λ (r : NodeRow). r.first) row_is)));
              }
          go false e = let light : worth (trees_in s.kids) ≡ 0 = rw e refl in absurd (omega (arith, lt, counts_is, light))

      -- or in a part
      below : (b : Bool) → nat_le 2 (trees_in s.kids) ≡ b → worth (length ps) ≤ allowed → (j : ℕ) × (j + (allowed - worth (length ps)) ≡ DEPTH_LIMIT) × (whole ≡ too_deep j s.at s.kids ++ s.rest) × (allowed - worth (length ps) < height s.kids)
      below true e le =
          let heavy : worth (trees_in s.kids) ≡ 1 = rw e refl in
          let low : nat_le DEPTH_LIMIT s.around_it ≡ false = le_false DEPTH_LIMIT s.around_it (omega (arith, s.depth, le, counts_is, heavy)) in
          let own : own_deep s.around_it s.at s.kids ≡ too_deep (s.around_it + 1) s.at s.kids = rw (e, low) refl in
          (s.around_it + 1, omega (arith, s.depth, le, counts_is, heavy), s.ahead ∙ ap (λ xs. xs ++ s.rest) own, omega (arith, s.high, le, counts_is, heavy))
      below false e le =
          let light : worth (trees_in s.kids) ≡ 0 = rw e refl in
          let own : own_deep s.around_it s.at s.kids ≡ too_deep s.around_it s.at s.kids = rw e refl in
          (s.around_it, omega (arith, s.depth, counts_is, light), s.ahead ∙ ap (λ xs. xs ++ s.rest) own, omega (arith, s.high, counts_is, light))

      looked : (a : ℕ) → first_above (slice_index hs) a ps ≡ first_above (tall rows) a (parts_from s.first s.kids)
      looked a = same_above (slice_index hs) (tall rows) a ps height_is ∙ ap (λ (qs : List Part). first_above (tall rows) a qs) parts_are

      pub spot_next : (m : ℕ) → worth (length ps) ≤ allowed → first_above (slice_index hs) (allowed - worth (length ps)) ps ≡ Some m → (m < n) × Spot rows whole m (allowed - worth (length ps))
      spot_next m le h =
          let b = below (nat_le 2 (trees_in s.kids)) refl le in
          let r = enter rows whole s.rest s.kids s.first s.at b.0 (allowed - worth (length ps)) m (among_kids rows s.first s.at s.kind s.kids s.others s.among) b.1 (sym (looked (allowed - worth (length ps))) ∙ h) b.2 in
          (omega (arith, r.0, s.is), r.1)

      pub spot_ends : worth (length ps) ≤ allowed → first_above (slice_index hs) (allowed - worth (length ps)) ps ≡ None → ⊥
      spot_ends le h =
          let b = below (nat_le 2 (trees_in s.kids)) refl le in
          let low = none_above rows s.kids s.first s.at (allowed - worth (length ps)) (among_kids rows s.first s.at s.kind s.kids s.others s.among) (sym (looked (allowed - worth (length ps))) ∙ h) in
          omega (arith, low, b.3)
