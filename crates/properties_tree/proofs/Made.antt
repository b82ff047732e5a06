-- The leaves and nodes of a properties file are a tree.
use Rattle.std.proofs.Common.{◌≡◌, ℕ, zero, suc, ◌+◌, ◌-◌, ◌*◌, ◌<◌, ◌≤◌, ◌^◌, List, [], ◌∷◌, ◌++◌, length, get_or, refl, sym, ◌∙◌, ap, subst, inl, inr, arith, length-append, add-zero}
use Rattle.std.specs.Prelude.{if◌then◌else◌, ◌==◌}
use Rattle.std.proofs.lemmas.List.{get_or_at}
use Rattle.std.proofs.lemmas.Bool.{cases_lt, cases_eq, eq-eqb, ne_eqb}
use Rattle.rw_base.specs.declared.tree.Part.TheVariants as part
use Rattle.rw_base.specs.declared.tree.NodeRow.{NodeRow}
use Rattle.rw_base.specs.Arena.{IsTree, Tile, AreBelow, Runs, times, times_in, end_from, leaf_at, row_at, no_leaf, no_row}
use Rattle.properties_tree.specs.Entries.{Entry, bytes_of}
use Rattle.properties_tree.specs.Layout.{leaves_from, entry_end, entry_row, entry_rows, entry_parts, file_row}

-- ---- leaves

pub length-leaves_from : (at : ℕ) (es : List Entry) (rest : List ℕ) → length (leaves_from at es rest) ≡ 4 * length es + 1
length-leaves_from at [] rest = omega arith
length-leaves_from at (e ∷ es) rest = let more = length-leaves_from (entry_end at e) es rest in omega arith

-- where the last leaf of an entry ends
unfoldable pub ending_to : ℕ → Entry → ℕ
ending_to at e = at + length e.prefix + length (bytes_of e.key) + 0 + length (bytes_of e.separator) + 0 + length (bytes_of e.value) + 0 + length e.ending

pub ending_to-is : (at : ℕ) (e : Entry) → entry_end at e ≡ ending_to at e
unfolding ending_to
ending_to-is at e = omega arith

tiles : (at : ℕ) (es : List Entry) (rest : List ℕ) → Tile at (leaves_from at es rest)
unfolding ending_to
tiles at [] rest = (refl, (omega arith), (omega arith), tt)
tiles at (e ∷ es) rest = (
  refl,
  (omega arith),
  (omega arith),
  (
    refl,
    (omega arith),
    (omega arith),
    (
      refl,
      (omega arith),
      (omega arith),
      (
        refl,
        (omega arith),
        (omega arith),
        subst (λ to. Tile to (leaves_from (entry_end at e) es rest)) (ending_to-is at e) (tiles (entry_end at e) es rest),
      ),
    ),
  ),
)

pub four_more : (n : ℕ) → 4 * suc n ≡ suc (suc (suc (suc (4 * n))))
four_more n = omega arith

last_from : (at : ℕ) (es : List Entry) (rest : List ℕ) → (get_or (leaves_from at es rest) (4 * length es) no_leaf).from ≡ end_from at (leaves_from at es rest)
unfolding ending_to
last_from at [] rest = sym (add-zero _)
last_from at (e ∷ es) rest =
    let next = leaves_from (entry_end at e) es rest in
    ap (λ k. (get_or (leaves_from at (e ∷ es) rest) k no_leaf).from) (four_more (length es))
    ∙ (last_from (entry_end at e) es rest ∙ ap (λ to. end_from to next) (ending_to-is at e))

-- ---- rows

pub length-entry_rows : (m : ℕ) (es : List Entry) → length (entry_rows m es) ≡ length es
length-entry_rows m [] = refl
length-entry_rows m (e ∷ es) = ap suc (length-entry_rows (m + 1) es)

pub entry_row_at : (m : ℕ) (es : List Entry) (ys : List NodeRow) (k : ℕ) → k < length es → get_or (entry_rows m es ++ ys) k no_row ≡ entry_row (4 * (m + k))
entry_row_at m [] ys k h = absurd (omega arith)
entry_row_at m (e ∷ es) ys zero h = ap (λ n. entry_row (4 * n)) (sym (add-zero m))
entry_row_at m (e ∷ es) ys (suc k) h = let same : m + 1 + k ≡ m + suc k = omega arith in entry_row_at (m + 1) es ys k (omega arith) ∙ ap (λ n. entry_row (4 * n)) same

abbrev pub nodes_of : List Entry → List NodeRow
nodes_of es = entry_rows 0 es ++ file_row es ∷ []

pub length-nodes : (es : List Entry) → length (entry_rows 0 es ++ file_row es ∷ []) ≡ length es + 1
length-nodes es = let rows = length-entry_rows 0 es in omega (arith, length-append (entry_rows 0 es) (file_row es ∷ []))

module _ (es : List Entry) where
  pub entry_at : (k : ℕ) → k < length es → row_at (nodes_of es) k ≡ entry_row (4 * k)
  unfolding row_at
  entry_at k h = let same : 0 + k ≡ k = omega arith in entry_row_at 0 es (file_row es ∷ []) k h ∙ ap (λ n. entry_row (4 * n)) same

  file_at : row_at (nodes_of es) (length es) ≡ file_row es
  unfolding row_at
  file_at = get_or_at (entry_rows 0 es) (file_row es) [] no_row (length es) (length-entry_rows 0 es)

  -- what holds of the row of each entry and of the file's holds of each row
  each_row : (P : ℕ → NodeRow → Type 0) → ((k : ℕ) → k < length es → P k (entry_row (4 * k))) → P (length es) (file_row es) → (n : ℕ) → n < length (nodes_of es) → P n (row_at (nodes_of es) n)
  each_row P entry file n h =
      elim (cases_lt n (length es)) [
        | inl lt ↦ subst (P n) (sym (entry_at n lt)) (entry n lt)
        | inr le ↦ let here : length es ≡ n = omega (arith, length-nodes es) in
            subst (λ k. P k (row_at (nodes_of es) k)) here (subst (P (length es)) (sym file_at) file)
      ]

  are_below : (m : ℕ) (fs : List Entry) → m + length fs ≤ length es → AreBelow (4 * length es + 1) (length es) (entry_parts m fs ++ part.Leaf (4 * length es) ∷ [])
  are_below m [] h = (omega arith, tt)
  are_below m (f ∷ fs) h = (omega arith, are_below (m + 1) fs (omega arith))

  runs : (m : ℕ) (fs : List Entry) → m + length fs ≡ length es → Runs (nodes_of es) (entry_parts m fs ++ part.Leaf (4 * length es) ∷ []) (4 * m) (4 * length es + 1)
  runs m [] h = (omega arith, omega arith)
  runs m (f ∷ fs) h =
      let row = entry_at m (omega arith) in
      let next : 4 * (m + 1) ≡ 4 * m + 4 = omega arith in (
        ap (λ (r : NodeRow). r.first) row,
        subst (λ k. Runs (nodes_of es) (entry_parts (m + 1) fs ++ part.Leaf (4 * length es) ∷ []) k (4 * length es + 1)) (next ∙ sym (ap (λ (r : NodeRow). r.past) row)) (runs (m + 1) fs (omega arith)),
      )

  times_rows : (k m : ℕ) (fs : List Entry) (ys : List NodeRow) → times k (entry_rows m fs ++ ys) ≡ times k ys
  times_rows k m [] ys = refl
  times_rows k m (f ∷ fs) ys = let more = times_rows k (m + 1) fs ys in omega arith

  times_before : (k m i : ℕ) (fs : List Entry) → k < m → times_in k (entry_parts m fs ++ part.Leaf i ∷ []) ≡ 0
  times_before k m i [] h = refl
  times_before k m i (f ∷ fs) h = rw (ne_eqb m k (omega arith)) (let more = times_before k (m + 1) i fs (omega arith) in omega arith)

  times_file : (k m i : ℕ) (fs : List Entry) → m ≤ k → k ≤ m + length fs → times_in k (entry_parts m fs ++ part.Leaf i ∷ []) ≡ (if k == m + length fs then 0 else 1)
  times_file k m i [] le past = rw (eq-eqb k (m + 0) (omega arith)) refl
  times_file k m i (f ∷ fs) le past =
      elim (cases_eq m k) [
        | inl here ↦ rw (eq-eqb m k here, times_before k (m + 1) i fs (omega arith), ne_eqb k (m + suc (length fs)) (omega arith)) refl
        | inr other ↦
            let same : m + 1 + length fs ≡ m + suc (length fs) = omega arith in
            let more = times_file k (m + 1) i fs (omega arith) (omega arith) ∙ ap (λ n. if k == n then 0 else 1) same in
            rw (ne_eqb m k other) (omega arith)
      ]

-- Fewer than 2^32 leaves of entries and their nodes are a tree.
pub tree_made : (es : List Entry) (rest : List ℕ) → 4 * length es + 1 < 2 ^ 32
    → IsTree (record { leaves = leaves_from 0 es rest; nodes = entry_rows 0 es ++ file_row es ∷ []; root = length es })
unfolding leaf_at
tree_made es rest few =
    let leaves = length-leaves_from 0 es rest in
    let rows = length-nodes es in
    record {
      some_leaf = omega arith;
      leaf_count = omega arith;
      node_count = omega arith;
      root = omega arith;
      tile = tiles 0 es rest;
      empty_end = let last : length (leaves_from 0 es rest) - 1 ≡ 4 * length es = omega arith in ap (λ k. (get_or (leaves_from 0 es rest) k no_leaf).from) last ∙ last_from 0 es rest;
      below = each_row es (λ n r. AreBelow (length (leaves_from 0 es rest)) n r.parts)
          (λ k h. (omega arith, (omega arith, (omega arith, (omega arith, tt)))))
          (subst (λ n. AreBelow n (length es) (file_row es).parts) (sym leaves) (are_below es 0 es (omega arith)));
      ordered = each_row es (λ n r. r.first ≤ r.past) (λ k h. omega arith) (omega arith);
      inside = each_row es (λ n r. r.past ≤ length (leaves_from 0 es rest)) (λ k h. omega arith) (omega arith);
      spans = each_row es (λ n r. Runs (nodes_of es) r.parts r.first r.past)
          (λ k h. (refl, (refl, (omega arith, (omega arith, omega arith)))))
          (runs es 0 es (omega arith));
      once = λ n h. times_rows es n 0 es (file_row es ∷ []) ∙ (add-zero _ ∙ (times_file es n 0 (4 * length es) es (omega arith) (omega arith) ∙ ap (λ k. if n == k then 0 else 1) (omega arith)));
      whole = (ap (λ (r : NodeRow). r.first) (file_at es), ap (λ (r : NodeRow). r.past) (file_at es) ∙ sym leaves);
    }
