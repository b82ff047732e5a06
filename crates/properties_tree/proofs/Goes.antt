-- One line more of a file, and its end.
use Rattle.std.proofs.Common.{◌≡◌, ℕ, zero, suc, ◌+◌, ◌-◌, ◌*◌, ◌≤◌, List, [], ◌∷◌, ◌++◌, length, take, drop, refl, sym, ◌∙◌, ap, subst, arith, length-append, length-drop, append_assoc, add-zero, append-nil, zero-add}
use Rattle.std.proofs.Math.Seq.{take-add}
use Rattle.std.proofs.lemmas.List.{drop-drop, length-take-le, length_push, drop_all}
use Rattle.rw_base.specs.declared.tree.Leaf.{Leaf}
use Rattle.rw_base.specs.declared.tree.NodeRow.{NodeRow}
use Rattle.rw_base.specs.declared.tree.Part.{Part}
use Rattle.rw_base.specs.declared.tree.Part.TheVariants as part
use Rattle.properties_tree.specs.Entries.{Entry, Properties, properties_of, entries_of, group_lines, bytes_of}
use Rattle.rw_base.specs.NaturalLines.{lines_of}
use Rattle.properties_tree.specs.Layout.{leaves_from, leaf_from, entry_leaves, entry_end, entry_row, entry_rows, entry_parts, file_row, tree_of}
use Rattle.properties_tree.specs.Reading.{IsRead, leaves_at, left_of, numbered_parts}
use Rattle.properties_tree.specs.Sizes.{entries_from, with_entry, whole_size, BeginsPassed, BeginsEntry}
use Rattle.properties_tree.specs.declared.reader.Sizes.{Sizes}
use Rattle.rw_base.specs.Arena.{IsTree}
use Rattle.properties_tree.specs.declared.layout.TheConstants.{END, FILE}
use Rattle.properties_tree.proofs.Made.{tree_made}

-- ---- parts

parts_more : (m n : ℕ) → numbered_parts m n ++ part.Node (record { 0 = m + n }) ∷ [] ≡ numbered_parts m (suc n)
parts_more m zero = ap (λ k. part.Node (record { 0 = k }) ∷ []) (add-zero m)
parts_more m (suc n) =
    let next : m + suc n ≡ m + 1 + n = omega arith in
    ap (λ ps. part.Node (record { 0 = m }) ∷ ps) (ap (λ k. numbered_parts (m + 1) n ++ part.Node (record { 0 = k }) ∷ []) next ∙ parts_more (m + 1) n)

pub part_pushed : (n : ℕ) → numbered_parts 0 n ++ part.Node (record { 0 = n }) ∷ [] ≡ numbered_parts 0 (n + 1)
part_pushed n =
    let same : n ≡ 0 + n = omega arith in
    let next : suc n ≡ n + 1 = omega arith in
    ap (λ k. numbered_parts 0 n ++ part.Node (record { 0 = k }) ∷ []) same ∙ (parts_more 0 n ∙ ap (numbered_parts 0) next)

pub parts_are : (m : ℕ) (es : List Entry) → entry_parts m es ≡ numbered_parts m (length es)
parts_are m [] = refl
parts_are m (e ∷ es) = ap (λ ps. part.Node (record { 0 = m }) ∷ ps) (parts_are (m + 1) es)

pub ruleset over_parts = (part_pushed)

-- ---- lines

prefix_length : (bytes : List ℕ) (from at : ℕ) → from ≤ at → at ≤ length bytes → length (take (at - from) (drop from bytes)) ≡ at - from
prefix_length bytes from at ordered inside = length-take-le (at - from) (drop from bytes) (simp length-drop (omega arith))

-- the leaves of an entry whose parts have these sizes
leaves_same : (from at : ℕ) (e : Entry) (z : Sizes) → from + length e.prefix ≡ at + z.blanks → length (bytes_of e.key) ≡ z.key → length (bytes_of e.separator) ≡ z.separator → length (bytes_of e.value) ≡ z.value → length e.ending ≡ z.ending
    → entry_leaves from e ≡ leaves_at from at z
leaves_same from at e z prefix key separator value ending =
    let a : from + length e.prefix + length (bytes_of e.key) ≡ at + z.blanks + z.key = omega arith in
    let a0 : from + length e.prefix + length (bytes_of e.key) + 0 ≡ at + z.blanks + z.key = omega arith in
    let b : from + length e.prefix + length (bytes_of e.key) + 0 + length (bytes_of e.separator) ≡ at + z.blanks + z.key + z.separator = omega arith in
    let b0 : from + length e.prefix + length (bytes_of e.key) + 0 + length (bytes_of e.separator) + 0 ≡ at + z.blanks + z.key + z.separator = omega arith in
    let v : from + length e.prefix + length (bytes_of e.key) + 0 + length (bytes_of e.separator) + 0 + length (bytes_of e.value) ≡ at + z.blanks + z.key + z.separator + z.value = omega arith in
    let v0 : from + length e.prefix + length (bytes_of e.key) + 0 + length (bytes_of e.separator) + 0 + length (bytes_of e.value) + 0 ≡ at + z.blanks + z.key + z.separator + z.value = omega arith in
    let t : from + length e.prefix + length (bytes_of e.key) + 0 + length (bytes_of e.separator) + 0 + length (bytes_of e.value) + 0 + length e.ending ≡ at + z.blanks + z.key + z.separator + z.value + z.ending = omega arith in
    cc

module _ (bytes : List ℕ) (leaves : List Leaf) (nodes : List NodeRow) (from at : ℕ) where
  pub passed_read : (size : ℕ) → BeginsPassed (drop at bytes) size → IsRead bytes leaves nodes from at → IsRead bytes leaves nodes from (at + size)
  passed_read size line read =
      let ordered = read.ordered in
      let reaches : from + (at - from) ≡ at = omega arith in
      let further : at + size - from ≡ at - from + size = omega arith in
      let prefix : take (at + size - from) (drop from bytes) ≡ take (at - from) (drop from bytes) ++ take size (drop at bytes) =
      ap (λ k. take k (drop from bytes)) further
      ∙ (take-add (at - from) size (drop from bytes)
      ∙ ap (λ t. take (at - from) (drop from bytes) ++ take size t) (drop-drop (at - from) from bytes ∙ ap (λ k. drop k bytes) reaches)) in
      let same : left_of bytes from at ≡ left_of bytes from (at + size) =
      line.entries (take (at - from) (drop from bytes))
      ∙ (ap (λ p. entries_from p (drop size (drop at bytes))) (sym prefix)
      ∙ ap (entries_from (take (at + size - from) (drop from bytes))) (drop-drop size at bytes)) in
      record {
        leaves = read.leaves ∙ ap (λ (p : Properties). leaves ++ leaves_from from p.entries p.rest) same;
        nodes = read.nodes ∙ ap (λ (p : Properties). nodes ++ entry_rows (length nodes) p.entries) same;
        count = read.count ∙ ap (λ (p : Properties). length nodes + length p.entries) same;
        four = read.four;
        few = let few = read.few in omega arith;
        ordered = omega arith;
        inside = let inside = read.inside in let more = line.inside in let left = length-drop at bytes in omega arith;
      }

  pub entry_read : (z : Sizes) → BeginsEntry (drop at bytes) z → IsRead bytes leaves nodes from at
      → IsRead bytes (leaves ++ leaves_at from at z) (nodes ++ entry_row (length leaves) ∷ []) (at + whole_size z) (at + whole_size z)
  entry_read z line read =
      let ordered = read.ordered in
      let inside = read.inside in
      let w = whole_size z in
      let fits : w ≤ length (drop at bytes) = line.inside in
      let left : length (drop at bytes) ≡ length bytes - at = length-drop at bytes in
      let prefix : List ℕ = take (at - from) (drop from bytes) ++ take z.blanks (drop at bytes) in
      let e : Entry = record { prefix = prefix; key = line.key; separator = line.separator; value = line.value; ending = line.ending } in
      let next : Properties = entries_from [] (drop w (drop at bytes)) in
      let before : left_of bytes from at ≡ with_entry e next = line.entries (take (at - from) (drop from bytes)) in
      let none : at + w - (at + w) ≡ 0 = omega arith in
      let after : next ≡ left_of bytes (at + w) (at + w) =
      ap (entries_from []) (drop-drop w at bytes) ∙ sym (ap (λ k. entries_from (take k (drop (at + w) bytes)) (drop (at + w) bytes)) none) in
      let long : from + length prefix ≡ at + z.blanks =
      let one = prefix_length bytes from at ordered inside in
      let two : length (take z.blanks (drop at bytes)) ≡ z.blanks = length-take-le z.blanks (drop at bytes) (omega arith) in
      omega (arith, length-append (take (at - from) (drop from bytes)) (take z.blanks (drop at bytes))) in
      let here : entry_leaves from e ≡ leaves_at from at z = leaves_same from at e z long line.key_size line.separator_size line.value_size line.ending_size in
      let past : entry_end from e ≡ at + w = let k = line.key_size in let s = line.separator_size in let v = line.value_size in let t = line.ending_size in omega arith in
      let row : 4 * length nodes ≡ length leaves = sym read.four in
      let more : length nodes + 1 ≡ length (nodes ++ entry_row (length leaves) ∷ []) = sym (length_push nodes (entry_row (length leaves))) in
      let some = line.some in
      record {
        leaves =
            read.leaves
            ∙ (ap (λ (p : Properties). leaves ++ leaves_from from p.entries p.rest) before
            ∙ (ap (λ ls. leaves ++ (ls ++ leaves_from (entry_end from e) next.entries next.rest)) here
            ∙ (ap (λ k. leaves ++ (leaves_at from at z ++ leaves_from k next.entries next.rest)) past
            ∙ (sym (append_assoc leaves (leaves_at from at z) (leaves_from (at + w) next.entries next.rest))
            ∙ ap (λ (p : Properties). (leaves ++ leaves_at from at z) ++ leaves_from (at + w) p.entries p.rest) after))));
        nodes =
            read.nodes
            ∙ (ap (λ (p : Properties). nodes ++ entry_rows (length nodes) p.entries) before
            ∙ (ap (λ k. nodes ++ entry_row k ∷ entry_rows (length nodes + 1) next.entries) row
            ∙ (ap (λ k. nodes ++ entry_row (length leaves) ∷ entry_rows k next.entries) more
            ∙ (sym (append_assoc nodes (entry_row (length leaves) ∷ []) (entry_rows (length (nodes ++ entry_row (length leaves) ∷ [])) next.entries))
            ∙ ap (λ (p : Properties). (nodes ++ entry_row (length leaves) ∷ []) ++ entry_rows (length (nodes ++ entry_row (length leaves) ∷ [])) p.entries) after))));
        count =
            let all = read.count ∙ ap (λ (p : Properties). length nodes + length p.entries) before in
            let same = ap (λ (p : Properties). length p.entries) after in
            omega arith;
        four = let four = length-append leaves (leaves_at from at z) in omega arith;
        few = let few = read.few in omega arith;
        ordered = omega arith;
        inside = omega arith;
      }

-- ---- the start and the end

first_read : (bytes : List ℕ) → IsRead bytes [] [] 0 0
unfolding entries_from properties_of
first_read bytes = record {
  leaves = refl;
  nodes = refl;
  count = sym (zero-add _);
  four = refl;
  few = omega arith;
  ordered = omega arith;
  inside = omega arith;
}

pub none_read : (bytes : List ℕ) (leaves : List Leaf) (nodes : List NodeRow) → leaves ≡ [] → nodes ≡ [] → IsRead bytes leaves nodes 0 0
none_read bytes leaves nodes no_leaf no_node =
    subst (λ (ns : List NodeRow). IsRead bytes leaves ns 0 0) (sym no_node) (subst (λ (ls : List Leaf). IsRead bytes ls [] 0 0) (sym no_leaf) (first_read bytes))

pub entries-none : (before : List ℕ) → entries_from before [] ≡ record { entries = []; rest = before }
unfolding entries_from entries_of group_lines lines_of
entries-none before = ap (λ (r : List ℕ). record { entries = []; rest = r }) (append-nil before)

-- the leaf of the end, and the node of a file
abbrev pub end_leaf : ℕ → ℕ → Leaf
end_leaf from at = record { prefix_from = from; from = at; to = at; class = END }

abbrev pub file_node : ℕ → NodeRow
file_node count = record { kind = FILE; first = 0; past = 4 * count + 1; parts = numbered_parts 0 count ++ part.Leaf (4 * count) ∷ [] }

module _ (bytes : List ℕ) (leaves : List Leaf) (nodes : List NodeRow) (from : ℕ) (read : IsRead bytes leaves nodes from (length bytes)) where
  abbrev es : List Entry
  es = (properties_of bytes).entries

  nothing : left_of bytes from (length bytes) ≡ record { entries = []; rest = take (length bytes - from) (drop from bytes) }
  nothing = ap (entries_from (take (length bytes - from) (drop from bytes))) (drop_all (length bytes) bytes (omega arith)) ∙ entries-none (take (length bytes - from) (drop from bytes))

  all_counted : length es ≡ length nodes
  all_counted = read.count ∙ (ap (λ (p : Properties). length nodes + length p.entries) nothing ∙ add-zero (length nodes))

  all_leaves : leaves_from 0 es (properties_of bytes).rest ≡ leaves ++ end_leaf from (length bytes) ∷ []
  all_leaves =
      let ordered = read.ordered in
      let long = prefix_length bytes from (length bytes) ordered (omega arith) in
      let to : from + length (take (length bytes - from) (drop from bytes)) ≡ length bytes = omega arith in
      let to0 : from + length (take (length bytes - from) (drop from bytes)) + 0 ≡ length bytes = omega arith in
      let same : leaf_from from (take (length bytes - from) (drop from bytes)) [] END ≡ end_leaf from (length bytes) = cc in
      read.leaves ∙ (ap (λ (p : Properties). leaves ++ leaves_from from p.entries p.rest) nothing ∙ ap (λ (l : Leaf). leaves ++ l ∷ []) same)

  all_nodes : entry_rows 0 es ++ file_row es ∷ [] ≡ nodes ++ file_node (length nodes) ∷ []
  all_nodes =
      let rows : entry_rows 0 es ≡ nodes = read.nodes ∙ (ap (λ (p : Properties). nodes ++ entry_rows (length nodes) p.entries) nothing ∙ append-nil nodes) in
      let file : file_row es ≡ file_node (length es) = ap (λ (ps : List Part). record { kind = FILE; first = 0; past = 4 * length es + 1; parts = ps ++ part.Leaf (4 * length es) ∷ [] }) (parts_are 0 es) in
      ap (λ (ns : List NodeRow). ns ++ file_row es ∷ []) rows ∙ ap (λ (r : NodeRow). nodes ++ r ∷ []) (file ∙ ap file_node all_counted)

  pub whole_tree : tree_of bytes ≡ record { leaves = leaves ++ end_leaf from (length bytes) ∷ []; nodes = nodes ++ file_node (length nodes) ∷ []; root = length nodes }
  unfolding tree_of
  whole_tree =
      ap (λ (ls : List Leaf). record { leaves = ls; nodes = entry_rows 0 es ++ file_row es ∷ []; root = length es }) all_leaves
      ∙ (ap (λ (ns : List NodeRow). record { leaves = leaves ++ end_leaf from (length bytes) ∷ []; nodes = ns; root = length es }) all_nodes
      ∙ ap (λ (n : ℕ). record { leaves = leaves ++ end_leaf from (length bytes) ∷ []; nodes = nodes ++ file_node (length nodes) ∷ []; root = n }) all_counted)

  module _ (ls : List Leaf) (ns : List NodeRow) (ps : List Part) (n : ℕ) (ls_are : ls ≡ leaves ++ end_leaf from (length bytes) ∷ [])
      (ns_are : ns ≡ nodes ++ record { kind = FILE; first = 0; past = 4 * n + 1; parts = ps } ∷ []) (ps_are : ps ≡ numbered_parts 0 n ++ part.Leaf (4 * n) ∷ []) (n_is : n ≡ length nodes) where
    pub tree_is : record { leaves = ls; nodes = ns; root = n } ≡ tree_of bytes
    tree_is = rw (ls_are, ns_are, ps_are, n_is) (sym whole_tree)

    pub is_tree : length bytes ≤ 2097152 → IsTree (record { leaves = ls; nodes = ns; root = n })
    unfolding tree_of
    is_tree size =
        let few = read.few in
        let count = all_counted in
        subst IsTree (sym tree_is) (tree_made es (properties_of bytes).rest (omega arith))

pub ruleset over_lines = (passed_read, entry_read)
