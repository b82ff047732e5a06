-- What a file's tree has of its entries.
use Rattle.std.proofs.Common.{◌≡◌, ℕ, ◌+◌, ◌*◌, ◌<◌, List, length, sym, ◌∙◌, ap}
use Rattle.rw_base.specs.Arena.{Arena, first_of, past_of, end_of, leaf_at, text_of}
use Rattle.properties_tree.specs.Entries.{properties_of, bytes_of}
use Rattle.properties_tree.specs.Decoding.{entry_at}
use Rattle.properties_tree.specs.Layout.{tree_of}
use Rattle.rw_base.specs.declared.tree.NodeRow.{NodeRow}
use Rattle.properties_tree.proofs.Made.{entry_at as entry_at_row}
use Rattle.properties_tree.proofs.Whole.{key_leaf_text, value_leaf_text, end_of-tree_of, leaves-tree_of, nodes-tree_of}
use Rattle.properties_tree.proofs.Marked.{plain_key}
use Rattle.properties_tree.proofs.Alone.{key_said, value_said}

module _ (t : Arena) (bytes : List ℕ) (same : t ≡ tree_of bytes) where
  pub leaves_are : length t.leaves ≡ 4 * length (properties_of bytes).entries + 1
  leaves_are = ap (λ (a : Arena). length a.leaves) same ∙ leaves-tree_of bytes

  pub nodes_are : length t.nodes ≡ length (properties_of bytes).entries + 1
  nodes_are = ap (λ (a : Arena). length a.nodes) same ∙ nodes-tree_of bytes

  pub root_is : t.root ≡ length (properties_of bytes).entries
  unfolding tree_of
  root_is = ap (λ (a : Arena). a.root) same

  pub first_is : (n : ℕ) → n < length (properties_of bytes).entries → first_of t.nodes n ≡ 4 * n
  unfolding tree_of
  first_is n there = ap (λ (a : Arena). first_of a.nodes n) same ∙ ap (λ (r : NodeRow). r.first) (entry_at_row (properties_of bytes).entries n there)

  pub past_is : (n : ℕ) → n < length (properties_of bytes).entries → past_of t.nodes n ≡ 4 * n + 4
  unfolding tree_of
  past_is n there = ap (λ (a : Arena). past_of a.nodes n) same ∙ ap (λ (r : NodeRow). r.past) (entry_at_row (properties_of bytes).entries n there)

  pub bytes_are : length bytes ≡ end_of t
  bytes_are = sym (ap end_of same ∙ end_of-tree_of bytes)

  pub key_is : (n : ℕ) → n < length (properties_of bytes).entries → text_of bytes (leaf_at t.leaves (4 * n)) ≡ bytes_of (entry_at bytes n).key
  key_is n there = ap (λ (a : Arena). text_of bytes (leaf_at a.leaves (4 * n))) same ∙ key_leaf_text bytes n there

  pub value_is : (n : ℕ) → n < length (properties_of bytes).entries → text_of bytes (leaf_at t.leaves (4 * n + 2)) ≡ bytes_of (entry_at bytes n).value
  value_is n there = ap (λ (a : Arena). text_of bytes (leaf_at a.leaves (4 * n + 2))) same ∙ value_leaf_text bytes n there

pub ruleset in_tree = (leaves_are, nodes_are, root_is, first_is, past_is, bytes_are, key_is, value_is)

pub ruleset what_is_said = (key_said, value_said, plain_key)
