-- What is left to do where a new text is made from its end to its front.
use Rattle.std.specs.Prelude.{◌≡◌, ℕ, ◌-◌, ◌<◌, ◌≤◌, Bool, List, [], ◌∷◌, ◌++◌, length, take, drop, slice_index_or}
use Rattle.std.specs.Prelude.{Option, All}
use Rattle.rw_base.specs.declared.tree.Part.{Part}
use Rattle.rw_base.specs.declared.tree.Part.TheVariants as part
use Rattle.rw_base.specs.declared.edit.Item.{Item}
use Rattle.rw_base.specs.declared.edit.Item.TheVariants as item
use Rattle.rw_base.specs.declared.edit.Edit.{Edit}
use Rattle.rw_base.specs.declared.node_edits.Task.{Task}
use Rattle.rw_base.specs.declared.node_edits.Task.TheVariants as task
use Rattle.rw_base.specs.Arena.{Arena, IsTree, leaf_at, parts_of, prefix_of}
use Rattle.rw_base.specs.NewText.{without_front, front_of, join_parts, leaf_new, items_new, node_new}
use Rattle.rw_base.specs.Chosen.{no_edit, leaf_spot, node_spot, AreChosen, KnowsUntouched}

-- a front taken off what lies before the last so many bytes
unfoldable pub cut : List ℕ → ℕ → List ℕ → List ℕ
cut front behind text = without_front front (take (length text - behind) text) ++ drop (length text - behind) text

-- the items of the edit at a position
abbrev pub edit_items : List Edit → ℕ → List Item
edit_items edits k = (slice_index_or edits k no_edit).items

module _ (t : Arena) (edits : List Edit) where
  abbrev pub IsTask : Task → Type 0
  IsTask (task.Parts n count) = (n.0 < length t.nodes) × (count ≤ length (parts_of t.nodes n.0))
  IsTask (task.Items k count) = (k < length edits) × (count ≤ length (edit_items edits k))
  IsTask (task.Prefix i) = i < length t.leaves
  IsTask (task.Cut n behind) = n.0 < length t.nodes

  -- an item that names leaves and nodes of the tree
  abbrev pub IsInTree : Item → Type 0
  IsInTree (item.Text s) = Unit {0}
  IsInTree (item.Node m) = m.0 < length t.nodes
  IsInTree (item.NodeBody m) = m.0 < length t.nodes
  IsInTree (item.Leaf i) = i < length t.leaves
  IsInTree (item.LeafBody i) = i < length t.leaves

  -- the positions of the edits, and where no edit is at or below a node
  pub record IsChosen (at_leaves at_nodes : List (Option ℕ)) (touched : List Bool) : Type 0 where
    pub tree : IsTree t
    pub leaves : AreChosen leaf_spot (length t.leaves) edits at_leaves
    pub nodes : AreChosen node_spot (length t.nodes) edits at_nodes
    pub long : length touched ≡ length t.nodes
    pub untouched : KnowsUntouched t at_leaves at_nodes (length t.nodes) touched

abbrev pub IsPartOf : Arena → Part → Type 0
IsPartOf t (part.Leaf i) = i < length t.leaves
IsPartOf t (part.Node m) = m.0 < length t.nodes

module _ (t : Arena) (bytes : List ℕ) (edits : List Edit) where
  -- the new text of one part
  abbrev pub part_new : Part → List ℕ
  part_new (part.Leaf i) = leaf_new t bytes edits i
  part_new (part.Node m) = node_new t bytes edits m.0

  -- the text after a task
  unfoldable pub after_task : Task → List ℕ → List ℕ
  after_task (task.Parts n count) text =
      join_parts (leaf_new t bytes edits) (node_new t bytes edits) (take count (parts_of t.nodes n.0)) ++ text
  after_task (task.Items k count) text =
      items_new t bytes edits (node_new t bytes edits) (take count (edit_items edits k)) ++ text
  after_task (task.Prefix i) text = prefix_of bytes (leaf_at t.leaves i) ++ text
  after_task (task.Cut n behind) text = cut (front_of t bytes n.0) behind text

  -- the text after all tasks, of which the last is done first
  unfoldable pub after_tasks : List Task → List ℕ → List ℕ
  after_tasks [] text = text
  after_tasks (x ∷ xs) text = after_task x (after_tasks xs text)

  -- what these tasks make of this text is what other tasks made of another
  pub record Follows (tasks : List Task) (was : List ℕ) (more : List Task) (now : List ℕ) : Type 0 where
    pub text : after_tasks more now ≡ after_tasks tasks was
    pub fit : All (IsTask t edits) tasks → All (IsTask t edits) more
