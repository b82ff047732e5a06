-- What each function does with the tasks and the text where edits of a tree are put into it.
use Rattle.std.specs.Prelude.{◌≡◌, ℕ, List, ◌++◌, length}
use Rattle.rw_base.specs.declared.tree.Part.{Part}
use Rattle.rw_base.specs.declared.edit.Item.{Item}
use Rattle.rw_base.specs.declared.edit.Edit.{Edit}
use Rattle.rw_base.specs.declared.node_edits.Task.{Task}
use Rattle.rw_base.specs.declared.node_edits.Work.{Work}
use Rattle.rw_base.specs.declared.node_edits.Chosen.{Chosen}
use Rattle.rw_base.specs.declared.node_edits.Editing.{Editing}
use Rattle.rw_base.specs.Arena.{Arena, leaf_at, prefix_of, end_of}
use Rattle.rw_base.specs.NewText.{without_front, leaf_new, node_new, item_new, AreEdits}
use Rattle.rw_base.specs.Tasks.{part_new, after_task, IsChosen, Follows}

-- the places of these edits
abbrev pub AreTheirPlaces : Arena → List Edit → Chosen → Type 0
AreTheirPlaces t edits c = IsChosen t edits c.leaves.items c.nodes.items c.touched.items

pub record IsEditing (e : Editing) : Type 0 where
  pub size : length e.bytes.now ≡ end_of e.tree.now
  pub fit : AreEdits e.tree.now e.edits.now
  pub chosen : AreTheirPlaces e.tree.now e.edits.now e.chosen

-- ---- new texts

abbrev pub node_text : Editing → ℕ → List ℕ
node_text e n = node_new e.tree.now e.bytes.now e.edits.now n

abbrev pub leaf_text : Editing → ℕ → List ℕ
leaf_text e i = leaf_new e.tree.now e.bytes.now e.edits.now i

-- that of a leaf without its prefix
abbrev pub leaf_body : Editing → ℕ → List ℕ
leaf_body e i = without_front (prefix_of e.bytes.now (leaf_at e.tree.now.leaves i)) (leaf_text e i)

abbrev pub part_text : Editing → Part → List ℕ
part_text e p = part_new e.tree.now e.bytes.now e.edits.now p

abbrev pub item_text_of : Editing → Item → List ℕ
item_text_of e i = item_new e.tree.now e.bytes.now e.edits.now (node_new e.tree.now e.bytes.now e.edits.now) i

-- ---- what is done

-- A text is put before the one that is there, now or by tasks that are put behind the others.
abbrev pub Puts : Editing → List ℕ → Work → Work → Type 0
Puts e text old new =
    Follows e.tree.now e.bytes.now e.edits.now old.tasks.items (text ++ old.text) new.tasks.items new.text

-- A task is done, in the same way.
abbrev pub Does : Editing → Task → Work → Work → Type 0
Does e task old new =
    let text = after_task e.tree.now e.bytes.now e.edits.now task old.text in
    Follows e.tree.now e.bytes.now e.edits.now old.tasks.items text new.tasks.items new.text
