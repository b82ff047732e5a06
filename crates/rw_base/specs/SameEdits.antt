-- The new text sees edits through what they put at each spot alone.
use Rattle.std.proofs.Common.{◌≡◌, ℕ, List, [], ◌∷◌, ◌++◌, refl, ap, ◌∙◌}
use Rattle.std.specs.Prelude.{Option, Some, None, unwrap_or, option_map}
use Rattle.rw_base.specs.declared.edit.Edit.{Edit}
use Rattle.rw_base.specs.declared.edit.Item.{Item}
use Rattle.rw_base.specs.declared.edit.Item.TheVariants as item
use Rattle.rw_base.specs.declared.edit.Spot.TheVariants as spot
use Rattle.rw_base.specs.declared.tree.NodeRow.{NodeRow}
use Rattle.rw_base.specs.Arena.{Arena, leaf_at, prefix_of, text_of}
use Rattle.rw_base.specs.Rows.{value}
use Rattle.rw_base.specs.NewText.{AreSameEdits, node_edit, leaf_edit, items_text, leaf_new, item_new}
use Rattle.rw_base.specs.NewText.{items_new, row_new, node_new, new_text, without_front, join_parts}
use Rattle.rw_base.specs.declared.tree.Part.{Part}

module _ (t : Arena) (bytes : List ℕ) (es fs : List Edit) (same : AreSameEdits es fs) where
  leaf_same : (i : ℕ) → leaf_new t bytes es i ≡ leaf_new t bytes fs i
  unfolding leaf_new leaf_edit
  leaf_same i = ap (λ o. prefix_of bytes (leaf_at t.leaves i)
      ++ unwrap_or (option_map items_text o) (text_of bytes (leaf_at t.leaves i))) (same (spot.Leaf i))

  item_same : (f : ℕ → List ℕ) (x : Item) → item_new t bytes es f x ≡ item_new t bytes fs f x
  item_same f (item.Text s) = refl
  item_same f (item.Node m) = refl
  item_same f (item.NodeBody m) = refl
  item_same f (item.Leaf i) = leaf_same i
  item_same f (item.LeafBody i) = ap (without_front (prefix_of bytes (leaf_at t.leaves i))) (leaf_same i)

  items_same : (f : ℕ → List ℕ) (xs : List Item) → items_new t bytes es f xs ≡ items_new t bytes fs f xs
  items_same f [] = refl
  items_same f (x ∷ xs) = ap (λ a. a ++ items_new t bytes es f xs) (item_same f x)
      ∙ ap (λ b. item_new t bytes fs f x ++ b) (items_same f xs)

  row_same : (f : ℕ → List ℕ) (o : Option (List Item)) (parts : List Part)
      → row_new t bytes es f o parts ≡ row_new t bytes fs f o parts
  row_same f None parts = λ i. join_parts (λ k. leaf_same k i) f parts
  row_same f (Some xs) parts = items_same f xs

  each_same : (k : ℕ) (r : NodeRow) (f : ℕ → List ℕ)
      → row_new t bytes es f (node_edit es k) r.parts ≡ row_new t bytes fs f (node_edit fs k) r.parts
  each_same k r f = ap (λ o. row_new t bytes es f o r.parts) (same (spot.Node (record { 0 = k })))
      ∙ row_same f (node_edit fs k) r.parts

  pub same_text : new_text t bytes es ≡ new_text t bytes fs
  unfolding new_text node_new
  same_text = λ i. value [] (λ k r f. each_same k r f i) t.nodes t.root
