-- Each step where a new text is made from its end to its front.
use Rattle.std.proofs.Common.{◌≡◌, ℕ, zero, suc, ◌+◌, ◌-◌, ◌<◌, ◌≤◌, Bool, true, false, List, [], ◌∷◌, ◌++◌, length, take, drop, get_or, refl, sym, ap, ◌∙◌, append_assoc, append-nil, length-append, arith}
use Rattle.std.specs.Prelude.{Option, Some, None, unwrap_or, All, if◌then◌else◌}
use Rattle.std.specs.Str.{bytes_eq}
use Rattle.std.proofs.lemmas.Slice.Eq.{bytes_eq-Decides}
use Rattle.std.proofs.lemmas.List.{take_more, take_at, drop_at, take_all, drop-append-le, take-append-drop, length-take, get_or_default}
use Rattle.std.proofs.lemmas.List.Elements.{All-head, All-tail, All-push, All-get_or}
use Rattle.rw_base.specs.declared.tree.Part.{Part}
use Rattle.rw_base.specs.declared.tree.Part.TheVariants as part
use Rattle.rw_base.specs.declared.tree.NodeId.{NodeId}
use Rattle.rw_base.specs.declared.edit.Item.{Item}
use Rattle.rw_base.specs.declared.edit.Item.TheVariants as item
use Rattle.rw_base.specs.declared.edit.Spot.{Spot}
use Rattle.rw_base.specs.declared.edit.Spot.TheVariants as spot
use Rattle.rw_base.specs.declared.edit.Edit.{Edit}
use Rattle.rw_base.specs.declared.node_edits.Task.{Task}
use Rattle.rw_base.specs.declared.node_edits.Task.TheVariants as task
use Rattle.rw_base.specs.Arena.{Arena, AreBelow, leaf_at, parts_of, prefix_of, text_of}
use Rattle.rw_base.specs.NewText.{leaf_edit, items_text, without_front, join_parts, leaf_new, item_new, items_new, node_new, IsSpot, IsItemOf, AreEdits}
use Rattle.rw_base.specs.Gaps.{range_of}
use Rattle.rw_base.specs.Arena.{PartsHold}
use Rattle.rw_base.specs.Joins.{joined_append}
use Rattle.rw_base.specs.Starts.{leaf_range}
use Rattle.rw_base.specs.EditLaws.{items_fit, new_parts, new_items, same_leaf, same_node}
use Rattle.rw_base.specs.PartLaws.{by_nodes}
use Rattle.rw_base.specs.Chosen.{no_edit, leaf_spot, node_spot, items_of, AreUntouched}
use Rattle.rw_base.specs.Tasks.{cut, edit_items, part_new, after_task, after_tasks, IsTask, IsInTree, Follows, IsChosen}
use Rattle.rw_base.proofs.NewTextLemmas.{chosen_some, chosen_none, leaf_some, leaf_none}

-- ---- fronts

-- whether a text begins with a front
abbrev pub starts : List ℕ → List ℕ → Bool
starts front text = bytes_eq front (take (length front) text)

fits_in : (front text : List ℕ) → starts front text ≡ true → length front ≤ length text
fits_in front text e = omega (arith, ap length ((bytes_eq-Decides front (take (length front) text)).0 e), length-take (length front) text)

-- a front is taken off what lies before the rest
pub cut_at : (front new rest : List ℕ) → cut front (length rest) (new ++ rest) ≡ without_front front new ++ rest
unfolding cut
cut_at front new rest =
    let size : length (new ++ rest) - length rest ≡ length new = omega (arith, length-append new rest) in
    ap (λ n. without_front front (take n (new ++ rest)) ++ drop n (new ++ rest)) size
    ∙ (ap (λ xs. without_front front xs ++ drop (length new) (new ++ rest)) (take_at new rest (length new) refl) ∙ ap (λ xs. without_front front new ++ xs) (drop_at new rest (length new) refl))

pub cut_taken : (front text : List ℕ) (behind : ℕ) → starts front (take (length text - behind) text) ≡ true → drop (length front) text ≡ cut front behind text
unfolding cut without_front
cut_taken front text behind e =
    let size = length text - behind in
    let long = fits_in front (take size text) e in
    let inside : size ≤ length text = omega arith in
    sym (ap (λ b. (if b then drop (length front) (take size text) else take size text) ++ drop size text) e
    ∙ (sym (drop-append-le (length front) (take size text) (drop size text) long) ∙ ap (drop (length front)) (take-append-drop size text)))

pub cut_kept : (front text : List ℕ) (behind : ℕ) → starts front (take (length text - behind) text) ≡ false → text ≡ cut front behind text
unfolding cut without_front
cut_kept front text behind e =
    let size = length text - behind in
    sym (ap (λ b. (if b then drop (length front) (take size text) else take size text) ++ drop size text) e ∙ take-append-drop size text)

-- a text that begins with a front has it taken off
pub front_off : (front rest : List ℕ) → without_front front (front ++ rest) ≡ rest
unfolding without_front
front_off front rest =
    let same : bytes_eq front (take (length front) (front ++ rest)) ≡ true = (bytes_eq-Decides front (take (length front) (front ++ rest))).1 (sym (take_at front rest (length front) refl)) in
    rw same (drop_at front rest (length front) refl)

-- ---- tasks

module _ (t : Arena) (bytes : List ℕ) (edits : List Edit) where
  done_append : (xs ys : List Task) (text : List ℕ) → after_tasks t bytes edits (xs ++ ys) text ≡ after_tasks t bytes edits xs (after_tasks t bytes edits ys text)
  unfolding after_tasks
  done_append [] ys text = refl
  done_append (x ∷ xs) ys text = ap (after_task t bytes edits x) (done_append xs ys text)

  -- the last task is done first
  pub done_push : (xs : List Task) (x : Task) (text : List ℕ) → after_tasks t bytes edits (xs ++ x ∷ []) text ≡ after_tasks t bytes edits xs (after_task t bytes edits x text)
  unfolding after_tasks
  done_push xs x text = done_append xs (x ∷ []) text

  -- a text put before
  pub put_text : (xs : List Task) (text more now : List ℕ) → now ≡ more ++ text → Follows t bytes edits xs (more ++ text) xs now
  put_text xs text more now e = record { text = ap (after_tasks t bytes edits xs) e; fit = λ all. all }

  pub put_task : (xs : List Task) (x : Task) (text now : List ℕ) → after_task t bytes edits x text ≡ now → IsTask t edits x → Follows t bytes edits xs now (xs ++ x ∷ []) text
  put_task xs x text now e is = record { text = done_push xs x text ∙ ap (after_tasks t bytes edits xs) e; fit = λ all. All-push (IsTask t edits) xs x all is }

  pub follow : (xs ys zs : List Task) (a b c : List ℕ) → Follows t bytes edits xs a ys b → Follows t bytes edits ys b zs c → Follows t bytes edits xs a zs c
  follow xs ys zs a b c f g = record { text = g.text ∙ f.text; fit = λ all. g.fit (f.fit all) }

  -- what is put before a text, and a task before that
  pub put_before : (xs ys : List Task) (x : Task) (text more now : List ℕ) → IsTask t edits x → Follows t bytes edits (xs ++ x ∷ []) (more ++ text) ys now → Follows t bytes edits xs (after_task t bytes edits x (more ++ text)) ys now
  put_before xs ys x text more now is f = record { text = f.text ∙ done_push xs x (more ++ text); fit = λ all. f.fit (All-push (IsTask t edits) xs x all is) }

  -- ---- parts and items, from the last to the first

  pub parts_none : (n : NodeId) (text : List ℕ) → after_task t bytes edits (task.Parts n 0) text ≡ text
  unfolding after_task
  parts_none n text = refl

  pub parts_more : (n : NodeId) (c : ℕ) (d : Part) (text : List ℕ) → c < length (parts_of t.nodes n.0)
      → after_task t bytes edits (task.Parts n (c + 1)) text ≡ after_task t bytes edits (task.Parts n c) (part_new t bytes edits (get_or (parts_of t.nodes n.0) c d) ++ text)
  unfolding after_task
  parts_more n c d text lt =
      let ps = parts_of t.nodes n.0 in
      let join = join_parts (leaf_new t bytes edits) (node_new t bytes edits) in
      let last = get_or ps c d in
      ap (λ qs. join qs ++ text) (take_more ps c d lt)
      ∙ (ap (λ w. w ++ text) (joined_append (leaf_new t bytes edits) (node_new t bytes edits) (take c ps) (last ∷ []) ∙ ap (λ w. join (take c ps) ++ w) (one last))
      ∙ append_assoc (join (take c ps)) (part_new t bytes edits last) text)
    where
      one : (p : Part) → join_parts (leaf_new t bytes edits) (node_new t bytes edits) (p ∷ []) ≡ part_new t bytes edits p
      one (part.Leaf i) = append-nil (leaf_new t bytes edits i)
      one (part.Node m) = append-nil (node_new t bytes edits m.0)

  items_append : (f : ℕ → List ℕ) (is js : List Item) → items_new t bytes edits f (is ++ js) ≡ items_new t bytes edits f is ++ items_new t bytes edits f js
  items_append f [] js = refl
  items_append f (i ∷ is) js = ap (λ w. item_new t bytes edits f i ++ w) (items_append f is js) ∙ sym (append_assoc (item_new t bytes edits f i) (items_new t bytes edits f is) (items_new t bytes edits f js))

  pub items_none : (k : ℕ) (text : List ℕ) → after_task t bytes edits (task.Items k 0) text ≡ text
  unfolding after_task
  items_none k text = refl

  pub items_more : (k c : ℕ) (d : Item) (text : List ℕ) → c < length (edit_items edits k)
      → after_task t bytes edits (task.Items k (c + 1)) text ≡ after_task t bytes edits (task.Items k c) (item_new t bytes edits (node_new t bytes edits) (get_or (edit_items edits k) c d) ++ text)
  unfolding after_task
  items_more k c d text lt =
      let is = edit_items edits k in
      let join = items_new t bytes edits (node_new t bytes edits) in
      let last = get_or is c d in
      let word = item_new t bytes edits (node_new t bytes edits) last in
      ap (λ js. join js ++ text) (take_more is c d lt)
      ∙ (ap (λ w. w ++ text) (items_append (node_new t bytes edits) (take c is) (last ∷ []) ∙ ap (λ w. join (take c is) ++ w) (append-nil word))
      ∙ append_assoc (join (take c is)) word text)

-- ---- what an edit's items name

pub edit_fits : (t : Arena) (edits : List Edit) (k : ℕ) → AreEdits t edits → k < length edits → IsSpot t (get_or edits k no_edit).spot × All (IsItemOf t (get_or edits k no_edit).spot) (get_or edits k no_edit).items
unfolding AreEdits
edit_fits t [] k fit lt = absurd (omega arith)
edit_fits t (e ∷ es) zero fit lt = (fit.0, fit.1)
edit_fits t (e ∷ es) (suc k) fit lt = edit_fits t es k fit.3 (omega arith)

item_in_tree : (t : Arena) (edits : List Edit) (s : Spot) (i : Item) → IsSpot t s → IsItemOf t s i → IsInTree t edits i
item_in_tree t edits s (item.Text w) at is = tt
item_in_tree t edits (spot.Node n) (item.Node m) at is = omega (arith, at, is)
item_in_tree t edits (spot.Node n) (item.NodeBody m) at is = omega (arith, at, is)
item_in_tree t edits (spot.Node n) (item.Leaf i) at is = is
item_in_tree t edits (spot.Node n) (item.LeafBody i) at is = is
item_in_tree t edits (spot.Leaf j) (item.Node m) at is = absurd is
item_in_tree t edits (spot.Leaf j) (item.NodeBody m) at is = absurd is
item_in_tree t edits (spot.Leaf j) (item.Leaf i) at is = absurd is
item_in_tree t edits (spot.Leaf j) (item.LeafBody i) at is = absurd is

pub item_at_in_tree : (t : Arena) (edits : List Edit) (k c : ℕ) (d : Item) → AreEdits t edits → k < length edits → c < length (edit_items edits k) → IsInTree t edits (get_or (edit_items edits k) c d)
item_at_in_tree t edits k c d fit lt in_items =
    let e = get_or edits k no_edit in
    let f = edit_fits t edits k fit lt in
    item_in_tree t edits e.spot (get_or e.items c d) f.0 (All-get_or (IsItemOf t e.spot) e.items c d in_items f.1)

-- the texts of a leaf's edit
leaf_items : (t : Arena) (bytes : List ℕ) (edits : List Edit) (i : ℕ) (f : ℕ → List ℕ) (is : List Item) → All (IsItemOf t (spot.Leaf i)) is → items_new t bytes edits f is ≡ items_text is
leaf_items t bytes edits i f [] all = refl
leaf_items t bytes edits i f (x ∷ is) all =
    rest x (All-head (IsItemOf t (spot.Leaf i)) x is all) (leaf_items t bytes edits i f is (All-tail (IsItemOf t (spot.Leaf i)) x is all))
  where
    rest : (x : Item) → IsItemOf t (spot.Leaf i) x → items_new t bytes edits f is ≡ items_text is → items_new t bytes edits f (x ∷ is) ≡ items_text (x ∷ is)
    rest (item.Text w) at more = ap (λ v. w ++ v) more
    rest (item.Node m) at more = absurd at
    rest (item.NodeBody m) at more = absurd at
    rest (item.Leaf j) at more = absurd at
    rest (item.LeafBody j) at more = absurd at

-- ---- nodes and leaves by what was chosen for them

module _ (t : Arena) (bytes : List ℕ) (edits : List Edit) (fit : AreEdits t edits) (leaves nodes : List (Option ℕ)) (touched : List Bool) (chosen : IsChosen t edits leaves nodes touched) where
  -- a node that isn't touched keeps its bytes
  untouched_kept : (n : ℕ) → n < length t.nodes → get_or touched n true ≡ false → node_new t bytes edits n ≡ range_of t bytes n
  untouched_kept = by_nodes (λ n. n < length t.nodes → get_or touched n true ≡ false → node_new t bytes edits n ≡ range_of t bytes n) (λ n below lt e.
      let u = chosen.untouched n lt e in
      same_node t chosen.tree bytes edits fit n lt (chosen.nodes.each n lt ∙ ap (items_of edits) u.0)
      (kept n (parts_of t.nodes n) (chosen.tree.below n lt) u.1 (λ m g. below m g (omega arith))))
    where
      kept : (n : ℕ) (ps : List Part) → AreBelow (length t.leaves) n ps → AreUntouched leaves touched ps → ((m : ℕ) → m < n → get_or touched m true ≡ false → node_new t bytes edits m ≡ range_of t bytes m)
          → PartsHold (λ i. leaf_new t bytes edits i ≡ leaf_range t.leaves bytes i (i + 1)) (λ m. node_new t bytes edits m ≡ range_of t bytes m) ps
      kept n [] b u q = tt
      kept n (part.Leaf i ∷ ps) b u q =
          (same_leaf t chosen.tree bytes edits fit i b.0 (leaf_none edits i (chosen.leaves.each i b.0 ∙ ap (items_of edits) u.0)), kept n ps b.1 u.1 q)
      kept n (part.Node m ∷ ps) b u q = (q m.0 b.0 u.0, kept n ps b.1 u.1 q)

  pub put_untouched : (n : ℕ) (d : Bool) → n < length t.nodes → get_or touched n d ≡ false → range_of t bytes n ≡ node_new t bytes edits n
  put_untouched n d lt e = sym (untouched_kept n lt (get_or_default touched n true d (omega (arith, chosen.long)) ∙ e))

  pub put_parts : (n : NodeId) (d : Option ℕ) (text : List ℕ) → n.0 < length t.nodes → get_or nodes n.0 d ≡ None
      → after_task t bytes edits (task.Parts n (length (parts_of t.nodes n.0))) text ≡ node_new t bytes edits n.0 ++ text
  unfolding after_task
  put_parts n d text lt e =
      ap (λ ps. join_parts (leaf_new t bytes edits) (node_new t bytes edits) ps ++ text) (take_all (length (parts_of t.nodes n.0)) (parts_of t.nodes n.0) (omega arith))
      ∙ ap (λ w. w ++ text) (sym (new_parts t chosen.tree bytes edits fit n.0 lt (chosen_none node_spot (length t.nodes) edits nodes n.0 d chosen.nodes lt e)))

  all_items : (k : ℕ) (text : List ℕ) → after_task t bytes edits (task.Items k (length (edit_items edits k))) text ≡ items_new t bytes edits (node_new t bytes edits) (edit_items edits k) ++ text
  unfolding after_task
  all_items k text = ap (λ is. items_new t bytes edits (node_new t bytes edits) is ++ text) (take_all (length (edit_items edits k)) (edit_items edits k) (omega arith))

  pub put_items : (n k : ℕ) (d : Option ℕ) (text : List ℕ) → n < length t.nodes → get_or nodes n d ≡ Some k
      → (k < length edits) × (after_task t bytes edits (task.Items k (length (edit_items edits k))) text ≡ node_new t bytes edits n ++ text)
  put_items n k d text lt e =
      let found = chosen_some node_spot (length t.nodes) edits nodes n k d no_edit chosen.nodes lt e in
      (found.0, all_items k text ∙ ap (λ w. w ++ text) (sym (new_items t chosen.tree bytes edits fit n (edit_items edits k) lt found.1)))

  pub put_word : (i k : ℕ) (d : Option ℕ) (text : List ℕ) → i < length t.leaves → get_or leaves i d ≡ Some k
      → (k < length edits) × (after_task t bytes edits (task.Items k (length (edit_items edits k))) text ≡ without_front (prefix_of bytes (leaf_at t.leaves i)) (leaf_new t bytes edits i) ++ text)
  unfolding leaf_new
  put_word i k d text lt e =
      let found = chosen_some leaf_spot (length t.leaves) edits leaves i k d no_edit chosen.leaves lt e in
      let items = edit_items edits k in
      let all : All (IsItemOf t (spot.Leaf i)) items = items_fit t edits (spot.Leaf i) items fit found.1 in (
        found.0,
        all_items k text
            ∙ (ap (λ w. w ++ text) (leaf_items t bytes edits i (node_new t bytes edits) items all
            ∙ (ap (λ o. unwrap_or o (text_of bytes (leaf_at t.leaves i))) (sym (leaf_some edits i items found.1))
            ∙ sym (front_off (prefix_of bytes (leaf_at t.leaves i)) (unwrap_or (leaf_edit edits i) (text_of bytes (leaf_at t.leaves i))))))),
      )

  pub put_prefix : (i : ℕ) (text : List ℕ) → after_task t bytes edits (task.Prefix i) (without_front (prefix_of bytes (leaf_at t.leaves i)) (leaf_new t bytes edits i) ++ text) ≡ leaf_new t bytes edits i ++ text
  unfolding leaf_new after_task
  put_prefix i text =
      let front = prefix_of bytes (leaf_at t.leaves i) in
      let word = unwrap_or (leaf_edit edits i) (text_of bytes (leaf_at t.leaves i)) in
      ap (λ w. front ++ (w ++ text)) (front_off front word) ∙ sym (append_assoc front word text)

  pub put_leaf_kept : (i : ℕ) (d : Option ℕ) → i < length t.leaves → get_or leaves i d ≡ None → prefix_of bytes (leaf_at t.leaves i) ++ text_of bytes (leaf_at t.leaves i) ≡ leaf_new t bytes edits i
  unfolding leaf_new
  put_leaf_kept i d lt e = sym (ap (λ o. prefix_of bytes (leaf_at t.leaves i) ++ unwrap_or o (text_of bytes (leaf_at t.leaves i))) (leaf_none edits i (chosen_none leaf_spot (length t.leaves) edits leaves i d chosen.leaves lt e)))

  pub put_text_kept : (i : ℕ) (d : Option ℕ) → i < length t.leaves → get_or leaves i d ≡ None → text_of bytes (leaf_at t.leaves i) ≡ without_front (prefix_of bytes (leaf_at t.leaves i)) (leaf_new t bytes edits i)
  put_text_kept i d lt e =
      sym (ap (without_front (prefix_of bytes (leaf_at t.leaves i))) (sym (put_leaf_kept i d lt e)) ∙ front_off (prefix_of bytes (leaf_at t.leaves i)) (text_of bytes (leaf_at t.leaves i)))
