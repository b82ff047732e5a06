-- What each function does with the tasks and the text.
use Rattle.std.proofs.Common.{◌≡◌, ℕ, zero, suc, ◌+◌, ◌-◌, ◌<◌, ◌≤◌, Bool, false, List, [], ◌∷◌, ◌++◌, length, get_or, sym, ap, subst, ◌∙◌, arith, Result, Ok, Err}
use Rattle.std.specs.Prelude.{Option, Some, None, All, OnOk, IfOk}
use Rattle.std.proofs.lemmas.List.{get_or_default, nil_from_length, append-nil}
use Rattle.std.proofs.lemmas.List.Elements.{All-nil, All-pop}
use Rattle.rw_base.specs.declared.tree.Part.{Part}
use Rattle.rw_base.specs.declared.tree.Part.TheVariants as part
use Rattle.rw_base.specs.declared.tree.NodeId.{NodeId}
use Rattle.rw_base.specs.declared.edit.Item.{Item}
use Rattle.rw_base.specs.declared.edit.Item.TheVariants as item
use Rattle.rw_base.specs.declared.edit.Edit.{Edit}
use Rattle.rw_base.specs.declared.node_edits.Task.{Task}
use Rattle.rw_base.specs.declared.node_edits.Task.TheVariants as task
use Rattle.rw_base.specs.Arena.{Arena, AreBelow, leaf_at, parts_of, prefix_of, text_of}
use Rattle.rw_base.specs.NewText.{without_front, front_of, leaf_new, item_new, node_new, new_text, AreEdits}
use Rattle.rw_base.specs.Gaps.{range_of}
use Rattle.rw_base.specs.Chosen.{no_edit}
use Rattle.rw_base.specs.Tasks.{cut, edit_items, part_new, after_task, after_tasks, IsTask, IsInTree, IsPartOf, Follows, IsChosen}
use Rattle.rw_base.proofs.Doing.{cut_at, done_push, put_text, put_task, put_before, parts_none, parts_more, items_none, items_more, item_at_in_tree, put_untouched, put_parts, put_items, put_word, put_prefix, put_leaf_kept, put_text_kept}

-- ---- one node or leaf

module _ (t : Arena) (bytes : List ℕ) (edits : List Edit) (fit : AreEdits t edits) (leaves nodes : List (Option ℕ)) (touched : List Bool) (chosen : IsChosen t edits leaves nodes touched) (xs ys : List Task) (text : List ℕ) where
  -- so many items are all of an edit's
  count_is : (k count : ℕ) (d : Edit) → k < length edits → count ≡ length (get_or edits k d).items → count ≡ length (edit_items edits k)
  count_is k count d lt e = e ∙ ap (λ (x : Edit). length x.items) (get_or_default edits k d no_edit lt)

  -- a task that leaves this text
  one_task : (x : Task) (now : List ℕ) → IsTask t edits x → after_task t bytes edits x text ≡ now → ys ≡ xs ++ x ∷ [] → Follows t bytes edits xs now ys text
  one_task x now is e at = subst (λ zs. Follows t bytes edits xs now zs text) (sym at) (put_task t bytes edits xs x text now e is)

  all_items : (k count : ℕ) (d : Edit) (now : List ℕ) → k < length edits → after_task t bytes edits (task.Items k (length (edit_items edits k))) text ≡ now
      → count ≡ length (get_or edits k d).items → ys ≡ xs ++ task.Items k count ∷ [] → Follows t bytes edits xs now ys text
  all_items k count d now lt e many at =
      let count_is = count_is k count d lt many in
      one_task (task.Items k count) now (lt, omega (arith, count_is)) (ap (λ n. after_task t bytes edits (task.Items k n) text) count_is ∙ e) at

  pub edited_node : (n k count : ℕ) (o : Option ℕ) (d : Edit) → n < length t.nodes → get_or nodes n o ≡ Some k → count ≡ length (get_or edits k d).items → ys ≡ xs ++ task.Items k count ∷ []
      → Follows t bytes edits xs (node_new t bytes edits n ++ text) ys text
  edited_node n k count o d lt e many at =
      let found = put_items t bytes edits fit leaves nodes touched chosen n k o text lt e in
      all_items k count d (node_new t bytes edits n ++ text) found.0 found.1 many at

  pub touched_node : (n : NodeId) (count : ℕ) (o : Option ℕ) → n.0 < length t.nodes → get_or nodes n.0 o ≡ None → count ≡ length (parts_of t.nodes n.0) → ys ≡ xs ++ task.Parts n count ∷ []
      → Follows t bytes edits xs (node_new t bytes edits n.0 ++ text) ys text
  touched_node n count o lt e many at =
      one_task (task.Parts n count) (node_new t bytes edits n.0 ++ text) (lt, omega (arith, many))
      (ap (λ k. after_task t bytes edits (task.Parts n k) text) many ∙ put_parts t bytes edits fit leaves nodes touched chosen n o text lt e) at

  pub edited_body : (i k count : ℕ) (o : Option ℕ) (d : Edit) → i < length t.leaves → get_or leaves i o ≡ Some k → count ≡ length (get_or edits k d).items → ys ≡ xs ++ task.Items k count ∷ []
      → Follows t bytes edits xs (without_front (prefix_of bytes (leaf_at t.leaves i)) (leaf_new t bytes edits i) ++ text) ys text
  edited_body i k count o d lt e many at =
      let found = put_word t bytes edits fit leaves nodes touched chosen i k o text lt e in
      all_items k count d (without_front (prefix_of bytes (leaf_at t.leaves i)) (leaf_new t bytes edits i) ++ text) found.0 found.1 many at

module _ (t : Arena) (bytes : List ℕ) (edits : List Edit) (fit : AreEdits t edits) (leaves nodes : List (Option ℕ)) (touched : List Bool) (chosen : IsChosen t edits leaves nodes touched) where
  pub edited_leaf : (xs ys zs : List Task) (text : List ℕ) (i k count : ℕ) (o : Option ℕ) (d : Edit) → i < length t.leaves → get_or leaves i o ≡ Some k → count ≡ length (get_or edits k d).items
      → ys ≡ xs ++ task.Prefix i ∷ [] → zs ≡ ys ++ task.Items k count ∷ [] → Follows t bytes edits xs (leaf_new t bytes edits i ++ text) zs text
  edited_leaf xs ys zs text i k count o d lt e many at also =
      let body = without_front (prefix_of bytes (leaf_at t.leaves i)) (leaf_new t bytes edits i) in
      let word = edited_body t bytes edits fit leaves nodes touched chosen ys zs text i k count o d lt e many also in
      subst (λ now. Follows t bytes edits xs now zs text) (put_prefix t bytes edits fit leaves nodes touched chosen i text)
      (put_before t bytes edits xs zs (task.Prefix i) text body text lt (subst (λ (ts : List Task). Follows t bytes edits ts (body ++ text) zs text) at word))

  -- bytes that are put before the text
  module _ (xs : List Task) (text now piece : List ℕ) (at : now ≡ piece ++ text) where
    pub kept_node : (n : ℕ) (d : Bool) → n < length t.nodes → get_or touched n d ≡ false → piece ≡ range_of t bytes n → Follows t bytes edits xs (node_new t bytes edits n ++ text) xs now
    kept_node n d lt e is = put_text t bytes edits xs text (node_new t bytes edits n) now
        (at ∙ ap (λ w. w ++ text) (is ∙ put_untouched t bytes edits fit leaves nodes touched chosen n d lt e))

    pub kept_leaf : (i : ℕ) (o : Option ℕ) → i < length t.leaves → get_or leaves i o ≡ None → piece ≡ prefix_of bytes (leaf_at t.leaves i) ++ text_of bytes (leaf_at t.leaves i)
        → Follows t bytes edits xs (leaf_new t bytes edits i ++ text) xs now
    kept_leaf i o lt e is = put_text t bytes edits xs text (leaf_new t bytes edits i) now
        (at ∙ ap (λ w. w ++ text) (is ∙ put_leaf_kept t bytes edits fit leaves nodes touched chosen i o lt e))

    pub kept_body : (i : ℕ) (o : Option ℕ) → i < length t.leaves → get_or leaves i o ≡ None → piece ≡ text_of bytes (leaf_at t.leaves i)
        → Follows t bytes edits xs (without_front (prefix_of bytes (leaf_at t.leaves i)) (leaf_new t bytes edits i) ++ text) xs now
    kept_body i o lt e is = put_text t bytes edits xs text (without_front (prefix_of bytes (leaf_at t.leaves i)) (leaf_new t bytes edits i)) now
        (at ∙ ap (λ w. w ++ text) (is ∙ put_text_kept t bytes edits fit leaves nodes touched chosen i o lt e))

-- ---- one item or task

pub on_ok : {A E : Type 0} (r : Result A E) (P Q : Type 0) → (P → Q) → OnOk r P → OnOk r Q
on_ok (Ok x) P Q f p = f p
on_ok (Err e) P Q f p = p

module _ (t : Arena) (bytes : List ℕ) (edits : List Edit) where
  -- the body of a node: its text is put there, and then its front taken off
  pub body_put : (xs ys zs : List Task) (text now : List ℕ) (i : Item) (m : NodeId) (behind : ℕ) → i ≡ item.NodeBody m → m.0 < length t.nodes → behind ≡ length text → ys ≡ xs ++ task.Cut m behind ∷ []
      → Follows t bytes edits ys (node_new t bytes edits m.0 ++ text) zs now → Follows t bytes edits xs (item_new t bytes edits (node_new t bytes edits) i ++ text) zs now
  unfolding after_task
  body_put xs ys zs text now i m behind is lt size at f =
      let new = node_new t bytes edits m.0 in
      let front = front_of t bytes m.0 in
      let cut_is : after_task t bytes edits (task.Cut m behind) (new ++ text) ≡ item_new t bytes edits (node_new t bytes edits) i ++ text =
      ap (λ b. cut front b (new ++ text)) size ∙ (cut_at front new text ∙ ap (λ x. item_new t bytes edits (node_new t bytes edits) x ++ text) (sym is)) in
      subst (λ w. Follows t bytes edits xs w zs now) cut_is
      (put_before t bytes edits xs zs (task.Cut m behind) text new now lt (subst (λ (ts : List Task). Follows t bytes edits ts (new ++ text) zs now) at f))

  module _ (xs ys zs : List Task) (text now : List ℕ) (x : Task) (count : ℕ) (some : 0 < count) where
    before : (count - 1) + 1 ≡ count
    before = omega arith

    pub part_put : (n : NodeId) (ps : List Part) (d : Part) → x ≡ task.Parts n count → IsTask t edits x → ps ≡ parts_of t.nodes n.0 → ys ≡ xs ++ task.Parts n (count - 1) ∷ []
        → Follows t bytes edits ys (part_new t bytes edits (get_or ps (count - 1) d) ++ text) zs now → Follows t bytes edits xs (after_task t bytes edits x text) zs now
    part_put n ps d is fits parts at f =
        let fit : IsTask t edits (task.Parts n count) = subst (IsTask t edits) is fits in
        let one = part_new t bytes edits (get_or ps (count - 1) d) in
        let all : after_task t bytes edits (task.Parts n (count - 1)) (one ++ text) ≡ after_task t bytes edits x text =
        ap (λ qs. after_task t bytes edits (task.Parts n (count - 1)) (part_new t bytes edits (get_or qs (count - 1) d) ++ text)) parts
        ∙ (sym (parts_more t bytes edits n (count - 1) d text (omega (arith, fit.1)))
        ∙ (ap (λ c. after_task t bytes edits (task.Parts n c) text) before ∙ ap (λ y. after_task t bytes edits y text) (sym is))) in
        subst (λ w. Follows t bytes edits xs w zs now) all
        (put_before t bytes edits xs zs (task.Parts n (count - 1)) text one now (fit.0, omega (arith, fit.1)) (subst (λ (ts : List Task). Follows t bytes edits ts (one ++ text) zs now) at f))

    pub item_put : (k : ℕ) (is : List Item) (i : Item) (d : Edit) → x ≡ task.Items k count → IsTask t edits x → is ≡ (get_or edits k d).items → i ≡ get_or is (count - 1) i → ys ≡ xs ++ task.Items k (count - 1) ∷ []
        → Follows t bytes edits ys (item_new t bytes edits (node_new t bytes edits) i ++ text) zs now → Follows t bytes edits xs (after_task t bytes edits x text) zs now
    item_put k is i d task_is fits items here at f =
        let fit : IsTask t edits (task.Items k count) = subst (IsTask t edits) task_is fits in
        let items_are : is ≡ edit_items edits k = items ∙ ap (λ (e : Edit). e.items) (get_or_default edits k d no_edit fit.0) in
        let one = item_new t bytes edits (node_new t bytes edits) i in
        let all : after_task t bytes edits (task.Items k (count - 1)) (one ++ text) ≡ after_task t bytes edits x text =
        ap (λ j. after_task t bytes edits (task.Items k (count - 1)) (item_new t bytes edits (node_new t bytes edits) j ++ text)) (here ∙ ap (λ js. get_or js (count - 1) i) items_are)
        ∙ (sym (items_more t bytes edits k (count - 1) i text (omega (arith, fit.1)))
        ∙ (ap (λ c. after_task t bytes edits (task.Items k c) text) before ∙ ap (λ y. after_task t bytes edits y text) (sym task_is))) in
        subst (λ w. Follows t bytes edits xs w zs now) all
        (put_before t bytes edits xs zs (task.Items k (count - 1)) text one now (fit.0, omega (arith, fit.1)) (subst (λ (ts : List Task). Follows t bytes edits ts (one ++ text) zs now) at f))

  -- a task that is over
  pub over : (xs : List Task) (text now : List ℕ) (x y : Task) → x ≡ y → after_task t bytes edits y text ≡ now → Follows t bytes edits xs (after_task t bytes edits x text) xs now
  over xs text now x y is e = record { text = ap (after_tasks t bytes edits xs) (sym (ap (λ z. after_task t bytes edits z text) is ∙ e)); fit = λ all. all }

  pub no_parts : (n : NodeId) (count : ℕ) (text : List ℕ) → count ≤ 0 → after_task t bytes edits (task.Parts n count) text ≡ text
  no_parts n count text none = ap (λ c. after_task t bytes edits (task.Parts n c) text) (omega arith) ∙ parts_none t bytes edits n text

  pub no_items : (k count : ℕ) (text : List ℕ) → count ≤ 0 → after_task t bytes edits (task.Items k count) text ≡ text
  no_items k count text none = ap (λ c. after_task t bytes edits (task.Items k c) text) (omega arith) ∙ items_none t bytes edits k text

  pub the_prefix : (i : ℕ) (text piece now : List ℕ) → piece ≡ prefix_of bytes (leaf_at t.leaves i) → now ≡ piece ++ text → after_task t bytes edits (task.Prefix i) text ≡ now
  unfolding after_task
  the_prefix i text piece now e at = sym (at ∙ ap (λ w. w ++ text) e)

  pub the_cut : (n : NodeId) (behind : ℕ) (text front now : List ℕ) → front ≡ front_of t bytes n.0 → now ≡ cut front behind text → after_task t bytes edits (task.Cut n behind) text ≡ now
  unfolding after_task
  the_cut n behind text front now e at = sym (at ∙ ap (λ f. cut f behind text) e)

pub part_of : (t : Arena) (n : ℕ) (ps : List Part) (k : ℕ) (d : Part) → n ≤ length t.nodes → AreBelow (length t.leaves) n ps → k < length ps → IsPartOf t (get_or ps k d)
part_of t n [] k d le b lt = absurd (omega arith)
part_of t n (part.Leaf i ∷ ps) zero d le b lt = b.0
part_of t n (part.Node m ∷ ps) zero d le b lt = omega (arith, b.0)
part_of t n (part.Leaf i ∷ ps) (suc k) d le b lt = part_of t n ps k d le b.1 (omega arith)
part_of t n (part.Node m ∷ ps) (suc k) d le b lt = part_of t n ps k d le b.1 (omega arith)

pub item_of : (t : Arena) (edits : List Edit) (k c : ℕ) (is : List Item) (i : Item) (d : Edit) → AreEdits t edits → k < length edits → is ≡ (get_or edits k d).items → c < length (edit_items edits k) → i ≡ get_or is c i → IsInTree t edits i
item_of t edits k c is i d fit lt items in_items here =
    let items_are : is ≡ edit_items edits k = items ∙ ap (λ (e : Edit). e.items) (get_or_default edits k d no_edit lt) in
    subst (IsInTree t edits) (sym (here ∙ ap (λ js. get_or js c i) items_are)) (item_at_in_tree t edits k c i fit lt in_items)

-- ---- the whole run

pub if_ok : {A E : Type 0} (r : Result A E) (P Q : A → Type 0) → ((x : A) → P x → Q x) → IfOk r P → IfOk r Q
if_ok (Ok x) P Q f p = f x p
if_ok (Err e) P Q f p = p

-- the tasks make the new text of what is there
pub record IsRunning (t : Arena) (bytes : List ℕ) (edits : List Edit) (tasks : List Task) (now : List ℕ) : Type 0 where
  pub text : after_tasks t bytes edits tasks now ≡ new_text t bytes edits
  pub fit : All (IsTask t edits) tasks

module _ (t : Arena) (bytes : List ℕ) (edits : List Edit) where
  pub begun : (xs ys : List Task) (text now : List ℕ) (root : ℕ) → xs ≡ [] → text ≡ [] → root ≡ t.root → Follows t bytes edits xs (node_new t bytes edits root ++ text) ys now → IsRunning t bytes edits ys now
  unfolding after_tasks new_text
  begun xs ys text now root none empty root_is f = record {
    text = f.text ∙ (ap (λ ts. after_tasks t bytes edits ts (node_new t bytes edits root ++ text)) none
        ∙ (ap (λ w. node_new t bytes edits root ++ w) empty ∙ (append-nil (node_new t bytes edits root) ∙ ap (node_new t bytes edits) root_is)));
    fit = f.fit (subst (All (IsTask t edits)) (sym none) (All-nil (IsTask t edits)));
  }

  module _ (xs ys : List Task) (x : Task) (text : List ℕ) (run : IsRunning t bytes edits xs text) (last : xs ≡ ys ++ x ∷ []) where
    all_fit : All (IsTask t edits) ys × IsTask t edits x
    all_fit = All-pop (IsTask t edits) xs ys (Some x) last run.fit

    pub last_fits : IsTask t edits x
    last_fits = all_fit.1

    pub goes_on : (zs : List Task) (now : List ℕ) → Follows t bytes edits ys (after_task t bytes edits x text) zs now → IsRunning t bytes edits zs now
    goes_on zs now f = record {
      text = f.text ∙ (sym (ap (λ ts. after_tasks t bytes edits ts text) last ∙ done_push t bytes edits ys x text) ∙ run.text);
      fit = f.fit all_fit.0;
    }

  pub ended : (xs : List Task) (text : List ℕ) → IsRunning t bytes edits xs text → length xs ≡ 0 → text ≡ new_text t bytes edits
  unfolding after_tasks
  ended xs text run none = ap (λ ts. after_tasks t bytes edits ts text) (sym (nil_from_length xs none)) ∙ run.text
