-- The edits of one entry after another, and that they are edits of the tree.
use Rattle.std.proofs.Common.{◌≡◌, ℕ, suc, ◌+◌, ◌<◌, ◌≤◌, Bool, true, false, List, [], ◌∷◌, ◌++◌, length, take, drop, get_or, refl, sym, ap, subst, ◌∙◌, inl, inr, append_assoc, append-nil, length-append, add-one, drop-cons, arith}
use Rattle.std.specs.Prelude.{IsTrue, ◌↔◌, if◌then◌else◌}
use Rattle.std.specs.Str.{bytes_eq}
use Rattle.std.proofs.lemmas.Bool.{cases_Bool, false≢true}
use Rattle.std.proofs.lemmas.Slice.Eq.{bytes_eq-Decides}
use Rattle.std.proofs.lemmas.List.{drop_all}
use Rattle.std.proofs.lemmas.List.Elements.{All-nil, All-cons}
use Rattle.rw_base.specs.Arena.{Arena}
use Rattle.rw_base.specs.NewText.{IsItemOf, AreEdits, AreRanked}
use Rattle.rw_base.specs.declared.edit.Edit.{Edit}
use Rattle.rw_base.specs.declared.edit.Item.TheVariants as item
use Rattle.rw_base.specs.declared.edit.Spot.{Spot}
use Rattle.rw_base.specs.declared.edit.Spot.TheVariants as spot
use Rattle.properties_tree.specs.Decoding.{key_text}
use Rattle.properties_tree.specs.Entries.{Entry, properties_of, no_entry}
use Rattle.properties_tree.specs.Layout.{tree_of, entry_rows, file_row}
use Rattle.conf_recipes.specs.PropertiesRecipes.{through_last_end, delete_edit, deletes}
use Rattle.rw_base.specs.RankedEdits.{ranked_are_edits}

-- an answer that says when two texts are equal is their test
pub told_by : (same : Bool) (a b : List ℕ) → IsTrue same ↔ (a ≡ b) → same ≡ bytes_eq a b
told_by true a b told = sym ((bytes_eq-Decides a b).1 (told.0 refl))
told_by false a b told = elim (cases_Bool (bytes_eq a b)) [ inl e ↦ absurd (false≢true (told.1 ((bytes_eq-Decides a b).0 e))) | inr e ↦ sym e ]

pub ruleset told = (told_by)

pub edit_is : (n : ℕ) (e : Entry) (prefix kept : List ℕ) (size : ℕ) → prefix ≡ e.prefix → take size prefix ≡ through_last_end prefix → kept ≡ take size prefix
    → record { spot = spot.Node (record { 0 = n }); items = item.Text kept ∷ [] } ≡ delete_edit n e
edit_is n e prefix kept size is at k =
    let same : kept ≡ through_last_end e.prefix = k ∙ (at ∙ ap through_last_end is) in
    ap (λ x. record { spot = spot.Node (record { 0 = n }); items = item.Text x ∷ [] }) same

pub ruleset edit_by = (edit_is)

module _ (goes : List ℕ → Bool) (es : List Entry) (n : ℕ) where
  cut : n < length es → drop n es ≡ get_or es n no_entry ∷ drop (n + 1) es
  cut lt = drop-cons es n no_entry lt ∙ rw add-one refl

  pub deleted : (e : Edit) (done all : List Edit) → n < length es → goes (key_text (get_or es n no_entry)) ≡ true → e ≡ delete_edit n (get_or es n no_entry) → done ++ deletes goes n (drop n es) ≡ all → (done ++ e ∷ []) ++ deletes goes (n + 1) (drop (n + 1) es) ≡ all
  unfolding deletes
  deleted e done all lt yes_goes is h =
      append_assoc done (e ∷ []) (deletes goes (n + 1) (drop (n + 1) es))
      ∙ (ap (λ x. done ++ x ∷ deletes goes (n + 1) (drop (n + 1) es)) is
      ∙ (sym (ap (λ x. done ++ deletes goes n x) (cut lt) ∙ ap (λ x. done ++ x) (rw yes_goes refl)) ∙ h))

  pub stays : (done all : List Edit) → n < length es → goes (key_text (get_or es n no_entry)) ≡ false → done ++ deletes goes n (drop n es) ≡ all → done ++ deletes goes (n + 1) (drop (n + 1) es) ≡ all
  unfolding deletes
  stays done all lt not_goes h = sym (ap (λ x. done ++ deletes goes n x) (cut lt) ∙ ap (λ x. done ++ x) (rw not_goes refl)) ∙ h

  pub ended : (done all : List Edit) → length es ≤ n → done ++ deletes goes n (drop n es) ≡ all → done ≡ all
  unfolding deletes
  ended done all le h = sym (ap (λ x. done ++ deletes goes n x) (drop_all n es le) ∙ append-nil done) ∙ h

-- ---- they are edits of the tree

-- entries are nodes in their order
abbrev pub rank : Spot → ℕ
rank (spot.Node n) = n.0
rank (spot.Leaf i) = i

deletes_ranked : (goes : List ℕ → Bool) (t : Arena) (from n : ℕ) (es : List Entry) → from ≤ n → n + length es ≤ length t.nodes → AreRanked t rank from (deletes goes n es)
unfolding AreRanked deletes
deletes_ranked goes t from n [] low le = tt
deletes_ranked goes t from n (e ∷ es) low le = elim (goes (key_text e)) as (λ b. AreRanked t rank from (if b then delete_edit n e ∷ deletes goes (n + 1) es else deletes goes (n + 1) es)) [
  | true ↦ (low, omega arith, All-cons (IsItemOf t (spot.Node (record { 0 = n }))) (item.Text (through_last_end e.prefix)) [] tt (All-nil (IsItemOf t (spot.Node (record { 0 = n })))), deletes_ranked goes t (n + 1) (n + 1) es (omega arith) (omega arith))
  | false ↦ deletes_ranked goes t from (n + 1) es (omega arith) (omega arith)
]

length_rows : (n : ℕ) (es : List Entry) → length (entry_rows n es) ≡ length es
length_rows n [] = refl
length_rows n (e ∷ es) = ap suc (length_rows (n + 1) es)

nodes_of : (t : Arena) (bytes : List ℕ) → t ≡ tree_of bytes → length (properties_of bytes).entries ≤ length t.nodes
unfolding tree_of
nodes_of t bytes same =
    let es = (properties_of bytes).entries in
    let all : length t.nodes ≡ length (entry_rows 0 es ++ file_row es ∷ []) = ap (λ (a : Arena). length a.nodes) same in
    omega (arith, all, length-append (entry_rows 0 es) (file_row es ∷ []), length_rows 0 es)

pub deletes_fit : (goes : List ℕ → Bool) (t : Arena) (bytes : List ℕ) (edits : List Edit) → t ≡ tree_of bytes → edits ≡ deletes goes 0 (properties_of bytes).entries → AreEdits t edits
deletes_fit goes t bytes edits same is =
    let es = (properties_of bytes).entries in
    let le = nodes_of t bytes same in subst (AreEdits t) (sym is) (ranked_are_edits t rank 0 (deletes goes 0 es) (deletes_ranked goes t 0 0 es (omega arith) (omega arith)))

pub ruleset all_deletes = (deleted, stays, ended, deletes_fit)
