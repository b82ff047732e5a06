-- The edits in which entries get a value, one entry after another.
use Rattle.std.proofs.Common.{◌≡◌, ℕ, ◌+◌, ◌*◌, ◌<◌, ◌≤◌, Bool, true, false, List, [], ◌∷◌, ◌++◌, length, drop, get_or, Option, Some, None, refl, sym, ap, subst, ◌∙◌, append_assoc, append-nil, add-one, drop-cons, arith}
use Rattle.std.specs.Prelude.{All, if◌then◌else◌}
use Rattle.std.specs.Str.{bytes_eq}
use Rattle.std.proofs.lemmas.List.{drop_all}
use Rattle.std.proofs.lemmas.List.Elements.{All-nil, All-cons}
use Rattle.rw_base.specs.Arena.{Arena}
use Rattle.rw_base.specs.NewText.{IsItemOf, AreEdits, AreRanked}
use Rattle.rw_base.specs.RankedEdits.{ranked_are_edits}
use Rattle.rw_base.specs.declared.edit.Edit.{Edit}
use Rattle.rw_base.specs.declared.edit.Item.TheVariants as item
use Rattle.rw_base.specs.declared.edit.Spot.TheVariants as spot
use Rattle.properties_tree.specs.declared.option.ChangePropertyValue.{ChangePropertyValue}
use Rattle.properties_tree.specs.Decoding.{key_text, value_text}
use Rattle.properties_tree.specs.Entries.{Entry, properties_of, no_entry, bytes_of}
use Rattle.properties_tree.specs.Spelling.{spelled_value}
use Rattle.conf_recipes.specs.PathPatterns.{is_empty}
use Rattle.conf_recipes.specs.PropertiesRecipes.{is_old_value, gets_value, text_edit, separator_edits, value_edits, all_value_edits}
use Rattle.conf_recipes.proofs.Deleted.{rank}

-- ---- whether an entry gets it

pub any_value : (old : Option (List ℕ)) (value : List ℕ) → old ≡ None → true ≡ is_old_value old value
any_value old value e = rw e refl

pub one_value : (old : Option (List ℕ)) (value this v : List ℕ) → old ≡ Some v → this ≡ value → bytes_eq this v ≡ is_old_value old value
one_value old value this v e is = rw e (ap (λ x. bytes_eq x v) is)

pub ruleset old_values = (any_value, one_value)

pub other_key : (o : ChangePropertyValue) (e : Entry) → bytes_eq (key_text e) o.property_key ≡ false → false ≡ gets_value o e
other_key o e other = rw other refl

pub same_key : (o : ChangePropertyValue) (e : Entry) (same : Bool) → bytes_eq (key_text e) o.property_key ≡ true → same ≡ is_old_value o.old_value (value_text e) → same ≡ gets_value o e
same_key o e same equal is = rw equal is

pub ruleset new_values = (other_key, same_key)

-- ---- the edits of an entry

pub no_separator_edit : (es : List Edit) (n : ℕ) (e : Entry) → is_empty (bytes_of e.separator) ≡ false → es ≡ es ++ separator_edits n e
no_separator_edit es n e some = sym (rw some (append-nil es))

pub separator_edit : (es : List Edit) (n : ℕ) (e : Entry) (i : ℕ) (text : List ℕ) → is_empty (bytes_of e.separator) ≡ true → i ≡ 4 * n + 1 → text ≡ 61 ∷ [] → es ++ text_edit i text ∷ [] ≡ es ++ separator_edits n e
separator_edit es n e i text none at is = rw none (ap (λ j. es ++ text_edit j text ∷ []) at ∙ ap (λ x. es ++ text_edit (4 * n + 1) x ∷ []) is)

pub ruleset separators = (no_separator_edit, separator_edit)

pub value_edit : (es more : List Edit) (n : ℕ) (e : Entry) (i : ℕ) (value text : List ℕ) → more ≡ es ++ separator_edits n e → i ≡ 4 * n + 2 → text ≡ spelled_value value → more ++ text_edit i text ∷ [] ≡ es ++ value_edits value n e
value_edit es more n e i value text m at is =
    ap (λ xs. xs ++ text_edit i text ∷ []) m
    ∙ (append_assoc es (separator_edits n e) (text_edit i text ∷ [])
    ∙ (ap (λ j. es ++ (separator_edits n e ++ text_edit j text ∷ [])) at ∙ ap (λ x. es ++ (separator_edits n e ++ text_edit (4 * n + 2) x ∷ [])) is))

pub ruleset values_pushed = (value_edit)

-- ---- entry after entry

module _ (o : ChangePropertyValue) (es : List Entry) (n : ℕ) where
  cut : n < length es → drop n es ≡ get_or es n no_entry ∷ drop (n + 1) es
  cut lt = drop-cons es n no_entry lt ∙ rw add-one refl

  pub got : (done new all : List Edit) → n < length es → gets_value o (get_or es n no_entry) ≡ true → new ≡ done ++ value_edits o.new_value n (get_or es n no_entry) → done ++ all_value_edits o n (drop n es) ≡ all → new ++ all_value_edits o (n + 1) (drop (n + 1) es) ≡ all
  unfolding all_value_edits
  got done new all lt gets is h =
      let e = get_or es n no_entry in
      let rest = all_value_edits o (n + 1) (drop (n + 1) es) in
      ap (λ xs. xs ++ rest) is
      ∙ (append_assoc done (value_edits o.new_value n e) rest
      ∙ (sym (ap (λ x. done ++ all_value_edits o n x) (cut lt) ∙ ap (λ x. done ++ x) (rw gets refl)) ∙ h))

  pub kept : (done all : List Edit) → n < length es → gets_value o (get_or es n no_entry) ≡ false → done ++ all_value_edits o n (drop n es) ≡ all → done ++ all_value_edits o (n + 1) (drop (n + 1) es) ≡ all
  unfolding all_value_edits
  kept done all lt stays h = sym (ap (λ x. done ++ all_value_edits o n x) (cut lt) ∙ ap (λ x. done ++ x) (rw stays refl)) ∙ h

  pub ended : (done all : List Edit) → length es ≤ n → done ++ all_value_edits o n (drop n es) ≡ all → done ≡ all
  unfolding all_value_edits
  ended done all le h = sym (ap (λ x. done ++ all_value_edits o n x) (drop_all n es le) ∙ append-nil done) ∙ h

-- ---- they are edits of the tree

module _ (o : ChangePropertyValue) (t : Arena) where
  text_fits : (i : ℕ) (text : List ℕ) → All (IsItemOf t (spot.Leaf i)) (item.Text text ∷ [])
  text_fits i text = All-cons (IsItemOf t (spot.Leaf i)) (item.Text text) [] tt (All-nil (IsItemOf t (spot.Leaf i)))

  values_ranked : (from n : ℕ) (es : List Entry) → from ≤ 4 * n → 4 * (n + length es) ≤ length t.leaves → AreRanked t rank from (all_value_edits o n es)
  unfolding AreRanked all_value_edits
  values_ranked from n [] low le = tt
  values_ranked from n (e ∷ es) low le = elim (gets_value o e) as (λ b. AreRanked t rank from (if b then value_edits o.new_value n e ++ all_value_edits o (n + 1) es else all_value_edits o (n + 1) es)) [
    | true ↦ elim (is_empty (bytes_of e.separator)) as (λ b. AreRanked t rank from (((if b then text_edit (4 * n + 1) (61 ∷ []) ∷ [] else []) ++ text_edit (4 * n + 2) (spelled_value o.new_value) ∷ []) ++ all_value_edits o (n + 1) es)) [
      | true ↦ (omega (arith, low), omega (arith, le), text_fits (4 * n + 1) (61 ∷ []), (omega arith, omega (arith, le), text_fits (4 * n + 2) (spelled_value o.new_value), values_ranked (4 * n + 2 + 1) (n + 1) es (omega arith) (omega (arith, le))))
      | false ↦ (omega (arith, low), omega (arith, le), text_fits (4 * n + 2) (spelled_value o.new_value), values_ranked (4 * n + 2 + 1) (n + 1) es (omega arith) (omega (arith, le)))
    ]
    | false ↦ values_ranked from (n + 1) es (omega (arith, low)) (omega (arith, le))
  ]

  pub values_fit : (bytes : List ℕ) (edits : List Edit) (count : ℕ) → count ≡ length (properties_of bytes).entries → length t.leaves ≡ 4 * count + 1 → edits ≡ all_value_edits o 0 (properties_of bytes).entries → AreEdits t edits
  values_fit bytes edits count all leaves is =
      let es = (properties_of bytes).entries in
      subst (AreEdits t) (sym is) (ranked_are_edits t rank 0 (all_value_edits o 0 es) (values_ranked 0 0 es (omega arith) (omega (arith, all, leaves))))

pub ruleset all_values = (got, kept, ended, values_fit)
