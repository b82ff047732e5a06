-- How far a walk came, step by step.
use Rattle.std.proofs.Common.{◌≡◌, ◌≢◌, ℕ, zero, suc, ◌+◌, ◌-◌, ◌<◌, ◌≤◌, ◌==◌, Bool, true, false, ◌||◌, List, [], ◌∷◌, ◌++◌, length, take, drop, get_or, Option, Some, None, refl, sym, ap, subst, ◌∙◌, add-one, drop-cons, arith}
use Rattle.std.specs.Prelude.{Result, Ok, Err, slice_index_or}
use Rattle.std.specs.List.{list_any}
use Rattle.std.specs.Str.{bytes_eq}
use Rattle.std.proofs.lemmas.List.{drop_all, take_all, get_or_default}
use Rattle.std.proofs.lemmas.List.Folds.{list_any_more, list_any_at}
use Rattle.recipe_yaml.specs.declared.fault.RecipeFault.{RecipeFault}
use Rattle.recipe_yaml.specs.declared.fault.RecipeFault.TheVariants.{Wrong, NoMemory}
use Rattle.recipe_yaml.specs.declared.book.Written.{Written}
use Rattle.recipe_yaml.specs.declared.book.WrittenEntry.{WrittenEntry}
use Rattle.recipe_yaml.specs.declared.plans.LeafRecipe.{LeafRecipe}
use Rattle.recipe_yaml.specs.declared.plans.PlannedLeaf.{PlannedLeaf}
use Rattle.recipe_yaml.specs.declared.walk.Walked.{Walked}
use Rattle.recipe_yaml.specs.Leading.{place_from}
use Rattle.recipe_yaml.specs.KeyPathTexts.{KeyPathsOf}
use Rattle.recipe_yaml.specs.Faults.{and_then, without, IsOutcome}
use Rattle.recipe_yaml.specs.Leaves.{leaf_recipe}
use Rattle.recipe_yaml.specs.Walks.{Went, Entry, no_recipe, recipe_fault, leaf_fault, leaf_entry, entry, recipe, each, condition, conditions, counted, with_leaf, opened, closed, noted, IsGone}

pub cut : {A : Type 0} (xs : List A) (i : ℕ) (d : A) → i < length xs → drop i xs ≡ get_or xs i d ∷ drop (i + 1) xs
cut xs i d lt = drop-cons xs i d lt ∙ rw add-one refl

-- ---- whether one of a list passes a test

module _ {A : Type 0} (p : A → Bool) (xs : List A) (i : ℕ) where
  pub any_more : (d : A) → i < length xs → list_any p (take i xs) ≡ false → p (get_or xs i d) ≡ false → list_any p (take (i + 1) xs) ≡ false
  any_more d lt e h = list_any_more p xs i d lt ∙ (ap (λ b. b || p (get_or xs i d)) e ∙ h)

  pub any_here : (d : A) → i < length xs → p (get_or xs i d) ≡ true → true ≡ list_any p xs
  any_here d lt h = sym (list_any_at p xs i d lt h)

  pub any_end : length xs ≤ i → list_any p (take i xs) ≡ false → false ≡ list_any p xs
  any_end le e = sym e ∙ ap (list_any p) (take_all i xs le)

pub ruleset any_by = (any_more, any_here, any_end)

-- ---- where a name stands

module _ (name : List ℕ) (book : List Written) (i : ℕ) (a : Option ℕ) where
  pub place_more : (d : Written) → i < length book → place_from i name (drop i book) ≡ a → bytes_eq (get_or book i d).name name ≡ false → place_from (i + 1) name (drop (i + 1) book) ≡ a
  unfolding place_from
  place_more d lt e h = sym (ap (place_from i name) (cut book i d lt) ∙ rw h refl) ∙ e

  pub place_here : (d : Written) → i < length book → place_from i name (drop i book) ≡ a → bytes_eq (get_or book i d).name name ≡ true → Some i ≡ a
  unfolding place_from
  place_here d lt e h = sym (ap (place_from i name) (cut book i d lt) ∙ rw h refl) ∙ e

  pub place_end : length book ≤ i → place_from i name (drop i book) ≡ a → None ≡ a
  unfolding place_from
  place_end le e = sym (ap (place_from i name) (drop_all i book le)) ∙ e

pub ruleset places = (place_more, place_here, place_end)

-- ---- an entry

pub no_memory : (went : Went) (w : Walked) (fault : RecipeFault) → fault ≡ NoMemory → IsGone went (Err fault) w
no_memory went w fault is not = absurd (not is)

module _ (paths : KeyPathsOf) (is_condition : Bool) (above : List ℕ) (e : WrittenEntry) (w : Walked) where
  pub leaf_wrong : (fault : RecipeFault) (v : Walked) → IsOutcome (leaf_recipe paths e) (Err fault) → IsGone (leaf_entry paths is_condition above e w) (Err fault) v
  unfolding leaf_entry
  leaf_wrong fault v is not = ap (λ x. and_then x (λ leaf. without (leaf_fault is_condition e w.met) (Ok (with_leaf (record { recipe = leaf; name = e.name; conditions = above }) (counted w))))) (is not)

  pub leaf_faulty : (leaf : LeafRecipe) (fault : RecipeFault) (v : Walked) → IsOutcome (leaf_recipe paths e) (Ok leaf) → Some fault ≡ leaf_fault is_condition e w.met → IsGone (leaf_entry paths is_condition above e w) (Err fault) v
  unfolding leaf_entry
  leaf_faulty leaf fault v is there not =
      ap (λ x. and_then x (λ leaf. without (leaf_fault is_condition e w.met) (Ok (with_leaf (record { recipe = leaf; name = e.name; conditions = above }) (counted w))))) is
      ∙ ap (λ x. without x (Ok (with_leaf (record { recipe = leaf; name = e.name; conditions = above }) (counted w)))) (sym there)

  pub leaf_pushed : (leaf : LeafRecipe) (name conds : List ℕ) (pushed : List PlannedLeaf) → IsOutcome (leaf_recipe paths e) (Ok leaf) → None ≡ leaf_fault is_condition e w.met
      → pushed ≡ w.leaves ++ record { recipe = leaf; name = name; conditions = conds } ∷ [] → name ≡ e.name → conds ≡ above
      → leaf_entry paths is_condition above e w ≡ Ok (record { met = w.met + 1; conditions = w.conditions; again = w.again; leaves = pushed })
  unfolding leaf_entry
  leaf_pushed leaf name conds pushed is none there named conditional =
      ap (λ x. and_then x (λ leaf. without (leaf_fault is_condition e w.met) (Ok (with_leaf (record { recipe = leaf; name = e.name; conditions = above }) (counted w))))) is
      ∙ (ap (λ x. without x (Ok (with_leaf (record { recipe = leaf; name = e.name; conditions = above }) (counted w)))) (sym none)
      ∙ (ap (λ x. Ok (with_leaf (record { recipe = leaf; name = x; conditions = above }) (counted w))) (sym named)
      ∙ (ap (λ x. Ok (with_leaf (record { recipe = leaf; name = name; conditions = x }) (counted w))) (sym conditional)
      ∙ ap (λ x. Ok (record { met = w.met + 1; conditions = w.conditions; again = w.again; leaves = x })) (sym there))))

pub ruleset leaf_entries = (no_memory, leaf_faulty)

module _ (book : List Written) (paths : KeyPathsOf) (levels : ℕ) (around : List ℕ) (is_condition : Bool) (above : List ℕ) (e : WrittenEntry) (w : Walked) where
  pub no_level : (v : Walked) (fault : RecipeFault) → levels ≡ 0 → fault ≡ Wrong 10 (Some e.place) → IsGone (entry book paths levels around is_condition above e w) (Err fault) v
  unfolding entry
  no_level v fault none is not = ap (λ n. entry book paths n around is_condition above e w) none ∙ ap Err (sym is)

  abbrev entry_by : Option ℕ → Went
  entry_by None = leaf_entry paths is_condition above e w
  entry_by (Some r) = without (recipe_fault book around is_condition r e w.met) (recipe (entry book paths (levels - 1) (around ++ r ∷ [])) above (slice_index_or book r no_recipe) (counted w))

  by_level : (n : ℕ) → 0 < n → levels ≡ n → entry book paths n around is_condition above e w ≡ entry_by (place_from 0 e.name book)
  unfolding entry
  by_level zero lt is = absurd (omega arith)
  by_level (suc n) lt is =
      let less : levels - 1 ≡ n = omega (arith, is) in
      elim (place_from 0 e.name book) as (λ o. elim o [ None ↦ leaf_entry paths is_condition above e w | Some r ↦ without (recipe_fault book around is_condition r e w.met) (recipe (entry book paths n (around ++ r ∷ [])) above (slice_index_or book r no_recipe) (counted w)) ] ≡ entry_by o) [
        | None ↦ refl
        | Some r ↦ ap (λ m. without (recipe_fault book around is_condition r e w.met) (recipe (entry book paths m (around ++ r ∷ [])) above (slice_index_or book r no_recipe) (counted w))) (sym less)
      ]

  some_level : 0 < levels → entry book paths levels around is_condition above e w ≡ entry_by (place_from 0 e.name book)
  some_level lt = by_level levels lt refl

  pub entry_leaf : (r : Result (Unit {0}) RecipeFault) (v : Walked) → 0 < levels → None ≡ place_from 0 e.name book → IsGone (leaf_entry paths is_condition above e w) r v → IsGone (entry book paths levels around is_condition above e w) r v
  entry_leaf r v lt none gone = subst (λ x. IsGone x r v) (sym (some_level lt ∙ ap entry_by (sym none))) gone

  pub entry_fault : (r : ℕ) (v : Walked) (fault : RecipeFault) → 0 < levels → Some r ≡ place_from 0 e.name book → Some fault ≡ recipe_fault book around is_condition r e w.met → IsGone (entry book paths levels around is_condition above e w) (Err fault) v
  entry_fault r v fault lt some there not =
      some_level lt ∙ (ap entry_by (sym some) ∙ ap (λ o. without o (recipe (entry book paths (levels - 1) (around ++ r ∷ [])) above (slice_index_or book r no_recipe) (counted w))) (sym there))

  pub entry_recipe : (r : ℕ) (inside : List ℕ) (d : Written) (res : Result (Unit {0}) RecipeFault) (v : Walked)
      → 0 < levels → Some r ≡ place_from 0 e.name book → None ≡ recipe_fault book around is_condition r e w.met → r < length book → inside ≡ around ++ r ∷ []
      → IsGone (recipe (entry book paths (levels - 1) inside) above (get_or book r d) (counted w)) res v
      → IsGone (entry book paths levels around is_condition above e w) res v
  entry_recipe r inside d res v lt some there in_book is gone =
      let a : entry book paths levels around is_condition above e w ≡ recipe (entry book paths (levels - 1) (around ++ r ∷ [])) above (slice_index_or book r no_recipe) (counted w) =
      some_level lt ∙ (ap entry_by (sym some) ∙ ap (λ o. without o (recipe (entry book paths (levels - 1) (around ++ r ∷ [])) above (slice_index_or book r no_recipe) (counted w))) (sym there)) in
      let b : get_or book r d ≡ slice_index_or book r no_recipe = get_or_default book r d no_recipe in_book in
      subst (λ x. IsGone x res v) (sym a) (subst (λ x. IsGone (recipe (entry book paths (levels - 1) (around ++ r ∷ [])) above x (counted w)) res v) b
      (subst (λ x. IsGone (recipe (entry book paths (levels - 1) x) above (get_or book r d) (counted w)) res v) is gone))

-- ---- a precondition

module _ (walk : Entry) (e : WrittenEntry) (w v start : Walked) (above : List ℕ) where
  opened_walk : start ≡ opened w → above ≡ [] → walk true above e start ≡ walk true [] e (opened w)
  opened_walk is none = ap (λ x. walk true x e start) none ∙ ap (walk true [] e) is

  pub condition_goes : (u t : Unit {0}) (outer : List PlannedLeaf) (end : Walked) → IsGone (walk true above e start) (Ok u) v → start ≡ opened w → above ≡ [] → outer ≡ w.leaves → end ≡ closed outer v → IsGone (condition walk e w) (Ok t) end
  unfolding condition
  condition_goes u t outer end gone is none same ends =
      ap (λ x. and_then x (λ v. Ok (closed w.leaves v))) (sym (opened_walk is none) ∙ gone) ∙ (ap (λ x. Ok (closed x v)) (sym same) ∙ ap Ok (sym ends))

  pub condition_fault : (fault : RecipeFault) (end : Walked) → IsGone (walk true above e start) (Err fault) v → start ≡ opened w → above ≡ [] → IsGone (condition walk e w) (Err fault) end
  unfolding condition
  condition_fault fault end gone is none not = ap (λ x. and_then x (λ v. Ok (closed w.leaves v))) (sym (opened_walk is none) ∙ gone not)

-- ---- preconditions and lists

pub conditions_start : (walk : Entry) (above positions : List ℕ) (es : List WrittenEntry) (w : Walked) → positions ≡ above → conditions walk positions es w ≡ conditions walk above es w
conditions_start walk above positions es w same = ap (λ x. conditions walk x es w) same

module _ (walk : Entry) (es : List WrittenEntry) (i : ℕ) (d : WrittenEntry) (above : List ℕ) (w v : Walked) where
  conditions_cut : i < length es → get_or es i d ≡ d → conditions walk above (drop i es) w ≡ and_then (condition walk d w) (λ v. conditions walk (above ++ (length v.conditions - 1) ∷ []) (drop (i + 1) es) v)
  unfolding conditions
  conditions_cut lt at = ap (λ xs. conditions walk above xs w) (cut es i d lt ∙ ap (λ x. x ∷ drop (i + 1) es) at)

  pub conditions_more : (all : Result (Walked × List ℕ) RecipeFault) (longer : List ℕ) (u : Unit {0}) → i < length es → get_or es i d ≡ d → conditions walk above (drop i es) w ≡ all
      → IsGone (condition walk d w) (Ok u) v → longer ≡ above ++ (length v.conditions - 1) ∷ []
      → conditions walk longer (drop (i + 1) es) v ≡ all
  conditions_more all longer u lt at e gone is =
      ap (λ x. conditions walk x (drop (i + 1) es) v) is
      ∙ (sym (conditions_cut lt at ∙ ap (λ x. and_then x (λ v. conditions walk (above ++ (length v.conditions - 1) ∷ []) (drop (i + 1) es) v)) gone) ∙ e)

  pub conditions_fault : (all : Result (Walked × List ℕ) RecipeFault) (fault : RecipeFault) → i < length es → get_or es i d ≡ d → conditions walk above (drop i es) w ≡ all
      → IsGone (condition walk d w) (Err fault) v → fault ≢ NoMemory → all ≡ Err fault
  conditions_fault all fault lt at e gone not =
      sym e ∙ (conditions_cut lt at ∙ ap (λ x. and_then x (λ v. conditions walk (above ++ (length v.conditions - 1) ∷ []) (drop (i + 1) es) v)) (gone not))

  each_cut : i < length es → get_or es i d ≡ d → each (walk false above) (drop i es) w ≡ and_then (walk false above d w) (each (walk false above) (drop (i + 1) es))
  unfolding each
  each_cut lt at = ap (λ xs. each (walk false above) xs w) (cut es i d lt ∙ ap (λ x. x ∷ drop (i + 1) es) at)

  pub each_more : (all : Went) (u : Unit {0}) → i < length es → get_or es i d ≡ d → each (walk false above) (drop i es) w ≡ all → IsGone (walk false above d w) (Ok u) v → each (walk false above) (drop (i + 1) es) v ≡ all
  each_more all u lt at e gone = sym (each_cut lt at ∙ ap (λ x. and_then x (each (walk false above) (drop (i + 1) es))) gone) ∙ e

  pub each_fault : (all : Went) (end : Walked) (fault : RecipeFault) → i < length es → get_or es i d ≡ d → each (walk false above) (drop i es) w ≡ all → IsGone (walk false above d w) (Err fault) v → IsGone all (Err fault) end
  each_fault all end fault lt at e gone not = sym e ∙ (each_cut lt at ∙ ap (λ x. and_then x (each (walk false above) (drop (i + 1) es))) (gone not))

module _ (walk : Entry) (es : List WrittenEntry) (i : ℕ) (above : List ℕ) (w : Walked) where
  pub conditions_end : (all : Result (Walked × List ℕ) RecipeFault) → length es ≤ i → conditions walk above (drop i es) w ≡ all → all ≡ Ok (w, above)
  unfolding conditions
  conditions_end all le e = sym e ∙ ap (λ xs. conditions walk above xs w) (drop_all i es le)

  pub each_end : (all : Went) → length es ≤ i → each (walk false above) (drop i es) w ≡ all → all ≡ Ok w
  unfolding each
  each_end all le e = sym e ∙ ap (λ xs. each (walk false above) xs w) (drop_all i es le)

-- ---- a recipe

module _ (walk : Entry) (above : List ℕ) (r : Written) (w start : Walked) (es : List WrittenEntry) where
  pub recipe_fault_in_conditions : (fault : RecipeFault) → start ≡ noted r.again w → es ≡ r.conditions
      → (fault ≢ NoMemory → conditions walk above es start ≡ Err fault) → fault ≢ NoMemory → recipe walk above r w ≡ Err fault
  unfolding recipe
  recipe_fault_in_conditions fault is same gone not =
      ap (λ x. and_then (conditions walk above x (noted r.again w)) (λ p. each (walk false p.1) r.list p.0)) (sym same)
      ∙ (ap (λ x. and_then (conditions walk above es x) (λ p. each (walk false p.1) r.list p.0)) (sym is)
      ∙ ap (λ x. and_then x (λ p. each (walk false p.1) r.list p.0)) (gone not))

  pub recipe_goes : (v : Walked) (positions given : List ℕ) (list : List WrittenEntry) (all : Went) → start ≡ noted r.again w → es ≡ r.conditions
      → conditions walk above es start ≡ Ok (v, positions) → list ≡ r.list → given ≡ positions → each (walk false given) list v ≡ all → recipe walk above r w ≡ all
  unfolding recipe
  recipe_goes v positions given list all is same gone listed as_given e =
      ap (λ x. and_then (conditions walk above x (noted r.again w)) (λ p. each (walk false p.1) r.list p.0)) (sym same)
      ∙ (ap (λ x. and_then (conditions walk above es x) (λ p. each (walk false p.1) r.list p.0)) (sym is)
      ∙ (ap (λ x. and_then x (λ p. each (walk false p.1) r.list p.0)) gone
      ∙ (ap (λ x. each (walk false positions) x v) (sym listed)
      ∙ (ap (λ x. each (walk false x) list v) (sym as_given) ∙ e))))

  pub recipe_fault_in_list : (v : Walked) (positions given : List ℕ) (list : List WrittenEntry) (fault : RecipeFault) → start ≡ noted r.again w → es ≡ r.conditions
      → conditions walk above es start ≡ Ok (v, positions) → list ≡ r.list → given ≡ positions → (fault ≢ NoMemory → each (walk false given) list v ≡ Err fault)
      → fault ≢ NoMemory → recipe walk above r w ≡ Err fault
  recipe_fault_in_list v positions given list fault is same gone listed as_given e not = recipe_goes v positions given list (Err fault) is same gone listed as_given (e not)

pub ruleset walks = (no_memory, no_level, entry_leaf, entry_fault, entry_recipe, condition_goes, condition_fault)
