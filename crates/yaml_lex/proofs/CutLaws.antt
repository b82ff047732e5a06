-- A file has leaves, and one list of them.
use Rattle.std.proofs.Common.{◌≡◌, ℕ, suc, zero, ◌+◌, ◌<◌, ◌≤◌, Bool, List, [], ◌∷◌, ◌++◌, length, take, drop, Option, Some, None, refl, sym, ◌∙◌, ap, subst, arith}
use Rattle.std.proofs.lemmas.List.{length-drop}
use Rattle.rw_base.specs.declared.tree.Leaf.{Leaf}
use Rattle.rw_base.specs.declared.leaves.Bad.{Bad}
use Rattle.yaml_lex.specs.declared.context.Context.{Context}
use Rattle.yaml_lex.specs.declared.collections.Collection.{Collection}
use Rattle.yaml_lex.specs.Contexts.{start, past, past_leaf}
use Rattle.yaml_lex.specs.Collections.{open_behind, textless_before, closes}
use Rattle.rw_base.specs.Utf8.{utf8_front, is_broken, mark_size, behind_mark}
use Rattle.yaml_lex.specs.Leaves.{Cuts, passed, leaf, ended, stopped, end_leaf, leaf_from, form_of, AreYamlLeaves}
use Rattle.yaml_lex.proofs.TextLaws.{text-inside}
use Rattle.yaml_lex.proofs.StepLaws.{Step, pass, next, finish, bad, IsStep, step-one, step-of, passed-inside}

-- ---- one list

-- what is left behind a step
abbrev Rest : Bool → ℕ → ℕ → Context → List Collection → List ℕ → List Leaf → Option Bad → Step → Type 0
Rest broken from at p os s leaves b (pass n) = Cuts broken from (at + n) (past p (take n s)) os (drop n s) leaves b
Rest broken from at p os s leaves b (next class n) =
    (more : List Leaf) × Cuts broken (at + n) (at + n) (past_leaf class s (past p (take n s))) (open_behind p class os) (drop n s) more b
    × (leaves ≡ textless_before from p class os ++ leaf_from from at n class ∷ more)
Rest broken from at p os s leaves b finish = (leaves ≡ closes from (length os) ++ end_leaf from at ∷ []) × (b ≡ None)
Rest broken from at p os s leaves b (bad n cause) = (leaves ≡ end_leaf from (at + n) ∷ []) × (b ≡ Some (record { byte = at + n; cause = cause }))

first-step : (broken : Bool) (from at : ℕ) (p : Context) (os : List Collection) (s : List ℕ) (leaves : List Leaf) (b : Option Bad)
    → Cuts broken from at p os s leaves b → (st : Step) × IsStep broken p os s st × Rest broken from at p os s leaves b st
first-step broken from at p os s leaves b (passed n step cut) = (pass n, step, cut)
first-step broken from at p os s leaves b (leaf {leaves = more} class n h fine cut is) = (next class n, (h, fine), (more, cut, is))
first-step broken from at p os s leaves b (ended e whole is) = (finish, (e, whole), (is, refl))
first-step broken from at p os s leaves b (stopped n cause h) = (bad n cause, h, (refl, refl))

-- what is left behind a step that is known
behind : (broken : Bool) (from at : ℕ) (p : Context) (os : List Collection) (s : List ℕ) (leaves : List Leaf) (b : Option Bad) (st : Step)
    → IsStep broken p os s st → Cuts broken from at p os s leaves b → Rest broken from at p os s leaves b st
behind broken from at p os s leaves b st is cut =
    let w = first-step broken from at p os s leaves b cut in
    subst (λ x. Rest broken from at p os s leaves b x) (step-one broken p os s w.0 st w.1 is) w.2

cuts-one : (broken : Bool) (from at : ℕ) (p : Context) (os : List Collection) (s : List ℕ) (leaves : List Leaf) (b : Option Bad)
    → Cuts broken from at p os s leaves b → (others : List Leaf) (worse : Option Bad) → Cuts broken from at p os s others worse
    → (leaves ≡ others) × (b ≡ worse)
cuts-one broken from at p os s leaves b (passed n step cut) others worse other =
    cuts-one broken from (at + n) (past p (take n s)) os (drop n s) leaves b cut others worse (behind broken from at p os s others worse (pass n) step other)
cuts-one broken from at p os s leaves b (leaf {leaves = more} class n h fine cut is) others worse other =
    let r = behind broken from at p os s others worse (next class n) (h, fine) other in
    let same = cuts-one broken (at + n) (at + n) (past_leaf class s (past p (take n s))) (open_behind p class os) (drop n s) more b cut r.0 worse r.1 in
    (is ∙ ap (λ ls. textless_before from p class os ++ leaf_from from at n class ∷ ls) same.0 ∙ sym r.2, same.1)
cuts-one broken from at p os s leaves b (ended e whole is) others worse other =
    let r = behind broken from at p os s others worse finish (e, whole) other in (is ∙ sym r.0, sym r.1)
cuts-one broken from at p os s leaves b (stopped n cause h) others worse other =
    let r = behind broken from at p os s others worse (bad n cause) h other in (sym r.0, sym r.1)

pub leaves-one : (bytes : List ℕ) (leaves others : List Leaf) (b worse : Option Bad) → AreYamlLeaves bytes leaves b → AreYamlLeaves bytes others worse
    → (leaves ≡ others) × (b ≡ worse)
unfolding AreYamlLeaves
leaves-one bytes leaves others b worse f g =
    cuts-one (is_broken bytes) 0 (mark_size (utf8_front bytes)) start [] (behind_mark (utf8_front bytes)) leaves b f others worse g

-- ---- there is a list

abbrev SomeCut : Bool → ℕ → ℕ → Context → List Collection → List ℕ → Type 0
SomeCut broken from at p os s = (leaves : List Leaf) × (b : Option Bad) × Cuts broken from at p os s leaves b

-- all shorter texts are cut
abbrev Shorter : Bool → ℕ → Type 0
Shorter broken k = (from at : ℕ) (p : Context) (os : List Collection) (t : List ℕ) → length t < k → SomeCut broken from at p os t

shorter-by : (n k : ℕ) (s : List ℕ) → 0 < n → n ≤ length s → length s < suc k → length (drop n s) < k
shorter-by n k s some fits low = omega (arith, length-drop n s)

cut-step : (k : ℕ) (broken : Bool) (from at : ℕ) (p : Context) (os : List Collection) (s : List ℕ) (st : Step) → length s < suc k → Shorter broken k
    → IsStep broken p os s st → SomeCut broken from at p os s
cut-step k broken from at p os s (pass n) low rest h =
    let fits = passed-inside p s n h in
    let r = rest from (at + n) (past p (take n s)) os (drop n s) (shorter-by n k s fits.0 fits.1 low) in
    (r.0, r.1, passed n h r.2)
cut-step k broken from at p os s (next class n) low rest h =
    let fits = text-inside (form_of p s) p os s n refl h.0.place.some h.0.text in
    let r = rest (at + n) (at + n) (past_leaf class s (past p (take n s))) (open_behind p class os) (drop n s) (shorter-by n k s fits.0 fits.1 low) in
    (textless_before from p class os ++ leaf_from from at n class ∷ r.0, r.1, leaf class n h.0 h.1 r.2 refl)
cut-step k broken from at p os s finish low rest h = (closes from (length os) ++ end_leaf from at ∷ [], None, ended h.0 h.1 refl)
cut-step k broken from at p os s (bad n cause) low rest h = (end_leaf from (at + n) ∷ [], Some (record { byte = at + n; cause = cause }), stopped n cause h)

cut-of : (k : ℕ) (broken : Bool) (from at : ℕ) (p : Context) (os : List Collection) (s : List ℕ) → length s < k → SomeCut broken from at p os s
cut-of zero broken from at p os s low = absurd (omega arith)
cut-of (suc k) broken from at p os s low =
    let w = step-of broken p os s in
    cut-step k broken from at p os s w.0 low (λ f a q us t less. cut-of k broken f a q us t less) w.1

pub leaves-of : (bytes : List ℕ) → (leaves : List Leaf) × (b : Option Bad) × AreYamlLeaves bytes leaves b
unfolding AreYamlLeaves
leaves-of bytes =
    cut-of (length (behind_mark (utf8_front bytes)) + 1) (is_broken bytes) 0 (mark_size (utf8_front bytes)) start [] (behind_mark (utf8_front bytes)) (omega arith)
