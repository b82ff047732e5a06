-- A run over numbered leaves.
use Rattle.std.proofs.Common.{◌≡◌, ℕ, zero, suc, ◌+◌, ◌-◌, ◌<◌, ◌≤◌, List, [], ◌∷◌, ◌++◌, length, drop, take, refl, sym, ◌∙◌, ap, subst, inl, inr, true, false, arith, append-nil}
use Rattle.std.specs.Prelude.{Option, Some, None}
use Rattle.std.specs.Option.{option_map}
use Rattle.std.proofs.lemmas.Bool.{cases_order}
use Rattle.std.proofs.lemmas.Option.{slice_get-get_or, slice_get_past}
use Rattle.rw_base.specs.declared.tree.Leaf.{Leaf}
use Rattle.rw_base.specs.declared.tree.Part.{Part}
use Rattle.rw_base.specs.declared.tree.Part.TheVariants as part
use Rattle.rw_base.specs.declared.tree.NodeRow.{NodeRow}
use Rattle.rw_base.specs.Arena.{leaf_at, no_leaf}
use Rattle.rw_base.specs.Trees.{none, leaf, node, Forest, beside, numbers}
use Rattle.rw_base.specs.Laid.{parts_from, rows_from}
use Rattle.rw_base.specs.LaidLaws.{length-parts, trees_beside}
use Rattle.rw_grammar.specs.declared.machine.Task.{Task}
use Rattle.rw_grammar.specs.declared.machine.Task.TheVariants as task
use Rattle.rw_grammar.specs.declared.machine.Moved.{Moved}
use Rattle.rw_grammar.specs.declared.machine.Moved.TheVariants as moved
use Rattle.rw_grammar.specs.Parts.{Parts, end, rule_of}
use Rattle.rw_grammar.specs.Derivation.{wrapped, DerivesTree}
use Rattle.rw_grammar.specs.Viability.{StopsAt}
use Rattle.rw_grammar.specs.Faults.{IsFine}
use Rattle.rw_grammar.specs.Machine.{Todo, derive, close, Kept, Acts, Does, ends, takes, outer, Matches, backwards, Standing, is_node}
use Rattle.rw_grammar.specs.Results.{class_in, class_next, all_of, AreRowsOf}
use Rattle.rw_grammar.proofs.Steps.{class_of, end_same}
use Rattle.rw_grammar.proofs.Runs.{kept_same, kept_ok, end_stops, took_stands, to_stands, stuck_at, ended_derives, ended_closes, backwards_push}

pub drop_numbers : (at from n : ℕ) → drop at (numbers from n) ≡ numbers (from + at) (n - at)
drop_numbers zero from n = let a : from ≡ from + 0 = omega arith in let b : n ≡ n - 0 = omega arith in ap (λ i. numbers i n) a ∙ ap (numbers (from + 0)) b
drop_numbers (suc at) from zero = let b : 0 ≡ 0 - suc at = omega arith in ap (numbers (from + suc at)) b
drop_numbers (suc at) from (suc n) =
    let a : (from + 1) + at ≡ from + suc at = omega arith in
    let b : n - at ≡ suc n - suc at = omega arith in
    drop_numbers at (from + 1) n ∙ (ap (λ i. numbers i (n - at)) a ∙ ap (numbers (from + suc at)) b)

-- where a leaf is left, it is the one of this number
pub next_leaf : (at n : ℕ) → at < n → drop at (numbers 0 n) ≡ at ∷ numbers (at + 1) (n - at - 1)
next_leaf at n lt =
    let a : 0 + at ≡ at = omega arith in
    let b : n - at ≡ suc (n - at - 1) = omega arith in
    drop_numbers at 0 n ∙ (ap (λ i. numbers i (n - at)) a ∙ ap (numbers at) b)

pub no_leaf_left : (at n : ℕ) → n ≤ at → drop at (numbers 0 n) ≡ []
no_leaf_left at n le = let b : n - at ≡ 0 = omega arith in drop_numbers at 0 n ∙ ap (numbers (0 + at)) b

pub length-numbers : (from n : ℕ) → length (numbers from n) ≡ n
length-numbers from zero = refl
length-numbers from (suc n) = ap suc (length-numbers (from + 1) n)

pub next_class : (rules : ℕ → Parts) (leaves : List Leaf) (at : ℕ) → class_next leaves at ≡ class_of rules (class_in leaves) (drop at (all_of leaves))
unfolding class_of leaf_at
next_class rules leaves at =
    elim (cases_order at (length leaves)) [
      | inl same ↦ past (omega arith)
      | inr o ↦ elim o [ inl lt ↦ before lt | inr gt ↦ past (omega arith) ]
    ]
  where
    before : at < length leaves → class_next leaves at ≡ class_of rules (class_in leaves) (drop at (all_of leaves))
    before lt = ap (option_map (λ l. l.class)) (slice_get-get_or leaves at no_leaf lt) ∙ sym (ap (class_of rules (class_in leaves)) (next_leaf at (length leaves) lt))

    past : length leaves ≤ at → class_next leaves at ≡ class_of rules (class_in leaves) (drop at (all_of leaves))
    past le = ap (option_map (λ l. l.class)) (slice_get_past leaves at le) ∙ sym (ap (class_of rules (class_in leaves)) (no_leaf_left at (length leaves) le))

-- a rule's tree is one node
pub one_node : (r : ℕ) (f : Forest) → (k : ℕ) × (kids : Forest) × (wrapped r f ≡ node tt k kids none)
one_node r none = (r, none, refl)
one_node r (leaf i f) = (r, leaf i f, refl)
one_node r (node u k kids none) = (k, kids, refl)
one_node r (node u k kids (leaf i f)) = (r, node u k kids (leaf i f), refl)
one_node r (node u k kids (node v j more f)) = (r, node u k kids (node v j more f), refl)

module _ (rules : ℕ → Parts) (start rule_count count : ℕ) (shape : ℕ → Parts) (leaves : List Leaf) (each : (r : ℕ) → IsFine rules rule_count (rules r)) where
  abbrev Stands : ℕ → Parts → List Task → List Part → List NodeRow → Type 0
  Stands at p tasks parts rows = Standing rules (class_in leaves) start rule_count count shape (all_of leaves) at p tasks parts rows

  module _ (at : ℕ) (tasks : List Task) (parts : List Part) (rows : List NodeRow) where
    pub took : (current place n : ℕ) (pushed : List Task) (p : Parts) → Acts rules shape count (class_next leaves at) current at place p (moved.Took n) pushed → Stands at p tasks parts rows →
        (n < count) × (at < length leaves) × Stands (at + 1) (shape n) (tasks ++ pushed) (parts ++ part.Leaf at ∷ []) rows
    unfolding class_of
    took current place n pushed p a s = elim (cases_order at (length leaves)) [
      | inl same ↦ none_left (omega arith)
      | inr o ↦ elim o [ inl lt ↦ some_left lt | inr gt ↦ none_left (omega arith) ]
    ]
      where
        some_left : at < length leaves → (n < count) × (at < length leaves) × Stands (at + 1) (shape n) (tasks ++ pushed) (parts ++ part.Leaf at ∷ []) rows
        some_left lt =
            let t = took_stands rules (class_in leaves) start rule_count count shape (all_of leaves) each at tasks parts rows current place n at (numbers (at + 1) (length leaves - at - 1)) pushed (class_next leaves at) p (next_leaf at (length leaves) lt) refl (next_class rules leaves at) a s in
            (t.0, lt, t.2)

        taken : (q : List Task) → Acts rules shape count (class_next leaves at) current at place p (moved.Took n) q → (c : ℕ) × (class_next leaves at ≡ Some c)
        taken q (takes {c = c} e lt h) = (c, h)

        none_left : length leaves ≤ at → (n < count) × (at < length leaves) × Stands (at + 1) (shape n) (tasks ++ pushed) (parts ++ part.Leaf at ∷ []) rows
        none_left le =
            let t = taken pushed a in
            let no : None ≡ Some t.0 = sym (next_class rules leaves at ∙ ap (class_of rules (class_in leaves)) (no_leaf_left at (length leaves) le)) ∙ t.1 in
            absurd (cc)

    -- nothing is left to do
    done : (current place : ℕ) (pushed : List Task) (next : Option ℕ) (p : Parts) → tasks ++ pushed ≡ [] → Acts rules shape count next current at place p moved.Ended pushed → Stands at p tasks parts rows →
        (d : Forest) × Kept rules (class_in leaves) start (all_of leaves) at [] d × (rows ≡ rows_from 0 0 d) × (at ≤ length (all_of leaves))
    done current place pushed next p e (ends q) s = go s.todo s.trees (subst (λ cs. Matches count shape (backwards cs) s.todo) (sym (append-nil tasks) ∙ e) s.matches) (subst (λ w. Kept rules (class_in leaves) start (all_of leaves) at (derive w ∷ s.todo) s.trees) q s.kept) s.rows_are s.within
      where
        go : (todo : List Todo) (d : Forest) → Matches count shape [] todo → Kept rules (class_in leaves) start (all_of leaves) at (derive end ∷ todo) d → rows ≡ rows_from 0 0 (beside (outer todo) d) → at ≤ length (all_of leaves) →
            (x : Forest) × Kept rules (class_in leaves) start (all_of leaves) at [] x × (rows ≡ rows_from 0 0 x) × (at ≤ length (all_of leaves))
        go [] d m k r w = (d, kept_same rules (class_in leaves) start (all_of leaves) at (derive end ∷ []) [] d d k (end_same rules (class_in leaves) [] d (drop at (all_of leaves))), r, w)
        go (derive x ∷ ts) d m k r w = absurd m
        go (close n a ∷ ts) d m k r w = absurd m

    pub all_taken : (rule_list : List Parts) (current place : ℕ) (pushed : List Task) (next : Option ℕ) (p : Parts) → rules ≡ rule_of rule_list → at ≡ length leaves → tasks ++ pushed ≡ [] → Acts rules shape count next current at place p moved.Ended pushed → Stands at p tasks parts rows → AreRowsOf rule_list start leaves rows
    all_taken rule_list current place pushed next p same at_end e a s =
        let d = done current place pushed next p e a s in
        let t = kept_ok rules (class_in leaves) start (all_of leaves) at d.0 (omega (arith, at_end, length-numbers 0 (length leaves))) d.1 in
        let n = one_node start t.trees in
        record {
          kind = n.0;
          kids = n.1;
          derived = subst (λ w. DerivesTree w (class_in leaves) start (all_of leaves) (node tt n.0 n.1 none)) same (record { trees = t.trees; derived = t.derived; is = sym n.2 });
          are = d.2 ∙ ap (rows_from 0 0) (t.is ∙ n.2);
        }

    pub not_all_taken : (current place : ℕ) (pushed : List Task) (next : Option ℕ) (p : Parts) → (at ≡ length leaves → ⊥) → tasks ++ pushed ≡ [] → Acts rules shape count next current at place p moved.Ended pushed → Stands at p tasks parts rows → StopsAt rules (class_in leaves) (rules start) (all_of leaves) at
    not_all_taken current place pushed next p n e a s =
        let d = done current place pushed next p e a s in
        end_stops rules (class_in leaves) start (all_of leaves) at d.0 d.3 (λ h. n (h ∙ length-numbers 0 (length leaves))) d.1

  module _ (at : ℕ) (tasks tasks' : List Task) (parts : List Part) (rows : List NodeRow) (current place : ℕ) (next : Option ℕ) (to : Moved) (next_is : next ≡ class_next leaves at)
      (d : Does rules shape count next current at place tasks tasks' to) (s : Stands at (shape current) tasks parts rows) where
    next_of : next ≡ class_of rules (class_in leaves) (drop at (all_of leaves))
    next_of = next_is ∙ next_class rules leaves at

    acts : (m : Moved) → to ≡ m → Acts rules shape count next current at place (shape current) m d.pushed
    acts m e = subst (λ w. Acts rules shape count next current at place (shape current) w d.pushed) e d.acts

    pub goes_to : (n : ℕ) → to ≡ moved.To n → current < count → place ≡ length parts → (n < count) × Stands at (shape n) tasks' parts rows
    goes_to n e inside place_is =
        let t = to_stands rules (class_in leaves) start rule_count count shape (all_of leaves) each at tasks parts rows current place n d.pushed next (shape current) inside refl place_is next_of (acts (moved.To n) e) s in
        (t.0, subst (λ ts. Stands at (shape n) ts parts rows) (sym d.tasks) t.1)

    pub takes_leaf : (n : ℕ) → to ≡ moved.Took n → (n < count) × (at < length leaves) × Stands (at + 1) (shape n) tasks' (parts ++ part.Leaf at ∷ []) rows
    takes_leaf n e =
        let t = took at tasks parts rows current place n d.pushed (shape current) (subst (λ o. Acts rules shape count o current at place (shape current) (moved.Took n) d.pushed) next_is (acts (moved.Took n) e)) s in
        (t.0, t.1, subst (λ ts. Stands (at + 1) (shape n) ts (parts ++ part.Leaf at ∷ []) rows) (sym d.tasks) t.2)

    pub stops_here : to ≡ moved.Stuck → StopsAt rules (class_in leaves) (rules start) (all_of leaves) at
    stops_here e = stuck_at rules (class_in leaves) start rule_count count shape (all_of leaves) each at tasks parts rows current place d.pushed next (shape current) next_of (acts moved.Stuck e) s

    pub resumes : (n : ℕ) (rest : List Task) → to ≡ moved.Ended → tasks' ≡ rest ++ task.Derive n ∷ [] → (n < count) × Stands at (shape n) rest parts rows
    resumes n rest e q = ended_derives rules (class_in leaves) start rule_count count shape (all_of leaves) each at tasks parts rows place current n d.pushed rest next (shape current) (sym d.tasks ∙ q) (acts moved.Ended e) s

    pub place_within : (r spot first : ℕ) (rest : List Task) → to ≡ moved.Ended → tasks' ≡ rest ++ task.Close r spot first ∷ [] → spot ≤ length parts
    place_within r spot first rest e q = ended (acts moved.Ended e)
      where
        go : (todo : List Todo) (x : Forest) → Matches count shape (task.Close r spot first ∷ backwards rest) todo → parts ≡ parts_from 0 (beside (outer todo) x) → spot ≤ length parts
        go [] x m p = absurd m
        go (derive y ∷ ts) x m p = absurd m
        go (close w a ∷ ts) x m p =
            let front = beside (outer ts) a in
            omega (arith, m.1, ap length p, length-parts 0 front, length-parts 0 (beside front x), trees_beside front x)

        nothing_pushed : (pushed : List Task) → Acts rules shape count next current at place (shape current) moved.Ended pushed → tasks ++ pushed ≡ tasks
        nothing_pushed pushed (ends h) = append-nil tasks

        ended : Acts rules shape count next current at place (shape current) moved.Ended d.pushed → spot ≤ length parts
        ended a = go s.todo s.trees (subst (λ cs. Matches count shape cs s.todo) (ap backwards (sym (nothing_pushed d.pushed a) ∙ (sym d.tasks ∙ q)) ∙ backwards_push rest (task.Close r spot first)) s.matches) s.parts_are

    pub closes : (r spot first : ℕ) (rest : List Task) (parts' : List Part) (rows' : List NodeRow) → to ≡ moved.Ended → tasks' ≡ rest ++ task.Close r spot first ∷ [] →
        (is_node (drop spot parts) ≡ true → (parts' ≡ parts) × (rows' ≡ rows)) →
        (is_node (drop spot parts) ≡ false → parts' ≡ take spot parts ++ part.Node (record { 0 = length rows }) ∷ []) →
        (is_node (drop spot parts) ≡ false → rows' ≡ rows ++ record { kind = r; first = first; past = at; parts = drop spot parts } ∷ []) →
        Stands at (shape current) rest parts' rows'
    closes r spot first rest parts' rows' e q alone made_parts made_row =
        ended_closes rules (class_in leaves) start rule_count count shape (all_of leaves) each at tasks parts rows current place r spot first d.pushed rest next (shape current) parts' rows' refl (sym d.tasks ∙ q) (acts moved.Ended e) s alone (λ h. (made_parts h, made_row h))

    pub finishes : (rule_list : List Parts) → rules ≡ rule_of rule_list → to ≡ moved.Ended → tasks' ≡ [] → at ≡ length leaves → AreRowsOf rule_list start leaves rows
    finishes rule_list same e q at_end = all_taken at tasks parts rows rule_list current place d.pushed next (shape current) same at_end (sym d.tasks ∙ q) (acts moved.Ended e) s

    pub ends_early : to ≡ moved.Ended → tasks' ≡ [] → (at ≡ length leaves → ⊥) → StopsAt rules (class_in leaves) (rules start) (all_of leaves) at
    ends_early e q n = not_all_taken at tasks parts rows current place d.pushed next (shape current) n (sym d.tasks ∙ q) (acts moved.Ended e) s
