-- A run of the machine, from its start to its end.
use Rattle.std.proofs.Common.{◌≡◌, ℕ, zero, suc, ◌+◌, ◌<◌, ◌≤◌, List, [], ◌∷◌, ◌++◌, length, take, drop, arith, refl, sym, ◌∙◌, ap, subst, inl, inr, append_assoc, append-nil, add-one, Bool, true, false}
use Rattle.std.specs.Prelude.{Option, Some, ◌↔◌}
use Rattle.std.proofs.lemmas.List.{drop_all}
use Rattle.std.proofs.lemmas.Bool.{false≢true, cases_order}
use Rattle.rw_base.specs.declared.tree.Part.{Part}
use Rattle.rw_base.specs.declared.tree.Part.TheVariants as part
use Rattle.rw_base.specs.declared.tree.NodeRow.{NodeRow}
use Rattle.rw_base.specs.Trees.{none, leaf, node, Forest, beside, width, size, trees_in}
use Rattle.rw_base.specs.Laid.{parts_from, rows_from}
use Rattle.rw_base.specs.LaidLaws.{beside_none, beside_assoc, width_beside, leaf_rows, leaf_parts, close_rows, close_parts, front_parts, back_parts, length-parts}
use Rattle.rw_grammar.specs.declared.machine.Task.{Task}
use Rattle.rw_grammar.specs.declared.machine.Task.TheVariants as task
use Rattle.rw_grammar.specs.declared.machine.Moved.TheVariants as moved
use Rattle.rw_grammar.specs.Parts.{Parts, end, one, rule, choice, opt, many}
use Rattle.rw_grammar.specs.Derivation.{wrapped, Derives, by-end, by-one, by-rule, by-choice, by-empty, by-opt, by-no-opt, by-more, by-no-more, DerivesTree}
use Rattle.rw_grammar.specs.Viability.{Viable, so-far, past-one, past-rule, past-choice, past-empty, past-opt, no-opt, past-more, no-more, StopsAt}
use Rattle.rw_grammar.specs.Faults.{IsFine}
use Rattle.rw_grammar.specs.Machine.{Todo, derive, close, Comes, Goes_on, Meets, Kept, Begins, Picks, Acts, ends, takes, differs, opens, chooses, begins-none, takes-option, leaves-option, repeats, goes-on, outer, Matches, AllFine, backwards, Standing, is_node}
use Rattle.rw_grammar.specs.TreeLaws.{fine_at}
use Rattle.rw_grammar.proofs.Steps.{Same, Takes, Stuck, class_of, goes_begins, begins_goes, rule_same, opt_same, no_opt_same, more_same, no_more_same, pick_same, end_same, one_takes, one_stuck, choice_stuck, goes_nowhere}

past_next : (at : ℕ) (ls : List ℕ) (l : ℕ) (more : List ℕ) → drop at ls ≡ l ∷ more → (drop (suc at) ls ≡ more) × (take (suc at) ls ≡ take at ls ++ l ∷ []) × (at < length ls)
past_next zero [] l more e = absurd (cc)
past_next (suc at) [] l more e = absurd (cc)
past_next zero (x ∷ ls) l more e = ((cc), ap (λ y. y ∷ []) (cc), omega arith)
past_next (suc at) (x ∷ ls) l more e = let n = past_next at ls l more e in (n.0, ap (λ ys. x ∷ ys) n.1, omega (arith, n.2))

some_left : (at : ℕ) (ls : List ℕ) → at < length ls → (l : ℕ) × (more : List ℕ) × (drop at ls ≡ l ∷ more)
some_left at [] h = absurd (omega arith)
some_left zero (x ∷ ls) h = (x, ls, refl)
some_left (suc at) (x ∷ ls) h = some_left at ls (omega arith)

module _ (rules : ℕ → Parts) (class : ℕ → ℕ) where
  derived_viable : {a : Parts} {ls rest : List ℕ} {f : Forest} → Derives rules class a ls rest f → rest ≡ [] → Viable rules class a ls
  derived_viable by-end e = so-far e
  derived_viable (by-one h d) e = past-one h (derived_viable d e)
  derived_viable (by-rule d d' p) e = past-rule d (derived_viable d' e)
  derived_viable (by-choice i g d d' p) e = past-choice i g d (derived_viable d' e)
  derived_viable (by-empty n i k d d' p) e = past-empty n i k d (derived_viable d' e)
  derived_viable (by-opt g d d' p) e = past-opt g d (derived_viable d' e)
  derived_viable (by-no-opt n d) e = no-opt n (derived_viable d e)
  derived_viable (by-more g d d' p) e = past-more g d (derived_viable d' e)
  derived_viable (by-no-more n d) e = no-more n (derived_viable d e)

  module _ (start : ℕ) (ls : List ℕ) where
    start_viable : (q : List ℕ) → Goes_on rules class (derive (rules start) ∷ close start none ∷ []) q → Viable rules class (rules start) q
    start_viable q (inl v) = v
    start_viable q (inr e) = derived_viable e.2 e.3

    pub kept_start : Kept rules class start ls 0 (derive (rules start) ∷ close start none ∷ []) none
    kept_start = record { comes = λ t. (λ e. e, λ e. e); goes = λ q m. (λ e. e, λ e. e); fronts = λ k le. so-far (no_front k le) }
      where
        no_front : (k : ℕ) → k ≤ 0 → take k ls ≡ []
        no_front zero le = refl
        no_front (suc k) le = absurd (omega arith)

    pub kept_same : (at : ℕ) (ts ts' : List Todo) (d d' : Forest) → Kept rules class start ls at ts d → Same rules class (drop at ls) ts d ts' d' → Kept rules class start ls at ts' d'
    kept_same at ts ts' d d' k s = record {
      comes = λ t. (λ e. (s.comes t).0 ((k.comes t).0 e), λ e. (k.comes t).1 ((s.comes t).1 e));
      goes = λ q m. (λ e. (s.goes q m).0 ((k.goes q m).0 e), λ e. (k.goes q m).1 ((s.goes q m).1 e));
      fronts = k.fronts;
    }

    pub kept_back : (at : ℕ) (ts ts' : List Todo) (d d' : Forest) → Kept rules class start ls at ts d → Same rules class (drop at ls) ts' d' ts d → Kept rules class start ls at ts' d'
    kept_back at ts ts' d d' k s = record {
      comes = λ t. (λ e. (s.comes t).1 ((k.comes t).0 e), λ e. (k.comes t).1 ((s.comes t).0 e));
      goes = λ q m. (λ e. (s.goes q m).1 ((k.goes q m).0 e), λ e. (k.goes q m).1 ((s.goes q m).0 e));
      fronts = k.fronts;
    }

    -- closing a rule is no step of its own
    pub kept_close : (at r : ℕ) (a : Forest) (ts : List Todo) (d : Forest) → Kept rules class start ls at (close r a ∷ ts) d → Kept rules class start ls at ts (beside a (wrapped r d))
    kept_close at r a ts d k = record { comes = k.comes; goes = k.goes; fronts = k.fronts }

    pub kept_takes : (at l : ℕ) (more : List ℕ) (ts ts' : List Todo) (d d' : Forest) → drop at ls ≡ l ∷ more → Kept rules class start ls at ts d → Takes rules class l more ts d ts' d' → Kept rules class start ls (at + 1) ts' d'
    kept_takes at l more ts ts' d d' e k s =
        let n = past_next at ls l more e in
        let goes : (q : List ℕ) → Meets q (drop (suc at) ls) → Goes_on rules class (derive (rules start) ∷ close start none ∷ []) (take (suc at) ls ++ q) ↔ Goes_on rules class ts' q =
        λ q h.
        let meets : Meets (l ∷ q) (drop at ls) = subst (Meets (l ∷ q)) (sym e) refl in
        let same : take (suc at) ls ++ q ≡ take at ls ++ (l ∷ q) = ap (λ xs. xs ++ q) n.1 ∙ append_assoc (take at ls) (l ∷ []) q in (
          λ w. (s.goes q).0 ((k.goes (l ∷ q) meets).0 (subst (Goes_on rules class (derive (rules start) ∷ close start none ∷ [])) same w)),
          λ w. subst (Goes_on rules class (derive (rules start) ∷ close start none ∷ [])) (sym same) ((k.goes (l ∷ q) meets).1 ((s.goes q).1 w)),
        ) in
        let last : Viable rules class (rules start) (take (suc at) ls) =
        start_viable (take (suc at) ls) (subst (Goes_on rules class (derive (rules start) ∷ close start none ∷ [])) (append-nil (take (suc at) ls)) ((goes [] tt).1 (goes_nowhere rules class ts'))) in
        rw add-one (record {
          comes = λ t. (
            λ w. subst (λ m. Comes rules class ts' d' m t) (sym n.0) ((s.comes t).0 (subst (λ m. Comes rules class ts d m t) e ((k.comes t).0 w))),
            λ w. (k.comes t).1 (subst (λ m. Comes rules class ts d m t) (sym e) ((s.comes t).1 (subst (λ m. Comes rules class ts' d' m t) n.0 w))),
          );
          goes = goes;
          fronts = λ i le. elim (cases_order i (suc at)) [
            | inl same ↦ subst (λ j. Viable rules class (rules start) (take j ls)) (sym same) last
            | inr (inl less) ↦ k.fronts i (omega arith)
            | inr (inr more) ↦ absurd (omega arith)
          ];
        })

    pub kept_ok : (at : ℕ) (d : Forest) → at ≡ length ls → Kept rules class start ls at [] d → DerivesTree rules class start ls d
    kept_ok at d h k =
        let e = (k.comes d).1 (drop_all at ls (omega arith), refl) in
        record { trees = e.1; derived = subst (λ m. Derives rules class (rules start) ls m e.1) e.3.0 e.2; is = e.3.1 }

    -- Where no leaf can go on, the run stops there.
    stops : (at : ℕ) (ts : List Todo) (d : Forest) → at ≤ length ls → Kept rules class start ls at ts d → Stuck rules class (drop at ls) ts d → StopsAt rules class (rules start) ls at
    stops at ts d within k s = record {
      within = within;
      viable = k.fronts;
      further = λ h v.
          let x = some_left at ls h in
          let n = past_next at ls x.0 x.1 x.2 in
          let meets : Meets (x.0 ∷ []) (drop at ls) = subst (Meets (x.0 ∷ [])) (sym x.2) refl in
          s.goes x.0 x.1 x.2 ((k.goes (x.0 ∷ []) meets).0 (inl (subst (Viable rules class (rules start)) n.1 (rw (← add-one) v))));
      not_derived = λ t e. s.comes (wrapped start t) ((k.comes (wrapped start t)).0 ([], t, e, (refl, refl)));
    }

    pub stuck_stops : (at : ℕ) (ts : List Todo) (d : Forest) → at ≤ length ls → Kept rules class start ls at ts d → Stuck rules class (drop at ls) ts d → StopsAt rules class (rules start) ls at
    stuck_stops at ts d within k s = stops at ts d within k s

    pub end_stops : (at : ℕ) (d : Forest) → at ≤ length ls → (at ≡ length ls → ⊥) → Kept rules class start ls at [] d → StopsAt rules class (rules start) ls at
    end_stops at d within n k =
        let some = some_left at ls (omega arith) in
        stops at [] d within k (record { comes = λ t e. no (sym some.2 ∙ e.0); goes = λ l more e w. no w })
      where
        no : {l : ℕ} {more : List ℕ} → l ∷ more ≡ [] → ⊥
        no e = cc

-- ---- from one standing to the next

pub backwards_push : (cs : List Task) (c : Task) → backwards (cs ++ c ∷ []) ≡ c ∷ backwards cs
backwards_push [] c = refl
backwards_push (x ∷ cs) c = ap (λ ds. ds ++ x ∷ []) (backwards_push cs c)

backwards_two : (cs : List Task) (c d : Task) → backwards (cs ++ c ∷ d ∷ []) ≡ d ∷ c ∷ backwards cs
backwards_two [] c d = refl
backwards_two (x ∷ cs) c d = ap (λ ds. ds ++ x ∷ []) (backwards_two cs c d)

-- the node over trees, which is their only tree where that is a node
lone : (r m : ℕ) (d : Forest) → is_node (parts_from m d) ≡ true → wrapped r d ≡ d
unfolding parts_from
lone r m none h = absurd (false≢true h)
lone r m (leaf i f) h = absurd (false≢true h)
lone r m (node u k kids none) h = refl
lone r m (node u k kids (leaf i f)) h = absurd (false≢true h)
lone r m (node u k kids (node v j more f)) h = absurd (false≢true h)

several : (r m : ℕ) (d : Forest) → is_node (parts_from m d) ≡ false → wrapped r d ≡ node tt r d none
unfolding parts_from
several r m none h = refl
several r m (leaf i f) h = refl
several r m (node u k kids none) h = absurd (false≢true (sym h))
several r m (node u k kids (leaf i f)) h = refl
several r m (node u k kids (node v j more f)) h = refl

the_row : (rows rows' : List NodeRow) (n first at a b : ℕ) (ps qs : List Part) → rows ≡ rows' → first ≡ a → at ≡ a + b → ps ≡ qs →
    rows ++ record { kind = n; first = first; past = at; parts = ps } ∷ [] ≡ rows' ++ record { kind = n; first = a; past = a + b; parts = qs } ∷ []
the_row rows rows' n first at a b ps qs e f g h = cc

module _ (rules : ℕ → Parts) (class : ℕ → ℕ) (start rule_count count : ℕ) (shape : ℕ → Parts) (ls : List ℕ) (each : (r : ℕ) → IsFine rules rule_count (rules r)) where
  abbrev Stands : ℕ → Parts → List Task → List Part → List NodeRow → Type 0
  Stands at p tasks parts rows = Standing rules class start rule_count count shape ls at p tasks parts rows

  pub standing_start : (p : Parts) (tasks : List Task) (parts : List Part) (rows : List NodeRow) → p ≡ rules start → tasks ≡ task.Close start 0 0 ∷ [] → parts ≡ [] → rows ≡ [] → Stands 0 p tasks parts rows
  unfolding parts_from rows_from
  standing_start p tasks parts rows is t ps rs = record {
    todo = close start none ∷ [];
    trees = none;
    matches = subst (λ cs. Matches count shape (backwards cs) (close start none ∷ [])) (sym t) (refl, refl, refl, tt);
    fine = (subst (IsFine rules rule_count) (sym is) (each start), tt);
    kept = subst (λ w. Kept rules class start ls 0 (derive w ∷ close start none ∷ []) none) (sym is) (kept_start rules class start ls);
    within = omega arith;
    wide = refl;
    parts_are = ps;
    rows_are = rs;
  }

  -- the shapes by another name
  standing_by : (at : ℕ) (p q : Parts) (tasks : List Task) (parts : List Part) (rows : List NodeRow) → p ≡ q → Stands at p tasks parts rows → Stands at q tasks parts rows
  standing_by at p q tasks parts rows e s = subst (λ w. Stands at w tasks parts rows) e s

  module _ (at : ℕ) (tasks : List Task) (parts : List Part) (rows : List NodeRow) where
    -- part of the shapes is put off
    put_off : (p x a : Parts) (k : ℕ) → k < count → shape k ≡ a → (s : Stands at p tasks parts rows) → IsFine rules rule_count x → IsFine rules rule_count a →
        Same rules class (drop at ls) (derive p ∷ s.todo) s.trees (derive x ∷ derive a ∷ s.todo) s.trees → Stands at x (tasks ++ task.Derive k ∷ []) parts rows
    put_off p x a k lt is s fx fa same = record {
      todo = derive a ∷ s.todo;
      trees = s.trees;
      matches = subst (λ cs. Matches count shape cs (derive a ∷ s.todo)) (sym (backwards_push tasks (task.Derive k))) (lt, is, s.matches);
      fine = (fx, (fa, s.fine.1));
      kept = kept_same rules class start ls at (derive p ∷ s.todo) (derive x ∷ derive a ∷ s.todo) s.trees s.trees s.kept same;
      within = s.within;
      wide = s.wide;
      parts_are = s.parts_are;
      rows_are = s.rows_are;
    }

    -- the first of the shapes is left out
    leave_out : (p a : Parts) → (s : Stands at p tasks parts rows) → IsFine rules rule_count a →
        Same rules class (drop at ls) (derive p ∷ s.todo) s.trees (derive a ∷ s.todo) s.trees → Stands at a (tasks ++ []) parts rows
    leave_out p a s fa same = record {
      todo = s.todo;
      trees = s.trees;
      matches = subst (λ cs. Matches count shape (backwards cs) s.todo) (sym (append-nil tasks)) s.matches;
      fine = (fa, s.fine.1);
      kept = kept_same rules class start ls at (derive p ∷ s.todo) (derive a ∷ s.todo) s.trees s.trees s.kept same;
      within = s.within;
      wide = s.wide;
      parts_are = s.parts_are;
      rows_are = s.rows_are;
    }

    open_rule : (r k place : ℕ) (a : Parts) → k < count → shape k ≡ a → place ≡ length parts → (s : Stands at (rule r a) tasks parts rows) → Stands at (rules r) (tasks ++ task.Derive k ∷ task.Close r place at ∷ []) parts rows
    open_rule r k place a lt is place_is s =
        let same : beside (outer s.todo) s.trees ≡ beside (beside (outer s.todo) s.trees) none = sym (beside_none (beside (outer s.todo) s.trees)) in
        record {
          todo = close r s.trees ∷ derive a ∷ s.todo;
          trees = none;
          matches = subst (λ cs. Matches count shape cs (close r s.trees ∷ derive a ∷ s.todo)) (sym (backwards_two tasks (task.Derive k) (task.Close r place at))) (refl, place_is ∙ ap length s.parts_are, s.wide, (lt, is, s.matches));
          fine = (each r, (s.fine.0.1, s.fine.1));
          kept = kept_same rules class start ls at (derive (rule r a) ∷ s.todo) (derive (rules r) ∷ close r s.trees ∷ derive a ∷ s.todo) s.trees none s.kept (rule_same rules class r a s.todo s.trees (drop at ls));
          within = s.within;
          wide = s.wide ∙ ap width same;
          parts_are = s.parts_are ∙ ap (parts_from 0) same;
          rows_are = s.rows_are ∙ ap (rows_from 0 0) same;
        }

    pub to_stands : (current place n : ℕ) (pushed : List Task) (next : Option ℕ) (p : Parts) → current < count → shape current ≡ p → place ≡ length parts → next ≡ class_of rules class (drop at ls) →
        Acts rules shape count next current at place p (moved.To n) pushed → Stands at p tasks parts rows → (n < count) × Stands at (shape n) (tasks ++ pushed) parts rows
    to_stands current place n pushed next p here is place_is next_is (opens {r = r} {k = k} {m = m} e lk lm q) s =
        (lm, standing_by at (rules r) (shape m) (tasks ++ pushed) parts rows (sym q) (open_rule r k place (shape k) lk refl place_is (standing_by at p (rule r (shape k)) tasks parts rows e s)))
    to_stands current place n pushed next p here is place_is next_is (chooses {x = x} {k = k} {m = m} e lk lm q) s =
        let t = standing_by at p (choice x (shape k)) tasks parts rows e s in
        let picks : Picks rules (class_of rules class (drop at ls)) x (shape m) = subst (λ o. Picks rules o x (shape m)) next_is q in
        (lm, put_off (choice x (shape k)) (shape m) (shape k) k lk refl t (fine_at rules rule_count q.1 t.fine.0.1) t.fine.0.2 (pick_same rules class x (shape m) (shape k) t.todo t.trees (drop at ls) t.fine.0.0 picks))
    to_stands current place n pushed next p here is place_is next_is (takes-option {k = k} {m = m} e lk lm g) s =
        let t = standing_by at p (opt (shape m) (shape k)) tasks parts rows e s in
        (lm, put_off (opt (shape m) (shape k)) (shape m) (shape k) k lk refl t t.fine.0.0 t.fine.0.1 (opt_same rules class (shape m) (shape k) t.todo t.trees (drop at ls) (begins_goes rules class (shape m) (drop at ls) (subst (λ o. Begins rules o (shape m)) next_is g))))
    to_stands current place n pushed next p here is place_is next_is (leaves-option {x = x} {k = k} e lk g) s =
        let t = standing_by at p (opt x (shape k)) tasks parts rows e s in
        (lk, leave_out (opt x (shape k)) (shape k) t t.fine.0.1 (no_opt_same rules class x (shape k) t.todo t.trees (drop at ls) (λ j. g (subst (λ o. Begins rules o x) (sym next_is) (goes_begins rules class x (drop at ls) j)))))
    to_stands current place n pushed next p here is place_is next_is (repeats {k = k} {m = m} e lm g) s =
        let t = standing_by at p (many (shape m) (shape k)) tasks parts rows e s in
        (lm, put_off (many (shape m) (shape k)) (shape m) (many (shape m) (shape k)) current here (is ∙ e) t t.fine.0.0 t.fine.0 (more_same rules class (shape m) (shape k) t.todo t.trees (drop at ls) (begins_goes rules class (shape m) (drop at ls) (subst (λ o. Begins rules o (shape m)) next_is g))))
    to_stands current place n pushed next p here is place_is next_is (goes-on {x = x} {k = k} e lk g) s =
        let t = standing_by at p (many x (shape k)) tasks parts rows e s in
        (lk, leave_out (many x (shape k)) (shape k) t t.fine.0.1 (no_more_same rules class x (shape k) t.todo t.trees (drop at ls) (λ j. g (subst (λ o. Begins rules o x) (sym next_is) (goes_begins rules class x (drop at ls) j)))))

    -- no leaf goes on
    pub stuck_at : (current place : ℕ) (pushed : List Task) (next : Option ℕ) (p : Parts) → next ≡ class_of rules class (drop at ls) →
        Acts rules shape count next current at place p moved.Stuck pushed → Stands at p tasks parts rows → StopsAt rules class (rules start) ls at
    stuck_at current place pushed next p next_is (differs {c = c} {a = a} e n) s =
        let t = standing_by at p (one c a) tasks parts rows e s in
        stuck_stops rules class start ls at (derive (one c a) ∷ t.todo) t.trees t.within t.kept (one_stuck rules class c a t.todo t.trees (drop at ls) (λ h. n (next_is ∙ h)))
    stuck_at current place pushed next p next_is (begins-none {x = x} {a = a} e n) s =
        let t = standing_by at p (choice x a) tasks parts rows e s in
        stuck_stops rules class start ls at (derive (choice x a) ∷ t.todo) t.trees t.within t.kept
        (choice_stuck rules class x a t.todo t.trees (drop at ls) (λ j z q. (λ g. (n j z q).0 (subst (λ o. Begins rules o z) (sym next_is) g), (n j z q).1)))

    -- a leaf is taken
    pub took_stands : (current place n l : ℕ) (more : List ℕ) (pushed : List Task) (next : Option ℕ) (p : Parts) → drop at ls ≡ l ∷ more → l ≡ at → next ≡ class_of rules class (drop at ls) →
        Acts rules shape count next current at place p (moved.Took n) pushed → Stands at p tasks parts rows → (n < count) × (at < length ls) × Stands (at + 1) (shape n) (tasks ++ pushed) (parts ++ part.Leaf at ∷ []) rows
    unfolding class_of
    took_stands current place n l more pushed next p e l_is next_is (takes {c = c} {k = k} q lk w) s =
        let t = standing_by at p (one c (shape k)) tasks parts rows q s in
        let same_class : class l ≡ c = some_same (sym (ap (class_of rules class) e) ∙ (sym next_is ∙ w)) in
        let whole = beside (outer t.todo) t.trees in
        let longer : beside (outer t.todo) (beside t.trees (leaf l none)) ≡ beside whole (leaf at none) = sym (beside_assoc (outer t.todo) t.trees (leaf l none)) ∙ ap (λ i. beside whole (leaf i none)) l_is in (
          lk,
          (next_at at ls l more e),
          record {
            todo = t.todo;
            trees = beside t.trees (leaf l none);
            matches = subst (λ cs. Matches count shape (backwards cs) t.todo) (sym (append-nil tasks)) t.matches;
            fine = (t.fine.0, t.fine.1);
            kept = kept_takes rules class start ls at l more (derive (one c (shape k)) ∷ t.todo) (derive (shape k) ∷ t.todo) t.trees (beside t.trees (leaf l none)) e t.kept (one_takes rules class c l (shape k) t.todo t.trees more same_class);
            within = omega (arith, next_at at ls l more e);
            wide = omega (arith, t.wide, ap width longer, width_beside whole (leaf at none));
            parts_are = ap (λ ps. ps ++ part.Leaf at ∷ []) t.parts_are ∙ (sym (leaf_parts whole at) ∙ ap (parts_from 0) (sym longer));
            rows_are = t.rows_are ∙ (sym (leaf_rows whole at) ∙ ap (rows_from 0 0) (sym longer));
          },
        )
      where
        next_at : (at : ℕ) (ls : List ℕ) (l : ℕ) (more : List ℕ) → drop at ls ≡ l ∷ more → at < length ls
        next_at at ls l more e = (past_next at ls l more e).2

        some_same : {a b : ℕ} → Some a ≡ Some b → a ≡ b
        some_same h = cc

    -- what was put off is taken up
    pub ended_derives : (place current n : ℕ) (pushed before : List Task) (next : Option ℕ) (p : Parts) → tasks ++ pushed ≡ before ++ task.Derive n ∷ [] →
        Acts rules shape count next current at place p moved.Ended pushed → Stands at p tasks parts rows → (n < count) × Stands at (shape n) before parts rows
    ended_derives place current n pushed before next p e (ends q) s =
        take_up (standing_by at p end tasks parts rows q s)
      where
        go : (todo : List Todo) (d : Forest) → Matches count shape (task.Derive n ∷ backwards before) todo → AllFine rules rule_count todo → Kept rules class start ls at todo d → at ≤ length ls →
            at ≡ width (beside (outer todo) d) → parts ≡ parts_from 0 (beside (outer todo) d) → rows ≡ rows_from 0 0 (beside (outer todo) d) → (n < count) × Stands at (shape n) before parts rows
        go [] d m f k w a b c = absurd m
        go (close r x ∷ ts) d m f k w a b c = absurd m
        go (derive y ∷ ts) d m f k w a b c =
            (m.0, standing_by at y (shape n) before parts rows (sym m.1) (record { todo = ts; trees = d; matches = m.2; fine = f; kept = k; within = w; wide = a; parts_are = b; rows_are = c }))

        take_up : Stands at end tasks parts rows → (n < count) × Stands at (shape n) before parts rows
        take_up t = go t.todo t.trees (subst (λ cs. Matches count shape cs t.todo) (ap backwards (sym (append-nil tasks) ∙ e) ∙ backwards_push before (task.Derive n)) t.matches) t.fine.1
            (kept_same rules class start ls at (derive end ∷ t.todo) t.todo t.trees t.trees t.kept (end_same rules class t.todo t.trees (drop at ls))) t.within t.wide t.parts_are t.rows_are

    -- a rule is closed
    pub ended_closes : (current place n p' first : ℕ) (pushed before : List Task) (next : Option ℕ) (p : Parts) (parts' : List Part) (rows' : List NodeRow) → shape current ≡ p → tasks ++ pushed ≡ before ++ task.Close n p' first ∷ [] →
        Acts rules shape count next current at place p moved.Ended pushed → Stands at p tasks parts rows →
        (is_node (drop p' parts) ≡ true → (parts' ≡ parts) × (rows' ≡ rows)) →
        (is_node (drop p' parts) ≡ false → (parts' ≡ take p' parts ++ part.Node (record { 0 = length rows }) ∷ []) × (rows' ≡ rows ++ record { kind = n; first = first; past = at; parts = drop p' parts } ∷ [])) →
        Stands at p before parts' rows'
    ended_closes current place n p' first pushed before next p parts' rows' here e (ends q) s alone made =
        standing_by at end p before parts' rows' (sym q) (close_up (standing_by at p end tasks parts rows q s))
      where
        -- with the trees a before the node and d in it
        closed : (todo : List Todo) (a d : Forest) → p' ≡ length (parts_from 0 (beside (outer todo) a)) → first ≡ width (beside (outer todo) a) → Matches count shape (backwards before) todo → AllFine rules rule_count todo →
            Kept rules class start ls at (close n a ∷ todo) d → at ≤ length ls → at ≡ width (beside (beside (outer todo) a) d) → parts ≡ parts_from 0 (beside (beside (outer todo) a) d) → rows ≡ rows_from 0 0 (beside (beside (outer todo) a) d) →
            Stands at end before parts' rows'
        closed todo a d pl fi m f k w wide parts_are rows_are = by_kind (is_node (drop p' parts)) refl
          where
            all : Forest
            all = beside (outer todo) a

            spot : p' ≡ trees_in (beside (outer todo) a)
            spot = pl ∙ length-parts 0 (beside (outer todo) a)

            back : drop p' parts ≡ parts_from (size (beside (outer todo) a)) d
            back = ap (drop p') parts_are ∙ (ap (λ i. drop i (parts_from 0 (beside (beside (outer todo) a) d))) spot ∙ back_parts (beside (outer todo) a) d)

            front : take p' parts ≡ parts_from 0 (beside (outer todo) a)
            front = ap (take p') parts_are ∙ (ap (λ i. take i (parts_from 0 (beside (beside (outer todo) a) d))) spot ∙ front_parts (beside (outer todo) a) d)

            new : Kept rules class start ls at (derive end ∷ todo) (beside a (wrapped n d))
            new = kept_back rules class start ls at todo (derive end ∷ todo) (beside a (wrapped n d)) (beside a (wrapped n d)) (kept_close rules class start ls at n a todo d k) (end_same rules class todo (beside a (wrapped n d)) (drop at ls))

            stands : (x : Forest) → wrapped n d ≡ x → at ≡ width (beside (beside (outer todo) a) x) → parts' ≡ parts_from 0 (beside (beside (outer todo) a) x) → rows' ≡ rows_from 0 0 (beside (beside (outer todo) a) x) → Stands at end before parts' rows'
            stands x e1 w1 ps rs =
                let same : beside (beside (outer todo) a) x ≡ beside (outer todo) (beside a (wrapped n d)) = ap (beside (beside (outer todo) a)) (sym e1) ∙ beside_assoc (outer todo) a (wrapped n d) in
                record {
                  todo = todo;
                  trees = beside a (wrapped n d);
                  matches = m;
                  fine = (tt, f);
                  kept = new;
                  within = w;
                  wide = w1 ∙ ap width same;
                  parts_are = ps ∙ ap (parts_from 0) same;
                  rows_are = rs ∙ ap (rows_from 0 0) same;
                }

            by_kind : (b : Bool) → is_node (drop p' parts) ≡ b → Stands at end before parts' rows'
            by_kind true h =
                stands d (lone n (size (beside (outer todo) a)) d (ap is_node (sym back) ∙ h)) wide ((alone h).0 ∙ parts_are) ((alone h).1 ∙ rows_are)
            by_kind false h =
                stands (node tt n d none) (several n (size (beside (outer todo) a)) d (ap is_node (sym back) ∙ h))
                (omega (arith, wide, width_beside (beside (outer todo) a) d, width_beside (beside (outer todo) a) (node tt n d none)))
                ((made h).0 ∙ (ap (λ ps. ps ++ part.Node (record { 0 = length rows }) ∷ []) front ∙ (ap (λ rs. parts_from 0 (beside (outer todo) a) ++ part.Node (record { 0 = length rs }) ∷ []) rows_are ∙ sym (close_parts n (beside (outer todo) a) d))))
                ((made h).1 ∙ (the_row rows (rows_from 0 0 (beside (beside (outer todo) a) d)) n first at (width (beside (outer todo) a)) (width d) (drop p' parts) (parts_from (size (beside (outer todo) a)) d) rows_are fi (wide ∙ width_beside (beside (outer todo) a) d) back ∙ sym (close_rows n (beside (outer todo) a) d)))

        close_up : Stands at end tasks parts rows → Stands at end before parts' rows'
        close_up t = go t.todo t.trees (subst (λ cs. Matches count shape cs t.todo) (ap backwards (sym (append-nil tasks) ∙ e) ∙ backwards_push before (task.Close n p' first)) t.matches) t.fine.1
            (kept_same rules class start ls at (derive end ∷ t.todo) t.todo t.trees t.trees t.kept (end_same rules class t.todo t.trees (drop at ls))) t.within t.wide t.parts_are t.rows_are
          where
            go : (todo : List Todo) (d : Forest) → Matches count shape (task.Close n p' first ∷ backwards before) todo → AllFine rules rule_count todo → Kept rules class start ls at todo d → at ≤ length ls →
                at ≡ width (beside (outer todo) d) → parts ≡ parts_from 0 (beside (outer todo) d) → rows ≡ rows_from 0 0 (beside (outer todo) d) → Stands at end before parts' rows'
            go [] d m f k w a b c = absurd m
            go (derive y ∷ ts) d m f k w a b c = absurd m
            go (close r x ∷ ts) d m f k w a b c = closed ts x d m.1 m.2 m.3 f (subst (λ i. Kept rules class start ls at (close i x ∷ ts) d) (sym m.0) k) w a b c
