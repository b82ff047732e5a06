-- Through stages one after another.
use Rattle.std.proofs.Common.{◌≡◌, ℕ, zero, suc, ◌+◌, ◌-◌, ◌^◌, min, ◌<◌, ◌≤◌, Bool, true, false, List, [], ◌∷◌, ◌++◌, length, drop, get_or, refl, sym, ap, subst, ◌∙◌, inl, inr, arith}
use Rattle.std.specs.Prelude.{Result, Ok, Err, nat_lt, if◌then◌else◌}
use Rattle.std.proofs.lemmas.Bool.Decides.{nat_tests}
use Rattle.std.proofs.lemmas.List.{drop_all}
use Rattle.kept_files.specs.Readings.{Reads}
use Rattle.kept_files.specs.States.{State, held_bytes}
use Rattle.scheduler.specs.declared.event.Event.{Event}
use Rattle.recipe_yaml.specs.declared.plans.Plan.{Plan}
use Rattle.recipe_yaml.specs.declared.plans.PlannedLeaf.{PlannedLeaf}
use Rattle.kept_files.specs.declared.scan_value.ScanValue.{ScanValue}
use Rattle.scheduler.specs.declared.fault.RunFault.{RunFault}
use Rattle.scheduler.specs.declared.fault.RunFault.TheVariants.{TooMuch, NoMemory}
use Rattle.scheduler.specs.declared.fault.TheConstants.{MOST_HELD}
use Rattle.scheduler.specs.Runs.{Stage, Phase, Reached, reached, end, too_much, each_leaf, last_of, cycle, generation, edit_step, value_for, values_for}
use Rattle.scheduler.specs.Came.{Stands, Came, phase_of}
use Rattle.scheduler.specs.declared.cycling.PhaseKind.TheVariants.{Generate, Edit}
use Rattle.scheduler.proofs.Decided.{cut}

-- ---- stages joined

abbrev over : Stage → Bool
over s = nat_lt MOST_HELD (held_bytes s.state)

abbrev stopped_at : State → Stage → Reached
stopped_at f s = too_much f (min (held_bytes s.state) (2 ^ 64 - 1))

pub through : (f g : State) (e h : List Event) (xs ys : List Stage) → reached f e xs ≡ end g h → reached f e (xs ++ ys) ≡ reached g h ys
unfolding reached
through f g e h [] ys eq =
    let s : f ≡ g = cc in
    let t : e ≡ h = cc in
    λ i. reached (s i) (t i) ys
through f g e h (s ∷ xs) ys eq =
    elim (over s) as (λ b. (if b then stopped_at f s else reached s.state (e ++ s.events) xs) ≡ end g h → (if b then stopped_at f s else reached s.state (e ++ s.events) (xs ++ ys)) ≡ reached g h ys) [
      | true ↦ λ q. absurd (cc)
      | false ↦ λ q. through s.state g (e ++ s.events) h xs ys q
    ] eq

pub stopped : (f g : State) (e : List Event) (n : ℕ) (xs ys : List Stage) → reached f e xs ≡ too_much g n → reached f e (xs ++ ys) ≡ too_much g n
unfolding reached
stopped f g e n [] ys eq = absurd (cc)
stopped f g e n (s ∷ xs) ys eq =
    elim (over s) as (λ b. (if b then stopped_at f s else reached s.state (e ++ s.events) xs) ≡ too_much g n → (if b then stopped_at f s else reached s.state (e ++ s.events) (xs ++ ys)) ≡ too_much g n) [
      | true ↦ λ q. q
      | false ↦ λ q. stopped s.state g (e ++ s.events) n xs ys q
    ] eq

pub lasts : (f g : State) (e h : List Event) (xs : List Stage) → reached f e xs ≡ end g h → last_of f xs ≡ g
unfolding reached
lasts f g e h [] eq = cc
lasts f g e h (s ∷ xs) eq =
    elim (over s) as (λ b. (if b then stopped_at f s else reached s.state (e ++ s.events) xs) ≡ end g h → last_of s.state xs ≡ g) [
      | true ↦ λ q. absurd (cc)
      | false ↦ λ q. lasts s.state g (e ++ s.events) h xs q
    ] eq

-- ---- where a state stands

pub stands_first : (f : State) (xs : List Stage) → Stands f f xs
stands_first f [] = refl
stands_first f (s ∷ xs) = inl refl

pub stands_front : (k f : State) (xs ys : List Stage) → Stands k f xs → Stands k f (xs ++ ys)
stands_front k f [] ys e = subst (λ g. Stands k g ys) e (stands_first k ys)
stands_front k f (s ∷ xs) ys (inl e) = inl e
stands_front k f (s ∷ xs) ys (inr r) = inr (stands_front k s.state xs ys r)

pub stands_behind : (k f : State) (xs ys : List Stage) → Stands k (last_of f xs) ys → Stands k f (xs ++ ys)
stands_behind k f [] ys r = r
stands_behind k f (s ∷ xs) ys r = inr (stands_behind k s.state xs ys r)

-- ---- whatever comes of the rest, comes of all

abbrev pub Onward : State → List Event → List Stage → State → List Event → List Stage → Type 0
Onward f e all g h rest = (r : Result (Unit {0}) RunFault) (k : State) (d : List Event) → Came r g h rest k d → Came r f e all k d

pub onward : (f g : State) (e h : List Event) (xs ys : List Stage) (u : Unit {0}) → Came (Ok u) f e xs g h → Onward f e (xs ++ ys) g h ys
unfolding Came
onward f g e h xs ys u c (Ok v) k d m = through f g e h xs ys c ∙ m
onward f g e h xs ys u c (Err (TooMuch n)) k d m = through f g e h xs ys c ∙ m
onward f g e h xs ys u c (Err NoMemory) k d m = stands_behind k f xs ys (subst (λ x. Stands k x ys) (sym (lasts f g e h xs c)) m)

pub fault_in_front : (f k : State) (e d : List Event) (xs ys : List Stage) (fault : RunFault) → Came (Err fault) f e xs k d → Came (Err fault) f e (xs ++ ys) k d
unfolding Came
fault_in_front f k e d xs ys (TooMuch n) c = stopped f k e n xs ys c
fault_in_front f k e d xs ys NoMemory c = stands_front k f xs ys c

pub came_nowhere : (f : State) (e : List Event) (u : Unit {0}) → Came (Ok u) f e [] f e
unfolding Came reached
came_nowhere f e u = refl

pub no_memory_here : (f : State) (e d : List Event) (xs : List Stage) (fault : RunFault) → fault ≡ NoMemory → Came (Err fault) f e xs f d
unfolding Came
no_memory_here f e d xs fault is = subst (λ x. Came (Err x) f e xs f d) (sym is) (stands_first f xs)

-- ---- one stage

lt_true : (a b : ℕ) → a < b → nat_lt a b ≡ true
lt_true a b h = grind (arith, nat_tests)

lt_false : (a b : ℕ) → b ≤ a → nat_lt a b ≡ false
lt_false a b h = grind (arith, nat_tests)

pub holds_too_much : (f g : State) (e d more : List Event) (held : ℕ) → held ≡ min (held_bytes g) (2 ^ 64 - 1) → MOST_HELD < held → Came (Err (TooMuch held)) f e (record { state = g; events = more } ∷ []) f d
unfolding Came reached
holds_too_much f g e d more held is lt = rw (lt_true MOST_HELD (held_bytes g) (omega (arith, is))) (ap (too_much f) (sym is))

pub goes_to : (f g to : State) (e more told : List Event) (held : ℕ) (u : Unit {0}) → held ≡ min (held_bytes g) (2 ^ 64 - 1) → held ≤ MOST_HELD → to ≡ g → told ≡ e ++ more → Came (Ok u) f e (record { state = g; events = more } ∷ []) to told
unfolding Came reached
goes_to f g to e more told held u is le s t = rw (lt_false MOST_HELD (held_bytes g) (omega (arith, is))) (λ i. end (sym s i) (sym t i))

pub ruleset accepted_by = (holds_too_much, goes_to, no_memory_here)

pub one_stage : (r : Result (Unit {0}) RunFault) (f g : State) (e h : List Event) (s t : Stage) → s ≡ t → Came r f e (t ∷ []) g h → Came r f e (s ∷ []) g h
one_stage r f g e h s t is c = subst (λ x. Came r f e (x ∷ []) g h) (sym is) c

pub ruleset leaf_by = (one_stage, no_memory_here)

-- ---- leaf by leaf

module _ (phase : Phase) (first : State) (leaves : List PlannedLeaf) (i : ℕ) (values : List ScanValue) where
  value_is : (d : PlannedLeaf) (v : ScanValue) → i < length leaves → values ≡ values_for first leaves → get_or values i v ≡ value_for first (get_or leaves i d)
  value_is d v lt e = ap (λ vs. get_or vs i v) e ∙ get_map leaves i lt
    where
      get_map : (ls : List PlannedLeaf) (k : ℕ) → k < length ls → get_or (values_for first ls) k v ≡ value_for first (get_or ls k d)
      get_map [] k h = absurd (omega arith)
      get_map (l ∷ ls) zero h = refl
      get_map (l ∷ ls) (suc k) h = get_map ls k (omega arith)

  leaf_stages : (d : PlannedLeaf) (v : ScanValue) (f : State) → i < length leaves → values ≡ values_for first leaves
      → each_leaf phase first (drop i leaves) f ≡ phase (get_or leaves i d) (get_or values i v).texts f ∷ each_leaf phase first (drop (i + 1) leaves) (phase (get_or leaves i d) (get_or values i v).texts f).state
  unfolding each_leaf
  leaf_stages d v f lt e =
      ap (λ ls. each_leaf phase first ls f) (cut leaves i d lt)
      ∙ ap (λ (w : ScanValue). let s = phase (get_or leaves i d) w.texts f in s ∷ each_leaf phase first (drop (i + 1) leaves) s.state) (sym (value_is d v lt e))

  module _ (d : PlannedLeaf) (v : ScanValue) (f0 f g : State) (e0 e h : List Event) (all : List Stage) where
    pub leaf_onward : (u : Unit {0}) → i < length leaves → values ≡ values_for first leaves
        → Onward f0 e0 all f e (each_leaf phase first (drop i leaves) f)
        → Came (Ok u) f e (phase (get_or leaves i d) (get_or values i v).texts f ∷ []) g h
        → Onward f0 e0 all g h (each_leaf phase first (drop (i + 1) leaves) g)
    unfolding Came
    leaf_onward u lt is on c =
        let s = phase (get_or leaves i d) (get_or values i v).texts f in
        let state : s.state ≡ g = lasts f g e h (s ∷ []) c in
        let rest = each_leaf phase first (drop (i + 1) leaves) s.state in
        let here : Onward f0 e0 all f e (s ∷ rest) = subst (Onward f0 e0 all f e) (leaf_stages d v f lt is) on in
        subst (λ x. Onward f0 e0 all g h (each_leaf phase first (drop (i + 1) leaves) x)) state
        (λ r k t m. here r k t (onward f g e h (s ∷ []) rest u c r k t m))

    pub leaf_fault : (fault : RunFault) → i < length leaves → values ≡ values_for first leaves
        → Onward f0 e0 all f e (each_leaf phase first (drop i leaves) f)
        → Came (Err fault) f e (phase (get_or leaves i d) (get_or values i v).texts f ∷ []) g h
        → Came (Err fault) f0 e0 all g h
    leaf_fault fault lt is on c =
        let s = phase (get_or leaves i d) (get_or values i v).texts f in
        on (Err fault) g h (subst (λ xs. Came (Err fault) f e xs g h) (sym (leaf_stages d v f lt is))
        (fault_in_front f g e h (s ∷ []) (each_leaf phase first (drop (i + 1) leaves) s.state) fault c))

  pub leaf_end : (f0 f : State) (e0 e : List Event) (all : List Stage) (u : Unit {0}) → length leaves ≤ i → Onward f0 e0 all f e (each_leaf phase first (drop i leaves) f) → Came (Ok u) f0 e0 all f e
  unfolding each_leaf
  leaf_end f0 f e0 e all u le on = on (Ok u) f e (subst (λ ls. Came (Ok u) f e (each_leaf phase first ls f) f e) (sym (drop_all i leaves le)) (came_nowhere f e u))

pub ruleset leaves_by = (leaf_onward, leaf_fault, leaf_end)

-- ---- a cycle

module _ (read : Reads) (plan : Plan) (f g k : State) (e h d : List Event) where
  pub cycle_goes : (u : Unit {0}) (r : Result (Unit {0}) RunFault) → Came (Ok u) f e (each_leaf (phase_of read plan Generate) f plan.leaves f) g h → Came r g h (each_leaf (phase_of read plan Edit) f plan.leaves g) k d → Came r f e (cycle read plan f) k d
  unfolding cycle Came
  cycle_goes u r c m =
      let made = each_leaf (generation read) f plan.leaves f in
      let on = onward f g e h made (each_leaf (edit_step read plan) f plan.leaves g) u c r k d m in
      subst (λ x. Came r f e (made ++ each_leaf (edit_step read plan) f plan.leaves x) k d) (sym (lasts f g e h made c)) on

  pub cycle_fault : (fault : RunFault) → Came (Err fault) f e (each_leaf (phase_of read plan Generate) f plan.leaves f) k d → Came (Err fault) f e (cycle read plan f) k d
  unfolding cycle
  cycle_fault fault c = fault_in_front f k e d (each_leaf (generation read) f plan.leaves f) (each_leaf (edit_step read plan) f plan.leaves (last_of f (each_leaf (generation read) f plan.leaves f))) fault c

pub values_are : (given values : List ScanValue) (f : State) (ls leaves : List PlannedLeaf) → given ≡ values → values ≡ values_for f ls → ls ≡ leaves → given ≡ values_for f leaves
values_are given values f ls leaves a b c = a ∙ (b ∙ ap (values_for f) c)

pub ruleset cycle_by = (values_are, cycle_goes, cycle_fault, no_memory_here)
