-- Cycle by cycle.
use Rattle.std.proofs.Common.{◌≡◌, ℕ, zero, suc, ◌+◌, ◌-◌, ◌<◌, Bool, true, false, List, refl, sym, ap, subst, ◌∙◌, arith}
use Rattle.std.specs.Prelude.{Ok, Err, not, ◌&&◌, if◌then◌else◌}
use Rattle.kept_files.specs.Readings.{Reads}
use Rattle.kept_files.specs.States.{State}
use Rattle.scheduler.specs.declared.event.Event.{Event}
use Rattle.recipe_yaml.specs.declared.plans.Plan.{Plan}
use Rattle.scheduler.specs.declared.fault.RunFault.{RunFault}
use Rattle.scheduler.specs.declared.fault.RunFault.TheVariants.{TooMuch, NoMemory}
use Rattle.scheduler.specs.Runs.{Run, reached, end, too_much, last_of, cycle, run, ends_with, same_files}
use Rattle.scheduler.specs.Came.{Stands, Came, CameRun}
use Rattle.scheduler.specs.declared.running.Ended.{Ended}
use Rattle.scheduler.proofs.Onward.{Onward, onward, lasts, fault_in_front, came_nowhere, no_memory_here}

-- After so many cycles a run has come to a state, and this run is left of it.
unfoldable pub RunsOn : State → List Event → Run → ℕ → State → List Event → Run → Type 0
RunsOn f0 e0 all i f e rest = Onward f0 e0 all.stages f e rest.stages × (all.cycles ≡ i + rest.cycles) × (all.still_changing ≡ rest.still_changing)

pub runs_start : (f : State) (e : List Event) (all : Run) → RunsOn f e all 0 f e all
unfolding RunsOn
runs_start f e all = (λ r k d c. c, omega arith, refl)

abbrev one_cycle : Reads → Plan → ℕ → State → Bool → Run
one_cycle read plan n f again =
    let stages = cycle read plan f in
    if again then ends_with stages (run read plan n (last_of f stages))
    else record { stages = stages; cycles = 1; still_changing = false }

run_some : (read : Reads) (plan : Plan) (n : ℕ) (f : State) → 0 < n → run read plan n f ≡ one_cycle read plan (n - 1) f (plan.again && not (same_files f (last_of f (cycle read plan f))))
unfolding run
run_some read plan zero f lt = absurd (omega arith)
run_some read plan (suc n) f lt = let e : suc n - 1 ≡ n = omega arith in rw e refl

module _ (read : Reads) (plan : Plan) (f0 f g : State) (e0 e h : List Event) (all : Run) (n i : ℕ) where
  pub run_goes : (u : Unit {0}) (before : State) (m : ℕ) (b : Bool) → RunsOn f0 e0 all i f e (run read plan n f) → 0 < n → Came (Ok u) f e (cycle read plan f) g h → before ≡ f → b ≡ (plan.again && not (same_files before g)) → b ≡ true → m ≡ n - 1 → RunsOn f0 e0 all (i + 1) g h (run read plan m g)
  unfolding Came RunsOn
  run_goes u before m b on lt c same told goes fewer =
      let stages = cycle read plan f in
      let last : last_of f stages ≡ g = lasts f g e h stages c in
      let test : (plan.again && not (same_files f (last_of f stages))) ≡ true = ap (λ x. plan.again && not (same_files f x)) last ∙ (ap (λ x. plan.again && not (same_files x g)) (sym same) ∙ (sym told ∙ goes)) in
      let is : run read plan n f ≡ ends_with stages (run read plan (n - 1) g) = run_some read plan n f lt ∙ (ap (one_cycle read plan (n - 1) f) test ∙ ap (λ x. ends_with stages (run read plan (n - 1) x)) last) in
      let here : RunsOn f0 e0 all i f e (ends_with stages (run read plan (n - 1) g)) = subst (RunsOn f0 e0 all i f e) is on in
      let count = here.1 in
      subst (λ x. RunsOn f0 e0 all (i + 1) g h (run read plan x g)) (sym fewer) (λ r k d m. here.0 r k d (onward f g e h stages (run read plan (n - 1) g).stages u c r k d m), omega (arith, count), here.2)

  pub run_done : (u : Unit {0}) (before : State) (b : Bool) (ended : Ended) → RunsOn f0 e0 all i f e (run read plan n f) → 0 < n → Came (Ok u) f e (cycle read plan f) g h → before ≡ f → b ≡ (plan.again && not (same_files before g)) → b ≡ false → ended.cycles ≡ i + 1 → ended.still_changing ≡ false → CameRun (Ok ended) f0 e0 all g h
  unfolding Came CameRun RunsOn
  run_done u before b ended on lt c same told ends count still =
      let stages = cycle read plan f in
      let last : last_of f stages ≡ g = lasts f g e h stages c in
      let test : (plan.again && not (same_files f (last_of f stages))) ≡ false = ap (λ x. plan.again && not (same_files f x)) last ∙ (ap (λ x. plan.again && not (same_files x g)) (sym same) ∙ (sym told ∙ ends)) in
      let is : run read plan n f ≡ record { stages = stages; cycles = 1; still_changing = false } = run_some read plan n f lt ∙ ap (one_cycle read plan (n - 1) f) test in
      let here : RunsOn f0 e0 all i f e (record { stages = stages; cycles = 1; still_changing = false }) = subst (RunsOn f0 e0 all i f e) is on in
      (here.0 (Ok u) g h c, here.1 ∙ sym count, here.2 ∙ sym still)

  pub run_fault : (fault : RunFault) → RunsOn f0 e0 all i f e (run read plan n f) → 0 < n → Came (Err fault) f e (cycle read plan f) g h → CameRun (Err fault) f0 e0 all g h
  unfolding CameRun RunsOn
  run_fault fault on lt c =
      let again = plan.again && not (same_files f (last_of f (cycle read plan f))) in
      let here : RunsOn f0 e0 all i f e (one_cycle read plan (n - 1) f again) = subst (RunsOn f0 e0 all i f e) (run_some read plan n f lt) on in
      here.0 (Err fault) g h (fault_of again)
    where
      fault_of : (b : Bool) → Came (Err fault) f e (one_cycle read plan (n - 1) f b).stages g h
      fault_of true = fault_in_front f g e h (cycle read plan f) (run read plan (n - 1) (last_of f (cycle read plan f))).stages fault c
      fault_of false = c

pub run_end : (read : Reads) (plan : Plan) (f0 f : State) (e0 e : List Event) (all : Run) (n i : ℕ) (ended : Ended) → RunsOn f0 e0 all i f e (run read plan n f) → n ≡ 0 → ended.cycles ≡ i → ended.still_changing ≡ true → CameRun (Ok ended) f0 e0 all f e
unfolding CameRun run Came RunsOn
run_end read plan f0 f e0 e all n i ended on none count still =
    let here : RunsOn f0 e0 all i f e (run read plan 0 f) = subst (λ m. RunsOn f0 e0 all i f e (run read plan m f)) none on in
    let cycles = here.1 in
    (here.0 (Ok tt) f e (came_nowhere f e tt), omega (arith, cycles, count), here.2 ∙ sym still)

pub run_no_memory : (f0 f : State) (e0 e d : List Event) (all rest : Run) (i : ℕ) (fault : RunFault) → fault ≡ NoMemory → RunsOn f0 e0 all i f e rest → CameRun (Err fault) f0 e0 all f d
unfolding CameRun RunsOn
run_no_memory f0 f e0 e d all rest i fault is on = on.0 (Err fault) f d (no_memory_here f e d rest.stages fault is)

pub ruleset runs_by = (runs_start, run_goes, run_done, run_fault, run_end, run_no_memory)

-- ---- the outcome

module _ (f g : State) (e h : List Event) (all : Run) where
  pub done_is : (ended : Ended) → CameRun (Ok ended) f e all g h → reached f e all.stages ≡ end g h
  unfolding CameRun
  done_is ended c = c.0

  pub cycles_are : (ended : Ended) → CameRun (Ok ended) f e all g h → all.cycles ≡ ended.cycles
  unfolding CameRun
  cycles_are ended c = c.1

  pub still_is : (ended : Ended) → CameRun (Ok ended) f e all g h → all.still_changing ≡ ended.still_changing
  unfolding CameRun
  still_is ended c = c.2

  pub too_much_is : (fault : RunFault) (bytes : ℕ) → CameRun (Err fault) f e all g h → fault ≡ TooMuch bytes → reached f e all.stages ≡ too_much g bytes
  unfolding CameRun Came
  too_much_is (TooMuch n) bytes c is = let e : n ≡ bytes = cc in c ∙ ap (too_much g) e
  too_much_is NoMemory bytes c is = absurd (cc)

  pub memory_is : (fault : RunFault) → CameRun (Err fault) f e all g h → fault ≡ NoMemory → Stands g f all.stages
  unfolding CameRun Came
  memory_is NoMemory c is = c
  memory_is (TooMuch n) c is = absurd (cc)

pub ruleset outcome_by = (done_is, cycles_are, still_is, too_much_is, memory_is)
