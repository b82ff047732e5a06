-- The machine that derives: what is left to do, and the trees that are there so far.
use Rattle.std.specs.Prelude.{◌≡◌, ℕ, ◌<◌, ◌≤◌, ◌↔◌, ◌⊎◌, List, [], ◌∷◌, ◌++◌, length, take, drop, Option, Some, None}
use Rattle.std.specs.Prelude.{Bool, true, false}
use Rattle.rw_base.specs.declared.tree.Part.{Part}
use Rattle.rw_base.specs.declared.tree.Part.TheVariants as part
use Rattle.rw_base.specs.declared.tree.NodeRow.{NodeRow}
use Rattle.rw_base.specs.Trees.{none, Forest, beside, width}
use Rattle.rw_base.specs.Laid.{parts_from, rows_from}
use Rattle.rw_grammar.specs.declared.machine.Task.{Task}
use Rattle.rw_grammar.specs.declared.machine.Task.TheVariants as task
use Rattle.rw_grammar.specs.declared.machine.Moved.{Moved}
use Rattle.rw_grammar.specs.declared.machine.Moved.TheVariants as moved
use Rattle.rw_grammar.specs.Parts.{Parts, end, one, rule, choice, opt, many, IsAt}
use Rattle.rw_grammar.specs.Begins.{CanBeEmpty, CanBegin}
use Rattle.rw_grammar.specs.Derivation.{Derives, wrapped}
use Rattle.rw_grammar.specs.Viability.{Viable}
use Rattle.rw_grammar.specs.Faults.{IsFine}

-- a leaf of this class, if there is one, can begin the shapes
abbrev pub Begins : (ℕ → Parts) → Option ℕ → Parts → Type 0
Begins rules None p = ⊥
Begins rules (Some c) p = CanBegin rules c p

-- the alternative to take is the one that the leaf can begin, or where it begins none, the empty one
abbrev pub Picks : (ℕ → Parts) → Option ℕ → Parts → Parts → Type 0
Picks rules next x y =
    (i : ℕ) × IsAt i y x
    × (Begins rules next y ⊎ (CanBeEmpty rules y × ((j : ℕ) (z : Parts) → IsAt j z x → Begins rules next z → ⊥)))

-- What is done at a cell that stands for p: where it goes on, and the tasks that are put off.
pub data Acts (rules : ℕ → Parts) (shape : ℕ → Parts) (count : ℕ) (next : Option ℕ) (current at place : ℕ) (p : Parts) :
    Moved → List Task → Type 0 where
  ends : p ≡ end → Acts rules shape count next current at place p moved.Ended []
  takes : {c k : ℕ} → p ≡ one c (shape k) → k < count → next ≡ Some c
      → Acts rules shape count next current at place p (moved.Took k) []
  differs : {c : ℕ} {a : Parts} → p ≡ one c a → (next ≡ Some c → ⊥)
      → Acts rules shape count next current at place p moved.Stuck []
  opens : {r k m : ℕ} → p ≡ rule r (shape k) → k < count → m < count → shape m ≡ rules r
      → Acts rules shape count next current at place p (moved.To m) (task.Derive k ∷ task.Close r place at ∷ [])
  chooses : {x : Parts} {k m : ℕ} → p ≡ choice x (shape k) → k < count → m < count → Picks rules next x (shape m)
      → Acts rules shape count next current at place p (moved.To m) (task.Derive k ∷ [])
  begins-none : {x a : Parts} → p ≡ choice x a
      → ((j : ℕ) (z : Parts) → IsAt j z x → (Begins rules next z → ⊥) × (CanBeEmpty rules z → ⊥))
      → Acts rules shape count next current at place p moved.Stuck []
  takes-option : {k m : ℕ} → p ≡ opt (shape m) (shape k) → k < count → m < count → Begins rules next (shape m)
      → Acts rules shape count next current at place p (moved.To m) (task.Derive k ∷ [])
  leaves-option : {x : Parts} {k : ℕ} → p ≡ opt x (shape k) → k < count → (Begins rules next x → ⊥)
      → Acts rules shape count next current at place p (moved.To k) []
  repeats : {k m : ℕ} → p ≡ many (shape m) (shape k) → m < count → Begins rules next (shape m)
      → Acts rules shape count next current at place p (moved.To m) (task.Derive current ∷ [])
  goes-on : {x : Parts} {k : ℕ} → p ≡ many x (shape k) → k < count → (Begins rules next x → ⊥)
      → Acts rules shape count next current at place p (moved.To k) []

-- the tasks with those that are put off, and where it goes on
pub record Does (rules : ℕ → Parts) (shape : ℕ → Parts) (count : ℕ) (next : Option ℕ) (current at place : ℕ)
    (old new : List Task) (to : Moved) : Type 0 where
  pub pushed : List Task
  pub tasks : new ≡ old ++ pushed
  pub acts : Acts rules shape count next current at place (shape current) to pushed

-- ---- what is left to do, the first first

-- Derive shapes; or close a rule, whose node goes behind these trees.
pub data Todo : Type 0 where
  derive : Parts → Todo
  close : ℕ → Forest → Todo

module _ (rules : ℕ → Parts) (class : ℕ → ℕ) where
  -- With the trees d of the innermost open rule, all of the leaves are taken, and t comes of it.
  abbrev pub Comes : List Todo → Forest → List ℕ → Forest → Type 0
  Comes [] d ls t = (ls ≡ []) × (t ≡ d)
  Comes (derive p ∷ ts) d ls t =
      (mid : List ℕ) × (f : Forest) × Derives rules class p ls mid f × Comes ts (beside d f) mid t
  Comes (close r a ∷ ts) d ls t = Comes ts (beside a (wrapped r d)) ls t

  -- the leaves go as far as what is left to do
  abbrev pub Goes_on : List Todo → List ℕ → Type 0
  Goes_on [] ls = ls ≡ []
  Goes_on (derive p ∷ ts) ls =
      Viable rules class p ls ⊎ ((mid : List ℕ) × (f : Forest) × Derives rules class p ls mid f × Goes_on ts mid)
  Goes_on (close r a ∷ ts) ls = Goes_on ts ls

-- a list that has the front leaf of another, or nothing
abbrev pub Meets : List ℕ → List ℕ → Type 0
Meets [] ls = Unit {0}
Meets (c ∷ q) [] = ⊥
Meets (c ∷ q) (l ∷ ls) = c ≡ l

-- What comes of these tasks from the leaves at a place on is what comes of the rule from all of them.
pub record Kept (rules : ℕ → Parts) (class : ℕ → ℕ) (start : ℕ) (ls : List ℕ) (at : ℕ) (ts : List Todo)
    (d : Forest) : Type 0 where
  pub comes : (t : Forest)
      → Comes rules class (derive (rules start) ∷ close start none ∷ []) none ls t
      ↔ Comes rules class ts d (drop at ls) t
  pub goes : (q : List ℕ) → Meets q (drop at ls)
      → Goes_on rules class (derive (rules start) ∷ close start none ∷ []) (take at ls ++ q) ↔ Goes_on rules class ts q
  pub fronts : (k : ℕ) → k ≤ at → Viable rules class (rules start) (take k ls)

-- ---- the tasks that the code keeps, the last first

-- all trees in front of the innermost open rule
abbrev pub outer : List Todo → Forest
outer [] = none
outer (derive p ∷ ts) = outer ts
outer (close r a ∷ ts) = beside (outer ts) a

-- The tasks stand for what is left to do: a cell for its shapes, and of a rule its number with the count of parts and
-- of leaves before it.
abbrev pub Matches : ℕ → (ℕ → Parts) → List Task → List Todo → Type 0
Matches count shape [] [] = Unit {0}
Matches count shape (task.Derive n ∷ cs) (derive p ∷ ts) = (n < count) × (shape n ≡ p) × Matches count shape cs ts
Matches count shape (task.Close r place at ∷ cs) (close s a ∷ ts) =
    (r ≡ s) × (place ≡ length (parts_from 0 (beside (outer ts) a)))
    × (at ≡ width (beside (outer ts) a)) × Matches count shape cs ts
Matches count shape _ _ = ⊥

abbrev pub AllFine : (ℕ → Parts) → ℕ → List Todo → Type 0
AllFine rules rule_count [] = Unit {0}
AllFine rules rule_count (derive p ∷ ts) = IsFine rules rule_count p × AllFine rules rule_count ts
AllFine rules rule_count (close r a ∷ ts) = AllFine rules rule_count ts

-- one part, and it is a node
abbrev pub is_node : List Part → Bool
is_node (part.Node n ∷ []) = true
is_node _ = false

-- tasks of which the last comes first
abbrev pub backwards : List Task → List Task
backwards [] = []
backwards (c ∷ cs) = backwards cs ++ c ∷ []

-- Where the machine stands: at a cell for p, with tasks, parts and rows, before a leaf.
pub record Standing (rules : ℕ → Parts) (class : ℕ → ℕ) (start rule_count count : ℕ) (shape : ℕ → Parts)
    (ls : List ℕ) (at : ℕ) (p : Parts) (tasks : List Task) (parts : List Part) (rows : List NodeRow) : Type 0 where
  pub todo : List Todo
  pub trees : Forest
  pub matches : Matches count shape (backwards tasks) todo
  pub fine : AllFine rules rule_count (derive p ∷ todo)
  pub kept : Kept rules class start ls at (derive p ∷ todo) trees
  pub within : at ≤ length ls
  pub wide : at ≡ width (beside (outer todo) trees)
  pub parts_are : parts ≡ parts_from 0 (beside (outer todo) trees)
  pub rows_are : rows ≡ rows_from 0 0 (beside (outer todo) trees)
