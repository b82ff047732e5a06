-- The faults of a table, and when it has none.
use Rattle.std.specs.Prelude.{◌≡◌, ℕ, ◌<◌, ◌≤◌, List, length}
use Rattle.rw_grammar.specs.Parts.{Parts, end, one, rule, choice, opt, many, or, IsAt, Within, rule_of}
use Rattle.rw_grammar.specs.Begins.{CanBeEmpty, CanBegin, IsLeftRecursive}

-- what is wrong with the first of these shapes, by the number of the fault
pub data IsWrong (rules : ℕ → Parts) (count : ℕ) : ℕ → Parts → Type 0 where
  -- two alternatives share a first class
  shares : {i j c : ℕ} {x y z a : Parts} → IsAt i y x → IsAt j z x → (i ≡ j → ⊥) → CanBegin rules c y
      → CanBegin rules c z → IsWrong rules count 1 (choice x a)
  -- two alternatives can be empty
  empties : {i j : ℕ} {x y z a : Parts} → IsAt i y x → IsAt j z x → (i ≡ j → ⊥) → CanBeEmpty rules y
      → CanBeEmpty rules z → IsWrong rules count 2 (choice x a)
  -- a repeated or optional part can be empty
  empty-option : {x a : Parts} → CanBeEmpty rules x → IsWrong rules count 3 (opt x a)
  empty-repeat : {x a : Parts} → CanBeEmpty rules x → IsWrong rules count 3 (many x a)
  -- a rule number isn't there
  not-there : {r : ℕ} {a : Parts} → count ≤ r → IsWrong rules count 5 (rule r a)

-- The rule has the fault of this number: somewhere in it; or it is left recursive, which is fault 4.
pub data HasFault (rules : ℕ → Parts) (count : ℕ) (number r : ℕ) : Type 0 where
  somewhere : {q : Parts} → Within q (rules r) → IsWrong rules count number q → HasFault rules count number r
  left-recursion : number ≡ 4 → IsLeftRecursive rules r → HasFault rules count number r

-- a table without a fault
abbrev pub IsSound : List Parts → Type 0
IsSound rules = (number r : ℕ) → r < length rules → HasFault (rule_of rules) (length rules) number r → ⊥

-- The least rule with a fault, and its least fault.
pub record IsLeastFault (rules : List Parts) (number r : ℕ) : Type 0 where
  pub there : r < length rules
  pub fault : HasFault (rule_of rules) (length rules) number r
  pub rules_before : (k s : ℕ) → s < r → HasFault (rule_of rules) (length rules) k s → ⊥
  pub numbers_before : (k : ℕ) → k < number → HasFault (rule_of rules) (length rules) k r → ⊥

-- The leaf that follows begins one alternative at most, and at most one is empty.
pub record AreApart (rules : ℕ → Parts) (x : Parts) : Type 0 where
  pub begin : (i j : ℕ) (y z : Parts) (c : ℕ) → IsAt i y x → IsAt j z x → CanBegin rules c y → CanBegin rules c z
      → i ≡ j
  pub empty : (i j : ℕ) (y z : Parts) → IsAt i y x → IsAt j z x → CanBeEmpty rules y → CanBeEmpty rules z → i ≡ j

-- Of these shapes all alternatives are apart, and each rule is there.
abbrev pub IsFine : (ℕ → Parts) → ℕ → Parts → Type 0
IsFine rules count end = Unit {0}
IsFine rules count (one c a) = IsFine rules count a
IsFine rules count (rule r a) = (r < count) × IsFine rules count a
IsFine rules count (choice x a) = AreApart rules x × IsFine rules count x × IsFine rules count a
IsFine rules count (opt x a) = IsFine rules count x × IsFine rules count a
IsFine rules count (many x a) = IsFine rules count x × IsFine rules count a
IsFine rules count (or y x) = IsFine rules count y × IsFine rules count x
