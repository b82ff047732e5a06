-- What a tree is that a rule derives: it has fewer nodes than a number of 32 bits tells, each of the kind of a rule.
use Rattle.std.proofs.Common.{◌≡◌, ℕ, zero, suc, ◌+◌, ◌<◌, ◌≤◌, ◌^◌, List, [], ◌∷◌, ◌++◌, length, get_or, refl, sym, ap}
use Rattle.std.proofs.Common.{subst, ◌∙◌, arith}
use Rattle.std.specs.Prelude.{Option, Result, Ok, IsSome, slice_get}
use Rattle.rw_base.specs.declared.tree.Leaf.{Leaf}
use Rattle.rw_base.specs.declared.leaves.Bad.{Bad}
use Rattle.rw_base.specs.declared.leaves.TheConstants.{MOST_BYTES}
use Rattle.rw_base.specs.declared.place.Refused.{Refused}
use Rattle.rw_base.specs.declared.tree.NodeRow.{NodeRow}
use Rattle.rw_base.specs.Arena.{Arena, IsTree, no_row, row_at, kind_of}
use Rattle.rw_base.specs.Trees.{Forest, Numbered, none, leaf, node, beside, size, width}
use Rattle.rw_base.specs.Laid.{kids_of, rows_from, laid_rows, with_numbers, parts_from}
use Rattle.rw_base.specs.LaidLaws.{length-rows}
use Rattle.rw_base.specs.LaidTrees.{laid_kids}
use Rattle.rw_grammar.specs.Parts.{Parts, rule_of}
use Rattle.rw_grammar.specs.Derivation.{wrapped, Derives, by-end, by-one, by-rule, by-choice, by-empty, by-opt}
use Rattle.rw_grammar.specs.Derivation.{by-no-opt, by-more, by-no-more}
use Rattle.rw_grammar.specs.Faults.{IsFine, IsSound, IsLeastFault}
use Rattle.rw_grammar.specs.Results.{IsDerived, class_in}
use Rattle.rw_grammar.specs.TreeLaws.{fine_at, sound_fine}
use Rattle.rw_grammar.specs.Reading.{IsOutcome, stops-at-leaf, ends-at-bad, is-too-deep, is-tree, is-cut}
use Rattle.java_reader.specs.declared.kind.TheConstants.{KINDS}
use Rattle.java_reader.specs.Kinds.{kind_in, AreKinds}
use Rattle.java_reader.specs.Reading.{java_rules, IsJavaCut, IsJavaRead, CutsAreOne, AreReadSteps, none-taken, one-each}

-- ---- few nodes

size-numbers : (n : ℕ) (f : Forest) → size (with_numbers n f) ≡ size f
unfolding with_numbers
size-numbers n none = refl
size-numbers n (leaf i f) = size-numbers n f
size-numbers n (node _ k kids f) = omega (arith, size-numbers n kids, size-numbers (n + (size kids + 1)) f)

pub few_nodes : (rules : List Parts) (start : ℕ) (leaves : List Leaf) (t : Arena) → IsTree t
    → IsDerived rules start leaves t → size (kids_of t.nodes t.root) + 1 < 2 ^ 32
few_nodes rules start leaves t tree d =
    let rows = laid_rows d.kind d.kids in
    let below : size (kids_of t.nodes t.root) ≡ size d.kids =
    ap (λ (x : Arena). size (kids_of x.nodes x.root)) d.is
    ∙ (ap (λ (f : Numbered). size f) (laid_kids leaves d.kind d.kids) ∙ size-numbers 0 d.kids) in
    let count : length t.nodes ≡ length rows = ap (λ (x : Arena). length x.nodes) d.is in
    omega (arith, below, count, tree.node_count, length-rows 0 0 (node tt d.kind d.kids none))

-- ---- the kinds of rules

-- all nodes are of kinds below this number
KindsBelow : ℕ → Forest → Type 0
KindsBelow count none = Unit {0}
KindsBelow count (leaf i f) = KindsBelow count f
KindsBelow count (node _ k kids f) = (k < count) × KindsBelow count kids × KindsBelow count f

kinds_beside : (count : ℕ) (f g : Forest) → KindsBelow count f → KindsBelow count g → KindsBelow count (beside f g)
unfolding KindsBelow
kinds_beside count none g h k = k
kinds_beside count (leaf i f) g h k = kinds_beside count f g h k
kinds_beside count (node _ r kids f) g h k = (h.0, h.1, kinds_beside count f g h.2 k)

kinds_wrapped : (count r : ℕ) (f : Forest) → r < count → KindsBelow count f → KindsBelow count (wrapped r f)
unfolding KindsBelow
kinds_wrapped count r none lt h = (lt, h, tt)
kinds_wrapped count r (leaf i f) lt h = (lt, h, tt)
kinds_wrapped count r (node _ k kids none) lt h = h
kinds_wrapped count r (node _ k kids (leaf i f)) lt h = (lt, h, tt)
kinds_wrapped count r (node _ k kids (node u j others f)) lt h = (lt, h, tt)

kinds_both : (count : ℕ) (f g t : Forest) → t ≡ beside f g → KindsBelow count f → KindsBelow count g → KindsBelow count t
kinds_both count f g t e h k = subst (KindsBelow count) (sym e) (kinds_beside count f g h k)

module _ (rules : ℕ → Parts) (count : ℕ) (class : ℕ → ℕ) (each : (r : ℕ) → IsFine rules count (rules r)) where
  kinds_derived : {a : Parts} {ls rest : List ℕ} {f : Forest} → IsFine rules count a → Derives rules class a ls rest f
      → KindsBelow count f
  unfolding KindsBelow
  kinds_derived h by-end = tt
  kinds_derived h (by-one p d) = kinds_derived h d
  kinds_derived h (by-rule {r = r} {f = f} {g = g} {t = t} d d' e) =
      kinds_both count (wrapped r f) g t e (kinds_wrapped count r f h.0 (kinds_derived (each r) d)) (kinds_derived h.1 d')
  kinds_derived h (by-choice {f = f} {g = g} {t = t} p go d d' e) =
      kinds_both count f g t e (kinds_derived (fine_at rules count p h.1) d) (kinds_derived h.2 d')
  kinds_derived h (by-empty {f = f} {g = g} {t = t} n p em d d' e) =
      kinds_both count f g t e (kinds_derived (fine_at rules count p h.1) d) (kinds_derived h.2 d')
  kinds_derived h (by-opt {f = f} {g = g} {t = t} go d d' e) =
      kinds_both count f g t e (kinds_derived h.0 d) (kinds_derived h.1 d')
  kinds_derived h (by-no-opt n d) = kinds_derived h.1 d
  kinds_derived h (by-more {f = f} {g = g} {t = t} go d d' e) =
      kinds_both count f g t e (kinds_derived h.0 d) (kinds_derived h d')
  kinds_derived h (by-no-more n d) = kinds_derived h.1 d

-- ---- of rows

RowsBelow : ℕ → List NodeRow → Type 0
RowsBelow count [] = Unit {0}
RowsBelow count (r ∷ rs) = (r.kind < count) × RowsBelow count rs

rows_append : (count : ℕ) (rs ss : List NodeRow) → RowsBelow count rs → RowsBelow count ss → RowsBelow count (rs ++ ss)
unfolding RowsBelow
rows_append count [] ss h k = k
rows_append count (r ∷ rs) ss h k = (h.0, rows_append count rs ss h.1 k)

rows_kinds : (count n at : ℕ) (f : Forest) → KindsBelow count f → RowsBelow count (rows_from n at f)
unfolding KindsBelow RowsBelow rows_from
rows_kinds count n at none h = tt
rows_kinds count n at (leaf i f) h = rows_kinds count n (at + 1) f h
rows_kinds count n at (node _ k kids f) h =
    rows_append count (rows_from n at kids)
    (record { kind = k; first = at; past = at + width kids; parts = parts_from n kids }
    ∷ rows_from (n + (size kids + 1)) (at + width kids) f)
    (rows_kinds count n at kids h.1)
    (h.0, rows_kinds count (n + (size kids + 1)) (at + width kids) f h.2)

row_below : (count : ℕ) (rs : List NodeRow) → RowsBelow count rs → (n : ℕ) → n < length rs
    → (get_or rs n no_row).kind < count
unfolding RowsBelow
row_below count [] h n lt = absurd (omega (arith, lt))
row_below count (r ∷ rs) h zero lt = h.0
row_below count (r ∷ rs) h (suc n) lt = row_below count rs h.1 n (omega (arith, lt))

pub derived_kinds : (rules : List Parts) → IsSound rules → (start : ℕ) → start < length rules → (leaves : List Leaf)
    (t : Arena) → IsDerived rules start leaves t → (n : ℕ) → n < length t.nodes → kind_of t.nodes n < length rules
unfolding row_at
derived_kinds rules sound start le leaves t d n lt =
    let fine = sound_fine rules sound in
    let trees = kinds_derived (rule_of rules) (length rules) (class_in leaves) fine (fine start) d.derived.derived in
    let whole : KindsBelow (length rules) (node tt d.kind d.kids none) =
    subst (KindsBelow (length rules)) (sym d.derived.is) (kinds_wrapped (length rules) start d.derived.trees le trees) in
    let rows = rows_kinds (length rules) 0 0 (node tt d.kind d.kids none) whole in
    row_below (length rules) t.nodes
    (subst (λ (x : Arena). RowsBelow (length rules) x.nodes) (sym d.is) rows) n lt

-- ---- the table and the outcome of a reading

-- rules that are a sound table have no least fault
pub none_wrong : (rules table : List Parts) → rules ≡ table → IsSound table → (number r : ℕ)
    → IsLeastFault rules number r → ⊥
none_wrong rules table e sound number r w = (subst IsSound (sym e) sound) number r w.there w.fault

-- a tree that comes of a text is derived
pub derived_tree : (rules : List Parts) (start : ℕ) (bytes : List ℕ) (leaves : List Leaf) (bad : Option Bad) (t : Arena)
    → IsOutcome rules start bytes leaves bad (Ok t) → IsDerived rules start leaves t
derived_tree rules start bytes leaves bad t (stops-at-leaf i s e) = absurd cc
derived_tree rules start bytes leaves bad t (ends-at-bad b p d e) = absurd cc
derived_tree rules start bytes leaves bad t (is-too-deep i p d e) = absurd cc
derived_tree rules start bytes leaves bad t (is-tree u p d e) =
    let same : u ≡ t = cc in subst (IsDerived rules start leaves) same d

-- each number of a rule is a kind's
pub rule_count : length java_rules ≡ 86
unfolding java_rules
rule_count = refl

kind_there : (k : ℕ) → k < 86 → IsSome (kind_in k)
unfolding kind_in
kind_there k lt = some_at KINDS k lt
  where
    some_at : {X : Type 0} (xs : List X) (k : ℕ) → k < length xs → IsSome (slice_get xs k)
    some_at [] k lt = absurd (omega (arith, lt))
    some_at (x ∷ xs) zero lt = refl
    some_at (x ∷ xs) (suc k) lt = some_at xs k (omega (arith, lt))

pub kinds_of_tree : (table : List Parts) → table ≡ java_rules → IsSound java_rules → (start : ℕ)
    → start < length java_rules → (leaves : List Leaf) (t : Arena) → IsDerived table start leaves t → AreKinds t.nodes
kinds_of_tree table e sound start le leaves t d n lt =
    let derived = subst (λ (ps : List Parts). IsDerived ps start leaves t) e d in
    kind_there (kind_of t.nodes n)
    (omega (arith, rule_count, derived_kinds java_rules sound start le leaves t derived n lt))

-- what comes of the leaves comes of the text
pub reads : (table : List Parts) → table ≡ java_rules → (start : ℕ) (bytes : List ℕ) (leaves : List Leaf)
    (bad : Option Bad) (outcome : Result Arena Refused) → length bytes ≤ MOST_BYTES → IsJavaCut bytes leaves bad
    → IsOutcome table start bytes leaves bad outcome → IsJavaRead start bytes outcome
reads table e start bytes leaves bad outcome small cut o =
    is-cut leaves bad small cut (subst (λ (ps : List Parts). IsOutcome ps start bytes leaves bad outcome) e o)

-- the steps of a reading are those of one cut
pub one_count : (bytes : List ℕ) → CutsAreOne bytes → (leaves : List Leaf) (bad : Option Bad) (old new most : ℕ)
    → length bytes ≤ MOST_BYTES → IsJavaCut bytes leaves bad → new ≡ old + length leaves → AreReadSteps bytes old most
    → new ≤ most
one_count bytes same leaves bad old new most small cut e (none-taken large n) = absurd (omega (arith, small, large))
one_count bytes same leaves bad old new most small cut e (one-each others worse le other n) =
    omega (arith, e, n, ap length (same leaves others bad worse cut other).0)
