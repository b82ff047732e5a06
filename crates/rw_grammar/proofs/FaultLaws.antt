-- What marks of faults say.
use Rattle.std.proofs.Common.{◌≡◌, ℕ, zero, suc, ◌+◌, ◌<◌, ◌≤◌, List, [], ◌∷◌, ◌++◌, length, get_or, refl, sym, ◌∙◌, ap, subst, inl, inr, Bool, true, false, ◌&&◌, ◌||◌, arith, cond}
use Rattle.std.specs.Prelude.{◌⊎◌, ◌↔◌, ◌==◌, map, nat_le, count_by, Option, Some, Result, Ok, Err}
use Rattle.rw_base.specs.declared.memory.NoMemory.{NoMemory}
use Rattle.std.specs.List.{list_any}
use Rattle.std.proofs.lemmas.Bool.{false≢true, cases_order}
use Rattle.std.proofs.lemmas.Bool.Decides.{nat_tests}
use Rattle.std.proofs.lemmas.List.{get_or_at}
use Rattle.std.proofs.lemmas.List.Recursion.{is_count_by}
use Rattle.std.proofs.Math.ListN.{get_or-append}
use Rattle.rw_grammar.specs.declared.cells.Cell.{Cell}
use Rattle.rw_grammar.specs.declared.cells.Cell.TheVariants as cell
use Rattle.rw_grammar.specs.declared.table.Table.{Table}
use Rattle.rw_grammar.specs.declared.table.TableFault.{TableFault}
use Rattle.rw_grammar.specs.declared.table.TableFault.TheVariants as fault
use Rattle.rw_grammar.specs.Parts.{Parts, end, rule, choice, opt, many, or, IsAt, here, past, Within, at, behind-one, behind-rule, in-choice, behind-choice, in-opt, behind-opt, in-many, behind-many, in-or, behind-or, rule_of}
use Rattle.rw_grammar.specs.Begins.{CanBeEmpty, CanBegin, IsLeftRecursive}
use Rattle.rw_grammar.specs.Faults.{IsWrong, shares, empties, empty-option, empty-repeat, not-there, HasFault, somewhere, left-recursion, IsLeastFault}
use Rattle.rw_grammar.specs.Cells.{any_of, grown, shape_at, rules_at, cell_at, AllBelow, NamesBelow, bit, column_at, AreKnown, Tells, wrong_by, named_by, Somewhere}
use Rattle.rw_grammar.proofs.CellLaws.{left_of, right_of, both_of, first_holds, second_holds, one_holds, shape_is, names_inside, alternative, some_one, rule_is, rule_count}

le_is : (a b : ℕ) → nat_le a b ≡ true → a ≤ b
le_is a b h = grind (arith, nat_tests, h)

le_holds : (a b : ℕ) → a ≤ b → nat_le a b ≡ true
le_holds a b h = grind (arith, nat_tests, h)

eq_is : (c d : ℕ) → (c == d) ≡ true → c ≡ d
eq_is c d h = grind (arith, nat_tests, h)

eq_holds : (c d : ℕ) → c ≡ d → (c == d) ≡ true
eq_holds c d h = grind (arith, nat_tests, h)

-- ---- two of several

abbrev worth : (ℕ → Bool) → ℕ → ℕ
worth p y = cond (p y) 1 0

abbrev tally : (ℕ → Bool) → List ℕ → ℕ
tally p [] = 0
tally p (y ∷ ys) = cond (p y) (1 + tally p ys) (tally p ys)

count_more : (p : ℕ → Bool) (x : ℕ) (ys : List ℕ) → count_by p (x ∷ ys) ≡ worth p x + count_by p ys
count_more p x ys =
    let here : count_by p (x ∷ ys) ≡ tally p (x ∷ ys) = sym (is_count_by (tally p) p refl (λ y zs. refl) (x ∷ ys)) in
    let rest : tally p ys ≡ count_by p ys = is_count_by (tally p) p refl (λ y zs. refl) ys in
    here ∙ (of_cond (p x) (tally p ys) ∙ ap (λ n. worth p x + n) rest)
  where
    of_cond : (b : Bool) (t : ℕ) → cond b (1 + t) t ≡ cond b 1 0 + t
    of_cond true t = refl
    of_cond false t = omega arith

counted_set : (p : ℕ → Bool) (y : ℕ) → p y ≡ true → worth p y ≡ 1
counted_set p y h = ap (λ b. cond b 1 0) h

counted_unset : (p : ℕ → Bool) (y : ℕ) → p y ≡ false → worth p y ≡ 0
counted_unset p y h = ap (λ b. cond b 1 0) h

module _ (f : ℕ → Parts) (p : ℕ → Bool) where
  -- a cell that counts, at a position
  record Set (ys : List ℕ) (i y : ℕ) : Type 0 where
    at : IsAt i (f y) (any_of (map f ys))
    inside : (n : ℕ) → AllBelow n ys → y < n
    set : p y ≡ true

  set_next : (x : ℕ) (ys : List ℕ) (i y : ℕ) → Set ys i y → Set (x ∷ ys) (suc i) y
  set_next x ys i y s = record { at = past s.at; inside = λ n b. s.inside n (λ k lt. b (suc k) (omega arith)); set = s.set }

  set_here : (x : ℕ) (ys : List ℕ) → p x ≡ true → Set (x ∷ ys) 0 x
  set_here x ys h = record { at = here; inside = λ n b. b 0 (omega arith); set = h }

  one_set : (ys : List ℕ) → 1 ≤ count_by p ys → (i : ℕ) × (y : ℕ) × Set ys i y
  one_set [] h = absurd (omega arith)
  one_set (x ∷ ys) h = go (one_set ys) (p x) refl
    where
      go : (1 ≤ count_by p ys → (i : ℕ) × (y : ℕ) × Set ys i y) → (b : Bool) → p x ≡ b → (i : ℕ) × (y : ℕ) × Set (x ∷ ys) i y
      go rest true e = (0, x, set_here x ys e)
      go rest false e = let r = rest (omega (arith, h, counted_unset p x e, count_more p x ys)) in (suc r.0, r.1, set_next x ys r.0 r.1 r.2)

  two_set : (ys : List ℕ) → 2 ≤ count_by p ys → (i : ℕ) × (y : ℕ) × (j : ℕ) × (z : ℕ) × Set ys i y × Set ys j z × (i ≡ j → ⊥)
  two_set [] h = absurd (omega arith)
  two_set (x ∷ ys) h = go (two_set ys) (p x) refl
    where
      go : (2 ≤ count_by p ys → (i : ℕ) × (y : ℕ) × (j : ℕ) × (z : ℕ) × Set ys i y × Set ys j z × (i ≡ j → ⊥)) → (b : Bool) → p x ≡ b → (i : ℕ) × (y : ℕ) × (j : ℕ) × (z : ℕ) × Set (x ∷ ys) i y × Set (x ∷ ys) j z × (i ≡ j → ⊥)
      go rest true e = let r = one_set ys (omega (arith, h, counted_set p x e, count_more p x ys)) in (0, x, suc r.0, r.1, set_here x ys e, set_next x ys r.0 r.1 r.2, λ q. omega arith)
      go rest false e =
          let r = rest (omega (arith, h, counted_unset p x e, count_more p x ys)) in
          let ne = r.6 in
          (suc r.0, r.1, suc r.2, r.3, set_next x ys r.0 r.1 r.4, set_next x ys r.2 r.3 r.5, λ q. ne (omega arith))

  module _ (m : ℕ) where
    one_counted : (ys : List ℕ) (i : ℕ) (z : Parts) → AllBelow m ys → IsAt i z (any_of (map f ys)) → ((y : ℕ) → y < m → z ≡ f y → p y ≡ true) → 1 ≤ count_by p ys
    one_counted [] i z b q h = absurd (none q)
      where
        none : {i : ℕ} {z : Parts} → IsAt i z end → ⊥
        none q = elim q [ ]
    one_counted (y ∷ ys) _ _ b here h = omega (arith, count_more p y ys, counted_set p y (h y (b 0 (omega arith)) refl))
    one_counted (y ∷ ys) _ z b (past {i = i} q) h = omega (arith, count_more p y ys, one_counted ys i z (λ k lt. b (suc k) (omega arith)) q h)

    two_counted : (ys : List ℕ) (i j : ℕ) (v w : Parts) → AllBelow m ys → IsAt i v (any_of (map f ys)) → IsAt j w (any_of (map f ys)) → (i ≡ j → ⊥) → ((y : ℕ) → y < m → v ≡ f y → p y ≡ true) → ((y : ℕ) → y < m → w ≡ f y → p y ≡ true) → 2 ≤ count_by p ys
    two_counted [] i j v w b q r n h k = absurd (none q)
      where
        none : {i : ℕ} {z : Parts} → IsAt i z end → ⊥
        none q = elim q [ ]
    two_counted (y ∷ ys) _ _ _ _ b here here n h k = absurd (n refl)
    two_counted (y ∷ ys) _ _ _ w b here (past {i = j} r) n h k =
        omega (arith, count_more p y ys, counted_set p y (h y (b 0 (omega arith)) refl), one_counted ys j w (λ i lt. b (suc i) (omega arith)) r k)
    two_counted (y ∷ ys) _ _ v _ b (past {i = i} q) here n h k =
        omega (arith, count_more p y ys, counted_set p y (k y (b 0 (omega arith)) refl), one_counted ys i v (λ j lt. b (suc j) (omega arith)) q h)
    two_counted (y ∷ ys) _ _ v w b (past {i = i} q) (past {i = j} r) n h k =
        omega (arith, count_more p y ys, two_counted ys i j v w (λ l lt. b (suc l) (omega arith)) q r (λ e. n (ap suc e)) h k)

-- ---- the columns among which one is

any_column : (p : List Bool → Bool) (columns : List (List Bool)) → list_any p columns ≡ true → (c : ℕ) × (p (column_at columns c) ≡ true)
any_column p [] h = absurd (false≢true h)
any_column p (x ∷ xs) h = elim (one_holds (p x) (list_any p xs) h) [ inl e ↦ (0, e) | inr e ↦ let r = any_column p xs e in (suc r.0, r.1) ]

column_any : (p : List Bool → Bool) (columns : List (List Bool)) (c : ℕ) → (p [] ≡ false) → p (column_at columns c) ≡ true → list_any p columns ≡ true
column_any p [] c n h = absurd (false≢true (sym n ∙ h))
column_any p (x ∷ xs) zero n h = first_holds (p x) (list_any p xs) h
column_any p (x ∷ xs) (suc c) n h = second_holds (p x) (list_any p xs) (column_any p xs c n h)

none_set : (ys : List ℕ) → count_by (bit []) ys ≡ 0
none_set [] = refl
none_set (y ∷ ys) = omega (arith, none_set ys, count_more (bit []) y ys)

none_two : (ys : List ℕ) → nat_le 2 (count_by (bit []) ys) ≡ false
none_two ys = ap (nat_le 2) (none_set ys)

module _ (cells : List Cell) (roots : List ℕ) (empty : List Bool) (columns : List (List Bool)) (known : AreKnown cells roots empty columns) where
  abbrev rules : ℕ → Parts
  rules = rule_of (rules_at cells roots)

  abbrev shape : ℕ → Parts
  shape = shape_at cells

  abbrev count : ℕ
  count = length roots

  wrong_right : (number : ℕ) (x : Cell) → NamesBelow (length cells) x → wrong_by number count empty columns x ≡ true → IsWrong rules count number (grown shape x)
  wrong_right number cell.End b h = absurd (false≢true h)
  wrong_right number (cell.One c k) b h = absurd (false≢true h)
  wrong_right number (cell.Rule r k) b h =
      subst (λ n. IsWrong rules count n (rule r (shape k))) (sym (eq_is number 5 (left_of (number == 5) (nat_le count r) h))) (not-there (le_is count r (right_of (number == 5) (nat_le count r) h)))
  wrong_right number (cell.Choice ys k) b h =
      let shared = list_any (λ (column : List Bool). nat_le 2 (count_by (bit column) ys)) columns in
      let both = nat_le 2 (count_by (bit empty) ys) in
      elim (one_holds (number == 1 && shared) (number == 2 && both) h) [
        | inl e ↦
            let c = any_column (λ (column : List Bool). nat_le 2 (count_by (bit column) ys)) columns (right_of (number == 1) shared e) in
            let t = two_set shape (bit (column_at columns c.0)) ys (le_is 2 (count_by (bit (column_at columns c.0)) ys) c.1) in
            subst (λ n. IsWrong rules count n (choice (any_of (map shape ys)) (shape k))) (sym (eq_is number 1 (left_of (number == 1) shared e)))
            (shares t.4.at t.5.at t.6 ((known.begins c.0 t.1 (t.4.inside (length cells) b.0)).0 t.4.set) ((known.begins c.0 t.3 (t.5.inside (length cells) b.0)).0 t.5.set))
        | inr e ↦
            let t = two_set shape (bit empty) ys (le_is 2 (count_by (bit empty) ys) (right_of (number == 2) both e)) in
            subst (λ n. IsWrong rules count n (choice (any_of (map shape ys)) (shape k))) (sym (eq_is number 2 (left_of (number == 2) both e)))
            (empties t.4.at t.5.at t.6 ((known.empties t.1 (t.4.inside (length cells) b.0)).0 t.4.set) ((known.empties t.3 (t.5.inside (length cells) b.0)).0 t.5.set))
      ]
  wrong_right number (cell.Opt x k) b h =
      subst (λ n. IsWrong rules count n (opt (shape x) (shape k))) (sym (eq_is number 3 (left_of (number == 3) (bit empty x) h))) (empty-option ((known.empties x b.0).0 (right_of (number == 3) (bit empty x) h)))
  wrong_right number (cell.Many x k) b h =
      subst (λ n. IsWrong rules count n (many (shape x) (shape k))) (sym (eq_is number 3 (left_of (number == 3) (bit empty x) h))) (empty-repeat ((known.empties x b.0).0 (right_of (number == 3) (bit empty x) h)))

  wrong_known : (number : ℕ) (x : Cell) → NamesBelow (length cells) x → IsWrong rules count number (grown shape x) → wrong_by number count empty columns x ≡ true
  wrong_known number cell.End b w = elim w [ ]
  wrong_known number (cell.One c k) b w = elim w [ ]
  wrong_known number (cell.Rule r k) b (not-there le) = both_of (5 == 5) (nat_le count r) refl (le_holds count r le)
  wrong_known number (cell.Choice ys k) b (shares {i = i} {j = j} {c = c} {y = y} {z = z} p q n d e) =
      let shared = list_any (λ (column : List Bool). nat_le 2 (count_by (bit column) ys)) columns in
      first_holds (1 == 1 && shared) (1 == 2 && nat_le 2 (count_by (bit empty) ys)) (both_of (1 == 1) shared refl
      (column_any (λ (column : List Bool). nat_le 2 (count_by (bit column) ys)) columns c (none_two ys)
      (le_holds 2 (count_by (bit (column_at columns c)) ys)
      (two_counted shape (bit (column_at columns c)) (length cells) ys i j y z b.0 p q n (λ w lt s. (known.begins c w lt).1 (subst (CanBegin rules c) s d)) (λ w lt s. (known.begins c w lt).1 (subst (CanBegin rules c) s e))))))
  wrong_known number (cell.Choice ys k) b (empties {i = i} {j = j} {y = y} {z = z} p q n d e) =
      second_holds (2 == 1 && list_any (λ (column : List Bool). nat_le 2 (count_by (bit column) ys)) columns) (2 == 2 && nat_le 2 (count_by (bit empty) ys)) (both_of (2 == 2) (nat_le 2 (count_by (bit empty) ys)) refl
      (le_holds 2 (count_by (bit empty) ys)
      (two_counted shape (bit empty) (length cells) ys i j y z b.0 p q n (λ w lt s. (known.empties w lt).1 (subst (CanBeEmpty rules) s d)) (λ w lt s. (known.empties w lt).1 (subst (CanBeEmpty rules) s e)))))
  wrong_known number (cell.Opt x k) b (empty-option d) = both_of (3 == 3) (bit empty x) refl ((known.empties x b.0).1 d)
  wrong_known number (cell.Many x k) b (empty-repeat d) = both_of (3 == 3) (bit empty x) refl ((known.empties x b.0).1 d)

  -- ---- the marks

  -- in alternatives a fault is in one of them
  in_alternatives : (number : ℕ) (ys : List ℕ) (q : Parts) → Within q (any_of (map shape ys)) → IsWrong rules count number q → (i : ℕ) × (z : Parts) × IsAt i z (any_of (map shape ys)) × Within q z
  in_alternatives number [] _ at w = absurd (none w)
    where
      none : {number : ℕ} → IsWrong rules count number end → ⊥
      none w = elim w [ ]
  in_alternatives number (y ∷ ys) _ at w = absurd (none w)
    where
      none : {number : ℕ} {a x : Parts} → IsWrong rules count number (or a x) → ⊥
      none w = elim w [ ]
  in_alternatives number (y ∷ ys) q (in-or v) w = (0, shape y, here, v)
  in_alternatives number (y ∷ ys) q (behind-or v) w = let r = in_alternatives number ys q v w in (suc r.0, r.1, past r.2, r.3)

  up_alternatives : (ys : List ℕ) (i y : ℕ) (q : Parts) → IsAt i (shape y) (any_of (map shape ys)) → Within q (shape y) → Within q (any_of (map shape ys))
  up_alternatives ys i y q p v = up p v
    where
      up : {i : ℕ} {z x q : Parts} → IsAt i z x → Within q z → Within q x
      up here v = in-or v
      up (past p) v = behind-or (up p v)

  module _ (number : ℕ) (marks : List Bool) (n : ℕ) (told : (k : ℕ) → k < n → (bit marks k ≡ true) ↔ Somewhere rules count number (shape k)) where
    mark_right : (x : Cell) → NamesBelow n x → NamesBelow (length cells) x → (wrong_by number count empty columns x || named_by marks x) ≡ true → Somewhere rules count number (grown shape x)
    mark_right x b c h = elim (one_holds (wrong_by number count empty columns x) (named_by marks x) h) [
      | inl e ↦ (grown shape x, at, wrong_right number x c e)
      | inr e ↦ named x b e
    ]
      where
        named : (x : Cell) → NamesBelow n x → named_by marks x ≡ true → Somewhere rules count number (grown shape x)
        named cell.End b h = absurd (false≢true h)
        named (cell.One c k) b h = let s = (told k b).0 h in (s.0, behind-one s.1, s.2)
        named (cell.Rule r k) b h = let s = (told k b).0 h in (s.0, behind-rule s.1, s.2)
        named (cell.Choice ys k) b h = elim (one_holds (list_any (bit marks) ys) (bit marks k) h) [
          | inl e ↦ let a = some_one shape (bit marks) ys e in let s = (told a.1 (a.2.inside n b.0)).0 a.3 in (s.0, in-choice (up_alternatives ys a.0 a.1 s.0 a.2.at s.1), s.2)
          | inr e ↦ let s = (told k b.1).0 e in (s.0, behind-choice s.1, s.2)
        ]
        named (cell.Opt x k) b h = elim (one_holds (bit marks x) (bit marks k) h) [
          | inl e ↦ let s = (told x b.0).0 e in (s.0, in-opt s.1, s.2)
          | inr e ↦ let s = (told k b.1).0 e in (s.0, behind-opt s.1, s.2)
        ]
        named (cell.Many x k) b h = elim (one_holds (bit marks x) (bit marks k) h) [
          | inl e ↦ let s = (told x b.0).0 e in (s.0, in-many s.1, s.2)
          | inr e ↦ let s = (told k b.1).0 e in (s.0, behind-many s.1, s.2)
        ]

    mark_known : (x : Cell) → NamesBelow n x → NamesBelow (length cells) x → (q : Parts) → Within q (grown shape x) → IsWrong rules count number q → (wrong_by number count empty columns x || named_by marks x) ≡ true
    mark_known cell.End b c _ at w = first_holds (wrong_by number count empty columns cell.End) (named_by marks cell.End) (wrong_known number cell.End c w)
    mark_known (cell.One d k) b c _ at w = first_holds (wrong_by number count empty columns (cell.One d k)) (named_by marks (cell.One d k)) (wrong_known number (cell.One d k) c w)
    mark_known (cell.Rule r k) b c _ at w = first_holds (wrong_by number count empty columns (cell.Rule r k)) (named_by marks (cell.Rule r k)) (wrong_known number (cell.Rule r k) c w)
    mark_known (cell.Choice ys k) b c _ at w = first_holds (wrong_by number count empty columns (cell.Choice ys k)) (named_by marks (cell.Choice ys k)) (wrong_known number (cell.Choice ys k) c w)
    mark_known (cell.Opt x k) b c _ at w = first_holds (wrong_by number count empty columns (cell.Opt x k)) (named_by marks (cell.Opt x k)) (wrong_known number (cell.Opt x k) c w)
    mark_known (cell.Many x k) b c _ at w = first_holds (wrong_by number count empty columns (cell.Many x k)) (named_by marks (cell.Many x k)) (wrong_known number (cell.Many x k) c w)
    mark_known (cell.One d k) b c q (behind-one v) w = (told k b).1 (q, v, w)
    mark_known (cell.Rule r k) b c q (behind-rule v) w = second_holds (wrong_by number count empty columns (cell.Rule r k)) (bit marks k) ((told k b).1 (q, v, w))
    mark_known (cell.Choice ys k) b c q (in-choice v) w =
        let i = in_alternatives number ys q v w in
        let a = alternative shape ys i.0 i.1 i.2 in
        second_holds (wrong_by number count empty columns (cell.Choice ys k)) (list_any (bit marks) ys || bit marks k) (first_holds (list_any (bit marks) ys) (bit marks k) (a.1.any (bit marks) ((told a.0 (a.1.inside n b.0)).1 (q, subst (Within q) a.2 i.3, w))))
    mark_known (cell.Choice ys k) b c q (behind-choice v) w =
        second_holds (wrong_by number count empty columns (cell.Choice ys k)) (list_any (bit marks) ys || bit marks k) (second_holds (list_any (bit marks) ys) (bit marks k) ((told k b.1).1 (q, v, w)))
    mark_known (cell.Opt x k) b c q (in-opt v) w = second_holds (wrong_by number count empty columns (cell.Opt x k)) (bit marks x || bit marks k) (first_holds (bit marks x) (bit marks k) ((told x b.0).1 (q, v, w)))
    mark_known (cell.Opt x k) b c q (behind-opt v) w = second_holds (wrong_by number count empty columns (cell.Opt x k)) (bit marks x || bit marks k) (second_holds (bit marks x) (bit marks k) ((told k b.1).1 (q, v, w)))
    mark_known (cell.Many x k) b c q (in-many v) w = second_holds (wrong_by number count empty columns (cell.Many x k)) (bit marks x || bit marks k) (first_holds (bit marks x) (bit marks k) ((told x b.0).1 (q, v, w)))
    mark_known (cell.Many x k) b c q (behind-many v) w = second_holds (wrong_by number count empty columns (cell.Many x k)) (bit marks x || bit marks k) (second_holds (bit marks x) (bit marks k) ((told k b.1).1 (q, v, w)))

  -- one more mark
  pub one_more_mark : (number : ℕ) (marks : List Bool) (i : ℕ) (m : Bool) → length marks ≡ i → i < length cells → ((n : ℕ) → n < i → (bit marks n ≡ true) ↔ Somewhere rules count number (shape n)) →
      m ≡ (wrong_by number count empty columns (cell_at cells i) || named_by marks (cell_at cells i)) → (n : ℕ) → n < i + 1 → (bit (marks ++ m ∷ []) n ≡ true) ↔ Somewhere rules count number (shape n)
  one_more_mark number marks i m long lt told is n le = elim (cases_order n i) [
    | inl same ↦ subst (λ k. (bit (marks ++ m ∷ []) k ≡ true) ↔ Somewhere rules count number (shape k)) (sym same) last
    | inr o ↦ elim o [
      | inl small ↦ let old : bit (marks ++ m ∷ []) n ≡ bit marks n = get_or-append marks (m ∷ []) false n (omega (arith, long)) in (λ h. (told n small).0 (sym old ∙ h), λ s. old ∙ (told n small).1 s)
      | inr large ↦ absurd (omega arith)
    ]
  ]
    where
      here_names : NamesBelow i (cell_at cells i)
      here_names = known.laid.named i lt

      grows : shape i ≡ grown shape (cell_at cells i)
      grows = shape_is cells i known.laid.named lt

      set : bit (marks ++ m ∷ []) i ≡ m
      set = get_or_at marks m [] false i long

      last : (bit (marks ++ m ∷ []) i ≡ true) ↔ Somewhere rules count number (shape i)
      last = (
        λ h. subst (Somewhere rules count number) (sym grows) (mark_right number marks i told (cell_at cells i) here_names (names_inside cells i known.laid.named lt) (sym is ∙ (sym set ∙ h))),
        λ s. set ∙ (is ∙ mark_known number marks i told (cell_at cells i) here_names (names_inside cells i known.laid.named lt) s.0 (subst (Within s.0) grows s.1) s.2),
      )

  -- ---- the faults of a rule

  rule_faults : (number r : ℕ) → HasFault rules count number r → ((number ≡ 4) × IsLeftRecursive rules r) ⊎ Somewhere rules count number (rules r)
  rule_faults number r (somewhere {q = q} v w) = inr (q, v, w)
  rule_faults number r (left-recursion e d) = inl (e, d)

  numbers_of : (number : ℕ) (q : Parts) → IsWrong rules count number q → (number ≡ 1) ⊎ ((number ≡ 2) ⊎ ((number ≡ 3) ⊎ (number ≡ 5)))
  numbers_of number q (shares p r n d e) = inl refl
  numbers_of number q (empties p r n d e) = inr (inl refl)
  numbers_of number q (empty-option d) = inr (inr (inl refl))
  numbers_of number q (empty-repeat d) = inr (inr (inl refl))
  numbers_of number q (not-there le) = inr (inr (inr refl))

  -- a rule has no fault but those that are found
  pub only_faults : (number r : ℕ) → HasFault rules count number r →
      ((number ≡ 1) × Somewhere rules count 1 (rules r)) ⊎ (((number ≡ 2) × Somewhere rules count 2 (rules r)) ⊎ (((number ≡ 3) × Somewhere rules count 3 (rules r)) ⊎ (((number ≡ 4) × IsLeftRecursive rules r) ⊎ ((number ≡ 5) × Somewhere rules count 5 (rules r)))))
  only_faults number r f = elim (rule_faults number r f) [
    | inl e ↦ inr (inr (inr (inl e)))
    | inr s ↦ elim (numbers_of number s.0 s.2) [
      | inl e ↦ inl (e, subst (λ n. Somewhere rules count n (rules r)) e s)
      | inr o ↦ elim o [
        | inl e ↦ inr (inl (e, subst (λ n. Somewhere rules count n (rules r)) e s))
        | inr o ↦ elim o [
          | inl e ↦ inr (inr (inl (e, subst (λ n. Somewhere rules count n (rules r)) e s)))
          | inr e ↦ inr (inr (inr (inr (e, subst (λ n. Somewhere rules count n (rules r)) e s))))
        ]
      ]
    ]
  ]

  -- what a mark of a rule's first cell says
  pub found_in : (number r : ℕ) (marks bits : List Bool) → Tells cells (Somewhere rules count number) marks → r < count → true ≡ bit bits (get_or roots r 0) → bits ≡ marks → Somewhere rules count number (rules r)
  found_in number r marks bits told lt h e =
      subst (Somewhere rules count number) (sym (rule_is cells roots r lt)) ((told (get_or roots r 0) (known.laid.inside r lt)).0 (sym (ap (λ bs. bit bs (get_or roots r 0)) e) ∙ sym h))

  pub not_found_in : (number r : ℕ) (marks bits : List Bool) → Tells cells (Somewhere rules count number) marks → r < count → false ≡ bit bits (get_or roots r 0) → bits ≡ marks → Somewhere rules count number (rules r) → ⊥
  not_found_in number r marks bits told lt h e s =
      false≢true (h ∙ (ap (λ bs. bit bs (get_or roots r 0)) e ∙ (told (get_or roots r 0) (known.laid.inside r lt)).1 (subst (Somewhere rules count number) (rule_is cells roots r lt) s)))

  pub none_lower : (number r : ℕ) → (1 < number → Somewhere rules count 1 (rules r) → ⊥) → (2 < number → Somewhere rules count 2 (rules r) → ⊥) → (3 < number → Somewhere rules count 3 (rules r) → ⊥) → (4 < number → IsLeftRecursive rules r → ⊥) → (5 < number → Somewhere rules count 5 (rules r) → ⊥) →
      (k : ℕ) → k < number → HasFault rules count k r → ⊥
  none_lower number r n1 n2 n3 n4 n5 k lt f = elim (only_faults k r f) [
    | inl (e, s) ↦ n1 (omega arith) s
    | inr o ↦ elim o [
      | inl (e, s) ↦ n2 (omega arith) s
      | inr o ↦ elim o [
        | inl (e, s) ↦ n3 (omega arith) s
        | inr o ↦ elim o [ inl (e, s) ↦ n4 (omega arith) s | inr (e, s) ↦ n5 (omega arith) s ]
      ]
    ]
  ]

  pub least : (number r : ℕ) → r < count → HasFault rules count number r → ((k s : ℕ) → s < r → HasFault rules count k s → ⊥) → ((k : ℕ) → k < number → HasFault rules count k r → ⊥) → IsLeastFault (rules_at cells roots) number r
  least number r lt f before lower =
      let same : count ≡ length (rules_at cells roots) = sym (rule_count cells roots) in
      record {
        there = subst (λ n. r < n) same lt;
        fault = subst (λ n. HasFault rules n number r) same f;
        rules_before = λ k s q g. before k s q (subst (λ n. HasFault rules n k s) (sym same) g);
        numbers_before = λ k q g. lower k q (subst (λ n. HasFault rules n k r) (sym same) g);
      }

  pub found : (number r : ℕ) → Somewhere rules count number (rules r) → HasFault rules count number r
  found number r s = somewhere s.1 s.2

pub by_answer : (R : List Parts) (x y : ℕ × ℕ) → ◌≡◌ {A = Result (Option (ℕ × ℕ)) NoMemory} (Ok (Some x)) (Ok (Some y)) → IsLeastFault R x.0 x.1 → IsLeastFault R y.0 y.1
by_answer R x y h l = let same : x ≡ y = cc in subst (λ (z : ℕ × ℕ). IsLeastFault R z.0 z.1) same l

pub wrong_answer : (R : List Parts) (a b n r : ℕ) → ◌≡◌ {A = Result Table TableFault} (Err (fault.Wrong a b)) (Err (fault.Wrong n r)) → IsLeastFault R a b → IsLeastFault R n r
wrong_answer R a b n r h l =
    let first : a ≡ n = cc in
    let second : b ≡ r = cc in
    subst (λ k. IsLeastFault R k r) first (subst (IsLeastFault R a) second l)
