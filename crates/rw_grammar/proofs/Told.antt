-- What is told of cells is right, and where nothing more follows, it is all.
use Rattle.std.proofs.Common.{◌≡◌, ℕ, ◌<◌, ◌≤◌, List, [], ◌∷◌, length, get_or, arith, refl, sym, ◌∙◌, ap, subst, inl, inr, Bool, true, false, ◌&&◌, ◌||◌}
use Rattle.std.specs.Prelude.{map, ◌==◌}
use Rattle.std.specs.List.{list_any}
use Rattle.std.proofs.lemmas.Bool.{false≢true, cases_order, cases_eq}
use Rattle.std.proofs.Math.ListN.{set}
use Rattle.std.proofs.Common.{get_or-set_other}
use Rattle.std.proofs.lemmas.Bool.Decides.{nat_tests}
use Rattle.rw_grammar.specs.declared.cells.Cell.{Cell}
use Rattle.rw_grammar.specs.declared.cells.Cell.TheVariants as cell
use Rattle.rw_grammar.specs.declared.known.Asked.{Asked}
use Rattle.rw_grammar.specs.declared.known.Asked.TheVariants as asked
use Rattle.rw_grammar.specs.Parts.{Parts, end, one, rule, choice, opt, many, IsAt, rule_of, no_rule}
use Rattle.rw_grammar.specs.Begins.{CanBeEmpty, empty-end, empty-rule, empty-choice, empty-opt, empty-many, Front, of_class, of_rule, CanStart, is-class, is-rule, from-rule, after-rule, from-choice, after-choice, from-opt, after-opt, from-many, after-many}
use Rattle.rw_grammar.specs.Cells.{any_of, grown, shape_at, rules_at, cell_at, AllBelow, NamesBelow, AreLaid, Holds, Tells, bit, root_at, empty_by, is_class, is_rule, starts_by, told_by, AreRight, AreClosed, EmptyTold}
use Rattle.rw_grammar.proofs.CellLaws.{left_of, right_of, both_of, first_holds, second_holds, one_holds, shape_is, names_inside, alternative, some_one, rule_is, no_rule_is, root_there, root_absent}

eq_is : (c d : ℕ) → (c == d) ≡ true → c ≡ d
eq_is c d h = grind (arith, nat_tests, h)

eq_refl : (c : ℕ) → (c == c) ≡ true
eq_refl c = grind (arith, nat_tests)

-- what is asked for in front
front_of : Asked → Front
front_of asked.Empty = of_class 0
front_of (asked.Class c) = of_class c
front_of (asked.Rule r) = of_rule r

asks_class : (a : Asked) (c : ℕ) → is_class a c ≡ true → front_of a ≡ of_class c
unfolding front_of
asks_class asked.Empty c h = absurd (false≢true h)
asks_class (asked.Class d) c h = ap of_class (eq_is d c h)
asks_class (asked.Rule r) c h = absurd (false≢true h)

asks_rule : (a : Asked) (r : ℕ) → is_rule a r ≡ true → front_of a ≡ of_rule r
unfolding front_of
asks_rule asked.Empty r h = absurd (false≢true h)
asks_rule (asked.Class d) r h = absurd (false≢true h)
asks_rule (asked.Rule d) r h = ap of_rule (eq_is d r h)

-- ---- the cell of a shape

module _ (f : ℕ → Parts) (m : ℕ) where
  one_cell : (x : Cell) (c : ℕ) (a : Parts) → NamesBelow m x → grown f x ≡ one c a → (k : ℕ) × (x ≡ cell.One c k) × (k < m) × (f k ≡ a)
  one_cell cell.End c a b e = absurd (cc)
  one_cell (cell.One d k) c a b e = let same : d ≡ c = cc in (k, ap (λ i. cell.One i k) same, b, cc)
  one_cell (cell.Rule s k) c a b e = absurd (cc)
  one_cell (cell.Choice ys k) c a b e = absurd (cc)
  one_cell (cell.Opt x k) c a b e = absurd (cc)
  one_cell (cell.Many x k) c a b e = absurd (cc)

  rule_cell : (x : Cell) (r : ℕ) (a : Parts) → NamesBelow m x → grown f x ≡ rule r a → (k : ℕ) × (x ≡ cell.Rule r k) × (k < m) × (f k ≡ a)
  rule_cell cell.End r a b e = absurd (cc)
  rule_cell (cell.One d k) r a b e = absurd (cc)
  rule_cell (cell.Rule s k) r a b e = let same : s ≡ r = cc in (k, ap (λ i. cell.Rule i k) same, b, cc)
  rule_cell (cell.Choice ys k) r a b e = absurd (cc)
  rule_cell (cell.Opt x k) r a b e = absurd (cc)
  rule_cell (cell.Many x k) r a b e = absurd (cc)

  choice_cell : (x : Cell) (z a : Parts) → NamesBelow m x → grown f x ≡ choice z a → (ys : List ℕ) × (k : ℕ) × (x ≡ cell.Choice ys k) × AllBelow m ys × (k < m) × (any_of (map f ys) ≡ z) × (f k ≡ a)
  choice_cell cell.End z a b e = absurd (cc)
  choice_cell (cell.One d k) z a b e = absurd (cc)
  choice_cell (cell.Rule s k) z a b e = absurd (cc)
  choice_cell (cell.Choice ys k) z a b e = (ys, k, refl, b.0, b.1, cc, cc)
  choice_cell (cell.Opt x k) z a b e = absurd (cc)
  choice_cell (cell.Many x k) z a b e = absurd (cc)

  opt_cell : (x : Cell) (z a : Parts) → NamesBelow m x → grown f x ≡ opt z a → (y : ℕ) × (k : ℕ) × (x ≡ cell.Opt y k) × (y < m) × (k < m) × (f y ≡ z) × (f k ≡ a)
  opt_cell cell.End z a b e = absurd (cc)
  opt_cell (cell.One d k) z a b e = absurd (cc)
  opt_cell (cell.Rule s k) z a b e = absurd (cc)
  opt_cell (cell.Choice ys k) z a b e = absurd (cc)
  opt_cell (cell.Opt x k) z a b e = (x, k, refl, b.0, b.1, cc, cc)
  opt_cell (cell.Many x k) z a b e = absurd (cc)

  many_cell : (x : Cell) (z a : Parts) → NamesBelow m x → grown f x ≡ many z a → (y : ℕ) × (k : ℕ) × (x ≡ cell.Many y k) × (y < m) × (k < m) × (f y ≡ z) × (f k ≡ a)
  many_cell cell.End z a b e = absurd (cc)
  many_cell (cell.One d k) z a b e = absurd (cc)
  many_cell (cell.Rule s k) z a b e = absurd (cc)
  many_cell (cell.Choice ys k) z a b e = absurd (cc)
  many_cell (cell.Opt x k) z a b e = absurd (cc)
  many_cell (cell.Many x k) z a b e = (x, k, refl, b.0, b.1, cc, cc)

  end_cell : (x : Cell) → grown f x ≡ end → x ≡ cell.End
  end_cell cell.End e = refl
  end_cell (cell.One d k) e = absurd (cc)
  end_cell (cell.Rule s k) e = absurd (cc)
  end_cell (cell.Choice ys k) e = absurd (cc)
  end_cell (cell.Opt x k) e = absurd (cc)
  end_cell (cell.Many x k) e = absurd (cc)

module _ (cells : List Cell) (roots : List ℕ) (laid : AreLaid cells roots) where
  abbrev pub rules : ℕ → Parts
  rules = rule_of (rules_at cells roots)

  abbrev shape : ℕ → Parts
  shape = shape_at cells

  -- the first cell of a rule whose bit is set
  root_of : (r : ℕ) (bits : List Bool) → root_at roots r (bit bits) ≡ true → (m : ℕ) × (m < length cells) × (rules r ≡ shape m) × (bit bits m ≡ true)
  root_of r bits h = elim (cases_order r (length roots)) [
    | inl same ↦ none (omega arith)
    | inr o ↦ elim o [ inl lt ↦ (get_or roots r 0, laid.inside r lt, rule_is cells roots r lt, sym (root_there cells roots r (bit bits) lt) ∙ h) | inr gt ↦ none (omega arith) ]
  ]
    where
      none : length roots ≤ r → (m : ℕ) × (m < length cells) × (rules r ≡ shape m) × (bit bits m ≡ true)
      none le = absurd (false≢true (sym (root_absent cells roots r (bit bits) le) ∙ h))

  -- ---- each answer that follows is right

  module _ (known : List Bool) (right : AreRight cells rules asked.Empty known) where
    empty_root : (r : ℕ) → root_at roots r (bit known) ≡ true → CanBeEmpty rules (rules r)
    empty_root r h = let m = root_of r known h in subst (CanBeEmpty rules) (sym m.2) (right m.0 m.1 m.3)

    empty_right : (x : Cell) → NamesBelow (length cells) x → empty_by roots known x ≡ true → CanBeEmpty rules (grown shape x)
    empty_right cell.End b h = empty-end
    empty_right (cell.One c k) b h = absurd (false≢true h)
    empty_right (cell.Rule r k) b h = empty-rule (empty_root r (left_of (root_at roots r (bit known)) (bit known k) h)) (right k b (right_of (root_at roots r (bit known)) (bit known k) h))
    empty_right (cell.Choice ys k) b h =
        let s = some_one shape (bit known) ys (left_of (list_any (bit known) ys) (bit known k) h) in
        empty-choice s.2.at (right s.1 (s.2.inside (length cells) b.0) s.3) (right k b.1 (right_of (list_any (bit known) ys) (bit known k) h))
    empty_right (cell.Opt x k) b h = empty-opt (right k b.1 h)
    empty_right (cell.Many x k) b h = empty-many (right k b.1 h)

  module _ (a : Asked) (empty known : List Bool) (empties : Tells cells (CanBeEmpty rules) empty) (right : (n : ℕ) → n < length cells → bit known n ≡ true → CanStart rules (front_of a) (shape n)) where
    starts_right : (x : Cell) → NamesBelow (length cells) x → starts_by roots empty a known x ≡ true → CanStart rules (front_of a) (grown shape x)
    starts_right cell.End b h = absurd (false≢true h)
    starts_right (cell.One c k) b h = is-class (asks_class a c h)
    starts_right (cell.Rule r k) b h =
        elim (one_holds (is_rule a r || root_at roots r (bit known)) (root_at roots r (bit empty) && bit known k) h) [
          | inl e ↦ elim (one_holds (is_rule a r) (root_at roots r (bit known)) e) [
            | inl f ↦ is-rule (asks_rule a r f)
            | inr f ↦ let m = root_of r known f in from-rule (subst (CanStart rules (front_of a)) (sym m.2) (right m.0 m.1 m.3))
          ]
          | inr e ↦
              let m = root_of r empty (left_of (root_at roots r (bit empty)) (bit known k) e) in
              after-rule (subst (CanBeEmpty rules) (sym m.2) ((empties m.0 m.1).0 m.3)) (right k b (right_of (root_at roots r (bit empty)) (bit known k) e))
        ]
    starts_right (cell.Choice ys k) b h =
        elim (one_holds (list_any (bit known) ys) (list_any (bit empty) ys && bit known k) h) [
          | inl e ↦ let s = some_one shape (bit known) ys e in from-choice s.2.at (right s.1 (s.2.inside (length cells) b.0) s.3)
          | inr e ↦
              let s = some_one shape (bit empty) ys (left_of (list_any (bit empty) ys) (bit known k) e) in
              after-choice s.2.at ((empties s.1 (s.2.inside (length cells) b.0)).0 s.3) (right k b.1 (right_of (list_any (bit empty) ys) (bit known k) e))
        ]
    starts_right (cell.Opt x k) b h =
        elim (one_holds (bit known x) (bit known k) h) [ inl e ↦ from-opt (right x b.0 e) | inr e ↦ after-opt (right k b.1 e) ]
    starts_right (cell.Many x k) b h =
        elim (one_holds (bit known x) (bit known k) h) [ inl e ↦ from-many (right x b.0 e) | inr e ↦ after-many (right k b.1 e) ]

  pub told_right : (a : Asked) (empty known : List Bool) (n : ℕ) → EmptyTold cells rules a empty → AreRight cells rules a known → n < length cells → told_by roots empty a known (cell_at cells n) ≡ true → Holds rules a (shape n)
  unfolding front_of
  told_right asked.Empty empty known n t right lt h =
      subst (CanBeEmpty rules) (sym (shape_is cells n laid.named lt)) (empty_right known right (cell_at cells n) (names_inside cells n laid.named lt) h)
  told_right (asked.Class c) empty known n t right lt h =
      subst (CanStart rules (of_class c)) (sym (shape_is cells n laid.named lt)) (starts_right (asked.Class c) empty known t right (cell_at cells n) (names_inside cells n laid.named lt) h)
  told_right (asked.Rule r) empty known n t right lt h =
      subst (CanStart rules (of_rule r)) (sym (shape_is cells n laid.named lt)) (starts_right (asked.Rule r) empty known t right (cell_at cells n) (names_inside cells n laid.named lt) h)

  -- ---- where nothing more follows, each answer is there

  module _ (n : ℕ) (lt : n < length cells) (p : Parts) (is : shape n ≡ p) where
    cell_grows : grown shape (cell_at cells n) ≡ p
    cell_grows = sym (shape_is cells n laid.named lt) ∙ is

    inside_here : NamesBelow (length cells) (cell_at cells n)
    inside_here = names_inside cells n laid.named lt

  -- the first cell of a rule that isn't empty of meaning
  first_cell : (r : ℕ) (P : Parts → Type 0) → P (rules r) → (P no_rule → ⊥) → (m : ℕ) × (m < length cells) × (shape m ≡ rules r) × ((b : ℕ → Bool) → b m ≡ true → root_at roots r b ≡ true)
  first_cell r P h none = elim (cases_order r (length roots)) [
    | inl same ↦ no (omega arith)
    | inr o ↦ elim o [ inl lt ↦ (get_or roots r 0, laid.inside r lt, sym (rule_is cells roots r lt), λ b e. root_there cells roots r b lt ∙ e) | inr gt ↦ no (omega arith) ]
  ]
    where
      no : length roots ≤ r → (m : ℕ) × (m < length cells) × (shape m ≡ rules r) × ((b : ℕ → Bool) → b m ≡ true → root_at roots r b ≡ true)
      no le = absurd (none (subst P (no_rule_is cells roots r le) h))

  no_place : {i : ℕ} {z : Parts} → IsAt i z end → ⊥
  no_place p = elim p [ ]

  never_empty : CanBeEmpty rules no_rule → ⊥
  never_empty (empty-choice p d e) = no_place p

  never_starts : (s : Front) → CanStart rules s no_rule → ⊥
  never_starts s (from-choice p d) = no_place p
  never_starts s (after-choice p d e) = no_place p

  module _ (none known : List Bool) (closed : AreClosed cells roots none asked.Empty known) where
    abbrev told : Cell → Bool
    told x = told_by roots none asked.Empty known x

    empty_known : {p : Parts} → CanBeEmpty rules p → (n : ℕ) → n < length cells → shape n ≡ p → bit known n ≡ true
    empty_known empty-end n lt e = closed n lt (ap told (end_cell shape (length cells) (cell_at cells n) (cell_grows n lt end e)))
    empty_known (empty-rule {r = r} {a = a} d d') n lt e =
        let c = rule_cell shape (length cells) (cell_at cells n) r a (inside_here n lt (rule r a) e) (cell_grows n lt (rule r a) e) in
        let m = first_cell r (CanBeEmpty rules) d never_empty in
        closed n lt (ap told c.1 ∙ both_of (root_at roots r (bit known)) (bit known c.0) (m.3 (bit known) (empty_known d m.0 m.1 m.2)) (empty_known d' c.0 c.2 c.3))
    empty_known (empty-choice {i = i} {x = x} {y = y} {a = a} p d d') n lt e =
        let c = choice_cell shape (length cells) (cell_at cells n) x a (inside_here n lt (choice x a) e) (cell_grows n lt (choice x a) e) in
        let s = alternative shape c.0 i y (subst (IsAt i y) (sym c.5) p) in
        closed n lt (ap told c.2 ∙ both_of (list_any (bit known) c.0) (bit known c.1) (s.1.any (bit known) (empty_known d s.0 (s.1.inside (length cells) c.3) (sym s.2))) (empty_known d' c.1 c.4 c.6))
    empty_known (empty-opt {x = x} {a = a} d) n lt e =
        let c = opt_cell shape (length cells) (cell_at cells n) x a (inside_here n lt (opt x a) e) (cell_grows n lt (opt x a) e) in
        closed n lt (ap told c.2 ∙ empty_known d c.1 c.4 c.6)
    empty_known (empty-many {x = x} {a = a} d) n lt e =
        let c = many_cell shape (length cells) (cell_at cells n) x a (inside_here n lt (many x a) e) (cell_grows n lt (many x a) e) in
        closed n lt (ap told c.2 ∙ empty_known d c.1 c.4 c.6)

  module _ (a : Asked) (empty known : List Bool) (empties : Tells cells (CanBeEmpty rules) empty) (closed : (n : ℕ) → n < length cells → starts_by roots empty a known (cell_at cells n) ≡ true → bit known n ≡ true)
      (s : Front) (classes : (c : ℕ) → s ≡ of_class c → is_class a c ≡ true) (numbers : (r : ℕ) → s ≡ of_rule r → is_rule a r ≡ true) where
    abbrev starts : Cell → Bool
    starts x = starts_by roots empty a known x

    starts_known : {p : Parts} → CanStart rules s p → (n : ℕ) → n < length cells → shape n ≡ p → bit known n ≡ true
    starts_known (is-class {c = c} {a = b} q) n lt e =
        let x = one_cell shape (length cells) (cell_at cells n) c b (inside_here n lt (one c b) e) (cell_grows n lt (one c b) e) in
        closed n lt (ap starts x.1 ∙ classes c q)
    starts_known (is-rule {r = r} {a = b} q) n lt e =
        let x = rule_cell shape (length cells) (cell_at cells n) r b (inside_here n lt (rule r b) e) (cell_grows n lt (rule r b) e) in
        closed n lt (ap starts x.1 ∙ first_holds (is_rule a r || root_at roots r (bit known)) (root_at roots r (bit empty) && bit known x.0) (first_holds (is_rule a r) (root_at roots r (bit known)) (numbers r q)))
    starts_known (from-rule {r = r} {a = b} d) n lt e =
        let x = rule_cell shape (length cells) (cell_at cells n) r b (inside_here n lt (rule r b) e) (cell_grows n lt (rule r b) e) in
        let m = first_cell r (CanStart rules s) d (never_starts s) in
        closed n lt (ap starts x.1 ∙ first_holds (is_rule a r || root_at roots r (bit known)) (root_at roots r (bit empty) && bit known x.0) (second_holds (is_rule a r) (root_at roots r (bit known)) (m.3 (bit known) (starts_known d m.0 m.1 m.2))))
    starts_known (after-rule {r = r} {a = b} d d') n lt e =
        let x = rule_cell shape (length cells) (cell_at cells n) r b (inside_here n lt (rule r b) e) (cell_grows n lt (rule r b) e) in
        let m = first_cell r (CanBeEmpty rules) d never_empty in
        let is_empty : root_at roots r (bit empty) ≡ true = m.3 (bit empty) ((empties m.0 m.1).1 (subst (CanBeEmpty rules) (sym m.2) d)) in
        closed n lt (ap starts x.1 ∙ second_holds (is_rule a r || root_at roots r (bit known)) (root_at roots r (bit empty) && bit known x.0) (both_of (root_at roots r (bit empty)) (bit known x.0) is_empty (starts_known d' x.0 x.2 x.3)))
    starts_known (from-choice {i = i} {x = z} {y = y} {a = b} p d) n lt e =
        let x = choice_cell shape (length cells) (cell_at cells n) z b (inside_here n lt (choice z b) e) (cell_grows n lt (choice z b) e) in
        let w = alternative shape x.0 i y (subst (IsAt i y) (sym x.5) p) in
        closed n lt (ap starts x.2 ∙ first_holds (list_any (bit known) x.0) (list_any (bit empty) x.0 && bit known x.1) (w.1.any (bit known) (starts_known d w.0 (w.1.inside (length cells) x.3) (sym w.2))))
    starts_known (after-choice {i = i} {x = z} {y = y} {a = b} p d d') n lt e =
        let x = choice_cell shape (length cells) (cell_at cells n) z b (inside_here n lt (choice z b) e) (cell_grows n lt (choice z b) e) in
        let w = alternative shape x.0 i y (subst (IsAt i y) (sym x.5) p) in
        let is_empty : list_any (bit empty) x.0 ≡ true = w.1.any (bit empty) ((empties w.0 (w.1.inside (length cells) x.3)).1 (subst (CanBeEmpty rules) w.2 d)) in
        closed n lt (ap starts x.2 ∙ second_holds (list_any (bit known) x.0) (list_any (bit empty) x.0 && bit known x.1) (both_of (list_any (bit empty) x.0) (bit known x.1) is_empty (starts_known d' x.1 x.4 x.6)))
    starts_known (from-opt {x = z} {a = b} d) n lt e =
        let x = opt_cell shape (length cells) (cell_at cells n) z b (inside_here n lt (opt z b) e) (cell_grows n lt (opt z b) e) in
        closed n lt (ap starts x.2 ∙ first_holds (bit known x.0) (bit known x.1) (starts_known d x.0 x.3 x.5))
    starts_known (after-opt {x = z} {a = b} d) n lt e =
        let x = opt_cell shape (length cells) (cell_at cells n) z b (inside_here n lt (opt z b) e) (cell_grows n lt (opt z b) e) in
        closed n lt (ap starts x.2 ∙ second_holds (bit known x.0) (bit known x.1) (starts_known d x.1 x.4 x.6))
    starts_known (from-many {x = z} {a = b} d) n lt e =
        let x = many_cell shape (length cells) (cell_at cells n) z b (inside_here n lt (many z b) e) (cell_grows n lt (many z b) e) in
        closed n lt (ap starts x.2 ∙ first_holds (bit known x.0) (bit known x.1) (starts_known d x.0 x.3 x.5))
    starts_known (after-many {x = z} {a = b} d) n lt e =
        let x = many_cell shape (length cells) (cell_at cells n) z b (inside_here n lt (many z b) e) (cell_grows n lt (many z b) e) in
        closed n lt (ap starts x.2 ∙ second_holds (bit known x.0) (bit known x.1) (starts_known d x.1 x.4 x.6))

  class_found : (c d : ℕ) → of_class c ≡ of_class d → (c == d) ≡ true
  class_found c d e = let same : c ≡ d = cc in subst (λ w. (c == w) ≡ true) same (eq_refl c)

  rule_found : (c d : ℕ) → of_rule c ≡ of_rule d → (c == d) ≡ true
  rule_found c d e = let same : c ≡ d = cc in subst (λ w. (c == w) ≡ true) same (eq_refl c)

  pub all_told : (a : Asked) (empty known : List Bool) → EmptyTold cells rules a empty → AreRight cells rules a known → AreClosed cells roots empty a known → Tells cells (Holds rules a) known
  all_told asked.Empty empty known t right closed n lt = (right n lt, λ d. empty_known empty known closed d n lt refl)
  all_told (asked.Class c) empty known t right closed n lt =
      (right n lt, λ d. starts_known (asked.Class c) empty known t closed (of_class c) (class_found c) (λ r e. absurd (cc)) d n lt refl)
  all_told (asked.Rule r) empty known t right closed n lt =
      (right n lt, λ d. starts_known (asked.Rule r) empty known t closed (of_rule r) (λ c e. absurd (cc)) (rule_found r) d n lt refl)

  -- a class that no cell names begins nothing
  pub none_begins : (c : ℕ) (empty : List Bool) → Tells cells (CanBeEmpty rules) empty → ((n k : ℕ) → n < length cells → cell_at cells n ≡ cell.One c k → ⊥) → Tells cells (CanStart rules (of_class c)) []
  none_begins c empty t absent n lt = (λ h. absurd (false≢true h), λ d. starts_known (asked.Class c) empty [] t closed (of_class c) (class_found c) (λ r e. absurd (cc)) d n lt refl)
    where
      some_set : (ys : List ℕ) → list_any (bit []) ys ≡ true → ⊥
      some_set [] h = false≢true h
      some_set (y ∷ ys) h = some_set ys h

      unset : (x : Cell) → ((k : ℕ) → x ≡ cell.One c k → ⊥) → starts_by roots empty (asked.Class c) [] x ≡ true → ⊥
      unset cell.End n h = false≢true h
      unset (cell.One d k) n h = n k (ap (λ i. cell.One i k) (sym (eq_is c d h)))
      unset (cell.Rule r k) n h = elim (one_holds (root_at roots r (bit [])) (root_at roots r (bit empty) && bit [] k) h) [ inl e ↦ false≢true (root_of r [] e).3 | inr e ↦ false≢true (right_of (root_at roots r (bit empty)) (bit [] k) e) ]
      unset (cell.Choice ys k) n h = elim (one_holds (list_any (bit []) ys) (list_any (bit empty) ys && bit [] k) h) [ inl e ↦ some_set ys e | inr e ↦ false≢true (right_of (list_any (bit empty) ys) (bit [] k) e) ]
      unset (cell.Opt x k) n h = false≢true h
      unset (cell.Many x k) n h = false≢true h

      closed : (n : ℕ) → n < length cells → starts_by roots empty (asked.Class c) [] (cell_at cells n) ≡ true → bit [] n ≡ true
      closed n lt h = absurd (unset (cell_at cells n) (λ k e. absent n k lt e) h)

  -- one more answer
  pub set_right : (a : Asked) (known : List Bool) (i : ℕ) → AreRight cells rules a known → Holds rules a (shape i) → AreRight cells rules a (set known i true)
  set_right a known i right h n lt e =
      elim (cases_eq n i) [
        | inl same ↦ subst (λ m. Holds rules a (shape m)) (sym same) h
        | inr other ↦ right n lt (sym (get_or-set_other known i n true false other) ∙ e)
      ]
