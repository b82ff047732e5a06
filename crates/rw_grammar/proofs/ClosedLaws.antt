-- What can begin or be empty is in rows that are closed under the rules.
use Rattle.std.proofs.Common.{◌≡◌, ℕ, zero, suc, ◌<◌, Bool, true, false, not, ◌&&◌, ◌||◌, nat_eq, nat_lt, List, [], ◌∷◌, ◌++◌, length, refl, sym, ap, subst, arith}
use Rattle.std.proofs.lemmas.Bool.{false≢true}
use Rattle.std.proofs.lemmas.Bool.Decides.{nat_tests}
use Rattle.rw_grammar.specs.Parts.{Parts, end, one, rule, choice, opt, many, or, IsAt, here, past, Within, at, behind-one, behind-rule, in-choice, behind-choice, in-opt, behind-opt, in-many, behind-many, in-or, behind-or, rule_of}
use Rattle.rw_grammar.specs.Begins.{CanBeEmpty, empty-end, empty-rule, empty-choice, empty-opt, empty-many, Front, of_class, of_rule, CanStart, CanBegin, is-class, is-rule, from-rule, after-rule, from-choice, after-choice, from-opt, after-opt, from-many, after-many, IsLeftRecursive}
use Rattle.rw_grammar.specs.Faults.{IsWrong, shares, empties, empty-option, empty-repeat, not-there, HasFault, somewhere, left-recursion}
use Rattle.rw_grammar.specs.Closed.{Row, row_of, has, all_in, none_in, where_empty, implies, all_empty, some_empty, firsts, firsts_any, falls, falls_any, apart, is_fine, agrees, agree_from, is_closed, ClosedIsSound}
use Rattle.rw_grammar.proofs.CellLaws.{left_of, right_of, both_of, first_holds, second_holds}

isnt : (a : Bool) → not a ≡ true → a ≡ true → ⊥
isnt true h k = false≢true h
isnt false h k = false≢true k

has_left : (c : ℕ) (xs ys : List ℕ) → has c xs ≡ true → has c (xs ++ ys) ≡ true
has_left c [] ys h = absurd (false≢true h)
has_left c (x ∷ xs) ys h = go (nat_eq c x) (has c xs) (has c (xs ++ ys)) (has_left c xs ys) h
  where
    go : (b d e : Bool) → (d ≡ true → e ≡ true) → (b || d) ≡ true → (b || e) ≡ true
    go true d e f k = refl
    go false d e f k = f k

has_right : (c : ℕ) (xs ys : List ℕ) → has c ys ≡ true → has c (xs ++ ys) ≡ true
has_right c [] ys h = h
has_right c (x ∷ xs) ys h = second_holds (nat_eq c x) (has c (xs ++ ys)) (has_right c xs ys h)

eq_refl : (c : ℕ) → nat_eq c c ≡ true
eq_refl c = grind (arith, nat_tests)

eq_is : (c x : ℕ) → nat_eq c x ≡ true → c ≡ x
eq_is c x h = grind (arith, nat_tests, h)

lt_is : (a b : ℕ) → nat_lt a b ≡ true → a < b
lt_is a b h = grind (arith, nat_tests, h)

has_within : (c : ℕ) (cs f : List ℕ) → all_in cs f ≡ true → has c cs ≡ true → has c f ≡ true
has_within c [] f h k = absurd (false≢true k)
has_within c (x ∷ cs) f h k = go (has_within c cs f (right_of (has x f) (all_in cs f) h)) (nat_eq c x) refl k
  where
    go : (has c cs ≡ true → has c f ≡ true) → (b : Bool) → nat_eq c x ≡ b → (b || has c cs) ≡ true → has c f ≡ true
    go rest true e j = subst (λ y. has y f ≡ true) (sym (eq_is c x e)) (left_of (has x f) (all_in cs f) h)
    go rest false e j = rest j

-- a class is in one of two lists without a common one alone
not_both : (c : ℕ) (cs f : List ℕ) → none_in cs f ≡ true → has c cs ≡ true → has c f ≡ true → ⊥
not_both c [] f h k j = false≢true k
not_both c (x ∷ cs) f h k j = go (λ i. not_both c cs f (right_of (not (has x f)) (none_in cs f) h) i j) (nat_eq c x) refl k
  where
    go : (has c cs ≡ true → ⊥) → (b : Bool) → nat_eq c x ≡ b → (b || has c cs) ≡ true → ⊥
    go rest true e i = isnt (has x f) (left_of (not (has x f)) (none_in cs f) h) (subst (λ y. has y f ≡ true) (eq_is c x e) j)
    go rest false e i = rest i

empty_has : (b : Bool) (c : ℕ) (more : List ℕ) → b ≡ true → has c more ≡ true → has c (where_empty b more) ≡ true
empty_has true c more h k = k
empty_has false c more h k = absurd (false≢true h)

implied : (a b : Bool) → implies a b ≡ true → a ≡ true → b ≡ true
implied true b h k = h
implied false b h k = absurd (false≢true k)

-- each rule agrees, also one that isn't there
agree_at : (all : List Row) (count : ℕ) (rs : List Row) (ps : List Parts) (r : ℕ) → agree_from all count rs ps ≡ true → agrees all count (row_of rs r) (rule_of ps r) ≡ true
agree_at all count [] [] r h = refl
agree_at all count [] (p ∷ ps) r h = absurd (false≢true h)
agree_at all count (x ∷ rs) [] r h = absurd (false≢true h)
agree_at all count (x ∷ rs) (p ∷ ps) zero h = left_of (agrees all count x p) (agree_from all count rs ps) h
agree_at all count (x ∷ rs) (p ∷ ps) (suc r) h = agree_at all count rs ps r (right_of (agrees all count x p) (agree_from all count rs ps) h)

module _ (list : List Parts) (rows : List Row) (closed : is_closed rows list ≡ true) where
  abbrev rules : ℕ → Parts
  rules = rule_of list

  agreed : (r : ℕ) → agrees rows (length list) (row_of rows r) (rules r) ≡ true
  agreed r = agree_at rows (length list) rows list r closed

  first_closed : (r : ℕ) → all_in (firsts rows (rules r)) (row_of rows r).first ≡ true
  first_closed r = left_of (all_in (firsts rows (rules r)) (row_of rows r).first) (implies (all_empty rows (rules r)) (row_of rows r).empty && (falls rows (row_of rows r).rank (rules r) && is_fine rows (length list) (rules r))) (agreed r)

  others : (r : ℕ) → (implies (all_empty rows (rules r)) (row_of rows r).empty && (falls rows (row_of rows r).rank (rules r) && is_fine rows (length list) (rules r))) ≡ true
  others r = right_of (all_in (firsts rows (rules r)) (row_of rows r).first) (implies (all_empty rows (rules r)) (row_of rows r).empty && (falls rows (row_of rows r).rank (rules r) && is_fine rows (length list) (rules r))) (agreed r)

  empty_closed : (r : ℕ) → all_empty rows (rules r) ≡ true → (row_of rows r).empty ≡ true
  empty_closed r = implied (all_empty rows (rules r)) (row_of rows r).empty (left_of (implies (all_empty rows (rules r)) (row_of rows r).empty) (falls rows (row_of rows r).rank (rules r) && is_fine rows (length list) (rules r)) (others r))

  ranks : (r : ℕ) → (falls rows (row_of rows r).rank (rules r) && is_fine rows (length list) (rules r)) ≡ true
  ranks r = right_of (implies (all_empty rows (rules r)) (row_of rows r).empty) (falls rows (row_of rows r).rank (rules r) && is_fine rows (length list) (rules r)) (others r)

  rank_closed : (r : ℕ) → falls rows (row_of rows r).rank (rules r) ≡ true
  rank_closed r = left_of (falls rows (row_of rows r).rank (rules r)) (is_fine rows (length list) (rules r)) (ranks r)

  fine_closed : (r : ℕ) → is_fine rows (length list) (rules r) ≡ true
  fine_closed r = right_of (falls rows (row_of rows r).rank (rules r)) (is_fine rows (length list) (rules r)) (ranks r)

  some_one : {i : ℕ} {y x : Parts} → IsAt i y x → all_empty rows y ≡ true → some_empty rows x ≡ true
  some_one (here {y = y} {x = x}) h = first_holds (all_empty rows y) (some_empty rows x) h
  some_one (past {z = z} {x = x} p) h = second_holds (all_empty rows z) (some_empty rows x) (some_one p h)

  empty_in : {p : Parts} → CanBeEmpty rules p → all_empty rows p ≡ true
  empty_in empty-end = refl
  empty_in (empty-rule {r = r} {a = a} d e) = both_of (row_of rows r).empty (all_empty rows a) (empty_closed r (empty_in d)) (empty_in e)
  empty_in (empty-choice {x = x} {a = a} p d e) = both_of (some_empty rows x) (all_empty rows a) (some_one p (empty_in d)) (empty_in e)
  empty_in (empty-opt d) = empty_in d
  empty_in (empty-many d) = empty_in d

  first_one : {i : ℕ} {y x : Parts} (c : ℕ) → IsAt i y x → has c (firsts rows y) ≡ true → has c (firsts_any rows x) ≡ true
  first_one c (here {y = y} {x = x}) h = has_left c (firsts rows y) (firsts_any rows x) h
  first_one c (past {z = z} {x = x} p) h = has_right c (firsts rows z) (firsts_any rows x) (first_one c p h)

  first_in : {s : Front} {p : Parts} (c : ℕ) → s ≡ of_class c → CanStart rules s p → has c (firsts rows p) ≡ true
  first_in c e (is-class {c = d} q) = let same : c ≡ d = cc in first_holds (nat_eq c d) false (subst (λ x. nat_eq c x ≡ true) same (eq_refl c))
  first_in c e (is-rule q) = absurd (cc)
  first_in c e (from-rule {r = r} {a = a} d) =
      has_left c (row_of rows r).first (where_empty (row_of rows r).empty (firsts rows a)) (has_within c (firsts rows (rules r)) (row_of rows r).first (first_closed r) (first_in c e d))
  first_in c e (after-rule {r = r} {a = a} k d) =
      has_right c (row_of rows r).first (where_empty (row_of rows r).empty (firsts rows a)) (empty_has (row_of rows r).empty c (firsts rows a) (empty_closed r (empty_in k)) (first_in c e d))
  first_in c e (from-choice {x = x} {a = a} p d) = has_left c (firsts_any rows x) (where_empty (some_empty rows x) (firsts rows a)) (first_one c p (first_in c e d))
  first_in c e (after-choice {x = x} {a = a} p k d) =
      has_right c (firsts_any rows x) (where_empty (some_empty rows x) (firsts rows a)) (empty_has (some_empty rows x) c (firsts rows a) (some_one p (empty_in k)) (first_in c e d))
  first_in c e (from-opt {x = x} {a = a} d) = has_left c (firsts rows x) (firsts rows a) (first_in c e d)
  first_in c e (after-opt {x = x} {a = a} d) = has_right c (firsts rows x) (firsts rows a) (first_in c e d)
  first_in c e (from-many {x = x} {a = a} d) = has_left c (firsts rows x) (firsts rows a) (first_in c e d)
  first_in c e (after-many {x = x} {a = a} d) = has_right c (firsts rows x) (firsts rows a) (first_in c e d)

  falls_one : {i : ℕ} {y x : Parts} (n : ℕ) → IsAt i y x → falls_any rows n x ≡ true → falls rows n y ≡ true
  falls_one n (here {y = y} {x = x}) h = left_of (falls rows n y) (falls_any rows n x) h
  falls_one n (past {z = z} {x = x} p) h = falls_one n p (right_of (falls rows n z) (falls_any rows n x) h)

  lower : {s : Front} {p : Parts} (k n : ℕ) → s ≡ of_rule k → CanStart rules s p → falls rows n p ≡ true → (row_of rows k).rank < n
  lower k n e (is-class q) h = absurd (cc)
  lower k n e (is-rule {r = r} {a = a} q) h =
      let same : k ≡ r = cc in
      subst (λ x. (row_of rows x).rank < n) (sym same) (lt_is (row_of rows r).rank n (left_of (nat_lt (row_of rows r).rank n) (implies (row_of rows r).empty (falls rows n a)) h))
  lower k n e (from-rule {r = r} {a = a} d) h =
      let up = lt_is (row_of rows r).rank n (left_of (nat_lt (row_of rows r).rank n) (implies (row_of rows r).empty (falls rows n a)) h) in
      omega (arith, up, lower k (row_of rows r).rank e d (rank_closed r))
  lower k n e (after-rule {r = r} {a = a} j d) h =
      lower k n e d (implied (row_of rows r).empty (falls rows n a) (right_of (nat_lt (row_of rows r).rank n) (implies (row_of rows r).empty (falls rows n a)) h) (empty_closed r (empty_in j)))
  lower k n e (from-choice {x = x} {a = a} p d) h = lower k n e d (falls_one n p (left_of (falls_any rows n x) (implies (some_empty rows x) (falls rows n a)) h))
  lower k n e (after-choice {x = x} {a = a} p j d) h =
      lower k n e d (implied (some_empty rows x) (falls rows n a) (right_of (falls_any rows n x) (implies (some_empty rows x) (falls rows n a)) h) (some_one p (empty_in j)))
  lower k n e (from-opt {x = x} {a = a} d) h = lower k n e d (left_of (falls rows n x) (falls rows n a) h)
  lower k n e (after-opt {x = x} {a = a} d) h = lower k n e d (right_of (falls rows n x) (falls rows n a) h)
  lower k n e (from-many {x = x} {a = a} d) h = lower k n e d (left_of (falls rows n x) (falls rows n a) h)
  lower k n e (after-many {x = x} {a = a} d) h = lower k n e d (right_of (falls rows n x) (falls rows n a) h)

  not_recursive : (r : ℕ) → IsLeftRecursive rules r → ⊥
  not_recursive r d = let lt = lower r (row_of rows r).rank refl d (rank_closed r) in omega arith

  -- ---- alternatives are apart

  module _ (a p : Parts) (h : apart rows (or a p) ≡ true) where
    both_apart : (none_in (firsts rows a) (firsts_any rows p) && not (all_empty rows a && some_empty rows p)) ≡ true
    both_apart = left_of (none_in (firsts rows a) (firsts_any rows p) && not (all_empty rows a && some_empty rows p)) (apart rows p) h

    none_shared : none_in (firsts rows a) (firsts_any rows p) ≡ true
    none_shared = left_of (none_in (firsts rows a) (firsts_any rows p)) (not (all_empty rows a && some_empty rows p)) both_apart

    one_empty : not (all_empty rows a && some_empty rows p) ≡ true
    one_empty = right_of (none_in (firsts rows a) (firsts_any rows p)) (not (all_empty rows a && some_empty rows p)) both_apart

    rest_apart : apart rows p ≡ true
    rest_apart = right_of (none_in (firsts rows a) (firsts_any rows p) && not (all_empty rows a && some_empty rows p)) (apart rows p) h

  apart_begin : (x : Parts) (i j c : ℕ) (y z : Parts) → apart rows x ≡ true → IsAt i y x → IsAt j z x → CanBegin rules c y → CanBegin rules c z → i ≡ j
  apart_begin (or a p) _ _ c _ _ h here here d e = refl
  apart_begin (or a p) _ _ c _ z h here (past q) d e = absurd (not_both c (firsts rows a) (firsts_any rows p) (none_shared a p h) (first_in c refl d) (first_one c q (first_in c refl e)))
  apart_begin (or a p) _ _ c y _ h (past q) here d e = absurd (not_both c (firsts rows a) (firsts_any rows p) (none_shared a p h) (first_in c refl e) (first_one c q (first_in c refl d)))
  apart_begin (or a p) _ _ c y z h (past {i = i} q) (past {i = j} r) d e = ap suc (apart_begin p i j c y z (rest_apart a p h) q r d e)
  apart_begin end i j c y z h q r d e = elim q [ ]
  apart_begin (one _ _) i j c y z h q r d e = elim q [ ]
  apart_begin (rule _ _) i j c y z h q r d e = elim q [ ]
  apart_begin (choice _ _) i j c y z h q r d e = elim q [ ]
  apart_begin (opt _ _) i j c y z h q r d e = elim q [ ]
  apart_begin (many _ _) i j c y z h q r d e = elim q [ ]

  apart_empty : (x : Parts) (i j : ℕ) (y z : Parts) → apart rows x ≡ true → IsAt i y x → IsAt j z x → CanBeEmpty rules y → CanBeEmpty rules z → i ≡ j
  apart_empty (or a p) _ _ _ _ h here here d e = refl
  apart_empty (or a p) _ _ _ z h here (past q) d e = absurd (isnt (all_empty rows a && some_empty rows p) (one_empty a p h) (both_of (all_empty rows a) (some_empty rows p) (empty_in d) (some_one q (empty_in e))))
  apart_empty (or a p) _ _ y _ h (past q) here d e = absurd (isnt (all_empty rows a && some_empty rows p) (one_empty a p h) (both_of (all_empty rows a) (some_empty rows p) (empty_in e) (some_one q (empty_in d))))
  apart_empty (or a p) _ _ y z h (past {i = i} q) (past {i = j} r) d e = ap suc (apart_empty p i j y z (rest_apart a p h) q r d e)
  apart_empty end i j y z h q r d e = elim q [ ]
  apart_empty (one _ _) i j y z h q r d e = elim q [ ]
  apart_empty (rule _ _) i j y z h q r d e = elim q [ ]
  apart_empty (choice _ _) i j y z h q r d e = elim q [ ]
  apart_empty (opt _ _) i j y z h q r d e = elim q [ ]
  apart_empty (many _ _) i j y z h q r d e = elim q [ ]

  -- ---- and no place is wrong

  abbrev fine : Parts → Bool
  fine p = is_fine rows (length list) p

  fine_within : {q p : Parts} → Within q p → fine p ≡ true → fine q ≡ true
  fine_within at h = h
  fine_within (behind-one w) h = fine_within w h
  fine_within (behind-rule {r = r} {a = a} w) h = fine_within w (right_of (nat_lt r (length list)) (fine a) h)
  fine_within (in-choice {x = x} {a = a} w) h = fine_within w (left_of (fine x) (fine a) (right_of (apart rows x) (fine x && fine a) h))
  fine_within (behind-choice {x = x} {a = a} w) h = fine_within w (right_of (fine x) (fine a) (right_of (apart rows x) (fine x && fine a) h))
  fine_within (in-opt {x = x} {a = a} w) h = fine_within w (left_of (fine x) (fine a) (right_of (not (all_empty rows x)) (fine x && fine a) h))
  fine_within (behind-opt {x = x} {a = a} w) h = fine_within w (right_of (fine x) (fine a) (right_of (not (all_empty rows x)) (fine x && fine a) h))
  fine_within (in-many {x = x} {a = a} w) h = fine_within w (left_of (fine x) (fine a) (right_of (not (all_empty rows x)) (fine x && fine a) h))
  fine_within (behind-many {x = x} {a = a} w) h = fine_within w (right_of (fine x) (fine a) (right_of (not (all_empty rows x)) (fine x && fine a) h))
  fine_within (in-or {y = y} {x = x} w) h = fine_within w (left_of (fine y) (fine x) h)
  fine_within (behind-or {y = y} {x = x} w) h = fine_within w (right_of (fine y) (fine x) h)

  not_wrong : {number : ℕ} {q : Parts} → IsWrong rules (length list) number q → fine q ≡ true → ⊥
  not_wrong (shares {i = i} {j = j} {c = c} {x = x} {y = y} {z = z} {a = a} p q n d e) h = n (apart_begin x i j c y z (left_of (apart rows x) (fine x && fine a) h) p q d e)
  not_wrong (empties {i = i} {j = j} {x = x} {y = y} {z = z} {a = a} p q n d e) h = n (apart_empty x i j y z (left_of (apart rows x) (fine x && fine a) h) p q d e)
  not_wrong (empty-option {x = x} {a = a} d) h = isnt (all_empty rows x) (left_of (not (all_empty rows x)) (fine x && fine a) h) (empty_in d)
  not_wrong (empty-repeat {x = x} {a = a} d) h = isnt (all_empty rows x) (left_of (not (all_empty rows x)) (fine x && fine a) h) (empty_in d)
  not_wrong (not-there {r = r} {a = a} le) h = let lt = lt_is r (length list) (left_of (nat_lt r (length list)) (fine a) h) in omega arith

  no_fault : (number r : ℕ) → HasFault rules (length list) number r → ⊥
  no_fault number r (somewhere w bad) = not_wrong bad (fine_within w (fine_closed r))
  no_fault number r (left-recursion e d) = not_recursive r d

pub closed_is_sound : ClosedIsSound
closed_is_sound rows rules closed number r lt f = no_fault rules rows closed number r f
