-- A table without a fault derives one tree.
use Rattle.std.proofs.Common.{◌≡◌, ℕ, ◌<◌, ◌≤◌, List, [], ◌∷◌, length, refl, sym, ◌∙◌, ap, subst, arith, inl, inr}
use Rattle.std.proofs.lemmas.Bool.{cases_eq, cases_order}
use Rattle.std.proofs.lemmas.List.{get_or_past}
use Rattle.rw_base.specs.Trees.{leaf, Forest, beside}
use Rattle.rw_grammar.specs.Parts.{Parts, end, one, rule, choice, opt, many, or, IsAt, here, past, Within, at}
use Rattle.rw_grammar.specs.Parts.{behind-one, behind-rule, in-choice, behind-choice, in-opt, behind-opt, in-many}
use Rattle.rw_grammar.specs.Parts.{behind-many, in-or, behind-or, no_rule, rule_of}
use Rattle.rw_grammar.specs.Begins.{CanBeEmpty, Goes}
use Rattle.rw_grammar.specs.Derivation.{wrapped, Derives, by-end, by-one, by-rule, by-choice, by-empty, by-opt}
use Rattle.rw_grammar.specs.Derivation.{by-no-opt, by-more, by-no-more}
use Rattle.rw_grammar.specs.Faults.{AreApart, IsFine, IsSound, HasFault, shares, empties, not-there, somewhere}
use Rattle.rw_grammar.specs.Laws.{OneTree}

-- alternatives at one position are one
pub same_place : {i : ℕ} {y z x : Parts} → IsAt i y x → IsAt i z x → y ≡ z
same_place here here = refl
same_place (past p) (past q) = same_place p q

pub same_places : (i j : ℕ) (y z x : Parts) → i ≡ j → IsAt i y x → IsAt j z x → y ≡ z
same_places i j y z x e p q = same_place (subst (λ k. IsAt k y x) e p) q

pub fine_at : (rules : ℕ → Parts) (count : ℕ) {i : ℕ} {y x : Parts} → IsAt i y x → IsFine rules count x
    → IsFine rules count y
fine_at rules count here h = h.0
fine_at rules count (past i) h = fine_at rules count i h.1

-- the leaf that follows begins one alternative alone
pub same_begun : (rules : ℕ → Parts) (class : ℕ → ℕ) (i j : ℕ) (x y z : Parts) (ls : List ℕ) → AreApart rules x
    → IsAt i y x → IsAt j z x → Goes rules class y ls → Goes rules class z ls → y ≡ z
same_begun rules class i j x y z [] h p q g k = absurd g
same_begun rules class i j x y z (l ∷ ls) h p q g k = same_places i j y z x (h.begin i j y z (class l) p q g k) p q

pub same_empty : (rules : ℕ → Parts) (i j : ℕ) (x y z : Parts) → AreApart rules x → IsAt i y x → IsAt j z x
    → CanBeEmpty rules y → CanBeEmpty rules z → y ≡ z
same_empty rules i j x y z h p q d e = same_places i j y z x (h.empty i j y z p q d e) p q

module _ (rules : ℕ → Parts) (count : ℕ) (class : ℕ → ℕ) (each : (r : ℕ) → IsFine rules count (rules r)) where
  abbrev Same : List ℕ → List ℕ → Forest → Forest → Type 0
  Same rest rest' f f' = (rest ≡ rest') × (f ≡ f')

  -- the second part, derived from where the first one ended
  moved : {a : Parts} {mid mid' rest : List ℕ} {g : Forest} → mid ≡ mid' → Derives rules class a mid' rest g
      → Derives rules class a mid rest g
  moved {a = a} {rest = rest} {g = g} e d = subst (λ m. Derives rules class a m rest g) (sym e) d

  put : {f f' g g' t t' : Forest} → t ≡ beside f g → t' ≡ beside f' g' → f ≡ f' → g ≡ g' → t ≡ t'
  put p q e h = cc

  pub unique : {a : Parts} {ls rest rest' : List ℕ} {f f' : Forest} → IsFine rules count a
      → Derives rules class a ls rest f → Derives rules class a ls rest' f' → Same rest rest' f f'
  unique h by-end by-end = (refl, refl)
  unique h (by-one {l = l} p d) (by-one q e) = let u = unique h d e in (u.0, ap (leaf l) u.1)
  unique h (by-rule {r = r} d d' p) (by-rule e e' q) =
      let u = unique (each r) d e in let v = unique h.1 d' (moved u.0 e') in (v.0, put p q (ap (wrapped r) u.1) v.1)
  unique h (by-choice {i = i} {x = x} {y = y} {ls = ls} p g d d' t)
      (by-choice {i = j} {y = z} {mid = m} {f = f} q k e e' s) =
      let same = same_begun rules class j i x z y ls h.0 q p k g in
      let u = unique (fine_at rules count p h.1) d (subst (λ w. Derives rules class w ls m f) same e) in
      let v = unique h.2 d' (moved u.0 e') in (v.0, put t s u.1 v.1)
  unique h (by-choice {i = i} {y = y} p g d d' t) (by-empty n q k e e' s) = absurd (n i y p g)
  unique h (by-empty n p k d d' t) (by-choice {i = j} {y = z} q g e e' s) = absurd (n j z q g)
  unique h (by-empty {i = i} {x = x} {y = y} {ls = ls} n p k d d' t)
      (by-empty {i = j} {y = z} {mid = m} {f = f} n' q k' e e' s) =
      let same = same_empty rules j i x z y h.0 q p k' k in
      let u = unique (fine_at rules count p h.1) d (subst (λ w. Derives rules class w ls m f) same e) in
      let v = unique h.2 d' (moved u.0 e') in (v.0, put t s u.1 v.1)
  unique h (by-opt g d d' p) (by-opt k e e' q) =
      let u = unique h.0 d e in let v = unique h.1 d' (moved u.0 e') in (v.0, put p q u.1 v.1)
  unique h (by-opt g d d' p) (by-no-opt n e) = absurd (n g)
  unique h (by-no-opt n d) (by-opt g e e' q) = absurd (n g)
  unique h (by-no-opt n d) (by-no-opt m e) = unique h.1 d e
  unique h (by-more g d d' p) (by-more k e e' q) =
      let u = unique h.0 d e in let v = unique h d' (moved u.0 e') in (v.0, put p q u.1 v.1)
  unique h (by-more g d d' p) (by-no-more n e) = absurd (n g)
  unique h (by-no-more n d) (by-more g e e' q) = absurd (n g)
  unique h (by-no-more n d) (by-no-more m e) = unique h.1 d e

-- ---- a table without a fault is fine

module _ (rules : ℕ → Parts) (count r : ℕ) (none_wrong : (number : ℕ) → HasFault rules count number r → ⊥) where
  apart_within : (x a : Parts) → Within (choice x a) (rules r) → AreApart rules x
  apart_within x a w = record {
    begin = λ i j y z c p q d e.
        elim (cases_eq i j) [
          | inl same ↦ same
          | inr other ↦ absurd (none_wrong 1 (somewhere w (shares p q other d e)))
        ];
    empty = λ i j y z p q d e.
        elim (cases_eq i j) [
          | inl same ↦ same
          | inr other ↦ absurd (none_wrong 2 (somewhere w (empties p q other d e)))
        ];
  }

  there : (s : ℕ) (a : Parts) → Within (rule s a) (rules r) → s < count
  there s a w =
      elim (cases_order s count) [
        | inl same ↦ no (omega arith)
        | inr o ↦ elim o [ inl lt ↦ lt | inr gt ↦ no (omega arith) ]
      ]
    where
      no : count ≤ s → s < count
      no le = absurd (none_wrong 5 (somewhere w (not-there le)))

  fine_within : (p : Parts) → ((q : Parts) → Within q p → Within q (rules r)) → IsFine rules count p
  fine_within end up = tt
  fine_within (one c a) up = fine_within a (λ q w. up q (behind-one w))
  fine_within (rule s a) up = (there s a (up (rule s a) at), fine_within a (λ q w. up q (behind-rule w)))
  fine_within (choice x a) up =
      let inside = fine_within x (λ q w. up q (in-choice w)) in
      let behind = fine_within a (λ q w. up q (behind-choice w)) in
      (apart_within x a (up (choice x a) at), inside, behind)
  fine_within (opt x a) up = (fine_within x (λ q w. up q (in-opt w)), fine_within a (λ q w. up q (behind-opt w)))
  fine_within (many x a) up = (fine_within x (λ q w. up q (in-many w)), fine_within a (λ q w. up q (behind-many w)))
  fine_within (or x a) up = (fine_within x (λ q w. up q (in-or w)), fine_within a (λ q w. up q (behind-or w)))

no_alternative : {i : ℕ} {y : Parts} → IsAt i y end → ⊥
no_alternative p = elim p [ ]

no_rule_fine : (rules : ℕ → Parts) (count : ℕ) → IsFine rules count no_rule
no_rule_fine rules count =
    let apart : AreApart rules end = record {
      begin = λ i j y z c p q d e. absurd (no_alternative p);
      empty = λ i j y z p q d e. absurd (no_alternative p);
    } in
    (apart, tt, tt)

pub sound_fine : (rules : List Parts) → IsSound rules → (r : ℕ)
    → IsFine (rule_of rules) (length rules) (rule_of rules r)
sound_fine rules sound r =
    elim (cases_order r (length rules)) [
      | inl same ↦ absent (omega arith)
      | inr o ↦ elim o [
        | inl lt ↦
            fine_within (rule_of rules) (length rules) r (λ number f. sound number r lt f) (rule_of rules r) (λ q w. w)
        | inr gt ↦ absent (omega arith)
      ]
    ]
  where
    absent : length rules ≤ r → IsFine (rule_of rules) (length rules) (rule_of rules r)
    absent le =
        subst (IsFine (rule_of rules) (length rules)) (sym (get_or_past rules r no_rule le))
        (no_rule_fine (rule_of rules) (length rules))

pub one_tree : OneTree
one_tree rules sound class start ls t u d e =
    let fine = sound_fine rules sound in
    let same = (unique (rule_of rules) (length rules) class fine (fine start) d.derived e.derived).1 in
    d.is ∙ (ap (wrapped start) same ∙ sym e.is)
