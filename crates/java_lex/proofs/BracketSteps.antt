-- Brackets from a leaf on, by those behind it.
use Rattle.std.proofs.Common.{◌≡◌, ◌≢◌, ℕ, zero, suc, ◌+◌, ◌<◌, ◌≤◌, ◌⊎◌, Bool, true, false, List, [], ◌∷◌, length, inl, inr, refl, sym, ◌∙◌, ap, subst, arith}
use Rattle.std.specs.Prelude.{Option, Some, None, slice_index_or, ◌↔◌, IsTrue}
use Rattle.std.proofs.lemmas.Bool.Decides.{nat_tests}
use Rattle.java_lex.specs.declared.class.TheConstants.{BRACKET_OPEN, BRACKET_CLOSE, PAREN_OPEN, PAREN_CLOSE, SEMICOLON, ASSIGN, BRACE_OPEN, BRACE_CLOSE, GREATER, GREATER_EQUAL}
use Rattle.rw_base.specs.declared.tree.Leaf.{Leaf}
use Rattle.java_lex.specs.declared.brackets.Brackets.{Brackets}
use Rattle.java_lex.specs.Marks.{among, AreBrackets, IsBalanced, balanced, one-more, one-group, IsGroup, EndsAsDeclaration, stops, over, past, ParenClosesAt, closes, closes-later, closes-behind, Adjoins, EndsInSet, set, next}
use Rattle.java_lex.specs.Segments.{class_at, is_tight}
use Rattle.java_lex.specs.KnownBrackets.{OneBalanced, NoBalanced, ToldBalanced, NoDeclaration, ToldWhether, KnowsBrackets, KnowsBracketsBehind, KnowsSet, brackets_at, no_brackets, OneClose, NoClose, ToldClose}
use Rattle.java_lex.proofs.TypeSteps.{none_there}

-- ---- what the tests say

pub no_bracket : (x : ℕ) → x ≢ PAREN_OPEN → x ≢ PAREN_CLOSE → x ≢ BRACKET_OPEN → x ≢ BRACKET_CLOSE → among x (PAREN_OPEN ∷ PAREN_CLOSE ∷ BRACKET_OPEN ∷ BRACKET_CLOSE ∷ []) ≡ false
no_bracket x a b d e = grind (arith, nat_tests)

pub no_stop : (x : ℕ) → x ≢ SEMICOLON → x ≢ ASSIGN → x ≢ PAREN_CLOSE → x ≢ BRACKET_CLOSE → x ≢ BRACE_OPEN → x ≢ BRACE_CLOSE
    → among x (SEMICOLON ∷ ASSIGN ∷ PAREN_CLOSE ∷ BRACKET_CLOSE ∷ BRACE_OPEN ∷ BRACE_CLOSE ∷ []) ≡ false
no_stop x a b d e f g = grind (arith, nat_tests)

bracket_out : (x y : ℕ) → AreBrackets x y → among x (PAREN_OPEN ∷ PAREN_CLOSE ∷ BRACKET_OPEN ∷ BRACKET_CLOSE ∷ []) ≡ false → ⊥
bracket_out x y (inl h) e = true_not_false (sym (ap (λ z. among z (PAREN_OPEN ∷ PAREN_CLOSE ∷ BRACKET_OPEN ∷ BRACKET_CLOSE ∷ [])) h.0) ∙ e)
  where
    true_not_false : true ≡ false → ⊥
    true_not_false q = cc
bracket_out x y (inr h) e = true_not_false (sym (ap (λ z. among z (PAREN_OPEN ∷ PAREN_CLOSE ∷ BRACKET_OPEN ∷ BRACKET_CLOSE ∷ [])) h.0) ∙ e)
  where
    true_not_false : true ≡ false → ⊥
    true_not_false q = cc

-- ---- ends

-- balanced leaves end with a closing bracket at or behind their first
pub level_rises : (c : ℕ → ℕ) (i j : ℕ) → IsBalanced c i j → (i ≤ j) × ((c j ≡ PAREN_CLOSE) ⊎ (c j ≡ BRACKET_CLOSE))
level_rises c i j (balanced h q) = (omega arith, subst (λ k. (c k ≡ PAREN_CLOSE) ⊎ (c k ≡ BRACKET_CLOSE)) q h)
level_rises c i j (one-more _ s) = let r = level_rises c (i + 1) j s in (omega (arith, r.0), r.1)
level_rises c i j (one-group {m = m} _ s t) = let r = level_rises c (m + 1) j t in (omega (arith, r.0, (level_rises c (i + 1) m s).0), r.1)

open_closes : (x y : ℕ) → AreBrackets x y → (x ≡ PAREN_CLOSE) ⊎ (x ≡ BRACKET_CLOSE) → ⊥
open_closes x y (inl h) (inl g) = omega (arith, h.0, g)
open_closes x y (inl h) (inr g) = omega (arith, h.0, g)
open_closes x y (inr h) (inl g) = omega (arith, h.0, g)
open_closes x y (inr h) (inr g) = omega (arith, h.0, g)

-- a bracket has one counterpart
same_close : (x y z : ℕ) → AreBrackets x y → AreBrackets x z → y ≡ z
same_close x y z (inl h) (inl g) = omega (arith, h.1, g.1)
same_close x y z (inl h) (inr g) = absurd (omega (arith, h.0, g.0))
same_close x y z (inr h) (inl g) = absurd (omega (arith, h.0, g.0))
same_close x y z (inr h) (inr g) = omega (arith, h.1, g.1)

module _ (c : ℕ → ℕ) (i : ℕ) where
  close_out : (c i ≡ PAREN_CLOSE) ⊎ (c i ≡ BRACKET_CLOSE) → among (c i) (PAREN_OPEN ∷ PAREN_CLOSE ∷ BRACKET_OPEN ∷ BRACKET_CLOSE ∷ []) ≡ false → ⊥
  close_out (inl h) e = let q : true ≡ false = sym (ap (λ z. among z (PAREN_OPEN ∷ PAREN_CLOSE ∷ BRACKET_OPEN ∷ BRACKET_CLOSE ∷ [])) h) ∙ e in cc
  close_out (inr h) e = let q : true ≡ false = sym (ap (λ z. among z (PAREN_OPEN ∷ PAREN_CLOSE ∷ BRACKET_OPEN ∷ BRACKET_CLOSE ∷ [])) h) ∙ e in cc

  pub level_here : (c i ≡ PAREN_CLOSE) ⊎ (c i ≡ BRACKET_CLOSE) → OneBalanced c i i
  level_here h = record { is = balanced h refl; only = go }
    where
      go : (j : ℕ) → IsBalanced c i j → j ≡ i
      go j (balanced _ q) = sym q
      go j (one-more e _) = absurd (close_out h e)
      go j (one-group {m = m} b _ _) = absurd (open_closes (c i) (c m) b h)

  pub level_next : (r : Option ℕ) → among (c i) (PAREN_OPEN ∷ PAREN_CLOSE ∷ BRACKET_OPEN ∷ BRACKET_CLOSE ∷ []) ≡ false → ToldBalanced c (i + 1) r → ToldBalanced c i r
  level_next None h t = record { not = go }
    where
      go : (j : ℕ) → IsBalanced c i j → ⊥
      go j (balanced g _) = close_out g h
      go j (one-more _ s) = t.not j s
      go j (one-group {m = m} b _ _) = bracket_out (c i) (c m) b h
  level_next (Some e) h t = record { is = one-more h t.is; only = go }
    where
      go : (j : ℕ) → IsBalanced c i j → j ≡ e
      go j (balanced g _) = absurd (close_out g h)
      go j (one-more _ s) = t.only j s
      go j (one-group {m = m} b _ _) = absurd (bracket_out (c i) (c m) b h)

  -- no group begins here
  pub level_none : (y : ℕ) → AreBrackets (c i) y → ((m : ℕ) → IsGroup c i m → ⊥) → NoBalanced c i
  level_none y b n = record { not = go }
    where
      go : (j : ℕ) → IsBalanced c i j → ⊥
      go j (balanced g _) = open_closes (c i) y b g
      go j (one-more h _) = bracket_out (c i) y b h
      go j (one-group {m = m} d s _) = n m (d, s)

  pub no_group : NoBalanced c (i + 1) → (m : ℕ) → IsGroup c i m → ⊥
  no_group n m g = n.not m g.1

  pub wrong_group : (y e : ℕ) → AreBrackets (c i) y → OneBalanced c (i + 1) e → c e ≢ y → (m : ℕ) → IsGroup c i m → ⊥
  wrong_group y e b o n m g = n (ap c (sym (o.only m g.1)) ∙ sym (same_close (c i) y (c m) b g.0))

  pub level_behind : (y e : ℕ) (r : Option ℕ) → AreBrackets (c i) y → OneBalanced c (i + 1) e → c e ≡ y → ToldBalanced c (e + 1) r → ToldBalanced c i r
  level_behind y e None b o h t = record { not = go }
    where
      go : (j : ℕ) → IsBalanced c i j → ⊥
      go j (balanced g _) = open_closes (c i) y b g
      go j (one-more g _) = bracket_out (c i) y b g
      go j (one-group {m = m} d s u) = t.not j (subst (λ x. IsBalanced c (x + 1) j) (o.only m s) u)
  level_behind y e (Some f) b o h t = record { is = one-group (subst (AreBrackets (c i)) (sym h) b) o.is t.is; only = go }
    where
      go : (j : ℕ) → IsBalanced c i j → j ≡ f
      go j (balanced g _) = absurd (open_closes (c i) y b g)
      go j (one-more g _) = absurd (bracket_out (c i) y b g)
      go j (one-group {m = m} d s u) = t.only j (subst (λ x. IsBalanced c (x + 1) j) (o.only m s) u)

  -- ---- the search

  pub goes_not : among (c i) (PAREN_CLOSE ∷ BRACKET_CLOSE ∷ BRACE_OPEN ∷ BRACE_CLOSE ∷ []) ≡ true → NoDeclaration c i
  goes_not h = record { not = go }
    where
      go : EndsAsDeclaration c i → ⊥
      go (stops (inl g)) = let q : false ≡ true = sym (ap (λ z. among z (PAREN_CLOSE ∷ BRACKET_CLOSE ∷ BRACE_OPEN ∷ BRACE_CLOSE ∷ [])) g) ∙ h in cc
      go (stops (inr g)) = let q : false ≡ true = sym (ap (λ z. among z (PAREN_CLOSE ∷ BRACKET_CLOSE ∷ BRACE_OPEN ∷ BRACE_CLOSE ∷ [])) g) ∙ h in cc
      go (over {m = m} g _) = opens (c m) g.0
        where
          opens : (y : ℕ) → AreBrackets (c i) y → ⊥
          opens y (inl b) = let q : false ≡ true = sym (ap (λ z. among z (PAREN_CLOSE ∷ BRACKET_CLOSE ∷ BRACE_OPEN ∷ BRACE_CLOSE ∷ [])) b.0) ∙ h in cc
          opens y (inr b) = let q : false ≡ true = sym (ap (λ z. among z (PAREN_CLOSE ∷ BRACKET_CLOSE ∷ BRACE_OPEN ∷ BRACE_CLOSE ∷ [])) b.0) ∙ h in cc
      go (past e _ _) = stop_out (c i) h e
        where
          stop_out : (x : ℕ) → among x (PAREN_CLOSE ∷ BRACKET_CLOSE ∷ BRACE_OPEN ∷ BRACE_CLOSE ∷ []) ≡ true
              → among x (SEMICOLON ∷ ASSIGN ∷ PAREN_CLOSE ∷ BRACKET_CLOSE ∷ BRACE_OPEN ∷ BRACE_CLOSE ∷ []) ≡ false → ⊥
          stop_out x a b = grind (arith, nat_tests)

  pub goes_next : (b : Bool) → among (c i) (SEMICOLON ∷ ASSIGN ∷ PAREN_CLOSE ∷ BRACKET_CLOSE ∷ BRACE_OPEN ∷ BRACE_CLOSE ∷ []) ≡ false
      → ((m : ℕ) → IsGroup c i m → ⊥) → ToldWhether c (i + 1) b → ToldWhether c i b
  goes_next true h n t = past h n t
  goes_next false h n t = record { not = go }
    where
      go : EndsAsDeclaration c i → ⊥
      go (stops (inl g)) = let q : true ≡ false = sym (ap (λ z. among z (SEMICOLON ∷ ASSIGN ∷ PAREN_CLOSE ∷ BRACKET_CLOSE ∷ BRACE_OPEN ∷ BRACE_CLOSE ∷ [])) g) ∙ h in cc
      go (stops (inr g)) = let q : true ≡ false = sym (ap (λ z. among z (SEMICOLON ∷ ASSIGN ∷ PAREN_CLOSE ∷ BRACKET_CLOSE ∷ BRACE_OPEN ∷ BRACE_CLOSE ∷ [])) g) ∙ h in cc
      go (over {m = m} g _) = n m g
      go (past _ _ s) = t.not s

  pub goes_behind : (y e : ℕ) (b : Bool) → AreBrackets (c i) y → OneBalanced c (i + 1) e → c e ≡ y → ToldWhether c (e + 1) b → ToldWhether c i b
  goes_behind y e true a o h t = over (subst (AreBrackets (c i)) (sym h) a, o.is) t
  goes_behind y e false a o h t = record { not = go }
    where
      stopped : AreBrackets (c i) y → (c i ≡ SEMICOLON) ⊎ (c i ≡ ASSIGN) → ⊥
      stopped (inl q) (inl g) = omega (arith, q.0, g)
      stopped (inl q) (inr g) = omega (arith, q.0, g)
      stopped (inr q) (inl g) = omega (arith, q.0, g)
      stopped (inr q) (inr g) = omega (arith, q.0, g)

      go : EndsAsDeclaration c i → ⊥
      go (stops g) = stopped a g
      go (over {m = m} g s) = t.not (subst (λ x. EndsAsDeclaration c (x + 1)) (o.only m g.1) s)
      go (past _ n _) = n e (subst (AreBrackets (c i)) (sym h) a, o.is)

-- ---- parentheses

pub close_rises : (c : ℕ → ℕ) (i j : ℕ) → ParenClosesAt c i j → (i ≤ j) × (c j ≡ PAREN_CLOSE)
close_rises c i j (closes h q) = (omega arith, ap c (sym q) ∙ h)
close_rises c i j (closes-later _ _ s) = let r = close_rises c (i + 1) j s in (omega (arith, r.0), r.1)
close_rises c i j (closes-behind {m = m} _ s t) = let r = close_rises c (m + 1) j t in (omega (arith, r.0, (close_rises c (i + 1) m s).0), r.1)

module _ (c : ℕ → ℕ) (i : ℕ) where
  pub close_here : c i ≡ PAREN_CLOSE → OneClose c i i
  close_here h = record { is = closes h refl; only = go }
    where
      go : (j : ℕ) → ParenClosesAt c i j → j ≡ i
      go j (closes _ q) = sym q
      go j (closes-later _ n _) = absurd (n h)
      go j (closes-behind g _ _) = absurd (omega (arith, h, g))

  pub close_next : (r : Option ℕ) → c i ≢ PAREN_OPEN → c i ≢ PAREN_CLOSE → ToldClose c (i + 1) r → ToldClose c i r
  close_next None n m t = record { not = go }
    where
      go : (j : ℕ) → ParenClosesAt c i j → ⊥
      go j (closes h _) = m h
      go j (closes-later _ _ s) = t.not j s
      go j (closes-behind h _ _) = n h
  close_next (Some e) n m t = record { is = closes-later n m t.is; only = go }
    where
      go : (j : ℕ) → ParenClosesAt c i j → j ≡ e
      go j (closes h _) = absurd (m h)
      go j (closes-later _ _ s) = t.only j s
      go j (closes-behind h _ _) = absurd (n h)

  pub close_behind : (e : ℕ) (r : Option ℕ) → c i ≡ PAREN_OPEN → OneClose c (i + 1) e → ToldClose c (e + 1) r → ToldClose c i r
  close_behind e None h o t = record { not = go }
    where
      go : (j : ℕ) → ParenClosesAt c i j → ⊥
      go j (closes g _) = omega (arith, h, g)
      go j (closes-later n _ _) = n h
      go j (closes-behind {m = m} _ s u) = t.not j (subst (λ x. ParenClosesAt c (x + 1) j) (o.only m s) u)
  close_behind e (Some f) h o t = record { is = closes-behind h o.is t.is; only = go }
    where
      go : (j : ℕ) → ParenClosesAt c i j → j ≡ f
      go j (closes g _) = absurd (omega (arith, h, g))
      go j (closes-later n _ _) = absurd (n h)
      go j (closes-behind {m = m} _ s u) = t.only j (subst (λ x. ParenClosesAt c (x + 1) j) (o.only m s) u)

  pub close_none : c i ≡ PAREN_OPEN → NoClose c (i + 1) → NoClose c i
  close_none h t = record { not = go }
    where
      go : (j : ℕ) → ParenClosesAt c i j → ⊥
      go j (closes g _) = omega (arith, h, g)
      go j (closes-later n _ _) = n h
      go j (closes-behind {m = m} _ s _) = t.not m s

pub closes_end : (c : ℕ → ℕ) (i e : ℕ) → OneClose c (i + 1) e → i < e + 1
closes_end c i e o = omega (arith, (close_rises c (i + 1) e o.is).0)

pub closed_inside : (leaves : List Leaf) (i e : ℕ) → OneClose (class_at leaves) i e → length leaves ≤ e → ⊥
closed_inside leaves i e o h = omega (arith, (close_rises (class_at leaves) i e o.is).1, none_there leaves e h)

-- ---- behind the last leaf

goes_there : (c : ℕ → ℕ) (i : ℕ) → EndsAsDeclaration c i → (j : ℕ) × (i ≤ j) × ((c j ≡ SEMICOLON) ⊎ (c j ≡ ASSIGN))
goes_there c i (stops g) = (i, omega arith, g)
goes_there c i (over {m = m} g s) = let r = goes_there c (m + 1) s in (r.0, omega (arith, r.1, (level_rises c (i + 1) m g.1).0), r.2)
goes_there c i (past _ _ s) = let r = goes_there c (i + 1) s in (r.0, omega (arith, r.1), r.2)

pub no_level_there : (c : ℕ → ℕ) (n k : ℕ) → ((j : ℕ) → n ≤ j → c j ≡ 0) → n ≤ k → KnowsBrackets c k no_brackets
no_level_there c n k none h = record {
  at_end = record { not = λ j s. let r = level_rises c k j s in closed (c j) (none j (omega (arith, r.0))) r.1 };
  at_leads = record { not = λ s. let r = goes_there c k s in found (c r.0) (none r.0 (omega (arith, r.1))) r.2 };
  at_close = record { not = λ j s. let r = close_rises c k j s in zero_out (c j) (none j (omega (arith, r.0))) r.1 };
}
  where
    zero_out : (x : ℕ) → x ≡ 0 → x ≡ PAREN_CLOSE → ⊥
    zero_out x z q = omega arith

    closed : (x : ℕ) → x ≡ 0 → (x ≡ PAREN_CLOSE) ⊎ (x ≡ BRACKET_CLOSE) → ⊥
    closed x z (inl q) = omega arith
    closed x z (inr q) = omega arith

    found : (x : ℕ) → x ≡ 0 → (x ≡ SEMICOLON) ⊎ (x ≡ ASSIGN) → ⊥
    found x z (inl q) = omega arith
    found x z (inr q) = omega arith

past_end : {A : Type 0} (xs : List A) (d : A) (k : ℕ) → length xs ≤ k → slice_index_or xs k d ≡ d
past_end [] d k h = refl
past_end (x ∷ xs) d zero h = absurd (omega arith)
past_end (x ∷ xs) d (suc k) h = past_end xs d k (omega arith)

pub none_told_level : (leaves : List Leaf) (brackets : List Brackets) (k : ℕ) → length leaves ≤ k → length brackets ≤ k → KnowsBrackets (class_at leaves) k (brackets_at brackets k)
none_told_level leaves brackets k h g = subst (KnowsBrackets (class_at leaves) k) (sym (past_end brackets no_brackets k g)) (no_level_there (class_at leaves) (length leaves) k (λ j le. none_there leaves j le) h)

-- `>=` ends the run, and `>` goes on with the leaf that adjoins it.
pub set_here : (c : ℕ → ℕ) (tight : ℕ → Bool) (i : ℕ) → c i ≡ GREATER_EQUAL → IsTrue true ↔ EndsInSet c tight i
set_here c tight i h = (λ _. set h, λ _. refl)

pub set_behind : (c : ℕ → ℕ) (tight : ℕ → Bool) (i : ℕ) (b : Bool) → c i ≡ GREATER → Adjoins c tight i → IsTrue b ↔ EndsInSet c tight (i + 1) → IsTrue b ↔ EndsInSet c tight i
set_behind c tight i b h a known = (λ t. next h a (known.0 t), back)
  where
    back : EndsInSet c tight i → IsTrue b
    back (set g) = absurd (omega (arith, h, g))
    back (next _ _ s) = known.1 s

no_set_there : (c : ℕ → ℕ) (tight : ℕ → Bool) (k : ℕ) → c k ≡ 0 → KnowsSet c tight k no_brackets
no_set_there c tight k none = (λ t. absurd (cc), found)
  where
    found : EndsInSet c tight k → IsTrue false
    found (set h) = absurd (omega (arith, h, none))
    found (next h _ _) = absurd (omega (arith, h, none))

pub none_told_set : (leaves : List Leaf) (brackets : List Brackets) (k : ℕ) → length leaves ≤ k → length brackets ≤ k → KnowsSet (class_at leaves) (is_tight leaves) k (brackets_at brackets k)
none_told_set leaves brackets k h g = subst (KnowsSet (class_at leaves) (is_tight leaves) k) (sym (past_end brackets no_brackets k g)) (no_set_there (class_at leaves) (is_tight leaves) k (none_there leaves k h))

-- ---- what the code knows

pub open_no_stop : (x y : ℕ) → AreBrackets x y → among x (SEMICOLON ∷ ASSIGN ∷ PAREN_CLOSE ∷ BRACKET_CLOSE ∷ BRACE_OPEN ∷ BRACE_CLOSE ∷ []) ≡ false
open_no_stop x y (inl h) = no_stop x (omega (arith, h.0)) (omega (arith, h.0)) (omega (arith, h.0)) (omega (arith, h.0)) (omega (arith, h.0)) (omega (arith, h.0))
open_no_stop x y (inr h) = no_stop x (omega (arith, h.0)) (omega (arith, h.0)) (omega (arith, h.0)) (omega (arith, h.0)) (omega (arith, h.0)) (omega (arith, h.0))

pub no_open : (x y : ℕ) → x ≢ PAREN_OPEN → x ≢ BRACKET_OPEN → AreBrackets x y → ⊥
no_open x y n m (inl h) = n h.0
no_open x y n m (inr h) = m h.0

pub levels_end : (c : ℕ → ℕ) (i e : ℕ) → OneBalanced c (i + 1) e → i < e + 1
levels_end c i e o = omega (arith, (level_rises c (i + 1) e o.is).0)

module _ (c : ℕ → ℕ) (from : ℕ) (brackets : List Brackets) (known : KnowsBracketsBehind c from brackets) where
  pub told_level : (k : ℕ) (l : Brackets) → from < k → l ≡ brackets_at brackets k → ToldBalanced c k l.end
  told_level k l h e = subst (λ (x : Brackets). ToldBalanced c k x.end) (sym e) (known.behind k h).at_end

  pub told_leads : (k : ℕ) (l : Brackets) → from < k → l ≡ brackets_at brackets k → ToldWhether c k l.leads
  told_leads k l h e = subst (λ (x : Brackets). ToldWhether c k x.leads) (sym e) (known.behind k h).at_leads

  pub told_close : (k : ℕ) (l : Brackets) → from < k → l ≡ brackets_at brackets k → ToldClose c k l.close
  told_close k l h e = subst (λ (x : Brackets). ToldClose c k x.close) (sym e) (known.behind k h).at_close
