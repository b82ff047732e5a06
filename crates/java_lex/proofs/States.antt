-- The automaton's table is right: each state stands for what can follow a text that leads to it.
use Rattle.std.proofs.Common.{◌≡◌, ℕ, suc, zero, Bool, true, false, cond, not, ◌&&◌, ◌||◌, List, [], ◌∷◌, eqb, ltb, get_or, refl}
use Rattle.java_lex.specs.declared.table.TheConstants.{COLUMN}
use Rattle.rw_base.specs.Expressions.{Expression}
use Rattle.java_lex.specs.Literals.{literal_refused, comment_refused}
use Rattle.java_lex.specs.Kinds.{kinds}
use Rattle.java_lex.specs.Scanning.{known, next_state, state_class}
use Rattle.java_lex.proofs.Derivatives.{has_empty, step, after, same_kinds}

-- a text that leads to each state, with the state where it begins
unfoldable pub ways : List (ℕ × List ℕ)
ways =
    (3, 0 ∷ []) ∷
    (1, []) ∷
    (2, []) ∷
    (3, []) ∷
    (1, 33 ∷ []) ∷
    (1, 34 ∷ []) ∷
    (1, 37 ∷ []) ∷
    (1, 38 ∷ []) ∷
    (1, 39 ∷ []) ∷
    (1, 40 ∷ []) ∷
    (1, 41 ∷ []) ∷
    (1, 42 ∷ []) ∷
    (1, 43 ∷ []) ∷
    (1, 44 ∷ []) ∷
    (1, 45 ∷ []) ∷
    (1, 46 ∷ []) ∷
    (1, 47 ∷ []) ∷
    (1, 48 ∷ []) ∷
    (1, 49 ∷ []) ∷
    (1, 58 ∷ []) ∷
    (1, 59 ∷ []) ∷
    (1, 60 ∷ []) ∷
    (1, 61 ∷ []) ∷
    (1, 62 ∷ []) ∷
    (1, 63 ∷ []) ∷
    (1, 64 ∷ []) ∷
    (1, 91 ∷ []) ∷
    (1, 93 ∷ []) ∷
    (1, 94 ∷ []) ∷
    (1, 123 ∷ []) ∷
    (1, 124 ∷ []) ∷
    (1, 125 ∷ []) ∷
    (1, 126 ∷ []) ∷
    (2, 92 ∷ []) ∷
    (3, 92 ∷ []) ∷
    (1, 33 ∷ 61 ∷ []) ∷
    (1, 34 ∷ 34 ∷ []) ∷
    (1, 34 ∷ 92 ∷ []) ∷
    (1, 34 ∷ 192 ∷ []) ∷
    (1, 37 ∷ 61 ∷ []) ∷
    (1, 38 ∷ 38 ∷ []) ∷
    (1, 38 ∷ 61 ∷ []) ∷
    (1, 39 ∷ 0 ∷ []) ∷
    (1, 39 ∷ 92 ∷ []) ∷
    (1, 39 ∷ 192 ∷ []) ∷
    (1, 42 ∷ 61 ∷ []) ∷
    (1, 43 ∷ 43 ∷ []) ∷
    (1, 43 ∷ 61 ∷ []) ∷
    (1, 45 ∷ 45 ∷ []) ∷
    (1, 45 ∷ 61 ∷ []) ∷
    (1, 45 ∷ 62 ∷ []) ∷
    (1, 46 ∷ 46 ∷ []) ∷
    (1, 46 ∷ 48 ∷ []) ∷
    (1, 47 ∷ 61 ∷ []) ∷
    (1, 48 ∷ 46 ∷ []) ∷
    (1, 48 ∷ 66 ∷ []) ∷
    (1, 48 ∷ 68 ∷ []) ∷
    (1, 48 ∷ 69 ∷ []) ∷
    (1, 48 ∷ 70 ∷ []) ∷
    (1, 48 ∷ 76 ∷ []) ∷
    (1, 48 ∷ 88 ∷ []) ∷
    (1, 48 ∷ 95 ∷ []) ∷
    (1, 58 ∷ 58 ∷ []) ∷
    (1, 60 ∷ 60 ∷ []) ∷
    (1, 60 ∷ 61 ∷ []) ∷
    (1, 61 ∷ 61 ∷ []) ∷
    (1, 62 ∷ 61 ∷ []) ∷
    (1, 94 ∷ 61 ∷ []) ∷
    (1, 124 ∷ 61 ∷ []) ∷
    (1, 124 ∷ 124 ∷ []) ∷
    (2, 92 ∷ 117 ∷ []) ∷
    (3, 92 ∷ 117 ∷ []) ∷
    (1, 34 ∷ 92 ∷ 48 ∷ []) ∷
    (1, 34 ∷ 92 ∷ 52 ∷ []) ∷
    (1, 34 ∷ 92 ∷ 117 ∷ []) ∷
    (1, 39 ∷ 0 ∷ 39 ∷ []) ∷
    (1, 39 ∷ 92 ∷ 48 ∷ []) ∷
    (1, 39 ∷ 92 ∷ 52 ∷ []) ∷
    (1, 39 ∷ 92 ∷ 117 ∷ []) ∷
    (1, 46 ∷ 46 ∷ 46 ∷ []) ∷
    (1, 46 ∷ 48 ∷ 95 ∷ []) ∷
    (1, 48 ∷ 66 ∷ 48 ∷ []) ∷
    (1, 48 ∷ 69 ∷ 43 ∷ []) ∷
    (1, 48 ∷ 69 ∷ 48 ∷ []) ∷
    (1, 48 ∷ 88 ∷ 46 ∷ []) ∷
    (1, 48 ∷ 88 ∷ 48 ∷ []) ∷
    (1, 60 ∷ 60 ∷ 61 ∷ []) ∷
    (2, 92 ∷ 117 ∷ 48 ∷ []) ∷
    (3, 92 ∷ 117 ∷ 48 ∷ []) ∷
    (1, 34 ∷ 92 ∷ 48 ∷ 48 ∷ []) ∷
    (1, 34 ∷ 92 ∷ 117 ∷ 48 ∷ []) ∷
    (1, 39 ∷ 92 ∷ 117 ∷ 48 ∷ []) ∷
    (1, 48 ∷ 66 ∷ 48 ∷ 95 ∷ []) ∷
    (1, 48 ∷ 69 ∷ 48 ∷ 95 ∷ []) ∷
    (1, 48 ∷ 88 ∷ 46 ∷ 48 ∷ []) ∷
    (1, 48 ∷ 88 ∷ 48 ∷ 46 ∷ []) ∷
    (1, 48 ∷ 88 ∷ 48 ∷ 95 ∷ []) ∷
    (2, 92 ∷ 117 ∷ 48 ∷ 48 ∷ []) ∷
    (3, 92 ∷ 117 ∷ 48 ∷ 48 ∷ []) ∷
    (1, 34 ∷ 92 ∷ 117 ∷ 48 ∷ 48 ∷ []) ∷
    (1, 39 ∷ 92 ∷ 117 ∷ 48 ∷ 48 ∷ []) ∷
    (1, 48 ∷ 88 ∷ 46 ∷ 48 ∷ 95 ∷ []) ∷
    (2, 92 ∷ 117 ∷ 48 ∷ 48 ∷ 48 ∷ []) ∷
    (2, 92 ∷ 117 ∷ 48 ∷ 48 ∷ 50 ∷ []) ∷
    (2, 92 ∷ 117 ∷ 48 ∷ 48 ∷ 53 ∷ []) ∷
    (3, 92 ∷ 117 ∷ 48 ∷ 48 ∷ 50 ∷ []) ∷
    (1, 34 ∷ 92 ∷ 117 ∷ 48 ∷ 48 ∷ 48 ∷ []) ∷
    (1, 39 ∷ 92 ∷ 117 ∷ 48 ∷ 48 ∷ 48 ∷ []) ∷
    (2, 92 ∷ 117 ∷ 48 ∷ 48 ∷ 48 ∷ 65 ∷ []) ∷ []

-- what can follow in a state
unfoldable pub meaning : ℕ → List (ℕ × Expression)
meaning q = let way = get_or ways q (3, 0 ∷ []) in after way.1 (known way.0)

-- texts that end in a whole one from each state
unfoldable pub endings : List (List ℕ)
endings =
    ([]) ∷
    (33 ∷ []) ∷
    (92 ∷ 117 ∷ 48 ∷ 48 ∷ 48 ∷ 65 ∷ []) ∷
    (92 ∷ 117 ∷ 48 ∷ 48 ∷ 48 ∷ 65 ∷ []) ∷
    ([]) ∷
    (34 ∷ []) ∷
    ([]) ∷
    ([]) ∷
    (32 ∷ 39 ∷ []) ∷
    ([]) ∷
    ([]) ∷
    ([]) ∷
    ([]) ∷
    ([]) ∷
    ([]) ∷
    ([]) ∷
    ([]) ∷
    ([]) ∷
    ([]) ∷
    ([]) ∷
    ([]) ∷
    ([]) ∷
    ([]) ∷
    ([]) ∷
    ([]) ∷
    ([]) ∷
    ([]) ∷
    ([]) ∷
    ([]) ∷
    ([]) ∷
    ([]) ∷
    ([]) ∷
    ([]) ∷
    (117 ∷ 48 ∷ 48 ∷ 48 ∷ 65 ∷ []) ∷
    (117 ∷ 48 ∷ 48 ∷ 48 ∷ 65 ∷ []) ∷
    ([]) ∷
    ([]) ∷
    (34 ∷ 34 ∷ []) ∷
    (34 ∷ []) ∷
    ([]) ∷
    ([]) ∷
    ([]) ∷
    (39 ∷ []) ∷
    (34 ∷ 39 ∷ []) ∷
    (39 ∷ []) ∷
    ([]) ∷
    ([]) ∷
    ([]) ∷
    ([]) ∷
    ([]) ∷
    ([]) ∷
    (46 ∷ []) ∷
    ([]) ∷
    ([]) ∷
    ([]) ∷
    (48 ∷ []) ∷
    ([]) ∷
    (48 ∷ []) ∷
    ([]) ∷
    ([]) ∷
    (48 ∷ []) ∷
    (48 ∷ []) ∷
    ([]) ∷
    ([]) ∷
    ([]) ∷
    ([]) ∷
    ([]) ∷
    ([]) ∷
    ([]) ∷
    ([]) ∷
    (48 ∷ 48 ∷ 48 ∷ 65 ∷ []) ∷
    (48 ∷ 48 ∷ 48 ∷ 65 ∷ []) ∷
    (34 ∷ []) ∷
    (34 ∷ []) ∷
    (48 ∷ 48 ∷ 48 ∷ 48 ∷ 34 ∷ []) ∷
    ([]) ∷
    (39 ∷ []) ∷
    (39 ∷ []) ∷
    (48 ∷ 48 ∷ 48 ∷ 48 ∷ 39 ∷ []) ∷
    ([]) ∷
    (48 ∷ []) ∷
    ([]) ∷
    (48 ∷ []) ∷
    ([]) ∷
    (48 ∷ 80 ∷ 48 ∷ []) ∷
    ([]) ∷
    ([]) ∷
    (48 ∷ 48 ∷ 65 ∷ []) ∷
    (48 ∷ 48 ∷ 65 ∷ []) ∷
    (34 ∷ []) ∷
    (48 ∷ 48 ∷ 48 ∷ 34 ∷ []) ∷
    (48 ∷ 48 ∷ 48 ∷ 39 ∷ []) ∷
    (48 ∷ []) ∷
    (48 ∷ []) ∷
    (80 ∷ 48 ∷ []) ∷
    (80 ∷ 48 ∷ []) ∷
    (48 ∷ []) ∷
    (48 ∷ 65 ∷ []) ∷
    (48 ∷ 65 ∷ []) ∷
    (48 ∷ 48 ∷ 34 ∷ []) ∷
    (48 ∷ 48 ∷ 39 ∷ []) ∷
    (48 ∷ 80 ∷ 48 ∷ []) ∷
    (65 ∷ []) ∷
    (50 ∷ []) ∷
    (67 ∷ []) ∷
    (65 ∷ []) ∷
    (48 ∷ 34 ∷ []) ∷
    (48 ∷ 39 ∷ []) ∷
    ([]) ∷ []

abbrev pub all_from : ℕ → ℕ → (ℕ → Bool) → Bool
all_from zero from p = true
all_from (suc n) from p = p from && all_from n (suc from) p

abbrev pub is_right : ℕ → Bool
is_right q = let here = meaning q in all_from 256 0 (λ b. same_kinds (step b here) (meaning (next_state q b)))

-- the classes of which the empty text is one
abbrev pub classes_now : List (ℕ × Expression) → List ℕ
classes_now [] = []
classes_now (kind ∷ rest) = cond (has_empty kind.1) (kind.0 ∷ classes_now rest) (classes_now rest)

-- there is at most one, and it is the state's
abbrev pub is_one : ℕ → List ℕ → Bool
is_one class [] = eqb class 0
is_one class (found ∷ []) = eqb class found && not (eqb class 0)
is_one class (found ∷ other ∷ rest) = false

abbrev pub has_class : ℕ → Bool
has_class q = is_one (state_class q) (classes_now (meaning q))

abbrev pub goes_inside : ℕ → Bool
goes_inside q = all_from 256 0 (λ b. ltb (next_state q b) 109)

abbrev pub is_some : List ℕ → Bool
is_some [] = false
is_some (class ∷ rest) = true

-- each state but the dead one can end in a whole text
abbrev pub can_end : ℕ → Bool
can_end q = eqb q 0 || is_some (classes_now (after (get_or endings q []) (meaning q)))

pub all_right : all_from 109 0 is_right ≡ true
unfolding next_state meaning ways kinds literal_refused comment_refused
all_right = refl

pub all_have_class : all_from 109 0 has_class ≡ true
unfolding state_class meaning ways kinds literal_refused comment_refused
all_have_class = refl

pub all_go_inside : all_from 109 0 goes_inside ≡ true
unfolding next_state
all_go_inside = refl

pub all_can_end : all_from 109 0 can_end ≡ true
unfolding meaning ways endings kinds literal_refused comment_refused
all_can_end = refl

pub columns_inside : all_from 256 0 (λ b. ltb (get_or COLUMN b 0) 54) ≡ true
columns_inside = refl

pub dead_is : meaning 0 ≡ []
unfolding meaning ways kinds literal_refused comment_refused
dead_is = refl

pub leaf_is : meaning 1 ≡ known 1
unfolding meaning ways
leaf_is = refl

pub literal_is : meaning 2 ≡ known 2
unfolding meaning ways
literal_is = refl

pub comment_is : meaning 3 ≡ known 3
unfolding meaning ways
comment_is = refl

-- nothing is a leaf or an escape of no bytes
pub starts_empty : (state_class 1 ≡ 0) × (state_class 2 ≡ 0) × (state_class 3 ≡ 0)
unfolding state_class
starts_empty = (refl, refl, refl)
