-- Collections that stay open.
use Rattle.std.proofs.Common.{◌≡◌, ℕ, suc, zero, ◌+◌, ◌-◌, ◌<◌, ◌≤◌, Bool, true, false, cond, leb, ltb, eqb, ◌&&◌, ◌||◌, not, List, [], ◌∷◌, ◌++◌, length, take, get_or, reverse, Some, None, refl, sym, ◌∙◌, ap, subst, arith}
use Rattle.std.proofs.lemmas.List.{take_more, take_all, take-take, reverse-append, length-reverse, length-take-le, append_assoc, append-nil}
use Rattle.std.proofs.lemmas.Bool.Decides.{nat_tests}
use Rattle.yaml_lex.specs.declared.collections.Collection.{Collection}
use Rattle.rw_base.specs.declared.tree.Leaf.{Leaf}
use Rattle.yaml_lex.specs.declared.context.Context.{Context}
use Rattle.yaml_lex.specs.declared.class.TheConstants.{DASH, CLOSE, OPENM, OPENS}
use Rattle.yaml_lex.specs.Collections.{without_from, left_open, innermost, is_at, is_between, is_entry, opens_in, opens, opening, closes, textless, textless_before, open_behind}

inner : (xs : List Collection) (m : ℕ) (d : Collection) → m < length xs → reverse (take (m + 1) xs) ≡ get_or xs m d ∷ reverse (take m xs)
inner xs m d h = ap reverse (take_more xs m d h) ∙ reverse-append (take m xs) (get_or xs m d ∷ [])

pub innermost-first : (xs : List Collection) (n : ℕ) (d : Collection) → 0 < n → n ≤ length xs → reverse (take n xs) ≡ get_or xs (n - 1) d ∷ reverse (take (n - 1) xs)
innermost-first xs n d some inside =
    ap (λ (k : ℕ). reverse (take k xs)) (let e : n ≡ (n - 1) + 1 = omega arith in e) ∙ inner xs (n - 1) d (omega arith)

cond-true : (t : Bool) (x y : List Collection) → t ≡ true → cond t x y ≡ x
cond-true true x y e = refl
cond-true false x y e = absurd (cc)

cond-false : (t : Bool) (x y : List Collection) → t ≡ false → cond t x y ≡ y
cond-false false x y e = refl
cond-false true x y e = absurd (cc)

leb-true : (m n : ℕ) → m ≤ n → leb m n ≡ true
leb-true m n h = grind (arith, nat_tests)

leb-false : (m n : ℕ) → n < m → leb m n ≡ false
leb-false m n h = grind (arith, nat_tests)

-- one more is closed
pub one-closed : (xs : List Collection) (column n : ℕ) (d : Collection) → 0 < n → n ≤ length xs → column ≤ (get_or xs (n - 1) d).column
    → without_from column (reverse (take (n - 1) xs)) ≡ without_from column (reverse (take n xs))
one-closed xs column n d some inside high =
    sym (ap (without_from column) (innermost-first xs n d some inside)
    ∙ cond-true (leb column (get_or xs (n - 1) d).column) (without_from column (reverse (take (n - 1) xs))) (get_or xs (n - 1) d ∷ reverse (take (n - 1) xs))
    (leb-true column (get_or xs (n - 1) d).column high))

-- this one stays
pub one-stays : (xs : List Collection) (column n : ℕ) (d : Collection) → 0 < n → n ≤ length xs → (get_or xs (n - 1) d).column < column
    → reverse (take n xs) ≡ without_from column (reverse (take n xs))
one-stays xs column n d some inside low =
    innermost-first xs n d some inside
    ∙ sym (ap (without_from column) (innermost-first xs n d some inside)
    ∙ cond-false (leb column (get_or xs (n - 1) d).column) (without_from column (reverse (take (n - 1) xs))) (get_or xs (n - 1) d ∷ reverse (take (n - 1) xs))
    (leb-false column (get_or xs (n - 1) d).column low))

pub all-stay : (xs : List Collection) → reverse (take (length xs) xs) ≡ reverse xs
all-stay xs = ap reverse (take_all (length xs) xs (let e : length xs ≤ length xs = omega arith in e))

pub take-inside : (xs : List Collection) (m n : ℕ) → m ≤ n → reverse (take m (take n xs)) ≡ reverse (take m xs)
take-inside xs m n h = ap reverse (take-take m n xs h)

pub ruleset left_open_by = (all-stay, take-inside)

-- ---- what is opened

pub opens-inner : (place : Context) (class : ℕ) (xs : List Collection) (d : Collection) → 0 < length xs
    → opens_in place class (reverse xs) ≡ (ltb (get_or xs (length xs - 1) d).column place.column || (eqb class DASH && not (get_or xs (length xs - 1) d).sequence))
opens-inner place class xs d some =
    ap (opens_in place class) (sym (all-stay xs) ∙ innermost-first xs (length xs) d some (let e : length xs ≤ length xs = omega arith in e))

pub opens-none : (place : Context) (class : ℕ) (xs : List Collection) → length xs ≡ 0 → opens_in place class (reverse xs) ≡ true
opens-none place class [] e = refl
opens-none place class (x ∷ xs) e = absurd (omega arith)

pub ruleset opened_by = (opens-inner, opens-none)

-- ---- leaves without text

pub closes-more : (at n : ℕ) → closes at n ++ textless at CLOSE ∷ [] ≡ closes at (n + 1)
closes-more at zero = refl
closes-more at (suc n) = ap (λ ls. textless at CLOSE ∷ ls) (closes-more at n) ∙ ap (closes at) (let e : suc (n + 1) ≡ suc n + 1 = omega arith in e)

pub one-more-close : (old now : List Leaf) (at n : ℕ) → now ≡ old ++ closes at n → now ++ textless at CLOSE ∷ [] ≡ old ++ closes at (n + 1)
one-more-close old now at n e =
    ap (λ ls. ls ++ textless at CLOSE ∷ []) e ∙ append_assoc old (closes at n) (textless at CLOSE ∷ []) ∙ ap (λ ls. old ++ ls) (closes-more at n)

pub no-close : (old : List Leaf) (at : ℕ) → old ≡ old ++ closes at 0
no-close old at = sym (append-nil old)

pub ruleset closing_by = (one-more-close, no-close)

-- how many are closed
count-closed : (p : Context) (class keep : ℕ) (xs : List Collection) → keep ≤ length xs → reverse (take keep xs) ≡ left_open p class (reverse xs)
    → length (reverse xs) - length (left_open p class (reverse xs)) ≡ length xs - keep
count-closed p class keep xs inside stay =
    let a : length (reverse xs) ≡ length xs = length-reverse xs in
    let b : length (left_open p class (reverse xs)) ≡ keep = ap length (sym stay) ∙ length-reverse (take keep xs) ∙ length-take-le keep xs inside in
    omega arith

if-true : (t : Bool) (x y : List Leaf) → t ≡ true → cond t x y ≡ x
if-true true x y e = refl
if-true false x y e = absurd (cc)

if-false : (t : Bool) (x y : List Leaf) → t ≡ false → cond t x y ≡ y
if-false false x y e = refl
if-false true x y e = absurd (cc)

pub opens-is : (p : Context) (class keep : ℕ) (xs : List Collection) (t : Bool) → reverse (take keep xs) ≡ left_open p class (reverse xs)
    → t ≡ (is_entry class && opens_in p class (reverse (take keep xs))) → opens p class (reverse xs) ≡ t
opens-is p class keep xs t stay e = ap (λ os. is_entry class && opens_in p class os) (sym stay) ∙ sym e

-- no collection opens
pub before-closed : (p : Context) (class keep at : ℕ) (xs : List Collection) (old now : List Leaf) → keep ≤ length xs → reverse (take keep xs) ≡ left_open p class (reverse xs)
    → opens p class (reverse xs) ≡ false → now ≡ old ++ closes at (length xs - keep) → now ≡ old ++ textless_before at p class (reverse xs)
unfolding textless_before
before-closed p class keep at xs old now inside stay none e =
    e ∙ ap (λ ls. old ++ ls) (sym (append-nil (closes at (length xs - keep)))
    ∙ ap (λ ls. closes at (length xs - keep) ++ ls) (sym (if-false (opens p class (reverse xs)) (textless at (cond (eqb class DASH) OPENS OPENM) ∷ []) [] none))
    ∙ ap (λ n. closes at n ++ opening at p class (reverse xs)) (sym (count-closed p class keep xs inside stay)))

pub before-opened : (p : Context) (class keep at : ℕ) (xs : List Collection) (old now after : List Leaf) (l : Leaf) → keep ≤ length xs → reverse (take keep xs) ≡ left_open p class (reverse xs)
    → opens p class (reverse xs) ≡ true → now ≡ old ++ closes at (length xs - keep) → l ≡ textless at (cond (eqb class DASH) OPENS OPENM) → after ≡ now ++ l ∷ []
    → after ≡ old ++ textless_before at p class (reverse xs)
unfolding textless_before
before-opened p class keep at xs old now after l inside stay some e is pushed =
    pushed ∙ ap (λ ls. ls ++ l ∷ []) e ∙ append_assoc old (closes at (length xs - keep)) (l ∷ [])
    ∙ ap (λ ls. old ++ ls) (ap (λ m. closes at (length xs - keep) ++ m ∷ []) is
    ∙ ap (λ ls. closes at (length xs - keep) ++ ls) (sym (if-true (opens p class (reverse xs)) (textless at (cond (eqb class DASH) OPENS OPENM) ∷ []) [] some))
    ∙ ap (λ n. closes at n ++ opening at p class (reverse xs)) (sym (count-closed p class keep xs inside stay)))

pub open-closed : (p : Context) (class keep : ℕ) (xs ys : List Collection) → reverse (take keep xs) ≡ left_open p class (reverse xs)
    → opens p class (reverse xs) ≡ false → ys ≡ take keep xs → reverse ys ≡ open_behind p class (reverse xs)
unfolding open_behind
open-closed p class keep xs ys stay none e =
    ap reverse e ∙ stay ∙ sym (cond-false (opens p class (reverse xs)) (record { sequence = eqb class DASH; column = p.column } ∷ left_open p class (reverse xs)) (left_open p class (reverse xs)) none)

pub open-opened : (p : Context) (class keep : ℕ) (xs ys : List Collection) (o : Collection) → reverse (take keep xs) ≡ left_open p class (reverse xs)
    → opens p class (reverse xs) ≡ true → o ≡ record { sequence = eqb class DASH; column = p.column } → ys ≡ take keep xs ++ o ∷ [] → reverse ys ≡ open_behind p class (reverse xs)
unfolding open_behind
open-opened p class keep xs ys o stay some is e =
    ap reverse e ∙ reverse-append (take keep xs) (o ∷ []) ∙ ap (λ t. o ∷ t) stay ∙ ap (λ x. x ∷ left_open p class (reverse xs)) is
    ∙ sym (cond-true (opens p class (reverse xs)) (record { sequence = eqb class DASH; column = p.column } ∷ left_open p class (reverse xs)) (left_open p class (reverse xs)) some)

pub ruleset before_by = (opens-is, before-closed, before-opened, open-closed, open-opened)

-- ---- the same in the words of the code: ys is the slice of xs, zs that of what is left_open

pub leaves-closed : (p : Context) (class keep at n : ℕ) (xs ys zs : List Collection) (old now : List Leaf) → ys ≡ xs → keep ≤ length ys
    → reverse (take keep ys) ≡ left_open p class (reverse ys) → n ≡ length xs → now ≡ old ++ closes at (n - keep) → zs ≡ take keep xs
    → false ≡ (is_entry class && opens_in p class (reverse zs)) → now ≡ old ++ textless_before at p class (reverse xs)
leaves-closed p class keep at n xs ys zs old now same inside stay size e cut none =
    let inside_xs = subst (λ t. keep ≤ length t) same inside in
    let stay_xs = subst (λ t. reverse (take keep t) ≡ left_open p class (reverse t)) same stay in
    before-closed p class keep at xs old now inside_xs stay_xs
    (opens-is p class keep xs false stay_xs (subst (λ t. false ≡ (is_entry class && opens_in p class (reverse t))) cut none))
    (subst (λ k. now ≡ old ++ closes at (k - keep)) size e)

pub leaves-opened : (p : Context) (class keep at n : ℕ) (xs ys zs : List Collection) (old now after : List Leaf) (l : Leaf) → ys ≡ xs → keep ≤ length ys
    → reverse (take keep ys) ≡ left_open p class (reverse ys) → n ≡ length xs → now ≡ old ++ closes at (n - keep) → zs ≡ take keep xs
    → true ≡ (is_entry class && opens_in p class (reverse zs)) → l ≡ textless at (cond (eqb class DASH) OPENS OPENM) → after ≡ now ++ l ∷ []
    → after ≡ old ++ textless_before at p class (reverse xs)
leaves-opened p class keep at n xs ys zs old now after l same inside stay size e cut some is pushed =
    let inside_xs = subst (λ t. keep ≤ length t) same inside in
    let stay_xs = subst (λ t. reverse (take keep t) ≡ left_open p class (reverse t)) same stay in
    before-opened p class keep at xs old now after l inside_xs stay_xs
    (opens-is p class keep xs true stay_xs (subst (λ t. true ≡ (is_entry class && opens_in p class (reverse t))) cut some))
    (subst (λ k. now ≡ old ++ closes at (k - keep)) size e) is pushed

-- ---- the innermost collection

pub innermost-inner : (xs : List Collection) (d : Collection) → 0 < length xs → innermost (reverse xs) ≡ Some (get_or xs (length xs - 1) d).column
innermost-inner xs d some = ap innermost (sym (all-stay xs) ∙ innermost-first xs (length xs) d some (let e : length xs ≤ length xs = omega arith in e))

pub innermost-none : (xs : List Collection) → length xs ≡ 0 → innermost (reverse xs) ≡ None
innermost-none [] e = refl
innermost-none (x ∷ xs) e = absurd (omega arith)

pub ruleset innermost_by = (innermost-inner, innermost-none)

pub at-inner : (column : ℕ) (xs : List Collection) (d : Collection) → 0 < length xs → is_at column (reverse xs) ≡ eqb (get_or xs (length xs - 1) d).column column
at-inner column xs d some = ap (is_at column) (sym (all-stay xs) ∙ innermost-first xs (length xs) d some (let e : length xs ≤ length xs = omega arith in e))

pub at-none : (column : ℕ) (xs : List Collection) → length xs ≡ 0 → is_at column (reverse xs) ≡ false
at-none column [] e = refl
at-none column (x ∷ xs) e = absurd (omega arith)

pub ruleset at_by = (at-inner, at-none)

-- ---- between two columns

pub between-is : (p : Context) (class keep : ℕ) (xs : List Collection) → keep ≤ length xs → reverse (take keep xs) ≡ left_open p class (reverse xs)
    → is_between p class (reverse xs) ≡ (ltb keep (length xs) && not (is_at p.column (reverse (take keep xs))))
between-is p class keep xs inside stay =
    let few : length (left_open p class (reverse xs)) ≡ keep = ap length (sym stay) ∙ length-reverse (take keep xs) ∙ length-take-le keep xs inside in
    ap (λ n. ltb n (length (reverse xs)) && not (is_at p.column (left_open p class (reverse xs)))) few
    ∙ ap (λ n. ltb keep n && not (is_at p.column (left_open p class (reverse xs)))) (length-reverse xs)
    ∙ ap (λ os. ltb keep (length xs) && not (is_at p.column os)) (sym stay)

pub ruleset between_by = (between-is, nat_tests)
