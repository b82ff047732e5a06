-- One step of a cut: there is always one, and one alone.
use Rattle.std.proofs.Common.{◌≡◌, ℕ, ◌<◌, ◌≤◌, inl, inr, Bool, true, false, cond, eqb, List, [], ◌∷◌, length, get_or, refl, sym, ◌∙◌, ap, subst, arith}
use Rattle.std.proofs.lemmas.Bool.Decides.{nat_tests}
use Rattle.rw_base.specs.declared.place.Cause.{Cause}
use Rattle.rw_base.specs.declared.place.Cause.TheVariants.{NotUtf8, BadLeaf}
use Rattle.yaml_lex.specs.declared.context.Context.{Context}
use Rattle.yaml_lex.specs.declared.collections.Collection.{Collection}
use Rattle.yaml_lex.specs.declared.form.LeafForm.{LeafForm}
use Rattle.yaml_lex.specs.declared.form.LeafForm.TheVariants as form
use Rattle.yaml_lex.specs.Characters.{begins, is_white}
use Rattle.yaml_lex.specs.Collections.{is_refused}
use Rattle.yaml_lex.specs.Scalars.{IsRun, in_line}
use Rattle.yaml_lex.specs.Leaves.{BeginsNone, IsLeafPlace, IsNext, IsPassed, white, comment, IsBad, cut_off, tab, open_quote, no_leaf, refused, form_of, class_of, forbids_tab, is_bad_tab, begins_comment}
use Rattle.yaml_lex.proofs.RunLemmas.{not-both, run-one, run-of}
use Rattle.yaml_lex.proofs.Passing.{comment-begins, run-some, hash-here}
use Rattle.yaml_lex.proofs.TextLaws.{text-one, text-of, either-true}

-- bytes that are passed over, a leaf with its class and size, the end, or a bad place
pub data Step : Type 0 where
  pass : ℕ → Step
  next : ℕ → ℕ → Step
  finish : Step
  bad : ℕ → Cause → Step

abbrev pub IsStep : Bool → Context → List Collection → List ℕ → Step → Type 0
IsStep broken p os s (pass n) = IsPassed p s n
IsStep broken p os s (next class n) = IsNext p os s class n × (is_refused p class os ≡ false)
IsStep broken p os s finish = (s ≡ []) × (broken ≡ false)
IsStep broken p os s (bad n cause) = IsBad broken p os s n cause

-- ---- what stands at a place

data LeafView (broken : Bool) (p : Context) (os : List Collection) (s : List ℕ) (st : Step) : Type 0 where
  stands : (class n : ℕ) → IsNext p os s class n → is_refused p class os ≡ false → st ≡ next class n → LeafView broken p os s st
  cannot : (class n : ℕ) → IsNext p os s class n → is_refused p class os ≡ true → st ≡ bad 0 BadLeaf → LeafView broken p os s st
  unclosed : form_of p s ≡ form.Quoted → broken ≡ true → BeginsNone (form_of p s) p os s → st ≡ bad (length s) NotUtf8 → LeafView broken p os s st
  absent : (form_of p s ≡ form.Quoted → broken ≡ false) → BeginsNone (form_of p s) p os s → st ≡ bad 0 BadLeaf → LeafView broken p os s st

data View (broken : Bool) (p : Context) (os : List Collection) (s : List ℕ) (st : Step) : Type 0 where
  at_end : s ≡ [] → st ≡ cond broken (bad 0 NotUtf8) finish → View broken p os s st
  at_white : begins is_white s ≡ true → st ≡ cond (is_bad_tab p s) (bad 0 BadLeaf) (pass 1) → View broken p os s st
  at_comment : begins_comment p s ≡ true → (n : ℕ) → IsRun in_line s n → st ≡ pass n → View broken p os s st
  at_leaf : IsLeafPlace p s → LeafView broken p os s st → View broken p os s st

pick-true : (v : Bool) (x y : Step) → v ≡ true → x ≡ cond v x y
pick-true true x y e = refl
pick-true false x y e = absurd (cc)

pick-false : (v : Bool) (x y : Step) → v ≡ false → y ≡ cond v x y
pick-false false x y e = refl
pick-false true x y e = absurd (cc)

bad-same : (m n : ℕ) (c d : Cause) → m ≡ n → c ≡ d → bad m c ≡ bad n d
bad-same m n c d e f = ap (λ k. bad k c) e ∙ ap (λ k. bad n k) f

tab-byte : (b : ℕ) → eqb b 9 ≡ true → is_white b ≡ true
tab-byte b e = grind (arith, nat_tests)

tab-white : (p : Context) (s : List ℕ) → is_bad_tab p s ≡ true → begins is_white s ≡ true
tab-white p [] e = absurd (let f : false ≡ true = e in cc)
tab-white p (b ∷ s) e = tab-byte b (either-true (eqb b 9) (forbids_tab p (b ∷ s)) e).0

view : (broken : Bool) (p : Context) (os : List Collection) (s : List ℕ) (st : Step) → IsStep broken p os s st → View broken p os s st
view broken p os s (pass n) (white w calm one) = at_white w (ap pass one ∙ pick-false (is_bad_tab p s) (bad 0 BadLeaf) (pass 1) calm)
view broken p os s (pass n) (comment c run) = at_comment c n run refl
view broken p os s (next class n) h = at_leaf h.0.place (stands class n h.0 h.1 refl)
view broken p os s finish h = at_end h.0 (pick-false broken (bad 0 NotUtf8) finish h.1)
view broken p os s (bad n cause) (cut_off e b z c) = at_end e (bad-same n 0 cause NotUtf8 z c ∙ pick-true broken (bad 0 NotUtf8) finish b)
view broken p os s (bad n cause) (tab t z c) = at_white (tab-white p s t) (bad-same n 0 cause BadLeaf z c ∙ pick-true (is_bad_tab p s) (bad 0 BadLeaf) (pass 1) t)
view broken p os s (bad n cause) (open_quote place q b none l c) = at_leaf place (unclosed q b none (bad-same n (length s) cause NotUtf8 l c))
view broken p os s (bad n cause) (no_leaf place q none z c) = at_leaf place (absent q none (bad-same n 0 cause BadLeaf z c))
view broken p os s (bad n cause) (refused class size nx r z c) = at_leaf nx.place (cannot class size nx r (bad-same n 0 cause BadLeaf z c))

-- ---- two things don't stand at one place

end-white : (s : List ℕ) → s ≡ [] → begins is_white s ≡ true → ⊥
end-white s e w = not-both (begins is_white s) w (ap (λ t. begins is_white t) e)

end-comment : (p : Context) (s : List ℕ) → s ≡ [] → begins_comment p s ≡ true → ⊥
end-comment p s e c = let f : 0 ≡ 35 = sym (ap (λ t. get_or t 0 0) e) ∙ hash-here p s c in absurd (omega (arith, f))

end-leaf : (p : Context) (s : List ℕ) → s ≡ [] → IsLeafPlace p s → ⊥
end-leaf p s e place = let some = place.some in absurd (let f : length s ≡ 0 = ap length e in omega arith)

hash-white : (b : ℕ) → b ≡ 35 → is_white b ≡ false
hash-white b e = ap is_white e

white-comment : (p : Context) (s : List ℕ) → begins is_white s ≡ true → begins_comment p s ≡ true → ⊥
white-comment p [] w c = end-white [] refl w
white-comment p (b ∷ s) w c = not-both (is_white b) w (hash-white b (hash-here p (b ∷ s) c))

white-leaf : (p : Context) (s : List ℕ) → begins is_white s ≡ true → IsLeafPlace p s → ⊥
white-leaf p s w place = not-both (begins is_white s) w place.not_white

comment-leaf : (p : Context) (s : List ℕ) → begins_comment p s ≡ true → IsLeafPlace p s → ⊥
comment-leaf p s c place = not-both (begins_comment p s) c place.not_comment

-- ---- one step alone

next-size : (p : Context) (os : List Collection) (s : List ℕ) (class n other m : ℕ) → IsNext p os s class n → IsNext p os s other m → n ≡ m
next-size p os s class n other m f g = text-one (form_of p s) p os s n m f.text g.text

next-class : (p : Context) (os : List Collection) (s : List ℕ) (class n other m : ℕ) → IsNext p os s class n → IsNext p os s other m → class ≡ other
next-class p os s class n other m f g = f.class_is ∙ ap (λ k. class_of (form_of p s) p s k) (next-size p os s class n other m f g) ∙ sym g.class_is

leaf-agree : (broken : Bool) (p : Context) (os : List Collection) (s : List ℕ) (st ts : Step) → LeafView broken p os s st → LeafView broken p os s ts → st ≡ ts
leaf-agree broken p os s st ts (stands class n f fine x) (stands other m g too y) =
    x ∙ ap (λ k. next k n) (next-class p os s class n other m f g) ∙ ap (λ k. next other k) (next-size p os s class n other m f g) ∙ sym y
leaf-agree broken p os s st ts (stands class n f fine x) (cannot other m g out y) =
    absurd (not-both (is_refused p class os) (subst (λ k. is_refused p k os ≡ true) (sym (next-class p os s class n other m f g)) out) fine)
leaf-agree broken p os s st ts (stands class n f fine x) (unclosed q b none y) = absurd (none n f.text)
leaf-agree broken p os s st ts (stands class n f fine x) (absent q none y) = absurd (none n f.text)
leaf-agree broken p os s st ts (cannot class n f out x) (stands other m g fine y) =
    absurd (not-both (is_refused p class os) out (subst (λ k. is_refused p k os ≡ false) (sym (next-class p os s class n other m f g)) fine))
leaf-agree broken p os s st ts (cannot class n f out x) (cannot other m g out_too y) = x ∙ sym y
leaf-agree broken p os s st ts (cannot class n f out x) (unclosed q b none y) = absurd (none n f.text)
leaf-agree broken p os s st ts (cannot class n f out x) (absent q none y) = absurd (none n f.text)
leaf-agree broken p os s st ts (unclosed q b none x) (stands other m g fine y) = absurd (none m g.text)
leaf-agree broken p os s st ts (unclosed q b none x) (cannot other m g out y) = absurd (none m g.text)
leaf-agree broken p os s st ts (unclosed q b none x) (unclosed q_too b_too none_too y) = x ∙ sym y
leaf-agree broken p os s st ts (unclosed q b none x) (absent r none_too y) = absurd (not-both broken b (r q))
leaf-agree broken p os s st ts (absent r none x) (stands other m g fine y) = absurd (none m g.text)
leaf-agree broken p os s st ts (absent r none x) (cannot other m g out y) = absurd (none m g.text)
leaf-agree broken p os s st ts (absent r none x) (unclosed q b none_too y) = absurd (not-both broken b (r q))
leaf-agree broken p os s st ts (absent r none x) (absent r_too none_too y) = x ∙ sym y

agree : (broken : Bool) (p : Context) (os : List Collection) (s : List ℕ) (st ts : Step) → View broken p os s st → View broken p os s ts → st ≡ ts
agree broken p os s st ts (at_end e x) (at_end f y) = x ∙ sym y
agree broken p os s st ts (at_end e x) (at_white w y) = absurd (end-white s e w)
agree broken p os s st ts (at_end e x) (at_comment c n run y) = absurd (end-comment p s e c)
agree broken p os s st ts (at_end e x) (at_leaf place l) = absurd (end-leaf p s e place)
agree broken p os s st ts (at_white w x) (at_end e y) = absurd (end-white s e w)
agree broken p os s st ts (at_white w x) (at_white v y) = x ∙ sym y
agree broken p os s st ts (at_white w x) (at_comment c n run y) = absurd (white-comment p s w c)
agree broken p os s st ts (at_white w x) (at_leaf place l) = absurd (white-leaf p s w place)
agree broken p os s st ts (at_comment c n run x) (at_end e y) = absurd (end-comment p s e c)
agree broken p os s st ts (at_comment c n run x) (at_white w y) = absurd (white-comment p s w c)
agree broken p os s st ts (at_comment c n run x) (at_comment d m run_too y) = x ∙ ap pass (run-one in_line s n m run run_too) ∙ sym y
agree broken p os s st ts (at_comment c n run x) (at_leaf place l) = absurd (comment-leaf p s c place)
agree broken p os s st ts (at_leaf place l) (at_end e y) = absurd (end-leaf p s e place)
agree broken p os s st ts (at_leaf place l) (at_white w y) = absurd (white-leaf p s w place)
agree broken p os s st ts (at_leaf place l) (at_comment c n run y) = absurd (comment-leaf p s c place)
agree broken p os s st ts (at_leaf place l) (at_leaf place_too r) = leaf-agree broken p os s st ts l r

pub step-one : (broken : Bool) (p : Context) (os : List Collection) (s : List ℕ) (st ts : Step) → IsStep broken p os s st → IsStep broken p os s ts → st ≡ ts
step-one broken p os s st ts f g = agree broken p os s st ts (view broken p os s st f) (view broken p os s ts g)

-- ---- there is a step

abbrev is_quoted_form : LeafForm → Bool
is_quoted_form form.Document = false
is_quoted_form form.DocumentEnd = false
is_quoted_form form.Colon = false
is_quoted_form form.Dash = false
is_quoted_form form.Sign = false
is_quoted_form form.Name = false
is_quoted_form form.Block = false
is_quoted_form form.Quoted = true
is_quoted_form form.Plain = false

quoted-form : (f : LeafForm) → is_quoted_form f ≡ true → f ≡ form.Quoted
quoted-form form.Quoted e = refl
quoted-form form.Document e = absurd (let g : false ≡ true = e in cc)
quoted-form form.DocumentEnd e = absurd (let g : false ≡ true = e in cc)
quoted-form form.Colon e = absurd (let g : false ≡ true = e in cc)
quoted-form form.Dash e = absurd (let g : false ≡ true = e in cc)
quoted-form form.Sign e = absurd (let g : false ≡ true = e in cc)
quoted-form form.Name e = absurd (let g : false ≡ true = e in cc)
quoted-form form.Block e = absurd (let g : false ≡ true = e in cc)
quoted-form form.Plain e = absurd (let g : false ≡ true = e in cc)

abbrev SomeStep : Bool → Context → List Collection → List ℕ → Type 0
SomeStep broken p os s = (st : Step) × IsStep broken p os s st

end-step : (broken v : Bool) (p : Context) (os : List Collection) → broken ≡ v → SomeStep broken p os []
end-step broken true p os e = (bad 0 NotUtf8, cut_off refl e refl refl)
end-step broken false p os e = (finish, (refl, e))

white-step : (broken : Bool) (p : Context) (os : List Collection) (s : List ℕ) (v : Bool) → is_bad_tab p s ≡ v → begins is_white s ≡ true → SomeStep broken p os s
white-step broken p os s true e w = (bad 0 BadLeaf, tab e refl refl)
white-step broken p os s false e w = (pass 1, white w e refl)

comment-step : (broken : Bool) (p : Context) (os : List Collection) (s : List ℕ) → begins_comment p s ≡ true → SomeStep broken p os s
comment-step broken p os s c = let r = run-of in_line s in (pass r.0, comment c r.1)

next-step : (broken : Bool) (p : Context) (os : List Collection) (s : List ℕ) (class n : ℕ) (v : Bool) → is_refused p class os ≡ v → IsNext p os s class n → SomeStep broken p os s
next-step broken p os s class n true e h = (bad 0 BadLeaf, refused class n h e refl refl)
next-step broken p os s class n false e h = (next class n, (h, e))

none-step : (broken v w : Bool) (p : Context) (os : List Collection) (s : List ℕ) → is_quoted_form (form_of p s) ≡ v → broken ≡ w → IsLeafPlace p s
    → BeginsNone (form_of p s) p os s → SomeStep broken p os s
none-step broken true true p os s e b place none = (bad (length s) NotUtf8, open_quote place (quoted-form (form_of p s) e) b none refl refl)
none-step broken false w p os s e b place none =
    (bad 0 BadLeaf, no_leaf place (λ q. absurd (not-both (is_quoted_form (form_of p s)) (ap is_quoted_form q) e)) none refl refl)
none-step broken true false p os s e b place none = (bad 0 BadLeaf, no_leaf place (λ q. b) none refl refl)

leaf-step : (broken : Bool) (p : Context) (os : List Collection) (s : List ℕ) → IsLeafPlace p s → SomeStep broken p os s
leaf-step broken p os s place = elim (text-of (form_of p s) p os s place.some) [
  | inl w ↦
      let class = class_of (form_of p s) p s w.0 in
      next-step broken p os s class w.0 (is_refused p class os) refl (record { place = place; text = w.1; class_is = refl })
  | inr none ↦ none-step broken (is_quoted_form (form_of p s)) broken p os s refl refl place none
]

other-step : (broken : Bool) (p : Context) (os : List Collection) (s : List ℕ) (v : Bool) → begins_comment p s ≡ v → 0 < length s → begins is_white s ≡ false
    → SomeStep broken p os s
other-step broken p os s true e some w = comment-step broken p os s e
other-step broken p os s false e some w = leaf-step broken p os s (record { some = some; not_white = w; not_comment = e })

some-step : (broken : Bool) (p : Context) (os : List Collection) (s : List ℕ) (v : Bool) → begins is_white s ≡ v → 0 < length s → SomeStep broken p os s
some-step broken p os s true e some = white-step broken p os s (is_bad_tab p s) refl e
some-step broken p os s false e some = other-step broken p os s (begins_comment p s) refl some e

pub step-of : (broken : Bool) (p : Context) (os : List Collection) (s : List ℕ) → (st : Step) × IsStep broken p os s st
step-of broken p os [] = end-step broken broken p os refl
step-of broken p os (b ∷ s) = some-step broken p os (b ∷ s) (begins is_white (b ∷ s)) refl (omega arith)

-- ---- how far a step goes

white-inside : (s : List ℕ) (n : ℕ) → begins is_white s ≡ true → n ≡ 1 → (0 < n) × (n ≤ length s)
white-inside [] n w one = absurd (end-white [] refl w)
white-inside (b ∷ s) n w one = (omega (arith, one), omega (arith, one))

pub passed-inside : (p : Context) (s : List ℕ) (n : ℕ) → IsPassed p s n → (0 < n) × (n ≤ length s)
passed-inside p s n (white w calm one) = white-inside s n w one
passed-inside p s n (comment c run) = (run-some in_line s n run (comment-begins s (hash-here p s c)), run.inside)

same-inside : (n k : ℕ) → n ≡ k → n ≤ k
same-inside n k e = omega arith

zero-inside : (n k : ℕ) → n ≡ 0 → n ≤ k
zero-inside n k e = omega arith

pub bad-inside : (broken : Bool) (p : Context) (os : List Collection) (s : List ℕ) (n : ℕ) (cause : Cause) → IsBad broken p os s n cause → n ≤ length s
bad-inside broken p os s n cause (cut_off e b z c) = zero-inside n (length s) z
bad-inside broken p os s n cause (tab t z c) = zero-inside n (length s) z
bad-inside broken p os s n cause (open_quote place q b none l c) = same-inside n (length s) l
bad-inside broken p os s n cause (no_leaf place q none z c) = zero-inside n (length s) z
bad-inside broken p os s n cause (refused class size nx r z c) = zero-inside n (length s) z
