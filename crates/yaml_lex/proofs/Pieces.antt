-- What stands next in a text.
use Rattle.std.proofs.Common.{◌≡◌, ℕ, ◌<◌, ◌≤◌, Bool, true, false, List, length, refl, sym, ◌∙◌, subst, arith}
use Rattle.rw_base.specs.declared.place.Cause.TheVariants.{NotUtf8, BadLeaf}
use Rattle.yaml_lex.specs.declared.context.Context.{Context}
use Rattle.yaml_lex.specs.declared.collections.Collection.{Collection}
use Rattle.yaml_lex.specs.declared.form.LeafForm.{LeafForm}
use Rattle.yaml_lex.specs.declared.form.LeafForm.TheVariants as form
use Rattle.yaml_lex.specs.Collections.{is_refused}
use Rattle.yaml_lex.specs.Leaves.{IsText, BeginsNone, IsLeafPlace, IsNext, IsBad, tab, open_quote, no_leaf, refused, form_of, class_of, is_bad_tab}
use Rattle.yaml_lex.specs.Scanning.{IsPiece, bad_place}
use Rattle.yaml_lex.proofs.TextLaws.{text-inside}

-- ---- no leaf

plain-bad : (broken : Bool) (p : Context) (os : List Collection) (s : List ℕ) (f : LeafForm) → f ≡ form_of p s → IsLeafPlace p s → BeginsNone f p os s
    → (form_of p s ≡ form.Quoted → broken ≡ false) → IsBad broken p os s 0 BadLeaf × (0 ≤ length s)
plain-bad broken p os s f is place none fine =
    (no_leaf place fine (subst (λ g. BeginsNone g p os s) is none) refl refl, omega arith)

quoted-bad : (broken : Bool) (p : Context) (os : List Collection) (s : List ℕ) → form.Quoted ≡ form_of p s → IsLeafPlace p s → BeginsNone form.Quoted p os s
    → broken ≡ true → IsBad broken p os s (length s) NotUtf8 × (length s ≤ length s)
quoted-bad broken p os s is place none yes_broken =
    (open_quote place (sym is) yes_broken (subst (λ g. BeginsNone g p os s) is none) refl refl, omega arith)

pub bad-none : (broken : Bool) (p : Context) (os : List Collection) (s : List ℕ) (f : LeafForm) → f ≡ form_of p s → IsLeafPlace p s → BeginsNone f p os s
    → IsPiece broken p os s (bad_place f s broken)
bad-none broken p os s form.Document is place none = plain-bad broken p os s form.Document is place none (λ e. absurd (let f : form.Document ≡ form.Quoted = is ∙ e in cc))
bad-none broken p os s form.DocumentEnd is place none = plain-bad broken p os s form.DocumentEnd is place none (λ e. absurd (let f : form.DocumentEnd ≡ form.Quoted = is ∙ e in cc))
bad-none broken p os s form.Colon is place none = plain-bad broken p os s form.Colon is place none (λ e. absurd (let f : form.Colon ≡ form.Quoted = is ∙ e in cc))
bad-none broken p os s form.Dash is place none = plain-bad broken p os s form.Dash is place none (λ e. absurd (let f : form.Dash ≡ form.Quoted = is ∙ e in cc))
bad-none broken p os s form.Sign is place none = plain-bad broken p os s form.Sign is place none (λ e. absurd (let f : form.Sign ≡ form.Quoted = is ∙ e in cc))
bad-none broken p os s form.Name is place none = plain-bad broken p os s form.Name is place none (λ e. absurd (let f : form.Name ≡ form.Quoted = is ∙ e in cc))
bad-none broken p os s form.Block is place none = plain-bad broken p os s form.Block is place none (λ e. absurd (let f : form.Block ≡ form.Quoted = is ∙ e in cc))
bad-none broken p os s form.Plain is place none = plain-bad broken p os s form.Plain is place none (λ e. absurd (let f : form.Plain ≡ form.Quoted = is ∙ e in cc))
bad-none true p os s form.Quoted is place none = quoted-bad true p os s is place none refl
bad-none false p os s form.Quoted is place none = plain-bad false p os s form.Quoted is place none (λ e. refl)

-- a tab is bad
pub bad-tab : (broken : Bool) (p : Context) (os : List Collection) (s : List ℕ) → is_bad_tab p s ≡ true → IsBad broken p os s 0 BadLeaf × (0 ≤ length s)
bad-tab broken p os s e = (tab e refl refl, omega arith)

-- ---- a leaf

pub is-next : (p : Context) (os : List Collection) (s : List ℕ) (f : LeafForm) (class n : ℕ) → f ≡ form_of p s → IsLeafPlace p s → IsText f p os s n
    → class ≡ class_of f p s n → IsNext p os s class n
is-next p os s f class n is place text class_is = record {
  place = place;
  text = subst (λ g. IsText g p os s n) is text;
  class_is = subst (λ g. class ≡ class_of g p s n) is class_is;
}

pub is-leaf : (broken : Bool) (p : Context) (os : List Collection) (s : List ℕ) (f : LeafForm) (class n : ℕ) → f ≡ form_of p s → IsLeafPlace p s → IsText f p os s n
    → class ≡ class_of f p s n → is_refused p class os ≡ false → IsNext p os s class n × (is_refused p class os ≡ false) × (0 < n) × (n ≤ length s)
is-leaf broken p os s f class n is place text class_is fine =
    let fits = text-inside f p os s n is place.some text in
    (is-next p os s f class n is place text class_is, fine, fits.0, fits.1)

pub bad-refused : (broken : Bool) (p : Context) (os : List Collection) (s : List ℕ) (f : LeafForm) (class n : ℕ) → f ≡ form_of p s → IsLeafPlace p s → IsText f p os s n
    → class ≡ class_of f p s n → is_refused p class os ≡ true → IsBad broken p os s 0 BadLeaf × (0 ≤ length s)
bad-refused broken p os s f class n is place text class_is out =
    (refused class n (is-next p os s f class n is place text class_is) out refl refl, omega arith)
