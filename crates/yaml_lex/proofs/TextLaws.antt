-- The texts of leaves: whether a leaf begins at a place is settled, its text is one, and it ends in the text.
use Rattle.std.proofs.Common.{◌≡◌, ℕ, suc, ◌<◌, ◌≤◌, ◌⊎◌, inl, inr, Bool, true, false, cond, ◌&&◌, eqb, List, length, drop, get_or, refl, sym, ◌∙◌, ap, arith}
use Rattle.std.proofs.lemmas.Bool.{cases_lt}
use Rattle.std.proofs.lemmas.Bool.Decides.{nat_tests}
use Rattle.std.proofs.lemmas.List.{get_or_past}
use Rattle.yaml_lex.specs.declared.class.TheConstants.{BLOCK}
use Rattle.yaml_lex.specs.declared.context.Context.{Context}
use Rattle.yaml_lex.specs.declared.collections.Collection.{Collection}
use Rattle.yaml_lex.specs.declared.form.LeafForm.{LeafForm}
use Rattle.yaml_lex.specs.declared.form.LeafForm.TheVariants as form
use Rattle.yaml_lex.specs.Characters.{begins, is_flow_sign, is_name_mark, is_block_mark, is_quote, is_gap}
use Rattle.yaml_lex.specs.Contexts.{in_flow}
use Rattle.yaml_lex.specs.Collections.{left_open, innermost}
use Rattle.yaml_lex.specs.BlockScalars.{is_three}
use Rattle.yaml_lex.specs.Leaves.{IsText, BeginsNone, form_of, is_colon, is_dash}
use Rattle.yaml_lex.proofs.RunLemmas.{not-both}
use Rattle.yaml_lex.proofs.ScalarLaws.{plain-of, plain-one, plain-inside, quoted-of, quoted-one, quoted-inside, name-of, name-one, name-inside}
use Rattle.yaml_lex.proofs.BlockLaws.{block-of, block-one, block-inside}

-- ---- `---` and `...`

pub either-true : (x y : Bool) → (x && y) ≡ true → (x ≡ true) × (y ≡ true)
either-true true true e = (refl, refl)
either-true true false e = absurd (cc)
either-true false y e = absurd (cc)

middle-true : (x y z w : Bool) → (x && y && z && w) ≡ true → z ≡ true
middle-true true true true w e = refl
middle-true true true false w e = absurd (let f : false ≡ true = e in cc)
middle-true true false z w e = absurd (let f : false ≡ true = e in cc)
middle-true false y z w e = absurd (let f : false ≡ true = e in cc)

pub eqb-is : (m n : ℕ) → eqb m n ≡ true → m ≡ n
eqb-is m n e = grind (arith, nat_tests)

third-inside : (s : List ℕ) (b : ℕ) → get_or s 2 0 ≡ suc b → 3 ≤ length s
third-inside s b e = elim (cases_lt 2 (length s)) [
  | inl inside ↦ omega arith
  | inr beyond ↦ absurd (let f : 0 ≡ suc b = sym (get_or_past s 2 0 beyond) ∙ e in cc)
]

three-inside : (b : ℕ) (s : List ℕ) → is_three (suc b) s ≡ true → 3 ≤ length s
three-inside b s e =
    third-inside s b
    (eqb-is (get_or s 2 0) (suc b) (middle-true (eqb (get_or s 0 0) (suc b)) (eqb (get_or s 1 0) (suc b)) (eqb (get_or s 2 0) (suc b)) (is_gap (drop 3 s)) e))

abbrev is_document : LeafForm → Bool
is_document form.Document = true
is_document form.DocumentEnd = false
is_document form.Colon = false
is_document form.Dash = false
is_document form.Sign = false
is_document form.Name = false
is_document form.Block = false
is_document form.Quoted = false
is_document form.Plain = false

abbrev is_end : LeafForm → Bool
is_end form.Document = false
is_end form.DocumentEnd = true
is_end form.Colon = false
is_end form.Dash = false
is_end form.Sign = false
is_end form.Name = false
is_end form.Block = false
is_end form.Quoted = false
is_end form.Plain = false

-- the test that decided
decided : (t : LeafForm → Bool) (v : Bool) (x y : LeafForm) → t y ≡ false → t (cond v x y) ≡ true → v ≡ true
decided t true x y e h = refl
decided t false x y e h = absurd (not-both (t y) h e)

passed-over : (t : LeafForm → Bool) (v : Bool) (x y : LeafForm) → t x ≡ false → t (cond v x y) ≡ true → t y ≡ true
passed-over t true x y e h = absurd (not-both (t x) h e)
passed-over t false x y e h = h

neither : (t : LeafForm → Bool) (v : Bool) (x y : LeafForm) → t x ≡ false → t y ≡ false → t (cond v x y) ≡ false
neither t true x y e f = e
neither t false x y e f = f

-- what form_of gives behind its first two tests
abbrev others : Context → List ℕ → LeafForm
others p s =
    cond (is_colon p s) form.Colon (cond (is_dash p s) form.Dash (cond (begins is_flow_sign s) form.Sign (cond (begins is_name_mark s) form.Name
    (cond (begins is_block_mark s) form.Block (cond (begins is_quote s) form.Quoted form.Plain)))))

others-none : (t : LeafForm → Bool) (p : Context) (s : List ℕ) → t form.Colon ≡ false → t form.Dash ≡ false → t form.Sign ≡ false → t form.Name ≡ false
    → t form.Block ≡ false → t form.Quoted ≡ false → t form.Plain ≡ false → t (others p s) ≡ false
others-none t p s a b c d e f g =
    neither t (is_colon p s) _ _ a (neither t (is_dash p s) _ _ b (neither t (begins is_flow_sign s) _ _ c (neither t (begins is_name_mark s) _ _ d
    (neither t (begins is_block_mark s) _ _ e (neither t (begins is_quote s) _ _ f g)))))

document-test : (p : Context) (s : List ℕ) → form_of p s ≡ form.Document → is_three 45 s ≡ true
unfolding form_of
document-test p s e =
    let rest : is_document (cond (eqb p.column 0 && is_three 46 s) form.DocumentEnd (others p s)) ≡ false =
    neither is_document _ form.DocumentEnd (others p s) refl (others-none is_document p s refl refl refl refl refl refl refl) in
    (either-true (eqb p.column 0) (is_three 45 s) (decided is_document (eqb p.column 0 && is_three 45 s) form.Document _ rest (ap is_document e))).1

end-test : (p : Context) (s : List ℕ) → form_of p s ≡ form.DocumentEnd → is_three 46 s ≡ true
unfolding form_of
end-test p s e =
    (either-true (eqb p.column 0) (is_three 46 s)
    (decided is_end (eqb p.column 0 && is_three 46 s) form.DocumentEnd (others p s) (others-none is_end p s refl refl refl refl refl refl refl)
    (passed-over is_end (eqb p.column 0 && is_three 45 s) form.Document _ refl (ap is_end e)))).1

-- ---- the laws

three-fits : (n : ℕ) (s : List ℕ) → n ≡ 3 → 3 ≤ length s → (0 < n) × (n ≤ length s)
three-fits n s e h = (omega (arith, e), omega (arith, e))

one-fits : (n : ℕ) (s : List ℕ) → n ≡ 1 → 0 < length s → (0 < n) × (n ≤ length s)
one-fits n s e h = (omega (arith, e), omega (arith, e))

pub text-inside : (f : LeafForm) (p : Context) (os : List Collection) (s : List ℕ) (n : ℕ) → f ≡ form_of p s → 0 < length s → IsText f p os s n → (0 < n) × (n ≤ length s)
text-inside form.Document p os s n is some h = three-fits n s h (three-inside 44 s (document-test p s (sym is)))
text-inside form.DocumentEnd p os s n is some h = three-fits n s h (three-inside 45 s (end-test p s (sym is)))
text-inside form.Colon p os s n is some h = one-fits n s h some
text-inside form.Dash p os s n is some h = one-fits n s h some
text-inside form.Sign p os s n is some h = one-fits n s h some
text-inside form.Name p os s n is some h = name-inside s n h
text-inside form.Block p os s n is some h = block-inside (innermost (left_open p BLOCK os)) s n some h
text-inside form.Quoted p os s n is some h = quoted-inside s n some h
text-inside form.Plain p os s n is some h = plain-inside (in_flow p) s n h

pub text-one : (f : LeafForm) (p : Context) (os : List Collection) (s : List ℕ) (m n : ℕ) → IsText f p os s m → IsText f p os s n → m ≡ n
text-one form.Document p os s m n g h = g ∙ sym h
text-one form.DocumentEnd p os s m n g h = g ∙ sym h
text-one form.Colon p os s m n g h = g ∙ sym h
text-one form.Dash p os s m n g h = g ∙ sym h
text-one form.Sign p os s m n g h = g ∙ sym h
text-one form.Name p os s m n g h = name-one s m n g h
text-one form.Block p os s m n g h = block-one (innermost (left_open p BLOCK os)) s m n g h
text-one form.Quoted p os s m n g h = quoted-one s m n g h
text-one form.Plain p os s m n g h = plain-one (in_flow p) s m n g h

pub text-of : (f : LeafForm) (p : Context) (os : List Collection) (s : List ℕ) → 0 < length s → ((n : ℕ) × IsText f p os s n) ⊎ BeginsNone f p os s
text-of form.Document p os s some = inl (3, refl)
text-of form.DocumentEnd p os s some = inl (3, refl)
text-of form.Colon p os s some = inl (1, refl)
text-of form.Dash p os s some = inl (1, refl)
text-of form.Sign p os s some = inl (1, refl)
text-of form.Name p os s some = name-of s
text-of form.Block p os s some = block-of (innermost (left_open p BLOCK os)) s some
text-of form.Quoted p os s some = quoted-of s
text-of form.Plain p os s some = plain-of (in_flow p) s
