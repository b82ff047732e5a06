-- A spelled text is one leaf that says the text.
use Rattle.std.proofs.Common.{◌≡◌, ℕ, Bool, true, false, cond, List, [], ◌∷◌, ◌++◌, length, drop}
use Rattle.std.proofs.Common.{inl, inr, refl, sym, ◌∙◌, ap, subst, arith}
use Rattle.std.specs.Prelude.{Option, Some, None, not, ◌==◌, ◌&&◌, ◌||◌}
use Rattle.std.proofs.lemmas.Bool.{cases_Bool, cases_eq, ne_eqb, or_parts, or_from, and_parts, and_left, and_right, not-true}
use Rattle.std.proofs.lemmas.List.{drop_at}
use Rattle.std.proofs.lemmas.Option.{same_Some}
use Rattle.yaml_lex.specs.declared.class.TheConstants.{KEY, SCALAR, FSCALAR, BLOCK}
use Rattle.yaml_lex.specs.declared.context.Context.{Context}
use Rattle.yaml_lex.specs.declared.context.Previous.TheVariants as previous
use Rattle.yaml_lex.specs.declared.collections.Collection.{Collection}
use Rattle.yaml_lex.specs.declared.form.LeafForm.{LeafForm}
use Rattle.yaml_lex.specs.declared.form.LeafForm.TheVariants as form
use Rattle.yaml_lex.specs.Characters.{is_line_end, is_blank, is_white, is_flow_sign, is_indicator, needs_more, is_name_mark, is_block_mark, is_quote, begins, is_gap, is_colon_gap}
use Rattle.yaml_lex.specs.Contexts.{in_flow}
use Rattle.yaml_lex.specs.Scalars.{begins_plain, ends_plain}
use Rattle.yaml_lex.specs.BlockScalars.{is_three, is_document_line}
use Rattle.yaml_lex.specs.Leaves.{is_key, is_quoted, is_flow_colon, is_colon, is_dash, form_of, IsText, scalar_class, class_of, IsLeafPlace, IsNext}
use Rattle.yaml_texts.specs.Quoted.{quoted_text}
use Rattle.yaml_texts.specs.Texts.{scalar_text}
use Rattle.yaml_texts.specs.Spelled.{has_control, goes_on, is_plain, in_quotes, written, spelled}
use Rattle.yaml_texts.specs.Laws.{is_over, CanStand, ReadsBack, KeysReadBack, ValuesReadBack, FlowScalarsReadBack}
use Rattle.yaml_texts.proofs.PlainTexts.{IsWhole, whole_of, gap_of, plain_before, key_over}
use Rattle.yaml_texts.proofs.QuotedTexts.{quoted_before, quoted_says}

-- ---- which form

skipped : {A : Type 0} (b : Bool) (x y : A) → b ≡ false → cond b x y ≡ y
skipped true x y e = absurd (let f : true ≡ false = e in cc)
skipped false x y e = refl

-- none of the forms before the quoted ones begins here
pub record IsScalarPlace (p : Context) (s : List ℕ) : Type 0 where
  pub document : ((p.column == 0) && is_three 45 s) ≡ false
  pub ending : ((p.column == 0) && is_three 46 s) ≡ false
  pub colon : is_colon p s ≡ false
  pub dash : is_dash p s ≡ false
  pub sign : begins is_flow_sign s ≡ false
  pub name : begins is_name_mark s ≡ false
  pub block : begins is_block_mark s ≡ false

form_here : (p : Context) (s : List ℕ) → IsScalarPlace p s → form_of p s ≡ cond (begins is_quote s) form.Quoted form.Plain
unfolding form_of
form_here p s h =
    skipped ((p.column == 0) && is_three 45 s) form.Document _ h.document
    ∙ (skipped ((p.column == 0) && is_three 46 s) form.DocumentEnd _ h.ending
    ∙ (skipped (is_colon p s) form.Colon _ h.colon
    ∙ (skipped (is_dash p s) form.Dash _ h.dash
    ∙ (skipped (begins is_flow_sign s) form.Sign _ h.sign
    ∙ (skipped (begins is_name_mark s) form.Name _ h.name
    ∙ skipped (begins is_block_mark s) form.Block _ h.block)))))

-- no mark of a document
module _ (p : Context) (s : List ℕ) (stands : CanStand p s) where
  no_marks : ((p.column == 0) && is_three 45 s ≡ false) × ((p.column == 0) && is_three 46 s ≡ false)
  unfolding is_document_line
  no_marks = elim (cases_eq p.column 0) [
    | inl start ↦
        let parts = or_parts (is_three 45 s) (is_three 46 s) (stands.no_mark start) in
        (and_right (p.column == 0) (is_three 45 s) parts.0, and_right (p.column == 0) (is_three 46 s) parts.1)
    | inr behind ↦
        let e = ne_eqb p.column 0 behind in
        (and_left (p.column == 0) (is_three 45 s) e, and_left (p.column == 0) (is_three 46 s) e)
  ]

-- ---- plain

-- the first byte of a plain scalar
record IsFirst (b : ℕ) : Type 0 where
  white : is_white b ≡ false
  flow : is_flow_sign b ≡ false
  hash : (b == 35) ≡ false
  name : is_name_mark b ≡ false
  block : is_block_mark b ≡ false
  quote : is_quote b ≡ false

marks : (f h a s g r d i q c t v : Bool) → (f || h || a || s || g || r || d || i || q || c || t || v) ≡ false
    → (f ≡ false) × (h ≡ false) × ((a || s) ≡ false) × ((r || d) ≡ false) × ((i || q) ≡ false)
marks f h a s g r d i q c t v e =
    let grave = or_parts (f || h || a || s || g || r || d || i || q || c || t) v e in
    let sign = or_parts (f || h || a || s || g || r || d || i || q || c) t grave.0 in
    let percent = or_parts (f || h || a || s || g || r || d || i || q) c sign.0 in
    let double = or_parts (f || h || a || s || g || r || d || i) q percent.0 in
    let single = or_parts (f || h || a || s || g || r || d) i double.0 in
    let fold = or_parts (f || h || a || s || g || r) d single.0 in
    let bar = or_parts (f || h || a || s || g) r fold.0 in
    let bang = or_parts (f || h || a || s) g bar.0 in
    let star = or_parts (f || h || a) s bang.0 in
    let anchor = or_parts (f || h) a star.0 in
    let hash = or_parts f h anchor.0 in
    (hash.0, hash.1, or_from a s anchor.1 star.1, or_from r d bar.1 fold.1, or_from i q single.1 double.1)

begin_parts : (b : ℕ) (u : List ℕ) → begins_plain (b ∷ u) ≡ true → (is_white b ≡ false) × (is_indicator b ≡ false) × ((needs_more b && is_gap u) ≡ false)
unfolding begins_plain
begin_parts b u e =
    let parts = and_parts (not (is_white b) && not (is_indicator b)) (not (needs_more b && is_gap u)) e in
    let two = and_parts (not (is_white b)) (not (is_indicator b)) parts.0 in
    (not-true (is_white b) two.0, not-true (is_indicator b) two.1, not-true (needs_more b && is_gap u) parts.1)

first_byte : (b : ℕ) → is_white b ≡ false → is_indicator b ≡ false → IsFirst b
unfolding is_indicator
first_byte b white e =
    let m = marks (is_flow_sign b) (b == 35) (b == 38) (b == 42) (b == 33) (b == 124) (b == 62) (b == 39) (b == 34) (b == 37) (b == 64) (b == 96) e in
    record { white = white; flow = m.0; hash = m.1; name = m.2; block = m.3; quote = m.4 }

and_rest : (x y : Bool) → x ≡ true → (x && y) ≡ false → y ≡ false
and_rest true y e h = h
and_rest false y e h = absurd (let f : false ≡ true = e in cc)

last_true : (x y : Bool) → y ≡ true → (x || y) ≡ true
last_true true y e = refl
last_true false y e = e

first_true : (x y : Bool) → x ≡ true → (x || y) ≡ true
first_true true y e = refl
first_true false y e = absurd (let f : false ≡ true = e in cc)

-- behind a sign that needs more there is more
more_still : (b : ℕ) (u rest : List ℕ) → needs_more b ≡ true → (needs_more b && is_gap u) ≡ false
    → (is_gap (u ++ rest) ≡ false) × (begins is_white (u ++ rest) ≡ false)
more_still b [] rest e h = absurd (let f : true ≡ false = and_rest (needs_more b) true e h in cc)
more_still b (c ∷ u) rest e h = let f = and_rest (needs_more b) (is_white c) e h in (f, f)

flow_still : (b : ℕ) (u rest : List ℕ) → (b == 58) ≡ true → needs_more b ≡ true → (needs_more b && is_gap u) ≡ false → ends_plain true (b ∷ u) ≡ false
    → begins is_flow_sign (u ++ rest) ≡ false
unfolding ends_plain
flow_still b [] rest colon e h goes = absurd (let f : true ≡ false = and_rest (needs_more b) true e h in cc)
flow_still b (c ∷ u) rest colon e h goes =
    let parts = or_parts (is_line_end b || (is_blank b && begins (λ c. c == 35) (c ∷ u)) || is_colon_gap (b ∷ c ∷ u)) (is_flow_sign b || ((b == 58) && is_flow_sign c)) goes in
    let two = or_parts (is_flow_sign b) ((b == 58) && is_flow_sign c) parts.1 in
    and_rest (b == 58) (is_flow_sign c) colon two.1

no_colon : (p : Context) (b : ℕ) (u rest : List ℕ) → p.previous ≡ previous.Other → (needs_more b && is_gap u) ≡ false → ends_plain true (b ∷ u) ≡ false
    → is_colon p (b ∷ (u ++ rest)) ≡ false
no_colon p b u rest other h goes = elim (cases_Bool (b == 58)) [
  | inl colon ↦
      let more : needs_more b ≡ true = last_true ((b == 45) || (b == 63)) (b == 58) colon in
      let white = (more_still b u rest more h).1 in
      let flow = flow_still b u rest colon more h goes in
      and_right (b == 58) (is_key p.previous || is_flow_colon p (u ++ rest))
      (or_from (is_key p.previous) (is_flow_colon p (u ++ rest)) (ap is_key other)
      (and_right (in_flow p) (is_quoted p.previous || begins is_white (u ++ rest) || begins is_flow_sign (u ++ rest))
      (or_from (is_quoted p.previous || begins is_white (u ++ rest)) (begins is_flow_sign (u ++ rest)) (or_from (is_quoted p.previous) (begins is_white (u ++ rest)) (ap is_quoted other) white) flow)))
  | inr none ↦ and_left (b == 58) (is_key p.previous || is_flow_colon p (u ++ rest)) none
]

no_dash : (p : Context) (b : ℕ) (u rest : List ℕ) → (needs_more b && is_gap u) ≡ false → is_dash p (b ∷ (u ++ rest)) ≡ false
no_dash p b u rest h = elim (cases_Bool (b == 45)) [
  | inl dash ↦
      let more : needs_more b ≡ true = first_true ((b == 45) || (b == 63)) (b == 58) (first_true (b == 45) (b == 63) dash) in
      and_right ((b == 45) && not (in_flow p)) (is_gap (u ++ rest)) (more_still b u rest more h).0
  | inr none ↦ and_left ((b == 45) && not (in_flow p)) (is_gap (u ++ rest)) (and_left (b == 45) (not (in_flow p)) none)
]

first_goes : (flow : Bool) (b : ℕ) (u : List ℕ) → goes_on flow (b ∷ u) ≡ true → ends_plain flow (b ∷ u) ≡ false
unfolding goes_on
first_goes flow b u e = not-true (ends_plain flow (b ∷ u)) (and_parts (not (ends_plain flow (b ∷ u))) (goes_on flow u) e).0

-- a leaf of a form, at a place that has no other
leaf_here : (p : Context) (os : List Collection) (u rest : List ℕ) (f : LeafForm) → IsLeafPlace p (u ++ rest) → form_of p (u ++ rest) ≡ f → IsText f p os (u ++ rest) (length u)
    → class_of f p (u ++ rest) (length u) ≡ scalar_class p (drop (length u) (u ++ rest)) → IsNext p os (u ++ rest) (scalar_class p rest) (length u)
leaf_here p os u rest f place is text class = record {
  place = place;
  text = subst (λ (g : LeafForm). IsText g p os (u ++ rest) (length u)) (sym is) text;
  class_is = subst (λ (g : LeafForm). scalar_class p rest ≡ class_of g p (u ++ rest) (length u)) (sym is)
      (sym (class ∙ ap (scalar_class p) (drop_at u rest (length u) refl)));
}

none_begins : begins_plain [] ≡ true → ⊥
unfolding begins_plain
none_begins e = absurd (let f : false ≡ true = e in cc)

plain_leaf : (p : Context) (os : List Collection) (u rest : List ℕ) → CanStand p (u ++ rest) → IsWhole true u → IsWhole (in_flow p) u → is_over (in_flow p) rest ≡ true
    → IsNext p os (u ++ rest) (scalar_class p rest) (length u)
plain_leaf p os [] rest stands in_brackets whole over = absurd (none_begins whole.begins)
plain_leaf p os (b ∷ u) rest stands in_brackets whole over =
    let parts = begin_parts b u whole.begins in
    let first = first_byte b parts.0 parts.1 in
    let marks = no_marks p (b ∷ (u ++ rest)) stands in
    let place : IsScalarPlace p (b ∷ (u ++ rest)) = record {
      document = marks.0;
      ending = marks.1;
      colon = no_colon p b u rest stands.previous parts.2 (first_goes true b u in_brackets.goes);
      dash = no_dash p b u rest parts.2;
      sign = first.flow;
      name = first.name;
      block = first.block;
    } in
    leaf_here p os (b ∷ u) rest form.Plain
    (record { some = omega arith; not_white = first.white; not_comment = and_right p.spaced (b == 35) first.hash })
    (form_here p (b ∷ (u ++ rest)) place ∙ ap (λ q. cond q form.Quoted form.Plain) first.quote)
    (plain_before (in_flow p) (b ∷ u) rest whole (gap_of (in_flow p) rest over))
    refl

plain_first : (u : List ℕ) → begins_plain u ≡ true → begins is_quote u ≡ false
plain_first [] e = absurd (none_begins e)
plain_first (b ∷ u) e = let parts = begin_parts b u e in (first_byte b parts.0 parts.1).quote

-- ---- quoted

quote_over : (flow : Bool) (rest : List ℕ) → is_over flow (39 ∷ rest) ≡ true → ⊥
unfolding is_over ends_plain is_flow_sign
quote_over true rest e = absurd (let f : false ≡ true = e in cc)
quote_over false rest e = absurd (let f : false ≡ true = e in cc)

no_quote : (flow : Bool) (rest : List ℕ) → is_over flow rest ≡ true → begins (λ c. c == 39) rest ≡ false
no_quote flow [] e = refl
no_quote flow (c ∷ rest) e = elim (cases_eq c 39) [
  | inl same ↦ absurd (quote_over flow rest (subst (λ n. is_over flow (n ∷ rest) ≡ true) same e))
  | inr other ↦ ne_eqb c 39 other
]

no_sign : (rest : List ℕ) → begins is_flow_sign (39 ∷ rest) ≡ false
unfolding is_flow_sign
no_sign rest = refl

quoted_leaf : (p : Context) (os : List Collection) (text rest : List ℕ) → is_over (in_flow p) rest ≡ true
    → IsNext p os (in_quotes text ++ rest) (scalar_class p rest) (length (in_quotes text))
quoted_leaf p os text rest over =
    let s = in_quotes text ++ rest in
    let place : IsScalarPlace p s = record {
      document = and_right (p.column == 0) (is_three 45 s) refl;
      ending = and_right (p.column == 0) (is_three 46 s) refl;
      colon = refl;
      dash = refl;
      sign = no_sign (drop 1 s);
      name = refl;
      block = refl;
    } in
    leaf_here p os (in_quotes text) rest form.Quoted
    (record { some = omega arith; not_white = refl; not_comment = and_right p.spaced false refl })
    (form_here p s place)
    (quoted_before text rest (no_quote (in_flow p) rest over))
    refl

-- ---- how a text is spelled

data IsWritten (text : List ℕ) : List ℕ → Type 0 where
  as_is : is_plain false text ≡ true → is_plain true text ≡ true → IsWritten text text
  quoted : IsWritten text (in_quotes text)

written_way : (text : List ℕ) → IsWritten text (written text)
written_way text = elim (cases_Bool (is_plain false text && is_plain true text)) [
  | inl plain ↦
      let parts = and_parts (is_plain false text) (is_plain true text) plain in
      subst (λ (w : List ℕ). IsWritten text w) (ap (λ b. cond b text (in_quotes text)) (sym plain)) (as_is parts.0 parts.1)
  | inr other ↦ subst (λ (w : List ℕ). IsWritten text w) (ap (λ b. cond b text (in_quotes text)) (sym other)) quoted
]

spelled_way : (text word : List ℕ) → spelled text ≡ Some word → (has_control text ≡ false) × IsWritten text word
spelled_way text word e = elim (cases_Bool (has_control text)) [
  | inl control ↦ absurd (let f : None ≡ Some word = ap (λ b. cond b None (Some (written text))) (sym control) ∙ e in cc)
  | inr none ↦
      let f : Some (written text) ≡ Some word = ap (λ b. cond b None (Some (written text))) (sym none) ∙ e in
      (none, subst (λ (w : List ℕ). IsWritten text w) (same_Some (written text) word f) (written_way text))
]

says_itself : (class : ℕ) (column : Option ℕ) (text rest : List ℕ) → (class == BLOCK) ≡ false → begins is_quote text ≡ false → scalar_text class column text rest ≡ Some text
says_itself class column text rest other plain = rw (other, plain) refl

says_quoted : (class : ℕ) (column : Option ℕ) (text rest : List ℕ) → (class == BLOCK) ≡ false → scalar_text class column (in_quotes text) rest ≡ quoted_text (in_quotes text)
says_quoted class column text rest other = rw other refl

in_both : (flow : Bool) (text : List ℕ) → is_plain false text ≡ true → is_plain true text ≡ true → is_plain flow text ≡ true
in_both true text block flow = flow
in_both false text block flow = block

reads_way : (p : Context) (os : List Collection) (rest text word : List ℕ) → has_control text ≡ false → IsWritten text word → CanStand p (word ++ rest) → is_over (in_flow p) rest ≡ true
    → (class : ℕ) → (class == BLOCK) ≡ false → IsNext p os (word ++ rest) (scalar_class p rest) (length word) × ((column : Option ℕ) → scalar_text class column word rest ≡ Some text)
reads_way p os rest text _ none (as_is block flow) stands over class other =
    let whole = whole_of true text flow in (
      plain_leaf p os text rest stands whole (whole_of (in_flow p) text (in_both (in_flow p) text block flow)) over,
      λ column. says_itself class column text rest other (plain_first text whole.begins),
    )
reads_way p os rest text _ none quoted stands over class other =
    (quoted_leaf p os text rest over, λ column. says_quoted class column text rest other ∙ quoted_says text none)

reads : (p : Context) (os : List Collection) (rest : List ℕ) (class : ℕ) → is_over (in_flow p) rest ≡ true → class ≡ scalar_class p rest → (class == BLOCK) ≡ false → ReadsBack p os rest class
reads p os rest class over is other text word e stands =
    let way = spelled_way text word e in
    let h = reads_way p os rest text word way.0 way.1 stands over class other in
    (subst (λ c. IsNext p os (word ++ rest) c (length word)) (sym is) h.0, h.1)

-- ---- the laws

pub keys_read_back : KeysReadBack
unfolding scalar_class
keys_read_back p os rest block key = reads p os rest KEY (ap (λ f. is_over f rest) block ∙ key_over rest key) (sym (rw (block, key) refl)) refl

pub values_read_back : ValuesReadBack
unfolding scalar_class
values_read_back p os rest block other over = reads p os rest SCALAR (ap (λ f. is_over f rest) block ∙ over) (sym (rw (block, other) refl)) refl

pub flow_scalars_read_back : FlowScalarsReadBack
unfolding scalar_class
flow_scalars_read_back p os rest flow over = reads p os rest FSCALAR (ap (λ f. is_over f rest) flow ∙ over) (sym (rw flow refl)) refl
