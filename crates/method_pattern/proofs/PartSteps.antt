-- Parts and names are stars and letters.
use Rattle.std.proofs.Common.{◌≡◌, ℕ, ◌+◌, ◌<◌, ◌≤◌, inl, inr, Bool, true, false, not, ◌||◌, eqb, cond, List, [], ◌∷◌, ◌++◌}
use Rattle.std.proofs.Common.{length, Some, None, take, refl, sym, ap, subst, ◌∙◌, arith, append-nil, append_assoc}
use Rattle.std.proofs.Common.{length-append}
use Rattle.std.specs.Prelude.{filter, codes, ◌==◌}
use Rattle.std.specs.List.{starts_with}
use Rattle.std.proofs.lemmas.Slice.Eq.{starts_is}
use Rattle.std.proofs.lemmas.Bool.Decides.{Decides-eqb}
use Rattle.std.proofs.lemmas.Bool.{cases_eq, eq-eqb, ne_eqb}
use Rattle.std.proofs.lemmas.Str.{encode_ascii, encodes-append, char_from_byte}
use Rattle.std.specs.Char.{encode_utf8}
use Rattle.std.specs.Str.{encode_utf8_all}
use Rattle.unicode_ident.proofs.IdentLemmas.{is_xid_start-ascii}
use Rattle.rw_base.specs.Fronts.{BeginsSome}
use Rattle.java_lex.specs.Words.{IsLetter, AllContinue, begins_word}
use Rattle.method_pattern.specs.Texts.{AreLetters, IsStarred, IsPart, IsName, IsWrongAt}
use Rattle.method_pattern.specs.Letters.{letter_test}
use Rattle.method_pattern.specs.Reading.{Goes, StarredFrom, IsExactly, IsPartText, IsNameText}
use Rattle.method_pattern.proofs.LetterSteps.{letter_a}
use Rattle.method_pattern.proofs.StarredSteps.{first_char, no_star}
use Rattle.method_pattern.proofs.Places.{first, first_front, chosen, stuck}

-- what a test of the first byte says
pub first_tested : (b : ℕ) (s : List ℕ) (r : Bool) → r ≡ starts_with eqb s (b ∷ []) → r ≡ true → first s ≡ Some b
first_tested b s r is t = ap first ((starts_is Decides-eqb s (b ∷ []) r is).0 t)

pub first_other : (b : ℕ) (s : List ℕ) (r : Bool) → r ≡ starts_with eqb s (b ∷ []) → r ≡ false → first s ≡ Some b → ⊥
first_other b [] r is f e = let g : None ≡ Some b = e in cc
first_other b (c ∷ s) r is f e =
    let same : c ≡ b = cc in
    let t = (starts_is Decides-eqb (c ∷ s) (b ∷ []) r is).1 s (ap (λ x. x ∷ s) same) in
    let g : true ≡ false = sym t ∙ f in cc

-- ---- the letters among the stars

abbrev pub no_stars : List ℕ → List ℕ
no_stars cs = filter (λ c. not (c == 42)) cs

abbrev Lettered : Bool → List ℕ → Type 0
Lettered true letters = AllContinue letters
Lettered false letters = AreLetters letters

-- whether a letter stands at the end
abbrev has_at_end : Bool → List ℕ → Bool
has_at_end before [] = before
has_at_end before (c ∷ letters) = true

star_out : (c : ℕ) (cs : List ℕ) → c ≡ 42 → no_stars (c ∷ cs) ≡ no_stars cs
star_out c cs e = ap (λ v. cond (not v) (c ∷ no_stars cs) (no_stars cs)) (eq-eqb c 42 e)

letter_in : (c : ℕ) (cs : List ℕ) → (c ≡ 42 → ⊥) → no_stars (c ∷ cs) ≡ c ∷ no_stars cs
letter_in c cs e = ap (λ v. cond (not v) (c ∷ no_stars cs) (no_stars cs)) (ne_eqb c 42 e)

letters_join : (before : Bool) (c : ℕ) (letters : List ℕ) → IsLetter (letter_test before) c → AllContinue letters
    → Lettered before (c ∷ letters)
letters_join true c letters letter others = (letter, others)
letters_join false c letters letter others = (letter, others)

letters_split : (before : Bool) (c : ℕ) (letters : List ℕ) → Lettered before (c ∷ letters)
    → IsLetter (letter_test before) c × AllContinue letters
letters_split true c letters h = h
letters_split false c letters h = h

letters_of : (before : Bool) (cs : List ℕ) (has : Bool) → Goes before cs has → Lettered before (no_stars cs)
letters_of true [] has h = tt
letters_of false [] has h = tt
letters_of before (c ∷ cs) has (inl star) =
    subst (Lettered before) (sym (star_out c cs star.0)) (letters_of before cs has star.1)
letters_of before (c ∷ cs) has (inr letter) =
    subst (Lettered before) (sym (letter_in c cs (no_star before c letter.0)))
    (letters_join before c (no_stars cs) letter.0 (letters_of true cs has letter.1))

has_is : (before : Bool) (cs : List ℕ) (has : Bool) → Goes before cs has → has ≡ has_at_end before (no_stars cs)
has_is before [] has h = h
has_is before (c ∷ cs) has (inl star) =
    has_is before cs has star.1 ∙ ap (has_at_end before) (sym (star_out c cs star.0))
has_is before (c ∷ cs) has (inr letter) =
    has_is true cs has letter.1 ∙ (always (no_stars cs) ∙ ap (has_at_end before) (sym (letter_in c cs (no_star before c letter.0))))
  where
    always : (letters : List ℕ) → has_at_end true letters ≡ true
    always [] = refl
    always (d ∷ letters) = refl

goes_of : (before : Bool) (cs : List ℕ) → Lettered before (no_stars cs) → Goes before cs (has_at_end before (no_stars cs))
goes_of before [] h = refl
goes_of before (c ∷ cs) h = elim (cases_eq c 42) [
  | inl star ↦
      inl (
        star,
        subst (λ x. Goes before cs (has_at_end before x)) (sym (star_out c cs star))
            (goes_of before cs (subst (Lettered before) (star_out c cs star) h)),
      )
  | inr other ↦
      let whole = letters_split before c (no_stars cs) (subst (Lettered before) (letter_in c cs other) h) in
      inr (
        whole.0,
        subst (Goes true cs) (ends_true (no_stars cs) ∙ ap (has_at_end before) (sym (letter_in c cs other)))
            (goes_of true cs whole.1),
      )
]
  where
    ends_true : (letters : List ℕ) → has_at_end true letters ≡ true
    ends_true [] = refl
    ends_true (d ∷ letters) = refl

pub starred_of : (letters s : List ℕ) → IsStarred letters s → StarredFrom false (has_at_end false letters) s
starred_of letters s h = (
  h.characters,
  (
    h.is,
    subst (λ x. Goes false h.characters (has_at_end false x)) h.others
        (goes_of false h.characters (subst AreLetters (sym h.others) h.word)),
  ),
)

pub of_starred : (has : Bool) (s : List ℕ) → StarredFrom false has s
    → (letters : List ℕ) × (IsStarred letters s × (has ≡ has_at_end false letters))
of_starred has s h = (
  no_stars h.0,
  (
    record { characters = h.0; is = h.1.0; others = refl; word = letters_of false h.0 has h.1.1 },
    has_is false h.0 has h.1.1,
  ),
)

-- ---- one end

same_chars : (cs ds : List ℕ) → encode_utf8_all cs ≡ encode_utf8_all ds → cs ≡ ds
same_chars [] [] e = refl
same_chars [] (d ∷ ds) e = let f = first_char d (encode_utf8_all ds) [] (sym e) in absurd (let g : [] ≡ d ∷ f.0 = f.1.0 in cc)
same_chars (c ∷ cs) ds e =
    let f = first_char c (encode_utf8_all cs) ds e in
    ap (λ x. c ∷ x) (same_chars cs f.0 f.1.1) ∙ sym f.1.0

pub one_end : (a b : Bool) (s : List ℕ) → StarredFrom false a s → StarredFrom false b s → a ≡ b
one_end a b s h k =
    let same = same_chars h.0 k.0 (sym h.1.0 ∙ k.1.0) in
    has_is false h.0 a h.1.1 ∙ (ap (λ x. has_at_end false (no_stars x)) same ∙ sym (has_is false k.0 b k.1.1))

-- ---- one letter more

a_goes : (before has : Bool) (cs : List ℕ) → Goes before cs has → Goes before (cs ++ 97 ∷ []) true
a_goes before has [] h = inr (letter_a before, refl)
a_goes before has (c ∷ cs) (inl star) = inl (star.0, a_goes before has cs star.1)
a_goes before has (c ∷ cs) (inr letter) = inr (letter.0, a_goes true has cs letter.1)

pub a_behind : (before has : Bool) (s : List ℕ) → StarredFrom before has s → StarredFrom before true (s ++ 97 ∷ [])
a_behind before has s h = (
  h.0 ++ 97 ∷ [],
  (
    ap (λ x. x ++ 97 ∷ []) h.1.0
        ∙ (ap (λ x. encode_utf8_all h.0 ++ x) (sym (append-nil (encode_utf8 97) ∙ encode_ascii 97 (omega arith)))
        ∙ sym (encodes-append h.0 (97 ∷ []))),
    a_goes before has h.0 h.1.1,
  ),
)

-- where a form has the texts that go on with one letter more, it has the fronts of stars and letters
begun_alike : (F : Unit {0} → List ℕ → Type 0) (f : List ℕ) → ((s : List ℕ) → StarredFrom false true s → 0 < length s → F tt s)
    → BeginsSome (StarredFrom false) f → BeginsSome F f
begun_alike F f up b =
    let rest = b.1.0 ++ 97 ∷ [] in
    let same = append_assoc f b.1.0 (97 ∷ []) in (
      tt,
      (
        rest,
        subst (F tt) same (up ((f ++ b.1.0) ++ 97 ∷ []) (a_behind false b.0 (f ++ b.1.0) b.1.1)
            (omega (arith, length-append (f ++ b.1.0) (97 ∷ [])))),
      ),
    )

-- ---- parts

pub part_of : (has : Bool) (s : List ℕ) → 0 < length s → StarredFrom false has s → IsPart s
part_of has s some h = let w = of_starred has s h in (some, (w.0, w.1.0))

pub part_starred : (s : List ℕ) → IsPart s → (has : Bool) × StarredFrom false has s
part_starred s h = (has_at_end false h.1.0, starred_of h.1.0 s h.1.1)

pub part_wrong : (s : List ℕ) (n : ℕ) → IsWrongAt (StarredFrom false) s n → IsWrongAt IsPartText s n
part_wrong s n w = record {
  wrong = λ x h. let k = part_starred s h in w.wrong k.0 k.1;
  longest = record {
    within = w.longest.within;
    begins = begun_alike IsPartText (take n s) (λ t h some. part_of true t some h) w.longest.begins;
    ends = λ lt b. let k = part_starred (take (n + 1) s ++ b.1.0) b.1.1 in w.longest.ends lt (k.0, (b.1.0, k.1));
  };
}

pub some_part : IsPart (97 ∷ [])
some_part = part_of true (97 ∷ []) (omega arith) (a_behind false false [] ([], (refl, refl)))

pub no_part : (s : List ℕ) → length s ≤ 0 → IsWrongAt IsPartText s 0
no_part [] empty = stuck IsPartText [] [] 0 refl tt (97 ∷ []) some_part none
  where
    none : (x : Unit {0}) (rest : List ℕ) → first rest ≡ first [] → IsPart rest → ⊥
    none x [] e h = omega (arith, h.0)
    none x (b ∷ rest) e h = let f : Some b ≡ None = e in cc
no_part (b ∷ s) empty = absurd (omega arith)

-- ---- names

pub name_of : (s : List ℕ) → StarredFrom false true s → IsName s
name_of s h = let w = of_starred true s h in named w.0 w.1.0 w.1.1
  where
    named : (letters : List ℕ) → IsStarred letters s → true ≡ has_at_end false letters → IsName s
    named [] k e = absurd (cc)
    named (c ∷ letters) k e = inr (inr (c, (letters, k)))

star_starred : StarredFrom false false (42 ∷ [])
star_starred = (42 ∷ [], (sym (append-nil (encode_utf8 42) ∙ encode_ascii 42 (omega arith)), inl (refl, refl)))

-- stars and letters don't begin with `<`
bracket_fails : begins_word 60 ≡ false
bracket_fails = ap (λ v. v || eqb 60 95 || eqb 60 36) (is_xid_start-ascii 60 (omega arith))

some_same : (a b : ℕ) → Some a ≡ Some b → a < b → ⊥
some_same a b e lt = let same : a ≡ b = cc in omega arith

no_bracket : (has : Bool) (s : List ℕ) → StarredFrom false has s → first s ≡ Some 60 → ⊥
no_bracket has [] h e = let f : None ≡ Some 60 = e in cc
no_bracket has (b ∷ s) ([], h) e = let f : Some b ≡ None = ap first h.0 in cc
no_bracket has (b ∷ s) (c ∷ cs, h) e =
    let is : b ≡ 60 = cc in
    let same : c ≡ b = char_from_byte (b ∷ s) (encode_utf8_all cs) c h.0 (omega arith) (omega arith) in
    elim h.1 [
      | inl star ↦ omega (arith, star.0)
      | inr letter ↦
          let f : true ≡ false = sym letter.0.passes ∙ (ap begins_word (same ∙ is) ∙ bracket_fails) in cc
    ]

pub name_starred : (s : List ℕ) → (first s ≡ Some 60 → ⊥) → IsName s → (has : Bool) × StarredFrom false has s
name_starred s other (inl star) = (false, subst (StarredFrom false false) (sym star) star_starred)
name_starred s other (inr (inl constructor)) = absurd (other (ap first constructor))
name_starred s other (inr (inr h)) = (true, starred_of (h.0 ∷ h.1.0) s h.1.1)

pub name_wrong : (s : List ℕ) (n : ℕ) → (first s ≡ Some 60 → ⊥) → IsWrongAt (StarredFrom false) s n → IsWrongAt IsNameText s n
name_wrong s n other w = record {
  wrong = λ x h. let k = name_starred s other h in w.wrong k.0 k.1;
  longest = record {
    within = w.longest.within;
    begins = begun_alike IsNameText (take n s) (λ t h some. name_of t h) w.longest.begins;
    ends = λ lt b.
        let k = name_starred (take (n + 1) s ++ b.1.0) (λ e. other (sym (first_front s b.1.0 n lt) ∙ e)) b.1.1 in
        w.longest.ends lt (k.0, (b.1.0, k.1));
  };
}

pub constructor_wrong : (s : List ℕ) (n : ℕ) → first s ≡ Some 60 → IsWrongAt (IsExactly (codes "<constructor>")) s n
    → IsWrongAt IsNameText s n
constructor_wrong s n begins w =
    chosen (IsExactly (codes "<constructor>")) IsNameText s n (λ x rest is. (tt, inr (inl is)))
    (λ y rest e h. (tt, only rest (e ∙ begins) h)) w
  where
    only : (rest : List ℕ) → first rest ≡ Some 60 → IsName rest → rest ≡ codes "<constructor>"
    only rest e (inl star) = absurd (some_same 42 60 (sym (ap first star) ∙ e) (omega arith))
    only rest e (inr (inl is)) = is
    only rest e (inr (inr h)) = absurd (no_bracket true rest (starred_of (h.0 ∷ h.1.0) rest h.1.1) e)

-- stars alone are a name only where there is one
pub stars_wrong : (s : List ℕ) → (first s ≡ Some 60 → ⊥) → (s ≡ codes "*" → ⊥) → StarredFrom false false s
    → IsWrongAt IsNameText s (length s)
stars_wrong s other none h =
    subst (λ x. IsWrongAt IsNameText x (length s)) (append-nil s)
    (stuck IsNameText s [] (length s) refl tt (97 ∷ []) (name_of (s ++ 97 ∷ []) (a_behind false false s h))
    (λ x rest e k. no_name rest e k))
  where
    not_name : IsName s → ⊥
    not_name (inl star) = none star
    not_name (inr (inl constructor)) = other (ap first constructor)
    not_name (inr (inr k)) = let f : true ≡ false = one_end true false s (starred_of (k.0 ∷ k.1.0) s k.1.1) h in cc

    no_name : (rest : List ℕ) → first rest ≡ first [] → IsName (s ++ rest) → ⊥
    no_name [] e k = not_name (subst IsName (append-nil s) k)
    no_name (b ∷ rest) e k = let f : Some b ≡ None = e in cc
