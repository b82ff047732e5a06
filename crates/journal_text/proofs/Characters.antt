-- Characters in UTF-8 that are begun.
use Rattle.std.proofs.Common.{◌≡◌, ◌≢◌, ◌⊎◌, inl, inr, ⊎_elim, ℕ, ◌+◌, ◌-◌, ◌<◌, ◌≤◌, Bool, true, false, cond, List, [], ◌∷◌, ◌++◌, length, get_or, take, IsUtf8, refl, sym, ap, ◌∙◌, subst, arith, append_assoc}
use Rattle.std.specs.Prelude.{◌==◌}
use Rattle.std.specs.Str.{IsValidUpTo}
use Rattle.std.specs.Str.Lossy.{second_byte_min, second_byte_max}
use Rattle.std.proofs.lemmas.Bool.{cases_lt, cases_eq}
use Rattle.std.proofs.lemmas.Bool.Decides.{nat_tests}
use Rattle.std.proofs.lemmas.List.{append-nil, take_more, take_at, drop_at}
use Rattle.std.proofs.lemmas.Str.{IsUtf8-append, IsUtf8-nil}
use Rattle.std.proofs.iter.FirstChar.{after_text}
use Rattle.std.proofs.str.Faults.{Ranged, no_char, valid_to, not_text}
use Rattle.std.proofs.str.Laws.{Follows}
use Rattle.std.proofs.str.Valid.{of_one, of_two, of_three, of_four, longer}
use Rattle.journal_text.specs.Stops.{StopsAt, AreHigh, Utf8Front}

-- ---- whole characters
two_text : (x y : ℕ) → 194 ≤ x → x < 224 → Follows y → IsUtf8 (x ∷ y ∷ [])
two_text x y p q f = of_two (x ∷ y ∷ []) 0 (omega arith) (p, q) f

-- the second byte fits the first
pub record Second (x y : ℕ) : Type 0 where
  pub follows : Follows y
  pub e0 : x ≡ 224 → 160 ≤ y
  pub ed : x ≡ 237 → y < 160
  pub f0 : x ≡ 240 → 144 ≤ y
  pub f4 : x ≡ 244 → y < 144

three_text : (x y z : ℕ) → 224 ≤ x → x < 240 → Second x y → Follows z → IsUtf8 (x ∷ y ∷ z ∷ [])
three_text x y z p q s f =
    of_three (x ∷ y ∷ z ∷ []) 0 (omega arith) (p, q) s.follows f
    (elim (cases_eq x 224) [ inl e ↦ omega (arith, s.follows, f, s.e0 e) | inr n ↦ omega (arith, s.follows, f) ])
    (elim (cases_lt x 237) [
      | inl lt ↦ inl (omega (arith, s.follows, f))
      | inr le ↦ elim (cases_eq x 237) [
        | inl e ↦ inl (omega (arith, s.follows, f, s.ed e))
        | inr n ↦ inr (omega (arith, s.follows, f))
      ]
    ])

four_text : (x y z w : ℕ) → 240 ≤ x → x ≤ 244 → Second x y → Follows z → Follows w → IsUtf8 (x ∷ y ∷ z ∷ w ∷ [])
four_text x y z w p q s f g = of_four (x ∷ y ∷ z ∷ w ∷ []) 0 (omega arith) p s.follows f g (
  elim (cases_eq x 240) [ inl e ↦ omega (arith, s.follows, s.f0 e) | inr n ↦ omega (arith, s.follows) ],
  elim (cases_eq x 244) [ inl e ↦ omega (arith, s.follows, s.f4 e) | inr n ↦ omega (arith, s.follows) ],
)

-- ---- characters that are begun go on
pub front_none : (text : List ℕ) → IsUtf8 text → Utf8Front text
front_none text u = record { rest = []; high = tt; text = subst IsUtf8 (sym (append-nil text)) u }

front_with : (text begun rest : List ℕ) → IsUtf8 text → AreHigh rest → IsUtf8 (begun ++ rest) → Utf8Front (text ++ begun)
front_with text begun rest u h v = record { rest = rest; high = h; text = subst IsUtf8 (sym (append_assoc text begun rest)) (IsUtf8-append text (begun ++ rest) u v) }

some_second : (x : ℕ) → (y : ℕ) × Second x y
some_second x = elim (cases_eq x 224) [
  | inl e ↦ (160, record { follows = (omega arith, omega arith); e0 = λ _. omega arith; ed = λ d. absurd (omega arith); f0 = λ d. absurd (omega arith); f4 = λ d. absurd (omega arith) })
  | inr n ↦ elim (cases_eq x 240) [
    | inl e ↦ (144, record { follows = (omega arith, omega arith); e0 = λ d. absurd (omega arith); ed = λ d. absurd (omega arith); f0 = λ _. omega arith; f4 = λ d. absurd (omega arith) })
    | inr m ↦ (128, record { follows = (omega arith, omega arith); e0 = λ d. absurd (n d); ed = λ _. omega arith; f0 = λ d. absurd (m d); f4 = λ _. omega arith })
  ]
]

next_byte : Follows 128
next_byte = (omega arith, omega arith)

pub front_three : (text : List ℕ) (x y z : ℕ) → IsUtf8 text → 240 ≤ x → x ≤ 244 → Second x y → Follows z → Utf8Front (text ++ x ∷ y ∷ z ∷ [])
front_three text x y z u p q s f = front_with text (x ∷ y ∷ z ∷ []) (128 ∷ []) u (omega arith, tt) (four_text x y z 128 p q s f next_byte)

pub front_two : (text : List ℕ) (x y : ℕ) → IsUtf8 text → 224 ≤ x → x ≤ 244 → Second x y → Utf8Front (text ++ x ∷ y ∷ [])
front_two text x y u p q s = elim (cases_lt x 240) [
  | inl lt ↦ front_with text (x ∷ y ∷ []) (128 ∷ []) u (omega arith, tt) (three_text x y 128 p lt s next_byte)
  | inr le ↦ front_with text (x ∷ y ∷ []) (128 ∷ 128 ∷ []) u (omega arith, (omega arith, tt)) (four_text x y 128 128 le q s next_byte next_byte)
]

pub front_one : (text : List ℕ) (x : ℕ) → IsUtf8 text → 194 ≤ x → x ≤ 244 → Utf8Front (text ++ x ∷ [])
front_one text x u p q =
    let s = some_second x in
    let least : 128 ≤ s.0 = s.1.follows.0 in
    elim (cases_lt x 224) [
      | inl lt ↦ front_with text (x ∷ []) (128 ∷ []) u (omega arith, tt) (two_text x 128 p lt next_byte)
      | inr le ↦ elim (cases_lt x 240) [
        | inl below ↦ front_with text (x ∷ []) (s.0 ∷ 128 ∷ []) u (least, (omega arith, tt)) (three_text x s.0 128 le below s.1 next_byte)
        | inr above ↦ front_with text (x ∷ []) (s.0 ∷ 128 ∷ 128 ∷ []) u (least, (omega arith, (omega arith, tt))) (four_text x s.0 128 128 above q s.1 next_byte next_byte)
      ]
    ]

-- ---- bytes that no character has
no_text : (s : List ℕ) → 0 < length s → (Ranged (length s) (get_or s 0 0) (get_or s 1 0) (get_or s 2 0) (get_or s 3 0) → ⊥) → IsUtf8 s → ⊥
no_text s some h u =
    let n : length s - 0 ≡ length s = omega arith in
    not_text s 0 (valid_to s 0 some IsUtf8-nil (no_char s 0 (λ r. h (subst (λ k. Ranged k (get_or s 0 0) (get_or s 1 0) (get_or s 2 0) (get_or s 3 0)) n r)))) u

behind_text : (text s : List ℕ) → IsUtf8 text → IsUtf8 (text ++ s) → IsUtf8 s
behind_text text s u v =
    subst IsUtf8 (drop_at text s (length text) refl) (after_text (text ++ s) (length text) v (subst IsUtf8 (sym (take_at text s (length text) refl)) u))

pub refuses_first : (text more : List ℕ) (x : ℕ) → IsUtf8 text → 128 ≤ x → (x < 194) ⊎ (244 < x) → IsUtf8 (text ++ x ∷ more) → ⊥
refuses_first text more x u high (inl low) v = no_text (x ∷ more) (omega arith) (λ r. let p = r.second high in omega (arith, p.0)) (behind_text text (x ∷ more) u v)
refuses_first text more x u high (inr over) v = no_text (x ∷ more) (omega arith) (λ r. let p = r.second high in let q = r.fourth (omega arith) in omega (arith, p.2, q.2)) (behind_text text (x ∷ more) u v)

ranged_second : (n x y z w : ℕ) → 194 ≤ x → x ≤ 244 → Ranged n x y z w → Second x y
ranged_second n x y z w p q r =
    let s = (r.second (omega arith)).2 in
    record {
      follows = s;
      e0 = λ e. omega (arith, s, (r.in_three (omega arith) (omega arith)).0);
      ed = λ e. ⊎_elim (λ l. omega (arith, s, l)) (λ l. absurd (omega (arith, s, l))) (r.in_three (omega arith) (omega arith)).1;
      f0 = λ e. omega (arith, s, (r.fourth (omega arith)).2.0);
      f4 = λ e. omega (arith, s, (r.fourth (omega arith)).2.1);
    }

pub refuses_second : (text more : List ℕ) (x y : ℕ) → IsUtf8 text → 194 ≤ x → x ≤ 244 → (Second x y → ⊥) → IsUtf8 (text ++ x ∷ y ∷ more) → ⊥
refuses_second text more x y u p q bad v = no_text (x ∷ y ∷ more) (omega arith) (λ r. bad (ranged_second (length (x ∷ y ∷ more)) x y (get_or more 0 0) (get_or more 1 0) p q r)) (behind_text text (x ∷ y ∷ more) u v)

pub refuses_third : (text more : List ℕ) (x y z : ℕ) → IsUtf8 text → 224 ≤ x → (Follows z → ⊥) → IsUtf8 (text ++ x ∷ y ∷ z ∷ more) → ⊥
refuses_third text more x y z u p bad v = no_text (x ∷ y ∷ z ∷ more) (omega arith) (λ r. bad (r.third p).1) (behind_text text (x ∷ y ∷ z ∷ more) u v)

pub refuses_fourth : (text more : List ℕ) (x y z w : ℕ) → IsUtf8 text → 240 ≤ x → (Follows w → ⊥) → IsUtf8 (text ++ x ∷ y ∷ z ∷ w ∷ more) → ⊥
refuses_fourth text more x y z w u p bad v = no_text (x ∷ y ∷ z ∷ w ∷ more) (omega arith) (λ r. bad (r.fourth p).1) (behind_text text (x ∷ y ∷ z ∷ w ∷ more) u v)

-- ---- in a line whose text ends at a place
one_more : (line : List ℕ) (at : ℕ) → at < length line → take (at + 1) line ≡ take at line ++ get_or line at 0 ∷ []
one_more line at lt = take_more line at 0 lt

two_more : (line : List ℕ) (at : ℕ) → at + 1 < length line → take (at + 2) line ≡ take at line ++ get_or line at 0 ∷ get_or line (at + 1) 0 ∷ []
two_more line at lt =
    let n : at + 1 + 1 ≡ at + 2 = omega arith in
    ap (λ k. take k line) (sym n) ∙ (take_more line (at + 1) 0 lt ∙ (ap (λ t. t ++ get_or line (at + 1) 0 ∷ []) (one_more line at (omega arith))
    ∙ append_assoc (take at line) (get_or line at 0 ∷ []) (get_or line (at + 1) 0 ∷ [])))

three_more : (line : List ℕ) (at : ℕ) → at + 2 < length line → take (at + 3) line ≡ take at line ++ get_or line at 0 ∷ get_or line (at + 1) 0 ∷ get_or line (at + 2) 0 ∷ []
three_more line at lt =
    let n : at + 2 + 1 ≡ at + 3 = omega arith in
    ap (λ k. take k line) (sym n) ∙ (take_more line (at + 2) 0 lt ∙ (ap (λ t. t ++ get_or line (at + 2) 0 ∷ []) (two_more line at (omega arith))
    ∙ append_assoc (take at line) (get_or line at 0 ∷ get_or line (at + 1) 0 ∷ []) (get_or line (at + 2) 0 ∷ [])))

module _ (line : List ℕ) (at : ℕ) (v : IsValidUpTo line at) where
  abbrev x : ℕ
  x = get_or line at 0

  abbrev y : ℕ
  y = get_or line (at + 1) 0

  abbrev z : ℕ
  z = get_or line (at + 2) 0

  abbrev w : ℕ
  w = get_or line (at + 3) 0

  begins_wide : 128 ≤ x
  begins_wide = elim (cases_lt x 128) [
    | inl lt ↦ absurd (v.longest (at + 1) (omega arith) (longer line at 1 v.front (of_one line at v.short lt)))
    | inr le ↦ le
  ]

  pub is_wide : 194 ≤ x → at + 1 < length line → Second x y → 224 ≤ x
  is_wide p l s = elim (cases_lt x 224) [
    | inl lt ↦ absurd (v.longest (at + 2) (omega arith) (longer line at 2 v.front (of_two line at l (p, lt) s.follows)))
    | inr le ↦ le
  ]

  three_whole : at + 2 < length line → 224 ≤ x → x < 240 → Second x y → Follows z → ⊥
  three_whole l p q s f = v.longest (at + 3) (omega arith) (longer line at 3 v.front (of_three line at l (p, q) s.follows f
      (elim (cases_eq x 224) [ inl e ↦ omega (arith, s.follows, f, s.e0 e) | inr n ↦ omega (arith, s.follows, f) ])
      (elim (cases_lt x 237) [
        | inl lt ↦ inl (omega (arith, s.follows, f))
        | inr le ↦ elim (cases_eq x 237) [
          | inl e ↦ inl (omega (arith, s.follows, f, s.ed e))
          | inr n ↦ inr (omega (arith, s.follows, f))
        ]
      ])))

  pub is_wider : at + 2 < length line → 224 ≤ x → Second x y → Follows z → 240 ≤ x
  is_wider l p s f = elim (cases_lt x 240) [ inl lt ↦ absurd (three_whole l p lt s f) | inr le ↦ le ]

  four_whole : at + 3 < length line → 240 ≤ x → x ≤ 244 → Second x y → Follows z → Follows w → ⊥
  four_whole l p q s f g = v.longest (at + 4) (omega arith) (longer line at 4 v.front (of_four line at l p s.follows f g (
    elim (cases_eq x 240) [ inl e ↦ omega (arith, s.follows, s.f0 e) | inr n ↦ omega (arith, s.follows) ],
    elim (cases_eq x 244) [ inl e ↦ omega (arith, s.follows, s.f4 e) | inr n ↦ omega (arith, s.follows) ],
  )))

  stop_here : (before : List ℕ) (stop : ℕ) → stop ≤ length line → (stop < length line → (more : List ℕ) → IsUtf8 (take stop line ++ get_or line stop 0 ∷ more) → ⊥) → StopsAt before line stop
  stop_here before stop le bad = record { place = le; next = λ lt more may. bad lt more may.is_path_text.text }

  pub first_stops : (before : List ℕ) → (x < 194) ⊎ (244 < x) → StopsAt before line (at + 0)
  first_stops before bad =
      let n : at + 0 ≡ at = omega arith in
      subst (StopsAt before line) (sym n) (stop_here before at (omega (arith, v.short)) (λ lt more. refuses_first (take at line) more x v.front begins_wide bad))

  pub first_front : Utf8Front (take (at + 0) line)
  first_front = let n : at + 0 ≡ at = omega arith in subst (λ k. Utf8Front (take k line)) (sym n) (front_none (take at line) v.front)

  pub second_front : 194 ≤ x → x ≤ 244 → Utf8Front (take (at + 1) line)
  second_front p q = subst Utf8Front (sym (one_more line at v.short)) (front_one (take at line) x v.front p q)

  pub second_stops : (before : List ℕ) → 194 ≤ x → x ≤ 244 → (Second x y → ⊥) → StopsAt before line (at + 1)
  second_stops before p q bad = stop_here before (at + 1) (omega (arith, v.short)) (λ lt more u. refuses_second (take at line) more x y v.front p q bad
      (subst IsUtf8 (ap (λ t. t ++ y ∷ more) (one_more line at v.short) ∙ append_assoc (take at line) (x ∷ []) (y ∷ more)) u))

  pub third_front : at + 1 < length line → 194 ≤ x → x ≤ 244 → Second x y → Utf8Front (take (at + 2) line)
  third_front l p q s = subst Utf8Front (sym (two_more line at l)) (front_two (take at line) x y v.front (is_wide p l s) q s)

  pub third_stops : (before : List ℕ) → at + 1 < length line → 194 ≤ x → Second x y → (Follows z → ⊥) → StopsAt before line (at + 2)
  third_stops before l p s bad = stop_here before (at + 2) (omega arith) (λ lt more u. refuses_third (take at line) more x y z v.front (is_wide p l s) bad
      (subst IsUtf8 (ap (λ t. t ++ z ∷ more) (two_more line at l) ∙ append_assoc (take at line) (x ∷ y ∷ []) (z ∷ more)) u))

  pub fourth_front : at + 2 < length line → 194 ≤ x → x ≤ 244 → Second x y → Follows z → Utf8Front (take (at + 3) line)
  fourth_front l p q s f = subst Utf8Front (sym (three_more line at l)) (front_three (take at line) x y z v.front (is_wider l (is_wide p (omega arith) s) s f) q s f)

  pub fourth_stops : (before : List ℕ) → at + 2 < length line → 194 ≤ x → x ≤ 244 → Second x y → Follows z → StopsAt before line (at + 3)
  fourth_stops before l p q s f =
      let wider = is_wider l (is_wide p (omega arith) s) s f in
      stop_here before (at + 3) (omega arith) (λ lt more u. refuses_fourth (take at line) more x y z w v.front wider (four_whole lt wider q s f)
      (subst IsUtf8 (ap (λ t. t ++ w ∷ more) (three_more line at l) ∙ append_assoc (take at line) (x ∷ y ∷ z ∷ []) (w ∷ more)) u))

-- ---- the second byte by the two bounds
pub by_bounds : (x y : ℕ) → second_byte_min x ≤ y → y ≤ second_byte_max x → Second x y
by_bounds x y low high = record {
  follows = (omega (arith, least x), omega (arith, most x));
  e0 = λ e. omega (arith, low, ap second_byte_min e);
  ed = λ e. omega (arith, high, ap second_byte_max e);
  f0 = λ e. omega (arith, low, ap second_byte_min e);
  f4 = λ e. omega (arith, high, ap second_byte_max e);
}
  where
    least : (x : ℕ) → 128 ≤ second_byte_min x
    least x = pick (x == 224) (x == 240)
      where
        pick : (s t : Bool) → 128 ≤ cond s 160 (cond t 144 128)
        pick true t = omega arith
        pick false true = omega arith
        pick false false = omega arith

    most : (x : ℕ) → second_byte_max x ≤ 191
    most x = pick (x == 237) (x == 244)
      where
        pick : (s t : Bool) → cond s 159 (cond t 143 191) ≤ 191
        pick true t = omega arith
        pick false true = omega arith
        pick false false = omega arith

pub below_bound : (x y : ℕ) → y < second_byte_min x → Second x y → ⊥
below_bound x y low s = elim (cases_eq x 224) [
  | inl e ↦ omega (arith, low, ap second_byte_min e, s.e0 e)
  | inr n ↦ elim (cases_eq x 240) [
    | inl e ↦ omega (arith, low, ap second_byte_min e, s.f0 e)
    | inr m ↦ omega (arith, low, s.follows, plain x n m)
  ]
]
  where
    plain : (x : ℕ) → x ≢ 224 → x ≢ 240 → second_byte_min x ≡ 128
    plain x n m = let p : (x == 224) ≡ false = grind (arith, nat_tests) in let q : (x == 240) ≡ false = grind (arith, nat_tests) in
        ap (λ t. cond t 160 (cond (x == 240) 144 128)) p ∙ ap (λ t. cond t 144 128) q

pub above_bound : (x y : ℕ) → second_byte_max x < y → Second x y → ⊥
above_bound x y high s = elim (cases_eq x 237) [
  | inl e ↦ omega (arith, high, ap second_byte_max e, s.ed e)
  | inr n ↦ elim (cases_eq x 244) [
    | inl e ↦ omega (arith, high, ap second_byte_max e, s.f4 e)
    | inr m ↦ omega (arith, high, s.follows, plain x n m)
  ]
]
  where
    plain : (x : ℕ) → x ≢ 237 → x ≢ 244 → second_byte_max x ≡ 191
    plain x n m = let p : (x == 237) ≡ false = grind (arith, nat_tests) in let q : (x == 244) ≡ false = grind (arith, nat_tests) in
        ap (λ t. cond t 159 (cond (x == 244) 143 191)) p ∙ ap (λ t. cond t 143 191) q
