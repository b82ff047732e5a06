-- A row with gaps, tried on items from the front, with the last gap to come back to.
use Rattle.std.proofs.Common.{◌≡◌, ℕ, suc, ◌+◌, ◌*◌, ◌<◌, ◌≤◌, ◌⊎◌, inl, inr, List, [], ◌∷◌, ◌++◌, length, refl, sym, ap, subst, ◌∙◌, arith, append_assoc, length-append}
use Rattle.method_pattern.specs.Rows.{RowFits, both_end, one_taken, gap_over, in_gap}

-- of lists joined, the front that is no longer than another's goes over into it
pub longer_front : {X : Type 0} (a b c d : List X) → a ++ b ≡ c ++ d → length a ≤ length c → (m : List X) × (b ≡ m ++ d)
longer_front [] b c d e le = (c, e)
longer_front (x ∷ a) b [] d e le = absurd (omega arith)
longer_front (x ∷ a) b (y ∷ c) d e le =
    let tails : a ++ b ≡ c ++ d = cc in
    longer_front a b c d tails (omega arith)

-- the first of two numbers decides
lower : (a b n i j : ℕ) → a < b → i < n → a * n + i < b * n + j
lower a b n i j lt le =
    let most : (suc a) * n ≤ b * n = grind arith in
    let one : (suc a) * n ≡ a * n + n = grind arith in
    omega arith

module _ {P X : Type 0} (IsGap : P → Type 0) (Takes : P → X → Type 0) where
  Fits : List P → List X → Type 0
  Fits = RowFits IsGap Takes

  -- some part of the items from some place on to their end
  abbrev pub FitsSome : List P → List X → Type 0
  FitsSome row items = (front : List X) × ((rest : List X) × ((items ≡ front ++ rest) × RowFits IsGap Takes row rest))

  -- a later place than the first
  abbrev pub FitsLater : List P → List X → Type 0
  FitsLater row [] = ⊥
  FitsLater row (x ∷ items) = FitsSome row items

  abbrev pub Gapless : List P → Type 0
  Gapless [] = Unit {0}
  Gapless (p ∷ row) = (IsGap p → ⊥) × Gapless row

  gap_end : (p : P) (row : List P) (items : List X) → IsGap p → RowFits IsGap Takes (p ∷ row) items → FitsSome row items
  gap_end p row items g (gap_over h f) = ([], (items, (refl, f)))
  gap_end p row (x ∷ items) g (one_taken t f) = (x ∷ [], (items, (refl, f)))
  gap_end p row (x ∷ items) g (in_gap h f) =
      let more = gap_end p row items g f in
      (x ∷ more.0, (more.1.0, (ap (λ ys. x ∷ ys) more.1.1.0, more.1.1.1)))

  gap_fits : (p : P) (row : List P) (front rest : List X) → IsGap p → RowFits IsGap Takes row rest
      → RowFits IsGap Takes (p ∷ row) (front ++ rest)
  gap_fits p row [] rest g f = gap_over g f
  gap_fits p row (x ∷ front) rest g f = in_gap g (gap_fits p row front rest g f)

  one_end : (p : P) (x : X) (row : List P) (items : List X) → (IsGap p → ⊥) → RowFits IsGap Takes (p ∷ row) (x ∷ items)
      → RowFits IsGap Takes row items × Takes p x
  one_end p x row items none (one_taken t f) = (f, t)
  one_end p x row items none (gap_over h f) = absurd (none h)
  one_end p x row items none (in_gap h f) = absurd (none h)

  no_items : (p : P) (row : List P) → (IsGap p → ⊥) → RowFits IsGap Takes (p ∷ row) [] → ⊥
  no_items p row none (gap_over h f) = none h

  no_row : (x : X) (items : List X) → RowFits IsGap Takes [] (x ∷ items) → ⊥
  no_row x items f = elim f [ ]

  pub stuck_at_end : (left : List P) (items : List X) (x : X) (rest : List X) → length left < 1 → items ≡ x ∷ rest
      → RowFits IsGap Takes left items → ⊥
  stuck_at_end [] items x rest lt e f = no_row x rest (subst (RowFits IsGap Takes []) e f)
  stuck_at_end (p ∷ left) items x rest lt e f = absurd (omega arith)

  -- ---- behind a gap the first place serves best

  -- a front without gaps takes an item with each element
  front_taken : (seg : List P) (p : P) (others : List P) (items : List X) → Gapless seg → IsGap p
      → RowFits IsGap Takes (seg ++ p ∷ others) items
      → (used : List X) × ((rest : List X) × ((items ≡ used ++ rest) × (length seg ≤ length used) × RowFits IsGap Takes others rest))
  front_taken [] p others items none g f =
      let b = gap_end p others items g f in
      (b.0, (b.1.0, (b.1.1.0, omega arith, b.1.1.1)))
  front_taken (q ∷ seg) p others [] none g f = absurd (no_items q (seg ++ p ∷ others) none.0 f)
  front_taken (q ∷ seg) p others (x ∷ items) none g f =
      let more = front_taken seg p others items none.1 g (one_end q x (seg ++ p ∷ others) items none.0 f).0 in
      (x ∷ more.0, (more.1.0, (ap (λ ys. x ∷ ys) more.1.1.0, omega (arith, more.1.1.1), more.1.1.2)))

  -- what was taken since the last gap
  pub record Since (behind left : List P) (from rest : List X) : Type 0 where
    pub seg : List P
    pub row_is : behind ≡ seg ++ left
    pub gapless : Gapless seg
    pub caught : (from ≡ []) ⊎ ((taken : List X) × ((from ≡ taken ++ rest) × (length seg ≡ length taken)))

  overtaken : (behind others : List P) (p : P) (from rest : List X) → IsGap p → Since behind (p ∷ others) from rest → FitsLater behind from
      → FitsSome others rest
  overtaken behind others p [] rest g s f = absurd f
  overtaken behind others p (x ∷ from) rest g s f =
      elim s.caught [
        | inl none ↦ absurd (cc)
        | inr some ↦
            let whole : RowFits IsGap Takes (s.seg ++ p ∷ others) f.1.0 = subst (λ (row : List P). RowFits IsGap Takes row f.1.0) s.row_is f.1.1.1 in
            let used = front_taken s.seg p others f.1.0 s.gapless g whole in
            let joined : some.0 ++ rest ≡ (x ∷ (f.0 ++ used.0)) ++ used.1.0 =
            sym some.1.0 ∙ (ap (λ ys. x ∷ ys) f.1.1.0 ∙ (ap (λ ys. x ∷ (f.0 ++ ys)) used.1.1.0 ∙ ap (λ ys. x ∷ ys) (sym (append_assoc f.0 used.0 used.1.0)))) in
            let room : length some.0 ≤ length (x ∷ (f.0 ++ used.0)) = omega (arith, length-append f.0 used.0, used.1.1.1, some.1.1) in
            let m = longer_front some.0 rest (x ∷ (f.0 ++ used.0)) used.1.0 joined room in
            (m.0, (used.1.0, (m.1, used.1.1.2)))
      ]

  -- ---- tries

  -- The row fits the items exactly where what is left of it fits what is left of them, or what stands behind the last
  -- gap fits later.
  pub record Try (row : List P) (items : List X) (left : List P) (rest : List X) (behind : List P) (from : List X) : Type 0 where
    pub sound : RowFits IsGap Takes left rest ⊎ FitsLater behind from → RowFits IsGap Takes row items
    pub complete : RowFits IsGap Takes row items → RowFits IsGap Takes left rest ⊎ FitsLater behind from
    pub since : Since behind left from rest
    pub left_within : length left ≤ length row
    pub behind_within : length behind ≤ length row
    pub rest_within : length rest ≤ length items
    pub from_within : length from ≤ length items

  pub first_try : (row : List P) (items : List X) → Try row items row items row []
  first_try row items = record {
    sound = λ h. elim h [ inl f ↦ f | inr f ↦ absurd f ];
    complete = λ f. inl f;
    since = record { seg = []; row_is = refl; gapless = tt; caught = inl refl };
    left_within = omega arith;
    behind_within = omega arith;
    rest_within = omega arith;
    from_within = omega arith;
  }

  some_parts : (row : List P) (items : List X) → FitsSome row items → RowFits IsGap Takes row items ⊎ FitsLater row items
  some_parts row items ([], (rest, (e, f))) = inl (subst (RowFits IsGap Takes row) (sym e) f)
  some_parts row [] (x ∷ front, (rest, (e, f))) = absurd (cc)
  some_parts row (y ∷ items) (x ∷ front, (rest, (e, f))) =
      let tails : items ≡ front ++ rest = cc in
      inr (front, (rest, (tails, f)))

  parts_some : (row : List P) (items : List X) → RowFits IsGap Takes row items ⊎ FitsLater row items → FitsSome row items
  parts_some row items (inl f) = ([], (items, (refl, f)))
  parts_some row [] (inr f) = absurd f
  parts_some row (x ∷ items) (inr f) = (x ∷ f.0, (f.1.0, (ap (λ ys. x ∷ ys) f.1.1.0, f.1.1.1)))

  pub gap_try : {row : List P} {items : List X} (left : List P) (rest : List X) {behind : List P} {from : List X} (p : P) (others : List P)
      → left ≡ p ∷ others → IsGap p → Try row items left rest behind from → Try row items others rest others rest
  gap_try {row} {items} left rest {behind} {from} p others is g t =
      let since : Since behind (p ∷ others) from rest = subst (λ (l : List P). Since behind l from rest) is t.since in
      let here : RowFits IsGap Takes (p ∷ others) rest → FitsSome others rest = gap_end p others rest g in
      record {
        sound = λ h.
            let b = parts_some others rest h in
            let whole : RowFits IsGap Takes (p ∷ others) rest =
            subst (RowFits IsGap Takes (p ∷ others)) (sym b.1.1.0) (gap_fits p others b.0 b.1.0 g b.1.1.1) in
            t.sound (inl (subst (λ (l : List P). RowFits IsGap Takes l rest) (sym is) whole));
        complete = λ f. some_parts others rest (elim (t.complete f) [
          | inl a ↦ here (subst (λ (l : List P). RowFits IsGap Takes l rest) is a)
          | inr a ↦ overtaken behind others p from rest g since a
        ]);
        since = record { seg = []; row_is = refl; gapless = tt; caught = inr ([], (refl, refl)) };
        left_within = omega (arith, t.left_within, ap length is);
        behind_within = omega (arith, t.left_within, ap length is);
        rest_within = t.rest_within;
        from_within = t.rest_within;
      }

  gapless_more : (seg : List P) (p : P) → Gapless seg → (IsGap p → ⊥) → Gapless (seg ++ p ∷ [])
  gapless_more [] p h n = (n, tt)
  gapless_more (q ∷ seg) p h n = (h.0, gapless_more seg p h.1 n)

  since_more : (behind : List P) (p : P) (others : List P) (from : List X) (x : X) (further : List X) → (IsGap p → ⊥)
      → Since behind (p ∷ others) from (x ∷ further) → Since behind others from further
  since_more behind p others from x further none s = record {
    seg = s.seg ++ p ∷ [];
    row_is = s.row_is ∙ sym (append_assoc s.seg (p ∷ []) others);
    gapless = gapless_more s.seg p s.gapless none;
    caught = elim s.caught [
      | inl e ↦ inl e
      | inr c ↦ inr (c.0 ++ x ∷ [], (c.1.0 ∙ sym (append_assoc c.0 (x ∷ []) further), omega (arith, c.1.1, length-append s.seg (p ∷ []), length-append c.0 (x ∷ []))))
    ];
  }

  pub take_try : {row : List P} {items : List X} (left : List P) (rest : List X) {behind : List P} {from : List X} (p : P) (others : List P) (x : X) (further : List X)
      → left ≡ p ∷ others → rest ≡ x ∷ further → (IsGap p → ⊥) → Takes p x → Try row items left rest behind from → Try row items others further behind from
  take_try {row} {items} left rest {behind} {from} p others x further is at none takes t =
      let since : Since behind (p ∷ others) from (x ∷ further) =
      subst (λ (l : List P). Since behind l from (x ∷ further)) is (subst (λ (r : List X). Since behind left from r) at t.since) in
      record {
        sound = λ h. t.sound (elim h [
          | inl f ↦
              let both : RowFits IsGap Takes (p ∷ others) (x ∷ further) = one_taken takes f in
              inl (subst (λ (l : List P). RowFits IsGap Takes l rest) (sym is) (subst (RowFits IsGap Takes (p ∷ others)) (sym at) both))
          | inr f ↦ inr f
        ]);
        complete = λ f. elim (t.complete f) [
          | inl a ↦
              let both : RowFits IsGap Takes (p ∷ others) (x ∷ further) =
              subst (λ (l : List P). RowFits IsGap Takes l (x ∷ further)) is (subst (RowFits IsGap Takes left) at a) in
              inl (one_end p x others further none both).0
          | inr a ↦ inr a
        ];
        since = since_more behind p others from x further none since;
        left_within = omega (arith, t.left_within, ap length is);
        behind_within = t.behind_within;
        rest_within = omega (arith, t.rest_within, ap length at);
        from_within = t.from_within;
      }

  pub next_try : {row : List P} {items : List X} (left : List P) (rest : List X) (behind : List P) (from : List X) (x : X) (further : List X)
      → from ≡ x ∷ further → (RowFits IsGap Takes left rest → ⊥) → Try row items left rest behind from → Try row items behind further behind further
  next_try {row} {items} left rest behind from x further is stuck t = record {
    sound = λ h. t.sound (inr (subst (FitsLater behind) (sym is) (parts_some behind further h)));
    complete = λ f. elim (t.complete f) [
      | inl a ↦ absurd (stuck a)
      | inr a ↦ some_parts behind further (let later : FitsLater behind (x ∷ further) = subst (FitsLater behind) is a in later)
    ];
    since = record { seg = []; row_is = refl; gapless = tt; caught = inr ([], (refl, refl)) };
    left_within = t.behind_within;
    behind_within = t.behind_within;
    rest_within = omega (arith, t.from_within, ap length is);
    from_within = omega (arith, t.from_within, ap length is);
  }

  pub it_fits : {row : List P} {items : List X} (left : List P) (rest : List X) {behind : List P} {from : List X}
      → left ≡ [] → rest ≡ [] → Try row items left rest behind from → RowFits IsGap Takes row items
  it_fits left rest is at t =
      let end : RowFits IsGap Takes [] [] = both_end in
      t.sound (inl (subst (λ (l : List P). RowFits IsGap Takes l rest) (sym is) (subst (RowFits IsGap Takes []) (sym at) end)))

  pub none_fits : {row : List P} {items : List X} (left : List P) (rest : List X) (behind : List P) (from : List X)
      → from ≡ [] → (RowFits IsGap Takes left rest → ⊥) → Try row items left rest behind from → RowFits IsGap Takes row items → ⊥
  none_fits left rest behind from is stuck t f = elim (t.complete f) [
    | inl a ↦ stuck a
    | inr a ↦ let none : FitsLater behind [] = subst (FitsLater behind) is a in none
  ]

  -- ---- and there are only so many

  abbrev pub tries_left : List P → List X → List P → List P → List X → ℕ
  tries_left row items left behind from =
      (length behind * (length items + 1) + length from) * (length row + 1) + length left

  pub gap_fewer : {row : List P} {items : List X} (left : List P) (rest : List X) (behind : List P) (from : List X) (p : P) (others : List P)
      → left ≡ p ∷ others → Try row items left rest behind from → tries_left row items others others rest < tries_left row items left behind from
  gap_fewer {row} {items} left rest behind from p others is t =
      let shorter : length others < length behind =
      omega (arith, ap length is, ap length t.since.row_is, length-append t.since.seg left) in
      let outer : length others * (length items + 1) + length rest < length behind * (length items + 1) + length from =
      lower (length others) (length behind) (length items + 1) (length rest) (length from) shorter (omega (arith, t.rest_within)) in
      lower (length others * (length items + 1) + length rest) (length behind * (length items + 1) + length from) (length row + 1) (length others) (length left) outer
      (omega (arith, t.left_within, ap length is))

  pub take_fewer : (row : List P) (items : List X) (left : List P) (behind : List P) (from : List X) (p : P) (others : List P)
      → left ≡ p ∷ others → tries_left row items others behind from < tries_left row items left behind from
  take_fewer row items left behind from p others is = omega (arith, ap length is)

  pub next_fewer : {row : List P} {items : List X} (left : List P) (rest : List X) (behind : List P) (from : List X) (x : X) (further : List X)
      → from ≡ x ∷ further → Try row items left rest behind from → tries_left row items behind behind further < tries_left row items left behind from
  next_fewer {row} {items} left rest behind from x further is t =
      lower (length behind * (length items + 1) + length further) (length behind * (length items + 1) + length from) (length row + 1) (length behind) (length left)
      (omega (arith, ap length is)) (omega (arith, t.behind_within))
