-- What cells stand for, and how their alternatives are looked at.
use Rattle.std.proofs.Common.{◌≡◌, ℕ, zero, suc, ◌+◌, ◌<◌, ◌≤◌, List, [], ◌∷◌, ◌++◌, length, get_or, arith, refl, sym, ◌∙◌, ap, subst, inl, inr, Bool, true, false, ◌&&◌, ◌||◌, append_assoc, append-nil, length-append, cond}
use Rattle.std.specs.Prelude.{◌⊎◌, Option, Some, None, map, find, slice_get, unwrap_or}
use Rattle.std.specs.List.{list_any}
use Rattle.std.specs.Option.{option_map_or}
use Rattle.std.proofs.lemmas.Bool.{false≢true}
use Rattle.std.proofs.lemmas.List.{get_or_past}
use Rattle.std.proofs.lemmas.Option.{slice_get-get_or, slice_get_past, unwrap_or-slice_get}
use Rattle.std.proofs.Math.ListN.{get_or-append}
use Rattle.std.proofs.Math.Seq.{get_or-append_seam}
use Rattle.rw_base.specs.Rows.{value, row_values}
use Rattle.rw_base.specs.RowLaws.{value_at}
use Rattle.rw_grammar.specs.declared.cells.Cell.{Cell}
use Rattle.rw_grammar.specs.declared.cells.Cell.TheVariants as cell
use Rattle.rw_grammar.specs.Parts.{Parts, end, one, rule, choice, opt, many, IsAt, here, past, rule_of, no_rule}
use Rattle.rw_grammar.specs.Cells.{any_of, grown, shape_at, rules_at, cell_at, AllBelow, NamesBelow, AreCells, root_at, column_at}

-- ---- truth values

pub left_of : (a b : Bool) → (a && b) ≡ true → a ≡ true
left_of true b h = refl
left_of false b h = absurd (false≢true h)

pub right_of : (a b : Bool) → (a && b) ≡ true → b ≡ true
right_of true b h = h
right_of false b h = absurd (false≢true h)

pub both_of : (a b : Bool) → a ≡ true → b ≡ true → (a && b) ≡ true
both_of a b p q = rw (p, q) refl

pub first_holds : (a b : Bool) → a ≡ true → (a || b) ≡ true
first_holds a b h = rw h refl

pub second_holds : (a b : Bool) → b ≡ true → (a || b) ≡ true
second_holds true b h = refl
second_holds false b h = h

pub one_holds : (a b : Bool) → (a || b) ≡ true → (a ≡ true) ⊎ (b ≡ true)
one_holds true b h = inl refl
one_holds false b h = inr h

-- ---- what a cell stands for

same_map : (n : ℕ) (ys : List ℕ) → AllBelow n ys → (f h : ℕ → Parts) → ((m : ℕ) → m < n → f m ≡ h m) → map f ys ≡ map h ys
same_map n [] b f h q = refl
same_map n (y ∷ ys) b f h q =
    let first = q y (b 0 (omega arith)) in
    let rest = same_map n ys (λ k lt. b (suc k) (omega arith)) f h q in
    ap (λ p. p ∷ map f ys) first ∙ ap (λ ps. h y ∷ ps) rest

grown_reads : (n : ℕ) (c : Cell) → NamesBelow n c → (f h : ℕ → Parts) → ((m : ℕ) → m < n → f m ≡ h m) → grown f c ≡ grown h c
grown_reads n cell.End b f h q = refl
grown_reads n (cell.One c k) b f h q = ap (one c) (q k b)
grown_reads n (cell.Rule r k) b f h q = ap (rule r) (q k b)
grown_reads n (cell.Choice ys k) b f h q = ap (λ ps. choice (any_of ps) (f k)) (same_map n ys b.0 f h q) ∙ ap (choice (any_of (map h ys))) (q k b.1)
grown_reads n (cell.Opt x k) b f h q = ap (λ p. opt p (f k)) (q x b.0) ∙ ap (opt (h x)) (q k b.1)
grown_reads n (cell.Many x k) b f h q = ap (λ p. many p (f k)) (q x b.0) ∙ ap (many (h x)) (q k b.1)

pub shape_is : (cells : List Cell) (n : ℕ) → AreCells cells → n < length cells → shape_at cells n ≡ grown (shape_at cells) (cell_at cells n)
unfolding shape_at
shape_is cells n named lt =
    value_at end (λ m c f. grown f c) cells n (cell_at cells n) (slice_get-get_or cells n cell.End lt)
    (λ f h q. grown_reads n (cell_at cells n) (named n lt) f h q)

abbrev step : ℕ → Cell → (ℕ → Parts) → Parts
step m c f = grown f c

folded_append : (vs : List Parts) (xs ys : List Cell) → row_values end step vs (xs ++ ys) ≡ row_values end step (row_values end step vs xs) ys
folded_append vs [] ys = refl
folded_append vs (r ∷ xs) ys = folded_append (vs ++ grown (λ m. get_or vs m end) r ∷ []) xs ys

row_values_front : (vs : List Parts) (rs : List Cell) → (more : List Parts) × (row_values end step vs rs ≡ vs ++ more)
row_values_front vs [] = ([], sym (append-nil vs))
row_values_front vs (r ∷ rs) =
    let x = grown (λ m. get_or vs m end) r in
    let e = row_values_front (vs ++ x ∷ []) rs in
    (x ∷ e.0, e.1 ∙ append_assoc vs (x ∷ []) e.0)

length-row_values : (vs : List Parts) (rs : List Cell) → length (row_values end step vs rs) ≡ length vs + length rs
length-row_values vs [] = omega arith
length-row_values vs (r ∷ rs) =
    let x = grown (λ m. get_or vs m end) r in
    omega (arith, length-row_values (vs ++ x ∷ []) rs, length-append vs (x ∷ []))

-- further cells don't change what cells stand for
pub shape_append : (xs ys : List Cell) (n : ℕ) → n < length xs → shape_at (xs ++ ys) n ≡ shape_at xs n
unfolding shape_at value
shape_append xs ys n lt =
    let e = row_values_front (row_values end step [] xs) ys in
    let long : n < length (row_values end step [] xs) = omega (arith, length-row_values [] xs) in
    ap (λ vs. get_or vs n end) (folded_append [] xs ys ∙ e.1) ∙ get_or-append (row_values end step [] xs) e.0 end n long

-- the next cell stands for its shape in front of what it names
pub shape_last : (xs : List Cell) (c : Cell) → shape_at (xs ++ c ∷ []) (length xs) ≡ grown (shape_at xs) c
unfolding shape_at value
shape_last xs c =
    let vs = row_values end step [] xs in
    let long : length xs ≡ length vs = omega (arith, length-row_values [] xs) in
    ap (λ us. get_or us (length xs) end) (folded_append [] xs (c ∷ [])) ∙ (ap (λ n. get_or (vs ++ grown (λ m. get_or vs m end) c ∷ []) n end) long ∙ get_or-append_seam vs (grown (λ m. get_or vs m end) c) [] end)

below_more : (n m : ℕ) (ys : List ℕ) → n ≤ m → AllBelow n ys → AllBelow m ys
below_more n m ys le b k lt = omega (arith, b k lt)

pub names_more : (n m : ℕ) (c : Cell) → n ≤ m → NamesBelow n c → NamesBelow m c
names_more n m cell.End le b = tt
names_more n m (cell.One c k) le b = omega arith
names_more n m (cell.Rule r k) le b = omega arith
names_more n m (cell.Choice ys k) le b = (below_more n m ys le b.0, omega (arith, b.1))
names_more n m (cell.Opt x k) le b = (omega (arith, b.0), omega (arith, b.1))
names_more n m (cell.Many x k) le b = (omega (arith, b.0), omega (arith, b.1))

pub names_inside : (cells : List Cell) (n : ℕ) → AreCells cells → n < length cells → NamesBelow (length cells) (cell_at cells n)
names_inside cells n named lt = names_more n (length cells) (cell_at cells n) (omega arith) (named n lt)

-- ---- alternatives

module _ (f : ℕ → Parts) where
  -- an alternative by its cell
  pub record Among (ys : List ℕ) (i y : ℕ) : Type 0 where
    pub at : IsAt i (f y) (any_of (map f ys))
    pub inside : (n : ℕ) → AllBelow n ys → y < n
    pub any : (p : ℕ → Bool) → p y ≡ true → list_any p ys ≡ true
    pub unfound : (p : ℕ → Bool) → find p ys ≡ None → p y ≡ false

  among_first : (y : ℕ) (ys : List ℕ) → Among (y ∷ ys) 0 y
  among_first y ys = record {
    at = here;
    inside = λ n b. b 0 (omega arith);
    any = λ p h. first_holds (p y) (list_any p ys) h;
    unfound = λ p h. not_found (p y) (Some y) (find p ys) h (λ e. cc);
  }
    where
      not_found : (b : Bool) (o q : Option ℕ) → cond b o q ≡ None → (o ≡ None → ⊥) → b ≡ false
      not_found true o q h n = absurd (n h)
      not_found false o q h n = refl

  among_next : (x i y : ℕ) (ys : List ℕ) → Among ys i y → Among (x ∷ ys) (suc i) y
  among_next x i y ys a = record {
    at = past a.at;
    inside = λ n b. a.inside n (λ k lt. b (suc k) (omega arith));
    any = λ p h. second_holds (p x) (list_any p ys) (a.any p h);
    unfound = λ p h. a.unfound p (rest (p x) (Some x) (find p ys) h (λ e. cc));
  }
    where
      rest : (b : Bool) (o q : Option ℕ) → cond b o q ≡ None → (o ≡ None → ⊥) → q ≡ None
      rest true o q h n = absurd (n h)
      rest false o q h n = h

  -- each alternative is that of a cell
  none_among : {i : ℕ} {z : Parts} → IsAt i z end → ⊥
  none_among p = elim p [ ]

  pub alternative : (ys : List ℕ) (i : ℕ) (z : Parts) → IsAt i z (any_of (map f ys)) → (y : ℕ) × Among ys i y × (z ≡ f y)
  alternative [] i z p = absurd (none_among p)
  alternative (y ∷ ys) _ _ here = (y, among_first y ys, refl)
  alternative (y ∷ ys) _ z (past {i = i} p) = let r = alternative ys i z p in (r.0, among_next y i r.0 ys r.1, r.2)

  pub found : (p : ℕ → Bool) (ys : List ℕ) (y : ℕ) → find p ys ≡ Some y → (i : ℕ) × Among ys i y × (p y ≡ true)
  found p [] y h = absurd (cc)
  found p (x ∷ ys) y h = go (λ q. found p ys y q) (p x) refl h
    where
      go : (find p ys ≡ Some y → (i : ℕ) × Among ys i y × (p y ≡ true)) → (b : Bool) → p x ≡ b → cond b (Some x) (find p ys) ≡ Some y → (i : ℕ) × Among (x ∷ ys) i y × (p y ≡ true)
      go rest true e q = let same : x ≡ y = cc in (0, subst (Among (x ∷ ys) 0) same (among_first x ys), subst (λ w. p w ≡ true) same e)
      go rest false e q = let r = rest q in (suc r.0, among_next x r.0 y ys r.1, r.2)

  pub some_one : (p : ℕ → Bool) (ys : List ℕ) → list_any p ys ≡ true → (i : ℕ) × (y : ℕ) × Among ys i y × (p y ≡ true)
  some_one p [] h = absurd (false≢true h)
  some_one p (x ∷ ys) h = elim (one_holds (p x) (list_any p ys) h) [
    | inl e ↦ (0, x, among_first x ys, e)
    | inr e ↦ let r = some_one p ys e in (suc r.0, r.1, among_next x r.0 r.1 ys r.2, r.3)
  ]

-- ---- the first cells of rules

module _ (cells : List Cell) (roots : List ℕ) where
  mapped : (f : ℕ → Parts) (rs : List ℕ) (r : ℕ) (d : Parts) → r < length rs → get_or (map f rs) r d ≡ f (get_or rs r 0)
  mapped f [] r d lt = absurd (omega arith)
  mapped f (x ∷ rs) zero d lt = refl
  mapped f (x ∷ rs) (suc r) d lt = mapped f rs r d (omega arith)

  length-mapped : (f : ℕ → Parts) (rs : List ℕ) → length (map f rs) ≡ length rs
  length-mapped f [] = refl
  length-mapped f (x ∷ rs) = ap suc (length-mapped f rs)

  pub rule_count : length (rules_at cells roots) ≡ length roots
  rule_count = length-mapped (shape_at cells) roots

  pub rule_is : (r : ℕ) → r < length roots → rule_of (rules_at cells roots) r ≡ shape_at cells (get_or roots r 0)
  rule_is r lt = mapped (shape_at cells) roots r no_rule lt

  pub no_rule_is : (r : ℕ) → length roots ≤ r → rule_of (rules_at cells roots) r ≡ no_rule
  no_rule_is r le = get_or_past (rules_at cells roots) r no_rule (omega (arith, rule_count))

  pub root_there : (r : ℕ) (f : ℕ → Bool) → r < length roots → root_at roots r f ≡ f (get_or roots r 0)
  root_there r f lt = ap (λ o. option_map_or f o false) (slice_get-get_or roots r 0 lt)

  pub root_absent : (r : ℕ) (f : ℕ → Bool) → length roots ≤ r → root_at roots r f ≡ false
  root_absent r f le = ap (λ o. option_map_or f o false) (slice_get_past roots r le)

-- a class beyond the columns has none
pub column_absent : (columns : List (List Bool)) (c : ℕ) → slice_get columns c ≡ None → column_at columns c ≡ []
column_absent columns c h = sym (unwrap_or-slice_get columns c []) ∙ ap (λ o. unwrap_or o []) h
