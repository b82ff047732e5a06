-- Columns grow until they stay.
use Rattle.std.proofs.Common.{◌≡◌, ℕ, zero, suc, ◌+◌, ◌-◌, ◌<◌, ◌≤◌, Bool, true, false, ◌||◌, List, [], ◌∷◌, length, map, Option, Some, None, refl, sym, ap, subst, ◌∙◌, inl, inr, arith}
use Rattle.std.specs.Prelude.{slice_index_or, IsTrue, ◌⊎◌}
use Rattle.std.specs.List.{list_any}
use Rattle.std.proofs.lemmas.Bool.{false≢true}
use Rattle.recipe_yaml.specs.declared.book.Written.{Written}
use Rattle.recipe_yaml.specs.declared.book.WrittenEntry.{WrittenEntry}
use Rattle.recipe_yaml.specs.Leading.{place_from, scans, named_leads, entry_leads, recipe_leads, next_column, column, leads, AnyNumberLeads}
use Rattle.recipe_yaml.proofs.Led.{stays_from}

-- ---- bits

abbrev pub Under : List Bool → List Bool → Type 0
Under [] [] = Unit {0}
Under (x ∷ xs) (y ∷ ys) = (IsTrue x → IsTrue y) × Under xs ys
Under [] (y ∷ ys) = ⊥
Under (x ∷ xs) [] = ⊥

abbrev pub trues : List Bool → ℕ
trues [] = 0
trues (true ∷ xs) = trues xs + 1
trues (false ∷ xs) = trues xs

bit_under : (xs ys : List Bool) (r : ℕ) → Under xs ys → IsTrue (slice_index_or xs r false) → IsTrue (slice_index_or ys r false)
bit_under [] [] r u h = h
bit_under [] (y ∷ ys) r u h = absurd u
bit_under (x ∷ xs) [] r u h = absurd u
bit_under (x ∷ xs) (y ∷ ys) zero u h = u.0 h
bit_under (x ∷ xs) (y ∷ ys) (suc r) u h = bit_under xs ys r u.1 h

few_trues : (xs : List Bool) → trues xs ≤ length xs
few_trues [] = omega arith
few_trues (true ∷ xs) = let le = few_trues xs in omega arith
few_trues (false ∷ xs) = let le = few_trues xs in omega arith

trues_under : (xs ys : List Bool) → Under xs ys → trues xs ≤ trues ys
trues_under [] [] u = omega arith
trues_under [] (y ∷ ys) u = absurd u
trues_under (x ∷ xs) [] u = absurd u
trues_under (true ∷ xs) (true ∷ ys) u = let le = trues_under xs ys u.1 in omega arith
trues_under (true ∷ xs) (false ∷ ys) u = absurd (false≢true (u.0 refl))
trues_under (false ∷ xs) (true ∷ ys) u = let le = trues_under xs ys u.1 in omega arith
trues_under (false ∷ xs) (false ∷ ys) u = let le = trues_under xs ys u.1 in omega arith

grown : (xs ys : List Bool) → Under xs ys → (ys ≡ xs) ⊎ (trues xs < trues ys)
grown [] [] u = inl refl
grown [] (y ∷ ys) u = absurd u
grown (x ∷ xs) [] u = absurd u
grown (true ∷ xs) (true ∷ ys) u = elim (grown xs ys u.1) [ inl e ↦ inl (ap (λ zs. true ∷ zs) e) | inr lt ↦ inr (omega arith) ]
grown (true ∷ xs) (false ∷ ys) u = absurd (false≢true (u.0 refl))
grown (false ∷ xs) (true ∷ ys) u = let le = trues_under xs ys u.1 in inr (omega arith)
grown (false ∷ xs) (false ∷ ys) u = elim (grown xs ys u.1) [ inl e ↦ inl (ap (λ zs. false ∷ zs) e) | inr lt ↦ inr lt ]

-- ---- what more bits give

or_left : (c d : Bool) → IsTrue c → IsTrue (c || d)
or_left true d h = refl
or_left false d h = absurd (false≢true h)

or_right : (c d : Bool) → IsTrue d → IsTrue (c || d)
or_right true d h = refl
or_right false d h = h

or_under : (a b c d : Bool) → (IsTrue a → IsTrue c) → (IsTrue b → IsTrue d) → IsTrue (a || b) → IsTrue (c || d)
or_under true b c d f g h = or_left c d (f refl)
or_under false b c d f g h = or_right c d (g h)

any_under : (p q : WrittenEntry → Bool) → ((e : WrittenEntry) → IsTrue (p e) → IsTrue (q e)) → (es : List WrittenEntry) → IsTrue (list_any p es) → IsTrue (list_any q es)
any_under p q f [] h = h
any_under p q f (e ∷ es) h = or_under (p e) (list_any p es) (q e) (list_any q es) (f e) (any_under p q f es) h

module _ (book : List Written) where
  named_under : (xs ys : List Bool) (name : List ℕ) (o : Option ℕ) → Under xs ys → IsTrue (named_leads book xs name o) → IsTrue (named_leads book ys name o)
  named_under xs ys name None u h = h
  named_under xs ys name (Some r) u h = bit_under xs ys r u h

  recipe_under : (xs ys : List Bool) → Under xs ys → (r : Written) → IsTrue (recipe_leads book xs r) → IsTrue (recipe_leads book ys r)
  unfolding recipe_leads entry_leads
  recipe_under xs ys u r h =
      let f : (e : WrittenEntry) → IsTrue (entry_leads book xs e) → IsTrue (entry_leads book ys e) = λ e t. named_under xs ys e.name (place_from 0 e.name book) u t in
      or_under (list_any (entry_leads book xs) r.conditions) (list_any (entry_leads book xs) r.list) (list_any (entry_leads book ys) r.conditions) (list_any (entry_leads book ys) r.list)
      (any_under (entry_leads book xs) (entry_leads book ys) f r.conditions) (any_under (entry_leads book xs) (entry_leads book ys) f r.list) h

  map_under : (f g : Written → Bool) → ((r : Written) → IsTrue (f r) → IsTrue (g r)) → (rs : List Written) → Under (map f rs) (map g rs)
  map_under f g h [] = tt
  map_under f g h (r ∷ rs) = (h r, map_under f g h rs)

  more : (k : ℕ) → Under (column book k) (column book (suc k))
  unfolding column
  more zero = map_under (λ r. false) (recipe_leads book (column book 0)) (λ r h. absurd (false≢true h)) book
  more (suc k) = map_under (recipe_leads book (column book k)) (recipe_leads book (column book (suc k))) (recipe_under (column book k) (column book (suc k)) (more k)) book

  long_map : (f : Written → Bool) (rs : List Written) → length (map f rs) ≡ length rs
  long_map f [] = refl
  long_map f (r ∷ rs) = ap suc (long_map f rs)

  long : (k : ℕ) → length (column book k) ≡ length book
  unfolding column
  long zero = long_map (λ r. false) book
  long (suc k) = long_map (recipe_leads book (column book k)) book

  Settled : ℕ → Type 0
  Settled k = (j : ℕ) × (j < k) × (column book (suc j) ≡ column book j)

  settles : (k : ℕ) → Settled k ⊎ (k ≤ trues (column book k))
  unfolding Settled
  settles zero = inr (omega arith)
  settles (suc k) = elim (settles k) [
    | inl s ↦ inl (s.0, let lt = s.1 in omega arith, s.2)
    | inr le ↦ elim (grown (column book k) (column book (suc k)) (more k)) [
      | inl same ↦ inl (k, omega arith, same)
      | inr lt ↦ inr (omega arith)
    ]
  ]

  later : (d m r : ℕ) → IsTrue (slice_index_or (column book m) r false) → IsTrue (slice_index_or (column book (d + m)) r false)
  later zero m r h = let e : m ≡ 0 + m = omega arith in subst (λ n. IsTrue (slice_index_or (column book n) r false)) e h
  later (suc d) m r h =
      let e : suc (d + m) ≡ suc d + m = omega arith in
      subst (λ n. IsTrue (slice_index_or (column book n) r false)) e (bit_under (column book (d + m)) (column book (suc (d + m))) r (more (d + m)) (later d m r h))

  same_from : (j n : ℕ) → j ≤ n → column book (suc j) ≡ column book j → column book n ≡ column book j
  unfolding column
  same_from j n le same = let e : n ≡ n - j + j = omega arith in ap (column book) e ∙ stays_from book j (n - j) same

  by_settled : (k r : ℕ) → Settled (suc (length book)) → IsTrue (slice_index_or (column book k) r false) → IsTrue (leads book r)
  unfolding Settled leads
  by_settled k r s h =
      let lt = s.1 in
      elim (before k (length book)) [
        | inl le ↦
            let e : length book - k + k ≡ length book = omega arith in
            subst (λ n. IsTrue (slice_index_or (column book n) r false)) e (later (length book - k) k r h)
        | inr gt ↦
            let same : column book k ≡ column book (length book) = same_from s.0 k (omega arith) s.2 ∙ sym (same_from s.0 (length book) (omega arith) s.2) in
            subst (λ xs. IsTrue (slice_index_or xs r false)) same h
      ]
    where
      before : (a b : ℕ) → (a ≤ b) ⊎ (b < a)
      before zero b = inl (omega arith)
      before (suc a) zero = inr (omega arith)
      before (suc a) (suc b) = elim (before a b) [ inl le ↦ inl (omega arith) | inr gt ↦ inr (omega arith) ]

  any_leads : (k r : ℕ) → IsTrue (slice_index_or (column book k) r false) → IsTrue (leads book r)
  any_leads k r h = elim (settles (suc (length book))) [
    | inl s ↦ by_settled k r s h
    | inr le ↦
        let few = few_trues (column book (suc (length book))) in
        let size = long (suc (length book)) in
        absurd (omega arith)
  ]

pub any_number : AnyNumberLeads
any_number book k r h = any_leads book k r h
