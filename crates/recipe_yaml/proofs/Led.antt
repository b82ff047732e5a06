-- Which recipes lead to scanning ones, column by column.
use Rattle.std.proofs.Common.{◌≡◌, ℕ, zero, suc, ◌+◌, ◌-◌, ◌<◌, ◌≤◌, Bool, true, false, ◌||◌, List, [], ◌∷◌, ◌++◌, length, take, drop, get_or, map, Option, Some, None, refl, sym, ap, subst, ◌∙◌, append_assoc, append-nil, arith}
use Rattle.std.specs.Prelude.{slice_index_or, IsTrue, ◌↔◌}
use Rattle.std.proofs.lemmas.List.{drop_all, take_more, take_all}
use Rattle.recipe_yaml.specs.declared.book.Written.{Written}
use Rattle.recipe_yaml.specs.declared.book.WrittenEntry.{WrittenEntry}
use Rattle.recipe_yaml.specs.Leading.{place_from, scans, named_leads, entry_leads, recipe_leads, next_column, column, leads}
use Rattle.recipe_yaml.proofs.Gone.{cut}

module _ (book : List Written) (known : List Bool) (e : WrittenEntry) where
  pub names_leaf : None ≡ place_from 0 e.name book → scans e.name ≡ entry_leads book known e
  unfolding entry_leads
  names_leaf none = ap (named_leads book known e.name) none

  pub names_recipe : (r : ℕ) → Some r ≡ place_from 0 e.name book → slice_index_or known r false ≡ entry_leads book known e
  unfolding entry_leads
  names_recipe r some = ap (named_leads book known e.name) some

pub ruleset entry_by = (names_leaf, names_recipe)

module _ (f : Written → Bool) (book : List Written) (i : ℕ) where
  pub mapped_more : (d : Written) (b : Bool) (done all : List Bool) → i < length book → b ≡ f (get_or book i d) → done ++ map f (drop i book) ≡ all → (done ++ b ∷ []) ++ map f (drop (i + 1) book) ≡ all
  mapped_more d b done all lt is e =
      append_assoc done (b ∷ []) (map f (drop (i + 1) book))
      ∙ (ap (λ x. done ++ x ∷ map f (drop (i + 1) book)) is ∙ (sym (ap (λ xs. done ++ map f xs) (cut book i d lt)) ∙ e))

  pub mapped_end : (done all : List Bool) → length book ≤ i → done ++ map f (drop i book) ≡ all → done ≡ all
  mapped_end done all le e = sym (ap (λ xs. done ++ map f xs) (drop_all i book le) ∙ append-nil done) ∙ e

pub ruleset next_by = (mapped_more, mapped_end)

pub none_start : (book : List Written) → map (λ (r : Written). false) book ≡ column book 0
unfolding column
none_start book = refl

pub ruleset none_by = (mapped_more, mapped_end, none_start)

-- a column that is its next one stays
pub stays_from : (book : List Written) (k n : ℕ) → next_column book (column book k) ≡ column book k → column book (n + k) ≡ column book k
unfolding column
stays_from book k zero same = let e : 0 + k ≡ k = omega arith in ap (column book) e
stays_from book k (suc n) same = let e : suc n + k ≡ suc (n + k) = omega arith in ap (column book) e ∙ (ap (next_column book) (stays_from book k n same) ∙ same)

module _ (book : List Written) (k : ℕ) (last next : List Bool) where
  pub column_next : last ≡ column book k → next ≡ next_column book last → next ≡ column book (k + 1)
  unfolding column
  column_next is n = n ∙ (ap (next_column book) is ∙ (let e : suc k ≡ k + 1 = omega arith in ap (column book) e))

  pub column_stays : (given old : List Bool) (same : Bool) → last ≡ column book k → next ≡ next_column book old → old ≡ last → given ≡ next → (IsTrue same → given ≡ old) → same ≡ true → k ≤ length book → last ≡ column book (length book)
  column_stays given old same is n o g told yes_same le =
      let all : length book - k + k ≡ length book = omega arith in
      let eq : given ≡ old = told (true_is same yes_same) in
      let fixed : next_column book (column book k) ≡ column book k =
      ap (next_column book) (sym is ∙ sym o) ∙ (sym n ∙ (sym g ∙ (eq ∙ (o ∙ is)))) in
      is ∙ (sym (stays_from book k (length book - k) fixed) ∙ ap (column book) all)
    where
      true_is : (b : Bool) → b ≡ true → IsTrue b
      true_is b e = subst IsTrue (sym e) refl

pub column_end : (book : List Written) (k : ℕ) (last : List Bool) → last ≡ column book k → k ≡ length book → last ≡ column book (length book)
column_end book k last is e = is ∙ ap (column book) e

module _ (a b : List Bool) (i : ℕ) where
  pub bits_more : (d : Bool) → i < length a → i < length b → take i a ≡ take i b → get_or a i d ≡ get_or b i d → take (i + 1) a ≡ take (i + 1) b
  bits_more d la lb e h = take_more a i d la ∙ (ap (λ x. x ++ get_or a i d ∷ []) e ∙ (ap (λ x. take i b ++ x ∷ []) h ∙ sym (take_more b i d lb)))

  pub bits_end : length a ≤ i → length b ≤ i → take i a ≡ take i b → a ≡ b
  bits_end la lb e = sym (take_all i a la) ∙ (e ∙ take_all i b lb)

pub ruleset bits_by = (bits_more, bits_end)

pub ruleset columns_by = (column_next, column_stays, column_end)
