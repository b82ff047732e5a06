-- How far a text goes up to its last line end, byte by byte.
use Rattle.std.proofs.Common.{◌≡◌, ℕ, ◌+◌, ◌<◌, ◌≤◌, Bool, true, false, ◌||◌, List, [], ◌∷◌, ◌++◌, length, take, drop, get_or, refl, sym, ap, ◌∙◌, inl, inr, append_assoc, append-nil, add-one, drop-cons}
use Rattle.std.specs.Prelude.{if◌then◌else◌}
use Rattle.std.specs.List.{list_any}
use Rattle.std.proofs.lemmas.Bool.{cases_Bool}
use Rattle.std.proofs.lemmas.List.{drop_all, take_more}
use Rattle.properties_tree.specs.Characters.{is_line_end}
use Rattle.conf_recipes.specs.PropertiesRecipes.{through_last_end}

-- where a line end is still to come, what stands before it is kept
abbrev pub kept_by : List ℕ → ℕ → ℕ → List ℕ
kept_by text i kept = if list_any is_line_end (drop i text) then take i text ++ through_last_end (drop i text) else take kept text

none_kept : (xs : List ℕ) → list_any is_line_end xs ≡ false → through_last_end xs ≡ []
unfolding through_last_end
none_kept [] e = refl
none_kept (b ∷ xs) e = rw e refl

some_kept : (b : ℕ) (xs : List ℕ) → list_any is_line_end (b ∷ xs) ≡ true → through_last_end (b ∷ xs) ≡ b ∷ through_last_end xs
unfolding through_last_end
some_kept b xs e = rw e refl

pub start_kept : (text : List ℕ) → kept_by text 0 0 ≡ through_last_end text
start_kept text = elim (cases_Bool (list_any is_line_end text)) [
  | inl some ↦ rw some refl
  | inr none ↦ rw none (sym (none_kept text none))
]

module _ (text : List ℕ) (i kept : ℕ) (lt : i < length text) where
  abbrev byte : ℕ
  byte = get_or text i 0

  abbrev rest : List ℕ
  rest = drop (i + 1) text

  cut : drop i text ≡ byte ∷ rest
  cut = drop-cons text i 0 lt ∙ rw add-one refl

  longer : (xs : List ℕ) → take (i + 1) text ++ xs ≡ take i text ++ byte ∷ xs
  longer xs = ap (λ ys. ys ++ xs) (take_more text i 0 lt) ∙ append_assoc (take i text) (byte ∷ []) xs

  opened : (b : Bool) → list_any is_line_end (byte ∷ rest) ≡ b → kept_by text i kept ≡ (if b then take i text ++ through_last_end (byte ∷ rest) else take kept text)
  opened b e = ap (λ xs. if list_any is_line_end xs then take i text ++ through_last_end xs else take kept text) cut ∙ ap (λ c. if c then take i text ++ through_last_end (byte ∷ rest) else take kept text) e

  more_kept : (new : ℕ) → list_any is_line_end (byte ∷ rest) ≡ true → list_any is_line_end rest ≡ true → kept_by text (i + 1) new ≡ kept_by text i kept
  more_kept new e more = rw more (longer (through_last_end rest)) ∙ sym (opened true e ∙ ap (λ xs. take i text ++ xs) (some_kept byte rest e))

  pub end_kept : (all : List ℕ) → is_line_end byte ≡ true → kept_by text i kept ≡ all → kept_by text (i + 1) (i + 1) ≡ all
  end_kept all here e =
      let any : list_any is_line_end (byte ∷ rest) ≡ true = ap (λ b. b || list_any is_line_end rest) here in
      elim (cases_Bool (list_any is_line_end rest)) [
        | inl more ↦ more_kept (i + 1) any more ∙ e
        | inr none ↦
            rw none (sym (append-nil (take (i + 1) text))) ∙ (longer [] ∙ (sym (opened true any ∙ (ap (λ xs. take i text ++ xs) (some_kept byte rest any ∙ ap (λ xs. byte ∷ xs) (none_kept rest none)))) ∙ e))
      ]

  pub other_kept : (all : List ℕ) → is_line_end byte ≡ false → kept_by text i kept ≡ all → kept_by text (i + 1) kept ≡ all
  other_kept all here e =
      let same : list_any is_line_end (byte ∷ rest) ≡ list_any is_line_end rest = ap (λ b. b || list_any is_line_end rest) here in
      elim (cases_Bool (list_any is_line_end rest)) [
        | inl more ↦ more_kept kept (same ∙ more) more ∙ e
        | inr none ↦ rw none (sym (opened false (same ∙ none))) ∙ e
      ]

pub last_kept : (text : List ℕ) (i kept : ℕ) (all : List ℕ) → length text ≤ i → kept_by text i kept ≡ all → take kept text ≡ all
last_kept text i kept all le e = sym (ap (λ xs. if list_any is_line_end xs then take i text ++ through_last_end xs else take kept text) (drop_all i text le)) ∙ e

pub ruleset last_ends = (start_kept, end_kept, other_kept, last_kept)
