-- A test that computes: what is written out for each rule shows that a table has no fault.
use Rattle.std.specs.Prelude.{◌≡◌, ℕ, zero, suc, Bool, true, false, not, ◌&&◌, ◌||◌, nat_eq, nat_lt, List, [], ◌∷◌}
use Rattle.std.specs.Prelude.{◌++◌, length}
use Rattle.rw_grammar.specs.Parts.{Parts, end, one, rule, choice, opt, many, or}
use Rattle.rw_grammar.specs.Faults.{IsSound}

-- of a rule: the classes that can come first, whether it can be empty, its rank
pub record Row : Type 0 where
  pub first : List ℕ
  pub empty : Bool
  pub rank : ℕ

abbrev pub no_row : Row
no_row = record { first = []; empty = false; rank = 0 }

abbrev pub row_of : List Row → ℕ → Row
row_of [] n = no_row
row_of (r ∷ rs) zero = r
row_of (r ∷ rs) (suc n) = row_of rs n

abbrev pub has : ℕ → List ℕ → Bool
has c [] = false
has c (x ∷ xs) = nat_eq c x || has c xs

abbrev pub all_in : List ℕ → List ℕ → Bool
all_in [] f = true
all_in (c ∷ cs) f = has c f && all_in cs f

abbrev pub none_in : List ℕ → List ℕ → Bool
none_in [] f = true
none_in (c ∷ cs) f = not (has c f) && none_in cs f

abbrev pub where_empty : Bool → List ℕ → List ℕ
where_empty true more = more
where_empty false more = []

abbrev pub implies : Bool → Bool → Bool
implies true b = b
implies false b = true

module _ (rows : List Row) where
  abbrev mutual
    pub all_empty : Parts → Bool
    all_empty end = true
    all_empty (one c p) = false
    all_empty (rule r p) = (row_of rows r).empty && all_empty p
    all_empty (choice a p) = some_empty a && all_empty p
    all_empty (opt a p) = all_empty p
    all_empty (many a p) = all_empty p
    all_empty (or a p) = false

    -- one of the alternatives can be empty
    pub some_empty : Parts → Bool
    some_empty (or a p) = all_empty a || some_empty p
    some_empty _ = false

  abbrev mutual
    pub firsts : Parts → List ℕ
    firsts end = []
    firsts (one c p) = c ∷ []
    firsts (rule r p) = (row_of rows r).first ++ (let more = firsts p in where_empty (row_of rows r).empty more)
    firsts (choice a p) = firsts_any a ++ (let more = firsts p in where_empty (some_empty a) more)
    firsts (opt a p) = firsts a ++ firsts p
    firsts (many a p) = firsts a ++ firsts p
    firsts (or a p) = []

    pub firsts_any : Parts → List ℕ
    firsts_any (or a p) = firsts a ++ firsts_any p
    firsts_any _ = []

  -- the ranks of the rules that can come first are below this one
  abbrev mutual
    pub falls : ℕ → Parts → Bool
    falls n end = true
    falls n (one c p) = true
    falls n (rule r p) = nat_lt (row_of rows r).rank n && (let more = falls n p in implies (row_of rows r).empty more)
    falls n (choice a p) = falls_any n a && (let more = falls n p in implies (some_empty a) more)
    falls n (opt a p) = falls n a && falls n p
    falls n (many a p) = falls n a && falls n p
    falls n (or a p) = true

    pub falls_any : ℕ → Parts → Bool
    falls_any n (or a p) = falls n a && falls_any n p
    falls_any n _ = true

  -- the alternatives share no first class, and at most one of them can be empty
  abbrev pub apart : Parts → Bool
  apart (or a p) = (none_in (firsts a) (firsts_any p) && not (all_empty a && some_empty p)) && apart p
  apart _ = true

  -- alternatives are apart, what is repeated or optional isn't empty, and each rule is there
  abbrev pub is_fine : ℕ → Parts → Bool
  is_fine count end = true
  is_fine count (one c p) = is_fine count p
  is_fine count (rule r p) = nat_lt r count && is_fine count p
  is_fine count (choice a p) = apart a && (is_fine count a && is_fine count p)
  is_fine count (opt a p) = not (all_empty a) && (is_fine count a && is_fine count p)
  is_fine count (many a p) = not (all_empty a) && (is_fine count a && is_fine count p)
  is_fine count (or a p) = is_fine count a && is_fine count p

  -- a rule is as its row says
  abbrev pub agrees : ℕ → Row → Parts → Bool
  agrees count r p = all_in (firsts p) r.first && (implies (all_empty p) r.empty && (falls r.rank p && is_fine count p))

  abbrev pub agree_from : ℕ → List Row → List Parts → Bool
  agree_from count [] [] = true
  agree_from count (r ∷ rs) (p ∷ ps) = agrees count r p && agree_from count rs ps
  agree_from count _ _ = false

-- each rule is as its row says
abbrev pub is_closed : List Row → List Parts → Bool
is_closed rows rules = agree_from rows (length rules) rows rules

abbrev pub ClosedIsSound : Type 0
ClosedIsSound = (rows : List Row) (rules : List Parts) → is_closed rows rules ≡ true → IsSound rules
