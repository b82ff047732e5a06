-- Two states side by side, and what is written for their differences.
use Rattle.std.proofs.Common.{◌≡◌, ℕ, ◌<◌, ◌≤◌, ◌+◌, ◌++◌, List, [], ◌∷◌, length, drop, get_or, refl, sym, ap, ◌∙◌, append_assoc, append-nil, add-one, drop-cons}
use Rattle.std.specs.Ordering.{nat_cmp, match_ordering}
use Rattle.std.specs.Cmp.Lexicographic.{slice_cmp}
use Rattle.std.specs.declared.cmp.Ordering.TheVariants.{Less, Equal, Greater}
use Rattle.std.proofs.lemmas.List.{drop_all}
use Rattle.kept_files.specs.States.{State}
use Rattle.kept_files.specs.declared.file.KeptFile.{KeptFile}
use Rattle.rewrite_cli.specs.declared.changes.Change.{Change}
use Rattle.rewrite_cli.specs.declared.changes.Change.TheVariants.{Created, Removed}
use Rattle.rewrite_cli.specs.Changes.{changed_to, against, changes}

cut : {A : Type 0} (xs : List A) (i : ℕ) (d : A) → i < length xs → drop i xs ≡ get_or xs i d ∷ drop (i + 1) xs
cut xs i d lt = drop-cons xs i d lt ∙ rw add-one refl

-- ---- the rest of one of them

pub none_left : changes [] [] ≡ []
unfolding changes
none_left = refl

removed_front : (f : KeptFile) (fs : State) → changes (f ∷ fs) [] ≡ Removed f ∷ changes fs []
unfolding changes
removed_front f fs = refl

created_front : (g : KeptFile) (gs : State) → changes [] (g ∷ gs) ≡ Created g ∷ changes [] gs
unfolding changes
created_front g gs = refl

-- so much is noted of the files from a place on, and the rest is still to come
abbrev pub Notes : List Change → List Change → List Change → Type 0
Notes out rest all = out ++ rest ≡ all

pub removed_more : (fs : State) (i : ℕ) (d : KeptFile) (out all : List Change) → i < length fs → Notes out (changes (drop i fs) []) all
    → Notes (out ++ Removed (get_or fs i d) ∷ []) (changes (drop (i + 1) fs) []) all
removed_more fs i d out all lt h =
    append_assoc out (Removed (get_or fs i d) ∷ []) (changes (drop (i + 1) fs) [])
    ∙ (sym (ap (λ cs. out ++ cs) (ap (λ xs. changes xs []) (cut fs i d lt) ∙ removed_front (get_or fs i d) (drop (i + 1) fs))) ∙ h)

pub created_more : (gs : State) (i : ℕ) (d : KeptFile) (out all : List Change) → i < length gs → Notes out (changes [] (drop i gs)) all
    → Notes (out ++ Created (get_or gs i d) ∷ []) (changes [] (drop (i + 1) gs)) all
created_more gs i d out all lt h =
    append_assoc out (Created (get_or gs i d) ∷ []) (changes [] (drop (i + 1) gs))
    ∙ (sym (ap (λ cs. out ++ cs) (ap (λ xs. changes [] xs) (cut gs i d lt) ∙ created_front (get_or gs i d) (drop (i + 1) gs))) ∙ h)

pub removed_end : (fs : State) (i : ℕ) (out all : List Change) → length fs ≤ i → Notes out (changes (drop i fs) []) all → out ≡ all
removed_end fs i out all le h = sym (ap (λ xs. out ++ changes xs []) (drop_all i fs le) ∙ (ap (λ cs. out ++ cs) none_left ∙ append-nil out)) ∙ h

pub created_end : (gs : State) (i : ℕ) (out all : List Change) → length gs ≤ i → Notes out (changes [] (drop i gs)) all → out ≡ all
created_end gs i out all le h = sym (ap (λ xs. out ++ changes [] xs) (drop_all i gs le) ∙ (ap (λ cs. out ++ cs) none_left ∙ append-nil out)) ∙ h

pub ruleset tails = (removed_more, created_more, removed_end, created_end)

-- ---- both

module _ (fs gs : State) (i j : ℕ) (d e : KeptFile) (out all : List Change) (lt : i < length fs) (mt : j < length gs) (h : Notes out (changes (drop i fs) (drop j gs)) all) where
  both : changes (drop i fs) (drop j gs) ≡ match_ordering (slice_cmp nat_cmp (get_or fs i d).path (get_or gs j e).path)
      (Removed (get_or fs i d) ∷ changes (drop (i + 1) fs) (get_or gs j e ∷ drop (j + 1) gs))
      (changed_to (get_or fs i d) (get_or gs j e) ++ changes (drop (i + 1) fs) (drop (j + 1) gs))
      (Created (get_or gs j e) ∷ against (get_or fs i d) (changes (drop (i + 1) fs)) (drop (j + 1) gs))
  unfolding changes
  both = ap (λ xs. changes xs (drop j gs)) (cut fs i d lt) ∙ ap (λ ys. changes (get_or fs i d ∷ drop (i + 1) fs) ys) (cut gs j e mt)

  pub less : slice_cmp nat_cmp (get_or fs i d).path (get_or gs j e).path ≡ Less → Notes (out ++ Removed (get_or fs i d) ∷ []) (changes (drop (i + 1) fs) (drop j gs)) all
  less c =
      append_assoc out (Removed (get_or fs i d) ∷ []) (changes (drop (i + 1) fs) (drop j gs))
      ∙ (sym (ap (λ cs. out ++ cs) (both ∙ (rw c (ap (λ ys. Removed (get_or fs i d) ∷ changes (drop (i + 1) fs) ys) (sym (cut gs j e mt)))))) ∙ h)

  pub equal : slice_cmp nat_cmp (get_or fs i d).path (get_or gs j e).path ≡ Equal → Notes (out ++ changed_to (get_or fs i d) (get_or gs j e)) (changes (drop (i + 1) fs) (drop (j + 1) gs)) all
  equal c =
      append_assoc out (changed_to (get_or fs i d) (get_or gs j e)) (changes (drop (i + 1) fs) (drop (j + 1) gs))
      ∙ (sym (ap (λ cs. out ++ cs) (both ∙ rw c refl)) ∙ h)

  against_is : against (get_or fs i d) (changes (drop (i + 1) fs)) (drop (j + 1) gs) ≡ changes (drop i fs) (drop (j + 1) gs)
  unfolding changes
  against_is = sym (ap (λ xs. changes xs (drop (j + 1) gs)) (cut fs i d lt))

  pub greater : slice_cmp nat_cmp (get_or fs i d).path (get_or gs j e).path ≡ Greater → Notes (out ++ Created (get_or gs j e) ∷ []) (changes (drop i fs) (drop (j + 1) gs)) all
  greater c =
      append_assoc out (Created (get_or gs j e) ∷ []) (changes (drop i fs) (drop (j + 1) gs))
      ∙ (sym (ap (λ cs. out ++ cs) (both ∙ (rw c (ap (λ cs. Created (get_or gs j e) ∷ cs) against_is)))) ∙ h)

-- one of them is at its end

pub first_done : (fs gs : State) (i j : ℕ) (out all : List Change) → length fs ≤ i → Notes out (changes (drop i fs) (drop j gs)) all
    → (out ++ changes (drop i fs) []) ++ changes [] (drop j gs) ≡ all
first_done fs gs i j out all le h =
    ap (λ cs. cs ++ changes [] (drop j gs)) (ap (λ xs. out ++ changes xs []) (drop_all i fs le) ∙ (ap (λ cs. out ++ cs) none_left ∙ append-nil out))
    ∙ (sym (ap (λ xs. out ++ changes xs (drop j gs)) (drop_all i fs le)) ∙ h)

pub last_done : (fs gs : State) (i j : ℕ) (out all : List Change) → length gs ≤ j → Notes out (changes (drop i fs) (drop j gs)) all
    → (out ++ changes (drop i fs) []) ++ changes [] (drop j gs) ≡ all
last_done fs gs i j out all le h =
    ap (λ xs. (out ++ changes (drop i fs) []) ++ changes [] xs) (drop_all j gs le)
    ∙ (ap (λ cs. (out ++ changes (drop i fs) []) ++ cs) none_left
    ∙ (append-nil (out ++ changes (drop i fs) [])
    ∙ (sym (ap (λ xs. out ++ changes (drop i fs) xs) (drop_all j gs le)) ∙ h)))

pub ruleset steps = (less, equal, greater, first_done, last_done)
