-- The parts of a name, one after another.
use Rattle.std.proofs.Common.{◌≡◌, ℕ, ◌+◌, ◌<◌, ◌==◌, true, false, List, [], ◌∷◌, ◌++◌, length, get_or, take, drop, All, refl, sym, ap, ◌∙◌, take-append-drop, inl, inr}
use Rattle.std.specs.List.{onto_first}
use Rattle.std.proofs.lemmas.Bool.{cond-true, cond-false, cases_Bool, ne_eqb}
use Rattle.std.proofs.lemmas.List.{drop_more, take_more}
use Rattle.std.proofs.lemmas.List.Elements.{All-nil, All-cons, All-append, All-head, All-tail}
use Rattle.method_pattern.specs.Matching.{parts_of}

abbrev pub HasNoDot : List ℕ → Type 0
HasNoDot text = All (λ b. (b == 46) ≡ false) text

pub one_part : (name : List ℕ) → HasNoDot name → parts_of name ≡ name ∷ []
one_part [] h = refl
one_part (b ∷ name) h =
    cond-false (b == 46) ([] ∷ parts_of name) (onto_first b (parts_of name)) (All-head (λ c. (c == 46) ≡ false) b name h)
    ∙ ap (onto_first b) (one_part name (All-tail (λ c. (c == 46) ≡ false) b name h))

at_a_dot : (part : List ℕ) (dot : ℕ) (name : List ℕ) → HasNoDot part → (dot == 46) ≡ true → parts_of (part ++ dot ∷ name) ≡ part ∷ parts_of name
at_a_dot [] dot name h e = cond-true (dot == 46) ([] ∷ parts_of name) (onto_first dot (parts_of name)) e
at_a_dot (b ∷ part) dot name h e =
    cond-false (b == 46) ([] ∷ parts_of (part ++ dot ∷ name)) (onto_first b (parts_of (part ++ dot ∷ name))) (All-head (λ c. (c == 46) ≡ false) b part h)
    ∙ ap (onto_first b) (at_a_dot part dot name (All-tail (λ c. (c == 46) ≡ false) b part h) e)

pub first_part : (name : List ℕ) (i : ℕ) (dot : ℕ) → i < length name → dot ≡ get_or name i 0 → (dot == 46) ≡ true → HasNoDot (take i name)
    → parts_of name ≡ take i name ∷ parts_of (drop (i + 1) name)
first_part name i dot lt is e h =
    let cut : name ≡ take i name ++ dot ∷ drop (i + 1) name =
    sym (take-append-drop i name) ∙ ap (λ zs. take i name ++ zs) (drop_more name i 0 lt ∙ ap (λ z. z ∷ drop (i + 1) name) (sym is)) in
    ap parts_of cut ∙ at_a_dot (take i name) dot (drop (i + 1) name) h e

pub no_dot_yet : (name : List ℕ) (i : ℕ) → i < length name → (get_or name i 0 ≡ 46 → ⊥) → HasNoDot (take i name) → HasNoDot (take (i + 1) name)
no_dot_yet name i lt other h =
    rw (take_more name i 0 lt)
    (All-append (λ b. (b == 46) ≡ false) (take i name) (get_or name i 0 ∷ []) h
    (All-cons (λ b. (b == 46) ≡ false) (get_or name i 0) [] (ne_eqb (get_or name i 0) 46 other) (All-nil (λ b. (b == 46) ≡ false))))

-- each name has a first part
pub some_part : (name : List ℕ) → (first : List ℕ) × (rest : List (List ℕ)) × (parts_of name ≡ first ∷ rest)
some_part [] = ([], [], refl)
some_part (b ∷ name) =
    let more = some_part name in
    elim (cases_Bool (b == 46)) [
      | inl e ↦ ([], parts_of name, cond-true (b == 46) ([] ∷ parts_of name) (onto_first b (parts_of name)) e)
      | inr e ↦ (b ∷ more.0, more.1, cond-false (b == 46) ([] ∷ parts_of name) (onto_first b (parts_of name)) e ∙ ap (onto_first b) more.2)
    ]
