-- Shapes as lists of numbers, by which a proof tells them apart.
use Rattle.std.proofs.Common.{◌≡◌, ℕ, zero, suc, List, [], ◌∷◌, ◌++◌, refl, sym, ap, ◌∙◌, append_assoc, append-nil}
use Rattle.std.specs.Coded.{Coded, code_by, coded×, coded_ℕ, coded_list}
use Rattle.rw_grammar.specs.Parts.{Parts, end, one, rule, choice, opt, many, or}

abbrev pub Token : Type 0
Token = ℕ × ℕ

-- each shape behind what it is made of
abbrev pub tokens : Parts → List Token
tokens end = (0, 0) ∷ []
tokens (one c a) = tokens a ++ (1, c) ∷ []
tokens (rule r a) = tokens a ++ (2, r) ∷ []
tokens (choice x a) = tokens x ++ (tokens a ++ (3, 0) ∷ [])
tokens (opt x a) = tokens x ++ (tokens a ++ (4, 0) ∷ [])
tokens (many x a) = tokens x ++ (tokens a ++ (5, 0) ∷ [])
tokens (or x a) = tokens x ++ (tokens a ++ (6, 0) ∷ [])

abbrev pub made_of_one : ℕ → ℕ → Parts → Parts
made_of_one zero n a = one n a
made_of_one (suc _) n a = rule n a

abbrev pub made_of_two : ℕ → Parts → Parts → Parts
made_of_two zero x a = choice x a
made_of_two (suc zero) x a = opt x a
made_of_two (suc (suc zero)) x a = many x a
made_of_two (suc (suc (suc _))) x a = or x a

abbrev pub with_two : ℕ → List Parts → List Parts
with_two k (a ∷ (x ∷ ps)) = made_of_two k x a ∷ ps
with_two k ps = ps

abbrev pub with_one : ℕ → ℕ → List Parts → List Parts
with_one k n (a ∷ ps) = made_of_one k n a ∷ ps
with_one k n ps = ps

abbrev pub with_token : ℕ → ℕ → List Parts → List Parts
with_token zero n ps = end ∷ ps
with_token (suc zero) n ps = with_one 0 n ps
with_token (suc (suc zero)) n ps = with_one 1 n ps
with_token (suc (suc (suc k))) n ps = with_two k ps

abbrev pub read : List Token → List Parts → List Parts
read [] ps = ps
read (t ∷ ts) ps = read ts (with_token t.0 t.1 ps)

abbrev pub first_of : List Parts → Parts
first_of [] = end
first_of (p ∷ ps) = p

pub read_tokens : (p : Parts) (ts : List Token) (ps : List Parts) → read (tokens p ++ ts) ps ≡ read ts (p ∷ ps)
read_tokens end ts ps = refl
read_tokens (one c a) ts ps =
    ap (λ us. read us ps) (append_assoc (tokens a) ((1, c) ∷ []) ts) ∙ read_tokens a ((1, c) ∷ ts) ps
read_tokens (rule r a) ts ps =
    ap (λ us. read us ps) (append_assoc (tokens a) ((2, r) ∷ []) ts) ∙ read_tokens a ((2, r) ∷ ts) ps
read_tokens (choice x a) ts ps =
    ap (λ us. read us ps)
    (append_assoc (tokens x) (tokens a ++ (3, 0) ∷ []) ts
    ∙ ap (λ us. tokens x ++ us) (append_assoc (tokens a) ((3, 0) ∷ []) ts))
    ∙ (read_tokens x (tokens a ++ (3, 0) ∷ ts) ps ∙ read_tokens a ((3, 0) ∷ ts) (x ∷ ps))
read_tokens (opt x a) ts ps =
    ap (λ us. read us ps)
    (append_assoc (tokens x) (tokens a ++ (4, 0) ∷ []) ts
    ∙ ap (λ us. tokens x ++ us) (append_assoc (tokens a) ((4, 0) ∷ []) ts))
    ∙ (read_tokens x (tokens a ++ (4, 0) ∷ ts) ps ∙ read_tokens a ((4, 0) ∷ ts) (x ∷ ps))
read_tokens (many x a) ts ps =
    ap (λ us. read us ps)
    (append_assoc (tokens x) (tokens a ++ (5, 0) ∷ []) ts
    ∙ ap (λ us. tokens x ++ us) (append_assoc (tokens a) ((5, 0) ∷ []) ts))
    ∙ (read_tokens x (tokens a ++ (5, 0) ∷ ts) ps ∙ read_tokens a ((5, 0) ∷ ts) (x ∷ ps))
read_tokens (or x a) ts ps =
    ap (λ us. read us ps)
    (append_assoc (tokens x) (tokens a ++ (6, 0) ∷ []) ts
    ∙ ap (λ us. tokens x ++ us) (append_assoc (tokens a) ((6, 0) ∷ []) ts))
    ∙ (read_tokens x (tokens a ++ (6, 0) ∷ ts) ps ∙ read_tokens a ((6, 0) ∷ ts) (x ∷ ps))

abbrev pub parts_code : Coded Parts
parts_code =
    code_by (List Token) (coded_list (coded× coded_ℕ coded_ℕ)) tokens (λ ts. first_of (read ts []))
    (λ p. ap (λ us. first_of (read us [])) (sym (append-nil (tokens p))) ∙ ap first_of (read_tokens p [] []))
