-- Codes spell one list of shapes.
use Rattle.std.proofs.Common.{◌≡◌, ℕ, zero, suc, ◌+◌, true, List, [], ◌∷◌, ◌++◌, length, take, drop, refl, sym, ◌∙◌, ap, subst, arith, append_assoc, append-nil, take-append-drop}
use Rattle.std.specs.Prelude.{map}
use Rattle.rw_grammar.specs.declared.shape.Shape.{Shape, ind-Shape, roll-Shape}
use Rattle.rw_grammar.specs.declared.shape.Shape.TheFolds.{map-Shape}
use Rattle.rw_grammar.specs.declared.shape.Shape.TheVariants as shape
use Rattle.rw_grammar.specs.declared.shape.Shape.TheVariants.{rolls-Leaf, rolls-Rule, rolls-Seq, rolls-Choice, rolls-Opt, rolls-Many}
use Rattle.rw_grammar.specs.declared.shape.Shape.TheOpen.{Shape-F}
use Rattle.rw_grammar.specs.Codes.{codes_of, codes_of_all, spells, spells_rules}
use Rattle.rw_grammar.specs.Laws.{OneSpelling, SpelledAreRead}
use Rattle.rw_grammar.proofs.CodeLaws.{leaf_codes, rule_codes, seq_codes, choice_codes, opt_codes, many_codes, mapped_length, codes_append}

-- ---- the shapes that codes spell

abbrev seq_first : ℕ → List Shape → List Shape
seq_first k ss = shape.Seq (take k ss) ∷ drop k ss

abbrev choice_first : ℕ → List Shape → List Shape
choice_first k ss = shape.Choice (take k ss) ∷ drop k ss

abbrev opt_first : List Shape → List Shape
opt_first [] = []
opt_first (s ∷ ss) = shape.Opt s ∷ ss

abbrev many_first : List Shape → List Shape
many_first [] = []
many_first (s ∷ ss) = shape.Many s ∷ ss

abbrev shapes_in : List ℕ → List Shape
shapes_in [] = []
shapes_in (zero ∷ (c ∷ cs)) = shape.Leaf c ∷ shapes_in cs
shapes_in (suc zero ∷ (r ∷ cs)) = shape.Rule r ∷ shapes_in cs
shapes_in (suc (suc zero) ∷ (k ∷ cs)) = seq_first k (shapes_in cs)
shapes_in (suc (suc (suc zero)) ∷ (k ∷ cs)) = choice_first k (shapes_in cs)
shapes_in (suc (suc (suc (suc zero))) ∷ cs) = opt_first (shapes_in cs)
shapes_in (suc (suc (suc (suc (suc zero)))) ∷ cs) = many_first (shapes_in cs)
shapes_in _ = []

-- what stands behind a shape's codes is read as if they weren't there
record IsRead (s : Shape) : Type 0 where
  fits : (n : ℕ) (cs : List ℕ) → spells (suc n) (codes_of s ++ cs) ≡ spells n cs
  read : (cs : List ℕ) → shapes_in (codes_of s ++ cs) ≡ s ∷ shapes_in cs

abbrev Known : Type 0
Known = (s : Shape) × IsRead s

abbrev firsts : List Known → List Shape
firsts es = map (λ e. e.0) es

all_fit : (es : List Known) (n : ℕ) (cs : List ℕ) → spells (length (firsts es) + n) (codes_of_all (firsts es) ++ cs) ≡ spells n cs
all_fit [] n cs = let e : 0 + n ≡ n = omega arith in ap (λ m. spells m cs) e
all_fit (e ∷ es) n cs =
    let more : suc (length (firsts es)) + n ≡ suc (length (firsts es) + n) = omega arith in
    ap (λ m. spells m (codes_of_all (firsts (e ∷ es)) ++ cs)) more
    ∙ (ap (λ ds. spells (suc (length (firsts es) + n)) ds) (append_assoc (codes_of e.0) (codes_of_all (firsts es)) cs)
    ∙ (e.1.fits (length (firsts es) + n) (codes_of_all (firsts es) ++ cs) ∙ all_fit es n cs))

all_read : (es : List Known) (cs : List ℕ) → shapes_in (codes_of_all (firsts es) ++ cs) ≡ firsts es ++ shapes_in cs
all_read [] cs = refl
all_read (e ∷ es) cs =
    ap shapes_in (append_assoc (codes_of e.0) (codes_of_all (firsts es)) cs)
    ∙ (e.1.read (codes_of_all (firsts es) ++ cs) ∙ ap (λ ss. e.0 ∷ ss) (all_read es cs))

taken : (ss ts : List Shape) → (take (length ss) (ss ++ ts) ≡ ss) × (drop (length ss) (ss ++ ts) ≡ ts)
taken [] ts = (refl, refl)
taken (s ∷ ss) ts = let t = taken ss ts in (ap (λ us. s ∷ us) t.0, t.1)

leaf_read : (c : ℕ) → IsRead (shape.Leaf c)
leaf_read c = record {
  fits = λ n cs. ap (λ ds. spells (suc n) (ds ++ cs)) (leaf_codes c);
  read = λ cs. ap (λ ds. shapes_in (ds ++ cs)) (leaf_codes c);
}

rule_read : (r : ℕ) → IsRead (shape.Rule r)
rule_read r = record {
  fits = λ n cs. ap (λ ds. spells (suc n) (ds ++ cs)) (rule_codes r);
  read = λ cs. ap (λ ds. shapes_in (ds ++ cs)) (rule_codes r);
}

seq_read : (es : List Known) → IsRead (shape.Seq (firsts es))
seq_read es =
    let ss = firsts es in
    let codes : codes_of (shape.Seq ss) ≡ 2 ∷ length ss ∷ codes_of_all ss = seq_codes ss ∙ ap (λ n. 2 ∷ n ∷ codes_of_all ss) (mapped_length ss) in
    record {
      fits = λ n cs. ap (λ ds. spells (suc n) (ds ++ cs)) codes ∙ all_fit es n cs;
      read = λ cs.
          let t = taken ss (shapes_in cs) in
          ap (λ ds. shapes_in (ds ++ cs)) codes
          ∙ (ap (seq_first (length ss)) (all_read es cs) ∙ (ap (λ us. shape.Seq us ∷ drop (length ss) (ss ++ shapes_in cs)) t.0 ∙ ap (λ us. shape.Seq ss ∷ us) t.1));
    }

choice_read : (es : List Known) → IsRead (shape.Choice (firsts es))
choice_read es =
    let ss = firsts es in
    let codes : codes_of (shape.Choice ss) ≡ 3 ∷ length ss ∷ codes_of_all ss = choice_codes ss ∙ ap (λ n. 3 ∷ n ∷ codes_of_all ss) (mapped_length ss) in
    record {
      fits = λ n cs. ap (λ ds. spells (suc n) (ds ++ cs)) codes ∙ all_fit es n cs;
      read = λ cs.
          let t = taken ss (shapes_in cs) in
          ap (λ ds. shapes_in (ds ++ cs)) codes
          ∙ (ap (choice_first (length ss)) (all_read es cs) ∙ (ap (λ us. shape.Choice us ∷ drop (length ss) (ss ++ shapes_in cs)) t.0 ∙ ap (λ us. shape.Choice ss ∷ us) t.1));
    }

opt_read : (s : Shape) → IsRead s → IsRead (shape.Opt s)
opt_read s r = record {
  fits = λ n cs. ap (λ ds. spells (suc n) (ds ++ cs)) (opt_codes s) ∙ r.fits n cs;
  read = λ cs. ap (λ ds. shapes_in (ds ++ cs)) (opt_codes s) ∙ ap opt_first (r.read cs);
}

many_read : (s : Shape) → IsRead s → IsRead (shape.Many s)
many_read s r = record {
  fits = λ n cs. ap (λ ds. spells (suc n) (ds ++ cs)) (many_codes s) ∙ r.fits n cs;
  read = λ cs. ap (λ ds. shapes_in (ds ++ cs)) (many_codes s) ∙ ap many_first (r.read cs);
}

layer_read : (y : Shape-F Known) → IsRead (roll-Shape (map-Shape Known Shape (λ e. e.0) y))
layer_read (Shape-F.Leaf c) = subst IsRead (sym (rolls-Leaf c)) (leaf_read c)
layer_read (Shape-F.Rule r) = subst IsRead (sym (rolls-Rule r)) (rule_read r)
layer_read (Shape-F.Seq es) = subst IsRead (sym (rolls-Seq (firsts es))) (seq_read es)
layer_read (Shape-F.Choice es) = subst IsRead (sym (rolls-Choice (firsts es))) (choice_read es)
layer_read (Shape-F.Opt e) = subst IsRead (sym (rolls-Opt e.0)) (opt_read e.0 e.1)
layer_read (Shape-F.Many e) = subst IsRead (sym (rolls-Many e.0)) (many_read e.0 e.1)

each_read : (s : Shape) → IsRead s
each_read = ind-Shape IsRead (λ x y is. subst (λ z. IsRead (roll-Shape z)) is (layer_read y))

abbrev known : List Shape → List Known
known [] = []
known (s ∷ ss) = (s, each_read s) ∷ known ss

known_firsts : (ss : List Shape) → firsts (known ss) ≡ ss
known_firsts [] = refl
known_firsts (s ∷ ss) = ap (λ ts. s ∷ ts) (known_firsts ss)

rules_fit : (ss : List Shape) → spells (length ss) (codes_of_all ss) ≡ true
rules_fit ss =
    let h : spells (length ss + 0) (codes_of_all ss ++ []) ≡ true = subst (λ (ts : List Shape). spells (length ts + 0) (codes_of_all ts ++ []) ≡ true) (known_firsts ss) (all_fit (known ss) 0 []) in
    let e : length ss + 0 ≡ length ss = omega arith in
    subst (λ ds. spells (length ss) ds ≡ true) (append-nil (codes_of_all ss)) (subst (λ n. spells n (codes_of_all ss ++ []) ≡ true) e h)

rules_in : (ss : List Shape) → shapes_in (codes_of_all ss) ≡ ss
rules_in ss =
    let h : shapes_in (codes_of_all ss ++ []) ≡ ss ++ [] = subst (λ (ts : List Shape). shapes_in (codes_of_all ts ++ []) ≡ ts ++ []) (known_firsts ss) (all_read (known ss) []) in
    ap shapes_in (sym (append-nil (codes_of_all ss))) ∙ (h ∙ append-nil ss)

-- ---- what is read is spelled by what it was read from

record Spelt (n : ℕ) (cs : List ℕ) (ss : List Shape) : Type 0 where
  count : length ss ≡ n
  codes : codes_of_all ss ≡ cs

split : (k n : ℕ) (cs : List ℕ) (ss : List Shape) → Spelt (k + n) cs ss → (length (take k ss) ≡ k) × (length (drop k ss) ≡ n) × (codes_of_all (take k ss) ++ codes_of_all (drop k ss) ≡ cs)
split k n cs ss s =
    let t = lengths k n ss s.count in
    (t.0, t.1, sym (codes_append (take k ss) (drop k ss)) ∙ (ap codes_of_all (take-append-drop k ss) ∙ s.codes))
  where
    lengths : (k n : ℕ) (ss : List Shape) → length ss ≡ k + n → (length (take k ss) ≡ k) × (length (drop k ss) ≡ n)
    lengths zero n ss e = let z : 0 + n ≡ n = omega arith in (refl, e ∙ z)
    lengths (suc k) n [] e = absurd (omega arith)
    lengths (suc k) n (s ∷ ss) e = let d : length ss ≡ k + n = omega arith in let t = lengths k n ss d in (ap (λ m. suc m) t.0, t.1)

spelt : (n : ℕ) (cs : List ℕ) → spells n cs ≡ true → Spelt n cs (shapes_in cs)
spelt zero [] h = record { count = refl; codes = refl }
spelt zero (x ∷ cs) h = absurd (cc)
spelt (suc n) [] h = absurd (cc)
spelt (suc n) (zero ∷ []) h = absurd (cc)
spelt (suc n) (zero ∷ (c ∷ cs)) h =
    let s = spelt n cs h in
    record { count = ap (λ m. suc m) s.count; codes = ap (λ ds. ds ++ codes_of_all (shapes_in cs)) (leaf_codes c) ∙ ap (λ ds. 0 ∷ c ∷ ds) s.codes }
spelt (suc n) (suc zero ∷ []) h = absurd (cc)
spelt (suc n) (suc zero ∷ (c ∷ cs)) h =
    let s = spelt n cs h in
    record { count = ap (λ m. suc m) s.count; codes = ap (λ ds. ds ++ codes_of_all (shapes_in cs)) (rule_codes c) ∙ ap (λ ds. 1 ∷ c ∷ ds) s.codes }
spelt (suc n) (suc (suc zero) ∷ []) h = absurd (cc)
spelt (suc n) (suc (suc zero) ∷ (k ∷ cs)) h =
    let ss = shapes_in cs in
    let s = split k n cs ss (spelt (k + n) cs h) in
    let codes : codes_of (shape.Seq (take k ss)) ≡ 2 ∷ k ∷ codes_of_all (take k ss) = seq_codes (take k ss) ∙ ap (λ m. 2 ∷ m ∷ codes_of_all (take k ss)) (mapped_length (take k ss) ∙ s.0) in
    record { count = ap (λ m. suc m) s.1; codes = ap (λ ds. ds ++ codes_of_all (drop k ss)) codes ∙ ap (λ ds. 2 ∷ k ∷ ds) s.2 }
spelt (suc n) (suc (suc (suc zero)) ∷ []) h = absurd (cc)
spelt (suc n) (suc (suc (suc zero)) ∷ (k ∷ cs)) h =
    let ss = shapes_in cs in
    let s = split k n cs ss (spelt (k + n) cs h) in
    let codes : codes_of (shape.Choice (take k ss)) ≡ 3 ∷ k ∷ codes_of_all (take k ss) = choice_codes (take k ss) ∙ ap (λ m. 3 ∷ m ∷ codes_of_all (take k ss)) (mapped_length (take k ss) ∙ s.0) in
    record { count = ap (λ m. suc m) s.1; codes = ap (λ ds. ds ++ codes_of_all (drop k ss)) codes ∙ ap (λ ds. 3 ∷ k ∷ ds) s.2 }
spelt (suc n) (suc (suc (suc (suc zero))) ∷ cs) h = one_put (shapes_in cs) (spelt (suc n) cs h)
  where
    one_put : (ss : List Shape) → Spelt (suc n) cs ss → Spelt (suc n) (4 ∷ cs) (opt_first ss)
    one_put [] s = absurd (omega (arith, s.count))
    one_put (t ∷ ts) s = record { count = s.count; codes = ap (λ ds. ds ++ codes_of_all ts) (opt_codes t) ∙ ap (λ ds. 4 ∷ ds) s.codes }
spelt (suc n) (suc (suc (suc (suc (suc zero)))) ∷ cs) h = one_put (shapes_in cs) (spelt (suc n) cs h)
  where
    one_put : (ss : List Shape) → Spelt (suc n) cs ss → Spelt (suc n) (5 ∷ cs) (many_first ss)
    one_put [] s = absurd (omega (arith, s.count))
    one_put (t ∷ ts) s = record { count = s.count; codes = ap (λ ds. ds ++ codes_of_all ts) (many_codes t) ∙ ap (λ ds. 5 ∷ ds) s.codes }
spelt (suc n) (suc (suc (suc (suc (suc (suc x))))) ∷ cs) h = absurd (cc)

-- ---- the laws

abbrev tail_of : List ℕ → List ℕ
tail_of [] = []
tail_of (n ∷ cs) = cs

pub one_spelling : OneSpelling
one_spelling a b e = sym (rules_in a) ∙ (ap (λ cs. shapes_in (tail_of cs)) e ∙ rules_in b)

pub spelled_are_read : SpelledAreRead
spelled_are_read [] = ((λ h. absurd (cc)), λ r. cc)
spelled_are_read (n ∷ cs) = (
  (λ h. let s = spelt n cs h in (shapes_in cs, ap (λ m. m ∷ cs) (sym s.count) ∙ ap (λ ds. length (shapes_in cs) ∷ ds) (sym s.codes))),
  λ r. ap spells_rules r.1 ∙ rules_fit r.0,
)
