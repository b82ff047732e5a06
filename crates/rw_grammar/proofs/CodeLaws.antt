-- Shapes and the codes that spell them.
use Rattle.std.proofs.Common.{◌≡◌, ℕ, zero, suc, ◌+◌, ◌<◌, ◌≤◌, true, List, [], ◌∷◌, ◌++◌, length, take, drop, get_or, refl, sym, ◌∙◌, ap, subst, arith, append_assoc, append-nil, length-append}
use Rattle.std.specs.Prelude.{map, reverse, Result, Ok, Err, IfOk}
use Rattle.rw_base.specs.declared.memory.NoMemory.{NoMemory}
use Rattle.std.proofs.lemmas.List.{reverse-append, length-reverse}
use Rattle.rw_grammar.specs.declared.shape.Shape.{Shape, fold-Shape, fold-roll-Shape}
use Rattle.rw_grammar.specs.declared.shape.Shape.TheVariants as shape
use Rattle.rw_grammar.specs.declared.shape.Shape.TheVariants.{rolls-Leaf, rolls-Rule, rolls-Seq, rolls-Choice, rolls-Opt, rolls-Many}
use Rattle.rw_grammar.specs.declared.shape.Shape.TheOpen.{Shape-F}
use Rattle.rw_grammar.specs.declared.codes.Word.{Word}
use Rattle.rw_grammar.specs.declared.codes.Word.TheVariants as word
use Rattle.rw_grammar.specs.Parts.{Parts, end, one, rule, choice, opt, many}
use Rattle.rw_grammar.specs.Shapes.{in_row, either, in_front, before, shape_parts, all_parts}
use Rattle.rw_grammar.specs.Codes.{spell, codes_of, codes_of_all, spelled, spells, spells_rules, row_first, choice_first, opt_first, many_first, stand_for, parts_spelled}
use Rattle.rw_grammar.specs.Words.{written, written_all, asked, BeginWithWord, SpellSome, shape_of, IsMade, AreStacked}

-- ---- what spells a shape

pub leaf_codes : (c : ℕ) → codes_of (shape.Leaf c) ≡ 0 ∷ c ∷ []
unfolding codes_of
leaf_codes c = ap (fold-Shape (List ℕ) spell) (sym (rolls-Leaf c)) ∙ fold-roll-Shape (List ℕ) spell (Shape-F.Leaf c)

pub rule_codes : (r : ℕ) → codes_of (shape.Rule r) ≡ 1 ∷ r ∷ []
unfolding codes_of
rule_codes r = ap (fold-Shape (List ℕ) spell) (sym (rolls-Rule r)) ∙ fold-roll-Shape (List ℕ) spell (Shape-F.Rule r)

pub mapped_length : (ss : List Shape) → length (map codes_of ss) ≡ length ss
mapped_length [] = refl
mapped_length (s ∷ ss) = ap (λ n. suc n) (mapped_length ss)

pub seq_codes : (ss : List Shape) → codes_of (shape.Seq ss) ≡ 2 ∷ length (map codes_of ss) ∷ codes_of_all ss
unfolding codes_of
seq_codes ss = ap (fold-Shape (List ℕ) spell) (sym (rolls-Seq ss)) ∙ fold-roll-Shape (List ℕ) spell (Shape-F.Seq ss)

pub choice_codes : (ss : List Shape) → codes_of (shape.Choice ss) ≡ 3 ∷ length (map codes_of ss) ∷ codes_of_all ss
unfolding codes_of
choice_codes ss = ap (fold-Shape (List ℕ) spell) (sym (rolls-Choice ss)) ∙ fold-roll-Shape (List ℕ) spell (Shape-F.Choice ss)

pub opt_codes : (s : Shape) → codes_of (shape.Opt s) ≡ 4 ∷ codes_of s
unfolding codes_of
opt_codes s = ap (fold-Shape (List ℕ) spell) (sym (rolls-Opt s)) ∙ fold-roll-Shape (List ℕ) spell (Shape-F.Opt s)

pub many_codes : (s : Shape) → codes_of (shape.Many s) ≡ 5 ∷ codes_of s
unfolding codes_of
many_codes s = ap (fold-Shape (List ℕ) spell) (sym (rolls-Many s)) ∙ fold-roll-Shape (List ℕ) spell (Shape-F.Many s)

codes_made : (w : Word) (ps : List Shape) → length ps ≡ asked w → codes_of (shape_of w ps) ≡ written w ++ codes_of_all ps
codes_made (word.Leaf c) [] e = leaf_codes c
codes_made (word.Leaf c) (p ∷ ps) e = absurd (omega arith)
codes_made (word.Rule r) [] e = rule_codes r
codes_made (word.Rule r) (p ∷ ps) e = absurd (omega arith)
codes_made (word.Seq k) ps e = seq_codes ps ∙ ap (λ n. 2 ∷ n ∷ codes_of_all ps) (mapped_length ps ∙ e)
codes_made (word.Choice k) ps e = choice_codes ps ∙ ap (λ n. 3 ∷ n ∷ codes_of_all ps) (mapped_length ps ∙ e)
codes_made word.Opt [] e = absurd (omega arith)
codes_made word.Opt (p ∷ []) e = opt_codes p ∙ ap (λ cs. 4 ∷ cs) (sym (append-nil (codes_of p)))
codes_made word.Opt (p ∷ q ∷ ps) e = absurd (omega arith)
codes_made word.Many [] e = absurd (omega arith)
codes_made word.Many (p ∷ []) e = many_codes p ∙ ap (λ cs. 5 ∷ cs) (sym (append-nil (codes_of p)))
codes_made word.Many (p ∷ q ∷ ps) e = absurd (omega arith)

pub codes_append : (ss ts : List Shape) → codes_of_all (ss ++ ts) ≡ codes_of_all ss ++ codes_of_all ts
codes_append [] ts = refl
codes_append (s ∷ ss) ts = ap (λ cs. codes_of s ++ cs) (codes_append ss ts) ∙ sym (append_assoc (codes_of s) (codes_of_all ss) (codes_of_all ts))

-- ---- what shapes put in front of others

leaf_fore : (c : ℕ) → before (shape.Leaf c) ≡ one c
unfolding before
leaf_fore c = ap (fold-Shape (Parts → Parts) in_front) (sym (rolls-Leaf c)) ∙ fold-roll-Shape (Parts → Parts) in_front (Shape-F.Leaf c)

rule_fore : (r : ℕ) → before (shape.Rule r) ≡ rule r
unfolding before
rule_fore r = ap (fold-Shape (Parts → Parts) in_front) (sym (rolls-Rule r)) ∙ fold-roll-Shape (Parts → Parts) in_front (Shape-F.Rule r)

seq_fore : (ss : List Shape) → before (shape.Seq ss) ≡ in_row (map before ss)
unfolding before
seq_fore ss = ap (fold-Shape (Parts → Parts) in_front) (sym (rolls-Seq ss)) ∙ fold-roll-Shape (Parts → Parts) in_front (Shape-F.Seq ss)

choice_fore : (ss : List Shape) → before (shape.Choice ss) ≡ choice (either (map before ss))
unfolding before
choice_fore ss = ap (fold-Shape (Parts → Parts) in_front) (sym (rolls-Choice ss)) ∙ fold-roll-Shape (Parts → Parts) in_front (Shape-F.Choice ss)

opt_fore : (s : Shape) → before (shape.Opt s) ≡ opt (before s end)
unfolding before
opt_fore s = ap (fold-Shape (Parts → Parts) in_front) (sym (rolls-Opt s)) ∙ fold-roll-Shape (Parts → Parts) in_front (Shape-F.Opt s)

many_fore : (s : Shape) → before (shape.Many s) ≡ many (before s end)
unfolding before
many_fore s = ap (fold-Shape (Parts → Parts) in_front) (sym (rolls-Many s)) ∙ fold-roll-Shape (Parts → Parts) in_front (Shape-F.Many s)

taken_front : (k : ℕ) (ss : List Shape) (fs : List (Parts → Parts)) → length ss ≡ k → (take k (map before ss ++ fs) ≡ map before ss) × (drop k (map before ss ++ fs) ≡ fs)
taken_front zero [] fs e = (refl, refl)
taken_front zero (s ∷ ss) fs e = absurd (omega arith)
taken_front (suc k) [] fs e = absurd (omega arith)
taken_front (suc k) (s ∷ ss) fs e = let t = taken_front k ss fs (omega arith) in (ap (λ gs. before s ∷ gs) t.0, t.1)

stand_made : (w : Word) (ps : List Shape) (cs : List ℕ) (fs : List (Parts → Parts)) → length ps ≡ asked w → stand_for cs ≡ map before ps ++ fs → stand_for (written w ++ cs) ≡ before (shape_of w ps) ∷ fs
stand_made (word.Leaf c) [] cs fs e h = ap (λ gs. one c ∷ gs) h ∙ ap (λ f. f ∷ fs) (sym (leaf_fore c))
stand_made (word.Leaf c) (p ∷ ps) cs fs e h = absurd (omega arith)
stand_made (word.Rule r) [] cs fs e h = ap (λ gs. rule r ∷ gs) h ∙ ap (λ f. f ∷ fs) (sym (rule_fore r))
stand_made (word.Rule r) (p ∷ ps) cs fs e h = absurd (omega arith)
stand_made (word.Seq k) ps cs fs e h =
    let t = taken_front k ps fs e in
    ap (row_first k) h ∙ (ap (λ gs. in_row gs ∷ drop k (map before ps ++ fs)) t.0 ∙ (ap (λ gs. in_row (map before ps) ∷ gs) t.1 ∙ ap (λ f. f ∷ fs) (sym (seq_fore ps))))
stand_made (word.Choice k) ps cs fs e h =
    let t = taken_front k ps fs e in
    ap (choice_first k) h ∙ (ap (λ gs. choice (either gs) ∷ drop k (map before ps ++ fs)) t.0 ∙ (ap (λ gs. choice (either (map before ps)) ∷ gs) t.1 ∙ ap (λ f. f ∷ fs) (sym (choice_fore ps))))
stand_made word.Opt [] cs fs e h = absurd (omega arith)
stand_made word.Opt (p ∷ []) cs fs e h = ap opt_first h ∙ ap (λ f. f ∷ fs) (sym (opt_fore p))
stand_made word.Opt (p ∷ q ∷ ps) cs fs e h = absurd (omega arith)
stand_made word.Many [] cs fs e h = absurd (omega arith)
stand_made word.Many (p ∷ []) cs fs e h = ap many_first h ∙ ap (λ f. f ∷ fs) (sym (many_fore p))
stand_made word.Many (p ∷ q ∷ ps) cs fs e h = absurd (omega arith)

fore_append : (ss ts : List Shape) → map before (ss ++ ts) ≡ map before ss ++ map before ts
fore_append [] ts = refl
fore_append (s ∷ ss) ts = ap (λ fs. before s ∷ fs) (fore_append ss ts)

-- ---- how many shapes codes spell

-- one shape less, and those that the word asks for
record Asks (w : Word) (n : ℕ) (cs : List ℕ) : Type 0 where
  less : ℕ
  one_less : n ≡ suc less
  fits : spells (asked w + less) cs ≡ true

fits_zero : (n : ℕ) (cs : List ℕ) → spells n cs ≡ true → spells (0 + n) cs ≡ true
fits_zero n cs h = let e : n ≡ 0 + n = omega arith in subst (λ m. spells m cs ≡ true) e h

fits_one : (n : ℕ) (cs : List ℕ) → spells (suc n) cs ≡ true → spells (1 + n) cs ≡ true
fits_one n cs h = let e : suc n ≡ 1 + n = omega arith in subst (λ m. spells m cs ≡ true) e h

asks_for : (w : Word) (n : ℕ) (cs : List ℕ) → spells n (written w ++ cs) ≡ true → Asks w n cs
asks_for (word.Leaf c) zero cs h = absurd (cc)
asks_for (word.Leaf c) (suc n) cs h = record { less = n; one_less = refl; fits = fits_zero n cs h }
asks_for (word.Rule r) zero cs h = absurd (cc)
asks_for (word.Rule r) (suc n) cs h = record { less = n; one_less = refl; fits = fits_zero n cs h }
asks_for (word.Seq k) zero cs h = absurd (cc)
asks_for (word.Seq k) (suc n) cs h = record { less = n; one_less = refl; fits = h }
asks_for (word.Choice k) zero cs h = absurd (cc)
asks_for (word.Choice k) (suc n) cs h = record { less = n; one_less = refl; fits = h }
asks_for word.Opt zero cs h = absurd (cc)
asks_for word.Opt (suc n) cs h = record { less = n; one_less = refl; fits = fits_one n cs h }
asks_for word.Many zero cs h = absurd (cc)
asks_for word.Many (suc n) cs h = record { less = n; one_less = refl; fits = fits_one n cs h }

pub behind_word : (w : Word) (cs : List ℕ) → SpellSome (written w ++ cs) → SpellSome cs
behind_word w cs h = let a = asks_for w h.number cs h.fits in record { number = asked w + a.less; fits = a.fits }

pub behind_words : (ws : List Word) (cs : List ℕ) → SpellSome (written_all ws ++ cs) → SpellSome cs
behind_words [] cs h = h
behind_words (w ∷ ws) cs h = behind_words ws cs (behind_word w (written_all ws ++ cs) (subst SpellSome (append_assoc (written w) (written_all ws) cs) h))

begins : (n : ℕ) (cs : List ℕ) → 0 < length cs → spells n cs ≡ true → BeginWithWord cs
begins n [] lt h = absurd (omega arith)
begins zero (x ∷ cs) lt h = absurd (cc)
begins (suc n) (zero ∷ []) lt h = absurd (cc)
begins (suc n) (zero ∷ (c ∷ cs)) lt h = record { first = word.Leaf c; others = cs; are = refl }
begins (suc n) (suc zero ∷ []) lt h = absurd (cc)
begins (suc n) (suc zero ∷ (c ∷ cs)) lt h = record { first = word.Rule c; others = cs; are = refl }
begins (suc n) (suc (suc zero) ∷ []) lt h = absurd (cc)
begins (suc n) (suc (suc zero) ∷ (c ∷ cs)) lt h = record { first = word.Seq c; others = cs; are = refl }
begins (suc n) (suc (suc (suc zero)) ∷ []) lt h = absurd (cc)
begins (suc n) (suc (suc (suc zero)) ∷ (c ∷ cs)) lt h = record { first = word.Choice c; others = cs; are = refl }
begins (suc n) (suc (suc (suc (suc zero))) ∷ cs) lt h = record { first = word.Opt; others = cs; are = refl }
begins (suc n) (suc (suc (suc (suc (suc zero)))) ∷ cs) lt h = record { first = word.Many; others = cs; are = refl }
begins (suc n) (suc (suc (suc (suc (suc (suc x))))) ∷ cs) lt h = absurd (cc)

pub begin_with_word : (cs : List ℕ) → 0 < length cs → SpellSome cs → BeginWithWord cs
begin_with_word cs lt h = begins h.number cs lt h.fits

pub written_push : (ws : List Word) (w : Word) (cs : List ℕ) → written_all (ws ++ w ∷ []) ++ cs ≡ written_all ws ++ (written w ++ cs)
written_push [] w cs = append_assoc (written w) [] cs
written_push (v ∷ ws) w cs = append_assoc (written v) (written_all (ws ++ w ∷ [])) cs ∙ (ap (λ ds. written v ++ ds) (written_push ws w cs) ∙ sym (append_assoc (written v) (written_all ws) (written w ++ cs)))

-- ---- the shapes that are made

pub last_taken : (stack : List Shape) (s : Shape) → reverse (stack ++ s ∷ []) ≡ s ∷ reverse stack
last_taken stack s = reverse-append stack (s ∷ [])

pub enough : (w : Word) (cs : List ℕ) (stack : List Shape) → AreStacked cs stack → SpellSome (written w ++ cs) → asked w ≤ length stack
enough w cs stack a h =
    let b = asks_for w h.number cs h.fits in
    let e : asked w + b.less ≡ length stack = a.count (asked w + b.less) b.fits in
    omega arith

pub one_more : (w : Word) (cs : List ℕ) (old new : List Shape) (s : Shape) → AreStacked cs old → IsMade w old new s → AreStacked (written w ++ cs) (new ++ s ∷ [])
one_more w cs old new s a m = record {
  are =
      ap (λ ds. written w ++ ds) (a.are ∙ (ap codes_of_all m.taken ∙ codes_append m.parts (reverse new)))
      ∙ (sym (append_assoc (written w) (codes_of_all m.parts) (codes_of_all (reverse new)))
      ∙ (ap (λ ds. ds ++ codes_of_all (reverse new)) (sym (ap codes_of m.is ∙ codes_made w m.parts m.count))
      ∙ sym (ap codes_of_all (last_taken new s))));
  count = λ n h.
      let b = asks_for w n cs h in
      let e : asked w + b.less ≡ length old = a.count (asked w + b.less) b.fits in
      let lengths : length old ≡ length m.parts + length new =
      sym (length-reverse old) ∙ (ap length m.taken ∙ (length-append m.parts (reverse new) ∙ ap (λ k. length m.parts + k) (length-reverse new))) in
      let pushed : length (new ++ s ∷ []) ≡ length new + 1 = length-append new (s ∷ []) in
      let count : length m.parts ≡ asked w = m.count in
      let less : n ≡ suc b.less = b.one_less in
      omega arith;
  stand =
      stand_made w m.parts cs (map before (reverse new)) m.count (a.stand ∙ (ap (map before) m.taken ∙ fore_append m.parts (reverse new)))
      ∙ (ap (λ (t : Shape). before t ∷ map before (reverse new)) (sym m.is) ∙ sym (ap (map before) (last_taken new s)));
}

pub made_opt : (w : Word) (old new : List Shape) (p q : Shape) → w ≡ word.Opt → old ≡ new ++ p ∷ [] → q ≡ p → IsMade w old new (shape.Opt q)
made_opt w old new p q e o s = record {
  parts = q ∷ [];
  taken = ap reverse o ∙ (last_taken new p ∙ ap (λ (t : Shape). t ∷ reverse new) (sym s));
  count = sym (ap asked e);
  is = ap (λ (v : Word). shape_of v (q ∷ [])) (sym e);
}

pub made_many : (w : Word) (old new : List Shape) (p q : Shape) → w ≡ word.Many → old ≡ new ++ p ∷ [] → q ≡ p → IsMade w old new (shape.Many q)
made_many w old new p q e o s = record {
  parts = q ∷ [];
  taken = ap reverse o ∙ (last_taken new p ∙ ap (λ (t : Shape). t ∷ reverse new) (sym s));
  count = sym (ap asked e);
  is = ap (λ (v : Word). shape_of v (q ∷ [])) (sym e);
}

-- ---- rules

whole : (ss ps qs : List Shape) → ss ≡ ps ++ qs → length ps ≡ length ss → ps ≡ ss
whole ss ps [] e l = sym (e ∙ append-nil ps)
whole ss ps (q ∷ qs) e l = let h : length ss ≡ length ps + length (q ∷ qs) = ap length e ∙ length-append ps (q ∷ qs) in absurd (omega arith)

parts_mapped : (ss : List Shape) → map (λ f. f end) (map before ss) ≡ all_parts ss
parts_mapped [] = refl
parts_mapped (s ∷ ss) = ap (λ ps. shape_parts s ∷ ps) (parts_mapped ss)

pub record AreRead (codes : List ℕ) (rules : List Shape) : Type 0 where
  pub spelled : codes ≡ spelled rules
  pub parts : all_parts rules ≡ parts_spelled codes
  pub count : length rules ≡ get_or codes 0 0

pub rules_read : (codes : List ℕ) (stack new rules : List Shape) → spells_rules codes ≡ true → AreStacked (drop 1 codes) stack → reverse stack ≡ rules ++ reverse new → length rules ≡ length stack → AreRead codes rules
rules_read [] stack new rules h a t l = absurd (cc)
rules_read (n ∷ cs) stack new rules h a t l =
    let all : rules ≡ reverse stack = whole (reverse stack) rules (reverse new) t (l ∙ sym (length-reverse stack)) in
    let count : n ≡ length rules = a.count n h ∙ sym l in
    record {
      spelled = ap (λ m. m ∷ cs) count ∙ ap (λ ds. length rules ∷ ds) (a.are ∙ ap codes_of_all (sym all));
      parts = sym (parts_mapped rules) ∙ ap (map (λ f. f end)) (ap (map before) all ∙ sym a.stand);
      count = sym count;
    }

pub read_if : (r : Result (List Shape) NoMemory) (codes : List ℕ) (stack new : List Shape) (n : ℕ) → spells_rules codes ≡ true → AreStacked (drop 1 codes) stack →
    IfOk r (λ ps. reverse stack ≡ ps ++ reverse new) → IfOk r (λ ps. length ps ≡ n) → n ≡ length stack → IfOk r (λ ps. AreRead codes ps)
read_if (Ok ps) codes stack new n h a t l e = rules_read codes stack new ps h a t (l ∙ e)
read_if (Err x) codes stack new n h a t l e = tt

pub parts_if : (r : Result (List Shape) NoMemory) (codes : List ℕ) → IfOk r (λ ps. AreRead codes ps) → IfOk r (λ ps. all_parts ps ≡ parts_spelled codes)
parts_if (Ok ps) codes h = h.parts
parts_if (Err x) codes h = tt

pub few_if : (r : Result (List Shape) NoMemory) (codes : List ℕ) → IfOk r (λ ps. AreRead codes ps) → get_or codes 0 0 ≤ 65535 → IfOk r (λ ps. length ps ≤ 65535)
few_if (Ok ps) codes h lt = let e : length ps ≡ get_or codes 0 0 = h.count in omega arith
few_if (Err x) codes h lt = tt
