-- Laying shapes flat.
use Rattle.std.proofs.Common.{◌≡◌, ℕ, zero, suc, ◌+◌, ◌<◌, ◌≤◌, List, [], ◌∷◌, ◌++◌, length, take, refl, sym, ◌∙◌, ap, subst, inl, inr, arith, append_assoc, append-nil, length-append}
use Rattle.std.specs.Prelude.{map, Result, Ok, Err, IfOk}
use Rattle.rw_base.specs.declared.memory.NoMemory.{NoMemory}
use Rattle.std.proofs.lemmas.Bool.{cases_order}
use Rattle.std.proofs.lemmas.List.{get_or_at}
use Rattle.std.proofs.Math.ListN.{get_or-append}
use Rattle.rw_grammar.specs.declared.cells.Cell.{Cell}
use Rattle.rw_grammar.specs.declared.cells.Cell.TheVariants as cell
use Rattle.rw_grammar.specs.declared.shape.Shape.{Shape, fold-Shape, fold-roll-Shape}
use Rattle.rw_grammar.specs.declared.shape.Shape.TheVariants as shape
use Rattle.rw_grammar.specs.declared.shape.Shape.TheVariants.{rolls-Leaf, rolls-Rule, rolls-Seq, rolls-Choice, rolls-Opt, rolls-Many}
use Rattle.rw_grammar.specs.declared.shape.Shape.TheOpen.{Shape-F}
use Rattle.rw_grammar.specs.Parts.{Parts, end, one, rule, choice, opt, many, or}
use Rattle.rw_grammar.specs.Shapes.{in_row, either, in_front, before, shape_parts}
use Rattle.rw_grammar.specs.Cells.{any_of, grown, shape_at, cell_at, AllBelow, NamesBelow, AreCells, Lays}
use Rattle.rw_grammar.proofs.CellLaws.{shape_append, shape_last}

-- ---- what a shape stands for

module _ (more : Parts) where
  pub leaf_before : (c : ℕ) → before (shape.Leaf c) more ≡ one c more
  unfolding before
  leaf_before c = ap (λ (f : Parts → Parts). f more) (ap (fold-Shape (Parts → Parts) in_front) (sym (rolls-Leaf c)) ∙ fold-roll-Shape (Parts → Parts) in_front (Shape-F.Leaf c))

  pub rule_before : (r : ℕ) → before (shape.Rule r) more ≡ rule r more
  unfolding before
  rule_before r = ap (λ (f : Parts → Parts). f more) (ap (fold-Shape (Parts → Parts) in_front) (sym (rolls-Rule r)) ∙ fold-roll-Shape (Parts → Parts) in_front (Shape-F.Rule r))

  pub seq_before : (ss : List Shape) → before (shape.Seq ss) more ≡ in_row (map before ss) more
  unfolding before
  seq_before ss = ap (λ (f : Parts → Parts). f more) (ap (fold-Shape (Parts → Parts) in_front) (sym (rolls-Seq ss)) ∙ fold-roll-Shape (Parts → Parts) in_front (Shape-F.Seq ss))

  pub choice_before : (ss : List Shape) → before (shape.Choice ss) more ≡ choice (either (map before ss)) more
  unfolding before
  choice_before ss = ap (λ (f : Parts → Parts). f more) (ap (fold-Shape (Parts → Parts) in_front) (sym (rolls-Choice ss)) ∙ fold-roll-Shape (Parts → Parts) in_front (Shape-F.Choice ss))

  pub opt_before : (s : Shape) → before (shape.Opt s) more ≡ opt (before s end) more
  unfolding before
  opt_before s = ap (λ (f : Parts → Parts). f more) (ap (fold-Shape (Parts → Parts) in_front) (sym (rolls-Opt s)) ∙ fold-roll-Shape (Parts → Parts) in_front (Shape-F.Opt s))

  pub many_before : (s : Shape) → before (shape.Many s) more ≡ many (before s end) more
  unfolding before
  many_before s = ap (λ (f : Parts → Parts). f more) (ap (fold-Shape (Parts → Parts) in_front) (sym (rolls-Many s)) ∙ fold-roll-Shape (Parts → Parts) in_front (Shape-F.Many s))

pub either_any : (ss : List Shape) → either (map before ss) ≡ any_of (map shape_parts ss)
either_any [] = refl
either_any (s ∷ ss) = ap (or (before s end)) (either_any ss)

-- ---- one more cell

pub cells_push : (cells : List Cell) (c : Cell) → AreCells cells → NamesBelow (length cells) c → AreCells (cells ++ c ∷ [])
cells_push cells c named b n lt = elim (cases_order n (length cells)) [
  | inl same ↦ subst (λ m. NamesBelow m (cell_at (cells ++ c ∷ []) m)) (sym same) (subst (NamesBelow (length cells)) (sym (get_or_at cells c [] cell.End (length cells) refl)) b)
  | inr o ↦ elim o [
    | inl small ↦ subst (NamesBelow n) (sym (get_or-append cells (c ∷ []) cell.End n small)) (named n small)
    | inr large ↦ absurd (omega (arith, length-append cells (c ∷ [])))
  ]
]

pub lays_push : (cells : List Cell) (c : Cell) → AreCells cells → NamesBelow (length cells) c → Lays cells (cells ++ c ∷ []) (length cells) (grown (shape_at cells) c)
lays_push cells c named b = record {
  more = c ∷ [];
  behind = refl;
  named = cells_push cells c named b;
  inside = omega (arith, length-append cells (c ∷ []));
  stands = shape_last cells c;
}

-- ---- cells behind others

pub lays_none : (cells : List Cell) (n : ℕ) (p : Parts) → AreCells cells → n < length cells → shape_at cells n ≡ p → Lays cells cells n p
lays_none cells n p named lt e = record { more = []; behind = sym (append-nil cells); named = named; inside = lt; stands = e }

pub lays_then : (old mid new : List Cell) (m n : ℕ) (q p p' : Parts) → Lays old mid m q → Lays mid new n p → p ≡ p' → Lays old new n p'
lays_then old mid new m n q p p' a b e = record {
  more = a.more ++ b.more;
  behind = b.behind ∙ (ap (λ cs. cs ++ b.more) a.behind ∙ append_assoc old a.more b.more);
  named = b.named;
  inside = b.inside;
  stands = b.stands ∙ e;
}

pub lays_longer : (old new : List Cell) (n : ℕ) (p : Parts) → Lays old new n p → length old ≤ length new
lays_longer old new n p a = omega (arith, ap length a.behind, length-append old a.more)

-- what the old cells stand for, they stand for
pub lays_keep : (old new : List Cell) (n : ℕ) (p : Parts) → Lays old new n p → (k : ℕ) → k < length old → shape_at new k ≡ shape_at old k
lays_keep old new n p a k lt = ap (λ cs. shape_at cs k) a.behind ∙ shape_append old a.more k lt

pub lays_keep_all : (old new : List Cell) (n : ℕ) (p : Parts) → Lays old new n p → (ys : List ℕ) → AllBelow (length old) ys → map (shape_at new) ys ≡ map (shape_at old) ys
lays_keep_all old new n p a [] b = refl
lays_keep_all old new n p a (y ∷ ys) b =
    let first = lays_keep old new n p a y (b 0 (omega arith)) in
    let rest = lays_keep_all old new n p a ys (λ k lt. b (suc k) (omega arith)) in
    ap (λ q. q ∷ map (shape_at new) ys) first ∙ ap (λ qs. shape_at old y ∷ qs) rest

pub map_push : {A B : Type 0} (f : A → B) (xs : List A) (x : A) → map f (xs ++ x ∷ []) ≡ map f xs ++ f x ∷ []
map_push f [] x = refl
map_push f (y ∷ xs) x = ap (λ ys. f y ∷ ys) (map_push f xs x)

pub below_push : (n m : ℕ) (ys : List ℕ) (y : ℕ) → AllBelow n ys → n ≤ m → y < m → AllBelow m (ys ++ y ∷ [])
below_push n m [] y b le lt zero h = lt
below_push n m [] y b le lt (suc k) h = absurd (omega arith)
below_push n m (x ∷ ys) y b le lt zero h = omega (arith, b 0 (omega arith))
below_push n m (x ∷ ys) y b le lt (suc k) h = below_push n m ys y (λ j q. b (suc j) (omega arith)) le lt k (omega arith)

pub if_lays : (r : Result ℕ NoMemory) (old new : List Cell) (p p' : Parts) → IfOk r (λ n. Lays old new n p) → p ≡ p' → IfOk r (λ n. Lays old new n p')
if_lays r old new p p' h e = subst (λ q. IfOk r (λ n. Lays old new n q)) e h

pub if_lays_then : (r : Result ℕ NoMemory) (old mid new : List Cell) (m : ℕ) (q p p' : Parts) → Lays old mid m q → IfOk r (λ n. Lays mid new n p) → p ≡ p' → IfOk r (λ n. Lays old new n p')
if_lays_then (Ok n) old mid new m q p p' a b e = lays_then old mid new m n q p p' a b e
if_lays_then (Err x) old mid new m q p p' a b e = b

-- the cell of an option or a repetition
pub part_laid : (old mid : List Cell) (x next : ℕ) (s : Shape) (both : Parts → Parts → Parts) → Lays old mid x (before s (shape_at old 0)) → shape_at old 0 ≡ end → next < length old → both (shape_at mid x) (shape_at mid next) ≡ both (before s end) (shape_at old next)
part_laid old mid x next s both a e lt =
    ap (λ p. both p (shape_at mid next)) (a.stands ∙ ap (before s) e) ∙ ap (both (before s end)) (lays_keep old mid x (before s (shape_at old 0)) a next lt)

-- the first cell stays the end
pub end_laid : (old mid new : List Cell) (y : ℕ) (p : Parts) → Lays old mid 0 end → Lays mid new y p → Lays old new 0 end
end_laid old mid new y p a b =
    lays_then old mid new 0 0 end end end a (record { more = b.more; behind = b.behind; named = b.named; inside = omega (arith, lays_longer mid new y p b, a.inside); stands = lays_keep mid new y p b 0 a.inside ∙ a.stands }) refl

pub alternatives_laid : (old new : List Cell) (ys : List ℕ) (y : ℕ) (ss : List Shape) (s : Shape) (k : ℕ) → Lays old new y (before s (shape_at old 0)) → shape_at old 0 ≡ end → AllBelow (length old) ys →
    map (shape_at old) ys ≡ map shape_parts (take k ss) → take (k + 1) ss ≡ take k ss ++ s ∷ [] → map (shape_at new) (ys ++ y ∷ []) ≡ map shape_parts (take (k + 1) ss)
alternatives_laid old new ys y ss s k a e below so_far t =
    map_push (shape_at new) ys y
    ∙ (ap (λ ps. ps ++ shape_at new y ∷ []) (lays_keep_all old new y (before s (shape_at old 0)) a ys below ∙ so_far)
    ∙ (ap (λ p. map shape_parts (take k ss) ++ p ∷ []) (a.stands ∙ ap (before s) e)
    ∙ (sym (map_push shape_parts (take k ss) s) ∙ ap (map shape_parts) (sym t))))
