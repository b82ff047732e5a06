-- How the rows and parts of a forest grow as its trees come, and that they stand for it.
use Rattle.std.proofs.Common.{◌≡◌, ℕ, ◌+◌, List, [], ◌∷◌, ◌++◌, length, take, drop, refl, sym, ap, ◌∙◌, append_assoc}
use Rattle.std.proofs.Common.{append-nil, length-append, arith}
use Rattle.std.proofs.lemmas.List.{take_at, drop_at}
use Rattle.rw_base.specs.declared.tree.Part.{Part}
use Rattle.rw_base.specs.declared.tree.Part.TheVariants as part
use Rattle.rw_base.specs.declared.tree.NodeRow.{NodeRow}
use Rattle.rw_base.specs.Trees.{Trees, none, leaf, node, Forest, beside, leaves_in, width, size, trees_in}
use Rattle.rw_base.specs.Laid.{parts_from, rows_from}

-- the row of a node whose first own node would get the number n, and whose first leaf is the one numbered at
abbrev pub row_from : ℕ → ℕ → ℕ → Forest → NodeRow
row_from n at k kids = record { kind = k; first = at; past = at + width kids; parts = parts_from n kids }

-- ---- forests beside one another

module _ {N L : Type 0} where
  pub beside_none : (f : Trees N L) → beside f none ≡ f
  beside_none none = refl
  beside_none (leaf i f) = ap (leaf i) (beside_none f)
  beside_none (node n k kids f) = ap (node n k kids) (beside_none f)

  pub beside_assoc : (f g h : Trees N L) → beside (beside f g) h ≡ beside f (beside g h)
  beside_assoc none g h = refl
  beside_assoc (leaf i f) g h = ap (leaf i) (beside_assoc f g h)
  beside_assoc (node n k kids f) g h = ap (node n k kids) (beside_assoc f g h)

  pub width_beside : (f g : Trees N L) → width (beside f g) ≡ width f + width g
  width_beside none g = omega arith
  width_beside (leaf i f) g = omega (arith, width_beside f g)
  width_beside (node n k kids f) g = omega (arith, width_beside f g)

  pub size_beside : (f g : Trees N L) → size (beside f g) ≡ size f + size g
  size_beside none g = omega arith
  size_beside (leaf i f) g = size_beside f g
  size_beside (node n k kids f) g = omega (arith, size_beside f g)

  pub trees_beside : (f g : Trees N L) → trees_in (beside f g) ≡ trees_in f + trees_in g
  trees_beside none g = omega arith
  trees_beside (leaf i f) g = omega (arith, trees_beside f g)
  trees_beside (node n k kids f) g = omega (arith, trees_beside f g)

  pub leaves_beside : (f g : Trees N L) → leaves_in (beside f g) ≡ leaves_in f ++ leaves_in g
  leaves_beside none g = refl
  leaves_beside (leaf i f) g = ap (λ ls. i ∷ ls) (leaves_beside f g)
  leaves_beside (node n k kids f) g = ap (λ ls. leaves_in kids ++ ls) (leaves_beside f g)
      ∙ sym (append_assoc (leaves_in kids) (leaves_in f) (leaves_in g))

  pub length-leaves_in : (f : Trees N L) → length (leaves_in f) ≡ width f
  length-leaves_in none = refl
  length-leaves_in (leaf i f) = omega (arith, length-leaves_in f)
  length-leaves_in (node n k kids f) =
      omega (arith, length-append (leaves_in kids) (leaves_in f), length-leaves_in kids, length-leaves_in f)

-- ---- their parts and rows

pub parts_none : (n : ℕ) → parts_from n none ≡ []
unfolding parts_from
parts_none n = refl

pub parts_leaf : (n i : ℕ) (f : Forest) → parts_from n (leaf i f) ≡ part.Leaf i ∷ parts_from n f
unfolding parts_from
parts_leaf n i f = refl

pub parts_node : (n k : ℕ) (kids f : Forest)
    → parts_from n (node tt k kids f) ≡ part.Node (record { 0 = n + size kids }) ∷ parts_from (n + (size kids + 1)) f
unfolding parts_from
parts_node n k kids f = refl

pub rows_none : (n at : ℕ) → rows_from n at none ≡ []
unfolding rows_from
rows_none n at = refl

pub rows_leaf : (n at i : ℕ) (f : Forest) → rows_from n at (leaf i f) ≡ rows_from n (at + 1) f
unfolding rows_from
rows_leaf n at i f = refl

pub rows_node : (n at k : ℕ) (kids f : Forest)
    → rows_from n at (node tt k kids f) ≡ rows_from n at kids
    ++ (row_from n at k kids ∷ rows_from (n + (size kids + 1)) (at + width kids) f)
unfolding rows_from
rows_node n at k kids f = refl

pub length-rows : (n at : ℕ) (f : Forest) → length (rows_from n at f) ≡ size f
unfolding rows_from
length-rows n at none = refl
length-rows n at (leaf i f) = length-rows n (at + 1) f
length-rows n at (node _ k kids f) =
    omega (
      arith,
      length-append (rows_from n at kids)
          (row_from n at k kids ∷ rows_from (n + (size kids + 1)) (at + width kids) f),
      length-rows n at kids,
      length-rows (n + (size kids + 1)) (at + width kids) f,
    )

pub length-parts : (n : ℕ) (f : Forest) → length (parts_from n f) ≡ trees_in f
unfolding parts_from
length-parts n none = refl
length-parts n (leaf i f) = omega (arith, length-parts n f)
length-parts n (node _ k kids f) = omega (arith, length-parts (n + (size kids + 1)) f)

pub parts_beside : (n : ℕ) (f g : Forest) → parts_from n (beside f g) ≡ parts_from n f ++ parts_from (n + size f) g
unfolding parts_from
parts_beside n none g = ap (λ m. parts_from m g) (omega arith)
parts_beside n (leaf i f) g = ap (λ ps. part.Leaf i ∷ ps) (parts_beside n f g)
parts_beside n (node _ k kids f) g =
    ap (λ (ps : List Part). part.Node (record { 0 = n + size kids }) ∷ ps)
    (parts_beside (n + (size kids + 1)) f g
    ∙ ap (λ m. parts_from (n + (size kids + 1)) f ++ parts_from m g) (omega arith))

pub rows_beside : (n at : ℕ) (f g : Forest)
    → rows_from n at (beside f g) ≡ rows_from n at f ++ rows_from (n + size f) (at + width f) g
unfolding rows_from
rows_beside n at none g = let same : n ≡ n + 0 = omega arith in let there : at ≡ at + 0 =
    omega arith in ap (λ m. rows_from m at g) same ∙ ap (λ a. rows_from (n + 0) a g) there
rows_beside n at (leaf i f) g =
    let there : (at + 1) + width f ≡ at + (1 + width f) = omega arith in
    rows_beside n (at + 1) f g ∙ ap (λ a. rows_from n (at + 1) f ++ rows_from (n + size f) a g) there
rows_beside n at (node _ k kids f) g =
    let m = n + (size kids + 1) in
    let a = at + width kids in
    let numbered : m + size f ≡ n + (size kids + 1 + size f) = omega arith in
    let there : a + width f ≡ at + (width kids + width f) = omega arith in
    ap (λ (rs : List NodeRow). rows_from n at kids ++ (row_from n at k kids ∷ rs))
    (rows_beside m a f g ∙ ap (λ j. rows_from m a f ++ rows_from j (a + width f) g) numbered
    ∙ ap (λ b. rows_from m a f ++ rows_from (n + (size kids + 1 + size f)) b g) there)
    ∙ sym (append_assoc (rows_from n at kids) (row_from n at k kids ∷ rows_from m a f)
    (rows_from (n + (size kids + 1 + size f)) (at + (width kids + width f)) g))

-- ---- a leaf more, and a node closed over the trees behind others

pub leaf_rows : (f : Forest) (i : ℕ) → rows_from 0 0 (beside f (leaf i none)) ≡ rows_from 0 0 f
unfolding rows_from
leaf_rows f i = rows_beside 0 0 f (leaf i none) ∙ append-nil (rows_from 0 0 f)

pub leaf_parts : (f : Forest) (i : ℕ) → parts_from 0 (beside f (leaf i none)) ≡ parts_from 0 f ++ part.Leaf i ∷ []
unfolding parts_from
leaf_parts f i = parts_beside 0 f (leaf i none)

-- The node over the trees k behind the trees a: one more row, behind the others.
pub close_rows : (kind : ℕ) (a k : Forest)
    → rows_from 0 0 (beside a (node tt kind k none)) ≡ rows_from 0 0 (beside a k)
    ++ row_from (size a) (width a) kind k ∷ []
unfolding rows_from
close_rows kind a k =
    let n : 0 + size a ≡ size a = omega arith in
    let at : 0 + width a ≡ width a = omega arith in
    let behind : (g : Forest) → rows_from 0 0 (beside a g) ≡ rows_from 0 0 a ++ rows_from (size a) (width a) g =
    λ g. rows_beside 0 0 a g ∙ ap (λ m. rows_from 0 0 a ++ rows_from m (0 + width a) g) n
    ∙ ap (λ m. rows_from 0 0 a ++ rows_from (size a) m g) at in
    behind (node tt kind k none)
    ∙ (sym (append_assoc (rows_from 0 0 a) (rows_from (size a) (width a) k) (row_from (size a) (width a) kind k ∷ []))
    ∙ ap (λ (rs : List NodeRow). rs ++ row_from (size a) (width a) kind k ∷ []) (sym (behind k)))

-- its first leaf and the one behind its last, where leaves are counted from the front
pub close_past : (a k : Forest) → width a + width k ≡ width (beside a k)
close_past a k = sym (width_beside a k)

-- its number is the count of the rows before it, and it takes the place of the parts behind those of a
pub close_parts : (kind : ℕ) (a k : Forest)
    → parts_from 0 (beside a (node tt kind k none)) ≡ parts_from 0 a
    ++ part.Node (record { 0 = length (rows_from 0 0 (beside a k)) }) ∷ []
unfolding parts_from
close_parts kind a k =
    let number : (0 + size a) + size k ≡ length (rows_from 0 0 (beside a k)) =
    omega (arith, length-rows 0 0 (beside a k), size_beside a k) in
    parts_beside 0 a (node tt kind k none) ∙ ap (λ (m : ℕ). parts_from 0 a ++ part.Node (record { 0 = m }) ∷ []) number

-- the parts of a stay, and those behind them are the node's
pub front_parts : (a k : Forest) → take (trees_in a) (parts_from 0 (beside a k)) ≡ parts_from 0 a
front_parts a k = ap (take (trees_in a)) (parts_beside 0 a k)
    ∙ take_at (parts_from 0 a) (parts_from (0 + size a) k) (trees_in a) (length-parts 0 a)

pub back_parts : (a k : Forest) → drop (trees_in a) (parts_from 0 (beside a k)) ≡ parts_from (size a) k
back_parts a k =
    let n : 0 + size a ≡ size a = omega arith in
    ap (drop (trees_in a)) (parts_beside 0 a k)
    ∙ drop_at (parts_from 0 a) (parts_from (0 + size a) k) (trees_in a) (length-parts 0 a)
    ∙ ap (λ m. parts_from m k) n
