-- The rows of a forest stand in the order in which its nodes end.
use Rattle.std.proofs.Common.{◌≡◌, ℕ, zero, suc, ◌+◌, ◌<◌, ◌≤◌, List, [], ◌∷◌, ◌++◌, length, get_or, subst, arith}
use Rattle.rw_base.specs.declared.tree.NodeRow.{NodeRow}
use Rattle.rw_base.specs.Arena.{row_at, no_row, past_of}
use Rattle.rw_base.specs.Trees.{none, leaf, node, Forest, width, size}
use Rattle.rw_base.specs.Laid.{parts_from, rows_from}

-- Each row ends at or behind the row before it, the first at or behind this leaf, and the last at or before that one.
Ends : ℕ → ℕ → List NodeRow → Type 0
Ends least most [] = least ≤ most
Ends least most (r ∷ rs) = (least ≤ r.past) × Ends r.past most rs

ends_later : (low least most high : ℕ) (rs : List NodeRow) → low ≤ least → Ends least most rs → Ends low most rs
unfolding Ends
ends_later low least most high [] le e = omega arith
ends_later low least most high (r ∷ rs) le e = (omega (arith, e.0), e.1)

ends_order : (least most : ℕ) (rs : List NodeRow) → Ends least most rs → least ≤ most
unfolding Ends
ends_order least most [] e = e
ends_order least most (r ∷ rs) e = omega (arith, e.0, ends_order r.past most rs e.1)

ends_append : (least at most : ℕ) (rs qs : List NodeRow) → Ends least at rs → Ends at most qs
    → Ends least most (rs ++ qs)
unfolding Ends
ends_append least at most [] qs e f = ends_later least at most most qs e f
ends_append least at most (r ∷ rs) qs e f = (e.0, ends_append r.past at most rs qs e.1 f)

rows_end : (n at : ℕ) (f : Forest) → Ends at (at + width f) (rows_from n at f)
unfolding Ends rows_from
rows_end n at none = omega arith
rows_end n at (leaf i f) =
    let there : (at + 1) + width f ≡ at + (1 + width f) = omega arith in
    ends_later at (at + 1) (at + (1 + width f)) 0 (rows_from n (at + 1) f) (omega arith)
    (subst (λ e. Ends (at + 1) e (rows_from n (at + 1) f)) there (rows_end n (at + 1) f))
rows_end n at (node _ k kids f) =
    let end = at + width kids in
    let rest = rows_from (n + (size kids + 1)) end f in
    let row : NodeRow = record { kind = k; first = at; past = end; parts = parts_from n kids } in
    let there : end + width f ≡ at + (width kids + width f) = omega arith in
    ends_append at end (at + (width kids + width f)) (rows_from n at kids) (row ∷ rest) (rows_end n at kids)
    (omega arith, subst (λ e. Ends end e rest) there (rows_end (n + (size kids + 1)) end f))

least_past : (least most : ℕ) (rs : List NodeRow) (n : ℕ) → Ends least most rs → n < length rs
    → least ≤ (get_or rs n no_row).past
unfolding Ends
least_past least most [] n e lt = absurd (omega arith)
least_past least most (r ∷ rs) zero e lt = e.0
least_past least most (r ∷ rs) (suc n) e lt = omega (arith, e.0, least_past r.past most rs n e.1 (omega arith))

pasts : (least most : ℕ) (rs : List NodeRow) (m n : ℕ) → Ends least most rs → m ≤ n → n < length rs
    → (get_or rs m no_row).past ≤ (get_or rs n no_row).past
unfolding Ends
pasts least most [] m n e le lt = absurd (omega arith)
pasts least most (r ∷ rs) zero zero e le lt = omega arith
pasts least most (r ∷ rs) zero (suc n) e le lt = least_past r.past most rs n e.1 (omega arith)
pasts least most (r ∷ rs) (suc m) zero e le lt = absurd (omega arith)
pasts least most (r ∷ rs) (suc m) (suc n) e le lt = pasts r.past most rs m n e.1 (omega arith) (omega arith)

-- A node ends at or behind the nodes before it.
pub past_rises : (at : ℕ) (f : Forest) (m n : ℕ) → m ≤ n → n < length (rows_from 0 at f)
    → past_of (rows_from 0 at f) m ≤ past_of (rows_from 0 at f) n
unfolding row_at
past_rises at f m n le lt = pasts at (at + width f) (rows_from 0 at f) m n (rows_end 0 at f) le lt
