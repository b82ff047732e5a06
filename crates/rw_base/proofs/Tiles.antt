-- Leaves that lie one behind another: where each of them begins and ends.
use Rattle.std.proofs.Common.{◌≡◌, ℕ, zero, suc, ◌<◌, ◌≤◌, List, [], ◌∷◌, length, get_or, sym, subst, arith}
use Rattle.rw_base.specs.declared.tree.Leaf.{Leaf}
use Rattle.rw_base.specs.Arena.{Tile, end_from}
use Rattle.rw_base.specs.Laws.{end_rises}

-- where leaf i is, within leaves that begin at a byte
pub record IsWithin (at : ℕ) (ls : List Leaf) (l : Leaf) : Type 0 where
  pub behind : at ≤ l.prefix_from
  pub prefix : l.prefix_from ≤ l.from
  pub text : l.from ≤ l.to
  pub before : l.to ≤ end_from at ls

pub within : (at : ℕ) (ls : List Leaf) (i : ℕ) (l : Leaf) → Tile at ls → i < length ls → l ≡ get_or ls i l → IsWithin at ls l
within at [] i l h lt e = absurd (omega arith)
within at (first ∷ ls) zero l h lt e =
    subst (λ x. IsWithin at (first ∷ ls) x) (sym e) (record {
      behind = omega (arith, h.0);
      prefix = h.1;
      text = h.2;
      before = end_rises first.to ls h.3;
    })
within at (first ∷ ls) (suc i) l h lt e =
    let w = within first.to ls i l h.3 (omega arith) e in
    record {
      behind = omega (arith, h.0, h.1, h.2, w.behind);
      prefix = w.prefix;
      text = w.text;
      before = w.before;
    }
