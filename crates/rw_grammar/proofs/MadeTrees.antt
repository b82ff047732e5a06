-- The rows of a derivation are a tree over its leaves.
use Rattle.std.proofs.Common.{◌≡◌, ℕ, ◌+◌, ◌-◌, ◌<◌, ◌^◌, List, ◌∷◌, ◌++◌, length, refl, sym, ◌∙◌, ap, subst, arith, append_assoc, append-nil}
use Rattle.rw_base.specs.declared.tree.Leaf.{Leaf}
use Rattle.rw_base.specs.declared.tree.NodeRow.{NodeRow}
use Rattle.rw_base.specs.Arena.{Arena, IsTree}
use Rattle.rw_base.specs.Trees.{none, leaf, node, Forest, beside, leaves_in, size, numbers}
use Rattle.rw_base.specs.LaidLaws.{leaves_beside, length-rows}
use Rattle.rw_base.specs.Laid.{laid, laid_rows}
use Rattle.rw_base.specs.LaidTrees.{laid_is_tree}
use Rattle.rw_grammar.specs.Parts.{Parts, rule_of}
use Rattle.rw_grammar.specs.Derivation.{wrapped, Derives, by-end, by-one, by-rule, by-choice, by-empty, by-opt, by-no-opt, by-more, by-no-more}
use Rattle.rw_grammar.specs.Results.{class_in, tree_of, AreTreeLeaves, AreRowsOf}

wrapped_leaves : (r : ℕ) (f : Forest) → leaves_in (wrapped r f) ≡ leaves_in f
wrapped_leaves r none = refl
wrapped_leaves r (leaf i f) = append-nil (leaves_in (leaf i f))
wrapped_leaves r (node u k kids none) = refl
wrapped_leaves r (node u k kids (leaf i f)) = append-nil (leaves_in (node u k kids (leaf i f)))
wrapped_leaves r (node u k kids (node v j more f)) = append-nil (leaves_in (node u k kids (node v j more f)))

module _ (rules : ℕ → Parts) (class : ℕ → ℕ) where
  two : (ls mid rest : List ℕ) (f g t : Forest) → ls ≡ leaves_in f ++ mid → mid ≡ leaves_in g ++ rest → t ≡ beside f g → ls ≡ leaves_in t ++ rest
  two ls mid rest f g t p q e =
      p ∙ (ap (λ xs. leaves_in f ++ xs) q ∙ (sym (append_assoc (leaves_in f) (leaves_in g) rest) ∙ (ap (λ xs. xs ++ rest) (sym (leaves_beside f g)) ∙ ap (λ (x : Forest). leaves_in x ++ rest) (sym e))))

  derived_leaves : {p : Parts} {ls rest : List ℕ} {f : Forest} → Derives rules class p ls rest f → ls ≡ leaves_in f ++ rest
  derived_leaves by-end = refl
  derived_leaves (by-one {l = l} h d) = ap (λ xs. l ∷ xs) (derived_leaves d)
  derived_leaves {ls = ls} {rest = rest} {f = t} (by-rule {r = r} {mid = m} {f = f} {g = g} d e q) =
      two ls m rest (wrapped r f) g t (derived_leaves d ∙ ap (λ xs. xs ++ m) (sym (wrapped_leaves r f))) (derived_leaves e) q
  derived_leaves {ls = ls} {rest = rest} {f = t} (by-choice {mid = m} {f = f} {g = g} i k d e q) = two ls m rest f g t (derived_leaves d) (derived_leaves e) q
  derived_leaves {ls = ls} {rest = rest} {f = t} (by-empty {mid = m} {f = f} {g = g} n i k d e q) = two ls m rest f g t (derived_leaves d) (derived_leaves e) q
  derived_leaves {ls = ls} {rest = rest} {f = t} (by-opt {mid = m} {f = f} {g = g} k d e q) = two ls m rest f g t (derived_leaves d) (derived_leaves e) q
  derived_leaves (by-no-opt n d) = derived_leaves d
  derived_leaves {ls = ls} {rest = rest} {f = t} (by-more {mid = m} {f = f} {g = g} k d e q) = two ls m rest f g t (derived_leaves d) (derived_leaves e) q
  derived_leaves (by-no-more n d) = derived_leaves d

module _ (rules : List Parts) (start : ℕ) (leaves : List Leaf) (rows : List NodeRow) (r : AreRowsOf rules start leaves rows) where
  kids_leaves : leaves_in r.kids ≡ numbers 0 (length leaves)
  kids_leaves =
      let d = r.derived in
      sym (append-nil (leaves_in r.kids))
      ∙ (ap (λ (t : Forest). leaves_in t) d.is
      ∙ (wrapped_leaves start d.trees ∙ sym (derived_leaves (rule_of rules) (class_in leaves) d.derived ∙ append-nil (leaves_in d.trees))))

  pub count : length rows ≡ size r.kids + 1
  count = ap length r.are ∙ (length-rows 0 0 (node tt r.kind r.kids none) ∙ omega arith)

  pub made_is : tree_of leaves rows ≡ laid leaves r.kind r.kids
  made_is = the_same (laid_rows r.kind r.kids) (size r.kids) r.are (omega (arith, count))
    where
      the_same : (xs : List NodeRow) (n : ℕ) → rows ≡ xs → length rows - 1 ≡ n → let u : Arena = record { leaves = leaves; nodes = xs; root = n } in tree_of leaves rows ≡ u
      the_same xs n p q = cc

  pub made_tree : length rows < 2 ^ 32 → AreTreeLeaves leaves → IsTree (tree_of leaves rows)
  made_tree few l =
      subst IsTree (sym made_is) (laid_is_tree leaves r.kind r.kids l.some l.few l.tile l.empty_end kids_leaves (omega (arith, few, count)))
