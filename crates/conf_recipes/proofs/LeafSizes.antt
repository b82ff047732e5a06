-- Sizes of leaves of a file's tree.
use Rattle.std.proofs.Common.{◌≡◌, ℕ, zero, suc, ◌+◌, ◌*◌, ◌<◌, ◌==◌, List, [], ◌∷◌, length, get_or, refl, sym, ap, ◌∙◌, arith, eq-eqb, ne_eqb}
use Rattle.rw_base.specs.Arena.{Arena, leaf_at}
use Rattle.rw_base.specs.declared.tree.Leaf.{Leaf}
use Rattle.properties_tree.specs.Decoding.{entry_at}
use Rattle.properties_tree.specs.Entries.{Entry, properties_of, no_entry, bytes_of}
use Rattle.properties_tree.specs.Layout.{leaves_from, entry_end, tree_of}
use Rattle.conf_recipes.specs.PathPatterns.{is_empty}

-- a text is empty exactly where its leaf ends where it begins
pub empty_by : (from to : ℕ) (text : List ℕ) → to ≡ from + length text → (from == to) ≡ is_empty text
empty_by from to [] e = eq-eqb from to (omega (arith, e))
empty_by from to (b ∷ text) e = ne_eqb from to (λ same. omega (arith, e, same))

separator_at : (at : ℕ) (es : List Entry) (rest : List ℕ) (k : ℕ) → k < length es
    → (leaf_at (leaves_from at es rest) (4 * k + 1)).to ≡ (leaf_at (leaves_from at es rest) (4 * k + 1)).from + length (bytes_of (get_or es k no_entry).separator)
unfolding leaf_at
separator_at at [] rest k lt = absurd (omega (arith, lt))
separator_at at (e ∷ es) rest zero lt = refl
separator_at at (e ∷ es) rest (suc k) lt =
    let four : 4 * suc k + 1 ≡ suc (suc (suc (suc (4 * k + 1)))) = omega arith in
    rw four (separator_at (entry_end at e) es rest k (omega (arith, lt)))

pub no_separator : (t : Arena) (bytes : List ℕ) (n i : ℕ) (l : Leaf) → t ≡ tree_of bytes → n < length (properties_of bytes).entries → i ≡ 4 * n + 1 → l ≡ leaf_at t.leaves i
    → (l.from == l.to) ≡ is_empty (bytes_of (entry_at bytes n).separator)
unfolding tree_of
no_separator t bytes n i l same there number is =
    let at : l ≡ leaf_at (leaves_from 0 (properties_of bytes).entries (properties_of bytes).rest) (4 * n + 1) = is ∙ (ap (λ (a : Arena). leaf_at a.leaves i) same ∙ ap (leaf_at (leaves_from 0 (properties_of bytes).entries (properties_of bytes).rest)) number) in
    empty_by l.from l.to (bytes_of (entry_at bytes n).separator)
    (ap (λ (m : Leaf). m.to) at ∙ (separator_at 0 (properties_of bytes).entries (properties_of bytes).rest n there ∙ ap (λ (m : Leaf). m.from + length (bytes_of (entry_at bytes n).separator)) (sym at)))

pub ruleset separator_sizes = (no_separator)

-- ---- the end

end_at : (at : ℕ) (es : List Entry) (rest : List ℕ) → (leaf_at (leaves_from at es rest) (4 * length es)).from ≡ (leaf_at (leaves_from at es rest) (4 * length es)).prefix_from + length rest
unfolding leaf_at
end_at at [] rest = refl
end_at at (e ∷ es) rest =
    let four : 4 * suc (length es) ≡ suc (suc (suc (suc (4 * length es)))) = omega arith in
    rw four (end_at (entry_end at e) es rest)

pub no_rest : (t : Arena) (bytes : List ℕ) (i : ℕ) (l : Leaf) → t ≡ tree_of bytes → i ≡ 4 * length (properties_of bytes).entries → l ≡ leaf_at t.leaves i
    → (l.prefix_from == l.from) ≡ is_empty (properties_of bytes).rest
unfolding tree_of
no_rest t bytes i l same last is =
    let es = (properties_of bytes).entries in
    let rest = (properties_of bytes).rest in
    let at : l ≡ leaf_at (leaves_from 0 es rest) (4 * length es) = is ∙ (ap (λ (a : Arena). leaf_at a.leaves i) same ∙ ap (leaf_at (leaves_from 0 es rest)) last) in
    empty_by l.prefix_from l.from rest
    (ap (λ (m : Leaf). m.from) at ∙ (end_at 0 es rest ∙ ap (λ (m : Leaf). m.prefix_from + length rest) (sym at)))

pub ruleset rest_sizes = (no_rest)
