-- The prefix of an entry's key leaf is the entry's.
use Rattle.std.proofs.Common.{◌≡◌, ℕ, zero, suc, ◌+◌, ◌*◌, ◌<◌, List, [], ◌∷◌, ◌++◌, length, get_or, refl, sym, ap, ◌∙◌, arith, length-append, append_assoc}
use Rattle.rw_base.specs.Arena.{Arena, leaf_at, prefix_of}
use Rattle.properties_tree.specs.Decoding.{entry_at}
use Rattle.properties_tree.specs.Entries.{Entry, properties_of, no_entry, bytes_of}
use Rattle.properties_tree.specs.Laws.{whole_entry, whole_of}
use Rattle.properties_tree.specs.Layout.{leaves_from, entry_end, tree_of}
use Rattle.properties_tree.proofs.Made.{four_more}
use Rattle.properties_tree.proofs.Whole.{entry_end-is, part_at, whole-properties_of}

prefix_at : (bytes before : List ℕ) (at : ℕ) (es : List Entry) (rest : List ℕ) (k : ℕ) → k < length es → length before ≡ at → bytes ≡ before ++ whole_of es rest
    → prefix_of bytes (leaf_at (leaves_from at es rest) (4 * k)) ≡ (get_or es k no_entry).prefix
unfolding leaf_at
prefix_at bytes before at [] rest k h long all = absurd (omega arith)
prefix_at bytes before at (e ∷ es) rest zero h long all =
    part_at bytes before e.prefix ((bytes_of e.key ++ (bytes_of e.separator ++ (bytes_of e.value ++ e.ending))) ++ whole_of es rest) at (at + length e.prefix) (all ∙ simp append_assoc) long refl
prefix_at bytes before at (e ∷ es) rest (suc k) h long all =
    ap (λ n. prefix_of bytes (leaf_at (leaves_from at (e ∷ es) rest) n)) (four_more k)
    ∙ prefix_at bytes (before ++ whole_entry e) (entry_end at e) es rest k (omega arith)
    (length-append before (whole_entry e) ∙ (ap (λ n. n + length (whole_entry e)) long ∙ sym (entry_end-is at e)))
    (all ∙ sym (append_assoc before (whole_entry e) (whole_of es rest)))

pub prefix_is : (t : Arena) (bytes : List ℕ) (n : ℕ) → t ≡ tree_of bytes → n < length (properties_of bytes).entries → prefix_of bytes (leaf_at t.leaves (4 * n)) ≡ (entry_at bytes n).prefix
unfolding tree_of
prefix_is t bytes n same there =
    ap (λ (a : Arena). prefix_of bytes (leaf_at a.leaves (4 * n))) same
    ∙ prefix_at bytes [] 0 (properties_of bytes).entries (properties_of bytes).rest n there refl (sym (whole-properties_of bytes))
