-- A text in which neither a backslash nor a key stands has no entry with that key.
use Rattle.std.proofs.Common.{◌≡◌, ℕ, suc, ◌+◌, ◌<◌, Bool, false, List, [], ◌∷◌, ◌++◌, length, get_or, inl, inr, refl, sym, ◌∙◌, ap, arith, length-append, append_assoc}
use Rattle.std.specs.Prelude.{Option, None, Some, is_some}
use Rattle.std.proofs.lemmas.Bool.{cases_Bool, false≢true}
use Rattle.std.proofs.lemmas.List.{get_or-append-add}
use Rattle.std.proofs.Math.ListN.{get_or-append}
use Rattle.std.proofs.lemmas.Slice.Eq.{bytes_eq-Decides}
use Rattle.std.specs.Str.{bytes_eq}
use Rattle.memchr.specs.Find.{OccursAt, Nowhere, FindsNeedle}
use Rattle.properties_tree.specs.Plain.{has_backslash}
use Rattle.properties_tree.specs.Entries.{Entry, properties_of, no_entry, bytes_of}
use Rattle.properties_tree.specs.Decoding.{key_text}
use Rattle.properties_tree.specs.Laws.{whole_entry, whole_of}
use Rattle.properties_tree.specs.Keys.{key_or, entries_with, with_key}
use Rattle.properties_tree.proofs.Marked.{plain_key, has_in-append}
use Rattle.properties_tree.proofs.Whole.{whole-properties_of}

-- a part of a text occurs in it
occurs : (text a key b : List ℕ) → text ≡ a ++ (key ++ b) → OccursAt text key (length a)
occurs text a key b is = record {
  fits = let long = ap length is in omega (arith, long, length-append a (key ++ b), length-append key b);
  reads = λ j h. ap (λ (t : List ℕ). get_or t (length a + j) 0) is ∙ (get_or-append-add a (key ++ b) j 0 ∙ get_or-append key b 0 j h);
}

module _ (key w text : List ℕ) (no_slash : has_backslash text ≡ false) (nowhere : Nowhere (OccursAt text key) 0 (length text + 1)) where
  -- an entry keeps its key
  own_key : (a b : List ℕ) (e : Entry) → text ≡ a ++ (bytes_of e.key ++ b) → (has_backslash (bytes_of e.key) ≡ false → key_text e ≡ bytes_of e.key) → key_or key w e ≡ bytes_of e.key
  own_key a b e is plain =
      elim (cases_Bool (bytes_eq (key_text e) key)) [
        | inl same ↦
            let none : has_backslash (bytes_of e.key) ≡ false = (has_in-append (bytes_of e.key) b (has_in-append a (bytes_of e.key ++ b) (ap has_backslash (sym is) ∙ no_slash)).1).0 in
            let said : bytes_of e.key ≡ key = sym (plain none) ∙ (bytes_eq-Decides (key_text e) key).0 same in
            let there : OccursAt text key (length a) = occurs text a key b (is ∙ ap (λ k. a ++ (k ++ b)) said) in
            let fits = there.fits in
            absurd (nowhere (length a) (omega arith) (omega arith) there)
        | inr other ↦ rw other refl
      ]

  all_own : (before : List ℕ) (es : List Entry) (rest : List ℕ) → text ≡ before ++ whole_of es rest
      → ((k : ℕ) → k < length es → has_backslash (bytes_of (get_or es k no_entry).key) ≡ false → key_text (get_or es k no_entry) ≡ bytes_of (get_or es k no_entry).key)
      → entries_with key w es rest ≡ whole_of es rest
  all_own before [] rest is plain = refl
  all_own before (e ∷ es) rest is plain =
      let behind = bytes_of e.separator ++ (bytes_of e.value ++ e.ending) in
      let here : key_or key w e ≡ bytes_of e.key = own_key (before ++ e.prefix) (behind ++ whole_of es rest) e (is ∙ regrouped before e.prefix (bytes_of e.key) behind (whole_of es rest)) (plain 0 (omega arith)) in
      let more : entries_with key w es rest ≡ whole_of es rest = all_own (before ++ whole_entry e) es rest (is ∙ sym (append_assoc before (whole_entry e) (whole_of es rest))) (λ k h. plain (suc k) (omega arith)) in
      ap (λ k. (e.prefix ++ (k ++ behind)) ++ entries_with key w es rest) here ∙ ap (λ t. whole_entry e ++ t) more
    where
      regrouped : (a b c d f : List ℕ) → a ++ ((b ++ (c ++ d)) ++ f) ≡ (a ++ b) ++ (c ++ (d ++ f))
      regrouped a b c d f = simp append_assoc

  pub none_there : with_key key w text ≡ text
  unfolding with_key
  none_there =
      all_own [] (properties_of text).entries (properties_of text).rest (sym (whole-properties_of text)) (λ k h none. plain_key text k none)
      ∙ whole-properties_of text

-- the same, by the answers of the two searches
pub searched : (key text : List ℕ) (found : Option ℕ) (slash : Bool) → is_some found ≡ false → FindsNeedle text key 0 found → slash ≡ has_backslash text → slash ≡ false → (w : List ℕ) → with_key key w text ≡ text
searched key text None slash none found marked e w = none_there key w text (sym marked ∙ e) found
searched key text (Some k) slash some found marked e w = absurd (false≢true (sym some))
