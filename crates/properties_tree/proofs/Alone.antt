-- The bytes of a key or a value say what the entry says.
use Rattle.std.proofs.Common.{◌≡◌, ℕ, zero, suc, ◌+◌, ◌<◌, ◌≤◌, false, List, [], ◌∷◌, ◌++◌, length, get_or, take, drop, sym, ◌∙◌, ap, subst, arith, inl, inr, length-drop}
use Rattle.std.proofs.lemmas.Bool.{cases_Bool}
use Rattle.properties_tree.specs.Lines.{leading_blanks, behind_blanks}
use Rattle.properties_tree.specs.Entries.{bytes_of, characters_of, Entry, Properties, properties_of, no_entry}
use Rattle.properties_tree.specs.Sizes.{entries_from, text_length, ending_length, begins_no_entry}
use Rattle.properties_tree.specs.Cutting.{pieces_in, line_size}
use Rattle.properties_tree.specs.Decoding.{decode, key_text, value_text, entry_at}
use Rattle.properties_tree.proofs.Lengths.{behind_blanks_is}
use Rattle.properties_tree.proofs.FirstLine.{behind_text, some_line}
use Rattle.properties_tree.proofs.Plain.{passes}
use Rattle.properties_tree.proofs.Cut.{at_none}
use Rattle.properties_tree.proofs.EntryAt.{entry_begins, key_alone, value_alone, behind_entry, line-le}
use Rattle.properties_tree.proofs.First.{passed_over, some_line_size}
use Rattle.properties_tree.proofs.Goes.{entries-none}

pub record IsAlone (e : Entry) : Type 0 where
  pub key : pieces_in (bytes_of e.key) ≡ e.key
  pub value : pieces_in (bytes_of e.value) ≡ e.value

alone_none : (before : List ℕ) (k : ℕ) → IsAlone (get_or (entries_from before []).entries k no_entry)
alone_none before k = subst (λ (p : Properties). IsAlone (get_or p.entries k no_entry)) (sym (entries-none before)) (record { key = at_none; value = at_none })

-- an entry, and those behind it
alone_cons : (e : Entry) (es : List Entry) → IsAlone e → ((k : ℕ) → IsAlone (get_or es k no_entry)) → (k : ℕ) → IsAlone (get_or (e ∷ es) k no_entry)
alone_cons e es first more zero = first
alone_cons e es first more (suc k) = more k

shorter_passed : (s : List ℕ) → 0 < length s → length (drop (text_length s + ending_length (behind_text s)) s) + 1 ≤ length s
shorter_passed s some = let more = some_line s some in let left = length-drop (text_length s + ending_length (behind_text s)) s in omega arith

shorter_entry : (s : List ℕ) → begins_no_entry (behind_blanks s) ≡ false → length (drop (ending_length (behind_entry s)) (behind_entry s)) + 1 ≤ length s
shorter_entry s starts =
    let some = some_line_size (behind_blanks s) starts in
    let a = length-drop (ending_length (behind_entry s)) (behind_entry s) in
    let b = length-drop (line_size (behind_blanks s)) (behind_blanks s) in
    let c = ap length (behind_blanks_is s) ∙ length-drop (length (leading_blanks s)) s in
    let fits : line_size (behind_blanks s) ≤ length (behind_blanks s) = line-le (behind_blanks s) in
    omega arith

alone_within : (n : ℕ) (s : List ℕ) → length s ≤ n → (before : List ℕ) (k : ℕ) → IsAlone (get_or (entries_from before s).entries k no_entry)
alone_within n [] h before k = alone_none before k
alone_within zero (b ∷ rest) h before k = absurd (omega arith)
alone_within (suc n) (b ∷ rest) h before k =
    let s = b ∷ rest in
    elim (cases_Bool (begins_no_entry (behind_blanks s))) [
      | inl none ↦
          let size = text_length s + ending_length (behind_text s) in
          let less = shorter_passed s (omega arith) in
          subst (λ (p : Properties). IsAlone (get_or p.entries k no_entry)) (sym (passes s (passed_over s ∙ none) before))
          (alone_within n (drop size s) (omega arith) (before ++ take size s) k)
      | inr starts ↦
          let next = drop (ending_length (behind_entry s)) (behind_entry s) in
          let less = shorter_entry s starts in
          subst (λ (p : Properties). IsAlone (get_or p.entries k no_entry)) (sym (entry_begins s (passed_over s ∙ starts) before))
          (alone_cons _ (entries_from [] next).entries (record { key = key_alone (behind_blanks s); value = value_alone (behind_blanks s) }) (λ j. alone_within n next (omega arith) [] j) k)
    ]

-- each entry's key and value are what their bytes say
pub alone : (bytes : List ℕ) (k : ℕ) → IsAlone (entry_at bytes k)
unfolding properties_of entries_from
alone bytes k = alone_within (length bytes) bytes (omega arith) [] k

pub key_said : (bytes : List ℕ) (k : ℕ) → decode (characters_of (pieces_in (bytes_of (entry_at bytes k).key))) ≡ key_text (entry_at bytes k)
key_said bytes k = ap (λ ps. decode (characters_of ps)) (alone bytes k).key

pub value_said : (bytes : List ℕ) (k : ℕ) → decode (characters_of (pieces_in (bytes_of (entry_at bytes k).value))) ≡ value_text (entry_at bytes k)
value_said bytes k = ap (λ ps. decode (characters_of ps)) (alone bytes k).value
