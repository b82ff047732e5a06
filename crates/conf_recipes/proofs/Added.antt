-- The entry that is added at the end of a file.
use Rattle.std.proofs.Common.{◌≡◌, ℕ, ◌+◌, ◌*◌, ◌-◌, ◌<◌, ◌≤◌, ◌==◌, Bool, true, false, ◌||◌, List, [], ◌∷◌, ◌++◌, length, take, drop, get_or, refl, sym, ap, ◌∙◌, append_assoc, append-nil, add-one, drop-cons, arith}
use Rattle.std.specs.Prelude.{if◌then◌else◌}
use Rattle.std.specs.List.{list_any}
use Rattle.std.specs.Str.{bytes_eq}
use Rattle.std.proofs.lemmas.List.{drop_all, take_all}
use Rattle.std.proofs.lemmas.List.Elements.{All-nil, All-cons}
use Rattle.std.proofs.lemmas.List.Folds.{list_any_more, list_any_at}
use Rattle.rw_base.specs.Arena.{Arena}
use Rattle.rw_base.specs.NewText.{IsItemOf, AreEdits}
use Rattle.rw_base.specs.declared.edit.Edit.{Edit}
use Rattle.rw_base.specs.declared.edit.Item.TheVariants as item
use Rattle.rw_base.specs.declared.edit.Spot.TheVariants as spot
use Rattle.properties_tree.specs.declared.option.AddProperty.{AddProperty}
use Rattle.properties_tree.specs.Characters.{is_line_end, backslash}
use Rattle.properties_tree.specs.Decoding.{key_text}
use Rattle.properties_tree.specs.Entries.{Entry, properties_of, no_entry}
use Rattle.properties_tree.specs.Lines.{backslashes_behind, is_continued, is_odd}
use Rattle.conf_recipes.specs.PropertiesRecipes.{text_edit, ending_at, first_line_end, ends_in_line_end, line_end_before, added_text, is_unfinished, has_entry, adds_of}

cut : {A : Type 0} (xs : List A) (i : ℕ) (d : A) → i < length xs → drop i xs ≡ get_or xs i d ∷ drop (i + 1) xs
cut xs i d lt = drop-cons xs i d lt ∙ rw add-one refl

-- ---- the first line end

pub line_here : (bytes : List ℕ) (i : ℕ) (all : List ℕ) → i < length bytes → is_line_end (get_or bytes i 0) ≡ true → first_line_end (drop i bytes) ≡ all → ending_at (drop i bytes) ≡ all
unfolding first_line_end
line_here bytes i all lt here e =
    ap ending_at (cut bytes i 0 lt) ∙ (sym (ap first_line_end (cut bytes i 0 lt) ∙ rw here refl) ∙ e)

pub line_on : (bytes : List ℕ) (i : ℕ) (all : List ℕ) → i < length bytes → is_line_end (get_or bytes i 0) ≡ false → first_line_end (drop i bytes) ≡ all → first_line_end (drop (i + 1) bytes) ≡ all
unfolding first_line_end
line_on bytes i all lt other e = sym (ap first_line_end (cut bytes i 0 lt) ∙ rw other refl) ∙ e

pub line_none : (bytes : List ℕ) (i : ℕ) (all : List ℕ) → length bytes ≤ i → first_line_end (drop i bytes) ≡ all → 10 ∷ [] ≡ all
unfolding first_line_end
line_none bytes i all le e = sym (ap first_line_end (drop_all i bytes le)) ∙ e

pub ruleset over_lines = (line_here, line_on, line_none)

-- ---- the last byte

pub nothing_ends : (bytes : List ℕ) → length bytes ≡ 0 → false ≡ ends_in_line_end bytes
unfolding ends_in_line_end
nothing_ends [] e = refl
nothing_ends (b ∷ bytes) e = absurd (omega (arith, e))

pub last_ends : (bytes : List ℕ) → is_line_end (get_or bytes (length bytes - 1) 0) ≡ ends_in_line_end bytes
unfolding ends_in_line_end
last_ends bytes = refl

pub ruleset last_bytes = (nothing_ends, last_ends)

-- ---- the line end before the entry

pub empty_before : (bytes out : List ℕ) → length bytes ≡ 0 → out ≡ out ++ line_end_before bytes
unfolding line_end_before
empty_before [] out e = sym (append-nil out)
empty_before (b ∷ bytes) out e = absurd (omega (arith, e))

pub ended_before : (bytes out : List ℕ) → ends_in_line_end bytes ≡ true → out ≡ out ++ line_end_before bytes
unfolding line_end_before
ended_before [] out e = sym (append-nil out)
ended_before (b ∷ bytes) out e = sym (rw e (append-nil out))

pub end_before : (bytes out : List ℕ) → (length bytes ≡ 0 → ⊥) → ends_in_line_end bytes ≡ false → out ++ first_line_end bytes ≡ out ++ line_end_before bytes
unfolding line_end_before
end_before [] out some e = absurd (some refl)
end_before (b ∷ bytes) out some e = rw e refl

pub ruleset line_ends = (empty_before, ended_before, end_before)

-- ---- the text

pub text_is : (before key value behind a b c d e : List ℕ) → a ≡ [] ++ before → b ≡ a ++ key → c ≡ b ++ 61 ∷ [] → d ≡ c ++ value → e ≡ d ++ behind → e ≡ before ++ (key ++ 61 ∷ (value ++ behind))
text_is before key value behind a b c d e first second third fourth fifth =
    fifth ∙ (ap (λ x. x ++ behind) (fourth ∙ ap (λ x. x ++ value) (third ∙ ap (λ x. x ++ 61 ∷ []) (second ∙ ap (λ x. x ++ key) first))) ∙ simp append_assoc)

pub ruleset texts = (text_is)

-- ---- backslashes at the end

pub one_more : (text : List ℕ) (i count next all : ℕ) → i < length text → next ≡ (if get_or text i 0 == backslash then count + 1 else 0) → backslashes_behind count (drop i text) ≡ all → backslashes_behind next (drop (i + 1) text) ≡ all
one_more text i count next all lt is e =
    ap (λ n. backslashes_behind n (drop (i + 1) text)) is
    ∙ (either (get_or text i 0 == backslash) ∙ (sym (ap (backslashes_behind count) (cut text i 0 lt)) ∙ e))
  where
    either : (b : Bool) → backslashes_behind (if b then count + 1 else 0) (drop (i + 1) text) ≡ (if b then backslashes_behind (count + 1) (drop (i + 1) text) else backslashes_behind 0 (drop (i + 1) text))
    either true = refl
    either false = refl

pub all_counted : (text : List ℕ) (i count : ℕ) → length text ≤ i → backslashes_behind count (drop i text) ≡ backslashes_behind 0 text → is_odd count ≡ is_continued text
all_counted text i count le e = ap is_odd (sym (ap (backslashes_behind count) (drop_all i text le)) ∙ e)

pub ruleset over_backslashes = (one_more, all_counted)

-- ---- whether an entry has the key

module _ (key : List ℕ) (es : List Entry) (n : ℕ) where
  pub not_yet : n < length es → list_any (λ e. bytes_eq (key_text e) key) (take n es) ≡ false → bytes_eq (key_text (get_or es n no_entry)) key ≡ false → list_any (λ e. bytes_eq (key_text e) key) (take (n + 1) es) ≡ false
  not_yet lt before this = list_any_more (λ e. bytes_eq (key_text e) key) es n no_entry lt ∙ (ap (λ b. b || bytes_eq (key_text (get_or es n no_entry)) key) before ∙ this)

  pub found_here : n < length es → bytes_eq (key_text (get_or es n no_entry)) key ≡ true → true ≡ has_entry key es
  unfolding has_entry
  found_here lt this = sym (list_any_at (λ e. bytes_eq (key_text e) key) es n no_entry lt this)

  pub found_nowhere : length es ≤ n → list_any (λ e. bytes_eq (key_text e) key) (take n es) ≡ false → false ≡ has_entry key es
  unfolding has_entry
  found_nowhere le before = sym before ∙ ap (list_any (λ e. bytes_eq (key_text e) key)) (take_all n es le)

pub ruleset over_entries = (not_yet, found_here, found_nowhere)

-- ---- the edits

pub has_it : (bytes : List ℕ) (o : AddProperty) → has_entry o.property (properties_of bytes).entries ≡ true → [] ≡ adds_of bytes o
unfolding adds_of
has_it bytes o e = rw e refl

pub goes_on : (bytes : List ℕ) (o : AddProperty) → has_entry o.property (properties_of bytes).entries ≡ false → is_unfinished bytes ≡ true → [] ≡ adds_of bytes o
unfolding adds_of
goes_on bytes o e u = rw e (rw u refl)

pub gets_it : (bytes : List ℕ) (o : AddProperty) (i : ℕ) (text : List ℕ) → has_entry o.property (properties_of bytes).entries ≡ false → is_unfinished bytes ≡ false → i ≡ 4 * length (properties_of bytes).entries → text ≡ added_text bytes o → text_edit i text ∷ [] ≡ adds_of bytes o
unfolding adds_of
gets_it bytes o i text e u at is = rw e (rw u (ap (λ j. text_edit j text ∷ []) at ∙ ap (λ x. text_edit (4 * length (properties_of bytes).entries) x ∷ []) is))

pub none_fit : (t : Arena) → AreEdits t []
unfolding AreEdits
none_fit t = tt

pub one_fits : (t : Arena) (i : ℕ) (text : List ℕ) → i < length t.leaves → AreEdits t (text_edit i text ∷ [])
unfolding AreEdits
one_fits t i text lt = (lt, All-cons (IsItemOf t (spot.Leaf i)) (item.Text text) [] tt (All-nil (IsItemOf t (spot.Leaf i))), All-nil (λ (f : Edit). f.spot ≡ spot.Leaf i → ⊥), tt)

pub ruleset added = (has_it, goes_on, gets_it, none_fit, one_fits)
