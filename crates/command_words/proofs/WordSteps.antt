-- Words one after another.
use Rattle.std.specs.Prelude.{decimal}
use Rattle.std.specs.Option.{option_map, option_and_then}
use Rattle.std.specs.Str.{bytes_eq}
use Rattle.std.proofs.Common.{◌≡◌, ◌≢◌, ℕ, zero, suc, ◌+◌, ◌-◌, ◌<◌, ◌≤◌, ◌==◌, true, false, List, [], ◌∷◌, ◌++◌, map, length, take, drop, get_or, Option, Some, None, refl, sym, ap, ◌∙◌, arith, add-one, drop-cons, append_assoc}
use Rattle.std.proofs.lemmas.List.{drop_all, take_all, take_more, append-nil, length-drop}
use Rattle.std.proofs.lemmas.Bool.Decides.{nat_tests}
use Rattle.command_words.specs.declared.words.Options.{Options as ToldOptions}
use Rattle.command_words.specs.Taken.{options_told}
use Rattle.command_words.specs.Words.{number_to, cut_at_equals, options, with_option, command_of, command_by, no_options, Options, Command}

-- ---- numbers from the largest down

pub this_number : (n : ℕ) (word : List ℕ) → 0 < n → bytes_eq word (decimal n) ≡ true → Some n ≡ number_to n word
unfolding number_to
this_number zero word h e = absurd (omega (arith, h))
this_number (suc n) word h e = rw e refl

pub lesser_number : (n : ℕ) (word : List ℕ) → 0 < n → bytes_eq word (decimal n) ≡ false → number_to (n - 1) word ≡ number_to n word
unfolding number_to
lesser_number zero word h e = absurd (omega (arith, h))
lesser_number (suc n) word h e = rw e (ap (λ m. number_to m word) (omega arith))

pub none_left : (n : ℕ) (word : List ℕ) (r : Option ℕ) → n ≤ 0 → number_to n word ≡ r → None ≡ r
unfolding number_to
none_left zero word r le e = e
none_left (suc n) word r le e = absurd (omega (arith, le))

pub ruleset counting = (this_number, lesser_number, none_left)

-- ---- cutting at the first `=`

eq_true : (a b : ℕ) → a ≡ b → (a == b) ≡ true
eq_true a b h = grind (arith, nat_tests)

eq_false : (a b : ℕ) → a ≢ b → (a == b) ≡ false
eq_false a b h = grind (arith, nat_tests)

-- what a cut behind these first bytes gives
abbrev pub behind : List ℕ → Option (List ℕ × List ℕ) → Option (List ℕ × List ℕ)
behind front cut = option_map (λ p. (front ++ p.0, p.1)) cut

cut_drop : (xs : List ℕ) (i : ℕ) (d : ℕ) → i < length xs → drop i xs ≡ get_or xs i d ∷ drop (i + 1) xs
cut_drop xs i d lt = drop-cons xs i d lt ∙ rw add-one refl

map_map : (front : List ℕ) (b : ℕ) (cut : Option (List ℕ × List ℕ)) → behind front (option_map (λ p. (b ∷ p.0, p.1)) cut) ≡ behind (front ++ b ∷ []) cut
map_map front b None = refl
map_map front b (Some p) = ap (λ f. Some (f, p.1)) (sym (append_assoc front (b ∷ []) p.0))

cut_on : (xs : List ℕ) (i d : ℕ) → i < length xs → (get_or xs i d == 61) ≡ false
    → cut_at_equals (drop i xs) ≡ option_map (λ p. (get_or xs i d ∷ p.0, p.1)) (cut_at_equals (drop (i + 1) xs))
unfolding cut_at_equals
cut_on xs i d lt e = ap cut_at_equals (cut_drop xs i d lt) ∙ rw e refl

pub other_byte : (xs : List ℕ) (i d : ℕ) → i < length xs → (get_or xs i d == 61) ≡ false → behind (take i xs) (cut_at_equals (drop i xs)) ≡ cut_at_equals xs
    → behind (take (i + 1) xs) (cut_at_equals (drop (i + 1) xs)) ≡ cut_at_equals xs
unfolding cut_at_equals
other_byte xs i d lt e h =
    ap (λ f. behind f (cut_at_equals (drop (i + 1) xs))) (take_more xs i d lt)
    ∙ (sym (map_map (take i xs) (get_or xs i d) (cut_at_equals (drop (i + 1) xs)))
    ∙ (sym (ap (behind (take i xs)) (cut_on xs i d lt e)) ∙ h))

to_end : (xs : List ℕ) (k : ℕ) → take (length xs - k) (drop k xs) ≡ drop k xs
to_end xs k = take_all (length xs - k) (drop k xs) (omega (arith, length-drop k xs))

cut_here : (xs : List ℕ) (i d : ℕ) → i < length xs → (get_or xs i d == 61) ≡ true → cut_at_equals (drop i xs) ≡ Some ([], drop (i + 1) xs)
unfolding cut_at_equals
cut_here xs i d lt e = ap cut_at_equals (cut_drop xs i d lt) ∙ rw e refl

pub here : (xs : List ℕ) (i d : ℕ) → i < length xs → (get_or xs i d == 61) ≡ true → behind (take i xs) (cut_at_equals (drop i xs)) ≡ cut_at_equals xs
    → Some (take i xs, take (length xs - (i + 1)) (drop (i + 1) xs)) ≡ cut_at_equals xs
here xs i d lt e h =
    ap (λ rest. Some (take i xs, rest)) (to_end xs (i + 1))
    ∙ (ap (λ f. Some (f, drop (i + 1) xs)) (sym (append-nil (take i xs)))
    ∙ (sym (ap (behind (take i xs)) (cut_here xs i d lt e)) ∙ h))

pub here_is : (xs : List ℕ) (i : ℕ) → i < length xs → get_or xs i 0 ≡ 61 → behind (take i xs) (cut_at_equals (drop i xs)) ≡ cut_at_equals xs
    → Some (take i xs, take (length xs - (i + 1)) (drop (i + 1) xs)) ≡ cut_at_equals xs
here_is xs i lt e h = here xs i 0 lt (eq_true (get_or xs i 0) 61 e) h

pub other_is : (xs : List ℕ) (i : ℕ) → i < length xs → get_or xs i 0 ≢ 61 → behind (take i xs) (cut_at_equals (drop i xs)) ≡ cut_at_equals xs
    → behind (take (i + 1) xs) (cut_at_equals (drop (i + 1) xs)) ≡ cut_at_equals xs
other_is xs i lt e h = other_byte xs i 0 lt (eq_false (get_or xs i 0) 61 e) h

pub nowhere : (xs : List ℕ) (i : ℕ) → length xs ≤ i → behind (take i xs) (cut_at_equals (drop i xs)) ≡ cut_at_equals xs → None ≡ cut_at_equals xs
unfolding cut_at_equals
nowhere xs i le h = sym (ap (λ rest. behind (take i xs) (cut_at_equals rest)) (drop_all i xs le)) ∙ h

pub start : (xs : List ℕ) → behind [] (cut_at_equals xs) ≡ cut_at_equals xs
start xs = same (cut_at_equals xs) where
  same : (c : Option (List ℕ × List ℕ)) → behind [] c ≡ c
  same None = refl
  same (Some p) = refl

pub ruleset cutting = (other_is, here_is, nowhere, start)

-- ---- options one after another

only : (o : Option Options) → option_and_then Some o ≡ o
only None = refl
only (Some o) = refl

pub no_word : (o : Options) → Some o ≡ options [] o
unfolding options
no_word o = refl

pub in_one : (word name value : List ℕ) (rest : List (List ℕ)) (o : Options) → Some (name, value) ≡ cut_at_equals word
    → options (word ∷ rest) o ≡ option_and_then (options rest) (with_option name value o)
unfolding options
in_one word name value [] o e = rw (options, ← e) (sym (only (with_option name value o)))
in_one word name value (next ∷ rest) o e = rw (options, ← e) refl

pub in_two : (word value : List ℕ) (rest : List (List ℕ)) (o : Options) → None ≡ cut_at_equals word
    → options (word ∷ value ∷ rest) o ≡ option_and_then (options rest) (with_option word value o)
unfolding options
in_two word value rest o e = rw (options, ← e) refl

pub alone : (word : List ℕ) (o : Options) → None ≡ cut_at_equals word → None ≡ options (word ∷ []) o
unfolding options
alone word o e = rw (options, ← e) refl

module _ (W : List (List ℕ)) (word : List ℕ) (rest : List (List ℕ)) (o : Options) (R : Option ToldOptions) where
  pub one_on : (t : ToldOptions) (r : Option Options) (name value : List ℕ) → W ≡ word ∷ rest → Some (name, value) ≡ cut_at_equals word → option_map options_told R ≡ with_option name value o → R ≡ Some t
      → r ≡ options rest (options_told t) → r ≡ options W o
  one_on t r name value w c e i h =
      h ∙ (sym (ap (option_and_then (options rest)) (sym e ∙ ap (option_map options_told) i)) ∙ (sym (in_one word name value rest o c) ∙ ap (λ ws. options ws o) (sym w)))

  pub one_off : (name value : List ℕ) → W ≡ word ∷ rest → Some (name, value) ≡ cut_at_equals word → option_map options_told R ≡ with_option name value o → R ≡ None
      → None ≡ options W o
  one_off name value w c e i =
      sym (ap (option_and_then (options rest)) (sym e ∙ ap (option_map options_told) i)) ∙ (sym (in_one word name value rest o c) ∙ ap (λ ws. options ws o) (sym w))

  pub two_on : (t : ToldOptions) (r : Option Options) (value : List ℕ) (V : List (List ℕ)) → W ≡ word ∷ V → V ≡ value ∷ rest → None ≡ cut_at_equals word
      → option_map options_told R ≡ with_option word value o → R ≡ Some t → r ≡ options rest (options_told t) → r ≡ options W o
  two_on t r value V w v c e i h =
      h ∙ (sym (ap (option_and_then (options rest)) (sym e ∙ ap (option_map options_told) i)) ∙ (sym (in_two word value rest o c) ∙ ap (λ ws. options ws o) (sym (w ∙ ap (λ vs. word ∷ vs) v))))

  pub two_off : (value : List ℕ) (V : List (List ℕ)) → W ≡ word ∷ V → V ≡ value ∷ rest → None ≡ cut_at_equals word → option_map options_told R ≡ with_option word value o → R ≡ None
      → None ≡ options W o
  two_off value V w v c e i =
      sym (ap (option_and_then (options rest)) (sym e ∙ ap (option_map options_told) i)) ∙ (sym (in_two word value rest o c) ∙ ap (λ ws. options ws o) (sym (w ∙ ap (λ vs. word ∷ vs) v)))

pub nothing_more : (W : List (List ℕ)) (o : Options) → W ≡ [] → Some o ≡ options W o
nothing_more W o e = no_word o ∙ ap (λ ws. options ws o) (sym e)

pub no_value : (W : List (List ℕ)) (word : List ℕ) (V : List (List ℕ)) (o : Options) → W ≡ word ∷ V → V ≡ [] → None ≡ cut_at_equals word → None ≡ options W o
no_value W word V o w v c = alone word o c ∙ ap (λ ws. options ws o) (sym (w ∙ ap (λ vs. word ∷ vs) v))

pub ruleset taking = (nothing_more, no_value, one_on, one_off, two_on, two_off)

-- ---- the first word

module _ {A : Type 0} (f : A → List ℕ) where
  pub first_word : (ws : List A) (a : A) (x : List ℕ) → 0 < length ws → a ≡ get_or ws 0 a → x ≡ f a → map f ws ≡ x ∷ map f (take (length ws - 1) (drop 1 ws))
  first_word [] a x n ea ex = absurd (omega (arith, n))
  first_word (v ∷ ws) a x n ea ex =
      ap (λ y. y ∷ map f ws) (sym (ex ∙ ap f ea)) ∙ ap (λ vs. x ∷ map f vs) (sym (take_all (length (v ∷ ws) - 1) ws (omega arith)))

  pub no_words : (ws : List A) → length ws ≡ 0 → map f ws ≡ []
  no_words [] n = refl
  no_words (v ∷ ws) n = absurd (omega (arith, n))

pub ruleset splitting = (first_word, no_words)

-- ---- commands

pub no_command : (W : List (List ℕ)) → W ≡ [] → None ≡ command_of W
unfolding command_of
no_command W e = rw e refl

pub command : (W : List (List ℕ)) (name : List ℕ) (rest : List (List ℕ)) (R : Option ToldOptions) (t : ToldOptions) (r : Option Command) → W ≡ name ∷ rest
    → option_map options_told R ≡ options rest no_options → R ≡ Some t → r ≡ command_by name (options_told t) → r ≡ command_of W
unfolding command_of
command W name rest R t r w e i h = rw w (h ∙ ap (option_and_then (command_by name)) (sym (ap (option_map options_told) i) ∙ e))

pub no_options_taken : (W : List (List ℕ)) (name : List ℕ) (rest : List (List ℕ)) (R : Option ToldOptions) → W ≡ name ∷ rest
    → option_map options_told R ≡ options rest no_options → R ≡ None → None ≡ command_of W
unfolding command_of
no_options_taken W name rest R w e i = rw w (ap (option_and_then (command_by name)) (sym (ap (option_map options_told) i) ∙ e))

pub ruleset commands = (no_command, command, no_options_taken)
