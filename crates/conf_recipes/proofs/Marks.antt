-- Places marked one after another, and what is left at a marked place.
use Rattle.std.proofs.Common.{◌≡◌, ℕ, suc, ◌+◌, ◌<◌, ◌≤◌, ◌==◌, Bool, true, false, ◌&&◌, ◌||◌, List, [], ◌∷◌, ◌++◌, length, take, drop, get_or, set, drop-set-lt, zero, inl, inr, refl, sym, ap, ◌∙◌, append_assoc, add-one, drop-cons, arith}
use Rattle.std.specs.Prelude.{replicate, if◌then◌else◌}
use Rattle.std.proofs.lemmas.Bool.{cases_Bool}
use Rattle.std.proofs.lemmas.List.{drop_all, take_more_set, set_split}
use Rattle.conf_recipes.specs.PathMarks.{some_marked, byte_here, byte_carries, byte_last, part_here, part_carries}
use Rattle.conf_recipes.specs.PathPatterns.{some_end, is_continuation, behind_character, part_matches, parts_of, stands_for_parts, parts_match, path_matches}
use Rattle.conf_recipes.proofs.Bits.{last_second, two_turned, or_false, any_ends, any_steps, one_ends, character_steps, byte_steps, part_steps}

-- ---- marks from a place on

module _ {X : Type 0} (here carry : X → Bool → Bool → Bool) (last : Bool → Bool → Bool) where
  unfoldable pub marks_from : Bool → List Bool → List X → List Bool
  marks_from c [] xs = []
  marks_from c (m ∷ ms) [] = last m c ∷ []
  marks_from c (m ∷ ms) (x ∷ xs) = here x m c ∷ marks_from (carry x m c) ms xs

  module _ (w q : List X → Bool) (pending : Bool → List X → Bool) (ends : (m c : Bool) → (m && w []) || pending c [] ≡ last m c && q []) (steps : (m c : Bool) (x : X) (xs : List X) → (m && w (x ∷ xs)) || pending c (x ∷ xs) ≡ (here x m c && q (x ∷ xs)) || pending (carry x m c) xs) where
    pub marked_by : (c : Bool) (ms : List Bool) (xs : List X) → length ms ≡ length xs + 1 → some_marked w ms xs || pending c xs ≡ some_marked q (marks_from c ms xs) xs
    unfolding some_marked marks_from
    marked_by c [] xs long = absurd (omega (arith, long))
    marked_by c (m ∷ ms) [] long = ends m c
    marked_by c (m ∷ ms) (x ∷ xs) long =
        last_second (m && w (x ∷ xs)) (some_marked w ms xs) (pending c (x ∷ xs))
        ∙ (ap (λ b. b || some_marked w ms xs) (steps m c x xs)
        ∙ (two_turned (here x m c && q (x ∷ xs)) (pending (carry x m c) xs) (some_marked w ms xs)
        ∙ ap (λ b. (here x m c && q (x ∷ xs)) || b) (marked_by (carry x m c) ms xs (omega (arith, long)))))

  pub marks_start : (ms : List Bool) (xs : List X) → take 0 ms ++ marks_from false (drop 0 ms) (drop 0 xs) ≡ marks_from false ms xs
  marks_start ms xs = refl

  -- one place more is written
  pub marks_more : (ms : List Bool) (xs : List X) (i : ℕ) (d : X) (m c : Bool) (all : List Bool) → i < length xs → length ms ≡ length xs + 1 → m ≡ get_or ms i false
      → take i ms ++ marks_from c (drop i ms) (drop i xs) ≡ all
      → take (i + 1) (set ms i (here (get_or xs i d) m c)) ++ marks_from (carry (get_or xs i d) m c) (drop (i + 1) (set ms i (here (get_or xs i d) m c))) (drop (i + 1) xs) ≡ all
  unfolding marks_from
  marks_more ms xs i d m c all lt long is h =
      let x = get_or xs i d in
      let cut_xs : drop i xs ≡ x ∷ drop (i + 1) xs = drop-cons xs i d lt ∙ rw add-one refl in
      let cut_ms : drop i ms ≡ m ∷ drop (i + 1) ms = drop-cons ms i false (omega (arith, long)) ∙ (rw add-one refl ∙ ap (λ b. b ∷ drop (i + 1) ms) (sym is)) in
      let now = set ms i (here x m c) in
      let behind : drop (i + 1) now ≡ drop (i + 1) ms = drop-set-lt (i + 1) ms i (here x m c) (omega arith) in
      ap (λ ts. ts ++ marks_from (carry x m c) (drop (i + 1) now) (drop (i + 1) xs)) (take_more_set ms i (here x m c) (omega (arith, long)))
      ∙ (ap (λ ds. (take i ms ++ here x m c ∷ []) ++ marks_from (carry x m c) ds (drop (i + 1) xs)) behind
      ∙ (append_assoc (take i ms) (here x m c ∷ []) (marks_from (carry x m c) (drop (i + 1) ms) (drop (i + 1) xs))
      ∙ (sym (ap (λ ds. take i ms ++ marks_from c ds (drop i xs)) cut_ms ∙ ap (λ ys. take i ms ++ marks_from c (m ∷ drop (i + 1) ms) ys) cut_xs) ∙ h)))

  pub marks_next : (ms : List Bool) (xs : List X) (i : ℕ) (d : X) (h k c : Bool) (all : List Bool) → i < length xs → length ms ≡ length xs + 1
      → h ≡ here (get_or xs i d) (get_or ms i false) c → k ≡ carry (get_or xs i d) (get_or ms i false) c
      → take i ms ++ marks_from c (drop i ms) (drop i xs) ≡ all
      → take (i + 1) (set ms i h) ++ marks_from k (drop (i + 1) (set ms i h)) (drop (i + 1) xs) ≡ all
  marks_next ms xs i d h k c all lt long hs ks before =
      let m = get_or ms i false in
      let x = get_or xs i d in
      ap (λ g. take (i + 1) (set ms i g) ++ marks_from k (drop (i + 1) (set ms i g)) (drop (i + 1) xs)) hs
      ∙ (ap (λ g. take (i + 1) (set ms i (here x m c)) ++ marks_from g (drop (i + 1) (set ms i (here x m c))) (drop (i + 1) xs)) ks
      ∙ marks_more ms xs i d m c all lt long refl before)

  -- and the place behind all is written
  end_marked : (ms : List Bool) (xs : List X) (i : ℕ) (g c : Bool) (all : List Bool) → i ≡ length xs → length ms ≡ length xs + 1 → g ≡ last (get_or ms (length xs) false) c
      → take i ms ++ marks_from c (drop i ms) (drop i xs) ≡ all → set ms (length xs) g ≡ all
  unfolding marks_from
  end_marked ms xs i g c all at long is h =
      let n = length xs in
      let m = get_or ms n false in
      let cut_ms : drop n ms ≡ m ∷ [] = drop-cons ms n false (omega (arith, long)) ∙ ap (λ ds. m ∷ ds) (drop_all (suc n) ms (omega (arith, long))) in
      ap (set ms n) is
      ∙ (set_split ms n (last m c) (omega (arith, long))
      ∙ (ap (λ ds. take n ms ++ last m c ∷ ds) (drop_all (suc n) ms (omega (arith, long)))
      ∙ (sym (ap (λ j. take j ms ++ marks_from c (drop j ms) (drop j xs)) at ∙ (ap (λ ds. take n ms ++ marks_from c ds (drop n xs)) cut_ms ∙ ap (λ ys. take n ms ++ marks_from c (m ∷ []) ys) (drop_all n xs (omega arith)))) ∙ h)))

  pub marks_end : (ms : List Bool) (xs : List X) (i n : ℕ) (g c : Bool) (all : List Bool) → i ≡ length xs → n ≡ length xs → length ms ≡ length xs + 1 → g ≡ last (get_or ms n false) c
      → take i ms ++ marks_from c (drop i ms) (drop i xs) ≡ all → set ms n g ≡ all
  marks_end ms xs i n g c all at end long is h =
      ap (λ k. set ms k g) end ∙ end_marked ms xs i g c all at long (is ∙ ap (λ k. last (get_or ms k false) c) end) h

-- ---- what they mean for the bytes of a part

module _ (p : ℕ) (ps : List ℕ) where
  any_bytes : p == 42 ≡ true → (ms : List Bool) (xs : List ℕ) → length ms ≡ length xs + 1 → some_marked (part_matches (p ∷ ps)) ms xs || (false && some_end (part_matches ps) xs) ≡ some_marked (part_matches ps) (marks_from (byte_here p) (byte_carries p) (byte_last p) false ms xs) xs
  unfolding part_matches some_end
  any_bytes e ms xs long =
      let q = part_matches ps in
      marked_by (byte_here p) (byte_carries p) (byte_last p) (part_matches (p ∷ ps)) q (λ c ys. c && some_end q ys)
      (λ m c. rw e (any_ends m c (q [])))
      (λ m c y ys. rw e (any_steps m c (q (y ∷ ys)) (some_end q ys)))
      false ms xs long

  one_character : p == 42 ≡ false → p == 63 ≡ true → (ms : List Bool) (xs : List ℕ) → length ms ≡ length xs + 1 → some_marked (part_matches (p ∷ ps)) ms xs || (false && part_matches ps (behind_character xs)) ≡ some_marked (part_matches ps) (marks_from (byte_here p) (byte_carries p) (byte_last p) false ms xs) xs
  unfolding part_matches behind_character
  one_character e u ms xs long =
      let q = part_matches ps in
      marked_by (byte_here p) (byte_carries p) (byte_last p) (part_matches (p ∷ ps)) q (λ c ys. c && q (behind_character ys))
      (λ m c. rw e (one_ends m c (q [])))
      (λ m c y ys. rw e (rw u (ap (λ b. (m && q (behind_character ys)) || (c && b)) (either (is_continuation y) y ys) ∙ character_steps (is_continuation y) m c (q (behind_character ys)) (q (y ∷ ys)))))
      false ms xs long
    where
      either : (k : Bool) (y : ℕ) (ys : List ℕ) → part_matches ps (if k then behind_character ys else y ∷ ys) ≡ (if k then part_matches ps (behind_character ys) else part_matches ps (y ∷ ys))
      either true y ys = refl
      either false y ys = refl

  one_byte : p == 42 ≡ false → p == 63 ≡ false → (ms : List Bool) (xs : List ℕ) → length ms ≡ length xs + 1 → some_marked (part_matches (p ∷ ps)) ms xs || (false && part_matches ps xs) ≡ some_marked (part_matches ps) (marks_from (byte_here p) (byte_carries p) (byte_last p) false ms xs) xs
  unfolding part_matches
  one_byte e u ms xs long =
      let q = part_matches ps in
      marked_by (byte_here p) (byte_carries p) (byte_last p) (part_matches (p ∷ ps)) q (λ c ys. c && q ys)
      (λ m c. rw e (one_ends m c (q [])))
      (λ m c y ys. rw e (rw u (byte_steps m c (p == y) (q ys) (q (y ∷ ys)))))
      false ms xs long

  pub bytes_marked : (ms : List Bool) (xs : List ℕ) → length ms ≡ length xs + 1 → some_marked (part_matches ps) (marks_from (byte_here p) (byte_carries p) (byte_last p) false ms xs) xs ≡ some_marked (part_matches (p ∷ ps)) ms xs
  bytes_marked ms xs long = elim (cases_Bool (p == 42)) [
    | inl e ↦ sym (any_bytes e ms xs long) ∙ or_false (some_marked (part_matches (p ∷ ps)) ms xs)
    | inr e ↦ elim (cases_Bool (p == 63)) [
      | inl u ↦ sym (one_character e u ms xs long) ∙ or_false (some_marked (part_matches (p ∷ ps)) ms xs)
      | inr u ↦ sym (one_byte e u ms xs long) ∙ or_false (some_marked (part_matches (p ∷ ps)) ms xs)
    ]
  ]

-- ---- and for parts

module _ (p : List ℕ) (ps : List (List ℕ)) where
  any_parts : stands_for_parts p ≡ true → (ms : List Bool) (xs : List (List ℕ)) → length ms ≡ length xs + 1 → some_marked (parts_match (p ∷ ps)) ms xs || (false && some_end (parts_match ps) xs) ≡ some_marked (parts_match ps) (marks_from (λ x. part_here p) (part_carries p) (part_here p) false ms xs) xs
  unfolding parts_match some_end
  any_parts e ms xs long =
      let q = parts_match ps in
      marked_by (λ x. part_here p) (part_carries p) (part_here p) (parts_match (p ∷ ps)) q (λ c ys. c && some_end q ys)
      (λ m c. rw e (any_ends m c (q [])))
      (λ m c y ys. rw e (any_steps m c (q (y ∷ ys)) (some_end q ys)))
      false ms xs long

  one_part : stands_for_parts p ≡ false → (ms : List Bool) (xs : List (List ℕ)) → length ms ≡ length xs + 1 → some_marked (parts_match (p ∷ ps)) ms xs || (false && parts_match ps xs) ≡ some_marked (parts_match ps) (marks_from (λ x. part_here p) (part_carries p) (part_here p) false ms xs) xs
  unfolding parts_match
  one_part e ms xs long =
      let q = parts_match ps in
      marked_by (λ x. part_here p) (part_carries p) (part_here p) (parts_match (p ∷ ps)) q (λ c ys. c && q ys)
      (λ m c. rw e (one_ends m c (q [])))
      (λ m c y ys. rw e (part_steps m c (part_matches p y) (q ys) (q (y ∷ ys))))
      false ms xs long

  pub parts_marked : (ms : List Bool) (xs : List (List ℕ)) → length ms ≡ length xs + 1 → some_marked (parts_match ps) (marks_from (λ x. part_here p) (part_carries p) (part_here p) false ms xs) xs ≡ some_marked (parts_match (p ∷ ps)) ms xs
  parts_marked ms xs long = elim (cases_Bool (stands_for_parts p)) [
    | inl e ↦ sym (any_parts e ms xs long) ∙ or_false (some_marked (parts_match (p ∷ ps)) ms xs)
    | inr e ↦ sym (one_part e ms xs long) ∙ or_false (some_marked (parts_match (p ∷ ps)) ms xs)
  ]

pub ruleset over_marks = (bytes_marked, parts_marked, marks_next)

-- ---- from the first place to the last

module _ {X : Type 0} where
  none_marked : (q : List X → Bool) (n : ℕ) (xs : List X) → some_marked q (replicate n false) xs ≡ false
  unfolding some_marked
  none_marked q zero xs = refl
  none_marked q (suc n) [] = refl
  none_marked q (suc n) (x ∷ xs) = none_marked q n xs

  pub first_marked : (q : List X → Bool) (ms : List Bool) (n : ℕ) (xs : List X) → ms ≡ true ∷ replicate n false → some_marked q ms xs ≡ q xs
  unfolding some_marked
  first_marked q ms n [] e = ap (λ ds. some_marked q ds []) e
  first_marked q ms n (x ∷ xs) e = ap (λ ds. some_marked q ds (x ∷ xs)) e ∙ (ap (λ b. q (x ∷ xs) || b) (none_marked q n xs) ∙ or_false (q (x ∷ xs)))

  last_marked : (q : List X → Bool) (ms : List Bool) (xs : List X) (d : Bool) → q [] ≡ true → ((y : X) (ys : List X) → q (y ∷ ys) ≡ false) → length ms ≡ length xs + 1 → some_marked q ms xs ≡ get_or ms (length xs) d
  unfolding some_marked
  last_marked q [] xs d ends others long = absurd (omega (arith, long))
  last_marked q (m ∷ ms) [] d ends others long = and_true m (q []) ends
    where
      and_true : (m a : Bool) → a ≡ true → m && a ≡ m
      and_true true a e = e
      and_true false a e = refl
  last_marked q (m ∷ ms) (x ∷ xs) d ends others long = ap (λ b. b || some_marked q ms xs) (and_false m (q (x ∷ xs)) (others x xs)) ∙ last_marked q ms xs d ends others (omega (arith, long))
    where
      and_false : (m a : Bool) → a ≡ false → m && a ≡ false
      and_false true a e = e
      and_false false a e = refl

module _ (text : List ℕ) where
  pub part_start : (pattern : List ℕ) (ms : List Bool) → ms ≡ true ∷ replicate (length text) false → some_marked (part_matches (drop 0 pattern)) ms text ≡ part_matches pattern text
  part_start pattern ms e = first_marked (part_matches pattern) ms (length text) text e

  pub part_more : (pattern : List ℕ) (i : ℕ) (d : ℕ) (ms new : List Bool) (all : Bool) → i < length pattern
      → ((ps : List ℕ) → some_marked (part_matches ps) new text ≡ some_marked (part_matches (get_or pattern i d ∷ ps)) ms text)
      → some_marked (part_matches (drop i pattern)) ms text ≡ all → some_marked (part_matches (drop (i + 1) pattern)) new text ≡ all
  part_more pattern i d ms new all lt told h =
      told (drop (i + 1) pattern) ∙ (sym (ap (λ ps. some_marked (part_matches ps) ms text) (drop-cons pattern i d lt ∙ rw add-one refl)) ∙ h)

  pub part_end : (pattern : List ℕ) (i : ℕ) (ms : List Bool) (b all : Bool) → length pattern ≤ i → length ms ≡ length text + 1 → b ≡ get_or ms (length text) b → some_marked (part_matches (drop i pattern)) ms text ≡ all → b ≡ all
  unfolding part_matches
  part_end pattern i ms b all le long is h =
      (is ∙ sym (last_marked (part_matches []) ms text b refl (λ y ys. refl) long)) ∙ (sym (ap (λ ps. some_marked (part_matches ps) ms text) (drop_all i pattern le)) ∙ h)

module _ (parts : List (List ℕ)) where
  pub parts_start : (forms : List (List ℕ)) (ms : List Bool) → ms ≡ true ∷ replicate (length parts) false → some_marked (parts_match (drop 0 forms)) ms parts ≡ parts_match forms parts
  parts_start forms ms e = first_marked (parts_match forms) ms (length parts) parts e

  pub parts_more : (forms : List (List ℕ)) (i : ℕ) (d : List ℕ) (ms new : List Bool) (all : Bool) → i < length forms
      → ((ps : List (List ℕ)) → some_marked (parts_match ps) new parts ≡ some_marked (parts_match (get_or forms i d ∷ ps)) ms parts)
      → some_marked (parts_match (drop i forms)) ms parts ≡ all → some_marked (parts_match (drop (i + 1) forms)) new parts ≡ all
  parts_more forms i d ms new all lt told h =
      told (drop (i + 1) forms) ∙ (sym (ap (λ ps. some_marked (parts_match ps) ms parts) (drop-cons forms i d lt ∙ rw add-one refl)) ∙ h)

  pub parts_end : (forms : List (List ℕ)) (i n : ℕ) (ms : List Bool) (b all : Bool) → length forms ≤ i → n ≡ length parts → length ms ≡ length parts + 1 → b ≡ get_or ms n b → some_marked (parts_match (drop i forms)) ms parts ≡ all → b ≡ all
  unfolding parts_match
  parts_end forms i n ms b all le end long is h =
      (is ∙ (ap (λ k. get_or ms k b) end ∙ sym (last_marked (parts_match []) ms parts b refl (λ y ys. refl) long))) ∙ (sym (ap (λ ps. some_marked (parts_match ps) ms parts) (drop_all i forms le)) ∙ h)

pub ruleset over_part = (part_start, part_more, part_end, parts_start, parts_more, parts_end)

-- ---- a part of a pattern, by cases

pub carries_any : (p part : List ℕ) (was carried : Bool) → stands_for_parts p ≡ true → was || carried ≡ part_carries p part was carried
carries_any p part was carried e = rw e refl

pub carries_none : (p part : List ℕ) (was carried : Bool) → stands_for_parts p ≡ false → was ≡ false → false ≡ part_carries p part was carried
carries_none p part was carried e not_here = rw e (rw not_here refl)

pub carries_one : (p part : List ℕ) (was carried same : Bool) → stands_for_parts p ≡ false → was ≡ true → same ≡ part_matches p part → same ≡ part_carries p part was carried
carries_one p part was carried same e there is = rw e (rw there is)

pub ruleset carried_on = (carries_any, carries_none, carries_one)

pub path_by : (pattern path : List ℕ) (forms parts : List (List ℕ)) (same : Bool) → forms ≡ parts_of pattern → parts ≡ parts_of path → same ≡ parts_match forms parts → same ≡ path_matches pattern path
unfolding path_matches
path_by pattern path forms parts same fs ts is = is ∙ (ap (λ xs. parts_match xs parts) fs ∙ ap (parts_match (parts_of pattern)) ts)

pub ruleset by_parts = (path_by)
