-- The tables of letters and of the words that aren't identifiers are right.
use Rattle.std.proofs.Common.{◌≡◌, ℕ, ◌<◌, ◌≤◌, Bool, true, false, cond, ◌&&◌, ◌||◌, List, [], ◌∷◌, eqb, leb, ltb, length, get_or, refl, sym, ◌∙◌, ap, subst, arith}
use Rattle.std.proofs.lemmas.Bool.Decides.{nat_tests}
use Rattle.std.proofs.lemmas.Slice.Eq.{bytes_eq-Decides}
use Rattle.std.specs.Str.{bytes_eq}
use Rattle.std.specs.Char.{is_ascii_alphabetic, is_ascii_alphanumeric}
use Rattle.unicode_ident.proofs.IdentLemmas.{is_xid_start-ascii, is_xid_continue-ascii}
use Rattle.java_lex.specs.declared.word.TheConstants.{BEGINS, CONTINUES}
use Rattle.java_lex.specs.declared.class.TheConstants.{ID}
use Rattle.java_lex.specs.declared.slots.TheConstants.{LETTER_COUNT}
use Rattle.java_lex.specs.Words.{begins_word, continues_word, keywords, class_among, word_class}
use Rattle.java_lex.specs.Scanning.{slot_of, slot_word, slot_class}
use Rattle.java_lex.proofs.Following.{either-true}
use Rattle.java_lex.proofs.States.{all_from}
use Rattle.java_lex.proofs.Runs.{at_all}

begins_right : all_from 128 0 (λ b. eqb (get_or BEGINS b 0) (cond (is_ascii_alphabetic b || eqb b 95 || eqb b 36) 1 0)) ≡ true
begins_right = refl

goes_right : all_from 128 0 (λ b. eqb (get_or CONTINUES b 0) (cond (is_ascii_alphanumeric b || eqb b 95 || eqb b 95 || eqb b 36) 1 0)) ≡ true
goes_right = refl

eqb-is : (m n : ℕ) → eqb m n ≡ true → m ≡ n
eqb-is m n e = grind (arith, nat_tests)

pub begins-table : (b : ℕ) → b < 128 → get_or BEGINS b 0 ≡ cond (begins_word b) 1 0
begins-table b h =
    eqb-is _ _ (at_all 128 0 (λ k. eqb (get_or BEGINS k 0) (cond (is_ascii_alphabetic k || eqb k 95 || eqb k 36) 1 0)) begins_right b (omega arith) (omega arith))
    ∙ ap (λ v. cond (v || eqb b 95 || eqb b 36) 1 0) (sym (is_xid_start-ascii b h))

pub goes-table : (b : ℕ) → b < 128 → get_or CONTINUES b 0 ≡ cond (continues_word b) 1 0
goes-table b h =
    eqb-is _ _ (at_all 128 0 (λ k. eqb (get_or CONTINUES k 0) (cond (is_ascii_alphanumeric k || eqb k 95 || eqb k 95 || eqb k 36) 1 0)) goes_right b (omega arith) (omega arith))
    ∙ ap (λ v. cond (v || eqb b 95 || eqb b 36) 1 0) (sym (is_xid_continue-ascii b h))

-- ---- the words that aren't identifiers

counts_right : all_from 128 0 (λ k. leb (get_or LETTER_COUNT k 0) 12) ≡ true
counts_right = refl

pub count-inside : (slot : ℕ) → slot < 128 → get_or LETTER_COUNT slot 0 ≤ 12
count-inside slot h =
    let e = at_all 128 0 (λ k. leb (get_or LETTER_COUNT k 0) 12) counts_right slot (omega arith) (omega arith) in
    grind (arith, nat_tests)

-- each word in a slot has the slot's class
slots_right : all_from 128 0 (λ k. eqb (length (slot_word k)) 0 || eqb (class_among keywords (slot_word k)) (slot_class k)) ≡ true
unfolding slot_word slot_class keywords
slots_right = refl

-- the slot of a word has this word
abbrev pub is_there : List ℕ → Bool
is_there word = ltb 1 (length word) && leb (length word) 12 && bytes_eq (slot_word (slot_of word)) word

abbrev all_there : List (List ℕ × ℕ) → Bool
all_there [] = true
all_there (entry ∷ rest) = is_there entry.0 && all_there rest

there_right : all_there keywords ≡ true
unfolding slot_word keywords
there_right = refl

or-false : (v : Bool) (w : Bool) → (v || w) ≡ true → v ≡ false → w ≡ true
or-false true w e f = absurd (let g : true ≡ false = f in cc)
or-false false w e f = e

pub there-class : (word : List ℕ) (slot : ℕ) → slot < 128 → slot_word slot ≡ word → 0 < length word → slot_class slot ≡ word_class word
unfolding word_class
there-class word slot h is some =
    let e = at_all 128 0 (λ k. eqb (length (slot_word k)) 0 || eqb (class_among keywords (slot_word k)) (slot_class k)) slots_right slot (omega arith) (omega arith) in
    let some_there : 0 < length (slot_word slot) = subst (λ t. 0 < length t) (sym is) some in
    let none : eqb (length (slot_word slot)) 0 ≡ false = grind (arith, nat_tests) in
    let same = eqb-is (class_among keywords (slot_word slot)) (slot_class slot) (or-false (eqb (length (slot_word slot)) 0) _ e none) in
    sym same ∙ ap (λ t. class_among keywords t) is

-- a word that isn't in its slot is none of them
not-first : (v : Bool) (entry : List ℕ × ℕ) (rest : List (List ℕ × ℕ)) (word : List ℕ) → bytes_eq entry.0 word ≡ v → is_there entry.0 ≡ true
    → is_there word ≡ false → class_among rest word ≡ ID → cond v entry.1 (class_among rest word) ≡ ID
not-first true entry rest word same there out others =
    let is : entry.0 ≡ word = (bytes_eq-Decides entry.0 word).0 same in
    absurd (let f : true ≡ false = sym there ∙ ap (λ t. is_there t) is ∙ out in cc)
not-first false entry rest word same there out others = others

not-among : (entries : List (List ℕ × ℕ)) (word : List ℕ) → all_there entries ≡ true → is_there word ≡ false → class_among entries word ≡ ID
not-among [] word e out = refl
not-among (entry ∷ rest) word e out =
    let w = either-true (is_there entry.0) (all_there rest) e in
    not-first (bytes_eq entry.0 word) entry rest word refl w.0 out (not-among rest word w.1 out)

not_there-class : (word : List ℕ) → is_there word ≡ false → ID ≡ word_class word
unfolding word_class
not_there-class word out = sym (not-among keywords word there_right out)

and-false_right : (v w : Bool) → w ≡ false → (v && w) ≡ false
and-false_right true w e = e
and-false_right false w e = refl

and-false_left : (v w : Bool) → v ≡ false → (v && w) ≡ false
and-false_left true w e = absurd (let f : true ≡ false = e in cc)
and-false_left false w e = refl

pub short-class : (word : List ℕ) → length word < 2 → ID ≡ word_class word
short-class word h =
    let one : ltb 1 (length word) ≡ false = grind (arith, nat_tests) in
    not_there-class word (and-false_left _ _ (and-false_left _ (leb (length word) 12) one))

pub long-class : (word : List ℕ) → 12 < length word → ID ≡ word_class word
long-class word h =
    let one : leb (length word) 12 ≡ false = grind (arith, nat_tests) in
    not_there-class word (and-false_left _ _ (and-false_right (ltb 1 (length word)) _ one))

pub other-class : (word t : List ℕ) (slot : ℕ) → slot ≡ slot_of word → t ≡ slot_word slot → bytes_eq t word ≡ false → ID ≡ word_class word
other-class word t slot is text differs =
    let one : bytes_eq (slot_word (slot_of word)) word ≡ false = ap (λ k. bytes_eq (slot_word k) word) (sym is) ∙ ap (λ x. bytes_eq x word) (sym text) ∙ differs in
    not_there-class word (and-false_right _ _ one)

pub same-class : (word t : List ℕ) (slot class : ℕ) → slot < 128 → t ≡ slot_word slot → bytes_eq t word ≡ true → 2 ≤ length word → class ≡ slot_class slot
    → class ≡ word_class word
same-class word t slot class h text same some class_is =
    class_is ∙ there-class word slot h (sym text ∙ (bytes_eq-Decides t word).0 same) (omega arith)
