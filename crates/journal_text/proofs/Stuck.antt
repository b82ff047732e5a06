-- Parts one behind another, and where reading them stops.
use Rattle.std.proofs.Common.{◌≡◌, ◌⊎◌, inl, inr, ℕ, ◌+◌, ◌-◌, ◌<◌, ◌≤◌, false, List, [], ◌∷◌, ◌++◌, length, get_or, take, drop, replicate, refl, sym, ap, ◌∙◌, subst, arith, append_assoc, length-append}
use Rattle.std.proofs.lemmas.List.{length-replicate, append_cancel_left, append-nil, take-append-drop, drop_more}
use Rattle.journal_text.specs.Forms.{Form, Then, Took, next_of, Stuck, StuckAt}
use Rattle.journal_text.specs.Numerals.{numeral}
use Rattle.journal_text.specs.Parts.{is_digit, NoDigit, begins_with, IsWord, IsNumeral, Ended, Counted}
use Rattle.journal_text.proofs.Split.{split_at, split_same, heads, not_empty}
use Rattle.journal_text.proofs.Digits.{bad_byte, bad_end, no_number, numeral_lacks, numeral_same}

-- of two texts of the form, one a front of bytes that the other is a front of, both are one
abbrev pub Unique : {X : Type 0} → Form X → Type 0
Unique {X} form = (x y : X) (s t u v : List ℕ) → form x s → form y t → s ++ u ≡ t ++ v → (x ≡ y) × (u ≡ v)

-- behind each text of the one form some text of the next can stand
abbrev pub GoesOn : {X Y : Type 0} → Form X → (X → Form Y) → Type 0
GoesOn {X} {Y} one next = (x : X) (text : List ℕ) → one x text → (y : Y) × ((then : List ℕ) × next x y then)

module _ {X Y : Type 0} (one : Form X) (next : X → Form Y) where
  pub then_took : (bytes : List ℕ) (at mid end : ℕ) (x : X) (y : Y) → Took one bytes at mid x → Took (next x) bytes mid end y → Took (Then one next) bytes at end (x, y)
  then_took bytes at mid end x y t u = record {
    place = u.place;
    text = t.text ++ u.text;
    spells = record { first = t.text; second = u.text; spells = t.spells; then = u.spells; joined = refl };
    taken = t.taken ∙ (ap (λ l. t.text ++ l) u.taken ∙ sym (append_assoc t.text u.text (drop end bytes)));
  }

  stuck_first : (front behind : List ℕ) → GoesOn one next → Stuck one front behind → Stuck (Then one next) front behind
  stuck_first front behind goes s = record {
    begins =
        let b = s.begins in
        let n = goes b.0 (front ++ b.1.0) b.1.1 in
        ((b.0, n.0), (b.1.0 ++ n.1.0, record { first = front ++ b.1.0; second = n.1.0; spells = b.1.1; then = n.1.1; joined = sym (append_assoc front b.1.0 n.1.0) }));
    refuses = λ both text rest more th e.
        s.refuses both.0 th.first (th.second ++ rest) more th.spells (e ∙ (ap (λ l. l ++ rest) th.joined ∙ append_assoc th.first th.second rest));
  }

  pub first_stuck : (bytes : List ℕ) (at end : ℕ) → GoesOn one next → StuckAt one bytes at end → StuckAt (Then one next) bytes at end
  first_stuck bytes at end goes s = record { place = s.place; front = s.front; seen = s.seen; stuck = stuck_first s.front (drop end bytes) goes s.stuck }

  stuck_second : (x : X) (text front behind : List ℕ) → Unique one → one x text → Stuck (next x) front behind → Stuck (Then one next) (text ++ front) behind
  stuck_second x text front behind unique is s = record {
    begins =
        let b = s.begins in
        ((x, b.0), (b.1.0, record { first = text; second = front ++ b.1.0; spells = is; then = b.1.1; joined = append_assoc text front b.1.0 }));
    refuses = λ both whole rest more th e.
        let same = unique x both.0 text th.first (front ++ next_of behind more) (th.second ++ rest) is th.spells
        (sym (append_assoc text front (next_of behind more)) ∙ (e ∙ (ap (λ l. l ++ rest) th.joined ∙ append_assoc th.first th.second rest))) in
        s.refuses both.1 th.second rest more (subst (λ z. next z both.1 th.second) (sym same.0) th.then) same.1;
  }

  pub second_stuck : (bytes : List ℕ) (at mid end : ℕ) (x : X) → Unique one → Took one bytes at mid x → StuckAt (next x) bytes mid end → StuckAt (Then one next) bytes at end
  second_stuck bytes at mid end x unique t s = record {
    place = s.place;
    front = t.text ++ s.front;
    seen = t.taken ∙ (ap (λ l. t.text ++ l) s.seen ∙ sym (append_assoc t.text s.front (drop end bytes)));
    stuck = stuck_second x t.text s.front (drop end bytes) unique t.spells s.stuck;
  }

-- ---- words
pub word_unique : (word : List ℕ) → Unique (IsWord word)
word_unique word x y s t u v a b e = (refl, append_cancel_left word u v (ap (λ l. l ++ u) (sym a.is) ∙ (e ∙ ap (λ l. l ++ v) b.is)))

differs : (b : ℕ) (more behind then rest : List ℕ) → begins_with b behind ≡ false → next_of behind then ≡ (b ∷ more) ++ rest → ⊥
differs b more [] then rest apart e = not_empty b (more ++ rest) e
differs b more (x ∷ behind) then rest apart e = let h = heads x b then (more ++ rest) e in absurd (grind (arith, apart, h))

pub stuck_word : (word front : List ℕ) (b : ℕ) (more behind : List ℕ) → word ≡ front ++ b ∷ more → begins_with b behind ≡ false → Stuck (IsWord word) front behind
stuck_word word front b more behind parts apart = record {
  begins = (tt, (b ∷ more, record { is = sym parts }));
  refuses = λ x text rest then is e.
      differs b more behind then rest apart (append_cancel_left front (next_of behind then) ((b ∷ more) ++ rest) (e ∙ (ap (λ l. l ++ rest) (is.is ∙ parts) ∙ append_assoc front (b ∷ more) rest)));
}

-- ---- numbers
pub number_unique : (end : ℕ) → is_digit end ≡ false → Unique (Ended IsNumeral end)
number_unique end apart m n s t u v a b e =
    let whole : numeral m ++ end ∷ u ≡ numeral n ++ end ∷ v
    = sym (append_assoc (numeral m) (end ∷ []) u) ∙ (ap (λ l. (l ++ end ∷ []) ++ u) (sym a.spells.is) ∙ (ap (λ l. l ++ u) (sym a.ended)
    ∙ (e ∙ (ap (λ l. l ++ v) b.ended ∙ (ap (λ l. (l ++ end ∷ []) ++ v) b.spells.is ∙ append_assoc (numeral n) (end ∷ []) v))))) in
    let parts = split_at end (numeral m) (numeral n) u v (numeral_lacks end m apart) (numeral_lacks end n apart) whole in
    (numeral_same m n parts.0, parts.1)

number_text : (end m : ℕ) (text rest : List ℕ) → Ended IsNumeral end m text → text ++ rest ≡ numeral m ++ end ∷ rest
number_text end m text rest n = ap (λ l. l ++ rest) n.ended ∙ (ap (λ l. (l ++ end ∷ []) ++ rest) n.spells.is ∙ append_assoc (numeral m) (end ∷ []) rest)

no_digit_next : (behind more : List ℕ) → NoDigit behind → NoDigit (next_of behind more)
no_digit_next [] more none = tt
no_digit_next (b ∷ behind) more none = none

pub stuck_no_number : (end : ℕ) (behind : List ℕ) → NoDigit behind → Stuck (Ended IsNumeral end) [] behind
stuck_no_number end behind none = record {
  begins = (0, (numeral 0 ++ end ∷ [], record { body = numeral 0; spells = record { is = refl }; ended = refl }));
  refuses = λ m text rest more n e. no_number m (next_of behind more) (end ∷ rest) (no_digit_next behind more none) (e ∙ number_text end m text rest n);
}

over_at : (n x : ℕ) (more : List ℕ) → (n ≡ 0) ⊎ NoDigit (x ∷ more) → (n ≡ 0) ⊎ (is_digit x ≡ false)
over_at n x more (inl none) = inl none
over_at n x more (inr apart) = inr apart

number_refuses : (end n m : ℕ) (behind more rest : List ℕ) → is_digit end ≡ false → (n ≡ 0) ⊎ NoDigit behind → begins_with end behind ≡ false → numeral n ++ next_of behind more ≡ numeral m ++ end ∷ rest → ⊥
number_refuses end n m [] more rest apart over other e = bad_end end n m rest apart (sym (append-nil (numeral n)) ∙ e)
number_refuses end n m (x ∷ behind) more rest apart over other e = bad_byte end x n m more rest apart (λ same. grind (arith, other, same)) (over_at n x behind over) e

pub stuck_number : (end n : ℕ) (behind : List ℕ) → is_digit end ≡ false → (n ≡ 0) ⊎ NoDigit behind → begins_with end behind ≡ false → Stuck (Ended IsNumeral end) (numeral n) behind
stuck_number end n behind apart over other = record {
  begins = (n, (end ∷ [], record { body = numeral n; spells = record { is = refl }; ended = refl }));
  refuses = λ m text rest more t e. number_refuses end n m behind more rest apart over other (e ∙ number_text end m text rest t);
}

-- ---- counted bytes
pub counted_unique : (n : ℕ) → Unique (Counted n)
counted_unique n x y s t u v a b e =
    let parts = split_same s t u v (a.len ∙ sym b.len) e in (sym a.is ∙ (parts.0 ∙ b.is), parts.1)

pub stuck_counted : (n : ℕ) (front : List ℕ) → length front < n → Stuck (Counted n) front []
stuck_counted n front short = record {
  begins =
      let zero : ℕ = 0 in
      let rest = replicate (n - length front) zero in
      (front ++ rest, (rest, record { is = refl; len = length-append front rest ∙ omega (arith, length-replicate (n - length front) zero) }));
  refuses = λ x text rest more c e.
      let l = ap length (sym (append-nil front) ∙ e) in omega (arith, length-append text rest, c.len, l);
}

pub word_stuck : (bytes word : List ℕ) (at i : ℕ) → i < length word → at + i ≤ length bytes → drop at bytes ≡ take i word ++ drop (at + i) bytes → begins_with (get_or word i 0) (drop (at + i) bytes) ≡ false
    → StuckAt (IsWord word) bytes at (at + i)
word_stuck bytes word at i lt le same apart = record {
  place = le;
  front = take i word;
  seen = same;
  stuck = stuck_word word (take i word) (get_or word i 0) (drop (i + 1) word) (drop (at + i) bytes)
      (sym (take-append-drop i word) ∙ ap (λ t. take i word ++ t) (drop_more word i 0 lt)) apart;
}
