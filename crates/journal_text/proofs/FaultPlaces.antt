-- What the place of a fault is.
use Rattle.std.proofs.Common.{◌≡◌, ◌≢◌, ℕ, ◌+◌, ◌<◌, ◌≤◌, Bool, true, false, List, [], ◌∷◌, ◌++◌, length, get_or, take, drop, inl, inr, refl, sym, ap, ◌∙◌, arith, append_assoc}
use Rattle.std.proofs.lemmas.Bool.{false≢true, cases_lt, cases_eq}
use Rattle.std.proofs.lemmas.List.{append-nil, take_more, drop_more, length-take-le, take-append-drop, take-take}
use Rattle.journal_text.specs.Changes.{Change, IsBatch}
use Rattle.journal_text.specs.Forms.{next_of}
use Rattle.journal_text.specs.Parts.{Finished, BodyStops, LineStops, LineFault}
use Rattle.journal_text.specs.Reading.{HasNoReading, JournalFront, IsLongest, is_digest_line, DiffersInDigest, IsPlace}
use Rattle.journal_text.specs.Text.{entries_text, body_text, digest_line, journal_text}
use Rattle.journal_text.proofs.Whole.{whole_split, no_more, next_all, body_before, before_place, digest_unread}

-- ---- too many bytes
pub long_unread : (bytes : List ℕ) → 1073741824 < length bytes → HasNoReading bytes
long_unread bytes long = λ changes r. omega (arith, r.size)

pub long_place : (bytes : List ℕ) → 1073741824 < length bytes → IsPlace bytes 1073741824
long_place bytes long = record { too_long = λ l. refl; digest = λ m small d. absurd (omega arith); longest = λ small none. absurd (omega arith) }

-- ---- before the last line
no_body : (bytes : List ℕ) (stop : ℕ) (changes : List Change) (rest : List ℕ) → BodyStops bytes stop → IsBatch changes → bytes ≡ body_text changes ++ rest → ⊥
no_body bytes stop changes rest s b e =
    let all = next_all (drop stop bytes) in
    s.refuses changes all.0 rest b (ap (λ t. take stop bytes ++ t) all.1 ∙ (take-append-drop stop bytes ∙ e))

pub body_unread : (bytes : List ℕ) (stop : ℕ) → BodyStops bytes stop → HasNoReading bytes
unfolding journal_text
body_unread bytes stop s = λ changes r. no_body bytes stop changes (digest_line (body_text changes)) s r.batch r.whole

one_more : (bytes : List ℕ) (stop : ℕ) (rest : List ℕ) → stop < length bytes → take (stop + 1) bytes ++ rest ≡ take stop bytes ++ get_or bytes stop 0 ∷ rest
one_more bytes stop rest lt = ap (λ t. t ++ rest) (take_more bytes stop 0 lt) ∙ append_assoc (take stop bytes) (get_or bytes stop 0 ∷ []) rest

pub body_place : (bytes : List ℕ) (stop : ℕ) → length bytes ≤ 1073741824 → BodyStops bytes stop → IsPlace bytes stop
unfolding journal_text
body_place bytes stop small s = record {
  too_long = λ l. absurd (omega arith);
  digest = λ m _ d. absurd (no_body bytes stop d.changes d.line s d.batch d.whole);
  longest = λ _ none. record {
    place = s.place;
    begins = s.begins;
    ends = λ lt f.
        s.refuses f.changes f.rest (digest_line (body_text f.changes)) f.batch
        (ap (λ l. take stop bytes ++ next_of l f.rest) (drop_more bytes stop 0 lt) ∙ (sym (one_more bytes stop f.rest lt) ∙ sym f.whole));
  };
}

-- ---- at the last line

same_changes : (bytes : List ℕ) (at : ℕ) (done changes : List Change) (behind rest : List ℕ) → IsBatch done → IsBatch changes → body_text changes ++ rest ≡ body_text done ++ behind → (changes ≡ done) × (rest ≡ behind)
same_changes bytes at done changes behind rest b d e =
    let parts = whole_split (length done) done changes behind rest b.paths d.paths (omega arith) e in
    let none = no_more done parts.1.more (ap length (sym parts.1.all) ∙ parts.0) in
    (parts.1.all ∙ (ap (λ m. done ++ m) none ∙ append-nil done), sym (parts.1.is ∙ ap (λ m. entries_text m ++ rest) none))

line_longest : (bytes : List ℕ) (at stop : ℕ) (done : List Change) → Finished bytes at done → LineStops (take at bytes) bytes at stop → IsLongest bytes stop
unfolding journal_text
line_longest bytes at stop done f s =
    let body = body_text done in
    let here : take at bytes ≡ body = body_before bytes body at f.taken in
    let there : take stop bytes ≡ body ++ s.front = before_place bytes (body ++ s.front) stop (f.taken ∙ (ap (λ t. body ++ t) s.seen ∙ sym (append_assoc body s.front (drop stop bytes)))) in
    record {
      place = s.place;
      begins = record {
        changes = done;
        batch = f.batch;
        rest = s.rest;
        whole = ap (λ t. body ++ t) (ap digest_line (sym here) ∙ s.begins) ∙ (sym (append_assoc body s.front s.rest) ∙ ap (λ t. t ++ s.rest) (sym there));
      };
      ends = λ lt j.
          let b = get_or bytes stop 0 in
          let same = same_changes bytes at done j.changes (s.front ++ b ∷ j.rest) (digest_line (body_text j.changes)) f.batch j.batch
          (j.whole ∙ (one_more bytes stop j.rest lt ∙ (ap (λ t. t ++ b ∷ j.rest) there ∙ append_assoc body s.front (b ∷ j.rest)))) in
          s.ends b (drop (stop + 1) bytes) j.rest (drop_more bytes stop 0 lt) (ap digest_line (here ∙ ap body_text (sym same.0)) ∙ same.1);
    }

pub line_unread : (bytes : List ℕ) (at n : ℕ) (done : List Change) → Finished bytes at done → LineFault (take at bytes) bytes at n → HasNoReading bytes
line_unread bytes at n done f l = digest_unread bytes at done f l.differs

pub line_place : (bytes : List ℕ) (at n : ℕ) (done : List Change) → length bytes ≤ 1073741824 → Finished bytes at done → LineFault (take at bytes) bytes at n → IsPlace bytes n
line_place bytes at n done small f l = by_form (is_digest_line (drop at bytes)) refl
  where
    here : take at bytes ≡ body_text done
    here = body_before bytes (body_text done) at f.taken

    size : at ≡ length (body_text done)
    size = sym (length-take-le at bytes f.place) ∙ ap length here

    by_form : (t : Bool) → is_digest_line (drop at bytes) ≡ t → IsPlace bytes n
    by_form true e = record {
      too_long = λ long. absurd (omega arith);
      digest = λ m _ d.
          let same = same_changes bytes at done d.changes (drop at bytes) d.line f.batch d.batch (sym d.whole ∙ f.taken) in
          omega (arith, l.as_digest e, size, d.place, ap (λ c. length (body_text c)) same.0);
      longest = λ _ none. absurd (none n (record {
        changes = done;
        batch = f.batch;
        line = drop at bytes;
        whole = f.taken;
        form = e;
        other = λ same. l.differs (same ∙ ap digest_line (sym here));
        place = omega (arith, l.as_digest e, size);
      }));
    }
    by_form false e = record {
      too_long = λ long. absurd (omega arith);
      digest = λ m _ d.
          let same = same_changes bytes at done d.changes (drop at bytes) d.line f.batch d.batch (sym d.whole ∙ f.taken) in
          absurd (false≢true (sym e ∙ (ap is_digest_line (sym same.1) ∙ d.form)));
      longest = λ _ none. line_longest bytes at n done f (l.as_text e);
    }

-- ---- a fault has one place
front_shorter : (bytes : List ℕ) (m n : ℕ) → m ≤ n → JournalFront (take n bytes) → JournalFront (take m bytes)
front_shorter bytes m n le f = record {
  changes = f.changes;
  batch = f.batch;
  rest = drop m (take n bytes) ++ f.rest;
  whole = f.whole ∙ (ap (λ t. t ++ f.rest) (sym (take-append-drop m (take n bytes)) ∙ ap (λ t. t ++ drop m (take n bytes)) (take-take m n bytes le))
      ∙ append_assoc (take m bytes) (drop m (take n bytes)) f.rest);
}

not_longer : (bytes : List ℕ) (one other : ℕ) → IsLongest bytes one → IsLongest bytes other → one < other → ⊥
not_longer bytes one other p q lt = p.ends (omega (arith, q.place)) (front_shorter bytes (one + 1) other (omega arith) q.begins)

same_longest : (bytes : List ℕ) (one other : ℕ) → IsLongest bytes one → IsLongest bytes other → (one ≢ other) → ⊥
same_longest bytes one other p q apart = elim (cases_lt one other) [
  | inl lt ↦ not_longer bytes one other p q lt
  | inr le ↦ not_longer bytes other one q p (omega (arith, apart))
]

pub one_place : (bytes : List ℕ) (one other : ℕ) → IsPlace bytes one → IsPlace bytes other → one ≡ other
one_place bytes one other p q = elim (cases_eq one other) [
  | inl same ↦ same
  | inr apart ↦ elim (cases_lt 1073741824 (length bytes)) [
    | inl long ↦ absurd (apart (p.too_long long ∙ sym (q.too_long long)))
    | inr small ↦
        let none : (m : ℕ) → DiffersInDigest bytes m → ⊥ = λ m d. apart (p.digest m small d ∙ sym (q.digest m small d)) in
        absurd (same_longest bytes one other (p.longest small none) (q.longest small none) apart)
  ]
]
