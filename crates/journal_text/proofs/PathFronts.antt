-- The fronts of paths that an entry may have.
use Rattle.std.proofs.Common.{◌≡◌, inl, inr, ℕ, zero, suc, ◌+◌, ◌<◌, ◌≤◌, Bool, true, false, not, ◌&&◌, nat_lt, cond, List, [], ◌∷◌, ◌++◌, length, get_or, take, drop, IsUtf8, IsTrue, refl, sym, ap, ◌∙◌, subst, arith, append_assoc, length-append}
use Rattle.std.specs.Prelude.{◌==◌}
use Rattle.std.specs.Ordering.{nat_cmp, ordering_then}
use Rattle.std.specs.Cmp.Lexicographic.{slice_cmp}
use Rattle.std.specs.declared.cmp.Ordering.TheVariants.{Less, Equal, Greater}
use Rattle.std.proofs.lemmas.Bool.{and_parts, false≢true, cases_lt, cases_eq}
use Rattle.std.proofs.lemmas.Bool.Decides.{nat_tests}
use Rattle.std.proofs.lemmas.List.{append-nil, take_all, take-take, take-append-drop, take-append-le, length-take, get_or-take, get_or_append_left, drop_more}
use Rattle.std.proofs.lemmas.List.Elements.{All-nil, All-cons}
use Rattle.std.proofs.lemmas.Str.{IsUtf8-append, IsUtf8-take, IsUtf8-from_ascii, IsCharBoundary-before_ascii}
use Rattle.std.proofs.lemmas.Str.Ascii.{IsAscii-cons, IsAscii-nil}
use Rattle.rw_host.specs.Path.{is_part}
use Rattle.journal_text.specs.Changes.{IsFree, gate, journal}
use Rattle.journal_text.specs.Parts.{between, MayFollow}
use Rattle.journal_text.specs.Stops.{parts_ok, StopsAt, no_control, is_below, AreHigh, Utf8Front, NoSlash, PartsFront, PartsAt, PathFront, IsBefore}
use Rattle.journal_text.proofs.Controls.{above, below_shorter}
use Rattle.journal_text.proofs.PathParts.{parts_start, parts_on, parts_slash, parts_front, parts_end, closes}

-- ---- a path with an `a` behind it is a later one
last_of : List ℕ → ℕ
last_of [] = 0
last_of (a ∷ []) = a
last_of (a ∷ b ∷ bytes) = last_of (b ∷ bytes)

last_push : (s : List ℕ) (b : ℕ) → last_of (s ++ b ∷ []) ≡ b
unfolding last_of
last_push [] b = refl
last_push (a ∷ []) b = refl
last_push (a ∷ c ∷ s) b = last_push (c ∷ s) b

last_of-gate : last_of gate ≡ 101
unfolding gate last_of
last_of-gate = refl

last_of-journal : last_of journal ≡ 108
unfolding journal last_of
last_of-journal = refl

free_end : (s : List ℕ) → IsFree (s ++ 97 ∷ [])
free_end s = record {
  no_gate = λ e. let l = sym (last_push s 97) ∙ (ap last_of e ∙ last_of-gate) in absurd (omega arith);
  no_journal = λ e. let l = sym (last_push s 97) ∙ (ap last_of e ∙ last_of-journal) in absurd (omega arith);
}

utf8_end : (s : List ℕ) → IsUtf8 s → IsUtf8 (s ++ 97 ∷ [])
utf8_end s u = IsUtf8-append s (97 ∷ []) u (IsUtf8-from_ascii (97 ∷ []) (IsAscii-cons 97 [] (omega arith) IsAscii-nil))

less_end : (p : List ℕ) → slice_cmp nat_cmp p (p ++ 97 ∷ []) ≡ Less
less_end [] = refl
less_end (a ∷ p) = by_test (nat_lt a a) (a == a) refl refl (less_end p)
  where
    by_test : (s t : Bool) → nat_lt a a ≡ s → (a == a) ≡ t → slice_cmp nat_cmp p (p ++ 97 ∷ []) ≡ Less → ordering_then (cond s Less (cond t Equal Greater)) (slice_cmp nat_cmp p (p ++ 97 ∷ [])) ≡ Less
    by_test true t e f l = refl
    by_test false true e f l = l
    by_test false false e f l = absurd (grind (arith, nat_tests, f))

control_append : (s t : List ℕ) → no_control s ≡ true → no_control t ≡ true → no_control (s ++ t) ≡ true
control_append [] t p q = q
control_append (a ∷ s) t p q = let r = and_parts (not (nat_lt a 32)) (no_control s) p in ap (λ x. x && no_control (s ++ t)) r.0 ∙ control_append s t r.1 q

control_front : (s t : List ℕ) → no_control (s ++ t) ≡ true → no_control s ≡ true
control_front [] t p = refl
control_front (a ∷ s) t p = let r = and_parts (not (nat_lt a 32)) (no_control (s ++ t)) p in ap (λ x. x && no_control s) r.0 ∙ control_front s t r.1

control_high : (s : List ℕ) → AreHigh s → no_control s ≡ true
control_high [] h = refl
control_high (b ∷ s) h = let t : nat_lt b 32 ≡ false = grind (arith, nat_tests, h.0) in ap (λ x. not x && no_control s) t ∙ control_high s h.1

slash_high : (s : List ℕ) → AreHigh s → NoSlash s
slash_high [] h = All-nil (λ b. (b == 47) ≡ false)
slash_high (b ∷ s) h = let t : (b == 47) ≡ false = grind (arith, nat_tests, h.0) in All-cons (λ b. (b == 47) ≡ false) b s t (slash_high s h.1)

both_true : (a b : Bool) → a ≡ true → b ≡ true → IsTrue (a && b)
both_true a b p q = ap (λ x. x && b) p ∙ q

-- the parts of a path are closed up to each place of it
walk : (line : List ℕ) → parts_ok line ≡ true → (i : ℕ) → i ≤ length line → (start : ℕ) × PartsAt line start i
walk line ok zero le = (0, parts_start line)
walk line ok (suc i) le =
    let so_far = walk line ok i (omega arith) in
    let n : i + 1 ≡ suc i = omega arith in
    let lt : i < length line = omega arith in
    elim (cases_eq (get_or line i 0) 47) [
      | inl is ↦ by_part so_far.0 so_far.1 n lt is (is_part (between line so_far.0 i)) refl
      | inr other ↦ (so_far.0, subst (PartsAt line so_far.0) n (parts_on line so_far.0 i so_far.1 lt other))
    ]
  where
    by_part : (start : ℕ) → PartsAt line start i → i + 1 ≡ suc i → i < length line → get_or line i 0 ≡ 47 → (t : Bool) → is_part (between line start i) ≡ t → (start : ℕ) × PartsAt line start (suc i)
    by_part start p n lt is true e = (i + 1, subst (PartsAt line (i + 1)) n (parts_slash line start i p lt is e))
    by_part start p n lt is false e =
        let whole : line ≡ take i line ++ get_or line i 0 ∷ drop (i + 1) line = sym (take-append-drop i line) ∙ ap (λ t. take i line ++ t) (drop_more line i 0 lt) in
        absurd (false≢true (sym (closes line start i (get_or line i 0) (drop (i + 1) line) p is ∙ ap (λ t. t && parts_ok (drop (i + 1) line)) e) ∙ (ap parts_ok (sym whole) ∙ ok)))

path_parts : (path : List ℕ) → parts_ok path ≡ true → PartsFront path
path_parts path ok =
    let all = walk path ok (length path) (omega arith) in
    subst PartsFront (take_all (length path) path (omega arith)) (parts_front path all.0 (length path) all.1)

pub may_extend : (before : List ℕ) → IsBefore before → MayFollow before (before ++ 97 ∷ [])
may_extend before (inl e) = subst (λ b. MayFollow b (b ++ 97 ∷ [])) (sym e) (record { less = refl; is_path_text = record { parts = refl; text = utf8_end [] (IsUtf8-from_ascii [] IsAscii-nil) }; free = free_end [] })
may_extend before (inr p) =
    let parts = and_parts (no_control before) (parts_ok before) p.parts in
    record {
      less = less_end before;
      is_path_text = record {
        parts = both_true (no_control (before ++ 97 ∷ [])) (parts_ok (before ++ 97 ∷ [])) (control_append before (97 ∷ []) parts.0 refl) (parts_end before [] (path_parts before parts.1) (All-nil (λ b. (b == 47) ≡ false)));
        text = utf8_end before p.text;
      };
      free = free_end before;
    }

-- ---- what can begin a path goes on to one
pub goes_on : (before front : List ℕ) → IsBefore before → no_control front ≡ true → is_below before front ≡ false → Utf8Front front → PartsFront front → PathFront before front
goes_on before front fine control order u parts = elim (above before front order) [
  | inl r ↦
      let e : before ++ 97 ∷ [] ≡ front ++ (r.0 ++ 97 ∷ []) = ap (λ t. t ++ 97 ∷ []) r.1 ∙ append_assoc front r.0 (97 ∷ []) in
      record { rest = r.0 ++ 97 ∷ []; may = subst (MayFollow before) e (may_extend before fine) }
  | inr h ↦
      let whole : (front ++ u.rest) ++ 97 ∷ [] ≡ front ++ (u.rest ++ 97 ∷ []) = append_assoc front u.rest (97 ∷ []) in
      record {
        rest = u.rest ++ 97 ∷ [];
        may = record {
          less = h (u.rest ++ 97 ∷ []);
          is_path_text = record {
            parts = both_true (no_control (front ++ (u.rest ++ 97 ∷ []))) (parts_ok (front ++ (u.rest ++ 97 ∷ [])))
                (control_append front (u.rest ++ 97 ∷ []) control (control_append u.rest (97 ∷ []) (control_high u.rest u.high) refl))
                (parts_end front u.rest parts (slash_high u.rest u.high));
            text = subst IsUtf8 whole (utf8_end (front ++ u.rest) u.text);
          };
          free = subst IsFree whole (free_end (front ++ u.rest));
        };
      }
]

-- ---- one test behind another
pub stops_shorter : (before line : List ℕ) (outer stop : ℕ) → StopsAt before line outer → StopsAt before (take outer line) stop → StopsAt before line stop
stops_shorter before line outer stop o s =
    let len : length (take outer line) ≡ outer = length-take outer line ∙ omega (arith, o.place) in
    elim (cases_lt stop outer) [
      | inl lt ↦ record {
        place = omega (arith, o.place);
        next = λ l more may. s.next (omega arith) more (subst (MayFollow before)
            (ap (λ t. t ++ get_or line stop 0 ∷ more) (sym (take-take stop outer line (omega arith))) ∙ ap (λ b. take stop (take outer line) ++ b ∷ more) (sym (get_or-take outer line stop 0 lt))) may);
      }
      | inr le ↦ let e : outer ≡ stop = omega (arith, s.place) in subst (StopsAt before line) e o
    ]

utf8_cut : (text : List ℕ) (k : ℕ) → Utf8Front text → k < length text → get_or text k 0 ≡ 47 → Utf8Front (take k text)
utf8_cut text k u lt is =
    let long : k < length (text ++ u.rest) = omega (arith, length-append text u.rest) in
    let low : get_or (text ++ u.rest) k 0 < 128 = omega (arith, get_or_append_left text u.rest 0 k lt) in
    let cut = IsUtf8-take (text ++ u.rest) k u.text (IsCharBoundary-before_ascii (text ++ u.rest) k long low) in
    record { rest = []; high = tt; text = subst IsUtf8 (take-append-le k text u.rest (omega arith) ∙ sym (append-nil (take k text))) cut }

pub utf8_shorter : (text : List ℕ) (k : ℕ) → Utf8Front text → k ≤ length text → (k < length text → get_or text k 0 ≡ 47) → Utf8Front (take k text)
utf8_shorter text k u le slash = elim (cases_lt k (length text)) [
  | inl lt ↦ utf8_cut text k u lt (slash lt)
  | inr over ↦ subst Utf8Front (sym (take_all k text over)) u
]

pub control_shorter : (text : List ℕ) (k : ℕ) → no_control text ≡ true → no_control (take k text) ≡ true
control_shorter text k e = control_front (take k text) (drop k text) (ap no_control (take-append-drop k text) ∙ e)

pub order_shorter : (before text : List ℕ) (k : ℕ) → is_below before text ≡ false → is_below before (take k text) ≡ false
order_shorter before text k e = below_shorter before (take k text) (drop k text) (ap (is_below before) (take-append-drop k text) ∙ e)

-- all four tests, each on what the one before it left
pub path_front : (before line : List ℕ) (a b d k : ℕ) → IsBefore before → a ≤ length line → no_control (take a line) ≡ true → b ≤ length (take a line) → is_below before (take b (take a line)) ≡ false
    → d ≤ length (take b (take a line)) → Utf8Front (take d (take b (take a line))) → k ≤ length (take d (take b (take a line))) → PartsFront (take k (take d (take b (take a line))))
    → (k < length (take d (take b (take a line))) → get_or (take d (take b (take a line))) k 0 ≡ 47) → PathFront before (take k line)
path_front before line a b d k fine p control q order r u s parts slash =
    let la : length (take a line) ≡ a = length-take a line ∙ omega arith in
    let lb : length (take b (take a line)) ≡ b = length-take b (take a line) ∙ omega arith in
    let ld : length (take d (take b (take a line))) ≡ d = length-take d (take b (take a line)) ∙ omega arith in
    let two : take k (take b (take a line)) ≡ take k (take a line) = take-take k b (take a line) (omega arith) in
    let one : take k (take a line) ≡ take k line = take-take k a line (omega arith) in
    let three : take k (take d (take b (take a line))) ≡ take k (take b (take a line)) = take-take k d (take b (take a line)) (omega arith) in
    goes_on before (take k line) fine
    (ap no_control (sym one) ∙ control_shorter (take a line) k control)
    (ap (is_below before) (sym (two ∙ one)) ∙ order_shorter before (take b (take a line)) k order)
    (subst Utf8Front (three ∙ (two ∙ one)) (utf8_shorter (take d (take b (take a line))) k u s slash))
    (subst PartsFront (three ∙ (two ∙ one)) parts)
