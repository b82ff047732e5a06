-- That a journal has one spelling.
use Rattle.std.proofs.Common.{◌≡◌, ◌≢◌, ℕ, zero, suc, ◌+◌, ◌-◌, ◌<◌, ◌≤◌, ◌^◌, min, List, [], ◌∷◌, ◌++◌, length, take, drop, codes, Option, Some, None, inl, inr, refl, sym, ap, ◌∙◌, subst, arith, append_assoc, length-append}
use Rattle.std.proofs.lemmas.List.{append-nil, append_cancel_left, append_cancel_right, take-append-drop, length_push}
use Rattle.hex.specs.Hex.{encode_lower}
use Rattle.sha2.specs.Sha256.{sha256}
use Rattle.journal_text.specs.Changes.{Change, ArePaths, IsBatch}
use Rattle.journal_text.specs.Forms.{Took, next_of, Begins, Stuck, StuckAt}
use Rattle.journal_text.specs.Numerals.{numeral}
use Rattle.journal_text.specs.Parts.{Lacks, IsEntry, last_path, Done, Going, Finished, BodyStops, LineStops, Head, LastLine}
use Rattle.journal_text.specs.Reading.{Reads, HasNoReading, JournalFront}
use Rattle.journal_text.specs.Text.{entry_with, entry_text, entries_text, head_text, body_text, digest_line, journal_text}
use Rattle.journal_text.proofs.Split.{split_at, split_same, heads, tails}
use Rattle.journal_text.proofs.Digits.{numeral_lacks, numeral_same}
use Rattle.journal_text.proofs.Lines.{path_lacks}
use Rattle.journal_text.proofs.Progress.{may_follow_done, done_step, batch_more, entries_text-append}
use Rattle.journal_text.proofs.PathFronts.{may_extend}
use Rattle.journal_text.specs.Stops.{IsBefore}

-- ---- one entry
put_right : (path contents behind : List ℕ) → entry_with path (Some contents) ++ behind ≡ codes "put " ++ (numeral (length contents) ++ 32 ∷ (path ++ 10 ∷ (contents ++ 10 ∷ behind)))
put_right path contents behind = simp append_assoc

del_right : (path behind : List ℕ) → entry_with path None ++ behind ≡ codes "del " ++ (path ++ 10 ∷ behind)
del_right path behind = simp append_assoc

entry_split : (p q : List ℕ) (x y : Option (List ℕ)) (s t : List ℕ) → Lacks 10 p → Lacks 10 q → entry_with p x ++ s ≡ entry_with q y ++ t → (p ≡ q) × ((x ≡ y) × (s ≡ t))
entry_split p q None None s t lp lq e =
    let parts = split_at 10 p q s t lp lq (append_cancel_left (codes "del ") (p ++ 10 ∷ s) (q ++ 10 ∷ t) (sym (del_right p s) ∙ (e ∙ del_right q t))) in
    (parts.0, (refl, parts.1))
entry_split p q None (Some y) s t lp lq e = absurd (omega (arith, heads 100 112 _ _ (sym (del_right p s) ∙ (e ∙ put_right q y t))))
entry_split p q (Some x) None s t lp lq e = absurd (omega (arith, heads 112 100 _ _ (sym (put_right p x s) ∙ (e ∙ del_right q t))))
entry_split p q (Some x) (Some y) s t lp lq e =
    let sizes = split_at 32 (numeral (length x)) (numeral (length y)) (p ++ 10 ∷ (x ++ 10 ∷ s)) (q ++ 10 ∷ (y ++ 10 ∷ t)) (numeral_lacks 32 (length x) refl) (numeral_lacks 32 (length y) refl)
    (append_cancel_left (codes "put ") _ _ (sym (put_right p x s) ∙ (e ∙ put_right q y t))) in
    let paths = split_at 10 p q (x ++ 10 ∷ s) (y ++ 10 ∷ t) lp lq sizes.1 in
    let contents = split_same x y (10 ∷ s) (10 ∷ t) (numeral_same (length x) (length y) sizes.0) paths.1 in
    (paths.0, (ap Some contents.0, tails 10 10 s t contents.1))

-- ---- the first two lines
head_right : (n : ℕ) (behind : List ℕ) → head_text n ++ behind ≡ codes "rewrite-journal 1\n" ++ (numeral n ++ 10 ∷ behind)
unfolding head_text
head_right n behind = append_assoc (codes "rewrite-journal 1\n" ++ numeral n) (10 ∷ []) behind ∙ append_assoc (codes "rewrite-journal 1\n") (numeral n) (10 ∷ behind)

head_split : (m n : ℕ) (s t : List ℕ) → head_text m ++ s ≡ head_text n ++ t → (m ≡ n) × (s ≡ t)
head_split m n s t e =
    let parts = split_at 10 (numeral m) (numeral n) s t (numeral_lacks 10 m refl) (numeral_lacks 10 n refl)
    (append_cancel_left (codes "rewrite-journal 1\n") (numeral m ++ 10 ∷ s) (numeral n ++ 10 ∷ t) (sym (head_right m s) ∙ (e ∙ head_right n t))) in
    (numeral_same m n parts.0, parts.1)

-- ---- all entries: those of a journal that begins with some entries are those and more
pub record More (done changes : List Change) (behind rest : List ℕ) : Type 0 where
  pub more : List Change
  pub all : changes ≡ done ++ more
  pub is : behind ≡ entries_text more ++ rest

entries_split : (done changes : List Change) (s t : List ℕ) → ArePaths done → ArePaths changes → length done ≤ length changes → entries_text changes ++ t ≡ entries_text done ++ s → More done changes s t
entries_split [] changes s t dp cp le e = record { more = changes; all = refl; is = sym e }
entries_split (d ∷ done) [] s t dp cp le e = absurd (omega arith)
entries_split (d ∷ done) (c ∷ changes) s t dp cp le e =
    let parts = entry_split c.0 d.0 c.1 d.1 (entries_text changes ++ t) (entries_text done ++ s) (path_lacks c.0 cp.0) (path_lacks d.0 dp.0)
    (sym (append_assoc (entry_text c) (entries_text changes) t) ∙ (e ∙ append_assoc (entry_text d) (entries_text done) s)) in
    let rest = entries_split done changes s t dp.1 cp.1 (omega arith) parts.1.1 in
    let same : c ≡ d = ap (λ p. (p, c.1)) parts.0 ∙ ap (λ x. (d.0, x)) parts.1.0 in
    record { more = rest.more; all = ap (λ x. x ∷ changes) same ∙ ap (λ l. d ∷ l) rest.all; is = rest.is }

pub whole_split : (n : ℕ) (done changes : List Change) (s t : List ℕ) → ArePaths done → ArePaths changes → length done ≤ n → body_text changes ++ t ≡ (head_text n ++ entries_text done) ++ s
    → (length changes ≡ n) × More done changes s t
whole_split n done changes s t dp cp le e =
    let parts = head_split (length changes) n (entries_text changes ++ t) (entries_text done ++ s)
    (sym (append_assoc (head_text (length changes)) (entries_text changes) t) ∙ (e ∙ append_assoc (head_text n) (entries_text done) s)) in
    (parts.0, entries_split done changes s t dp cp (omega arith) parts.1)

pub no_more : (done more : List Change) → length (done ++ more) ≡ length done → more ≡ []
no_more done [] e = refl
no_more done (c ∷ more) e = absurd (omega (arith, length-append done (c ∷ more), e))

-- a batch has one spelling
pub one_spelling : (one other : List Change) → IsBatch one → IsBatch other → journal_text one ≡ journal_text other → one ≡ other
unfolding journal_text
one_spelling one other b d e =
    let parts = whole_split (length other) other one (digest_line (body_text other)) (digest_line (body_text one)) d.paths b.paths (omega arith) e in
    let all = parts.1.all in
    let none = no_more other parts.1.more (ap length (sym all) ∙ parts.0) in
    all ∙ (ap (λ m. other ++ m) none ∙ append-nil other)

-- ---- batches of any length
last_is_before : (before : List ℕ) (done : List Change) → IsBefore before → ArePaths done → IsBefore (last_path before done)
last_is_before before [] fine p = fine
last_is_before before (change ∷ done) fine p = last_is_before change.0 done (inr p.0) p.1

pub done_before : (done : List Change) → IsBatch done → IsBefore (last_path [] done)
done_before done b = last_is_before [] done (inl refl) b.paths

-- so many changes more
record Completed (k : ℕ) (done : List Change) : Type 0 where
  more : List Change
  len : length more ≡ k
  batch : IsBatch (done ++ more)

complete : (k : ℕ) (done : List Change) → IsBatch done → Completed k done
complete zero done b = record { more = []; len = refl; batch = subst IsBatch (sym (append-nil done)) b }
complete (suc k) done b =
    let change : Change = (last_path [] done ++ 97 ∷ [], None) in
    let rest = complete k (done ++ change ∷ []) (batch_more done change b (may_extend (last_path [] done) (done_before done b))) in
    record { more = change ∷ rest.more; len = ap suc rest.len; batch = subst IsBatch (append_assoc done (change ∷ []) rest.more) rest.batch }

-- what stands before a place
pub before_place : (bytes front : List ℕ) (place : ℕ) → bytes ≡ front ++ drop place bytes → take place bytes ≡ front
before_place bytes front place e = append_cancel_right (take place bytes) front (drop place bytes) (take-append-drop place bytes ∙ e)

-- ---- where reading the entries stops
refuses_more : (n : ℕ) (bytes : List ℕ) (at stop : ℕ) (done more : List Change) (front then rest : List ℕ) → length done < n → length (done ++ more) ≡ n → IsBatch (done ++ more)
    → Stuck (IsEntry (last_path [] done)) front (drop stop bytes) → front ++ next_of (drop stop bytes) then ≡ entries_text more ++ rest → ⊥
refuses_more n bytes at stop done [] front then rest lt len b s e = omega (arith, ap length (append-nil done))
refuses_more n bytes at stop done (c ∷ more) front then rest lt len b s e =
    s.refuses c (entry_text c) (entries_text more ++ rest) then (record { may = may_follow_done done more c b; is = refl })
    (e ∙ append_assoc (entry_text c) (entries_text more) rest)

entry_begins : (n : ℕ) (done : List Change) (front : List ℕ) → IsBatch done → length done < n → Begins (IsEntry (last_path [] done)) front → JournalFront ((head_text n ++ entries_text done) ++ front)
unfolding journal_text
entry_begins n done front b lt begins =
    let c = begins.0 in
    let r = begins.1.0 in
    let all = complete (n - (length done + 1)) (done ++ c ∷ []) (batch_more done c b begins.1.1.may) in
    let changes = (done ++ c ∷ []) ++ all.more in
    let len : length changes ≡ n = omega (arith, length-append (done ++ c ∷ []) all.more, length_push done c, all.len) in
    let tail = entries_text all.more ++ digest_line (body_text changes) in
    let texts : entries_text changes ≡ (entries_text done ++ (front ++ r)) ++ entries_text all.more
    = entries_text-append (done ++ c ∷ []) all.more ∙ ap (λ t. t ++ entries_text all.more) (entries_text-append done (c ∷ []) ∙ ap (λ t. entries_text done ++ t) (append-nil (entry_text c) ∙ sym begins.1.1.is)) in
    record {
      changes = changes;
      batch = all.batch;
      rest = r ++ tail;
      whole = ap (λ t. t ++ digest_line (body_text changes)) (ap (λ m. head_text m ++ entries_text changes) len ∙ ap (λ t. head_text n ++ t) texts)
          ∙ regroup (head_text n) (entries_text done) front r (entries_text all.more) (digest_line (body_text changes));
    }
  where
    regroup : (h d f r m l : List ℕ) → (h ++ ((d ++ (f ++ r)) ++ m)) ++ l ≡ ((h ++ d) ++ f) ++ (r ++ (m ++ l))
    regroup h d f r m l = simp append_assoc

pub entry_stops : (n : ℕ) (bytes : List ℕ) (at stop : ℕ) (done : List Change) → Done n bytes at done → length done < n → StuckAt (IsEntry (last_path [] done)) bytes at stop → BodyStops bytes stop
entry_stops n bytes at stop done d lt s =
    let prefix = head_text n ++ entries_text done in
    let here : take stop bytes ≡ prefix ++ s.front = before_place bytes (prefix ++ s.front) stop
    (d.taken ∙ (ap (λ t. prefix ++ t) s.seen ∙ sym (append_assoc prefix s.front (drop stop bytes)))) in
    record {
      place = s.place;
      begins = subst JournalFront (sym here) (entry_begins n done s.front d.batch lt s.stuck.begins);
      refuses = λ changes then rest b e.
          let parts = whole_split n done changes (s.front ++ next_of (drop stop bytes) then) rest d.batch.paths b.paths d.count
          (sym e ∙ (ap (λ t. t ++ next_of (drop stop bytes) then) here ∙ append_assoc prefix s.front (next_of (drop stop bytes) then))) in
          refuses_more n bytes at stop done parts.1.more s.front then rest lt (ap length (sym parts.1.all) ∙ parts.0) (subst IsBatch parts.1.all b) s.stuck parts.1.is;
    }

-- ---- the first two lines
head_spells : (n : ℕ) → Head (tt, n) (head_text n)
unfolding head_text
head_spells n = record {
  first = codes "rewrite-journal 1\n";
  second = numeral n ++ 10 ∷ [];
  spells = record { is = refl };
  then = record { body = numeral n; spells = record { is = refl }; ended = refl };
  joined = append_assoc (codes "rewrite-journal 1\n") (numeral n) (10 ∷ []);
}

head_is : (x : Unit {0} × ℕ) (text : List ℕ) → Head x text → text ≡ head_text x.1
unfolding head_text
head_is x text h = h.joined ∙ (ap (λ t. t ++ h.second) h.spells.is ∙ (ap (λ t. codes "rewrite-journal 1\n" ++ t) (h.then.ended ∙ ap (λ t. t ++ 10 ∷ []) h.then.spells.is)
    ∙ sym (append_assoc (codes "rewrite-journal 1\n") (numeral x.1) (10 ∷ []))))

head_begins : (front : List ℕ) → Begins Head front → JournalFront front
unfolding journal_text
head_begins front begins =
    let n = begins.0.1 in
    let all = complete n [] (record { paths = tt; rise = tt; free = tt }) in
    let tail = entries_text all.more ++ digest_line (body_text all.more) in
    record {
      changes = all.more;
      batch = all.batch;
      rest = begins.1.0 ++ tail;
      whole = append_assoc (head_text (length all.more)) (entries_text all.more) (digest_line (body_text all.more))
          ∙ (ap (λ m. head_text m ++ tail) all.len ∙ (ap (λ t. t ++ tail) (sym (head_is begins.0 (front ++ begins.1.0) begins.1.1)) ∙ append_assoc front begins.1.0 tail));
    }

pub head_stops : (bytes : List ℕ) (stop : ℕ) → StuckAt Head bytes 0 stop → BodyStops bytes stop
head_stops bytes stop s =
    let here : take stop bytes ≡ s.front = before_place bytes s.front stop s.seen in
    record {
      place = s.place;
      begins = subst JournalFront (sym here) (head_begins s.front s.stuck.begins);
      refuses = λ changes then rest b e.
          s.stuck.refuses (tt, length changes) (head_text (length changes)) (entries_text changes ++ rest) then (head_spells (length changes))
          (ap (λ t. t ++ next_of (drop stop bytes) then) (sym here) ∙ (e ∙ append_assoc (head_text (length changes)) (entries_text changes) rest));
    }

pub head_done : (n held : ℕ) (bytes : List ℕ) (at : ℕ) → held ≡ min n (2 ^ 64 - 1) → Took Head bytes 0 at (tt, n) → Going bytes at held []
head_done n held bytes at e t = record {
  n = n;
  value = e;
  so_far = record {
    batch = record { paths = tt; rise = tt; free = tt };
    count = omega arith;
    place = t.place;
    taken = t.taken ∙ ap (λ l. l ++ drop at bytes) (head_is (tt, n) t.text t.spells ∙ sym (append-nil (head_text n)));
  };
}

-- ---- the last line
line_spells : (body : List ℕ) → LastLine (encode_lower (sha256 body)) (tt, (tt, tt)) (digest_line body)
line_spells body = record {
  first = codes "sha256 ";
  second = encode_lower (sha256 body) ++ 10 ∷ [];
  spells = record { is = refl };
  then = record { first = encode_lower (sha256 body); second = 10 ∷ []; spells = record { is = refl }; then = record { is = refl }; joined = refl };
  joined = append_assoc (codes "sha256 ") (encode_lower (sha256 body)) (10 ∷ []);
}

pub line_is : (body : List ℕ) (x : Unit {0} × (Unit {0} × Unit {0})) (text : List ℕ) → LastLine (encode_lower (sha256 body)) x text → text ≡ digest_line body
line_is body x text l = l.joined ∙ (ap (λ t. t ++ l.second) l.spells.is ∙ (ap (λ t. codes "sha256 " ++ t) (l.then.joined ∙ (ap (λ t. t ++ l.then.second) l.then.spells.is ∙ ap (λ t. encode_lower (sha256 body) ++ t) l.then.then.is))
    ∙ sym (append_assoc (codes "sha256 ") (encode_lower (sha256 body)) (10 ∷ []))))

pub next_all : (behind : List ℕ) → (more : List ℕ) × (next_of behind more ≡ behind)
next_all [] = ([], refl)
next_all (b ∷ behind) = (behind, refl)

pub line_stops : (body bytes : List ℕ) (at stop : ℕ) → StuckAt (LastLine (encode_lower (sha256 body))) bytes at stop → LineStops body bytes at stop
line_stops body bytes at stop s =
    let b = s.stuck.begins in
    record {
      place = s.place;
      front = s.front;
      seen = s.seen;
      rest = b.1.0;
      begins = sym (line_is body b.0 (s.front ++ b.1.0) b.1.1);
      ends = λ x behind more there same.
          s.stuck.refuses (tt, (tt, tt)) (digest_line body) [] more (line_spells body)
          (ap (λ l. s.front ++ next_of l more) there ∙ (sym same ∙ sym (append-nil (digest_line body))));
      differs = λ e.
          let all = next_all (drop stop bytes) in
          s.stuck.refuses (tt, (tt, tt)) (digest_line body) [] all.0 (line_spells body)
          (ap (λ l. s.front ++ l) all.1 ∙ (sym s.seen ∙ (e ∙ sym (append-nil (digest_line body)))));
    }

pub body_before : (bytes body : List ℕ) (at : ℕ) → bytes ≡ body ++ drop at bytes → take at bytes ≡ body
body_before bytes body at e = append_cancel_right (take at bytes) body (drop at bytes) (take-append-drop at bytes ∙ e)

pub reads_all : (bytes : List ℕ) (at : ℕ) (changes : List Change) → length bytes ≤ 1073741824 → Finished bytes at changes → drop at bytes ≡ digest_line (take at bytes) → Reads bytes changes
unfolding journal_text
reads_all bytes at changes small f line = record {
  batch = f.batch;
  whole = f.taken ∙ ap (λ t. body_text changes ++ t) (line ∙ ap digest_line (body_before bytes (body_text changes) at f.taken));
  size = small;
}

pub digest_unread : (bytes : List ℕ) (at : ℕ) (done : List Change) → Finished bytes at done → drop at bytes ≢ digest_line (take at bytes) → HasNoReading bytes
unfolding journal_text
digest_unread bytes at done f other = λ changes r.
    let parts = whole_split (length done) done changes (drop at bytes) (digest_line (body_text changes)) f.batch.paths r.batch.paths (omega arith) (sym r.whole ∙ f.taken) in
    let none = no_more done parts.1.more (ap length (sym parts.1.all) ∙ parts.0) in
    let same : changes ≡ done = parts.1.all ∙ (ap (λ m. done ++ m) none ∙ append-nil done) in
    other (parts.1.is ∙ (ap (λ m. entries_text m ++ digest_line (body_text changes)) none ∙ ap digest_line (ap body_text same ∙ sym (body_before bytes (body_text done) at f.taken))))

-- ---- the number of entries
entry_long : (path : List ℕ) (bytes : Option (List ℕ)) → 0 < length (entry_with path bytes)
entry_long path None = omega arith
entry_long path (Some bytes) = omega arith

entries_long : (changes : List Change) → length changes ≤ length (entries_text changes)
entries_long [] = omega arith
entries_long (c ∷ changes) = let l = entries_long changes in let h = entry_long c.0 c.1 in omega (arith, length-append (entry_text c) (entries_text changes))

pub finished : (bytes : List ℕ) (at held : ℕ) (done : List Change) → length bytes ≤ 1073741824 → Going bytes at held done → held ≤ length done → Finished bytes at done
finished bytes at held done small g all =
    let d = g.so_far in
    let total = ap length d.taken ∙ length-append (head_text g.n ++ entries_text done) (drop at bytes) in
    let n : length done ≡ g.n = omega (arith, total, length-append (head_text g.n) (entries_text done), entries_long done, g.value, d.count) in
    record { batch = d.batch; place = d.place; taken = d.taken ∙ ap (λ m. (head_text m ++ entries_text done) ++ drop at bytes) (sym n) }

pub going_step : (bytes : List ℕ) (at end held : ℕ) (done : List Change) (change : Change) → length done < held → Going bytes at held done → Took (IsEntry (last_path [] done)) bytes at end change → Going bytes end held (done ++ change ∷ [])
going_step bytes at end held done change lt g t = record { n = g.n; value = g.value; so_far = done_step g.n bytes at end done change (omega (arith, g.value)) g.so_far t }

pub going_stuck : (bytes : List ℕ) (at stop held : ℕ) (done : List Change) → length done < held → Going bytes at held done → StuckAt (IsEntry (last_path [] done)) bytes at stop → BodyStops bytes stop
going_stuck bytes at stop held done lt g s = entry_stops g.n bytes at stop done g.so_far (omega (arith, g.value)) s
