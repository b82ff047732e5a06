-- What a run writes, as a batch: in the order of paths, and free of the files of the journal.
use Rattle.std.specs.Prelude.{codes, if◌then◌else◌}
use Rattle.std.proofs.Common.{◌≡◌, ◌≢◌, inl, inr, ℕ, zero, suc, ◌<◌, ◌≤◌, ◌+◌, ◌++◌, ◌||◌, Bool, true, false, IsTrue, List, [], ◌∷◌, length, drop, get_or, Option, None, Some, refl, sym, ap, subst, ◌∙◌, arith, append_assoc, append-nil, add-one, drop-cons}
use Rattle.std.proofs.lemmas.Bool.{both_ways, cases_lt}
use Rattle.std.proofs.lemmas.List.{drop_all}
use Rattle.std.proofs.lemmas.Slice.Eq.{bytes_eq-Decides}
use Rattle.std.specs.List.{insert}
use Rattle.std.specs.Option.{option_map}
use Rattle.std.specs.Str.{bytes_eq}
use Rattle.std.specs.Ordering.{nat_cmp, match_ordering, ordering_reverse}
use Rattle.std.specs.Cmp.Lexicographic.{slice_cmp, nat_list_cmp_total}
use Rattle.std.specs.FinMap.{slice_cmp-IsAntisymmetric, nat_cmp-IsAntisymmetric}
use Rattle.std.specs.declared.cmp.Ordering.{Ordering}
use Rattle.std.specs.declared.cmp.Ordering.TheVariants.{Less, Equal, Greater}
use Rattle.rw_host.specs.Path.{is_path}
use Rattle.journal_text.specs.Changes.{Change as Written, change_of, changes_of, gate, journal, AllFree, ArePaths, IsFree, Rises}
use Rattle.journal_text.specs.declared.batch.Entry.{Entry}
use Rattle.kept_files.specs.States.{State, AreKept, IsBelow}
use Rattle.kept_files.specs.declared.file.KeptFile.{KeptFile}
use Rattle.scheduler.specs.Runs.{same_bytes}
use Rattle.rewrite_cli.specs.declared.changes.Change.{Change}
use Rattle.rewrite_cli.specs.declared.changes.Change.TheVariants.{Created, Changed, Removed}
use Rattle.rewrite_cli.specs.Changes.{batch_of, batch_with, changes, file_of, is_kept_out, is_removal, kept_for, put_at, written_at}
use Rattle.rewrite_cli.specs.Ends.{IsPlaceIn}
use Rattle.rewrite_cli.specs.Histories.{history_path}

-- ---- the three files that are kept out

pub names : (codes ".rewrite/gate" ≡ gate) × ((codes ".rewrite/journal" ≡ journal) × (codes ".rewrite/history.csv" ≡ history_path))
unfolding gate journal history_path
names = (refl, (refl, refl))

pub other_files : (bytes_eq history_path gate ≡ false) × (bytes_eq history_path journal ≡ false)
unfolding gate journal history_path
other_files = (refl, refl)

abbrev pub by_bytes : List ℕ → List ℕ → Ordering
by_bytes = slice_cmp nat_cmp

unlike : (a b : List ℕ) → bytes_eq a b ≡ false → a ≢ b
unlike a b e same = both_ways (bytes_eq a b) e ((bytes_eq-Decides a b).1 same)

same_path : (a b : List ℕ) → by_bytes a b ≡ Equal → a ≡ b
same_path a b e = slice_cmp-IsAntisymmetric nat_cmp-IsAntisymmetric a b e

less_from_greater : (a b : List ℕ) → by_bytes a b ≡ Greater → by_bytes b a ≡ Less
less_from_greater a b e = nat_list_cmp_total.antisymm b a ∙ ap ordering_reverse e

first_false : (a b : Bool) → (a || b) ≡ false → a ≡ false
first_false true b e = absurd (cc)
first_false false b e = refl

second_false : (a b : Bool) → (a || b) ≡ false → b ≡ false
second_false true b e = absurd (cc)
second_false false b e = e

-- ---- entries one after another

changes_append : (es fs : List Entry) → changes_of (es ++ fs) ≡ changes_of es ++ changes_of fs
changes_append [] fs = refl
changes_append (e ∷ es) fs = ap (λ cs. change_of e ∷ cs) (changes_append es fs)

pub one_pushed : (es new : List Entry) (e : Entry) → new ≡ es ++ e ∷ [] → changes_of new ≡ changes_of es ++ change_of e ∷ []
one_pushed es new e is = ap changes_of is ∙ changes_append es (e ∷ [])

module _ (es new : List Entry) (e : Entry) (f : KeptFile) (is : new ≡ es ++ e ∷ []) (path : e.path ≡ f.path) where
  removed_bytes : e.bytes ≡ None → change_of e ≡ (f.path, None)
  removed_bytes n = ap (λ b. (e.path, option_map (λ v. v.items) b)) n ∙ ap (λ p. (p, None)) path

  pub removal_pushed : (r : Bool) → r ≡ true → e.bytes ≡ None → changes_of new ≡ changes_of es ++ written_at f r
  removal_pushed r t n = one_pushed es new e is ∙ (rw t (ap (λ c. changes_of es ++ c ∷ []) (removed_bytes n)))

  pub file_pushed : (r : Bool) (bytes : List ℕ) → r ≡ false → f.bytes ≡ Some bytes → option_map (λ v. v.items) e.bytes ≡ Some bytes
      → changes_of new ≡ changes_of es ++ written_at f r
  file_pushed r bytes t b i =
      one_pushed es new e is
      ∙ (rw (t, b) (ap (λ c. changes_of es ++ c ∷ []) (ap (λ p. (p, option_map (λ v. v.items) e.bytes)) path ∙ ap (λ o. (f.path, o)) i)))

pub none_pushed : (out : List Written) (f : KeptFile) (r : Bool) → r ≡ false → f.bytes ≡ None → out ≡ out ++ written_at f r
none_pushed out f r t b = rw (t, b) (sym (append-nil out))

pub kept_out_pushed : (out : List Written) (c : Change) → is_kept_out (file_of c).path ≡ true → out ≡ out ++ kept_for c
unfolding kept_for
kept_out_pushed out c e = rw e (sym (append-nil out))

pub change_pushed : (out new : List Written) (c : Change) → is_kept_out (file_of c).path ≡ false
    → new ≡ out ++ written_at (file_of c) (is_removal c) → new ≡ out ++ kept_for c
unfolding kept_for
change_pushed out new c e is = is ∙ rw e refl

pub ruleset pushed = (removal_pushed, file_pushed, none_pushed, kept_out_pushed, change_pushed)

-- ---- all changes

pub batches_more : (cs : List Change) (i : ℕ) (c : Change) (out more all : List Written) → i < length cs → c ≡ get_or cs i c
    → more ≡ out ++ kept_for c → out ++ batch_of (drop i cs) ≡ all → more ++ batch_of (drop (i + 1) cs) ≡ all
unfolding batch_of
batches_more cs i c out more all lt is e h =
    let cut : drop i cs ≡ c ∷ drop (i + 1) cs
    = drop-cons cs i c lt ∙ (rw add-one (ap (λ y. y ∷ drop (suc i) cs) (sym is))) in
    ap (λ es. es ++ batch_of (drop (i + 1) cs)) e
    ∙ (append_assoc out (kept_for c) (batch_of (drop (i + 1) cs))
    ∙ (sym (ap (λ xs. out ++ batch_of xs) cut) ∙ h))

pub batches_end : (cs : List Change) (i : ℕ) (out all : List Written) → length cs ≤ i → out ++ batch_of (drop i cs) ≡ all → out ≡ all
unfolding batch_of
batches_end cs i out all le h = sym (ap (λ xs. out ++ batch_of xs) (drop_all i cs le) ∙ append-nil out) ∙ h

pub batches_start : (cs : List Change) → [] ++ batch_of (drop 0 cs) ≡ batch_of cs
batches_start cs = refl

pub ruleset batches = (batches_more, batches_end)

-- ---- where the history goes

-- so many paths at the front are smaller
abbrev pub AreBefore : List Written → List ℕ → ℕ → Type 0
AreBefore ws path zero = Unit {0}
AreBefore [] path (suc n) = ⊥
AreBefore (w ∷ ws) path (suc n) = (by_bytes w.0 path ≡ Less) × AreBefore ws path n

abbrev pub no_change : Written
no_change = ([], None)

before_more : (ws : List Written) (path : List ℕ) (n : ℕ) → AreBefore ws path n → n < length ws
    → by_bytes (get_or ws n no_change).0 path ≡ Less → AreBefore ws path (suc n)
before_more [] path n b lt e = absurd (omega arith)
before_more (w ∷ ws) path zero b lt e = (e, tt)
before_more (w ∷ ws) path (suc n) b lt e = (b.0, before_more ws path n b.1 (omega (arith, lt)) e)

pub place_here : (ws : List Written) (path : List ℕ) (n : ℕ) → AreBefore ws path n → n < length ws
    → (by_bytes (get_or ws n no_change).0 path ≡ Less → ⊥) → IsPlaceIn ws path n
unfolding IsPlaceIn
place_here [] path n b lt e = absurd (omega arith)
place_here (w ∷ ws) path zero b lt e = e
place_here (w ∷ ws) path (suc n) b lt e = (b.0, place_here ws path n b.1 (omega (arith, lt)) e)

pub place_behind : (ws : List Written) (path : List ℕ) (n : ℕ) → AreBefore ws path n → length ws ≡ n → IsPlaceIn ws path n
unfolding IsPlaceIn
place_behind [] path zero b e = refl
place_behind [] path (suc n) b e = absurd (omega (arith, e))
place_behind (w ∷ ws) path zero b e = absurd (omega (arith, e))
place_behind (w ∷ ws) path (suc n) b e = (b.0, place_behind ws path n b.1 (omega (arith, e)))

pub length_changes : (es : List Entry) → length (changes_of es) ≡ length es
length_changes [] = refl
length_changes (e ∷ es) = ap suc (length_changes es)

pub change_at : (es : List Entry) (n : ℕ) (e : Entry) → n < length es → get_or es n e ≡ e → get_or (changes_of es) n no_change ≡ change_of e
change_at [] n e lt is = absurd (omega arith)
change_at (x ∷ es) zero e lt is = ap change_of is
change_at (x ∷ es) (suc n) e lt is = change_at es n e (omega (arith, lt)) is

module _ (es : List Entry) (path : List ℕ) (n : ℕ) (e : Entry) (is : e ≡ get_or es n e) (lt : n < length es) (before : AreBefore (changes_of es) path n) where
  here : (get_or (changes_of es) n no_change).0 ≡ e.path
  here = ap (λ (c : Written). c.0) (change_at es n e lt (sym is))

  in_changes : n < length (changes_of es)
  in_changes = omega (arith, lt, length_changes es)

  pub one_before : by_bytes e.path path ≡ Less → AreBefore (changes_of es) path (n + 1)
  one_before less = rw add-one (before_more (changes_of es) path n before in_changes (ap (λ p. by_bytes p path) here ∙ less))

  pub place_at : by_bytes e.path path ≢ Less → IsPlaceIn (changes_of es) path n
  place_at not_less = place_here (changes_of es) path n before in_changes (λ less. not_less (sym (ap (λ p. by_bytes p path) here) ∙ less))

pub place_end : (es : List Entry) (path : List ℕ) (n : ℕ) → AreBefore (changes_of es) path n → n ≤ length es → (n < length es → ⊥) → IsPlaceIn (changes_of es) path n
place_end es path n before le no_more = place_behind (changes_of es) path n before (length_changes es ∙ at_end) where
  at_end : length es ≡ n
  at_end = elim (cases_lt n (length es)) [
    | inl lt ↦ absurd (no_more lt)
    | inr ge ↦ omega (arith, le, ge)
  ]

pub ruleset placed = (one_before, place_at, place_end)

-- ---- one more at its place

changes_insert : (es : List Entry) (n : ℕ) (e : Entry) → changes_of (insert es n e) ≡ insert (changes_of es) n (change_of e)
changes_insert es zero e = refl
changes_insert [] (suc n) e = refl
changes_insert (x ∷ es) (suc n) e = ap (λ cs. change_of x ∷ cs) (changes_insert es n e)

not_less : (r : Ordering) (a b c : List Written) → (r ≡ Less → ⊥) → b ≡ c → match_ordering r a b b ≡ c
not_less Less a b c n e = absurd (n refl)
not_less Equal a b c n e = e
not_less Greater a b c n e = e

place_with : (ws : List Written) (n : ℕ) (w : Written) → IsPlaceIn ws w.0 n → batch_with w ws ≡ insert ws n w
unfolding IsPlaceIn batch_with
place_with [] n w p = rw p refl
place_with (x ∷ ws) zero w p = not_less (by_bytes x.0 w.0) (x ∷ batch_with w ws) (w ∷ x ∷ ws) (w ∷ x ∷ ws) p refl
place_with (x ∷ ws) (suc n) w p = rw p.0 (ap (λ l. x ∷ l) (place_with ws n w p.1))

pub history_put : (es new : List Entry) (n : ℕ) (e : Entry) (path bytes : List ℕ) → e.path ≡ history_path → path ≡ history_path
    → option_map (λ v. v.items) e.bytes ≡ Some bytes → IsPlaceIn (changes_of es) path n → new ≡ insert es n e
    → changes_of new ≡ batch_with (history_path, Some bytes) (changes_of es)
history_put es new n e path bytes p q b place is =
    let change : change_of e ≡ (history_path, Some bytes) = ap (λ x. (x, option_map (λ v. v.items) e.bytes)) p ∙ ap (λ o. (history_path, o)) b in
    ap changes_of is ∙ (changes_insert es n e ∙ (ap (insert (changes_of es) n) change
    ∙ sym (place_with (changes_of es) n (history_path, Some bytes) (subst (λ x. IsPlaceIn (changes_of es) x n) q place))))

pub ruleset with_history = (history_put)

-- ---- the order of paths

-- no path but this one
abbrev IsAt : List ℕ → List Written → Type 0
IsAt p [] = Unit {0}
IsAt p (w ∷ []) = w.0 ≡ p
IsAt p (w ∷ v ∷ ws) = ⊥

put_is_at : (p : List ℕ) (bytes : Option (List ℕ)) → IsAt p (put_at p bytes)
put_is_at p None = tt
put_is_at p (Some b) = refl

written_is_at : (f : KeptFile) (r : Bool) → IsAt f.path (written_at f r)
written_is_at f true = refl
written_is_at f false = put_is_at f.path f.bytes

either_at : (p : List ℕ) (out : Bool) (ws : List Written) → IsAt p ws → IsAt p (if out then [] else ws)
either_at p true ws a = tt
either_at p false ws a = a

kept_is_at : (c : Change) → IsAt (file_of c).path (kept_for c)
unfolding kept_for
kept_is_at c = either_at (file_of c).path (is_kept_out (file_of c).path) (written_at (file_of c) (is_removal c)) (written_is_at (file_of c) (is_removal c))

front_rises : (b p : List ℕ) (ws rest : List Written) → IsAt p ws → by_bytes b p ≡ Less → Rises p rest → Rises b rest → Rises b (ws ++ rest)
front_rises b p [] rest a lt behind all = all
front_rises b p (w ∷ []) rest a lt behind all = (ap (by_bytes b) a ∙ lt, subst (λ q. Rises q rest) (sym a) behind)
front_rises b p (w ∷ v ∷ ws) rest a lt behind all = absurd a

-- in order, whatever comes before the first
abbrev pub Follows : List Written → Type 0
Follows [] = Unit {0}
Follows (w ∷ ws) = Rises w.0 ws

front_follows : (p : List ℕ) (ws rest : List Written) → IsAt p ws → Rises p rest → Follows rest → Follows (ws ++ rest)
front_follows p [] rest a behind all = all
front_follows p (w ∷ []) rest a behind all = subst (λ q. Rises q rest) (sym a) behind
front_follows p (w ∷ v ∷ ws) rest a behind all = absurd a

below_through : (p q : List ℕ) (fs : State) → by_bytes p q ≡ Less → IsBelow q fs → IsBelow p fs
below_through p q [] e b = tt
below_through p q (f ∷ fs) e b = (nat_list_cmp_total.trans p q f.path e b.0, below_through p q fs e b.1)

below_same : (p q : List ℕ) (fs : State) → p ≡ q → IsBelow q fs → IsBelow p fs
below_same p q fs e b = subst (λ r. IsBelow r fs) (sym e) b

-- what is written of what two states differ in
abbrev written_of : State → State → List Written
written_of fs gs = batch_of (changes fs gs)

batch_first : (c : Change) (cs : List Change) → batch_of (c ∷ cs) ≡ kept_for c ++ batch_of cs
unfolding batch_of
batch_first c cs = refl

below_kept : (f : KeptFile) (fs : State) → AreKept (f ∷ fs) → IsBelow f.path fs
unfolding AreKept
below_kept f fs k = k.1.0

rest_kept : (f : KeptFile) (fs : State) → AreKept (f ∷ fs) → AreKept fs
unfolding AreKept
rest_kept f fs k = k.1.1

no_files : AreKept []
unfolding AreKept
no_files = tt

-- where the front of one of the states, or of both, is taken away
removed_is : (f : KeptFile) (fs : State) → written_of (f ∷ fs) [] ≡ kept_for (Removed f) ++ written_of fs []
unfolding changes batch_of
removed_is f fs = refl

created_is : (g : KeptFile) (gs : State) → written_of [] (g ∷ gs) ≡ kept_for (Created g) ++ written_of [] gs
unfolding changes batch_of
created_is g gs = refl

less_is : (f g : KeptFile) (fs gs : State) → by_bytes f.path g.path ≡ Less → written_of (f ∷ fs) (g ∷ gs) ≡ kept_for (Removed f) ++ written_of fs (g ∷ gs)
unfolding changes batch_of
less_is f g fs gs e = rw e refl

greater_is : (f g : KeptFile) (fs gs : State) → by_bytes f.path g.path ≡ Greater → written_of (f ∷ fs) (g ∷ gs) ≡ kept_for (Created g) ++ written_of (f ∷ fs) gs
unfolding changes batch_of
greater_is f g fs gs e = rw e refl

changed_for : KeptFile → KeptFile → List Written
changed_for f g = if same_bytes f.bytes g.bytes then [] else kept_for (Changed g)

changed_front : (same : Bool) (g : KeptFile) (cs : List Change) → batch_of ((if same then [] else Changed g ∷ []) ++ cs) ≡ (if same then [] else kept_for (Changed g)) ++ batch_of cs
unfolding batch_of
changed_front true g cs = refl
changed_front false g cs = refl

equal_is : (f g : KeptFile) (fs gs : State) → by_bytes f.path g.path ≡ Equal → written_of (f ∷ fs) (g ∷ gs) ≡ changed_for f g ++ written_of fs gs
unfolding changes changed_for
equal_is f g fs gs e = rw e (changed_front (same_bytes f.bytes g.bytes) g (changes fs gs))

changed_is_at : (f g : KeptFile) → IsAt g.path (changed_for f g)
unfolding changed_for
changed_is_at f g = either_at g.path (same_bytes f.bytes g.bytes) (kept_for (Changed g)) (kept_is_at (Changed g))

-- ---- what is written rises

abbrev Rising : State → Type 0
Rising fs = (b : List ℕ) (gs : State) → AreKept gs → IsBelow b fs → IsBelow b gs → Rises b (written_of fs gs)

created_rises : (b : List ℕ) (gs : State) → AreKept gs → IsBelow b gs → Rises b (written_of [] gs)
unfolding changes batch_of
created_rises b [] k l = tt
created_rises b (g ∷ gs) k l =
    subst (Rises b) (sym (created_is g gs)) (front_rises b g.path (kept_for (Created g)) (written_of [] gs) (kept_is_at (Created g)) l.0
    (created_rises g.path gs (rest_kept g gs k) (below_kept g gs k)) (created_rises b gs (rest_kept g gs k) l.1))

module _ (f : KeptFile) (fs : State) (kf : IsBelow f.path fs) (others : Rising fs) where
  removed_rises : (b : List ℕ) → by_bytes b f.path ≡ Less → IsBelow b fs → Rises b (written_of (f ∷ fs) [])
  removed_rises b lt l =
      subst (Rises b) (sym (removed_is f fs)) (front_rises b f.path (kept_for (Removed f)) (written_of fs []) (kept_is_at (Removed f)) lt
      (others f.path [] no_files kf tt) (others b [] no_files l tt))

  against_rises : (gs : State) (b : List ℕ) → AreKept gs → by_bytes b f.path ≡ Less → IsBelow b fs → IsBelow b gs → Rises b (written_of (f ∷ fs) gs)
  against_rises [] b k lt l m = removed_rises b lt l
  against_rises (g ∷ gs) b k lt l m = elim (by_bytes f.path g.path) as (λ r. by_bytes f.path g.path ≡ r → Rises b (written_of (f ∷ fs) (g ∷ gs))) [
    | Less ↦ λ e. subst (Rises b) (sym (less_is f g fs gs e))
        (front_rises b f.path (kept_for (Removed f)) (written_of fs (g ∷ gs)) (kept_is_at (Removed f)) lt
        (others f.path (g ∷ gs) k kf (e, below_through f.path g.path gs e (below_kept g gs k))) (others b (g ∷ gs) k l m))
    | Equal ↦ λ e. subst (Rises b) (sym (equal_is f g fs gs e))
        (front_rises b g.path (changed_for f g) (written_of fs gs) (changed_is_at f g) m.0
        (others g.path gs (rest_kept g gs k) (below_same g.path f.path fs (sym (same_path f.path g.path e)) kf) (below_kept g gs k))
        (others b gs (rest_kept g gs k) l m.1))
    | Greater ↦ λ e. subst (Rises b) (sym (greater_is f g fs gs e))
        (front_rises b g.path (kept_for (Created g)) (written_of (f ∷ fs) gs) (kept_is_at (Created g)) m.0
        (against_rises gs g.path (rest_kept g gs k) (less_from_greater f.path g.path e)
        (below_through g.path f.path fs (less_from_greater f.path g.path e) kf) (below_kept g gs k))
        (against_rises gs b (rest_kept g gs k) lt l m.1))
  ] refl

rising : (fs : State) → AreKept fs → Rising fs
rising [] kf b gs k l m = created_rises b gs k m
rising (f ∷ fs) kf b gs k l m = against_rises f fs (below_kept f fs kf) (rising fs (rest_kept f fs kf)) gs b k l.0 l.1 m

-- ---- and whatever comes before it

created_follows : (gs : State) → AreKept gs → Follows (written_of [] gs)
unfolding changes batch_of
created_follows [] k = tt
created_follows (g ∷ gs) k =
    subst Follows (sym (created_is g gs)) (front_follows g.path (kept_for (Created g)) (written_of [] gs) (kept_is_at (Created g))
    (created_rises g.path gs (rest_kept g gs k) (below_kept g gs k)) (created_follows gs (rest_kept g gs k)))

module _ (f : KeptFile) (fs : State) (kf : IsBelow f.path fs) (others : Rising fs) (follow : (gs : State) → AreKept gs → Follows (written_of fs gs)) where
  against_follows : (gs : State) → AreKept gs → Follows (written_of (f ∷ fs) gs)
  against_follows [] k =
      subst Follows (sym (removed_is f fs)) (front_follows f.path (kept_for (Removed f)) (written_of fs []) (kept_is_at (Removed f)) (others f.path [] no_files kf tt) (follow [] no_files))
  against_follows (g ∷ gs) k = elim (by_bytes f.path g.path) as (λ r. by_bytes f.path g.path ≡ r → Follows (written_of (f ∷ fs) (g ∷ gs))) [
    | Less ↦ λ e. subst Follows (sym (less_is f g fs gs e))
        (front_follows f.path (kept_for (Removed f)) (written_of fs (g ∷ gs)) (kept_is_at (Removed f))
        (others f.path (g ∷ gs) k kf (e, below_through f.path g.path gs e (below_kept g gs k))) (follow (g ∷ gs) k))
    | Equal ↦ λ e. subst Follows (sym (equal_is f g fs gs e))
        (front_follows g.path (changed_for f g) (written_of fs gs) (changed_is_at f g)
        (others g.path gs (rest_kept g gs k) (below_same g.path f.path fs (sym (same_path f.path g.path e)) kf) (below_kept g gs k))
        (follow gs (rest_kept g gs k)))
    | Greater ↦ λ e. subst Follows (sym (greater_is f g fs gs e))
        (front_follows g.path (kept_for (Created g)) (written_of (f ∷ fs) gs) (kept_is_at (Created g))
        (against_rises f fs kf others gs g.path (rest_kept g gs k) (less_from_greater f.path g.path e)
        (below_through g.path f.path fs (less_from_greater f.path g.path e) kf) (below_kept g gs k))
        (against_follows gs (rest_kept g gs k)))
  ] refl

following : (fs : State) → AreKept fs → (gs : State) → AreKept gs → Follows (written_of fs gs)
following [] kf gs k = created_follows gs k
following (f ∷ fs) kf gs k = against_follows f fs (below_kept f fs kf) (rising fs (rest_kept f fs kf)) (following fs (rest_kept f fs kf)) gs k

-- ---- none of the three files is among them

abbrev pub AreKeptOut : List Written → Type 0
AreKeptOut [] = Unit {0}
AreKeptOut (w ∷ ws) = (is_kept_out w.0 ≡ false) × AreKeptOut ws

kept_one : (p : List ℕ) (ws : List Written) → IsAt p ws → is_kept_out p ≡ false → AreKeptOut ws
kept_one p [] a e = tt
kept_one p (w ∷ []) a e = (ap is_kept_out a ∙ e, tt)
kept_one p (w ∷ v ∷ ws) a e = absurd a

kept_append : (ws vs : List Written) → AreKeptOut ws → AreKeptOut vs → AreKeptOut (ws ++ vs)
kept_append [] vs a b = b
kept_append (w ∷ ws) vs a b = (a.0, kept_append ws vs a.1 b)

kept_for_out : (c : Change) → AreKeptOut (kept_for c)
unfolding kept_for
kept_for_out c = elim (is_kept_out (file_of c).path) as (λ t. is_kept_out (file_of c).path ≡ t → AreKeptOut (if t then [] else written_at (file_of c) (is_removal c))) [
  | true ↦ λ e. tt
  | false ↦ λ e. kept_one (file_of c).path (written_at (file_of c) (is_removal c)) (written_is_at (file_of c) (is_removal c)) e
] refl

pub batch_kept_out : (cs : List Change) → AreKeptOut (batch_of cs)
unfolding batch_of
batch_kept_out [] = tt
batch_kept_out (c ∷ cs) = kept_append (kept_for c) (batch_of cs) (kept_for_out c) (batch_kept_out cs)

free_of : (p : List ℕ) → is_kept_out p ≡ false → IsFree p
free_of p e =
    let both = first_false (bytes_eq p gate || bytes_eq p journal) (bytes_eq p history_path) e in
    record {
      no_gate = unlike p gate (first_false (bytes_eq p gate) (bytes_eq p journal) both);
      no_journal = unlike p journal (second_false (bytes_eq p gate) (bytes_eq p journal) both);
    }

no_history : (p : List ℕ) → is_kept_out p ≡ false → p ≢ history_path
no_history p e = unlike p history_path (second_false (bytes_eq p gate || bytes_eq p journal) (bytes_eq p history_path) e)

history_free : IsFree history_path
history_free = record { no_gate = unlike history_path gate other_files.0; no_journal = unlike history_path journal other_files.1 }

-- ---- with the history among them

by_place : (P : List Written → Type 0) (r : Ordering) (a b : List Written) → (r ≡ Less → P a) → P b → P (match_ordering r a b b)
by_place P Less a b p q = p refl
by_place P Equal a b p q = q
by_place P Greater a b p q = q

free_with : (ws : List Written) (w : Written) → AreKeptOut ws → IsFree w.0 → AllFree (batch_with w ws)
unfolding batch_with
free_with [] w k f = (f, tt)
free_with (x ∷ ws) w k f =
    by_place AllFree (by_bytes x.0 w.0) (x ∷ batch_with w ws) (w ∷ x ∷ ws) (λ e. (free_of x.0 k.0, free_with ws w k.1 f))
    (f, (free_of x.0 k.0, all_free ws k.1)) where
      all_free : (vs : List Written) → AreKeptOut vs → AllFree vs
      all_free [] a = tt
      all_free (v ∷ vs) a = (free_of v.0 a.0, all_free vs a.1)

rises_with : (ws : List Written) (w : Written) (b : List ℕ) → Rises b ws → by_bytes b w.0 ≡ Less → AreKeptOut ws → w.0 ≡ history_path → Rises b (batch_with w ws)
unfolding batch_with
rises_with [] w b r lt k h = (lt, tt)
rises_with (x ∷ ws) w b r lt k h = elim (by_bytes x.0 w.0) as (λ o. by_bytes x.0 w.0 ≡ o → Rises b (match_ordering o (x ∷ batch_with w ws) (w ∷ x ∷ ws) (w ∷ x ∷ ws))) [
  | Less ↦ λ e. (r.0, rises_with ws w x.0 r.1 e k.1 h)
  | Equal ↦ λ e. absurd (no_history x.0 k.0 (same_path x.0 w.0 e ∙ h))
  | Greater ↦ λ e. (lt, (less_from_greater x.0 w.0 e, r.1))
] refl

some_path : (p : List ℕ) → IsTrue (is_path p) → by_bytes [] p ≡ Less
some_path [] e = absurd (cc)
some_path (b ∷ p) e = refl

history_path_first : by_bytes [] history_path ≡ Less
unfolding history_path
history_path_first = refl

from_start : (ws : List Written) → Follows ws → ArePaths ws → Rises [] ws
from_start [] f p = tt
from_start (w ∷ ws) f p = (some_path w.0 p.0.parts, f)

-- the whole batch of a run
module _ (first last : State) (w : Written) (h : w.0 ≡ history_path) where
  pub batch_rises : AreKept first → AreKept last → ArePaths (batch_of (changes first last)) → Rises [] (batch_with w (batch_of (changes first last)))
  batch_rises kf kl paths =
      rises_with (written_of first last) w [] (from_start (written_of first last) (following first kf last kl) paths)
      (ap (by_bytes []) h ∙ history_path_first) (batch_kept_out (changes first last)) h

  pub batch_free : AllFree (batch_with w (batch_of (changes first last)))
  batch_free = free_with (written_of first last) w (batch_kept_out (changes first last)) (subst IsFree (sym h) history_free)
