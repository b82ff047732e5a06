-- The lines of a report, one behind another.
use Rattle.std.proofs.Common.{◌≡◌, ℕ, ◌<◌, ◌≤◌, ◌+◌, ◌++◌, ◌||◌, not, Bool, true, false, List, [], ◌∷◌, length, drop, get_or, Option, None, Some, refl, sym, ap, ◌∙◌, append_assoc, append-nil, arith, add-one, drop-cons, if◌then◌else◌}
use Rattle.std.specs.Prelude.{codes, decimal, is_some}
use Rattle.std.proofs.lemmas.List.{drop_all}
use Rattle.rw_base.specs.declared.place.Place.{Place}
use Rattle.kept_files.specs.States.{State}
use Rattle.kept_files.specs.declared.file.KeptFile.{KeptFile}
use Rattle.scheduler.specs.declared.event.DropCause.{DropCause}
use Rattle.scheduler.specs.declared.event.Event.{Event}
use Rattle.rewrite_cli.specs.declared.changes.Change.{Change}
use Rattle.rewrite_cli.specs.declared.report.ChangeKind.{ChangeKind}
use Rattle.rewrite_cli.specs.declared.report.ChangeKind.TheVariants as kind
use Rattle.rewrite_cli.specs.Answers.{tells}
use Rattle.rewrite_cli.specs.Changes.{changes}
use Rattle.command_words.specs.Words.{Asked}
use Rattle.rewrite_cli.specs.Report.{has_kind, count_of, count_read_in, number_line, text_line, change_line, change_lines, drop_name, dropped_line, event_line, event_lines, still_line, head_lines, count_lines, report}
use Rattle.rewrite_cli.specs.Running.{Ran}

cut : {A : Type 0} (xs : List A) (i : ℕ) (d : A) → i < length xs → drop i xs ≡ get_or xs i d ∷ drop (i + 1) xs
cut xs i d lt = drop-cons xs i d lt ∙ rw add-one refl

pub cut_to : {A : Type 0} (xs : List A) (i : ℕ) (x : A) → i < length xs → x ≡ get_or xs i x → drop i xs ≡ x ∷ drop (i + 1) xs
cut_to xs i x lt is = cut xs i x lt ∙ ap (λ y. y ∷ drop (i + 1) xs) (sym is)

-- ---- one text behind another

pub text_joined : (old name told : List ℕ) → ((old ++ name) ++ codes " ") ++ told ++ codes "\n" ≡ old ++ text_line name told
unfolding text_line
text_joined old name told =
    append_assoc ((old ++ name) ++ codes " ") told (codes "\n") ∙ (append_assoc (old ++ name) (codes " ") (told ++ codes "\n") ∙ append_assoc old name (codes " " ++ (told ++ codes "\n")))

pub number_joined : (old name : List ℕ) (n : ℕ) → ((old ++ name) ++ codes " ") ++ decimal n ++ codes "\n" ≡ old ++ number_line name n
unfolding number_line
number_joined old name n =
    append_assoc ((old ++ name) ++ codes " ") (decimal n) (codes "\n") ∙ (append_assoc (old ++ name) (codes " ") (decimal n ++ codes "\n") ∙ append_assoc old name (codes " " ++ (decimal n ++ codes "\n")))

-- so much is put behind an old text
more : (old front back b : List ℕ) → back ≡ old ++ front → back ++ b ≡ old ++ (front ++ b)
more old front back b e = ap (λ t. t ++ b) e ∙ append_assoc old front b

pub drop_joined : (old path : List ℕ) (place : Place) (cause : DropCause) (recipe : List ℕ)
    → old ++ codes "dropped " ++ path ++ codes " " ++ decimal place.line ++ codes ":" ++ decimal place.column ++ codes " " ++ drop_name cause ++ codes " " ++ recipe ++ codes "\n"
    ≡ old ++ dropped_line path place cause recipe
unfolding dropped_line
drop_joined old path place cause recipe =
    more old _ _ (codes "\n") (more old _ _ recipe (more old _ _ (codes " ") (more old _ _ (drop_name cause) (more old _ _ (codes " ") (more old _ _ (decimal place.column) (more old _ _ (codes ":")
    (more old _ _ (decimal place.line) (more old _ _ (codes " ") (more old (codes "dropped ") _ path refl)))))))))

pub ruleset joined = (text_joined, number_joined, drop_joined)

-- ---- lists of lines

pub changes_more : (cs : List Change) (i : ℕ) (c : Change) (out new all : List ℕ) → i < length cs → c ≡ get_or cs i c → new ≡ out ++ change_line c → out ++ change_lines (drop i cs) ≡ all
    → new ++ change_lines (drop (i + 1) cs) ≡ all
unfolding change_lines
changes_more cs i c out new all lt is e h =
    ap (λ t. t ++ change_lines (drop (i + 1) cs)) e
    ∙ (append_assoc out (change_line c) (change_lines (drop (i + 1) cs))
    ∙ (sym (ap (λ xs. out ++ change_lines xs) (cut_to cs i c lt is)) ∙ h))

pub changes_end : (cs : List Change) (i : ℕ) (out all : List ℕ) → length cs ≤ i → out ++ change_lines (drop i cs) ≡ all → out ≡ all
unfolding change_lines
changes_end cs i out all le h = sym (ap (λ xs. out ++ change_lines xs) (drop_all i cs le) ∙ append-nil out) ∙ h

pub events_more : (es : List Event) (i : ℕ) (x : Event) (out new all : List ℕ) → i < length es → x ≡ get_or es i x → new ≡ out ++ event_line x → out ++ event_lines (drop i es) ≡ all
    → new ++ event_lines (drop (i + 1) es) ≡ all
unfolding event_lines
events_more es i x out new all lt is e h =
    ap (λ t. t ++ event_lines (drop (i + 1) es)) e
    ∙ (append_assoc out (event_line x) (event_lines (drop (i + 1) es))
    ∙ (sym (ap (λ xs. out ++ event_lines xs) (cut_to es i x lt is)) ∙ h))

pub events_end : (es : List Event) (i : ℕ) (out all : List ℕ) → length es ≤ i → out ++ event_lines (drop i es) ≡ all → out ≡ all
unfolding event_lines
events_end es i out all le h = sym (ap (λ xs. out ++ event_lines xs) (drop_all i es le) ∙ append-nil out) ∙ h

pub ruleset listed = (changes_more, changes_end, events_more, events_end)

lines_join : (xs ys : List Event) → event_lines (xs ++ ys) ≡ event_lines xs ++ event_lines ys
unfolding event_lines
lines_join [] ys = refl
lines_join (x ∷ xs) ys = ap (λ t. event_line x ++ t) (lines_join xs ys) ∙ sym (append_assoc (event_line x) (event_lines xs) (event_lines ys))

tells_join : (xs ys : List Event) → tells (xs ++ ys) ≡ (tells xs || tells ys)
tells_join [] ys = refl
tells_join (x ∷ xs) ys = refl

-- ---- counting

abbrev pub one_if : Bool → ℕ
one_if b = if b then 1 else 0

pub count_more : (k : ChangeKind) (cs : List Change) (i : ℕ) (c : Change) (b : Bool) (n new m all : ℕ) → i < length cs → c ≡ get_or cs i c → b ≡ has_kind k c → m ≡ one_if b → new ≡ n + m → n + count_of k (drop i cs) ≡ all
    → new + count_of k (drop (i + 1) cs) ≡ all
unfolding count_of
count_more k cs i c b n new m all lt is e o w h =
    let here : count_of k (drop i cs) ≡ one_if (has_kind k c) + count_of k (drop (i + 1) cs) = ap (count_of k) (cut_to cs i c lt is) in
    let same : m ≡ one_if (has_kind k c) = o ∙ ap one_if e in
    omega (arith, here, same, w, h)

pub count_end : (k : ChangeKind) (cs : List Change) (i n all : ℕ) → length cs ≤ i → n + count_of k (drop i cs) ≡ all → n ≡ all
unfolding count_of
count_end k cs i n all le h =
    let none : count_of k (drop i cs) ≡ 0 = ap (count_of k) (drop_all i cs le) in
    omega (arith, none, h)

pub one_small : (b : Bool) (m : ℕ) → m ≡ one_if b → m ≤ 1
one_small true m e = omega (arith, e)
one_small false m e = omega (arith, e)

pub ruleset counted = (count_more, count_end, one_small)

abbrev read_by : Option (List ℕ) → ℕ
read_by o = elim o [ Some bytes ↦ 1 | None ↦ 0 ]

read_if : (o : Option (List ℕ)) → one_if (is_some o) ≡ read_by o
read_if (Some b) = refl
read_if None = refl

pub read_more : (fs : State) (i : ℕ) (f : KeptFile) (b : Bool) (n new m all : ℕ) → i < length fs → f ≡ get_or fs i f → b ≡ is_some f.bytes → m ≡ one_if b → new ≡ n + m → n + count_read_in (drop i fs) ≡ all
    → new + count_read_in (drop (i + 1) fs) ≡ all
unfolding count_read_in
read_more fs i f b n new m all lt is e o w h =
    let here : count_read_in (drop i fs) ≡ read_by f.bytes + count_read_in (drop (i + 1) fs) = ap count_read_in (cut_to fs i f lt is) in
    let same : m ≡ read_by f.bytes = o ∙ (ap one_if e ∙ read_if f.bytes) in
    omega (arith, here, same, w, h)

pub read_end : (fs : State) (i n all : ℕ) → length fs ≤ i → n + count_read_in (drop i fs) ≡ all → n ≡ all
unfolding count_read_in
read_end fs i n all le h =
    let none : count_read_in (drop i fs) ≡ 0 = ap count_read_in (drop_all i fs le) in
    omega (arith, none, h)

pub ruleset read = (read_more, read_end, one_small)

-- ---- the whole report

pub head_is : (old : List ℕ) (asked : Asked) (r : Ran)
    → ((old ++ text_line (codes "recipe") asked.recipe) ++ number_line (codes "cycles") r.cycles) ++ number_line (codes "files") (count_read_in r.first) ≡ old ++ head_lines asked r
unfolding head_lines
head_is old asked r = more old _ _ (number_line (codes "files") (count_read_in r.first)) (append_assoc old (text_line (codes "recipe") asked.recipe) (number_line (codes "cycles") r.cycles))

pub counts_are : (old : List ℕ) (cs : List Change)
    → ((old ++ number_line (codes "changed") (count_of kind.Changed cs)) ++ number_line (codes "created") (count_of kind.Created cs)) ++ number_line (codes "removed") (count_of kind.Removed cs) ≡ old ++ count_lines cs
unfolding count_lines
counts_are old cs = more old _ _ (number_line (codes "removed") (count_of kind.Removed cs)) (append_assoc old (number_line (codes "changed") (count_of kind.Changed cs)) (number_line (codes "created") (count_of kind.Created cs)))

report_is : (asked : Asked) (r : Ran) (cs : List Change) (os es : List Event) → cs ≡ changes r.first r.last → r.events ≡ os ++ es
    → ((((head_lines asked r ++ count_lines cs) ++ change_lines cs) ++ event_lines os) ++ event_lines es) ++ still_line r.still_changing ≡ report asked r
unfolding report
report_is asked r cs os es e v =
    ap (λ t. t ++ still_line r.still_changing)
    (append_assoc ((head_lines asked r ++ count_lines cs) ++ change_lines cs) (event_lines os) (event_lines es)
    ∙ (ap (λ t. ((head_lines asked r ++ count_lines cs) ++ change_lines cs) ++ t) (sym (lines_join os es) ∙ ap event_lines (sym v))
    ∙ ap (λ c. ((head_lines asked r ++ count_lines c) ++ change_lines c) ++ event_lines r.events) e))

-- the texts after each part of a report
module _ (asked : Asked) (r : Ran) (cs : List Change) (os es : List Event) (t0 t1 t2 t3 t4 t5 t6 : List ℕ) where
  pub report_by : t0 ≡ [] → t1 ≡ t0 ++ head_lines asked r → t2 ≡ t1 ++ count_lines cs → t3 ≡ t2 ++ change_lines cs → t4 ≡ t3 ++ event_lines os → t5 ≡ t4 ++ event_lines es
      → t6 ≡ t5 ++ still_line r.still_changing → cs ≡ changes r.first r.last → r.events ≡ os ++ es → t6 ≡ report asked r
  report_by e0 e1 e2 e3 e4 e5 e6 e v =
      e6 ∙ (ap (λ t. t ++ still_line r.still_changing) (e5 ∙ ap (λ t. t ++ event_lines es) (e4
      ∙ ap (λ t. t ++ event_lines os) (e3 ∙ ap (λ t. t ++ change_lines cs) (e2 ∙ ap (λ t. t ++ count_lines cs) (e1 ∙ ap (λ t. t ++ head_lines asked r) e0)))))
      ∙ report_is asked r cs os es e v)

pub all_tell : (os es : List Event) (any : Bool) → any ≡ tells os → (any || tells es) ≡ tells (os ++ es)
all_tell os es any e = ap (λ b. b || tells es) e ∙ sym (tells_join os es)

pub empty_tells : (es : List Event) (b : Bool) → b ≡ not (tells es) → not b ≡ tells es
empty_tells [] b e = ap not e
empty_tells (x ∷ es) b e = ap not e

pub ruleset whole = (head_is, counts_are, all_tell, empty_tells)
