-- How far the reading of a journal has come.
use Rattle.std.proofs.Common.{◌≡◌, ℕ, zero, suc, ◌+◌, ◌<◌, List, [], ◌∷◌, ◌++◌, length, get_or, drop, refl, sym, ap, ◌∙◌, arith, append_assoc}
use Rattle.std.proofs.lemmas.List.{append-nil, length_push}
use Rattle.journal_text.specs.declared.batch.Entry.{Entry}
use Rattle.journal_text.specs.Changes.{Change, change_of, changes_of, Rises, AllFree, ArePaths, IsBatch}
use Rattle.journal_text.specs.Forms.{Took}
use Rattle.journal_text.specs.Parts.{MayFollow, IsEntry, last_path, Done}
use Rattle.journal_text.specs.Text.{entry_text, entries_text, head_text}

pub last_is : (entries : List Entry) (before : List ℕ) (entry : Entry) (k : ℕ) → k + 1 ≡ length entries → entry ≡ get_or entries k entry → last_path before (changes_of entries) ≡ entry.path
last_is [] before entry k len is = absurd (omega arith)
last_is (x ∷ []) before entry zero len is = ap (λ e. e.path) (sym is)
last_is (x ∷ []) before entry (suc k) len is = absurd (omega arith)
last_is (x ∷ y ∷ entries) before entry zero len is = absurd (omega arith)
last_is (x ∷ y ∷ entries) before entry (suc k) len is = last_is (y ∷ entries) x.path entry k (omega arith) is

-- ---- one change more
paths_more : (done more : List Change) → ArePaths done → ArePaths more → ArePaths (done ++ more)
paths_more [] more p q = q
paths_more (change ∷ done) more p q = (p.0, paths_more done more p.1 q)

free_more : (done more : List Change) → AllFree done → AllFree more → AllFree (done ++ more)
free_more [] more p q = q
free_more (change ∷ done) more p q = (p.0, free_more done more p.1 q)

rises_more : (before : List ℕ) (done more : List Change) → Rises before done → Rises (last_path before done) more → Rises before (done ++ more)
rises_more before [] more p q = q
rises_more before (change ∷ done) more p q = (p.0, rises_more change.0 done more p.1 q)

pub batch_more : (done : List Change) (change : Change) → IsBatch done → MayFollow (last_path [] done) change.0 → IsBatch (done ++ change ∷ [])
batch_more done change b may = record {
  paths = paths_more done (change ∷ []) b.paths (may.is_path_text, tt);
  rise = rises_more [] done (change ∷ []) b.rise (may.less, tt);
  free = free_more done (change ∷ []) b.free (may.free, tt);
}

paths_behind : (done more : List Change) → ArePaths (done ++ more) → ArePaths more
paths_behind [] more p = p
paths_behind (change ∷ done) more p = paths_behind done more p.1

free_behind : (done more : List Change) → AllFree (done ++ more) → AllFree more
free_behind [] more p = p
free_behind (change ∷ done) more p = free_behind done more p.1

rises_behind : (before : List ℕ) (done more : List Change) → Rises before (done ++ more) → Rises (last_path before done) more
rises_behind before [] more p = p
rises_behind before (change ∷ done) more p = rises_behind change.0 done more p.1

pub may_follow_done : (done more : List Change) (change : Change) → IsBatch (done ++ change ∷ more) → MayFollow (last_path [] done) change.0
may_follow_done done more change b = record {
  less = (rises_behind [] done (change ∷ more) b.rise).0;
  is_path_text = (paths_behind done (change ∷ more) b.paths).0;
  free = (free_behind done (change ∷ more) b.free).0;
}

pub entries_text-append : (done more : List Change) → entries_text (done ++ more) ≡ entries_text done ++ entries_text more
entries_text-append [] more = refl
entries_text-append (change ∷ done) more = ap (λ t. entry_text change ++ t) (entries_text-append done more) ∙ sym (append_assoc (entry_text change) (entries_text done) (entries_text more))

pub done_step : (n : ℕ) (bytes : List ℕ) (at end : ℕ) (done : List Change) (change : Change) → length done < n → Done n bytes at done → Took (IsEntry (last_path [] done)) bytes at end change → Done n bytes end (done ++ change ∷ [])
done_step n bytes at end done change lt d t = record {
  batch = batch_more done change d.batch t.spells.may;
  count = omega (arith, length_push done change);
  place = t.place;
  taken = d.taken ∙ (ap (λ l. (head_text n ++ entries_text done) ++ l) t.taken ∙ (sym (append_assoc (head_text n ++ entries_text done) t.text (drop end bytes))
      ∙ ap (λ l. l ++ drop end bytes) (append_assoc (head_text n) (entries_text done) t.text ∙ ap (λ l. head_text n ++ l) (ap (λ l. entries_text done ++ l) (t.spells.is ∙ sym (append-nil (entry_text change))) ∙ sym (entries_text-append done (change ∷ []))))));
}

pub changes_of-append : (one other : List Entry) → changes_of (one ++ other) ≡ changes_of one ++ changes_of other
changes_of-append [] other = refl
changes_of-append (entry ∷ one) other = ap (λ l. change_of entry ∷ l) (changes_of-append one other)
