-- What files stand for.
use Rattle.std.proofs.Common.{◌≡◌, inl, inr, ℕ, false, true, List, [], ◌∷◌, cond, None, if◌then◌else◌}
use Rattle.std.proofs.Common.{ap, refl, subst, sym, ◌∙◌}
use Rattle.std.proofs.lemmas.Bool.{both_ways}
use Rattle.std.specs.FinMap as map
use Rattle.rw_host.specs.CrashLaws.{either}
use Rattle.rw_host.specs.Files.{Files}
use Rattle.journal_text.specs.Changes.{Change, IsBatch, gate, journal}
use Rattle.journal_text.specs.Reading.{Reads}
use Rattle.journal_text.specs.Text.{journal_text}
use Rattle.run_journal.specs.Standing.{CallsFor, IsDamaged, IsRecovered, StandAlike, StandsFor, applied, bare}
use Rattle.run_journal.specs.Standing.{committed, finished, is_one, is_open, journal_bytes}
use Rattle.run_journal.proofs.Images.{applied_same, at_itself, bare_same, get_off, off_path, with_gate, with_journal}
use Rattle.run_journal.proofs.Order.{total}

pub damaged_none : (files repository : Files) (n : ℕ) → IsDamaged files n → StandsFor files repository → ⊥
damaged_none files repository n damaged (inl settled) = both_ways (is_open files) settled.closed damaged.opened
damaged_none files repository n damaged (inr pending) = damaged.unread pending.0 pending.1.read.reading

pub called_stands : (files : Files) (changes : List Change) → CallsFor files changes
    → StandsFor files (bare (applied changes files))
called_stands files changes (inl closed) =
    inl (record { closed = closed.0; same = ap (λ changes. bare (applied changes files)) closed.1 })
called_stands files changes (inr read) = inr (changes, record { read = read; made = refl })

-- removing the gate closes it
closed_off : (files : Files) → is_open (map.remove files gate) ≡ false
closed_off files =
    ap is_one (map.get-remove total files gate gate ∙ ap (λ b. cond b None (map.get files gate)) (at_itself gate))

bare_off : (files : Files) → bare (map.remove files gate) ≡ bare files
bare_off files = bare_same (map.remove files gate) files (λ q ng nj. off_path gate files q ng)

pub commit_closes : (changes : List Change) (files : Files) → is_open (committed changes files) ≡ false
commit_closes changes files = closed_off (applied changes (with_gate changes files))

pub commit_makes : (changes : List Change) (files : Files)
    → bare (committed changes files) ≡ bare (applied changes files)
commit_makes changes files =
    bare_off (applied changes (with_gate changes files))
    ∙ bare_same (applied changes (with_gate changes files)) (applied changes files) (λ q ng nj.
    applied_same changes (with_gate changes files) files q (λ off.
    get_off (with_journal changes files) gate (49 ∷ []) q ng ∙ get_off files journal _ q nj))

finished_closed : (changes : List Change) (files : Files) → is_open files ≡ false → finished changes files ≡ files
finished_closed changes files closed =
    ap (λ b. if b then map.remove (applied changes files) gate else files) closed

finished_open : (changes : List Change) (files : Files) → is_open files ≡ true
    → finished changes files ≡ map.remove (applied changes files) gate
finished_open changes files opened =
    ap (λ b. if b then map.remove (applied changes files) gate else files) opened

pub recovery_closes : (old new : Files) (count : ℕ) (changes : List Change) → IsRecovered old new count changes
    → is_open new ≡ false
recovery_closes old new count changes done = either
    (λ closed. ap is_open (done.made ∙ finished_closed changes old closed.0) ∙ closed.0)
    (λ read. ap is_open (done.made ∙ finished_open changes old read.opened) ∙ closed_off (applied changes old))
    done.called

pub recovery_makes : (old new : Files) (count : ℕ) (changes : List Change) → IsRecovered old new count changes
    → bare new ≡ bare (applied changes old)
recovery_makes old new count changes done = either
    (λ closed. ap bare (done.made ∙ finished_closed changes old closed.0)
    ∙ sym (ap (λ changes. bare (applied changes old)) closed.1))
    (λ read. ap bare (done.made ∙ finished_open changes old read.opened) ∙ bare_off (applied changes old))
    done.called

-- where a batch has one spelling, files stand for one repository alone
module _ (one_spelling : (a b : List Change) → IsBatch a → IsBatch b → journal_text a ≡ journal_text b → a ≡ b) where
  one_reading : (text : List ℕ) (a b : List Change) → Reads text a → Reads text b → a ≡ b
  one_reading text a b one other = one_spelling a b one.batch other.batch (sym one.whole ∙ other.whole)

  pub one_repository : (files one other : Files) → StandsFor files one → StandsFor files other → one ≡ other
  one_repository files one other (inl a) (inl b) = a.same ∙ sym b.same
  one_repository files one other (inl a) (inr b) = absurd (both_ways (is_open files) a.closed b.1.read.opened)
  one_repository files one other (inr a) (inl b) = absurd (both_ways (is_open files) b.closed a.1.read.opened)
  one_repository files one other (inr a) (inr b) =
      let same : a.0 ≡ b.0 = one_reading (journal_bytes files) a.0 b.0 a.1.read.reading b.1.read.reading in
      a.1.made ∙ (ap (λ changes. bare (applied changes files)) same ∙ sym b.1.made)

  pub alike_same : (one other repository : Files) → StandAlike one other → StandsFor one repository
      → StandsFor other repository
  alike_same one other repository alike stands =
      subst (StandsFor other) (one_repository one alike.0 repository alike.1.0 stands) alike.1.1
