-- What a store in memory keeps of each path, and what a crash may leave after a call.
use Rattle.std.proofs.Common.{◌≡◌, ℕ, ◌<◌, ◌≤◌, Bool, true, false, cond, List, [], ◌∷◌, length, Option, Some, None, refl, sym, ap, ◌∙◌, subst, arith}
use Rattle.std.specs.Option.{IfSome, option_map}
use Rattle.std.specs.Prelude.{◌||◌, ◌==◌, nat_lt, if◌then◌else◌}
use Rattle.std.proofs.lemmas.Bool.{both_ways}
use Rattle.std.proofs.lemmas.Bool.Decides.{nat_tests}
use Rattle.std.specs.Ordering.{eq_by_cmp}
use Rattle.std.specs.FinMap as finmap
use Rattle.memory_stores.specs.declared.state.FileState.{FileState}
use Rattle.rw_host.specs.Files.{Files, SameElsewhere}
use Rattle.memory_stores.specs.States.{States, is_changed_since, state_of_write, state_of_failed_write, state_of_late_write, state_of_write_fault, state_of_failed_removal, state_of_removal_fault, state_of_late_removal, state_of_removal, change_state, insert_some, now_of}
use Rattle.memory_stores.specs.Memory.{Fits, AllFit, Record, GoesBy, now, stop_of}
use Rattle.memory_stores.specs.Table.{GivenFiles, initial_states}
use Rattle.rw_host.specs.Crash.{Goes, Same, Only}
use Rattle.memory_stores.specs.Images.{IsImage, LeftBy, Stage, moment_of, moments}
use Rattle.memory_stores.specs.Past.{IsEarly}
use Rattle.memory_stores.proofs.Images.{IsTouch, IsSync, touch_goes, sync_goes, sync_only, still_goes}
use Rattle.memory_stores.proofs.Order.{by_bytes, total, exact, ties_decide}

fits_later : (n m stop : ℕ) (o : Option FileState) → n ≤ m → IfSome o (Fits n stop) → IfSome o (Fits m stop)
fits_later n m stop None le f = tt
fits_later n m stop (Some s) le f = record { up_to = omega (arith, le, f.up_to); never_held = f.never_held; early = λ lt. f.early (omega (arith, lt, le)) }

pub all_later : (n m stop : ℕ) (states : States) → n ≤ m → AllFit n stop states → AllFit m stop states
all_later n m stop states le all path = fits_later n m stop (finmap.get states path) le (all path)

under : (n stop : ℕ) (b : Bool) (s : FileState) (o : Option FileState) → Fits n stop s → IfSome o (Fits n stop) → IfSome (cond b (Some s) o) (Fits n stop)
under n stop true s o f g = f
under n stop false s o f g = g

pub fit_insert : (n stop : ℕ) (states : States) (path : List ℕ) (s : FileState) → Fits n stop s → AllFit n stop states → AllFit n stop (finmap.insert states path s)
fit_insert n stop states path s f all q = subst (λ o. IfSome o (Fits n stop)) (sym (finmap.get-insert total states path s q)) (under n stop (eq_by_cmp by_bytes q path) s (finmap.get states q) f (all q))

pub fit_changed : (n stop : ℕ) (states : States) (path : List ℕ) (change : FileState → FileState) → ((s : FileState) → Fits n stop s → Fits n stop (change s)) → AllFit n stop states → AllFit n stop (change_state states path change)
fit_changed n stop states path change keeps all = by_state (finmap.get states path) (all path)
  where
    by_state : (o : Option FileState) → IfSome o (Fits n stop) → AllFit n stop (insert_some states path (option_map change o))
    by_state None f = all
    by_state (Some s) f = fit_insert n stop states path (change s) (keeps s f) all

pub fit_held : (n stop : ℕ) (bytes : List ℕ) → Fits n stop (state_of_write bytes n)
fit_held n stop bytes = record { up_to = omega arith; never_held = λ e. absurd (both_ways true e refl); early = λ lt. refl }

fit_touched : (n stop : ℕ) (o : Option FileState) → IfSome o (Fits n stop) → (b : Bool) → nat_lt n stop ≡ b → Fits n stop (cond b (state_of_failed_write o n) (state_of_late_write o))
fit_touched n stop None f true e = record { up_to = omega arith; never_held = λ e. refl; early = λ lt. refl }
fit_touched n stop (Some s) f true e = record { up_to = omega arith; never_held = f.never_held; early = f.early }
fit_touched n stop None f false e = record { up_to = omega arith; never_held = λ e. refl; early = λ lt. absurd (grind (arith, nat_tests, e, lt)) }
fit_touched n stop (Some s) f false e = record { up_to = f.up_to; never_held = f.never_held; early = λ lt. absurd (grind (arith, nat_tests, e, lt)) }

pub fit_touched_by : (n stop : ℕ) (o : Option FileState) → IfSome o (Fits n stop) → Fits n stop (state_of_write_fault n stop o)
fit_touched_by n stop o f = fit_touched n stop o f (nat_lt n stop) refl

-- ---- what is unsynced
later_test : (n call : ℕ) → n < call → nat_lt n call ≡ true
later_test n call lt = grind (arith, nat_tests, lt)

or_true : (a b : Bool) → a ≡ true → (a || b) ≡ true
or_true true b e = refl
or_true false b e = absurd (both_ways false refl e)

or_late : (a b : Bool) → b ≡ true → (a || b) ≡ true
or_late true b e = refl
or_late false b e = e

pub held_unsynced : (n call : ℕ) (bytes : List ℕ) → n < call → is_changed_since n (Some (state_of_write bytes call)) ≡ true
held_unsynced n call bytes lt = or_true (nat_lt n call) false (later_test n call lt)

touched_unsynced : (n call : ℕ) (o : Option FileState) (b : Bool) → n < call → is_changed_since n (Some (cond b (state_of_failed_write o call) (state_of_late_write o))) ≡ true
touched_unsynced n call None true lt = or_true (nat_lt n call) false (later_test n call lt)
touched_unsynced n call (Some s) true lt = or_true (nat_lt n call) s.late (later_test n call lt)
touched_unsynced n call None false lt = or_late (nat_lt n 0) true refl
touched_unsynced n call (Some s) false lt = or_late (nat_lt n s.changed) true refl

pub touched_by_unsynced : (n call stop : ℕ) (o : Option FileState) → n < call → is_changed_since n (Some (state_of_write_fault call stop o)) ≡ true
touched_by_unsynced n call stop o lt = touched_unsynced n call o (nat_lt call stop) lt

-- ---- a state is put at a path that is unsynced then
pub put_unsynced : (n : ℕ) (states : States) (path : List ℕ) (s : FileState) → is_changed_since n (Some s) ≡ true → is_changed_since n (finmap.get (finmap.insert states path s) path) ≡ true
put_unsynced n states path s off = ap (is_changed_since n) (finmap.get-insert total states path s path ∙ ap (λ b. cond b (Some s) (finmap.get states path)) ((ties_decide path path).1 refl)) ∙ off

put_is_touch : (old : States) (n : ℕ) (path : List ℕ) (s : FileState) → is_changed_since n (Some s) ≡ true → SameElsewhere path (now_of old) (now_of (finmap.insert old path s))
    → IsTouch path (moment_of (old, n)) (moment_of (finmap.insert old path s, n))
put_is_touch old n path s off others = record {
  others = others;
  here = put_unsynced n old path s off;
  same = λ q apart. ap (is_changed_since n) (finmap.get-insert total old path s q ∙ ap (λ b. cond b (Some s) (finmap.get old q)) apart);
}

abbrev Step : Record → (Files → Files → Type 0) → States → ℕ → List Stage → Type 0
Step old step states n past = Goes (length (moments old.past)) (length (moments past)) (LeftBy (now old ∷ moments old.past)) (LeftBy (moment_of (states, n) ∷ moments past)) (IsImage (now old)) (IsImage (moment_of (states, n))) step

pub put_goes : (old new : Record) (path : List ℕ) (s : FileState) → new.states ≡ finmap.insert old.states path s → new.synced ≡ old.synced → new.past ≡ old.past
    → is_changed_since old.synced (Some s) ≡ true → SameElsewhere path (now_of old.states) (now_of new.states) → GoesBy old new (SameElsewhere path)
put_goes old new path s states synced past off others =
    let made = touch_goes path (now old) (moment_of (finmap.insert old.states path s, old.synced)) (moments old.past) (put_is_touch old.states old.synced path s off (subst (λ st. SameElsewhere path (now_of old.states) (now_of st)) states others)) in
    subst (λ st. Step old (SameElsewhere path) st new.synced new.past) (sym states)
    (subst (λ n. Step old (SameElsewhere path) (finmap.insert old.states path s) n new.past) (sym synced)
    (subst (Step old (SameElsewhere path) (finmap.insert old.states path s) old.synced) (sym past) made))

pub still : (old new : Record) → new.states ≡ old.states → new.synced ≡ old.synced → new.past ≡ old.past → GoesBy old new Same
still old new states synced past =
    subst (λ st. Step old Same st new.synced new.past) (sym states) (subst (λ n. Step old Same old.states n new.past) (sym synced) (subst (Step old Same old.states old.synced) (sym past) (still_goes (now old) (moments old.past))))

-- ---- a sync
no_later : (n stop : ℕ) (o : Option FileState) → n < stop → IfSome o (Fits n stop) → is_changed_since n o ≡ false
no_later n stop None lt f = refl
no_later n stop (Some s) lt f = neither (nat_lt n s.changed) s.late (not_later n s.changed f.up_to) (f.early lt)
  where
    neither : (a b : Bool) → a ≡ false → b ≡ false → (a || b) ≡ false
    neither true b e g = e
    neither false b e g = g

    not_later : (n m : ℕ) → m ≤ n → nat_lt n m ≡ false
    not_later n m le = grind (arith, nat_tests, le)

pub all_synced : (n stop : ℕ) (states : States) (path : List ℕ) → n < stop → AllFit n stop states → is_changed_since n (finmap.get states path) ≡ false
all_synced n stop states path lt all = no_later n stop (finmap.get states path) lt (all path)

is_sync : (old : Record) (n stop : ℕ) → n < stop → AllFit n stop old.states → IsSync (now old) (moment_of (old.states, n))
is_sync old n stop lt all = record { files = refl; all = λ q. all_synced n stop old.states q lt all }

pub sync_goes_by : (old new : Record) (stop : ℕ) → new.states ≡ old.states → new.past ≡ (old.states, old.synced) ∷ old.past → new.synced < stop → AllFit new.synced stop old.states → GoesBy old new Same
sync_goes_by old new stop states past lt all =
    subst (λ st. Step old Same st new.synced new.past) (sym states)
    (subst (Step old Same old.states new.synced) (sym past) (sync_goes (now old) (moment_of (old.states, new.synced)) (moments old.past) (is_sync old new.synced stop lt all)))

pub sync_leaves : (old new : Record) (stop : ℕ) → new.states ≡ old.states → new.synced < stop → AllFit new.synced stop old.states → Only (now_of new.states) (IsImage (now new))
sync_leaves old new stop states lt all =
    subst (λ st. Only (now_of st) (IsImage (moment_of (st, new.synced)))) (sym states) (sync_only (now old) (moment_of (old.states, new.synced)) (is_sync old new.synced stop lt all))

pub early_from : (n stop : ℕ) (states : States) → n < stop → AllFit n stop states → IsEarly states
early_from n stop states lt all path = by_state (finmap.get states path) (all path)
  where
    by_state : (o : Option FileState) → IfSome o (Fits n stop) → IfSome o (λ s. s.late ≡ false)
    by_state None f = tt
    by_state (Some s) f = f.early lt

-- ---- the beginning
pub fit_given : (stop : ℕ) (files : GivenFiles) → AllFit 0 stop (finmap.from_entries (initial_states files))
fit_given stop [] q = subst (λ o. IfSome o (Fits 0 stop)) (sym (finmap.get-empty by_bytes q)) tt
fit_given stop (file ∷ files) q = fit_insert 0 stop (finmap.from_entries (initial_states files)) file.0 (state_of_write file.1.items 0) (fit_held 0 stop file.1.items) (fit_given stop files) q

stop_under : (b : Bool) (n : ℕ) → (b ≡ false → n ≤ 65536) → (if b then 65536 else n) ≤ 65536
stop_under true n le = omega arith
stop_under false n le = le refl

pub stop_of_le : (asked : ℕ) → stop_of asked ≤ 65536
stop_of_le asked = stop_under (asked == 0 || nat_lt 65536 asked) asked (λ e. grind (arith, nat_tests))

-- ---- a removal
fit_cond : (n stop : ℕ) (s : FileState) (b : Bool) → s.was_held ≡ b → Fits n stop s → cond b n s.changed ≤ n
fit_cond n stop s true e f = omega arith
fit_cond n stop s false e f = f.up_to

pub fit_removed : (n stop : ℕ) (s : FileState) → Fits n stop s → Fits n stop (state_of_removal s n)
fit_removed n stop s f = record { up_to = fit_cond n stop s s.was_held refl f; never_held = λ e. refl; early = f.early }

fit_marked : (n stop : ℕ) (s : FileState) → Fits n stop s → (b : Bool) → nat_lt n stop ≡ b → Fits n stop (cond b (state_of_failed_removal s n) (state_of_late_removal s))
fit_marked n stop s f true e = record { up_to = fit_cond n stop s s.was_held refl f; never_held = f.never_held; early = f.early }
fit_marked n stop s f false e = record { up_to = f.up_to; never_held = f.never_held; early = λ lt. absurd (grind (arith, nat_tests, e, lt)) }

pub fit_marked_by : (n stop : ℕ) (s : FileState) → Fits n stop s → Fits n stop (state_of_removal_fault n stop s)
fit_marked_by n stop s f = fit_marked n stop s f (nat_lt n stop) refl

under_same : {X : Type 0} (b : Bool) (x y : X) → (b ≡ true → x ≡ y) → cond b x y ≡ y
under_same true x y e = e refl
under_same false x y e = refl

insert_same : (states : States) (path : List ℕ) (s : FileState) → finmap.get states path ≡ Some s → finmap.insert states path s ≡ states
insert_same states path s found = finmap.same_map total exact _ _ (λ q. finmap.get-insert total states path s q
    ∙ under_same (eq_by_cmp by_bytes q path) (Some s) (finmap.get states q) (λ tie. sym found ∙ ap (finmap.get states) (sym ((ties_decide q path).0 tie))))

still_elsewhere : (old new : Record) (path : List ℕ) → GoesBy old new Same → GoesBy old new (SameElsewhere path)
still_elsewhere old new path goes = record { later = goes.later; nothing_else = goes.nothing_else; keeps = goes.keeps; follows = λ c is. let from = goes.follows c is in (from.0, (from.1.0, ap (λ files. finmap.remove files path) from.1.1)) }

-- a change at a path that was held makes it unsynced, and at another one it changes nothing
pub change_goes : (old new : Record) (path : List ℕ) (change : FileState → FileState) (n stop : ℕ) → new.states ≡ change_state old.states path change → new.synced ≡ old.synced → new.past ≡ old.past → AllFit n stop old.states
    → ((s : FileState) → s.was_held ≡ true → is_changed_since old.synced (Some (change s)) ≡ true) → ((s : FileState) → Fits n stop s → s.was_held ≡ false → change s ≡ s)
    → SameElsewhere path (now_of old.states) (now_of new.states) → GoesBy old new (SameElsewhere path)
change_goes old new path change n stop states synced past all state_of_write never others = by_state (finmap.get old.states path) refl (all path)
  where
    by_held : (s : FileState) → finmap.get old.states path ≡ Some s → Fits n stop s → (b : Bool) → s.was_held ≡ b → GoesBy old new (SameElsewhere path)
    by_held s found f true e = put_goes old new path (change s) (states ∙ ap (λ o. insert_some old.states path (option_map change o)) found) synced past (state_of_write s e) others
    by_held s found f false e = still_elsewhere old new path (still old new
        (states ∙ (ap (λ o. insert_some old.states path (option_map change o)) found ∙ (ap (finmap.insert old.states path) (never s f e) ∙ insert_same old.states path s found))) synced past)

    by_state : (o : Option FileState) → finmap.get old.states path ≡ o → IfSome o (Fits n stop) → GoesBy old new (SameElsewhere path)
    by_state None found f = still_elsewhere old new path (still old new (states ∙ ap (λ o. insert_some old.states path (option_map change o)) found) synced past)
    by_state (Some s) found f = by_held s found f s.was_held refl

pub removed_unsynced : (n call : ℕ) (s : FileState) → n < call → s.was_held ≡ true → is_changed_since n (Some (state_of_removal s call)) ≡ true
removed_unsynced n call s lt e = or_true (nat_lt n (cond s.was_held call s.changed)) s.late (ap (λ b. nat_lt n (cond b call s.changed)) e ∙ later_test n call lt)

pub removed_never : (n call stop : ℕ) (s : FileState) → Fits n stop s → s.was_held ≡ false → state_of_removal s call ≡ s
removed_never n call stop s f e =
    ap (λ o. record { now = o; was_held = s.was_held; changed = cond s.was_held call s.changed; late = s.late }) (sym (f.never_held e))
    ∙ ap (λ b. record { now = s.now; was_held = s.was_held; changed = cond b call s.changed; late = s.late }) e

marked_test : (n call : ℕ) (s : FileState) (b : Bool) → n < call → s.was_held ≡ true → is_changed_since n (Some (cond b (state_of_failed_removal s call) (state_of_late_removal s))) ≡ true
marked_test n call s true lt e = or_true (nat_lt n (cond s.was_held call s.changed)) s.late (ap (λ b. nat_lt n (cond b call s.changed)) e ∙ later_test n call lt)
marked_test n call s false lt e = or_late (nat_lt n s.changed) (cond s.was_held true s.late) (ap (λ b. cond b true s.late) e)

pub marked_by_unsynced : (n call stop : ℕ) (s : FileState) → n < call → s.was_held ≡ true → is_changed_since n (Some (state_of_removal_fault call stop s)) ≡ true
marked_by_unsynced n call stop s lt e = marked_test n call s (nat_lt call stop) lt e

never_test : (call : ℕ) (s : FileState) (b : Bool) → s.was_held ≡ false → cond b (state_of_failed_removal s call) (state_of_late_removal s) ≡ s
never_test call s true e = ap (λ b. record { now = s.now; was_held = s.was_held; changed = cond b call s.changed; late = s.late }) e
never_test call s false e = ap (λ b. record { now = s.now; was_held = s.was_held; changed = s.changed; late = cond b true s.late }) e

pub marked_by_never : (call stop : ℕ) (s : FileState) → s.was_held ≡ false → state_of_removal_fault call stop s ≡ s
marked_by_never call stop s e = never_test call s (nat_lt call stop) e
