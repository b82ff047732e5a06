-- A store in memory that keeps a record of its calls.
use Rattle.std.specs.Prelude.{◌≡◌, ℕ, ◌+◌, ◌-◌, ◌^◌, ◌<◌, ◌≤◌, Bool, false, IsTrue, min, nat_lt, not, ◌==◌, ◌||◌}
use Rattle.std.specs.Prelude.{None, List, ◌∷◌, length, if◌then◌else◌, refl}
use Rattle.std.specs.List.{list_any}
use Rattle.std.specs.Option.{IfSome}
use Rattle.std.specs.Coded.{Coded, code_by, coded×, coded_ℕ, coded_bool, coded_list}
use Rattle.std.specs.FinMap as finmap
use Rattle.rw_host.specs.Files.{Files}
use Rattle.rw_host.specs.Crash.{Goes, Images}
use Rattle.memory_stores.specs.States.{States, states_code, is_changed_since}
use Rattle.memory_stores.specs.Images.{Moment, IsImage, LeftBy, Stage, moment_of, moments}
use Rattle.memory_stores.specs.Log.{stage_code}
use Rattle.memory_stores.specs.declared.state.FileState.{FileState}

-- What is known of each path, and what the syncs found and the store began with, the last first. For how many writes
-- there is room, and how many calls' traces. Which calls are to fail and from which on all do, how many calls there
-- were, which was the last sync that succeeded, whether a write or a removal came after it, and how many calls have
-- failed.
pub record Record : Type 0 where
  pub states : States
  pub past : List Stage
  pub spare : ℕ
  pub room : ℕ
  pub fail : List ℕ
  pub stop : ℕ
  pub calls : ℕ
  pub synced : ℕ
  pub is_unsynced : Bool
  pub read_faults : ℕ
  pub write_faults : ℕ

abbrev Numbers : Type 0
Numbers = ℕ × (ℕ × (ℕ × (Bool × (ℕ × ℕ))))

abbrev numbers_code : Coded Numbers
numbers_code =
    coded× coded_ℕ (coded× coded_ℕ (coded× coded_ℕ (coded× coded_bool (coded× coded_ℕ coded_ℕ))))

abbrev pub record_code : Coded Record
record_code =
    code_by (States × (List Stage × (ℕ × (ℕ × (List ℕ × Numbers)))))
    (coded× states_code (coded× (coded_list stage_code) (coded× coded_ℕ (coded× coded_ℕ
    (coded× (coded_list coded_ℕ) numbers_code)))))
    (λ r. (
      r.states,
      (
        r.past,
        (
          r.spare,
          (
            r.room,
            (
              r.fail,
              (r.stop, (r.calls, (r.synced, (r.is_unsynced, (r.read_faults, r.write_faults))))),
            ),
          ),
        ),
      ),
    ))
    (λ p. record {
      states = p.0;
      past = p.1.0;
      spare = p.1.1.0;
      room = p.1.1.1.0;
      fail = p.1.1.1.1.0;
      stop = p.1.1.1.1.1.0;
      calls = p.1.1.1.1.1.1.0;
      synced = p.1.1.1.1.1.1.1.0;
      is_unsynced = p.1.1.1.1.1.1.1.1.0;
      read_faults = p.1.1.1.1.1.1.1.1.1.0;
      write_faults = p.1.1.1.1.1.1.1.1.1.1;
    })
    (λ _. refl)

-- the number of the call that comes next. Numbers stand still at the end of their type, far behind the last stop
abbrev pub next_call : Record → ℕ
next_call s = min (s.calls + 1) (2 ^ 32 - 1)

-- whether that call is to fail
abbrev pub is_to_fail : Record → Bool
is_to_fail s = list_any (λ n. n == next_call s) s.fail || not (nat_lt (next_call s) s.stop)

-- from which call on all fail, where this one was asked for
abbrev pub stop_of : ℕ → ℕ
stop_of asked = if asked == 0 || nat_lt 65536 asked then 65536 else asked

-- a count of faults after a call
abbrev pub count_after : Bool → ℕ → ℕ
count_after fails count = if fails then min (count + 1) (2 ^ 64 - 1) else count

-- which calls are to fail stays, and one call is over
pub record IsNextCall (old new : Record) : Type 0 where
  pub calls : new.calls ≡ next_call old
  pub fail : new.fail ≡ old.fail
  pub stop : new.stop ≡ old.stop

-- what holds of the state of a path after so many calls
pub record Fits (calls stop : ℕ) (state : FileState) : Type 0 where
  pub up_to : state.changed ≤ calls
  pub never_held : state.was_held ≡ false → state.now ≡ None
  pub early : calls < stop → state.late ≡ false

abbrev pub AllFit : ℕ → ℕ → States → Type 0
AllFit calls stop states = (path : List ℕ) → IfSome (finmap.get states path) (Fits calls stop)

-- what every such store keeps
pub record IsRecord (states : States) (stop calls synced room : ℕ) : Type 0 where
  pub each : AllFit calls stop states
  pub last_sync : synced ≤ calls
  pub sync_early : synced < 65536
  pub stop_early : stop ≤ 65536
  pub log_room : 65536 ≤ room + calls

-- the path was written or removed since the last sync that succeeded, or a call failed to do so
abbrev pub IsUnsynced : Record → List ℕ → Type 0
IsUnsynced s path = IsTrue (is_changed_since s.synced (finmap.get s.states path))

-- this moment, its number, what a crash may leave of it, and of it and those since another
abbrev pub now : Record → Moment
now s = moment_of (s.states, s.synced)

abbrev pub moment : Record → ℕ
moment s = length (moments s.past)

abbrev pub image : Record → Images
image s c = IsImage (now s) c

abbrev pub left_since : Record → ℕ → Images
left_since s t c = LeftBy (now s ∷ moments s.past) t c

-- what the clause `crash` says of a call
abbrev pub GoesBy : Record → Record → (Files → Files → Type 0) → Type 0
GoesBy old new step =
    Goes (moment old) (moment new) (left_since old) (left_since new) (image old) (image new) step
