-- That a store which keeps the moments before its syncs meets the clauses on crashes.
use Rattle.std.proofs.Common.{◌≡◌, inl, inr, ℕ, Bool, true, false, cond, List, ◌∷◌, length, Option, None, Some, refl, sym, ap, ◌∙◌, arith}
use Rattle.std.proofs.lemmas.Bool.{both_ways}
use Rattle.std.specs.Ordering.{eq_by_cmp}
use Rattle.std.specs.FinMap as finmap
use Rattle.rw_host.specs.Files.{Files, SameElsewhere}
use Rattle.rw_host.specs.CrashLaws.{either}
use Rattle.rw_host.specs.Crash.{Goes, Same, Only}
use Rattle.memory_stores.specs.Images.{Moment, IsImage, LeftBy}
use Rattle.memory_stores.proofs.Order.{by_bytes, total, exact, ties_decide}

abbrev pub is_at : List ℕ → List ℕ → Bool
is_at q p = eq_by_cmp by_bytes q p

-- the files at one path may have changed, and the path counts as unsynced
pub record IsTouch (path : List ℕ) (old new : Moment) : Type 0 where
  pub others : SameElsewhere path old.files new.files
  pub here : new.is_unsynced path ≡ true
  pub same : (q : List ℕ) → is_at q path ≡ false → new.is_unsynced q ≡ old.is_unsynced q

-- all is synced
pub record IsSync (old new : Moment) : Type 0 where
  pub files : new.files ≡ old.files
  pub all : (q : List ℕ) → new.is_unsynced q ≡ false

off_path : (p : List ℕ) (c : Files) (q : List ℕ) → is_at q p ≡ false → finmap.get (finmap.remove c p) q ≡ finmap.get c q
off_path p c q off = finmap.get-remove total c p q ∙ ap (λ b. cond b None (finmap.get c q)) off

pub elsewhere : (p : List ℕ) (old new : Files) (q : List ℕ) → SameElsewhere p old new → is_at q p ≡ false → finmap.get new q ≡ finmap.get old q
elsewhere p old new q same off = sym (off_path p new q off) ∙ (ap (λ m. finmap.get m q) same ∙ off_path p old q off)

abbrev put : Files → List ℕ → Option (List ℕ) → Files
put files path None = finmap.remove files path
put files path (Some bytes) = finmap.insert files path bytes

get_put : (c : Files) (p : List ℕ) (o : Option (List ℕ)) (q : List ℕ) → finmap.get (put c p o) q ≡ cond (is_at q p) o (finmap.get c q)
get_put c p None q = finmap.get-remove total c p q
get_put c p (Some b) q = finmap.get-insert total c p b q

-- ---- a write or a removal, done or failed: no moment is added, since each image from before is one after
off_case : (path q : List ℕ) (old new : Moment) → IsTouch path old new → new.is_unsynced q ≡ false → (b : Bool) → is_at q path ≡ b → is_at q path ≡ false
off_case path q old new touch off false e = e
off_case path q old new touch off true e = absurd (both_ways (new.is_unsynced q) off (ap new.is_unsynced ((ties_decide q path).0 e) ∙ touch.here))

touch_off : (path q : List ℕ) (old new : Moment) → IsTouch path old new → new.is_unsynced q ≡ false → is_at q path ≡ false
touch_off path q old new touch off = off_case path q old new touch off (is_at q path) refl

pub touch_keeps : (path : List ℕ) (old new : Moment) (c : Files) → IsTouch path old new → IsImage old c → IsImage new c
touch_keeps path old new c touch is q off =
    let other = touch_off path q old new touch off in
    is q (sym (touch.same q other) ∙ off) ∙ sym (elsewhere path old.files new.files q touch.others other)

-- the old file put back at the path makes an image from before
pub restored : (path : List ℕ) (old : Moment) (c : Files) → Files
restored path old c = put c path (finmap.get old.files path)

here_or_not : (path q : List ℕ) (old new : Moment) (c : Files) → IsTouch path old new → IsImage new c → old.is_unsynced q ≡ false → (b : Bool) → is_at q path ≡ b → cond b (finmap.get old.files path) (finmap.get c q) ≡ finmap.get old.files q
here_or_not path q old new c touch is off true e = ap (finmap.get old.files) (sym ((ties_decide q path).0 e))
here_or_not path q old new c touch is off false e = is q (touch.same q e ∙ off) ∙ elsewhere path old.files new.files q touch.others e

restored_is : (path : List ℕ) (old new : Moment) (c : Files) → IsTouch path old new → IsImage new c → IsImage old (put c path (finmap.get old.files path))
restored_is path old new c touch is q off = get_put c path (finmap.get old.files path) q ∙ here_or_not path q old new c touch is off (is_at q path) refl

put_elsewhere : (path : List ℕ) (c : Files) (o : Option (List ℕ)) → SameElsewhere path (put c path o) c
put_elsewhere path c o = finmap.same_map total exact _ _ (λ q.
    finmap.get-remove total c path q ∙ (under (is_at q path) o (finmap.get c q) (finmap.get (put c path o) q) (get_put c path o q) ∙ sym (finmap.get-remove total (put c path o) path q)))
  where
    under : (b : Bool) (o x y : Option (List ℕ)) → y ≡ cond b o x → cond b None x ≡ cond b None y
    under true o x y e = refl
    under false o x y e = sym e

pub touch_goes : (path : List ℕ) (old new : Moment) (ms : List Moment) → IsTouch path old new
    → Goes (length ms) (length ms) (LeftBy (old ∷ ms)) (LeftBy (new ∷ ms)) (IsImage old) (IsImage new) (SameElsewhere path)
touch_goes path old new ms touch = record {
  later = omega arith;
  nothing_else = λ t c le left. either (λ is. inr is.1) (λ past. inl (inr past)) left;
  keeps = λ t c le left. either (λ is. inl (is.0, touch_keeps path old new c touch is.1)) (λ past. inr past) left;
  follows = λ c is. (put c path (finmap.get old.files path), (restored_is path old new c touch is, put_elsewhere path c (finmap.get old.files path)));
}

-- ---- a sync adds the moment before it
pub sync_goes : (old new : Moment) (ms : List Moment) → IsSync old new
    → Goes (length ms) (length (old ∷ ms)) (LeftBy (old ∷ ms)) (LeftBy (new ∷ old ∷ ms)) (IsImage old) (IsImage new) Same
sync_goes old new ms sync = record {
  later = omega arith;
  nothing_else = λ t c le left. either (λ is. inr is.1) (λ past. inl past) left;
  keeps = λ t c le left. inr left;
  follows = λ c is. (c, ((λ q off. is q (sync.all q) ∙ ap (λ files. finmap.get files q) sync.files), refl));
}

pub sync_only : (old new : Moment) → IsSync old new → Only new.files (IsImage new)
sync_only old new sync c is = finmap.same_map total exact _ _ (λ q. is q (sync.all q))

-- ---- a call that changes nothing
pub still_goes : (m : Moment) (ms : List Moment) → Goes (length ms) (length ms) (LeftBy (m ∷ ms)) (LeftBy (m ∷ ms)) (IsImage m) (IsImage m) Same
still_goes m ms = record { later = omega arith; nothing_else = λ t c le left. inl left; keeps = λ t c le left. left; follows = λ c is. (c, (is, refl)) }
