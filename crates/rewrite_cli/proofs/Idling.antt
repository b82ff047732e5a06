-- Calls that write nothing, one after another.
use Rattle.std.proofs.Common.{◌≡◌, inl, inr, ℕ, Bool, IsTrue, arith, refl, sym, subst, ◌∙◌}
use Rattle.rw_host.specs.Crash.{Goes, Images, Leaves, Only, Same}
use Rattle.rw_host.specs.CrashLaws.{either}
use Rattle.rw_host.specs.Files.{Files}
use Rattle.rewrite_cli.specs.Moments.{Idle}

module _ {S : Type 0} (told : Bool) (is_unsynced : S → Bool) (moment : S → ℕ) (left_since : S → ℕ → Images) (image : S → Images) where
  pub idle_same : (a : S) → Idle told is_unsynced moment left_since image a a
  idle_same a = record {
    unsynced = refl;
    later = λ is. omega arith;
    nothing_else = λ is t c le left. inl left;
    now = λ is c left. left;
  }

  pub idle_call : (a b : S) → is_unsynced b ≡ is_unsynced a → (IsTrue told → Goes (moment a) (moment b) (left_since a) (left_since b) (image a) (image b) Same)
      → Idle told is_unsynced moment left_since image a b
  idle_call a b same goes =
      let now : IsTrue told → (c : Files) → image b c → image a c
      = λ is c left. let from = (goes is).follows c left in subst (image a) (sym from.1.1) from.1.0 in
      record {
        unsynced = same;
        later = λ is. (goes is).later;
        nothing_else = λ is t c le left. either (λ past. inl past) (λ there. inr (now is c there)) ((goes is).nothing_else t c le left);
        now = now;
      }

  pub idle_then : (a b c : S) → Idle told is_unsynced moment left_since image a b → Idle told is_unsynced moment left_since image b c
      → Idle told is_unsynced moment left_since image a c
  idle_then a b c one two = record {
    unsynced = two.unsynced ∙ one.unsynced;
    later = λ is. omega (arith, one.later is, two.later is);
    nothing_else = λ is t f le left.
        either (λ past. one.nothing_else is t f le past) (λ there. inr (one.now is f there))
        (two.nothing_else is t f (omega (arith, le, one.later is)) left);
    now = λ is f left. one.now is f (two.now is f left);
  }

  -- what an idle part leaves, of which every image at its start has P
  pub idle_leaves : (P : Images) (a b : S) → IsTrue told → ((c : Files) → left_since a (moment a) c → image a c) → ((c : Files) → image a c → P c)
      → Idle told is_unsynced moment left_since image a b → Leaves moment left_since image a b P P
  idle_leaves P a b is only_now holds idle = record {
    later = idle.later is;
    each = λ c left. either (λ past. holds c (only_now c past)) (holds c) (idle.nothing_else is (moment a) c (omega arith) left);
    before = λ t c le left. either (λ past. inl past) (λ there. inr (holds c there)) (idle.nothing_else is t c le left);
    now = λ c left. holds c (idle.now is c left);
  }

  -- one image stays one
  pub idle_only : (files : S → Files) (a b : S) → IsTrue told → files b ≡ files a → Only (files a) (image a) → Idle told is_unsynced moment left_since image a b → Only (files b) (image b)
  idle_only files a b is same only idle = λ c left. only c (idle.now is c left) ∙ sym same

pub ruleset idling = (idle_same, idle_call, idle_then)
