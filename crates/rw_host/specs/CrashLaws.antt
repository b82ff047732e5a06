-- How what a crash may leave goes on from call to call, for the crates above.
use Rattle.std.proofs.Common.{◌≡◌, ◌⊎◌, inl, inr, ℕ, ◌≤◌, arith}
use Rattle.rw_host.specs.Files.{Files}
use Rattle.rw_host.specs.Crash.{Goes, Images, Leaves}

pub either : {A B C : Type 0} → (A → C) → (B → C) → A ⊎ B → C
either f g (inl a) = f a
either f g (inr b) = g b

module _ {S : Type 0} (moment : S → ℕ) (left_since : S → ℕ → Images) (image : S → Images) where
  -- nothing was called yet
  pub leaves_at_start : (P : Images) (s : S) → ((c : Files) → left_since s (moment s) c → image s c)
      → ((c : Files) → image s c → P c) → Leaves moment left_since image s s P P
  leaves_at_start P s only_now holds = record {
    later = omega arith;
    each = λ c left. holds c (only_now c left);
    before = λ t c le left. inl left;
    now = holds;
  }

  -- one more call
  pub leaves_then : (P : Images) (step : Files → Files → Type 0) (a b c : S)
      → Leaves moment left_since image a b P P
      → Goes (moment b) (moment c) (left_since b) (left_since c) (image b) (image c) step
      → ((d e : Files) → step d e → P d → P e)
      → Leaves moment left_since image a c P P
  leaves_then P step a b c sofar goes kept =
      let now : (e : Files) → image c e → P e
      = λ e is. let from = goes.follows e is in kept from.0 e from.1.1 (sofar.now from.0 from.1.0) in
      record {
        later = omega (arith, sofar.later, goes.later);
        each = λ e left. either (λ past. sofar.each e past) (λ is. now e is)
            (goes.nothing_else (moment a) e sofar.later left);
        before = λ t e le left. either (λ past. sofar.before t e le past) (λ is. inr (now e is))
            (goes.nothing_else t e (omega (arith, le, sofar.later)) left);
        now = now;
      }

  -- one part after another
  pub leaves_join : (P Q R : Images) (a b c : S) → Leaves moment left_since image a b P Q
      → Leaves moment left_since image b c P R → Leaves moment left_since image a c P R
  leaves_join P Q R a b c one two = record {
    later = omega (arith, one.later, two.later);
    each = λ e left. either (λ past. one.each e past) (λ is. is) (two.before (moment a) e one.later left);
    before = λ t e le left. either (λ past. one.before t e le past) (λ is. inr is)
        (two.before t e (omega (arith, le, one.later)) left);
    now = two.now;
  }

  pub leaves_weaker : (P Q P' Q' : Images) (a b : S) → Leaves moment left_since image a b P Q
      → ((c : Files) → P c → P' c) → ((c : Files) → Q c → Q' c) → Leaves moment left_since image a b P' Q'
  leaves_weaker P Q P' Q' a b old p q = record {
    later = old.later;
    each = λ c left. p c (old.each c left);
    before = λ t c le left. either (λ past. inl past) (λ is. inr (p c is)) (old.before t c le left);
    now = λ c is. q c (old.now c is);
  }
