-- Equations of bits.
use Rattle.std.proofs.Common.{◌≡◌, Bool, true, false, not, ◌&&◌, ◌||◌, refl}
use Rattle.std.specs.Prelude.{if◌then◌else◌}

pub or_false : (a : Bool) → a || false ≡ a
or_false true = refl
or_false false = refl

pub or_twice : (a : Bool) → a || a ≡ a
or_twice true = refl
or_twice false = refl

pub or_turned : (a b : Bool) → a || b ≡ b || a
or_turned true true = refl
or_turned true false = refl
or_turned false true = refl
or_turned false false = refl

-- the last of three comes second
pub last_second : (a b c : Bool) → (a || b) || c ≡ (a || c) || b
last_second true b c = refl
last_second false b true = or_true b
  where
    or_true : (a : Bool) → a || true ≡ true
    or_true true = refl
    or_true false = refl
last_second false b false = or_false b

pub two_turned : (a b c : Bool) → (a || b) || c ≡ a || (c || b)
two_turned true b c = refl
two_turned false b c = or_turned b c

-- ---- one place more

pub any_ends : (m c a : Bool) → (m && a) || (c && a) ≡ (m || c) && a
any_ends true true a = or_twice a
any_ends true false a = or_false a
any_ends false c a = refl

pub any_steps : (m c a e : Bool) → (m && (a || e)) || (c && (a || e)) ≡ ((m || c) && a) || ((m || c) && e)
any_steps true true a e = or_twice (a || e)
any_steps true false a e = or_false (a || e)
any_steps false true a e = refl
any_steps false false a e = refl

pub one_ends : (m c a : Bool) → (m && false) || (c && a) ≡ c && a
one_ends true c a = refl
one_ends false c a = refl

pub character_steps : (k m c a f : Bool) → (m && a) || (c && (if k then a else f)) ≡ ((c && not k) && f) || ((m || (c && k)) && a)
character_steps true true true a f = or_twice a
character_steps true true false a f = or_false a
character_steps true false true a f = refl
character_steps true false false a f = refl
character_steps false true true a f = or_turned a f
character_steps false true false a f = or_false a
character_steps false false true a f = sym_or f
  where
    sym_or : (b : Bool) → b ≡ b || false
    sym_or true = refl
    sym_or false = refl
character_steps false false false a f = refl

pub byte_steps : (m c e g f : Bool) → (m && (e && g)) || (c && f) ≡ (c && f) || ((e && m) && g)
byte_steps true c true g f = or_turned g (c && f)
byte_steps true c false g f = or_turned false (c && f)
byte_steps false c true g f = or_turned false (c && f)
byte_steps false c false g f = or_turned false (c && f)

pub part_steps : (m c e g f : Bool) → (m && (e && g)) || (c && f) ≡ (c && f) || ((m && e) && g)
part_steps true c e g f = or_turned (e && g) (c && f)
part_steps false c e g f = or_turned false (c && f)
