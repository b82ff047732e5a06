-- The rules for one candidate, and for two, decide the relations.
use Rattle.std.proofs.Common.{◌≡◌, ◌∙◌, sym, ap, refl, ℕ, zero, suc, ◌+◌, ◌<◌, List, [], ◌∷◌, length, Bool, true, false, ◌&&◌, nat_lt, nat_le, Option, None, Some, eqb-true, eq-eqb, arith, replicate, if◌then◌else◌}
use Rattle.std.specs.List.{zip, list_all, AllZip}
use Rattle.std.proofs.lemmas.Bool.{ltb-true, lt-ltb, leb-true, le-leb}
use Rattle.dialogue.specs.Dialogue.{done, run}
use Rattle.jtypes.proofs.Deciding.{subtype_true, subtype_all, strict_true, strict_all, loose_true, loose_all}
use Rattle.jtypes.proofs.Equality.{true_false}
use Rattle.jtypes.specs.Subtype.{Subtype, same, subtype}
use Rattle.jtypes.specs.World.{World, Rule}
use Rattle.jtypes.specs.declared.ask.Ask.TheVariants.{Class as AskClass}
use Rattle.jtypes.specs.declared.signatures.ClassKind.{ClassKind}
use Rattle.jtypes.specs.declared.signatures.ClassKind.TheVariants.{Class as ClassClass, Interface, Enum, Annotation}
use Rattle.jtypes.specs.declared.signatures.Header.{Header}
use Rattle.jtypes.specs.declared.signatures.MethodSig.{MethodSig}
use Rattle.jtypes.specs.declared.types.JType.{JType}
use Rattle.jtypes.specs.declared.types.JType.TheVariants.{Class, Unknown}
use Rattle.j_overload.specs.Parameters.{spread, parameter_types, takes_number, TakesNumber, compared_count}
use Rattle.j_overload.specs.Rules.{is_interface, may_take_a_function, function_fit, argument_fit, applicable, more_specific}
use Rattle.j_overload.specs.Choices.{TakesFunction, unknown, absent, interface, Fits, Applicable, MoreSpecific}
use Rattle.j_overload.specs.declared.argument.ArgType.{ArgType}
use Rattle.j_overload.specs.declared.argument.ArgType.TheVariants.{Known, Function}
use Rattle.j_overload.specs.declared.phase.Phase.{Phase}
use Rattle.j_overload.specs.declared.phase.Phase.TheVariants.{Strict, Loose, Variable}
use Rattle.j_overload.proofs.Applying.{applicable_takes}
use Rattle.j_overload.proofs.Testing.{run-all}

pub and_both : (a b : Bool) → (a && b) ≡ true → (a ≡ true) × (b ≡ true)
and_both true b h = (refl, h)
and_both false b h = true_false (sym h)

pub both_and : (a b : Bool) → a ≡ true → b ≡ true → (a && b) ≡ true
both_and a b e f = ap (λ x. x && b) e ∙ f

interface_is : (k : ClassKind) → is_interface k ≡ true → k ≡ Interface
interface_is Interface h = refl
interface_is ClassClass h = true_false (sym h)
interface_is Enum h = true_false (sym h)
interface_is Annotation h = true_false (sym h)

function_true : (w : World) (t : JType) → run (function_fit t) w ≡ true → TakesFunction w t
unfolding function_fit
function_true w (Class name) h = by_answer (w (AskClass name)) refl h
  where
    by_answer : (o : Option Header) → w (AskClass name) ≡ o → may_take_a_function o ≡ true → TakesFunction w (Class name)
    by_answer None e k = absent name e
    by_answer (Some header) e k = interface name header e (interface_is header.kind k)
function_true w Unknown h = unknown
function_true w t h = true_false (sym h)

function_all : (w : World) (t : JType) → TakesFunction w t → run (function_fit t) w ≡ true
unfolding function_fit
function_all w t unknown = refl
function_all w t (absent name e) = ap may_take_a_function e
function_all w t (interface name header e k) = ap may_take_a_function e ∙ ap is_interface k

pub fit_true : (w : World) (phase : Phase) (a : ArgType) (t : JType) → run (argument_fit phase a t) w ≡ true → Fits w phase a t
unfolding argument_fit
fit_true w Strict (Known a) t h = strict_true w a t h
fit_true w Loose (Known a) t h = loose_true w a t h
fit_true w Variable (Known a) t h = loose_true w a t h
fit_true w Strict Function t h = function_true w t h
fit_true w Loose Function t h = function_true w t h
fit_true w Variable Function t h = function_true w t h

pub fit_all : (w : World) (phase : Phase) (a : ArgType) (t : JType) → Fits w phase a t → run (argument_fit phase a t) w ≡ true
unfolding argument_fit
fit_all w Strict (Known a) t h = strict_all w a t h
fit_all w Loose (Known a) t h = loose_all w a t h
fit_all w Variable (Known a) t h = loose_all w a t h
fit_all w Strict Function t h = function_all w t h
fit_all w Loose Function t h = function_all w t h
fit_all w Variable Function t h = function_all w t h

-- tests in pairs
zip_true : {A B : Type 0} (p : A → B → Bool) (R : A → B → Type 0) → ((a : A) (b : B) → p a b ≡ true → R a b) → (xs : List A) (ys : List B) → length xs ≡ length ys → list_all (λ t. p t.0 t.1) (zip xs ys) ≡ true → AllZip R xs ys
zip_true p R f [] [] e h = tt
zip_true p R f [] (y ∷ ys) e h = absurd (omega arith)
zip_true p R f (x ∷ xs) [] e h = absurd (omega arith)
zip_true p R f (x ∷ xs) (y ∷ ys) e h = let k = and_both (p x y) (list_all (λ t. p t.0 t.1) (zip xs ys)) h in (f x y k.0, zip_true p R f xs ys (omega arith) k.1)

zip_tests : {A B : Type 0} (p : A → B → Bool) (R : A → B → Type 0) → ((a : A) (b : B) → R a b → p a b ≡ true) → (xs : List A) (ys : List B) → AllZip R xs ys → list_all (λ t. p t.0 t.1) (zip xs ys) ≡ true
zip_tests p R f [] [] h = refl
zip_tests p R f [] (y ∷ ys) h = absurd h
zip_tests p R f (x ∷ xs) [] h = absurd h
zip_tests p R f (x ∷ xs) (y ∷ ys) h = both_and (p x y) (list_all (λ t. p t.0 t.1) (zip xs ys)) (f x y h.0) (zip_tests p R f xs ys h.1)

pub number_true : (phase : Phase) (m : MethodSig) (k : ℕ) → takes_number phase m k ≡ true → TakesNumber phase m k
number_true Strict m k h = eqb-true (length m.params) k h
number_true Loose m k h = eqb-true (length m.params) k h
number_true Variable m k h =
    let g = and_both m.varargs (nat_lt 0 (length m.params) && nat_le (length m.params) (k + 1)) h in
    let l = and_both (nat_lt 0 (length m.params)) (nat_le (length m.params) (k + 1)) g.1 in
    (g.0, ltb-true 0 (length m.params) l.0, leb-true (length m.params) (k + 1) l.1)

pub number_all : (phase : Phase) (m : MethodSig) (k : ℕ) → TakesNumber phase m k → takes_number phase m k ≡ true
number_all Strict m k h = eq-eqb (length m.params) k h
number_all Loose m k h = eq-eqb (length m.params) k h
number_all Variable m k (v, l, g) = both_and m.varargs _ v (both_and (nat_lt 0 (length m.params)) (nat_le (length m.params) (k + 1)) (lt-ltb 0 (length m.params) l) (le-leb (length m.params) (k + 1) g))

length-replicate : (t : JType) (k : ℕ) → length (replicate k t) ≡ k
length-replicate t zero = refl
length-replicate t (suc k) = ap suc (length-replicate t k)

length-spread : (ts : List JType) (k : ℕ) → 0 < length ts → length (spread ts k) ≡ k
length-spread [] k h = absurd (omega arith)
length-spread (t ∷ []) k h = length-replicate _ k
length-spread (t ∷ u ∷ us) zero h = refl
length-spread (t ∷ u ∷ us) (suc k) h = ap suc (length-spread (u ∷ us) k (omega arith))

pub length-types : (phase : Phase) (m : MethodSig) (k : ℕ) → takes_number phase m k ≡ true → length (parameter_types phase m k) ≡ k
unfolding parameter_types
length-types Strict m k h = eqb-true (length m.params) k h
length-types Loose m k h = eqb-true (length m.params) k h
length-types Variable m k h = length-spread m.params k ((number_true Variable m k h).1)

pub same_lengths : (phase : Phase) (m n : MethodSig) (k c : ℕ) → takes_number phase m k ≡ true → takes_number phase n k ≡ true → length (parameter_types phase m c) ≡ length (parameter_types phase n c)
unfolding parameter_types
same_lengths Strict m n k c h l = eqb-true (length m.params) k h ∙ sym (eqb-true (length n.params) k l)
same_lengths Loose m n k c h l = eqb-true (length m.params) k h ∙ sym (eqb-true (length n.params) k l)
same_lengths Variable m n k c h l = length-spread m.params c ((number_true Variable m k h).1) ∙ sym (length-spread n.params c ((number_true Variable n k l).1))

by_number : (b : Bool) (d : Rule Bool) (w : World) → b ≡ true → run (if b then d else done false) w ≡ run d w
by_number b d w e = ap (λ x. run (if x then d else done false) w) e

run-applicable : (w : World) (phase : Phase) (args : List ArgType) (m : MethodSig) → takes_number phase m (length args) ≡ true → run (applicable phase args m) w ≡ list_all (λ t. run (argument_fit phase t.0 t.1) w) (zip args (parameter_types phase m (length args)))
unfolding applicable
run-applicable w phase args m e = by_number (takes_number phase m (length args)) _ w e ∙ run-all (λ t. argument_fit phase t.0 t.1) (zip args (parameter_types phase m (length args))) w

pub applicable_true : (w : World) (phase : Phase) (args : List ArgType) (m : MethodSig) → run (applicable phase args m) w ≡ true → Applicable w phase args m
applicable_true w phase args m h =
    let n = applicable_takes phase args m w h in
    record {
      number = number_true phase m (length args) n;
      fits = zip_true (λ a t. run (argument_fit phase a t) w) (Fits w phase) (fit_true w phase) args (parameter_types phase m (length args)) (sym (length-types phase m (length args) n)) (sym (run-applicable w phase args m n) ∙ h);
    }

pub applicable_all : (w : World) (phase : Phase) (args : List ArgType) (m : MethodSig) → Applicable w phase args m → run (applicable phase args m) w ≡ true
applicable_all w phase args m h =
    run-applicable w phase args m (number_all phase m (length args) h.number)
    ∙ zip_tests (λ a t. run (argument_fit phase a t) w) (Fits w phase) (fit_all w phase) args (parameter_types phase m (length args)) h.fits

run-specific : (w : World) (phase : Phase) (k : ℕ) (m n : MethodSig) → run (more_specific phase k m n) w ≡ list_all (λ t. run (subtype t.0 t.1) w) (zip (parameter_types phase m (compared_count k n)) (parameter_types phase n (compared_count k n)))
unfolding more_specific
run-specific w phase k m n = run-all (λ t. subtype t.0 t.1) (zip (parameter_types phase m (compared_count k n)) (parameter_types phase n (compared_count k n))) w

pub specific_true : (w : World) (phase : Phase) (k : ℕ) (m n : MethodSig) → takes_number phase m k ≡ true → takes_number phase n k ≡ true → run (more_specific phase k m n) w ≡ true → MoreSpecific w phase k m n
unfolding MoreSpecific
specific_true w phase k m n e f h = zip_true (λ t u. run (subtype t u) w) (Subtype w) (subtype_true w) (parameter_types phase m (compared_count k n)) (parameter_types phase n (compared_count k n)) (same_lengths phase m n k (compared_count k n) e f) (sym (run-specific w phase k m n) ∙ h)

pub specific_all : (w : World) (phase : Phase) (k : ℕ) (m n : MethodSig) → MoreSpecific w phase k m n → run (more_specific phase k m n) w ≡ true
unfolding MoreSpecific
specific_all w phase k m n h = run-specific w phase k m n ∙ zip_tests (λ t u. run (subtype t u) w) (Subtype w) (subtype_all w) (parameter_types phase m (compared_count k n)) (parameter_types phase n (compared_count k n)) h

all_same : (w : World) (ts : List JType) → AllZip (Subtype w) ts ts
all_same w [] = tt
all_same w (t ∷ ts) = (same t, all_same w ts)

-- a method is more specific than itself
pub specific_same : (w : World) (phase : Phase) (k : ℕ) (m : MethodSig) → MoreSpecific w phase k m m
unfolding MoreSpecific
specific_same w phase k m = all_same w (parameter_types phase m (compared_count k m))
