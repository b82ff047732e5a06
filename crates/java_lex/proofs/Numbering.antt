-- The classes are the numbers from 0 on, in order.
use Rattle.std.proofs.Common.{◌≡◌, ℕ, ◌<◌, true, eqb, length, get_or, refl, ◌∙◌, subst, arith}
use Rattle.std.proofs.lemmas.Bool.Decides.{nat_tests}
use Rattle.std.proofs.lemmas.List.{get_or_default}
use Rattle.std.specs.Prelude.{◌≢◌, AllPairs}
use Rattle.java_lex.specs.Classes.{classes}
use Rattle.java_lex.proofs.States.{all_from}
use Rattle.java_lex.proofs.Runs.{at_all}

count_is : length classes ≡ 109
unfolding classes
count_is = refl

each_is : all_from 109 0 (λ k. eqb (get_or classes k 109) k) ≡ true
unfolding classes
each_is = refl

eqb-is : (m n : ℕ) → eqb m n ≡ true → m ≡ n
eqb-is m n e = grind (arith, nat_tests)

class-is : (k d : ℕ) → k < length classes → get_or classes k d ≡ k
class-is k d h =
    get_or_default classes k d 109 h
    ∙ eqb-is (get_or classes k 109) k (at_all 109 0 (λ j. eqb (get_or classes j 109) j) each_is k (omega arith) (subst (λ n. k < n) count_is h))

pub classes-differ : AllPairs (λ a b. a ≢ b) classes
classes-differ i j d less inside same =
    let one = class-is i d (omega arith) in
    let two = class-is j d inside in
    omega arith
