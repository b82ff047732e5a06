use Rattle.std.proofs.Common.{◌≡◌, ◌∙◌, sym, ap, refl, List, [], ◌∷◌, Some}
use Rattle.jtypes.proofs.Equality.{true_false}
use Rattle.jtypes.specs.declared.signatures.MethodSig.{MethodSig}
use Rattle.j_names.specs.Calls.{some_of}
use Rattle.j_names.specs.declared.called.Called.TheVariants.{Methods}
use Rattle.j_names.proofs.calls.some_of.Goals as goal

some_there : (ms : List MethodSig) → (ms ≡ [] → ⊥) → Some (Methods ms) ≡ some_of ms
some_there [] h = absurd (h refl)
some_there (m ∷ ms) h = refl

pub returns-then-is_empty : goal.returns-then-is_empty
returns-then-is_empty c = sym (ap some_of (c.is_empty.ensures.0 c.if-is_empty.true))

pub returns : goal.returns
returns c = some_there c.args.methods (λ e. true_false (sym (c.is_empty.ensures.1 e) ∙ c.if-is_empty.false))
