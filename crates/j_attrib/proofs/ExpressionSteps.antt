-- Expressions, from what the calls of their functions give.
use Rattle.std.proofs.Common.{◌≡◌, ◌∙◌, ℕ, ◌≤◌, List, [], ◌∷◌, ◌++◌, ap, append-nil, append_assoc, drop, length, refl, sym}
use Rattle.std.proofs.lemmas.List.{drop_all}
use Rattle.dialogue.specs.Told.{Told}
use Rattle.jtypes.specs.World.{World}
use Rattle.jtypes.specs.declared.ask.Ask.{Ask}
use Rattle.jtypes.specs.declared.types.JType.{JType}
use Rattle.jtypes.specs.declared.types.JType.TheVariants as ty
use Rattle.judging.specs.Judging.{Judged}
use Rattle.judging.specs.JudgingLaws.{judged_noting}
use Rattle.judging.specs.declared.log.Log.{Log}
use Rattle.judging.specs.declared.log.Note.TheVariants as note
use Rattle.operator_types.specs.Conditional.{conditional}
use Rattle.j_attrib.proofs.Steps.{after, looked}
use Rattle.operator_types.specs.declared.chain.Operation.{Operation}
use Rattle.j_attrib.specs.Expressions.{choice, lambda, locals_unknown, of_type, operations}
use Rattle.j_attrib.specs.Values.{type_in, value_at}
use Rattle.j_attrib.specs.declared.value.Value.{Value}
use Rattle.j_attrib.specs.declared.value.Value.TheVariants as value

pub chosen : (n : ℕ) (vs : List Value) (w : World) (old new : Log) (mid : List Ask) (t : JType) (v : Value)
    → Told (conditional (type_in (value_at vs 1)) (type_in (value_at vs 2))) w old.asks mid t
    → Judged (of_type n t) w (after old mid) new v → Judged (choice n vs) w old new v
unfolding choice
chosen n vs w old new mid t v h k =
    looked (conditional (type_in (value_at vs 1)) (type_in (value_at vs 2))) (of_type n) w old new mid t v h k

pub noted_lambda : (n : ℕ) (leaves : List ℕ) (w : World) (old mid new : Log)
    → mid.notes ≡ old.notes ++ note.Typed n ty.Unknown ∷ [] → mid.asks ≡ old.asks
    → new.notes ≡ mid.notes ++ locals_unknown leaves → new.asks ≡ mid.asks
    → Judged (lambda n leaves) w old new value.Function
unfolding lambda
noted_lambda n leaves w old mid new a b c d =
    let all = note.Typed n ty.Unknown ∷ locals_unknown leaves in
    judged_noting w old new all value.Function (d ∙ b)
    (c ∙ ap (λ ns. ns ++ locals_unknown leaves) a
    ∙ append_assoc old.notes (note.Typed n ty.Unknown ∷ []) (locals_unknown leaves))

-- no operator or no operand is left
none_left : (cs : List ℕ) → operations cs [] ≡ []
unfolding operations
none_left [] = refl
none_left (c ∷ cs) = refl

none_first : (ts : List JType) → operations [] ts ≡ []
unfolding operations
none_first ts = refl

pub words_over : (all whole : List Operation) (cs : List ℕ) (ts : List JType) (k : ℕ) → length cs ≤ k
    → all ++ operations (drop k cs) (drop k ts) ≡ whole → all ≡ whole
words_over all whole cs ts k h e =
    sym (append-nil all) ∙ (ap (λ os. all ++ os) (sym (ap (λ xs. operations xs (drop k ts)) (drop_all k cs h)
    ∙ none_first (drop k ts))) ∙ e)

pub operands_over : (all whole : List Operation) (cs : List ℕ) (ts : List JType) (k : ℕ) → length ts ≤ k
    → all ++ operations (drop k cs) (drop k ts) ≡ whole → all ≡ whole
operands_over all whole cs ts k h e =
    sym (append-nil all) ∙ (ap (λ os. all ++ os) (sym (ap (λ xs. operations (drop k cs) xs) (drop_all k ts h)
    ∙ none_left (drop k cs))) ∙ e)
