-- Primaries, from what the calls of their functions give.
use Rattle.std.proofs.Common.{◌≡◌, ℕ, List, refl}
use Rattle.std.specs.Prelude.{Option, None, Some}
use Rattle.java_lex.specs.declared.class.TheConstants as class
use Rattle.jtypes.specs.World.{World}
use Rattle.jtypes.specs.declared.types.JType.{JType}
use Rattle.jtypes.specs.declared.types.JType.TheVariants as ty
use Rattle.j_names.specs.declared.context.Frame.{Frame}
use Rattle.j_names.specs.declared.context.UnitContext.{UnitContext}
use Rattle.j_overload.specs.declared.argument.ArgType.{ArgType}
use Rattle.judging.specs.Judging.{Judging, and_then, give, Judged}
use Rattle.judging.specs.JudgingLaws.{judged_give, judged_then}
use Rattle.judging.specs.declared.log.Log.{Log}
use Rattle.declared_names.specs.Cases.{case_name}
use Rattle.expression_names.specs.Bodies.{whose_body, this_type, super_type, this_call, super_call, qualified_super}
use Rattle.expression_names.specs.Calls.{call, call_behind, constructing}
use Rattle.expression_names.specs.Primaries.{simple_name, name_behind}
use Rattle.expression_names.specs.declared.bodies.Whose.{Whose}
use Rattle.expression_names.specs.declared.denoted.Denoted.{Denoted}
use Rattle.type_positions.specs.declared.written.MeantType.{MeantType}
use Rattle.j_attrib.specs.Around.{Around, name_at}
use Rattle.j_attrib.specs.Primaries.{behind_dot, constructed, creation, label, label_or_name, name_or_call}
use Rattle.j_attrib.specs.Primaries.{name_or_call_behind, super_or_call, this_or_call}
use Rattle.j_attrib.specs.Values.{class_in, expr}
use Rattle.j_attrib.specs.declared.value.Value.{Value}
use Rattle.j_attrib.specs.declared.value.Value.TheVariants as value

-- a value is made of what a judgement gives
pub made : {A B : Type 0} (d : Judging A) (f : A → B) (w : World) (old new : Log) (x : A) → Judged d w old new x
    → Judged (and_then d (λ y. give (f y))) w old new (f x)
made d f w old new x h = judged_then d (λ y. give (f y)) w old new new x (f x) h (judged_give w new (f x))

module _ (u : Around) (cx : UnitContext) (e : cx ≡ u.context) (w : World) (old new : Log) where
  -- names, and calls of methods
  module _ (i : ℕ) (n : List ℕ) (f : n ≡ name_at u i) where
    pub named : (s : List Frame) (d : Denoted) → Judged (simple_name cx s i n) w old new d
        → Judged (name_or_call u s i None) w old new (value.Denoted d)
    unfolding name_or_call
    named s d h = made (simple_name u.context s i (name_at u i)) value.Denoted w old new d (rw (e, f) at h)

    pub called : (s : List Frame) (args : List ArgType) (t : JType) → Judged (call cx s i n args) w old new t
        → Judged (name_or_call u s i (Some args)) w old new (expr t)
    unfolding name_or_call
    called s args t h = made (call u.context s i (name_at u i) args) expr w old new t (rw (e, f) at h)

    pub named_behind : (b d : Denoted) → Judged (name_behind cx b i n) w old new d
        → Judged (name_or_call_behind u b i None) w old new (value.Denoted d)
    unfolding name_or_call_behind
    named_behind b d h = made (name_behind u.context b i (name_at u i)) value.Denoted w old new d (rw (e, f) at h)

    pub called_behind : (b : Denoted) (args : List ArgType) (t : JType) → Judged (call_behind cx b i n args) w old new t
        → Judged (name_or_call_behind u b i (Some args)) w old new (expr t)
    unfolding name_or_call_behind
    called_behind b args t h = made (call_behind u.context b i (name_at u i) args) expr w old new t (rw (e, f) at h)

  -- `this` and `super`
  module _ (i : ℕ) (s : List Frame) (whose : Whose) (f : whose ≡ whose_body cx s) where
    pub this_named : (t : JType) → t ≡ this_type whose → Judged (this_or_call u s i None) w old old (expr t)
    unfolding this_or_call
    this_named t g = rw (g, f, e) (judged_give w old (expr (this_type (whose_body u.context s))))

    pub this_called : (args : List ArgType) → Judged (this_call cx whose i args) w old new (record {})
        → Judged (this_or_call u s i (Some args)) w old new (expr ty.Void)
    unfolding this_or_call
    this_called args h =
        made (this_call u.context (whose_body u.context s) i args) (λ _. expr ty.Void) w old new (record {})
        (rw (f, e) at h)

    pub super_named : (t : JType) → Judged (super_type whose) w old new t
        → Judged (super_or_call u s i None) w old new (expr t)
    unfolding super_or_call
    super_named t h = made (super_type (whose_body u.context s)) expr w old new t (rw (f, e) at h)

    pub super_called : (args : List ArgType) → Judged (super_call cx whose i args) w old new (record {})
        → Judged (super_or_call u s i (Some args)) w old new (expr ty.Void)
    unfolding super_or_call
    super_called args h =
        made (super_call u.context (whose_body u.context s) i args) (λ _. expr ty.Void) w old new (record {})
        (rw (f, e) at h)

  -- a class is created
  pub created_class : (i : ℕ) (m : MeantType) (args : List ArgType) (k : Option (List ℕ)) → k ≡ class_in m.ty
      → Judged (constructing cx k i args) w old new (record {}) → Judged (constructed u i m args) w old new (expr m.ty)
  created_class i m args k f h =
      made (constructing u.context (class_in m.ty) i args) (λ _. expr m.ty) w old new (record {}) (rw (f, e) at h)

-- a label
pub labelled : (u : Around) (s : List Frame) (t : JType) (i : ℕ) (n : List ℕ) (w : World) (old mid new : Log)
    (k : Option JType) (v : Value) → n ≡ name_at u i → Judged (case_name t i n) w old mid k
    → Judged (label_or_name u s i k) w mid new v → Judged (label u s t i) w old new v
unfolding label
labelled u s t i n w old mid new k v e h j =
    judged_then (case_name t i (name_at u i)) (label_or_name u s i) w old mid new k v (rw e at h) j

-- `super` behind a dot
pub super_behind : (u : Around) (b : Denoted) (c i : ℕ) (vs : List Value) (w : World) (old new : Log) (t : JType)
    → c ≡ class.SUPER → Judged (qualified_super b) w old new t
    → Judged (behind_dot u b c (Some i) vs) w old new (expr t)
unfolding behind_dot
super_behind u b c i vs w old new t e h = rw e (made (qualified_super b) expr w old new t h)

-- what is created has no known type
module _ (u : Around) (w : World) (l : Log) where
  pub unwritten : (name : Option ℕ) (t rest : Value) → ((m : MeantType) → t ≡ value.Written m → ⊥)
      → Judged (creation u name t rest) w l l (expr ty.Unknown)
  unfolding creation
  unwritten None (value.Written m) rest h = absurd (h m refl)
  unwritten (Some i) (value.Written m) rest h = absurd (h m refl)
  unwritten None t rest h = judged_give w l (expr ty.Unknown)
  unwritten (Some i) t rest h = judged_give w l (expr ty.Unknown)

  pub unfinished : (name : Option ℕ) (m : MeantType) (rest : Value)
      → ((args : List ArgType) → rest ≡ value.Args args → ⊥) → ((n : ℕ) → rest ≡ value.Dims n → ⊥)
      → Judged (creation u name (value.Written m) rest) w l l (expr ty.Unknown)
  unfolding creation
  unfinished None m (value.Args args) h k = absurd (h args refl)
  unfinished None m (value.Dims n) h k = absurd (k n refl)
  unfinished (Some i) m (value.Args args) h k = absurd (h args refl)
  unfinished (Some i) m (value.Dims n) h k = absurd (k n refl)
  unfinished None m rest h k = judged_give w l (expr ty.Unknown)
  unfinished (Some i) m rest h k = judged_give w l (expr ty.Unknown)
