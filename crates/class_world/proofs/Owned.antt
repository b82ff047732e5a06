-- The members of a declared type are its own.
use Rattle.std.proofs.Common.{◌≡◌, ◌∙◌, refl, sym, ap, subst, ℕ, List, [], ◌∷◌, ◌++◌, Bool, true, false, not, ◌&&◌, map}
use Rattle.std.proofs.Common.{if◌then◌else◌}
use Rattle.std.specs.List.{AllByRecursion as EachIs}
use Rattle.dialogue.specs.Dialogue.{run, bind, each, done}
use Rattle.dialogue.specs.DialogueLaws.{run-bind, run-each}
use Rattle.jtypes.specs.World.{World, Rule}
use Rattle.jtypes.specs.declared.signatures.ClassKind.{ClassKind}
use Rattle.jtypes.specs.declared.signatures.ClassKind.TheVariants.{Class, Interface, Enum, Annotation}
use Rattle.jtypes.specs.declared.signatures.FieldSig.{FieldSig}
use Rattle.jtypes.specs.declared.signatures.MethodSig.{MethodSig}
use Rattle.jtypes.specs.declared.types.JType.{JType}
use Rattle.declared_types.specs.Erasure.{body_of, context_inside, scope_of}
use Rattle.declared_types.specs.Signatures.{fields_of, methods_of, field_in, field_with, method_of, method_with}
use Rattle.declared_types.specs.Signatures.{plain_written, param_written, enum_methods, default_constructor}
use Rattle.declared_types.specs.Signatures.{has_constructors, declares_constructor}
use Rattle.declared_types.specs.declared.written.DeclaredType.{DeclaredType}
use Rattle.declared_types.specs.declared.written.WrittenField.{WrittenField}
use Rattle.declared_types.specs.declared.written.WrittenMethod.{WrittenMethod}

each-map : {A B : Type 0} (P : B → Type 0) (f : A → B) → ((x : A) → P (f x)) → (xs : List A) → EachIs P (map f xs)
each-map P f h [] = tt
each-map P f h (x ∷ xs) = (h x, each-map P f h xs)

each-append : {A : Type 0} (P : A → Type 0) (xs ys : List A) → EachIs P xs → EachIs P ys → EachIs P (xs ++ ys)
each-append P [] ys h k = k
each-append P (x ∷ xs) ys h k = (h.0, each-append P xs ys h.1 k)

module _ (d : DeclaredType) (w : World) where
  own_field : (f : WrittenField) → (run (field_in d.name (scope_of [] (context_inside d)) f) w).owner ≡ d.name
  own_field f =
      ap (λ (s : FieldSig). s.owner)
      (run-bind (plain_written d.name (scope_of [] (context_inside d)) f.ty) (λ t. done (field_with d.name f t)) w)

  pub fields_owned : EachIs (λ f. f.owner ≡ d.name) (run (fields_of d) w)
  unfolding fields_of
  fields_owned =
      subst (EachIs (λ (f : FieldSig). f.owner ≡ d.name))
      (sym (run-each (field_in d.name (scope_of [] (context_inside d))) d.fields w))
      (each-map (λ (f : FieldSig). f.owner ≡ d.name) (λ f. run (field_in d.name (scope_of [] (context_inside d)) f) w)
      own_field d.fields)

  own_method : (m : WrittenMethod) → (run (method_of (body_of d) m) w).owner ≡ d.name
  unfolding body_of
  own_method m =
      let own = scope_of m.type_params (body_of d).cx in
      let result : List JType → Rule MethodSig = λ params.
      bind (plain_written (body_of d).name own m.result) (λ t. done (method_with (body_of d).name m params t)) in
      let params = run (each (param_written (body_of d) own) m.params) w in
      ap (λ (s : MethodSig). s.owner)
      (run-bind (each (param_written (body_of d) own) m.params) result w
      ∙ run-bind (plain_written (body_of d).name own m.result) (λ t. done (method_with (body_of d).name m params t)) w)

  own_enum_methods : (k : ClassKind) → EachIs (λ (m : MethodSig). m.owner ≡ d.name) (enum_methods d k)
  own_enum_methods Enum = (refl, (refl, tt))
  own_enum_methods k = tt

  own_constructor : (b : Bool) (m : MethodSig) → m.owner ≡ d.name
      → EachIs (λ (n : MethodSig). n.owner ≡ d.name) (if b then m ∷ [] else [])
  own_constructor true m e = (e, tt)
  own_constructor false m e = tt

  declared : List MethodSig
  declared = run (each (method_of (body_of d)) d.methods) w

  own_declared : EachIs (λ (m : MethodSig). m.owner ≡ d.name) declared
  unfolding declared
  own_declared =
      subst (EachIs (λ (m : MethodSig). m.owner ≡ d.name)) (sym (run-each (method_of (body_of d)) d.methods w))
      (each-map (λ (m : MethodSig). m.owner ≡ d.name) (λ m. run (method_of (body_of d) m) w) own_method d.methods)

  pub methods_owned : EachIs (λ m. m.owner ≡ d.name) (run (methods_of d) w)
  unfolding methods_of declared
  methods_owned =
      subst (EachIs (λ (m : MethodSig). m.owner ≡ d.name))
      (sym (run-bind (each (method_of (body_of d)) d.methods)
      (λ ms. done (ms ++ enum_methods d d.kind ++ default_constructor d)) w))
      (each-append (λ (m : MethodSig). m.owner ≡ d.name) (declared ++ enum_methods d d.kind) (default_constructor d)
      (each-append (λ (m : MethodSig). m.owner ≡ d.name) declared (enum_methods d d.kind) own_declared
      (own_enum_methods d.kind))
      (own_constructor (has_constructors d.kind && not (declares_constructor d)) _ refl))
