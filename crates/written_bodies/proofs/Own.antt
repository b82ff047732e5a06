-- What one node of a body gives, by its kind and the trees of its parts.
use Rattle.std.proofs.Common.{◌≡◌, ◌≢◌, ◌∙◌, ◌==◌, ℕ, List, [], Bool, true, false, if◌then◌else◌, refl, ap}
use Rattle.std.proofs.lemmas.Bool.{eq-eqb, ne_eqb}
use Rattle.rw_base.specs.declared.tree.Leaf.{Leaf}
use Rattle.rw_base.specs.declared.tree.NodeRow.{NodeRow}
use Rattle.rw_base.specs.Arena.{kind_of}
use Rattle.rw_base.specs.Laid.{kids_of}
use Rattle.rw_base.specs.Trees.{Numbered}
use Rattle.written_bodies.specs.declared.fields.WrittenField.{WrittenField}
use Rattle.written_bodies.specs.declared.kinds.TheConstants.{MEMBER, MEMBER_REST}
use Rattle.written_bodies.specs.Bodies.{is_class, name_in, classes_in, is_around_name, has_method, methods_in}
use Rattle.written_bodies.specs.Bodies.{of_each, fields_of_member, fields_in}
use Rattle.written_bodies.proofs.Gathering.{Gathers}

-- tests, by their results
when : {A : Type 0} {b : Bool} (x y : A) → b ≡ true → (if b then x else y) ≡ x
when x y e = ap (λ b. if b then x else y) e

unless : {A : Type 0} {b : Bool} (x y : A) → b ≡ false → (if b then x else y) ≡ y
unless x y e = ap (λ b. if b then x else y) e

module _ (ls : List Leaf) where
  abbrev pub own_classes : ℕ → Numbered → List ℕ
  own_classes k own = if is_class k then name_in ls own else if k == MEMBER then classes_in ls own else []

  abbrev pub own_methods : ℕ → Numbered → List ℕ
  own_methods k own =
      if is_around_name k then (if has_method own then name_in ls own else methods_in ls own) else []

  abbrev pub own_fields : ℕ → Numbered → List WrittenField
  own_fields k own =
      if k == MEMBER then fields_in ls own else if k == MEMBER_REST then fields_of_member ls own else []

  pub classes : Gathers (classes_in ls) own_classes
  classes = record { skips = λ i f. refl; adds = λ n k kids f. refl; ends = refl }

  pub methods : Gathers (methods_in ls) own_methods
  methods = record { skips = λ i f. refl; adds = λ n k kids f. refl; ends = refl }

  pub fields : Gathers (fields_in ls) own_fields
  fields = record { skips = λ i f. refl; adds = λ n k kids f. refl; ends = refl }

-- what f gives of the trees of a node of a kind
abbrev pub own_each : {A : Type 0} → ℕ → (Numbered → List A) → ℕ → Numbered → List A
own_each kind f k own = if k == kind then f own else []

pub each : {A : Type 0} (kind : ℕ) (f : Numbered → List A) → Gathers (of_each kind f) (own_each kind f)
each kind f = record { skips = λ i rest. refl; adds = λ n k kids rest. refl; ends = refl }

-- ---- node m, whose own trees are these
module _ (rows : List NodeRow) (m : ℕ) (trees : Numbered) (are : kids_of rows m ≡ trees) where
  module _ (ls : List Leaf) where
    pub of_class : is_class (kind_of rows m) ≡ true
        → own_classes ls (kind_of rows m) (kids_of rows m) ≡ name_in ls trees
    of_class e = when _ _ e ∙ ap (name_in ls) are

    pub of_classes : is_class (kind_of rows m) ≡ false → kind_of rows m ≡ MEMBER
        → own_classes ls (kind_of rows m) (kids_of rows m) ≡ classes_in ls trees
    of_classes e same = unless _ _ e ∙ (when _ _ (eq-eqb (kind_of rows m) MEMBER same) ∙ ap (classes_in ls) are)

    pub of_method : is_around_name (kind_of rows m) ≡ true → has_method trees ≡ true
        → own_methods ls (kind_of rows m) (kids_of rows m) ≡ name_in ls trees
    of_method e has = when _ _ e ∙ (when _ _ (ap has_method are ∙ has) ∙ ap (name_in ls) are)

    pub of_methods : is_around_name (kind_of rows m) ≡ true → has_method trees ≡ false
        → own_methods ls (kind_of rows m) (kids_of rows m) ≡ methods_in ls trees
    of_methods e has = when _ _ e ∙ (unless _ _ (ap has_method are ∙ has) ∙ ap (methods_in ls) are)

    pub of_fields : kind_of rows m ≡ MEMBER → own_fields ls (kind_of rows m) (kids_of rows m) ≡ fields_in ls trees
    of_fields same = when _ _ (eq-eqb (kind_of rows m) MEMBER same) ∙ ap (fields_in ls) are

    pub of_member : kind_of rows m ≢ MEMBER → kind_of rows m ≡ MEMBER_REST
        → own_fields ls (kind_of rows m) (kids_of rows m) ≡ fields_of_member ls trees
    of_member other same =
        unless _ _ (ne_eqb (kind_of rows m) MEMBER other)
        ∙ (when _ _ (eq-eqb (kind_of rows m) MEMBER_REST same) ∙ ap (fields_of_member ls) are)

  pub of_kind : {A : Type 0} (kind : ℕ) (f : Numbered → List A) → kind_of rows m ≡ kind
      → own_each kind f (kind_of rows m) (kids_of rows m) ≡ f trees
  of_kind kind f same = when _ _ (eq-eqb (kind_of rows m) kind same) ∙ ap f are

-- ---- node m, which gives nothing
module _ (rows : List NodeRow) (m : ℕ) where
  module _ (ls : List Leaf) where
    pub no_class : is_class (kind_of rows m) ≡ false → kind_of rows m ≢ MEMBER
        → own_classes ls (kind_of rows m) (kids_of rows m) ≡ []
    no_class e other = unless _ _ e ∙ unless _ _ (ne_eqb (kind_of rows m) MEMBER other)

    pub no_method : is_around_name (kind_of rows m) ≡ false
        → own_methods ls (kind_of rows m) (kids_of rows m) ≡ []
    no_method e = unless _ _ e

    pub no_field : kind_of rows m ≢ MEMBER → kind_of rows m ≢ MEMBER_REST
        → own_fields ls (kind_of rows m) (kids_of rows m) ≡ []
    no_field other more =
        unless _ _ (ne_eqb (kind_of rows m) MEMBER other) ∙ unless _ _ (ne_eqb (kind_of rows m) MEMBER_REST more)

  pub other_kind : {A : Type 0} (kind : ℕ) (f : Numbered → List A) → kind_of rows m ≢ kind
      → own_each kind f (kind_of rows m) (kids_of rows m) ≡ []
  other_kind kind f other = unless _ _ (ne_eqb (kind_of rows m) kind other)
