-- What a simple name means at a place (JLS 6.3 to 6.5, 7.5): the frames and classes around it from the innermost
-- outward, then imports and the package.
use Rattle.std.specs.Prelude.{ℕ, List, [], ◌∷◌, ◌++◌, Option, None, Some, Bool, ◌&&◌, ◌+◌, ◌-◌, not}
use Rattle.std.specs.Prelude.{filter, map, reverse, take, length, nat_eq, codes, if◌then◌else◌}
use Rattle.dialogue.specs.Dialogue.{done, bind, in_turn, first_found}
use Rattle.jtypes.specs.World.{Rule, name_eq, first}
use Rattle.jtypes.specs.declared.symbol.Symbol.{Symbol}
use Rattle.jtypes.specs.declared.symbol.Symbol.TheVariants.{Package, Kind, TypeVar, Local, Unknown}
use Rattle.j_names.specs.Walk.{is_in}
use Rattle.j_names.specs.Members.{joined, type_at, field_of, member_type_of}
use Rattle.j_names.specs.declared.context.EnclosingClass.{EnclosingClass}
use Rattle.j_names.specs.declared.context.Frame.{Frame}
use Rattle.j_names.specs.declared.context.Frame.TheVariants.{Class as ClassFrame, Declared, Local as LocalFrame}
use Rattle.j_names.specs.declared.context.Frame.TheVariants.{LocalBody, TypeParam}
use Rattle.j_names.specs.declared.context.ImportRow.{ImportRow}
use Rattle.j_names.specs.declared.context.LocalField.{LocalField}
use Rattle.j_names.specs.declared.context.UnitContext.{UnitContext}
use Rattle.j_names.specs.declared.packages.OnDemand.{OnDemand}
use Rattle.j_names.specs.declared.packages.OnDemand.TheVariants.{Nothing, One, Several}

-- finds a thing where a test holds, without a question
abbrev pub where_so : {A : Type 0} → Bool → A → Rule (Option A)
where_so t a = done (if t then Some a else None)

abbrev pub or_else : {A : Type 0} → A → Option A → A
or_else b None = b
or_else b (Some a) = a

-- the text behind the last dot
abbrev pub behind_dot : List ℕ → List ℕ → List ℕ
behind_dot so_far [] = so_far
behind_dot so_far (c ∷ cs) = behind_dot (if nat_eq c 46 then cs else so_far) cs

abbrev pub last_part : List ℕ → List ℕ
last_part name = behind_dot name name

-- the text in front of the last dot; nothing where there is none
abbrev pub front_part : List ℕ → List ℕ
front_part name = take (length name - (length (last_part name) + 1)) name

-- the top-level class around a place
abbrev pub top_around : UnitContext → Option (List ℕ)
top_around cx = first (map (λ e. e.name) cx.enclosing)

-- frames, or classes, from the innermost outward
abbrev pub outward : {A : Type 0} → List A → List A
outward xs = reverse xs

-- Types (JLS 6.4.1, 6.5.5.1)

abbrev pub inherited_type : Option (List ℕ) → List ℕ → Option (List ℕ) → Rule (Option Symbol)
inherited_type top n None = done None
inherited_type top n (Some supertype) = member_type_of top n supertype

-- in the body of a class its member types come first, and then its own name; a local class, whose name is a scope of its
-- own further out (JLS 6.3), is found and Unknown
abbrev pub type_in_frame : Option (List ℕ) → List ℕ → Frame → Rule (Option Symbol)
type_in_frame top n (LocalFrame name ty) = done None
type_in_frame top n (TypeParam name) = where_so (name_eq name n) (TypeVar n)
type_in_frame top n (ClassFrame name) =
    first_found (member_type_of top n name ∷ where_so (name_eq (last_part name) n) (Kind name) ∷ [])
type_in_frame top n (LocalBody is_anonymous supertype fields methods) = inherited_type top n supertype
type_in_frame top n (Declared name) = where_so (name_eq name n) Unknown

-- a class around the unit: its member types, its type parameters, its own name
abbrev pub type_in_class : Option (List ℕ) → List ℕ → EnclosingClass → Rule (Option Symbol)
type_in_class top n e =
    first_found (member_type_of top n e.name
    ∷ where_so (is_in e.type_params n) (TypeVar n)
    ∷ where_so (name_eq (last_part e.name) n) (Kind e.name)
    ∷ [])

-- a single import that isn't static; of two with one simple name the first counts (JLS 7.5.1)
abbrev pub imports_type : List ℕ → ImportRow → Bool
imports_type n row = not row.is_static && not row.on_demand && name_eq (last_part row.name) n

-- its type is taken without a question
abbrev pub first_kind : List ℕ → List ImportRow → Option Symbol
first_kind n rows = first (map (λ row. Kind row.name) (filter (imports_type n) rows))

-- the imports on demand that aren't static, java.lang among them (JLS 7.3, 7.5.2)
abbrev pub is_package_row : ImportRow → Bool
is_package_row row = row.on_demand && not row.is_static

unfoldable pub java_lang : List ℕ
java_lang = codes "java.lang"

abbrev pub types_on_demand : List ImportRow → List (List ℕ)
types_on_demand rows = map (λ row. row.name) (filter is_package_row rows) ++ java_lang ∷ []

-- nothing so far, one type, or several; a type that is found again, by the same package, counts once
abbrev pub and_more : OnDemand → Option Symbol → OnDemand
and_more Nothing (Some (Kind q)) = One q
and_more (One r) (Some (Kind q)) = if name_eq q r then One r else Several
and_more so_far found = so_far

abbrev pub the_one : OnDemand → Option Symbol
the_one Nothing = None
the_one (One q) = Some (Kind q)
the_one Several = None

abbrev pub look_on_demand : Option (List ℕ) → List ℕ → OnDemand → List ℕ → Rule OnDemand
look_on_demand top n so_far p = bind (type_at top (joined p n)) (λ found. done (and_more so_far found))

-- all imports on demand are asked; the type is found where exactly one has it
unfoldable pub type_on_demand : Option (List ℕ) → List ImportRow → List ℕ → Rule (Option Symbol)
type_on_demand top rows n =
    bind (in_turn (look_on_demand top n) Nothing (types_on_demand rows)) (λ all. done (the_one all))

-- the frames and classes outward; then a single import; then a type of the package; then the imports on demand
unfoldable pub type_meant : UnitContext → List Frame → List ℕ → Rule (Option Symbol)
type_meant cx frames n = first_found (
    first_found (map (type_in_frame (top_around cx) n) (outward frames))
    ∷ first_found (map (type_in_class (top_around cx) n) (outward cx.enclosing))
    ∷ done (first_kind n cx.imports)
    ∷ type_at (top_around cx) (joined cx.package n)
    ∷ type_on_demand (top_around cx) cx.imports n
    ∷ [])

-- Variables (JLS 6.4.1, 6.5.6.1)

-- a field that a local or anonymous class declares counts as a local of its type
abbrev pub declared_local : List LocalField → List ℕ → Option Symbol
declared_local fields n = first (map (λ f. Local f.ty) (filter (λ f. name_eq f.name n) fields))

abbrev pub inherited_field : Option (List ℕ) → List ℕ → Option (List ℕ) → Rule (Option Symbol)
inherited_field top n None = done None
inherited_field top n (Some supertype) = field_of top n supertype

abbrev pub variable_in_frame : Option (List ℕ) → List ℕ → Frame → Rule (Option Symbol)
variable_in_frame top n (LocalFrame name ty) = where_so (name_eq name n) (Local ty)
variable_in_frame top n (TypeParam name) = done None
variable_in_frame top n (ClassFrame name) = field_of top n name
variable_in_frame top n (LocalBody is_anonymous supertype fields methods) =
    first_found (done (declared_local fields n) ∷ inherited_field top n supertype ∷ [])
variable_in_frame top n (Declared name) = done None

-- the classes of single static imports of a name, and those of static imports on demand (JLS 7.5.3, 7.5.4)
abbrev pub is_static_of : List ℕ → ImportRow → Bool
is_static_of n row = row.is_static && not row.on_demand && name_eq (last_part row.name) n

abbrev pub is_static_on_demand : ImportRow → Bool
is_static_on_demand row = row.is_static && row.on_demand

abbrev pub static_owners : List ImportRow → List ℕ → List (List ℕ)
static_owners rows n =
    map (λ row. front_part row.name) (filter (is_static_of n) rows)
    ++ map (λ row. row.name) (filter is_static_on_demand rows)

-- the frames and classes outward; then single static imports, then static imports on demand, each in order
unfoldable pub variable_meant : UnitContext → List Frame → List ℕ → Rule (Option Symbol)
variable_meant cx frames n = first_found (
    first_found (map (variable_in_frame (top_around cx) n) (outward frames))
    ∷ first_found (map (λ e. field_of (top_around cx) n e.name) (outward cx.enclosing))
    ∷ first_found (map (field_of (top_around cx) n) (static_owners cx.imports n))
    ∷ [])

-- The three meanings (JLS 6.5.2)

unfoldable pub type_named : UnitContext → List Frame → List ℕ → Rule Symbol
type_named cx frames n = bind (type_meant cx frames n) (λ s. done (or_else Unknown s))

-- in front of a dot in a type position (6.5.4.1): a type, else a package of one part
unfoldable pub type_or_package : UnitContext → List Frame → List ℕ → Rule Symbol
type_or_package cx frames n = bind (type_meant cx frames n) (λ s. done (or_else (Package n) s))

unfoldable pub variable_named : UnitContext → List Frame → List ℕ → Rule Symbol
variable_named cx frames n = bind (variable_meant cx frames n) (λ s. done (or_else Unknown s))

-- in an expression: a variable, else a type, else a package of one part
unfoldable pub meaning_of : UnitContext → List Frame → List ℕ → Rule Symbol
meaning_of cx frames n =
    bind (first_found (variable_meant cx frames n ∷ type_meant cx frames n ∷ [])) (λ s. done (or_else (Package n) s))
