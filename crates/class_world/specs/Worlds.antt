-- The world of classes that the declared types of some files make, in three layers.
use Rattle.std.specs.Prelude.{List, [], ◌∷◌, ◌++◌, not, filter, map}
use Rattle.std.specs.List.{flat_map}
use Rattle.dialogue.specs.Dialogue.{run}
use Rattle.jtypes.specs.World.{World, name_eq, world_of}
use Rattle.jtypes.specs.declared.signatures.FieldSig.{FieldSig}
use Rattle.jtypes.specs.declared.signatures.Header.{Header}
use Rattle.jtypes.specs.declared.signatures.MethodSig.{MethodSig}
use Rattle.declared_types.specs.Signatures.{fields_of, methods_of}
use Rattle.declared_types.specs.Supertypes.{header_with, supertypes_of}
use Rattle.declared_types.specs.declared.written.DeclaredType.{DeclaredType}
use Rattle.declared_types.specs.declared.written.Skeleton.{Skeleton}

-- Headers as they are written, without supertypes: the world in which supertypes are resolved.
unfoldable pub headers_as_written : List DeclaredType → World
headers_as_written ds = world_of (map (header_with []) ds) [] []

-- headers with the supertypes that a world gives
abbrev pub headers_in : World → List DeclaredType → List Header
headers_in w ds = map (λ d. header_with (run (supertypes_of d) w) d) ds

abbrev pub headers : List DeclaredType → List Header
headers ds = headers_in (headers_as_written ds) ds

-- Headers with their supertypes: the world in which fields and methods are resolved.
unfoldable pub headers_with_supertypes : List DeclaredType → World
headers_with_supertypes ds = world_of (headers ds) [] []

abbrev pub fields_in : World → List DeclaredType → List FieldSig
fields_in w ds = flat_map (λ d. run (fields_of d) w) ds

abbrev pub methods_in : World → List DeclaredType → List MethodSig
methods_in w ds = flat_map (λ d. run (methods_of d) w) ds

-- The world of declared types: headers, fields and methods.
unfoldable pub world_of_types : List DeclaredType → World
world_of_types ds =
    let w = headers_with_supertypes ds in
    world_of (headers ds) (fields_in w ds) (methods_in w ds)

-- of two declarations of one name the first counts
abbrev pub first_of_each : List DeclaredType → List DeclaredType
first_of_each [] = []
first_of_each (d ∷ ds) = d ∷ filter (λ e. not (name_eq e.name d.name)) (first_of_each ds)

abbrev pub all_declared : List Skeleton → List DeclaredType
all_declared skeletons = flat_map (λ s. s.types) skeletons

-- The world of a repository: its files in the order of their paths, then the stubs in theirs, then the prelude.
unfoldable pub the_world : List Skeleton → List Skeleton → Skeleton → World
the_world files stubs prelude = world_of_types (first_of_each (all_declared (files ++ stubs ++ prelude ∷ [])))
