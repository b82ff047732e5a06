-- The kinds of files, by their paths.
use Rattle.std.specs.Prelude.{ℕ, ◌-◌, ◌==◌, Bool, false, not, ◌||◌, List, [], ◌∷◌, length, drop, codes, if◌then◌else◌}
use Rattle.std.specs.List.{list_any, slice_split}
use Rattle.std.specs.Str.{bytes_eq}
use Rattle.kept_files.specs.declared.kind.FileKind.{FileKind}
use Rattle.kept_files.specs.declared.kind.FileKind.TheVariants.{Java, Yaml, Properties, Other}

abbrev pub begins_with_dot : List ℕ → Bool
begins_with_dot [] = false
begins_with_dot (b ∷ rest) = b == 46

-- whether some part of a path begins with a dot
abbrev pub is_hidden : List ℕ → Bool
is_hidden path = list_any begins_with_dot (slice_split (λ b. b == 47) path)

-- whether a path is that of a source file: no part of it begins with a dot, and it isn't that of the recipe file
unfoldable pub is_source : List ℕ → Bool
is_source path = not (is_hidden path || bytes_eq path (codes "rewrite.yml"))

unfoldable pub ends_with : List ℕ → List ℕ → Bool
ends_with path ending = bytes_eq (drop (length path - length ending) path) ending

unfoldable pub kind_by_ending : List ℕ → FileKind
kind_by_ending path =
    if ends_with path (codes ".java") then Java
    else if ends_with path (codes ".yml") || ends_with path (codes ".yaml") then Yaml
    else if ends_with path (codes ".properties") then Properties
    else Other

-- the kind of the file at a path
unfoldable pub kind_of : List ℕ → FileKind
kind_of path = if is_source path then kind_by_ending path else Other
