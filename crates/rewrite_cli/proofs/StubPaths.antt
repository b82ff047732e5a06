-- The path of a stub is hidden: it is that of no source file.
use Rattle.std.proofs.Common.{◌≡◌, ℕ, Bool, true, false, List, [], ◌∷◌, length, take, refl, sym, subst, ◌∙◌}
use Rattle.std.proofs.lemmas.Bool.{and_parts, both_ways, eqb-true}
use Rattle.std.specs.List.{list_any, onto_first, slice_split}
use Rattle.std.specs.Prelude.{◌==◌}
use Rattle.std.specs.Str.{bytes_eq}
use Rattle.kept_files.specs.Kinds.{begins_with_dot, is_hidden, is_source, kind_of}
use Rattle.rewrite_cli.specs.Sources.{is_read}
use Rattle.rewrite_cli.specs.Stubs.{classpath, is_stub}

dot_first : (parts : List (List ℕ)) → list_any begins_with_dot (onto_first 46 parts) ≡ true
dot_first [] = refl
dot_first (part ∷ parts) = refl

hidden : (path : List ℕ) → bytes_eq (take (length classpath) path) classpath ≡ true → is_hidden path ≡ true
hidden [] e = absurd (both_ways false refl e)
hidden (b ∷ rest) e =
    let dot : b ≡ 46 = eqb-true b 46 ((and_parts _ _ e).0) in
    subst (λ c. is_hidden (c ∷ rest) ≡ true) (sym dot) (dot_first (slice_split (λ c. c == 47) rest))

pub not_source : (path : List ℕ) → is_stub path ≡ true → is_source path ≡ false
unfolding is_stub is_source
not_source path e = rw (hidden path (and_parts _ _ e).0) refl

pub not_read : (path : List ℕ) → is_stub path ≡ true → is_read path ≡ false
unfolding is_read kind_of
not_read path e = rw (not_source path e) refl
