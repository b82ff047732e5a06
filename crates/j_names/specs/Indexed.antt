-- How scopes are found by name: each scope has a number, by its name or as a body, and is linked to the one before it
-- with the same number.
use Rattle.std.specs.Prelude.{◌≡◌, ◌≤◌, ◌<◌, ℕ, List, [], ◌∷◌, Option, None, Some, Bool, filter, take, drop, length}
use Rattle.std.specs.Prelude.{suc, nat_eq}
use lib.ListN.{get_or}
use Rattle.j_names.specs.declared.context.Frame.{Frame}
use Rattle.j_names.specs.declared.context.Frame.TheVariants.{Class as ClassFrame, Declared, Local as LocalFrame}
use Rattle.j_names.specs.declared.context.Frame.TheVariants.{LocalBody, TypeParam}
use Rattle.j_names.specs.declared.link.Link.{Link}

abbrev pub has_number : ℕ → Link → Bool
has_number n l = nat_eq l.number n

-- the place behind the last link with a number; 0 where there is none
pub record IsBehindLast (n : ℕ) (links : List Link) (place : ℕ) : Type 0 where
  pub within : place ≤ length links
  pub silent : filter (has_number n) (drop place links) ≡ []
  pub there : (at : ℕ) (l : Link) → place ≡ suc at → l ≡ get_or links at l → l.number ≡ n

-- the heads say it of each number, and each link of its own number before it
pub record IsChained (links : List Link) (heads : List ℕ) : Type 0 where
  pub of_heads : (n place : ℕ) → n < length heads → place ≡ get_or heads n place → IsBehindLast n links place
  pub of_numbers : (at : ℕ) (l : Link) → at < length links → l ≡ get_or links at l → l.number < length heads
  pub of_links : (at : ℕ) (l : Link) → at < length links → l ≡ get_or links at l
      → IsBehindLast l.number (take at links) l.before

-- the same for the first so many links alone
pub record IsPassed (n end : ℕ) (links : List Link) (place : ℕ) : Type 0 where
  pub within : place ≤ length links
  pub silent : filter (has_number n) (drop place (take end links)) ≡ []
  pub there : (at : ℕ) (l : Link) → place ≡ suc at → l ≡ get_or links at l → l.number ≡ n

-- the name that a scope declares; the body of a class declares none
abbrev pub declared_name : Frame → Option (List ℕ)
declared_name (LocalFrame name ty) = Some name
declared_name (TypeParam name) = Some name
declared_name (ClassFrame name) = None
declared_name (LocalBody is_anonymous supertype fields methods) = None
declared_name (Declared name) = Some name

-- bodies have the number 0
abbrev pub HasNumber : (List ℕ → Option ℕ) → Option (List ℕ) → ℕ → Type 0
HasNumber numbers None i = i ≡ 0
HasNumber numbers (Some name) i = numbers name ≡ Some i

abbrev pub AllNumbered : (List ℕ → Option ℕ) → List Frame → List ℕ → Type 0
AllNumbered numbers [] [] = Unit {0}
AllNumbered numbers (x ∷ xs) (i ∷ is) = HasNumber numbers (declared_name x) i × AllNumbered numbers xs is
AllNumbered numbers xs is = ⊥
