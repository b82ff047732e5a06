-- Which frames may have a thing of a name.
use Rattle.std.specs.Prelude.{◌≡◌, ◌<◌, ℕ, List, [], Option, None, Some, Bool, true, filter, take, drop, zero, suc}
use Rattle.jtypes.specs.World.{name_eq}
use Rattle.j_names.specs.declared.context.Frame.{Frame}
use Rattle.j_names.specs.declared.context.Frame.TheVariants.{Class as ClassFrame, Declared, Local as LocalFrame}
use Rattle.j_names.specs.declared.context.Frame.TheVariants.{LocalBody, TypeParam}

-- it declares the name, or is the body of a class
abbrev pub matters : List ℕ → Frame → Bool
matters n (LocalFrame name ty) = name_eq name n
matters n (TypeParam name) = name_eq name n
matters n (ClassFrame name) = true
matters n (LocalBody is_anonymous supertype fields methods) = true
matters n (Declared name) = name_eq name n

-- the last of the first so many frames that may have it is at this place, or there is none
abbrev pub behind : Option ℕ → ℕ
behind None = zero
behind (Some at) = suc at

pub record IsLastBefore (n : List ℕ) (end : ℕ) (frames : List Frame) (place : Option ℕ) : Type 0 where
  pub within : (at : ℕ) → place ≡ Some at → at < end
  pub silent : filter (matters n) (drop (behind place) (take end frames)) ≡ []
