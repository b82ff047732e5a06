-- Decoding, one element at a time. No public clause stands on this.
use Rattle.std.specs.Prelude.{◌≡◌, ℕ, ◌+◌, ◌<◌, ◌≤◌, List, [], ◌∷◌, ◌++◌, Option, Some, None, length, drop}
use Rattle.properties_tree.specs.Decoding.{Element, byte, code, elements_of, utf8_of}
use Rattle.properties_tree.specs.declared.decoding.Step.{Step}
use Rattle.properties_tree.specs.declared.decoding.Step.TheVariants as step

-- the elements from a place on begin with these, which are so many bytes
pub record Takes (text : List ℕ) (at size : ℕ) (front : List Element) : Type 0 where
  pub elements : elements_of (drop at text) ≡ front ++ elements_of (drop (at + size) text)
  pub some : 0 < size
  pub inside : at + size ≤ length text

abbrev pub IsStep : List ℕ → ℕ → Step → Type 0
IsStep text at (step.Byte b size) = Takes text at size (byte b ∷ [])
IsStep text at (step.Code u size) = Takes text at size (code u ∷ [])
IsStep text at step.Nothing = elements_of (drop at text) ≡ []

-- a code unit that is read, and not yet written
abbrev pub waiting_elements : Option ℕ → List Element
waiting_elements None = []
waiting_elements (Some u) = code u ∷ []

-- One code unit more: what is written and what waits are the same text as before, whatever stands behind.
abbrev pub AddsCode : List ℕ → Option ℕ → ℕ → List ℕ → Option ℕ → Type 0
AddsCode before pending u after next =
    (es : List Element) →
    before ++ utf8_of (waiting_elements pending ++ code u ∷ es) ≡ after ++ utf8_of (waiting_elements next ++ es)
