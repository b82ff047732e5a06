-- One look at a class or at methods, and what is done with the answer.
use Rattle.std.proofs.Common.{◌≡◌, subst, refl, ℕ, List, [], ◌∷◌, Option, slice_get}
use Rattle.dialogue.specs.Dialogue.{ask}
use Rattle.dialogue.specs.Told.{Told, Heard}
use Rattle.dialogue.specs.ToldLaws.{told_ask}
use Rattle.jtypes.specs.World.{World, Rule, first}
use Rattle.jtypes.specs.declared.ask.Ask.{Ask}
use Rattle.jtypes.specs.declared.ask.Ask.TheVariants.{Class as AskClass, Methods as AskMethods}
use Rattle.jtypes.specs.declared.signatures.Header.{Header}
use Rattle.jtypes.specs.declared.signatures.MethodSig.{MethodSig}

module _ {A : Type 0} (w : World) (old mid new : List Ask) (r : A) where
  pub class_asked : (name : List ℕ) (k : Option Header → Rule A) (h : Option Header)
      → Heard old (AskClass name ∷ []) mid → h ≡ w (AskClass name) → Told (k h) w mid new r
      → Told (ask (AskClass name) k) w old new r
  class_asked name k h heard e t =
      told_ask (AskClass name) k w old mid new r heard (subst (λ x. Told (k x) w mid new r) e t)

  pub methods_asked : (owner name : List ℕ) (k : List MethodSig → Rule A) (ms : List MethodSig)
      → Heard old (AskMethods owner name ∷ []) mid → ms ≡ w (AskMethods owner name) → Told (k ms) w mid new r
      → Told (ask (AskMethods owner name) k) w old new r
  methods_asked owner name k ms heard e t =
      told_ask (AskMethods owner name) k w old mid new r heard (subst (λ x. Told (k x) w mid new r) e t)

-- the first of a list
pub first_is : (xs : List (List ℕ)) → slice_get xs 0 ≡ first xs
first_is [] = refl
first_is (x ∷ xs) = refl
