-- The choice of a method, in the words of the Java Language Specification.
use Rattle.std.specs.Prelude.{◌≡◌, ◌≢◌, ℕ, ◌≤◌, List, [], ◌∷◌, length, slice_get, Some, None}
use Rattle.std.specs.List.{AllZip}
use Rattle.dialogue.specs.Dialogue.{In}
use Rattle.jtypes.specs.World.{World}
use Rattle.jtypes.specs.Fits.{FitsStrictly, FitsLoosely}
use Rattle.jtypes.specs.Subtype.{Subtype}
use Rattle.jtypes.specs.declared.ask.Ask.TheVariants.{Class as AskClass}
use Rattle.jtypes.specs.declared.signatures.ClassKind.TheVariants.{Interface}
use Rattle.jtypes.specs.declared.signatures.Header.{Header}
use Rattle.jtypes.specs.declared.signatures.MethodSig.{MethodSig}
use Rattle.jtypes.specs.declared.types.JType.{JType}
use Rattle.jtypes.specs.declared.types.JType.TheVariants.{Class, Unknown}
use Rattle.j_overload.specs.Parameters.{parameter_types, TakesNumber, compared_count}
use Rattle.j_overload.specs.declared.argument.ArgType.{ArgType}
use Rattle.j_overload.specs.declared.argument.ArgType.TheVariants.{Known, Function}
use Rattle.j_overload.specs.declared.choice.Choice.{Choice}
use Rattle.j_overload.specs.declared.choice.Choice.TheVariants.{Method, None as NoMethod, Ambiguous}
use Rattle.j_overload.specs.declared.phase.Phase.{Phase}
use Rattle.j_overload.specs.declared.phase.Phase.TheVariants.{Strict, Loose, Variable}

-- a lambda or a method reference fits an interface, a class that isn't there, and Unknown (JLS 15.12.2.1, where the
-- interface's method isn't looked at)
pub data TakesFunction (w : World) : JType → Type 0 where
  unknown : TakesFunction w Unknown
  absent : (name : List ℕ) → w (AskClass name) ≡ None → TakesFunction w (Class name)
  interface : (name : List ℕ) (header : Header) → w (AskClass name) ≡ Some header → header.kind ≡ Interface
      → TakesFunction w (Class name)

-- an argument fits a parameter: strictly in the first phase, loosely in the others (JLS 15.12.2.2 to 15.12.2.4)
abbrev pub Fits : World → Phase → ArgType → JType → Type 0
Fits w Strict (Known a) t = FitsStrictly w a t
Fits w Loose (Known a) t = FitsLoosely w a t
Fits w Variable (Known a) t = FitsLoosely w a t
Fits w phase Function t = TakesFunction w t

-- a method is applicable in a phase (JLS 15.12.2.2 to 15.12.2.4)
pub record Applicable (w : World) (phase : Phase) (args : List ArgType) (m : MethodSig) : Type 0 where
  pub number : TakesNumber phase m (length args)
  pub fits : AllZip (Fits w phase) args (parameter_types phase m (length args))

-- m is more specific than n for k arguments: each of its types is the same as n's or a subtype of it (JLS 15.12.2.5)
unfoldable pub MoreSpecific : World → Phase → ℕ → MethodSig → MethodSig → Type 0
MoreSpecific w phase k m n =
    AllZip (Subtype w) (parameter_types phase m (compared_count k n)) (parameter_types phase n (compared_count k n))

-- the phases before a phase
abbrev pub before : Phase → List Phase
before Strict = []
before Loose = Strict ∷ []
before Variable = Strict ∷ Loose ∷ []

module _ (w : World) (candidates : List MethodSig) (args : List ArgType) where
  -- the candidate at a position is applicable in a phase
  pub record AppliesAt (phase : Phase) (i : ℕ) (m : MethodSig) : Type 0 where
    pub there : slice_get candidates i ≡ Some m
    pub applies : Applicable w phase args m

  abbrev pub NoneApplies : Phase → Type 0
  NoneApplies phase = (i : ℕ) (m : MethodSig) → AppliesAt phase i m → ⊥

  -- the first phase that has an applicable candidate
  pub record Decides (phase : Phase) : Type 0 where
    pub earlier : (p : Phase) → In p (before phase) → NoneApplies p
    pub has_one : (i : ℕ) × ((m : MethodSig) × AppliesAt phase i m)

  -- the candidate at a position is applicable, and more specific than each other one that is
  pub record MostSpecific (phase : Phase) (i : ℕ) (m : MethodSig) : Type 0 where
    pub applies : AppliesAt phase i m
    pub above : (j : ℕ) (n : MethodSig) → j ≢ i → AppliesAt phase j n → MoreSpecific w phase (length args) m n

  -- the choice: the most specific candidate of the deciding phase; of several with equal parameters the first
  pub data Chosen : Choice → Type 0 where
    method : (phase : Phase) (i : ℕ) (m : MethodSig) → Decides phase → MostSpecific phase i m
        → ((j : ℕ) (n : MethodSig) → MostSpecific phase j n → (i ≤ j) × (m.params ≡ n.params))
        → Chosen (Method i)
    none_applies : ((phase : Phase) → NoneApplies phase) → Chosen NoMethod
    none_most_specific : (phase : Phase) → Decides phase → ((i : ℕ) (m : MethodSig) → MostSpecific phase i m → ⊥)
        → Chosen Ambiguous
    unequal : (phase : Phase) (i j : ℕ) (m n : MethodSig) → Decides phase
        → MostSpecific phase i m → MostSpecific phase j n → m.params ≢ n.params → Chosen Ambiguous
