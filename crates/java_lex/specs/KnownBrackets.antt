-- What the code knows of brackets behind a leaf.
use Rattle.std.specs.Prelude.{◌≡◌, ◌↔◌, IsTrue, ℕ, ◌<◌, Bool, true, false, Option, Some, None, List}
use Rattle.std.specs.Prelude.{slice_index_or}
use Rattle.java_lex.specs.declared.brackets.Brackets.{Brackets}
use Rattle.java_lex.specs.Marks.{IsBalanced, EndsAsDeclaration, ParenClosesAt, EndsInSet}

-- The balanced leaves from leaf i on end with leaf e.
pub record OneBalanced (c : ℕ → ℕ) (i e : ℕ) : Type 0 where
  pub is : IsBalanced c i e
  pub only : (j : ℕ) → IsBalanced c i j → j ≡ e

pub record NoBalanced (c : ℕ → ℕ) (i : ℕ) : Type 0 where
  pub not : (j : ℕ) → IsBalanced c i j → ⊥

abbrev pub ToldBalanced : (ℕ → ℕ) → ℕ → Option ℕ → Type 0
ToldBalanced c i None = NoBalanced c i
ToldBalanced c i (Some e) = OneBalanced c i e

pub record NoDeclaration (c : ℕ → ℕ) (i : ℕ) : Type 0 where
  pub not : EndsAsDeclaration c i → ⊥

abbrev pub ToldWhether : (ℕ → ℕ) → ℕ → Bool → Type 0
ToldWhether c i true = EndsAsDeclaration c i
ToldWhether c i false = NoDeclaration c i

-- The first `)` from leaf i on that no `(` from there on opens is leaf e.
pub record OneClose (c : ℕ → ℕ) (i e : ℕ) : Type 0 where
  pub is : ParenClosesAt c i e
  pub only : (j : ℕ) → ParenClosesAt c i j → j ≡ e

pub record NoClose (c : ℕ → ℕ) (i : ℕ) : Type 0 where
  pub not : (j : ℕ) → ParenClosesAt c i j → ⊥

abbrev pub ToldClose : (ℕ → ℕ) → ℕ → Option ℕ → Type 0
ToldClose c i None = NoClose c i
ToldClose c i (Some e) = OneClose c i e

abbrev pub no_brackets : Brackets
no_brackets = record { end = None; leads = false; close = None; set = false }

abbrev pub brackets_at : List Brackets → ℕ → Brackets
brackets_at brackets i = slice_index_or brackets i no_brackets

pub record KnowsBrackets (c : ℕ → ℕ) (i : ℕ) (l : Brackets) : Type 0 where
  pub at_end : ToldBalanced c i l.end
  pub at_leads : ToldWhether c i l.leads
  pub at_close : ToldClose c i l.close

pub record KnowsBracketsBehind (c : ℕ → ℕ) (i : ℕ) (brackets : List Brackets) : Type 0 where
  pub behind : (k : ℕ) → i < k → KnowsBrackets c k (brackets_at brackets k)

-- whether the adjoining leaves from leaf i on end in `>=`
abbrev pub KnowsSet : (ℕ → ℕ) → (ℕ → Bool) → ℕ → Brackets → Type 0
KnowsSet c tight i l = IsTrue l.set ↔ EndsInSet c tight i
