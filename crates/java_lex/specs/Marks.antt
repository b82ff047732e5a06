-- The marks of Java's leaves: what a leaf is beyond its class, by the leaves around it. They go by segments: a segment
-- ends with `;`, `{` or `}`, or with the leaves. Here c gives the class of each leaf of one segment by its number.
use Rattle.std.specs.Prelude.{◌≡◌, ◌≢◌, ℕ, zero, suc, ◌+◌, ◌-◌, ◌<◌, ◌≤◌, ◌⊎◌, Bool, true, false, ◌||◌, ◌==◌, List, []}
use Rattle.std.specs.Prelude.{◌∷◌}
use Rattle.java_lex.specs.declared.class.TheConstants.{ID, PRIM, GREATER, GREATER_EQUAL, COMMA, DOT, BRACKET_OPEN}
use Rattle.java_lex.specs.declared.class.TheConstants.{BRACKET_CLOSE, PAREN_OPEN, PAREN_CLOSE, BRACE_OPEN, BRACE_CLOSE}
use Rattle.java_lex.specs.declared.class.TheConstants.{SEMICOLON, ASSIGN, COLON, COLON_COLON, ARROW, AT, NOT, TILDE}
use Rattle.java_lex.specs.declared.class.TheConstants.{CLASS, INTERFACE, ELSE, DO, FOR, WHILE, SWITCH, IF, TRY, CATCH}
use Rattle.java_lex.specs.declared.class.TheConstants.{SYNCHRONIZED, THIS, SUPER, NEW, VOID, INT, LONG, FLOAT, DOUBLE}
use Rattle.java_lex.specs.declared.class.TheConstants.{CHAR, STRING, BOOL, NULL, LAMBDA, LABEL, TREF, DECL, PREF, LPAR}
use Rattle.java_lex.specs.declared.class.TheConstants.{CAST, ANN, SHGT, SETGT}
use Rattle.java_lex.specs.Types.{Spans, IsTypeAt, arguments}

-- one of these classes
abbrev pub among : ℕ → List ℕ → Bool
among x [] = false
among x (y ∷ ys) = (x == y) || among x ys

-- ---- brackets

-- The first `)` from leaf i on that no `(` from there on opens is leaf j.
pub data ParenClosesAt (c : ℕ → ℕ) : ℕ → ℕ → Type 0 where
  closes : {i j : ℕ} → c i ≡ PAREN_CLOSE → i ≡ j → ParenClosesAt c i j
  closes-later : {i j : ℕ} → c i ≢ PAREN_OPEN → c i ≢ PAREN_CLOSE → ParenClosesAt c (i + 1) j → ParenClosesAt c i j
  closes-behind : {i m j : ℕ} → c i ≡ PAREN_OPEN → ParenClosesAt c (i + 1) m → ParenClosesAt c (m + 1) j
      → ParenClosesAt c i j

-- a bracket and its counterpart
abbrev pub AreBrackets : ℕ → ℕ → Type 0
AreBrackets x y = ((x ≡ PAREN_OPEN) × (y ≡ PAREN_CLOSE)) ⊎ ((x ≡ BRACKET_OPEN) × (y ≡ BRACKET_CLOSE))

-- Leaf j is a `)` or `]`, and between leaf i and it each `( )` and `[ ]` has its counterpart.
pub data IsBalanced (c : ℕ → ℕ) : ℕ → ℕ → Type 0 where
  balanced : {i j : ℕ} → (c i ≡ PAREN_CLOSE) ⊎ (c i ≡ BRACKET_CLOSE) → i ≡ j → IsBalanced c i j
  one-more : {i j : ℕ} → among (c i) (PAREN_OPEN ∷ PAREN_CLOSE ∷ BRACKET_OPEN ∷ BRACKET_CLOSE ∷ []) ≡ false
      → IsBalanced c (i + 1) j → IsBalanced c i j
  one-group : {i m j : ℕ} → AreBrackets (c i) (c m) → IsBalanced c (i + 1) m → IsBalanced c (m + 1) j → IsBalanced c i j

-- The balanced `( )` or `[ ]` that begins with leaf i ends with leaf j.
abbrev pub IsGroup : (ℕ → ℕ) → ℕ → ℕ → Type 0
IsGroup c i j = AreBrackets (c i) (c j) × IsBalanced c (i + 1) j

-- From leaf i on, balanced `( )` and `[ ]` passed over, the first of `; = ) ] { }` is `;` or `=`.
pub data EndsAsDeclaration (c : ℕ → ℕ) : ℕ → Type 0 where
  stops : {i : ℕ} → (c i ≡ SEMICOLON) ⊎ (c i ≡ ASSIGN) → EndsAsDeclaration c i
  over : {i m : ℕ} → IsGroup c i m → EndsAsDeclaration c (m + 1) → EndsAsDeclaration c i
  past : {i : ℕ}
      → among (c i) (SEMICOLON ∷ ASSIGN ∷ PAREN_CLOSE ∷ BRACKET_CLOSE ∷ BRACE_OPEN ∷ BRACE_CLOSE ∷ []) ≡ false
      → ((m : ℕ) → IsGroup c i m → ⊥) → EndsAsDeclaration c (i + 1) → EndsAsDeclaration c i

-- ---- names

-- The leaves from i on to before j are ID and any number of `.` with ID.
pub data IsPlain (c : ℕ → ℕ) : ℕ → ℕ → Type 0 where
  lone : {i j : ℕ} → c i ≡ ID → j ≡ i + 1 → IsPlain c i j
  further : {i j : ℕ} → c i ≡ ID → c (i + 1) ≡ DOT → IsPlain c (i + 2) j → IsPlain c i j

-- What stands behind a name, from leaf i on, shows that it is declared.
abbrev pub Declares : (ℕ → ℕ) → ℕ → Type 0
Declares c i =
    (among (c i) (ASSIGN ∷ SEMICOLON ∷ COLON ∷ []) ≡ true)
    ⊎ ((c i ≡ BRACKET_OPEN) × (c (i + 1) ≡ BRACKET_CLOSE))
    ⊎ ((c i ≡ COMMA) × EndsAsDeclaration c i)

-- ---- the marks, where c gives the class of each leaf of a segment and `tight` says whether its prefix is empty

-- the class of the leaf before; before the first one something like `;` stands
abbrev pub class_before : (ℕ → ℕ) → ℕ → ℕ
class_before c zero = SEMICOLON
class_before c (suc i) = c i

module _ (c : ℕ → ℕ) (tight : ℕ → Bool) where
  -- the leaf behind leaf i is `>` or `>=` and adjoins it
  abbrev pub Adjoins : ℕ → Type 0
  Adjoins i = (among (c (i + 1)) (GREATER ∷ GREATER_EQUAL ∷ []) ≡ true) × (tight (i + 1) ≡ true)

  -- the last of the adjoining leaves from leaf i on is `>=`
  pub data EndsInSet : ℕ → Type 0 where
    set : {i : ℕ} → c i ≡ GREATER_EQUAL → EndsInSet i
    next : {i : ℕ} → c i ≡ GREATER → Adjoins i → EndsInSet (i + 1) → EndsInSet i

module _ (c : ℕ → ℕ) (tight : ℕ → Bool) (i : ℕ) where
  -- the one parameter of a lambda
  abbrev pub IsLambda : Type 0
  IsLambda = (c i ≡ ID) × (c (i + 1) ≡ ARROW)

  -- a label
  abbrev pub IsLabel : Type 0
  IsLabel =
      (c i ≡ ID) × (c (i + 1) ≡ COLON)
      × ((among (class_before c i) (SEMICOLON ∷ BRACE_OPEN ∷ BRACE_CLOSE ∷ ELSE ∷ DO ∷ []) ≡ true)
      ⊎ ((class_before c i ≡ COLON)
      × (among (c (i + 2)) (FOR ∷ WHILE ∷ DO ∷ SWITCH ∷ IF ∷ TRY ∷ SYNCHRONIZED ∷ BRACE_OPEN ∷ []) ≡ true)))

  -- the first name of a type that is no expression: before `::`, or before `.` and `class`
  abbrev pub IsTref : Type 0
  IsTref =
      (c i ≡ ID) × (class_before c i ≢ DOT)
      × ((j : ℕ) × IsTypeAt c i j
      × (((IsPlain c i j → ⊥) × (c j ≡ COLON_COLON))
      ⊎ ((c (j - 1) ≡ BRACKET_CLOSE) × (c j ≡ DOT) × (c (j + 1) ≡ CLASS))))

  -- the first name of the type of a declaration
  abbrev pub IsDecl : Type 0
  IsDecl =
      (c i ≡ ID) × (among (class_before c i) (DOT ∷ AT ∷ []) ≡ false)
      × ((j : ℕ) × IsTypeAt c i j × (c j ≡ ID) × Declares c (j + 1))

  -- a primitive type in an expression: before `.` or `::`
  abbrev pub IsPref : Type 0
  IsPref = (c i ≡ PRIM) × ((j : ℕ) × IsTypeAt c i j × (among (c j) (DOT ∷ COLON_COLON ∷ []) ≡ true))

  -- the `(` of the parameters of a lambda
  abbrev pub IsLpar : Type 0
  IsLpar = (c i ≡ PAREN_OPEN) × ((j : ℕ) × ParenClosesAt c (i + 1) j × (c (j + 1) ≡ ARROW))

  -- the `(` of a cast
  abbrev pub IsCast : Type 0
  IsCast =
      (c i ≡ PAREN_OPEN)
      × (among (class_before c i)
      (ID ∷ IF ∷ WHILE ∷ FOR ∷ SWITCH ∷ SYNCHRONIZED ∷ CATCH ∷ TRY ∷ THIS ∷ SUPER ∷ []) ≡ false)
      × ((j : ℕ) × IsTypeAt c (i + 1) j × (c j ≡ PAREN_CLOSE)
      × ((c (i + 1) ≡ PRIM)
      ⊎ (among (c (j + 1))
      (ID ∷ PRIM ∷ INT ∷ LONG ∷ FLOAT ∷ DOUBLE ∷ CHAR ∷ STRING ∷ BOOL ∷ NULL ∷ PAREN_OPEN ∷ NOT ∷ TILDE ∷ THIS ∷ SUPER
      ∷ NEW ∷ VOID ∷ []) ≡ true)))

  -- the `@` of `@interface`
  abbrev pub IsAnn : Type 0
  IsAnn = (c i ≡ AT) × (c (i + 1) ≡ INTERFACE)

  -- the first `>` of a shift: no type arguments that begin before it go on past the leaf behind
  abbrev pub IsShift : Type 0
  IsShift = (c i ≡ GREATER) × Adjoins c tight i × ((k j : ℕ) → k < i → Spans c arguments k j → j ≤ i + 1)

  -- the first of these that holds, and else the class stays
  abbrev first : Type 0 → ℕ → (ℕ → Type 0) → ℕ → Type 0
  first Holds mark Others m = (Holds × (m ≡ mark)) ⊎ ((Holds → ⊥) × Others m)

  abbrev pub IsMark : ℕ → Type 0
  IsMark =
      first IsLambda LAMBDA
      (first IsLabel LABEL
      (first IsTref TREF
      (first IsDecl DECL
      (first IsPref PREF
      (first IsLpar LPAR
      (first IsCast CAST
      (first IsAnn ANN
      (first (IsShift × EndsInSet c tight i) SETGT
      (first IsShift SHGT
      (λ m. m ≡ c i))))))))))
