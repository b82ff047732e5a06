-- What is told of a leaf is right where what is told of those behind it is.
use Rattle.std.proofs.Common.{◌≡◌, ◌≢◌, ℕ, zero, suc, ◌+◌, ◌<◌, ◌≤◌, ◌⊎◌, List, [], ◌∷◌, length, inl, inr, refl, sym, ap, subst, arith}
use Rattle.std.specs.Prelude.{Option, Some, None, slice_index_or}
use Rattle.java_lex.specs.declared.class.TheConstants.{ID, LESS, GREATER, COMMA, QUESTION, EXTENDS, SUPER}
use Rattle.rw_base.specs.declared.tree.Leaf.{Leaf}
use Rattle.java_lex.specs.declared.type_ends.TypeEnds.{TypeEnds}
use Rattle.java_lex.specs.Segments.{class_at}
use Rattle.rw_base.specs.Arena.{no_leaf}
use Rattle.java_lex.specs.Types.{dims, named, typed, bounds, argument, listed, closed, arguments}
use Rattle.java_lex.specs.KnownTypes.{LongestType, LongestArgument, Nothing, ToldType, ToldArgument, ToldOne, Knows, KnowsBehind, types_at, no_types}
use Rattle.java_lex.proofs.TypeLaws.{dims_off, dotted_off, named_off, typed_none, bounds_none, argument_type, argument_none, closed_more, closed_none, listed_on, listed_off, listed_none, arguments_on, arguments_none}

module _ (c : ℕ → ℕ) (from : ℕ) (types : List TypeEnds) (known : KnowsBehind c from types) where
  pub told_dims : (k : ℕ) (l : TypeEnds) → from < k → l ≡ types_at types k → LongestType c dims k l.dims
  told_dims k l h e = subst (λ (x : TypeEnds). LongestType c dims k x.dims) (sym e) (known.behind k h).at_dims

  pub told_named : (k : ℕ) (l : TypeEnds) → from < k → l ≡ types_at types k → LongestType c named k l.named
  told_named k l h e = subst (λ (x : TypeEnds). LongestType c named k x.named) (sym e) (known.behind k h).at_named

  pub told_listed : (k : ℕ) (l : TypeEnds) → from < k → l ≡ types_at types k → ToldOne c listed k l.listed
  told_listed k l h e = subst (λ (x : TypeEnds). ToldOne c listed k x.listed) (sym e) (known.behind k h).at_listed

  pub told_bounds : (k : ℕ) (l : TypeEnds) → from < k → l ≡ types_at types k → ToldArgument c bounds k l.bounds
  told_bounds k l h e = subst (λ (x : TypeEnds). ToldArgument c bounds k x.bounds) (sym e) (known.behind k h).at_bounds

  -- ---- at the answers

  -- a list behind `,`
  pub closed_told : (i : ℕ) (r : Option ℕ) → c i ≡ COMMA → ToldOne c listed (i + 1) r → ToldOne c closed i r
  closed_told i None h t = closed_none c i (λ g. absurd (omega (arith, h, g))) (λ _. t)
  closed_told i (Some e) h t = closed_more c i e h t

  pub arguments_told : (i : ℕ) (r : Option ℕ) → c i ≡ LESS → c (i + 1) ≢ GREATER → ToldOne c listed (i + 1) r → ToldOne c arguments i r
  arguments_told i None h n t = arguments_none c i (λ _ g. n g) (λ _. t)
  arguments_told i (Some e) h n t = arguments_on c i e h n t

  pub listed_told : (i m : ℕ) (r : Option ℕ) → LongestArgument c argument i m → ToldOne c closed m r → ToldOne c listed i r
  listed_told i m None o t = listed_off c i m o t
  listed_told i m (Some e) o t = listed_on c i m e o t

  pub argument_told : (i : ℕ) (r : Option ℕ) → c i ≢ QUESTION → (c i ≡ ID → c (i + 1) ≡ EXTENDS → Nothing c bounds (i + 2)) → ToldType c typed i r → ToldArgument c argument i r
  argument_told i None n m t = argument_none c i n t
  argument_told i (Some e) n m t = argument_type c i e n m t

  -- the facts that the code's branches give
  pub told_at : {A : Type 0} (P : A → Type 0) (x y : A) → x ≡ y → P x → P y
  told_at P x y e p = subst P e p

-- nothing begins where no leaf is
pub nothing_there : (c : ℕ → ℕ) (k : ℕ) → c k ≡ 0 → Knows c k (no_types k)
nothing_there c k h =
    let no_arguments : Nothing c arguments k = arguments_none c k (λ g _. absurd (omega (arith, h, g))) (λ g. absurd (omega (arith, h, g))) in
    let no_dims : LongestType c dims k k = dims_off c k (λ g _. absurd (omega (arith, h, g))) in
    let no_type : Nothing c typed k = typed_none c k (λ g. absurd (omega (arith, h, g))) (λ g. absurd (omega (arith, h, g))) in
    record {
      at_dims = no_dims;
      at_named = named_off c k k no_arguments (dotted_off c k k (λ g _. absurd (omega (arith, h, g))) no_dims);
      at_arguments = no_arguments;
      at_listed = listed_none c k (argument_none c k (λ g. absurd (omega (arith, h, g))) no_type);
      at_bounds = bounds_none c k no_type;
    }

pub none_of : {A : Type 0} (x : ℕ) → x ≢ EXTENDS → x ≢ SUPER → (x ≡ EXTENDS) ⊎ (x ≡ SUPER) → A
none_of x n m (inl h) = absurd (n h)
none_of x n m (inr h) = absurd (m h)

past_end : {A : Type 0} (xs : List A) (d : A) (k : ℕ) → length xs ≤ k → slice_index_or xs k d ≡ d
past_end [] d k h = refl
past_end (x ∷ xs) d zero h = absurd (omega arith)
past_end (x ∷ xs) d (suc k) h = past_end xs d k (omega arith)

pub none_there : (leaves : List Leaf) (k : ℕ) → length leaves ≤ k → class_at leaves k ≡ 0
none_there leaves k h = ap (λ (l : Leaf). l.class) (past_end leaves no_leaf k h)

pub none_told : (leaves : List Leaf) (types : List TypeEnds) (k : ℕ) → length leaves ≤ k → length types ≤ k → Knows (class_at leaves) k (types_at types k)
none_told leaves types k h g = subst (Knows (class_at leaves) k) (sym (past_end types (no_types k) k g)) (nothing_there (class_at leaves) k (none_there leaves k h))
