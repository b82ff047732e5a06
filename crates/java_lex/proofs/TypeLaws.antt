-- Where forms that begin at a leaf end, by where those behind it end.
use Rattle.std.proofs.Common.{◌≡◌, ◌≢◌, ℕ, ◌+◌, ◌<◌, ◌≤◌, ◌⊎◌, inl, inr, refl, sym, ◌∙◌, ap, subst, arith}
use Rattle.java_lex.specs.declared.class.TheConstants.{ID, PRIM, LESS, GREATER, COMMA, DOT, BRACKET_OPEN, BRACKET_CLOSE, QUESTION, EXTENDS, SUPER, AND}
use Rattle.java_lex.specs.Types.{TypePart, Spans, dims, dotted, named, typed, bounds, argument, listed, closed, arguments, no-dims, more-dims, undotted, dot-name, plain, with-arguments, of-prim, of-name, one-bound, more-bounds, a-type, any, any-bound, bounded, one-argument, at-end, more-arguments, no-arguments, some-arguments}
use Rattle.java_lex.specs.KnownTypes.{OfType, OfArgument, LongestType, LongestArgument, One, Nothing}

pub rises : (c : ℕ → ℕ) (f : TypePart) (i j : ℕ) → Spans c f i j → i ≤ j
rises c _ i j (no-dims e) = omega arith
rises c _ i j (more-dims _ _ s) = omega (arith, rises c dims (i + 2) j s)
rises c _ i j (undotted s) = rises c dims i j s
rises c _ i j (dot-name _ _ s) = omega (arith, rises c named (i + 2) j s)
rises c _ i j (plain s) = rises c dotted i j s
rises c _ i j (with-arguments {m = m} s t) = omega (arith, rises c arguments i m s, rises c dotted m j t)
rises c _ i j (of-prim _ s) = omega (arith, rises c dims (i + 1) j s)
rises c _ i j (of-name _ s) = omega (arith, rises c named (i + 1) j s)
rises c _ i j (one-bound s) = rises c typed i j s
rises c _ i j (more-bounds {m = m} s _ t) = omega (arith, rises c typed i m s, rises c bounds (m + 1) j t)
rises c _ i j (a-type s) = rises c typed i j s
rises c _ i j (any _ e) = omega arith
rises c _ i j (any-bound _ _ s) = omega (arith, rises c typed (i + 2) j s)
rises c _ i j (bounded _ _ s) = omega (arith, rises c bounds (i + 2) j s)
rises c _ i j (one-argument {m = m} s t) = omega (arith, rises c argument i m s, rises c closed m j t)
rises c _ i j (at-end _ e) = omega arith
rises c _ i j (more-arguments _ s) = omega (arith, rises c listed (i + 1) j s)
rises c _ i j (no-arguments _ _ e) = omega arith
rises c _ i j (some-arguments _ s) = omega (arith, rises c listed (i + 1) j s)

of_open : (x : ℕ) → x ≡ BRACKET_OPEN → OfType x
of_open x h = (omega arith, omega arith, omega arith)

of_dot : (x : ℕ) → x ≡ DOT → OfType x
of_dot x h = (omega arith, omega arith, omega arith)

of_less : (x : ℕ) → x ≡ LESS → OfType x
of_less x h = (omega arith, omega arith, omega arith)

module _ (c : ℕ → ℕ) (i : ℕ) where
  -- ---- dimensions

  pub dims_on : (e : ℕ) → c i ≡ BRACKET_OPEN → c (i + 1) ≡ BRACKET_CLOSE → LongestType c dims (i + 2) e → LongestType c dims i e
  dims_on e h g b = record { is = more-dims h g b.is; only = go }
    where
      go : (j : ℕ) → Spans c dims i j → (j ≡ e) ⊎ ((j < e) × OfType (c j))
      go j (no-dims q) = inr (omega (arith, rises c dims (i + 2) e b.is), of_open (c j) (ap c (sym q) ∙ h))
      go j (more-dims _ _ s) = b.only j s

  pub dims_off : (c i ≡ BRACKET_OPEN → c (i + 1) ≡ BRACKET_CLOSE → ⊥) → LongestType c dims i i
  dims_off n = record { is = no-dims refl; only = go }
    where
      go : (j : ℕ) → Spans c dims i j → (j ≡ i) ⊎ ((j < i) × OfType (c j))
      go j (no-dims q) = inl (sym q)
      go j (more-dims h g _) = absurd (n h g)

  -- what begins neither with `[` nor with `.` has no dimensions and no further name
  no_more : (x j : ℕ) → c i ≡ x → x ≢ BRACKET_OPEN → x ≢ DOT → Spans c dotted i j → j ≡ i
  no_more x j h a b (undotted (no-dims q)) = sym q
  no_more x j h a b (undotted (more-dims g _ _)) = absurd (a (sym h ∙ g))
  no_more x j h a b (dot-name g _ _) = absurd (b (sym h ∙ g))

  -- ---- what stands behind a name

  pub dotted_on : (e : ℕ) → c i ≡ DOT → c (i + 1) ≡ ID → LongestType c named (i + 2) e → LongestType c dotted i e
  dotted_on e h g b = record { is = dot-name h g b.is; only = go }
    where
      go : (j : ℕ) → Spans c dotted i j → (j ≡ e) ⊎ ((j < e) × OfType (c j))
      go j (undotted (no-dims q)) = inr (omega (arith, rises c named (i + 2) e b.is), of_dot (c j) (ap c (sym q) ∙ h))
      go j (undotted (more-dims w _ _)) = absurd (omega (arith, h, w))
      go j (dot-name _ _ s) = b.only j s

  pub dotted_off : (e : ℕ) → (c i ≡ DOT → c (i + 1) ≡ ID → ⊥) → LongestType c dims i e → LongestType c dotted i e
  dotted_off e n b = record { is = undotted b.is; only = go }
    where
      go : (j : ℕ) → Spans c dotted i j → (j ≡ e) ⊎ ((j < e) × OfType (c j))
      go j (undotted s) = b.only j s
      go j (dot-name h g _) = absurd (n h g)

  -- type arguments begin with `<`
  less : (j : ℕ) → Spans c arguments i j → c i ≡ LESS
  less j (no-arguments h _ _) = h
  less j (some-arguments h _) = h

  longer : (j : ℕ) → Spans c arguments i j → i < j
  longer j (no-arguments _ _ e) = omega arith
  longer j (some-arguments _ s) = omega (arith, rises c listed (i + 1) j s)

  pub named_on : (m e : ℕ) → One c arguments i m → LongestType c dotted m e → LongestType c named i e
  named_on m e o b = record { is = with-arguments o.is b.is; only = go }
    where
      here : c i ≡ LESS
      here = less m o.is

      shorter : (j : ℕ) → j ≡ i → (j < e) × OfType (c j)
      shorter j q = (omega (arith, longer m o.is, rises c dotted m e b.is), of_less (c j) (ap c q ∙ here))

      go : (j : ℕ) → Spans c named i j → (j ≡ e) ⊎ ((j < e) × OfType (c j))
      go j (plain s) = inr (shorter j (no_more LESS j here (omega arith) (omega arith) s))
      go j (with-arguments {m = k} s t) = b.only j (subst (λ x. Spans c dotted x j) (o.only k s) t)

  pub named_off : (e : ℕ) → Nothing c arguments i → LongestType c dotted i e → LongestType c named i e
  named_off e n b = record { is = plain b.is; only = go }
    where
      go : (j : ℕ) → Spans c named i j → (j ≡ e) ⊎ ((j < e) × OfType (c j))
      go j (plain s) = b.only j s
      go j (with-arguments {m = k} s t) = absurd (n.not k s)

  -- ---- types

  pub typed_prim : (e : ℕ) → c i ≡ PRIM → LongestType c dims (i + 1) e → LongestType c typed i e
  typed_prim e h b = record { is = of-prim h b.is; only = go }
    where
      go : (j : ℕ) → Spans c typed i j → (j ≡ e) ⊎ ((j < e) × OfType (c j))
      go j (of-prim _ s) = b.only j s
      go j (of-name g _) = absurd (omega (arith, h, g))

  pub typed_name : (e : ℕ) → c i ≡ ID → LongestType c named (i + 1) e → LongestType c typed i e
  typed_name e h b = record { is = of-name h b.is; only = go }
    where
      go : (j : ℕ) → Spans c typed i j → (j ≡ e) ⊎ ((j < e) × OfType (c j))
      go j (of-prim g _) = absurd (omega (arith, h, g))
      go j (of-name _ s) = b.only j s

  pub typed_none : c i ≢ PRIM → c i ≢ ID → Nothing c typed i
  typed_none n m = record { not = go }
    where
      go : (j : ℕ) → Spans c typed i j → ⊥
      go j (of-prim g _) = n g
      go j (of-name g _) = m g

  begins : (j : ℕ) → Spans c typed i j → (c i ≡ PRIM) ⊎ (c i ≡ ID)
  begins j (of-prim h _) = inl h
  begins j (of-name h _) = inr h

  no_type : (x j : ℕ) → c i ≡ x → x ≢ PRIM → x ≢ ID → Spans c typed i j → ⊥
  no_type x j h a b (of-prim g _) = a (sym h ∙ g)
  no_type x j h a b (of-name g _) = b (sym h ∙ g)

  -- ---- bounds

  pub bounds_on : (m e : ℕ) → LongestType c typed i m → c m ≡ AND → LongestArgument c bounds (m + 1) e → LongestArgument c bounds i e
  bounds_on m e o h b = record { is = more-bounds o.is h b.is; only = go }
    where
      last : (j : ℕ) → (j ≡ m) ⊎ ((j < m) × OfType (c j)) → (j < e) × OfArgument (c j)
      last j (inl q) =
          let there : c j ≡ AND = ap c q ∙ h in
          (omega (arith, rises c bounds (m + 1) e b.is), (omega arith, omega arith))
      last j (inr s) = (omega (arith, s.0, rises c bounds (m + 1) e b.is), (s.1.0, s.1.1))

      next : (j k : ℕ) → (k ≡ m) ⊎ ((k < m) × OfType (c k)) → c k ≡ AND → Spans c bounds (k + 1) j → (j ≡ e) ⊎ ((j < e) × OfArgument (c j))
      next j k (inl q) g t = b.only j (subst (λ x. Spans c bounds (x + 1) j) q t)
      next j k (inr s) g t = absurd (s.1.2 g)

      go : (j : ℕ) → Spans c bounds i j → (j ≡ e) ⊎ ((j < e) × OfArgument (c j))
      go j (one-bound s) = inr (last j (o.only j s))
      go j (more-bounds {m = k} s g t) = next j k (o.only k s) g t

  pub bounds_off : (m : ℕ) → LongestType c typed i m → (c m ≡ AND → Nothing c bounds (m + 1)) → LongestArgument c bounds i m
  bounds_off m o n = record { is = one-bound o.is; only = go }
    where
      weaker : (j : ℕ) → (j ≡ m) ⊎ ((j < m) × OfType (c j)) → (j ≡ m) ⊎ ((j < m) × OfArgument (c j))
      weaker j (inl q) = inl q
      weaker j (inr s) = inr (s.0, (s.1.0, s.1.1))

      next : (j k : ℕ) → (k ≡ m) ⊎ ((k < m) × OfType (c k)) → c k ≡ AND → Spans c bounds (k + 1) j → ⊥
      next j k (inl q) g t = (n (ap c (sym q) ∙ g)).not j (subst (λ x. Spans c bounds (x + 1) j) q t)
      next j k (inr s) g t = s.1.2 g

      go : (j : ℕ) → Spans c bounds i j → (j ≡ m) ⊎ ((j < m) × OfArgument (c j))
      go j (one-bound s) = weaker j (o.only j s)
      go j (more-bounds {m = k} s g t) = absurd (next j k (o.only k s) g t)

  pub bounds_none : Nothing c typed i → Nothing c bounds i
  bounds_none n = record { not = go }
    where
      go : (j : ℕ) → Spans c bounds i j → ⊥
      go j (one-bound s) = n.not j s
      go j (more-bounds {m = k} s g t) = n.not k s

  -- ---- arguments of types

  pub argument_any_on : (e : ℕ) → c i ≡ QUESTION → (c (i + 1) ≡ EXTENDS) ⊎ (c (i + 1) ≡ SUPER) → LongestType c typed (i + 2) e → LongestArgument c argument i e
  argument_any_on e h g b = record { is = any-bound h g b.is; only = go }
    where
      inner : (x : ℕ) → (x ≡ EXTENDS) ⊎ (x ≡ SUPER) → OfArgument x
      inner x (inl q) = (omega arith, omega arith)
      inner x (inr q) = (omega arith, omega arith)

      weaker : (j : ℕ) → (j ≡ e) ⊎ ((j < e) × OfType (c j)) → (j ≡ e) ⊎ ((j < e) × OfArgument (c j))
      weaker j (inl q) = inl q
      weaker j (inr s) = inr (s.0, (s.1.0, s.1.1))

      go : (j : ℕ) → Spans c argument i j → (j ≡ e) ⊎ ((j < e) × OfArgument (c j))
      go j (a-type s) = absurd (no_type QUESTION j h (omega arith) (omega arith) s)
      go j (any _ q) = inr (omega (arith, rises c typed (i + 2) e b.is), subst (λ x. OfArgument (c x)) (sym q) (inner (c (i + 1)) g))
      go j (any-bound _ _ s) = weaker j (b.only j s)
      go j (bounded w _ _) = absurd (omega (arith, h, w))

  pub argument_any_off : c i ≡ QUESTION → ((c (i + 1) ≡ EXTENDS) ⊎ (c (i + 1) ≡ SUPER) → Nothing c typed (i + 2)) → LongestArgument c argument i (i + 1)
  argument_any_off h n = record { is = any h refl; only = go }
    where
      go : (j : ℕ) → Spans c argument i j → (j ≡ i + 1) ⊎ ((j < i + 1) × OfArgument (c j))
      go j (a-type s) = absurd (no_type QUESTION j h (omega arith) (omega arith) s)
      go j (any _ q) = inl q
      go j (any-bound _ g s) = absurd ((n g).not j s)
      go j (bounded w _ _) = absurd (omega (arith, h, w))

  pub argument_bounded : (e : ℕ) → c i ≡ ID → c (i + 1) ≡ EXTENDS → LongestArgument c bounds (i + 2) e → LongestArgument c argument i e
  argument_bounded e h g b = record { is = bounded h g b.is; only = go }
    where
      less_here : (j : ℕ) → Spans c arguments (i + 1) j → c (i + 1) ≡ LESS
      less_here j (no-arguments w _ _) = w
      less_here j (some-arguments w _) = w

      lone : (j : ℕ) → Spans c named (i + 1) j → j ≡ i + 1
      lone j (plain (undotted (no-dims q))) = sym q
      lone j (plain (undotted (more-dims w _ _))) = absurd (omega (arith, g, w))
      lone j (plain (dot-name w _ _)) = absurd (omega (arith, g, w))
      lone j (with-arguments {m = k} s _) = absurd (omega (arith, g, less_here k s))

      short : (j : ℕ) → j ≡ i + 1 → (j < e) × OfArgument (c j)
      short j q =
          let there : c j ≡ EXTENDS = ap c q ∙ g in
          (omega (arith, rises c bounds (i + 2) e b.is), (omega arith, omega arith))

      go : (j : ℕ) → Spans c argument i j → (j ≡ e) ⊎ ((j < e) × OfArgument (c j))
      go j (a-type (of-prim w _)) = absurd (omega (arith, h, w))
      go j (a-type (of-name _ s)) = inr (short j (lone j s))
      go j (any w _) = absurd (omega (arith, h, w))
      go j (any-bound w _ _) = absurd (omega (arith, h, w))
      go j (bounded _ _ s) = b.only j s

  pub argument_type : (e : ℕ) → c i ≢ QUESTION → (c i ≡ ID → c (i + 1) ≡ EXTENDS → Nothing c bounds (i + 2)) → LongestType c typed i e → LongestArgument c argument i e
  argument_type e n m b = record { is = a-type b.is; only = go }
    where
      weaker : (j : ℕ) → (j ≡ e) ⊎ ((j < e) × OfType (c j)) → (j ≡ e) ⊎ ((j < e) × OfArgument (c j))
      weaker j (inl q) = inl q
      weaker j (inr s) = inr (s.0, (s.1.0, s.1.1))

      go : (j : ℕ) → Spans c argument i j → (j ≡ e) ⊎ ((j < e) × OfArgument (c j))
      go j (a-type s) = weaker j (b.only j s)
      go j (any w _) = absurd (n w)
      go j (any-bound w _ _) = absurd (n w)
      go j (bounded w g s) = absurd ((m w g).not j s)

  pub argument_none : c i ≢ QUESTION → Nothing c typed i → Nothing c argument i
  argument_none n m = record { not = go }
    where
      go : (j : ℕ) → Spans c argument i j → ⊥
      go j (a-type s) = m.not j s
      go j (any w _) = n w
      go j (any-bound w _ _) = n w
      go j (bounded w _ _) = m.not (i + 1) (of-name w (plain (undotted (no-dims refl))))

  -- ---- lists of arguments

  pub closed_end : c i ≡ GREATER → One c closed i (i + 1)
  closed_end h = record { is = at-end h refl; only = go }
    where
      go : (j : ℕ) → Spans c closed i j → j ≡ i + 1
      go j (at-end _ q) = q
      go j (more-arguments w _) = absurd (omega (arith, h, w))

  pub closed_more : (e : ℕ) → c i ≡ COMMA → One c listed (i + 1) e → One c closed i e
  closed_more e h b = record { is = more-arguments h b.is; only = go }
    where
      go : (j : ℕ) → Spans c closed i j → j ≡ e
      go j (at-end w _) = absurd (omega (arith, h, w))
      go j (more-arguments _ s) = b.only j s

  pub closed_none : c i ≢ GREATER → (c i ≡ COMMA → Nothing c listed (i + 1)) → Nothing c closed i
  closed_none n m = record { not = go }
    where
      go : (j : ℕ) → Spans c closed i j → ⊥
      go j (at-end w _) = n w
      go j (more-arguments w s) = (m w).not j s

  next_closed : (j k : ℕ) → OfArgument (c k) → Spans c closed k j → ⊥
  next_closed j k n (at-end w _) = n.1 w
  next_closed j k n (more-arguments w _) = n.0 w

  pub listed_on : (m e : ℕ) → LongestArgument c argument i m → One c closed m e → One c listed i e
  listed_on m e o b = record { is = one-argument o.is b.is; only = go }
    where
      next : (j k : ℕ) → (k ≡ m) ⊎ ((k < m) × OfArgument (c k)) → Spans c closed k j → j ≡ e
      next j k (inl q) t = b.only j (subst (λ x. Spans c closed x j) q t)
      next j k (inr s) t = absurd (next_closed j k s.1 t)

      go : (j : ℕ) → Spans c listed i j → j ≡ e
      go j (one-argument {m = k} s t) = next j k (o.only k s) t

  pub listed_off : (m : ℕ) → LongestArgument c argument i m → Nothing c closed m → Nothing c listed i
  listed_off m o n = record { not = go }
    where
      next : (j k : ℕ) → (k ≡ m) ⊎ ((k < m) × OfArgument (c k)) → Spans c closed k j → ⊥
      next j k (inl q) t = n.not j (subst (λ x. Spans c closed x j) q t)
      next j k (inr s) t = next_closed j k s.1 t

      go : (j : ℕ) → Spans c listed i j → ⊥
      go j (one-argument {m = k} s t) = next j k (o.only k s) t

  pub listed_none : Nothing c argument i → Nothing c listed i
  listed_none n = record { not = go }
    where
      go : (j : ℕ) → Spans c listed i j → ⊥
      go j (one-argument {m = k} s t) = n.not k s

  -- ---- type arguments

  no_list : (j k : ℕ) → c k ≡ GREATER → Spans c listed k j → ⊥
  no_list j k h (one-argument (a-type (of-prim w _)) _) = omega (arith, h, w)
  no_list j k h (one-argument (a-type (of-name w _)) _) = omega (arith, h, w)
  no_list j k h (one-argument (any w _) _) = omega (arith, h, w)
  no_list j k h (one-argument (any-bound w _ _) _) = omega (arith, h, w)
  no_list j k h (one-argument (bounded w _ _) _) = omega (arith, h, w)

  pub arguments_empty : c i ≡ LESS → c (i + 1) ≡ GREATER → One c arguments i (i + 2)
  arguments_empty h g = record { is = no-arguments h g refl; only = go }
    where
      go : (j : ℕ) → Spans c arguments i j → j ≡ i + 2
      go j (no-arguments _ _ q) = q
      go j (some-arguments _ s) = absurd (no_list j (i + 1) g s)

  pub arguments_on : (e : ℕ) → c i ≡ LESS → c (i + 1) ≢ GREATER → One c listed (i + 1) e → One c arguments i e
  arguments_on e h n b = record { is = some-arguments h b.is; only = go }
    where
      go : (j : ℕ) → Spans c arguments i j → j ≡ e
      go j (no-arguments _ w _) = absurd (n w)
      go j (some-arguments _ s) = b.only j s

  pub arguments_none : (c i ≡ LESS → c (i + 1) ≡ GREATER → ⊥) → (c i ≡ LESS → Nothing c listed (i + 1)) → Nothing c arguments i
  arguments_none n m = record { not = go }
    where
      go : (j : ℕ) → Spans c arguments i j → ⊥
      go j (no-arguments h g _) = n h g
      go j (some-arguments h s) = (m h).not j s
