-- Each step of the machine keeps what comes of what is left to do.
use Rattle.std.proofs.Common.{◌≡◌, ℕ, List, [], ◌∷◌, refl, sym, ◌∙◌, ap, subst, inl, inr}
use Rattle.std.specs.Prelude.{◌↔◌, ◌⊎◌, Option, Some, None}
use Rattle.rw_base.specs.Trees.{none, leaf, Forest, beside}
use Rattle.rw_base.specs.LaidLaws.{beside_none, beside_assoc}
use Rattle.rw_grammar.specs.Parts.{Parts, end, one, rule, choice, opt, many, IsAt}
use Rattle.rw_grammar.specs.Begins.{CanBeEmpty, CanBegin, Goes}
use Rattle.rw_grammar.specs.Derivation.{wrapped, Derives, by-end, by-one, by-rule, by-choice, by-empty, by-opt, by-no-opt, by-more, by-no-more}
use Rattle.rw_grammar.specs.Viability.{Viable, so-far, past-one, in-rule, past-rule, in-choice, past-choice, in-empty, past-empty, in-opt, past-opt, no-opt, in-more, past-more, no-more}
use Rattle.rw_grammar.specs.Faults.{AreApart}
use Rattle.rw_grammar.specs.Machine.{Todo, derive, close, Comes, Goes_on, Meets, Begins, Picks}
use Rattle.rw_grammar.specs.TreeLaws.{same_begun, same_empty}

module _ (rules : ℕ → Parts) (class : ℕ → ℕ) where
  -- the same comes of both, and leaves go as far
  pub record Same (ls : List ℕ) (ts : List Todo) (d : Forest) (ts' : List Todo) (d' : Forest) : Type 0 where
    pub comes : (t : Forest) → Comes rules class ts d ls t ↔ Comes rules class ts' d' ls t
    pub goes : (q : List ℕ) → Meets q ls → Goes_on rules class ts q ↔ Goes_on rules class ts' q

  -- p is x and then a, over these leaves; the trees of x come in as w says
  pub record Both (w : Forest → Forest) (p x a : Parts) (ls : List ℕ) : Type 0 where
    pub into : (mid rest : List ℕ) (f g : Forest) → Derives rules class x ls mid f → Derives rules class a mid rest g → Derives rules class p ls rest (beside (w f) g)
    pub out : (rest : List ℕ) (t : Forest) → Derives rules class p ls rest t → (mid : List ℕ) × (f : Forest) × (g : Forest) × Derives rules class x ls mid f × Derives rules class a mid rest g × (t ≡ beside (w f) g)
    pub within : Viable rules class x ls → Viable rules class p ls
    pub beyond : (mid : List ℕ) (f : Forest) → Derives rules class x ls mid f → Viable rules class a mid → Viable rules class p ls
    pub goes : Viable rules class p ls → Viable rules class x ls ⊎ ((mid : List ℕ) × (f : Forest) × Derives rules class x ls mid f × Viable rules class a mid)

  -- p is a, over these leaves
  pub record Alone (p a : Parts) (ls : List ℕ) : Type 0 where
    pub into : (rest : List ℕ) (g : Forest) → Derives rules class a ls rest g → Derives rules class p ls rest g
    pub out : (rest : List ℕ) (t : Forest) → Derives rules class p ls rest t → Derives rules class a ls rest t
    pub within : Viable rules class a ls → Viable rules class p ls
    pub goes : Viable rules class p ls → Viable rules class a ls

  module _ (w : Forest → Forest) (p x a : Parts) (ts : List Todo) where
    -- the leaves go on as far in x and a as in p
    both_there : (ls : List ℕ) → Both w p x a ls → Goes_on rules class (derive p ∷ ts) ls → Goes_on rules class (derive x ∷ derive a ∷ ts) ls
    both_there ls b (inl v) = elim (b.goes v) [ inl u ↦ inl u | inr u ↦ inr (u.0, u.1, u.2, inl u.3) ]
    both_there ls b (inr e) = let o = b.out e.0 e.1 e.2 in inr (o.0, o.1, o.3, inr (e.0, o.2, o.4, e.3))

    both_back : (ls : List ℕ) → Both w p x a ls → Goes_on rules class (derive x ∷ derive a ∷ ts) ls → Goes_on rules class (derive p ∷ ts) ls
    both_back ls b (inl v) = inl (b.within v)
    both_back ls b (inr (m, f, d, inl v)) = inl (b.beyond m f d v)
    both_back ls b (inr (m, f, d, inr e)) = inr (e.0, beside (w f) e.1, b.into m e.0 f e.1 d e.2, e.3)

    pub both_goes : (ls : List ℕ) → ((c : ℕ) (q : List ℕ) → Meets (c ∷ q) ls → Both w p x a (c ∷ q)) → (q : List ℕ) → Meets q ls → Goes_on rules class (derive p ∷ ts) q ↔ Goes_on rules class (derive x ∷ derive a ∷ ts) q
    both_goes ls b [] m = (λ _. inl (so-far refl), λ _. inl (so-far refl))
    both_goes ls b (c ∷ q) m = (both_there (c ∷ q) (b c q m), both_back (c ∷ q) (b c q m))

  module _ (p x a : Parts) (ts : List Todo) (d : Forest) (ls : List ℕ) (t : Forest) (b : Both (λ f. f) p x a ls) where
    both_comes : Comes rules class (derive p ∷ ts) d ls t ↔ Comes rules class (derive x ∷ derive a ∷ ts) d ls t
    both_comes = (
      λ e. let o = b.out e.0 e.1 e.2 in
          (o.0, o.1, o.3, (e.0, o.2, o.4, subst (λ u. Comes rules class ts u e.0 t) (ap (beside d) o.5 ∙ sym (beside_assoc d o.1 o.2)) e.3)),
      λ e. (e.3.0, beside e.1 e.3.1, b.into e.0 e.3.0 e.1 e.3.1 e.2 e.3.2, subst (λ u. Comes rules class ts u e.3.0 t) (beside_assoc d e.1 e.3.1) e.3.3),
    )

  both_same : (p x a : Parts) (ts : List Todo) (d : Forest) (ls : List ℕ) → Both (λ f. f) p x a ls → ((c : ℕ) (q : List ℕ) → Meets (c ∷ q) ls → Both (λ f. f) p x a (c ∷ q)) → Same ls (derive p ∷ ts) d (derive x ∷ derive a ∷ ts) d
  both_same p x a ts d ls b f = record { comes = λ t. both_comes p x a ts d ls t b; goes = both_goes (λ g. g) p x a ts ls f }

  module _ (p a : Parts) (ts : List Todo) where
    alone_there : (ls : List ℕ) → Alone p a ls → Goes_on rules class (derive p ∷ ts) ls → Goes_on rules class (derive a ∷ ts) ls
    alone_there ls b (inl v) = inl (b.goes v)
    alone_there ls b (inr e) = inr (e.0, e.1, b.out e.0 e.1 e.2, e.3)

    alone_back : (ls : List ℕ) → Alone p a ls → Goes_on rules class (derive a ∷ ts) ls → Goes_on rules class (derive p ∷ ts) ls
    alone_back ls b (inl v) = inl (b.within v)
    alone_back ls b (inr e) = inr (e.0, e.1, b.into e.0 e.1 e.2, e.3)

    alone_goes : (ls : List ℕ) → ((c : ℕ) (q : List ℕ) → Meets (c ∷ q) ls → Alone p a (c ∷ q)) → (q : List ℕ) → Meets q ls → Goes_on rules class (derive p ∷ ts) q ↔ Goes_on rules class (derive a ∷ ts) q
    alone_goes ls b [] m = (λ _. inl (so-far refl), λ _. inl (so-far refl))
    alone_goes ls b (c ∷ q) m = (alone_there (c ∷ q) (b c q m), alone_back (c ∷ q) (b c q m))

  alone_same : (p a : Parts) (ts : List Todo) (d : Forest) (ls : List ℕ) → Alone p a ls → ((c : ℕ) (q : List ℕ) → Meets (c ∷ q) ls → Alone p a (c ∷ q)) → Same ls (derive p ∷ ts) d (derive a ∷ ts) d
  alone_same p a ts d ls b f = record {
    comes = λ t. (λ e. (e.0, e.1, b.out e.0 e.1 e.2, e.3), λ e. (e.0, e.1, b.into e.0 e.1 e.2, e.3));
    goes = alone_goes p a ts ls f;
  }

  -- ---- a rule is opened

  rule_both : (r : ℕ) (a : Parts) (ls : List ℕ) → Both (wrapped r) (rule r a) (rules r) a ls
  rule_both r a ls = record {
    into = λ mid rest f g d e. by-rule d e refl;
    out = out;
    within = in-rule;
    beyond = λ mid f d v. past-rule d v;
    goes = goes;
  }
    where
      out : (rest : List ℕ) (t : Forest) → Derives rules class (rule r a) ls rest t → (mid : List ℕ) × (f : Forest) × (g : Forest) × Derives rules class (rules r) ls mid f × Derives rules class a mid rest g × (t ≡ beside (wrapped r f) g)
      out rest t (by-rule {mid = m} {f = f} {g = g} d e h) = (m, f, g, d, e, h)

      goes : Viable rules class (rule r a) ls → Viable rules class (rules r) ls ⊎ ((mid : List ℕ) × (f : Forest) × Derives rules class (rules r) ls mid f × Viable rules class a mid)
      goes (so-far e) = inl (so-far e)
      goes (in-rule v) = inl v
      goes (past-rule {mid = m} {f = f} d v) = inr (m, f, d, v)

  pub rule_same : (r : ℕ) (a : Parts) (ts : List Todo) (d : Forest) (ls : List ℕ) → Same ls (derive (rule r a) ∷ ts) d (derive (rules r) ∷ close r d ∷ derive a ∷ ts) none
  rule_same r a ts d ls = record {
    comes = λ t. (
      λ e. let o = (rule_both r a ls).out e.0 e.1 e.2 in
          (o.0, o.1, o.3, (e.0, o.2, o.4, subst (λ u. Comes rules class ts u e.0 t) (ap (beside d) o.5 ∙ sym (beside_assoc d (wrapped r o.1) o.2)) e.3)),
      λ e. (e.3.0, beside (wrapped r e.1) e.3.1, by-rule e.2 e.3.2 refl, subst (λ u. Comes rules class ts u e.3.0 t) (beside_assoc d (wrapped r e.1) e.3.1) e.3.3),
    );
    goes = both_goes (wrapped r) (rule r a) (rules r) a ts ls (λ c q m. rule_both r a (c ∷ q));
  }

  -- ---- options and repetitions

  -- what the next leaf can begin, it can begin whatever follows it
  goes_front : (x : Parts) (c : ℕ) (q ls : List ℕ) → Meets (c ∷ q) ls → Goes rules class x ls → Goes rules class x (c ∷ q)
  goes_front x c q [] m g = absurd m
  goes_front x c q (l ∷ ls) m g = subst (λ k. CanBegin rules (class k) x) (sym m) g

  goes_back : (x : Parts) (c : ℕ) (q ls : List ℕ) → Meets (c ∷ q) ls → Goes rules class x (c ∷ q) → Goes rules class x ls
  goes_back x c q [] m g = absurd m
  goes_back x c q (l ∷ ls) m g = subst (λ k. CanBegin rules (class k) x) m g

  opt_both : (x a : Parts) (ls : List ℕ) → Goes rules class x ls → Both (λ f. f) (opt x a) x a ls
  opt_both x a ls k = record {
    into = λ mid rest f g d e. by-opt k d e refl;
    out = out;
    within = in-opt k;
    beyond = λ mid f d v. past-opt k d v;
    goes = goes;
  }
    where
      out : (rest : List ℕ) (t : Forest) → Derives rules class (opt x a) ls rest t → (mid : List ℕ) × (f : Forest) × (g : Forest) × Derives rules class x ls mid f × Derives rules class a mid rest g × (t ≡ beside f g)
      out rest t (by-opt {mid = m} {f = f} {g = g} j d e h) = (m, f, g, d, e, h)
      out rest t (by-no-opt n d) = absurd (n k)

      goes : Viable rules class (opt x a) ls → Viable rules class x ls ⊎ ((mid : List ℕ) × (f : Forest) × Derives rules class x ls mid f × Viable rules class a mid)
      goes (so-far e) = inl (so-far e)
      goes (in-opt j v) = inl v
      goes (past-opt {mid = m} {f = f} j d v) = inr (m, f, d, v)
      goes (no-opt n v) = absurd (n k)

  pub opt_same : (x a : Parts) (ts : List Todo) (d : Forest) (ls : List ℕ) → Goes rules class x ls → Same ls (derive (opt x a) ∷ ts) d (derive x ∷ derive a ∷ ts) d
  opt_same x a ts d ls g = both_same (opt x a) x a ts d ls (opt_both x a ls g) (λ c q m. opt_both x a (c ∷ q) (goes_front x c q ls m g))

  no_opt_alone : (x a : Parts) (ls : List ℕ) → (Goes rules class x ls → ⊥) → Alone (opt x a) a ls
  no_opt_alone x a ls k = record { into = λ rest g d. by-no-opt k d; out = out; within = no-opt k; goes = goes }
    where
      out : (rest : List ℕ) (t : Forest) → Derives rules class (opt x a) ls rest t → Derives rules class a ls rest t
      out rest t (by-opt j d e h) = absurd (k j)
      out rest t (by-no-opt n d) = d

      goes : Viable rules class (opt x a) ls → Viable rules class a ls
      goes (so-far e) = so-far e
      goes (in-opt j v) = absurd (k j)
      goes (past-opt j d v) = absurd (k j)
      goes (no-opt n v) = v

  pub no_opt_same : (x a : Parts) (ts : List Todo) (d : Forest) (ls : List ℕ) → (Goes rules class x ls → ⊥) → Same ls (derive (opt x a) ∷ ts) d (derive a ∷ ts) d
  no_opt_same x a ts d ls n = alone_same (opt x a) a ts d ls (no_opt_alone x a ls n) (λ c q m. no_opt_alone x a (c ∷ q) (λ g. n (goes_back x c q ls m g)))

  more_both : (x a : Parts) (ls : List ℕ) → Goes rules class x ls → Both (λ f. f) (many x a) x (many x a) ls
  more_both x a ls k = record {
    into = λ mid rest f g d e. by-more k d e refl;
    out = out;
    within = in-more k;
    beyond = λ mid f d v. past-more k d v;
    goes = goes;
  }
    where
      out : (rest : List ℕ) (t : Forest) → Derives rules class (many x a) ls rest t → (mid : List ℕ) × (f : Forest) × (g : Forest) × Derives rules class x ls mid f × Derives rules class (many x a) mid rest g × (t ≡ beside f g)
      out rest t (by-more {mid = m} {f = f} {g = g} j d e h) = (m, f, g, d, e, h)
      out rest t (by-no-more n d) = absurd (n k)

      goes : Viable rules class (many x a) ls → Viable rules class x ls ⊎ ((mid : List ℕ) × (f : Forest) × Derives rules class x ls mid f × Viable rules class (many x a) mid)
      goes (so-far e) = inl (so-far e)
      goes (in-more j v) = inl v
      goes (past-more {mid = m} {f = f} j d v) = inr (m, f, d, v)
      goes (no-more n v) = absurd (n k)

  pub more_same : (x a : Parts) (ts : List Todo) (d : Forest) (ls : List ℕ) → Goes rules class x ls → Same ls (derive (many x a) ∷ ts) d (derive x ∷ derive (many x a) ∷ ts) d
  more_same x a ts d ls g = both_same (many x a) x (many x a) ts d ls (more_both x a ls g) (λ c q m. more_both x a (c ∷ q) (goes_front x c q ls m g))

  no_more_alone : (x a : Parts) (ls : List ℕ) → (Goes rules class x ls → ⊥) → Alone (many x a) a ls
  no_more_alone x a ls k = record { into = λ rest g d. by-no-more k d; out = out; within = no-more k; goes = goes }
    where
      out : (rest : List ℕ) (t : Forest) → Derives rules class (many x a) ls rest t → Derives rules class a ls rest t
      out rest t (by-more j d e h) = absurd (k j)
      out rest t (by-no-more n d) = d

      goes : Viable rules class (many x a) ls → Viable rules class a ls
      goes (so-far e) = so-far e
      goes (in-more j v) = absurd (k j)
      goes (past-more j d v) = absurd (k j)
      goes (no-more n v) = v

  pub no_more_same : (x a : Parts) (ts : List Todo) (d : Forest) (ls : List ℕ) → (Goes rules class x ls → ⊥) → Same ls (derive (many x a) ∷ ts) d (derive a ∷ ts) d
  no_more_same x a ts d ls n = alone_same (many x a) a ts d ls (no_more_alone x a ls n) (λ c q m. no_more_alone x a (c ∷ q) (λ g. n (goes_back x c q ls m g)))

  -- ---- an alternative is taken

  choice_both : (i : ℕ) (x y a : Parts) (ls : List ℕ) → AreApart rules x → IsAt i y x → Goes rules class y ls → Both (λ f. f) (choice x a) y a ls
  choice_both i x y a ls h p k = record {
    into = λ mid rest f g d e. by-choice p k d e refl;
    out = out;
    within = in-choice p k;
    beyond = λ mid f d v. past-choice p k d v;
    goes = goes;
  }
    where
      same : (j : ℕ) (z : Parts) → IsAt j z x → Goes rules class z ls → z ≡ y
      same j z q l = same_begun rules class j i x z y ls h q p l k

      out : (rest : List ℕ) (t : Forest) → Derives rules class (choice x a) ls rest t → (mid : List ℕ) × (f : Forest) × (g : Forest) × Derives rules class y ls mid f × Derives rules class a mid rest g × (t ≡ beside f g)
      out rest t (by-choice {i = j} {y = z} {mid = m} {f = f} {g = g} q l d e s) = (m, f, g, subst (λ w. Derives rules class w ls m f) (same j z q l) d, e, s)
      out rest t (by-empty n q l d e s) = absurd (n i y p k)

      goes : Viable rules class (choice x a) ls → Viable rules class y ls ⊎ ((mid : List ℕ) × (f : Forest) × Derives rules class y ls mid f × Viable rules class a mid)
      goes (so-far e) = inl (so-far e)
      goes (in-choice {i = j} {y = z} q l v) = inl (subst (λ w. Viable rules class w ls) (same j z q l) v)
      goes (past-choice {i = j} {y = z} {mid = m} {f = f} q l d v) = inr (m, f, subst (λ w. Derives rules class w ls m f) (same j z q l) d, v)
      goes (in-empty n q l v) = absurd (n i y p k)
      goes (past-empty n q l d v) = absurd (n i y p k)

  empty_both : (i : ℕ) (x y a : Parts) (ls : List ℕ) → AreApart rules x → IsAt i y x → CanBeEmpty rules y → ((j : ℕ) (z : Parts) → IsAt j z x → Goes rules class z ls → ⊥) → Both (λ f. f) (choice x a) y a ls
  empty_both i x y a ls h p k n = record {
    into = λ mid rest f g d e. by-empty n p k d e refl;
    out = out;
    within = in-empty n p k;
    beyond = λ mid f d v. past-empty n p k d v;
    goes = goes;
  }
    where
      same : (j : ℕ) (z : Parts) → IsAt j z x → CanBeEmpty rules z → z ≡ y
      same j z q e = same_empty rules j i x z y h q p e k

      out : (rest : List ℕ) (t : Forest) → Derives rules class (choice x a) ls rest t → (mid : List ℕ) × (f : Forest) × (g : Forest) × Derives rules class y ls mid f × Derives rules class a mid rest g × (t ≡ beside f g)
      out rest t (by-choice {i = j} {y = z} q l d e s) = absurd (n j z q l)
      out rest t (by-empty {i = j} {y = z} {mid = m} {f = f} {g = g} m' q l d e s) = (m, f, g, subst (λ w. Derives rules class w ls m f) (same j z q l) d, e, s)

      goes : Viable rules class (choice x a) ls → Viable rules class y ls ⊎ ((mid : List ℕ) × (f : Forest) × Derives rules class y ls mid f × Viable rules class a mid)
      goes (so-far e) = inl (so-far e)
      goes (in-choice {i = j} {y = z} q l v) = absurd (n j z q l)
      goes (past-choice {i = j} {y = z} q l d v) = absurd (n j z q l)
      goes (in-empty {i = j} {y = z} n' q l v) = inl (subst (λ w. Viable rules class w ls) (same j z q l) v)
      goes (past-empty {i = j} {y = z} {mid = m} {f = f} n' q l d v) = inr (m, f, subst (λ w. Derives rules class w ls m f) (same j z q l) d, v)

  -- the class of the next leaf, if there is one
  unfoldable pub class_of : List ℕ → Option ℕ
  class_of [] = None
  class_of (l ∷ ls) = Some (class l)

  pub goes_begins : (x : Parts) (ls : List ℕ) → Goes rules class x ls → Begins rules (class_of ls) x
  unfolding class_of
  goes_begins x [] g = g
  goes_begins x (l ∷ ls) g = g

  pub begins_goes : (x : Parts) (ls : List ℕ) → Begins rules (class_of ls) x → Goes rules class x ls
  unfolding class_of
  begins_goes x [] g = g
  begins_goes x (l ∷ ls) g = g

  pub pick_same : (x y a : Parts) (ts : List Todo) (d : Forest) (ls : List ℕ) → AreApart rules x → Picks rules (class_of ls) x y → Same ls (derive (choice x a) ∷ ts) d (derive y ∷ derive a ∷ ts) d
  pick_same x y a ts d ls h (i, p, inl g) =
      let k = begins_goes y ls g in
      both_same (choice x a) y a ts d ls (choice_both i x y a ls h p k) (λ c q m. choice_both i x y a (c ∷ q) h p (goes_front y c q ls m k))
  pick_same x y a ts d ls h (i, p, inr (e, n)) =
      both_same (choice x a) y a ts d ls (empty_both i x y a ls h p e (λ j z q g. n j z q (goes_begins z ls g)))
      (λ c q m. empty_both i x y a (c ∷ q) h p e (λ j z s g. n j z s (goes_begins z ls (goes_back z c q ls m g))))

  -- ---- the end of a list of shapes, and a leaf

  nothing_left : (ts : List Todo) → Goes_on rules class ts []
  nothing_left [] = refl
  nothing_left (derive p ∷ ts) = inl (so-far refl)
  nothing_left (close r a ∷ ts) = nothing_left ts

  pub goes_nowhere : (ts : List Todo) → Goes_on rules class ts []
  goes_nowhere ts = nothing_left ts

  pub end_same : (ts : List Todo) (d : Forest) (ls : List ℕ) → Same ls (derive end ∷ ts) d ts d
  end_same ts d ls = record {
    comes = λ t. (λ e. there e.0 e.1 e.2 t e.3, λ e. (ls, none, by-end, subst (λ u. Comes rules class ts u ls t) (sym (beside_none d)) e));
    goes = λ q m. (on q, λ e. inr (q, none, by-end, e));
  }
    where
      there : (mid : List ℕ) (f : Forest) → Derives rules class end ls mid f → (t : Forest) → Comes rules class ts (beside d f) mid t → Comes rules class ts d ls t
      there mid f by-end t k = subst (λ u. Comes rules class ts u ls t) (beside_none d) k

      on : (q : List ℕ) → Goes_on rules class (derive end ∷ ts) q → Goes_on rules class ts q
      on q (inl (so-far e)) = subst (Goes_on rules class ts) (sym e) (nothing_left ts)
      on q (inr (m, f, by-end, k)) = k

  -- a leaf is taken
  pub record Takes (l : ℕ) (ls : List ℕ) (ts : List Todo) (d : Forest) (ts' : List Todo) (d' : Forest) : Type 0 where
    pub comes : (t : Forest) → Comes rules class ts d (l ∷ ls) t ↔ Comes rules class ts' d' ls t
    pub goes : (q : List ℕ) → Goes_on rules class ts (l ∷ q) ↔ Goes_on rules class ts' q

  pub one_takes : (c l : ℕ) (a : Parts) (ts : List Todo) (d : Forest) (ls : List ℕ) → class l ≡ c → Takes l ls (derive (one c a) ∷ ts) d (derive a ∷ ts) (beside d (leaf l none))
  one_takes c l a ts d ls h = record {
    comes = λ t. (λ e. there e.0 e.1 e.2 t e.3, λ e. (e.0, leaf l e.1, by-one h e.2, subst (λ u. Comes rules class ts u e.0 t) (beside_assoc d (leaf l none) e.1) e.3));
    goes = λ q. (on q, off q);
  }
    where
      there : (mid : List ℕ) (f : Forest) → Derives rules class (one c a) (l ∷ ls) mid f → (t : Forest) → Comes rules class ts (beside d f) mid t → Comes rules class (derive a ∷ ts) (beside d (leaf l none)) ls t
      there mid f (by-one {f = g} p e) t k = (mid, g, e, subst (λ u. Comes rules class ts u mid t) (sym (beside_assoc d (leaf l none) g)) k)

      on : (q : List ℕ) → Goes_on rules class (derive (one c a) ∷ ts) (l ∷ q) → Goes_on rules class (derive a ∷ ts) q
      on q (inl (so-far e)) = absurd (cc)
      on q (inl (past-one p v)) = inl v
      on q (inr (m, f, by-one {f = g} p d, k)) = inr (m, g, d, k)

      off : (q : List ℕ) → Goes_on rules class (derive a ∷ ts) q → Goes_on rules class (derive (one c a) ∷ ts) (l ∷ q)
      off q (inl v) = inl (past-one h v)
      off q (inr k) = inr (k.0, leaf l k.1, by-one h k.2, k.3)

  -- ---- nothing goes on

  pub record Stuck (ls : List ℕ) (ts : List Todo) (d : Forest) : Type 0 where
    pub comes : (t : Forest) → Comes rules class ts d ls t → ⊥
    pub goes : (l : ℕ) (more : List ℕ) → ls ≡ l ∷ more → Goes_on rules class ts (l ∷ []) → ⊥

  pub one_stuck : (c : ℕ) (a : Parts) (ts : List Todo) (d : Forest) (ls : List ℕ) → (class_of ls ≡ Some c → ⊥) → Stuck ls (derive (one c a) ∷ ts) d
  unfolding class_of
  one_stuck c a ts d ls n = record { comes = λ t e. comes ls n e.0 e.1 e.2; goes = λ l more e w. on l (λ h. n (ap class_of e ∙ ap Some h)) w }
    where
      comes : (ls : List ℕ) → (class_of ls ≡ Some c → ⊥) → (mid : List ℕ) (f : Forest) → Derives rules class (one c a) ls mid f → ⊥
      comes ls n mid f (by-one p e) = n (ap Some p)

      on : (l : ℕ) → (class l ≡ c → ⊥) → Goes_on rules class (derive (one c a) ∷ ts) (l ∷ []) → ⊥
      on l n (inl (so-far e)) = absurd (cc)
      on l n (inl (past-one p v)) = n p
      on l n (inr (m, f, by-one p e, k)) = n p

  pub choice_stuck : (x a : Parts) (ts : List Todo) (d : Forest) (ls : List ℕ) → ((j : ℕ) (z : Parts) → IsAt j z x → (Begins rules (class_of ls) z → ⊥) × (CanBeEmpty rules z → ⊥)) → Stuck ls (derive (choice x a) ∷ ts) d
  unfolding class_of
  choice_stuck x a ts d ls n = record {
    comes = λ t e. comes ls (λ j z q g. (n j z q).0 (goes_begins z ls g)) e.0 e.1 e.2;
    goes = λ l more e w. on l (λ j z q g. (n j z q).0 (goes_begins z ls (subst (Goes rules class z) (sym e) g))) w;
  }
    where
      comes : (ls : List ℕ) → ((j : ℕ) (z : Parts) → IsAt j z x → Goes rules class z ls → ⊥) → (mid : List ℕ) (f : Forest) → Derives rules class (choice x a) ls mid f → ⊥
      comes ls m mid f (by-choice {i = j} {y = z} q g e e' s) = m j z q g
      comes ls m mid f (by-empty {i = j} {y = z} m' q k e e' s) = (n j z q).1 k

      on : (l : ℕ) → ((j : ℕ) (z : Parts) → IsAt j z x → CanBegin rules (class l) z → ⊥) → Goes_on rules class (derive (choice x a) ∷ ts) (l ∷ []) → ⊥
      on l m (inl (so-far e)) = absurd (cc)
      on l m (inl (in-choice {i = j} {y = z} q g v)) = m j z q g
      on l m (inl (past-choice {i = j} {y = z} q g e v)) = m j z q g
      on l m (inl (in-empty {i = j} {y = z} m' q k v)) = (n j z q).1 k
      on l m (inl (past-empty {i = j} {y = z} m' q k e v)) = (n j z q).1 k
      on l m (inr (mid, f, by-choice {i = j} {y = z} q g e e' s, w)) = m j z q g
      on l m (inr (mid, f, by-empty {i = j} {y = z} m' q k e e' s, w)) = (n j z q).1 k
