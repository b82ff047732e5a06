-- The calls of the parts that are left, one part further; and none where no leaf is one of the unit.
use Rattle.std.proofs.Common.{◌≡◌, ◌⊎◌, ℕ, zero, suc, ◌+◌, ◌-◌, ◌<◌, ◌≤◌, Bool, true, false, List, [], ◌∷◌, ◌++◌}
use Rattle.std.proofs.Common.{length, get_or, drop, refl, sym, ap, subst, ◌∙◌, arith, append_assoc, append-nil, inl}
use Rattle.std.proofs.Common.{inr}
use Rattle.std.specs.Prelude.{Option, Some, None, if◌then◌else◌, ◌==◌, ◌||◌, ◌&&◌, nat_le, nat_lt}
use Rattle.std.proofs.lemmas.Bool.Decides.{nat_tests}
use Rattle.rw_base.specs.declared.tree.NodeId.{NodeId}
use Rattle.rw_base.specs.declared.tree.NodeRow.{NodeRow}
use Rattle.rw_base.specs.declared.tree.Part.{Part}
use Rattle.rw_base.specs.declared.tree.Part.TheVariants as part
use Rattle.rw_base.specs.Arena.{Arena, IsTree, first_of, past_of, kind_of}
use Rattle.rw_base.specs.Trees.{Numbered, none, leaf, node, leaves_in}
use Rattle.rw_base.specs.Laid.{kids_of, forest_of}
use Rattle.rw_base.specs.Trees.{numbers}
use Rattle.rw_base.specs.SpanLaws.{kids_leaves}
use Rattle.rw_base.specs.PartLaws.{leaf_next, node_next, none_next}
use Rattle.java_reader.specs.declared.call.TheConstants.{PRIMARY, SELECTOR, ARGS}
use Rattle.java_reader.specs.declared.call.CallView.{CallView}
use Rattle.java_reader.specs.declared.call.Seen.{Seen}
use Rattle.java_reader.specs.Calls.{opens, creates, nothing, found, with_leaf, with_args, with_node, seen_in, call_at}
use Rattle.java_reader.specs.Calls.{own_call, node_calls, calls_in, within}

-- ---- what is seen

module _ (c : ℕ → ℕ) (rows : List NodeRow) (ps : List Part) (s : Seen) where
  pub seen_end : (k : ℕ) → length ps ≤ k → seen_in c s (forest_of rows (drop k ps)) ≡ s
  unfolding seen_in
  seen_end k le = ap (seen_in c s) (none_next rows ps k le)

  module _ (k : ℕ) (d : Part) (lt : k < length ps) where
    pub seen_leaf : (i : ℕ) → get_or ps k d ≡ part.Leaf i → seen_in c s (forest_of rows (drop k ps)) ≡ seen_in c (with_leaf c s i) (forest_of rows (drop (k + 1) ps))
    unfolding seen_in
    seen_leaf i e = ap (seen_in c s) (leaf_next rows ps k d i lt e)

    pub seen_node : (m : NodeId) → get_or ps k d ≡ part.Node m
        → seen_in c s (forest_of rows (drop k ps)) ≡ seen_in c (with_node c s m.0 (kind_of rows m.0) (kids_of rows m.0)) (forest_of rows (drop (k + 1) ps))
    unfolding seen_in
    seen_node m e = ap (seen_in c s) (node_next rows ps k d m lt e)

-- ---- those of some leaves

pub within_none : (first past : ℕ) → within first past [] ≡ []
unfolding within
within_none first past = refl

pub within_in : (first past : ℕ) (v : CallView) → (nat_le first v.name_leaf && nat_lt v.name_leaf past) ≡ true → within first past (v ∷ []) ≡ v ∷ []
unfolding within
within_in first past v e = rw e refl

pub within_out : (first past : ℕ) (v : CallView) → (nat_le first v.name_leaf && nat_lt v.name_leaf past) ≡ false → within first past (v ∷ []) ≡ []
unfolding within
within_out first past v e = rw e refl

pub within_append : (first past : ℕ) (xs ys : List CallView) → within first past (xs ++ ys) ≡ within first past xs ++ within first past ys
unfolding within
within_append first past [] ys = refl
within_append first past (v ∷ xs) ys =
    ap (λ r. if nat_le first v.name_leaf && nat_lt v.name_leaf past then v ∷ r else r) (within_append first past xs ys)
    ∙ by_test (nat_le first v.name_leaf && nat_lt v.name_leaf past)
  where
    by_test : (b : Bool) → (if b then v ∷ (within first past xs ++ within first past ys) else within first past xs ++ within first past ys)
        ≡ (if b then v ∷ within first past xs else within first past xs) ++ within first past ys
    by_test true = refl
    by_test false = refl

-- ---- the walk

module _ (c : ℕ → ℕ) (rows : List NodeRow) (ps : List Part) (n first past : ℕ) (all out : List CallView) (p : ℕ) where
  pub calls_end : (k : ℕ) → length ps ≤ k → out ++ within first past (calls_in c n p (forest_of rows (drop k ps))) ≡ all → out ≡ all
  unfolding calls_in within
  calls_end k le w = sym (append-nil out) ∙ (ap (λ (g : Numbered). out ++ within first past (calls_in c n p g)) (sym (none_next rows ps k le)) ∙ w)

  module _ (k : ℕ) (d : Part) (lt : k < length ps) where
    pub calls_leaf : (i : ℕ) → get_or ps k d ≡ part.Leaf i → out ++ within first past (calls_in c n p (forest_of rows (drop k ps))) ≡ all
        → out ++ within first past (calls_in c n (p + 1) (forest_of rows (drop (k + 1) ps))) ≡ all
    unfolding calls_in
    calls_leaf i e w = ap (λ (g : Numbered). out ++ within first past (calls_in c n p g)) (sym (leaf_next rows ps k d i lt e)) ∙ w

    pub calls_node : (m : NodeId) (new : List CallView) → get_or ps k d ≡ part.Node m
        → new ≡ out ++ within first past (node_calls c n p m.0 (kind_of rows m.0) (kids_of rows m.0))
        → out ++ within first past (calls_in c n p (forest_of rows (drop k ps))) ≡ all
        → new ++ within first past (calls_in c n (p + 1) (forest_of rows (drop (k + 1) ps))) ≡ all
    unfolding calls_in
    calls_node m new e is w =
        let own = own_call c n p m.0 (kind_of rows m.0) (kids_of rows m.0) in
        let inner = calls_in c m.0 0 (kids_of rows m.0) in
        let rest = calls_in c n (p + 1) (forest_of rows (drop (k + 1) ps)) in
        ap (λ x. x ++ within first past rest) is
        ∙ (append_assoc out (within first past (own ++ inner)) (within first past rest)
        ∙ (ap (λ x. out ++ x) (sym (within_append first past (own ++ inner) rest) ∙ ap (within first past) (append_assoc own inner rest))
        ∙ (ap (λ (g : Numbered). out ++ within first past (calls_in c n p g)) (sym (node_next rows ps k d m lt e)) ∙ w)))

pub calls_both : (first past : ℕ) (out middle new own inner : List CallView) → middle ≡ out ++ within first past own → new ≡ middle ++ within first past inner
    → new ≡ out ++ within first past (own ++ inner)
calls_both first past out middle new own inner m e =
    e ∙ (ap (λ x. x ++ within first past inner) m ∙ (append_assoc out (within first past own) (within first past inner) ∙ ap (λ x. out ++ x) (sym (within_append first past own inner))))

-- ---- none of other leaves

pub AllOf : (ℕ → Type 0) → List ℕ → Type 0
AllOf P [] = Unit {0}
AllOf P (x ∷ xs) = P x × AllOf P xs

front_of : (P : ℕ → Type 0) (xs ys : List ℕ) → AllOf P (xs ++ ys) → AllOf P xs
unfolding AllOf
front_of P [] ys h = tt
front_of P (x ∷ xs) ys h = (h.0, front_of P xs ys h.1)

back_of : (P : ℕ → Type 0) (xs ys : List ℕ) → AllOf P (xs ++ ys) → AllOf P ys
unfolding AllOf
back_of P [] ys h = h
back_of P (x ∷ xs) ys h = back_of P xs ys h.1

of_numbers : (P : ℕ → Type 0) (a n : ℕ) → ((l : ℕ) → a ≤ l → l < a + n → P l) → AllOf P (numbers a n)
unfolding AllOf
of_numbers P a zero h = tt
of_numbers P a (suc n) h = (h a (omega arith) (omega arith), of_numbers P (a + 1) n (λ l le lt. h l (omega arith) (omega arith)))

-- the name is a leaf
module _ (c : ℕ → ℕ) (P : ℕ → Type 0) where
  abbrev Named : Seen → Type 0
  Named s = (l : ℕ) → s.name ≡ Some l → P l

  named_leaf : (s : Seen) (i : ℕ) → Named s → P i → Named (with_leaf c s i)
  named_leaf s i h p = by_test (found s)
    where
      one : (l : ℕ) → Some i ≡ Some l → P l
      one l e = subst P (let q : i ≡ l = cc in q) p

      by_test : (b : Bool) → Named (if b then s else record { name = Some i; is_new = s.is_new || creates (c i); args = None })
      by_test true = h
      by_test false = one

  named_args : (s : Seen) (a : ℕ) → Named s → Named (with_args s a)
  named_args s a h = by_test (found s)
    where
      by_test : (b : Bool) → Named (if b then s else record { name = s.name; is_new = s.is_new; args = Some a })
      by_test true = h
      by_test false = h

  pub seen_name : (s : Seen) (f : Numbered) → Named s → AllOf P (leaves_in f) → Named (seen_in c s f)
  unfolding seen_in AllOf
  seen_name s none h all = h
  seen_name s (leaf i f) h all = seen_name (with_leaf c s i) f (named_leaf s i h all.0) all.1
  seen_name s (node a k kids f) h all =
      seen_name (with_node c s a k kids) f
      (by_tests (k == ARGS) (opens k) (named_args s a h) (seen_name s kids h (front_of P (leaves_in kids) (leaves_in f) all)))
      (back_of P (leaves_in kids) (leaves_in f) all)
    where
      by_tests : (x y : Bool) → Named (with_args s a) → Named (seen_in c s kids) → Named (if x then with_args s a else if y then seen_in c s kids else s)
      by_tests true y g i = g
      by_tests false true g i = i
      by_tests false false g i = h

module _ (c : ℕ → ℕ) (first past : ℕ) where
  abbrev IsOut : ℕ → Type 0
  IsOut l = (l < first) ⊎ (past ≤ l)

  out_test : (l : ℕ) → IsOut l → (nat_le first l && nat_lt l past) ≡ false
  out_test l (inl h) = grind (arith, nat_tests)
  out_test l (inr h) = grind (arith, nat_tests)

  call_out : (n part receiver : ℕ) (s : Seen) → Named c IsOut s → within first past (call_at n part receiver s) ≡ []
  call_out n part receiver s h = by_both s.name s.args h
    where
      by_both : (o a : Option ℕ) → ((l : ℕ) → o ≡ Some l → IsOut l) → within first past (call_at n part receiver (record { name = o; is_new = s.is_new; args = a })) ≡ []
      by_both None a g = within_none first past
      by_both (Some l) None g = within_none first past
      by_both (Some l) (Some a) g = within_out first past (record { node = record { 0 = n }; part = part; receiver = receiver; name_leaf = l; args = record { 0 = a }; is_new = s.is_new }) (out_test l (g l refl))

  own_out : (n p m k : ℕ) (kids : Numbered) → AllOf IsOut (leaves_in kids) → within first past (own_call c n p m k kids) ≡ []
  own_out n p m k kids all = by_tests (k == PRIMARY) (k == SELECTOR)
    where
      no_name : Named c IsOut nothing
      no_name l e = absurd (cc)

      seen : Named c IsOut (seen_in c nothing kids)
      seen = seen_name c IsOut nothing kids no_name all

      by_tests : (x y : Bool) → within first past (if x then call_at m 1 0 (seen_in c nothing kids) else if y then call_at n p p (seen_in c nothing kids) else []) ≡ []
      by_tests true y = call_out m 1 0 (seen_in c nothing kids) seen
      by_tests false true = call_out n p p (seen_in c nothing kids) seen
      by_tests false false = within_none first past

  calls_out : (n p : ℕ) (f : Numbered) → AllOf IsOut (leaves_in f) → within first past (calls_in c n p f) ≡ []
  unfolding calls_in AllOf
  calls_out n p none all = within_none first past
  calls_out n p (leaf i f) all = calls_out n (p + 1) f all.1
  calls_out n p (node m k kids f) all =
      let inside = front_of IsOut (leaves_in kids) (leaves_in f) all in
      let rest = back_of IsOut (leaves_in kids) (leaves_in f) all in
      within_append first past (own_call c n p m k kids) (calls_in c m 0 kids ++ calls_in c n (p + 1) f)
      ∙ (ap (λ x. x ++ within first past (calls_in c m 0 kids ++ calls_in c n (p + 1) f)) (own_out n p m k kids inside)
      ∙ (within_append first past (calls_in c m 0 kids) (calls_in c n (p + 1) f)
      ∙ (ap (λ x. x ++ within first past (calls_in c n (p + 1) f)) (calls_out m 0 kids inside) ∙ calls_out n (p + 1) f rest)))

  -- A node that ends before these leaves or begins behind them has none.
  pub node_out : (t : Arena) → IsTree t → (n p m : ℕ) → m < length t.nodes → (past_of t.nodes m ≤ first) ⊎ (past ≤ first_of t.nodes m) → (out : List CallView)
      → out ≡ out ++ within first past (node_calls c n p m (kind_of t.nodes m) (kids_of t.nodes m))
  node_out t tree n p m lt away out =
      let kids = kids_of t.nodes m in
      let all : AllOf IsOut (leaves_in kids) =
      subst (AllOf IsOut) (sym (kids_leaves t tree m lt)) (of_numbers IsOut (first_of t.nodes m) (past_of t.nodes m - first_of t.nodes m) (λ l le h. by_side l le h away)) in
      sym (ap (λ x. out ++ x) (within_append first past (own_call c n p m (kind_of t.nodes m) kids) (calls_in c m 0 kids)
      ∙ (ap (λ x. x ++ within first past (calls_in c m 0 kids)) (own_out n p m (kind_of t.nodes m) kids all) ∙ calls_out m 0 kids all))
      ∙ append-nil out)
    where
      by_side : (l : ℕ) → first_of t.nodes m ≤ l → l < first_of t.nodes m + (past_of t.nodes m - first_of t.nodes m) → (past_of t.nodes m ≤ first) ⊎ (past ≤ first_of t.nodes m) → IsOut l
      by_side l le h (inl a) = inl (omega (arith, tree.ordered m lt))
      by_side l le h (inr a) = inr (omega arith)
