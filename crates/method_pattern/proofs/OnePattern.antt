-- A text is one method pattern.
use Rattle.std.proofs.Common.{◌≡◌, ℕ, inl, inr, Bool, true, false, List, [], ◌∷◌, ◌++◌, length, refl, sym, ap, subst, ◌∙◌, arith}
use Rattle.std.proofs.Common.{append-nil, length-append}
use Rattle.std.specs.Prelude.{◌==◌}
use Rattle.std.specs.List.{list_all}
use Rattle.method_pattern.specs.Texts.{IsTypePattern, AreParams, last_param, parted, MethodPatternsAreOne}
use Rattle.method_pattern.specs.declared.pattern.TypePattern.{TypePattern}
use Rattle.method_pattern.specs.declared.pattern.MethodPattern.{MethodPattern}
use Rattle.method_pattern.specs.declared.pattern.ParamPattern.{ParamPattern}
use Rattle.method_pattern.specs.declared.param_text.WrittenParam.{WrittenParam}
use Rattle.method_pattern.specs.Reading.{outside, IsParamText, IsBehindParam, params_end, comma, IsParamList}
use Rattle.method_pattern.proofs.Places.{cut}
use Rattle.method_pattern.proofs.OneType.{one_type_pattern, written, param_one}
use Rattle.method_pattern.proofs.ParamSteps.{inner, inner_param, param_parted, some_param, no_blank_first, blanks_end}
use Rattle.method_pattern.proofs.MethodSteps.{list_all_closed, call_first, call_name, owner_all}

-- ---- parameters

-- what stands behind a last parameter
none_more : (v : Bool) (more : List ParamPattern) (behind : List ℕ) → behind ≡ [] → (v ≡ true → (behind ≡ []) × (more ≡ []))
    → (v ≡ false → IsBehindParam more behind) → more ≡ []
none_more true more behind e none others = (none refl).1
none_more false more behind e none others = go (others refl)
  where
    go : IsBehindParam more behind → more ≡ []
    go (params_end p is) = p
    go (comma before after rest before_are after_are rest_are is) =
        absurd (omega (arith, ap length (sym e ∙ is), length-append before (44 ∷ (after ++ rest))))

-- a whole text is one parameter
whole_one : (w : WrittenParam) (s : List ℕ) → IsParamText w s → (params : List ParamPattern) → AreParams params s
    → w.param ∷ [] ≡ params
whole_one w s form params h =
    let p = param_parted params s h in
    let same = cut inner s p.front [] p.behind (inner_param w s form) (inner_param p.param p.front p.form) tt p.ends
    (append-nil s ∙ p.is) in
    let one : p.param ≡ w = param_one p.param w s (subst (IsParamText p.param) (sym same.0) p.form) form in
    let more : p.more ≡ [] = none_more p.param.varargs p.more p.behind (sym same.1) p.none p.others in
    sym (p.params_are ∙ (ap (λ (x : WrittenParam). x.param ∷ p.more) one ∙ ap (λ x. w.param ∷ x) more))

-- what stands behind a parameter before a comma
comma_one : (before behind rest : List ℕ) (others : List ParamPattern)
    → list_all (λ b. b == 32) before ≡ true → list_all (λ b. b == 32) behind ≡ true → AreParams others rest
    → ((params : List ParamPattern) → AreParams params rest → others ≡ params)
    → (more : List ParamPattern) → IsBehindParam more (before ++ 44 ∷ (behind ++ rest)) → others ≡ more
comma_one before behind rest others before_are behind_are h one more (params_end p is) =
    absurd (omega (arith, ap length is, length-append before (44 ∷ (behind ++ rest))))
comma_one before behind rest others before_are behind_are h one more (comma a b r a_are b_are r_are is) =
    let same = cut (λ c. c == 32) before a (44 ∷ (behind ++ rest)) (44 ∷ (b ++ r)) before_are a_are refl refl is in
    let tails : behind ++ rest ≡ b ++ r = let f : 44 ∷ (behind ++ rest) ≡ 44 ∷ (b ++ r) = same.1 in cc in
    let left = cut (λ c. c == 32) behind b rest r behind_are b_are (no_blank_first others rest h) (no_blank_first more r r_are) tails in
    one more (subst (AreParams more) (sym left.1) r_are)

params_one : (a b : List ParamPattern) (s : List ℕ) → AreParams a s → AreParams b s → a ≡ b
params_one a b s (last_param param (inl plain) e) k = e ∙ whole_one (written param false) s plain b k
params_one a b s (last_param param (inr varargs) e) k = e ∙ whole_one (written param true) s varargs b k
params_one a b s (parted param others front before behind rest param_is before_are behind_are rest_are e is) k =
    let w = written param false in
    let tail = before ++ 44 ∷ (behind ++ rest) in
    let p = param_parted b s k in
    let same = cut inner front p.front tail p.behind (inner_param w front param_is) (inner_param p.param p.front p.form)
    (blanks_end before (behind ++ rest) before_are) p.ends (sym is ∙ p.is) in
    let one : p.param ≡ w = param_one p.param w front (subst (IsParamText p.param) (sym same.0) p.form) param_is in
    let left = comma_one before behind rest others before_are behind_are rest_are
    (λ params h. params_one others params rest rest_are h) p.more
    (subst (IsBehindParam p.more) (sym same.1) (p.others (ap (λ (x : WrittenParam). x.varargs) one))) in
    e ∙ (ap (λ x. param ∷ x) left ∙ sym (p.params_are ∙ ap (λ (x : WrittenParam). x.param ∷ p.more) one))

some_params : (params : List ParamPattern) (s : List ℕ) → AreParams params s → s ≡ [] → ⊥
some_params params s h e =
    let p = param_parted params s h in
    omega (arith, some_param p.param p.front p.form, ap length (sym e ∙ p.is), length-append p.front p.behind)

lists_one : (a b : List ParamPattern) (s : List ℕ) → IsParamList a s → IsParamList b s → a ≡ b
lists_one a b s (inl h) (inl k) = h.1 ∙ sym k.1
lists_one a b s (inl h) (inr k) = absurd (some_params b s k h.0)
lists_one a b s (inr h) (inl k) = absurd (some_params a s h k.0)
lists_one a b s (inr h) (inr k) = params_one a b s h k

-- ---- patterns

abbrev pub made : TypePattern → List ℕ → List ParamPattern → MethodPattern
made owner name params = record { owner = owner; name = name; params = params }

pub one_method_pattern : MethodPatternsAreOne
one_method_pattern s a b h k =
    let owner = cut (outside (32 ∷ [])) h.owner k.owner (32 ∷ (h.blanks ++ (a.name ++ 40 ∷ (h.params ++ 41 ∷ []))))
    (32 ∷ (k.blanks ++ (b.name ++ 40 ∷ (k.params ++ 41 ∷ [])))) (owner_all a.owner h.owner h.owner_is)
    (owner_all b.owner k.owner k.owner_is) refl refl (sym h.is ∙ k.is) in
    let spaced : h.blanks ++ (a.name ++ 40 ∷ (h.params ++ 41 ∷ [])) ≡ k.blanks ++ (b.name ++ 40 ∷ (k.params ++ 41 ∷ [])) =
    tails 32 _ _ owner.1 in
    let call = cut (λ c. c == 32) h.blanks k.blanks (a.name ++ 40 ∷ (h.params ++ 41 ∷ [])) (b.name ++ 40 ∷ (k.params ++ 41 ∷ []))
    h.blanks_are k.blanks_are
    (call_first (a.name, a.params) _ (h.params ++ 41 ∷ [], (refl, h.name_is, (h.params, (refl, h.params_are)))))
    (call_first (b.name, b.params) _ (k.params ++ 41 ∷ [], (refl, k.name_is, (k.params, (refl, k.params_are))))) spaced in
    let name = cut (outside (40 ∷ [])) a.name b.name (40 ∷ (h.params ++ 41 ∷ [])) (40 ∷ (k.params ++ 41 ∷ []))
    (call_name tt a.name h.name_is) (call_name tt b.name k.name_is) refl refl call.1 in
    let closed : h.params ++ 41 ∷ [] ≡ k.params ++ 41 ∷ [] = tails 40 _ _ name.1 in
    let params = cut (outside (41 ∷ [])) h.params k.params (41 ∷ []) (41 ∷ []) (list_all_closed a.params h.params h.params_are)
    (list_all_closed b.params k.params k.params_are) refl refl closed in
    let owners : a.owner ≡ b.owner =
    one_type_pattern h.owner a.owner b.owner h.owner_is (subst (IsTypePattern b.owner) (sym owner.0) k.owner_is) in
    let lists : a.params ≡ b.params =
    lists_one a.params b.params h.params h.params_are (subst (IsParamList b.params) (sym params.0) k.params_are) in
    ap (λ o. made o a.name a.params) owners
    ∙ (ap (λ n. made b.owner n a.params) name.0 ∙ ap (λ p. made b.owner b.name p) lists)
  where
    tails : (d : ℕ) (x y : List ℕ) → d ∷ x ≡ d ∷ y → x ≡ y
    tails d x y e = cc
