-- The paths of a store with changes laid over them: in order, and which they are.
use Rattle.std.proofs.Common.{◌≡◌, ℕ, Bool, true, false, cond, List, [], ◌∷◌, ◌++◌, Option, Some, None, refl, sym, ap, ◌∙◌, subst, append_assoc}
use Rattle.std.specs.Prelude.{◌||◌}
use Rattle.std.specs.Option.{is_some}
use Rattle.std.specs.FinMap.{find}
use Rattle.std.specs.declared.cmp.Ordering.TheVariants.{Less, Equal, Greater}
use Rattle.journal_text.specs.Changes.{Change}
use Rattle.standing_files.specs.Merged.{held, created, created_before, from_on, kept, behind}
use Rattle.standing_files.proofs.Order.{by_bytes, exact, less_from_greater, ties_decide}
use Rattle.standing_files.proofs.Chains.{Path, After, Chain, keys_of, ties, has, weaker, none_behind, find_behind}

-- both in order: where they meet, the change goes
abbrev pub paths_over : List Path → List Change → List Path
paths_over [] cs = created cs
paths_over (k ∷ ks) cs =
    let later = from_on k cs in
    created_before k cs ++ (kept k later ++ paths_over ks (behind k later))

-- ---- the three ways in which a path and the first change stand
over_less : (k : Path) (ks : List Path) (c : Change) (cs : List Change) → by_bytes c.0 k ≡ Less → paths_over (k ∷ ks) (c ∷ cs) ≡ held c.0 c.1 ++ paths_over (k ∷ ks) cs
over_less k ks c cs e = rw e (append_assoc (held c.0 c.1) _ _)

over_equal : (k : Path) (ks : List Path) (c : Change) (cs : List Change) → by_bytes c.0 k ≡ Equal → paths_over (k ∷ ks) (c ∷ cs) ≡ held k c.1 ++ paths_over ks cs
over_equal k ks c cs e = rw (e, e) refl

over_greater : (k : Path) (ks : List Path) (c : Change) (cs : List Change) → by_bytes c.0 k ≡ Greater → paths_over (k ∷ ks) (c ∷ cs) ≡ k ∷ paths_over ks (c ∷ cs)
over_greater k ks c cs e = rw (e, e) refl

-- ---- the order
chain_held : (b : Option Path) (k : Path) (bytes : Option (List ℕ)) (paths : List Path) → After b k → Chain (Some k) paths → Chain b (held k bytes ++ paths)
chain_held b k None paths after chain = weaker b k paths after chain
chain_held b k (Some bytes) paths after chain = (after, chain)

chain_created : (b : Option Path) (cs : List Change) → Chain b (keys_of cs) → Chain b (created cs)
chain_created b [] chain = tt
chain_created b (c ∷ cs) chain = chain_held b c.0 c.1 (created cs) chain.0 (chain_created (Some c.0) cs chain.1)

abbrev RisesOver : Path → List Path → Type 0
RisesOver k ks = (cs : List Change) → Chain (Some k) (keys_of cs) → Chain (Some k) (paths_over ks cs)

chain_first : (b : Option Path) (k : Path) (ks : List Path) (cs : List Change) → RisesOver k ks → After b k → Chain b (keys_of cs) → Chain b (paths_over (k ∷ ks) cs)
chain_first b k ks [] rest after chain = (after, rest [] tt)
chain_first b k ks (c ∷ cs) rest after chain = elim (by_bytes c.0 k) as (λ r. by_bytes c.0 k ≡ r → Chain b (paths_over (k ∷ ks) (c ∷ cs))) [
  | Less ↦ λ e. subst (Chain b) (sym (over_less k ks c cs e)) (chain_held b c.0 c.1 _ chain.0 (chain_first (Some c.0) k ks cs rest e chain.1))
  | Equal ↦ λ e.
      let here : Chain (Some k) (keys_of cs) = subst (λ p. Chain (Some p) (keys_of cs)) (exact c.0 k e) chain.1 in
      subst (Chain b) (sym (over_equal k ks c cs e)) (chain_held b k c.1 _ after (rest cs here))
  | Greater ↦ λ e. subst (Chain b) (sym (over_greater k ks c cs e)) (after, rest (c ∷ cs) (less_from_greater c.0 k e, chain.1))
] refl

pub chain_over : (b : Option Path) (ks : List Path) (cs : List Change) → Chain b ks → Chain b (keys_of cs) → Chain b (paths_over ks cs)
chain_over b [] cs one two = chain_created b cs two
chain_over b (k ∷ ks) cs one two = chain_first b k ks cs (λ ds chain. chain_over (Some k) ks ds one.1 chain) one.0 two

-- ---- which they are
abbrev pub on_has : Option (Option (List ℕ)) → Bool → Bool
on_has None b = b
on_has (Some bytes) b = is_some bytes

-- a change that keeps or makes the path
has_held : (q k : Path) (bytes : Option (List ℕ)) (paths : List Path) (later : Option (Option (List ℕ))) (b : Bool) → has q paths ≡ on_has later b → (ties q k ≡ true → (later ≡ None) × (b ≡ false)) → has q (held k bytes ++ paths) ≡ on_has (cond (ties q k) (Some bytes) later) b
unfolding has
has_held q k None paths later b is none =
    elim (ties q k) as (λ t. (t ≡ true → (later ≡ None) × (b ≡ false)) → has q paths ≡ on_has (cond t (Some None) later) b) [
      | true ↦ λ n. is ∙ ap (λ o. on_has o b) (n refl).0 ∙ (n refl).1
      | false ↦ λ n. is
    ] none
has_held q k (Some bytes) paths later b is none =
    elim (ties q k) as (λ t. (t || has q paths) ≡ on_has (cond t (Some (Some bytes)) later) b) [
      | true ↦ refl
      | false ↦ is
    ]

same_key : (q k : Path) (P : Path → Type 0) → ties q k ≡ true → P k → P q
same_key q k P tie h = subst P (sym ((ties_decide q k).0 tie)) h

has_created : (b : Option Path) (q : Path) (cs : List Change) → Chain b (keys_of cs) → has q (created cs) ≡ on_has (find by_bytes q cs) false
unfolding has
has_created b q [] chain = refl
has_created b q (c ∷ cs) chain = has_held q c.0 c.1 (created cs) (find by_bytes q cs) false (has_created (Some c.0) q cs chain.1) (λ tie.
    (find_behind q cs (same_key q c.0 (λ p. Chain (Some p) (keys_of cs)) tie chain.1), refl))

abbrev HasOver : Path → Path → List Path → Type 0
HasOver q k ks = (b : Option Path) (cs : List Change) → Chain b (keys_of cs) → has q (paths_over ks cs) ≡ on_has (find by_bytes q cs) (has q ks)

-- where the path is in front
has_front : (t : Bool) (later : Option (Option (List ℕ))) (paths b : Bool) → paths ≡ on_has later b → (t ≡ true → later ≡ None) → (t || paths) ≡ on_has later (t || b)
has_front true later paths b is none = ap (λ o. on_has o true) (sym (none refl))
has_front false later paths b is none = is

-- the path itself has a change
has_same : (t : Bool) (bytes : Option (List ℕ)) (later : Option (Option (List ℕ))) (b : Bool) → on_has (cond t (Some bytes) later) b ≡ on_has (cond t (Some bytes) later) (t || b)
has_same true bytes later b = refl
has_same false bytes later b = refl

has_first : (b : Option Path) (q k : Path) (ks : List Path) (cs : List Change) → HasOver q k ks → Chain (Some k) ks → Chain b (keys_of cs) → has q (paths_over (k ∷ ks) cs) ≡ on_has (find by_bytes q cs) (has q (k ∷ ks))
unfolding has
has_first b q k ks [] rest one chain = ap (λ paths. ties q k || paths) (rest None [] tt)
has_first b q k ks (c ∷ cs) rest one chain = elim (by_bytes c.0 k) as (λ r. by_bytes c.0 k ≡ r → has q (paths_over (k ∷ ks) (c ∷ cs)) ≡ on_has (find by_bytes q (c ∷ cs)) (has q (k ∷ ks))) [
  | Less ↦ λ e. ap (has q) (over_less k ks c cs e) ∙ has_held q c.0 c.1 (paths_over (k ∷ ks) cs) (find by_bytes q cs) (has q (k ∷ ks)) (has_first (Some c.0) q k ks cs rest one chain.1) (λ tie.
      (find_behind q cs (same_key q c.0 (λ p. Chain (Some p) (keys_of cs)) tie chain.1), none_behind q (k ∷ ks) (same_key q c.0 (λ p. Chain (Some p) (k ∷ ks)) tie (e, one))))
  | Equal ↦ λ e.
      let same : c.0 ≡ k = exact c.0 k e in
      ap (has q) (over_equal k ks c cs e) ∙ has_held q k c.1 (paths_over ks cs) (find by_bytes q cs) (has q ks) (rest (Some c.0) cs chain.1) (λ tie.
      (find_behind q cs (same_key q k (λ p. Chain (Some p) (keys_of cs)) tie (subst (λ p. Chain (Some p) (keys_of cs)) same chain.1)), none_behind q ks (same_key q k (λ p. Chain (Some p) ks) tie one)))
      ∙ has_same (ties q k) c.1 (find by_bytes q cs) (has q ks)
      ∙ ap (λ p. on_has (cond (ties q p) (Some c.1) (find by_bytes q cs)) (has q (k ∷ ks))) (sym same)
  | Greater ↦ λ e. ap (has q) (over_greater k ks c cs e) ∙ has_front (ties q k) (find by_bytes q (c ∷ cs)) (has q (paths_over ks (c ∷ cs))) (has q ks) (rest b (c ∷ cs) chain) (λ tie.
      find_behind q (c ∷ cs) (same_key q k (λ p. Chain (Some p) (keys_of (c ∷ cs))) tie (less_from_greater c.0 k e, chain.1)))
] refl

pub has_over : (b d : Option Path) (q : Path) (ks : List Path) (cs : List Change) → Chain b ks → Chain d (keys_of cs) → has q (paths_over ks cs) ≡ on_has (find by_bytes q cs) (has q ks)
unfolding has
has_over b d q [] cs one two = has_created d q cs two
has_over b d q (k ∷ ks) cs one two = has_first d q k ks cs (λ e ds chain. has_over (Some k) e q ks ds one.1 chain) one.1 two
