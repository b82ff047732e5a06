-- The first declaration of each name, one declaration after another.
use Rattle.std.proofs.Common.{◌≡◌, ◌∙◌, refl, sym, ap, subst, ℕ, List, [], ◌∷◌, ◌++◌, Bool, true, false, not, ◌||◌}
use Rattle.std.proofs.Common.{if◌then◌else◌, cond, filter, append-nil}
use Rattle.std.specs.List.{flat_map, list_any}
use Rattle.std.proofs.lemmas.List.Elements.{filter-append}
use Rattle.std.proofs.lemmas.Grind.{flat_map-append}
use Rattle.std.proofs.lemmas.List.Folds.{list_any-append}
use Rattle.indexmap.specs.IndexSet.{IndexSet, contains}
use Rattle.jtypes.specs.World.{name_eq}
use Rattle.declared_types.specs.declared.written.DeclaredType.{DeclaredType}
use Rattle.declared_types.specs.declared.written.Skeleton.{Skeleton}
use Rattle.class_world.specs.Worlds.{all_declared, first_of_each}
use Rattle.class_world.specs.Once.{is_declared, NamesDiffer, AreFirsts}
use Rattle.class_world.proofs.Names.{true_false, same_names, name_eq-swap}

pub or_false : (r s : Bool) → (r || s) ≡ false → (r ≡ false) × (s ≡ false)
or_false true s e = true_false e
or_false false s e = (refl, e)

or_right : (r : Bool) → (r || false) ≡ r
or_right true = refl
or_right false = refl

-- one declaration more
pub declared_more : (n : List ℕ) (ds : List DeclaredType) (d : DeclaredType)
    → is_declared n (ds ++ d ∷ []) ≡ (is_declared n ds || name_eq d.name n)
declared_more n ds d =
    list_any-append (λ e. name_eq e.name n) ds (d ∷ [])
    ∙ ap (λ b. is_declared n ds || b) (or_right (name_eq d.name n))

declared_kept : (n : List ℕ) (ds : List DeclaredType) (d : DeclaredType) → is_declared d.name ds ≡ true
    → is_declared n ds ≡ is_declared n (ds ++ d ∷ [])
declared_kept n ds d there = by_test (name_eq d.name n) refl ∙ sym (declared_more n ds d)
  where
    by_test : (b : Bool) → name_eq d.name n ≡ b → is_declared n ds ≡ (is_declared n ds || name_eq d.name n)
    by_test true e =
        let here : is_declared n ds ≡ true = subst (λ m. is_declared m ds ≡ true) (same_names d.name n e) there in
        here ∙ ap (λ b. b || name_eq d.name n) (sym here)
    by_test false e = sym (ap (λ b. is_declared n ds || b) e ∙ or_right (is_declared n ds))

or_swap : (b r : Bool) → cond b true r ≡ (r || b)
or_swap true true = refl
or_swap true false = refl
or_swap false r = sym (or_right r)

others : List ℕ → List DeclaredType → List DeclaredType
others n ds = filter (λ e. not (name_eq e.name n)) ds

one_left : (n : List ℕ) (d : DeclaredType) → name_eq n d.name ≡ false → others n (d ∷ []) ≡ d ∷ []
unfolding others
one_left n d e = ap (λ b. if not b then d ∷ [] else []) (name_eq-swap d.name n ∙ e)

none_left : (n : List ℕ) (d : DeclaredType) → name_eq n d.name ≡ true → others n (d ∷ []) ≡ []
unfolding others
none_left n d e = ap (λ b. if not b then d ∷ [] else []) (name_eq-swap d.name n ∙ e)

others-append : (n : List ℕ) (ds es : List DeclaredType) → others n (ds ++ es) ≡ others n ds ++ others n es
unfolding others
others-append n ds es = filter-append (λ e. not (name_eq e.name n)) ds es

-- a new name is put at the end
pub firsts_added : (ds : List DeclaredType) (d : DeclaredType) → is_declared d.name ds ≡ false
    → first_of_each (ds ++ d ∷ []) ≡ first_of_each ds ++ d ∷ []
unfolding others
firsts_added [] d e = refl
firsts_added (x ∷ xs) d e =
    let both : (name_eq x.name d.name ≡ false) × (is_declared d.name xs ≡ false) = or_false _ _ e in
    ap (λ es. x ∷ es)
    (ap (others x.name) (firsts_added xs d both.1)
    ∙ others-append x.name (first_of_each xs) (d ∷ [])
    ∙ ap (λ es. others x.name (first_of_each xs) ++ es) (one_left x.name d both.0))

-- a name that was there changes nothing
pub firsts_kept : (ds : List DeclaredType) (d : DeclaredType) → is_declared d.name ds ≡ true
    → first_of_each (ds ++ d ∷ []) ≡ first_of_each ds
unfolding others
firsts_kept [] d e = true_false (sym e)
firsts_kept (x ∷ xs) d e = by_rest (is_declared d.name xs) refl (firsts_kept xs d)
  where
    by_rest : (r : Bool) → is_declared d.name xs ≡ r
        → (is_declared d.name xs ≡ true → first_of_each (xs ++ d ∷ []) ≡ first_of_each xs)
        → first_of_each ((x ∷ xs) ++ d ∷ []) ≡ first_of_each (x ∷ xs)
    by_rest true h kept = ap (λ es. x ∷ others x.name es) (kept h)
    by_rest false h kept =
        let here : name_eq x.name d.name ≡ true = sym (or_right (name_eq x.name d.name)) ∙ ap (λ b. name_eq x.name d.name || b) (sym h) ∙ e in
        ap (λ es. x ∷ es)
        (ap (others x.name) (firsts_added xs d h)
        ∙ others-append x.name (first_of_each xs) (d ∷ [])
        ∙ ap (λ es. others x.name (first_of_each xs) ++ es) (none_left x.name d here)
        ∙ append-nil (others x.name (first_of_each xs)))

-- ---- with the set of their names

module _ {S : Type 0} (names : IndexSet (List ℕ) S) (firsts ds : List DeclaredType) (d : DeclaredType)
    (h : AreFirsts names firsts ds) where
  pub names_kept : contains name_eq names d.name ≡ true → AreFirsts names firsts (ds ++ d ∷ [])
  names_kept there =
      let declared : is_declared d.name ds ≡ true = sym (h.each_name d.name) ∙ there in
      record {
        first = h.first ∙ sym (firsts_kept ds d declared);
        each_name = λ n. h.each_name n ∙ declared_kept n ds d declared;
      }

  pub names_added : contains name_eq names d.name ≡ false → (more : IndexSet (List ℕ) S) (all : List DeclaredType)
      → ((n : List ℕ) → contains name_eq more n ≡ cond (name_eq d.name n) true (contains name_eq names n))
      → all ≡ firsts ++ d ∷ [] → AreFirsts more all (ds ++ d ∷ [])
  names_added absent more all put is =
      let new : is_declared d.name ds ≡ false = sym (h.each_name d.name) ∙ absent in
      record {
        first = is ∙ ap (λ xs. xs ++ d ∷ []) h.first ∙ sym (firsts_added ds d new);
        each_name = λ n.
            put n ∙ or_swap (name_eq d.name n) (contains name_eq names n)
            ∙ ap (λ b. b || name_eq d.name n) (h.each_name n) ∙ sym (declared_more n ds d);
      }

-- ---- no name stands twice among them

declared-others : (n m : List ℕ) (ds : List DeclaredType) → is_declared n ds ≡ false → is_declared n (others m ds) ≡ false
unfolding others
declared-others n m [] e = refl
declared-others n m (d ∷ ds) e =
    let both : (name_eq d.name n ≡ false) × (is_declared n ds ≡ false) =
    or_false (name_eq d.name n) (is_declared n ds) e in
    by_test both.0 (declared-others n m ds both.1) (not (name_eq d.name m))
  where
    by_test : name_eq d.name n ≡ false → is_declared n (others m ds) ≡ false → (b : Bool)
        → is_declared n (if b then d ∷ others m ds else others m ds) ≡ false
    by_test here rest true = ap (λ b. b || is_declared n (others m ds)) here ∙ rest
    by_test here rest false = rest

not_declared : (n : List ℕ) (ds : List DeclaredType) → is_declared n (others n ds) ≡ false
unfolding others
not_declared n [] = refl
not_declared n (d ∷ ds) = by_test (not_declared n ds) (name_eq d.name n) refl
  where
    by_test : is_declared n (others n ds) ≡ false → (b : Bool) → name_eq d.name n ≡ b
        → is_declared n (if not b then d ∷ others n ds else others n ds) ≡ false
    by_test rest true e = rest
    by_test rest false e = ap (λ b. b || is_declared n (others n ds)) e ∙ rest

differ-others : (m : List ℕ) (ds : List DeclaredType) → NamesDiffer ds → NamesDiffer (others m ds)
unfolding others
differ-others m [] h = tt
differ-others m (d ∷ ds) h = by_test (differ-others m ds h.1) (not (name_eq d.name m))
  where
    by_test : NamesDiffer (others m ds) → (b : Bool) → NamesDiffer (if b then d ∷ others m ds else others m ds)
    by_test rest true = (declared-others d.name m ds h.0, rest)
    by_test rest false = rest

pub firsts_differ : (ds : List DeclaredType) → NamesDiffer (first_of_each ds)
unfolding others
firsts_differ [] = tt
firsts_differ (d ∷ ds) = (not_declared d.name (first_of_each ds), differ-others d.name (first_of_each ds) (firsts_differ ds))

-- no type before another has its name
apart : (x d : DeclaredType) (xs ys : List DeclaredType) → is_declared x.name (xs ++ d ∷ ys) ≡ false
    → name_eq x.name d.name ≡ false
apart x d xs ys e =
    let split : is_declared x.name (xs ++ d ∷ ys)
    ≡ (is_declared x.name xs || (name_eq d.name x.name || is_declared x.name ys)) =
    list_any-append (λ k. name_eq k.name x.name) xs (d ∷ ys) in
    let rest = or_false (is_declared x.name xs) (name_eq d.name x.name || is_declared x.name ys) (sym split ∙ e) in
    name_eq-swap x.name d.name ∙ (or_false (name_eq d.name x.name) (is_declared x.name ys) rest.1).0

pub new_behind : (xs ys : List DeclaredType) (d : DeclaredType) → NamesDiffer (xs ++ d ∷ ys) → is_declared d.name xs ≡ false
new_behind [] ys d h = refl
new_behind (x ∷ xs) ys d h =
    ap (λ b. b || is_declared d.name xs) (apart x d xs ys h.0) ∙ new_behind xs ys d h.1

-- ---- the types of the files, the stubs and the prelude, one after another

pub all_three : (files stubs : List Skeleton) (prelude : Skeleton) (xs ys zs : List DeclaredType)
    → xs ≡ all_declared files → ys ≡ xs ++ all_declared stubs → zs ≡ ys ++ prelude.types
    → zs ≡ all_declared (files ++ stubs ++ prelude ∷ [])
all_three files stubs prelude xs ys zs e f g =
    let with_stubs : ys ≡ all_declared (files ++ stubs) =
    f ∙ ap (λ ds. ds ++ all_declared stubs) e ∙ sym (flat_map-append (λ (s : Skeleton). s.types) files stubs) in
    g ∙ ap (λ ds. ds ++ prelude.types) with_stubs
    ∙ ap (λ ds. all_declared (files ++ stubs) ++ ds) (sym (append-nil prelude.types))
    ∙ sym (flat_map-append (λ (s : Skeleton). s.types) (files ++ stubs) (prelude ∷ []))
