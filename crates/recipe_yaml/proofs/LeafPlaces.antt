-- The place of a leaf among the places of all leaves.
use Rattle.std.proofs.Common.{◌≡◌, ℕ, zero, suc, ◌+◌, ◌<◌, ◌≤◌, List, [], ◌∷◌, ◌++◌, length, get_or, take, map, refl, sym, ap, ◌∙◌}
use Rattle.std.proofs.Common.{arith}
use Rattle.std.proofs.lemmas.List.{get_or_past, take_more, take_all, map_push}
use Rattle.rw_base.specs.declared.place.Place.{Place}
use Rattle.rw_base.specs.declared.tree.Leaf.{Leaf}
use Rattle.rw_base.specs.Arena.{Arena, leaf_at, no_leaf}
use Rattle.rw_base.specs.Places.{place_at}
use Rattle.recipe_yaml.specs.Parts.{leaf_places}
use Rattle.recipe_yaml.specs.WrittenEntries.{leaf_place}

mapped : {A B : Type 0} (f : A → B) (xs : List A) (i : ℕ) (d : B) (e : A) → i < length xs
    → get_or (map f xs) i d ≡ f (get_or xs i e)
mapped f [] i d e lt = absurd (omega arith)
mapped f (x ∷ xs) zero d e lt = refl
mapped f (x ∷ xs) (suc i) d e lt = mapped f xs i d e (omega arith)

as_long : {A B : Type 0} (f : A → B) (xs : List A) → length (map f xs) ≡ length xs
as_long f [] = refl
as_long f (x ∷ xs) = ap suc (as_long f xs)

module _ (bytes : List ℕ) (t : Arena) (places : List Place) (l : ℕ) (same : places ≡ leaf_places bytes t) where
  long : length places ≡ length t.leaves
  unfolding leaf_places
  long = ap length same ∙ as_long (λ (x : Leaf). place_at bytes x.from) t.leaves

  pub place_here : (d : Place) → l < length places → get_or places l d ≡ leaf_place bytes t l
  unfolding leaf_places leaf_at
  place_here d lt = ap (λ ps. get_or ps l d) same
      ∙ mapped (λ (x : Leaf). place_at bytes x.from) t.leaves l d no_leaf (omega (arith, long))

  pub place_past : length places ≤ l → place_at bytes 0 ≡ leaf_place bytes t l
  unfolding leaf_at
  place_past le = ap (λ (x : Leaf). place_at bytes x.from) (sym (get_or_past t.leaves l no_leaf (omega (arith, long))))

pub ruleset places = (place_here, place_past)

-- ---- the places of all leaves, one after another

module _ (bytes : List ℕ) (leaves : List Leaf) (places new : List Place) (i : ℕ) (p : Place) where
  pub places_more : i < length leaves → places ≡ map (λ l. place_at bytes l.from) (take i leaves)
      → new ≡ places ++ p ∷ [] → p ≡ place_at bytes (leaf_at leaves i).from
      → new ≡ map (λ l. place_at bytes l.from) (take (i + 1) leaves)
  unfolding leaf_at
  places_more lt so_far is here =
      let f : Leaf → Place = λ l. place_at bytes l.from in
      is
      ∙ (ap (λ x. x ++ p ∷ []) so_far
      ∙ (ap (λ x. map f (take i leaves) ++ x ∷ []) here
      ∙ (sym (map_push f (take i leaves) (get_or leaves i no_leaf)) ∙ ap (map f) (sym (take_more leaves i no_leaf lt)))))

pub places_end : (bytes : List ℕ) (t : Arena) (places : List Place) (i : ℕ) → length t.leaves ≤ i
    → places ≡ map (λ l. place_at bytes l.from) (take i t.leaves) → places ≡ leaf_places bytes t
unfolding leaf_places
places_end bytes t places i le is = is ∙ ap (map (λ (l : Leaf). place_at bytes l.from)) (take_all i t.leaves le)

-- a place that is that of some byte is that of its own
pub place_again : (bytes : List ℕ) (p : Place) (at : ℕ) → p ≡ place_at bytes at → p ≡ place_at bytes p.byte
place_again bytes p at e = e ∙ ap (place_at bytes) (sym (ap (λ (q : Place). q.byte) e))

pub ruleset all_places = (places_more, places_end, place_again)
