-- Where a list is parted.
use Rattle.std.proofs.Common.{◌≡◌, ℕ, List, [], ◌∷◌, ◌++◌, length, refl, sym, ap, ◌∙◌, arith}
use Rattle.journal_text.specs.Parts.{Lacks}

pub tails : (a b : ℕ) (s t : List ℕ) → a ∷ s ≡ b ∷ t → s ≡ t
tails a b s t e = cc

pub heads : (a b : ℕ) (s t : List ℕ) → a ∷ s ≡ b ∷ t → a ≡ b
heads a b s t e = cc

-- no list that begins with an element is empty
pub not_empty : (a : ℕ) (s : List ℕ) → [] ≡ a ∷ s → ⊥
not_empty a s e = cc

-- what stands before the first end
pub split_at : (end : ℕ) (s t u v : List ℕ) → Lacks end s → Lacks end t → s ++ end ∷ u ≡ t ++ end ∷ v → (s ≡ t) × (u ≡ v)
split_at end [] [] u v ls lt e = (refl, tails end end u v e)
split_at end [] (b ∷ t) u v ls lt e = absurd (lt.0 (sym (heads end b u (t ++ end ∷ v) e)))
split_at end (a ∷ s) [] u v ls lt e = absurd (ls.0 (heads a end (s ++ end ∷ u) v e))
split_at end (a ∷ s) (b ∷ t) u v ls lt e =
    let rest = split_at end s t u v ls.1 lt.1 (tails a b (s ++ end ∷ u) (t ++ end ∷ v) e) in
    (ap (λ x. x ∷ s) (heads a b (s ++ end ∷ u) (t ++ end ∷ v) e) ∙ ap (λ l. b ∷ l) rest.0, rest.1)

-- fronts of one length
pub split_same : (s t u v : List ℕ) → length s ≡ length t → s ++ u ≡ t ++ v → (s ≡ t) × (u ≡ v)
split_same [] [] u v l e = (refl, e)
split_same [] (b ∷ t) u v l e = absurd (omega arith)
split_same (a ∷ s) [] u v l e = absurd (omega arith)
split_same (a ∷ s) (b ∷ t) u v l e =
    let rest = split_same s t u v (omega arith) (tails a b (s ++ u) (t ++ v) e) in
    (ap (λ x. x ∷ s) (heads a b (s ++ u) (t ++ v) e) ∙ ap (λ l. b ∷ l) rest.0, rest.1)

-- two fronts of one list: one goes on from the other
pub data Fronts (s t : List ℕ) : Type 0 where
  shorter : (more : List ℕ) → t ≡ s ++ more → Fronts s t
  longer : (more : List ℕ) → s ≡ t ++ more → Fronts s t

more_fronts : (a b : ℕ) (s t : List ℕ) → a ≡ b → Fronts s t → Fronts (a ∷ s) (b ∷ t)
more_fronts a b s t e (shorter more is) = shorter more (ap (λ x. x ∷ t) (sym e) ∙ ap (λ l. a ∷ l) is)
more_fronts a b s t e (longer more is) = longer more (ap (λ x. x ∷ s) e ∙ ap (λ l. b ∷ l) is)

pub fronts : (s t u v : List ℕ) → s ++ u ≡ t ++ v → Fronts s t
fronts [] t u v e = shorter t refl
fronts (a ∷ s) [] u v e = longer (a ∷ s) refl
fronts (a ∷ s) (b ∷ t) u v e = more_fronts a b s t (heads a b (s ++ u) (t ++ v) e) (fronts s t u v (tails a b (s ++ u) (t ++ v) e))

pub lacks_append : (end : ℕ) (s t : List ℕ) → Lacks end s → Lacks end t → Lacks end (s ++ t)
lacks_append end [] t ls lt = lt
lacks_append end (a ∷ s) t ls lt = (ls.0, lacks_append end s t ls.1 lt)
