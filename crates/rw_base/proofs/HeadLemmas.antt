-- Heads over one list of parts, and the rows that they stand for.
use Rattle.std.proofs.Common.{◌≡◌, ℕ, zero, suc, ◌+◌, ◌-◌, ◌<◌, ◌≤◌, List, [], ◌∷◌, ◌++◌, length, take, drop, slice_range, slice_index_or, refl, ap, ◌∙◌, arith}
use Rattle.std.proofs.lemmas.List.{length-drop, take-append-le, drop-append-le}
use Rattle.std.proofs.Math.Seq.{drop-append_seam, take-length}
use Rattle.rw_base.specs.Heads.{rows_over, row_over, EndsRise, parts_start}
use Rattle.rw_base.specs.Arena.{row_at}
use Rattle.rw_base.specs.declared.nodes.NodeHead.{NodeHead}
use Rattle.rw_base.specs.declared.tree.Part.{Part}

pub count : (ps : List Part) (at : ℕ) (rs : List NodeHead) → length (rows_over ps at rs) ≡ length rs
count ps at [] = refl
count ps at (r ∷ rs) = ap suc (count ps r.parts_end rs)

pub row_is : (ps : List Part) (at : ℕ) (rs : List NodeHead) (n : ℕ) (d : NodeHead) → n < length rs → row_at (rows_over ps at rs) n ≡ row_over ps (parts_start at rs n) (slice_index_or rs n d)
unfolding row_at
row_is ps at [] n d l = absurd (omega (l, arith))
row_is ps at (r ∷ rs) zero d l = refl
row_is ps at (r ∷ rs) (suc n) d l = row_is ps r.parts_end rs n d (omega (l, arith))

pub start_next : (at : ℕ) (rs : List NodeHead) (n : ℕ) (d : NodeHead) → n < length rs → parts_start at rs (suc n) ≡ (slice_index_or rs n d).parts_end
start_next at [] n d l = absurd (omega (l, arith))
start_next at (r ∷ []) zero d l = refl
start_next at (r ∷ s ∷ rs) zero d l = refl
start_next at (r ∷ rs) (suc n) d l = start_next r.parts_end rs n d (omega (l, arith))

pub start_first : (at : ℕ) (rs : List NodeHead) (n : ℕ) → n ≡ 0 → parts_start at rs n ≡ at
start_first at [] n e = refl
start_first at (r ∷ rs) n e = ap (parts_start at (r ∷ rs)) e

pub start_behind : (at : ℕ) (rs : List NodeHead) (n : ℕ) (d : NodeHead) → 0 < n → n < length rs → parts_start at rs n ≡ (slice_index_or rs (n - 1) d).parts_end
start_behind at rs zero d a l = absurd (omega (a, arith))
start_behind at rs (suc n) d a l = start_next at rs n d (omega (l, arith)) ∙ ap (λ k. (slice_index_or rs k d).parts_end) (omega arith)

pub up : (at e : ℕ) (rs : List NodeHead) → EndsRise at rs e → at ≤ e
up at e [] h = omega (h, arith)
up at e (r ∷ rs) h = omega (h.0, up r.parts_end e rs h.1, arith)

pub inside : (at e : ℕ) (rs : List NodeHead) (n : ℕ) (d : NodeHead) → EndsRise at rs e → n < length rs → (parts_start at rs n ≤ (slice_index_or rs n d).parts_end) × ((slice_index_or rs n d).parts_end ≤ e)
inside at e [] n d h l = absurd (omega (l, arith))
inside at e (r ∷ rs) zero d h l = (h.0, up r.parts_end e rs h.1)
inside at e (r ∷ rs) (suc n) d h l = inside r.parts_end e rs n d h.1 (omega (l, arith))

same_range : (ps more : List Part) (at to : ℕ) → at ≤ to → to ≤ length ps → slice_range (ps ++ more) at to ≡ slice_range ps at to
same_range ps more at to a b =
    ap (take (to - at)) (drop-append-le at ps more (omega (a, b, arith)))
    ∙ take-append-le (to - at) (drop at ps) more (omega (a, b, length-drop at ps, arith))

pub same_nodes : (ps more : List Part) (at : ℕ) (rs : List NodeHead) → EndsRise at rs (length ps) → rows_over (ps ++ more) at rs ≡ rows_over ps at rs
same_nodes ps more at [] h = refl
same_nodes ps more at (r ∷ rs) h =
    let one : slice_range (ps ++ more) at r.parts_end ≡ slice_range ps at r.parts_end = same_range ps more at r.parts_end h.0 (up r.parts_end (length ps) rs h.1) in
    let rest : rows_over (ps ++ more) r.parts_end rs ≡ rows_over ps r.parts_end rs = same_nodes ps more r.parts_end rs h.1 in
    λ i. record { kind = r.kind; first = r.first; past = r.past; parts = one i } ∷ rest i

pub pushed : (ps : List Part) (at e : ℕ) (rs : List NodeHead) (r : NodeHead) → EndsRise at rs e → rows_over ps at (rs ++ r ∷ []) ≡ rows_over ps at rs ++ row_over ps e r ∷ []
pushed ps at e [] r h = ap (λ k. row_over ps k r ∷ []) h
pushed ps at e (s ∷ rs) r h = ap (λ l. row_over ps at s ∷ l) (pushed ps s.parts_end e rs r h.1)

pub rise_push : (at e : ℕ) (rs : List NodeHead) (r : NodeHead) (f : ℕ) → EndsRise at rs e → e ≤ r.parts_end → r.parts_end ≡ f → EndsRise at (rs ++ r ∷ []) f
rise_push at e [] r f h l q = (omega (h, l, arith), q)
rise_push at e (s ∷ rs) r f h l q = (h.0, rise_push s.parts_end e rs r f h.1 l q)

seam : (ps more : List Part) (to : ℕ) → to ≡ length ps + length more → slice_range (ps ++ more) (length ps) to ≡ more
seam ps more to e =
    ap (take (to - length ps)) (drop-append_seam ps more)
    ∙ ap (λ k. take k more) (omega (e, arith))
    ∙ take-length more

-- a node put behind all others
pub put : (ps more : List Part) (rs : List NodeHead) (r : NodeHead) → EndsRise 0 rs (length ps) → r.parts_end ≡ length ps + length more
    → rows_over (ps ++ more) 0 (rs ++ r ∷ []) ≡ rows_over ps 0 rs ++ record { kind = r.kind; first = r.first; past = r.past; parts = more } ∷ []
put ps more rs r h e =
    pushed (ps ++ more) 0 (length ps) rs r h
    ∙ ap (λ l. l ++ row_over (ps ++ more) (length ps) r ∷ []) (same_nodes ps more 0 rs h)
    ∙ ap (λ (q : List Part). rows_over ps 0 rs ++ record { kind = r.kind; first = r.first; past = r.past; parts = q } ∷ []) (seam ps more r.parts_end e)
