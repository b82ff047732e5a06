-- Where reading a path stops.
use Rattle.std.proofs.Common.{◌≡◌, ◌≢◌, ℕ, ◌+◌, ◌<◌, ◌≤◌, List, [], ◌∷◌, ◌++◌, length, get_or, take, drop, inl, inr, refl, sym, ap, ◌∙◌, subst, arith, append_assoc, length-append, length-drop}
use Rattle.std.proofs.lemmas.Bool.{cases_lt}
use Rattle.std.proofs.lemmas.List.{append-nil, take_all, drop_all, drop_more, drop-drop, drop-append-le, take-append-drop}
use Rattle.journal_text.specs.Forms.{next_of, Stuck, StuckAt}
use Rattle.journal_text.specs.Parts.{Lacks, between, Ended, MayFollow, IsPathBehind, IsLine}
use Rattle.journal_text.specs.Stops.{StopsAt, PathFront}
use Rattle.journal_text.proofs.Split.{split_at, heads, tails}
use Rattle.journal_text.proofs.Lines.{path_lacks, path_text, lacks_it}

-- bytes without an LF before one: the path behind which it stands goes on from them
goes_on : (s t p rest : List ℕ) → Lacks 10 s → s ++ t ≡ p ++ 10 ∷ rest → (y : List ℕ) × (p ≡ s ++ y)
goes_on [] t p rest l e = (p, refl)
goes_on (a ∷ s) t [] rest l e = absurd (l.0 (heads a 10 (s ++ t) rest e))
goes_on (a ∷ s) t (b ∷ p) rest l e =
    let next = goes_on s t p rest l.1 (tails a b (s ++ t) (p ++ 10 ∷ rest) e) in
    (next.0, ap (λ x. x ∷ p) (sym (heads a b (s ++ t) (p ++ 10 ∷ rest) e)) ∙ ap (λ l. a ∷ l) next.1)

lacks_take : (line : List ℕ) (k : ℕ) → Lacks 10 line → k < length line → Lacks 10 (take k line ++ get_or line k 0 ∷ [])
lacks_take line k l lt =
    lacks_front (take k line ++ get_or line k 0 ∷ []) (drop (k + 1) line)
    (subst (Lacks 10) (sym (take-append-drop k line) ∙ (ap (λ t. take k line ++ t) (drop_more line k 0 lt) ∙ sym (append_assoc (take k line) (get_or line k 0 ∷ []) (drop (k + 1) line)))) l)
  where
    lacks_front : (s t : List ℕ) → Lacks 10 (s ++ t) → Lacks 10 s
    lacks_front [] t l = tt
    lacks_front (a ∷ s) t l = (l.0, lacks_front s t l.1)

-- what stands behind a line: nothing, or its LF
abbrev IsTail : List ℕ → Type 0
IsTail [] = Unit {0}
IsTail (b ∷ tail) = b ≡ 10

module _ (before line tail : List ℕ) (lacks : Lacks 10 line) (k : ℕ) (stops : StopsAt before line k) (goes : PathFront before (take k line)) where
  within : k < length line → (p rest more : List ℕ) → MayFollow before p → take k line ++ next_of (drop k line ++ tail) more ≡ p ++ 10 ∷ rest → ⊥
  within lt p rest more may e =
      let b = get_or line k 0 in
      let next : next_of (drop k line ++ tail) more ≡ b ∷ more = ap (λ l. next_of (l ++ tail) more) (drop_more line k 0 lt) in
      let there : (take k line ++ b ∷ []) ++ more ≡ p ++ 10 ∷ rest = append_assoc (take k line) (b ∷ []) more ∙ (ap (λ t. take k line ++ t) (sym next) ∙ e) in
      let on = goes_on (take k line ++ b ∷ []) more p rest (lacks_take line k lacks lt) there in
      stops.next lt on.0 (subst (MayFollow before) (on.1 ∙ append_assoc (take k line) (b ∷ []) on.0) may)

  behind : (IsTail tail) → (length tail ≢ 0 → MayFollow before line → ⊥) → length line ≤ k → (p rest more : List ℕ) → MayFollow before p → take k line ++ next_of (drop k line ++ tail) more ≡ p ++ 10 ∷ rest → ⊥
  behind is refused le p rest more may e =
      at_tail tail is refused (ap (λ t. t ++ next_of tail more) (sym (take_all k line le)) ∙ (ap (λ l. take k line ++ next_of (l ++ tail) more) (sym (drop_all k line le)) ∙ e))
    where
      at_tail : (tail : List ℕ) → IsTail tail → (length tail ≢ 0 → MayFollow before line → ⊥) → line ++ next_of tail more ≡ p ++ 10 ∷ rest → ⊥
      at_tail [] is refused e = lacks_it 10 p rest (subst (Lacks 10) (sym (append-nil line) ∙ e) lacks)
      at_tail (b ∷ tail) is refused e =
          let parts = split_at 10 line p more rest lacks (path_lacks p may.is_path_text) (ap (λ x. line ++ x ∷ more) (sym is) ∙ e) in
          refused (λ z. absurd (omega arith)) (subst (MayFollow before) (sym parts.0) may)

  stuck_line : IsTail tail → (length tail ≢ 0 → MayFollow before line → ⊥) → Stuck (Ended (IsPathBehind before) 10) (take k line) (drop k line ++ tail)
  stuck_line is refused = record {
    begins = (take k line ++ goes.rest, (goes.rest ++ 10 ∷ [], record { body = take k line ++ goes.rest; spells = record { is = refl; may = goes.may }; ended = sym (append_assoc (take k line) goes.rest (10 ∷ [])) }));
    refuses = λ p text rest more n e.
        let there = e ∙ path_text before p text rest n in
        elim (cases_lt k (length line)) [
          | inl lt ↦ within lt p rest more n.spells.may there
          | inr le ↦ behind is refused le p rest more n.spells.may there
        ];
  }

pub path_stuck : (before bytes line tail : List ℕ) (at k : ℕ) → at ≤ length bytes → drop at bytes ≡ line ++ tail → Lacks 10 line → IsTail tail → (length tail ≢ 0 → MayFollow before line → ⊥)
    → StopsAt before line k → PathFront before (take k line) → StuckAt (Ended (IsPathBehind before) 10) bytes at (at + k)
path_stuck before bytes line tail at k le e lacks is refused stops goes =
    let rest : drop (at + k) bytes ≡ drop k line ++ tail = sym (drop-drop k at bytes) ∙ (ap (drop k) e ∙ drop-append-le k line tail stops.place) in
    record {
      place = omega (arith, ap length e, length-append line tail, length-drop at bytes, stops.place);
      front = take k line;
      seen = e ∙ (ap (λ t. t ++ tail) (sym (take-append-drop k line)) ∙ (append_assoc (take k line) (drop k line) tail ∙ ap (λ t. take k line ++ t) (sym rest)));
      stuck = subst (Stuck (Ended (IsPathBehind before) 10) (take k line)) (sym rest) (stuck_line before line tail lacks k stops goes is refused);
    }

pub line_stuck : (before bytes : List ℕ) (at end k : ℕ) → IsLine bytes at end → (MayFollow before (between bytes at end) → ⊥) → StopsAt before (between bytes at end) k → PathFront before (take k (between bytes at end))
    → StuckAt (Ended (IsPathBehind before) 10) bytes at (at + k)
line_stuck before bytes at end k line refused stops goes =
    path_stuck before bytes (between bytes at end) (10 ∷ drop (end + 1) bytes) at k (omega (arith, line.from, line.place)) line.taken line.lacks refl (λ some. refused) stops goes

pub rest_stuck : (before bytes : List ℕ) (at k : ℕ) → at ≤ length bytes → Lacks 10 (drop at bytes) → StopsAt before (drop at bytes) k → PathFront before (take k (drop at bytes))
    → StuckAt (Ended (IsPathBehind before) 10) bytes at (at + k)
rest_stuck before bytes at k le lacks stops goes =
    path_stuck before bytes (drop at bytes) [] at k le (sym (append-nil (drop at bytes))) lacks tt (λ some may. some refl) stops goes
