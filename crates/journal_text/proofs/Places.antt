-- What stands at a place.
use Rattle.std.proofs.Common.{◌≡◌, ℕ, ◌+◌, ◌<◌, ◌≤◌, true, false, List, [], ◌∷◌, ◌++◌, length, get_or, take, drop, inl, inr, sym, ap, ◌∙◌, subst, arith, append_assoc}
use Rattle.std.specs.Prelude.{◌==◌}
use Rattle.std.proofs.lemmas.Bool.{cases_lt, eqb-true, false≢true}
use Rattle.std.proofs.lemmas.List.{drop_more, drop_all, take_more}
use Rattle.journal_text.specs.Reading.{OnAt}
use Rattle.journal_text.specs.declared.fault.JournalFault.{JournalFault}
use Rattle.journal_text.specs.declared.fault.JournalFault.TheVariants.{At, NoMemory}
use Rattle.journal_text.specs.Parts.{begins_with}

pub begins_there : (bytes : List ℕ) (at b : ℕ) → at < length bytes → begins_with b (drop at bytes) ≡ (get_or bytes at 0 == b)
begins_there bytes at b lt = ap (begins_with b) (drop_more bytes at 0 lt)

pub begins_nowhere : (bytes : List ℕ) (at b : ℕ) → length bytes ≤ at → begins_with b (drop at bytes) ≡ false
begins_nowhere bytes at b le = ap (begins_with b) (drop_all at bytes le)

pub ruleset begins = (begins_there, begins_nowhere)

pub begun : (bytes : List ℕ) (at b : ℕ) → begins_with b (drop at bytes) ≡ true → (at < length bytes) × (drop at bytes ≡ b ∷ drop (at + 1) bytes)
begun bytes at b e =
    elim (cases_lt at (length bytes)) [
      | inl lt ↦
          let first : get_or bytes at 0 ≡ b = eqb-true (get_or bytes at 0) b (sym (begins_there bytes at b lt) ∙ e) in
          (lt, drop_more bytes at 0 lt ∙ ap (λ x. x ∷ drop (at + 1) bytes) first)
      | inr le ↦ absurd (false≢true (sym (begins_nowhere bytes at b le) ∙ e))
    ]

-- one byte more of a word
pub word_step : (bytes word : List ℕ) (at i : ℕ) → i < length word → drop at bytes ≡ take i word ++ drop (at + i) bytes → begins_with (get_or word i 0) (drop (at + i) bytes) ≡ true
    → (at + (i + 1) ≤ length bytes) × (drop at bytes ≡ take (i + 1) word ++ drop (at + (i + 1)) bytes)
word_step bytes word at i lt same e =
    let next = begun bytes (at + i) (get_or word i 0) e in
    let sum : at + i + 1 ≡ at + (i + 1) = omega arith in (
      omega (arith, next.0),
      same ∙ (ap (λ t. take i word ++ t) next.1 ∙ (sym (append_assoc (take i word) (get_or word i 0 ∷ []) (drop (at + i + 1) bytes))
          ∙ (ap (λ t. t ++ drop (at + i + 1) bytes) (sym (take_more word i 0 lt)) ∙ ap (λ n. take (i + 1) word ++ drop n bytes) sum))),
    )

-- what is said of a place holds of a fault there
pub on_at : (fault : JournalFault) (place : ℕ) (said : ℕ → Type 0) → fault ≡ At place → said place → OnAt fault said
on_at fault place said e is = subst (λ f. OnAt f said) (sym e) is

pub on_at_weaker : (fault : JournalFault) (said then : ℕ → Type 0) → ((n : ℕ) → said n → then n) → OnAt fault said → OnAt fault then
on_at_weaker (At n) said then weaker is = weaker n is
on_at_weaker NoMemory said then weaker is = tt
