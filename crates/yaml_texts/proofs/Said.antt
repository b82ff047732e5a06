-- What stands between quotes, one character further.
use Rattle.std.proofs.Common.{◌≡◌, ℕ, zero, suc, ◌+◌, ◌<◌, ◌≤◌, List, [], ◌∷◌, ◌++◌, length, drop, refl, sym, ◌∙◌, ap, arith}
use Rattle.std.proofs.Common.{append_assoc, append-nil}
use Rattle.std.specs.Prelude.{Option, Some, None}
use Rattle.std.proofs.lemmas.List.{drop-drop, drop_all, length-drop}
use Rattle.yaml_texts.specs.Quoted.{Character, character_of, more_of, with_character, said_behind}

-- the text so far, and what the rest says
abbrev pub after : List ℕ → Option (List ℕ) → Option (List ℕ)
after out None = None
after out (Some text) = Some (out ++ text)

after_nil : (m : Option (List ℕ)) → after [] m ≡ m
after_nil None = refl
after_nil (Some t) = refl

skip : (quote k : ℕ) (s : List ℕ) → said_behind quote k s ≡ said_behind quote 0 (drop k s)
unfolding said_behind
skip quote zero s = refl
skip quote (suc k) [] = refl
skip quote (suc k) (b ∷ rest) = skip quote k rest

one : (quote : ℕ) (s : List ℕ) → 0 < length s
    → said_behind quote 0 s ≡ with_character (character_of quote s) (said_behind quote (more_of (character_of quote s)) (drop 1 s))
unfolding said_behind
one quote [] some = absurd (omega arith)
one quote (b ∷ rest) some = refl

regroup : (out w : List ℕ) (k : ℕ) (m : Option (List ℕ)) → after out (with_character (Some (record { says = w; more = k })) m) ≡ after (out ++ w) m
regroup out w k None = refl
regroup out w k (Some t) = ap Some (sym (append_assoc out w t))

took : (quote k : ℕ) (s out w : List ℕ) → 0 < length s → character_of quote s ≡ Some (record { says = w; more = k })
    → after out (said_behind quote 0 s) ≡ after (out ++ w) (said_behind quote 0 (drop (1 + k) s))
took quote k s out w some is =
    ap (after out) (one quote s some ∙ ap (λ (c : Option Character). with_character c (said_behind quote (more_of c) (drop 1 s))) is)
    ∙ (ap (λ m. after out (with_character (Some (record { says = w; more = k })) m)) (skip quote k (drop 1 s) ∙ ap (said_behind quote 0) (drop-drop k 1 s))
    ∙ regroup out w k (said_behind quote 0 (drop (1 + k) s)))

lost : (quote : ℕ) (s : List ℕ) → 0 < length s → character_of quote s ≡ None → said_behind quote 0 s ≡ None
lost quote s some is = one quote s some ∙ ap (λ (c : Option Character). with_character c (said_behind quote (more_of c) (drop 1 s))) is

nothing : (quote : ℕ) → said_behind quote 0 [] ≡ Some []
unfolding said_behind
nothing quote = refl

-- ---- a loop that has come to byte `at`, with the text so far

module _ (quote : ℕ) (s : List ℕ) where
  abbrev pub IsSoFar : List ℕ → ℕ → Type 0
  IsSoFar out at = after out (said_behind quote 0 (drop at s)) ≡ said_behind quote 0 s

  pub start : (out : List ℕ) → out ≡ [] → IsSoFar out 0
  start out none = ap (λ (o : List ℕ). after o (said_behind quote 0 s)) none ∙ after_nil (said_behind quote 0 s)

  some_left : (at : ℕ) → at < length s → 0 < length (drop at s)
  some_left at low = omega (arith, length-drop at s)

  pub further : (T out now w : List ℕ) (at k next : ℕ) → at < length s → T ≡ drop at s → character_of quote T ≡ Some (record { says = w; more = k })
      → now ≡ out ++ w → next ≡ at + (1 + k) → IsSoFar out at → IsSoFar now next
  further T out now w at k next low same is grown goes h =
      ap (λ (o : List ℕ). after o (said_behind quote 0 (drop next s))) grown
      ∙ (ap (λ n. after (out ++ w) (said_behind quote 0 (drop n s))) goes
      ∙ (ap (λ t. after (out ++ w) (said_behind quote 0 t)) (sym (drop-drop (1 + k) at s))
      ∙ (sym (took quote k (drop at s) out w (some_left at low) (ap (character_of quote) (sym same) ∙ is)) ∙ h)))

  pub stops : (T out : List ℕ) (at : ℕ) → at < length s → T ≡ drop at s → character_of quote T ≡ None → IsSoFar out at → said_behind quote 0 s ≡ None
  stops T out at low same is h = sym h ∙ ap (after out) (lost quote (drop at s) (some_left at low) (ap (character_of quote) (sym same) ∙ is))

  pub whole : (out : List ℕ) (at : ℕ) → length s ≤ at → IsSoFar out at → said_behind quote 0 s ≡ Some out
  whole out at past h =
      sym h ∙ (ap (λ t. after out (said_behind quote 0 t)) (drop_all at s past) ∙ (ap (after out) (nothing quote) ∙ ap Some (append-nil out)))
