-- The parts of paths.
use Rattle.std.proofs.Common.{◌≡◌, ◌≢◌, ℕ, zero, suc, ◌+◌, ◌-◌, ◌<◌, ◌≤◌, Bool, true, false, not, ◌&&◌, List, [], ◌∷◌, ◌++◌, length, get_or, take, drop, refl, sym, ap, ◌∙◌, subst, arith, append_assoc}
use Rattle.std.specs.Prelude.{◌==◌}
use Rattle.std.specs.List.{list_all}
use Rattle.std.proofs.lemmas.Bool.{and_parts, false≢true}
use Rattle.std.proofs.lemmas.Bool.Decides.{nat_tests}
use Rattle.std.proofs.lemmas.List.{take_all, take_more}
use Rattle.std.proofs.lemmas.List.Elements.{All-nil, All-push, All-append}
use Rattle.std.proofs.lemmas.List.Splits.{slice_split_at, slice_split_none}
use Rattle.rw_host.specs.Path.{is_part}
use Rattle.journal_text.specs.Parts.{between}
use Rattle.journal_text.specs.Stops.{parts_ok, StopsAt, no_control, NoSlash, PartsFront, PartsAt}
use Rattle.journal_text.proofs.Lines.{between_nothing, between_more}

none_slash : NoSlash []
none_slash = All-nil (λ b. (b == 47) ≡ false)

pub parts_start : (line : List ℕ) → PartsAt line 0 0
parts_start line = record { from = omega arith; one = subst NoSlash (sym (between_nothing line 0)) none_slash; same = λ more. refl }

take_sum : (m n : ℕ) (xs : List ℕ) → take (m + n) xs ≡ take m xs ++ take n (drop m xs)
take_sum zero n xs = let e : 0 + n ≡ n = omega arith in ap (λ k. take k xs) e
take_sum (suc m) n [] = let none : List ℕ = [] in take_all (suc m + n) none (omega arith) ∙ sym (take_all n none (omega arith))
take_sum (suc m) n (x ∷ xs) = let e : suc m + n ≡ suc (m + n) = omega arith in ap (λ k. take k (x ∷ xs)) e ∙ ap (λ l. x ∷ l) (take_sum m n xs)

-- the line up to a place is its closed parts and the open one
taken : (line : List ℕ) (start at : ℕ) → start ≤ at → take at line ≡ take start line ++ between line start at
taken line start at le =
    let k : start + (at - start) ≡ at = omega arith in
    ap (λ n. take n line) (sym k) ∙ take_sum start (at - start) line

pub parts_on : (line : List ℕ) (start at : ℕ) → PartsAt line start at → at < length line → get_or line at 0 ≢ 47 → PartsAt line start (at + 1)
parts_on line start at p lt other =
    let test : (get_or line at 0 == 47) ≡ false = grind (arith, nat_tests) in
    record {
      from = omega (arith, p.from);
      one = subst NoSlash (sym (between_more line start at p.from lt)) (All-push (λ b. (b == 47) ≡ false) (between line start at) (get_or line at 0) p.one test);
      same = p.same;
    }

pub closes : (line : List ℕ) (start at b : ℕ) (more : List ℕ) → PartsAt line start at → b ≡ 47 → parts_ok (take at line ++ b ∷ more) ≡ (is_part (between line start at) && parts_ok more)
closes line start at b more p is =
    let test : (b == 47) ≡ true = grind (arith, nat_tests) in
    ap parts_ok (ap (λ t. t ++ b ∷ more) (taken line start at p.from) ∙ append_assoc (take start line) (between line start at) (b ∷ more))
    ∙ (p.same (between line start at ++ b ∷ more) ∙ ap (λ parts. list_all is_part parts) (slice_split_at (λ b. b == 47) (between line start at) b more p.one test))

pub parts_slash : (line : List ℕ) (start at : ℕ) → PartsAt line start at → at < length line → get_or line at 0 ≡ 47 → is_part (between line start at) ≡ true → PartsAt line (at + 1) (at + 1)
parts_slash line start at p lt is ok = record {
  from = omega arith;
  one = subst NoSlash (sym (between_nothing line (at + 1))) none_slash;
  same = λ more. ap parts_ok (ap (λ t. t ++ more) (take_more line at 0 lt) ∙ append_assoc (take at line) (get_or line at 0 ∷ []) more)
      ∙ (closes line start at (get_or line at 0) more p is ∙ ap (λ t. t && parts_ok more) ok);
}

pub parts_bad : (before line : List ℕ) (start at : ℕ) → PartsAt line start at → at < length line → get_or line at 0 ≡ 47 → is_part (between line start at) ≡ false → StopsAt before line at
parts_bad before line start at p lt is bad = record {
  place = omega arith;
  next = λ l more may.
      let ok : parts_ok (take at line ++ get_or line at 0 ∷ more) ≡ true = (and_parts (no_control (take at line ++ get_or line at 0 ∷ more)) _ may.is_path_text.parts).1 in
      false≢true (sym (closes line start at (get_or line at 0) more p is ∙ ap (λ t. t && parts_ok more) bad) ∙ ok);
}

pub parts_front : (line : List ℕ) (start at : ℕ) → PartsAt line start at → PartsFront (take at line)
parts_front line start at p = record { done = take start line; part = between line start at; joined = taken line start at p.from; one = p.one; same = p.same }

-- ---- a front of parts goes on
ends_in_a : (part : List ℕ) → is_part (part ++ 97 ∷ []) ≡ true
ends_in_a [] = refl
ends_in_a (a ∷ []) = test (a == 46)
  where
    test : (t : Bool) → not (t && false) ≡ true
    test true = refl
    test false = refl
ends_in_a (a ∷ b ∷ []) = refl
ends_in_a (a ∷ b ∷ c ∷ part) = refl

pub parts_end : (front rest : List ℕ) → PartsFront front → NoSlash rest → parts_ok (front ++ (rest ++ 97 ∷ [])) ≡ true
parts_end front rest p none =
    let whole = p.part ++ rest ++ 97 ∷ [] in
    let all : NoSlash whole = All-push (λ b. (b == 47) ≡ false) (p.part ++ rest) 97 (All-append (λ b. (b == 47) ≡ false) p.part rest p.one none) refl in
    let e : front ++ (rest ++ 97 ∷ []) ≡ p.done ++ whole = ap (λ t. t ++ (rest ++ 97 ∷ [])) p.joined ∙ (append_assoc p.done p.part (rest ++ 97 ∷ []) ∙ ap (λ t. p.done ++ t) (sym (append_assoc p.part rest (97 ∷ [])))) in
    ap parts_ok e ∙ (p.same whole ∙ (ap (λ parts. list_all is_part parts) (slice_split_none (λ b. b == 47) whole all) ∙ (ap (λ t. t && true) (ends_in_a (p.part ++ rest)))))
