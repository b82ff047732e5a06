-- Entries, and the parts that they are read by.
use Rattle.std.proofs.Common.{◌≡◌, ℕ, ◌+◌, ◌-◌, ◌<◌, ◌≤◌, ◌^◌, min, true, false, List, [], ◌∷◌, ◌++◌, length, take, drop, codes, Option, Some, None, refl, sym, ap, ◌∙◌, subst, arith, append_assoc, length-drop}
use Rattle.std.proofs.lemmas.Bool.{false≢true}
use Rattle.std.proofs.lemmas.List.{append-nil, take-append-drop, drop-drop, drop_all, length-take-le}
use Rattle.journal_text.specs.Forms.{Took, next_of, Stuck, StuckAt}
use Rattle.journal_text.specs.Numerals.{numeral}
use Rattle.journal_text.specs.Parts.{begins_with, between, Counted, Put, Del, IsEntry}
use Rattle.journal_text.specs.Text.{entry_with}
use Rattle.journal_text.proofs.Stuck.{stuck_counted}

-- ---- the two kinds of entry
pub put_text : (before : List ℕ) (n : ℕ) (path contents text : List ℕ) → Put before (tt, (n, (path, (contents, tt)))) text → IsEntry before (path, Some contents) text
put_text before n path contents text p =
    let q = p.then in
    let r = q.then in
    let s = r.then in
    let len : n ≡ length contents = sym s.spells.len ∙ ap length s.spells.is in
    let last : r.second ≡ contents ++ 10 ∷ [] = s.joined ∙ (ap (λ t. t ++ s.second) s.spells.is ∙ ap (λ t. contents ++ t) s.then.is) in
    let named : r.first ≡ path ++ 10 ∷ [] = r.spells.ended ∙ ap (λ t. t ++ 10 ∷ []) r.spells.spells.is in
    let behind : q.second ≡ (path ++ 10 ∷ []) ++ (contents ++ 10 ∷ []) = r.joined ∙ (ap (λ t. t ++ r.second) named ∙ ap (λ t. (path ++ 10 ∷ []) ++ t) last) in
    let sized : q.first ≡ numeral (length contents) ++ 32 ∷ [] = q.spells.ended ∙ (ap (λ t. t ++ 32 ∷ []) q.spells.spells.is ∙ ap (λ m. numeral m ++ 32 ∷ []) len) in
    let rest : p.second ≡ (numeral (length contents) ++ 32 ∷ []) ++ ((path ++ 10 ∷ []) ++ (contents ++ 10 ∷ []))
    = q.joined ∙ (ap (λ t. t ++ q.second) sized ∙ ap (λ t. (numeral (length contents) ++ 32 ∷ []) ++ t) behind) in
    record {
      may = r.spells.spells.may;
      is = p.joined ∙ (ap (λ t. t ++ p.second) p.spells.is ∙ (ap (λ t. codes "put " ++ t) rest ∙ sym (put_right path contents)));
    }
  where
    put_right : (path contents : List ℕ) → entry_with path (Some contents) ≡ codes "put " ++ ((numeral (length contents) ++ 32 ∷ []) ++ ((path ++ 10 ∷ []) ++ (contents ++ 10 ∷ [])))
    put_right path contents = simp append_assoc

pub entry_put : (before path contents text : List ℕ) → IsEntry before (path, Some contents) text → Put before (tt, (length contents, (path, (contents, tt)))) text
entry_put before path contents text e = record {
  first = codes "put ";
  second = (numeral (length contents) ++ 32 ∷ []) ++ ((path ++ 10 ∷ []) ++ (contents ++ 10 ∷ []));
  spells = record { is = refl };
  then = record {
    first = numeral (length contents) ++ 32 ∷ [];
    second = (path ++ 10 ∷ []) ++ (contents ++ 10 ∷ []);
    spells = record { body = numeral (length contents); spells = record { is = refl }; ended = refl };
    then = record {
      first = path ++ 10 ∷ [];
      second = contents ++ 10 ∷ [];
      spells = record { body = path; spells = record { is = refl; may = e.may }; ended = refl };
      then = record { first = contents; second = 10 ∷ []; spells = record { is = refl; len = refl }; then = record { is = refl }; joined = refl };
      joined = refl;
    };
    joined = refl;
  };
  joined = e.is ∙ put_right path contents;
}
  where
    put_right : (path contents : List ℕ) → entry_with path (Some contents) ≡ codes "put " ++ ((numeral (length contents) ++ 32 ∷ []) ++ ((path ++ 10 ∷ []) ++ (contents ++ 10 ∷ [])))
    put_right path contents = simp append_assoc

pub del_text : (before path text : List ℕ) → Del before (tt, path) text → IsEntry before (path, None) text
del_text before path text p = record {
  may = p.then.spells.may;
  is = p.joined ∙ (ap (λ t. t ++ p.second) p.spells.is ∙ ap (λ t. codes "del " ++ t) (p.then.ended ∙ ap (λ t. t ++ 10 ∷ []) p.then.spells.is));
}

pub entry_del : (before path text : List ℕ) → IsEntry before (path, None) text → Del before (tt, path) text
entry_del before path text e = record {
  first = codes "del ";
  second = path ++ 10 ∷ [];
  spells = record { is = refl };
  then = record { body = path; spells = record { is = refl; may = e.may }; ended = refl };
  joined = e.is;
}

first_byte : (b : ℕ) (bytes more : List ℕ) → bytes ≡ b ∷ more → begins_with b bytes ≡ true
first_byte b bytes more e = ap (begins_with b) e ∙ search arith

-- any texts of the two kinds, by what they spell
pub put_spells : (before : List ℕ) (x : Unit {0} × (ℕ × (List ℕ × (List ℕ × Unit {0})))) (text : List ℕ) → Put before x text → IsEntry before (x.1.1.0, Some x.1.1.1.0) text
put_spells before x text p = put_text before x.1.0 x.1.1.0 x.1.1.1.0 text p

pub del_spells : (before : List ℕ) (x : Unit {0} × List ℕ) (text : List ℕ) → Del before x text → IsEntry before (x.1, None) text
del_spells before x text p = del_text before x.1 text p

first_same : (front behind more : List ℕ) (b : ℕ) → begins_with b (front ++ next_of behind more) ≡ begins_with b (front ++ behind)
first_same [] [] more b = refl
first_same [] (x ∷ behind) more b = refl
first_same (a ∷ front) behind more b = refl

module _ (before : List ℕ) (front behind : List ℕ) where
  not_put : begins_with 100 (front ++ behind) ≡ true → (path contents text rest more : List ℕ) → IsEntry before (path, Some contents) text → front ++ next_of behind more ≡ text ++ rest → ⊥
  not_put d path contents text rest more e whole = false≢true (ap (begins_with 100) (sym (whole ∙ ap (λ t. t ++ rest) e.is)) ∙ (first_same front behind more 100 ∙ d))

  not_del : begins_with 100 (front ++ behind) ≡ false → (path text rest more : List ℕ) → IsEntry before (path, None) text → front ++ next_of behind more ≡ text ++ rest → ⊥
  not_del d path text rest more e whole = false≢true (sym (first_same front behind more 100 ∙ d) ∙ ap (begins_with 100) (whole ∙ ap (λ t. t ++ rest) e.is))

  by_put : begins_with 100 (front ++ behind) ≡ false → Stuck (Put before) front behind → (path : List ℕ) (bytes : Option (List ℕ)) (text rest more : List ℕ) → IsEntry before (path, bytes) text → front ++ next_of behind more ≡ text ++ rest → ⊥
  by_put d s path (Some contents) text rest more e whole = s.refuses (tt, (length contents, (path, (contents, tt)))) text rest more (entry_put before path contents text e) whole
  by_put d s path None text rest more e whole = not_del d path text rest more e whole

  by_del : begins_with 100 (front ++ behind) ≡ true → Stuck (Del before) front behind → (path : List ℕ) (bytes : Option (List ℕ)) (text rest more : List ℕ) → IsEntry before (path, bytes) text → front ++ next_of behind more ≡ text ++ rest → ⊥
  by_del d s path (Some contents) text rest more e whole = not_put d path contents text rest more e whole
  by_del d s path None text rest more e whole = s.refuses (tt, path) text rest more (entry_del before path text e) whole

  pub stuck_by_put : begins_with 100 (front ++ behind) ≡ false → Stuck (Put before) front behind → Stuck (IsEntry before) front behind
  stuck_by_put d s = record {
    begins = let b = s.begins in ((b.0.1.1.0, Some b.0.1.1.1.0), (b.1.0, put_spells before b.0 (front ++ b.1.0) b.1.1));
    refuses = λ change text rest more e whole. by_put d s change.0 change.1 text rest more e whole;
  }

  pub stuck_by_del : begins_with 100 (front ++ behind) ≡ true → Stuck (Del before) front behind → Stuck (IsEntry before) front behind
  stuck_by_del d s = record {
    begins = let b = s.begins in ((b.0.1, None), (b.1.0, del_spells before b.0 (front ++ b.1.0) b.1.1));
    refuses = λ change text rest more e whole. by_del d s change.0 change.1 text rest more e whole;
  }

pub entry_by_put : (before bytes : List ℕ) (at end : ℕ) → begins_with 100 (drop at bytes) ≡ false → StuckAt (Put before) bytes at end → StuckAt (IsEntry before) bytes at end
entry_by_put before bytes at end d s = record { place = s.place; front = s.front; seen = s.seen; stuck = stuck_by_put before s.front (drop end bytes) (ap (begins_with 100) (sym s.seen) ∙ d) s.stuck }

pub entry_by_del : (before bytes : List ℕ) (at end : ℕ) → begins_with 100 (drop at bytes) ≡ true → StuckAt (Del before) bytes at end → StuckAt (IsEntry before) bytes at end
entry_by_del before bytes at end d s = record { place = s.place; front = s.front; seen = s.seen; stuck = stuck_by_del before s.front (drop end bytes) (ap (begins_with 100) (sym s.seen) ∙ d) s.stuck }

-- ---- counted bytes
pub counted_took : (n held : ℕ) (bytes : List ℕ) (at : ℕ) (copy : List ℕ) → length bytes < 2 ^ 63 → held ≤ length bytes - at → at ≤ length bytes → copy ≡ between bytes at (at + held) → held ≡ min n (2 ^ 64 - 1) → Took (Counted n) bytes at (at + held) copy
counted_took n held bytes at copy small fits le is e =
    let k : at + held - at ≡ held = omega arith in
    let whole : copy ≡ take held (drop at bytes) = is ∙ ap (λ m. take m (drop at bytes)) k in
    record {
      place = omega arith;
      text = copy;
      spells = record { is = refl; len = ap length whole ∙ (length-take-le held (drop at bytes) (omega (arith, length-drop at bytes)) ∙ omega arith) };
      taken = sym (take-append-drop held (drop at bytes)) ∙ (ap (λ t. t ++ drop held (drop at bytes)) (sym whole) ∙ ap (λ t. copy ++ t) (drop-drop held at bytes));
    }

pub counted_stuck : (n held : ℕ) (bytes : List ℕ) (at : ℕ) → at ≤ length bytes → length bytes - at < held → held ≡ min n (2 ^ 64 - 1) → StuckAt (Counted n) bytes at (length bytes)
counted_stuck n held bytes at le short e =
    let none = drop_all (length bytes) bytes (omega arith) in
    record {
      place = omega arith;
      front = drop at bytes;
      seen = sym (append-nil (drop at bytes)) ∙ ap (λ t. drop at bytes ++ t) (sym none);
      stuck = subst (Stuck (Counted n) (drop at bytes)) (sym none) (stuck_counted n (drop at bytes) (omega (arith, length-drop at bytes)));
    }
