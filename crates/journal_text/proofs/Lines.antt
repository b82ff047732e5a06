-- Lines, and the paths in them.
use Rattle.std.proofs.Common.{◌≡◌, ◌≢◌, ℕ, ◌+◌, ◌-◌, ◌<◌, ◌≤◌, true, not, nat_lt, List, [], ◌∷◌, ◌++◌, length, get_or, take, drop, refl, sym, ap, ◌∙◌, subst, arith, append_assoc}
use Rattle.std.specs.List.{list_all}
use Rattle.std.proofs.lemmas.Bool.{and_parts}
use Rattle.std.proofs.lemmas.Bool.Decides.{nat_tests}
use Rattle.std.proofs.lemmas.List.{append-nil, drop_more, drop_all, take_more, take-append-drop, get_or-drop, length-drop, drop-drop}
use Rattle.journal_text.specs.Changes.{IsPathText}
use Rattle.journal_text.specs.Forms.{Took}
use Rattle.journal_text.specs.Parts.{Lacks, between, Ended, MayFollow, IsPathBehind, IsLine, TookPath}
use Rattle.journal_text.proofs.Split.{split_at, lacks_append}
use Rattle.journal_text.proofs.Stuck.{Unique}

no_control : (text : List ℕ) → list_all (λ b. not (nat_lt b 32)) text ≡ true → Lacks 10 text
no_control [] all = tt
no_control (b ∷ text) all =
    let parts = and_parts (not (nat_lt b 32)) (list_all (λ b. not (nat_lt b 32)) text) all in
    ((λ e. absurd (grind (arith, nat_tests, parts.0, e))), no_control text parts.1)

pub path_lacks : (path : List ℕ) → IsPathText path → Lacks 10 path
path_lacks path p = no_control path (and_parts (list_all (λ b. not (nat_lt b 32)) path) _ p.parts).0

-- ---- lines
pub between_nothing : (bytes : List ℕ) (at : ℕ) → between bytes at at ≡ []
between_nothing bytes at = let e : at - at ≡ 0 = omega arith in ap (λ n. take n (drop at bytes)) e

pub lacks_nothing : (bytes : List ℕ) (at : ℕ) → Lacks 10 (between bytes at at)
lacks_nothing bytes at = subst (Lacks 10) (sym (between_nothing bytes at)) tt

pub between_more : (bytes : List ℕ) (at end : ℕ) → at ≤ end → end < length bytes → between bytes at (end + 1) ≡ between bytes at end ++ get_or bytes end 0 ∷ []
between_more bytes at end le lt =
    let n : end + 1 - at ≡ end - at + 1 = omega arith in
    let m : at + (end - at) ≡ end = omega arith in
    ap (λ k. take k (drop at bytes)) n ∙ (take_more (drop at bytes) (end - at) 0 (omega (arith, length-drop at bytes))
    ∙ ap (λ x. between bytes at end ++ x ∷ []) (get_or-drop at bytes (end - at) 0 ∙ ap (λ k. get_or bytes k 0) m))

pub between_rest : (bytes : List ℕ) (at end : ℕ) → at ≤ end → drop at bytes ≡ between bytes at end ++ drop end bytes
between_rest bytes at end le =
    let m : at + (end - at) ≡ end = omega arith in
    sym (take-append-drop (end - at) (drop at bytes)) ∙ ap (λ t. between bytes at end ++ t) (drop-drop (end - at) at bytes ∙ ap (λ k. drop k bytes) m)

pub lacks_more : (bytes : List ℕ) (at end : ℕ) → at ≤ end → end < length bytes → get_or bytes end 0 ≢ 10 → Lacks 10 (between bytes at end) → Lacks 10 (between bytes at (end + 1))
lacks_more bytes at end le lt other l = subst (Lacks 10) (sym (between_more bytes at end le lt)) (lacks_append 10 (between bytes at end) (get_or bytes end 0 ∷ []) l (other, tt))

pub line_there : (bytes : List ℕ) (at end : ℕ) → at ≤ end → end < length bytes → get_or bytes end 0 ≡ 10 → Lacks 10 (between bytes at end) → IsLine bytes at end
line_there bytes at end le lt is l = record {
  from = le;
  place = lt;
  lacks = l;
  taken = between_rest bytes at end le ∙ ap (λ t. between bytes at end ++ t) (drop_more bytes end 0 lt ∙ ap (λ x. x ∷ drop (end + 1) bytes) is);
}

pub lacks_all : (bytes : List ℕ) (at end : ℕ) → at ≤ end → length bytes ≤ end → Lacks 10 (between bytes at end) → Lacks 10 (drop at bytes)
lacks_all bytes at end le over l = subst (Lacks 10) (sym (between_rest bytes at end le ∙ (ap (λ t. between bytes at end ++ t) (drop_all end bytes over) ∙ append-nil (between bytes at end)))) l

-- ---- paths
pub path_unique : (before : List ℕ) → Unique (Ended (IsPathBehind before) 10)
path_unique before p q s t u v a b e =
    let whole : p ++ 10 ∷ u ≡ q ++ 10 ∷ v
    = sym (append_assoc p (10 ∷ []) u) ∙ (ap (λ l. (l ++ 10 ∷ []) ++ u) (sym a.spells.is) ∙ (ap (λ l. l ++ u) (sym a.ended)
    ∙ (e ∙ (ap (λ l. l ++ v) b.ended ∙ (ap (λ l. (l ++ 10 ∷ []) ++ v) b.spells.is ∙ append_assoc q (10 ∷ []) v))))) in
    split_at 10 p q u v (path_lacks p a.spells.may.is_path_text) (path_lacks q b.spells.may.is_path_text) whole

pub path_text : (before p text rest : List ℕ) → Ended (IsPathBehind before) 10 p text → text ++ rest ≡ p ++ 10 ∷ rest
path_text before p text rest n = ap (λ l. l ++ rest) n.ended ∙ (ap (λ l. (l ++ 10 ∷ []) ++ rest) n.spells.is ∙ append_assoc p (10 ∷ []) rest)

pub lacks_it : (end : ℕ) (t rest : List ℕ) → Lacks end (t ++ end ∷ rest) → ⊥
lacks_it end [] rest l = l.0 refl
lacks_it end (b ∷ t) rest l = lacks_it end t rest l.1

pub took_path : (before bytes : List ℕ) (at end : ℕ) (path : List ℕ) → IsLine bytes at end → MayFollow before (between bytes at end) → path ≡ between bytes at end → TookPath before bytes at (end + 1) path
took_path before bytes at end path line may is = record {
  may = subst (MayFollow before) (sym is) may;
  place = omega (arith, line.place);
  taken = line.taken ∙ ap (λ t. t ++ 10 ∷ drop (end + 1) bytes) (sym is);
}

pub path_took : (before bytes : List ℕ) (at end : ℕ) (path : List ℕ) → TookPath before bytes at end path → Took (Ended (IsPathBehind before) 10) bytes at end path
path_took before bytes at end path t = record {
  place = t.place;
  text = path ++ 10 ∷ [];
  spells = record { body = path; spells = record { is = refl; may = t.may }; ended = refl };
  taken = t.taken ∙ sym (append_assoc path (10 ∷ []) (drop end bytes));
}
