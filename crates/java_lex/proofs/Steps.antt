-- A text is cut in one way alone.
use Rattle.std.proofs.Common.{◌≡◌, ℕ, suc, zero, ◌+◌, ◌<◌, inl, inr, Bool, true, false, cond, ◌&&◌, ◌||◌, eqb, List, [], ◌∷◌, length, take, drop, get_or, Option, Some, refl, sym, ◌∙◌, ap, subst, arith}
use Rattle.std.proofs.lemmas.Bool.{cases_lt}
use Rattle.std.proofs.lemmas.Bool.Decides.{nat_tests}
use Rattle.std.proofs.lemmas.List.{append-nil, get_or-drop}
use Rattle.std.proofs.Math.Seq.{take-length}
use Rattle.rw_base.specs.declared.tree.Leaf.{Leaf}
use Rattle.rw_base.specs.declared.place.Cause.{Cause}
use Rattle.rw_base.specs.declared.place.Cause.TheVariants.{NotUtf8, BadLeaf}
use Rattle.rw_base.specs.declared.leaves.Bad.{Bad}
use Rattle.rw_base.specs.Expressions.{Expression}
use Rattle.java_lex.specs.Literals.{literal_refused, comment_refused}
use Rattle.java_lex.specs.Kinds.{IsLeaf, word, other, Fits, kinds, is_literal}
use Rattle.java_lex.specs.Words.{IsWord}
use Rattle.java_lex.specs.Escapes.{IsFirstRefused, NoneRefused}
use Rattle.java_lex.specs.Blanks.{is_white, begins_line_comment, begins_block_comment, line, block, IsLineComment, IsBlockComment, IsOpenComment}
use Rattle.rw_base.specs.Utf8.{utf8_front, is_broken, mark_size}
use Rattle.java_lex.specs.Leaves.{Cuts, passed, leaf, ended, stopped, IsBlank, white, comment, IsLongest, IsLeafPlace, BeginsNone, CanGoOn, IsNextLeaf, IsBad, broken_end, in_comment, open_comment, in_literal, open_literal, no_leaf, IsBadOpen, never_closed, escaped, cut_off, end_leaf, AreJavaLeaves}
use Rattle.std.specs.Str.Lossy.{utf8_valid_len}
use Rattle.java_lex.specs.Scanning.{known, next_state}
use Rattle.java_lex.specs.Laws.{AreBytes}
use Rattle.java_lex.proofs.Derivatives.{step, after}
use Rattle.java_lex.proofs.States.{meaning, leaf_is}
use Rattle.java_lex.proofs.Runs.{after-to, next-right, next-inside, class-only}
use Rattle.java_lex.proofs.Following.{either-true}
use Rattle.java_lex.proofs.Pieces.{word-dead, none-other, no-empty-word}
use Rattle.java_lex.proofs.Tiling.{stands-inside}

-- ---- one class

bytes-rest : (b : ℕ) (s : List ℕ) → AreBytes (b ∷ s) → AreBytes s
bytes-rest b s h i = h (suc i)

pub bytes-drop : (n : ℕ) (s : List ℕ) → AreBytes s → AreBytes (drop n s)
bytes-drop n s h i = subst (λ b. b < 256) (sym (get_or-drop n s i 0)) (h (n + i))

-- the state to which a text leads
pub reached : (t : List ℕ) → AreBytes t → (p : ℕ) → p < 109 → (q : ℕ) × (q < 109) × (after t (meaning p) ≡ meaning q)
reached [] h p inside = (p, inside, refl)
reached (b ∷ t) h p inside =
    let q = next_state p b in
    let r = reached t (bytes-rest b t h) q (next-inside p b inside (h 0)) in
    (r.0, r.1, ap (λ ks. after t ks) (next-right p b inside (h 0)) ∙ r.2)

pub fits-at : (t : List ℕ) (k q : ℕ) → after t (meaning 1) ≡ meaning q → Fits k kinds t → Fits k (meaning q) []
fits-at t k q leads h =
    subst (λ ks. Fits k ks []) (ap (λ ks. after t ks) (sym leaf_is) ∙ leads)
    (after-to t k (known 1) [] (subst (λ x. Fits k (known 1) x) (sym (append-nil t)) h))

one-low : 1 < 109
one-low = omega arith

fits-one : (t : List ℕ) (j k : ℕ) → AreBytes t → Fits j kinds t → Fits k kinds t → j ≡ k
fits-one t j k bytes f g =
    let r = reached t bytes 1 one-low in
    class-only r.0 j r.1 (fits-at t j r.0 r.2 f) ∙ sym (class-only r.0 k r.1 (fits-at t k r.0 r.2 g))

word-some : (t : List ℕ) → IsWord t → 0 < length t
word-some [] w = absurd (no-empty-word w)
word-some (b ∷ t) w = omega arith

-- a word is no other leaf
pub not-both : (t : List ℕ) (k : ℕ) → AreBytes t → IsWord t → Fits k kinds t → ⊥
not-both t k bytes w h =
    let some = word-some t w in
    let whole = take-length t in
    let dead = word-dead t (length t) some (bytes 0) (subst (λ x. IsWord x) (sym whole) w) in
    none-other t (length t) k some some (bytes 0) dead (subst (λ x. Fits k kinds x) (sym whole) h)

pub leaf-one : (t : List ℕ) (j k : ℕ) → AreBytes t → IsLeaf j t → IsLeaf k t → j ≡ k
leaf-one t j k bytes (word w is) (word v same) = is ∙ sym same
leaf-one t j k bytes (word w is) (other h) = absurd (not-both t k bytes w h)
leaf-one t j k bytes (other h) (word v same) = absurd (not-both t j bytes v h)
leaf-one t j k bytes (other h) (other g) = fits-one t j k bytes h g

pub bytes-take : (n : ℕ) (s : List ℕ) → AreBytes s → AreBytes (take n s)
bytes-take zero s h i = omega arith
bytes-take (suc n) [] h i = omega arith
bytes-take (suc n) (b ∷ s) h zero = h 0
bytes-take (suc n) (b ∷ s) h (suc i) = bytes-take n s (bytes-rest b s h) i

longest-size : (s : List ℕ) (j k m n : ℕ) → IsLongest s j m → IsLongest s k n → m ≡ n
longest-size s j k m n f g = elim (cases_lt m n) [
  | inl less ↦ absurd (f.longest n k less g.inside g.is)
  | inr least ↦ elim (cases_lt n m) [ inl more ↦ absurd (g.longest m j more f.inside f.is) | inr most ↦ omega arith ]
]

longest-class : (s : List ℕ) (j k m n : ℕ) → AreBytes s → IsLongest s j m → IsLongest s k n → j ≡ k
longest-class s j k m n bytes f g =
    leaf-one (take m s) j k (bytes-take m s bytes) f.is (subst (λ x. IsLeaf k (take x s)) (sym (longest-size s j k m n f g)) g.is)

-- ---- what stands at a place

data Kind : Type 0 where
  k_end : Kind
  k_white : Kind
  k_line : ℕ → Kind
  k_block : ℕ → Kind
  k_open : Kind
  k_leaf : ℕ → ℕ → Kind
  k_literal : Kind
  k_none : Kind

abbrev IsKind : List ℕ → Kind → Type 0
IsKind s k_end = s ≡ []
IsKind s k_white = (0 < length s) × (is_white (get_or s 0 0) ≡ true)
IsKind s (k_line n) = IsLineComment s n
IsKind s (k_block n) = IsBlockComment s n
IsKind s k_open = IsOpenComment s
IsKind s (k_leaf class n) = IsLeafPlace s × IsLongest s class n
IsKind s k_literal = IsLeafPlace s × BeginsNone s × CanGoOn s
IsKind s k_none = IsLeafPlace s × BeginsNone s × (CanGoOn s → ⊥)

abbrev chain : Bool → Bool → Bool → Bool → ℕ
chain a b c d = cond a 0 (cond b 1 (cond c 2 (cond d 3 4)))

abbrev place : List ℕ → ℕ
place s = chain (eqb (length s) 0) (is_white (get_or s 0 0)) (begins_line_comment s) (begins_block_comment s)

abbrev rank : Kind → ℕ
rank k_end = 0
rank k_white = 1
rank (k_line n) = 2
rank (k_block n) = 3
rank k_open = 3
rank (k_leaf class n) = 4
rank k_literal = 4
rank k_none = 4

chain-is : (a b c d a' b' c' d' : Bool) → a ≡ a' → b ≡ b' → c ≡ c' → d ≡ d' → chain a b c d ≡ chain a' b' c' d'
chain-is a b c d a' b' c' d' e f g h =
    ap (λ x. chain x b c d) e ∙ ap (λ x. chain a' x c d) f ∙ ap (λ x. chain a' b' x d) g ∙ ap (λ x. chain a' b' c' x) h

eqb-is : (m n : ℕ) → eqb m n ≡ true → m ≡ n
eqb-is m n e = grind (arith, nat_tests)

not-zero : (n : ℕ) → 0 < n → eqb n 0 ≡ false
not-zero n h = grind (arith, nat_tests)

or-both : (c d : Bool) → (c || d) ≡ false → (c ≡ false) × (d ≡ false)
or-both true d e = absurd (let f : true ≡ false = e in cc)
or-both false d e = (refl, e)

and-false : (v : Bool) → (v && false) ≡ false
and-false true = refl
and-false false = refl

white-chain : (a b c d : Bool) → a ≡ false → b ≡ true → chain a b c d ≡ 1
white-chain a b c d e f = chain-is a b c d false true c d e f refl refl

line-chain : (a b c d : Bool) → a ≡ false → b ≡ false → c ≡ true → chain a b c d ≡ 2
line-chain a b c d e f g = chain-is a b c d false false true d e f g refl

block-chain : (a b c d : Bool) → a ≡ false → b ≡ false → c ≡ false → d ≡ true → chain a b c d ≡ 3
block-chain a b c d e f g h = chain-is a b c d false false false true e f g h

leaf-chain : (a b c d : Bool) → a ≡ false → b ≡ false → (c || d) ≡ false → chain a b c d ≡ 4
leaf-chain a b c d e f g = let w = or-both c d g in chain-is a b c d false false false false e f w.0 w.1

pub slash-first : (s : List ℕ) (x : Bool) → (eqb (get_or s 0 0) 47 && x) ≡ true → get_or s 0 0 ≡ 47
slash-first s x e = eqb-is (get_or s 0 0) 47 (either-true (eqb (get_or s 0 0) 47) x e).0

slash-some : (s : List ℕ) → get_or s 0 0 ≡ 47 → 0 < length s
slash-some s e = stands-inside s 0 46 e

slash-plain : (b : ℕ) → b ≡ 47 → is_white b ≡ false
slash-plain b e = ap (λ x. is_white x) e

block-not_line : (s : List ℕ) → begins_block_comment s ≡ true → begins_line_comment s ≡ false
block-not_line s e =
    let w = either-true (eqb (get_or s 0 0) 47) (eqb (get_or s 1 0) 42) e in
    let star : get_or s 1 0 ≡ 42 = eqb-is (get_or s 1 0) 42 w.1 in
    ap (λ b. eqb (get_or s 0 0) 47 && eqb b 47) star ∙ and-false (eqb (get_or s 0 0) 47)

block-place : (s : List ℕ) → begins_block_comment s ≡ true → place s ≡ 3
block-place s e =
    let slash = slash-first s (eqb (get_or s 1 0) 42) e in
    block-chain _ _ _ _ (not-zero (length s) (slash-some s slash)) (slash-plain (get_or s 0 0) slash) (block-not_line s e) e

line-place : (s : List ℕ) → begins_line_comment s ≡ true → place s ≡ 2
line-place s e =
    let slash = slash-first s (eqb (get_or s 1 0) 47) e in
    line-chain _ _ _ _ (not-zero (length s) (slash-some s slash)) (slash-plain (get_or s 0 0) slash) e

leaf-place : (s : List ℕ) → IsLeafPlace s → place s ≡ 4
leaf-place s h = leaf-chain _ _ _ _ (not-zero (length s) h.some) h.not_white h.not_comment

place-of : (s : List ℕ) (k : Kind) → IsKind s k → place s ≡ rank k
place-of s k_end h = ap (λ x. place x) h
place-of s k_white h = white-chain _ _ _ _ (not-zero (length s) h.0) h.1
place-of s (k_line n) h = line-place s h.begins
place-of s (k_block n) h = block-place s h.begins
place-of s k_open h = block-place s h.begins
place-of s (k_leaf class n) h = leaf-place s h.0
place-of s k_literal h = leaf-place s h.0
place-of s k_none h = leaf-place s h.0

-- ---- and nothing else does

-- a comment to the line's end that is shorter than another ends at a line end, or at the text's end
line-shorter : (s : List ℕ) (m n : ℕ) → IsLineComment s m → IsLineComment s n → m < n → ⊥
line-shorter s m n f g less = elim f.ends [
  | inl all ↦ let h = g.inside in omega arith
  | inr ends ↦ let e : true ≡ false = sym ends ∙ g.one_line m less in cc
]

line-one : (s : List ℕ) (m n : ℕ) → IsLineComment s m → IsLineComment s n → m ≡ n
line-one s m n f g = elim (cases_lt m n) [
  | inl less ↦ absurd (line-shorter s m n f g less)
  | inr least ↦ elim (cases_lt n m) [ inl more ↦ absurd (line-shorter s n m g f more) | inr most ↦ omega arith ]
]

block-one : (s : List ℕ) (m n : ℕ) → IsBlockComment s m → IsBlockComment s n → m ≡ n
block-one s m n f g = elim (cases_lt f.close g.close) [
  | inl less ↦ absurd (g.first f.close f.behind less f.closes)
  | inr least ↦ elim (cases_lt g.close f.close) [ inl more ↦ absurd (f.first g.close g.behind more g.closes) | inr most ↦ omega (arith, f.ends, g.ends) ]
]

kind-same : (s : List ℕ) (a b : Kind) → AreBytes s → rank a ≡ rank b → IsKind s a → IsKind s b → a ≡ b
kind-same s k_end k_end bytes e f g = refl
kind-same s k_end k_white bytes e f g = absurd (omega arith)
kind-same s k_end (k_line n) bytes e f g = absurd (omega arith)
kind-same s k_end (k_block n) bytes e f g = absurd (omega arith)
kind-same s k_end k_open bytes e f g = absurd (omega arith)
kind-same s k_end (k_leaf j n) bytes e f g = absurd (omega arith)
kind-same s k_end k_literal bytes e f g = absurd (omega arith)
kind-same s k_end k_none bytes e f g = absurd (omega arith)
kind-same s k_white k_end bytes e f g = absurd (omega arith)
kind-same s k_white k_white bytes e f g = refl
kind-same s k_white (k_line n) bytes e f g = absurd (omega arith)
kind-same s k_white (k_block n) bytes e f g = absurd (omega arith)
kind-same s k_white k_open bytes e f g = absurd (omega arith)
kind-same s k_white (k_leaf j n) bytes e f g = absurd (omega arith)
kind-same s k_white k_literal bytes e f g = absurd (omega arith)
kind-same s k_white k_none bytes e f g = absurd (omega arith)
kind-same s (k_line m) k_end bytes e f g = absurd (omega arith)
kind-same s (k_line m) k_white bytes e f g = absurd (omega arith)
kind-same s (k_line m) (k_line n) bytes e f g = ap (λ x. k_line x) (line-one s m n f g)
kind-same s (k_line m) (k_block n) bytes e f g = absurd (omega arith)
kind-same s (k_line m) k_open bytes e f g = absurd (omega arith)
kind-same s (k_line m) (k_leaf j n) bytes e f g = absurd (omega arith)
kind-same s (k_line m) k_literal bytes e f g = absurd (omega arith)
kind-same s (k_line m) k_none bytes e f g = absurd (omega arith)
kind-same s (k_block m) k_end bytes e f g = absurd (omega arith)
kind-same s (k_block m) k_white bytes e f g = absurd (omega arith)
kind-same s (k_block m) (k_line n) bytes e f g = absurd (omega arith)
kind-same s (k_block m) (k_block n) bytes e f g = ap (λ x. k_block x) (block-one s m n f g)
kind-same s (k_block m) k_open bytes e f g = absurd (g.unclosed f.close f.behind f.closes)
kind-same s (k_block m) (k_leaf j n) bytes e f g = absurd (omega arith)
kind-same s (k_block m) k_literal bytes e f g = absurd (omega arith)
kind-same s (k_block m) k_none bytes e f g = absurd (omega arith)
kind-same s k_open k_end bytes e f g = absurd (omega arith)
kind-same s k_open k_white bytes e f g = absurd (omega arith)
kind-same s k_open (k_line n) bytes e f g = absurd (omega arith)
kind-same s k_open (k_block n) bytes e f g = absurd (f.unclosed g.close g.behind g.closes)
kind-same s k_open k_open bytes e f g = refl
kind-same s k_open (k_leaf j n) bytes e f g = absurd (omega arith)
kind-same s k_open k_literal bytes e f g = absurd (omega arith)
kind-same s k_open k_none bytes e f g = absurd (omega arith)
kind-same s (k_leaf i m) k_end bytes e f g = absurd (omega arith)
kind-same s (k_leaf i m) k_white bytes e f g = absurd (omega arith)
kind-same s (k_leaf i m) (k_line n) bytes e f g = absurd (omega arith)
kind-same s (k_leaf i m) (k_block n) bytes e f g = absurd (omega arith)
kind-same s (k_leaf i m) k_open bytes e f g = absurd (omega arith)
kind-same s (k_leaf i m) (k_leaf j n) bytes e f g = ap (λ x. k_leaf x m) (longest-class s i j m n bytes f.1 g.1) ∙ ap (λ x. k_leaf j x) (longest-size s i j m n f.1 g.1)
kind-same s (k_leaf i m) k_literal bytes e f g = absurd (g.1 m i f.1.is)
kind-same s (k_leaf i m) k_none bytes e f g = absurd (g.1 m i f.1.is)
kind-same s k_literal k_end bytes e f g = absurd (omega arith)
kind-same s k_literal k_white bytes e f g = absurd (omega arith)
kind-same s k_literal (k_line n) bytes e f g = absurd (omega arith)
kind-same s k_literal (k_block n) bytes e f g = absurd (omega arith)
kind-same s k_literal k_open bytes e f g = absurd (omega arith)
kind-same s k_literal (k_leaf j n) bytes e f g = absurd (f.1 n j g.1.is)
kind-same s k_literal k_literal bytes e f g = refl
kind-same s k_literal k_none bytes e f g = absurd (g.2 f.2)
kind-same s k_none k_end bytes e f g = absurd (omega arith)
kind-same s k_none k_white bytes e f g = absurd (omega arith)
kind-same s k_none (k_line n) bytes e f g = absurd (omega arith)
kind-same s k_none (k_block n) bytes e f g = absurd (omega arith)
kind-same s k_none k_open bytes e f g = absurd (omega arith)
kind-same s k_none (k_leaf j n) bytes e f g = absurd (f.1 n j g.1.is)
kind-same s k_none k_literal bytes e f g = absurd (f.2 g.2)
kind-same s k_none k_none bytes e f g = refl

-- ---- one step

data Step : Type 0 where
  s_passed : ℕ → Step
  s_leaf : ℕ → ℕ → Step
  s_ended : Step
  s_stopped : ℕ → Cause → Step

abbrev IsStep : Bool → List ℕ → Step → Type 0
IsStep broken s (s_passed n) = IsBlank s n
IsStep broken s (s_leaf class n) = IsNextLeaf s class n
IsStep broken s s_ended = (s ≡ []) × (broken ≡ false)
IsStep broken s (s_stopped n cause) = IsBad broken s n cause

data AtEnd (broken : Bool) (step : Step) : Type 0 where
  at_end : step ≡ s_ended → broken ≡ false → AtEnd broken step
  at_break : step ≡ s_stopped 0 NotUtf8 → broken ≡ true → AtEnd broken step

data AtClosed (escape : Expression) (text : List ℕ) (go : Step) (need : Type 0) (step : Step) : Type 0 where
  goes : step ≡ go → (need → NoneRefused escape text) → AtClosed escape text go need step
  halts : (m : ℕ) → step ≡ s_stopped m BadLeaf → need → IsFirstRefused escape text m → AtClosed escape text go need step

data AtOpen (broken : Bool) (escape : Expression) (s : List ℕ) (step : Step) : Type 0 where
  o_never : broken ≡ false → step ≡ s_stopped 0 BadLeaf → AtOpen broken escape s step
  o_escaped : (m : ℕ) → broken ≡ true → IsFirstRefused escape s m → step ≡ s_stopped m BadLeaf → AtOpen broken escape s step
  o_cut : broken ≡ true → NoneRefused escape s → step ≡ s_stopped (length s) NotUtf8 → AtOpen broken escape s step

-- which step it is, by what stands there
abbrev Follows : Bool → List ℕ → Kind → Step → Type 0
Follows broken s k_end step = AtEnd broken step
Follows broken s k_white step = step ≡ s_passed 1
Follows broken s (k_line n) step = AtClosed comment_refused (take n s) (s_passed n) (Unit {0}) step
Follows broken s (k_block n) step = AtClosed comment_refused (take n s) (s_passed n) (Unit {0}) step
Follows broken s k_open step = AtOpen broken comment_refused s step
Follows broken s (k_leaf class n) step = AtClosed literal_refused (take n s) (s_leaf class n) (is_literal class ≡ true) step
Follows broken s k_literal step = AtOpen broken literal_refused s step
Follows broken s k_none step = step ≡ s_stopped 0 BadLeaf

first-one : (escape : Expression) (s : List ℕ) (m n : ℕ) → IsFirstRefused escape s m → IsFirstRefused escape s n → m ≡ n
first-one escape s m n f g = elim (cases_lt m n) [
  | inl less ↦ absurd (g.first m less f.stands)
  | inr least ↦ elim (cases_lt n m) [ inl more ↦ absurd (f.first n more g.stands) | inr most ↦ omega arith ]
]

both-ways : (v : Bool) → v ≡ true → v ≡ false → ⊥
both-ways v e f = let g : true ≡ false = sym e ∙ f in cc

end-same : (broken : Bool) (p q : Step) → AtEnd broken p → AtEnd broken q → p ≡ q
end-same broken p q (at_end e f) (at_end g h) = e ∙ sym g
end-same broken p q (at_end e f) (at_break g h) = absurd (both-ways broken h f)
end-same broken p q (at_break e f) (at_end g h) = absurd (both-ways broken f h)
end-same broken p q (at_break e f) (at_break g h) = e ∙ sym g

stop-same : (m n : ℕ) → m ≡ n → s_stopped m BadLeaf ≡ s_stopped n BadLeaf
stop-same m n e = ap (λ x. s_stopped x BadLeaf) e

closed-same : (escape : Expression) (t : List ℕ) (go : Step) (need : Type 0) (p q : Step) → AtClosed escape t go need p → AtClosed escape t go need q → p ≡ q
closed-same escape t go need p q (goes e f) (goes g h) = e ∙ sym g
closed-same escape t go need p q (goes e f) (halts m g x h) = absurd (f x m h.stands)
closed-same escape t go need p q (halts m e x f) (goes g h) = absurd (h x m f.stands)
closed-same escape t go need p q (halts m e x f) (halts n g y h) = e ∙ stop-same m n (first-one escape t m n f h) ∙ sym g

open-same : (broken : Bool) (escape : Expression) (s : List ℕ) (p q : Step) → AtOpen broken escape s p → AtOpen broken escape s q → p ≡ q
open-same broken escape s p q (o_never b e) (o_never c f) = e ∙ sym f
open-same broken escape s p q (o_never b e) (o_escaped n c g f) = absurd (both-ways broken c b)
open-same broken escape s p q (o_never b e) (o_cut c g f) = absurd (both-ways broken c b)
open-same broken escape s p q (o_escaped m b g e) (o_never c f) = absurd (both-ways broken b c)
open-same broken escape s p q (o_escaped m b g e) (o_escaped n c h f) = e ∙ stop-same m n (first-one escape s m n g h) ∙ sym f
open-same broken escape s p q (o_escaped m b g e) (o_cut c h f) = absurd (h m g.stands)
open-same broken escape s p q (o_cut b g e) (o_never c f) = absurd (both-ways broken b c)
open-same broken escape s p q (o_cut b g e) (o_escaped n c h f) = absurd (g n h.stands)
open-same broken escape s p q (o_cut b g e) (o_cut c h f) = e ∙ sym f

follows-same : (broken : Bool) (s : List ℕ) (k : Kind) (p q : Step) → Follows broken s k p → Follows broken s k q → p ≡ q
follows-same broken s k_end p q f g = end-same broken p q f g
follows-same broken s k_white p q f g = f ∙ sym g
follows-same broken s (k_line n) p q f g = closed-same comment_refused (take n s) (s_passed n) (Unit {0}) p q f g
follows-same broken s (k_block n) p q f g = closed-same comment_refused (take n s) (s_passed n) (Unit {0}) p q f g
follows-same broken s k_open p q f g = open-same broken comment_refused s p q f g
follows-same broken s (k_leaf class n) p q f g = closed-same literal_refused (take n s) (s_leaf class n) (is_literal class ≡ true) p q f g
follows-same broken s k_literal p q f g = open-same broken literal_refused s p q f g
follows-same broken s k_none p q f g = f ∙ sym g

record Explained (broken : Bool) (s : List ℕ) (step : Step) : Type 0 where
  kind : Kind
  is : IsKind s kind
  follows : Follows broken s kind step

stopped-is : (m n : ℕ) (c d : Cause) → m ≡ n → c ≡ d → s_stopped m c ≡ s_stopped n d
stopped-is m n c d e f = ap (λ x. s_stopped x c) e ∙ ap (λ x. s_stopped n x) f

open-step : (broken : Bool) (escape : Expression) (s : List ℕ) (n : ℕ) (cause : Cause) → IsBadOpen broken escape s n cause → AtOpen broken escape s (s_stopped n cause)
open-step broken escape s n cause (never_closed b z c) = o_never b (stopped-is n 0 cause BadLeaf z c)
open-step broken escape s n cause (escaped b first c) = o_escaped n b first (stopped-is n n cause BadLeaf refl c)
open-step broken escape s n cause (cut_off b none e c) = o_cut b none (stopped-is n (length s) cause NotUtf8 e c)

explain-blank : (broken : Bool) (s : List ℕ) (n : ℕ) → IsBlank s n → Explained broken s (s_passed n)
explain-blank broken s n (white some is one) = record { kind = k_white; is = (some, is); follows = ap (λ x. s_passed x) one }
explain-blank broken s n (comment (line c) none) = record { kind = k_line n; is = c; follows = goes refl (λ u. none) }
explain-blank broken s n (comment (block c) none) = record { kind = k_block n; is = c; follows = goes refl (λ u. none) }

explain-bad : (broken : Bool) (s : List ℕ) (n : ℕ) (cause : Cause) → IsBad broken s n cause → Explained broken s (s_stopped n cause)
explain-bad broken s n cause (broken_end e b z c) = record { kind = k_end; is = e; follows = at_break (stopped-is n 0 cause NotUtf8 z c) b }
explain-bad broken s n cause (in_comment size (line is) first c) = record { kind = k_line size; is = is; follows = halts n (stopped-is n n cause BadLeaf refl c) tt first }
explain-bad broken s n cause (in_comment size (block is) first c) = record { kind = k_block size; is = is; follows = halts n (stopped-is n n cause BadLeaf refl c) tt first }
explain-bad broken s n cause (open_comment is h) = record { kind = k_open; is = is; follows = open-step broken comment_refused s n cause h }
explain-bad broken s n cause (in_literal class size at longest is first c) =
    record { kind = k_leaf class size; is = (at, longest); follows = halts n (stopped-is n n cause BadLeaf refl c) is first }
explain-bad broken s n cause (open_literal at none go h) = record { kind = k_literal; is = (at, none, go); follows = open-step broken literal_refused s n cause h }
explain-bad broken s n cause (no_leaf at none closed z c) = record { kind = k_none; is = (at, none, closed); follows = stopped-is n 0 cause BadLeaf z c }

explain : (broken : Bool) (s : List ℕ) (p : Step) → IsStep broken s p → Explained broken s p
explain broken s (s_passed n) h = explain-blank broken s n h
explain broken s (s_leaf class n) h = record { kind = k_leaf class n; is = (h.place, h.longest); follows = goes refl h.accepted }
explain broken s s_ended h = record { kind = k_end; is = h.0; follows = at_end refl h.1 }
explain broken s (s_stopped n cause) h = explain-bad broken s n cause h

step-same : (broken : Bool) (s : List ℕ) (p q : Step) → AreBytes s → IsStep broken s p → IsStep broken s q → p ≡ q
step-same broken s p q bytes f g =
    let a = explain broken s p f in
    let b = explain broken s q g in
    let same = kind-same s a.kind b.kind bytes (sym (place-of s a.kind a.is) ∙ place-of s b.kind b.is) a.is b.is in
    follows-same broken s b.kind p q (subst (λ k. Follows broken s k p) same a.follows) b.follows

passed-one : (m n : ℕ) → s_passed m ≡ s_passed n → m ≡ n
passed-one m n e = cc

leaf-size_one : (i j m n : ℕ) → s_leaf i m ≡ s_leaf j n → m ≡ n
leaf-size_one i j m n e = cc

leaf-class_one : (i j m n : ℕ) → s_leaf i m ≡ s_leaf j n → i ≡ j
leaf-class_one i j m n e = cc

-- ---- the same for the first steps of two cuts

pub blank-one : (broken : Bool) (s : List ℕ) (m n : ℕ) → AreBytes s → IsBlank s m → IsBlank s n → m ≡ n
blank-one broken s m n bytes f g = passed-one m n (step-same broken s (s_passed m) (s_passed n) bytes f g)

pub next-size_one : (broken : Bool) (s : List ℕ) (i j m n : ℕ) → AreBytes s → IsNextLeaf s i m → IsNextLeaf s j n → m ≡ n
next-size_one broken s i j m n bytes f g = leaf-size_one i j m n (step-same broken s (s_leaf i m) (s_leaf j n) bytes f g)

pub next-class_one : (broken : Bool) (s : List ℕ) (i j m n : ℕ) → AreBytes s → IsNextLeaf s i m → IsNextLeaf s j n → i ≡ j
next-class_one broken s i j m n bytes f g = leaf-class_one i j m n (step-same broken s (s_leaf i m) (s_leaf j n) bytes f g)

pub blank-not_leaf : (broken : Bool) (s : List ℕ) (m j n : ℕ) → AreBytes s → IsBlank s m → IsNextLeaf s j n → ⊥
blank-not_leaf broken s m j n bytes f g = let e = step-same broken s (s_passed m) (s_leaf j n) bytes f g in cc

pub blank-not_end : (broken : Bool) (s : List ℕ) (m : ℕ) → AreBytes s → IsBlank s m → s ≡ [] → broken ≡ false → ⊥
blank-not_end broken s m bytes f e b = let x = step-same broken s (s_passed m) s_ended bytes f (e, b) in cc

pub blank-not_bad : (broken : Bool) (s : List ℕ) (m n : ℕ) (cause : Cause) → AreBytes s → IsBlank s m → IsBad broken s n cause → ⊥
blank-not_bad broken s m n cause bytes f g = let e = step-same broken s (s_passed m) (s_stopped n cause) bytes f g in cc

pub leaf-not_end : (broken : Bool) (s : List ℕ) (j m : ℕ) → AreBytes s → IsNextLeaf s j m → s ≡ [] → broken ≡ false → ⊥
leaf-not_end broken s j m bytes f e b = let x = step-same broken s (s_leaf j m) s_ended bytes f (e, b) in cc

pub leaf-not_bad : (broken : Bool) (s : List ℕ) (j m n : ℕ) (cause : Cause) → AreBytes s → IsNextLeaf s j m → IsBad broken s n cause → ⊥
leaf-not_bad broken s j m n cause bytes f g = let e = step-same broken s (s_leaf j m) (s_stopped n cause) bytes f g in cc

pub end-not_bad : (broken : Bool) (s : List ℕ) (n : ℕ) (cause : Cause) → AreBytes s → s ≡ [] → broken ≡ false → IsBad broken s n cause → ⊥
end-not_bad broken s n cause bytes e b g = let x = step-same broken s s_ended (s_stopped n cause) bytes (e, b) g in cc

bad-size_one : (broken : Bool) (s : List ℕ) (m n : ℕ) (c d : Cause) → AreBytes s → IsBad broken s m c → IsBad broken s n d → m ≡ n
bad-size_one broken s m n c d bytes f g = let e = step-same broken s (s_stopped m c) (s_stopped n d) bytes f g in cc

bad-cause_one : (broken : Bool) (s : List ℕ) (m n : ℕ) (c d : Cause) → AreBytes s → IsBad broken s m c → IsBad broken s n d → c ≡ d
bad-cause_one broken s m n c d bytes f g = let e = step-same broken s (s_stopped m c) (s_stopped n d) bytes f g in cc

-- ---- whole cuts

abbrev pub leaf_record : ℕ → ℕ → ℕ → ℕ → Leaf
leaf_record from at to class = record { prefix_from = from; from = at; to = to; class = class }

abbrev pub bad_record : ℕ → Cause → Bad
bad_record byte cause = record { byte = byte; cause = cause }

pub leaf-is : (from at m n i j : ℕ) → m ≡ n → i ≡ j
    → leaf_record from at (at + m) i ≡ leaf_record from at (at + n) j
leaf-is from at m n i j e f = ap (λ x. leaf_record from at (at + x) i) e ∙ ap (λ x. leaf_record from at (at + n) x) f

bad-is : (at m n : ℕ) (c d : Cause) → m ≡ n → c ≡ d → bad_record (at + m) c ≡ bad_record (at + n) d
bad-is at m n c d e f = ap (λ x. bad_record (at + x) c) e ∙ ap (λ x. bad_record (at + n) x) f

-- a text is cut into the same leaves, up to the same bad place
abbrev pub Same : List Leaf → List Leaf → Option Bad → Option Bad → Type 0
Same ls ms a b = (ls ≡ ms) × (a ≡ b)

pub cuts-same : (broken : Bool) (from at : ℕ) (s : List ℕ) (ls ms : List Leaf) (a b : Option Bad) → AreBytes s
    → Cuts broken from at s ls a → Cuts broken from at s ms b → Same ls ms a b
cuts-same broken from at s ls ms a b bytes (passed m blank c) (passed n other_blank d) =
    let e = blank-one broken s m n bytes blank other_blank in
    cuts-same broken from (at + m) (drop m s) ls ms a b (bytes-drop m s bytes) c
    (subst (λ k. Cuts broken from (at + k) (drop k s) ms b) (sym e) d)
cuts-same broken from at s ls ms a b bytes (passed m blank c) (leaf {leaves = others} j n next d) = absurd (blank-not_leaf broken s m j n bytes blank next)
cuts-same broken from at s ls ms a b bytes (passed m blank c) (ended e x) = absurd (blank-not_end broken s m bytes blank e x)
cuts-same broken from at s ls ms a b bytes (passed m blank c) (stopped n cause h) = absurd (blank-not_bad broken s m n cause bytes blank h)
cuts-same broken from at s ls ms a b bytes (leaf {leaves = leaves} i m next c) (passed n blank d) = absurd (blank-not_leaf broken s n i m bytes blank next)
cuts-same broken from at s ls ms a b bytes (leaf {leaves = leaves} i m next c) (leaf {leaves = others} j n other_next d) =
    let e = next-size_one broken s i j m n bytes next other_next in
    let f = next-class_one broken s i j m n bytes next other_next in
    let r = cuts-same broken (at + m) (at + m) (drop m s) leaves others a b (bytes-drop m s bytes) c
    (subst (λ k. Cuts broken (at + k) (at + k) (drop k s) others b) (sym e) d) in
    (ap (λ x. leaf_record from at (at + m) i ∷ x) r.0 ∙ ap (λ x. x ∷ others) (leaf-is from at m n i j e f), r.1)
cuts-same broken from at s ls ms a b bytes (leaf {leaves = leaves} i m next c) (ended e x) = absurd (leaf-not_end broken s i m bytes next e x)
cuts-same broken from at s ls ms a b bytes (leaf {leaves = leaves} i m next c) (stopped n cause h) = absurd (leaf-not_bad broken s i m n cause bytes next h)
cuts-same broken from at s ls ms a b bytes (ended e x) (passed n blank d) = absurd (blank-not_end broken s n bytes blank e x)
cuts-same broken from at s ls ms a b bytes (ended e x) (leaf {leaves = others} j n next d) = absurd (leaf-not_end broken s j n bytes next e x)
cuts-same broken from at s ls ms a b bytes (ended e x) (ended f y) = (refl, refl)
cuts-same broken from at s ls ms a b bytes (ended e x) (stopped n cause h) = absurd (end-not_bad broken s n cause bytes e x h)
cuts-same broken from at s ls ms a b bytes (stopped m cause h) (passed n blank d) = absurd (blank-not_bad broken s n m cause bytes blank h)
cuts-same broken from at s ls ms a b bytes (stopped m cause h) (leaf {leaves = others} j n next d) = absurd (leaf-not_bad broken s j n m cause bytes next h)
cuts-same broken from at s ls ms a b bytes (stopped m cause h) (ended f y) = absurd (end-not_bad broken s m cause bytes f y h)
cuts-same broken from at s ls ms a b bytes (stopped m c h) (stopped n d g) =
    let e = bad-size_one broken s m n c d bytes h g in
    let f = bad-cause_one broken s m n c d bytes h g in
    (ap (λ x. end_leaf from (at + x) ∷ []) e, ap (λ x. Some x) (bad-is at m n c d e f))

pub leaves-same : (bytes : List ℕ) (ls ms : List Leaf) (a b : Option Bad) → AreBytes bytes → AreJavaLeaves bytes ls a → AreJavaLeaves bytes ms b → Same ls ms a b
unfolding AreJavaLeaves
leaves-same bytes ls ms a b are f g =
    cuts-same (is_broken bytes) 0 (mark_size (utf8_front bytes)) (drop (mark_size (utf8_front bytes)) (utf8_front bytes)) ls ms a b
    (bytes-drop (mark_size (utf8_front bytes)) (utf8_front bytes) (bytes-take (utf8_valid_len bytes) bytes are)) f g
