-- The further lines of block scalars.
use Rattle.std.proofs.Common.{◌≡◌, ℕ, ◌+◌, ◌<◌, ◌≤◌, true, false, List, [], ◌∷◌, length, drop, Option, refl, sym, ◌∙◌, ap, subst, arith}
use Rattle.std.proofs.lemmas.List.{drop-drop, length-drop}
use Rattle.yaml_lex.specs.Scalars.{IsRun, in_line}
use Rattle.yaml_lex.specs.BlockScalars.{BlankLines, at_end, no_more, more, belongs, Lines, over, line, IsHead, IsBlock, least_of, digit_of}
use Rattle.yaml_lex.specs.Scanning.{AtLineEnd, NoHead, NoBlock}
use Rattle.yaml_lex.proofs.Heads.{at-ending}

-- whatever lines stand from byte `at` on, the text has them with what is in front
pub record IsSoFar (least : ℕ) (s : List ℕ) (at : ℕ) : Type 0 where
  pub inside : at ≤ length s
  pub ending : AtLineEnd (drop at s)
  pub on : (m : ℕ) → Lines least (drop at s) m → Lines least s (at + m)

pub start : (least : ℕ) (s : List ℕ) → AtLineEnd s → IsSoFar least s 0
start least s h = record {
  inside = omega arith;
  ending = h;
  on = λ m b. subst (λ n. Lines least s n) (let e : m ≡ 0 + m = omega arith in e) b;
}

pub blanks-some : (s : List ℕ) (n : ℕ) → BlankLines s n → 0 < length s → 0 < n
blanks-some s n (at_end e z) some = absurd (let f : length s ≡ 0 = ap length e in omega arith)
blanks-some s n (no_more end not_blank is) some = omega (arith, is)
blanks-some s n (more size end is_blank run rest is) some = omega (arith, is)

-- one more line: r is the code's text from byte `at` on, t that behind the blank lines
pub one-more : (least : ℕ) (s r t : List ℕ) (at skip size : ℕ) → IsSoFar least s at → r ≡ drop at s → BlankLines r skip → skip ≤ length r
    → t ≡ drop (at + skip) s → belongs least t ≡ true → IsRun in_line t size → IsSoFar least s (at + skip + size)
one-more least s r t at skip size h same_r blank fits same_t here run =
    let behind : drop skip (drop at s) ≡ drop (at + skip) s = drop-drop skip at s in
    let to : t ≡ drop skip (drop at s) = same_t ∙ sym behind in
    let run_here = subst (λ x. IsRun in_line x size) same_t run in
    let next : drop (skip + size) (drop at s) ≡ drop (at + skip + size) s = drop-drop (skip + size) at s ∙ ap (λ (k : ℕ). drop k s) (let f : at + (skip + size) ≡ at + skip + size = omega arith in f) in
    record {
      inside = omega (arith, run_here.inside, length-drop (at + skip) s, h.inside, fits, ap length same_r, length-drop at s);
      ending = subst (λ x. AtLineEnd x) (drop-drop size (at + skip) s) (at-ending (drop size (drop (at + skip) s)) run_here.ends);
      on = λ m lines. subst (λ k. Lines least s k) (let f : at + (skip + size + m) ≡ at + skip + size + m = omega arith in f)
          (h.on (skip + size + m)
          (line skip size (subst (λ x. BlankLines x skip) same_r blank) (subst (λ x. belongs least x ≡ true) to here)
          (subst (λ x. IsRun in_line x size) to run) (subst (λ x. Lines least x m) (sym next) lines) refl));
    }

-- no more: behind blank lines stands the end, or a line that doesn't belong
pub stops : (least : ℕ) (s r t : List ℕ) (at skip : ℕ) → IsSoFar least s at → r ≡ drop at s → BlankLines r skip → t ≡ drop (at + skip) s
    → belongs least t ≡ false → Lines least s at
stops least s r t at skip h same_r blank same_t other =
    let to : t ≡ drop skip (drop at s) = same_t ∙ sym (drop-drop skip at s) in
    subst (λ k. Lines least s k) (let f : at + 0 ≡ at = omega arith in f)
    (h.on 0 (over skip (subst (λ x. BlankLines x skip) same_r blank) (subst (λ x. belongs least x ≡ false) to other) refl))

pub belongs-some : (least : ℕ) (t : List ℕ) → belongs least t ≡ true → 0 < length t
unfolding belongs
belongs-some least [] e = absurd (let f : false ≡ true = e in cc)
belongs-some least (b ∷ t) e = omega arith

-- each line goes further
pub further : (least : ℕ) (s r t : List ℕ) (at skip size : ℕ) → r ≡ drop at s → BlankLines r skip → t ≡ drop (at + skip) s → belongs least t ≡ true
    → at < at + skip + size
further least s r t at skip size same_r blank same_t here =
    let some = belongs-some least t here in
    let long : 0 < length r = omega (arith, ap length same_r, length-drop at s, ap length same_t, length-drop (at + skip) s, some) in
    let more_than : 0 < skip = blanks-some r skip blank long in
    omega (arith, more_than)

-- ---- the whole

pub is-block : (column digit : Option ℕ) (s r : List ℕ) (head least n : ℕ) → IsHead s head → least ≡ least_of column digit → digit ≡ digit_of s
    → r ≡ drop head s → Lines least r n → IsBlock column s (head + n)
is-block column digit s r head least n is least_is digit_is same lines = record {
  head = head;
  is_head = is;
  rest = n;
  lines = subst (λ d. Lines (least_of column d) (drop head s) n) digit_is (subst (λ k. Lines k (drop head s) n) least_is (subst (λ x. Lines least x n) same lines));
  size = refl;
}

pub no-block : (column : Option ℕ) (s : List ℕ) → NoHead s → NoBlock column s
no-block column s none n b = none b.head b.is_head
