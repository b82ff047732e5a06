-- The leaves of a file tile its bytes.
use Rattle.std.proofs.Common.{◌≡◌, ℕ, suc, ◌+◌, ◌-◌, ◌<◌, ◌≤◌, inl, inr, Bool, false, ltb, List, [], ◌∷◌, length, take, drop, get_or, Option, Some, None, refl, sym, ◌∙◌, ap, subst, arith}
use Rattle.std.proofs.lemmas.Bool.{cases_lt}
use Rattle.std.proofs.lemmas.Bool.Decides.{nat_tests}
use Rattle.std.proofs.lemmas.List.{length-drop, length-take-le, get_or_past}
use Rattle.std.proofs.lemmas.Str.{utf8_valid_len_le}
use Rattle.std.specs.Str.Lossy.{utf8_valid_len}
use Rattle.rw_base.specs.declared.tree.Leaf.{Leaf}
use Rattle.rw_base.specs.declared.place.Cause.{Cause}
use Rattle.rw_base.specs.Arena.{Tile, end_from, leaf_at}
use Rattle.java_lex.specs.declared.class.TheConstants.{END}
use Rattle.rw_base.specs.declared.leaves.Bad.{Bad}
use Rattle.java_lex.specs.Literals.{literal_refused, comment_refused}
use Rattle.java_lex.specs.Kinds.{IsLeaf, word, other}
use Rattle.java_lex.specs.Blanks.{IsComment, line, block, IsBlockComment}
use Rattle.rw_base.specs.Utf8.{utf8_front, is_broken, mark_size}
use Rattle.java_lex.specs.Leaves.{Cuts, passed, leaf, ended, stopped, IsBlank, white, comment, IsNextLeaf, IsBad, broken_end, in_comment, open_comment, in_literal, open_literal, no_leaf, IsBadOpen, never_closed, escaped, cut_off, AreJavaLeaves}
use Rattle.rw_base.specs.Cut.{ends_at}
use Rattle.java_lex.specs.Tiles.{AreTiles}
use Rattle.java_lex.proofs.Best.{start-empty}
use Rattle.java_lex.proofs.Pieces.{no-empty-word, refused-inside, refused-front}
use Rattle.java_lex.proofs.Cutting.{mark-inside}

-- ---- how far each step goes

-- a byte that isn't 0 stands inside
pub stands-inside : (s : List ℕ) (k b : ℕ) → get_or s k 0 ≡ suc b → k < length s
stands-inside s k b e = elim (cases_lt k (length s)) [
  | inl inside ↦ inside
  | inr beyond ↦ absurd (let f : 0 ≡ suc b = sym (get_or_past s k 0 beyond) ∙ e in cc)
]

pub block-inside : (s : List ℕ) (n : ℕ) → IsBlockComment s n → n ≤ length s
block-inside s n c = let at = stands-inside s (c.close + 1) 46 c.closes.1 in omega (arith, c.ends)

pub comment-inside : (s : List ℕ) (n : ℕ) → IsComment s n → n ≤ length s
comment-inside s n (line c) = c.inside
comment-inside s n (block c) = block-inside s n c

pub blank-inside : (s : List ℕ) (n : ℕ) → IsBlank s n → n ≤ length s
blank-inside s n (white some is one) = omega (arith, one)
blank-inside s n (comment is none) = comment-inside s n is

leaf-not_empty : (class : ℕ) → IsLeaf class [] → ⊥
leaf-not_empty class (word w is) = no-empty-word w
leaf-not_empty class (other h) = start-empty 1 class (inl refl) h

pub next-some : (s : List ℕ) (class n : ℕ) → IsNextLeaf s class n → 0 < n
next-some s class n next = elim (cases_lt 0 n) [
  | inl some ↦ some
  | inr none ↦
      let z : n ≡ 0 = omega arith in
      absurd (leaf-not_empty class (subst (λ k. IsLeaf class (take k s)) z next.longest.is))
]

zero-inside : (n k : ℕ) → n ≡ 0 → n ≤ k
zero-inside n k e = omega arith

same-inside : (n k : ℕ) → n ≡ k → n ≤ k
same-inside n k e = omega arith

open-inside_literal : (broken : Bool) (s : List ℕ) (n : ℕ) (cause : Cause) → IsBadOpen broken literal_refused s n cause → n ≤ length s
open-inside_literal broken s n cause (never_closed b z c) = zero-inside n (length s) z
open-inside_literal broken s n cause (escaped b first c) = refused-inside 2 s n (inl refl) first
open-inside_literal broken s n cause (cut_off b none e c) = same-inside n (length s) e

open-inside_comment : (broken : Bool) (s : List ℕ) (n : ℕ) (cause : Cause) → IsBadOpen broken comment_refused s n cause → n ≤ length s
open-inside_comment broken s n cause (never_closed b z c) = zero-inside n (length s) z
open-inside_comment broken s n cause (escaped b first c) = refused-inside 3 s n (inr refl) first
open-inside_comment broken s n cause (cut_off b none e c) = same-inside n (length s) e

pub bad-inside : (broken : Bool) (s : List ℕ) (n : ℕ) (cause : Cause) → IsBad broken s n cause → n ≤ length s
bad-inside broken s n cause (broken_end e b z c) = zero-inside n (length s) z
bad-inside broken s n cause (in_comment size is first c) = refused-front 3 s size n (inr refl) first
bad-inside broken s n cause (open_comment is h) = open-inside_comment broken s n cause h
bad-inside broken s n cause (in_literal class size place longest is first c) = refused-front 2 s size n (inl refl) first
bad-inside broken s n cause (open_literal place none go h) = open-inside_literal broken s n cause h
bad-inside broken s n cause (no_leaf place none closed z c) = zero-inside n (length s) z

some-none : (bad : Bad) → Some bad ≡ None → ⊥
some-none bad e = cc

plus-nothing : (at : ℕ) → at + 0 ≡ at
plus-nothing at = omega arith

-- ---- the leaves of a text

-- where the leaves of a text that begins at this byte end
abbrev stop : ℕ → List ℕ → Option Bad → ℕ
stop at s None = at + length s
stop at s (Some bad) = bad.byte

stop-drop : (at n : ℕ) (s : List ℕ) (bad : Option Bad) → n ≤ length s → stop (at + n) (drop n s) bad ≡ stop at s bad
stop-drop at n s None h = omega (arith, length-drop n s)
stop-drop at n s (Some bad) h = refl

pub record IsTiled (from at : ℕ) (s : List ℕ) (leaves : List Leaf) (bad : Option Bad) : Type 0 where
  pub tile : Tile from leaves
  pub ends : end_from from leaves ≡ stop at s bad
  pub inside : stop at s bad ≤ at + length s
  pub some : 0 < length leaves
  pub few : length leaves ≤ length s + 1
  pub empty_end : (leaf_at leaves (length leaves - 1)).from ≡ end_from from leaves
  pub end_class : (leaf_at leaves (length leaves - 1)).class ≡ END

-- one less than a number and one more
less-one : (n : ℕ) → suc n - 1 ≡ n
less-one n = omega arith

some-number : (n : ℕ) → 0 < n → n ≡ suc (n - 1)
some-number n h = omega arith

last-cons : (l : Leaf) (ls : List Leaf) → 0 < length ls → leaf_at (l ∷ ls) (length (l ∷ ls) - 1) ≡ leaf_at ls (length ls - 1)
unfolding leaf_at
last-cons l ls h =
    ap (λ k. leaf_at (l ∷ ls) k) (less-one (length ls) ∙ some-number (length ls) h)

end-tiled : (from at n : ℕ) (s : List ℕ) (bad : Option Bad) → from ≤ at → n ≤ length s → stop at s bad ≡ at + n
    → IsTiled from at s (record { prefix_from = from; from = at + n; to = at + n; class = END } ∷ []) bad
unfolding leaf_at
end-tiled from at n s bad order inside is = record {
  tile = (refl, omega arith, omega arith, tt);
  ends = sym is;
  inside = omega arith;
  some = omega arith;
  few = omega arith;
  empty_end = refl;
  end_class = refl;
}

pub tiled : (broken : Bool) (from at : ℕ) (s : List ℕ) (leaves : List Leaf) (bad : Option Bad) → Cuts broken from at s leaves bad → from ≤ at
    → IsTiled from at s leaves bad
tiled broken from at s leaves bad (passed n blank c) order =
    let r = tiled broken from (at + n) (drop n s) leaves bad c (omega arith) in
    let inside = blank-inside s n blank in
    let same = stop-drop at n s bad inside in
    record {
      tile = r.tile;
      ends = r.ends ∙ same;
      inside = let h = r.inside in omega (arith, length-drop n s);
      some = r.some;
      few = let h = r.few in omega (arith, length-drop n s);
      empty_end = r.empty_end;
      end_class = r.end_class;
    }
tiled broken from at s ls bad (leaf {leaves = leaves} class n next c) order =
    let r = tiled broken (at + n) (at + n) (drop n s) leaves bad c (omega arith) in
    let inside = next.longest.inside in
    let some = next-some s class n next in
    let same = stop-drop at n s bad inside in
    let last = last-cons (record { prefix_from = from; from = at; to = at + n; class = class }) leaves r.some in
    record {
      tile = (refl, order, omega arith, r.tile);
      ends = r.ends ∙ same;
      inside = let h = r.inside in omega (arith, length-drop n s);
      some = omega arith;
      few = let h = r.few in omega (arith, length-drop n s);
      empty_end = ap (λ (l : Leaf). l.from) last ∙ r.empty_end;
      end_class = ap (λ (l : Leaf). l.class) last ∙ r.end_class;
    }
tiled broken from at s ls bad (ended e b) order =
    subst (λ k. IsTiled from at s (record { prefix_from = from; from = k; to = k; class = END } ∷ []) None) (plus-nothing at)
    (end-tiled from at 0 s None order (omega arith) (ap (λ n. at + n) (ap length e)))
tiled broken from at s ls bad (stopped n cause h) order = end-tiled from at n s (Some (record { byte = at + n; cause = cause })) order (bad-inside broken s n cause h) refl

-- without a bad place the text isn't broken
none-broken : (broken : Bool) (from at : ℕ) (s : List ℕ) (leaves : List Leaf) (bad : Option Bad) → Cuts broken from at s leaves bad → bad ≡ None → broken ≡ false
none-broken broken from at s leaves bad (passed n blank c) e = none-broken broken from (at + n) (drop n s) leaves bad c e
none-broken broken from at s ls bad (leaf {leaves = leaves} class n next c) e = none-broken broken (at + n) (at + n) (drop n s) leaves bad c e
none-broken broken from at s ls bad (ended x b) e = b
none-broken broken from at s ls bad (stopped n cause h) e = absurd (some-none (record { byte = at + n; cause = cause }) e)

not-less : (a b : ℕ) → a ≤ b → ltb a b ≡ false → a ≡ b
not-less a b h e = grind (arith, nat_tests)

-- where the leaves of the text end is where those of the file do
file-stop : (bytes : List ℕ) (at : ℕ) (bad : Option Bad) → at ≤ length (utf8_front bytes) → (bad ≡ None → is_broken bytes ≡ false)
    → stop at (drop at (utf8_front bytes)) bad ≡ ends_at bytes bad
file-stop bytes at None h whole =
    let n = utf8_valid_len bytes in
    let same = not-less n (length bytes) (utf8_valid_len_le bytes) (whole refl) in
    omega (arith, length-drop at (take n bytes), length-take-le n bytes (utf8_valid_len_le bytes))
file-stop bytes at (Some bad) h whole = refl

pub tiles : (bytes : List ℕ) (leaves : List Leaf) (bad : Option Bad) → AreJavaLeaves bytes leaves bad → AreTiles bytes leaves bad
unfolding AreJavaLeaves
tiles bytes leaves bad c =
    let text = utf8_front bytes in
    let at = mark_size text in
    let inside = mark-inside text in
    let r = tiled (is_broken bytes) 0 at (drop at text) leaves bad c (omega arith) in
    let same = file-stop bytes at bad inside (none-broken (is_broken bytes) 0 at (drop at text) leaves bad c) in
    let size = length-take-le (utf8_valid_len bytes) bytes (utf8_valid_len_le bytes) in
    let fits = utf8_valid_len_le bytes in
    record {
      cut = record {
        tile = r.tile;
        ends = r.ends ∙ same;
        inside = subst (λ n. n ≤ length bytes) same (let h = r.inside in omega (arith, length-drop at text));
        some = r.some;
        empty_end = r.empty_end;
      };
      few = let h = r.few in omega (arith, length-drop at text);
      end_class = r.end_class;
    }
