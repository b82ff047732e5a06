-- The leaves of a file tile its bytes.
use Rattle.std.proofs.Common.{◌≡◌, ℕ, suc, zero, ◌+◌, ◌*◌, ◌-◌, ◌<◌, ◌≤◌, Bool, true, false, cond, ltb, eqb, leb, ◌&&◌, List, [], ◌∷◌, ◌++◌, length, take, drop, Option, Some, None, refl, sym, ◌∙◌, ap, subst, arith, append_assoc}
use Rattle.std.proofs.lemmas.Bool.Decides.{nat_tests}
use Rattle.std.proofs.lemmas.List.{length-drop, length-take-le, length-append}
use Rattle.std.proofs.lemmas.Str.{utf8_valid_len_le}
use Rattle.std.specs.Str.Lossy.{utf8_valid_len}
use Rattle.rw_base.specs.declared.tree.Leaf.{Leaf}
use Rattle.rw_base.specs.declared.leaves.Bad.{Bad}
use Rattle.rw_base.specs.Arena.{Tile, end_from, leaf_at}
use Rattle.yaml_lex.specs.declared.class.TheConstants.{END, CLOSE, DASH, OPENM, OPENS, KEY}
use Rattle.yaml_lex.specs.declared.context.Context.{Context}
use Rattle.yaml_lex.specs.declared.collections.Collection.{Collection}
use Rattle.yaml_lex.specs.Contexts.{start, past, past_leaf, in_flow}
use Rattle.yaml_lex.specs.Collections.{without_from, without_sequence, left_open, opens, opening, open_behind, textless, textless_before, closes}
use Rattle.rw_base.specs.Utf8.{utf8_front, is_broken, mark_size}
use Rattle.yaml_lex.specs.Leaves.{Cuts, passed, leaf, ended, stopped, end_leaf, leaf_from, form_of, AreYamlLeaves}
use Rattle.rw_base.specs.Cut.{ends_at}
use Rattle.yaml_lex.specs.Tiles.{AreTiles}
use Rattle.yaml_lex.proofs.Cutting.{mark-inside}
use Rattle.yaml_lex.proofs.TextLaws.{text-inside}
use Rattle.yaml_lex.proofs.StepLaws.{passed-inside, bad-inside}

-- ---- leaves one behind another, the last of which is the end

record IsLaid (from stop : ℕ) (leaves : List Leaf) : Type 0 where
  pub tile : Tile from leaves
  pub ends : end_from from leaves ≡ stop
  pub some : 0 < length leaves
  pub empty_end : (leaf_at leaves (length leaves - 1)).from ≡ stop
  pub end_class : (leaf_at leaves (length leaves - 1)).class ≡ END

less-one : (n : ℕ) → suc n - 1 ≡ n
less-one n = omega arith

some-number : (n : ℕ) → 0 < n → n ≡ suc (n - 1)
some-number n h = omega arith

last-cons : (l : Leaf) (ls : List Leaf) → 0 < length ls → leaf_at (l ∷ ls) (length (l ∷ ls) - 1) ≡ leaf_at ls (length ls - 1)
unfolding leaf_at
last-cons l ls h =
    ap (λ k. leaf_at (l ∷ ls) k) (less-one (length ls) ∙ some-number (length ls) h)

laid-cons : (from at to class stop : ℕ) (ls : List Leaf) → from ≤ at → at ≤ to → IsLaid to stop ls
    → IsLaid from stop (record { prefix_from = from; from = at; to = to; class = class } ∷ ls)
laid-cons from at to class stop ls order inside h =
    let last = last-cons (record { prefix_from = from; from = at; to = to; class = class }) ls h.some in
    record {
      tile = (refl, order, inside, h.tile);
      ends = h.ends;
      some = omega arith;
      empty_end = ap (λ (l : Leaf). l.from) last ∙ h.empty_end;
      end_class = ap (λ (l : Leaf). l.class) last ∙ h.end_class;
    }

laid-closes : (n from stop : ℕ) (ls : List Leaf) → IsLaid from stop ls → IsLaid from stop (closes from n ++ ls)
laid-closes zero from stop ls h = h
laid-closes (suc n) from stop ls h = laid-cons from from from CLOSE stop (closes from n ++ ls) (omega arith) (omega arith) (laid-closes n from stop ls h)

laid-one : (v : Bool) (from class stop : ℕ) (ls : List Leaf) → IsLaid from stop ls → IsLaid from stop (cond v (textless from class ∷ []) [] ++ ls)
laid-one true from class stop ls h = laid-cons from from from class stop ls (omega arith) (omega arith) h
laid-one false from class stop ls h = h

laid-before : (from stop : ℕ) (p : Context) (class : ℕ) (os : List Collection) (ls : List Leaf) → IsLaid from stop ls
    → IsLaid from stop (textless_before from p class os ++ ls)
unfolding textless_before
laid-before from stop p class os ls h =
    let n = length os - length (left_open p class os) in
    subst (λ x. IsLaid from stop x) (sym (append_assoc (closes from n) (opening from p class os) ls))
    (laid-closes n from stop (opening from p class os ++ ls) (laid-one (opens p class os) from (cond (eqb class DASH) OPENS OPENM) stop ls h))

laid-end : (from stop : ℕ) → from ≤ stop → IsLaid from stop (end_leaf from stop ∷ [])
unfolding leaf_at
laid-end from stop order = record {
  tile = (refl, order, omega arith, tt);
  ends = refl;
  some = omega arith;
  empty_end = refl;
  end_class = refl;
}

-- ---- how many there are

closes-size : (n at : ℕ) → length (closes at n) ≡ n
closes-size zero at = refl
closes-size (suc n) at = ap suc (closes-size n at)

step-low : (v : Bool) (o : Collection) (a b : List Collection) (n : ℕ) → length a ≤ n → length b ≤ suc n → length (cond v a b) ≤ suc n
step-low true o a b n h k = omega arith
step-low false o a b n h k = k

from-few : (column : ℕ) (os : List Collection) → length (without_from column os) ≤ length os
from-few column [] = omega arith
from-few column (o ∷ os) = step-low (leb column o.column) o (without_from column os) (o ∷ os) (length os) (from-few column os) (omega arith)

sequence-few : (column : ℕ) (os : List Collection) → length (without_sequence column os) ≤ length os
sequence-few column [] = omega arith
sequence-few column (o ∷ os) = step-low (o.sequence && eqb o.column column) o os (o ∷ os) (length os) (omega arith) (omega arith)

choice-few : (v : Bool) (a b : List Collection) (n : ℕ) → length a ≤ n → length b ≤ n → length (cond v a b) ≤ n
choice-few true a b n h k = h
choice-few false a b n h k = k

less-to : (a b c : ℕ) → a ≤ b → b ≤ c → a ≤ c
less-to a b c h k = omega arith

left-few : (p : Context) (class : ℕ) (os : List Collection) → length (left_open p class os) ≤ length os
unfolding left_open
left-few p class os =
    let deeper = from-few (p.column + 1) os in
    choice-few _ [] _ (length os) (omega arith)
    (choice-few (in_flow p) os _ (length os) (omega arith)
    (choice-few (eqb class KEY) _ _ (length os)
    (less-to _ (length (without_from (p.column + 1) os)) (length os) (sequence-few p.column (without_from (p.column + 1) os)) deeper)
    (choice-few (eqb class DASH) _ _ (length os) deeper (choice-few _ (without_from p.column os) os (length os) (from-few p.column os) (omega arith)))))

abbrev one_if : Bool → ℕ
one_if v = cond v 1 0

opening-size : (v : Bool) (from class : ℕ) → length (cond v (textless from class ∷ []) []) ≡ one_if v
opening-size true from class = refl
opening-size false from class = refl

before-size : (from : ℕ) (p : Context) (class : ℕ) (os : List Collection)
    → length (textless_before from p class os) ≡ length os - length (left_open p class os) + one_if (opens p class os)
unfolding textless_before
before-size from p class os =
    let n = length os - length (left_open p class os) in
    length-append (closes from n) (opening from p class os)
    ∙ ap (λ k. k + length (opening from p class os)) (closes-size n from)
    ∙ ap (λ k. n + k) (opening-size (opens p class os) from (cond (eqb class DASH) OPENS OPENM))

behind-of : (v : Bool) (o : Collection) (kept : List Collection) → length (cond v (o ∷ kept) kept) ≡ length kept + one_if v
behind-of true o kept = omega arith
behind-of false o kept = omega arith

behind-size : (p : Context) (class : ℕ) (os : List Collection) → length (open_behind p class os) ≡ length (left_open p class os) + one_if (opens p class os)
unfolding open_behind
behind-size p class os = behind-of (opens p class os) _ (left_open p class os)

one-most : (v : Bool) → one_if v ≤ 1
one-most true = omega arith
one-most false = omega arith

-- os of a open, k of which stay, with o more; n bytes of size, and m leaves behind them
sum-few : (a k o n size m : ℕ) → k ≤ a → o ≤ 1 → 0 < n → n ≤ size → m ≤ 3 * (size - n) + (k + o) + 1 → (a - k + o) + suc m ≤ 3 * size + a + 1
sum-few a k o n size m h i some fits low = omega arith

pub few : (broken : Bool) (from at : ℕ) (p : Context) (os : List Collection) (s : List ℕ) (leaves : List Leaf) (b : Option Bad)
    → Cuts broken from at p os s leaves b → length leaves ≤ 3 * length s + length os + 1
few broken from at p os s leaves b (passed n step cut) =
    let h = few broken from (at + n) (past p (take n s)) os (drop n s) leaves b cut in omega (arith, length-drop n s, h)
few broken from at p os s leaves b (leaf {leaves = more} class n next fine cut is) =
    let h = few broken (at + n) (at + n) (past_leaf class s (past p (take n s))) (open_behind p class os) (drop n s) more b cut in
    let fits = text-inside (form_of p s) p os s n refl next.place.some next.text in
    let low : length more ≤ 3 * (length s - n) + (length (left_open p class os) + one_if (opens p class os)) + 1 = omega (arith, h, length-drop n s, behind-size p class os) in
    let size : length leaves ≡ length os - length (left_open p class os) + one_if (opens p class os) + suc (length more) =
    ap length is ∙ length-append (textless_before from p class os) (leaf_from from at n class ∷ more) ∙ ap (λ k. k + suc (length more)) (before-size from p class os) in
    subst (λ k. k ≤ 3 * length s + length os + 1) (sym size)
    (sum-few (length os) (length (left_open p class os)) (one_if (opens p class os)) n (length s) (length more) (left-few p class os) (one-most (opens p class os)) fits.0 fits.1 low)
few broken from at p os s leaves b (ended e whole is) =
    let size = ap length is ∙ length-append (closes from (length os)) (end_leaf from at ∷ []) ∙ ap (λ k. k + 1) (closes-size (length os) from) in
    omega (arith, size)
few broken from at p os s leaves b (stopped n cause h) = omega arith

-- ---- the leaves of a text

-- where the leaves of a text that begins at this byte end
abbrev stop : ℕ → List ℕ → Option Bad → ℕ
stop at s None = at + length s
stop at s (Some bad) = bad.byte

stop-drop : (at n : ℕ) (s : List ℕ) (b : Option Bad) → n ≤ length s → stop (at + n) (drop n s) b ≡ stop at s b
stop-drop at n s None h = omega (arith, length-drop n s)
stop-drop at n s (Some bad) h = refl

stop-end : (at : ℕ) (s : List ℕ) → s ≡ [] → stop at s None ≡ at
stop-end at s e = let f : length s ≡ 0 = ap length e in omega (arith, f)

laid : (broken : Bool) (from at : ℕ) (p : Context) (os : List Collection) (s : List ℕ) (leaves : List Leaf) (b : Option Bad)
    → Cuts broken from at p os s leaves b → from ≤ at → IsLaid from (stop at s b) leaves
laid broken from at p os s leaves b (passed n step cut) order =
    subst (λ k. IsLaid from k leaves) (stop-drop at n s b (passed-inside p s n step).1)
    (laid broken from (at + n) (past p (take n s)) os (drop n s) leaves b cut (omega arith))
laid broken from at p os s leaves b (leaf {leaves = more} class n next fine cut is) order =
    let fits = text-inside (form_of p s) p os s n refl next.place.some next.text in
    let r = laid broken (at + n) (at + n) (past_leaf class s (past p (take n s))) (open_behind p class os) (drop n s) more b cut (omega arith) in
    subst (λ ls. IsLaid from (stop at s b) ls) (sym is)
    (laid-before from (stop at s b) p class os (leaf_from from at n class ∷ more)
    (laid-cons from at (at + n) class (stop at s b) more order (omega arith) (subst (λ k. IsLaid (at + n) k more) (stop-drop at n s b fits.1) r)))
laid broken from at p os s leaves b (ended e whole is) order =
    subst (λ ls. IsLaid from (stop at s None) ls) (sym is)
    (laid-closes (length os) from (stop at s None) (end_leaf from at ∷ [])
    (subst (λ k. IsLaid from k (end_leaf from at ∷ [])) (sym (stop-end at s e)) (laid-end from at order)))
laid broken from at p os s leaves b (stopped n cause h) order = laid-end from (at + n) (omega arith)

stop-inside : (broken : Bool) (from at : ℕ) (p : Context) (os : List Collection) (s : List ℕ) (leaves : List Leaf) (b : Option Bad)
    → Cuts broken from at p os s leaves b → stop at s b ≤ at + length s
stop-inside broken from at p os s leaves b (passed n step cut) =
    let fits = passed-inside p s n step in
    let h = stop-inside broken from (at + n) (past p (take n s)) os (drop n s) leaves b cut in
    omega (arith, h, stop-drop at n s b fits.1, length-drop n s, fits.1)
stop-inside broken from at p os s leaves b (leaf {leaves = more} class n next fine cut is) =
    let fits = text-inside (form_of p s) p os s n refl next.place.some next.text in
    let h = stop-inside broken (at + n) (at + n) (past_leaf class s (past p (take n s))) (open_behind p class os) (drop n s) more b cut in
    omega (arith, h, stop-drop at n s b fits.1, length-drop n s, fits.1)
stop-inside broken from at p os s leaves b (ended e whole is) = omega arith
stop-inside broken from at p os s leaves b (stopped n cause h) = let f = bad-inside broken p os s n cause h in omega (arith, f)

some-none : (bad : Bad) → Some bad ≡ None → ⊥
some-none bad e = cc

-- without a bad place the text isn't broken
none-broken : (broken : Bool) (from at : ℕ) (p : Context) (os : List Collection) (s : List ℕ) (leaves : List Leaf) (b : Option Bad)
    → Cuts broken from at p os s leaves b → b ≡ None → broken ≡ false
none-broken broken from at p os s leaves b (passed n step cut) e = none-broken broken from (at + n) (past p (take n s)) os (drop n s) leaves b cut e
none-broken broken from at p os s leaves b (leaf {leaves = more} class n next fine cut is) e =
    none-broken broken (at + n) (at + n) (past_leaf class s (past p (take n s))) (open_behind p class os) (drop n s) more b cut e
none-broken broken from at p os s leaves b (ended x whole is) e = whole
none-broken broken from at p os s leaves b (stopped n cause h) e = absurd (some-none (record { byte = at + n; cause = cause }) e)

-- ---- the leaves of a file

not-less : (a b : ℕ) → a ≤ b → ltb a b ≡ false → a ≡ b
not-less a b h e = grind (arith, nat_tests)

-- where the leaves of the text end is where those of the file do
file-stop : (bytes : List ℕ) (at : ℕ) (b : Option Bad) → at ≤ length (utf8_front bytes) → (b ≡ None → is_broken bytes ≡ false)
    → stop at (drop at (utf8_front bytes)) b ≡ ends_at bytes b
file-stop bytes at None h whole =
    let n = utf8_valid_len bytes in
    let same = not-less n (length bytes) (utf8_valid_len_le bytes) (whole refl) in
    omega (arith, length-drop at (take n bytes), length-take-le n bytes (utf8_valid_len_le bytes))
file-stop bytes at (Some bad) h whole = refl

pub tiles : (bytes : List ℕ) (leaves : List Leaf) (b : Option Bad) → AreYamlLeaves bytes leaves b → AreTiles bytes leaves b
unfolding AreYamlLeaves
tiles bytes leaves b cut =
    let text = utf8_front bytes in
    let at = mark_size text in
    let inside = mark-inside text in
    let r = laid (is_broken bytes) 0 at start [] (drop at text) leaves b cut (omega arith) in
    let same = file-stop bytes at b inside (none-broken (is_broken bytes) 0 at start [] (drop at text) leaves b cut) in
    let size = length-take-le (utf8_valid_len bytes) bytes (utf8_valid_len_le bytes) in
    let fits = utf8_valid_len_le bytes in
    let most = few (is_broken bytes) 0 at start [] (drop at text) leaves b cut in
    record {
      cut = record {
        tile = r.tile;
        ends = r.ends ∙ same;
        inside = subst (λ n. n ≤ length bytes) same
            (let h = stop-inside (is_broken bytes) 0 at start [] (drop at text) leaves b cut in omega (arith, h, length-drop at text, size, fits, inside));
        some = r.some;
        empty_end = r.empty_end ∙ sym r.ends;
      };
      few = omega (arith, most, length-drop at text, size, fits);
      end_class = r.end_class;
    }
