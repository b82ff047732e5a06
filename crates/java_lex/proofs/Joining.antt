-- A text up to a leaf that is `;`, `{` or `}` and what stands behind it are together cut into the leaves of both.
use Rattle.std.proofs.Common.{◌≡◌, ℕ, suc, zero, ◌+◌, ◌-◌, ◌<◌, ◌≤◌, Bool, true, List, [], ◌∷◌, ◌++◌, length, take, drop, get_or, Option, refl, sym, ◌∙◌, ap, subst, arith}
use Rattle.std.proofs.lemmas.List.{drop-drop, length-append, length-take-le, take_at, drop_at}
use Rattle.rw_base.specs.declared.tree.Leaf.{Leaf}
use Rattle.rw_base.specs.declared.leaves.Bad.{Bad}
use Rattle.java_lex.specs.Leaves.{Cuts, passed, leaf, ended, stopped, end_leaf, IsNextLeaf}
use Rattle.java_lex.specs.Laws.{AreBytes, is_alone, IsAloneAt}
use Rattle.java_lex.proofs.Tiling.{next-some}
use Rattle.java_lex.proofs.Steps.{leaf_record, bytes-drop, bytes-take}
use Rattle.java_lex.proofs.Alike.{Agree, Cut, here, later, cut-list, not-end, stands, blank-agree, leaf-agree, alone-agree, alone-drop, agree-rest, weaker-to, last-is, place-is}

drop-both : (at n k : ℕ) (t : List ℕ) → at + n ≤ k → drop (k - at) t ≡ drop (k - (at + n)) (drop n t)
drop-both at n k t low = sym (drop-drop (k - (at + n)) n t ∙ ap (λ i. drop i t) (place-is at n k low))

rest-cut : (second : Bool) (at n : ℕ) (t : List ℕ) (ms : List Leaf) (l : Leaf) (b : Option Bad) → at + n ≤ l.to
    → Cuts second l.to l.to (drop (l.to - at) t) ms b → Cuts second l.to l.to (drop (l.to - (at + n)) (drop n t)) ms b
rest-cut second at n t ms l b low d = subst (λ x. Cuts second l.to l.to x ms b) (drop-both at n l.to t low) d

first-list : (x l : Leaf) (front ms : List Leaf) → front ≡ [] → x ≡ l → x ∷ ms ≡ front ++ l ∷ ms
first-list x l front ms e f = ap (λ y. y ∷ ms) f ∙ ap (λ y. y ++ l ∷ ms) (sym e)

later-list : (x l : Leaf) (front fs ms : List Leaf) → front ≡ x ∷ fs → x ∷ (fs ++ l ∷ ms) ≡ front ++ l ∷ ms
later-list x l front fs ms e = ap (λ y. y ++ l ∷ ms) (sym e)

join-leaf : (second : Bool) (from at : ℕ) (s t : List ℕ) (front more leaves ms : List Leaf) (l : Leaf) (b : Option Bad) (class n : ℕ) → AreBytes t → IsNextLeaf s class n
    → l.to ≡ l.from + 1 → is_alone (get_or s (l.from - at) 0) ≡ true → Agree s t (l.to - at)
    → ((fs : List Leaf) → leaves ≡ fs ++ l ∷ more → Cuts second l.to l.to (drop (l.to - (at + n)) (drop n t)) ms b
    → Cuts second (at + n) (at + n) (drop n t) (fs ++ l ∷ ms) b)
    → ((fs : List Leaf) → leaves ≡ fs ++ l ∷ more → at + n ≤ l.from)
    → Cuts second l.to l.to (drop (l.to - at) t) ms b → Cut (leaf_record from at (at + n) class) leaves front l more
    → Cuts second from at t (front ++ l ∷ ms) b
join-leaf second from at s t front more leaves ms l b class n bytes next one alone agree further low d (here e is rest) =
    let to_is : at + n ≡ l.to = ap (λ (x : Leaf). x.to) is in
    let from_is : at ≡ l.from = ap (λ (x : Leaf). x.from) is in
    let size : n ≡ 1 = omega arith in
    let width : l.to - at ≡ 1 = omega arith in
    let start : l.from - at ≡ 0 = omega arith in
    let whole : l.to - at ≡ n = omega arith in
    let next_one = subst (λ k. IsNextLeaf s class k) size next in
    let agree_one = subst (λ k. Agree s t k) width agree in
    let alone_here = ap (λ k. is_alone (get_or s k 0)) (sym start) ∙ alone in
    let other_next = subst (λ k. IsNextLeaf t class k) (sym size) (alone-agree s t class bytes agree_one alone_here next_one) in
    let behind = subst (λ k. Cuts second k k (drop n t) ms b) (sym to_is) (subst (λ k. Cuts second l.to l.to (drop k t) ms b) whole d) in
    subst (λ ls. Cuts second from at t ls b) (first-list (leaf_record from at (at + n) class) l front ms e is) (leaf class n other_next behind)
join-leaf second from at s t front more leaves ms l b class n bytes next one alone agree further low d (later fs e rest) =
    let behind = low fs rest in
    let some = next-some s class n next in
    let before : n < l.to - at = omega arith in
    let alone_here = ap (λ k. is_alone (get_or s k 0)) (last-is at n l.from l.to behind one) ∙ alone in
    let other_next = leaf-agree s t (l.to - at) class n bytes agree before some alone_here next in
    let joined = further fs rest (rest-cut second at n t ms l b (weaker-to at n l.from l.to behind one) d) in
    subst (λ ls. Cuts second from at t ls b) (later-list (leaf_record from at (at + n) class) l front fs ms e) (leaf class n other_next joined)

pub join : (broken second : Bool) (from at : ℕ) (s t : List ℕ) (ls front more ms : List Leaf) (l : Leaf) (a b : Option Bad) → AreBytes t
    → Cuts broken from at s ls a → ls ≡ front ++ l ∷ more → l.to ≡ l.from + 1 → is_alone (get_or s (l.from - at) 0) ≡ true
    → Agree s t (l.to - at) → Cuts second l.to l.to (drop (l.to - at) t) ms b → Cuts second from at t (front ++ l ∷ ms) b
join broken second from at s t ls front more ms l a b bytes (passed n blank c) e one alone agree d =
    let behind = (stands broken from (at + n) (drop n s) ls front more l a c e one).low in
    let before : n < l.to - at = omega arith in
    passed n (blank-agree s t (l.to - at) n agree before blank)
    (join broken second from (at + n) (drop n s) (drop n t) ls front more ms l a b (bytes-drop n t bytes) c e one
    (alone-drop s at n l.from behind alone) (agree-rest s t at n l.to (weaker-to at n l.from l.to behind one) agree)
    (rest-cut second at n t ms l b (weaker-to at n l.from l.to behind one) d))
join broken second from at s t ls front more ms l a b bytes (leaf {leaves = leaves} class n next c) e one alone agree d =
    join-leaf second from at s t front more leaves ms l b class n bytes next one alone agree
    (λ fs rest f.
    let behind = (stands broken (at + n) (at + n) (drop n s) leaves fs more l a c rest one).low in
    join broken second (at + n) (at + n) (drop n s) (drop n t) leaves fs more ms l a b (bytes-drop n t bytes) c rest one
    (alone-drop s at n l.from behind alone) (agree-rest s t at n l.to (weaker-to at n l.from l.to behind one) agree) f)
    (λ fs rest. (stands broken (at + n) (at + n) (drop n s) leaves fs more l a c rest one).low)
    d (cut-list (leaf_record from at (at + n) class) leaves front l more e)
join broken second from at s t ls front more ms l a b bytes (ended x y) e one alone agree d =
    absurd (not-end from at front more l one (cut-list (end_leaf from at) [] front l more e))
join broken second from at s t ls front more ms l a b bytes (stopped n cause h) e one alone agree d =
    absurd (not-end from (at + n) front more l one (cut-list (end_leaf from (at + n)) [] front l more e))

bytes-append : (x y : List ℕ) → AreBytes x → AreBytes y → AreBytes (x ++ y)
bytes-append [] y f g i = g i
bytes-append (b ∷ x) y f g zero = f 0
bytes-append (b ∷ x) y f g (suc i) = bytes-append x y (λ k. f (suc k)) g i

long-front : (x y : List ℕ) (n : ℕ) → length x ≡ n → n ≤ length (x ++ y)
long-front x y n e = omega (arith, length-append x y)

-- the same of a text and one behind it
pub cut-together : (broken second : Bool) (from at : ℕ) (s t : List ℕ) (front more ms : List Leaf) (l : Leaf) (a b : Option Bad) → AreBytes s → AreBytes t
    → Cuts broken from at s (front ++ l ∷ more) a → IsAloneAt at s l → Cuts second l.to l.to t ms b
    → Cuts second from at (take (l.to - at) s ++ t) (front ++ l ∷ ms) b
cut-together broken second from at s t front more ms l a b bytes others c alone d =
    let r = stands broken from at s (front ++ l ∷ more) front more l a c refl alone.one in
    let n = l.to - at in
    let inside : n ≤ length s = let i = r.high in omega arith in
    let long : length (take n s) ≡ n = length-take-le n s inside in
    let whole = take n s ++ t in
    let front_is : take n whole ≡ take n s = take_at (take n s) t n long in
    let rest_is : drop n whole ≡ t = drop_at (take n s) t n long in
    join broken second from at s whole (front ++ l ∷ more) front more ms l a b (bytes-append (take n s) t (bytes-take n s bytes) others) c refl alone.one alone.is
    (record { same = sym front_is; inside = inside; other_inside = long-front (take n s) t n long })
    (subst (λ x. Cuts second l.to l.to x ms b) (sym rest_is) d)
