-- Lists of paths that strictly rise, behind a path or from the start.
use Rattle.std.proofs.Common.{◌≡◌, ℕ, Bool, false, List, [], ◌∷◌, map, Option, Some, None, refl, ap}
use Rattle.std.specs.List.{AllByRecursion, list_any}
use Rattle.std.specs.List.Sorted.{IsStrictlySortedBy}
use Rattle.std.specs.Ordering.{eq_by_cmp, is_eq}
use Rattle.std.specs.FinMap.{find}
use Rattle.std.specs.declared.cmp.Ordering.TheVariants.{Less}
use Rattle.rw_host.specs.Files.{IsInOrder}
use Rattle.journal_text.specs.Changes.{Change, Rises}
use Rattle.standing_files.proofs.Order.{by_bytes, total}

abbrev pub Path : Type 0
Path = List ℕ

abbrev pub After : Option Path → Path → Type 0
After None path = Unit {0}
After (Some x) path = by_bytes x path ≡ Less

abbrev pub Chain : Option Path → List Path → Type 0
Chain bound [] = Unit {0}
Chain bound (path ∷ paths) = After bound path × Chain (Some path) paths

abbrev pub keys_of : {X : Type 0} → List (Path × X) → List Path
keys_of es = map (λ e. e.0) es

abbrev pub ties : Path → Path → Bool
ties = eq_by_cmp by_bytes

unfoldable pub has : Path → List Path → Bool
has q paths = list_any (ties q) paths

after_trans : (b : Option Path) (x y : Path) → After b x → by_bytes x y ≡ Less → After b y
after_trans None x y one two = tt
after_trans (Some z) x y one two = total.trans z x y one two

pub weaker : (b : Option Path) (x : Path) (paths : List Path) → After b x → Chain (Some x) paths → Chain b paths
weaker b x [] one chain = tt
weaker b x (path ∷ paths) one chain = (after_trans b x path one chain.0, chain.1)

pub from_start : (b : Option Path) (paths : List Path) → Chain b paths → Chain None paths
from_start b [] chain = tt
from_start b (path ∷ paths) chain = (tt, chain.1)

-- ---- the other words for it
pub chain_from_rises : (x : Path) (changes : List Change) → Rises x changes → Chain (Some x) (keys_of changes)
chain_from_rises x [] rises = tt
chain_from_rises x (change ∷ changes) rises = (rises.0, chain_from_rises change.0 changes rises.1)

behind_all : (x : Path) (paths : List Path) → AllByRecursion (λ y. by_bytes x y ≡ Less) paths → IsInOrder paths → Chain (Some x) paths
unfolding IsStrictlySortedBy
behind_all x [] all sorted = tt
behind_all x (path ∷ paths) all sorted = (all.0, behind_all path paths sorted.0 sorted.1)

pub chain_from_sorted : (paths : List Path) → IsInOrder paths → Chain None paths
unfolding IsStrictlySortedBy
chain_from_sorted [] sorted = tt
chain_from_sorted (path ∷ paths) sorted = (tt, behind_all path paths sorted.0 sorted.1)

above_all : (x : Path) (paths : List Path) → Chain (Some x) paths → AllByRecursion (λ y. by_bytes x y ≡ Less) paths
above_all x [] chain = tt
above_all x (path ∷ paths) chain = (chain.0, above_all x paths (weaker (Some x) path paths chain.0 chain.1))

pub sorted_from_chain : (b : Option Path) (paths : List Path) → Chain b paths → IsInOrder paths
unfolding IsStrictlySortedBy
sorted_from_chain b [] chain = tt
sorted_from_chain b (path ∷ paths) chain = (above_all path paths chain.1, sorted_from_chain (Some path) paths chain.1)

-- ---- what isn't behind a path
pub apart_less : (x y : Path) → by_bytes x y ≡ Less → ties x y ≡ false
apart_less x y e = ap is_eq e

pub none_behind : (q : Path) (paths : List Path) → Chain (Some q) paths → has q paths ≡ false
unfolding has
none_behind q [] chain = refl
none_behind q (path ∷ paths) chain = rw (apart_less q path chain.0) (none_behind q paths (weaker (Some q) path paths chain.0 chain.1))

pub find_behind : {X : Type 0} (q : Path) (es : List (Path × X)) → Chain (Some q) (keys_of es) → find by_bytes q es ≡ None
find_behind q [] chain = refl
find_behind q (e ∷ es) chain = rw (apart_less q e.0 chain.0) (find_behind q es (weaker (Some q) e.0 (keys_of es) chain.0 chain.1))
