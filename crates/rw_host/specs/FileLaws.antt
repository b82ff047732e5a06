-- Laws of the words for files, for the crates above.
use Rattle.std.specs.Prelude.{◌≡◌, ℕ, ◌≤◌, Bool, true, false, cond, Option, None, List, min, length, refl}
use Rattle.std.proofs.Common.{sym, ◌∙◌}
use Rattle.std.proofs.lemmas.List.{take_all, length-take}
use Rattle.std.specs.Ordering.{nat_cmp, eq_by_cmp}
use Rattle.std.specs.Cmp.Lexicographic.{slice_cmp, nat_list_cmp_total}
use Rattle.std.specs.FinMap as map
use Rattle.rw_host.specs.Files.{Files, SameElsewhere, first_bytes}

-- a file that isn't longer is read whole
pub all_bytes : (most : ℕ) (bytes : List ℕ) → length bytes ≤ most → first_bytes most bytes ≡ bytes
unfolding first_bytes
all_bytes most bytes le = take_all most bytes le

pub length-first_bytes : (most : ℕ) (bytes : List ℕ) → length (first_bytes most bytes) ≡ min most (length bytes)
unfolding first_bytes
length-first_bytes most bytes = length-take most bytes

-- files that agree at every path are the same
same_files : (one other : Files) → ((path : List ℕ) → map.get one path ≡ map.get other path) → one ≡ other
same_files one other agree =
    map.same_map nat_list_cmp_total (map.slice_cmp-IsAntisymmetric map.nat_cmp-IsAntisymmetric) one other agree

-- what stands under a test that holds doesn't matter where the test fails
under_test : {X : Type 0} (b : Bool) (x y z : Option X) → x ≡ cond b y z → cond b None x ≡ cond b None z
under_test true x y z e = refl
under_test false x y z e = e

-- what is put at a path or taken from it leaves the other paths the same
pub same_elsewhere-insert : (path : List ℕ) (files : Files) (bytes : List ℕ)
    → SameElsewhere path files (map.insert files path bytes)
same_elsewhere-insert path files bytes = same_files _ _ (λ q.
    map.get-remove nat_list_cmp_total (map.insert files path bytes) path q
    ∙ under_test (eq_by_cmp (slice_cmp nat_cmp) q path) _ _ _ (map.get-insert nat_list_cmp_total files path bytes q)
    ∙ sym (map.get-remove nat_list_cmp_total files path q))

pub same_elsewhere-remove : (path : List ℕ) (files : Files) → SameElsewhere path files (map.remove files path)
same_elsewhere-remove path files = same_files _ _ (λ q.
    map.get-remove nat_list_cmp_total (map.remove files path) path q
    ∙ under_test (eq_by_cmp (slice_cmp nat_cmp) q path) _ _ _ (map.get-remove nat_list_cmp_total files path q)
    ∙ sym (map.get-remove nat_list_cmp_total files path q))
