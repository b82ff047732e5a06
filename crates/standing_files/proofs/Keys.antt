-- The keys of a map are known by which they are, and so are those of the files with changes made.
use Rattle.std.proofs.Common.{◌≡◌, ℕ, Bool, true, false, cond, List, [], ◌∷◌, ◌++◌, map, length, Option, Some, None, refl, sym, ap, ◌∙◌, subst}
use Rattle.std.proofs.lemmas.Bool.{both_ways}
use Rattle.std.proofs.lemmas.List.{length-map}
use Rattle.std.specs.Prelude.{T, ◌&&◌, ◌||◌}
use Rattle.std.specs.Option.{is_some, unwrap_or}
use Rattle.std.specs.List.{AllByRecursion}
use Rattle.std.specs.List.Sorted.{IsStrictlySortedBy}
use Rattle.std.specs.Ordering.{is_lt}
use Rattle.std.specs.declared.cmp.Ordering.{Ordering}
use Rattle.std.specs.declared.cmp.Ordering.TheVariants.{Less, Equal, Greater}
use Rattle.std.specs.FinMap as finmap
use Rattle.std.specs.FinMap.{find, is_sorted}
use Rattle.std.specs.FinMap.Entries.{below_all}
use Rattle.rw_host.specs.Files.{Files, IsInOrder}
use Rattle.journal_text.specs.Changes.{Change, Rises}
use Rattle.run_journal.specs.Standing.{applied}
use Rattle.standing_files.specs.Merged.{created}
use Rattle.standing_files.proofs.Order.{by_bytes, total, exact}
use Rattle.standing_files.proofs.Chains.{Path, Chain, keys_of, ties, has, weaker, chain_from_rises, chain_from_sorted, sorted_from_chain, from_start}
use Rattle.standing_files.proofs.Applied.{get_applied}
use Rattle.standing_files.proofs.Over.{paths_over, on_has, chain_over, has_over}

is_Less : (r : Ordering) → is_lt r ≡ true → r ≡ Less
is_Less Less e = refl
is_Less Equal e = absurd (both_ways false refl e)
is_Less Greater e = absurd (both_ways false refl e)

left : (a b : Bool) → (a && b) ≡ true → a ≡ true
left true b e = refl
left false b e = absurd (both_ways false refl e)

right : (a b : Bool) → (a && b) ≡ true → b ≡ true
right true b e = e
right false b e = absurd (both_ways false refl e)

holds : (b : Bool) → b ≡ true → T b
holds b e = subst T (sym e) tt

is_true : (b : Bool) → T b → b ≡ true
is_true true h = refl
is_true false h = absurd h

-- ---- the keys of a map rise
all_below : {X : Type 0} (x : Path) (es : List (Path × X)) → below_all by_bytes x es ≡ true → AllByRecursion (λ y. by_bytes x y ≡ Less) (keys_of es)
all_below x [] below = tt
all_below x (e ∷ es) below = (is_Less _ (left _ _ below), all_below x es (right _ _ below))

keys_in_order : {X : Type 0} (es : List (Path × X)) → is_sorted by_bytes es ≡ true → IsInOrder (keys_of es)
unfolding IsStrictlySortedBy
keys_in_order [] sorted = tt
keys_in_order (e ∷ es) sorted = (all_below e.0 es (left _ _ sorted), keys_in_order es (right _ _ sorted))

pub keys_rise : (files : Files) → IsInOrder (finmap.keys files)
keys_rise files = keys_in_order (finmap.entries files) (is_true _ (finmap.entries_sorted files))

-- ---- files with given paths
abbrev empty_files : List Path → List (Path × List ℕ)
empty_files paths = map (λ path. (path, [])) paths

below_empty : (x : Path) (paths : List Path) → Chain (Some x) paths → below_all by_bytes x (empty_files paths) ≡ true
below_empty x [] chain = refl
below_empty x (path ∷ paths) chain = rw chain.0 (below_empty x paths (weaker (Some x) path paths chain.0 chain.1))

sorted_empty : (b : Option Path) (paths : List Path) → Chain b paths → is_sorted by_bytes (empty_files paths) ≡ true
sorted_empty b [] chain = refl
sorted_empty b (path ∷ paths) chain = rw (below_empty path paths chain.1) (sorted_empty (Some path) paths chain.1)

find_empty : (q : Path) (paths : List Path) → find by_bytes q (empty_files paths) ≡ cond (has q paths) (Some []) None
unfolding has
find_empty q [] = refl
find_empty q (path ∷ paths) = elim (ties q path) as (λ t. cond t (Some []) (find by_bytes q (empty_files paths)) ≡ cond (t || has q paths) (Some []) None) [
  | true ↦ refl
  | false ↦ find_empty q paths
]

keys_empty : (paths : List Path) → keys_of (empty_files paths) ≡ paths
keys_empty [] = refl
keys_empty (path ∷ paths) = ap (λ rest. path ∷ rest) (keys_empty paths)

files_of : List Path → Files
files_of paths = finmap.from_sorted (empty_files paths)

keys_files : (b : Option Path) (paths : List Path) → Chain b paths → finmap.keys (files_of paths) ≡ paths
unfolding files_of
keys_files b paths chain = ap (λ es. map (λ e. e.0) es) (finmap.entries-from_sorted by_bytes (empty_files paths) (holds _ (sorted_empty b paths chain))) ∙ keys_empty paths

get_files : (b : Option Path) (paths : List Path) (q : Path) → Chain b paths → finmap.get (files_of paths) q ≡ cond (has q paths) (Some []) None
unfolding files_of
get_files b paths q chain = finmap.get-from_sorted by_bytes (empty_files paths) q (holds _ (sorted_empty b paths chain)) ∙ find_empty q paths

same_paths : (b d : Option Path) (one other : List Path) → Chain b one → Chain d other → ((q : Path) → has q one ≡ has q other) → one ≡ other
same_paths b d one other first second same =
    let files : files_of one ≡ files_of other = finmap.same_map total exact _ _ (λ q.
    get_files b one q first ∙ ap (λ t. cond t (Some []) None) (same q) ∙ sym (get_files d other q second)) in
    sym (keys_files b one first) ∙ ap (λ m. finmap.keys m) files ∙ keys_files d other second

-- ---- the files with changes made
has_keys : (files : Files) (q : Path) → has q (finmap.keys files) ≡ is_some (finmap.get files q)
unfolding has
has_keys files q = sym (finmap.contains_key-keys files q)

some_over : (later : Option (Option (List ℕ))) (file : Option (List ℕ)) → on_has later (is_some file) ≡ is_some (unwrap_or later file)
some_over None file = refl
some_over (Some bytes) file = refl

pub keys_over : (files : Files) (changes : List Change) → Rises [] changes → paths_over (finmap.keys files) changes ≡ finmap.keys (applied changes files)
keys_over files changes rises =
    let keys = finmap.keys files in
    let chain : Chain None (keys_of changes) = from_start (Some []) _ (chain_from_rises [] changes rises) in
    let ours : Chain None keys = chain_from_sorted keys (keys_rise files) in
    let after : Chain None (finmap.keys (applied changes files)) = chain_from_sorted _ (keys_rise (applied changes files)) in
    same_paths None None _ _ (chain_over None keys changes ours chain) after (λ q.
    has_over None None q keys changes ours chain
    ∙ ap (on_has (find by_bytes q changes)) (has_keys files q)
    ∙ some_over (find by_bytes q changes) (finmap.get files q)
    ∙ ap is_some (sym (get_applied None changes files q chain))
    ∙ sym (has_keys (applied changes files) q))

pub over_in_order : (paths : List Path) (changes : List Change) → IsInOrder paths → Rises [] changes → IsInOrder (paths_over paths changes)
over_in_order paths changes sorted rises =
    sorted_from_chain None _ (chain_over None paths changes (chain_from_sorted paths sorted) (from_start (Some []) _ (chain_from_rises [] changes rises)))

pub all_merged : (paths before left now : List Path) (changes rest : List Change) → before ++ paths_over left rest ≡ paths_over paths changes → left ≡ [] → now ≡ before ++ created rest → now ≡ paths_over paths changes
all_merged paths before left now changes rest sofar none last = last ∙ subst (λ l. before ++ paths_over l rest ≡ paths_over paths changes) none sofar

pub len_keys : (files : Files) → length (finmap.keys files) ≡ finmap.len files
len_keys files = length-map (finmap.entries files) (λ e. e.0) ∙ sym (finmap.len-entries files)
