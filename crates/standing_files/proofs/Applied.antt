-- A look-up in the files with changes made.
use Rattle.std.proofs.Common.{◌≡◌, ℕ, Bool, true, false, cond, List, [], ◌∷◌, Option, Some, None, refl, sym, ap, ◌∙◌, subst}
use Rattle.std.specs.Option.{unwrap_or}
use Rattle.std.specs.FinMap as finmap
use Rattle.std.specs.FinMap.{find}
use Rattle.rw_host.specs.Files.{Files}
use Rattle.journal_text.specs.Changes.{Change, Rises}
use Rattle.run_journal.specs.Standing.{put, applied}
use Rattle.standing_files.proofs.Order.{by_bytes, total, ties_decide}
use Rattle.standing_files.proofs.Chains.{Path, Chain, keys_of, ties, find_behind, chain_from_rises}

get_put : (files : Files) (path : Path) (bytes : Option (List ℕ)) (q : Path) → finmap.get (put files path bytes) q ≡ cond (ties q path) bytes (finmap.get files q)
get_put files path None q = finmap.get-remove total files path q
get_put files path (Some bytes) q = finmap.get-insert total files path bytes q

-- the change of a path is the last word on it
over_put : (b : Bool) (bytes : Option (List ℕ)) (later : Option (Option (List ℕ))) (file : Option (List ℕ)) → (b ≡ true → later ≡ None) → unwrap_or later (cond b bytes file) ≡ unwrap_or (cond b (Some bytes) later) file
over_put true bytes later file none = ap (λ o. unwrap_or o bytes) (none refl)
over_put false bytes later file none = refl

pub get_applied : (b : Option Path) (changes : List Change) (files : Files) (q : Path) → Chain b (keys_of changes) → finmap.get (applied changes files) q ≡ unwrap_or (find by_bytes q changes) (finmap.get files q)
get_applied b [] files q chain = refl
get_applied b (change ∷ changes) files q chain =
    get_applied (Some change.0) changes (put files change.0 change.1) q chain.1
    ∙ ap (unwrap_or (find by_bytes q changes)) (get_put files change.0 change.1 q)
    ∙ over_put (ties q change.0) change.1 (find by_bytes q changes) (finmap.get files q) (λ tie.
    find_behind q changes (subst (λ p. Chain (Some p) (keys_of changes)) (sym ((ties_decide q change.0).0 tie)) chain.1))

-- a path that has a change, and one that has none
pub standing_found : (files : Files) (changes : List Change) (path : Path) (bytes : Option (List ℕ)) → Rises [] changes → find by_bytes path changes ≡ Some bytes → finmap.get (applied changes files) path ≡ bytes
standing_found files changes path bytes rises found =
    get_applied (Some []) changes files path (chain_from_rises [] changes rises) ∙ ap (λ later. unwrap_or later (finmap.get files path)) found

pub standing_absent : (files : Files) (changes : List Change) (path : Path) → Rises [] changes → find by_bytes path changes ≡ None → finmap.get (applied changes files) path ≡ finmap.get files path
standing_absent files changes path rises absent =
    get_applied (Some []) changes files path (chain_from_rises [] changes rises) ∙ ap (λ later. unwrap_or later (finmap.get files path)) absent
