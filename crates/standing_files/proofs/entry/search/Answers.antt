use Rattle.std.proofs.Common.{◌≡◌, rules, ap, ◌∙◌, refl}
use Rattle.std.proofs.lemmas.Fn.{answers_by}
use Rattle.standing_files.proofs.Order.{by_bytes}
use Rattle.standing_files.proofs.Found.{IsFound, searched}
use Rattle.standing_files.proofs.entry.search.Goals as goal

-- the closure compares an entry's path with the path that is looked for, which it keeps
pub returns : goal.returns
returns c =
    let path = c.args.path.now in
    let facts = c.binary_search_by.ensures in
    let by_path = facts.position (λ entry. by_bytes entry.path path) (answers_by _ _ (λ f. f.0.now ≡ path) (λ f a r g called kept.
    let compared : r ≡ by_bytes a.0.now.path f.0.now = search rules in
    (compared ∙ ap (by_bytes a.0.now.path) kept, ap (λ b. b.now) called.met.1 ∙ kept)) _ refl) in
    let all : IsFound c.args.entries.now path c.binary_search_by.result = searched _ _ _ c.requires facts.bound by_path in
    record { in_range = all.in_range; found = all.found; absent = all.absent }
