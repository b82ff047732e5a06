use Rattle.std.proofs.Common.{◌≡◌, rules, ap, ◌∙◌, refl}
use Rattle.std.proofs.lemmas.Fn.{answers_by}
use Rattle.memory_stores.proofs.Order.{by_bytes}
use Rattle.memory_stores.proofs.Searched.{searched}
use Rattle.memory_stores.proofs.row.search.Goals as goal

-- the closure compares a row's path with the path that is looked for, which it keeps
pub returns : goal.returns
returns c =
    let path = c.args.path.now in
    let facts = c.binary_search_by.ensures in
    let by_path = facts.position (λ row. by_bytes row.path path) (answers_by _ _ (λ f. f.0.now ≡ path) (λ f a r g called kept.
    let compared : r ≡ by_bytes a.0.now.path f.0.now = search rules in
    (compared ∙ ap (by_bytes a.0.now.path) kept, ap (λ b. b.now) called.met.1 ∙ kept)) _ refl) in
    searched _ _ _ c.requires facts.bound by_path
