use Rattle.std.proofs.Common.{◌≡◌, take, false}
use Rattle.std.specs.List.{list_any}
use Rattle.std.specs.Str.{bytes_eq}
use Rattle.properties_tree.specs.Decoding.{key_text}
use Rattle.properties_tree.specs.Entries.{properties_of}
use Rattle.conf_recipes.proofs.adding.has_entry.Given as goal

abbrev pub invariant-loop-n : goal.invariant-loop-n
invariant-loop-n l = list_any (λ e. bytes_eq (key_text e) l.key) (take l.n (properties_of l.bytes).entries) ≡ false
