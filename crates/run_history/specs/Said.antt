-- What a record says, as a run.
use Rattle.std.specs.Prelude.{ℕ, List, Option}
use Rattle.std.specs.Option.{option_and_then}
use Rattle.std.specs.Result.{result_ok}
use Rattle.hex.specs.Hex.{decode_sized}
use Rattle.run_history.specs.declared.row.RunRow.{RunRow}
use Rattle.run_history.specs.declared.record.Said.{Said}

abbrev pub row_said : Said → RunRow
row_said said = record {
  run = said.run;
  recipe = said.recipe.now;
  cycles = said.cycles;
  changed = said.changed;
  created = said.created;
  removed = said.removed;
  digest = said.digest;
}

-- the digest that a field tells, if there is one
abbrev pub digest_told : Option (List ℕ) → Option (List ℕ)
digest_told field = option_and_then (λ digits. result_ok (decode_sized digits 32)) field
