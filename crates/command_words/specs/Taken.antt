-- What the private type of src/words.rt says: the options that were taken.
use Rattle.std.specs.Option.{option_map}
use Rattle.command_words.specs.declared.words.Options.{Options as ToldOptions}
use Rattle.command_words.specs.Words.{Options}

abbrev pub options_told : ToldOptions → Options
options_told o = record { recipe = option_map (λ r. r.now) o.recipe; workers = o.workers; cycles = o.cycles }
