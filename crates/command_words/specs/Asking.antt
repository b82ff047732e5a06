-- What the types of src/words.rt that callers see say.
use Rattle.command_words.specs.declared.words.Asked.{Asked as ToldAsked}
use Rattle.command_words.specs.declared.words.Command.{Command as ToldCommand}
use Rattle.command_words.specs.declared.words.Command.TheVariants as told
use Rattle.command_words.specs.Words.{Asked, Command, apply, dry, check, recover, history}

abbrev pub asked_told : ToldAsked → Asked
asked_told a = record { recipe = a.recipe.now; cycles = a.cycles }

abbrev pub command_told : ToldCommand → Command
command_told (told.Apply a) = apply (asked_told a)
command_told (told.Dry a) = dry (asked_told a)
command_told told.Check = check
command_told told.Recover = recover
command_told told.History = history
