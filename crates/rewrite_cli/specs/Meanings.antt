-- What files and texts read as, as functions.
use Rattle.std.specs.Prelude.{ℕ, List}
use Rattle.rw_host.specs.Files.{Files}
use Rattle.kept_files.specs.Readings.{Reads, AreReadings}
use Rattle.recipe_yaml.specs.KeyPathTexts.{KeyPathsOf, AreKeyPaths}
use Rattle.rewrite_cli.specs.Histories.{History, IsHistoryOf}
use Rattle.rewrite_cli.specs.Journals.{Journal, IsJournalOf}

-- what a file reads as, what a text reads as as a key path, what the journal of files says, and what a history
pub record Meanings : Type 0 where
  pub read : Reads
  pub key_paths : KeyPathsOf
  pub journal : Files → Journal
  pub history : List ℕ → History

-- These are what the grammars say. There are such functions, since a file reads as one thing, and so do a text as a key
-- path, a journal and a history.
pub record AreMeanings (m : Meanings) : Type 0 where
  pub read : AreReadings m.read
  pub key_paths : AreKeyPaths m.key_paths
  pub journal : (files : Files) → IsJournalOf files (m.journal files)
  pub history : (bytes : List ℕ) → IsHistoryOf bytes (m.history bytes)
