use Rattle.yaml_tree.proofs.FoundEntries.{found_some}
use Rattle.yaml_tree.proofs.EntriesOnce.{found_once, entries_once}
use Rattle.yaml_tree.proofs.laws.key_paths_find_entries.Goals as goal

pub returns-clause-found : goal.returns-clause-found
returns-clause-found c = found_some

pub returns-clause-found_once : goal.returns-clause-found_once
returns-clause-found_once c bytes path t tree = found_once t tree bytes path

pub returns-clause-entries_once : goal.returns-clause-entries_once
returns-clause-entries_once c t tree = entries_once t tree
