-- What the recipes on paths do, by whether the path matches.
use Rattle.std.proofs.Common.{◌≡◌, true, false, refl}
use Rattle.rw_host.specs.declared.file.FileEdit.TheVariants as edit
use Rattle.kept_files.specs.declared.file.KeptFile.{KeptFile}
use Rattle.kept_files.specs.declared.option.FindSourceFiles.{FindSourceFiles}
use Rattle.kept_files.specs.declared.option.DeleteSourceFiles.{DeleteSourceFiles}
use Rattle.conf_recipes.specs.PathPatterns.{path_matches}
use Rattle.conf_recipes.specs.FileRecipes.{file_found, file_deleted}

pub found : (o : FindSourceFiles) (f : KeptFile) → path_matches o.file_pattern f.path ≡ true → edit.Found ≡ file_found o f
unfolding file_found
found o f e = rw e refl

pub not_found : (o : FindSourceFiles) (f : KeptFile) → path_matches o.file_pattern f.path ≡ false → edit.Keep ≡ file_found o f
unfolding file_found
not_found o f e = rw e refl

pub removed : (o : DeleteSourceFiles) (f : KeptFile) → path_matches o.file_pattern f.path ≡ true → edit.Remove ≡ file_deleted o f
unfolding file_deleted
removed o f e = rw e refl

pub not_removed : (o : DeleteSourceFiles) (f : KeptFile) → path_matches o.file_pattern f.path ≡ false → edit.Keep ≡ file_deleted o f
unfolding file_deleted
not_removed o f e = rw e refl

pub ruleset found_or_not = (found, not_found)

pub ruleset removed_or_not = (removed, not_removed)
