-- What the recipes on paths do to a file, and which files the recipe on new files makes.
use Rattle.std.specs.Prelude.{List, [], ◌∷◌, Some, if◌then◌else◌}
use Rattle.rw_host.specs.declared.file.FileEdit.{FileEdit}
use Rattle.rw_host.specs.declared.file.FileEdit.TheVariants as edit
use Rattle.rw_host.specs.declared.file.SourceFile.{SourceFile}
use Rattle.kept_files.specs.declared.file.KeptFile.{KeptFile}
use Rattle.kept_files.specs.declared.option.FindSourceFiles.{FindSourceFiles}
use Rattle.kept_files.specs.declared.option.DeleteSourceFiles.{DeleteSourceFiles}
use Rattle.kept_files.specs.declared.option.CreateTextFile.{CreateTextFile}
use Rattle.conf_recipes.specs.PathPatterns.{path_matches}

-- FindSourceFiles: a file whose path matches is found
unfoldable pub file_found : FindSourceFiles → KeptFile → FileEdit
file_found options f = if path_matches options.file_pattern f.path then edit.Found else edit.Keep

-- DeleteSourceFiles: a file whose path matches goes
unfoldable pub file_deleted : DeleteSourceFiles → KeptFile → FileEdit
file_deleted options f = if path_matches options.file_pattern f.path then edit.Remove else edit.Keep

-- CreateTextFile: the one file
unfoldable pub text_files : CreateTextFile → List SourceFile
text_files options = record { path = options.relative_file_name; bytes = Some options.file_contents } ∷ []
