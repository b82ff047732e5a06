-- The limits of a repository, and of the states of a run.
use Rattle.std.specs.Prelude.{ℕ, nat_lt, ◌||◌, List, codes, Option, None, Some, if◌then◌else◌}
use Rattle.std.specs.FinMap as map
use Rattle.rw_host.specs.Files.{Files}
use Rattle.rewrite_cli.specs.declared.limits.Limit.{Limit}
use Rattle.rewrite_cli.specs.declared.limits.Limit.TheVariants as limit
use Rattle.rewrite_cli.specs.declared.limits.TheConstants.{MOST_PATHS, MOST_FILES, MOST_IN_ALL}
use Rattle.rewrite_cli.specs.Sources.{count_counted, bytes_read}

-- The limit that a repository passes: the first of these. The paths that are listed count, and those of what the store
-- stands for.
unfoldable pub limit_of : Files → Files → Option Limit
limit_of listed files =
    if nat_lt MOST_PATHS (map.len listed) || nat_lt MOST_PATHS (map.len files) then Some limit.Paths
    else if nat_lt MOST_FILES (count_counted (map.keys files)) then Some limit.Files
    else if nat_lt MOST_IN_ALL (bytes_read files (map.keys files)) then Some limit.Bytes
    else None

-- what is told of it
unfoldable pub limit_line : Limit → List ℕ
limit_line limit.Paths = codes "limit: paths more than 100000\n"
limit_line limit.Files = codes "limit: files more than 10000\n"
limit_line limit.Bytes = codes "limit: bytes more than 67108864\n"
limit_line limit.StepBytes = codes "limit: step bytes more than 134217728\n"
limit_line limit.JournalBytes = codes "limit: journal bytes more than 1073741824\n"
