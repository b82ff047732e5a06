-- A writer into memory between two records.
use Rattle.std.specs.Prelude.{◌≡◌, ℕ, ◌++◌, List, false}
use Rattle.std.specs.Prelude.{Vec}
use Rattle.std.specs.Global.{Global}
use Rattle.csv.specs.Writing.{default_writer, fields_written, has_written, writer_pending, writer_setup, writer_under}
use Rattle.csv.specs.declared.writer.Writer.{Writer}

-- the bytes that it was given
abbrev pub text_in : Writer (Vec ℕ Global) → List ℕ
text_in writer = (writer_under writer).items ++ writer_pending writer

-- it has the crate's defaults, and no record is begun
pub record IsFresh (writer : Writer (Vec ℕ Global)) : Type 0 where
  pub setup : writer_setup writer ≡ default_writer
  pub fields : fields_written writer ≡ 0
  pub wrote : has_written writer ≡ false
