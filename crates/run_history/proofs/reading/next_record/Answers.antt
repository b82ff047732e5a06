use Rattle.csv.specs.Reading.{error_kind}
use Rattle.csv.specs.Records.{fields_of}
use Rattle.run_history.specs.Reader.{known}
use Rattle.run_history.proofs.ReaderSteps.{next_found, next_none, of_memory}
use Rattle.run_history.proofs.reading.next_record.Goals as goal

pub returns-in-Ok-clause-between : goal.returns-in-Ok-clause-between
returns-in-Ok-clause-between c = λ found.
    let at_start = c.requires.between in
    let read = rw found at (c.in-Ok.ensures.reads at_start.trim at_start.ready) in
    (next_found c.args.reader.now c.read_byte_record.new.self (fields_of c.read_byte_record.new.row) at_start (c.in-Ok.ensures.ready at_start.trim) c.in-Ok.ensures.flexible read).0

pub returns-in-Ok-clause-next : goal.returns-in-Ok-clause-next
returns-in-Ok-clause-next c = λ found.
    let at_start = c.requires.between in
    let read = rw found at (c.in-Ok.ensures.reads at_start.trim at_start.ready) in
    (next_found c.args.reader.now c.read_byte_record.new.self (fields_of c.read_byte_record.new.row) at_start (c.in-Ok.ensures.ready at_start.trim) c.in-Ok.ensures.flexible read).1

pub returns-in-Ok-clause-none : goal.returns-in-Ok-clause-none
returns-in-Ok-clause-none c = λ none.
    let at_start = c.requires.between in
    let read = rw none at (c.in-Ok.ensures.reads at_start.trim at_start.ready) in
    next_none c.args.reader.now c.read_byte_record.new.self (fields_of c.read_byte_record.new.row) at_start read

pub memory_of-requires : goal.memory_of-requires
memory_of-requires c =
    let at_start = c.requires.between in
    record {
      of_memory =
          of_memory known c.args.reader.now c.read_byte_record.new.self (error_kind c.in-Err.failure) at_start.flexible
          (c.in-Err.ensures.why at_start.ready);
    }
