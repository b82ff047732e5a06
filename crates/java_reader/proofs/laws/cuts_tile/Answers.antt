use Rattle.java_reader.proofs.laws.cuts_tile.Goals as goal

pub returns : goal.returns
returns c = λ bytes leaves bad cut.
    c.marks_keep_tiles.ensures bytes cut.plain leaves bad (c.leaves_tile.ensures bytes cut.plain bad cut.are) cut.marked
