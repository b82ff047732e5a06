use Rattle.java_lex.proofs.segment.mark_segment.Goals as goal

pub returns : goal.returns
returns c = record {
  long = c.put_marks.ensures.long;
  each = λ i h. (_, c.find_marks.ensures i h, c.put_marks.ensures.each i h);
}
