use Rattle.std.specs.Prelude.{Vec}
use Rattle.std.specs.Global.{Global}
use Rattle.std.proofs.Common.{◌≡◌, ℕ, [], ◌∷◌, ◌++◌, ◌≤◌, List, ◌∙◌, ap, length, map, sym, refl, take, flat_map}
use Rattle.std.proofs.lemmas.List.{take_all}
use Rattle.csv.specs.Writing.{writer_pending, writer_under}
use Rattle.csv.specs.declared.writer.Writer.{Writer}
use Rattle.run_history.specs.History.{AreRecordsOf, row_line, written}
use Rattle.run_history.specs.Writer.{text_in}
use Rattle.run_history.specs.declared.row.RunRow.{RunRow}
use Rattle.run_history.proofs.Written.{first_more, form_more, line_more, reads_back}
use Rattle.run_history.proofs.writing.history_with.Goals as goal

nothing_written : (writer : Writer (Vec ℕ Global)) (under : Vec ℕ Global) → writer_under writer ≡ under
    → under.items ≡ [] → writer_pending writer ≡ [] → text_in writer ≡ []
nothing_written writer under is none pending = rw (is, none, pending) refl

pub loop-past-init : goal.loop-past-init
unfolding AreRecordsOf
loop-past-init c = (
  record {
    setup = c.from_writer-writer.ensures.cfg ∙ c.new.ensures;
    fields = c.from_writer-writer.ensures.fields;
    wrote = c.from_writer-writer.ensures.wrote;
  },
  nothing_written c.from_writer-writer.result c.new-2.result c.from_writer-writer.ensures.wtr c.new-2.ensures.items c.from_writer-writer.ensures.empty,
  tt,
)

pub loop-past-preserved : goal.loop-past-preserved
loop-past-preserved c =
    let more = first_more c.args.rows.now c.loop-past.past-index c.past-item.result c.loop-past-test.true c.past-item.is in
    let (fresh, text, in_form) = c.loop-past.invariant in (
      c.in_ok-write_row.ensures.fresh,
      line_more _ c.past-item.result _ _ text c.in_ok-write_row.ensures.text ∙ ap (flat_map row_line) (sym more),
      rw more (form_more _ c.past-item.result in_form c.in_ok-write_row.ensures.in_form),
    )

-- after the loop all rows are written
all_rows : (rows : List RunRow) (i : ℕ) (text : List ℕ) → length rows ≤ i → text ≡ flat_map row_line (take i rows)
    → AreRecordsOf (take i rows) (map written (take i rows))
    → (text ≡ flat_map row_line rows) × AreRecordsOf rows (map written rows)
all_rows rows i text end so in_form = let all = take_all i rows end in (so ∙ ap (flat_map row_line) all, rw all at in_form)

pub returns-in-Ok-clause-text : goal.returns-in-Ok-clause-text
returns-in-Ok-clause-text c =
    let (fresh, text, in_form) = c.loop-past.invariant in
    let all = all_rows c.args.rows.now c.loop-past.past-index _ c.loop-past-test.false text in_form in
    c.in-Ok.ensures.ok ∙ line_more c.args.rows.now c.args.row.now _ _ all.0 c.in_ok-write_row-2.ensures.text

pub returns-in-Ok-clause-reads : goal.returns-in-Ok-clause-reads
returns-in-Ok-clause-reads c = λ short.
    let (fresh, text, in_form) = c.loop-past.invariant in
    let all = all_rows c.args.rows.now c.loop-past.past-index _ c.loop-past-test.false text in_form in
    let is = c.in-Ok.ensures.ok ∙ line_more c.args.rows.now c.args.row.now _ _ all.0 c.in_ok-write_row-2.ensures.text in
    reads_back (c.args.rows.now ++ (c.args.row.now ∷ [])) c.in-Ok.bytes.items is c.requires.numbered (form_more c.args.rows.now c.args.row.now all.1 c.in_ok-write_row-2.ensures.in_form) short
