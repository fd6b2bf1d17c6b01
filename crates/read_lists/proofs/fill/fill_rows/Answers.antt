use mathlib.Core.Path.{refl, ◌∙◌}
use Rattle.read_event.specs.Inner.{plan_of}
use Rattle.read_event.specs.Parts.{rows}
use Rattle.read_event.specs.declared.known.Known.{Known}
use Rattle.read_lists.proofs.Lists.{table_long, row_plan_is, row_spans_are, row_rooms_as, rows_run_as}
use borrow.Author.Rules.{rules}
use Rattle.read_lists.proofs.fill.fill_rows.Reads as reads
use Rattle.read_lists.proofs.fill.fill_rows.Lts as lts
use Rattle.read_lists.proofs.fill.put_all.Reads as put-all-reads
use Rattle.read_rows.proofs.pass.pass.Reads as pass-reads
use Rattle.layout.proofs.columns.Family.exists.Reads as exists-reads
use Rattle.read_lists.proofs.fill.fill_rows.Goals as goal

pub put_all-borders-requires : goal.put_all-borders-requires
put_all-borders-requires c = table_long 0

pub pass-requires : goal.pass-requires
pass-requires c =
    let a = c.args in
    let h = c.requires in
    let k : Known = record { course = record { spans = a.z; start = c.exists-start.result; counts = a.f.counts }; item = c.exists-item.result; stage = c.exists-stage.result; borders = c.put_all-borders.result } in
    let t = c.put_all-borders.ensures in
    let e = row_plan_is a.f k _ t c.exists-start.ensures c.exists-item.ensures c.exists-stage.ensures refl in
    (row_spans_are (plan_of a.f) _ _ h.0 e, h.1, row_rooms_as _ _ _ e h.2, t.parted)

pub returns : goal.returns
returns c =
    let a = c.args in
    let k : Known = record { course = record { spans = a.z; start = c.exists-start.result; counts = a.f.counts }; item = c.exists-item.result; stage = c.exists-stage.result; borders = c.put_all-borders.result } in
    let e = row_plan_is a.f k _ c.put_all-borders.ensures c.exists-start.ensures c.exists-item.ensures c.exists-stage.ensures refl in
    λ es x. c.pass.ensures es x ∙ rows_run_as _ _ es (rows a.ids.now a.starts.now a.ends.now a.items.now a.fods.now a.whispys.now a.stadiums.now a.item_offsets.now a.fod_offsets.now a.whispy_offsets.now a.stadium_offsets.now) e
