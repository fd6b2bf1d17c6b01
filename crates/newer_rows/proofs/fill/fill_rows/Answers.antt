use mathlib.Core.Path.{refl, ◌∙◌}
use Rattle.read_event.specs.Inner.{plan_of}
use Rattle.read_event.specs.Parts.{rows}
use Rattle.read_lists.proofs.Lists.{table_long, row_spans_are, row_rooms_as, rows_run_as}
use Rattle.newer_rows.proofs.Lists.{newer_plan}
use borrow.Author.Rules.{rules}
use Rattle.newer_rows.proofs.fill.fill_rows.Reads as reads
use Rattle.newer_rows.proofs.fill.fill_rows.Lts as lts
use Rattle.newer_rows.proofs.pass.pass.Reads as pass-reads
use Rattle.read_lists.proofs.fill.put_all.Reads as put-all-reads
use Rattle.newer_rows.proofs.fill.fill_rows.Goals as goal

pub put_all-borders-requires : goal.put_all-borders-requires
put_all-borders-requires c = table_long 0

pub pass-requires : goal.pass-requires
pass-requires c =
    let a = c.args in
    let h = c.requires in
    let t = c.put_all-borders.ensures in
    let e = newer_plan a.f a.z c.put_all-borders.result _ t h.1 in
    (row_spans_are (plan_of a.f) _ _ h.0 e, refl, h.2, h.3, row_rooms_as _ _ _ e h.4, t.parted)

pub returns : goal.returns
returns c =
    let a = c.args in
    let e = newer_plan a.f a.z c.put_all-borders.result _ c.put_all-borders.ensures c.requires.1 in
    λ es x. c.pass.ensures es x ∙ rows_run_as _ _ es (rows a.ids.now a.starts.now a.ends.now a.items.now a.fods.now a.whispys.now a.stadiums.now a.item_offsets.now a.fod_offsets.now a.whispy_offsets.now a.stadium_offsets.now) e
