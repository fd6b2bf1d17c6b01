use mathlib.Core.Path.{ap, ◌∙◌}
use mathlib.Core.Bool.{Bool, ◌&&◌}
use Rattle.read_event.specs.Inner.{open_after, marked, offset_marked}
use Rattle.read_event.proofs.Leaves.{open_room}
use Rattle.read_event.proofs.marks.begin.Goals as goal

pub opened-requires : goal.opened-requires
opened-requires c =
    λ e. open_room _ _ _ _ _ c.is_first-on.result c.is_first-on.ensures e

pub returns : goal.returns
returns c =
    let a = c.args in
    let n = a.s.opened.frames in
    let e = c.is_first-on.ensures in
    let m = c.mark_offsets.ensures in (
      c.opened.ensures ∙ ap (λ (b : Bool). open_after b a.id a.s.opened) e,
      c.mark.ensures ∙ ap (λ (b : Bool). marked b n a.id a.ids.now) e,
      m.0 ∙ ap (λ (b : Bool). offset_marked (b && a.k.item) n a.s.next.items a.item_offsets.now) e,
      m.1 ∙ ap (λ (b : Bool). offset_marked (b && a.k.stage) n a.s.next.fods a.fod_offsets.now) e,
      m.2 ∙ ap (λ (b : Bool). offset_marked (b && a.k.stage) n a.s.next.whispys a.whispy_offsets.now) e,
      m.3 ∙ ap (λ (b : Bool). offset_marked (b && a.k.stage) n a.s.next.stadiums a.stadium_offsets.now) e,
    )
