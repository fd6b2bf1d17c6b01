-- `ser::file::put_rest` meets its contract: four parts, one after the other.
use mathlib.Core.Path.{refl, sym, ◌∙◌}
use native.Mathlib.Omega.{arith}
use borrow.Author.Rules.{rules}
use Rattle.wire.proofs.Writers.{room_as, room_first, room_second, wrote_as, wrote_then}
use Rattle.ser.proofs.Fronts.{rest_parts}
use Rattle.ser.proofs.file.put_rest.Goals as goal

pub put_codes-p-requires : goal.put_codes-p-requires
put_codes-p-requires c =
    (λ t. c.requires.0 (sym c.is_given.ensures ∙ t), room_first _ (room_as (rest_parts _ _ _ _ _ _ (sym c.is_given.ensures) refl) c.requires.3))

pub put_frames-p-requires : goal.put_frames-p-requires
put_frames-p-requires c =
    let r = room_as (rest_parts _ _ _ _ _ _ (sym c.is_given.ensures) refl) c.requires.3 in
    (c.requires.1, c.requires.2, omega arith, omega arith, room_first _ (room_second r c.put_codes-p.ensures))

pub put_ends-p-requires : goal.put_ends-p-requires
put_ends-p-requires c =
    let r = room_as (rest_parts _ _ _ _ _ _ (sym c.is_given.ensures) refl) c.requires.3 in
    room_first _ (room_second (room_second r c.put_codes-p.ensures) c.put_frames-p.ensures)

pub put_tail-requires : goal.put_tail-requires
put_tail-requires c =
    let r = room_as (rest_parts _ _ _ _ _ _ (sym c.is_given.ensures) (sym c.is_given-2.ensures)) c.requires.3 in
    room_second (room_second (room_second r c.put_codes-p.ensures) c.put_frames-p.ensures) c.put_ends-p.ensures

pub returns : goal.returns
returns c =
    wrote_as (sym (rest_parts _ _ _ _ _ _ (sym c.is_given.ensures) (sym c.is_given-2.ensures)))
    (wrote_then c.put_codes-p.ensures (wrote_then c.put_frames-p.ensures (wrote_then c.put_ends-p.ensures c.put_tail.ensures)))
