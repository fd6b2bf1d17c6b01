-- `ser::file::put_front` meets its contract: four parts, one after the other.
use mathlib.Core.Path.{refl, sym}
use borrow.Author.Rules.{rules}
use Rattle.wire.proofs.Writers.{room_as, room_first, room_second, wrote_as, wrote_then}
use Rattle.ser.proofs.Fronts.{front_parts}
use Rattle.ser.proofs.file.put_front.Goals as goal

pub put_signature-p-requires : goal.put_signature-p-requires
put_signature-p-requires c = room_first _ (room_as (front_parts _ _ _ _ _ _ _ refl refl) c.requires.1)

pub put_u32-p-requires : goal.put_u32-p-requires
put_u32-p-requires c = room_first _ (room_second (room_as (front_parts _ _ _ _ _ _ _ refl refl) c.requires.1) c.put_signature-p.ensures)

pub put_table-p-requires : goal.put_table-p-requires
put_table-p-requires c =
    let r = room_as (front_parts _ _ _ _ _ _ _ (sym c.is_given.ensures) refl) c.requires.1 in
    (c.requires.0, room_first _ (room_second (room_second r c.put_signature-p.ensures) c.put_u32-p.ensures))

pub put_u8-requires : goal.put_u8-requires
put_u8-requires c =
    let r = room_as (front_parts _ _ _ _ _ _ _ (sym c.is_given.ensures) (sym c.code.ensures)) c.requires.1 in
    room_second (room_second (room_second r c.put_signature-p.ensures) c.put_u32-p.ensures) c.put_table-p.ensures

pub returns : goal.returns
returns c =
    wrote_as (sym (front_parts _ _ _ _ _ _ _ (sym c.is_given.ensures) (sym c.code.ensures)))
    (wrote_then c.put_signature-p.ensures (wrote_then c.put_u32-p.ensures (wrote_then c.put_table-p.ensures c.put_u8.ensures)))
