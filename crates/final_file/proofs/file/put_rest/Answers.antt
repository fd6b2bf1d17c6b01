-- `final_file::file::put_rest` meets its contract: four parts, one after the other.
use mathlib.Core.Path.{refl, sym, ◌∙◌}
use Rattle.wire.proofs.Writers.{room_as, room_first, room_second, wrote_as, wrote_then}
use Rattle.final_file.proofs.Steps.{rest_parts}
use borrow.Author.Rules.{rules}
use Rattle.final_file.proofs.file.put_rest.Goals as goal

pub put_codes-p-requires : goal.put_codes-p-requires
put_codes-p-requires c =
    (λ t. c.requires.0 (sym c.is_given.ensures ∙ t), room_first _ (room_as (rest_parts _ _ _ _ _ _ _ (sym c.is_given.ensures) refl) c.requires.4))

pub put_kept-p-requires : goal.put_kept-p-requires
put_kept-p-requires c =
    let r = room_as (rest_parts _ _ _ _ _ _ _ (sym c.is_given.ensures) refl) c.requires.4 in
    (c.requires.1, c.requires.2, c.requires.3, room_first _ (room_second r c.put_codes-p.ensures))

pub put_ends-p-requires : goal.put_ends-p-requires
put_ends-p-requires c =
    let r = room_as (rest_parts _ _ _ _ _ _ _ (sym c.is_given.ensures) refl) c.requires.4 in
    room_first _ (room_second (room_second r c.put_codes-p.ensures) c.put_kept-p.ensures)

pub put_tail-requires : goal.put_tail-requires
put_tail-requires c =
    let r = room_as (rest_parts _ _ _ _ _ _ _ (sym c.is_given.ensures) (sym c.is_given-2.ensures)) c.requires.4 in
    room_second (room_second (room_second r c.put_codes-p.ensures) c.put_kept-p.ensures) c.put_ends-p.ensures

pub returns : goal.returns
returns c =
    wrote_as (sym (rest_parts _ _ _ _ _ _ _ (sym c.is_given.ensures) (sym c.is_given-2.ensures)))
    (wrote_then c.put_codes-p.ensures (wrote_then c.put_kept-p.ensures (wrote_then c.put_ends-p.ensures c.put_tail.ensures)))
