-- What a reader needs of every written file: no code twice in its table, each event listed with its payload's size, and a length field that
-- is the number of bytes from the table through the last event.
-- Assumes nothing.
use mathlib.Core.Path.{◌≡◌, refl, sym, ap, ◌∙◌}
use mathlib.Core.List.{[], ◌∷◌, ◌++◌}
use Prim.Native.Nat.{◌≤◌, ◌<◌}
use native.Mathlib.Omega.{arith}
use lib.Dec.{lit<}
use lib.ListN.{length}
use lib.Seq.{take_at}
use Rattle.wire.specs.Wire.{be, number, part}
use Rattle.wire.proofs.Laws.{length_be, number_be}
use Rattle.format.specs.File.{table_bytes, events_bytes, file_of, Fresh, Listed}
use Rattle.format.specs.Mark.{yes}
use Rattle.format.specs.declared.event.Event.TheVariants as event
use Rattle.format.proofs.Files.{listed_append}
use Rattle.layout.specs.Payloads.{listed, payload_size}
use Rattle.layout.proofs.Entries.{fresh_entries, entry_at}
use Rattle.players.proofs.SlotLaws.{slots_few}
use Rattle.start.proofs.Blocks.{length_start_block}
use Rattle.codes.proofs.Laws.{right_codes}
use Rattle.codes.proofs.Lists.{listed_codes}
use Rattle.ending.proofs.Lists.{listed_ends}
use Rattle.events.proofs.Sizes.{listed_frames}
use Rattle.game.specs.declared.Game.{Game}
use Rattle.game.specs.Stores.{Stores}
use Rattle.ser.specs.Write.{entries, game_start_event, events, file}
use Rattle.ser.proofs.Files.{framed, length_raw}
use Rattle.ser.proofs.Outcomes.{Passed}
use Rattle.start.proofs.Refusals.{block_fits}
use Rattle.ser.proofs.Steps.{whole, raw_fits}

module _ {g : Game} {s : Stores} (p : Passed g s) where
  short : length s.template ≤ 65535
  short = (block_fits g.frames.version (length s.template) p.block).1

  pub fresh : Fresh [] (entries g s)
  fresh = fresh_entries g.frames.version (length s.template) (yes g.codes_given) g.actual_size (omega (arith, short))

  listed_start : Listed (entries g s) (game_start_event g s ∷ [])
  unfolding Listed listed payload_size
  listed_start =
      let (inside, size) = entry_at g.frames.version (length s.template) (yes g.codes_given) g.actual_size 0 event.GameStart (lit< tt) refl refl in
      (inside, size ∙ sym (length_start_block g.frames.version g.start s.template), tt)

  pub all_listed : Listed (entries g s) (events g s)
  unfolding events
  all_listed =
      let v = g.frames.version in
      let n = length s.template in
      let given = yes g.codes_given in
      let actual = g.actual_size in
      listed_append (entries g s) (game_start_event g s ∷ []) _ listed_start
      (listed_append (entries g s) _ _ (listed_codes v n given actual s.codes (λ t. right_codes v given s.codes actual p.coded t))
      (listed_append (entries g s) _ _ (listed_frames g.frames s.lent n given actual) (listed_ends v n given actual g.end g.double_end)))

  -- it fits four bytes
  pub length_fits : length (table_bytes (entries g s) ++ events_bytes (events g s)) < 4294967296
  length_fits =
      let e = length_raw g s (whole p) (framed p.frames) in
      raw_fits p (length (table_bytes (entries g s) ++ events_bytes (events g s))) e (slots_few g.frames)

  -- and the four bytes at 11 are that number
  pub length_field : number (part (file g s) 11 4) ≡ length (table_bytes (entries g s) ++ events_bytes (events g s))
  unfolding file file_of part
  length_field =
      let n = length (table_bytes (entries g s) ++ events_bytes (events g s)) in
      ap number (take_at (be 4 n) _ 4 (length_be 4 n)) ∙ number_be 4 n length_fits
