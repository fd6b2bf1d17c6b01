-- Three games, computed: which rows are kept, and what is gathered.
-- Assumes nothing.
use mathlib.Core.Path.{◌≡◌, refl, ap, ◌∙◌}
use mathlib.Core.List.{List, [], ◌∷◌, ◌++◌}
use Prim.Native.Nat.{ℕ, ◌%◌}
use lib.ListN.{length, take, drop, replicate}
use Rattle.wire.specs.Wire.{be, ranged, keep, tabulate}
use Rattle.format.specs.File.{events_bytes}
use Rattle.format.specs.Refusal.{lowest}
use Rattle.format.specs.Version.{version, above, gte_of}
use Rattle.layout.specs.Columns.{columns_of, chosen, sum, has_family}
use Rattle.game.specs.Frames.{ports_of, port_slots, port_bytes, slots_from, slots_of}
use Rattle.game.specs.Stores.{Lent, cells, offsets, lent}
use Rattle.game.specs.declared.frames.PortColumn.{PortColumn}
use Rattle.game.specs.declared.frames.Frames.{Frames}
use Rattle.players.specs.Presence.{marked}
use Rattle.frames.specs.Judge.{refusals}
use Rattle.record.specs.Record.{cells_bytes}
use Rattle.events.specs.Events.{frame_events, frames_events, one_event, row_events, player_events}
use Rattle.rollback.specs.Mask.{occurs, mask_of}
use Rattle.columns.specs.Columns.{totals, bits_from}
use Rattle.final_frames.specs.Rows.{gather, rows_at, offsets_at, packed, presence_at, frames_at, lent_at}
use Rattle.final_frames.specs.Final.{kept_rows, final_frames, final_lent}
use Rattle.final_frames.proofs.Gather.{each}
use Rattle.final_frames.proofs.Events.{frames_are}
use Rattle.frames.proofs.Opens.{opens_refusals, opens_slots}

abbrev column : ℕ → ℕ → ℕ → ℕ → PortColumn
column p f a b = record { port = p; follower = f; leader_presence = a; follower_presence = b }

abbrev none : PortColumn
none = column 0 0 0 0

abbrev cells_to : ℕ → List ℕ
cells_to n = tabulate n (λ k. k % 200)

-- ---- case 10's ids, -123 -122 -122 -121, at 0.1.0; one player, who is not in frame 2 and whose spare presence bits are set
abbrev four_ids : List ℕ
four_ids = 0xffff_ff85 ∷ 0xffff_ff86 ∷ 0xffff_ff86 ∷ 0xffff_ff87 ∷ []

abbrev four : Frames
four = record {
  version = version 0 1 0;
  counts = record { frames = 4; items = 0; fods = 0; whispys = 0; stadiums = 0 };
  ports = column 2 0 1 0 ∷ none ∷ none ∷ none ∷ [];
  port_count = 1;
}

abbrev four_lent : Lent
four_lent = lent (cells four_ids [] (cells_to 56) (cells_to 44) [] [] [] [] []) (offsets [] [] [] []) (0xfb ∷ [])

four_kept : kept_rows four_ids ≡ 0 ∷ 2 ∷ 3 ∷ []
unfolding kept_rows mask_of tabulate occurs ranged keep
four_kept = refl

four_gathered :
    ((final_frames four four_lent).counts.frames ≡ 3)
    × ((final_lent four four_lent).cells.ids ≡ 0xffff_ff85 ∷ 0xffff_ff86 ∷ 0xffff_ff87 ∷ [])
    × (take 6 (final_lent four four_lent).cells.pres ≡ 0 ∷ 2 ∷ 3 ∷ 4 ∷ 6 ∷ 7 ∷ [])
    × (drop 39 (final_lent four four_lent).cells.pres ≡ 52 ∷ 54 ∷ 55 ∷ [])
    × (length (final_lent four four_lent).cells.posts ≡ 33)
    × ((final_lent four four_lent).presence ≡ 5 ∷ [])
unfolding opens_slots frames_at lent_at kept_rows mask_of occurs ranged keep gather rows_at offsets_at totals packed bits_from presence_at marked has_family columns_of chosen above gte_of
four_gathered = (refl, refl, refl, refl, refl, refl)

-- both are accepted; frame 2 is kept and has no events
four_accepted : (lowest (refusals four four_lent 0 0) ≡ 0) × (lowest (refusals (final_frames four four_lent) (final_lent four four_lent) 0 0) ≡ 0)
unfolding opens_refusals frames_at lent_at kept_rows mask_of occurs ranged gather rows_at offsets_at totals packed bits_from presence_at marked
four_accepted = (refl, refl)

four_events : frames_events (final_frames four four_lent) (final_lent four four_lent) ≡ frame_events four four_lent 0 ++ (frame_events four four_lent 2 ++ (frame_events four four_lent 3 ++ []))
unfolding each
four_events = frames_are four four_lent (kept_rows four_ids) ∙ ap (each (frame_events four four_lent)) four_kept

four_lengths :
    (length (events_bytes (frame_events four four_lent 0)) ≡ 93)
    × (length (events_bytes (frame_events four four_lent 2)) ≡ 0)
    × (length (events_bytes (frame_events four four_lent 3)) ≡ 93)
unfolding ranged marked above gte_of columns_of chosen sum has_family keep tabulate ports_of port_slots port_bytes slots_from slots_of frame_events one_event row_events player_events cells_bytes events_bytes be
four_lengths = (refl, refl, refl)

-- ---- ten frames at 3.18.0, ids 0 to 6, 5, 6, 7: frames 5 and 6 are not final. Two ports, the first with a follower; items in frames 1, 5 and 9, a Whispy in frame 6 and
-- one in frame 7, a platform in frames 0 and 6
abbrev ten_ids : List ℕ
ten_ids = 0 ∷ 1 ∷ 2 ∷ 3 ∷ 4 ∷ 5 ∷ 6 ∷ 5 ∷ 6 ∷ 7 ∷ []

abbrev ten : Frames
ten = record {
  version = version 3 18 0;
  counts = record { frames = 10; items = 4; fods = 3; whispys = 2; stadiums = 0 };
  ports = column 1 1 2 2 ∷ column 0 0 0 0 ∷ none ∷ none ∷ [];
  port_count = 2;
}

abbrev ten_lent : Lent
ten_lent =
    lent
    (cells ten_ids (cells_to 20) (cells_to 570) (cells_to 960) (cells_to 10) (cells_to 64) (10 ∷ 11 ∷ 12 ∷ 20 ∷ 21 ∷ 22 ∷ []) (30 ∷ 31 ∷ []) [])
    (offsets (0 ∷ 0 ∷ 1 ∷ 1 ∷ 1 ∷ 1 ∷ 2 ∷ 2 ∷ 2 ∷ 2 ∷ 4 ∷ []) (0 ∷ 1 ∷ 1 ∷ 1 ∷ 1 ∷ 1 ∷ 1 ∷ 3 ∷ 3 ∷ 3 ∷ 3 ∷ []) (0 ∷ 0 ∷ 0 ∷ 0 ∷ 0 ∷ 0 ∷ 0 ∷ 1 ∷ 2 ∷ 2 ∷ 2 ∷ []) (replicate 11 0))
    (0xff ∷ 0x03 ∷ 0xaa ∷ 0x02 ∷ [])

ten_kept : kept_rows ten_ids ≡ 0 ∷ 1 ∷ 2 ∷ 3 ∷ 4 ∷ 7 ∷ 8 ∷ 9 ∷ []
unfolding kept_rows mask_of tabulate occurs ranged keep
ten_kept = refl

ten_gathered :
    ((final_frames ten ten_lent).counts ≡ record { frames = 8; items = 3; fods = 1; whispys = 1; stadiums = 0 })
    × ((final_frames ten ten_lent).ports ≡ column 1 1 1 1 ∷ none ∷ none ∷ none ∷ [])
    × ((final_lent ten ten_lent).presence ≡ 0xff ∷ 0xaa ∷ [])
    × ((final_lent ten ten_lent).offsets.items ≡ 0 ∷ 0 ∷ 1 ∷ 1 ∷ 1 ∷ 1 ∷ 1 ∷ 1 ∷ 3 ∷ [])
    × ((final_lent ten ten_lent).offsets.fods ≡ 0 ∷ 1 ∷ 1 ∷ 1 ∷ 1 ∷ 1 ∷ 1 ∷ 1 ∷ 1 ∷ [])
    × ((final_lent ten ten_lent).offsets.whispys ≡ 0 ∷ 0 ∷ 0 ∷ 0 ∷ 0 ∷ 0 ∷ 1 ∷ 1 ∷ 1 ∷ [])
    × ((final_lent ten ten_lent).offsets.stadiums ≡ replicate 9 0)
    × (take 6 (final_lent ten ten_lent).cells.items ≡ 0 ∷ 2 ∷ 3 ∷ 4 ∷ 6 ∷ 7 ∷ [])
    × ((final_lent ten ten_lent).cells.fods ≡ 10 ∷ 20 ∷ [])
    × ((final_lent ten ten_lent).cells.whispys ≡ 31 ∷ [])
    × ((final_lent ten ten_lent).cells.starts ≡ 0 ∷ 1 ∷ 2 ∷ 3 ∷ 4 ∷ 7 ∷ 8 ∷ 9 ∷ 10 ∷ 11 ∷ 12 ∷ 13 ∷ 14 ∷ 17 ∷ 18 ∷ 19 ∷ [])
unfolding opens_slots frames_at lent_at kept_rows mask_of occurs ranged keep gather rows_at offsets_at totals packed bits_from presence_at marked has_family columns_of chosen above gte_of
ten_gathered = (refl, refl, refl, refl, refl, refl, refl, refl, refl, refl, refl)

ten_sizes : (length (final_lent ten ten_lent).cells.pres ≡ 456) × (length (final_lent ten ten_lent).cells.posts ≡ 768) × (length (final_lent ten ten_lent).cells.items ≡ 48)
unfolding opens_slots frames_at lent_at kept_rows mask_of occurs ranged keep gather rows_at offsets_at totals packed bits_from presence_at marked has_family columns_of chosen above gte_of
ten_sizes = (refl, refl, refl)

-- ---- an id three times, with items each time: ids 7 8 7 7 at 3.0.0 have 1, 2, 3 and 2 items; rows 1 and 3 are final, with items 1, 2, 6 and 7
abbrev thrice : Frames
thrice = record {
  version = version 3 0 0;
  counts = record { frames = 4; items = 8; fods = 0; whispys = 0; stadiums = 0 };
  ports = column 0 0 0 0 ∷ none ∷ none ∷ none ∷ [];
  port_count = 1;
}

abbrev thrice_lent : Lent
thrice_lent =
    lent
    (cells (7 ∷ 8 ∷ 7 ∷ 7 ∷ []) (cells_to 4) (cells_to 64) (cells_to 92) [] (cells_to 80) [] [] [])
    (offsets (0 ∷ 1 ∷ 3 ∷ 6 ∷ 8 ∷ []) [] [] [])
    []

thrice_gathered :
    (kept_rows (7 ∷ 8 ∷ 7 ∷ 7 ∷ []) ≡ 1 ∷ 3 ∷ [])
    × ((final_frames thrice thrice_lent).counts ≡ record { frames = 2; items = 4; fods = 0; whispys = 0; stadiums = 0 })
    × ((final_lent thrice thrice_lent).cells.ids ≡ 8 ∷ 7 ∷ [])
    × ((final_lent thrice thrice_lent).offsets.items ≡ 0 ∷ 2 ∷ 4 ∷ [])
    × ((final_lent thrice thrice_lent).offsets.fods ≡ [])
    × (take 8 (final_lent thrice thrice_lent).cells.items ≡ 1 ∷ 2 ∷ 6 ∷ 7 ∷ 9 ∷ 10 ∷ 14 ∷ 15 ∷ [])
    × ((final_lent thrice thrice_lent).presence ≡ [])
unfolding opens_slots frames_at lent_at kept_rows mask_of occurs ranged keep gather rows_at offsets_at totals packed bits_from presence_at marked has_family columns_of chosen above gte_of
thrice_gathered = (refl, refl, refl, refl, refl, refl, refl)

thrice_accepted : (lowest (refusals thrice thrice_lent 0 0) ≡ 0) × (lowest (refusals (final_frames thrice thrice_lent) (final_lent thrice thrice_lent) 0 0) ≡ 0)
unfolding opens_refusals frames_at lent_at kept_rows mask_of occurs ranged gather rows_at offsets_at totals packed bits_from presence_at marked
thrice_accepted = (refl, refl)
