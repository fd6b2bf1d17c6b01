-- The code blocks in the files of cases 7, 8 and 9, where the runs read them.
-- Assumes nothing.
use mathlib.Core.Path.{◌≡◌, refl, ap, ◌∙◌}
use mathlib.Core.List.{List, [], ◌∷◌}
use Prim.Native.Nat.{ℕ}
use lib.Dec.{lit<}
use lib.ListN.{get_or, replicate}
use Rattle.wire.specs.Wire.{be, more, number, part, splice, ranged, tabulate, keep}
use Rattle.format.specs.File.{entries_bytes, table_bytes, events_bytes, file_of}
use Rattle.format.specs.Version.{above, gte_of}
use Rattle.layout.specs.Columns.{columns_of, chosen, sum, has_family}
use Rattle.layout.specs.Payloads.{end_size, listed, payload_size, entries_of}
use Rattle.game.specs.Frames.{ports_of, port_slots, slots_from, slots_of}
use Rattle.players.specs.Presence.{marked}
use Rattle.patch.specs.Patch.{patched}
use Rattle.start.specs.Block.{game_fields, seats_fields, mode_fields, match_fields, fields, start_block}
use Rattle.codes.specs.Blocks.{block_count, used, last_flag, code_events, code_block}
use Rattle.ending.specs.End.{end_events, end_of}
use Rattle.events.specs.Events.{frames_events, frame_events, one_event, row_events, player_events}
use Rattle.de.specs.Cut.{events_read}
use Rattle.ser.specs.Write.{events, file}
use Rattle.ser.proofs.EveryCut.{uncut}
use Rattle.ser.proofs.Outcomes.{not_refused}
use Rattle.case_table.specs.Games.{one_frame}
use Rattle.case_table.specs.Table.{coded, cases}
use Rattle.case_calls.specs.Rows.{count_code}
use Rattle.case_table.proofs.Computed.{case_holds}

-- the file of a game with codes of this actual size, padded to so many bytes
abbrev pub coded_file : ℕ → ℕ → List ℕ
coded_file actual padded = file (coded actual) (one_frame (replicate padded 0))

-- two blocks from byte 814 on, and one: lengths, then flags
abbrev two : List ℕ → List ℕ
two f = number (part f 1327 2) ∷ number (part f 1844 2) ∷ number (part f 1330 1) ∷ number (part f 1847 1) ∷ []

abbrev one : List ℕ → List ℕ
one f = number (part f 1327 2) ∷ number (part f 1330 1) ∷ []

computed : (two (coded_file 513 1024) ≡ 512 ∷ 1 ∷ 0 ∷ 1 ∷ []) × (one (coded_file 512 512) ≡ 512 ∷ 1 ∷ [])
unfolding file events file_of table_bytes entries_bytes events_bytes be more part splice entries_of chosen listed payload_size has_family gte_of above sum columns_of end_size start_block fields game_fields seats_fields mode_fields match_fields patched code_events code_block block_count used last_flag ranged keep
computed = (refl, refl)

pub blocks_of_7 : (f : List ℕ) (a b c d : ℕ) → f ≡ coded_file 513 1024 → a ≡ number (part f 1327 2) → b ≡ number (part f 1844 2) → c ≡ number (part f 1330 1) → d ≡ number (part f 1847 1)
    → a ∷ b ∷ c ∷ d ∷ [] ≡ 512 ∷ 1 ∷ 0 ∷ 1 ∷ []
blocks_of_7 f a b c d e ea eb ec ed =
    let read : a ∷ b ∷ c ∷ d ∷ [] ≡ two f = rw (ea, eb, ec, ed) in
    read ∙ ap two e ∙ computed.0

pub blocks_of_8 : (f : List ℕ) (a b : ℕ) → f ≡ coded_file 512 512 → a ≡ number (part f 1327 2) → b ≡ number (part f 1330 1) → a ∷ b ∷ [] ≡ 512 ∷ 1 ∷ []
blocks_of_8 f a b e ea eb =
    let read : a ∷ b ∷ [] ≡ one f = rw (ea, eb) in
    read ∙ ap one e ∙ computed.1

-- of the file of case 9 only its table is computed, and the codes of its events
declared_size : number (part (coded_file 65536 65536) 39 2) ≡ 0
unfolding file file_of table_bytes entries_bytes be more part entries_of chosen listed payload_size has_family gte_of above
declared_size = refl

many_blocks : count_code 0x10 (events (coded 65536) (one_frame (replicate 65536 0))) ≡ 128
unfolding events code_events code_block block_count ranged keep frames_events frame_events one_event row_events player_events has_family gte_of above slots_of slots_from ports_of port_slots tabulate marked end_events end_of count_code
many_blocks = refl

found : events_read (coded_file 65536 65536) ≡ events (coded 65536) (one_frame (replicate 65536 0))
unfolding cases
found = (uncut (not_refused (coded 65536) (one_frame (replicate 65536 0)) 67172 (ap (λ (l : List ℕ). get_or l 0 0) (case_holds 10 (lit< tt))))).0

pub codes_of_9 : (f : List ℕ) (a b code : ℕ) → f ≡ coded_file 65536 65536 → a ≡ number (part f 39 2) → b ≡ count_code code (events_read f) → code ≡ 0x10 → a ∷ b ∷ [] ≡ 0 ∷ 128 ∷ []
codes_of_9 f a b code e ea eb ec =
    let size : a ≡ 0 = ea ∙ ap (λ (l : List ℕ). number (part l 39 2)) e ∙ declared_size in
    let many : b ≡ 128 = eb ∙ ap (λ (k : ℕ). count_code k (events_read f)) ec ∙ ap (λ (l : List ℕ). count_code 0x10 (events_read l)) e ∙ ap (count_code 0x10) found ∙ many_blocks in
    rw (size, many)
