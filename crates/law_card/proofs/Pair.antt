-- Computed games, so that the theorems speak of something: two that agree in all but one port's card are accepted, and their files differ, with presence in one
-- form or in two; and two that differ in presence alone are accepted, and their files have two lengths, so that presence must say the same.
-- Assumes nothing.
use mathlib.Core.Path.{◌≡◌, refl, sym, ap, ◌∙◌}
use mathlib.Core.List.{List, [], ◌∷◌, ◌++◌}
use Prim.Native.Nat.{ℕ, zero, suc, ◌+◌, ◌-◌, ◌*◌, ◌≤◌, ◌<◌}
use native.Mathlib.Nat.{suc-mul}
use native.Mathlib.Omega.{arith}
use borrow.Author.Tests.{le-ltb}
use lib.ListN.{length, get_or, replicate}
use lib.Seq.{get_or-append-add}
use Rattle.wire.specs.Wire.{be, ranged, tabulate, keep}
use Rattle.format.specs.File.{Ev, entries_bytes, table_bytes}
use Rattle.format.specs.Refusal.{lowest}
use Rattle.format.specs.Version.{version, above, gte_of}
use Rattle.format.proofs.Refusals.{skip, none, lowest_after}
use Rattle.layout.specs.Columns.{columns_of, chosen, has_family}
use Rattle.layout.specs.Payloads.{end_size, listed, payload_size, entries_of}
use Rattle.layout.specs.declared.columns.Family.TheVariants.{Pre, Post}
use Rattle.game.specs.Frames.{no_port, no_slot, ports_of, port_slots, port_bytes, slots_from, slots_of}
use Rattle.game.specs.Stores.{cells, offsets, lent, Stores, stores}
use Rattle.game.specs.declared.Game.{Game}
use Rattle.game.specs.declared.frames.Frames.{Frames}
use Rattle.game.specs.declared.frames.PortColumn.{PortColumn}
use Rattle.players.specs.Presence.{marked, present_at, count_from, players_present}
use Rattle.frames.specs.Judge.{refusals}
use Rattle.frames.proofs.Accepted.{numbered}
use Rattle.record.specs.Record.{cells_bytes}
use Rattle.codes.specs.Blocks.{code_events}
use Rattle.ending.specs.End.{initiator_wrong, end_wrong}
use Rattle.events.specs.Events.{frames_events, frame_events, one_event, row_events, player_events}
use Rattle.events.specs.Length.{frames_length}
use Rattle.de.specs.Cut.{events_read}
use Rattle.ser.specs.Length.{raw_length}
use Rattle.ser.specs.Write.{events, file, judged, refusal}
use Rattle.ser.proofs.EveryCut.{uncut}
use Rattle.ser.proofs.Outcomes.{passes, numbered_eleven}
use Rattle.case_table.specs.Games.{plain_start, game_with}
use Rattle.case_table.proofs.Computed.{total_of_lem}
use Rattle.case_table.proofs.Examples.{passed}
use Rattle.law_card.specs.Card.{slot_port, column_port, SameElsewhere, SamePlayers, SamePresence, Agree}
use Rattle.frames.proofs.Opens.{opens_columns, opens_refusals, opens_slots}

-- one frame at 3.18, where Pre has 19 columns and Post 32: port 1 with a follower, and port 3, whose leader may have a byte of presence bits
abbrev port_column : ℕ → ℕ → ℕ → PortColumn
port_column port follower presence = record { port = port; follower = follower; leader_presence = presence; follower_presence = 0 }

abbrev frames : ℕ → Frames
frames presence = record {
  version = version 3 18 0;
  counts = record { frames = 1; items = 0; fods = 0; whispys = 0; stadiums = 0 };
  ports = port_column 1 1 0 ∷ port_column 3 0 presence ∷ no_port ∷ no_port ∷ [];
  port_count = 2;
}

abbrev game : ℕ → Game
game presence = game_with (frames presence) plain_start 0 0 0

-- the two players of port 1 have one number in all their cells, the player of port 3 another; presence bytes
abbrev played : ℕ → List ℕ → Stores
played n bits =
    stores
    (lent
    (cells (0 ∷ []) (0 ∷ 0 ∷ []) (replicate 38 n ++ replicate 19 7) (replicate 64 n ++ replicate 32 7) (0 ∷ []) [] [] [] [])
    (offsets (0 ∷ 0 ∷ []) (0 ∷ 0 ∷ []) (0 ∷ 0 ∷ []) (0 ∷ 0 ∷ [])) bits)
    (replicate 760 0) [] []

-- ---- two of them agree in all but the card of port 1
behind : (n p : ℕ) (xs ys zs : List ℕ) → length xs ≡ n → length ys ≡ n → n ≤ p → get_or (xs ++ zs) p 0 ≡ get_or (ys ++ zs) p 0
behind n p xs ys zs e d h =
    let at : (l : List ℕ) → length l ≡ n → get_or (l ++ zs) p 0 ≡ get_or zs (p - n) 0 =
    λ l q. ap (λ (i : ℕ). get_or (l ++ zs) i 0) (omega arith) ∙ get_or-append-add l zs (p - n) 0 in
    at xs e ∙ sym (at ys d)

-- slots 0 and 1 are of port 1, so the blocks of the others begin behind theirs
elsewhere : (n : ℕ) (xs ys zs : List ℕ) → length xs ≡ 2 * n → length ys ≡ 2 * n → (block column row : ℕ) → (slot_port (frames 0) block ≡ 1 → ⊥)
    → get_or (xs ++ zs) ((block * n + column) * 1 + row) 0 ≡ get_or (ys ++ zs) ((block * n + column) * 1 + row) 0
unfolding slots_of slots_from ports_of port_slots tabulate keep
elsewhere n xs ys zs e d zero column row ne = absurd (ne refl)
elsewhere n xs ys zs e d (suc zero) column row ne = absurd (ne refl)
elsewhere n xs ys zs e d (suc (suc b)) column row ne =
    behind (2 * n) ((suc (suc b) * n + column) * 1 + row) xs ys zs e d (omega (arith, suc-mul (suc b) n, suc-mul b n))

elsewhere_pre : SameElsewhere (frames 0) 1 Pre (played 0 []).lent.cells.pres (played 1 []).lent.cells.pres
unfolding columns_of chosen gte_of above
elsewhere_pre = record { cell = λ block column row k l m ne. elsewhere 19 (replicate 38 0) (replicate 38 1) (replicate 19 7) refl refl block column row ne }

elsewhere_post : SameElsewhere (frames 0) 1 Post (played 0 []).lent.cells.posts (played 1 []).lent.cells.posts
unfolding columns_of chosen gte_of above
elsewhere_post = record { cell = λ block column row k l m ne. elsewhere 32 (replicate 64 0) (replicate 64 1) (replicate 32 7) refl refl block column row ne }

-- the players are the same, however many presence bytes the player of port 3 has
players : (presence : ℕ) → SamePlayers (frames 0) (frames presence)
unfolding ports_of tabulate
players presence = record { version = refl; counts = refl; port_count = refl; port = ports; follower = followers }
  where
    ports : (k : ℕ) → column_port (frames 0) k ≡ column_port (frames presence) k
    ports zero = refl
    ports (suc zero) = refl
    ports (suc (suc k)) = refl

    followers : (k : ℕ) → (get_or (ports_of (frames 0)) k no_port).follower ≡ (get_or (ports_of (frames presence)) k no_port).follower
    followers zero = refl
    followers (suc zero) = refl
    followers (suc (suc k)) = refl

agreed : (presence : ℕ) (bits : List ℕ) → SamePresence (frames 0) (frames presence) [] bits → Agree (game 0) (game presence) 1 (played 0 []) (played 1 bits)
agreed presence bits same = record {
  players = players presence;
  start = refl;
  end = refl;
  double_end = refl;
  codes_given = refl;
  metadata_given = refl;
  actual_size = refl;
  lent = record {
    presence = same;
    ids = refl;
    starts = refl;
    pres = elsewhere_pre;
    posts = elsewhere_post;
    ends = refl;
    items = refl;
    fods = refl;
    whispys = refl;
    stadiums = refl;
    offsets = refl;
  };
  template = refl;
  codes = refl;
  metadata = refl;
}

pub agree : Agree (game 0) (game 0) 1 (played 0 []) (played 1 [])
agree = agreed 0 [] (record { in_frame = λ k i l m. refl })

-- no presence bytes against one whose spare bits are all set: its lowest bit says that the player of port 3 is in the one frame
in_form : SamePresence (frames 0) (frames 1) [] (255 ∷ [])
unfolding marked slots_of slots_from ports_of port_slots port_bytes tabulate keep
in_form = record { in_frame = each }
  where
    each : (k i : ℕ) → k < length (slots_of (frames 0)) → i < 1 → present_at [] (get_or (slots_of (frames 0)) k no_slot) i ≡ present_at (255 ∷ []) (get_or (slots_of (frames 1)) k no_slot) i
    each zero i l m = refl
    each (suc zero) i l m = refl
    each (suc (suc zero)) zero l m = refl
    each (suc (suc zero)) (suc i) l m = absurd (omega arith)
    each (suc (suc (suc k))) i l m = absurd (omega arith)

pub agree_in_form : Agree (game 0) (game 1) 1 (played 0 []) (played 1 (255 ∷ []))
agree_in_form = agreed 1 (255 ∷ []) in_form

-- ---- they are accepted: 1 to 7 are computed, 8 to 10 are those of the game that the twelve cases have with one frame
framed :
    (lowest (refusals (frames 0) (played 0 []).lent 0 0) ≡ 0)
    × (lowest (refusals (frames 0) (played 1 []).lent 0 0) ≡ 0)
    × (lowest (refusals (frames 1) (played 0 (1 ∷ [])).lent 0 0) ≡ 0)
    × (lowest (refusals (frames 1) (played 0 (0 ∷ [])).lent 0 0) ≡ 0)
    × (lowest (refusals (frames 1) (played 1 (255 ∷ [])).lent 0 0) ≡ 0)
unfolding opens_refusals
framed = (refl, refl, refl, refl, refl)

judged_none : (presence n : ℕ) (bits : List ℕ) → lowest (refusals (frames presence) (played n bits).lent 0 0) ≡ 0 → lowest (judged (game presence) (played n bits)) ≡ 0
unfolding judged end_wrong initiator_wrong
judged_none presence n bits e =
    lowest_after (refusals (frames presence) (played n bits).lent 0 0) _ (numbered (frames presence) (played n bits).lent 0 0) e
    ∙ sym (skip 8 _ _ _ passed.block (skip 9 _ _ _ passed.start (skip 10 _ _ _ passed.coded (skip 11 _ _ _ refl none))))

-- with an output that just fits, 12 does not apply either
accepted : (g : Game) (s : Stores) → lowest (judged g s) ≡ 0 → refusal g s (length (file g s)) ≡ 0
unfolding refusal
accepted g s e = lowest_after (judged g s) _ (numbered_eleven g s) e ∙ sym (skip 12 _ _ _ (le-ltb (length (file g s)) (length (file g s)) (omega arith)) none)

pub all_accepted :
    (refusal (game 0) (played 0 []) (length (file (game 0) (played 0 []))) ≡ 0)
    × (refusal (game 0) (played 1 []) (length (file (game 0) (played 1 []))) ≡ 0)
    × (refusal (game 1) (played 1 (255 ∷ [])) (length (file (game 1) (played 1 (255 ∷ [])))) ≡ 0)
all_accepted = (accepted _ _ (judged_none 0 0 [] framed.0), accepted _ _ (judged_none 0 1 [] framed.1), accepted _ _ (judged_none 1 1 (255 ∷ []) framed.4))

-- ---- and their files differ: byte 9 of the payload of event 2, the Pre of port 1's leader, is the low byte of its first cell
abbrev no_ev : Ev
no_ev = record { code = 0; payload = [] }

abbrev low_byte : List Ev → ℕ
low_byte es = get_or (get_or es 2 no_ev).payload 9 0

low_bytes : (low_byte (events (game 0) (played 0 [])) ≡ 0) × (low_byte (events (game 0) (played 1 [])) ≡ 1)
unfolding opens_slots events code_events frames_events ranged frame_events one_event row_events player_events cells_bytes be keep marked has_family gte_of above chosen columns_of
low_bytes = (refl, refl)

pub files_differ : file (game 0) (played 0 []) ≡ file (game 0) (played 1 []) → ⊥
files_differ e =
    let (x, _) = uncut (passes _ _ (judged_none 0 0 [] framed.0)) in
    let (y, _) = uncut (passes _ _ (judged_none 0 1 [] framed.1)) in
    let same : events (game 0) (played 0 []) ≡ events (game 0) (played 1 []) = sym x ∙ ap events_read e ∙ y in
    let c = ap low_byte same in
    absurd (omega (arith, low_bytes.0, low_bytes.1, c))

-- ---- presence alone: the same cells, with the player of port 3 present and absent
pub presence_matters :
    (refusal (game 1) (played 0 (1 ∷ [])) (length (file (game 1) (played 0 (1 ∷ [])))) ≡ 0)
    × (refusal (game 1) (played 0 (0 ∷ [])) (length (file (game 1) (played 0 (0 ∷ [])))) ≡ 0)
    × (length (file (game 1) (played 0 (1 ∷ []))) ≡ 1287)
    × (length (file (game 1) (played 0 (0 ∷ []))) ≡ 1135)
unfolding opens_columns opens_slots raw_length table_bytes entries_bytes entries_of listed payload_size be end_size frames_length players_present count_from marked
presence_matters =
    let x = judged_none 1 0 (1 ∷ []) framed.2 in
    let y = judged_none 1 0 (0 ∷ []) framed.3 in
    (accepted _ _ x, accepted _ _ y, total_of_lem (passes _ _ x), total_of_lem (passes _ _ y))
