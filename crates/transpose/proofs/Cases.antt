-- Worked rows, computed from the definitions: a Pre and a Post row at every version where its columns change and at the version before,
-- an Item row, a frame, and refusals.
-- Assumes nothing.
use mathlib.Core.Path.{◌≡◌, refl}
use mathlib.Core.Bool.{cond}
use mathlib.Core.List.{List, [], ◌∷◌, ◌++◌, map}
use Prim.Native.Nat.{ℕ, zero, suc, ◌+◌, ◌-◌, ◌*◌}
use lib.IntN.{ℤ, pos, negsuc}
use lib.ListN.{length, get_or, replicate}
use Rattle.format.specs.Version.{version}
use Rattle.format.specs.declared.version.Version.{Version}
use Rattle.layout.specs.Columns.{has_family, widths_of}
use Rattle.layout.specs.declared.columns.Family.{Family}
use Rattle.layout.specs.declared.columns.Family.TheVariants as family
use Rattle.game.specs.Stores.{Lent, cells, offsets, lent}
use Rattle.players.specs.Presence.{marked}
use Rattle.game.specs.declared.frames.PortColumn.{PortColumn}
use Rattle.game.specs.declared.frames.Frames.{Frames}
use Rattle.rows.specs.Cells.{first_cells}
use Rattle.rows.specs.Parts.{float, position_of, velocity_of, triggers_of, misc_of}
use Rattle.rows.specs.Rows.{pre_of, item_of}
use Rattle.transpose.specs.Judge.{outside, row_refusal}
use Rattle.transpose.specs.Records.{mark_at}
use Rattle.transpose.specs.Ports.{port_at}
use Rattle.transpose.specs.Frame.{range_at}
use Rattle.transpose.specs.Answers.{unless_refused, pre_answer, pre_row, post_row, item_answer, item_row, stadium_transformation_row, frame_row}
use Rattle.transpose.specs.declared.frame.Frame.{Frame}
use Rattle.transpose.specs.declared.frame.PortData.{PortData}
use Rattle.transpose.specs.declared.records.PreRow.{PreRow}
use Rattle.transpose.specs.declared.records.ItemRow.{ItemRow}
use Rattle.frames.proofs.Opens.{opens_refusals}

-- from, from + 1, .., n of them
up : ℕ → ℕ → List ℕ
up from zero = []
up from (suc n) = from ∷ up (suc from) n

abbrev zeros : ℕ → List ℕ
zeros n = replicate n 0

-- two frames; port 1 with a follower, and port 3, whose player is in neither frame
abbrev column : ℕ → ℕ → ℕ → PortColumn
column p mark presence = record { port = p; follower = mark; leader_presence = presence; follower_presence = 0 }

abbrev game : Version → ℕ → Frames
game v items = record {
  version = v;
  counts = record { frames = 2; items = items; fods = 0; whispys = 0; stadiums = 0 };
  ports = column 1 1 0 ∷ column 3 0 1 ∷ column 0 0 0 ∷ column 0 0 0 ∷ [];
  port_count = 2;
}

abbrev columns : Family → Version → ℕ
columns f v = length (widths_of f v)

abbrev at : Family → Version → List ℕ → List ℕ
at f v os = cond (has_family v f) os []

-- the cells of Pre and of Post are 1, 2, 3, .. in the order of their stores
abbrev stores : Version → List ℕ → List ℕ → Lent
stores v items os =
    lent
    (cells (0xffff_ff85 ∷ 0xffff_ff86 ∷ []) (up 1 (2 * columns family.FrameStart v)) (up 1 (6 * columns family.Pre v)) (up 1 (6 * columns family.Post v)) (up 0xffff_fffe (2 * columns family.FrameEnd v)) items [] [] [])
    (offsets (at family.Item v os) (at family.FodPlatform v (zeros 3)) (at family.DreamlandWhispy v (zeros 3)) (at family.StadiumTransformation v (zeros 3)))
    (0 ∷ [])

-- a version, and the follower's record in the second frame: its first cell, from which the others go up by 2, and how many columns it has
record Row : Type 0 where
  version : Version
  first : ℕ
  columns : ℕ

abbrev row : Version → ℕ → ℕ → Row
row v first columns = record { version = v; first = first; columns = columns }

twos : ℕ → ℕ → List ℕ
twos from zero = []
twos from (suc n) = from ∷ twos (from + 2) n

abbrev bits_of : Row → List ℕ
bits_of r = twos r.first r.columns ++ zeros (32 - r.columns)

pres : List Row
pres =
    row (version 0 1 0) 30 14
    ∷ row (version 0 2 0) 30 14
    ∷ row (version 1 1 0) 30 14
    ∷ row (version 1 2 0) 32 15
    ∷ row (version 1 3 0) 32 15
    ∷ row (version 1 4 0) 34 16
    ∷ row (version 2 0 0) 34 16
    ∷ row (version 2 1 0) 34 16
    ∷ row (version 3 5 0) 34 16
    ∷ row (version 3 8 0) 34 16
    ∷ row (version 3 11 0) 34 16
    ∷ row (version 3 14 0) 34 16
    ∷ row (version 3 15 0) 36 17
    ∷ row (version 3 16 0) 36 17
    ∷ row (version 3 17 0) 40 19
    ∷ row (version 3 18 0) 40 19
    ∷ []

posts : List Row
posts =
    row (version 0 1 0) 24 11
    ∷ row (version 0 2 0) 26 12
    ∷ row (version 1 2 0) 26 12
    ∷ row (version 1 4 0) 26 12
    ∷ row (version 1 255 0) 26 12
    ∷ row (version 2 0 0) 46 22
    ∷ row (version 2 1 0) 48 23
    ∷ row (version 3 4 0) 48 23
    ∷ row (version 3 5 0) 58 28
    ∷ row (version 3 7 0) 58 28
    ∷ row (version 3 8 0) 60 29
    ∷ row (version 3 10 0) 60 29
    ∷ row (version 3 11 0) 62 30
    ∷ row (version 3 15 0) 62 30
    ∷ row (version 3 16 0) 66 32
    ∷ row (version 3 17 0) 66 32
    ∷ row (version 3 18 0) 66 32
    ∷ []

-- ---- the table

-- what is asked for: the row of a record, by slot and index or by index, or of a frame
data Ask : Type 0 where
  pre : ℕ → ℕ → Ask
  post : ℕ → ℕ → Ask
  item : ℕ → Ask
  stadium : ℕ → Ask
  frame : ℕ → Ask

-- an answer as numbers: the refusal's, then the row's version and cells; of a player also its mark, before the cells
abbrev numbers : ℕ → Version → List ℕ → List ℕ
numbers refused v bits = refused ∷ v.major ∷ v.minor ∷ v.patch ∷ bits

abbrev id_bits : ℤ → ℕ
id_bits (pos n) = n
id_bits (negsuc n) = 0xffff_ffff - n

-- of a frame: its id's bits, its ports with the marks of both players, the first cells of its start and end, the range of its items and of a family without rows
abbrev port_numbers_of : PortData → List ℕ
port_numbers_of p =
    p.port ∷ p.follower_given ∷ p.leader.present ∷ get_or p.leader.pre.bits 0 0 ∷ p.follower.present ∷ get_or p.follower.post.bits 0 0 ∷ []

joined : List (List ℕ) → List ℕ
joined [] = []
joined (xs ∷ xss) = xs ++ joined xss

abbrev frame_numbers : Frame → List ℕ
frame_numbers r =
    id_bits r.id ∷ r.port_count ∷ get_or r.start.bits 0 0 ∷ get_or r.end.bits 0 0
    ∷ r.items.first ∷ r.items.count ∷ r.fod_platforms.first ∷ r.fod_platforms.count
    ∷ joined (map port_numbers_of r.ports)

shown : Frames → Lent → Ask → List ℕ
shown f s (pre slot index) = let r = pre_row f s slot index in numbers r.refused r.row.version (r.row.present ∷ r.row.bits)
shown f s (post slot index) = let r = post_row f s slot index in numbers r.refused r.row.version (r.row.present ∷ r.row.bits)
shown f s (item index) = let r = item_row f s index in numbers r.refused r.row.version r.row.bits
shown f s (stadium index) = let r = stadium_transformation_row f s index in numbers r.refused r.row.version r.row.bits
shown f s (frame index) = let r = frame_row f s index in numbers r.refused r.row.version (frame_numbers r.row)

-- a case: the game's version, its items and their offsets, what is asked for, and the answer
record Case : Type 0 where
  version : Version
  count : ℕ
  cells : List ℕ
  offsets : List ℕ
  ask : Ask
  answer : List ℕ

abbrev case : Version → ℕ → List ℕ → List ℕ → Ask → List ℕ → Case
case v n items os ask answer = record { version = v; count = n; cells = items; offsets = os; ask = ask; answer = answer }

-- without items, and a refusal, whose row is all zero
abbrev plain : Version → Ask → List ℕ → Case
plain v ask answer = case v 0 [] (zeros 3) ask answer

abbrev none : ℕ → ℕ → List ℕ
none number n = number ∷ zeros (3 + n)

-- the second of three items, at 3.6: its owner's bits are 255, and its instance came later
abbrev items : List ℕ
items =
    zeros 1 ++ (7 ∷ zeros 2 ++ (3 ∷ zeros 2 ++ (0x3f80_0000 ∷ zeros 2 ++ (11 ∷ zeros 2 ++ (12 ∷ zeros 2 ++ (13 ∷ zeros 2 ++ (14 ∷ zeros 2 ++ (65535 ∷ zeros 2
    ++ (0x7f80_0001 ∷ zeros 2 ++ (99 ∷ zeros 2 ++ (1 ∷ zeros 2 ++ (2 ∷ zeros 2 ++ (3 ∷ zeros 2 ++ (4 ∷ zeros 2 ++ (255 ∷ zeros 1)))))))))))))))

abbrev second_cells : List ℕ
second_cells = 7 ∷ 3 ∷ 0x3f80_0000 ∷ 11 ∷ 12 ∷ 13 ∷ 14 ∷ 65535 ∷ 0x7f80_0001 ∷ 99 ∷ 1 ∷ 2 ∷ 3 ∷ 4 ∷ 255 ∷ zeros 17

abbrev second : ItemRow
second = record {
  refused = 0;
  row = record {
    version = version 3 6 0;
    bits = second_cells;
    type_id = 7;
    state = 3;
    direction = float 0x3f80_0000;
    velocity = velocity_of 11 12;
    position = position_of 13 14;
    damage = 65535;
    timer = float 0x7f80_0001;
    id = 99;
    misc = misc_of 1 2 3 4;
    owner = negsuc 0;
    instance_id = 0;
  };
}

-- a whole Pre row, at 1.2: the leader of port 1 in the first frame; percent and three sticks came later
abbrev early_cells : List ℕ
early_cells = 1 ∷ 3 ∷ 5 ∷ 7 ∷ 9 ∷ 11 ∷ 13 ∷ 15 ∷ 17 ∷ 19 ∷ 21 ∷ 23 ∷ 25 ∷ 27 ∷ 29 ∷ zeros 17

abbrev early : PreRow
early = record {
  refused = 0;
  row = record {
    version = version 1 2 0;
    present = 1;
    bits = early_cells;
    random_seed = 1;
    state = 3;
    position = position_of 5 7;
    direction = float 9;
    joystick = position_of 11 13;
    cstick = position_of 15 17;
    triggers = float 19;
    buttons = 21;
    buttons_physical = 23;
    triggers_physical = triggers_of 25 27;
    raw_analog_x = pos 29;
    percent = float 0;
    raw_analog_y = pos 0;
    raw_analog_cstick_x = pos 0;
    raw_analog_cstick_y = pos 0;
  };
}

-- the second is of the player of port 3, who is absent: the values are the stores'. The refusals are of a slot and a frame that are not there, an item that is not there, a family that the version lacks, and a version above 3.18.0;
-- the frame is the second at 3.7: id -122, three players, the start's seed, the end's frame -1, and the last two of the three items
others : List Case
others =
    plain (version 1 2 0) (pre 0 0) (numbers 0 (version 1 2 0) (1 ∷ early_cells))
    ∷ plain (version 1 2 0) (pre 2 1) (numbers 0 (version 1 2 0) (0 ∷ twos 62 15 ++ zeros 17))
    ∷ case (version 3 6 0) 3 items (0 ∷ 1 ∷ 3 ∷ []) (item 1) (numbers 0 (version 3 6 0) second_cells)
    ∷ plain (version 0 1 0) (pre 3 1) (none 13 33)
    ∷ plain (version 0 1 0) (pre 2 2) (none 13 33)
    ∷ case (version 3 6 0) 3 items (0 ∷ 1 ∷ 3 ∷ []) (item 3) (none 13 32)
    ∷ plain (version 2 0 0) (item 0) (none 13 32)
    ∷ plain (version 3 18 0) (stadium 0) (none 13 32)
    ∷ plain (version 3 18 1) (pre 0 0) (none 1 33)
    ∷ plain (version 0 1 0) (frame 2) (none 13 32)
    ∷ plain (version 3 18 1) (frame 2) (none 1 32)
    ∷ case (version 3 7 0) 3 (zeros 45) (0 ∷ 1 ∷ 3 ∷ []) (frame 1)
    (numbers 0 (version 3 7 0)
    (0xffff_ff86 ∷ 2 ∷ 2 ∷ 0xffff_ffff ∷ 1 ∷ 2 ∷ 0 ∷ 0 ∷ 1 ∷ 1 ∷ 1 ∷ 2 ∷ 1 ∷ 58 ∷ 3 ∷ 0 ∷ 0 ∷ 66 ∷ 0 ∷ 0 ∷ zeros 12))
    ∷ []

cases : List Case
cases =
    map (λ (r : Row). plain r.version (pre 1 1) (numbers 0 r.version (1 ∷ bits_of r))) pres
    ++ (map (λ (r : Row). plain r.version (post 1 1) (numbers 0 r.version (1 ∷ bits_of r))) posts ++ others)

computed : map (λ (c : Case). shown (game c.version c.count) (stores c.version c.cells c.offsets) c.ask) cases ≡ map (λ (c : Case). c.answer) cases
unfolding opens_refusals cases pres posts twos others joined shown unless_refused row_refusal outside mark_at marked first_cells port_at range_at up
computed = refl

-- the whole rows of the first and the third of the others
whole_pre : pre_answer 0 (pre_of early_cells (version 1 2 0) 1) ≡ early
whole_pre = refl

whole_item : item_answer 0 (item_of second_cells (version 3 6 0)) ≡ second
whole_item = refl
