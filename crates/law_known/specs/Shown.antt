-- Where a value that is shown stands in a newer recorder's events (2026-12): at its 3.18 place in a payload, however long that is.
-- Assumes nothing.
use Rattle.std.specs.Prelude.{ℕ, ◌+◌, ◌*◌, Bool, cond, ◌&&◌, List, [], ◌∷◌, ◌++◌, eqb, get_or, take}
use Rattle.wire.specs.Wire.{number, part, keep}
use Rattle.format.specs.Event.{code_of}
use Rattle.format.specs.File.{Ev}
use Rattle.format.specs.declared.event.Event.TheVariants.{GameEnd, MessageSplitter}
use Rattle.layout.specs.Columns.{sum, widths_of}
use Rattle.layout.specs.Payloads.{event_of, head_size}
use Rattle.layout.specs.declared.columns.Family.{Family}
use Rattle.layout.specs.declared.columns.Family.TheVariants.{Pre, Post, FrameStart, Item, FrameEnd, FodPlatform, DreamlandWhispy, StadiumTransformation}
use Rattle.game.specs.Frames.{slot_at}
use Rattle.game.specs.declared.frames.Frames.{Frames}
use Rattle.grammar.specs.Machine.{port_in, follower_in}
use Rattle.columns.specs.Columns.{slot_number}
use Rattle.law_known.specs.Made.{last}

-- where 3.18 has column c in a family's payload, behind the head and the columns before it, and the number there; 0 where there is no payload
abbrev pub column_place : Family → ℕ → ℕ
column_place family c = head_size family + sum (take c (widths_of family last))

abbrev pub number_in : Family → List ℕ → ℕ → ℕ
number_in family payload c = number (part payload (column_place family c) (get_or (widths_of family last) c 0))

-- ---- which payload

unfoldable pub is_of : Family → Ev → Bool
is_of family e = eqb e.code (code_of (event_of family))

-- those of a family's events, in order
unfoldable pub payloads_of : Family → List Ev → List (List ℕ)
payloads_of family [] = []
payloads_of family (e ∷ es) = keep (is_of family e) (e.payload ∷ []) ++ payloads_of family es

-- the events of each frame: those behind a FrameStart and before the next
unfoldable pub until_start : List Ev → List Ev
until_start [] = []
until_start (e ∷ es) = cond (is_of FrameStart e) [] (e ∷ until_start es)

unfoldable pub frames_in : List Ev → List (List Ev)
frames_in [] = []
frames_in (e ∷ es) = keep (is_of FrameStart e) (until_start es ∷ []) ++ frames_in es

-- that of the event of a player's family whose slot is k, two for each port; none where there is no such event
unfoldable pub payload_by : Family → ℕ → List Ev → List ℕ
payload_by family k [] = []
payload_by family k (e ∷ es) = cond (is_of family e && eqb (2 * port_in e + follower_in e) k) e.payload (payload_by family k es)

-- that of row i in block k of a family's store: of a player, the k-th slot's in frame i; of others, the i-th
abbrev pub payload_at : Family → Frames → List Ev → ℕ → ℕ → List ℕ
payload_at Pre f es k i = payload_by Pre (slot_number (slot_at f k)) (get_or (frames_in es) i [])
payload_at Post f es k i = payload_by Post (slot_number (slot_at f k)) (get_or (frames_in es) i [])
payload_at FrameStart f es k i = get_or (payloads_of FrameStart es) i []
payload_at Item f es k i = get_or (payloads_of Item es) i []
payload_at FrameEnd f es k i = get_or (payloads_of FrameEnd es) i []
payload_at FodPlatform f es k i = get_or (payloads_of FodPlatform es) i []
payload_at DreamlandWhispy f es k i = get_or (payloads_of DreamlandWhispy es) i []
payload_at StadiumTransformation f es k i = get_or (payloads_of StadiumTransformation es) i []

-- ---- beside the columns

-- the payloads of ends, in order
unfoldable pub ends_in : List Ev → List (List ℕ)
ends_in [] = []
ends_in (e ∷ es) = keep (eqb e.code (code_of GameEnd)) (e.payload ∷ []) ++ ends_in es

-- the first 512 bytes of each block of codes, one after another
unfoldable pub codes_in : List Ev → List ℕ
codes_in [] = []
codes_in (e ∷ es) = keep (eqb e.code (code_of MessageSplitter)) (take 512 e.payload) ++ codes_in es
