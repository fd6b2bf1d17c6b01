-- The payload table of a version: which events it lists, in which order, and their payloads' sizes.
-- Assumes nothing.
use Rattle.std.specs.Prelude.{ℕ, ◌+◌, ◌%◌, Bool, true, false, cond, List, [], ◌∷◌}
use Rattle.format.specs.Version.{has_codes, has_initiator, has_placements}
use Rattle.format.specs.Event.{code_of}
use Rattle.format.specs.File.{Entry}
use Rattle.format.specs.declared.version.Version.{Version}
use Rattle.format.specs.declared.event.Event.{Event}
use Rattle.format.specs.declared.event.Event.TheVariants as event
use Rattle.layout.specs.Columns.{chosen, has_family, size_of}
use Rattle.layout.specs.declared.columns.Family.{Family}
use Rattle.layout.specs.declared.columns.Family.TheVariants.{Pre, Post, FrameStart, Item, FrameEnd, FodPlatform, DreamlandWhispy, StadiumTransformation}

-- the event of a family's records
abbrev pub event_of : Family → Event
event_of Pre = event.FramePre
event_of Post = event.FramePost
event_of FrameStart = event.FrameStart
event_of Item = event.Item
event_of FrameEnd = event.FrameEnd
event_of FodPlatform = event.FodPlatform
event_of DreamlandWhispy = event.DreamlandWhispy
event_of StadiumTransformation = event.StadiumTransformation

-- what stands before a record's columns: the frame id, and for Pre and Post port and follower
abbrev pub head_size : Family → ℕ
head_size Pre = 6
head_size Post = 6
head_size FrameStart = 4
head_size Item = 4
head_size FrameEnd = 4
head_size FodPlatform = 4
head_size DreamlandWhispy = 4
head_size StadiumTransformation = 4

abbrev pub record_size : Family → Version → ℕ
record_size f v = head_size f + size_of f v

-- GameEnd: method; from 2.0 initiator; from 3.13 four placements
unfoldable pub end_size : Version → ℕ
end_size v = cond (has_placements v) 6 (cond (has_initiator v) 2 1)

-- the order of the table
abbrev pub order : List Event
order =
    event.GameStart
    ∷ event.FramePre
    ∷ event.FramePost
    ∷ event.GameEnd
    ∷ event.FrameStart
    ∷ event.Item
    ∷ event.FrameEnd
    ∷ event.GeckoCodes
    ∷ event.MessageSplitter
    ∷ event.FodPlatform
    ∷ event.DreamlandWhispy
    ∷ event.StadiumTransformation
    ∷ []

-- whether a version's table lists an event, with codes given or not
unfoldable pub listed : Version → Bool → Event → Bool
listed v given event.Payloads = false
listed v given event.GameStart = true
listed v given event.FramePre = has_family v Pre
listed v given event.FramePost = has_family v Post
listed v given event.GameEnd = true
listed v given event.FrameStart = has_family v FrameStart
listed v given event.Item = has_family v Item
listed v given event.FrameEnd = has_family v FrameEnd
listed v given event.GeckoCodes = cond given (has_codes v) false
listed v given event.MessageSplitter = cond given (has_codes v) false
listed v given event.FodPlatform = has_family v FodPlatform
listed v given event.DreamlandWhispy = has_family v DreamlandWhispy
listed v given event.StadiumTransformation = has_family v StadiumTransformation

-- the size of an event's payload, with a start block of `block` bytes and codes of `actual` bytes
unfoldable pub payload_size : Version → ℕ → ℕ → Event → ℕ
payload_size v block actual event.Payloads = 0
payload_size v block actual event.GameStart = block
payload_size v block actual event.FramePre = record_size Pre v
payload_size v block actual event.FramePost = record_size Post v
payload_size v block actual event.GameEnd = end_size v
payload_size v block actual event.FrameStart = record_size FrameStart v
payload_size v block actual event.Item = record_size Item v
payload_size v block actual event.FrameEnd = record_size FrameEnd v
payload_size v block actual event.GeckoCodes = actual % 65536
payload_size v block actual event.MessageSplitter = 516
payload_size v block actual event.FodPlatform = record_size FodPlatform v
payload_size v block actual event.DreamlandWhispy = record_size DreamlandWhispy v
payload_size v block actual event.StadiumTransformation = record_size StadiumTransformation v

abbrev pub entry_of : Version → ℕ → ℕ → Event → Entry
entry_of v block actual e = record { code = code_of e; size = payload_size v block actual e }

-- the table: an entry for each event listed, in order
unfoldable pub entries_of : Version → ℕ → Bool → ℕ → List Entry
entries_of v block given actual = chosen (listed v given) (entry_of v block actual) order
