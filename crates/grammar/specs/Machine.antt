-- The order of a frame's events as a machine: a few numbers, moved by one event at a time. It is what code is held to;
-- proofs/Takes.antt and proofs/Exactly.antt say that it takes exactly the well-formed frames.
-- Assumes nothing.
use Rattle.std.specs.Prelude.{ℕ, ◌+◌, ◌*◌, Bool, false, not, cond, ◌&&◌, ◌||◌, List, [], ◌∷◌, ◌++◌, leb, eqb, length, get_or, take}
use Rattle.std.proofs.Math.Option.{Option, none, some}
use Rattle.wire.specs.Wire.{number}
use Rattle.format.specs.Event.{code_of}
use Rattle.format.specs.File.{Ev}
use Rattle.format.specs.declared.event.Event.TheVariants as event
use Rattle.format.specs.declared.version.Version.{Version}
use Rattle.layout.specs.Columns.{has_family}
use Rattle.layout.specs.Payloads.{record_size}
use Rattle.layout.specs.declared.columns.Family.{Family}
use Rattle.layout.specs.declared.columns.Family.TheVariants.{Pre, Post, FrameStart, Item, FrameEnd, FodPlatform, DreamlandWhispy, StadiumTransformation}
use Rattle.grammar.specs.WellFormed.{Order, nobody, may_come}

-- the family of a code
unfoldable pub family_of : ℕ → Option Family
family_of c =
    cond (eqb c (code_of event.FramePre)) (some Pre)
    (cond (eqb c (code_of event.FramePost)) (some Post)
    (cond (eqb c (code_of event.FrameStart)) (some FrameStart)
    (cond (eqb c (code_of event.Item)) (some Item)
    (cond (eqb c (code_of event.FrameEnd)) (some FrameEnd)
    (cond (eqb c (code_of event.FodPlatform)) (some FodPlatform)
    (cond (eqb c (code_of event.DreamlandWhispy)) (some DreamlandWhispy)
    (cond (eqb c (code_of event.StadiumTransformation)) (some StadiumTransformation) none)))))))

-- its place in a frame
abbrev pub rank_of : Family → ℕ
rank_of FrameStart = 1
rank_of Pre = 2
rank_of FodPlatform = 3
rank_of DreamlandWhispy = 4
rank_of StadiumTransformation = 5
rank_of Item = 6
rank_of Post = 7
rank_of FrameEnd = 8

-- the rank of the last event, the frame's id, and the slots whose Post is still to come
pub record State : Type 0 where
  pub rank : ℕ
  pub id : ℕ
  pub due : List ℕ

abbrev pub state : ℕ → ℕ → List ℕ → State
state rank id due = record { rank = rank; id = id; due = due }

-- before the first frame
abbrev pub initial : State
initial = state 8 0 []

-- what an event says: its frame's id and, of a player's, who it is
pub record Said : Type 0 where
  pub id : ℕ
  pub port : ℕ
  pub follower : ℕ

abbrev pub slot_said : Said → ℕ
slot_said w = 2 * w.port + w.follower

abbrev pub id_in : Ev → ℕ
id_in e = number (take 4 e.payload)

abbrev pub port_in : Ev → ℕ
port_in e = get_or e.payload 4 0

abbrev pub follower_in : Ev → ℕ
follower_in e = get_or e.payload 5 0

abbrev pub said_by : Ev → Said
said_by e = record { id = id_in e; port = port_in e; follower = follower_in e }

-- k is the first of them
unfoldable pub is_next : List ℕ → ℕ → Bool
is_next [] k = false
is_next (j ∷ js) k = eqb j k

-- a frame may end here: no Post is to come, and its FrameEnd came where the version has one
unfoldable pub closed : Version → State → Bool
closed v s = nobody s.due && (not (has_family v FrameEnd) || eqb s.rank 8)

-- the event is of the frame, and no later event of it came
unfoldable pub in_frame : State → ℕ → Said → Bool
in_frame s rank w = leb s.rank rank && eqb s.id w.id

-- a port up to 3, a follower's mark of 0 or 1
unfoldable pub player : Said → Bool
player w = leb w.port 3 && leb w.follower 1

-- the event may come
unfoldable pub orderly : Version → Order → State → Family → Said → Bool
orderly v o s FrameStart w = closed v s
orderly v o s Pre w = (in_frame s 2 w || (not (has_family v FrameStart) && closed v s)) && (player w && may_come o s.due (slot_said w))
orderly v o s FodPlatform w = in_frame s 3 w
orderly v o s DreamlandWhispy w = in_frame s 4 w
orderly v o s StadiumTransformation w = in_frame s 5 w
orderly v o s Item w = in_frame s 6 w
orderly v o s Post w = in_frame s 7 w && (player w && is_next s.due (slot_said w))
orderly v o s FrameEnd w = in_frame s 7 w && nobody s.due

-- and the version has its family, and it has its size
unfoldable pub allowed : Version → Order → State → Family → Ev → Bool
allowed v o s family e = (has_family v family && eqb (length e.payload) (record_size family v)) && orderly v o s family (said_by e)

-- the slots whose Post is still to come after an event
unfoldable pub due_after : Family → List ℕ → ℕ → List ℕ
due_after FrameStart ks k = ks
due_after Pre ks k = ks ++ (k ∷ [])
due_after FodPlatform ks k = ks
due_after DreamlandWhispy ks k = ks
due_after StadiumTransformation ks k = ks
due_after Item ks k = ks
due_after Post [] k = []
due_after Post (j ∷ js) k = js
due_after FrameEnd ks k = ks

abbrev pub after : State → Family → Said → State
after s family w = state (rank_of family) w.id (due_after family s.due (slot_said w))

unfoldable pub on_family : {A : Type 0} → Option Family → (Family → A) → A → A
on_family none f other = other
on_family (some family) f other = f family

-- the events after the frames, where all before them is in order
unfoldable pub rest : Version → Order → State → List Ev → Option (List Ev)
rest v o s [] = cond (closed v s) (some []) none
rest v o s (e ∷ es) =
    on_family (family_of e.code) (λ family. cond (allowed v o s family e) (rest v o (after s family (said_by e)) es) none)
    (cond (closed v s) (some (e ∷ es)) none)
