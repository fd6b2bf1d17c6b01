-- What a pass counts besides the place: frames where they begin, rows, who was ever there, and whether neighbouring ids differ.
-- Assumes nothing.
use Rattle.std.specs.Prelude.{ℕ, ◌+◌, ◌-◌, ◌^◌, ◌≤◌, Bool, true, not, cond, ◌&&◌, ◌||◌, List, [], ◌∷◌, leb, eqb}
use Rattle.std.specs.Int.Bits.{bit_or}
use Rattle.format.specs.File.{Ev}
use Rattle.layout.specs.declared.columns.Family.{Family}
use Rattle.layout.specs.declared.columns.Family.TheVariants.{Pre, Post, FrameStart, Item, FrameEnd, FodPlatform, DreamlandWhispy, StadiumTransformation}
use Rattle.grammar.specs.Machine.{family_of, rank_of, Said, slot_said, id_in, said_by, on_family}
use Rattle.read_scan.specs.declared.tally.Tally.{Tally}

abbrev pub tally : (frames items fods whispys stadiums slots : ℕ) (changing : Bool) → Tally
tally frames items fods whispys stadiums slots changing = record {
  frames = frames;
  items = items;
  fods = fods;
  whispys = whispys;
  stadiums = stadiums;
  slots = slots;
  changing = changing;
}

abbrev pub no_tally : Tally
no_tally = tally 0 0 0 0 0 0 true

-- a frame of this id begins, after one of an old id; the first has none before it
abbrev pub begun_at : Tally → ℕ → ℕ → Tally
begun_at t old id = tally (t.frames + 1) t.items t.fods t.whispys t.stadiums t.slots (t.changing && (eqb t.frames 0 || not (eqb old id)))

-- slot k has a Pre
abbrev pub sat : Tally → ℕ → Tally
sat t k = tally t.frames t.items t.fods t.whispys t.stadiums (bit_or t.slots (2 ^ k)) t.changing

-- a row more
abbrev pub item_more : Tally → Tally
item_more t = tally t.frames (t.items + 1) t.fods t.whispys t.stadiums t.slots t.changing

abbrev pub fod_more : Tally → Tally
fod_more t = tally t.frames t.items (t.fods + 1) t.whispys t.stadiums t.slots t.changing

abbrev pub whispy_more : Tally → Tally
whispy_more t = tally t.frames t.items t.fods (t.whispys + 1) t.stadiums t.slots t.changing

abbrev pub stadium_more : Tally → Tally
stadium_more t = tally t.frames t.items t.fods t.whispys (t.stadiums + 1) t.slots t.changing

-- a Pre is of the frame whose last event has this rank and id; else it begins one
unfoldable pub of_frame : ℕ → ℕ → Said → Bool
of_frame rank id w = leb rank 2 && eqb id w.id

-- after an event, where the last one had this rank and id
unfoldable pub counted_of : Tally → ℕ → ℕ → Family → Said → Tally
counted_of t rank id FrameStart w = begun_at t id w.id
counted_of t rank id Pre w = sat (cond (of_frame rank id w) t (begun_at t id w.id)) (slot_said w)
counted_of t rank id FodPlatform w = fod_more t
counted_of t rank id DreamlandWhispy w = whispy_more t
counted_of t rank id StadiumTransformation w = stadium_more t
counted_of t rank id Item w = item_more t
counted_of t rank id Post w = t
counted_of t rank id FrameEnd w = t

-- after these events, up to the first that is none of a frame's
unfoldable pub tally_of : ℕ → ℕ → Tally → List Ev → Tally
tally_of rank id t [] = t
tally_of rank id t (e ∷ es) = on_family (family_of e.code) (λ family. tally_of (rank_of family) (id_in e) (counted_of t rank id family (said_by e)) es) t

-- no count is over n
pub record Under (t : Tally) (n : ℕ) : Type 0 where
  pub frames : t.frames ≤ n
  pub items : t.items ≤ n
  pub fods : t.fods ≤ n
  pub whispys : t.whispys ≤ n
  pub stadiums : t.stadiums ≤ n

-- one more may be counted
abbrev pub Room : Tally → Type 0
Room t = Under t (2 ^ 64 - 2)
