-- What functions promise each other.
-- Assumes nothing.
use Rattle.std.specs.Prelude.{ℕ, suc, ◌+◌, ◌*◌, ◌-◌, ◌≤◌, ◌<◌, ◌≡◌, Bool, true, false, cond, ◌&&◌, ◌||◌, List, [], ◌∷◌, ◌++◌, eqb, leb, ltb, length, get_or, drop}
use Rattle.wire.specs.Wire.{part, ranged}
use Rattle.format.specs.Event.{code_of}
use Rattle.format.specs.File.{Ev, events_bytes}
use Rattle.format.specs.Version.{version, accepted_of}
use Rattle.format.specs.declared.event.Event.TheVariants.{GameStart, GeckoCodes}
use Rattle.format.specs.declared.version.Version.{Version}
use Rattle.layout.specs.Columns.{has_family}
use Rattle.layout.specs.Payloads.{end_size}
use Rattle.layout.specs.declared.columns.Family.TheVariants.{FrameStart}
use Rattle.game.specs.Frames.{is_marked}
use Rattle.start.specs.Length.{length_of}
use Rattle.read_start.specs.Start.{seats_fit}
use Rattle.head.specs.Table.{table_of, first_place, stop_of, span_of, all_present, head_refusal}
use Rattle.de.specs.Cut.{events_read}
use Rattle.grammar.specs.Productions.{Frame, start_event, events_of_frames, used_in, codes_bytes}
use Rattle.grammar.specs.WellFormed.{Each, ascending, GoodFrame}
use Rattle.grammar.specs.Readable.{Changing}
use Rattle.columns.specs.Columns.{frames_read, ever_in}
use Rattle.read_scan.specs.declared.tally.Tally.{Tally}
use Rattle.read_judge.specs.Found.{version_of, early_refusal, refusal_offset, Found, too_big}
use Rattle.read_judge.specs.declared.first.First.{First}
use Rattle.read_judge.specs.declared.first.First.TheVariants.{Opens, Other}
use Rattle.read_judge.specs.declared.parts.Parts.{Parts}
use Rattle.read_judge.specs.declared.parts.Judged.TheVariants.{Held}
use Rattle.read_judge.specs.declared.Verdict.{Verdict}
use Rattle.read_judge.specs.declared.Verdict.TheVariants as verdict
use Rattle.de.specs.Walk.{walk_of}
use Rattle.de.specs.Numbers.{walk_numbers}
use Rattle.game.specs.declared.frames.Counts.{Counts}
use Rattle.read_judge.specs.declared.parts.Judged.{Judged}
use Rattle.read_judge.specs.declared.parts.Judged.TheVariants as judged
use Rattle.read_judge.specs.declared.Verdict.TheVariants.{Refused}

-- ---- bytes

-- each element is a byte, as in every lent file
abbrev pub Bytes : List ℕ → Type 0
Bytes f = (i : ℕ) → get_or f i 0 < 256

-- ---- the first event

-- a GameStart of at least four bytes, whole before stop
unfoldable pub opens_at : List ℕ → List ℕ → ℕ → ℕ → Bool
opens_at f spans first stop =
    let span = get_or spans (code_of GameStart) 0 in
    ltb first stop && (eqb (get_or f first 0) (code_of GameStart) && (leb 5 span && leb (first + span) stop))

unfoldable pub first_at : List ℕ → List ℕ → ℕ → ℕ → First
first_at f spans first stop =
    cond (opens_at f spans first stop) (Opens (version (get_or f (first + 1) 0) (get_or f (first + 2) 0) (get_or f (first + 3) 0)) (get_or spans (code_of GameStart) 0 - 1)) Other

-- ---- the events from a place on

-- the bytes of f from a place to stop are those of these events, each as long as its span, of bytes
pub record Covers (f spans : List ℕ) (place stop : ℕ) (es : List Ev) : Type 0 where
  pub bytes_are : drop place f ≡ events_bytes es ++ drop stop f
  pub long : stop ≡ place + length (events_bytes es)
  pub spanned : Each (λ e. get_or spans e.code 0 ≡ suc (length e.payload)) es
  pub bytes : Each (λ e. Each (λ b. b < 256) e.payload) es

-- a whole file whose first event is a GameStart
pub record Ready (f spans : List ℕ) (v : Version) (first stop len : ℕ) : Type 0 where
  pub block : List ℕ
  pub others : List Ev
  pub covers : Covers f spans first stop (start_event block ∷ others)
  pub events_are : events_read f ≡ start_event block ∷ others
  pub len_is : len ≡ length block
  pub short : len < 65536
  pub version_is : v ≡ version_of f
  pub present : all_present f ≡ true
  pub stop_is : stop ≡ stop_of f
  pub within : stop ≤ length f
  pub many : length spans ≡ 256
  pub listed : get_or spans (code_of GeckoCodes) 0 ≡ span_of (code_of GeckoCodes) (table_of f)

unfoldable pub start_fits : Version → List ℕ → Bool
start_fits v block = leb (length_of v) (length block) && seats_fit block

unfoldable pub changes : Version → Tally → Bool
changes v t = has_family v FrameStart || t.changing

-- ---- the parts

-- frames stand from a place to another
pub record StandAt (f : List ℕ) (v : Version) (first end : ℕ) (fs : List Frame) : Type 0 where
  pub rest : List ℕ
  pub bytes_are : drop first f ≡ events_bytes (events_of_frames v fs) ++ rest
  pub end_is : end ≡ first + length (events_bytes (events_of_frames v fs))
  pub good : Each (GoodFrame v ascending) fs
  pub changing : has_family v FrameStart ≡ false → Changing fs

-- what was counted of them
pub record Tallied (v : Version) (fs : List Frame) (t : Tally) : Type 0 where
  pub frames : t.frames ≡ (frames_read v fs).counts.frames
  pub items : t.items ≡ (frames_read v fs).counts.items
  pub fods : t.fods ≡ (frames_read v fs).counts.fods
  pub whispys : t.whispys ≡ (frames_read v fs).counts.whispys
  pub stadiums : t.stadiums ≡ (frames_read v fs).counts.stadiums
  pub slots : (k : ℕ) → k < 8 → is_marked t.slots k ≡ ever_in k fs

-- the payload of the first end stands at a place, where there is one
abbrev pub EndAt : List ℕ → Version → ℕ → List (List ℕ) → Type 0
EndAt f v at [] = Unit {0}
EndAt f v at (bytes ∷ ends) = (at + end_size v ≤ length f) × (part f at (end_size v) ≡ bytes)

-- a file holds a replay, whose parts these are
pub record Holds (f : List ℕ) (first stop : ℕ) (p : Parts) : Type 0 where
  pub found : Found f
  pub version_is : p.version ≡ version_of f
  pub block_len : p.block_len ≡ length found.replay.block
  pub block_fits : length_of (version_of f) ≤ p.block_len
  pub block_in : first + 1 + p.block_len ≤ length f
  pub block_is : part f (first + 1) p.block_len ≡ found.replay.block
  pub blocks_are : p.blocks ≡ length found.replay.codes
  pub actual_is : p.actual ≡ used_in found.replay.codes
  pub codes_in : p.codes_at + 517 * p.blocks ≤ length f
  pub codes_are : ranged (λ b. part f (p.codes_at + 517 * b + 1) 512) 0 p.blocks ≡ codes_bytes found.replay.codes
  pub frames_stand : StandAt f (version_of f) p.frames_at p.ends_at found.replay.frames
  pub tallied : Tallied (version_of f) found.replay.frames p.tally
  pub ends_are : p.ends ≡ length found.replay.ends
  pub end_is : EndAt f (version_of f) (p.ends_at + 1) found.replay.ends

-- ---- the whole judgement

-- it holds a replay, whose counts are to be judged
pub record Counted (f : List ℕ) (first stop : ℕ) (p : Parts) : Type 0 where
  pub early : early_refusal f ≡ 0
  pub holds : Holds f first stop p
  pub first_is : first ≡ first_place (table_of f)
  pub stop_is : stop ≡ stop_of f
  pub within : stop ≤ length f

-- why a file is refused, with which number and offset
pub data Refuses (f : List ℕ) (number offset : ℕ) : Type 0 where
  early : (early_refusal f ≡ 0 → ⊥) → number ≡ early_refusal f → offset ≡ refusal_offset f → Refuses f number offset
  none : early_refusal f ≡ 0 → (Found f → ⊥) → number ≡ 19 → offset ≡ 0 → Refuses f number offset
  big : early_refusal f ≡ 0 → (x : Found f) → too_big (version_of f) x.replay ≡ true → number ≡ 2 → offset ≡ 0 → Refuses f number offset

-- it is not, and these are its parts
pub record Accepts (f : List ℕ) (first stop : ℕ) (p : Parts) : Type 0 where
  pub early : early_refusal f ≡ 0
  pub holds : Holds f first stop p
  pub small : too_big (version_of f) holds.found.replay ≡ false
  pub first_is : first ≡ first_place (table_of f)
  pub stop_is : stop ≡ stop_of f
  pub within : stop ≤ length f

abbrev pub Verdicts : List ℕ → Verdict → Type 0
Verdicts f (verdict.Refused number offset) = Refuses f number offset
Verdicts f (verdict.Held first stop parts) = Accepts f first stop parts

abbrev pub refused_as : ℕ → Verdict
refused_as number = Refused number 0

abbrev pub counts_by : Tally → Counts
counts_by t = record { frames = t.frames; items = t.items; fods = t.fods; whispys = t.whispys; stadiums = t.stadiums }

-- ---- what is known of a file before it is walked, if it ever is

-- its walk is not refused
abbrev pub WalkDone : List ℕ → Type 0
WalkDone f = (walk_numbers (walk_of f)).kind ≡ 0

-- its head is accepted: where its events start, where the data ends, whole or not
pub record Headed (f spans : List ℕ) (first stop : ℕ) (whole : Bool) : Type 0 where
  pub accepted : head_refusal f ≡ 0
  pub bytes : Bytes f
  pub many : length spans ≡ 256
  pub index : (c : ℕ) → c < 256 → get_or spans c 0 ≡ span_of c (table_of f)
  pub first_is : first ≡ first_place (table_of f)
  pub stop_is : stop ≡ stop_of f
  pub whole_is : whole ≡ all_present f
  pub starts : first ≤ stop
  pub within : stop ≤ length f

-- it is whole, and its first event is a GameStart of an accepted version
pub record Started (f spans : List ℕ) (v : Version) (first stop len : ℕ) : Type 0 where
  pub headed : Headed f spans first stop true
  pub opens : first_at f spans first stop ≡ Opens v len
  pub new_enough : accepted_of v ≡ true

-- its parts hold, and then its walk is not refused; or it holds no replay, unless its walk is refused
abbrev pub JudgesFirst : List ℕ → ℕ → ℕ → Judged → Type 0
JudgesFirst f first stop (judged.Held p) = WalkDone f × Holds f first stop p
JudgesFirst f first stop judged.Wrong = WalkDone f → Found f → ⊥
