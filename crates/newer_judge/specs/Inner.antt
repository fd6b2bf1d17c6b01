-- What functions promise each other of a newer recorder's file: where its parts stand, and which of their events are known.
-- Assumes nothing.
use Rattle.std.specs.Prelude.{ℕ, ◌+◌, ◌*◌, ◌≤◌, ◌<◌, ◌≡◌, Bool, true, false, List, length, get_or}
use Rattle.wire.specs.Wire.{part}
use Rattle.format.specs.File.{Ev}
use Rattle.format.specs.Version.{accepted_of}
use Rattle.format.specs.declared.version.Version.{Version}
use Rattle.start.specs.Length.{length_of}
use Rattle.head.specs.Table.{table_of, span_of, first_place, stop_of}
use Rattle.grammar.specs.Productions.{Replay, codes_events, events_of_frames, used_in}
use Rattle.known.specs.Known.{is_newer, known_of}
use Rattle.read_judge.specs.Found.{version_of, early_refusal, refusal_offset, Found, too_big}
use Rattle.read_judge.specs.Inner.{Covers, Tallied, EndAt, Headed, Accepts}
use Rattle.read_judge.specs.declared.parts.Parts.{Parts}
use Rattle.read_judge.specs.declared.parts.Judged.{Judged}
use Rattle.read_judge.specs.declared.parts.Judged.TheVariants as judged
use Rattle.read_judge.specs.declared.Verdict.{Verdict}
use Rattle.read_judge.specs.declared.Verdict.TheVariants as verdict
use Rattle.newer_judge.specs.Opening.{opening_refusal}

-- spans are by code, as the table says
pub record Indexed (f spans : List ℕ) : Type 0 where
  pub many : length spans ≡ 256
  pub index : (c : ℕ) → c < 256 → get_or spans c 0 ≡ span_of c (table_of f)

-- events stand from a place to another, of which these are known
pub record Standing (f : List ℕ) (v : Version) (first end : ℕ) (known : List Ev) : Type 0 where
  pub raw : List Ev
  pub covers : (spans : List ℕ) → Indexed f spans → Covers f spans first end raw
  pub known_are : known_of v raw ≡ known
  pub within : end ≤ length f

-- a file holds a replay, whose parts these are, whichever recorder wrote it
pub record Shown (f : List ℕ) (first : ℕ) (p : Parts) : Type 0 where
  pub found : Found f
  pub version_is : p.version ≡ version_of f
  pub block_len : p.block_len ≡ length found.replay.block
  pub block_fits : length_of (version_of f) ≤ p.block_len
  pub block_in : first + 1 + p.block_len ≤ length f
  pub block_is : part f (first + 1) p.block_len ≡ found.replay.block
  pub blocks_are : p.blocks ≡ length found.replay.codes
  pub actual_is : p.actual ≡ used_in found.replay.codes
  pub tallied : Tallied (version_of f) found.replay.frames p.tally
  pub ends_are : p.ends ≡ length found.replay.ends
  pub end_is : EndAt f (version_of f) (p.ends_at + 1) found.replay.ends

-- and of a newer one's where the events of its codes and frames stand
pub record Known (f : List ℕ) (first : ℕ) (p : Parts) : Type 0 where
  pub shown : Shown f first p
  pub codes_stand : Standing f (version_of f) p.codes_at p.frames_at (codes_events shown.found.replay.codes)
  pub frames_stand : Standing f (version_of f) p.frames_at p.ends_at (events_of_frames (version_of f) shown.found.replay.frames)

-- ---- the whole judgement

-- by which road its stores are filled: as up to 3.18.0, or by the events that are known
pub data Road (f : List ℕ) (first stop : ℕ) (p : Parts) (r : Replay) : Type 0 where
  plain : accepted_of (version_of f) ≡ true → (a : Accepts f first stop p) → a.holds.found.replay ≡ r → Road f first stop p r
  newer : early_refusal f ≡ 1 → is_newer (version_of f) ≡ true → Standing f (version_of f) p.codes_at p.frames_at (codes_events r.codes)
      → Standing f (version_of f) p.frames_at p.ends_at (events_of_frames (version_of f) r.frames) → Road f first stop p r

-- a file is not refused, and these are its parts
pub record Shows (f : List ℕ) (first stop : ℕ) (p : Parts) : Type 0 where
  pub opening : opening_refusal f ≡ 0
  pub shown : Shown f first p
  pub small : too_big (version_of f) shown.found.replay ≡ false
  pub first_is : first ≡ first_place (table_of f)
  pub stop_is : stop ≡ stop_of f
  pub within : stop ≤ length f
  pub road : Road f first stop p shown.found.replay

-- why it is refused, with which number and offset
pub data Declines (f : List ℕ) (number offset : ℕ) : Type 0 where
  early : (opening_refusal f ≡ 0 → ⊥) → number ≡ opening_refusal f → offset ≡ refusal_offset f → Declines f number offset
  none : opening_refusal f ≡ 0 → (Found f → ⊥) → number ≡ 19 → offset ≡ 0 → Declines f number offset
  big : opening_refusal f ≡ 0 → (x : Found f) → too_big (version_of f) x.replay ≡ true → number ≡ 2 → offset ≡ 0 → Declines f number offset

abbrev pub Tells : List ℕ → Verdict → Type 0
Tells f (verdict.Refused number offset) = Declines f number offset
Tells f (verdict.Held first stop parts) = Shows f first stop parts

-- a newer file, refused with 1 there, of which the head is known
pub record Newly (f spans : List ℕ) (first stop : ℕ) (whole : Bool) : Type 0 where
  pub refused : early_refusal f ≡ 1
  pub headed : Headed f spans first stop whole

-- its parts hold, or it holds no replay
abbrev pub JudgesNewer : List ℕ → ℕ → Judged → Type 0
JudgesNewer f first (judged.Held p) = Known f first p
JudgesNewer f first judged.Wrong = Found f → ⊥

-- it holds a replay, whose counts are to be judged
pub record CountedNewer (f : List ℕ) (first stop : ℕ) (p : Parts) : Type 0 where
  pub opening : opening_refusal f ≡ 0
  pub refused : early_refusal f ≡ 1
  pub newer : is_newer (version_of f) ≡ true
  pub known : Known f first p
  pub codes_in : 512 * p.blocks ≤ length f
  pub first_is : first ≡ first_place (table_of f)
  pub stop_is : stop ≡ stop_of f
  pub within : stop ≤ length f
