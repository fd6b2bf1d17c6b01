-- A newer recorder's file: version 3.19.0, with an event of an unknown code and an end that is one byte longer than 3.18's. It is read, and marked as read partly;
-- at 4.0.0 it is refused.
-- Assumes nothing.
use Prim.Native.Nat.{ℕ, zero, suc, ◌≤◌, ◌<◌}
use mathlib.Core.Path.{◌≡◌, refl, sym, ap, ap₂, ◌∙◌}
use mathlib.Core.Bool.{false}
use mathlib.Core.List.{List, [], ◌∷◌, ◌++◌}
use native.Mathlib.Omega.{arith}
use lib.Dec.{lit<, lit≤}
use lib.ListN.{replicate}
use Rattle.wire.specs.Wire.{ranged, keep}
use Rattle.format.specs.Refusal.{one_of}
use Rattle.format.specs.File.{Ev, file_of}
use Rattle.format.specs.Version.{version, above, gte_of, accepted_of}
use Rattle.format.specs.declared.version.Version.{Version}
use Rattle.layout.specs.Payloads.{end_size}
use Rattle.frames.specs.Judge.{too_many}
use Rattle.start.specs.Length.{reached, length_of}
use Rattle.ending.specs.End.{initiator_wrong}
use Rattle.grammar.specs.Productions.{Replay, start_event, end_event, codes_events, events_of_frames, events_of, used_in, codes_bytes}
use Rattle.grammar.specs.WellFormed.{Each, ascending, GoodCodes, WellFormed}
use Rattle.grammar.specs.Readable.{Changing, Alike, seat_type, Readable}
use Rattle.grammar.specs.Machine.{family_of, on_family}
use Rattle.columns.specs.Columns.{ever_in, port_columns, rows_there, frames_read}
use Rattle.known.specs.Known.{is_known, known_size, known_of}
use Rattle.read_outline.specs.Listed.{listed_right}
use Rattle.de.specs.Cut.{events_read}
use Rattle.read_judge.specs.Found.{version_said, version_of, refusal_offset, Found, too_big}
use Rattle.newer_judge.specs.Opening.{opening_refusal}
use Rattle.measure.specs.Read.{unmeasured, measured_in, MeasureOutcome, early}
use Rattle.measure.specs.Read as outcome
use Rattle.case_files.proofs.Files.{entry, brace, seated}
use Rattle.de.proofs.Opens.{opens_steps}
use Rattle.read_judge.proofs.Opens.{opens_early}

abbrev block : ℕ → ℕ → List ℕ
block major minor = seated major minor 0 3 ++ replicate 440 0

-- method 2, port 1 quit, and it is placed second
abbrev ending : List ℕ
ending = 2 ∷ 1 ∷ 0xff ∷ 1 ∷ 0xff ∷ 0xff ∷ []

abbrev events : ℕ → ℕ → List Ev
events major minor = start_event (block major minor) ∷ record { code = 0x42; payload = 9 ∷ [] } ∷ end_event (ending ++ (77 ∷ [])) ∷ []

abbrev file : ℕ → ℕ → List ℕ
file major minor = file_of (entry 0x36 760 ∷ entry 0x39 7 ∷ entry 0x42 1 ∷ []) (events major minor) brace

-- what is known of it
abbrev played : Replay
played = record { block = block 3 19; codes = []; frames = []; ends = ending ∷ [] }

not_refused : opening_refusal (file 3 19) ≡ 0
unfolding opens_early opening_refusal
not_refused = refl

version_said_lem : version_of (file 3 19) ≡ version 3 19 0
unfolding opens_steps events_read version_said
version_said_lem = refl

seats : (n : ℕ) → n < 4 → seat_type (block 3 19) n ≤ 3
seats zero h = lit≤ tt
seats (suc zero) h = lit≤ tt
seats (suc (suc zero)) h = lit≤ tt
seats (suc (suc (suc zero))) h = lit≤ tt
seats (suc (suc (suc (suc n)))) h = absurd (omega arith)

well : WellFormed (version 3 19 0) ascending played
unfolding Each GoodCodes length_of reached end_size gte_of above
well = record { version = refl; block = lit≤ tt; short = lit< tt; codes = tt; frames = tt; few = lit≤ tt; ends = (refl, tt) }

readable : Readable (version 3 19 0) played
unfolding Changing Alike Each initiator_wrong
readable = record { well = well; changing = λ e. tt; seats = seats; alike = tt; initiators = λ e. (refl, tt) }

unfoldable found : Found (file 3 19)
unfolding opens_early is_known known_size known_of family_of on_family one_of keep end_size gte_of codes_events events_of_frames events_of listed_right used_in
found = record { replay = played; whole = refl; events_are = refl; readable = readable; listed = refl }

small_enough : too_big (version 3 19 0) played ≡ false
unfolding too_many one_of frames_read rows_there port_columns ranged ever_in keep codes_bytes
small_enough = refl

measure_newer : MeasureOutcome (file 3 19) (measured_in (file 3 19) played)
unfolding found
measure_newer = outcome.found not_refused found (ap (λ (v : Version). too_big v played) version_said_lem ∙ small_enough) refl

partly : (measured_in (file 3 19) played).partly ≡ 1
unfolding opens_steps events_read version_said accepted_of above
partly = refl

-- ---- at 4.0.0

one : opening_refusal (file 4 0) ≡ 1
unfolding opens_early opening_refusal
one = refl

nowhere : refusal_offset (file 4 0) ≡ 0
unfolding opens_early
nowhere = refl

measure_too_new : MeasureOutcome (file 4 0) (unmeasured 1 0)
measure_too_new = early (λ e. let n = one in omega arith) (sym (ap₂ unmeasured one nowhere))
