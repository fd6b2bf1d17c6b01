-- A 3.18 replay made newer, with bytes added behind payloads and unknown events mixed in, reads to the same frames, codes, start and end.
-- Assumes nothing.
use Prim.Native.Nat.{ℕ, ◌+◌, ◌<◌}
use mathlib.Core.Path.{◌≡◌, refl, sym, ap, subst, ◌∙◌}
use mathlib.Core.Bool.{true}
use mathlib.Core.List.{List, ◌∷◌, ◌++◌, map, head-eq_of_cons-eq, tail-eq_of_cons-eq}
use native.Mathlib.Omega.{arith}
use lib.ListN.{length}
use lib.Seq.{take-length}
use Rattle.format.specs.File.{Ev}
use Rattle.format.specs.Refusal.{one_of}
use Rattle.format.specs.declared.version.Version.{Version}
use Rattle.grammar.specs.Productions.{Replay, start_event, codes_events, events_of_frames, end_event, events_of, codes_bytes}
use Rattle.grammar.specs.WellFormed.{ascending}
use Rattle.grammar.specs.Readable.{Readable}
use Rattle.grammar.specs.Machine.{family_of, on_family}
use Rattle.grammar.proofs.Unique.{unique}
use Rattle.measure.specs.Game.{kept}
use Rattle.known.specs.Known.{is_newer, is_known, known_size, known_of, taken}
use Rattle.known.proofs.Newest.{taken_newer}
use Rattle.known.proofs.Codes.{known_one}
use Rattle.law_known.specs.Made.{last, Extended, made_block, Made, made_replay, SaysAgain}
use Rattle.law_known.proofs.Exact.{others_exact, extended_known}
use Rattle.law_known.proofs.Good.{last_length, made_well, made_readable}
use Rattle.law_known.proofs.Same.{frames_same, frames_read_lem, stores_same, ends_same}
use Rattle.law_known.proofs.Start.{start_same}

-- the events after GameStart
abbrev others : Version → Replay → List Ev
others v r = codes_events r.codes ++ (events_of_frames v r.frames ++ map end_event r.ends)

-- a start is taken whole
pub start_taken : (v : Version) (block : List ℕ) (es : List Ev) → known_of v (start_event block ∷ es) ≡ start_event block ∷ known_of v es
unfolding is_known one_of known_size on_family family_of
start_taken v block es = known_one v (start_event block) es refl ∙ (λ i. start_event (take-length block i) ∷ known_of v es)

module _ (v : Version) (newer : is_newer v ≡ true) (more : List ℕ) (r : Replay) (readable : Readable last r) (fits : length r.block + length more < 65536) where
  -- the frames of the version are those of 3.18.0
  others_same : others v r ≡ others last r
  others_same = ap (λ (es : List Ev). codes_events r.codes ++ (es ++ map end_event r.ends)) (frames_same v newer r.frames)

  module _ (es ns : List Ev) (events : es ≡ events_of last r) (m : Made v more es ns) where
    block_is : m.block ≡ r.block
    unfolding events_of
    block_is = ap (λ (e : Ev). e.payload) (head-eq_of_cons-eq (sym m.from ∙ events))

    before_is : m.before ≡ others v r
    unfolding events_of
    before_is = tail-eq_of_cons-eq (sym m.from ∙ events) ∙ sym others_same

    after_known : known_of v m.after ≡ others v r
    after_known = extended_known v (subst (λ (b : List Ev). Extended b m.after) before_is m.extended) (others_exact v ascending r' (made_well v newer ascending more r fits readable.well))
      where
        r' : Replay
        r' = made_replay v more r

    -- what is taken is the replay's events
    pub made_taken : taken v ns ≡ events_of v (made_replay v more r)
    unfolding events_of
    made_taken =
        taken_newer v newer ns
        ∙ ap (known_of v) m.to
        ∙ start_taken v (made_block v m.block more) m.after
        ∙ (λ i. start_event (made_block v (block_is i) more) ∷ after_known i)

    -- which can be read back, and is the only one
    pub made_replay_lem : Readable v (made_replay v more r)
    made_replay_lem = made_readable v newer more r fits readable

    pub made_only : (s : Replay) → Readable v s → taken v ns ≡ events_of v s → s ≡ made_replay v more r
    made_only s well e = unique v ascending ascending s (made_replay v more r) well.well made_replay_lem.well (sym e ∙ made_taken)

    says : SaysAgain v r (made_replay v more r)
    says =
        record {
          frames = frames_read_lem v newer r.frames;
          stores = λ i. kept (stores_same v newer r.frames i) (codes_bytes r.codes);
          start = start_same v newer r.block more (omega (arith, last_length, readable.well.block));
          end = ends_same v newer r.ends;
          double = refl;
          used = refl;
        }

    -- whatever replay is read, it says again what the 3.18 one says
    pub made_says : (s : Replay) → Readable v s → taken v ns ≡ events_of v s → SaysAgain v r s
    made_says s well e = subst (SaysAgain v r) (sym (made_only s well e)) says
