-- What functions promise each other: how far the events of a file are a replay's, over its bytes, in the order in which code goes.
-- Assumes nothing.
use Rattle.std.specs.Prelude.{ℕ, zero, suc, ◌+◌, ◌*◌, ◌≤◌, ◌≡◌, Bool, true, false, cond, ◌&&◌, List, ltb, leb, eqb, length, get_or}
use Rattle.format.specs.declared.version.Version.{Version}
use Rattle.layout.specs.Payloads.{end_size}
use Rattle.grammar.specs.WellFormed.{ascending}
use Rattle.grammar.specs.Machine.{family_of, State, initial, closed, after, on_family}
use Rattle.read_order.specs.Inner.{closed_at}
use Rattle.read_order.specs.declared.stage.Stage.{Stage}
use Rattle.read_scan.specs.Counts.{no_tally, counted_of}
use Rattle.read_scan.specs.Inner.{said_at, span_at, takes}
use Rattle.read_scan.specs.declared.tally.Tally.{Tally}
use Rattle.read_outline.specs.Inner.{codes_at, ends_at}
use Rattle.read_outline.specs.Listed.{listed_right}
use Rattle.read_outline.specs.declared.answer.Codes.{Codes}
use Rattle.read_outline.specs.declared.answer.Codes.TheVariants as codes
use Rattle.read_outline.specs.declared.answer.Ends.{Ends}
use Rattle.read_outline.specs.declared.answer.Ends.TheVariants as ends
use Rattle.read_judge.specs.Inner.{changes}
use Rattle.repair_scan.specs.declared.pass.Reached.{Reached}

-- ---- where a replay may end

-- event data that ends at a place has a length of four bytes
unfoldable pub short : ℕ → Bool
short at = ltb at 4294967311

-- no count is over its maximum
unfoldable pub few : Tally → Bool
few t =
    leb t.frames 1048576
    && (leb t.items 4194304 && (leb t.fods 1048576 && (leb t.whispys 1048576 && leb t.stadiums 1048576)))

-- neighbouring ids differ where they must
unfoldable pub tally_fits : Version → Tally → ℕ → Bool
tally_fits v t at = changes v t && (few t && short at)

-- no frame is open, and what was counted may be
unfoldable pub rests : Version → State → Tally → ℕ → Bool
rests v s t at = closed v s && tally_fits v t at

unfoldable pub rests_at : Version → Stage → Tally → ℕ → Bool
rests_at v m t at = closed_at v m && tally_fits v t at

unfoldable pub is_good : Ends → Bool
is_good (ends.Good count) = true
is_good ends.Wrong = false

-- the start alone may be one
unfoldable pub start_only : Version → List ℕ → ℕ → ℕ
start_only v spans at = cond (listed_right v (get_or spans 0x3D 0) 0 0 && short at) at 0

-- ---- the frames

abbrev pub reach : ℕ → ℕ → Reached
reach at best = record { at = at; best = best }

module _ (v : Version) (file spans : List ℕ) (stop : ℕ) where
  -- where the frames stop that begin at a place, in n events at most, and the last place before it where a replay may end
  unfoldable pub reached : ℕ → ℕ → State → Tally → ℕ → Reached
  reached zero at s t best = reach at best
  reached (suc n) at s t best =
      let now = cond (rests v s t at) at best in
      cond (leb stop at) (reach at now)
      (on_family (family_of (get_or file at 0))
      (λ family. cond (takes v ascending file spans stop s at family) (reached n (at + span_at spans file at) (after s family (said_at file at)) (counted_of t s.rank s.id family (said_at file at)) now) (reach at now))
      (reach at now))

  -- ---- the ends

  -- ends fill what stands from a place to another
  unfoldable pub ends_to : ℕ → ℕ → Bool
  ends_to at to = leb to stop && (short to && is_good (ends_at v file spans at to))

  -- two ends, or one, or none
  unfoldable pub ends_from : ℕ → ℕ
  ends_from at =
      let n = 1 + end_size v in
      cond (ends_to at (at + n + n)) (at + n + n) (cond (ends_to at (at + n)) (at + n) at)

  -- the ends behind the frames, where a replay may end there
  unfoldable pub with_ends : Reached → ℕ
  with_ends r = cond (eqb r.at r.best) (ends_from r.at) r.best

  -- ---- after the start

  -- from codes on: 0 where they are wrong
  unfoldable pub from_codes : Codes → ℕ
  from_codes (codes.Ended place blocks actual) =
      cond (listed_right v (get_or spans 0x3D 0) blocks actual && leb blocks 32768) (with_ends (reached (suc stop) place initial no_tally 0)) 0
  from_codes codes.Wrong = 0

  -- the end of the longest replay whose start block ends at a place, or 0
  unfoldable pub kept_from : ℕ → ℕ
  kept_from at = let p = from_codes (codes_at v file spans at stop) in cond (eqb p 0) (start_only v spans at) p
