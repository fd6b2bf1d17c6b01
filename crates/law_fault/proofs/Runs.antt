-- The machine takes every event of a replay that can be read back.
-- Assumes nothing.
use Prim.Native.Nat.{ℕ, ◌+◌, ◌*◌, ◌%◌, ◌≤◌, ◌<◌}
use mathlib.Core.Path.{◌≡◌, refl, sym, ap, ◌∙◌}
use mathlib.Core.Bool.{Bool, true, false, cond, ◌||◌}
use mathlib.Core.List.{List, [], ◌∷◌, ◌++◌, map}
use mathlib.Core.Option.{some}
use native.Mathlib.Omega.{arith}
use borrow.Author.Tests.{lt-ltb, le-leb, eq-eqb, ne_eqb}
use lib.Dec.{eqb}
use lib.ListN.{length}
use Rattle.format.specs.File.{Ev}
use Rattle.format.specs.Version.{has_codes}
use Rattle.format.specs.declared.version.Version.{Version}
use Rattle.layout.specs.Columns.{has_family}
use Rattle.layout.specs.declared.columns.Family.TheVariants.{FrameStart}
use Rattle.grammar.specs.Productions.{Block, Replay, block_event, codes_events, events_of_frames, end_event, used_in}
use Rattle.grammar.specs.WellFormed.{GoodCodes, ascending}
use Rattle.grammar.specs.Readable.{Readable}
use Rattle.grammar.specs.Machine.{family_of, initial}
use Rattle.grammar.specs.Whole.{flag_in, used_by, is_last, is_full}
use Rattle.grammar.proofs.Lists.{Not}
use Rattle.grammar.proofs.Unique.{no_block}
use Rattle.grammar.proofs.Takes.{NoFrame, closed_last, complete}
use Rattle.grammar.proofs.Blocks.{block_used, block_flag, block_taken}
use Rattle.read_scan.specs.Counts.{no_tally, tally_of}
use Rattle.read_scan.proofs.Told.{told_by_lem}
use Rattle.read_outline.specs.Listed.{listed_right}
use Rattle.read_judge.specs.Inner.{changes}
use Rattle.fault_reason.specs.Reason.{good_block}
use Rattle.fault_reason.specs.Fault.{coding, framing, takes_block, after_block, stands_next}
use Rattle.law_fault.proofs.Rows.{takes_all, no_way, frames_taken, ends_taken}

-- ---- blocks of codes

codes_had : (v : Version) (b : Block) (bs : List Block) → GoodCodes v (b ∷ bs) → has_codes v ≡ true
unfolding GoodCodes
codes_had v b [] h = h.0
codes_had v b (c ∷ bs) h = codes_had v c bs h.2

listed_there : (v : Version) (span n used : ℕ) → has_codes v ≡ true → 0 < n → listed_right v span n used ≡ true → eqb span 0 ≡ false
unfolding listed_right
listed_there v span n used h m q = go (eqb span 0) (rw h at q)
  where
    go : (b : Bool) → cond b (eqb n 0) (eqb span (1 + used % 65536)) ≡ true → b ≡ false
    go true q = no_way (sym (ne_eqb n 0 (λ e. omega arith)) ∙ q)
    go false q = refl

module _ (v : Version) (span : ℕ) (has : has_codes v ≡ true) (there : eqb span 0 ≡ false) where
  full_next : (n : ℕ) (b : Block) → length b.bytes ≡ 512 → b.used ≡ 512 → stands_next v span (coding n) (block_event 0 b) ≡ some (coding (n + 1))
  unfolding stands_next after_block takes_block good_block is_full
  full_next n b size full =
      let few : b.used ≤ 512 = omega arith in
      let f = block_flag 0 b size few in
      rw (
        has,
        there,
        block_taken 0 b size few,
        ne_eqb (flag_in (block_event 0 b)) 1 (λ e. omega arith),
        eq-eqb (flag_in (block_event 0 b)) 0 f,
        eq-eqb (used_by (block_event 0 b)) 512 (block_used 0 b size few ∙ full),
      )

  last_next : (n : ℕ) (b : Block) → length b.bytes ≡ 512 → 0 < b.used → b.used ≤ 512 → listed_right v span (n + 1) (512 * n + b.used) ≡ true
      → stands_next v span (coding n) (block_event 1 b) ≡ some (framing initial no_tally)
  unfolding stands_next after_block takes_block good_block is_last
  last_next n b size some_used few l =
      let u = block_used 1 b size few in
      let right : listed_right v span (n + 1) (512 * n + used_by (block_event 1 b)) ≡ true = ap (λ (k : ℕ). listed_right v span (n + 1) (512 * n + k)) u ∙ l in
      rw (
        has,
        there,
        block_taken 1 b size few,
        eq-eqb (flag_in (block_event 1 b)) 1 (block_flag 1 b size few),
        lt-ltb 0 (used_by (block_event 1 b)) (omega arith),
        le-leb (used_by (block_event 1 b)) 512 (omega arith),
        right,
      )

  blocks_taken : (t : List Ev) (b : Block) (bs : List Block) (n : ℕ) → GoodCodes v (b ∷ bs) → listed_right v span (n + length (b ∷ bs)) (512 * n + used_in (b ∷ bs)) ≡ true
      → takes_all v span (coding n) (codes_events (b ∷ bs) ++ t) ≡ takes_all v span (framing initial no_tally) t
  unfolding takes_all codes_events GoodCodes used_in
  blocks_taken t b [] n h l =
      let u : 512 * n + b.used ≡ 512 * n + (b.used + 0) = omega arith in
      rw (last_next n b h.1 h.2 h.3 (ap (λ (k : ℕ). listed_right v span (n + 1) k) u ∙ l))
  blocks_taken t b (c ∷ bs) n h l =
      let p : n + 1 + length (c ∷ bs) ≡ n + length (b ∷ c ∷ bs) = omega arith in
      let u : 512 * (n + 1) + used_in (c ∷ bs) ≡ 512 * n + (b.used + used_in (c ∷ bs)) = omega (arith, h.1) in
      rw (full_next n b h.0 h.1) (blocks_taken t c bs (n + 1) h.2 ((λ i. listed_right v span (p i) (u i)) ∙ l))

-- where there are none, as after them
no_codes : (v : Version) (span : ℕ) (es : List Ev) → Not 0x10 es → listed_right v span 0 0 ≡ true → takes_all v span (coding 0) es ≡ takes_all v span (framing initial no_tally) es
unfolding takes_all stands_next
no_codes v span [] n l = refl
no_codes v span (e ∷ es) n l = rw (ne_eqb e.code 0x10 n, l)

-- ---- the whole

no_frame_lem : (ends : List (List ℕ)) → NoFrame (map end_event ends)
unfolding family_of
no_frame_lem [] = tt
no_frame_lem (a ∷ ends) = refl

module _ (v : Version) (span : ℕ) (r : Replay) (h : Readable v r) where
  abbrev ends : List Ev
  ends = map end_event r.ends

  abbrev others : List Ev
  others = events_of_frames v r.frames ++ ends

  ids_change : changes v (tally_of 8 0 no_tally others) ≡ true
  unfolding changes
  ids_change = go (has_family v FrameStart) refl
    where
      go : (b : Bool) → has_family v FrameStart ≡ b → (b || (tally_of 8 0 no_tally others).changing) ≡ true
      go true e = refl
      go false e = (told_by_lem v ascending r.frames h.well.frames ends (no_frame_lem r.ends)).changing.1 (h.changing e)

  others_taken : takes_all v span (framing initial no_tally) others ≡ true
  others_taken =
      frames_taken v span ends (λ s y c. ends_taken v span s y c r.ends h.well.few h.well.ends h.alike h.initiators) others initial no_tally
      (complete v ascending ends (no_frame_lem r.ends) r.frames h.well.frames initial (closed_last v 0)) ids_change

  -- all events behind the start
  pub replay_taken : listed_right v span (length r.codes) (used_in r.codes) ≡ true → takes_all v span (coding 0) (codes_events r.codes ++ others) ≡ true
  unfolding codes_events used_in
  replay_taken = go r.codes h.well.codes
    where
      go : (bs : List Block) → GoodCodes v bs → listed_right v span (length bs) (used_in bs) ≡ true → takes_all v span (coding 0) (codes_events bs ++ others) ≡ true
      go [] g l = no_codes v span others (no_block v ascending r.ends r.frames h.well.frames) l ∙ others_taken
      go (b ∷ bs) g l =
          let has = codes_had v b bs g in
          let there = listed_there v span (length (b ∷ bs)) (used_in (b ∷ bs)) has (omega arith) l in
          let p : 0 + length (b ∷ bs) ≡ length (b ∷ bs) = omega arith in
          let u : 512 * 0 + used_in (b ∷ bs) ≡ used_in (b ∷ bs) = omega arith in
          blocks_taken v span has there others b bs 0 g ((λ i. listed_right v span (p i) (u i)) ∙ l) ∙ others_taken
