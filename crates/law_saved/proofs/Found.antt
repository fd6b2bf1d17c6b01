-- The file of every admitted game is taken by `read`, which finds in it the replay of that game.
-- Assumes nothing.
use Prim.Native.Nat.{ℕ, ◌+◌, ◌%◌, ◌≤◌, ◌<◌}
use mathlib.Core.Path.{◌≡◌, refl, sym, ap, subst, ◌∙◌}
use mathlib.Core.Bool.{Bool, true, false, not, cond}
use mathlib.Core.List.{List, [], ◌∷◌}
use native.Mathlib.Omega.{arith}
use borrow.Author.Tests.{le-ltb}
use lib.Dec.{eqb}
use lib.ListN.{length, get_or, take}
use Rattle.wire.specs.Wire.{keep}
use Rattle.format.specs.Mark.{yes}
use Rattle.format.specs.Version.{version, accepted_of, gte_of}
use Rattle.format.specs.declared.version.Version.{Version}
use Rattle.format.proofs.Refusals.{skip, none, passed}
use Rattle.layout.specs.Columns.{has_family}
use Rattle.layout.specs.declared.columns.Family.TheVariants.{FrameStart}
use Rattle.game.specs.Stores.{Stores}
use Rattle.game.specs.declared.Game.{Game}
use Rattle.frames.specs.Judge.{refusals}
use Rattle.start.specs.Block.{start_block}
use Rattle.start.specs.Length.{length_of}
use Rattle.start.proofs.Lengths.{at_least}
use Rattle.start.proofs.Refusals.{block_fits}
use Rattle.start.proofs.Blocks.{length_start_block}
use Rattle.law_start.proofs.Back as back
use Rattle.codes.proofs.Laws.{right_codes}
use Rattle.ending.specs.Tail.{tail_of}
use Rattle.head.specs.Table.{all_present, table_of, span_of}
use Rattle.de.specs.Walk.{walk_of}
use Rattle.de.specs.Numbers.{walk_numbers}
use Rattle.de.specs.Cut.{events_read}
use Rattle.ser.specs.Write.{entries, events, file}
use Rattle.ser.proofs.Outcomes.{Passed}
use Rattle.ser.proofs.Sound.{fresh, length_fits}
use Rattle.ser.proofs.EveryCut.{uncut}
use Rattle.grammar.specs.Productions.{Replay, events_of, used_in, codes_bytes}
use Rattle.grammar.specs.WellFormed.{ascending, WellFormed}
use Rattle.grammar.specs.Readable.{Readable}
use Rattle.grammar.proofs.Unique.{unique}
use Rattle.law_tree.specs.Tree.{shows, blocks_of, replay_of}
use Rattle.law_tree.proofs.Same.{same}
use Rattle.law_tree.proofs.Good as good
use Rattle.law_tree.proofs.Files.{taken}
use Rattle.law_columns.proofs.Codes.{codes_returned}
use Rattle.law_columns.proofs.Returned.{Given, given_of, all_shown, returned_judged}
use Rattle.read_outline.specs.Listed.{listed_right}
use Rattle.read_judge.specs.Found.{opens_wrong, version_said, version_of, early_refusal, gecko_span, Found, too_big}
use Rattle.newer_judge.specs.Opening.{opening_refusal}
use Rattle.newer_judge.proofs.Opening.{opening_none}
use Rattle.law_saved.specs.Admitted.{Admitted}
use Rattle.read_judge.proofs.Accepted.{version_accepted, all_taken}
use Rattle.read_judge.proofs.Places as parts
use Rattle.law_saved.proofs.Limits.{somebody_shows, changing_frames}
use Rattle.law_saved.proofs.Listed.{span_is, listed_right_lem}

pub no_blocks : (given : Bool) (codes : List ℕ) (actual : ℕ) → given ≡ false → blocks_of given codes actual ≡ []
unfolding blocks_of keep
no_blocks given codes actual e = rw e

first_three : (b : List ℕ) (v : Version) → take 3 b ≡ v.major ∷ v.minor ∷ v.patch ∷ [] → 3 ≤ length b → version (get_or b 0 0) (get_or b 1 0) (get_or b 2 0) ≡ v
first_three [] v e h = absurd (omega arith)
first_three (x ∷ []) v e h = absurd (omega arith)
first_three (x ∷ y ∷ []) v e h = absurd (omega arith)
first_three (x ∷ y ∷ z ∷ b) v e h = ap (λ (l : List ℕ). version (get_or l 0 0) (get_or l 1 0) (get_or l 2 0)) e

module _ {g : Game} {s : Stores} (a : Admitted g s) where
  abbrev pub v : Version
  v = g.frames.version

  abbrev pub f : List ℕ
  f = file g s

  abbrev pub r : Replay
  r = replay_of g s

  -- ---- what the limits say

  pub took : good.Taken ascending g s
  took =
      let t = taken g s a.room a.accepted a.ids (record { major = a.major; minor = a.minor; patch = a.patch }) in
      record { passed = t.passed; end = t.end; order = a.order; ids = a.ids; bytes = t.bytes }

  pub p : Passed g s
  p = took.passed

  pub long : length_of v ≤ length s.template
  long = (block_fits v (length s.template) p.block).0

  pub shown : (i : ℕ) → i < g.frames.counts.frames → shows g.frames s.lent i ≡ true
  shown = go (has_family v FrameStart) refl
    where
      go : (b : Bool) → has_family v FrameStart ≡ b → (i : ℕ) → i < g.frames.counts.frames → shows g.frames s.lent i ≡ true
      go true e i l = all_shown g.frames s.lent e i l
      go false e i l = somebody_shows g.frames s.lent i (a.somebody e i l)

  pub given : Given g.frames s.lent
  given = given_of g s took shown

  pub since : yes g.codes_given ≡ true → gte_of v 3 3 ≡ true
  since e = (right_codes v (yes g.codes_given) s.codes g.actual_size p.coded e).0

  -- ---- the walk

  pub whole : all_present f ≡ true
  unfolding file
  whole = parts.whole (entries g s) (events g s) (tail_of (yes g.metadata_given) s.metadata) (fresh p) (length_fits p)

  pub table_is_lem : table_of f ≡ entries g s
  unfolding file
  table_is_lem = parts.table_is_lem (entries g s) (events g s) (tail_of (yes g.metadata_given) s.metadata) (fresh p) (length_fits p)

  -- it is not refused, all of the event data is there, and its events are the game's
  pub walked : ((walk_numbers (walk_of f)).kind ≡ 0) × (all_present f ≡ true) × (events_read f ≡ events g s)
  walked = (ap (λ w. (walk_numbers w).kind) (uncut p).1, whole, (uncut p).0)

  -- ---- the version

  block_long : 4 ≤ length (start_block v g.start s.template)
  block_long = omega (arith, length_start_block v g.start s.template, long, at_least v)

  said : version_said (events g s) ≡ v
  unfolding version_said events
  said =
      first_three (start_block v g.start s.template) v
      (good.version_first v g.start s.template took.bytes (omega (arith, long, at_least v))) (omega (arith, block_long))

  pub version_is : version_of f ≡ v
  version_is = ap version_said (uncut p).0 ∙ said

  opens : opens_wrong (events g s) ≡ false
  unfolding opens_wrong events
  opens = le-ltb (length (start_block v g.start s.template)) 4 block_long

  right_version : not (accepted_of (version_of f)) ≡ false
  right_version = rw (version_is, p.frames.version)

  pub not_early : early_refusal f ≡ 0
  unfolding early_refusal
  not_early =
      sym (skip _ _ _ _ (ap (λ (k : ℕ). eqb k 1) walked.0) (skip _ _ _ _ (ap opens_wrong (uncut p).0 ∙ opens) (skip _ _ _ _ right_version none)))

  pub not_refused : opening_refusal f ≡ 0
  not_refused = opening_none f not_early

  -- ---- the replay

  pub well : WellFormed v ascending r
  well = good.good ascending g s took

  pub gecko_is : gecko_span f ≡ cond (yes g.codes_given) (1 + g.actual_size % 65536) 0
  gecko_is = ap (span_of 0x3D) table_is_lem ∙ span_is v (length s.template) g.actual_size (yes g.codes_given) since

  pub codes_are : (codes_bytes r.codes ≡ keep (yes g.codes_given) s.codes) × (used_in r.codes ≡ cond (yes g.codes_given) g.actual_size 0)
  unfolding replay_of
  codes_are =
      let (bytes, used) = codes_returned v (yes g.codes_given) s.codes g.actual_size p.coded in
      (bytes, used)

  pub none_given : yes g.codes_given ≡ false → r.codes ≡ []
  unfolding replay_of
  none_given = no_blocks (yes g.codes_given) s.codes g.actual_size

  pub listed_as : listed_right (version_of f) (gecko_span f) (length r.codes) (used_in r.codes) ≡ true
  listed_as =
      rw (version_is, gecko_is)
      (listed_right_lem v (yes g.codes_given) g.actual_size (length r.codes) (used_in r.codes) since codes_are.1 (λ e. ap length (none_given e)))

  pub readable : Readable v r
  readable = good.readable g s took (λ e. changing_frames g.frames s.lent shown (a.changing e)) (back.types_written v g.start s.template a.start p.start long a.empty)

  abbrev pub found : Found f
  found = record {
    replay = r;
    whole = whole;
    events_are = all_taken f (version_accepted f not_early) r ((uncut p).0 ∙ same g s ∙ ap (λ w. events_of w r) (sym version_is));
    readable = subst (λ w. Readable w r) (sym version_is) readable;
    listed = listed_as;
  }

  -- it is the only one
  pub only : (x : Found f) → x.replay ≡ r
  only x =
      unique (version_of f) ascending ascending x.replay r x.readable.well found.readable.well (sym x.events_are ∙ found.events_are)

  -- ---- its counts

  few_codes : (b : Bool) (codes : List ℕ) → cond b (length codes) 0 ≤ 16777216 → length (keep b codes) ≤ 16777216
  unfolding keep
  few_codes true codes h = h
  few_codes false codes h = omega arith

  pub codes_few : length (codes_bytes r.codes) ≤ 16777216
  codes_few = omega (arith, few_codes (yes g.codes_given) s.codes p.codes_few, ap length codes_are.0)

  pub not_big : too_big v r ≡ false
  unfolding refusals replay_of
  not_big =
      let z = returned_judged g.frames s.lent given (length (codes_bytes r.codes)) 0 codes_few (omega arith) in
      (passed _ _ _ (passed _ _ _ z).1).0
