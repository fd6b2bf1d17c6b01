-- The pass: what was told of the events before a place, and what that says of all of them.
-- Assumes nothing.
use mathlib.Core.Path.{◌≡◌, refl, sym, ap, ap₂, subst, ◌∙◌}
use mathlib.Core.Bool.{Bool, true, false, cond}
use mathlib.Core.List.{List, [], ◌∷◌, ◌++◌, append_assoc, append-nil}
use mathlib.Core.Option.{none, some}
use Prim.Native.Nat.{ℕ, suc, ◌+◌, ◌≤◌, ◌<◌}
use native.Mathlib.Omega.{arith}
use lib.ListN.{length, get_or}
use Rattle.format.specs.File.{Ev, events_bytes}
use Rattle.format.specs.declared.version.Version.{Version}
use Rattle.layout.specs.declared.columns.Family.TheVariants.{FrameStart, FrameEnd}
use Rattle.grammar.specs.WellFormed.{ascending}
use Rattle.grammar.specs.Machine.{family_of, initial, State, closed, on_family, rest}
use Rattle.known.specs.Known.{is_newer, is_known, front, known_of}
use Rattle.known.proofs.Newest.{has_family_lem}
use Rattle.known.proofs.Codes.{known_one, unknown_one, known_both, known_family}
use Rattle.read_scan.specs.Counts.{no_tally, tally_of, Under}
use Rattle.read_scan.specs.Inner.{said_at, span_at}
use Rattle.read_scan.specs.declared.tally.Tally.{Tally}
use Rattle.read_scan.specs.declared.Ran.{Ran}
use Rattle.read_scan.specs.declared.Ran.TheVariants.{Ended, Wrong}
use Rattle.read_scan.proofs.Counting.{under_counted, under_to}
use Rattle.read_judge.specs.Inner.{Covers}
use Rattle.newer_events.specs.Some.{SomeCovers}
use Rattle.newer_events.proofs.Events.{First, first_event, next_covers, ends_before, code_stands, span_stands, length_both, length_next, same_covers, no_event}
use Rattle.newer_order.specs.Inner.{newest, state_of, Fair}
use Rattle.newer_order.specs.declared.stage.Stage.{Stage}
use Rattle.newer_order.proofs.Newest.{closed_newest}
use Rattle.newer_scan.specs.Frames.{Behind, FramesRan}
use Rattle.newer_scan.specs.Inner.{Gone, Fails, ended_at}
use Rattle.newer_scan.proofs.Tries.{goes_on, counts_on, fails_here}

-- the events before a place were told: the machine and the tally over all go on from the stage and the counts
pub record Going (v : Version) (file spans : List ℕ) (first stop : ℕ) (m : Stage) (t : Tally) (at : ℕ) : Type 0 where
  pub before : List Ev
  pub others : List Ev
  pub all : Covers file spans first stop (before ++ others)
  pub covers : Covers file spans at stop others
  pub at_is : at ≡ first + length (events_bytes before)
  pub fair : Fair m
  pub under : Under t at
  pub rests : (ys : List Ev) → rest v ascending initial (known_of v before ++ ys) ≡ rest v ascending (state_of m) ys
  pub tallies : (ys : List Ev) → tally_of 8 0 no_tally (known_of v before ++ ys) ≡ tally_of m.rank m.id t ys

module _ (v : Version) (newer : is_newer v ≡ true) (file spans : List ℕ) (first stop : ℕ) where
  -- ---- before all events

  pub going_first : SomeCovers file spans first stop → (m : Stage) → (state_of m ≡ initial) × Fair m → (t : Tally) → t ≡ no_tally → Going v file spans first stop m t first
  unfolding known_of events_bytes
  going_first x m (s, fair) t e = record {
    before = [];
    others = x.raw;
    all = x.covers;
    covers = x.covers;
    at_is = omega arith;
    fair = fair;
    under = subst (λ (u : Tally). Under u first) (sym e) (record { frames = omega arith; items = omega arith; fods = omega arith; whispys = omega arith; stadiums = omega arith });
    rests = λ ys. ap (λ (x : State). rest v ascending x ys) (sym s);
    tallies = λ ys. ap₂ (λ (x : State) (u : Tally). tally_of x.rank x.id u ys) (sym s) (sym e);
  }

  module _ (m : Stage) (t : Tally) (at : ℕ) (g : Going v file spans first stop m t at) where
    -- ---- where all events were told, or the next is known and none of a frame's

    told : (after : List Ev) → Covers file spans first stop (g.before ++ after) → Behind after
        → (rest v ascending (state_of m) (known_of v after) ≡ cond (closed v (state_of m)) (some (known_of v after)) none)
        × (tally_of m.rank m.id t (known_of v after) ≡ t)
    unfolding rest tally_of on_family known_of
    told [] c h = (refl, refl)
    told (e ∷ es) c h = let k = known_one v e es h.0 in rw (k, h.1) (refl, refl)

    module _ (after : List Ev) (c : Covers file spans first stop (g.before ++ after)) (h : Behind after) where
      all_rest : rest v ascending initial (known_of v (g.before ++ after)) ≡ cond (closed v (state_of m)) (some (known_of v after)) none
      all_rest = ap (rest v ascending initial) (known_both v g.before after) ∙ g.rests (known_of v after) ∙ (told after c h).0

      all_tally : tally_of 8 0 no_tally (known_of v (g.before ++ after)) ≡ t
      all_tally = ap (tally_of 8 0 no_tally) (known_both v g.before after) ∙ g.tallies (known_of v after) ∙ (told after c h).1

      before_tally : t ≡ tally_of 8 0 no_tally (known_of v g.before)
      unfolding tally_of
      before_tally = sym (g.tallies []) ∙ ap (tally_of 8 0 no_tally) (append-nil (known_of v g.before))

      ends_so : (b : Bool) → closed v (state_of m) ≡ b → FramesRan v first (g.before ++ after) (cond b (Ended at t) Wrong)
      ends_so true e = record {
        before = g.before;
        after = after;
        parted = refl;
        at_is = g.at_is;
        rest_is = all_rest ∙ rw e;
        tally_is = before_tally;
        tally_all = all_tally;
        behind = h;
      }
      ends_so false e = all_rest ∙ rw e

      ends_here : (r : Ran) → r ≡ ended_at m at t → FramesRan v first (g.before ++ after) r
      ends_here r r_is =
          let q = closed_newest v (has_family_lem v newer FrameStart) (has_family_lem v newer FrameEnd) (state_of m) in
          subst (FramesRan v first (g.before ++ after)) (sym r_is) (ends_so (closed newest (state_of m)) (sym q))

      for_all : (r : Ran) → FramesRan v first (g.before ++ after) r → (raw : List Ev) → Covers file spans first stop raw → FramesRan v first raw r
      for_all r x raw d = subst (λ (l : List Ev). FramesRan v first l r) (same_covers file spans first stop (g.before ++ after) raw c d) x

    pub ends_last : stop ≤ at → (r : Ran) → r ≡ ended_at m at t → (raw : List Ev) → Covers file spans first stop raw → FramesRan v first raw r
    ends_last l r e =
        let none_left = no_event file spans at stop g.others g.covers l in
        let c = subst (λ (x : List Ev). Covers file spans first stop (g.before ++ x)) none_left g.all in
        for_all [] c tt r (ends_here [] c tt r e)

    -- ---- one event more

    module _ (l : at < stop) (n : ℕ) (n-is : n ≡ span_at spans file at) where
      next : First file spans at stop g.others
      next = first_event file spans at stop g.others g.covers l

      abbrev e : Ev
      e = next.event

      abbrev es : List Ev
      es = next.others

      all_next : Covers file spans first stop (g.before ++ (e ∷ es))
      all_next = subst (λ (x : List Ev). Covers file spans first stop (g.before ++ x)) next.events_are g.all

      code_is : get_or file at 0 ≡ e.code
      code_is = code_stands file spans at stop e es next.covers

      span_is : n ≡ suc (length e.payload)
      span_is = n-is ∙ span_stands file spans at stop e es next.covers

      -- it has some bytes, before stop
      pub within : (0 < n) × (at + n ≤ stop)
      within = let b = ends_before file spans at stop e es next.covers in (omega (arith, span_is), omega (arith, span_is, b))

      module _ (k : List Ev) (k-is : known_of v (e ∷ []) ≡ k) (m' : Stage) (t' : Tally) (fair : Fair m') (under : Under t' (at + n))
          (rests : (ys : List Ev) → rest v ascending (state_of m) (k ++ ys) ≡ rest v ascending (state_of m') ys)
          (tallies : (ys : List Ev) → tally_of m.rank m.id t (k ++ ys) ≡ tally_of m'.rank m'.id t' ys) where
        joined : (ys : List Ev) → known_of v (g.before ++ (e ∷ [])) ++ ys ≡ known_of v g.before ++ (k ++ ys)
        joined ys =
            ap (λ (x : List Ev). x ++ ys) (known_both v g.before (e ∷ []) ∙ ap (λ (x : List Ev). known_of v g.before ++ x) k-is)
            ∙ append_assoc (known_of v g.before) k ys

        going_by : Going v file spans first stop m' t' (at + n)
        unfolding events_bytes
        going_by = record {
          before = g.before ++ (e ∷ []);
          others = es;
          all = subst (Covers file spans first stop) (sym (append_assoc g.before (e ∷ []) es)) all_next;
          covers = subst (λ (i : ℕ). Covers file spans (at + i) stop es) (sym span_is) (next_covers file spans at stop e es next.covers);
          at_is = omega (arith, g.at_is, length_both g.before (e ∷ []), length_next e [], span_is);
          fair = fair;
          under = under;
          rests = λ ys. ap (rest v ascending initial) (joined ys) ∙ g.rests (k ++ ys) ∙ rests ys;
          tallies = λ ys. ap (tally_of 8 0 no_tally) (joined ys) ∙ g.tallies (k ++ ys) ∙ tallies ys;
        }

      -- an unknown event changes nothing
      pub passes_on : is_known (get_or file at 0) ≡ false → Going v file spans first stop m t (at + n)
      unfolding known_of
      passes_on q =
          going_by [] (unknown_one v e [] (ap is_known (sym code_is) ∙ q)) m t g.fair (under_to t at (at + n) g.under (omega arith)) (λ ys. refl) (λ ys. refl)

      -- one that was taken
      module _ (stage : Stage) (counts : Tally) (x : Gone v file m t at n (get_or file at 0) stage counts) where
        is_family : family_of e.code ≡ some x.family
        is_family = ap family_of (sym code_is) ∙ x.family_is

        pub takes_on : Going v file spans first stop stage counts (at + n)
        unfolding known_of
        takes_on =
            let s = x.state_is in
            going_by (front v e ∷ []) (known_one v e [] (known_family e.code x.family is_family)) stage counts x.fair
            (subst (λ (u : Tally). Under u (at + n)) (sym x.counts_are) (under_counted t m.rank m.id (said_at file at) x.family at (at + n) g.under (omega (arith, within.0))))
            (λ ys.
            goes_on v newer file spans at stop e es next.covers m t n span_is x.family is_family x.takes ys
            ∙ ap (λ (y : State). rest v ascending y ys) (sym s))
            (λ ys.
            counts_on v newer file spans at stop e es next.covers m t n span_is x.family is_family x.takes ys
            ∙ ap₂ (λ (y : State) (u : Tally). tally_of y.rank y.id u ys) (sym s) (sym x.counts_are))

      -- one that is known and none of a frame's
      pub ends_other : (family_of (get_or file at 0) ≡ none) × (is_known (get_or file at 0) ≡ true) → (r : Ran) → r ≡ ended_at m at t → (raw : List Ev) → Covers file spans first stop raw
          → FramesRan v first raw r
      ends_other (q, k) r r_is =
          let h : Behind (e ∷ es) = (ap is_known (sym code_is) ∙ k, ap family_of (sym code_is) ∙ q) in
          for_all (e ∷ es) all_next h r (ends_here (e ∷ es) all_next h r r_is)

      -- one that is wrong
      pub fails_all : Fails v file m at n (get_or file at 0) → (raw : List Ev) → Covers file spans first stop raw → FramesRan v first raw Wrong
      fails_all x raw d =
          let is = ap family_of (sym code_is) ∙ x.family_is in
          let known = known_one v e es (known_family e.code x.family is) in
          ap (λ (l : List Ev). rest v ascending initial (known_of v l)) (same_covers file spans first stop raw (g.before ++ (e ∷ es)) d all_next)
          ∙ ap (rest v ascending initial) (known_both v g.before (e ∷ es))
          ∙ g.rests (known_of v (e ∷ es))
          ∙ ap (rest v ascending (state_of m)) known
          ∙ fails_here v newer file spans at stop e es next.covers m t n span_is x.family is x.fails (known_of v es)
