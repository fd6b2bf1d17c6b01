-- Runs of frames: what an accepted run is, that it is the single calls one after another, and that a run split anywhere is the two runs.
-- Assumes nothing.
use mathlib.Core.Path.{◌≡◌, refl, sym, ap, ap₂, subst, ◌∙◌}
use mathlib.Core.List.{List, [], ◌++◌, append_assoc}
use Prim.Native.Nat.{ℕ, zero, suc, ◌+◌, ◌-◌, ◌≤◌}
use native.Mathlib.Nat.{add-zero, sub_self}
use native.Mathlib.Omega.{arith}
use borrow.Author.Tests.{le-ltb, ltb-false}
use lib.ListN.{length, take, drop, length-append}
use lib.Seq.{drop_at, take_at, length-take-le}
use Rattle.wire.specs.Wire.{splice, part, ranged, Wrote}
use Rattle.wire.proofs.Laws.{splice_nil, splice_is, splice_append, length_splice, part_splice}
use Rattle.wire.proofs.Writers.{wrote_as, wrote_then, wrote_length}
use Rattle.format.specs.File.{events_bytes}
use Rattle.format.specs.Refusal.{lowest}
use Rattle.format.proofs.Files.{events_nil, events_append}
use Rattle.format.proofs.Refusals.{passed, lowest_first}
use Rattle.game.specs.Stores.{Lent}
use Rattle.game.specs.declared.frames.Frames.{Frames}
use Rattle.frames.specs.Judge.{refusals}
use Rattle.events.specs.Events.{frame_events, frames_events}
use Rattle.events.proofs.Laws.{frames_run}
use Rattle.events.proofs.AlikeLaws.{ranged_split}
use Rattle.std.specs.Prelude.{Ok}
use Rattle.append.specs.Run.{run_events, run_bytes, run_refusal, append_numbers, AppendedNumbers, appended_numbers, left_at, RunOutcome}
use Rattle.append.proofs.Outcomes.{in_order_lem, inside_frames, decided, run_written}

-- ---- an accepted run
pub record Ran (f : Frames) (s : Lent) (a b place : ℕ) (out : List ℕ) (e : ℕ) (out' : List ℕ) : Type 0 where
  pub judged : lowest (refusals f s 0 0) ≡ 0
  pub order : a ≤ b
  pub within : b ≤ f.counts.frames
  pub fits : place + length (run_bytes f s a b) ≤ length out
  pub wrote : Wrote out out' place e (run_bytes f s a b)

-- an end place is answered where nothing is refused
answered_end : (k n m : ℕ) → appended_numbers (Ok n) ≡ append_numbers k m → (k ≡ 0) × (n ≡ m)
answered_end zero n m e = (refl, ap (λ (w : AppendedNumbers). w.end) e)
answered_end (suc k) n m e = let z : ◌≡◌ {A = ℕ} 0 1 = ap (λ (w : AppendedNumbers). w.kind) e in absurd (omega arith)

left_run : (k place : ℕ) (out bytes : List ℕ) → k ≡ 0 → left_at k out place bytes ≡ splice out place bytes
left_run zero place out bytes e = refl
left_run (suc k) place out bytes e = absurd (omega arith)

module _ {f : Frames} {s : Lent} {a b place e : ℕ} {out out' : List ℕ} where
  pub ran : RunOutcome f s a b place out (Ok e) out' → Ran f s a b place out e out'
  unfolding run_refusal
  ran o =
      let (z, m) = answered_end (run_refusal f s a b place (length out)) e (place + length (run_bytes f s a b)) o.answer_is in
      let first : lowest (refusals f s 0 0) ≡ 0 = lowest_first (refusals f s 0 0) _ z in
      let (inside, rest) = passed 12 _ _ (sym (decided f s a b place (length out) first) ∙ z) in
      let (room, done) = passed 11 _ _ rest in
      let (order, within) = in_order_lem f a b inside in
      record {
        judged = first;
        order = order;
        within = within;
        fits = ltb-false (length out) (place + length (run_bytes f s a b)) room;
        wrote = record { next_is = m; after_is = o.out_is ∙ left_run (run_refusal f s a b place (length out)) place out (run_bytes f s a b) z };
      }

  pub ran_is : Ran f s a b place out e out' → RunOutcome f s a b place out (Ok e) out'
  ran_is r = run_written f s a b place out r.judged (inside_frames f a b r.order r.within) (le-ltb (length out) (place + length (run_bytes f s a b)) r.fits) r.wrote

  -- nothing before the place and nothing from the end place on is touched, and between them stands the run
  pub before_kept : RunOutcome f s a b place out (Ok e) out' → take place out' ≡ take place out
  before_kept o =
      let r = ran o in
      ap (take place) (r.wrote.after_is ∙ splice_is out place (run_bytes f s a b) r.fits)
      ∙ take_at (take place out) _ place (length-take-le place out (omega (arith, r.fits)))

  pub after_kept : RunOutcome f s a b place out (Ok e) out' → drop e out' ≡ drop e out
  after_kept o =
      let r = ran o in
      let bytes = run_bytes f s a b in
      let n : length (take place out ++ bytes) ≡ e = length-append (take place out) bytes ∙ ap (λ (k : ℕ). k + length bytes) (length-take-le place out (omega (arith, r.fits))) ∙ sym r.wrote.next_is in
      ap (drop e) (r.wrote.after_is ∙ splice_is out place bytes r.fits ∙ sym (append_assoc (take place out) bytes _))
      ∙ drop_at (take place out ++ bytes) _ e n
      ∙ ap (λ (k : ℕ). drop k out) (sym r.wrote.next_is)

  pub run_stands : RunOutcome f s a b place out (Ok e) out' → part out' place (e - place) ≡ run_bytes f s a b
  run_stands o =
      let r = ran o in
      let bytes = run_bytes f s a b in
      let n : e - place ≡ length bytes = omega (arith, r.wrote.next_is) in
      ap₂ (λ (l : List ℕ) (k : ℕ). part l place k) r.wrote.after_is n ∙ part_splice out place bytes r.fits

-- ---- a run split anywhere is the two runs
module _ (f : Frames) (s : Lent) where
  pub run_split : (a b c : ℕ) → a ≤ b → b ≤ c → run_bytes f s a c ≡ run_bytes f s a b ++ run_bytes f s b c
  unfolding run_events
  run_split a b c h l =
      let n : c - a ≡ b - a + (c - b) = omega arith in
      let m : a + (b - a) ≡ b = omega arith in
      ap (λ (k : ℕ). events_bytes (ranged (frame_events f s) a k)) n
      ∙ ap events_bytes (ranged_split (frame_events f s) a (b - a) (c - b) ∙ ap (λ (k : ℕ). ranged (frame_events f s) a (b - a) ++ ranged (frame_events f s) k (c - b)) m)
      ∙ events_append (ranged (frame_events f s) a (b - a)) (ranged (frame_events f s) b (c - b))

  pub empty_run : (a : ℕ) → run_bytes f s a a ≡ []
  unfolding run_events ranged
  empty_run a = rw (sub_self a) events_nil

module _ {f : Frames} {s : Lent} {a c place e : ℕ} {out out' : List ℕ} where
  -- the first run of the two, and the second at its end place
  split_ran : (b : ℕ) → a ≤ b → b ≤ c → Ran f s a c place out e out'
      → Ran f s a b place out (place + length (run_bytes f s a b)) (splice out place (run_bytes f s a b))
      × Ran f s b c (place + length (run_bytes f s a b)) (splice out place (run_bytes f s a b)) e out'
  split_ran b h l r =
      let both = run_split f s a b c h l in
      let n = ap length both ∙ length-append (run_bytes f s a b) (run_bytes f s b c) in (
        record { judged = r.judged; order = h; within = omega (arith, r.within); fits = omega (arith, r.fits, n); wrote = record { next_is = refl; after_is = refl } },
        record {
          judged = r.judged;
          order = l;
          within = r.within;
          fits = omega (arith, r.fits, n, length_splice out place (run_bytes f s a b));
          wrote = record {
            next_is = omega (arith, r.wrote.next_is, n);
            after_is = r.wrote.after_is ∙ ap (splice out place) both ∙ splice_append out place (run_bytes f s a b) (run_bytes f s b c);
          };
        },
      )

  pub split : (b : ℕ) → a ≤ b → b ≤ c → RunOutcome f s a c place out (Ok e) out'
      → RunOutcome f s a b place out (Ok (place + length (run_bytes f s a b))) (splice out place (run_bytes f s a b))
      × RunOutcome f s b c (place + length (run_bytes f s a b)) (splice out place (run_bytes f s a b)) (Ok e) out'
  split b h l o = let (x, y) = split_ran b h l (ran o) in (ran_is x, ran_is y)

  -- and two runs, of which the second begins where the first ended, are one
  pub joined : {b m : ℕ} {mid : List ℕ} → RunOutcome f s a b place out (Ok m) mid → RunOutcome f s b c m mid (Ok e) out' → RunOutcome f s a c place out (Ok e) out'
  joined {b} x y =
      let p = ran x in
      let q = ran y in
      let both = run_split f s a b c p.order q.order in
      let n = ap length both ∙ length-append (run_bytes f s a b) (run_bytes f s b c) in
      ran_is (record {
        judged = p.judged;
        order = omega (arith, p.order, q.order);
        within = q.within;
        fits = omega (arith, n, q.fits, p.wrote.next_is, wrote_length p.wrote);
        wrote = wrote_as (sym both) (wrote_then p.wrote q.wrote);
      })

-- ---- a run is the single calls one after another
-- a place and an output of which something holds
pub record Reached (P : ℕ → List ℕ → Type 0) : Type 0 where
  pub place : ℕ
  pub out : List ℕ
  pub is : P place out

-- n calls for one frame, from frame i on, each accepted, and each at the end place of the one before
unfoldable pub Singles : Frames → Lent → ℕ → ℕ → ℕ → List ℕ → ℕ → List ℕ → Type 0
Singles f s i zero place out e out' = (e ≡ place) × (out' ≡ out)
Singles f s i (suc n) place out e out' = Reached (λ m mid. RunOutcome f s i (i + 1) place out (Ok m) mid × Singles f s (i + 1) n m mid e out')

module _ {f : Frames} {s : Lent} where
  singles_ran : (n i : ℕ) {place e : ℕ} {out out' : List ℕ} → Ran f s i (i + n) place out e out' → Singles f s i n place out e out'
  unfolding Singles
  singles_ran zero i {place} {e} {out} r =
      let none : run_bytes f s i (i + 0) ≡ [] = ap (run_bytes f s i) (add-zero i) ∙ empty_run f s i in
      (omega (arith, r.wrote.next_is, ap length none), r.wrote.after_is ∙ ap (splice out place) none ∙ splice_nil out place)
  singles_ran (suc n) i {place} {e} {out} {out'} r =
      let k : i + suc n ≡ i + 1 + n = omega arith in
      let (x, y) = split_ran (i + 1) (omega arith) (omega arith) r in
      record {
        place = place + length (run_bytes f s i (i + 1));
        out = splice out place (run_bytes f s i (i + 1));
        is = (ran_is x, singles_ran n (i + 1) (subst (λ (j : ℕ). Ran f s (i + 1) j (place + length (run_bytes f s i (i + 1))) (splice out place (run_bytes f s i (i + 1))) e out') k y));
      }

  -- an accepted run's bytes and end place are those of the single calls
  pub run_singles : {a b place e : ℕ} {out out' : List ℕ} → RunOutcome f s a b place out (Ok e) out' → Singles f s a (b - a) place out e out'
  run_singles {a} {b} {place} {e} {out} {out'} o =
      let r = ran o in
      let k : b ≡ a + (b - a) = omega (arith, r.order) in
      singles_ran (b - a) a (subst (λ (j : ℕ). Ran f s a j place out e out') k r)

  -- and single calls after a run make it longer: after an empty run, which says that the place and the game will do, they are the run
  pub singles_run : (n : ℕ) {a b place m e : ℕ} {out mid out' : List ℕ} → RunOutcome f s a b place out (Ok m) mid → Singles f s b n m mid e out' → RunOutcome f s a (b + n) place out (Ok e) out'
  unfolding Singles
  singles_run zero {a} {b} {place} {m} {e} {out} {mid} {out'} o t =
      subst (λ (j : ℕ). RunOutcome f s a j place out (Ok e) out') (sym (add-zero b))
      (subst (λ (l : List ℕ). RunOutcome f s a b place out (Ok e) l) (sym t.1) (subst (λ (k : ℕ). RunOutcome f s a b place out (Ok k) mid) (sym t.0) o))
  singles_run (suc n) {a} {b} {place} {e = e} {out = out} {out' = out'} o t =
      let k : b + 1 + n ≡ b + suc n = omega arith in
      subst (λ (j : ℕ). RunOutcome f s a j place out (Ok e) out') k (singles_run n (joined o t.is.0) t.is.1)

-- no second end place and no second output come of single calls
pub singles_only : (f : Frames) (s : Lent) (n i place : ℕ) (out : List ℕ) {e d : ℕ} {x y : List ℕ} → Singles f s i n place out e x → Singles f s i n place out d y → (e ≡ d) × (x ≡ y)
unfolding Singles
singles_only f s zero i place out p q = (p.0 ∙ sym q.0, p.1 ∙ sym q.1)
singles_only f s (suc n) i place out {e} {d} {x} {y} p q =
    let u = ran p.is.0 in
    let v = ran q.is.0 in
    let m : p.place ≡ q.place = u.wrote.next_is ∙ sym v.wrote.next_is in
    let l : p.out ≡ q.out = u.wrote.after_is ∙ sym v.wrote.after_is in
    singles_only f s n (i + 1) p.place p.out p.is.1 (subst (λ (k : ℕ). Singles f s (i + 1) n k p.out d y) (sym m) (subst (λ (k : List ℕ). Singles f s (i + 1) n q.place k d y) (sym l) q.is.1))

-- ---- an empty run is accepted at every place of the output, and at none beyond it; it changes nothing
module _ (f : Frames) (s : Lent) (a place : ℕ) (out : List ℕ) where
  pub empty_accepted : lowest (refusals f s 0 0) ≡ 0 → a ≤ f.counts.frames → place ≤ length out → RunOutcome f s a a place out (Ok place) out
  empty_accepted e h l =
      let none = empty_run f s a in
      ran_is (record {
        judged = e;
        order = omega arith;
        within = h;
        fits = omega (arith, l, ap length none);
        wrote = record { next_is = omega (arith, ap length none); after_is = sym (ap (splice out place) none ∙ splice_nil out place) };
      })

-- ---- the run of all frames
pub run_of_all : (f : Frames) (s : Lent) → run_events f s 0 f.counts.frames ≡ frames_events f s
unfolding run_events
run_of_all f s = sym (frames_run f s)
