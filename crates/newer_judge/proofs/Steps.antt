-- What is known of a newer recorder's file at each step of its judgement.
-- Assumes nothing.
use Prim.Native.Nat.{ℕ, ◌+◌, ◌*◌, ◌≤◌, ◌<◌}
use native.Mathlib.Omega.{arith}
use native.Mathlib.Decide.{ℕ_discrete}
use mathlib.Core.Path.{◌≡◌, refl, sym, ap, subst, ◌∙◌}
use mathlib.Core.Bool.{Bool, true, false, cond}
use mathlib.Core.List.{List, [], ◌∷◌, ◌++◌}
use borrow.Author.Tests.{lt-ltb, le-ltb}
use lib.Dec.{ltb}
use lib.ListN.{length, drop, length-append, length-take, length-drop}
use Rattle.wire.specs.Wire.{be, keep}
use Rattle.format.specs.File.{Ev, event_bytes, events_bytes}
use Rattle.format.specs.declared.version.Version.{Version}
use Rattle.game.specs.declared.frames.Frames.{Frames}
use Rattle.frames.specs.Judge.{too_many}
use Rattle.head.specs.Inner.{HeadOf}
use Rattle.head.specs.declared.table.Head.{Head}
use Rattle.de.specs.declared.Walked.TheVariants as walked
use Rattle.grammar.specs.Productions.{Block, block_event, codes_events, codes_bytes}
use Rattle.grammar.specs.WellFormed.{GoodCodes}
use Rattle.columns.specs.Columns.{frames_read}
use Rattle.known.specs.Known.{is_newer, is_known, known_size, front, known_of}
use Rattle.read_judge.specs.Found.{version_of, early_refusal, Found, too_big}
use Rattle.read_judge.specs.Inner.{Bytes, first_at, Ready, WalkDone, Refuses, Accepts, counts_by}
use Rattle.read_judge.specs.Inner as old
use Rattle.read_judge.specs.declared.first.First.{First}
use Rattle.read_judge.specs.declared.first.First.TheVariants.{Opens, Other}
use Rattle.read_judge.specs.declared.parts.Parts.{Parts}
use Rattle.read_judge.specs.declared.Verdict.{Verdict}
use Rattle.read_judge.specs.declared.Verdict.TheVariants as verdict
use Rattle.read_judge.proofs.Steps as steps
use Rattle.read_judge.proofs.Accepted.{version_accepted}
use Rattle.newer_judge.specs.Opening.{opening_refusal}
use Rattle.newer_judge.specs.Inner.{Indexed, Shown, Known, plain, newer, Shows, Declines, Tells, Newly, CountedNewer}
use Rattle.newer_judge.specs.Inner as inner
use Rattle.newer_judge.proofs.Walks.{head_late}
use Rattle.newer_judge.proofs.Opening.{opening_none, opening_same, opening_version, version_above, newer_or, walk_done}

-- ---- a verdict up to 3.18.0

-- what is not refused there
abbrev pub held_tells : (f : List ℕ) (first stop : ℕ) (p : Parts) → Accepts f first stop p → Shows f first stop p
held_tells f first stop p a =
    let h = a.holds in
    record {
      opening = opening_none f a.early;
      shown = record {
        found = h.found;
        version_is = h.version_is;
        block_len = h.block_len;
        block_fits = h.block_fits;
        block_in = h.block_in;
        block_is = h.block_is;
        blocks_are = h.blocks_are;
        actual_is = h.actual_is;
        tallied = h.tallied;
        ends_are = h.ends_are;
        end_is = h.end_is;
      };
      small = a.small;
      first_is = a.first_is;
      stop_is = a.stop_is;
      within = a.within;
      road = plain (version_accepted f a.early) a refl;
    }

-- what is refused there with another number than 1
pub refused_tells : (f : List ℕ) (number offset : ℕ) → Refuses f number offset → (number ≡ 1 → ⊥) → Declines f number offset
refused_tells f number offset (old.early n e o) m =
    let same = opening_same f n (λ q. m (e ∙ q)) in
    inner.early (λ z. n (sym same ∙ z)) (e ∙ sym same) o
refused_tells f number offset (old.none z n e o) m = inner.none (opening_none f z) n e o
refused_tells f number offset (old.big z x b e o) m = inner.big (opening_none f z) x b e o

-- and with 1
pub refused_one : (f : List ℕ) (number offset : ℕ) → Refuses f number offset → number ≡ 1 → early_refusal f ≡ 1
refused_one f number offset (old.early n e o) m = sym e ∙ m
refused_one f number offset (old.none z n e o) m = absurd (omega arith)
refused_one f number offset (old.big z x b e o) m = absurd (omega arith)

-- ---- the head

pub newly : (f spans : List ℕ) (h : Head) → HeadOf h spans f → Bytes f → early_refusal f ≡ 1 → Newly f spans h.first h.stop h.whole
newly f spans h o bytes e = elim (ℕ_discrete h.refusal 0) [
  | yes z ↦ record { refused = e; headed = steps.headed f spans h o bytes z }
  | no z ↦
      let late = head_late f (λ q. z (o.refusal_is ∙ q)) in
      let same = (steps.head_early f spans h o z).1 in
      absurd (omega (arith, o.refusal_is))
]

-- ---- blocks of codes

known_shorter : (v : Version) (es : List Ev) → length (events_bytes (known_of v es)) ≤ length (events_bytes es)
unfolding known_of keep events_bytes
known_shorter v [] = omega arith
known_shorter v (e ∷ es) = go (is_known e.code) (known_shorter v es)
  where
    go : (b : Bool) → length (events_bytes (known_of v es)) ≤ length (events_bytes es) → length (events_bytes (keep b (front v e ∷ []) ++ known_of v es)) ≤ length (event_bytes e ++ events_bytes es)
    go true h =
        omega (arith, length-append (event_bytes e) (events_bytes es), length-append (event_bytes (front v e)) (events_bytes (known_of v es)), length-take (known_size v e) e.payload)
    go false h = omega (arith, length-append (event_bytes e) (events_bytes es))

-- a block's event has its bytes and more
codes_in : (v : Version) (bs : List Block) → GoodCodes v bs → 512 * length bs ≤ length (events_bytes (codes_events bs))
unfolding GoodCodes codes_events events_bytes
codes_in v [] g = omega arith
codes_in v (b ∷ []) g = omega (arith, length-append (event_bytes (block_event 1 b)) [], length-append b.bytes (be 2 b.used ++ (0x3D ∷ 1 ∷ [])), g.1)
codes_in v (b ∷ c ∷ bs) g =
    omega (arith, length-append (event_bytes (block_event 0 b)) (events_bytes (codes_events (c ∷ bs))), length-append b.bytes (be 2 b.used ++ (0x3D ∷ 0 ∷ [])), g.0, codes_in v (c ∷ bs) g.2)

pub codes_length : (v : Version) (bs : List Block) → GoodCodes v bs → length (codes_bytes bs) ≡ 512 * length bs
unfolding GoodCodes codes_bytes
codes_length v [] g = refl
codes_length v (b ∷ []) g = length-append b.bytes [] ∙ omega (arith, g.1)
codes_length v (b ∷ c ∷ bs) g = length-append b.bytes (codes_bytes (c ∷ bs)) ∙ omega (arith, g.0, codes_length v (c ∷ bs) g.2)

-- the blocks stand in the file
codes_fit : (f spans : List ℕ) (first : ℕ) (p : Parts) → Known f first p → Indexed f spans → 512 * p.blocks ≤ length f
codes_fit f spans first p k i =
    let h = k.codes_stand in
    let s = k.shown in
    let v = version_of f in
    let d = h.covers spans i in
    let bytes = ap length d.bytes_are ∙ length-append (events_bytes h.raw) (drop p.frames_at f) in
    let same = ap (λ (l : List Ev). length (events_bytes l)) h.known_are in
    omega (arith, bytes, length-drop p.codes_at f, known_shorter v h.raw, same, codes_in v s.found.replay.codes s.found.readable.well.codes, s.blocks_are)

-- ---- the first event

module _ (f spans : List ℕ) (first stop : ℕ) (whole : Bool) (n : Newly f spans first stop whole) where
  k : WalkDone f
  k = walk_done f n.refused

  pub opens_never : (e : First) → e ≡ first_at f spans first stop → e ≡ Other → ⊥
  opens_never e q o = let is = steps.opens_early f spans first stop whole n.headed k e q o in let one = n.refused in omega arith

  pub indexed : Indexed f spans
  indexed = record { many = n.headed.many; index = n.headed.index }

  module _ (v : Version) (len : ℕ) (e : First) (q : e ≡ first_at f spans first stop) (o : e ≡ Opens v len) where
    version_is : v ≡ version_of f
    version_is = (steps.said f spans first stop whole n.headed k v len e q o).version_is

    pub too_new_lem : 3 < v.major → Declines f 1 0
    too_new_lem l =
        let above : ltb 3 (version_of f).major ≡ true = ap (λ (w : Version). ltb 3 w.major) (sym version_is) ∙ lt-ltb 3 v.major l in
        let is : opening_refusal f ≡ 1 = opening_version f n.refused ∙ rw above in
        inner.early (λ z. omega arith) (sym is) (steps.offset_none f spans first stop whole n.headed k)

    module _ (l : v.major ≤ 3) where
      not_above : ltb 3 (version_of f).major ≡ false
      not_above = ap (λ (w : Version). ltb 3 w.major) (sym version_is) ∙ le-ltb 3 v.major l

      none_early : opening_refusal f ≡ 0
      none_early = opening_version f n.refused ∙ rw not_above

      here_newer : is_newer (version_of f) ≡ true
      here_newer = newer_or (version_of f) (version_above f n.refused) not_above

      pub is_newer_lem : is_newer v ≡ true
      is_newer_lem = ap is_newer version_is ∙ here_newer

      pub not_held : (Found f → ⊥) → Declines f 19 0
      not_held h = inner.none none_early h refl refl

      pub cut : whole ≡ false → Declines f 19 0
      cut w = not_held (λ x. let z : ◌≡◌ {A = ℕ} 0 1 = ap (λ (c : Bool). cond c 0 1) (sym x.whole ∙ sym n.headed.whole_is ∙ w) in omega arith)

      pub ready : whole ≡ true → Ready f spans v first stop len
      ready w = steps.ready f spans first stop whole n.headed k v len e q o w

      pub counted : (p : Parts) → Known f first p → CountedNewer f first stop p
      counted p h = record {
        opening = none_early;
        refused = n.refused;
        newer = here_newer;
        known = h;
        codes_in = codes_fit f spans first p h indexed;
        first_is = n.headed.first_is;
        stop_is = n.headed.stop_is;
        within = n.headed.within;
      }

-- ---- the counts

counts_only : (f g : Frames) (codes metadata : ℕ) → f.counts ≡ g.counts → too_many f codes metadata ≡ too_many g codes metadata
unfolding too_many
counts_only f g codes metadata e = rw e

module _ (f : List ℕ) (first stop : ℕ) (p : Parts) (c : CountedNewer f first stop p) where
  abbrev s : Shown f first p
  s = c.known.shown

  codes_long : 512 * p.blocks ≡ length (codes_bytes s.found.replay.codes)
  codes_long = ap (λ (n : ℕ). 512 * n) s.blocks_are ∙ sym (codes_length (version_of f) s.found.replay.codes s.found.readable.well.codes)

  same_counts : counts_by p.tally ≡ (frames_read (version_of f) s.found.replay.frames).counts
  same_counts =
      let t = s.tallied in
      λ i. record { frames = t.frames i; items = t.items i; fods = t.fods i; whispys = t.whispys i; stadiums = t.stadiums i }

  same_size : (g : Frames) → g.counts ≡ counts_by p.tally → too_many g (512 * p.blocks) 0 ≡ too_big (version_of f) s.found.replay
  same_size g e =
      counts_only g (frames_read (version_of f) s.found.replay.frames) (512 * p.blocks) 0 (e ∙ same_counts)
      ∙ ap (λ (n : ℕ). too_many (frames_read (version_of f) s.found.replay.frames) n 0) codes_long

  pub too_big_lem : (g : Frames) → g.counts ≡ counts_by p.tally → (b : Bool) → b ≡ too_many g (512 * p.blocks) 0 → b ≡ true → Declines f 2 0
  too_big_lem g e b q t = inner.big c.opening s.found (sym (same_size g e) ∙ sym q ∙ t) refl refl

  pub shows : (g : Frames) → g.counts ≡ counts_by p.tally → (b : Bool) → b ≡ too_many g (512 * p.blocks) 0 → b ≡ false → Shows f first stop p
  shows g e b q t = record {
    opening = c.opening;
    shown = s;
    small = sym (same_size g e) ∙ sym q ∙ t;
    first_is = c.first_is;
    stop_is = c.stop_is;
    within = c.within;
    road = newer c.refused c.newer c.known.codes_stand c.known.frames_stand;
  }

pub tells_as : (f : List ℕ) (r q : Verdict) → r ≡ q → Tells f q → Tells f r
tells_as f r q e v = subst (λ (x : Verdict). Tells f x) (sym e) v
