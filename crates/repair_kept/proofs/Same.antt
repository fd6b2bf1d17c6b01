-- Files that are the same from their tables on: what one pass over them finds, up to one place or another.
-- Assumes nothing.
use Prim.Native.Nat.{ℕ, zero, suc, ◌+◌, ◌-◌, ◌*◌, ◌≤◌, ◌<◌}
use mathlib.Core.Path.{◌≡◌, refl, sym, ap, subst, ◌∙◌}
use mathlib.Core.Bool.{Bool, true, false, cond, ◌&&◌}
use mathlib.Core.List.{List}
use mathlib.Core.Option.{Option, none, some, some-injective, none-ne-some}
use native.Mathlib.Omega.{arith}
use borrow.Author.Tests.{le-leb, lt-leb, leb-true, leb-false, eqb-true, ltb-true, ltb-false, lt-ltb, eq-eqb, ne_eqb}
use lib.Dec.{leb, eqb, ltb}
use lib.ListN.{length, get_or, take, drop}
use lib.Seq.{drop-drop, get_or-drop}
use Rattle.wire.specs.Wire.{number, part}
use Rattle.format.specs.Version.{gte_of}
use Rattle.format.specs.declared.version.Version.{Version}
use Rattle.layout.specs.Columns.{has_family}
use Rattle.layout.specs.Payloads.{record_size, end_size}
use Rattle.layout.specs.declared.columns.Family.{Family}
use Rattle.grammar.specs.WellFormed.{ascending}
use Rattle.grammar.specs.Machine.{family_of, State, closed, orderly, after, on_family}
use Rattle.grammar.proofs.Tests.{both, taken}
use Rattle.read_scan.specs.Counts.{counted_of}
use Rattle.read_scan.specs.Inner.{said_at, span_at, takes_at, takes, stops, scan, tells, tallied}
use Rattle.read_scan.specs.declared.tally.Tally.{Tally}
use Rattle.repair_scan.specs.Inner.{tally_fits, rests, reach, reached}
use Rattle.repair_scan.specs.declared.pass.Reached.{Reached}

pub no_way : {A : Type 0} → false ≡ true → A
no_way e = absurd (let z : ◌≡◌ {A = ℕ} 0 1 = cc in omega arith)

-- ---- bytes

module _ (f g : List ℕ) (same : drop 15 f ≡ drop 15 g) where
  pub drop_same : (i : ℕ) → 15 ≤ i → drop i f ≡ drop i g
  drop_same i h =
      let e : 15 + (i - 15) ≡ i = omega arith in
      ap (λ (n : ℕ). drop n f) (sym e) ∙ sym (drop-drop (i - 15) 15 f) ∙ ap (drop (i - 15)) same ∙ drop-drop (i - 15) 15 g ∙ ap (λ (n : ℕ). drop n g) e

  pub byte_same : (i : ℕ) → 15 ≤ i → get_or f i 0 ≡ get_or g i 0
  byte_same i h =
      let e : 15 + (i - 15) ≡ i = omega arith in
      ap (λ (n : ℕ). get_or f n 0) (sym e) ∙ sym (get_or-drop 15 f (i - 15) 0) ∙ ap (λ (l : List ℕ). get_or l (i - 15) 0) same ∙ get_or-drop 15 g (i - 15) 0 ∙ ap (λ (n : ℕ). get_or g n 0) e

  pub part_same : (i n : ℕ) → 15 ≤ i → part f i n ≡ part g i n
  unfolding part
  part_same i n h = ap (take n) (drop_same i h)

  said_same : (at : ℕ) → 15 ≤ at → said_at f at ≡ said_at g at
  said_same at h = λ i. record {
    id = number (part_same (at + 1) 4 (omega arith) i);
    port = byte_same (at + 5) (omega arith) i;
    follower = byte_same (at + 6) (omega arith) i;
  }

  span_same : (spans : List ℕ) (at : ℕ) → 15 ≤ at → span_at spans f at ≡ span_at spans g at
  span_same spans at h = ap (λ (c : ℕ). get_or spans c 0) (byte_same at h)

-- ---- an event that is taken before one place is taken before another, if it ends there

module _ (v : Version) (f g spans : List ℕ) (same : drop 15 f ≡ drop 15 g) (q stop : ℕ) where
  record Moved (s : State) (at : ℕ) (family : Family) : Type 0 where
    taken : takes v ascending f spans stop s at family ≡ true
    longer : 0 < span_at spans g at
    ends : at + span_at spans g at ≤ q

  moved : (s : State) (at : ℕ) (family : Family) → 15 ≤ at → (at + span_at spans g at ≤ q → at + span_at spans g at ≤ stop) → takes v ascending g spans q s at family ≡ true → Moved s at family
  unfolding takes_at
  moved s at family h fits t =
      let n = span_at spans g at in
      let (a, b) = both (has_family v family && eqb n (1 + record_size family v)) (leb (at + n) q && orderly v ascending s family (said_at g at)) t in
      let (c, d) = both (leb (at + n) q) (orderly v ascending s family (said_at g at)) b in
      let size = eqb-true n (1 + record_size family v) (both (has_family v family) (eqb n (1 + record_size family v)) a).1 in
      let ends = leb-true (at + n) q c in
      let whole = le-leb (at + n) stop (fits ends) in
      let all : (has_family v family && eqb n (1 + record_size family v)) && (leb (at + n) stop && orderly v ascending s family (said_at g at)) ≡ true = rw (a, whole) d in
      record {
        taken =
            ap (λ (k : ℕ). takes_at v ascending f stop s at k family) (span_same f g same spans at h)
            ∙ ap (λ w. (has_family v family && eqb n (1 + record_size family v)) && (leb (at + n) stop && orderly v ascending s family w)) (said_same f g same at h)
            ∙ all;
        longer = omega arith;
        ends = ends;
      }

-- ---- what is reached rises

module _ (v : Version) (f spans : List ℕ) (stop : ℕ) where
  abbrev now : State → Tally → ℕ → ℕ → ℕ
  now s t at b = cond (rests v s t at) at b

  now_rises : (s : State) (t : Tally) (at b : ℕ) → b ≤ at → (b ≤ now s t at b) × (now s t at b ≤ at)
  now_rises s t at b h = go (rests v s t at)
    where
      go : (c : Bool) → (b ≤ cond c at b) × (cond c at b ≤ at)
      go true = (h, omega arith)
      go false = (omega arith, h)

  -- one turn
  abbrev turned : ℕ → ℕ → State → Tally → ℕ → Option Family → Reached
  turned m at s t b x =
      on_family x
      (λ family. cond (takes v ascending f spans stop s at family) (reached v f spans stop m (at + span_at spans f at) (after s family (said_at f at)) (counted_of t s.rank s.id family (said_at f at)) b) (reach at b))
      (reach at b)

  pub rises : (m at : ℕ) (s : State) (t : Tally) (b : ℕ) → b ≤ at → b ≤ (reached v f spans stop m at s t b).best
  unfolding reached on_family
  rises zero at s t b h = omega arith
  rises (suc m) at s t b h = past (leb stop at) (λ at s t b h. rises m at s t b h)
    where
      More : Type 0
      More = (at : ℕ) (s : State) (t : Tally) (b : ℕ) → b ≤ at → b ≤ (reached v f spans stop m at s t b).best

      step : (family : Family) (c : Bool) → More
          → b ≤ (cond c (reached v f spans stop m (at + span_at spans f at) (after s family (said_at f at)) (counted_of t s.rank s.id family (said_at f at)) (now s t at b)) (reach at (now s t at b))).best
      step family true more =
          let (x, y) = now_rises s t at b h in
          let z = more (at + span_at spans f at) (after s family (said_at f at)) (counted_of t s.rank s.id family (said_at f at)) (now s t at b) (omega arith) in
          omega arith
      step family false more = (now_rises s t at b h).0

      kind : (x : Option Family) → More → b ≤ (turned m at s t (now s t at b) x).best
      kind none more = (now_rises s t at b h).0
      kind (some family) more = step family (takes v ascending f spans stop s at family) more

      past : (c : Bool) → More → b ≤ (cond c (reach at (now s t at b)) (turned m at s t (now s t at b) (family_of (get_or f at 0)))).best
      past true more = (now_rises s t at b h).0
      past false more = kind (family_of (get_or f at 0)) more

  -- where a replay may end here, this or a later place is the last one; this, where no frame goes on
  record Settled (m at : ℕ) (s : State) (t : Tally) (b : ℕ) : Type 0 where
    far : at ≤ (reached v f spans stop m at s t b).best
    here : family_of (get_or f at 0) ≡ none → reached v f spans stop m at s t b ≡ reach at at

  settles : (m at : ℕ) (s : State) (t : Tally) (b : ℕ) → rests v s t at ≡ true → Settled (suc m) at s t b
  unfolding reached on_family
  settles m at s t b r = past (leb stop at) refl
    where
      is_now : now s t at b ≡ at
      is_now = rw r

      step : (family : Family) (c : Bool)
          → at ≤ (cond c (reached v f spans stop m (at + span_at spans f at) (after s family (said_at f at)) (counted_of t s.rank s.id family (said_at f at)) at) (reach at at)).best
      step family true = rises m (at + span_at spans f at) (after s family (said_at f at)) (counted_of t s.rank s.id family (said_at f at)) at (omega arith)
      step family false = omega arith

      kind : (x : Option Family) → at ≤ (turned m at s t at x).best
      kind none = omega arith
      kind (some family) = step family (takes v ascending f spans stop s at family)

      past : (c : Bool) → leb stop at ≡ c → Settled (suc m) at s t b
      past true e =
          let q : reached v f spans stop (suc m) at s t b ≡ reach at at = rw e (ap (reach at) is_now) in
          record { far = omega (arith, ap (λ (x : Reached). x.best) q); here = λ n. q }
      past false e =
          let q : reached v f spans stop (suc m) at s t b ≡ turned m at s t at (family_of (get_or f at 0)) = rw e (ap (λ (k : ℕ). turned m at s t k (family_of (get_or f at 0))) is_now) in
          record {
            far = omega (arith, ap (λ (x : Reached). x.best) q, kind (family_of (get_or f at 0)));
            here = λ n. q ∙ ap (turned m at s t at) n;
          }

-- ---- frames that end at a place are reached

module _ (v : Version) (f g spans : List ℕ) (same : drop 15 f ≡ drop 15 g) (q stop : ℕ) (before : q ≤ stop) where
  abbrev Far : ℕ → ℕ → State → Tally → ℕ → ℕ → Type 0
  Far m at s t b last = (last ≤ (reached v f spans stop m at s t b).best) × (family_of (get_or f last 0) ≡ none → reached v f spans stop m at s t b ≡ reach last last)

  -- the frames end here
  ends_here : (m at : ℕ) (s : State) (t : Tally) (b last : ℕ) (t' : Tally) → cond (closed v s) (some at) none ≡ some last → cond (closed v s) (some t) none ≡ some t'
      → tally_fits v t' last ≡ true → Far (suc m) at s t b last
  unfolding rests
  ends_here m at s t b last t' e d fits =
      let (c, p) = taken (closed v s) (some at) last e in
      let at_is = some-injective at last p in
      let t-is = some-injective t t' (taken (closed v s) (some t) t' d).1 in
      let r : closed v s && tally_fits v t at ≡ true = rw (c, at_is, t-is) fits in
      let x = settles v f spans stop m at s t b r in
      subst (λ (k : ℕ). Far (suc m) at s t b k) at_is (x.far, x.here)

  -- an event is taken, and the frames after it are reached
  goes_on : (m at : ℕ) (s : State) (t : Tally) (b last : ℕ) (family : Family) → 15 ≤ at → at < stop → family_of (get_or f at 0) ≡ some family → takes v ascending f spans stop s at family ≡ true
      → Far m (at + span_at spans g at) (after s family (said_at g at)) (counted_of t s.rank s.id family (said_at g at)) (cond (rests v s t at) at b) last
      → Far (suc m) at s t b last
  unfolding reached on_family
  goes_on m at s t b last family h l is took (far, here) =
      let span = span_same f g same spans at h in
      let said = said_same f g same at h in
      let e : reached v f spans stop (suc m) at s t b
      ≡ reached v f spans stop m (at + span_at spans g at) (after s family (said_at g at)) (counted_of t s.rank s.id family (said_at g at)) (cond (rests v s t at) at b) =
      rw (lt-leb stop at l, is, took) (λ i. reached v f spans stop m (at + span i) (after s family (said i)) (counted_of t s.rank s.id family (said i)) (cond (rests v s t at) at b)) in
      (omega (arith, ap (λ (x : Reached). x.best) e), λ n. e ∙ here n)

  pub far : (n m at : ℕ) (s : State) (t : Tally) (b last : ℕ) (t' : Tally) → 15 ≤ at → at ≤ q → stop < at + m → scan v ascending g spans q n at s ≡ some last
      → tallied v ascending g spans q n at s t ≡ some t' → tally_fits v t' last ≡ true → Far m at s t b last
  unfolding scan tallied stops tells on_family
  far zero m at s t b last t' h u w e d fits = absurd (none-ne-some last e)
  far (suc n) zero at s t b last t' h u w e d fits = absurd (omega arith)
  far (suc n) (suc m) at s t b last t' h u w e d fits =
      past (leb q at) refl e d (λ at s t b h u w e d. far n m at s t b last t' h u w e d fits)
    where
      More : Type 0
      More = (at : ℕ) (s : State) (t : Tally) (b : ℕ) → 15 ≤ at → at ≤ q → stop < at + m → scan v ascending g spans q n at s ≡ some last
          → tallied v ascending g spans q n at s t ≡ some t' → Far m at s t b last

      kind : (x : Option Family) → family_of (get_or g at 0) ≡ x → at < q
          → on_family x (λ family. cond (takes v ascending g spans q s at family) (scan v ascending g spans q n (at + span_at spans g at) (after s family (said_at g at))) none) (cond (closed v s) (some at) none) ≡ some last
          → on_family x (λ family. cond (takes v ascending g spans q s at family) (tallied v ascending g spans q n (at + span_at spans g at) (after s family (said_at g at)) (counted_of t s.rank s.id family (said_at g at))) none) (cond (closed v s) (some t) none) ≡ some t'
          → More → Far (suc m) at s t b last
      kind none is l e d more = ends_here m at s t b last t' e d fits
      kind (some family) is l e d more =
          let (took, e') = taken (takes v ascending g spans q s at family) _ last e in
          let (took', d') = taken (takes v ascending g spans q s at family) _ t' d in
          let x = moved v f g spans same q stop s at family h (λ z. omega arith) took in
          goes_on m at s t b last family h (omega arith) (ap family_of (byte_same f g same at h) ∙ is) x.taken
          (more (at + span_at spans g at) (after s family (said_at g at)) (counted_of t s.rank s.id family (said_at g at)) (cond (rests v s t at) at b) (omega arith) x.ends (omega (arith, x.longer)) e' d')

      past : (c : Bool) → leb q at ≡ c
          → cond c (cond (closed v s) (some at) none) (on_family (family_of (get_or g at 0)) (λ family. cond (takes v ascending g spans q s at family) (scan v ascending g spans q n (at + span_at spans g at) (after s family (said_at g at))) none) (cond (closed v s) (some at) none)) ≡ some last
          → cond c (cond (closed v s) (some t) none) (on_family (family_of (get_or g at 0))
          (λ family. cond (takes v ascending g spans q s at family) (tallied v ascending g spans q n (at + span_at spans g at) (after s family (said_at g at)) (counted_of t s.rank s.id family (said_at g at))) none) (cond (closed v s) (some t) none))
          ≡ some t'
          → More → Far (suc m) at s t b last
      past true c e d more = ends_here m at s t b last t' e d fits
      past false c e d more = kind (family_of (get_or g at 0)) refl (leb-false q at c) e d more

-- ---- what is reached are frames that end

-- frames that end at a place end there before another place too: before it, or where no frame goes on
pub data Stops (g : List ℕ) (last p : ℕ) : Type 0 where
  all : p ≡ last → Stops g last p
  other : last < p → family_of (get_or g last 0) ≡ none → Stops g last p

stops_after : {g : List ℕ} {last p : ℕ} → Stops g last p → last ≤ p
stops_after (all e) = omega arith
stops_after (other l n) = omega arith

-- one turn of a scan

module _ (v : Version) (g spans : List ℕ) (p n at : ℕ) (s : State) where
  scan_now : closed v s ≡ true → Stops g at p → scan v ascending g spans p (suc n) at s ≡ some at
  unfolding scan stops on_family
  scan_now c (all e) = rw (le-leb p at (omega arith), c)
  scan_now c (other l f) = rw (lt-leb p at l, f, c)

  count_now : (t : Tally) → closed v s ≡ true → Stops g at p → tallied v ascending g spans p (suc n) at s t ≡ some t
  unfolding tallied tells on_family
  count_now t c (all e) = rw (le-leb p at (omega arith), c)
  count_now t c (other l f) = rw (lt-leb p at l, f, c)

  scan_next : (family : Family) → at < p → family_of (get_or g at 0) ≡ some family → takes v ascending g spans p s at family ≡ true
      → scan v ascending g spans p (suc n) at s ≡ scan v ascending g spans p n (at + span_at spans g at) (after s family (said_at g at))
  unfolding scan on_family
  scan_next family l f t = rw (lt-leb p at l, f, t)

  count_next : (t : Tally) (family : Family) → at < p → family_of (get_or g at 0) ≡ some family → takes v ascending g spans p s at family ≡ true
      → tallied v ascending g spans p (suc n) at s t ≡ tallied v ascending g spans p n (at + span_at spans g at) (after s family (said_at g at)) (counted_of t s.rank s.id family (said_at g at))
  unfolding tallied on_family
  count_next t family l f e = rw (lt-leb p at l, f, e)

module _ (v : Version) (f g spans : List ℕ) (same : drop 15 f ≡ drop 15 g) (stop : ℕ) where
  pub record Got (at : ℕ) (s : State) (t : Tally) (best : ℕ) : Type 0 where
    pub above : at ≤ best
    pub told : Tally
    pub fits : tally_fits v told best ≡ true
    pub scans : (p n : ℕ) → Stops g best p → p < at + n → scan v ascending g spans p n at s ≡ some best
    pub counts : (p n : ℕ) → Stops g best p → p < at + n → tallied v ascending g spans p n at s t ≡ some told

  -- at this place
  got_here : (at : ℕ) (s : State) (t : Tally) → rests v s t at ≡ true → Got at s t at
  unfolding rests
  got_here at s t r =
      let (c, d) = both (closed v s) (tally_fits v t at) r in
      record {
        above = omega arith;
        told = t;
        fits = d;
        scans = λ p n x l. scan_here c p n x l;
        counts = λ p n x l. count_here c p n x l;
      }
    where
      scan_here : closed v s ≡ true → (p n : ℕ) → Stops g at p → p < at + n → scan v ascending g spans p n at s ≡ some at
      scan_here c p zero x l = absurd (omega (arith, stops_after x))
      scan_here c p (suc n) x l = scan_now v g spans p n at s c x

      count_here : closed v s ≡ true → (p n : ℕ) → Stops g at p → p < at + n → tallied v ascending g spans p n at s t ≡ some t
      count_here c p zero x l = absurd (omega (arith, stops_after x))
      count_here c p (suc n) x l = count_now v g spans p n at s t c x

  -- before an event that is taken
  got_before : (at : ℕ) (s : State) (t : Tally) (family : Family) (best : ℕ) → 15 ≤ at → family_of (get_or f at 0) ≡ some family → takes v ascending f spans stop s at family ≡ true
      → Got (at + span_at spans f at) (after s family (said_at f at)) (counted_of t s.rank s.id family (said_at f at)) best → Got at s t best
  got_before at s t family best h is took x =
      let first = moved v f f spans refl stop stop s at family h (λ z. z) took in
      record {
        above = omega (arith, x.above);
        told = x.told;
        fits = x.fits;
        scans = λ p n st l. scan_on p n st l first;
        counts = λ p n st l. count_on p n st l first;
      }
    where
      is_g : family_of (get_or g at 0) ≡ some family
      is_g = ap family_of (sym (byte_same f g same at h)) ∙ is

      took_g : (p : ℕ) → at + span_at spans f at ≤ p → takes v ascending g spans p s at family ≡ true
      took_g p l = (moved v g f spans (sym same) stop p s at family h (λ z. l) took).taken

      scan_on : (p n : ℕ) → Stops g best p → p < at + n → Moved v f f spans refl stop stop s at family → scan v ascending g spans p n at s ≡ some best
      scan_on p zero st l m = absurd (omega (arith, stops_after st, x.above, m.longer))
      scan_on p (suc n) st l m =
          scan_next v g spans p n at s family (omega (arith, stops_after st, x.above, m.longer)) is_g (took_g p (omega (arith, stops_after st, x.above)))
          ∙ (λ i. scan v ascending g spans p n (at + sym (span_same f g same spans at h) i) (after s family (sym (said_same f g same at h) i)))
          ∙ x.scans p n st (omega (arith, m.longer))

      count_on : (p n : ℕ) → Stops g best p → p < at + n → Moved v f f spans refl stop stop s at family → tallied v ascending g spans p n at s t ≡ some x.told
      count_on p zero st l m = absurd (omega (arith, stops_after st, x.above, m.longer))
      count_on p (suc n) st l m =
          count_next v g spans p n at s t family (omega (arith, stops_after st, x.above, m.longer)) is_g (took_g p (omega (arith, stops_after st, x.above)))
          ∙ (λ i. tallied v ascending g spans p n (at + sym (span_same f g same spans at h) i) (after s family (sym (said_same f g same at h) i)) (counted_of t s.rank s.id family (sym (said_same f g same at h) i)))
          ∙ x.counts p n st (omega (arith, m.longer))

  -- nothing new was reached, or frames that end there
  pub data Near (at : ℕ) (s : State) (t : Tally) (b best : ℕ) : Type 0 where
    old : best ≡ b → Near at s t b best
    new : Got at s t best → Near at s t b best

  near_now : (at : ℕ) (s : State) (t : Tally) (b : ℕ) → Near at s t b (cond (rests v s t at) at b)
  near_now at s t b = go (rests v s t at) refl
    where
      go : (c : Bool) → rests v s t at ≡ c → Near at s t b (cond c at b)
      go true r = new (got_here at s t r)
      go false r = old refl

  near_as : (at : ℕ) (s : State) (t : Tally) (b best : ℕ) → best ≡ cond (rests v s t at) at b → Near at s t b best
  near_as at s t b best e = subst (Near at s t b) (sym e) (near_now at s t b)

  pub near : (m at : ℕ) (s : State) (t : Tally) (b : ℕ) → 15 ≤ at → Near at s t b (reached v f spans stop m at s t b).best
  unfolding reached on_family
  near zero at s t b h = old refl
  near (suc m) at s t b h = past (leb stop at) (λ at s t b h. near m at s t b h)
    where
      More : Type 0
      More = (at : ℕ) (s : State) (t : Tally) (b : ℕ) → 15 ≤ at → Near at s t b (reached v f spans stop m at s t b).best

      next : (family : Family) → family_of (get_or f at 0) ≡ some family → takes v ascending f spans stop s at family ≡ true → (best : ℕ)
          → Near (at + span_at spans f at) (after s family (said_at f at)) (counted_of t s.rank s.id family (said_at f at)) (cond (rests v s t at) at b) best → Near at s t b best
      next family is took best (old e) = near_as at s t b best e
      next family is took best (new x) = new (got_before at s t family best h is took x)

      step : (family : Family) → family_of (get_or f at 0) ≡ some family → (c : Bool) → takes v ascending f spans stop s at family ≡ c → More
          → Near at s t b (cond c (reached v f spans stop m (at + span_at spans f at) (after s family (said_at f at)) (counted_of t s.rank s.id family (said_at f at)) (cond (rests v s t at) at b)) (reach at (cond (rests v s t at) at b))).best
      step family is true took more =
          next family is took _ (more (at + span_at spans f at) (after s family (said_at f at)) (counted_of t s.rank s.id family (said_at f at)) (cond (rests v s t at) at b) (omega arith))
      step family is false took more = near_now at s t b

      kind : (x : Option Family) → family_of (get_or f at 0) ≡ x → More → Near at s t b (turned v f spans stop m at s t (cond (rests v s t at) at b) x).best
      kind none is more = near_now at s t b
      kind (some family) is more = step family is (takes v ascending f spans stop s at family) refl more

      past : (c : Bool) → More → Near at s t b (cond c (reach at (cond (rests v s t at) at b)) (turned v f spans stop m at s t (cond (rests v s t at) at b) (family_of (get_or f at 0)))).best
      past true more = near_now at s t b
      past false more = kind (family_of (get_or f at 0)) refl more
