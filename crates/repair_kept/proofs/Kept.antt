-- What is kept of a file: all tests pass up to there, and up to no later place.
-- Assumes nothing.
use Prim.Native.Nat.{ℕ, zero, suc, ◌+◌, ◌*◌, ◌≤◌, ◌<◌}
use mathlib.Core.Path.{◌≡◌, refl, sym, ap, subst, ◌∙◌}
use mathlib.Core.Bool.{Bool, true, false, cond, ◌&&◌, ◌||◌}
use mathlib.Core.List.{List}
use mathlib.Core.Option.{Option, none, some}
use native.Mathlib.Decide.{dec_lt, ℕ_discrete}
use native.Mathlib.Omega.{arith}
use borrow.Author.Tests.{le-leb, lt-leb, leb-true, eqb-true, eqb-false, ltb-true, lt-ltb, eq-eqb, ne_eqb}
use lib.Dec.{leb, eqb, ltb}
use lib.ListN.{length, get_or, drop}
use Rattle.format.specs.declared.version.Version.{Version}
use Rattle.layout.specs.Columns.{has_family}
use Rattle.layout.specs.Payloads.{record_size, end_size}
use Rattle.layout.specs.declared.columns.Family.{Family}
use Rattle.layout.specs.declared.columns.Family.TheVariants.{FrameStart}
use Rattle.grammar.specs.WellFormed.{ascending}
use Rattle.grammar.specs.Machine.{family_of, State, initial, closed, orderly, after, on_family}
use Rattle.grammar.proofs.Tests.{both}
use Rattle.grammar.proofs.Takes.{closed_last}
use Rattle.read_scan.specs.Counts.{no_tally, counted_of}
use Rattle.read_scan.specs.Inner.{said_at, span_at, takes_at, takes, stops, scan, tells, tallied}
use Rattle.read_scan.specs.declared.tally.Tally.{Tally}
use Rattle.read_outline.specs.Inner.{codes_at, ends_at}
use Rattle.read_outline.specs.Listed.{listed_right}
use Rattle.read_outline.specs.declared.answer.Codes.{Codes}
use Rattle.read_outline.specs.declared.answer.Codes.TheVariants as codes
use Rattle.read_outline.specs.declared.answer.Ends.{Ends}
use Rattle.read_outline.specs.declared.answer.Ends.TheVariants as ended
use Rattle.read_judge.specs.Inner.{changes}
use Rattle.read_judge.proofs.Passes.{codes_within, scan_within, scan_back}
use Rattle.repair_scan.specs.Inner.{short, few, tally_fits, rests, is_good, start_only, reach, reached, ends_to, ends_from, with_ends, from_codes, kept_from}
use Rattle.repair_scan.specs.declared.pass.Reached.{Reached}
use Rattle.repair_kept.proofs.Same.{no_way, byte_same, rises, far, Stops, all, other, Got, Near, old, new, near}
use Rattle.repair_kept.proofs.Around.{codes_move, codes_above, codes_nothing, ends_same, EndsTo, none_there, one_there, two_there, ends_to_lem, ends_nothing}

-- the tests of `read`, over a file whose events end at q, after a start block that ends at a place
pub record Tests (v : Version) (g spans : List ℕ) (at q : ℕ) : Type 0 where
  pub place : ℕ
  pub blocks : ℕ
  pub actual : ℕ
  pub last : ℕ
  pub told : Tally
  pub count : ℕ
  pub coded : codes_at v g spans at q ≡ codes.Ended place blocks actual
  pub listed : listed_right v (get_or spans 0x3D 0) blocks actual ≡ true
  pub some_blocks : blocks ≤ 32768
  pub ran : scan v ascending g spans q (suc q) place initial ≡ some last
  pub counts : tallied v ascending g spans q (suc q) place initial no_tally ≡ some told
  pub changed : changes v told ≡ true
  pub small : few told ≡ true
  pub good : ends_at v g spans last q ≡ ended.Good count

-- ---- a frame's end is no frame

end_none : (c : ℕ) → c ≡ 0x39 → family_of c ≡ none
unfolding family_of
end_none c e = ap family_of e

good_is : (e : Ends) → is_good e ≡ true → (n : ℕ) × (e ≡ ended.Good n)
unfolding is_good
good_is (ended.Good n) q = (n, refl)
good_is ended.Wrong q = no_way q

good_so : (e : Ends) (n : ℕ) → e ≡ ended.Good n → is_good e ≡ true
unfolding is_good
good_so e n q = ap is_good q

short_so : (p : ℕ) → p < 4294967311 → short p ≡ true
unfolding short
short_so p l = lt-ltb p 4294967311 l

short_is : (p : ℕ) → short p ≡ true → p < 4294967311
unfolding short
short_is p e = ltb-true p 4294967311 e

fits_so : (v : Version) (t : Tally) (p : ℕ) → changes v t ≡ true → few t ≡ true → p < 4294967311 → tally_fits v t p ≡ true
unfolding tally_fits
fits_so v t p a b l = rw (a, b) (short_so p l)

record Fits (v : Version) (t : Tally) (p : ℕ) : Type 0 where
  changed : changes v t ≡ true
  small : few t ≡ true
  low : p < 4294967311

fits_is : (v : Version) (t : Tally) (p : ℕ) → tally_fits v t p ≡ true → Fits v t p
unfolding tally_fits
fits_is v t p e =
    let (a, b) = both (changes v t) (few t && short p) e in
    let (c, d) = both (few t) (short p) b in
    record { changed = a; small = c; low = short_is p d }

-- ---- what is reached lies between

module _ (v : Version) (f spans : List ℕ) (stop : ℕ) where
  abbrev Between : ℕ → Reached → Type 0
  Between at r = (r.best ≤ stop) × (at ≤ r.at)

  taken_within : (s : State) (at : ℕ) (family : Family) → takes v ascending f spans stop s at family ≡ true → at + span_at spans f at ≤ stop
  unfolding takes_at
  taken_within s at family t =
      let n = span_at spans f at in
      let r = (both (has_family v family && eqb n (1 + record_size family v)) (leb (at + n) stop && orderly v ascending s family (said_at f at)) t).1 in
      leb-true (at + n) stop (both (leb (at + n) stop) (orderly v ascending s family (said_at f at)) r).0

  between : (m at : ℕ) (s : State) (t : Tally) (b : ℕ) → at ≤ stop → b ≤ stop → Between at (reached v f spans stop m at s t b)
  unfolding reached on_family
  between zero at s t b h k = (k, omega arith)
  between (suc m) at s t b h k = past (leb stop at) (cond (rests v s t at) at b) (lower (rests v s t at)) (λ at s t b h k. between m at s t b h k)
    where
      More : Type 0
      More = (at : ℕ) (s : State) (t : Tally) (b : ℕ) → at ≤ stop → b ≤ stop → Between at (reached v f spans stop m at s t b)

      lower : (c : Bool) → cond c at b ≤ stop
      lower true = h
      lower false = k

      step : (family : Family) (c : Bool) → takes v ascending f spans stop s at family ≡ c → (n : ℕ) → n ≤ stop → More
          → Between at (cond c (reached v f spans stop m (at + span_at spans f at) (after s family (said_at f at)) (counted_of t s.rank s.id family (said_at f at)) n) (reach at n))
      step family true took n l more =
          let (x, y) = more (at + span_at spans f at) (after s family (said_at f at)) (counted_of t s.rank s.id family (said_at f at)) n (taken_within s at family took) l in
          (x, omega arith)
      step family false took n l more = (l, omega arith)

      kind : (x : Option Family) (n : ℕ) → n ≤ stop → More
          → Between at (on_family x (λ family. cond (takes v ascending f spans stop s at family) (reached v f spans stop m (at + span_at spans f at) (after s family (said_at f at)) (counted_of t s.rank s.id family (said_at f at)) n) (reach at n)) (reach at n))
      kind none n l more = (l, omega arith)
      kind (some family) n l more = step family (takes v ascending f spans stop s at family) refl n l more

      past : (c : Bool) (n : ℕ) → n ≤ stop → More
          → Between at (cond c (reach at n) (on_family (family_of (get_or f at 0))
          (λ family. cond (takes v ascending f spans stop s at family) (reached v f spans stop m (at + span_at spans f at) (after s family (said_at f at)) (counted_of t s.rank s.id family (said_at f at)) n) (reach at n)) (reach at n)))
      past true n l more = (l, omega arith)
      past false n l more = kind (family_of (get_or f at 0)) n l more

-- ---- up to what is kept, all tests pass

module _ (v : Version) (f g spans : List ℕ) (same : drop 15 f ≡ drop 15 g) (stop : ℕ) where
  -- all of it
  pub record Sound (at p : ℕ) : Type 0 where
    pub tests : Tests v g spans at p
    pub within : p ≤ stop
    pub low : p < 4294967311
    pub above : at ≤ p

  record EndsWell (last p : ℕ) : Type 0 where
    count : ℕ
    good : ends_at v g spans last p ≡ ended.Good count
    stops_there : Stops g last p
    within : p ≤ stop
    low : p < 4294967311
    above : last ≤ p

  good_to : (last p : ℕ) → 15 ≤ last → last < p → ends_to v f spans stop last p ≡ true → EndsWell last p
  unfolding ends_to
  good_to last p h less t =
      let (a, r) = both (leb p stop) (short p && is_good (ends_at v f spans last p)) t in
      let (b, c) = both (short p) (is_good (ends_at v f spans last p)) r in
      let (n, e) = good_is (ends_at v f spans last p) c in
      let there = sym (ends_same v f g spans same p last h) ∙ e in
      let x = ends_to_lem v g spans last p n there in
      record { count = n; good = there; stops_there = behind x; within = leb-true p stop a; low = short_is p b; above = omega arith }
    where
      behind : EndsTo v g last p → Stops g last p
      behind (none_there e) = absurd (omega arith)
      behind (one_there c e) = other (omega arith) (end_none (get_or g last 0) c)
      behind (two_there c e) = other (omega arith) (end_none (get_or g last 0) c)

  well_from : (last : ℕ) → 15 ≤ last → last ≤ stop → last < 4294967311 → EndsWell last (ends_from v f spans stop last)
  unfolding ends_from
  well_from last h w l = go (ends_to v f spans stop last (last + n + n)) refl (ends_to v f spans stop last (last + n)) refl
    where
      n : ℕ
      n = 1 + end_size v

      go : (a : Bool) → ends_to v f spans stop last (last + n + n) ≡ a → (b : Bool) → ends_to v f spans stop last (last + n) ≡ b → EndsWell last (cond a (last + n + n) (cond b (last + n) last))
      go true x b y = good_to last (last + n + n) h (omega arith) x
      go false x true y = good_to last (last + n) h (omega arith) y
      go false x false y = record { count = 0; good = ends_nothing v g spans last; stops_there = all refl; within = w; low = l; above = omega arith }

  -- frames that end, with ends behind them
  sound_by : (at place blocks actual : ℕ) → 15 ≤ at → codes_at v f spans at stop ≡ codes.Ended place blocks actual → listed_right v (get_or spans 0x3D 0) blocks actual ≡ true → blocks ≤ 32768
      → (last p : ℕ) → Got v f g spans same stop place initial no_tally last → EndsWell last p → Sound at p
  sound_by at place blocks actual h coded right some_blocks last p x e =
      let up = codes_above v f g spans same stop p at place blocks actual coded in
      let fits = fits_is v x.told last x.fits in
      record {
        tests = record {
          place = place;
          blocks = blocks;
          actual = actual;
          last = last;
          told = x.told;
          count = e.count;
          coded = codes_move v f g spans same stop p at place blocks actual h coded (omega (arith, x.above, e.above)) (λ l. omega (arith, e.within));
          listed = right;
          some_blocks = some_blocks;
          ran = x.scans p (suc p) e.stops_there (omega arith);
          counts = x.counts p (suc p) e.stops_there (omega arith);
          changed = fits.changed;
          small = fits.small;
          good = e.good;
        };
        within = e.within;
        low = e.low;
        above = omega (arith, x.above, e.above);
      }

  -- from codes on
  sound_ends : (at place blocks actual : ℕ) → 15 ≤ at → at ≤ stop → codes_at v f spans at stop ≡ codes.Ended place blocks actual → listed_right v (get_or spans 0x3D 0) blocks actual ≡ true
      → blocks ≤ 32768 → (r : Reached) → r ≡ reached v f spans stop (suc stop) place initial no_tally 0 → (with_ends v f spans stop r ≡ 0 → ⊥) → Sound at (with_ends v f spans stop r)
  unfolding with_ends
  sound_ends at place blocks actual h u coded right some_blocks r r_is n0 =
      let up = codes_above v f g spans same stop stop at place blocks actual coded in
      let below = codes_within f spans stop place v at blocks actual coded u in
      let (w, l) = between v f spans stop (suc stop) place initial no_tally 0 below (omega arith) in
      let best-in : r.best ≤ stop = omega (arith, ap (λ (x : Reached). x.best) r_is) in
      let at_up : place ≤ r.at = omega (arith, ap (λ (x : Reached). x.at) r_is) in
      how (subst (Near v f g spans same stop place initial no_tally 0) (ap (λ (x : Reached). x.best) (sym r_is)) (near v f g spans same stop (suc stop) place initial no_tally 0 (omega arith)))
      (omega arith) best-in (eqb r.at r.best) refl n0
    where
      how : Near v f g spans same stop place initial no_tally 0 r.best → 15 ≤ r.at → r.best ≤ stop → (c : Bool) → eqb r.at r.best ≡ c
          → (cond c (ends_from v f spans stop r.at) r.best ≡ 0 → ⊥) → Sound at (cond c (ends_from v f spans stop r.at) r.best)
      how (old e) big w true q n0 = absurd (omega (arith, eqb-true r.at r.best q))
      how (old e) big w false q n0 = absurd (n0 e)
      how (new x) big w true q n0 =
          let same_place = eqb-true r.at r.best q in
          let low = (fits_is v x.told r.best x.fits).low in
          sound_by at place blocks actual h coded right some_blocks r.at (ends_from v f spans stop r.at) (subst (Got v f g spans same stop place initial no_tally) (sym same_place) x)
          (well_from r.at big (omega arith) (omega arith))
      how (new x) big w false q n0 =
          let low = (fits_is v x.told r.best x.fits).low in
          sound_by at place blocks actual h coded right some_blocks r.best r.best x
          (record { count = 0; good = ends_nothing v g spans r.best; stops_there = all refl; within = w; low = low; above = omega arith })

  sound_codes : (at : ℕ) → 15 ≤ at → at ≤ stop → (c : Codes) → c ≡ codes_at v f spans at stop → (from_codes v f spans stop c ≡ 0 → ⊥) → Sound at (from_codes v f spans stop c)
  unfolding from_codes
  sound_codes at h u codes.Wrong e n0 = absurd (n0 refl)
  sound_codes at h u (codes.Ended place blocks actual) e n0 = go (listed_right v (get_or spans 0x3D 0) blocks actual) refl (leb blocks 32768) refl n0
    where
      go : (a : Bool) → listed_right v (get_or spans 0x3D 0) blocks actual ≡ a → (b : Bool) → leb blocks 32768 ≡ b
          → (cond (a && b) (with_ends v f spans stop (reached v f spans stop (suc stop) place initial no_tally 0)) 0 ≡ 0 → ⊥)
          → Sound at (cond (a && b) (with_ends v f spans stop (reached v f spans stop (suc stop) place initial no_tally 0)) 0)
      go true x true y n0 = sound_ends at place blocks actual h u (sym e) x (leb-true blocks 32768 y) (reached v f spans stop (suc stop) place initial no_tally 0) refl n0
      go true x false y n0 = absurd (n0 refl)
      go false x b y n0 = absurd (n0 refl)

  -- the start alone
  no_tally_changes : changes v no_tally ≡ true
  unfolding changes
  no_tally_changes = go (has_family v FrameStart)
    where
      go : (b : Bool) → b || true ≡ true
      go true = refl
      go false = refl

  no_tally_few : few no_tally ≡ true
  unfolding few
  no_tally_few = refl

  sound_start : (at : ℕ) → at ≤ stop → (start_only v spans at ≡ 0 → ⊥) → Sound at (start_only v spans at)
  unfolding start_only scan tallied stops tells
  sound_start at u n0 = go (listed_right v (get_or spans 0x3D 0) 0 0) refl (short at) refl n0
    where
      go : (a : Bool) → listed_right v (get_or spans 0x3D 0) 0 0 ≡ a → (b : Bool) → short at ≡ b → (cond (a && b) at 0 ≡ 0 → ⊥) → Sound at (cond (a && b) at 0)
      go true x true y n0 = record {
        tests = record {
          place = at;
          blocks = 0;
          actual = 0;
          last = at;
          told = no_tally;
          count = 0;
          coded = codes_nothing v g spans at;
          listed = x;
          some_blocks = omega arith;
          ran = rw (le-leb at at (omega arith), closed_last v 0);
          counts = rw (le-leb at at (omega arith), closed_last v 0);
          changed = no_tally_changes;
          small = no_tally_few;
          good = ends_nothing v g spans at;
        };
        within = u;
        low = short_is at y;
        above = omega arith;
      }
      go true x false y n0 = absurd (n0 refl)
      go false x b y n0 = absurd (n0 refl)

  pub sound : (at : ℕ) → 15 ≤ at → at ≤ stop → (kept_from v f spans stop at ≡ 0 → ⊥) → Sound at (kept_from v f spans stop at)
  unfolding kept_from
  sound at h u n0 = go (from_codes v f spans stop (codes_at v f spans at stop)) (eqb (from_codes v f spans stop (codes_at v f spans at stop)) 0) refl n0
    where
      go : (p : ℕ) → (b : Bool) → eqb (from_codes v f spans stop (codes_at v f spans at stop)) 0 ≡ b
          → (cond b (start_only v spans at) (from_codes v f spans stop (codes_at v f spans at stop)) ≡ 0 → ⊥)
          → Sound at (cond b (start_only v spans at) (from_codes v f spans stop (codes_at v f spans at stop)))
      go p true q n0 = sound_start at u n0
      go p false q n0 = sound_codes at h u (codes_at v f spans at stop) refl (eqb-false (from_codes v f spans stop (codes_at v f spans at stop)) 0 q)

-- ---- where there are codes, and where there is a start alone

from_codes_lem : (v : Version) (f spans : List ℕ) (stop place blocks actual : ℕ) → listed_right v (get_or spans 0x3D 0) blocks actual ≡ true → blocks ≤ 32768
    → from_codes v f spans stop (codes.Ended place blocks actual) ≡ with_ends v f spans stop (reached v f spans stop (suc stop) place initial no_tally 0)
unfolding from_codes
from_codes_lem v f spans stop place blocks actual a b = rw (a, le-leb blocks 32768 b)

scan_above : (v : Version) (g spans : List ℕ) (q n place : ℕ) (s : State) (last : ℕ) → scan v ascending g spans q n place s ≡ some last → place ≤ last
scan_above v g spans q n place s last e = scan_back g spans q (λ p. p ≤ last) (λ p a b c. omega arith) v ascending n place s last e (omega arith)

start_up : (v : Version) (f g spans : List ℕ) (same : drop 15 f ≡ drop 15 g) (stop at : ℕ) → 15 ≤ at → at ≤ stop → listed_right v (get_or spans 0x3D 0) 0 0 ≡ true → at < 4294967311
    → (q : ℕ) → q ≤ at → q ≤ kept_from v f spans stop at
unfolding kept_from start_only
start_up v f g spans same stop at h u right low q l = go (from_codes v f spans stop (codes_at v f spans at stop)) refl (eqb (from_codes v f spans stop (codes_at v f spans at stop)) 0) refl
  where
    go : (p : ℕ) → from_codes v f spans stop (codes_at v f spans at stop) ≡ p → (b : Bool) → eqb (from_codes v f spans stop (codes_at v f spans at stop)) 0 ≡ b
        → q ≤ cond b (cond (listed_right v (get_or spans 0x3D 0) 0 0 && short at) at 0) (from_codes v f spans stop (codes_at v f spans at stop))
    go p e true x = let z : cond (listed_right v (get_or spans 0x3D 0) 0 0 && short at) at 0 ≡ at = rw (right, short_so at low) in omega arith
    go p e false x =
        let y = (sound_codes v f g spans same stop at h u (codes_at v f spans at stop) refl (eqb-false (from_codes v f spans stop (codes_at v f spans at stop)) 0 x)).above in
        omega arith

-- ---- and up to no later place

module _ (v : Version) (f g spans : List ℕ) (same : drop 15 f ≡ drop 15 g) (q stop : ℕ) (before : q ≤ stop) (low : q < 4294967311) where
  ends_up : (last : ℕ) → last ≤ ends_from v f spans stop last
  unfolding ends_from
  ends_up last = go (ends_to v f spans stop last (last + (1 + end_size v) + (1 + end_size v))) (ends_to v f spans stop last (last + (1 + end_size v)))
    where
      go : (a b : Bool) → last ≤ cond a (last + (1 + end_size v) + (1 + end_size v)) (cond b (last + (1 + end_size v)) last)
      go true b = omega arith
      go false true = omega arith
      go false false = omega arith

  ends_good : (last count : ℕ) → 15 ≤ last → ends_at v g spans last q ≡ ended.Good count → ends_to v f spans stop last q ≡ true
  unfolding ends_to
  ends_good last count h e = rw (le-leb q stop before, short_so q low) (good_so (ends_at v f spans last q) count (ends_same v f g spans same q last h ∙ e))

  ends_reach : (last count : ℕ) → 15 ≤ last → ends_at v g spans last q ≡ ended.Good count → EndsTo v g last q → q ≤ ends_from v f spans stop last
  unfolding ends_from
  ends_reach last count h e (none_there x) = omega (arith, ends_up last)
  ends_reach last count h e (two_there c x) =
      let t : ends_to v f spans stop last (last + (1 + end_size v) + (1 + end_size v)) ≡ true = ap (ends_to v f spans stop last) (sym x) ∙ ends_good last count h e in
      let z : ends_from v f spans stop last ≡ last + (1 + end_size v) + (1 + end_size v) = rw t in
      omega arith
  ends_reach last count h e (one_there c x) =
      let t : ends_to v f spans stop last (last + (1 + end_size v)) ≡ true = ap (ends_to v f spans stop last) (sym x) ∙ ends_good last count h e in
      go (ends_to v f spans stop last (last + (1 + end_size v) + (1 + end_size v))) (ends_to v f spans stop last (last + (1 + end_size v))) t
    where
      go : (a b : Bool) → b ≡ true → q ≤ cond a (last + (1 + end_size v) + (1 + end_size v)) (cond b (last + (1 + end_size v)) last)
      go true b t = omega arith
      go false true t = omega arith
      go false false t = no_way t

  with_up : (r : Reached) → r.best ≤ with_ends v f spans stop r
  unfolding with_ends
  with_up r = go (eqb r.at r.best) refl
    where
      go : (c : Bool) → eqb r.at r.best ≡ c → r.best ≤ cond c (ends_from v f spans stop r.at) r.best
      go true e = omega (arith, ends_up r.at, eqb-true r.at r.best e)
      go false e = omega arith

  with_ends_lem : (last : ℕ) → with_ends v f spans stop (reach last last) ≡ ends_from v f spans stop last
  unfolding with_ends
  with_ends_lem last = rw (eq-eqb last last refl)

  most_codes : (at : ℕ) → 15 ≤ at → at < q → Tests v g spans at q → q ≤ from_codes v f spans stop (codes_at v f spans at stop)
  most_codes at h less t =
      let up = codes_above v g f spans (sym same) q q at t.place t.blocks t.actual t.coded in
      let below = codes_within g spans q t.place v at t.blocks t.actual t.coded (omega arith) in
      let there = codes_move v g f spans (sym same) q stop at t.place t.blocks t.actual h t.coded (omega arith) (λ z. less) in
      let last-in = scan_within g spans q t.last v ascending (suc q) t.place initial t.ran below in
      let (a, b) = far v f g spans same q stop before (suc q) (suc stop) t.place initial no_tally 0 t.last t.told (omega arith) below (omega arith) t.ran t.counts
      (fits_so v t.told t.last t.changed t.small (omega arith)) in
      let last_up = above t.last t.place t.ran in
      from there (how (ends_to_lem v g spans t.last q t.count t.good) a b (omega arith))
    where
      r : Reached
      r = reached v f spans stop (suc stop) t.place initial no_tally 0

      above : (last place : ℕ) → scan v ascending g spans q (suc q) place initial ≡ some last → place ≤ last
      above last place e = scan_above v g spans q (suc q) place initial last e

      how : EndsTo v g t.last q → t.last ≤ r.best → (family_of (get_or f t.last 0) ≡ none → r ≡ reach t.last t.last) → 15 ≤ t.last → q ≤ with_ends v f spans stop r
      how (none_there e) a b k = let z = with_up r in omega arith
      how (one_there c e) a b k =
          let x = b (end_none (get_or f t.last 0) (byte_same f g same t.last k ∙ c)) in
          let y = ap (with_ends v f spans stop) x ∙ with_ends_lem t.last in
          let z = ends_reach t.last t.count k t.good (one_there c e) in
          omega arith
      how (two_there c e) a b k =
          let x = b (end_none (get_or f t.last 0) (byte_same f g same t.last k ∙ c)) in
          let y = ap (with_ends v f spans stop) x ∙ with_ends_lem t.last in
          let z = ends_reach t.last t.count k t.good (two_there c e) in
          omega arith

      from : codes_at v f spans at stop ≡ codes.Ended t.place t.blocks t.actual → q ≤ with_ends v f spans stop r → q ≤ from_codes v f spans stop (codes_at v f spans at stop)
      from e l = let z = ap (from_codes v f spans stop) e ∙ from_codes_lem v f spans stop t.place t.blocks t.actual t.listed t.some_blocks in omega arith

  most_start : (at : ℕ) → 15 ≤ at → at ≤ stop → at ≡ q → Tests v g spans at q → q ≤ kept_from v f spans stop at
  most_start at h u e t =
      let c = sym (ap (codes_at v g spans at) e ∙ t.coded) ∙ codes_nothing v g spans at in
      let b : t.blocks ≡ 0 = cc in
      let a : t.actual ≡ 0 = cc in
      let right : listed_right v (get_or spans 0x3D 0) 0 0 ≡ true = (λ i. listed_right v (get_or spans 0x3D 0) (sym b i) (sym a i)) ∙ t.listed in
      start_up v f g spans same stop at h u right (omega arith) q (omega arith)

  pub most : (at : ℕ) → 15 ≤ at → at ≤ q → Tests v g spans at q → q ≤ kept_from v f spans stop at
  unfolding kept_from
  most at h u t = elim (dec_lt at q) [
    | yes l ↦ go (most_codes at h l t) (eqb (from_codes v f spans stop (codes_at v f spans at stop)) 0) refl
    | no n ↦ most_start at h (omega arith) (omega arith) t
  ]
    where
      go : q ≤ from_codes v f spans stop (codes_at v f spans at stop) → (b : Bool) → eqb (from_codes v f spans stop (codes_at v f spans at stop)) 0 ≡ b
          → q ≤ cond b (start_only v spans at) (from_codes v f spans stop (codes_at v f spans at stop))
      go l true e = absurd (omega (arith, eqb-true (from_codes v f spans stop (codes_at v f spans at stop)) 0 e))
      go l false e = l
