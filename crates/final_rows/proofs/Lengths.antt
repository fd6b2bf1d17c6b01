-- The laws of a frame's length.
-- Assumes nothing.
use mathlib.Core.Path.{◌≡◌, refl, sym, ap, ◌∙◌}
use mathlib.Core.Bool.{Bool, true, false, cond}
use mathlib.Core.List.{List, append-nil}
use Prim.Native.Nat.{ℕ, ◌+◌, ◌-◌, ◌*◌, ◌≤◌, ◌<◌}
use native.Mathlib.Nat.{mul-zero, one-mul, add-zero, mul-add, mul-le-mul}
use native.Mathlib.Omega.{arith}
use lib.ListN.{length, get_or, drop}
use Rattle.wire.specs.Wire.{ranged}
use Rattle.wire.proofs.Sums.{summed, length_summed}
use Rattle.format.specs.File.{events_bytes}
use Rattle.format.proofs.Files.{events_ranged}
use Rattle.format.specs.declared.version.Version.{Version}
use Rattle.layout.specs.Columns.{has_family}
use Rattle.layout.specs.Payloads.{record_size}
use Rattle.layout.specs.declared.columns.Family.{Family}
use Rattle.layout.specs.declared.columns.Family.TheVariants.{Pre, Post, FrameStart, Item, FrameEnd, FodPlatform, DreamlandWhispy, StadiumTransformation}
use Rattle.game.specs.Frames.{slots_of, rows_of}
use Rattle.game.specs.Stores.{Lent, Offsets}
use Rattle.game.specs.declared.frames.Frames.{Frames}
use Rattle.players.specs.Inner.{Modest, Ranges, slot_in, slots_in}
use Rattle.players.specs.Presence.{count_from, marked, present_at}
use Rattle.players.specs.declared.slots.Slots.{Slots}
use Rattle.append.proofs.Lengths.{over_step}
use Rattle.players.proofs.CountLaws.{rows_most}
use Rattle.events.specs.Events.{frame_events, frames_events}
use Rattle.events.specs.Inner.{Framed}
use Rattle.events.specs.Length.{event_size, players_over, rows_between, run_length, frames_length}
use Rattle.events.proofs.Sizes.{has_pre, has_post}
use Rattle.events.proofs.Lengths.{length_frames, length_run}
use Rattle.final_rows.specs.Inner.{length_of, Sized}
use Rattle.final_rows.specs.declared.sizes.Sizes.{Sizes}
use Rattle.final_rows.proofs.Sums.{summed_within}

pub size_is : (v : Version) (family : Family) (s : ℕ) (b : Bool) → b ≡ has_family v family → b ≡ true → s ≡ record_size family v → 1 + s ≡ event_size v family
size_is v family s b e t p = rw (sym e ∙ t, p)

pub size_none : (v : Version) (family : Family) (b : Bool) → b ≡ has_family v family → b ≡ false → 0 ≡ event_size v family
size_none v family b e t = rw (sym e ∙ t)

-- an event that has bytes is one of the version's
pub size_has : (v : Version) (family : Family) (size : ℕ) → size ≡ event_size v family → (size ≡ 0 → ⊥) → has_family v family ≡ true
size_has v family size e some = go (has_family v family) e
  where
    go : (b : Bool) → size ≡ cond b (1 + record_size family v) 0 → b ≡ true
    go true q = refl
    go false q = absurd (some q)

pub no_rows : (v : Version) (family : Family) (size n : ℕ) → size ≡ event_size v family → size ≡ 0 → 0 ≡ n * event_size v family
no_rows v family size n e z = sym (ap (λ (k : ℕ). n * k) (sym e ∙ z) ∙ mul-zero n)

module _ (f : Frames) (family : Family) (os : List ℕ) (i : ℕ) (m : Modest f) (r : Ranges f.counts.frames (rows_of f family) os) (h : i < f.counts.frames) where
  pub rows_few : rows_between os i (i + 1) ≤ 4194304
  rows_few = omega (arith, r.inside (i + 1) (omega arith), rows_most f family m)

pub rows_small : (n s : ℕ) → n ≤ 4194304 → s ≤ 256 → n * s ≤ 1073741824
rows_small n s h k = mul-le-mul h k

pub count_one : (p : ℕ → Bool) (i : ℕ) → count_from p i 1 ≡ cond (p i) 1 0
unfolding count_from
count_one p i = add-zero (cond (p i) 1 0)

-- ---- a frame, part after part
pub frame_adds : (f : Frames) (o : Offsets) (bits : List ℕ) (i : ℕ) (z : Sizes) (p x3 x4 x5 x6 : ℕ) → Sized f.version z → p ≡ players_over bits (slots_of f) i 1
    → x3 ≡ rows_between o.fods i (i + 1) * event_size f.version FodPlatform → x4 ≡ rows_between o.whispys i (i + 1) * event_size f.version DreamlandWhispy
    → x5 ≡ rows_between o.stadiums i (i + 1) * event_size f.version StadiumTransformation → x6 ≡ rows_between o.items i (i + 1) * event_size f.version Item
    → z.frame + (p * z.player + (x3 + (x4 + (x5 + x6)))) ≡ length_of f o bits i
unfolding run_length
frame_adds f o bits i z p x3 x4 x5 x6 s ep e3 e4 e5 e6 =
    let v = f.version in
    let one : i + 1 - i ≡ 1 = omega arith in
    let players : p * z.player ≡ p * event_size v Pre + p * event_size v Post = ap (λ (k : ℕ). p * k) s.player ∙ mul-add p (event_size v Pre) (event_size v Post) in
    let pre : p * event_size v Pre ≡ players_over bits (slots_of f) i (i + 1 - i) * (1 + record_size Pre v) = rw (has_pre v, ep, one) in
    let post : p * event_size v Post ≡ players_over bits (slots_of f) i (i + 1 - i) * (1 + record_size Post v) = rw (has_post v, ep, one) in
    let start : (i + 1 - i) * event_size v FrameStart ≡ event_size v FrameStart = ap (λ (k : ℕ). k * event_size v FrameStart) one ∙ one-mul (event_size v FrameStart) in
    let end : (i + 1 - i) * event_size v FrameEnd ≡ event_size v FrameEnd = ap (λ (k : ℕ). k * event_size v FrameEnd) one ∙ one-mul (event_size v FrameEnd) in
    let frame = s.frame in
    omega (arith, players, pre, post, start, end, frame, e3, e4, e5, e6)

ranged_one : {A : Type 0} (g : ℕ → List A) (i : ℕ) → ranged g i 1 ≡ g i
unfolding ranged
ranged_one g i = append-nil (g i)

-- ---- it is the length of the frame's events
pub length_of_lem : (f : Frames) (s : Lent) → Framed f s → (i : ℕ) → i < f.counts.frames → length (events_bytes (frame_events f s i)) ≡ length_of f s.offsets s.presence i
length_of_lem f s r i h =
    let one : i + 1 - i ≡ 1 = omega arith in
    sym (ap (λ (n : ℕ). length (events_bytes (ranged (frame_events f s) i n))) one ∙ ap (λ es. length (events_bytes es)) (ranged_one (frame_events f s) i))
    ∙ length_run f s r i (i + 1) (omega arith) (omega arith)

pub lengths_all : (f : Frames) (s : Lent) → Framed f s → summed (length_of f s.offsets s.presence) 0 f.counts.frames ≡ frames_length f s.presence
unfolding frames_events
lengths_all f s r =
    let n = f.counts.frames in
    sym (summed_within _ _ 0 n (λ i l. length_of_lem f s r i (omega arith)))
    ∙ sym (length_summed (λ i. events_bytes (frame_events f s i)) 0 n)
    ∙ sym (ap length (events_ranged (frame_events f s) 0 n))
    ∙ length_frames f s r

-- ---- a slot more, in a loop over the slots
module _ (bits : List ℕ) (i : ℕ) (s : Slots) (k n all : ℕ) (h : k < s.count) (r : Bool) (e : r ≡ marked bits (get_or s.at k 0) (get_or s.len k 0) i)
    (q : n + players_over bits (drop k (slots_in s)) i 1 ≡ all) where
  step : players_over bits (drop k (slots_in s)) i 1 ≡ cond r 1 0 + players_over bits (drop (k + 1) (slots_in s)) i 1
  step = over_step bits i 1 s k h ∙ ap (λ (m : ℕ). m + players_over bits (drop (k + 1) (slots_in s)) i 1) (count_one (present_at bits (slot_in s k)) i ∙ ap (λ (b : Bool). cond b 1 0) (sym e))

  pub slot_in_lem : r ≡ true → n + 1 + players_over bits (drop (k + 1) (slots_in s)) i 1 ≡ all
  slot_in_lem t = let x = rw t at step in omega arith

  pub slot_out : r ≡ false → n + players_over bits (drop (k + 1) (slots_in s)) i 1 ≡ all
  slot_out t = let x = rw t at step in omega arith
