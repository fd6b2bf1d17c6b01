-- The length of the frames' events: a sum over the frames, family by family.
-- Assumes nothing.
use mathlib.Core.Path.{◌≡◌, refl, sym, ap, ◌∙◌}
use mathlib.Core.Bool.{Bool, true, false, cond}
use mathlib.Core.List.{List, [], ◌∷◌}
use Prim.Native.Nat.{ℕ, zero, suc, ◌+◌, ◌-◌, ◌*◌, ◌≤◌}
use native.Mathlib.Nat.{zero-mul, mul-zero, one-mul, zero-add}
use native.Mathlib.Numerals.{add-one}
use native.Mathlib.Omega.{arith}
use lib.ListN.{length, get_or}
use Rattle.wire.specs.Wire.{ranged}
use Rattle.wire.proofs.Sums.{summed, length_summed, summed_same, summed_both, summed_shift, summed_mul, summed_const, summed_rise}
use Rattle.format.specs.File.{events_bytes}
use Rattle.format.proofs.Files.{events_ranged, length_both, length_kept_one, length_kept_each}
use Rattle.layout.specs.Columns.{has_family}
use Rattle.layout.specs.Payloads.{head_size, record_size}
use Rattle.layout.specs.declared.columns.Family.{Family}
use Rattle.layout.specs.declared.columns.Family.TheVariants.{Pre, Post, FrameStart, Item, FrameEnd, FodPlatform, DreamlandWhispy, StadiumTransformation}
use Rattle.game.specs.Frames.{Slot, no_slot, slots_of, rows_of}
use Rattle.game.specs.Stores.{Lent, offsets_of}
use Rattle.players.specs.Presence.{present_at, count_from, present_in, players_present}
use Rattle.game.specs.declared.frames.Frames.{Frames}
use Rattle.events.specs.Events.{head_of, row_of, id_of, one_event, row_events, player_event, player_events, frame_events, frames_events}
use Rattle.events.specs.Inner.{RangesIn, Framed}
use Rattle.events.specs.Length.{event_size, frames_length, players_over, rows_between, run_length}
use Rattle.events.proofs.Sizes.{plain_size, player_size}

-- ---- players: those of a frame, and those of all frames
unfoldable overall : (Slot → ℕ) → List Slot → ℕ
overall g [] = 0
overall g (s ∷ ss) = g s + overall g ss

overall_is : (g : Slot → ℕ) (ss : List Slot) → summed (λ k. g (get_or ss k no_slot)) 0 (length ss) ≡ overall g ss
unfolding summed overall
overall_is g [] = refl
overall_is g (s ∷ ss) =
    ap (λ (k : ℕ). g s + k)
    (summed_shift (λ k. g (get_or (s ∷ ss) k no_slot)) 0 (length ss)
    ∙ summed_same (λ k. g (get_or (s ∷ ss) (k + 1) no_slot)) (λ k. g (get_or ss k no_slot)) 0 (length ss) (λ k. rw (add-one k))
    ∙ overall_is g ss)

abbrev here : List ℕ → ℕ → Slot → ℕ
here bits i s = cond (present_at bits s i) 1 0

count_summed : (p : ℕ → Bool) (i n : ℕ) → summed (λ j. cond (p j) 1 0) i n ≡ count_from p i n
unfolding summed count_from
count_summed p i zero = refl
count_summed p i (suc n) = ap (λ (k : ℕ). cond (p i) 1 0 + k) (count_summed p (i + 1) n)

players_summed : (bits : List ℕ) (ss : List Slot) (a n : ℕ) → summed (λ i. overall (here bits i) ss) a n ≡ players_over bits ss a n
unfolding overall players_over
players_summed bits [] a n = summed_const 0 a n ∙ mul-zero n
players_summed bits (s ∷ ss) a n = summed_both (λ i. here bits i s) (λ i. overall (here bits i) ss) a n (count_summed (present_at bits s) a n) (players_summed bits ss a n)

-- those of all frames
players_whole : (bits : List ℕ) (ss : List Slot) (n : ℕ) → players_over bits ss 0 n ≡ players_present bits ss n
unfolding players_over players_present
players_whole bits [] n = refl
players_whole bits (s ∷ ss) n = ap (λ (k : ℕ). present_in bits s n + k) (players_whole bits ss n)

cond_mul : (b : Bool) (s : ℕ) → cond b s 0 ≡ cond b 1 0 * s
cond_mul true s = sym (one-mul s)
cond_mul false s = sym (zero-mul s)

-- ---- the parts of a frame
module _ (f : Frames) (lent : Lent) (family : Family) where
  abbrev size : ℕ
  size = 1 + record_size family f.version

  one_length : head_size family ≡ 4 → (i : ℕ) → length (events_bytes (one_event f lent family i)) ≡ event_size f.version family
  unfolding one_event
  one_length k i = length_kept_one (has_family f.version family) _ size (plain_size f lent family 0 i k (id_of lent i))

  abbrev rows_at : ℕ → ℕ
  rows_at i = get_or (offsets_of lent.offsets family) (i + 1) 0 - get_or (offsets_of lent.offsets family) i 0

  rows_length : head_size family ≡ 4 → (i : ℕ) → length (events_bytes (row_events f lent family i)) ≡ rows_at i * event_size f.version family
  unfolding row_events
  rows_length k i =
      length_kept_each (has_family f.version family) (λ j. row_of f lent family (head_of family (id_of lent i)) 0 j) _ (rows_at i) size
      (λ j. plain_size f lent family 0 j k (id_of lent i))

  abbrev players_at : ℕ → ℕ
  players_at i = overall (here lent.presence i) (slots_of f)

  players_length : head_size family ≡ 6 → (i : ℕ) → length (events_bytes (player_events f lent family i)) ≡ players_at i * size
  unfolding player_events
  players_length k i =
      let ss = slots_of f in
      let at : ℕ → ℕ = λ j. here lent.presence i (get_or ss j no_slot) in
      ap length (events_ranged (player_event f lent family i) 0 (length ss))
      ∙ length_summed (λ j. events_bytes (player_event f lent family i j)) 0 (length ss)
      ∙ summed_same (λ j. length (events_bytes (player_event f lent family i j))) (λ j. at j * size) 0 (length ss)
      (λ j. length_kept_one (present_at lent.presence (get_or ss j no_slot) i) _ size (player_size f lent family j i k (id_of lent i) (get_or ss j no_slot))
      ∙ cond_mul (present_at lent.presence (get_or ss j no_slot) i) size)
      ∙ summed_mul at size 0 (length ss)
      ∙ ap (λ (n : ℕ). n * size) (overall_is (here lent.presence i) ss)

  -- and over a run of n frames from frame a on
  one_run : (a n : ℕ) → summed (λ i. event_size f.version family) a n ≡ n * event_size f.version family
  one_run a n = summed_const (event_size f.version family) a n

  players_run : (a n : ℕ) → summed (λ i. players_at i * size) a n ≡ players_over lent.presence (slots_of f) a n * size
  players_run a n = summed_mul players_at size a n ∙ ap (λ (k : ℕ). k * size) (players_summed lent.presence (slots_of f) a n)

  abbrev os : List ℕ
  os = offsets_of lent.offsets family

  -- a family that the version lacks counts nothing
  counted : (k m : ℕ) → (has_family f.version family ≡ true → k ≡ m) → k * event_size f.version family ≡ m * event_size f.version family
  counted k m h = go (has_family f.version family) h
    where
      go : (b : Bool) → (b ≡ true → k ≡ m) → k * cond b size 0 ≡ m * cond b size 0
      go true e = ap (λ (x : ℕ). x * size) (e refl)
      go false e = mul-zero k ∙ sym (mul-zero m)

  rows_run_lem : RangesIn f lent family → (a n : ℕ) → a + n ≤ f.counts.frames
      → summed (λ i. rows_at i * event_size f.version family) a n ≡ rows_between os a (a + n) * event_size f.version family
  rows_run_lem r a n h =
      summed_mul rows_at (event_size f.version family) a n
      ∙ counted _ _ (λ e. let t = summed_rise os a n (λ j l. (r e).rising j (omega arith)) in omega (arith, t))

  -- and over all frames
  players_all : summed (λ i. players_at i * size) 0 f.counts.frames ≡ players_present lent.presence (slots_of f) f.counts.frames * size
  players_all = players_run 0 f.counts.frames ∙ ap (λ (k : ℕ). k * size) (players_whole lent.presence (slots_of f) f.counts.frames)

  rows_all : RangesIn f lent family → summed (λ i. rows_at i * event_size f.version family) 0 f.counts.frames ≡ rows_of f family * event_size f.version family
  rows_all r =
      rows_run_lem r 0 f.counts.frames (omega arith)
      ∙ counted _ _ (λ e. omega (arith, (r e).first, (r e).last, ap (λ (k : ℕ). get_or os k 0) (zero-add f.counts.frames)))

module _ (f : Frames) (lent : Lent) where
  frame_length : (i : ℕ) → length (events_bytes (frame_events f lent i))
      ≡ event_size f.version FrameStart
      + (players_at f lent Pre i * size f lent Pre
      + (rows_at f lent FodPlatform i * event_size f.version FodPlatform
      + (rows_at f lent DreamlandWhispy i * event_size f.version DreamlandWhispy
      + (rows_at f lent StadiumTransformation i * event_size f.version StadiumTransformation
      + (rows_at f lent Item i * event_size f.version Item
      + (players_at f lent Post i * size f lent Post
      + event_size f.version FrameEnd))))))
  unfolding frame_events
  frame_length i =
      length_both _ _ (one_length f lent FrameStart refl i)
      (length_both _ _ (players_length f lent Pre refl i)
      (length_both _ _ (rows_length f lent FodPlatform refl i)
      (length_both _ _ (rows_length f lent DreamlandWhispy refl i)
      (length_both _ _ (rows_length f lent StadiumTransformation refl i)
      (length_both _ _ (rows_length f lent Item refl i)
      (length_both _ _ (players_length f lent Post refl i)
      (one_length f lent FrameEnd refl i)))))))

  pub length_frames : Framed f lent → length (events_bytes (frames_events f lent)) ≡ frames_length f lent.presence
  unfolding frames_events frames_length
  length_frames r =
      let n = f.counts.frames in
      ap length (events_ranged (frame_events f lent) 0 n)
      ∙ length_summed (λ i. events_bytes (frame_events f lent i)) 0 n
      ∙ summed_same (λ i. length (events_bytes (frame_events f lent i))) _ 0 n frame_length
      ∙ summed_both _ _ 0 n (one_run f lent FrameStart 0 n)
      (summed_both _ _ 0 n (players_all f lent Pre)
      (summed_both _ _ 0 n (rows_all f lent FodPlatform r.fods)
      (summed_both _ _ 0 n (rows_all f lent DreamlandWhispy r.whispys)
      (summed_both _ _ 0 n (rows_all f lent StadiumTransformation r.stadiums)
      (summed_both _ _ 0 n (rows_all f lent Item r.items)
      (summed_both _ _ 0 n (players_all f lent Post)
      (one_run f lent FrameEnd 0 n)))))))

  -- a run: the frames from a on and before b
  pub length_run : Framed f lent → (a b : ℕ) → a ≤ b → b ≤ f.counts.frames
      → length (events_bytes (ranged (frame_events f lent) a (b - a))) ≡ run_length f lent.offsets lent.presence a b
  unfolding run_length
  length_run r a b h l =
      let n = b - a in
      let e : a + n ≡ b = omega arith in
      let within : a + n ≤ f.counts.frames = omega arith in
      let rows : (family : Family) → RangesIn f lent family → summed (λ i. rows_at f lent family i * event_size f.version family) a n
      ≡ rows_between (offsets_of lent.offsets family) a b * event_size f.version family =
      λ family q. rows_run_lem f lent family q a n within ∙ ap (λ (k : ℕ). rows_between (offsets_of lent.offsets family) a k * event_size f.version family) e in
      ap length (events_ranged (frame_events f lent) a n)
      ∙ length_summed (λ i. events_bytes (frame_events f lent i)) a n
      ∙ summed_same (λ i. length (events_bytes (frame_events f lent i))) _ a n frame_length
      ∙ summed_both _ _ a n (one_run f lent FrameStart a n)
      (summed_both _ _ a n (players_run f lent Pre a n)
      (summed_both _ _ a n (rows FodPlatform r.fods)
      (summed_both _ _ a n (rows DreamlandWhispy r.whispys)
      (summed_both _ _ a n (rows StadiumTransformation r.stadiums)
      (summed_both _ _ a n (rows Item r.items)
      (summed_both _ _ a n (players_run f lent Post a n)
      (one_run f lent FrameEnd a n)))))))
