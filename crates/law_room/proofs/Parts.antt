-- The parts of an accepted game's file against the parts of its plan's room.
-- Assumes nothing.
use mathlib.Core.Path.{◌≡◌, refl, sym, ap, ap₂, ◌∙◌}
use mathlib.Core.Bool.{Bool, true, false, cond}
use mathlib.Core.List.{List, [], ◌∷◌}
use Prim.Native.Nat.{ℕ, zero, suc, ◌+◌, ◌*◌, ◌/◌, ◌≤◌, ◌<◌}
use native.Mathlib.Nat.{mul-le-mul, mul-zero, one-mul, zero-mul, suc-mul}
use native.Mathlib.Omega.{arith}
use borrow.Author.Tests.{eqb-true}
use lib.Dec.{eqb, lit≤}
use lib.ListN.{length, get_or}
use Rattle.format.proofs.Versions.{no_way}
use Rattle.format.specs.File.{table_bytes}
use Rattle.format.specs.Mark.{yes}
use Rattle.format.specs.Version.{gte_of}
use Rattle.format.specs.declared.event.Event.{Event}
use Rattle.format.specs.declared.event.Event.TheVariants as event
use Rattle.format.specs.declared.version.Version.{Version}
use Rattle.layout.specs.Columns.{has_family}
use Rattle.layout.specs.Payloads.{record_size, end_size, listed, payload_size, entries_of}
use Rattle.layout.specs.declared.columns.Family.{Family}
use Rattle.layout.specs.declared.columns.Family.TheVariants.{Pre, Post, FrameStart, Item, FrameEnd, FodPlatform, DreamlandWhispy, StadiumTransformation}
use Rattle.game.specs.Frames.{Slot, no_slot, slots_of, rows_of}
use Rattle.game.specs.Stores.{Stores}
use Rattle.game.specs.declared.Game.{Game}
use Rattle.players.specs.Inner.{Ranges}
use Rattle.players.specs.Presence.{present_at, count_from, players_present}
use Rattle.frames.specs.Inner.{Placed}
use Rattle.codes.specs.Blocks.{block_count}
use Rattle.codes.proofs.Laws.{right_codes}
use Rattle.ending.specs.Inner.{end_count}
use Rattle.events.specs.Length.{event_size, frames_length}
use Rattle.events.proofs.Sizes.{has_pre, has_post}
use Rattle.ser.specs.Write.{given_bytes}
use Rattle.ser.proofs.Outcomes.{Passed, players_most}
use Rattle.room.specs.Room.{with_frames, how_many, event_room}
use Rattle.room.specs.Inner.{frames_room}
use Rattle.room.specs.declared.Plan.{Plan}
use Rattle.room.proofs.Rising.{table_more}
use Rattle.law_room.specs.Fits.{plan_of, Fullest}

-- ---- the table

-- what is listed without codes is listed with them; and the reverse, where they are given if the version has them
listed_with : (v : Version) (given : Bool) (e : Event) → listed v given e ≡ true → listed v true e ≡ true
unfolding listed
listed_with v true e t = t
listed_with v false event.Payloads t = t
listed_with v false event.GameStart t = t
listed_with v false event.FramePre t = t
listed_with v false event.FramePost t = t
listed_with v false event.GameEnd t = t
listed_with v false event.FrameStart t = t
listed_with v false event.Item t = t
listed_with v false event.FrameEnd t = t
listed_with v false event.GeckoCodes t = no_way t
listed_with v false event.MessageSplitter t = no_way t
listed_with v false event.FodPlatform t = t
listed_with v false event.DreamlandWhispy t = t
listed_with v false event.StadiumTransformation t = t

listed_alike : (v : Version) (given : Bool) → (gte_of v 3 3 ≡ true → given ≡ true) → (e : Event) → listed v true e ≡ true → listed v given e ≡ true
unfolding listed
listed_alike v true h e t = t
listed_alike v false h event.Payloads t = t
listed_alike v false h event.GameStart t = t
listed_alike v false h event.FramePre t = t
listed_alike v false h event.FramePost t = t
listed_alike v false h event.GameEnd t = t
listed_alike v false h event.FrameStart t = t
listed_alike v false h event.Item t = t
listed_alike v false h event.FrameEnd t = t
listed_alike v false h event.GeckoCodes t = h t
listed_alike v false h event.MessageSplitter t = h t
listed_alike v false h event.FodPlatform t = t
listed_alike v false h event.DreamlandWhispy t = t
listed_alike v false h event.StadiumTransformation t = t

-- ---- the players: everybody in every frame

count_each : (p : ℕ → Bool) (i n : ℕ) → ((j : ℕ) → i ≤ j → j < i + n → p j ≡ true) → count_from p i n ≡ n
unfolding count_from
count_each p i zero h = refl
count_each p i (suc n) h =
    let here : ◌≡◌ {A = ℕ} (cond (p i) 1 0) 1 = rw (h i (omega arith) (omega arith)) in
    let rest = count_each p (i + 1) n (λ j a b. h j (omega arith) (omega arith)) in
    omega arith

everybody_counts : (bits : List ℕ) (ss : List Slot) (n : ℕ) → ((k i : ℕ) → k < length ss → i < n → present_at bits (get_or ss k no_slot) i ≡ true)
    → players_present bits ss n ≡ length ss * n
unfolding players_present
everybody_counts bits [] n h = sym (zero-mul n)
everybody_counts bits (s ∷ ss) n h =
    let first = count_each (present_at bits s) 0 n (λ j a b. h 0 j (omega arith) (omega arith)) in
    let rest = everybody_counts bits ss n (λ k i a b. h (suc k) i (omega arith) b) in
    omega (arith, first, rest, suc-mul (length ss) n)

-- ---- the records of a family

mul_cond : (b : Bool) (n s : ℕ) → n * cond b s 0 ≡ cond b (n * s) 0
mul_cond true n s = refl
mul_cond false n s = mul-zero n

-- rows in ranges of no frames are none
rows_kept : (b : Bool) (frames rows : ℕ) (s : ℕ) (os : List ℕ) → (b ≡ true → Ranges frames rows os) → cond b (rows * s) 0 ≡ cond b (cond (eqb frames 0) 0 rows * s) 0
rows_kept false frames rows s os h = refl
rows_kept true frames rows s os h = go (eqb frames 0) refl
  where
    go : (z : Bool) → eqb frames 0 ≡ z → rows * s ≡ cond z 0 rows * s
    go false e = refl
    go true e =
        let r = h refl in
        let none : frames ≡ 0 = eqb-true frames 0 e in
        let last = ap (λ (k : ℕ). get_or os k 0) none in
        let zero-rows : rows ≡ 0 = omega (arith, last, r.first, r.last) in
        ap (λ (k : ℕ). k * s) zero-rows

module _ (g : Game) (s : Stores) (p : Passed g s) where
  abbrev v : Version
  v = g.frames.version

  abbrev plan : Plan
  plan = plan_of g s

  abbrev given : Bool
  given = yes g.codes_given

  abbrev players : ℕ
  players = players_present s.lent.presence (slots_of g.frames) g.frames.counts.frames

  abbrev table_of : ℕ
  table_of = length (table_bytes (entries_of v (length s.template) given g.actual_size))

  abbrev table_room : ℕ
  table_room = length (table_bytes (entries_of v (length s.template) true 0))

  pub table_fits : table_of ≤ table_room
  table_fits = table_more v given true _ _ _ _ (listed_with v given)

  pub table_reached : Fullest g s → table_room ≤ table_of
  table_reached f = table_more v true given _ _ _ _ (listed_alike v given f.codes)

  -- the start block
  pub start_is : 1 + length s.template ≡ event_room plan event.GameStart
  unfolding event_room how_many listed payload_size
  start_is = sym (one-mul (1 + length s.template))

  -- the code blocks
  abbrev codes_of : ℕ
  codes_of = cond given (block_count g.actual_size * 517) 0

  abbrev codes_room : Bool → ℕ
  codes_room b = cond (gte_of v 3 3) (cond b (length s.codes) 0 / 512 * 517) 0

  codes_given : given ≡ true → codes_of ≡ codes_room given
  codes_given t =
      let (has, whole) = right_codes v given s.codes g.actual_size p.coded t in
      let blocks : block_count g.actual_size ≡ length s.codes / 512 = omega (arith, whole) in
      rw (t, has) (ap (λ (k : ℕ). k * 517) blocks)

  pub codes_fit : codes_of ≤ event_room plan event.MessageSplitter
  unfolding event_room how_many listed payload_size
  codes_fit = go given refl
    where
      go : (b : Bool) → given ≡ b → codes_of ≤ codes_room given
      go true e = let k = codes_given e in omega (arith, k)
      go false e = rw e (omega arith)

  pub codes_reached : Fullest g s → codes_of ≡ event_room plan event.MessageSplitter
  unfolding event_room how_many listed payload_size
  codes_reached f = go given (gte_of v 3 3) refl refl
    where
      go : (b c : Bool) → given ≡ b → gte_of v 3 3 ≡ c → codes_of ≡ codes_room given
      go true c e d = codes_given e
      go false false e d = rw (e, d)
      go false true e d = no_way (sym e ∙ f.codes d)

  -- a record for each frame
  one_is : (family : Family) → g.frames.counts.frames * event_size v family ≡ cond (has_family v family) (g.frames.counts.frames * (1 + record_size family v)) 0
  one_is family = mul_cond (has_family v family) _ _

  -- the rows of a family
  rows_are : (family : Family) {os : List ℕ} → Placed g.frames family os
      → rows_of g.frames family * event_size v family ≡ cond (has_family v family) (with_frames plan (rows_of g.frames family) * (1 + record_size family v)) 0
  rows_are family {os} r = mul_cond (has_family v family) _ _ ∙ rows_kept (has_family v family) g.frames.counts.frames (rows_of g.frames family) _ os r.has

  -- everybody in every frame
  few_players : players ≤ length (slots_of g.frames) * g.frames.counts.frames
  few_players = players_most s.lent.presence (slots_of g.frames) g.frames.counts.frames

  all_players : Fullest g s → players ≡ length (slots_of g.frames) * g.frames.counts.frames
  all_players f = everybody_counts s.lent.presence (slots_of g.frames) g.frames.counts.frames f.everybody

  -- the frames' bytes with n players
  abbrev frames_with : ℕ → ℕ
  frames_with n =
      g.frames.counts.frames * event_size v FrameStart
      + (n * (1 + record_size Pre v)
      + (g.frames.counts.fods * event_size v FodPlatform
      + (g.frames.counts.whispys * event_size v DreamlandWhispy
      + (g.frames.counts.stadiums * event_size v StadiumTransformation
      + (g.frames.counts.items * event_size v Item
      + (n * (1 + record_size Post v)
      + g.frames.counts.frames * event_size v FrameEnd))))))

  frames_full : frames_with (length (slots_of g.frames) * g.frames.counts.frames) ≡ frames_room plan
  unfolding event_room how_many listed payload_size
  frames_full =
      let a = p.frames in
      ap₂ ◌+◌ (one_is FrameStart)
      (ap₂ ◌+◌ (rw (has_pre v))
      (ap₂ ◌+◌ (rows_are FodPlatform a.fods)
      (ap₂ ◌+◌ (rows_are DreamlandWhispy a.whispys)
      (ap₂ ◌+◌ (rows_are StadiumTransformation a.stadiums)
      (ap₂ ◌+◌ (rows_are Item a.items)
      (ap₂ ◌+◌ (rw (has_post v))
      (one_is FrameEnd)))))))

  pub frames_fit : frames_length g.frames s.lent.presence ≤ frames_room plan
  unfolding frames_length
  frames_fit =
      let few = few_players in
      let pres : players * (1 + record_size Pre v) ≤ length (slots_of g.frames) * g.frames.counts.frames * (1 + record_size Pre v) = mul-le-mul few (omega arith) in
      let posts : players * (1 + record_size Post v) ≤ length (slots_of g.frames) * g.frames.counts.frames * (1 + record_size Post v) = mul-le-mul few (omega arith) in
      omega (arith, frames_full, pres, posts)

  pub frames_reached : Fullest g s → frames_length g.frames s.lent.presence ≡ frames_room plan
  unfolding frames_length
  frames_reached f = ap frames_with (all_players f) ∙ frames_full

  -- the ends
  abbrev ends_of : ℕ
  ends_of = end_count g.end g.double_end * (1 + end_size v)

  pub ends_fit : ends_of ≤ event_room plan event.GameEnd
  unfolding event_room how_many listed payload_size
  ends_fit = mul-le-mul (two (yes g.end.given) (yes g.double_end)) (omega arith)
    where
      two : (a b : Bool) → cond a (cond b 2 1) 0 ≤ 2
      two true true = lit≤ tt
      two true false = lit≤ tt
      two false b = lit≤ tt

  pub ends_reached : Fullest g s → ends_of ≡ event_room plan event.GameEnd
  unfolding event_room how_many listed payload_size
  ends_reached f = rw (f.ended, f.doubled)

  -- the tail
  abbrev pub tail_length : ℕ
  tail_length = cond (yes g.metadata_given) (13 + given_bytes g.metadata_given s.metadata) 1

  pub tail_fits : tail_length ≤ 13 + plan.metadata
  tail_fits = go (yes g.metadata_given)
    where
      go : (b : Bool) → cond b (13 + cond b (length s.metadata) 0) 1 ≤ 13 + cond b (length s.metadata) 0
      go true = omega arith
      go false = lit≤ tt

  pub tail_reached : Fullest g s → tail_length ≡ 13 + plan.metadata
  tail_reached f = rw f.metadata
