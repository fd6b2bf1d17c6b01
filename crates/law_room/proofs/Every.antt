-- Every plan that is not refused has a game that takes all of its room: its cells are zeros, everybody is present, and what counts nothing is left out.
-- Assumes nothing.
use mathlib.Core.Path.{◌≡◌, refl, sym, ap, subst, ◌∙◌}
use mathlib.Core.Bool.{Bool, true, false, not, cond, ◌&&◌, ◌||◌}
use mathlib.Core.List.{List, [], ◌∷◌, ◌++◌, map}
use Prim.Native.Nat.{ℕ, zero, suc, ◌+◌, ◌*◌, ◌/◌, ◌^◌, ◌≤◌, min}
use native.Mathlib.Nat.{pow-suc}
use native.Mathlib.Omega.{arith}
use borrow.Author.Tests.{le-ltb, ltb-false, lt-leb, eq-eqb}
use lib.Dec.{eqb, leb, ltb}
use lib.ListN.{length, get_or, take, drop, replicate, length-replicate, length-append}
use lib.Seq.{get_or_at}
use Rattle.wire.specs.Wire.{keep, tabulate}
use Rattle.format.specs.Mark.{yes}
use Rattle.format.specs.Refusal.{lowest, one_of}
use Rattle.format.specs.Version.{gte_of, has_initiator}
use Rattle.format.specs.declared.version.Version.{Version}
use Rattle.format.proofs.Refusals.{passed, skip, none, lowest_after}
use Rattle.format.proofs.Tests.{one_passed, one_skip, one_none}
use Rattle.layout.specs.Columns.{has_family, widths_of, sum}
use Rattle.layout.specs.declared.columns.Family.{Family}
use Rattle.layout.specs.declared.columns.Family.TheVariants.{Pre, Post, FrameStart, Item, FrameEnd, FodPlatform, DreamlandWhispy, StadiumTransformation}
use Rattle.game.specs.Frames.{no_slot, Slot, ports_of, port_slots, port_bytes, slots_from, slots_of, rows_of, slot_blocks}
use Rattle.game.specs.Stores.{Cells, cells, offsets, lent, Lent, Stores, stores}
use Rattle.game.specs.Zero.{no_text, no_seat}
use Rattle.game.specs.declared.Game.{Game}
use Rattle.game.specs.declared.frames.Counts.{Counts}
use Rattle.game.specs.declared.frames.Frames.{Frames}
use Rattle.game.specs.declared.frames.PortColumn.{PortColumn}
use Rattle.players.proofs.PresenceLaws.{marked_all}
use Rattle.players.specs.Presence.{uneven, port_uneven, ports_uneven, presence_wrong}
use Rattle.frames.specs.Judge.{too_new, too_many, misfits, stores_misfit, over, columns_exceed, blocks_exceed, exceeds, cells_exceed, falls, strays, left_over, misleads, offsets_mislead, port_numbers, twice, ports_wrong, refusals}
use Rattle.patch.specs.Field.{zero_inside}
use Rattle.start.specs.declared.gate.Gate.{Gate}
use Rattle.start.specs.Gate.{reaches, pal_from, frozen_from, scene_from, language_from, match_from}
use Rattle.start.specs.Refusal.{block_wrong, missing, too_long, holds_zero, bad_seat, bad_start}
use Rattle.codes.specs.Blocks.{block_count, codes_wrong}
use Rattle.ending.specs.End.{initiator_wrong, end_wrong}
use Rattle.ser.specs.Write.{given_bytes, file, judged, refusal}
use Rattle.ser.proofs.Outcomes.{passes, numbered_eleven}
use Rattle.case_table.specs.Games.{plain_start, plain_end}
use Rattle.room.specs.Room.{counted, room_of, room_refusals, room_answer, reserved, AtMost}
use Rattle.room.specs.declared.Plan.{Plan}
use Rattle.room.proofs.Laws.{taken}
use Rattle.room.proofs.Rising.{trimmed, counts_nothing}
use Rattle.law_room.specs.Fits.{plan_of, Fullest, TakesAll}
use Rattle.law_room.proofs.Enough.{reached}

-- ---- as many slots as are wanted, up to eight: a leader in each port, then a follower in each, and no presence bytes

abbrev column : ℕ → ℕ → ℕ → PortColumn
column n port last = record { port = port; follower = cond (leb last n) 1 0; leader_presence = 0; follower_presence = 0 }

abbrev seated : Version → Counts → ℕ → Frames
seated v counts n = record { version = v; counts = counts; ports = column n 0 5 ∷ column n 1 6 ∷ column n 2 7 ∷ column n 3 8 ∷ []; port_count = min 4 n }

-- no slot has presence bytes
Bare : List Slot → Type 0
Bare [] = Unit {0}
Bare (s ∷ ss) = (s.len ≡ 0) × Bare ss

bare_at : (ss : List Slot) → Bare ss → (k : ℕ) → (get_or ss k no_slot).len ≡ 0
unfolding Bare
bare_at [] b k = refl
bare_at (s ∷ ss) b zero = b.0
bare_at (s ∷ ss) b (suc k) = bare_at ss b.1 k

record Seated (f : Frames) (n : ℕ) : Type 0 where
  slots : length (slots_of f) ≡ n
  ports : ports_wrong f ≡ false
  presence : presence_wrong f [] ≡ false
  bare : Bare (slots_of f)

seated_right : (v : Version) (counts : Counts) (n : ℕ) → n ≤ 8 → Seated (seated v counts n) n
unfolding Bare slots_of slots_from ports_of port_slots port_bytes tabulate keep ports_wrong port_numbers twice one_of presence_wrong ports_uneven port_uneven uneven sum
seated_right v counts zero h = record { slots = refl; ports = refl; presence = refl; bare = tt }
seated_right v counts (suc zero) h = record { slots = refl; ports = refl; presence = refl; bare = (refl, tt) }
seated_right v counts (suc (suc zero)) h = record { slots = refl; ports = refl; presence = refl; bare = (refl, (refl, tt)) }
seated_right v counts (suc (suc (suc zero))) h = record { slots = refl; ports = refl; presence = refl; bare = (refl, (refl, (refl, tt))) }
seated_right v counts (suc (suc (suc (suc zero)))) h = record { slots = refl; ports = refl; presence = refl; bare = (refl, (refl, (refl, (refl, tt)))) }
seated_right v counts (suc (suc (suc (suc (suc zero))))) h = record { slots = refl; ports = refl; presence = refl; bare = (refl, (refl, (refl, (refl, (refl, tt))))) }
seated_right v counts (suc (suc (suc (suc (suc (suc zero)))))) h = record { slots = refl; ports = refl; presence = refl; bare = (refl, (refl, (refl, (refl, (refl, (refl, tt)))))) }
seated_right v counts (suc (suc (suc (suc (suc (suc (suc zero))))))) h = record { slots = refl; ports = refl; presence = refl; bare = (refl, (refl, (refl, (refl, (refl, (refl, (refl, tt))))))) }
seated_right v counts (suc (suc (suc (suc (suc (suc (suc (suc zero)))))))) h = record { slots = refl; ports = refl; presence = refl; bare = (refl, (refl, (refl, (refl, (refl, (refl, (refl, (refl, tt)))))))) }
seated_right v counts (suc (suc (suc (suc (suc (suc (suc (suc (suc n))))))))) h = absurd (omega arith)

-- ---- cells that are zeros

abbrev zeros : ℕ → List ℕ
zeros n = replicate n 0

length_zeros : (n : ℕ) → length (zeros n) ≡ n
length_zeros n = length-replicate {A = ℕ} n 0

Zeros : List ℕ → Type 0
Zeros [] = Unit {0}
Zeros (x ∷ xs) = (x ≡ 0) × Zeros xs

zeros_are : (n : ℕ) → Zeros (zeros n)
unfolding Zeros
zeros_are zero = tt
zeros_are (suc n) = (refl, zeros_are n)

zeros_take : (n : ℕ) (xs : List ℕ) → Zeros xs → Zeros (take n xs)
unfolding Zeros
zeros_take zero xs z = tt
zeros_take (suc n) [] z = tt
zeros_take (suc n) (x ∷ xs) z = (z.0, zeros_take n xs z.1)

zeros_drop : (n : ℕ) (xs : List ℕ) → Zeros xs → Zeros (drop n xs)
unfolding Zeros
zeros_drop zero xs z = z
zeros_drop (suc n) [] z = tt
zeros_drop (suc n) (x ∷ xs) z = zeros_drop n xs z.1

power : (w : ℕ) → 1 ≤ 256 ^ w
power zero = omega arith
power (suc w) = omega (arith, pow-suc 256 w, power w)

zeros_fit : (w : ℕ) (xs : List ℕ) → Zeros xs → one_of (map (over w) xs) ≡ false
unfolding Zeros one_of
zeros_fit w [] z = refl
zeros_fit w (x ∷ xs) z = rw (lt-leb (256 ^ w) x (omega (arith, z.0, power w))) (zeros_fit w xs z.1)

columns_fit : (ws : List ℕ) (rows : ℕ) (xs : List ℕ) → Zeros xs → columns_exceed ws rows xs ≡ false
unfolding columns_exceed
columns_fit [] rows xs z = refl
columns_fit (w ∷ ws) rows xs z = rw (zeros_fit w (take rows xs) (zeros_take rows xs z)) (columns_fit ws rows (drop rows xs) (zeros_drop rows xs z))

blocks_fit : (n : ℕ) (ws : List ℕ) (rows : ℕ) (xs : List ℕ) → Zeros xs → blocks_exceed n ws rows xs ≡ false
unfolding blocks_exceed
blocks_fit zero ws rows xs z = refl
blocks_fit (suc n) ws rows xs z = rw (columns_fit ws rows xs z) (blocks_fit n ws rows (drop (length ws * rows) xs) (zeros_drop (length ws * rows) xs z))

-- a family's store, as long as it should be
abbrev store : Frames → Family → List ℕ
store f family = replicate (slot_blocks f family * (length (widths_of family f.version) * rows_of f family)) 0

store_fits : (f : Frames) (family : Family) → misfits f family (store f family) ≡ false
unfolding misfits
store_fits f family =
    let n = slot_blocks f family * (length (widths_of family f.version) * rows_of f family) in
    ap not (eq-eqb (length (zeros n)) n (length_zeros n))

store_small : (f : Frames) (family : Family) → exceeds f family (store f family) ≡ false
unfolding exceeds
store_small f family = blocks_fit (slot_blocks f family) (widths_of family f.version) (rows_of f family) (store f family) (zeros_are (slot_blocks f family * (length (widths_of family f.version) * rows_of f family)))

abbrev stored : Frames → Cells
stored f = cells (zeros f.counts.frames) (store f FrameStart) (store f Pre) (store f Post) (store f FrameEnd) (store f Item) (store f FodPlatform) (store f DreamlandWhispy) (store f StadiumTransformation)

none_misfits : (f : Frames) → stores_misfit f (stored f) ≡ false
unfolding stores_misfit
none_misfits f =
    let n = f.counts.frames in
    sym
    (one_skip _ _ _ (ap not (eq-eqb (length (zeros n)) n (length_zeros n)))
    (one_skip _ _ _ (store_fits f FrameStart)
    (one_skip _ _ _ (store_fits f Pre)
    (one_skip _ _ _ (store_fits f Post)
    (one_skip _ _ _ (store_fits f FrameEnd)
    (one_skip _ _ _ (store_fits f Item)
    (one_skip _ _ _ (store_fits f FodPlatform) (one_skip _ _ _ (store_fits f DreamlandWhispy) (one_skip _ _ _ (store_fits f StadiumTransformation) one_none)))))))))

none_exceeds : (f : Frames) → cells_exceed f (stored f) ≡ false
unfolding cells_exceed
none_exceeds f =
    sym
    (one_skip _ _ _ (store_small f FrameStart)
    (one_skip _ _ _ (store_small f Pre)
    (one_skip _ _ _ (store_small f Post)
    (one_skip _ _ _ (store_small f FrameEnd)
    (one_skip _ _ _ (store_small f Item)
    (one_skip _ _ _ (store_small f FodPlatform) (one_skip _ _ _ (store_small f DreamlandWhispy) (one_skip _ _ _ (store_small f StadiumTransformation) one_none))))))))

-- ---- offsets: all rows belong to the last frame

abbrev places : ℕ → ℕ → List ℕ
places frames rows = zeros frames ++ (rows ∷ [])

never_fall : (frames rows : ℕ) → falls (places frames rows) ≡ false
unfolding falls
never_fall zero rows = refl
never_fall (suc zero) rows = rw (le-ltb rows 0 (omega arith))
never_fall (suc (suc n)) rows = never_fall (suc n) rows

first_zero : (frames rows : ℕ) → (frames ≡ 0 → rows ≡ 0) → get_or (places frames rows) 0 0 ≡ 0
first_zero zero rows h = h refl
first_zero (suc n) rows h = refl

none_strays : (frames rows : ℕ) → (frames ≡ 0 → rows ≡ 0) → strays frames rows (places frames rows) ≡ false
unfolding strays
none_strays frames rows h =
    let many : length (places frames rows) ≡ frames + 1 = length-append (zeros frames) (rows ∷ []) ∙ omega (arith, length_zeros frames) in
    let last : get_or (places frames rows) frames 0 ≡ rows = get_or_at (zeros frames) rows [] 0 frames (length_zeros frames) in
    sym
    (one_skip _ _ _ (ap not (eq-eqb _ _ many))
    (one_skip _ _ _ (ap not (eq-eqb _ _ (first_zero frames rows h))) (one_skip _ _ _ (never_fall frames rows) (one_skip _ _ _ (ap not (eq-eqb _ _ last)) one_none))))

-- rows of a family that is there or not, as they count
abbrev rows_for : Bool → ℕ → ℕ → ℕ
rows_for has frames rows = cond has (cond (eqb frames 0) 0 rows) 0

abbrev places_for : Bool → ℕ → ℕ → List ℕ
places_for has frames rows = cond has (places frames (rows_for has frames rows)) []

none_misleads : (has : Bool) (frames rows : ℕ)
    → cond has (strays frames (rows_for has frames rows) (places_for has frames rows)) (left_over (rows_for has frames rows) (places_for has frames rows)) ≡ false
unfolding left_over one_of
none_misleads true frames rows = none_strays frames (rows_for true frames rows) (λ z. rw (eq-eqb frames 0 z))
none_misleads false frames rows = refl

few : (has : Bool) (frames rows most : ℕ) → rows ≤ most → rows_for has frames rows ≤ most
few true frames rows most h = go (eqb frames 0)
  where
    go : (b : Bool) → cond b 0 rows ≤ most
    go true = omega arith
    go false = h
few false frames rows most h = omega arith

-- ---- the game of a plan

module _ (p : Plan) (ok : lowest (room_refusals p) ≡ 0) where
  abbrev v : Version
  v = p.version

  abbrev q : Plan
  q = trimmed p

  abbrev f : Frames
  f = seated v q.counts p.slots

  abbrev bytes : ℕ
  bytes = q.codes

  abbrev game : Game
  game = record {
    frames = f;
    start = plain_start;
    end = plain_end 1;
    double_end = 1;
    codes_given = cond (gte_of v 3 3) 1 0;
    metadata_given = 1;
    actual_size = bytes;
  }

  abbrev frames : ℕ
  frames = p.counts.frames

  abbrev given : Lent
  given =
      lent (stored f)
      (offsets (places_for (has_family v Item) frames p.counts.items) (places_for (has_family v FodPlatform) frames p.counts.fods) (places_for (has_family v DreamlandWhispy) frames p.counts.whispys)
      (places_for (has_family v StadiumTransformation) frames p.counts.stadiums)) []

  abbrev all : Stores
  all = stores given (zeros p.block) (zeros bytes) (zeros p.metadata)

  -- what the plan's judge passed
  record Judged : Type 0 where
    new : too_new (counted p) ≡ false
    many : too_many (counted p) p.codes p.metadata ≡ false
    slots : p.slots ≤ 8
    block : block_wrong v p.block ≡ false

  judged_plan : Judged
  unfolding room_refusals
  judged_plan =
      let (a, e1) = passed _ _ _ ok in
      let (b, e2) = passed _ _ _ e1 in
      let (c, e3) = passed _ _ _ e2 in
      let (d, e4) = passed _ _ _ e3 in
      record { new = a; many = b; slots = ltb-false 8 p.slots c; block = d }

  seats : Seated f p.slots
  seats = seated_right v q.counts p.slots judged_plan.slots

  -- codes: whole blocks where the version has them, else none
  codes_round : (b : Bool) → cond b (512 * (p.codes / 512)) 0 ≤ p.codes
  codes_round true = omega arith
  codes_round false = omega arith

  codes_given : (b : Bool) → given_bytes (cond b 1 0) (zeros (cond b (512 * (p.codes / 512)) 0)) ≡ cond b (512 * (p.codes / 512)) 0
  codes_given true = length_zeros (512 * (p.codes / 512))
  codes_given false = refl

  codes_right : (b : Bool) → (yes (cond b 1 0) && (not b || not (eqb (length (zeros (cond b (512 * (p.codes / 512)) 0))) (512 * block_count (cond b (512 * (p.codes / 512)) 0))))) ≡ false
  unfolding block_count
  codes_right true =
      let k = p.codes / 512 in
      let whole : 512 * k ≡ 512 * ((512 * k + 511) / 512) = omega arith in
      ap not (eq-eqb (length (zeros (512 * k))) (512 * ((512 * k + 511) / 512)) (length_zeros (512 * k) ∙ whole))
  codes_right false = refl

  not_many : too_many f (given_bytes game.codes_given all.codes) (given_bytes 1 all.metadata) ≡ false
  unfolding too_many
  not_many =
      let (a, e1) = one_passed _ _ judged_plan.many in
      let (b, e2) = one_passed _ _ e1 in
      let (c, e3) = one_passed _ _ e2 in
      let (d, e4) = one_passed _ _ e3 in
      let (e, e5) = one_passed _ _ e4 in
      let (x, e6) = one_passed _ _ e5 in
      let (y, e7) = one_passed _ _ e6 in
      sym
      (one_skip _ _ _ a
      (one_skip _ _ _ (le-ltb _ _ (few (has_family v Item) frames p.counts.items _ (ltb-false _ _ b)))
      (one_skip _ _ _ (le-ltb _ _ (few (has_family v FodPlatform) frames p.counts.fods _ (ltb-false _ _ c)))
      (one_skip _ _ _ (le-ltb _ _ (few (has_family v DreamlandWhispy) frames p.counts.whispys _ (ltb-false _ _ d)))
      (one_skip _ _ _ (le-ltb _ _ (few (has_family v StadiumTransformation) frames p.counts.stadiums _ (ltb-false _ _ e)))
      (one_skip _ _ _ (le-ltb 16777216 (given_bytes game.codes_given all.codes) (omega (arith, codes_given (gte_of v 3 3), codes_round (gte_of v 3 3), ltb-false 16777216 p.codes x)))
      (one_skip _ _ _ (le-ltb 65535 (given_bytes 1 all.metadata) (omega (arith, length_zeros p.metadata, ltb-false 65535 p.metadata y))) one_none)))))))

  none_mislead : offsets_mislead f given.offsets ≡ false
  unfolding offsets_mislead misleads
  none_mislead =
      sym
      (one_skip _ _ _ (none_misleads (has_family v Item) frames p.counts.items)
      (one_skip _ _ _ (none_misleads (has_family v FodPlatform) frames p.counts.fods)
      (one_skip _ _ _ (none_misleads (has_family v DreamlandWhispy) frames p.counts.whispys)
      (one_skip _ _ _ (none_misleads (has_family v StadiumTransformation) frames p.counts.stadiums) one_none))))

  block_right : block_wrong v (length all.template) ≡ false
  block_right = ap (block_wrong v) (length_zeros p.block) ∙ judged_plan.block

  and_false : (b : Bool) → (b && false) ≡ false
  and_false true = refl
  and_false false = refl

  nobody_right : one_of (map (bad_seat v) (replicate 4 no_seat)) ≡ false
  unfolding bad_seat one_of
  nobody_right = refl

  not_missing : (g : Gate) → missing v g 1 ≡ false
  unfolding missing
  not_missing g = and_false (reaches v g)

  not_long : (g : Gate) → too_long v g 50 no_text ≡ false
  unfolding too_long
  not_long g = and_false (reaches v g)

  no_zero : (g : Gate) → holds_zero v g no_text ≡ false
  unfolding holds_zero zero_inside one_of
  no_zero g = and_false (reaches v g)

  start_right : bad_start v plain_start ≡ false
  unfolding bad_start
  start_right =
      sym
      (one_skip _ _ _ nobody_right
      (one_skip _ _ _ (not_missing pal_from)
      (one_skip _ _ _ (not_missing frozen_from)
      (one_skip _ _ _ (not_missing scene_from)
      (one_skip _ _ _ (not_missing language_from) (one_skip _ _ _ (not_missing match_from) (one_skip _ _ _ (not_long match_from) (one_skip _ _ _ (no_zero match_from) one_none))))))))

  end_right : end_wrong v (plain_end 1) 1 ≡ false
  unfolding end_wrong initiator_wrong
  end_right = and_false (has_initiator v)

  coded : codes_wrong v (yes game.codes_given) all.codes game.actual_size ≡ false
  unfolding codes_wrong
  coded = codes_right (gte_of v 3 3)

  judged_game : lowest (judged game all) ≡ 0
  unfolding judged refusals
  judged_game =
      sym
      (skip 1 _ _ _ judged_plan.new
      (skip 2 _ _ _ not_many
      (skip 3 _ _ _ (none_misfits f)
      (skip 4 _ _ _ (none_exceeds f)
      (skip 5 _ _ _ none_mislead
      (skip 6 _ _ _ seats.presence
      (skip 7 _ _ _ seats.ports (skip 8 _ _ _ block_right (skip 9 _ _ _ start_right (skip 10 _ _ _ coded (skip 11 _ _ _ end_right none)))))))))))

  -- everybody is there
  full : Fullest game all
  full = record {
    everybody = λ k i l m. sym (marked_all [] _ _ i (bare_at (slots_of f) seats.bare k));
    ended = refl;
    doubled = refl;
    metadata = refl;
    codes = λ e. ap (λ (b : Bool). yes (cond b 1 0)) e;
  }

  -- its counts are the plan's, but for what counts nothing
  pub plan_is : plan_of game all ≡ q
  plan_is = λ i. record {
    version = v;
    block = length_zeros p.block i;
    slots = seats.slots i;
    counts = q.counts;
    codes = codes_given (gte_of v 3 3) i;
    metadata = length_zeros p.metadata i;
  }

  length_is : length (file game all) ≡ room_of p
  length_is = reached (passes game all judged_game) full ∙ ap room_of plan_is ∙ sym (counts_nothing p)

  takes : TakesAll p
  unfolding refusal
  takes =
      let c = gte_of v 3 3 in
      let most : AtMost q p = record {
        version = refl;
        block = omega arith;
        slots = omega arith;
        frames = omega arith;
        items = few (has_family v Item) frames p.counts.items p.counts.items (omega arith);
        fods = few (has_family v FodPlatform) frames p.counts.fods p.counts.fods (omega arith);
        whispys = few (has_family v DreamlandWhispy) frames p.counts.whispys p.counts.whispys (omega arith);
        stadiums = few (has_family v StadiumTransformation) frames p.counts.stadiums p.counts.stadiums (omega arith);
        codes = codes_round c;
        metadata = omega arith;
      } in
      record {
        game = game;
        stores = all;
        accepted =
            lowest_after (judged game all) _ (numbered_eleven game all) judged_game
            ∙ sym (skip 12 _ _ _ (le-ltb (room_of p) (length (file game all)) (omega (arith, length_is))) none);
        within = subst (λ (x : Plan). AtMost x p) (sym plan_is) most;
        fullest = full;
        all = length_is;
      }

-- ---- of the call: each plan that `room` does not refuse has a game whose file has as many bytes as it answers
not_refused : (n m : ℕ) → (room_answer n m).refused ≡ 0 → n ≡ 0
not_refused zero m e = refl
not_refused (suc n) m e = absurd (omega (arith, e))

pub every_plan : (p : Plan) → (reserved p).refused ≡ 0 → TakesAll p
every_plan p e = takes p (not_refused (lowest (room_refusals p)) (room_of p) e)

pub every_answer : (p : Plan) (e : (reserved p).refused ≡ 0) → length (file (every_plan p e).game (every_plan p e).stores) ≡ (reserved p).bytes
every_answer p e = omega (arith, (every_plan p e).all, taken p e)
