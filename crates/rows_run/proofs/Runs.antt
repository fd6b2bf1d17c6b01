-- The rows of a run: each is its columns' cells a step apart, with a player's mark behind them; they are there, and their lengths add up.
-- Assumes nothing.
use mathlib.Core.Path.{◌≡◌, refl, sym, ap, ap₂, ◌∙◌}
use mathlib.Core.Bool.{Bool, true, false, cond}
use mathlib.Core.List.{List, [], ◌∷◌, ◌++◌, append-nil}
use Prim.Native.Nat.{ℕ, ◌+◌, ◌*◌, ◌^◌, ◌≤◌, ◌<◌}
use native.Mathlib.Nat.{add-mul, mul_assoc, mul-le-mul, mul-le-mul_right}
use native.Mathlib.Omega.{arith}
use lib.Dec.{lit≤}
use lib.ListN.{length, get_or, length-append}
use Rattle.wire.specs.Wire.{ranged, keep, tabulate}
use Rattle.wire.proofs.Laws.{length_ranged, ranged_same, tabulate_length, tabulate_ext}
use Rattle.format.proofs.Versions.{no_way}
use Rattle.layout.specs.Columns.{widths_of}
use Rattle.layout.specs.declared.columns.Family.{Family}
use Rattle.layout.specs.declared.columns.Family.TheVariants.{Pre, Post, FrameStart, Item, FrameEnd, FodPlatform, DreamlandWhispy, StadiumTransformation}
use Rattle.game.specs.Frames.{slots_of, rows_of, slot_blocks}
use Rattle.game.specs.declared.frames.Frames.{Frames}
use Rattle.players.specs.Inner.{Modest, Slotted}
use Rattle.players.specs.Presence.{marked}
use Rattle.players.specs.declared.slots.Slots.{Slots}
use Rattle.players.proofs.PresenceLaws.{present_as}
use Rattle.players.proofs.SlotLaws.{slots_few}
use Rattle.rows.proofs.Records.{cell_below}
use Rattle.transpose.specs.Records.{mark_at}
use Rattle.rows_run.specs.Run.{of_players, row_length, run_row}
use Rattle.rows_run.specs.Inner.{strided, Strides, plain_row, player_row, Running}
use Rattle.rows_run.proofs.Strides.{strided_is}

-- the place of a cell, counted from the first one of its record
pub place_is : (slot columns k rows index : ℕ) → (slot * columns + k) * rows + index ≡ slot * columns * rows + index + k * rows
place_is slot columns k rows index = let d : (slot * columns + k) * rows ≡ slot * columns * rows + k * rows = add-mul (slot * columns) k rows in omega (arith, d)

-- no family has more rows than this
pub few_rows : (f : Frames) (family : Family) → Modest f → rows_of f family ≤ 4194304
few_rows f Pre m = omega (arith, m.frames)
few_rows f Post m = omega (arith, m.frames)
few_rows f FrameStart m = omega (arith, m.frames)
few_rows f Item m = m.items
few_rows f FrameEnd m = omega (arith, m.frames)
few_rows f FodPlatform m = omega (arith, m.fods)
few_rows f DreamlandWhispy m = omega (arith, m.whispys)
few_rows f StadiumTransformation m = omega (arith, m.stadiums)

-- and none has more blocks than this
pub few_blocks : (f : Frames) (family : Family) → slot_blocks f family ≤ 8
few_blocks f Pre = slots_few f
few_blocks f Post = slots_few f
few_blocks f FrameStart = lit≤ tt
few_blocks f Item = lit≤ tt
few_blocks f FrameEnd = lit≤ tt
few_blocks f FodPlatform = lit≤ tt
few_blocks f DreamlandWhispy = lit≤ tt
few_blocks f StadiumTransformation = lit≤ tt

pub slot_fits : {f : Frames} {family : Family} {cells : List ℕ} {slot a b : ℕ} (n : ℕ) → Running f family cells slot a b → n ≤ 32 → slot * n ≤ 8 * 32
slot_fits {f} {family} {slot = slot} n h l = let low : slot ≤ 8 = omega (arith, h.slot_in, few_blocks f family) in mul-le-mul low l

-- a player's slot is a slot
pub slot_is : {f : Frames} {family : Family} {cells : List ℕ} {slot a b : ℕ} → of_players family ≡ true → Running f family cells slot a b → slot < length (slots_of f)
slot_is {f} {family} {slot = slot} e h = players family e h.slot_in
  where
    players : (k : Family) → of_players k ≡ true → slot < slot_blocks f k → slot < length (slots_of f)
    players Pre e l = l
    players Post e l = l
    players FrameStart e l = no_way e
    players Item e l = no_way e
    players FrameEnd e l = no_way e
    players FodPlatform e l = no_way e
    players DreamlandWhispy e l = no_way e
    players StadiumTransformation e l = no_way e

-- a player's mark, as the code asks it of its slots
pub mark_same : (f : Frames) (s : Slots) → Slotted f s → (presence : List ℕ) (slot : ℕ) → slot < s.count → (i : ℕ)
    → cond (marked presence (get_or s.at slot 0) (get_or s.len slot 0) i) 1 0 ≡ mark_at f presence slot i
unfolding mark_at
mark_same f s e presence slot h i = ap (λ (t : Bool). cond {A = ℕ} t 1 0) (present_as f s e presence slot i h)

-- where there is no player, presence is not looked at
any_row : (f : Frames) (family : Family) (cells p q : List ℕ) (slot : ℕ) → of_players family ≡ false → (j : ℕ) → run_row f family cells p slot j ≡ run_row f family cells q slot j
unfolding run_row keep
any_row f family cells p q slot e j = rw e refl

pub plain_any : (f : Frames) (family : Family) (cells p q : List ℕ) (slot a n : ℕ) → of_players family ≡ false
    → ranged (run_row f family cells p slot) a n ≡ ranged (run_row f family cells q slot) a n
plain_any f family cells p q slot a n e = ranged_same (run_row f family cells p slot) (run_row f family cells q slot) a n (λ j _ _. any_row f family cells p q slot e j)

module _ (f : Frames) (family : Family) (cells : List ℕ) (slot : ℕ) where
  abbrev columns : ℕ
  columns = length (widths_of family f.version)

  abbrev rows : ℕ
  rows = rows_of f family

  -- a row's cells are a step apart
  cells_as : (index : ℕ) → strided cells (slot * columns * rows + index) rows columns ≡ tabulate columns (λ k. get_or cells ((slot * columns + k) * rows + index) 0)
  cells_as index =
      strided_is cells (slot * columns * rows + index) rows columns
      ∙ tabulate_ext columns (λ k. get_or cells (slot * columns * rows + index + k * rows) 0) (λ k. get_or cells ((slot * columns + k) * rows + index) 0)
      (λ k h. ap (λ (j : ℕ). get_or cells j 0) (sym (place_is slot columns k rows index)))

  plain_row_lem : (presence : List ℕ) → of_players family ≡ false → (i : ℕ) → plain_row cells (slot * columns * rows) rows columns i ≡ run_row f family cells presence slot i
  unfolding plain_row run_row keep
  plain_row_lem presence e i = rw e (cells_as i ∙ sym (append-nil _))

  player_row_lem : (presence : List ℕ) (at len : ℕ) → of_players family ≡ true → (i : ℕ) → cond (marked presence at len i) 1 0 ≡ mark_at f presence slot i
      → player_row cells presence (slot * columns * rows) rows columns at len i ≡ run_row f family cells presence slot i
  unfolding player_row run_row keep
  player_row_lem presence at len e i m = rw e (ap₂ (λ (xs : List ℕ) (x : ℕ). xs ++ (x ∷ [])) (cells_as i) m)

  -- as the code has the two numbers
  module _ {r n : ℕ} (er : r ≡ rows) (en : n ≡ columns) (presence : List ℕ) (a m : ℕ) where
    pub plain_rows : of_players family ≡ false → ranged (plain_row cells (slot * n * r) r n) a m ≡ ranged (run_row f family cells presence slot) a m
    plain_rows e = rw (er, en) (ranged_same _ _ a m (λ j _ _. plain_row_lem presence e j))

    pub player_rows : (at len : ℕ) → of_players family ≡ true → ((i : ℕ) → cond (marked presence at len i) 1 0 ≡ mark_at f presence slot i)
        → ranged (player_row cells presence (slot * n * r) r n at len) a m ≡ ranged (run_row f family cells presence slot) a m
    player_rows at len e mark = rw (er, en) (ranged_same _ _ a m (λ j _ _. player_row_lem presence at len e j (mark j)))

  -- the rows of a run that was judged are there
  module _ {a b : ℕ} (h : Running f family cells slot a b) (small : length cells * 4 < 2 ^ 64) where
    block_in : (slot + 1) * columns * rows ≤ length cells
    block_in =
        let next : slot + 1 ≤ slot_blocks f family = omega (arith, h.slot_in) in
        rw (mul_assoc, h.store.size) (mul-le-mul_right (columns * rows) next)

    block_is : (slot + 1) * columns * rows ≡ slot * columns * rows + columns * rows
    block_is = ap (λ (x : ℕ). x * rows) (add-mul slot 1 columns) ∙ rw (one_of columns) (add-mul (slot * columns) columns rows)
      where
        one_of : (x : ℕ) → 1 * x ≡ x
        one_of x = omega arith

    row_there : (i : ℕ) → i < b → Strides cells (slot * columns * rows + i) rows columns
    row_there i l = record {
      each = λ k e. rw (← place_is slot columns k rows i) (cell_below slot columns k rows i (length cells) e (omega (arith, l, h.inside)) block_in);
      far = omega (arith, block_in, block_is, small, l, h.inside, few_rows f family h.modest);
    }

    pub rows_there_lem : {r n : ℕ} → r ≡ rows → n ≡ columns → (i : ℕ) → i < b → Strides cells (slot * n * r + i) r n
    rows_there_lem er en i l = rw (er, en) (row_there i l)

    -- and the first cell's place fits
    pub first_fits : {r n : ℕ} → r ≡ rows → n ≡ columns → slot * n * r < 2 ^ 64
    first_fits er en = rw (er, en) (omega (arith, block_in, block_is, small))

-- ---- how long rows are
kept_one : (b : Bool) (x : ℕ) → length (keep b (x ∷ [])) ≡ cond b 1 0
unfolding keep
kept_one true x = refl
kept_one false x = refl

module _ (f : Frames) (family : Family) (cells presence : List ℕ) (slot : ℕ) where
  pub length_row : (index : ℕ) → length (run_row f family cells presence slot index) ≡ row_length f.version family
  unfolding run_row
  length_row index = length-append (tabulate _ _) _ ∙ ap₂ (λ (x y : ℕ). x + y) (tabulate_length _ _) (kept_one (of_players family) (mark_at f presence slot index))

  pub length_rows : (a n : ℕ) → length (ranged (run_row f family cells presence slot) a n) ≡ n * row_length f.version family
  length_rows a n = length_ranged (run_row f family cells presence slot) (row_length f.version family) length_row a n
