-- The frames of an accepted input with no frame left out: how many they are, that they are of bytes, and their rows and offsets.
-- Assumes nothing.
use mathlib.Core.Path.{◌≡◌, refl, sym, ap, ap₂, ◌∙◌}
use mathlib.Core.Bool.{Bool, true}
use mathlib.Core.List.{List, [], ◌∷◌, ◌++◌}
use Prim.Native.Nat.{ℕ, zero, suc, ◌+◌, ◌-◌, ◌*◌, ◌/◌, ◌^◌, ◌≤◌, ◌<◌}
use native.Mathlib.Nat.{add-zero, zero-add, zero-mul, suc-mul, add-mul, mul_assoc, mul-one, one-mul, mod-lt}
use native.Mathlib.Omega.{arith}
use lib.Dec.{lit<}
use lib.ListN.{length, get_or, drop}
use lib.Seq.{take_all}
use Rattle.wire.specs.Wire.{be, part, ranged, keep}
use Rattle.wire.proofs.Laws.{ranged_same, length_ranged}
use Rattle.format.specs.declared.version.Version.{Version}
use Rattle.layout.specs.Columns.{has_family, widths_of}
use Rattle.layout.specs.declared.columns.Family.{Family}
use Rattle.layout.specs.declared.columns.Family.TheVariants.{Pre, Post, FrameStart, Item, FrameEnd, FodPlatform, DreamlandWhispy, StadiumTransformation}
use Rattle.record.specs.Record.{cells_bytes}
use Rattle.record.specs.Inner.{Fit}
use Rattle.game.specs.Frames.{no_slot, slots_of, rows_of, slot_blocks}
use Rattle.game.specs.Stores.{Lent, cells_of, offsets_of}
use Rattle.game.specs.declared.frames.Frames.{Frames}
use Rattle.players.specs.Presence.{present_at}
use Rattle.players.specs.Inner.{Ranges}
use Rattle.frames.specs.Inner.{Accepted}
use Rattle.events.proofs.AlikeLaws.{ranged_split}
use Rattle.grammar.specs.Productions.{Frame}
use Rattle.grammar.specs.WellFormed.{Each}
use Rattle.grammar.proofs.Each.{each_both, each_ranged, each_keep, each_one}
use Rattle.grammar.proofs.Unique.{empty}
use Rattle.columns.specs.Columns.{rows_here, rows_there, cell_columns}
use Rattle.columns.proofs.Laws.{columns_length}
use Rattle.columns.proofs.Back.{columns_back}
use Rattle.columns.proofs.Offsets.{counts}
use Rattle.law_tree.specs.Tree.{bytes_of, rows_in, player_at, players_in, frame_of, shows, frames_of}
use Rattle.law_columns.specs.Bytes.{AreBytes, BytePlayer, ByteFrame}
use Rattle.law_columns.proofs.Lists.{kept}
use Rattle.law_columns.proofs.Rows.{no_frame, InBytes}

-- ---- bytes

be_bytes : (w x : ℕ) → AreBytes (be w x)
unfolding be Each
be_bytes zero x = tt
be_bytes (suc w) x = (mod-lt (x / 256 ^ w) (lit< tt), be_bytes w x)

cells_bytes_lem : (ws cells : List ℕ) (stride i : ℕ) → AreBytes (cells_bytes ws cells stride i)
unfolding cells_bytes Each
cells_bytes_lem [] cells stride i = tt
cells_bytes_lem (w ∷ ws) cells stride i = each_both (λ x. x < 256) (be w (get_or cells i 0)) _ (be_bytes w (get_or cells i 0)) (cells_bytes_lem ws cells stride (i + stride))

-- ---- cells that fit

fit_from : (ws cells : List ℕ) (stride i : ℕ) → ((c : ℕ) → c < length ws → get_or cells (i + c * stride) 0 < 256 ^ get_or ws c 0) → Fit ws cells stride i
unfolding Fit
fit_from [] cells stride i h = tt
fit_from (w ∷ ws) cells stride i h = (first, fit_from ws cells stride (i + stride) more)
  where
    first : get_or cells i 0 < 256 ^ w
    first = let e : i + 0 * stride ≡ i = rw (zero-mul, add-zero) in rw e at (h 0 (omega arith))

    more : (c : ℕ) → c < length ws → get_or cells (i + stride + c * stride) 0 < 256 ^ get_or ws c 0
    more c l = let e : i + suc c * stride ≡ i + stride + c * stride = let m = suc-mul c stride in omega arith in rw e at (h (suc c) (omega arith))

-- ---- ranges one after another

risen : (o : ℕ → ℕ) (i n : ℕ) → ((j : ℕ) → j < i + n → o j ≤ o (j + 1)) → o i ≤ o (i + n)
risen o i zero h = rw (add-zero i) (omega arith)
risen o i (suc n) h =
    let e : i + 1 + n ≡ i + suc n = omega arith in
    let rest : o (i + 1) ≤ o (i + suc n) = rw e at (risen o (i + 1) n (λ j l. h j (omega arith))) in
    omega (arith, h i (omega arith))

joined : {A : Type 0} (h : ℕ → List A) (o : ℕ → ℕ) (i n : ℕ) → ((j : ℕ) → j < i + n → o j ≤ o (j + 1))
    → ranged (λ j. ranged h (o j) (o (j + 1) - o j)) i n ≡ ranged h (o i) (o (i + n) - o i)
unfolding ranged
joined h o i zero q = let e : o (i + 0) - o i ≡ 0 = rw (add-zero i) (omega arith) in sym (ap (λ (m : ℕ). ranged h (o i) m) e)
joined {A} h o i (suc n) q =
    let e : i + 1 + n ≡ i + suc n = omega arith in
    let up = risen o (i + 1) n (λ j l. q j (omega arith)) in
    let first = o (i + 1) - o i in
    let rest = o (i + 1 + n) - o (i + 1) in
    let start : o i + first ≡ o (i + 1) = omega (arith, q i (omega arith)) in
    let whole : first + rest ≡ o (i + suc n) - o i = rw (← e) (omega (arith, q i (omega arith))) in
    ap (λ (l : List A). ranged h (o i) first ++ l) (joined h o (i + 1) n (λ j l. q j (omega arith)) ∙ ap (λ (m : ℕ). ranged h m rest) (sym start))
    ∙ sym (ranged_split h (o i) first rest)
    ∙ ap (λ (m : ℕ). ranged h (o i) m) whole

-- single elements
pub single_at : {A : Type 0} (d : A) (g : ℕ → A) (i n j : ℕ) → j < n → get_or (ranged (λ k. g k ∷ []) i n) j d ≡ g (i + j)
unfolding ranged
single_at d g i zero j h = absurd (omega arith)
single_at d g i (suc n) zero h = ap g (sym (add-zero i))
single_at d g i (suc n) (suc j) h = let e : i + 1 + j ≡ i + suc j = omega arith in single_at d g (i + 1) n j (omega arith) ∙ ap g e

there_by : (v : Version) (family : Family) (g : ℕ → Frame) (i n : ℕ) → rows_there v family (ranged (λ k. g k ∷ []) i n) ≡ ranged (λ k. rows_here v family (g k)) i n
unfolding rows_there ranged
there_by v family g i zero = refl
there_by v family g i (suc n) = ap (λ (l : List (List ℕ)). rows_here v family (g i) ++ l) (there_by v family g (i + 1) n)

-- the rows of all frames are those from the first offset to the last
all_rows : {A : Type 0} (b : Bool) (h : ℕ → List A) (n rows : ℕ) (os : List ℕ) → b ≡ true → Ranges n rows os
    → ranged (λ i. keep b (ranged h (get_or os i 0) (get_or os (i + 1) 0 - get_or os i 0))) 0 n ≡ ranged h 0 rows
all_rows {A} b h n rows os has r =
    let last : get_or os (0 + n) 0 - get_or os 0 0 ≡ rows = let e : 0 + n ≡ n = zero-add n in rw e (omega (arith, r.first, r.last)) in
    ranged_same _ (λ i. ranged h (get_or os i 0) (get_or os (i + 1) 0 - get_or os i 0)) 0 n (λ i l m. kept b (ranged h (get_or os i 0) (get_or os (i + 1) 0 - get_or os i 0)) has)
    ∙ joined h (λ i. get_or os i 0) 0 n (λ j l. r.rising j (omega arith))
    ∙ ap₂ (λ (x y : ℕ). ranged h x y) r.first last

module _ (f : Frames) (s : Lent) (a : Accepted f s) where
  abbrev v : Version
  v = f.version

  pub fit_row : (family : Family) (block row : ℕ) → block < slot_blocks f family → row < rows_of f family
      → Fit (widths_of family v) (cells_of s.cells family) (rows_of f family) (block * (length (widths_of family v) * rows_of f family) + row)
  fit_row family block row l m =
      fit_from (widths_of family v) (cells_of s.cells family) (rows_of f family) (block * (length (widths_of family v) * rows_of f family) + row)
      (λ c k. rw (place c) at ((a.stores family).narrow block c row l k m))
    where
      place : (c : ℕ) → (block * length (widths_of family v) + c) * rows_of f family + row ≡ block * (length (widths_of family v) * rows_of f family) + row + c * rows_of f family
      place c =
          let n = length (widths_of family v) in
          let e = add-mul (block * n) c (rows_of f family) in
          let m = mul_assoc block n (rows_of f family) in
          omega arith

  -- ---- frames in bytes
  rows_bytes_lem : (family : Family) (i : ℕ) → Each AreBytes (rows_in f s family i)
  unfolding rows_in
  rows_bytes_lem family i =
      each_keep AreBytes (has_family v family) _ (λ e. each_ranged AreBytes _ _ _ (λ j l m. each_one AreBytes (bytes_of f s family 0 j) (cells_bytes_lem (widths_of family v) (cells_of s.cells family) (rows_of f family) _)))

  players_bytes : (i : ℕ) → Each BytePlayer (players_in f s i)
  unfolding players_in
  players_bytes i =
      each_ranged BytePlayer _ 0 (length (slots_of f))
      (λ k l m. each_keep BytePlayer (present_at s.presence (get_or (slots_of f) k no_slot) i) _
      (λ e. each_one BytePlayer (player_at f s i k)
      (record { pre = cells_bytes_lem (widths_of Pre v) s.cells.pres f.counts.frames _; post = cells_bytes_lem (widths_of Post v) s.cells.posts f.counts.frames _ })))

  frame_bytes_lem : (i : ℕ) → ByteFrame (frame_of f s i)
  frame_bytes_lem i = record {
    start = cells_bytes_lem (widths_of FrameStart v) s.cells.starts f.counts.frames _;
    players = players_bytes i;
    fods = rows_bytes_lem FodPlatform i;
    whispys = rows_bytes_lem DreamlandWhispy i;
    stadiums = rows_bytes_lem StadiumTransformation i;
    items = rows_bytes_lem Item i;
    end = cells_bytes_lem (widths_of FrameEnd v) s.cells.ends f.counts.frames _;
  }

  pub in_bytes : InBytes (frames_of f s)
  unfolding frames_of
  in_bytes = each_ranged ByteFrame _ 0 f.counts.frames (λ i l m. each_keep ByteFrame (shows f s i) _ (λ e. each_one ByteFrame (frame_of f s i) (frame_bytes_lem i)))

  -- ---- where no frame is left out
  module _ (shown : (i : ℕ) → i < f.counts.frames → shows f s i ≡ true) where
    frames_are : frames_of f s ≡ ranged (λ i. frame_of f s i ∷ []) 0 f.counts.frames
    unfolding frames_of
    frames_are = ranged_same _ _ 0 f.counts.frames (λ i l m. kept (shows f s i) (frame_of f s i ∷ []) (shown i (omega arith)))

    pub frames_count : length (frames_of f s) ≡ f.counts.frames
    frames_count = ap length frames_are ∙ length_ranged (λ i. frame_of f s i ∷ []) 1 (λ i. refl) 0 f.counts.frames ∙ mul-one f.counts.frames

    pub frame_at : (i : ℕ) → i < f.counts.frames → get_or (frames_of f s) i no_frame ≡ frame_of f s i
    frame_at i l = ap (λ (fs : List Frame). get_or fs i no_frame) frames_are ∙ single_at no_frame (frame_of f s) 0 f.counts.frames i l ∙ ap (frame_of f s) (zero-add i)

    -- rows with offsets
    module _ (family : Family) (is : (i : ℕ) → rows_here v family (frame_of f s i) ≡ rows_in f s family i) where
      pub rows_there_lem : has_family v family ≡ true → Ranges f.counts.frames (rows_of f family) (offsets_of s.offsets family)
          → rows_there v family (frames_of f s) ≡ ranged (λ j. bytes_of f s family 0 j ∷ []) 0 (rows_of f family)
      unfolding rows_in
      rows_there_lem has r =
          ap (rows_there v family) frames_are
          ∙ there_by v family (frame_of f s) 0 f.counts.frames
          ∙ ranged_same _ _ 0 f.counts.frames (λ i l m. is i)
          ∙ all_rows (has_family v family) (λ j. bytes_of f s family 0 j ∷ []) f.counts.frames (rows_of f family) (offsets_of s.offsets family) has r

    -- a family's store from its rows
    module _ (family : Family) (one : slot_blocks f family ≡ 1) where
      abbrev ws : List ℕ
      ws = widths_of family v

      abbrev store : List ℕ
      store = cells_of s.cells family

      store_length : length store ≡ length ws * rows_of f family
      store_length = (a.stores family).size ∙ ap (λ (b : ℕ). b * (length ws * rows_of f family)) one ∙ one-mul (length ws * rows_of f family)

      pub cells_by : (rows : List (List ℕ)) → length rows ≡ rows_of f family → ((i : ℕ) → i < rows_of f family → get_or rows i [] ≡ bytes_of f s family 0 i) → cell_columns ws rows ≡ store
      unfolding part
      cells_by rows n are =
          let m : length ws * length rows ≡ length store = ap (λ (k : ℕ). length ws * k) n ∙ sym store_length in
          columns_back ws rows store 0 (omega arith)
          (λ i l. are i (omega arith) ∙ ap₂ (λ (k j : ℕ). cells_bytes ws store k j) (sym n) (place i))
          (λ i l. rw (n, ← place i) (fit_row family 0 i (rw one (lit< tt)) (omega arith)))
          ∙ take_all (length ws * length rows) (drop 0 store) (omega arith)
        where
          place : (i : ℕ) → 0 * (length ws * rows_of f family) + i ≡ 0 + i
          place i = rw zero-mul

      -- nothing, where there are no columns or no rows
      pub no_cells_lem : (rows : List (List ℕ)) → length ws * rows_of f family ≡ 0 → length ws * length rows ≡ 0 → cell_columns ws rows ≡ store
      no_cells_lem rows e q = empty (cell_columns ws rows) (columns_length ws rows ∙ q) ∙ sym (empty store (store_length ∙ e))
