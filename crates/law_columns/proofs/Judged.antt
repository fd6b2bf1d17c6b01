-- What is read back is accepted: refusals 1 to 7 do not apply.
-- Assumes nothing.
use mathlib.Core.Path.{◌≡◌, refl, sym, ap, ap₂, ◌∙◌}
use mathlib.Core.Bool.{Bool, true, false, not, cond, ◌||◌}
use mathlib.Core.List.{List, [], ◌∷◌, ◌++◌, map, append_assoc, append-nil}
use Prim.Native.Nat.{ℕ, ◌+◌, ◌*◌, ◌^◌, ◌≤◌, ◌<◌}
use native.Mathlib.Nat.{zero-mul, one-mul}
use borrow.Author.Tests.{lt-leb, le-ltb}
use lib.ListN.{length, get_or, take, drop, length-map}
use lib.Seq.{take_at, drop_at}
use Rattle.wire.specs.Wire.{number, keep}
use Rattle.format.specs.Version.{accepted_of, above, gte_of}
use Rattle.format.specs.Refusal.{one_of, lowest}
use Rattle.format.specs.declared.version.Version.{Version}
use Rattle.format.proofs.Refusals.{skip, none}
use Rattle.format.proofs.Tests.{same, one_skip, one_none}
use Rattle.layout.specs.Columns.{has_family, widths_of, columns_of, col}
use Rattle.layout.specs.declared.columns.Family.{Family}
use Rattle.layout.specs.declared.columns.Family.TheVariants.{Pre, Post, FrameStart, Item, FrameEnd, FodPlatform, DreamlandWhispy, StadiumTransformation}
use Rattle.layout.proofs.Prefix.{none as no_columns}
use Rattle.game.specs.Frames.{Slot, slots_of}
use Rattle.game.specs.Stores.{Lent, families, cells_of}
use Rattle.game.specs.declared.frames.Frames.{Frames}
use Rattle.players.specs.Inner.{Modest}
use Rattle.frames.specs.Judge.{too_many, misfits, stores_misfit, over, columns_exceed, blocks_exceed, exceeds, cells_exceed, falls, strays, left_over, misleads, offsets_mislead, refusals}
use Rattle.grammar.specs.Productions.{Frame}
use Rattle.grammar.specs.WellFormed.{Each}
use Rattle.grammar.proofs.Each.{each_drop}
use Rattle.columns.specs.Columns.{rows_here, rows_there, cell_columns, slot_row, slot_number, slots_cells, rows_cells, totals, offsets_read, frames_read, lent_read}
use Rattle.columns.proofs.Laws.{columns_length, column_first}
use Rattle.columns.proofs.Slots.{slots_length}
use Rattle.columns.proofs.Back.{bytes_of_lem, column_narrow}
use Rattle.columns.proofs.Offsets.{counts, totals_first, offsets_are, offsets_length, offsets_last}
use Rattle.law_columns.specs.Bytes.{AreBytes, ByteFrame}
use Rattle.law_columns.proofs.Lists.{dropped}
use Rattle.law_columns.proofs.Ranges.{totals_stand}
use Rattle.law_columns.proofs.Rows.{Good, InBytes, there_good, there_bytes, none_good, one_each}
use Rattle.law_columns.proofs.Tree.{pre_bytes, post_bytes}
use Rattle.law_columns.proofs.Ports.{none_of, presence_right, ports_right}

each_any : (P : Family → Type 0) → ((family : Family) → P family) → (xs : List Family) → Each P xs
unfolding Each
each_any P h [] = tt
each_any P h (x ∷ xs) = (h x, each_any P h xs)

-- ---- a family that the version lacks has no columns

pub no_starts : (v : Version) → has_family v FrameStart ≡ false → widths_of FrameStart v ≡ []
unfolding has_family columns_of gte_of above
no_starts v e = no_columns v (col 0 2 2) (columns_of FrameStart) e tt

pub no_ends : (v : Version) → has_family v FrameEnd ≡ false → widths_of FrameEnd v ≡ []
unfolding has_family columns_of gte_of above
no_ends v e = no_columns v (col 0 3 0) (columns_of FrameEnd) e tt

-- ---- cells fit their widths

fits : (w : ℕ) (b : List ℕ) → AreBytes b → over w (number (take w b)) ≡ false
fits w b h = lt-leb (256 ^ w) (number (take w b)) (rw (column_first w [] b) at (column_narrow (w ∷ []) b 0 (bytes_of_lem b h)))

narrow_column : (w : ℕ) (rows : List (List ℕ)) → Each AreBytes rows → one_of (map (over w) (map (λ b. number (take w b)) rows)) ≡ false
unfolding one_of Each
narrow_column w [] h = refl
narrow_column w (b ∷ rows) h = rw (fits w b h.0) (narrow_column w rows h.1)

each_cut : (w : ℕ) (rows : List (List ℕ)) → Each AreBytes rows → Each AreBytes (map (drop w) rows)
unfolding Each
each_cut w [] h = tt
each_cut w (b ∷ rows) h = (each_drop (λ x. x < 256) w b h.0, each_cut w rows h.1)

-- columns, with more cells behind them
narrow_columns : (ws : List ℕ) (rows : List (List ℕ)) (n : ℕ) (more : List ℕ) → length rows ≡ n → Each AreBytes rows → columns_exceed ws n (cell_columns ws rows ++ more) ≡ false
unfolding columns_exceed cell_columns
narrow_columns [] rows n more e h = refl
narrow_columns (w ∷ ws) rows n more e h =
    let first = map (λ b. number (take w b)) rows in
    let rest = cell_columns ws (map (drop w) rows) ++ more in
    let m : length first ≡ n = length-map rows (λ b. number (take w b)) ∙ e in
    ap (λ (c : List ℕ). one_of (map (over w) (take n c)) || columns_exceed ws n (drop n c)) (append_assoc first (cell_columns ws (map (drop w) rows)) more)
    ∙ ap₂ (λ (a b : List ℕ). one_of (map (over w) a) || columns_exceed ws n b) (take_at first rest n m) (drop_at first rest n m)
    ∙ ap₂ (λ (a b : Bool). a || b) (narrow_column w rows h) (narrow_columns ws (map (drop w) rows) n more (length-map rows (drop w) ∙ e) (each_cut w rows h))

one_block : (ws : List ℕ) (rows : List (List ℕ)) (n : ℕ) → length rows ≡ n → Each AreBytes rows → blocks_exceed 1 ws n (cell_columns ws rows) ≡ false
unfolding blocks_exceed
one_block ws rows n e h = rw (rw (append-nil (cell_columns ws rows)) at (narrow_columns ws rows n [] e h))

-- rows that are not as many have no columns
no_block : (ws : List ℕ) (rows : List (List ℕ)) (n : ℕ) → ws ≡ [] → blocks_exceed 1 ws n (cell_columns ws rows) ≡ false
unfolding blocks_exceed columns_exceed cell_columns
no_block ws rows n e = rw e

slot_rows : (family : Family) (k : ℕ) → ((f : Frame) → ByteFrame f → AreBytes (slot_row family k f.players))
    → (fs : List Frame) → InBytes fs → Each AreBytes (map (λ f. slot_row family k f.players) fs)
unfolding Each
slot_rows family k so [] h = tt
slot_rows family k so (f ∷ fs) h = (so f h.0, slot_rows family k so fs h.1)

slot_blocks_lem : (v : Version) (family : Family) (fs : List Frame) → ((k : ℕ) (f : Frame) → ByteFrame f → AreBytes (slot_row family k f.players)) → InBytes fs
    → (ss : List Slot) → blocks_exceed (length ss) (widths_of family v) (length fs) (slots_cells v family fs ss) ≡ false
unfolding blocks_exceed slots_cells
slot_blocks_lem v family fs so h [] = refl
slot_blocks_lem v family fs so h (s ∷ ss) =
    let ws = widths_of family v in
    let rows = map (λ f. slot_row family (slot_number s) f.players) fs in
    let count : length rows ≡ length fs = length-map fs (λ f. slot_row family (slot_number s) f.players) in
    let n : length (cell_columns ws rows) ≡ length ws * length fs = columns_length ws rows ∙ ap (λ (m : ℕ). length ws * m) count in
    ap₂ (λ (a b : Bool). a || b)
    (narrow_columns ws rows (length fs) (slots_cells v family fs ss) count (slot_rows family (slot_number s) (so (slot_number s)) fs h))
    (ap (blocks_exceed (length ss) ws (length fs)) (drop_at (cell_columns ws rows) (slots_cells v family fs ss) (length ws * length fs) n)
    ∙ slot_blocks_lem v family fs so h ss)

module _ (v : Version) (fs : List Frame) (good : Good v fs) (bytes : InBytes fs) where
  abbrev f : Frames
  f = frames_read v fs

  abbrev s : Lent
  s = lent_read v fs

  -- ---- rows: one a frame where the version has the family, else no columns
  module _ (family : Family) (row : Frame → List ℕ) (is : (f : Frame) → rows_here v family f ≡ keep (has_family v family) (row f ∷ []))
      (lacks : has_family v family ≡ false → widths_of family v ≡ []) where
    one_length : (b : Bool) → has_family v family ≡ b → length (rows_cells v family fs) ≡ 1 * (length (widths_of family v) * length fs)
    one_length true has =
        let n : length (rows_there v family fs) ≡ length fs = ap length (one_each v family row has is fs) ∙ length-map fs row in
        columns_length (widths_of family v) (rows_there v family fs) ∙ ap (λ (m : ℕ). length (widths_of family v) * m) n ∙ sym (one-mul (length (widths_of family v) * length fs))
    one_length false has =
        columns_length (widths_of family v) (rows_there v family fs)
        ∙ ap (λ (ws : List ℕ). length ws * length (rows_there v family fs)) (lacks has)
        ∙ zero-mul (length (rows_there v family fs))
        ∙ sym (one-mul (length (widths_of family v) * length fs) ∙ ap (λ (ws : List ℕ). length ws * length fs) (lacks has) ∙ zero-mul (length fs))

    one_narrow : (b : Bool) → has_family v family ≡ b → blocks_exceed 1 (widths_of family v) (length fs) (rows_cells v family fs) ≡ false
    one_narrow true has =
        let n : length (rows_there v family fs) ≡ length fs = ap length (one_each v family row has is fs) ∙ length-map fs row in
        one_block (widths_of family v) (rows_there v family fs) (length fs) n (there_bytes v family fs bytes)
    one_narrow false has = no_block (widths_of family v) (rows_there v family fs) (length fs) (lacks has)

  many_length : (family : Family) → length (rows_cells v family fs) ≡ 1 * (length (widths_of family v) * length (rows_there v family fs))
  many_length family = columns_length (widths_of family v) (rows_there v family fs) ∙ sym (one-mul (length (widths_of family v) * length (rows_there v family fs)))

  many_narrow : (family : Family) → blocks_exceed 1 (widths_of family v) (length (rows_there v family fs)) (rows_cells v family fs) ≡ false
  many_narrow family = one_block (widths_of family v) (rows_there v family fs) (length (rows_there v family fs)) refl (there_bytes v family fs bytes)

  -- ---- 3 and 4
  fit : (family : Family) → misfits f family (cells_of s.cells family) ≡ false
  unfolding misfits frames_read lent_read
  fit FrameStart = same _ _ (one_length FrameStart (λ f. f.start) (λ f. refl) (no_starts v) (has_family v FrameStart) refl)
  fit FrameEnd = same _ _ (one_length FrameEnd (λ f. f.end) (λ f. refl) (no_ends v) (has_family v FrameEnd) refl)
  fit FodPlatform = same _ _ (many_length FodPlatform)
  fit DreamlandWhispy = same _ _ (many_length DreamlandWhispy)
  fit StadiumTransformation = same _ _ (many_length StadiumTransformation)
  fit Item = same _ _ (many_length Item)
  fit Pre = same _ _ (slots_length v Pre fs (slots_of f))
  fit Post = same _ _ (slots_length v Post fs (slots_of f))

  narrow : (family : Family) → exceeds f family (cells_of s.cells family) ≡ false
  unfolding exceeds frames_read lent_read
  narrow FrameStart = one_narrow FrameStart (λ f. f.start) (λ f. refl) (no_starts v) (has_family v FrameStart) refl
  narrow FrameEnd = one_narrow FrameEnd (λ f. f.end) (λ f. refl) (no_ends v) (has_family v FrameEnd) refl
  narrow FodPlatform = many_narrow FodPlatform
  narrow DreamlandWhispy = many_narrow DreamlandWhispy
  narrow StadiumTransformation = many_narrow StadiumTransformation
  narrow Item = many_narrow Item
  narrow Pre = slot_blocks_lem v Pre fs (λ k f h. pre_bytes k f.players h.players) bytes (slots_of f)
  narrow Post = slot_blocks_lem v Post fs (λ k f h. post_bytes k f.players h.players) bytes (slots_of f)

  ids_fit : length s.cells.ids ≡ f.counts.frames
  unfolding frames_read lent_read
  ids_fit = length-map fs (λ (f : Frame). f.id)

  stores_fit : stores_misfit f s.cells ≡ false
  unfolding stores_misfit
  stores_fit =
      sym (one_skip _ _ _ (same (length s.cells.ids) f.counts.frames ids_fit)
      (sym (none_of (λ family. misfits f family (cells_of s.cells family)) families (each_any (λ family. misfits f family (cells_of s.cells family) ≡ false) fit families))))

  cells_fit : cells_exceed f s.cells ≡ false
  unfolding cells_exceed
  cells_fit =
      none_of (λ family. exceeds f family (cells_of s.cells family)) families (each_any (λ family. exceeds f family (cells_of s.cells family) ≡ false) narrow families)

  -- ---- 5
  lead : (family : Family) → (b : Bool) → has_family v family ≡ b
      → cond b (strays (length fs) (length (rows_there v family fs)) (offsets_read v family fs)) (left_over (length (rows_there v family fs)) (offsets_read v family fs)) ≡ false
  unfolding strays left_over offsets_read
  lead family true has =
      let os = offsets_read v family fs in
      let are = offsets_are v family fs has in
      sym (one_skip _ _ _ (same (length os) (length fs + 1) (offsets_length v family fs has))
      (one_skip _ _ _ (same (get_or os 0 0) 0 (ap (λ (l : List ℕ). get_or l 0 0) are ∙ totals_first 0 (counts v family fs)))
      (one_skip _ _ _ (ap falls are ∙ totals_stand 0 (counts v family fs))
      (one_skip _ _ _ (same (get_or os (length fs) 0) (length (rows_there v family fs)) (offsets_last v family fs has)) one_none))))
  lead family false has =
      let os = offsets_read v family fs in
      sym (one_skip _ _ _ (same (length os) 0 (ap length (dropped (has_family v family) (totals 0 (counts v family fs)) has)))
      (one_skip _ _ _ (same (length (rows_there v family fs)) 0 (ap length (none_good v family (rows_there v family fs) (there_good v family fs good) has))) one_none))

  offsets_fit : offsets_mislead f s.offsets ≡ false
  unfolding offsets_mislead misleads frames_read lent_read
  offsets_fit =
      sym (one_skip _ _ _ (lead Item (has_family v Item) refl)
      (one_skip _ _ _ (lead FodPlatform (has_family v FodPlatform) refl)
      (one_skip _ _ _ (lead DreamlandWhispy (has_family v DreamlandWhispy) refl)
      (one_skip _ _ _ (lead StadiumTransformation (has_family v StadiumTransformation) refl) one_none))))

  -- ---- 2
  few : (codes metadata : ℕ) → Modest f → codes ≤ 16777216 → metadata ≤ 65535 → too_many f codes metadata ≡ false
  unfolding too_many
  few codes metadata m c d =
      sym (one_skip _ _ _ (le-ltb 1048576 _ m.frames)
      (one_skip _ _ _ (le-ltb 4194304 _ m.items)
      (one_skip _ _ _ (le-ltb 1048576 _ m.fods)
      (one_skip _ _ _ (le-ltb 1048576 _ m.whispys)
      (one_skip _ _ _ (le-ltb 1048576 _ m.stadiums)
      (one_skip _ _ _ (le-ltb 16777216 codes c)
      (one_skip _ _ _ (le-ltb 65535 metadata d) one_none)))))))

  accepted_version : accepted_of v ≡ true → not (accepted_of f.version) ≡ false
  unfolding frames_read
  accepted_version e = rw e

  -- all of them
  pub judged_frames : (codes metadata : ℕ) → accepted_of v ≡ true → Modest f → codes ≤ 16777216 → metadata ≤ 65535 → lowest (refusals f s codes metadata) ≡ 0
  unfolding refusals
  judged_frames codes metadata e m c d =
      sym (skip _ _ _ _ (accepted_version e)
      (skip _ _ _ _ (few codes metadata m c d)
      (skip _ _ _ _ stores_fit
      (skip _ _ _ _ cells_fit
      (skip _ _ _ _ offsets_fit
      (skip _ _ _ _ (presence_right fs v)
      (skip _ _ _ _ (ports_right fs v) none)))))))
