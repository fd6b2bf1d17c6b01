-- The rows of a family, from their cells.
-- Assumes nothing.
use mathlib.Core.Path.{◌≡◌, refl, sym, ap, ap₂, ◌∙◌}
use mathlib.Core.Bool.{Bool, true, false}
use mathlib.Core.List.{List, [], ◌∷◌, ◌++◌, map}
use Prim.Native.Nat.{ℕ, ◌+◌, ◌-◌, ◌*◌, ◌<◌}
use native.Mathlib.Nat.{zero-mul, zero-add}
use native.Mathlib.Omega.{arith}
use lib.ListN.{length, get_or, length-map}
use Rattle.wire.specs.Wire.{ranged, keep}
use Rattle.wire.proofs.Laws.{ranged_same}
use Rattle.format.proofs.Versions.{no_way}
use Rattle.format.specs.declared.version.Version.{Version}
use Rattle.layout.specs.Columns.{has_family, widths_of, size_of}
use Rattle.layout.specs.declared.columns.Family.{Family}
use Rattle.layout.specs.declared.columns.Family.TheVariants.{Pre, Post, FrameStart, Item, FrameEnd, FodPlatform, DreamlandWhispy, StadiumTransformation}
use Rattle.record.specs.Record.{cells_bytes}
use Rattle.record.proofs.Laws.{length_cells}
use Rattle.grammar.specs.Productions.{Frame}
use Rattle.grammar.specs.WellFormed.{Each, ascending, GoodRow, GoodFrame}
use Rattle.grammar.proofs.Each.{each_both, each_keep, each_none, each_one, each_at}
use Rattle.grammar.proofs.Unique.{empty}
use Rattle.columns.specs.Columns.{rows_here, rows_there, rows_cells, offsets_read, totals}
use Rattle.columns.proofs.Laws.{map_at_lem}
use Rattle.columns.proofs.Offsets.{counts, rows_length, frame_count, frame_row_lem, offsets_are}
use Rattle.columns.proofs.Back.{bytes_of_lem, row_alone}
use Rattle.law_columns.specs.Bytes.{AreBytes, ByteFrame}
use Rattle.law_columns.proofs.Lists.{kept, dropped}
use Rattle.law_columns.proofs.Ranges.{totals_most, ranged_list}

-- a frame that is not there
abbrev pub no_frame : Frame
no_frame = record { id = 0; start = []; players = []; fods = []; whispys = []; stadiums = []; items = []; end = [] }

-- what is asked of the frames
abbrev pub Good : Version → List Frame → Type 0
Good v fs = Each (GoodFrame v ascending) fs

abbrev pub InBytes : List Frame → Type 0
InBytes fs = Each ByteFrame fs

module _ (v : Version) where
  -- ---- a frame's rows, and all

  pub here_good : (family : Family) (f : Frame) → GoodFrame v ascending f → Each (GoodRow v family) (rows_here v family f)
  here_good FrameStart f h =
      each_keep (GoodRow v FrameStart) (has_family v FrameStart) _ (λ e. each_one (GoodRow v FrameStart) f.start (record { has = e; size = h.start }))
  here_good FrameEnd f h =
      each_keep (GoodRow v FrameEnd) (has_family v FrameEnd) _ (λ e. each_one (GoodRow v FrameEnd) f.end (record { has = e; size = h.end }))
  here_good FodPlatform f h = h.fods
  here_good DreamlandWhispy f h = h.whispys
  here_good StadiumTransformation f h = h.stadiums
  here_good Item f h = h.items
  here_good Pre f h = each_none (GoodRow v Pre)
  here_good Post f h = each_none (GoodRow v Post)

  pub here_bytes : (family : Family) (f : Frame) → ByteFrame f → Each AreBytes (rows_here v family f)
  here_bytes FrameStart f h = each_keep AreBytes (has_family v FrameStart) _ (λ e. each_one AreBytes f.start h.start)
  here_bytes FrameEnd f h = each_keep AreBytes (has_family v FrameEnd) _ (λ e. each_one AreBytes f.end h.end)
  here_bytes FodPlatform f h = h.fods
  here_bytes DreamlandWhispy f h = h.whispys
  here_bytes StadiumTransformation f h = h.stadiums
  here_bytes Item f h = h.items
  here_bytes Pre f h = each_none AreBytes
  here_bytes Post f h = each_none AreBytes

  pub there_good : (family : Family) (fs : List Frame) → Good v fs → Each (GoodRow v family) (rows_there v family fs)
  unfolding rows_there Each
  there_good family [] h = tt
  there_good family (f ∷ fs) h = each_both (GoodRow v family) (rows_here v family f) _ (here_good family f h.0) (there_good family fs h.1)

  pub there_bytes : (family : Family) (fs : List Frame) → InBytes fs → Each AreBytes (rows_there v family fs)
  unfolding rows_there Each
  there_bytes family [] h = tt
  there_bytes family (f ∷ fs) h = each_both AreBytes (rows_here v family f) _ (here_bytes family f h.0) (there_bytes family fs h.1)

  -- ---- from their cells

  -- row j as bytes
  abbrev pub row_bytes : Family → List Frame → ℕ → List ℕ
  row_bytes family fs j = cells_bytes (widths_of family v) (rows_cells v family fs) (length (rows_there v family fs)) j

  pub row_bytes_lem : (family : Family) (fs : List Frame) → Good v fs → InBytes fs → (j : ℕ) → j < length (rows_there v family fs) → row_bytes family fs j ≡ get_or (rows_there v family fs) j []
  row_bytes_lem family fs good bytes j l =
      let rows = rows_there v family fs in
      let ws = widths_of family v in
      row_alone ws rows j l
      (each_at (GoodRow v family) [] rows (there_good family fs good) j l).size
      (bytes_of_lem (get_or rows j []) (each_at AreBytes [] rows (there_bytes family fs bytes) j l))

  -- a frame's rows are among them all
  frame_inside : (family : Family) (fs : List Frame) (i : ℕ) → i < length fs → (r : ℕ) → r < length (rows_here v family (get_or fs i no_frame))
      → get_or (totals 0 (counts v family fs)) i 0 + r < length (rows_there v family fs)
  frame_inside family fs i l r k =
      let n = length-map fs (λ f. length (rows_here v family f)) in
      omega (arith, frame_count v family no_frame fs i l, rows_length v family fs, totals_most 0 (counts v family fs) (i + 1) (omega arith))

  -- those of frame i are the rows between its offset and the next
  pub rows_between_lem : (family : Family) (fs : List Frame) → Good v fs → InBytes fs → (i : ℕ) → i < length fs
      → let os = totals 0 (map (λ f. length (rows_here v family f)) fs) in
      ranged (λ j. row_bytes family fs j ∷ []) (get_or os i 0) (get_or os (i + 1) 0 - get_or os i 0) ≡ rows_here v family (get_or fs i no_frame)
  rows_between_lem family fs good bytes i l =
      let os = totals 0 (map (λ f. length (rows_here v family f)) fs) in
      let here = rows_here v family (get_or fs i no_frame) in
      let n : get_or os (i + 1) 0 - get_or os i 0 ≡ length here = omega (arith, frame_count v family no_frame fs i l) in
      ap (λ (m : ℕ). ranged (λ j. row_bytes family fs j ∷ []) (get_or os i 0) m) n
      ∙ ranged_list [] (λ j. row_bytes family fs j ∷ []) here (get_or os i 0)
      (λ r k. ap (λ (b : List ℕ). b ∷ [])
      (row_bytes_lem family fs good bytes (get_or os i 0 + r) (frame_inside family fs i l r k) ∙ frame_row_lem v family no_frame fs i l r k))

  -- rows of a family that the version lacks
  pub none_good : (family : Family) (rows : List (List ℕ)) → Each (GoodRow v family) rows → has_family v family ≡ false → rows ≡ []
  unfolding Each
  none_good family [] h e = refl
  none_good family (b ∷ rows) h e = no_way (sym e ∙ h.0.has)

  -- frame i's rows of a family with offsets
  pub rows_back : (family : Family) (fs : List Frame) → Good v fs → InBytes fs → (i : ℕ) → i < length fs
      → let os = offsets_read v family fs in
      let rows = length (rows_there v family fs) in
      keep (has_family v family)
      (ranged (λ j. cells_bytes (widths_of family v) (rows_cells v family fs) rows (0 * (length (widths_of family v) * rows) + j) ∷ []) (get_or os i 0) (get_or os (i + 1) 0 - get_or os i 0))
      ≡ rows_here v family (get_or fs i no_frame)
  rows_back family fs good bytes i l = go (has_family v family) refl
    where
      place : (j : ℕ) → 0 * (length (widths_of family v) * length (rows_there v family fs)) + j ≡ j
      place j = rw (zero-mul, zero-add)

      rows_from : List ℕ → List (List ℕ)
      rows_from os =
          ranged (λ j. cells_bytes (widths_of family v) (rows_cells v family fs) (length (rows_there v family fs))
          (0 * (length (widths_of family v) * length (rows_there v family fs)) + j) ∷ []) (get_or os i 0) (get_or os (i + 1) 0 - get_or os i 0)

      go : (b : Bool) → has_family v family ≡ b → keep (has_family v family) (rows_from (offsets_read v family fs)) ≡ rows_here v family (get_or fs i no_frame)
      go true has =
          kept (has_family v family) (rows_from (offsets_read v family fs)) has
          ∙ ap rows_from (offsets_are v family fs has)
          ∙ ranged_same _ (λ j. row_bytes family fs j ∷ []) _ _ (λ j a b. ap (λ (m : ℕ). row_bytes family fs m ∷ []) (place j))
          ∙ rows_between_lem family fs good bytes i l
      go false has =
          dropped (has_family v family) (rows_from (offsets_read v family fs)) has
          ∙ sym (none_good family (rows_here v family (get_or fs i no_frame)) (here_good family (get_or fs i no_frame) (each_at (GoodFrame v ascending) no_frame fs good i l)) has)

  -- one row a frame, where the version has the family
  pub one_each : (family : Family) (row : Frame → List ℕ) → has_family v family ≡ true → ((f : Frame) → rows_here v family f ≡ keep (has_family v family) (row f ∷ []))
      → (fs : List Frame) → rows_there v family fs ≡ map row fs
  unfolding rows_there
  one_each family row has is [] = refl
  one_each family row has is (f ∷ fs) = ap₂ (λ (a b : List (List ℕ)). a ++ b) (is f ∙ kept (has_family v family) (row f ∷ []) has) (one_each family row has is fs)

  -- its row of frame i, as bytes; no bytes where the version lacks it
  pub one_back : (family : Family) (row : Frame → List ℕ) → ((f : Frame) → rows_here v family f ≡ keep (has_family v family) (row f ∷ []))
      → (fs : List Frame) → Good v fs → InBytes fs → Each (λ f. length (row f) ≡ size_of family v) fs → (has_family v family ≡ false → size_of family v ≡ 0)
      → (i : ℕ) → i < length fs → cells_bytes (widths_of family v) (rows_cells v family fs) (length fs) i ≡ row (get_or fs i no_frame)
  one_back family row is fs good bytes sized lacks i l = go (has_family v family) refl
    where
      go : (b : Bool) → has_family v family ≡ b → cells_bytes (widths_of family v) (rows_cells v family fs) (length fs) i ≡ row (get_or fs i no_frame)
      go true has =
          let e = one_each family row has is fs in
          let n : length (rows_there v family fs) ≡ length fs = ap length e ∙ length-map fs row in
          ap (λ (m : ℕ). cells_bytes (widths_of family v) (rows_cells v family fs) m i) (sym n)
          ∙ row_bytes_lem family fs good bytes i (omega arith)
          ∙ ap (λ (rows : List (List ℕ)). get_or rows i []) e
          ∙ map_at_lem row fs i no_frame [] l
      go false has =
          let z = lacks has in
          let a = each_at (λ f. length (row f) ≡ size_of family v) no_frame fs sized i l in
          let b = length_cells (widths_of family v) (rows_cells v family fs) (length fs) i in
          empty (cells_bytes (widths_of family v) (rows_cells v family fs) (length fs) i) (omega arith) ∙ sym (empty (row (get_or fs i no_frame)) (omega arith))
