-- The stores of an accepted input, but for the players', are those that its frames say.
-- Assumes nothing.
use mathlib.Core.Path.{◌≡◌, refl, sym, ap, ◌∙◌}
use mathlib.Core.Bool.{Bool, true, false}
use mathlib.Core.List.{List, [], ◌∷◌}
use Prim.Native.Nat.{ℕ, zero, suc, ◌+◌, ◌-◌, ◌*◌, ◌≤◌, ◌<◌}
use native.Mathlib.Nat.{zero-mul, mul-zero, mul-one, zero-add}
use native.Mathlib.Numerals.{add-one}
use native.Mathlib.Omega.{arith}
use lib.ListN.{length, get_or, length-map}
use lib.Seq.{ext_get_or}
use Rattle.wire.specs.Wire.{ranged, keep}
use Rattle.wire.proofs.Laws.{length_ranged}
use Rattle.format.specs.declared.version.Version.{Version}
use Rattle.layout.specs.Columns.{has_family, widths_of}
use Rattle.layout.specs.declared.columns.Family.{Family}
use Rattle.layout.specs.declared.columns.Family.TheVariants.{FrameStart, FrameEnd}
use Rattle.game.specs.Frames.{rows_of, slot_blocks}
use Rattle.game.specs.Stores.{Lent, cells_of, offsets_of}
use Rattle.game.specs.declared.frames.Frames.{Frames}
use Rattle.frames.specs.Inner.{Placed, Accepted}
use Rattle.grammar.specs.Productions.{Frame}
use Rattle.grammar.proofs.Unique.{empty}
use Rattle.columns.specs.Columns.{rows_here, rows_there, rows_cells, offsets_read, totals, ids_read}
use Rattle.columns.proofs.Laws.{map_at_lem}
use Rattle.columns.proofs.Offsets.{counts, totals_first, totals_next, totals_length, offsets_are}
use Rattle.law_tree.specs.Tree.{bytes_of, rows_in, frame_of, shows, frames_of}
use Rattle.law_columns.proofs.Lists.{kept, dropped}
use Rattle.law_columns.proofs.Rows.{no_frame, Good, there_good, none_good, one_each}
use Rattle.law_columns.proofs.Judged.{no_starts, no_ends}
use Rattle.law_columns.proofs.Given.{single_at, frames_count, frame_at, rows_there_lem, cells_by, no_cells_lem}

module _ (f : Frames) (s : Lent) (a : Accepted f s) (shown : (i : ℕ) → i < f.counts.frames → shows f s i ≡ true) (good : Good f.version (frames_of f s)) where
  abbrev v : Version
  v = f.version

  abbrev fs : List Frame
  fs = frames_of f s

  count : length fs ≡ f.counts.frames
  count = frames_count f s a shown

  -- ---- ids
  pub ids_same : ids_read fs ≡ s.cells.ids
  ids_same =
      let n = length-map fs (λ (f : Frame). f.id) in
      ext_get_or 0 (ids_read fs) s.cells.ids (n ∙ count ∙ sym a.ids)
      (λ i l. let k : i < length fs = omega (arith, n) in
      map_at_lem (λ (f : Frame). f.id) fs i no_frame 0 k ∙ ap (λ (x : Frame). x.id) (frame_at f s a shown i (omega (arith, count))))

  -- ---- one row a frame
  one_same : (family : Family) (row : Frame → List ℕ) → slot_blocks f family ≡ 1 → rows_of f family ≡ f.counts.frames
      → ((x : Frame) → rows_here v family x ≡ keep (has_family v family) (row x ∷ []))
      → ((i : ℕ) → row (frame_of f s i) ≡ bytes_of f s family 0 i) → (has_family v family ≡ false → widths_of family v ≡ [])
      → (b : Bool) → has_family v family ≡ b → rows_cells v family fs ≡ cells_of s.cells family
  one_same family row one many is rows lacks true has =
      let e = one_each v family row has is fs in
      let n : length (rows_there v family fs) ≡ rows_of f family = ap length e ∙ length-map fs row ∙ count ∙ sym many in
      cells_by f s a shown family one (rows_there v family fs) n
      (λ i l. let k : i < length fs = omega (arith, count, many) in
      ap (λ (r : List (List ℕ)). get_or r i []) e
      ∙ map_at_lem row fs i no_frame [] k
      ∙ ap row (frame_at f s a shown i (omega (arith, count)))
      ∙ rows i)
  one_same family row one many is rows lacks false has =
      let none : (m : ℕ) → length (widths_of family v) * m ≡ 0 = λ m. ap (λ (ws : List ℕ). length ws * m) (lacks has) ∙ zero-mul m in
      no_cells_lem f s a shown family one (rows_there v family fs) (none (rows_of f family)) (none (length (rows_there v family fs)))

  pub starts_same : rows_cells v FrameStart fs ≡ s.cells.starts
  starts_same = one_same FrameStart (λ x. x.start) refl refl (λ x. refl) (λ i. refl) (no_starts v) (has_family v FrameStart) refl

  pub ends_same : rows_cells v FrameEnd fs ≡ s.cells.ends
  ends_same = one_same FrameEnd (λ x. x.end) refl refl (λ x. refl) (λ i. refl) (no_ends v) (has_family v FrameEnd) refl

  -- ---- rows with offsets
  module _ (family : Family) (one : slot_blocks f family ≡ 1) (is : (i : ℕ) → rows_here v family (frame_of f s i) ≡ rows_in f s family i)
      (p : Placed f family (offsets_of s.offsets family)) where
    abbrev os : List ℕ
    os = offsets_of s.offsets family

    none_there : has_family v family ≡ false → rows_there v family fs ≡ []
    none_there has = none_good v family (rows_there v family fs) (there_good v family fs good) has

    rows_by_lem : (b : Bool) → has_family v family ≡ b → length (rows_there v family fs) ≡ rows_of f family
    rows_by_lem true has =
        ap length (rows_there_lem f s a shown family is has (p.has has))
        ∙ length_ranged (λ j. bytes_of f s family 0 j ∷ []) 1 (λ j. refl) 0 (rows_of f family)
        ∙ mul-one (rows_of f family)
    rows_by_lem false has = ap length (none_there has) ∙ sym (p.lacks has).0

    cells_of_lem : (b : Bool) → has_family v family ≡ b → rows_cells v family fs ≡ cells_of s.cells family
    cells_of_lem true has =
        cells_by f s a shown family one (rows_there v family fs) (rows_by_lem true has)
        (λ i l. ap (λ (r : List (List ℕ)). get_or r i []) (rows_there_lem f s a shown family is has (p.has has))
        ∙ single_at [] (bytes_of f s family 0) 0 (rows_of f family) i l
        ∙ ap (bytes_of f s family 0) (zero-add i))
    cells_of_lem false has =
        let ws = widths_of family v in
        no_cells_lem f s a shown family one (rows_there v family fs)
        (ap (λ (m : ℕ). length ws * m) (p.lacks has).0 ∙ mul-zero (length ws))
        (ap (λ (r : List (List ℕ)). length ws * length r) (none_there has) ∙ mul-zero (length ws))

    -- each frame has as many rows as stand between its offsets
    between : has_family v family ≡ true → (i : ℕ) → i < f.counts.frames → get_or (counts v family fs) i 0 ≡ get_or os (i + 1) 0 - get_or os i 0
    unfolding rows_in
    between has i l =
        let n = get_or os (i + 1) 0 - get_or os i 0 in
        let k : i < length fs = omega (arith, count) in
        map_at_lem (λ x. length (rows_here v family x)) fs i no_frame 0 k
        ∙ ap (λ (x : Frame). length (rows_here v family x)) (frame_at f s a shown i l)
        ∙ ap length (is i ∙ kept (has_family v family) (ranged (λ j. bytes_of f s family 0 j ∷ []) (get_or os i 0) n) has)
        ∙ length_ranged (λ j. bytes_of f s family 0 j ∷ []) 1 (λ j. refl) (get_or os i 0) n
        ∙ mul-one n

    counted : length (counts v family fs) ≡ f.counts.frames
    counted = length-map fs (λ x. length (rows_here v family x)) ∙ count

    totals_same : has_family v family ≡ true → (i : ℕ) → i ≤ f.counts.frames → get_or (totals 0 (counts v family fs)) i 0 ≡ get_or os i 0
    totals_same has zero l = totals_first 0 (counts v family fs) ∙ sym (p.has has).first
    totals_same has (suc i) l =
        let ih = totals_same has i (omega arith) in
        let next = totals_next 0 (counts v family fs) i (omega (arith, counted)) in
        let up = (p.has has).rising i (omega arith) in
        rw (← add-one i) (omega (arith, between has i (omega arith)))

    offsets_by_lem : (b : Bool) → has_family v family ≡ b → offsets_read v family fs ≡ os
    unfolding offsets_read
    offsets_by_lem true has =
        let r = p.has has in
        let n : length (totals 0 (counts v family fs)) ≡ length os = omega (arith, totals_length 0 (counts v family fs), counted, r.entries) in
        offsets_are v family fs has
        ∙ ext_get_or 0 (totals 0 (counts v family fs)) os n (λ i l. totals_same has i (omega (arith, r.entries)))
    offsets_by_lem false has = dropped (has_family v family) (totals 0 (counts v family fs)) has ∙ sym (empty os (p.lacks has).1)

    pub rows_same : length (rows_there v family fs) ≡ rows_of f family
    rows_same = rows_by_lem (has_family v family) refl

    pub cells_same : rows_cells v family fs ≡ cells_of s.cells family
    cells_same = cells_of_lem (has_family v family) refl

    pub offsets_same : offsets_read v family fs ≡ os
    offsets_same = offsets_by_lem (has_family v family) refl
