-- A value that is shown of a newer recorder's file is the number at its 3.18 place in the payload that it is read from.
-- Assumes nothing.
use Prim.Native.Nat.{ℕ, suc, ◌+◌, ◌*◌, ◌<◌}
use mathlib.Core.Path.{◌≡◌, refl, sym, ap, ◌∙◌}
use mathlib.Core.Bool.{true}
use mathlib.Core.List.{List, [], ◌∷◌, ◌++◌, map}
use native.Mathlib.Nat.{zero-add, zero-mul}
use native.Mathlib.Omega.{arith}
use lib.ListN.{length, get_or, take, drop, get_or-map}
use lib.Seq.{take-nil}
use Rattle.wire.specs.Wire.{keep}
use Rattle.format.specs.File.{Ev}
use Rattle.format.specs.declared.version.Version.{Version}
use Rattle.layout.specs.Columns.{widths_of}
use Rattle.layout.specs.Payloads.{head_size, record_size}
use Rattle.layout.specs.declared.columns.Family.{Family}
use Rattle.layout.specs.declared.columns.Family.TheVariants.{Pre, Post, FrameStart, Item, FrameEnd, FodPlatform, DreamlandWhispy, StadiumTransformation}
use Rattle.game.specs.Frames.{slots_of, slot_at, rows_of, slot_blocks}
use Rattle.game.specs.Stores.{cells_of}
use Rattle.game.specs.declared.frames.Frames.{Frames}
use Rattle.grammar.specs.Productions.{Frame, Replay, events_of}
use Rattle.columns.specs.Columns.{players_at, rows_here, rows_there, slot_number, slot_row, rows_cells, players_cells, frames_read, lent_read}
use Rattle.columns.specs.Inner.{column}
use Rattle.columns.proofs.Laws.{columns_at}
use Rattle.columns.proofs.Slots.{slots_at_lem}
use Rattle.known.specs.Known.{is_newer, known_of, taken}
use Rattle.known.proofs.Newest.{taken_newer, has_family_lem}
use Rattle.law_known.specs.Shown.{number_in, payloads_of, frames_in, payload_by, payload_at}
use Rattle.law_known.proofs.Number.{column_number}
use Rattle.law_known.proofs.Payloads.{payloads_known, frames_known, by_known, none_known}
use Rattle.law_known.proofs.Tree.{rows_in, tree_rows, tree_player}

module _ (v : Version) (newer : is_newer v ≡ true) (raw : List Ev) (r : Replay) (events : taken v raw ≡ events_of v r) where
  abbrev fs : List Frame
  fs = r.frames

  abbrev f : Frames
  f = frames_read v fs

  known : events_of v r ≡ known_of v raw
  known = sym events ∙ taken_newer v newer raw

  -- ---- rows

  row_at_lem : (family : Family) → head_size family ≡ 4 → (i : ℕ) → get_or (rows_there v family fs) i [] ≡ drop 4 (take (record_size family v) (get_or (payloads_of family raw) i []))
  row_at_lem family four i =
      let size = record_size family v in
      ap (λ (l : List (List ℕ)). get_or l i []) (sym (tree_rows v newer family four r) ∙ ap (rows_in family) known)
      ∙ get_or-map (drop 4) (payloads_of family (known_of v raw)) i []
      ∙ ap (λ (l : List (List ℕ)). drop 4 (get_or l i [])) (payloads_known v family raw)
      ∙ ap (λ (d : List ℕ). drop 4 (get_or (map (take size) (payloads_of family raw)) i d)) (sym (take-nil size))
      ∙ ap (drop 4) (get_or-map (take size) (payloads_of family raw) i [])

  rows_shown : (family : Family) → head_size family ≡ 4 → (k c i : ℕ) → k < 1 → c < length (widths_of family v) → i < length (rows_there v family fs)
      → get_or (rows_cells v family fs) ((k * length (widths_of family v) + c) * length (rows_there v family fs) + i) 0 ≡ number_in family (get_or (payloads_of family raw) i []) c
  rows_shown family four k c i one h l =
      let ws = widths_of family v in
      let n = length (rows_there v family fs) in
      let zero : k ≡ 0 = omega arith in
      let place : k * length ws + c ≡ c = ap (λ (m : ℕ). m * length ws + c) zero ∙ ap (λ (m : ℕ). m + c) (zero-mul (length ws)) ∙ zero-add c in
      ap (λ (m : ℕ). get_or (rows_cells v family fs) (m * n + i) 0) place
      ∙ columns_at ws (rows_there v family fs) c i h l
      ∙ ap (λ (b : List ℕ). column ws b c) (row_at_lem family four i ∙ ap (λ (m : ℕ). drop m (take (record_size family v) (get_or (payloads_of family raw) i []))) (sym four))
      ∙ column_number v newer family (get_or (payloads_of family raw) i []) c h

  -- ---- players

  frame_at : (i : ℕ) → get_or (frames_in (events_of v r)) i [] ≡ known_of v (get_or (frames_in raw) i [])
  frame_at i =
      ap (λ (l : List (List Ev)). get_or l i []) (ap frames_in known ∙ frames_known v raw)
      ∙ ap (λ (d : List Ev). get_or (map (known_of v) (frames_in raw)) i d) (sym (none_known v))
      ∙ get_or-map (known_of v) (frames_in raw) i []

  players_shown : (family : Family) → head_size family ≡ 6 → (k c i : ℕ) → k < length (slots_of f) → c < length (widths_of family v) → i < length fs
      → get_or (players_cells v family fs) ((k * length (widths_of family v) + c) * length fs + i) 0
      ≡ number_in family (payload_by family (slot_number (slot_at f k)) (get_or (frames_in raw) i [])) c
  players_shown family six k c i here h l =
      let ws = widths_of family v in
      let slot = slot_number (slot_at f k) in
      let own = payload_by family slot (get_or (frames_in raw) i []) in
      let row : slot_row family slot (players_at fs i) ≡ drop (head_size family) (take (record_size family v) own)
      = sym (tree_player v newer family six slot r i)
      ∙ ap (λ (es : List Ev). drop 6 (payload_by family slot es)) (frame_at i)
      ∙ ap (drop 6) (by_known v family six slot (get_or (frames_in raw) i []))
      ∙ ap (λ (m : ℕ). drop m (take (record_size family v) own)) (sym six) in
      slots_at_lem v family fs (slots_of f) k c i here h l ∙ ap (λ (b : List ℕ). column ws b c) row ∙ column_number v newer family own c h

  -- ---- how many rows there are

  one_each : (family : Family) (row : Frame → List ℕ) → ((g : Frame) → rows_here v family g ≡ row g ∷ []) → (gs : List Frame) → length (rows_there v family gs) ≡ length gs
  unfolding rows_there
  one_each family row is [] = refl
  one_each family row is (g ∷ gs) = ap (λ (l : List (List ℕ)). length (l ++ rows_there v family gs)) (is g) ∙ ap suc (one_each family row is gs)

  starts_count : length (rows_there v FrameStart fs) ≡ length fs
  unfolding keep
  starts_count = one_each FrameStart (λ g. g.start) (λ g. rw (has_family_lem v newer FrameStart)) fs

  ends_count : length (rows_there v FrameEnd fs) ≡ length fs
  unfolding keep
  ends_count = one_each FrameEnd (λ g. g.end) (λ g. rw (has_family_lem v newer FrameEnd)) fs

  -- ---- every cell of every family

  pub shown : (family : Family) (k c i : ℕ) → k < slot_blocks f family → c < length (widths_of family v) → i < rows_of f family
      → get_or (cells_of (lent_read v fs).cells family) ((k * length (widths_of family v) + c) * rows_of f family + i) 0 ≡ number_in family (payload_at family f raw k i) c
  unfolding frames_read lent_read
  shown Pre k c i here h l = players_shown Pre refl k c i here h l
  shown Post k c i here h l = players_shown Post refl k c i here h l
  shown Item k c i here h l = rows_shown Item refl k c i here h l
  shown FodPlatform k c i here h l = rows_shown FodPlatform refl k c i here h l
  shown DreamlandWhispy k c i here h l = rows_shown DreamlandWhispy refl k c i here h l
  shown StadiumTransformation k c i here h l = rows_shown StadiumTransformation refl k c i here h l
  shown FrameStart k c i here h l =
      ap (λ (n : ℕ). get_or (rows_cells v FrameStart fs) ((k * length (widths_of FrameStart v) + c) * n + i) 0) (sym starts_count) ∙ rows_shown FrameStart refl k c i here h (omega (arith, starts_count))
  shown FrameEnd k c i here h l =
      ap (λ (n : ℕ). get_or (rows_cells v FrameEnd fs) ((k * length (widths_of FrameEnd v) + c) * n + i) 0) (sym ends_count) ∙ rows_shown FrameEnd refl k c i here h (omega (arith, ends_count))
