-- What is needed by counts is what is read back: the frame input, and the lengths of its stores.
-- Assumes nothing.
use mathlib.Core.Path.{◌≡◌, refl, sym, ap, ap₂, ◌∙◌}
use mathlib.Core.Bool.{Bool, true, false, cond, ◌||◌}
use mathlib.Core.List.{List, [], ◌∷◌, map}
use Prim.Native.Nat.{ℕ, suc, ◌+◌, ◌*◌, ◌<◌}
use native.Mathlib.Nat.{one-mul, zero-mul}
use native.Mathlib.Omega.{arith}
use lib.ListN.{length, length-append, length-map}
use Rattle.wire.specs.Wire.{keep}
use Rattle.wire.proofs.Laws.{ranged_same}
use Rattle.format.specs.Version.{gte_of, above}
use Rattle.format.specs.declared.version.Version.{Version}
use Rattle.layout.specs.Columns.{col, columns_of, has_family, widths_of}
use Rattle.layout.specs.declared.columns.Family.{Family}
use Rattle.layout.specs.declared.columns.Family.TheVariants.{Pre, Post, FrameStart, Item, FrameEnd, FodPlatform, DreamlandWhispy, StadiumTransformation}
use Rattle.layout.proofs.Prefix.{none}
use Rattle.game.specs.Frames.{slots_of, is_marked}
use Rattle.game.specs.declared.frames.Counts.{Counts}
use Rattle.game.specs.declared.frames.Frames.{Frames}
use Rattle.grammar.specs.Productions.{Frame}
use Rattle.columns.specs.Columns.{ever_in, presence_len, port_column, port_columns, rows_here, rows_there, frames_read, rows_cells, players_cells, offsets_read, totals, lent_read}
use Rattle.columns.proofs.Laws.{columns_length}
use Rattle.columns.proofs.Slots.{slots_length}
use Rattle.columns.proofs.Presence.{slots_presence_length}
use Rattle.columns.proofs.Offsets.{totals_length}
use Rattle.measure.specs.Game.{kept, lengths_of}
use Rattle.measure.specs.Inner.{port_by, ports_by, frames_by, store_by, offsets_by, lengths_by}

-- ---- the frame input

-- the counts of a version's frames
abbrev pub counts_of : Version → List Frame → Counts
counts_of v fs = (frames_read v fs).counts

module _ (fs : List Frame) (slots : ℕ) (marks : (k : ℕ) → k < 8 → is_marked slots k ≡ ever_in k fs) where
  port_is : (n : ℕ) → n < 4 → port_by slots (presence_len fs) n ≡ keep (ever_in (2 * n) fs || ever_in (2 * n + 1) fs) (port_column fs n ∷ [])
  unfolding port_by
  port_is n h = rw (marks (2 * n) (omega arith), marks (2 * n + 1) (omega arith))

  ports_are : ports_by slots (presence_len fs) ≡ port_columns fs
  unfolding port_columns
  ports_are = ranged_same _ _ 0 4 (λ n l h. port_is n (omega arith))

  pub frames_are : (v : Version) (counts : Counts) → counts ≡ counts_of v fs → frames_by v counts slots ≡ frames_read v fs
  unfolding frames_by frames_read
  frames_are v counts e = rw (e, ports_are)

-- ---- the stores

-- a family that has one row a frame, where the version has it
each_one : (v : Version) (family : Family) (row : Frame → List ℕ) → ((f : Frame) → rows_here v family f ≡ keep (has_family v family) (row f ∷ [])) → (fs : List Frame)
    → length (rows_there v family fs) ≡ cond (has_family v family) (length fs) 0
unfolding rows_there keep
each_one v family row is [] = go (has_family v family)
  where
    go : (b : Bool) → ◌≡◌ {A = ℕ} 0 (cond b 0 0)
    go true = refl
    go false = refl
each_one v family row is (f ∷ fs) =
    length-append (rows_here v family f) (rows_there v family fs) ∙ ap₂ (λ (l : List (List ℕ)) (n : ℕ). length l + n) (is f) (each_one v family row is fs) ∙ go (has_family v family)
  where
    go : (b : Bool) → length (keep b (row f ∷ [])) + cond b (length fs) 0 ≡ cond b (suc (length fs)) 0
    go true = omega arith
    go false = refl

-- and no column where it has it not
no_starts : (v : Version) → has_family v FrameStart ≡ false → length (widths_of FrameStart v) ≡ 0
unfolding has_family columns_of gte_of above
no_starts v e = ap length (none v (col 0 2 2) (columns_of FrameStart) e tt)

no_ends : (v : Version) → has_family v FrameEnd ≡ false → length (widths_of FrameEnd v) ≡ 0
unfolding has_family columns_of gte_of above
no_ends v e = ap length (none v (col 0 3 0) (columns_of FrameEnd) e tt)

one_a_frame : (columns rows frames : ℕ) (b : Bool) → rows ≡ cond b frames 0 → (b ≡ false → columns ≡ 0) → columns * rows ≡ 1 * (columns * frames)
one_a_frame columns rows frames true e h = rw (e, one-mul (columns * frames))
one_a_frame columns rows frames false e h = rw (h refl, zero-mul rows, zero-mul frames)

module _ (v : Version) (fs : List Frame) where
  abbrev input : Frames
  input = frames_read v fs

  starts_length : length (rows_cells v FrameStart fs) ≡ store_by input FrameStart
  unfolding store_by frames_read
  starts_length =
      columns_length (widths_of FrameStart v) (rows_there v FrameStart fs)
      ∙ one_a_frame _ _ (length fs) (has_family v FrameStart) (each_one v FrameStart (λ f. f.start) (λ f. refl) fs) (no_starts v)

  ends_length : length (rows_cells v FrameEnd fs) ≡ store_by input FrameEnd
  unfolding store_by frames_read
  ends_length =
      columns_length (widths_of FrameEnd v) (rows_there v FrameEnd fs)
      ∙ one_a_frame _ _ (length fs) (has_family v FrameEnd) (each_one v FrameEnd (λ f. f.end) (λ f. refl) fs) (no_ends v)

  counted : (family : Family) (n : ℕ) → n ≡ length (rows_there v family fs) → length (rows_cells v family fs) ≡ 1 * (length (widths_of family v) * n)
  counted family n e = columns_length (widths_of family v) (rows_there v family fs) ∙ rw (← e, one-mul)

  players_length : (family : Family) → length (players_cells v family fs) ≡ length (slots_of input) * (length (widths_of family v) * length fs)
  players_length family = slots_length v family fs (slots_of input)

  offsets_length : (family : Family) → length (offsets_read v family fs) ≡ offsets_by input family
  unfolding offsets_read offsets_by frames_read keep
  offsets_length family = go (has_family v family)
    where
      go : (b : Bool) → length (keep b (totals 0 (map (λ f. length (rows_here v family f)) fs))) ≡ cond b (length fs + 1) 0
      go true = totals_length 0 (map (λ f. length (rows_here v family f)) fs) ∙ ap (λ (n : ℕ). n + 1) (length-map fs (λ f. length (rows_here v family f)))
      go false = refl

  rows_store : (family : Family) (n : ℕ) → n ≡ length (rows_there v family fs) → (columns : ℕ) → columns ≡ length (widths_of family v) → 1 * (columns * n) ≡ length (rows_cells v family fs)
  rows_store family n e columns c = rw c (sym (counted family n e))

  -- how long each store is, by the counts and by what is read back
  pub lengths_are : (codes : List ℕ) → lengths_by input (length codes) ≡ lengths_of (kept (lent_read v fs) codes)
  unfolding lent_read store_by frames_read
  lengths_are codes =
      let all = slots_presence_length fs (slots_of input) in
      λ i. record {
        ids = sym (length-map fs (λ (f : Frame). f.id)) i;
        starts = sym starts_length i;
        pres = sym (players_length Pre) i;
        posts = sym (players_length Post) i;
        ends = sym ends_length i;
        items = rows_store Item _ refl _ refl i;
        fods = rows_store FodPlatform _ refl _ refl i;
        whispys = rows_store DreamlandWhispy _ refl _ refl i;
        stadiums = rows_store StadiumTransformation _ refl _ refl i;
        item_offsets = sym (offsets_length Item) i;
        fod_offsets = sym (offsets_length FodPlatform) i;
        whispy_offsets = sym (offsets_length DreamlandWhispy) i;
        stadium_offsets = sym (offsets_length StadiumTransformation) i;
        presence = sym all i;
        codes = length codes;
      }
