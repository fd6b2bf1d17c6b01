-- The frame input that is read back has even presence bytes and modest counts, and stores that hold what is read back have room for the pass.
-- Assumes nothing.
use mathlib.Core.Path.{◌≡◌, refl, sym, ap, ap₂, subst, ◌∙◌}
use mathlib.Core.Bool.{Bool, true, false, not, cond, ◌||◌}
use mathlib.Core.List.{List, [], ◌∷◌, ◌++◌, map}
use Prim.Native.Nat.{ℕ, zero, suc, ◌+◌, ◌*◌, ◌/◌, ◌≤◌}
use native.Mathlib.Nat.{one-mul, zero-mul}
use native.Mathlib.Omega.{arith}
use borrow.Author.Tests.{eq-eqb}
use lib.Dec.{eqb}
use lib.ListN.{length, length-append, length-map}
use Rattle.wire.specs.Wire.{ranged, keep}
use Rattle.format.specs.Refusal.{one_of}
use Rattle.format.specs.Version.{gte_of, above}
use Rattle.format.specs.declared.version.Version.{Version}
use Rattle.layout.specs.Columns.{col, columns_of, has_family, widths_of}
use Rattle.layout.specs.declared.columns.Family.{Family}
use Rattle.layout.specs.declared.columns.Family.TheVariants.{Pre, Post, FrameStart, Item, FrameEnd, FodPlatform, DreamlandWhispy, StadiumTransformation}
use Rattle.layout.proofs.Prefix.{none}
use Rattle.layout.proofs.Laws.{narrow_of}
use Rattle.game.specs.Frames.{slots_of}
use Rattle.game.specs.Stores.{Lent}
use Rattle.game.specs.declared.frames.PortColumn.{PortColumn}
use Rattle.game.specs.declared.frames.Frames.{Frames}
use Rattle.players.specs.Presence.{uneven, port_uneven, ports_uneven}
use Rattle.players.specs.Inner.{Modest}
use Rattle.frames.specs.Judge.{too_many}
use Rattle.frames.proofs.Accepted.{counted}
use Rattle.grammar.specs.Productions.{Frame}
use Rattle.grammar.proofs.Tests.{or_true}
use Rattle.columns.specs.Columns.{ever_in, presence_len, port_column, port_columns, rows_here, rows_there, frames_read, slot_number, rows_cells, players_cells, slots_presence}
use Rattle.columns.proofs.Laws.{columns_length}
use Rattle.columns.proofs.Slots.{slots_length}
use Rattle.columns.proofs.Presence.{slots_presence_length}
use Rattle.read_event.specs.Inner.{plan_of, numbers_of, Rooms, Roomy}
use Rattle.law_filled.proofs.Numbers.{ports_are}

-- ---- presence bytes

even_len : (frames : ℕ) → uneven frames ((frames + 7) / 8) ≡ false
unfolding uneven
even_len frames =
    let len = (frames + 7) / 8 in
    ap not (or_true (eqb len 0) (eqb len len) (eq-eqb len len refl))

even_column : (fs : List Frame) (n : ℕ) → port_uneven (length fs) (port_column fs n) ≡ false
unfolding port_uneven one_of
even_column fs n = rw (even_len (length fs)) (go (ever_in (2 * n + 1) fs))
  where
    go : (b : Bool) → cond (not (eqb (cond b 1 0) 0)) (uneven (length fs) (cond b (presence_len fs) 0)) (not (eqb (cond b (presence_len fs) 0) 0)) || false ≡ false
    go true = rw (even_len (length fs))
    go false = refl

none_kept : {A : Type 0} (g : A → Bool) (b : Bool) (x : A) (xs : List A) → g x ≡ false → one_of (map g xs) ≡ false → one_of (map g (keep b (x ∷ []) ++ xs)) ≡ false
unfolding keep one_of
none_kept g true x xs h k = rw h k
none_kept g false x xs h k = k

none_ranged : {A : Type 0} (g : A → Bool) (t : ℕ → Bool) (c : ℕ → A) → ((n : ℕ) → g (c n) ≡ false) → (i n : ℕ) → one_of (map g (ranged (λ j. keep (t j) (c j ∷ [])) i n)) ≡ false
unfolding ranged one_of
none_ranged g t c h i zero = refl
none_ranged g t c h i (suc n) = none_kept g (t i) (c i) (ranged (λ j. keep (t j) (c j ∷ [])) (i + 1) n) (h i) (none_ranged g t c h (i + 1) n)

columns_even : (fs : List Frame) → one_of (map (port_uneven (length fs)) (port_columns fs)) ≡ false
unfolding port_columns
columns_even fs = none_ranged (port_uneven (length fs)) (λ n. ever_in (2 * n) fs || ever_in (2 * n + 1) fs) (port_column fs) (even_column fs) 0 4

frames_are : (v : Version) (fs : List Frame) → (frames_read v fs).counts.frames ≡ length fs
unfolding frames_read
frames_are v fs = refl

pub uneven_not : (v : Version) (fs : List Frame) → ports_uneven (frames_read v fs) ≡ false
unfolding ports_uneven
uneven_not v fs =
    ap₂ (λ (n : ℕ) (ps : List PortColumn). one_of (map (port_uneven n) ps)) (frames_are v fs) (ports_are v fs) ∙ columns_even fs

-- ---- counts

pub modest_from_small : (v : Version) (fs : List Frame) (codes : ℕ) → too_many (frames_read v fs) codes 0 ≡ false → Modest (frames_read v fs)
modest_from_small v fs codes e = (counted (frames_read v fs) codes 0 e).0

-- ---- room

-- a family that has one row a frame, where the version has it
each_one : (v : Version) (family : Family) (row : Frame → List ℕ) → ((f : Frame) → rows_here v family f ≡ keep (has_family v family) (row f ∷ [])) → (fs : List Frame)
    → length (rows_there v family fs) ≡ cond (has_family v family) (length fs) 0
unfolding rows_there keep
each_one v family row is [] = go (has_family v family)
  where
    go : (b : Bool) → ◌≡◌ {A = ℕ} 0 (cond b 0 0)
    go true = refl
    go false = refl
each_one v family row is (f ∷ fs) =
    length-append (rows_here v family f) (rows_there v family fs) ∙ ap₂ (λ (l : List (List ℕ)) (n : ℕ). length l + n) (is f) (each_one v family row is fs) ∙ go (has_family v family)
  where
    go : (b : Bool) → length (keep b (row f ∷ [])) + cond b (length fs) 0 ≡ cond b (suc (length fs)) 0
    go true = omega arith
    go false = refl

-- and no column where it has it not
no_starts : (v : Version) → has_family v FrameStart ≡ false → length (widths_of FrameStart v) ≡ 0
unfolding has_family columns_of gte_of above
no_starts v e = ap length (none v (col 0 2 2) (columns_of FrameStart) e tt)

no_ends : (v : Version) → has_family v FrameEnd ≡ false → length (widths_of FrameEnd v) ≡ 0
unfolding has_family columns_of gte_of above
no_ends v e = ap length (none v (col 0 3 0) (columns_of FrameEnd) e tt)

one_a_frame : (columns rows frames : ℕ) (b : Bool) → rows ≡ cond b frames 0 → (b ≡ false → columns ≡ 0) → columns * rows ≡ 1 * (columns * frames)
one_a_frame columns rows frames true e h = rw (e, one-mul (columns * frames))
one_a_frame columns rows frames false e h = rw (h refl, zero-mul rows, zero-mul frames)

-- what is read back is as long as its family's columns
module _ (v : Version) (fs : List Frame) where
  starts_long : length (rows_cells v FrameStart fs) ≡ 1 * (length (widths_of FrameStart v) * length fs)
  starts_long =
      columns_length (widths_of FrameStart v) (rows_there v FrameStart fs)
      ∙ one_a_frame _ _ (length fs) (has_family v FrameStart) (each_one v FrameStart (λ f. f.start) (λ f. refl) fs) (no_starts v)

  ends_long : length (rows_cells v FrameEnd fs) ≡ 1 * (length (widths_of FrameEnd v) * length fs)
  ends_long =
      columns_length (widths_of FrameEnd v) (rows_there v FrameEnd fs)
      ∙ one_a_frame _ _ (length fs) (has_family v FrameEnd) (each_one v FrameEnd (λ f. f.end) (λ f. refl) fs) (no_ends v)

  rows_long_lem : (family : Family) → length (rows_cells v family fs) ≡ 1 * (length (widths_of family v) * length (rows_there v family fs))
  rows_long_lem family = columns_length (widths_of family v) (rows_there v family fs) ∙ sym (one-mul (length (widths_of family v) * length (rows_there v family fs)))

  numbered : length (numbers_of (frames_read v fs)) ≡ length (slots_of (frames_read v fs))
  numbered = length-map (slots_of (frames_read v fs)) slot_number

  players_long : (family : Family) → length (players_cells v family fs) ≡ length (numbers_of (frames_read v fs)) * (length (widths_of family v) * length fs)
  players_long family = slots_length v family fs (slots_of (frames_read v fs)) ∙ ap (λ (n : ℕ). n * (length (widths_of family v) * length fs)) (sym numbered)

  presence_long : length (slots_presence fs (slots_of (frames_read v fs))) ≡ length (numbers_of (frames_read v fs)) * ((length fs + 7) / 8)
  presence_long = slots_presence_length fs (slots_of (frames_read v fs)) ∙ ap (λ (n : ℕ). n * presence_len fs) (sym numbered)

  roomy : (family : Family) (blocks rows : ℕ) (xs ys : List ℕ) → length ys ≡ blocks * (length (widths_of family v) * rows) → length ys ≤ length xs → Roomy (widths_of family v) xs blocks rows
  roomy family blocks rows xs ys e l = record { narrow = narrow_of family v; room = omega (arith, e) }

  -- stores that are at least as long
  module _ (l : Lent) (few : length fs ≤ 1048576) (starts : length (rows_cells v FrameStart fs) ≤ length l.cells.starts) (pres : length (players_cells v Pre fs) ≤ length l.cells.pres)
      (posts : length (players_cells v Post fs) ≤ length l.cells.posts) (ends : length (rows_cells v FrameEnd fs) ≤ length l.cells.ends)
      (items : length (rows_cells v Item fs) ≤ length l.cells.items) (fods : length (rows_cells v FodPlatform fs) ≤ length l.cells.fods)
      (whispys : length (rows_cells v DreamlandWhispy fs) ≤ length l.cells.whispys) (stadiums : length (rows_cells v StadiumTransformation fs) ≤ length l.cells.stadiums)
      (presence : length (slots_presence fs (slots_of (frames_read v fs))) ≤ length l.presence) where
    rooms_read : Rooms (plan_of (frames_read v fs)) l
    unfolding frames_read
    rooms_read =
        let slots = length (numbers_of (frames_read v fs)) in
        record {
          starts = roomy FrameStart 1 (length fs) l.cells.starts (rows_cells v FrameStart fs) starts_long starts;
          pres = roomy Pre slots (length fs) l.cells.pres (players_cells v Pre fs) (players_long Pre) pres;
          posts = roomy Post slots (length fs) l.cells.posts (players_cells v Post fs) (players_long Post) posts;
          ends = roomy FrameEnd 1 (length fs) l.cells.ends (rows_cells v FrameEnd fs) ends_long ends;
          items = roomy Item 1 (length (rows_there v Item fs)) l.cells.items (rows_cells v Item fs) (rows_long_lem Item) items;
          fods = roomy FodPlatform 1 (length (rows_there v FodPlatform fs)) l.cells.fods (rows_cells v FodPlatform fs) (rows_long_lem FodPlatform) fods;
          whispys = roomy DreamlandWhispy 1 (length (rows_there v DreamlandWhispy fs)) l.cells.whispys (rows_cells v DreamlandWhispy fs) (rows_long_lem DreamlandWhispy) whispys;
          stadiums = roomy StadiumTransformation 1 (length (rows_there v StadiumTransformation fs)) l.cells.stadiums (rows_cells v StadiumTransformation fs) (rows_long_lem StadiumTransformation) stadiums;
          bits = omega (arith, presence_long, presence);
          modest = few;
        }

    pub rooms_from : (f : Frames) → f ≡ frames_read v fs → Rooms (plan_of f) l
    rooms_from f e = subst (λ (x : Frames). Rooms (plan_of x) l) (sym e) rooms_read
