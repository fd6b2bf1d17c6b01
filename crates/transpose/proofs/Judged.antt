-- What an answer says: a refusal's number, or that the place is in stores that were judged.
-- Assumes nothing.
use mathlib.Core.Path.{◌≡◌, sym, ◌∙◌}
use mathlib.Core.Bool.{false}
use mathlib.Core.List.{List, [], ◌∷◌}
use Prim.Native.Nat.{ℕ, zero, suc, ◌<◌}
use native.Mathlib.Omega.{arith}
use borrow.Author.Tests.{leb-false}
use lib.Dec.{leb, lit<}
use lib.ListN.{length}
use Rattle.format.specs.Refusal.{Refusal, refuse, lowest}
use Rattle.format.proofs.Refusals.{passed, lowest_before, lowest_after, lowest_first}
use Rattle.format.proofs.Tests.{or_none}
use Rattle.layout.specs.declared.columns.Family.{Family}
use Rattle.layout.specs.declared.columns.Family.TheVariants.{Pre, Post, FrameStart, FrameEnd}
use Rattle.frames.specs.Inner.{Accepted}
use Rattle.game.specs.Frames.{rows_of, slots_of, slot_blocks}
use Rattle.frames.specs.Judge.{refusals}
use Rattle.game.specs.Stores.{Lent, cells_of}
use Rattle.game.specs.declared.frames.Frames.{Frames}
use Rattle.frames.proofs.Accepted.{numbered, accepted}
use Rattle.transpose.specs.Judge.{outside, row_refusal}
use Rattle.transpose.specs.Inner.{Reachable, Attending, Showable, place_refusal}
use Rattle.transpose.specs.Answers.{unless_refused}

module _ (f : Frames) (s : Lent) (family : Family) (block row : ℕ) where
  -- the place, which is judged last
  abbrev last : List Refusal
  last = refuse 13 (outside f family block row) ∷ []

  -- the first judge refuses
  judged_refused : (n : ℕ) → n ≡ lowest (refusals f s 0 0) → (n ≡ 0 → ⊥) → n ≡ row_refusal f s family block row
  unfolding row_refusal
  judged_refused n e ne = e ∙ sym (lowest_before (refusals f s 0 0) last (λ z. ne (e ∙ z)))

  -- it does not, and the place decides
  place_decides : lowest (refusals f s 0 0) ≡ 0 → row_refusal f s family block row ≡ lowest last
  unfolding row_refusal
  place_decides e = lowest_after (refusals f s 0 0) last (numbered f s 0 0) e

  pub row_judged : (n : ℕ) → n ≡ lowest (refusals f s 0 0) → place_refusal n f family block row ≡ row_refusal f s family block row
  unfolding place_refusal unless_refused
  row_judged zero e = sym (place_decides (sym e))
  row_judged (suc n) e = judged_refused (suc n) e (λ z. absurd (omega (arith, z)))

  module _ (e : row_refusal f s family block row ≡ 0) where
    first_none : lowest (refusals f s 0 0) ≡ 0
    unfolding row_refusal
    first_none = lowest_first (refusals f s 0 0) last e

    not_outside : outside f family block row ≡ false
    not_outside = (passed _ _ _ (sym (place_decides first_none) ∙ e)).0

    -- nothing is refused: the stores are accepted, and the place is in them
    pub row_accepted : Accepted f s
    row_accepted = accepted f s 0 0 first_none

    inside : (block < slot_blocks f family) × (row < rows_of f family)
    unfolding outside
    inside =
        let (a, b) = or_none (leb (slot_blocks f family) block) (leb (rows_of f family) row) not_outside in
        (leb-false (slot_blocks f family) block a, leb-false (rows_of f family) row b)

    pub reachable : Reachable f family (cells_of s.cells family) block row
    reachable = record { store = row_accepted.stores family; block_in = inside.0; row_in = inside.1 }

    pub attending : slot_blocks f family ≡ length (slots_of f) → Attending f block
    attending e' = record { modest = row_accepted.modest; even = row_accepted.presence.even; slot_in = omega (arith, inside.0, e') }

-- all of a frame is there
pub showable : (f : Frames) (s : Lent) (index : ℕ) → row_refusal f s FrameStart 0 index ≡ 0
    → Showable f s.cells.ids s.cells.starts s.cells.pres s.cells.posts s.cells.ends s.offsets index
showable f s index e =
    let a = row_accepted f s FrameStart 0 index e in
    let r = reachable f s FrameStart 0 index e in
    record {
      ids_fit = a.ids;
      start = r;
      end = record { store = a.stores FrameEnd; block_in = lit< tt; row_in = r.row_in };
      players = record { pre = a.stores Pre; post = a.stores Post; frame = r.row_in; modest = a.modest; even = a.presence.even };
      items = a.items;
      fods = a.fods;
      whispys = a.whispys;
      stadiums = a.stadiums;
    }
