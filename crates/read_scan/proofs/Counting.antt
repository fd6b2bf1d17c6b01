-- The laws of counting one event.
-- Assumes nothing.
use mathlib.Core.Path.{◌≡◌, sym, ap, ◌∙◌}
use mathlib.Core.Bool.{Bool, true, false, cond}
use Prim.Native.Nat.{ℕ, ◌≤◌, ◌<◌}
use native.Mathlib.Omega.{arith}
use borrow.Author.Tests.{leb-true}
use lib.Dec.{leb}
use Rattle.layout.specs.declared.columns.Family.{Family}
use Rattle.layout.specs.declared.columns.Family.TheVariants.{Pre, Post, FrameStart, Item, FrameEnd, FodPlatform, DreamlandWhispy, StadiumTransformation}
use Rattle.grammar.specs.Machine.{Said, slot_said, player}
use Rattle.grammar.proofs.Tests.{both}
use Rattle.read_order.specs.Inner.{said_of, inside}
use Rattle.read_order.specs.declared.stage.Stage.{Stage}
use Rattle.read_order.specs.declared.stage.Word.{Word}
use Rattle.read_scan.specs.Counts.{begun_at, sat, of_frame, counted_of, Under}
use Rattle.read_scan.specs.declared.tally.Tally.{Tally}

pub player_few : (w : Word) → player (said_of w) ≡ true → (w.port ≤ 3) × (w.follower ≤ 1)
unfolding player
player_few w q = let (a, b) = both (leb w.port 3) (leb w.follower 1) q in (leb-true w.port 3 a, leb-true w.follower 1 b)

-- ---- a Pre

module _ (t : Tally) (m : Stage) (w : Word) (b : Bool) (b-is : b ≡ inside m 2 w) where
  pub pre_of_frame : b ≡ true → (r : Tally) → r ≡ sat t (slot_said (said_of w)) → r ≡ counted_of t m.rank m.id Pre (said_of w)
  unfolding counted_of of_frame inside
  pre_of_frame e r q = q ∙ ap (λ (c : Bool). sat (cond c t (begun_at t m.id w.id)) (slot_said (said_of w))) (sym (sym b-is ∙ e))

  pub pre_begins : b ≡ false → (u r : Tally) → u ≡ begun_at t m.id w.id → r ≡ sat u (slot_said (said_of w)) → r ≡ counted_of t m.rank m.id Pre (said_of w)
  unfolding counted_of of_frame inside
  pre_begins e u r p q =
      q
      ∙ ap (λ (x : Tally). sat x (slot_said (said_of w))) p
      ∙ ap (λ (c : Bool). sat (cond c t (begun_at t m.id w.id)) (slot_said (said_of w))) (sym (sym b-is ∙ e))

-- ---- any family

module _ (t r : Tally) (rank id : ℕ) (w : Said) (family : Family) where
  pub counted_as : (one : Family) → family ≡ one → r ≡ counted_of t rank id one w → r ≡ counted_of t rank id family w
  counted_as one e q = q ∙ ap (λ (f : Family). counted_of t rank id f w) (sym e)

-- an event counts at most one of each
pub under_counted : (t : Tally) (rank id : ℕ) (w : Said) (family : Family) (n m : ℕ) → Under t n → n < m → Under (counted_of t rank id family w) m
unfolding counted_of
under_counted t rank id w Pre n m h l = go (of_frame rank id w)
  where
    go : (b : Bool) → Under (sat (cond b t (begun_at t id w.id)) (slot_said w)) m
    go true = record {
      frames = omega (arith, h.frames);
      items = omega (arith, h.items);
      fods = omega (arith, h.fods);
      whispys = omega (arith, h.whispys);
      stadiums = omega (arith, h.stadiums);
    }
    go false = record {
      frames = omega (arith, h.frames);
      items = omega (arith, h.items);
      fods = omega (arith, h.fods);
      whispys = omega (arith, h.whispys);
      stadiums = omega (arith, h.stadiums);
    }
under_counted t rank id w Post n m h l = record {
  frames = omega (arith, h.frames);
  items = omega (arith, h.items);
  fods = omega (arith, h.fods);
  whispys = omega (arith, h.whispys);
  stadiums = omega (arith, h.stadiums);
}
under_counted t rank id w FrameStart n m h l = record {
  frames = omega (arith, h.frames);
  items = omega (arith, h.items);
  fods = omega (arith, h.fods);
  whispys = omega (arith, h.whispys);
  stadiums = omega (arith, h.stadiums);
}
under_counted t rank id w Item n m h l = record {
  frames = omega (arith, h.frames);
  items = omega (arith, h.items);
  fods = omega (arith, h.fods);
  whispys = omega (arith, h.whispys);
  stadiums = omega (arith, h.stadiums);
}
under_counted t rank id w FrameEnd n m h l = record {
  frames = omega (arith, h.frames);
  items = omega (arith, h.items);
  fods = omega (arith, h.fods);
  whispys = omega (arith, h.whispys);
  stadiums = omega (arith, h.stadiums);
}
under_counted t rank id w FodPlatform n m h l = record {
  frames = omega (arith, h.frames);
  items = omega (arith, h.items);
  fods = omega (arith, h.fods);
  whispys = omega (arith, h.whispys);
  stadiums = omega (arith, h.stadiums);
}
under_counted t rank id w DreamlandWhispy n m h l = record {
  frames = omega (arith, h.frames);
  items = omega (arith, h.items);
  fods = omega (arith, h.fods);
  whispys = omega (arith, h.whispys);
  stadiums = omega (arith, h.stadiums);
}
under_counted t rank id w StadiumTransformation n m h l = record {
  frames = omega (arith, h.frames);
  items = omega (arith, h.items);
  fods = omega (arith, h.fods);
  whispys = omega (arith, h.whispys);
  stadiums = omega (arith, h.stadiums);
}

pub under_to : (t : Tally) (n m : ℕ) → Under t n → n ≤ m → Under t m
under_to t n m h l = record {
  frames = omega (arith, h.frames);
  items = omega (arith, h.items);
  fods = omega (arith, h.fods);
  whispys = omega (arith, h.whispys);
  stadiums = omega (arith, h.stadiums);
}
