-- No accepted file of at most a plan's counts takes more than the plan's room; and the fullest of exactly these counts takes all of it.
-- Assumes nothing.
use mathlib.Core.Path.{◌≡◌, refl, sym, ap}
use mathlib.Core.Bool.{false, not}
use mathlib.Core.List.{List}
use Prim.Native.Nat.{ℕ, zero, suc, ◌+◌, ◌≤◌}
use native.Mathlib.Omega.{arith}
use borrow.Author.Tests.{le-ltb}
use lib.ListN.{length}
use Rattle.format.specs.Mark.{yes}
use Rattle.format.specs.Refusal.{lowest, one_of}
use Rattle.format.proofs.Refusals.{skip, none}
use Rattle.players.proofs.SlotLaws.{slots_few}
use Rattle.frames.specs.Judge.{too_many}
use Rattle.game.specs.Stores.{Stores}
use Rattle.game.specs.declared.Game.{Game}
use Rattle.ser.specs.Length.{raw_length}
use Rattle.ser.specs.Write.{given_bytes, file, refusal, write_numbers, WrittenNumbers, written_numbers, WriterOutcome}
use Rattle.std.specs.Prelude.{Ok}
use Rattle.ser.proofs.Answered.{accepted}
use Rattle.ser.proofs.Outcomes.{Passed}
use Rattle.ser.proofs.Steps.{total_is}
use Rattle.room.specs.Room as room
use Rattle.room.specs.Room.{room_of, counted, room_refusals, reserved, AtMost}
use Rattle.room.specs.declared.Plan.{Plan}
use Rattle.room.proofs.Laws.{taken, events_are}
use Rattle.room.proofs.Rising.{rising}
use Rattle.law_room.specs.Fits.{plan_of, Fullest}
use Rattle.law_room.proofs.Parts as parts

-- ---- of the definition's file

module _ {g : Game} {s : Stores} (p : Passed g s) where
  -- the file's length by its parts, and the events' room by its own
  length_is : length (file g s) ≡ 15 + (raw_length g s.lent.presence (length s.template) + parts.tail_length g s p)
  length_is = total_is p (raw_length g s.lent.presence (length s.template)) refl _ (yes g.metadata_given) (given_bytes g.metadata_given s.metadata) refl refl refl

  pub own_room : length (file g s) ≤ room_of (plan_of g s)
  unfolding room_of raw_length
  own_room =
      omega (arith, length_is, events_are (plan_of g s) refl refl refl refl, parts.table_fits g s p, parts.start_is g s p, parts.codes_fit g s p, parts.frames_fit g s p, parts.ends_fit g s p, parts.tail_fits g s p)

  -- of at most these counts
  pub enough : {q : Plan} → AtMost (plan_of g s) q → length (file g s) ≤ room_of q
  enough h = omega (arith, own_room, rising h)

  -- of exactly these counts
  pub reached : Fullest g s → length (file g s) ≡ room_of (plan_of g s)
  unfolding room_of raw_length
  reached f =
      omega (arith, length_is, events_are (plan_of g s) refl refl refl refl, parts.table_fits g s p, parts.table_reached g s p f, parts.start_is g s p, parts.codes_reached g s p f, parts.frames_reached g s p f, parts.ends_reached g s p f, parts.tail_reached g s p f)

  -- the call does not refuse an accepted game's own counts
  own_counts : too_many (counted (plan_of g s)) (given_bytes g.codes_given s.codes) (given_bytes g.metadata_given s.metadata) ≡ false
  unfolding too_many one_of
  own_counts =
      let m = p.frames.modest in
      rw (le-ltb _ _ m.frames, le-ltb _ _ m.items, le-ltb _ _ m.fods, le-ltb _ _ m.whispys, le-ltb _ _ m.stadiums, le-ltb _ _ p.codes_few, le-ltb _ _ p.metadata_few)

  pub own_plan : lowest (room_refusals (plan_of g s)) ≡ 0
  unfolding room_refusals
  own_plan =
      sym (skip _ _ _ _ (ap not p.frames.version)
      (skip _ _ _ _ own_counts (skip _ _ _ _ (le-ltb _ _ (slots_few g.frames)) (skip _ _ _ _ p.block none))))

-- ---- of the calls: what `write` answered, and what `room` answers

answered_length : (k n m : ℕ) → written_numbers (Ok n) ≡ write_numbers k m → n ≡ m
answered_length zero n m e = ap (λ (w : WrittenNumbers). w.len) e
answered_length (suc k) n m e = let z : ◌≡◌ {A = ℕ} 0 1 = ap (λ (w : WrittenNumbers). w.kind) e in absurd (omega arith)

module _ {g : Game} {s : Stores} {out out' : List ℕ} {n : ℕ} (o : WriterOutcome g s out (Ok n) out') where
  written_length : n ≡ length (file g s)
  written_length = answered_length (refusal g s (length out)) n (length (file g s)) o.answer_is

  pub written_fits : {q : Plan} → AtMost (plan_of g s) q → (reserved q).refused ≡ 0 → n ≤ (reserved q).bytes
  written_fits {q} h a = omega (arith, written_length, enough (accepted o) h, taken q a)

  own_taken : (reserved (plan_of g s)).refused ≡ 0
  own_taken = ap (λ (k : ℕ). (room.room_answer k (room_of (plan_of g s))).refused) (own_plan (accepted o))

  pub written_reaches : Fullest g s → ((reserved (plan_of g s)).refused ≡ 0) × (n ≡ (reserved (plan_of g s)).bytes)
  written_reaches f = (own_taken, omega (arith, written_length, reached (accepted o) f, taken (plan_of g s) own_taken))
