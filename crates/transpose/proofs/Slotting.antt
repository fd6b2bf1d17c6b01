-- The players of a port column: their slots are there, and what the code gives for it is the definition's.
-- Assumes nothing.
use mathlib.Core.Path.{◌≡◌, refl, sym, ap₂, ◌∙◌}
use mathlib.Core.Bool.{Bool, true, false, cond}
use mathlib.Core.List.{List}
use Prim.Native.Nat.{ℕ, ◌+◌, ◌≤◌, ◌<◌}
use native.Mathlib.Omega.{arith}
use borrow.Author.Tests.{lt-ltb, le-ltb}
use lib.Dec.{ltb}
use lib.ListN.{length, get_or}
use Rattle.std.specs.Prelude.{Option, Some, None, is_some}
use Rattle.std.specs.Option.{unwrap_or}
use Rattle.format.proofs.Versions.{no_way}
use Rattle.game.specs.Frames.{no_port, ports_of, follows, slots_of}
use Rattle.players.specs.Presence.{slots_before}
use Rattle.players.proofs.SlotLaws.{leader_slot, follower_slot}
use Rattle.game.specs.declared.frames.Frames.{Frames}
use Rattle.game.specs.declared.frames.PortColumn.{PortColumn}
use Rattle.transpose.specs.Ports.{no_data, data_at, no_port_data, port_of, port_at}
use Rattle.transpose.specs.Inner.{if_shown, Attending, Playing, Played, Seated, no_seat, seat_of, seat_at}
use Rattle.transpose.specs.declared.frame.Data.{Data}
use Rattle.transpose.specs.declared.frame.PortData.{PortData}
use Rattle.transpose.specs.declared.ports.Seat.{Seat}
use Rattle.transpose.proofs.Shown.{shown_row, shown_none}

pub playing : {f : Frames} {pres posts : List ℕ} {index : ℕ} (slot : ℕ) → Played f pres posts index → slot < length (slots_of f) → Playing f pres posts slot index
playing slot h l = record {
  pre = record { store = h.pre; block_in = l; row_in = h.frame };
  post = record { store = h.post; block_in = l; row_in = h.frame };
}

pub attends : {f : Frames} {pres posts : List ℕ} {index : ℕ} (slot : ℕ) → Played f pres posts index → slot < length (slots_of f) → Attending f slot
attends slot h l = record { modest = h.modest; even = h.even; slot_in = l }

-- ---- where a port column's players are
module _ (f : Frames) (k : ℕ) (shown : Bool) where
  nobody : no_seat ≡ seat_at f k shown → Seated f k shown no_seat
  nobody e = record { is = e; leader = λ z. no_way z; follower = λ z. no_way z }

  pub seat_refused : {q : Seat} → shown ≡ false → q ≡ no_seat → Seated f k shown q
  unfolding seat_at
  seat_refused z e = rw e (nobody (shown_none shown _ no_seat z))

  module _ (z : shown ≡ true) where
    pub seat_none : {q : Seat} → length (ports_of f) ≤ k → q ≡ no_seat → Seated f k shown q
    unfolding seat_at
    seat_none h e = rw e (nobody (rw (le-ltb k (length (ports_of f)) h) (shown_row shown no_seat no_seat z)))

    module _ {p : PortColumn} {slot : ℕ} (h : k < length (ports_of f)) (e : p ≡ get_or (ports_of f) k no_port) (s : slot ≡ slots_before f k) where
      there : seat_of p slot ≡ seat_at f k shown
      unfolding seat_at
      there = rw (lt-ltb k (length (ports_of f)) h) (ap₂ seat_of e s ∙ shown_row shown (seat_of (get_or (ports_of f) k no_port) (slots_before f k)) no_seat z)

      module _ {t : Bool} (q : t ≡ follows p) where
        pub seat_both : t ≡ true → Seated f k shown (record { port = p.port; leader = Some slot; follower = Some (slot + 1) })
        seat_both y =
            let same : record { port = p.port; leader = Some slot; follower = Some (slot + 1) } ≡ seat_of p slot = rw (sym q ∙ y) refl in
            record {
              is = same ∙ there;
              leader = λ _. (z, omega (arith, leader_slot f k p h e, s));
              follower = λ _. (z, omega (arith, follower_slot f k p h e q y, s));
            }

        pub seat_one : t ≡ false → Seated f k shown (record { port = p.port; leader = Some slot; follower = None })
        seat_one y =
            let same : record { port = p.port; leader = Some slot; follower = None } ≡ seat_of p slot = rw (sym q ∙ y) refl in
            record { is = same ∙ there; leader = λ _. (z, omega (arith, leader_slot f k p h e, s)); follower = λ w. no_way w }

-- ---- a port column's players
module _ (f : Frames) (pres posts presence : List ℕ) (index : ℕ) where
  abbrev pub player_from : Option ℕ → Data
  player_from slot = if_shown (is_some slot) (data_at f pres posts presence (unwrap_or slot 0) index) no_data

  abbrev pub port_from : Seat → PortData
  port_from s = record {
    port = s.port;
    follower_given = cond (is_some s.follower) 1 0;
    leader = player_from s.leader;
    follower = player_from s.follower;
  }

  both_or_one : (p : PortColumn) (slot : ℕ) (t : Bool) → follows p ≡ t → port_from (seat_of p slot) ≡ port_of f pres posts presence index p slot
  unfolding if_shown
  both_or_one p slot true e = rw e
  both_or_one p slot false e = rw e

  some_or_none : (b : Bool) (p : PortColumn) (slot : ℕ) → port_from (cond b (seat_of p slot) no_seat) ≡ cond b (port_of f pres posts presence index p slot) no_port_data
  unfolding if_shown
  some_or_none true p slot = both_or_one p slot (follows p) refl
  some_or_none false p slot = refl

  pub port_shown : (k : ℕ) (shown : Bool) → port_from (seat_at f k shown) ≡ if_shown shown (port_at f pres posts presence index k) no_port_data
  unfolding seat_at port_at if_shown
  port_shown k true = some_or_none (ltb k (length (ports_of f))) (get_or (ports_of f) k no_port) (slots_before f k)
  port_shown k false = refl
