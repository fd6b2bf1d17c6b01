-- Marks: a player's row says present where its presence bit is set, absent where it is not, and a follower that a port has not is absent, with zeros.
-- Assumes nothing.
use mathlib.Core.Path.{◌≡◌, refl, sym, ap, ◌∙◌}
use mathlib.Core.Bool.{Bool, true, false}
use mathlib.Core.List.{List}
use Prim.Native.Nat.{ℕ, ◌+◌, ◌<◌}
use borrow.Author.Tests.{lt-ltb}
use lib.ListN.{length, get_or}
use Rattle.game.specs.Frames.{no_port, ports_of, follows, no_slot, slots_of}
use Rattle.game.specs.Stores.{Lent}
use Rattle.game.specs.declared.frames.Frames.{Frames}
use Rattle.players.specs.Inner.{Slotted}
use Rattle.players.specs.Presence.{marked, present_at, slots_before}
use Rattle.players.specs.declared.slots.Slots.{Slots}
use Rattle.players.proofs.PresenceLaws.{present_as}
use Rattle.rows.specs.declared.post.Post.{Post}
use Rattle.rows.specs.declared.pre.Pre.{Pre}
use Rattle.transpose.specs.Records.{mark_at}
use Rattle.transpose.specs.Ports.{no_data, data_at, port_of, port_at}
use Rattle.transpose.specs.Answers.{pre_row, post_row}
use Rattle.transpose.proofs.Shown.{given_row, given_none}

-- ---- the mark is the presence bit
module _ (f : Frames) (bits : List ℕ) (slot index : ℕ) where
  pub mark_present : present_at bits (get_or (slots_of f) slot no_slot) index ≡ true → mark_at f bits slot index ≡ 1
  unfolding mark_at
  mark_present e = rw e

  pub mark_absent : present_at bits (get_or (slots_of f) slot no_slot) index ≡ false → mark_at f bits slot index ≡ 0
  unfolding mark_at
  mark_absent e = rw e

  -- as the code asks it of its slots
  module _ (s : Slots) (e : Slotted f s) (h : slot < s.count) {t : Bool} (q : t ≡ marked bits (get_or s.at slot 0) (get_or s.len slot 0) index) where
    pub asked : t ≡ present_at bits (get_or (slots_of f) slot no_slot) index
    asked = q ∙ present_as f s e bits slot index h

-- ---- of the rows of a slot: the mark where a row is given, and 0 where it is refused
module _ (f : Frames) (s : Lent) (slot index : ℕ) where
  pub pre_mark : (pre_row f s slot index).refused ≡ 0 → (pre_row f s slot index).row.present ≡ mark_at f s.presence slot index
  pre_mark e = ap (λ (r : Pre). r.present) (sym (given_row _ _ _ e))

  pub post_mark : (post_row f s slot index).refused ≡ 0 → (post_row f s slot index).row.present ≡ mark_at f s.presence slot index
  post_mark e = ap (λ (r : Post). r.present) (sym (given_row _ _ _ e))

  pub pre_refused : ((pre_row f s slot index).refused ≡ 0 → ⊥) → (pre_row f s slot index).row.present ≡ 0
  pre_refused ne = ap (λ (r : Pre). r.present) (sym (given_none _ _ _ ne))

  pub post_refused : ((post_row f s slot index).refused ≡ 0 → ⊥) → (post_row f s slot index).row.present ≡ 0
  post_refused ne = ap (λ (r : Post). r.present) (sym (given_none _ _ _ ne))

-- ---- of the k-th port column's players in a frame
module _ (f : Frames) (pres posts presence : List ℕ) (index k : ℕ) (h : k < length (ports_of f)) where
  there : port_at f pres posts presence index k ≡ port_of f pres posts presence index (get_or (ports_of f) k no_port) (slots_before f k)
  unfolding port_at
  there = rw (lt-ltb k (length (ports_of f)) h)

  -- the leader and both of its records
  pub leader_mark : let l = (port_at f pres posts presence index k).leader in let mark = mark_at f presence (slots_before f k) index in
      (l.present ≡ mark) × (l.pre.present ≡ mark) × (l.post.present ≡ mark)
  leader_mark = rw there (refl, refl, refl)

  -- a follower, where the port has one
  pub follower_mark : follows (get_or (ports_of f) k no_port) ≡ true
      → let l = (port_at f pres posts presence index k).follower in let mark = mark_at f presence (slots_before f k + 1) index in
      (l.present ≡ mark) × (l.pre.present ≡ mark) × (l.post.present ≡ mark)
  follower_mark e = rw (there, e) (refl, refl, refl)

  -- and where it has none: absent, with zeros
  pub no_follower : follows (get_or (ports_of f) k no_port) ≡ false → (port_at f pres posts presence index k).follower ≡ no_data
  no_follower e = rw (there, e) refl

-- values are the stores', whatever the mark is
pub same_values : (f : Frames) (pres posts a b : List ℕ) (slot index : ℕ)
    → ((data_at f pres posts a slot index).pre.bits ≡ (data_at f pres posts b slot index).pre.bits)
    × ((data_at f pres posts a slot index).post.bits ≡ (data_at f pres posts b slot index).post.bits)
same_values f pres posts a b slot index = (refl, refl)
