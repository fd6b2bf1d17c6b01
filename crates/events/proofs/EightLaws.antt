-- The laws of eight frames at once: a family's rows, the players' slot by slot, and the frames part by part.
-- Assumes nothing.
use mathlib.Core.Path.{◌≡◌, refl, sym, ap, ◌∙◌}
use mathlib.Core.Bool.{Bool, true, false}
use mathlib.Core.List.{List, [], ◌++◌, append-nil}
use Prim.Native.Nat.{ℕ, suc, ◌+◌, ◌-◌, ◌*◌, ◌≤◌, ◌<◌}
use native.Mathlib.Nat.{sub-eq-zero_of_le}
use native.Mathlib.Omega.{arith}
use lib.ListN.{length, get_or}
use Rattle.wire.specs.Wire.{ranged, keep}
use Rattle.spread.specs.Inner.{place_at, Rooms, Sown, record_at}
use Rattle.spread.proofs.Laws.{Rest, rest_start, rest_room, rest_step, rest_done}
use Rattle.game.specs.Stores.{Lent}
use Rattle.players.specs.Presence.{marked}
use Rattle.players.specs.declared.slots.Slots.{Slots}
use Rattle.events.specs.Events.{plain_head, player_head}
use Rattle.events.specs.Inner.{columns_in, record_in, one_bytes, slot_bytes, slots_bytes, frame_bytes}
use Rattle.events.specs.Eights.{ones_on, players_on, player_on, players_from, middle_on, frame_on, Apiece}
use Rattle.places.specs.Inner.{Together}
use Rattle.events.specs.declared.shapes.Shape.{Shape}
use Rattle.events.specs.declared.shapes.Shapes.{Shapes}

-- what is kept or not, by a test
kept : (b : Bool) (xs : List ℕ) → b ≡ true → keep b xs ≡ xs
unfolding keep
kept b xs e = rw e

not_kept : (b : Bool) (xs : List ℕ) → b ≡ false → keep b xs ≡ []
unfolding keep
not_kept b xs e = rw e

module _ (m : Shape) (cells ids : List ℕ) (i : ℕ) where
  pub ones_given : m.given ≡ true → (t : ℕ) → ones_on m cells ids i t ≡ record_at (plain_head m.code 0) ids i (columns_in m) cells m.rows i t
  unfolding ones_on one_bytes
  ones_given e t = kept m.given _ e

  pub ones_none : m.given ≡ false → (t : ℕ) → ones_on m cells ids i t ≡ []
  unfolding ones_on one_bytes
  ones_none e t = not_kept m.given _ e

module _ (m : Shape) (s : Slots) (cells bits ids : List ℕ) (i : ℕ) where
  pub players_start : (t : ℕ) → players_on m s cells bits ids i t ≡ players_from m s cells bits ids i 0 t
  unfolding players_on players_from slots_bytes
  players_start t = ap (λ (n : ℕ). ranged (slot_bytes m s cells bits (get_or ids (i + t) 0) (i + t)) 0 n) (omega arith)

  pub players_step : (k : ℕ) → k < s.count → (t : ℕ) → players_from m s cells bits ids i k t ≡ player_on m s cells bits ids i k t ++ players_from m s cells bits ids i (k + 1) t
  unfolding players_from player_on ranged
  players_step k h t = let e : s.count - k ≡ suc (s.count - (k + 1)) = omega arith in rw e

  pub players_done : (k : ℕ) → s.count ≤ k → (t : ℕ) → players_from m s cells bits ids i k t ≡ []
  unfolding players_from ranged
  players_done k h t = rw (sub-eq-zero_of_le h)

  module _ (k : ℕ) (h : k < s.count) (g : Together s bits i) where
    abbrev mark : Bool
    mark = marked bits (get_or s.at k 0) (get_or s.len k 0) i

    pub player_here : mark ≡ true → (t : ℕ) → t < 8
        → player_on m s cells bits ids i k t ≡ record_at (player_head m.code 0 (get_or s.ports k 0) (get_or s.followers k 0)) ids i (columns_in m) cells m.rows (k * m.block + i) t
    unfolding player_on
    player_here x t l =
        kept (marked bits (get_or s.at k 0) (get_or s.len k 0) (i + t)) _ ((g.each k h).mark t l ∙ x)
        ∙ ap (λ (j : ℕ). record_in m cells (player_head m.code (get_or ids (i + t) 0) (get_or s.ports k 0) (get_or s.followers k 0)) j) (omega arith)

    pub player_gone : mark ≡ false → (t : ℕ) → t < 8 → players_from m s cells bits ids i k t ≡ players_from m s cells bits ids i (k + 1) t
    unfolding player_on
    player_gone x t l =
        players_step k h t
        ∙ ap (λ (b : List ℕ). b ++ players_from m s cells bits ids i (k + 1) t) (not_kept (marked bits (get_or s.at k 0) (get_or s.len k 0) (i + t)) _ ((g.each k h).mark t l ∙ x))

-- ---- eight frames, part after part
module _ (p : Shapes) (s : Slots) (lent : Lent) (i : ℕ) (places : List ℕ) {a0 : List ℕ} (r : Rooms a0 (place_at places 0 0) (frame_on p s lent i)) where
  abbrev x1 : ℕ → List ℕ
  x1 = ones_on p.start lent.cells.starts lent.cells.ids i

  abbrev x2 : ℕ → List ℕ
  x2 = players_on p.pre s lent.cells.pres lent.presence lent.cells.ids i

  abbrev x3 : ℕ → List ℕ
  x3 = middle_on p lent.cells.items lent.cells.fods lent.cells.whispys lent.cells.stadiums lent.offsets lent.cells.ids i

  abbrev x4 : ℕ → List ℕ
  x4 = players_on p.post s lent.cells.posts lent.presence lent.cells.ids i

  abbrev x5 : ℕ → List ℕ
  x5 = ones_on p.end lent.cells.ends lent.cells.ids i

  abbrev all : ℕ → List ℕ
  all = frame_on p s lent i

  abbrev first : ℕ → ℕ
  first = place_at places 0 0

  cut : (t : ℕ) → t < 8 → all t ≡ x1 t ++ (x2 t ++ (x3 t ++ (x4 t ++ x5 t)))
  unfolding frame_on frame_bytes ones_on players_on middle_on
  cut t h = refl

  pub room_1 : Rooms a0 first x1
  room_1 = rest_room x1 (λ t. x2 t ++ (x3 t ++ (x4 t ++ x5 t))) rest_start cut r

  module _ {a1 : List ℕ} (p1 : ℕ) (w1 : Sown a0 a1 first (place_at places 0 p1) x1) where
    left_1 : Rest a0 first all a1 (place_at places 0 p1) (λ t. x2 t ++ (x3 t ++ (x4 t ++ x5 t)))
    left_1 = rest_step x1 (λ t. x2 t ++ (x3 t ++ (x4 t ++ x5 t))) rest_start cut r w1

    pub room_2 : Rooms a1 (place_at places 0 p1) x2
    room_2 = rest_room x2 (λ t. x3 t ++ (x4 t ++ x5 t)) left_1 (λ t h. refl) r

    module _ {a2 : List ℕ} (p2 : ℕ) (w2 : Sown a1 a2 (place_at places 0 p1) (place_at places 0 p2) x2) where
      left_2 : Rest a0 first all a2 (place_at places 0 p2) (λ t. x3 t ++ (x4 t ++ x5 t))
      left_2 = rest_step x2 (λ t. x3 t ++ (x4 t ++ x5 t)) left_1 (λ t h. refl) r w2

      pub room_3 : Rooms a2 (place_at places 0 p2) x3
      room_3 = rest_room x3 (λ t. x4 t ++ x5 t) left_2 (λ t h. refl) r

      -- the table has where the rows by offsets end
      pub back_3 : Apiece p s lent i places → (t : ℕ) → t < 8 → place_at places 8 0 t ≡ place_at places 0 p2 t + length (x3 t)
      back_3 b t h = omega (arith, b.back t h, w1.next_is t h, w2.next_is t h)

      module _ {a3 : List ℕ} (w3 : Sown a2 a3 (place_at places 0 p2) (place_at places 8 0) x3) where
        left_3 : Rest a0 first all a3 (place_at places 8 0) (λ t. x4 t ++ x5 t)
        left_3 = rest_step x3 (λ t. x4 t ++ x5 t) left_2 (λ t h. refl) r w3

        pub room_4 : Rooms a3 (place_at places 8 0) x4
        room_4 = rest_room x4 x5 left_3 (λ t h. refl) r

        module _ {a4 : List ℕ} (p4 : ℕ) (w4 : Sown a3 a4 (place_at places 8 0) (place_at places 8 p4) x4) where
          left_4 : Rest a0 first all a4 (place_at places 8 p4) x5
          left_4 = rest_step x4 x5 left_3 (λ t h. refl) r w4

          pub room_5 : Rooms a4 (place_at places 8 p4) x5
          room_5 = rest_room x5 (λ t. []) left_4 (λ t h. sym (append-nil (x5 t))) r

          pub eight_sown : {a5 : List ℕ} {next : ℕ → ℕ} → Sown a4 a5 (place_at places 8 p4) next x5 → Sown a0 a5 first next all
          eight_sown w5 = rest_done (rest_step x5 (λ t. []) left_4 (λ t h. sym (append-nil (x5 t))) r w5) (λ t h. refl)
