-- The laws of an event that goes to the one store of its code: the other stores, and their next rows, are as they were.
-- Assumes nothing.
use mathlib.Core.Path.{◌≡◌}
use mathlib.Core.List.{List}
use Prim.Native.Nat.{ℕ}
use native.Mathlib.Omega.{arith}
use borrow.Author.Tests.{ne_eqb}
use lib.Dec.{eqb}
use Rattle.game.specs.declared.frames.Counts.{Counts}
use Rattle.read_event.specs.Inner.{Told, row_put, row_next, player_put, bit_put, next_after, stage_after}
use Rattle.read_event.specs.declared.seen.Next.{Next}
use Rattle.read_event.proofs.Leaves.{row_off, next_off, player_off, bit_off}

-- an event of another code
module _ (code x : ℕ) (other : code ≡ x → ⊥) where
  pub quiet_row : (ws bytes : List ℕ) (rows row : ℕ) (xs : List ℕ) → xs ≡ row_put (eqb code x) ws bytes rows row xs
  quiet_row ws bytes rows row xs = row_off (eqb code x) ws bytes rows row xs (ne_eqb code x other)

  pub quiet_next : (rows row : ℕ) → row ≡ row_next (eqb code x) rows row
  quiet_next rows row = next_off (eqb code x) rows row (ne_eqb code x other)

  pub quiet_player : (ws numbers : List ℕ) (t : Told) (frames n : ℕ) (xs : List ℕ) → xs ≡ player_put (eqb code x) ws numbers t frames n xs
  quiet_player ws numbers t frames n xs = player_off (eqb code x) ws numbers t frames n xs (ne_eqb code x other)

  pub quiet_bit : (numbers : List ℕ) (t : Told) (frames n : ℕ) (xs : List ℕ) → xs ≡ bit_put (eqb code x) numbers t frames n xs
  quiet_bit numbers t frames n xs = bit_off (eqb code x) numbers t frames n xs (ne_eqb code x other)

module _ (code : ℕ) (c : Counts) (n : Next) where
  pub next_starts : code ≡ 0x3A → {row : ℕ} → row ≡ row_next (eqb code 0x3A) c.frames n.starts → record { starts = row; ends = n.ends; items = n.items; fods = n.fods; whispys = n.whispys; stadiums = n.stadiums } ≡ next_after code c n
  unfolding next_after
  next_starts e {row} q =
      let ends = quiet_next code 0x3C (λ z. absurd (omega (arith, e, z))) c.frames n.ends in
      let items = quiet_next code 0x3B (λ z. absurd (omega (arith, e, z))) c.items n.items in
      let fods = quiet_next code 0x3F (λ z. absurd (omega (arith, e, z))) c.fods n.fods in
      let whispys = quiet_next code 0x40 (λ z. absurd (omega (arith, e, z))) c.whispys n.whispys in
      let stadiums = quiet_next code 0x41 (λ z. absurd (omega (arith, e, z))) c.stadiums n.stadiums in
      λ i. record { starts = q i; ends = ends i; items = items i; fods = fods i; whispys = whispys i; stadiums = stadiums i }

  pub next_ends : code ≡ 0x3C → {row : ℕ} → row ≡ row_next (eqb code 0x3C) c.frames n.ends → record { starts = n.starts; ends = row; items = n.items; fods = n.fods; whispys = n.whispys; stadiums = n.stadiums } ≡ next_after code c n
  unfolding next_after
  next_ends e {row} q =
      let starts = quiet_next code 0x3A (λ z. absurd (omega (arith, e, z))) c.frames n.starts in
      let items = quiet_next code 0x3B (λ z. absurd (omega (arith, e, z))) c.items n.items in
      let fods = quiet_next code 0x3F (λ z. absurd (omega (arith, e, z))) c.fods n.fods in
      let whispys = quiet_next code 0x40 (λ z. absurd (omega (arith, e, z))) c.whispys n.whispys in
      let stadiums = quiet_next code 0x41 (λ z. absurd (omega (arith, e, z))) c.stadiums n.stadiums in
      λ i. record { starts = starts i; ends = q i; items = items i; fods = fods i; whispys = whispys i; stadiums = stadiums i }

  pub next_items : code ≡ 0x3B → {row : ℕ} → row ≡ row_next (eqb code 0x3B) c.items n.items → record { starts = n.starts; ends = n.ends; items = row; fods = n.fods; whispys = n.whispys; stadiums = n.stadiums } ≡ next_after code c n
  unfolding next_after
  next_items e {row} q =
      let starts = quiet_next code 0x3A (λ z. absurd (omega (arith, e, z))) c.frames n.starts in
      let ends = quiet_next code 0x3C (λ z. absurd (omega (arith, e, z))) c.frames n.ends in
      let fods = quiet_next code 0x3F (λ z. absurd (omega (arith, e, z))) c.fods n.fods in
      let whispys = quiet_next code 0x40 (λ z. absurd (omega (arith, e, z))) c.whispys n.whispys in
      let stadiums = quiet_next code 0x41 (λ z. absurd (omega (arith, e, z))) c.stadiums n.stadiums in
      λ i. record { starts = starts i; ends = ends i; items = q i; fods = fods i; whispys = whispys i; stadiums = stadiums i }

  pub next_stage : (code ≡ 0x3A → ⊥) → (code ≡ 0x3C → ⊥) → (code ≡ 0x3B → ⊥) → stage_after code c n ≡ next_after code c n
  unfolding next_after stage_after
  next_stage a b d =
      let starts = quiet_next code 0x3A a c.frames n.starts in
      let ends = quiet_next code 0x3C b c.frames n.ends in
      let items = quiet_next code 0x3B d c.items n.items in
      λ i. record { starts = starts i; ends = ends i; items = items i; fods = row_next (eqb code 0x3F) c.fods n.fods; whispys = row_next (eqb code 0x40) c.whispys n.whispys; stadiums = row_next (eqb code 0x41) c.stadiums n.stadiums }
