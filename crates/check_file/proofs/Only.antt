-- No second answer fits; 0 is answered exactly for sound files.
-- Assumes nothing.
use Prim.Native.Nat.{ℕ, ◌*◌, ◌≤◌}
use mathlib.Core.Path.{◌≡◌, refl, sym, ap, ◌∙◌}
use mathlib.Core.List.{List}
use mathlib.Core.Logic.{◌↔◌}
use native.Mathlib.Omega.{arith}
use lib.ListN.{length}
use Rattle.map_reader.specs.Answer.{whole_map, read_refusal}
use Rattle.map_reader.specs.Back.{entry_count}
use Rattle.map_reader.specs.Read.{Bytes}
use Rattle.law_map.proofs.Lengths.{read_up_to}
use Rattle.law_map.proofs.Round.{taken_of, whole_body}
use Rattle.grammar.specs.Sound.{SoundEvents, Metadata, Sound}
use Rattle.read_judge.specs.Found.{early_refusal}
use Rattle.law_sound.proofs.Read.{none_early}
use Rattle.check_file.specs.Check.{Answer, early, events, tail, sound, CheckOutcome}
use Rattle.check_file.specs.declared.Checked.{Checked}

module _ (f : List ℕ) where
  never_early : {A : Type 0} → (early_refusal f ≡ 0 → ⊥) → SoundEvents f → A
  never_early n x = absurd (n (none_early f x))

  pub only : (m n o p : ℕ) → Answer f m o → Answer f n p → (m ≡ n) × (o ≡ p)
  only m n o p (early h a b) (early k c d) = (a ∙ sym c, b ∙ sym d)
  only m n o p (early h a b) (events k x c d) = absurd (h k)
  only m n o p (early h a b) (tail x k c d) = never_early h x
  only m n o p (early h a b) (sound x c d) = never_early h x.events
  only m n o p (events h x a b) (early k c d) = absurd (k h)
  only m n o p (events h x a b) (events k y c d) = (a ∙ sym c, b ∙ sym d)
  only m n o p (events h x a b) (tail y k c d) = absurd (x y)
  only m n o p (events h x a b) (sound y c d) = absurd (x y.events)
  only m n o p (tail x h a b) (early k c d) = never_early k x
  only m n o p (tail x h a b) (events k y c d) = absurd (y x)
  only m n o p (tail x h a b) (tail y k c d) = (a ∙ sym c, b ∙ sym d)
  only m n o p (tail x h a b) (sound y c d) = absurd (h y)
  only m n o p (sound x a b) (early k c d) = never_early k x.events
  only m n o p (sound x a b) (events k y c d) = absurd (y x.events)
  only m n o p (sound x a b) (tail y k c d) = absurd (k x)
  only m n o p (sound x a b) (sound y c d) = (a ∙ sym c, b ∙ sym d)

  zero_sound : (n o : ℕ) → Answer f n o → n ≡ 0 → Sound f
  zero_sound n o (early h a b) z = absurd (h (sym a ∙ z))
  zero_sound n o (events h x a b) z = absurd (omega (arith, a, z))
  zero_sound n o (tail x h a b) z = absurd (omega (arith, a, z))
  zero_sound n o (sound x a b) z = x

  -- yes exactly where the grammar has the file
  pub exactly : (r : Checked) → CheckOutcome f r → (r.refused ≡ 0) ↔ Sound f
  exactly r h = (zero_sound r.refused r.offset h, λ x. (only r.refused 0 r.offset 0 h (sound x refl refl)).0)

-- ---- the bodies are those that 2026-05 reads, given room for their entries

pub metadata_read : (b : List ℕ) (cells : ℕ) → Bytes b → read_refusal b cells ≡ 0 → Metadata b
metadata_read b cells bytes e =
    let t = taken_of b cells e in
    let (p, q) = whole_body b bytes t.ok in
    record { map = (whole_map b).map; proper = p; small = t.small; body_is = sym q }

pub read_metadata : (b : List ℕ) (m : Metadata b) (cells : ℕ) → 5 * entry_count m.map ≤ cells → read_refusal b cells ≡ 0
read_metadata b m cells room =
    ap (λ (l : List ℕ). read_refusal l cells) m.body_is
    ∙ read_up_to m.map cells m.proper (omega (arith, m.small, ap length m.body_is)) room
