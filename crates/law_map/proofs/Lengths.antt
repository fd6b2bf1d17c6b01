-- A body of 65,535 bytes and one of 65,536, by a law over lengths.
-- Assumes nothing.
use Prim.Native.Nat.{ℕ, ◌*◌, ◌≤◌, ◌<◌}
use mathlib.Core.Path.{◌≡◌, refl, sym, ap}
use mathlib.Core.Bool.{false}
use mathlib.Core.List.{List}
use native.Mathlib.Omega.{arith}
use borrow.Author.Tests.{eq-eqb, lt-ltb}
use lib.Dec.{eqb, ltb}
use lib.ListN.{length}
use Rattle.format.proofs.Refusals.{here}
use Rattle.map.specs.Map.{Map, body_of, Proper}
use Rattle.map.specs.Write.{lent_map, refusal_of}
use Rattle.map.specs.Keys.{doubled_at}
use Rattle.map.proofs.Judging.{cap_over}
use Rattle.map.proofs.Outcomes.{too_long_lem}
use Rattle.map_reader.specs.Read.{Seen}
use Rattle.map_reader.specs.Back.{entry_count}
use Rattle.map_reader.specs.Answer.{whole_map, read_refusal}
use Rattle.law_map.proofs.Complete.{back}
use Rattle.law_map.proofs.Round.{taken_as}

-- the body of a proper map is taken up to 65,535 bytes
pub read_up_to : (m : Map) (cells : ℕ) → Proper m → length (body_of m) ≤ 65535 → 5 * entry_count m ≤ cells → read_refusal (body_of m) cells ≡ 0
read_up_to m cells p h l =
    let e = back m p in
    sym (taken_as (body_of m) cells (record { ok = ap (λ (g : Seen). g.refusal) e; small = h; fits = omega (arith, ap (λ (g : Seen). entry_count g.map) e, l) }))

-- and refused 2 beyond, whatever room there is
pub read_over : (m : Map) (cells : ℕ) → Proper m → 65535 < length (body_of m) → read_refusal (body_of m) cells ≡ 2
unfolding read_refusal
read_over m cells p h =
    rw (eq-eqb (whole_map (body_of m)).refusal 0 (ap (λ (g : Seen). g.refusal) (back m p)))
    (sym (here 2 (ltb 65535 (length (body_of m))) _ (lt-ltb 65535 (length (body_of m)) h)))

-- entries with nothing else wrong are refused 2 where their body is longer
pub write_over : (rows texts : List ℕ) (count room : ℕ) → (lent_map rows texts count).refusal ≡ 0 → doubled_at rows texts 8 0 count ≡ false → 5 * (lent_map rows texts count).next ≡ length rows
    → 65535 < length (body_of (lent_map rows texts count).map) → refusal_of rows texts count room ≡ 2
write_over rows texts count room z f e h =
    let c = cap_over (length (body_of (lent_map rows texts count).map)) h in
    sym (too_long_lem rows texts count room refl (λ q. absurd (omega (arith, q, z))) (λ q. absurd (omega (arith, q, z))) refl f z refl e c (omega arith))
