-- How many rows a map has.
-- Assumes nothing.
use mathlib.Core.Path.{◌≡◌, refl}
use Prim.Native.Nat.{ℕ, ◌+◌, ◌*◌}
use native.Mathlib.Omega.{arith}
use lib.ListN.{length, length-append}
use Rattle.map.specs.Map.{Value, text, number, map, Map, empty, entry, text_bytes, value_bytes}
use Rattle.map_reader.specs.Back.{inner_rows, map_rows, size_value, entry_count}

mutual
  unfolding entry_count map_rows

  pub length_inner : (v : Value) (q : ℕ) → length (inner_rows v q) ≡ 5 * size_value v
  length_inner (text t) q = refl
  length_inner (number n) q = refl
  length_inner (map m) q = length_rows m (q + 1)

  pub length_rows : (m : Map) (p : ℕ) → length (map_rows m p) ≡ 5 * entry_count m
  length_rows empty p = refl
  length_rows (entry k v m) p =
      let q = p + length (text_bytes k) in
      let r = q + length (value_bytes v) in
      omega (arith, length_inner v q, length_rows m r, length-append (inner_rows v q) (map_rows m r))
