use Prim.Native.Nat.{◌-◌}
use mathlib.Core.Path.{◌≡◌}
use Rattle.wire.proofs.Writers.{Left}
use Rattle.map.specs.Map.{body_of}
use Rattle.map.specs.Rows.{map_at}
use Rattle.map.proofs.put.+put_map.Given as goal

abbrev pub decreases-put_map : goal.decreases-put_map
decreases-put_map l = l.depth

abbrev pub invariant-loop : goal.invariant-loop
invariant-loop l =
    ((map_at l.rows l.texts l.depth l.k (l.count - l.counter)).refusal ≡ 0)
    × ((map_at l.rows l.texts l.depth l.k (l.count - l.counter)).next ≡ (map_at l.rows l.texts l.depth l.i l.count).next)
    × Left l.initial.out l.at (body_of (map_at l.rows l.texts l.depth l.i l.count).map) l.out l.p (body_of (map_at l.rows l.texts l.depth l.k (l.count - l.counter)).map)
