use Prim.Native.Nat.{ℕ, ◌≤◌}
use Rattle.spread.specs.Inner.{place_at, Strewn}
use Rattle.spread.proofs.put_same.Given as goal

abbrev pub invariant-loop-t : goal.invariant-loop-t
invariant-loop-t l = (l.t ≤ 8) × Strewn l.initial.out l.out (place_at l.places l.i l.off) (λ (k : ℕ). l.bytes) l.t
