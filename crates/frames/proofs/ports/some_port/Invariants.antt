-- The invariant: the answer is that of the port columns to come.
use mathlib.Core.Path.{◌≡◌}
use mathlib.Core.Bool.{Bool}
use mathlib.Core.List.{map}
use lib.ListN.{drop}
use Rattle.format.specs.Refusal.{one_of}
use Rattle.game.specs.Frames.{ports_of}
use Rattle.game.specs.declared.frames.PortColumn.{PortColumn}
use Rattle.frames.proofs.ports.some_port.Given as goal

abbrev pub invariant-loop-j : goal.invariant-loop-j
invariant-loop-j g l =
    (p : PortColumn → Bool) → ((x : PortColumn) (b : Bool) → goal.F-post g l.test x b → b ≡ p x) → one_of (map p (drop l.k (ports_of l.f))) ≡ one_of (map p (drop l.j (ports_of l.f)))
