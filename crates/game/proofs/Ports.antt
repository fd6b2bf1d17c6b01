-- The laws of port columns.
-- Assumes nothing.
use mathlib.Core.Path.{◌≡◌, sym}
use mathlib.Core.Bool.{Bool, true, false}
use Prim.Native.Nat.{ℕ, ◌+◌, ◌<◌, min}
use native.Mathlib.Nat.{add-zero}
use native.Mathlib.Omega.{arith}
use lib.ListN.{length, get_or}
use Rattle.wire.proofs.Laws.{tabulate_length, tabulate_at}
use Rattle.game.specs.Frames.{no_port, ports_of, follows, port_bytes}
use Rattle.game.specs.declared.frames.PortColumn.{PortColumn}
use Rattle.game.specs.declared.frames.Frames.{Frames}

-- the port columns that count stand first in the array
pub length_ports : (f : Frames) → length (ports_of f) ≡ min 4 f.port_count
unfolding ports_of
length_ports f = tabulate_length (min 4 f.port_count) (λ (k : ℕ). get_or f.ports k no_port)

pub port_at_lem : (f : Frames) (k : ℕ) → k < length (ports_of f) → get_or f.ports k no_port ≡ get_or (ports_of f) k no_port
unfolding ports_of
port_at_lem f k h = sym (tabulate_at no_port (min 4 f.port_count) (λ (j : ℕ). get_or f.ports j no_port) k (omega (arith, length_ports f)))

module _ (p : PortColumn) (t : Bool) (h : t ≡ follows p) where
  pub bytes_both : t ≡ true → p.leader_presence + p.follower_presence ≡ port_bytes p
  unfolding port_bytes
  bytes_both e = rw (← h, e)

  pub bytes_one : t ≡ false → p.leader_presence ≡ port_bytes p
  unfolding port_bytes
  bytes_one e = rw (← h, e) (sym (add-zero p.leader_presence))
