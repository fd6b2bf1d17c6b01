use mathlib.Core.Path.{ap}
use Prim.Native.Nat.{ℕ, ◌+◌, ◌*◌, ◌/◌}
use Rattle.read_event.proofs.Plans.{zeros_filled, same_zeros}
use Rattle.read_event.proofs.zeros.clear_players.Goals as goal

pub returns : goal.returns
returns c =
    let n = c.args.f.counts.frames in
    let h = c.requires in (
      zeros_filled _ _ _ _ (same_zeros _ _ _ _ n h.0 c.columns.ensures.0) h.3 (c.fill.ensures.after (λ y e. e)),
      zeros_filled _ _ _ _ (same_zeros _ _ _ _ n h.0 c.columns-2.ensures.0) h.4 (c.fill-2.ensures.after (λ y e. e)),
      zeros_filled _ _ _ _ (ap (λ (x : ℕ). x * ((n + 7) / 8)) h.0) h.5 (c.fill-3.ensures.after (λ y e. e)),
    )
