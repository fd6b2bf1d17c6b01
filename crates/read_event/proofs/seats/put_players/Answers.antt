use native.Mathlib.Omega.{arith}
use Rattle.read_event.proofs.Dispatch.{quiet_player, quiet_bit}
use Rattle.read_event.proofs.seats.put_players.Goals as goal

pub put_bit-requires : goal.put_bit-requires
put_bit-requires c = let h = c.requires in (λ e. omega (arith, h.0.0 e), h.2, h.3)

pub returns-then-code-eq-FRAME_PRE : goal.returns-then-code-eq-FRAME_PRE
returns-then-code-eq-FRAME_PRE c =
    let e = c.if-code-eq-FRAME_PRE.true in
    (c.put_player.ensures, quiet_player c.args.code 0x38 (λ z. absurd (omega (arith, e, z))) _ _ _ _ _ _, c.put_bit.ensures)

pub returns : goal.returns
returns c =
    let e = c.if-code-eq-FRAME_PRE.false in
    (quiet_player _ 0x37 e _ _ _ _ _ _, c.put_player-2.ensures, quiet_bit _ 0x37 e _ _ _ _ _)
