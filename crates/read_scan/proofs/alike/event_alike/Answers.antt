use native.Mathlib.Omega.{arith}
use Rattle.format.proofs.Versions.{no_way}
use Rattle.read_scan.proofs.Compare.{likes_end, likes_pre, likes_post}
use Rattle.read_scan.proofs.alike.event_alike.Goals as goal

pub heads_alike-requires : goal.heads_alike-requires
heads_alike-requires c = c.requires

pub bounds-file-e : goal.bounds-file-e
bounds-file-e c = omega (arith, c.requires.1)

pub returns-then-code-eq-FRAME_END : goal.returns-then-code-eq-FRAME_END
returns-then-code-eq-FRAME_END c = λ e. likes_end (c.heads_alike.ensures c.if-heads_alike.true) c.if-code-eq-FRAME_END.true

pub seats_alike-requires : goal.seats_alike-requires
seats_alike-requires c = c.requires.1

pub returns-then-code-eq-FRAME_PRE : goal.returns-then-code-eq-FRAME_PRE
returns-then-code-eq-FRAME_PRE c = λ e. likes_pre (c.heads_alike.ensures c.if-heads_alike.true) c.if-code-eq-FRAME_PRE.true (c.seats_alike.ensures e)

pub seats_alike-requires-then-code-eq-FRAME_POST : goal.seats_alike-requires-then-code-eq-FRAME_POST
seats_alike-requires-then-code-eq-FRAME_POST c = c.requires.1

pub returns-then-code-eq-FRAME_POST : goal.returns-then-code-eq-FRAME_POST
returns-then-code-eq-FRAME_POST c = λ e. likes_post (c.heads_alike.ensures c.if-heads_alike.true) c.if-code-eq-FRAME_POST.true (c.seats_alike-then-code-eq-FRAME_POST.ensures e)

pub returns-else-code-eq-FRAME_POST : goal.returns-else-code-eq-FRAME_POST
returns-else-code-eq-FRAME_POST c = no_way

pub returns-else-heads_alike : goal.returns-else-heads_alike
returns-else-heads_alike c = no_way
