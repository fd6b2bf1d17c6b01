use native.Mathlib.Omega.{arith}
use Rattle.newer_codes.proofs.Runs.{codes_none, codes_behind}
use Rattle.newer_codes.proofs.codes.Goals as goal

pub next_known-at-requires : goal.next_known-at-requires
next_known-at-requires c = let h = c.requires in record { some = h.2; within = h.1; all_codes = h.0 }

pub bounds-file-at : goal.bounds-file-at
bounds-file-at c = omega (arith, c.if-at-stop.true, c.requires.1)

pub blocks-requires : goal.blocks-requires
blocks-requires c = (c.next_known-at.ensures.1, c.if-at-stop.true, c.if-file-at-eq-MESSAGE_SPLITTER.true)

pub returns-then-file-at-eq-MESSAGE_SPLITTER : goal.returns-then-file-at-eq-MESSAGE_SPLITTER
returns-then-file-at-eq-MESSAGE_SPLITTER c = λ v raw new d. codes_behind v new _ _ _ _ raw d _ (c.next_known-at.ensures.2 raw d) c.blocks-then-file-at-eq-MESSAGE_SPLITTER.result (λ es k. c.blocks-then-file-at-eq-MESSAGE_SPLITTER.ensures v es new k)

pub returns-else-file-at-eq-MESSAGE_SPLITTER : goal.returns-else-file-at-eq-MESSAGE_SPLITTER
returns-else-file-at-eq-MESSAGE_SPLITTER c = λ v raw new d. codes_none v new _ _ _ _ raw d _ (c.next_known-at.ensures.2 raw d) (λ l q. c.if-file-at-eq-MESSAGE_SPLITTER.false q)

pub returns-else-at-stop : goal.returns-else-at-stop
returns-else-at-stop c = λ v raw new d. codes_none v new _ _ _ _ raw d _ (c.next_known-at.ensures.2 raw d) (λ l. absurd (omega (arith, l, c.if-at-stop.false)))
