use mathlib.Core.Path.{refl, ◌∙◌}
use native.Mathlib.Omega.{arith}
use Rattle.map_reader.proofs.KeyRuns.{looking_start, looking_done, looking_same, looking_more, first_of, key_inside, key_same, value_at_lem, stop_positive}
use Rattle.map_reader.proofs.keys.repeated.Goals as goal

pub overflow_add-p : goal.overflow_add-p
overflow_add-p c = record { fits = omega (arith, c.well_formed, (key_inside _ _ c.requires.0 refl)) }

pub loop-q-init : goal.loop-q-init
loop-q-init c = looking_start c.requires.1

pub overflow_add-q : goal.overflow_add-q
overflow_add-q c = let f = first_of c.loop-q.invariant.ran c.loop-q-test.true in record { fits = omega (arith, c.well_formed, f.inside) }

pub overflow_add-q-in-loop-q : goal.overflow_add-q-in-loop-q
overflow_add-q-in-loop-q c = let f = first_of c.loop-q.invariant.ran c.loop-q-test.true in record { fits = omega (arith, c.well_formed, f.inside) }

pub overflow_add-p-in-loop-q : goal.overflow_add-p-in-loop-q
overflow_add-p-in-loop-q c = record { fits = omega (arith, c.well_formed, (key_inside _ _ c.requires.0 refl)) }

pub same_text-requires : goal.same_text-requires
same_text-requires c =
    let f = first_of c.loop-q.invariant.ran c.loop-q-test.true in (
      omega
          (arith, f.inside, c.wide.ensures.0, c.byte_at-in-loop-q.ensures.0),
      key_inside _ _ c.requires.0 (c.wide-n.ensures.0 ∙ c.byte_at.ensures.0),
    )

pub returns-then-same_text : goal.returns-then-same_text
returns-then-same_text c =
    looking_same c.loop-q.invariant c.loop-q-test.true (key_same _ _ _
    (c.wide.ensures.0 ∙ c.byte_at-in-loop-q.ensures.0) (c.wide-n.ensures.0 ∙ c.byte_at.ensures.0) c.same_text.ensures) c.if-same_text.true

pub text_stop-requires : goal.text_stop-requires
text_stop-requires c = let f = first_of c.loop-q.invariant.ran c.loop-q-test.true in omega (arith, f.inside)

pub skip_value-q-requires : goal.skip_value-q-requires
skip_value-q-requires c = value_at_lem (first_of c.loop-q.invariant.ran c.loop-q-test.true) c.text_stop.ensures.0

pub loop-q-smaller : goal.loop-q-smaller
loop-q-smaller c =
    let f = first_of c.loop-q.invariant.ran c.loop-q-test.true in let far = c.text_stop.ensures.1 (let t = f.text in stop_positive _ _ t
    c.text_stop.ensures.0) in omega (arith, far, c.skip_value-q.ensures.1, c.skip_value-q.ensures.2)

pub loop-q-preserved : goal.loop-q-preserved
loop-q-preserved c =
    looking_more c.loop-q.invariant c.loop-q-test.true (key_same _ _ _
    (c.wide.ensures.0 ∙ c.byte_at-in-loop-q.ensures.0) (c.wide-n.ensures.0 ∙ c.byte_at.ensures.0) c.same_text.ensures) c.if-same_text.false c.text_stop.ensures.0 c.skip_value-q.ensures.0

pub returns : goal.returns
returns c = looking_done c.loop-q.invariant c.loop-q-test.false
