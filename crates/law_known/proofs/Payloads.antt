-- The payloads of known events are those of the events as they are, cut to 3.18's sizes.
-- Assumes nothing.
use Prim.Native.Nat.{ℕ}
use mathlib.Core.Path.{◌≡◌, refl, sym, ap, ◌∙◌}
use mathlib.Core.Bool.{Bool, true, false, cond}
use mathlib.Core.List.{List, [], ◌∷◌, map}
use mathlib.Core.Option.{some}
use borrow.Author.Tests.{eqb-true}
use lib.Dec.{eqb}
use lib.ListN.{take}
use lib.Seq.{take-nil}
use Rattle.wire.specs.Wire.{keep}
use Rattle.format.specs.Event.{code_of}
use Rattle.format.specs.File.{Ev}
use Rattle.format.specs.declared.version.Version.{Version}
use Rattle.format.proofs.Versions.{no_way}
use Rattle.layout.specs.Payloads.{event_of, head_size, record_size}
use Rattle.layout.specs.declared.columns.Family.{Family}
use Rattle.layout.specs.declared.columns.Family.TheVariants.{FrameStart}
use Rattle.grammar.specs.Machine.{family_of, slot_said, said_by}
use Rattle.grammar.proofs.Takes.{family_is}
use Rattle.known.specs.Known.{is_known, front, known_of}
use Rattle.known.proofs.Codes.{known_one, unknown_one, known_family}
use Rattle.known.proofs.Fronts.{known_size_lem, front_said}
use Rattle.law_known.specs.Shown.{is_of, payloads_of, until_start, frames_in, payload_by}

-- an event of a family has its code, which is known
code_is : (family : Family) (e : Ev) → is_of family e ≡ true → family_of e.code ≡ some family
unfolding is_of
code_is family e h = ap family_of (eqb-true e.code (code_of (event_of family)) h) ∙ family_is family

not_of : (family : Family) (e : Ev) → is_known e.code ≡ false → is_of family e ≡ false
not_of family e u = go (is_of family e) refl
  where
    go : (b : Bool) → is_of family e ≡ b → is_of family e ≡ false
    go true h = no_way (sym u ∙ known_family e.code family (code_is family e h))
    go false h = h

module _ (v : Version) where
  abbrev cut : Family → List ℕ → List ℕ
  cut family p = take (record_size family v) p

  cut_is : (family : Family) (e : Ev) → is_of family e ≡ true → (front v e).payload ≡ cut family e.payload
  cut_is family e h = ap (λ (n : ℕ). take n e.payload) (known_size_lem v e family (code_is family e h))

  front_of_lem : (family : Family) (e : Ev) → is_of family (front v e) ≡ is_of family e
  unfolding is_of
  front_of_lem family e = refl

  -- ---- by family

  payloads_step : (family : Family) (e : Ev) (es : List Ev) → payloads_of family (known_of v es) ≡ map (cut family) (payloads_of family es)
      → payloads_of family (known_of v (e ∷ es)) ≡ map (cut family) (payloads_of family (e ∷ es))
  unfolding payloads_of keep
  payloads_step family e es ih = go (is_known e.code) refl (is_of family e) refl
    where
      go : (b : Bool) → is_known e.code ≡ b → (c : Bool) → is_of family e ≡ c → payloads_of family (known_of v (e ∷ es)) ≡ map (cut family) (payloads_of family (e ∷ es))
      go true k true h = ap (payloads_of family) (known_one v e es k) ∙ rw (front_of_lem family e, h) (λ i. cut_is family e h i ∷ ih i)
      go true k false h = ap (payloads_of family) (known_one v e es k) ∙ rw (front_of_lem family e, h) ih
      go false k true h = no_way (sym (not_of family e k) ∙ h)
      go false k false h = ap (payloads_of family) (unknown_one v e es k) ∙ rw h ih

  pub payloads_known : (family : Family) (es : List Ev) → payloads_of family (known_of v es) ≡ map (cut family) (payloads_of family es)
  unfolding payloads_of known_of
  payloads_known family [] = refl
  payloads_known family (e ∷ es) = payloads_step family e es (payloads_known family es)

  -- ---- by frame

  pub none_known : known_of v [] ≡ []
  unfolding known_of
  none_known = refl

  until_step : (e : Ev) (es : List Ev) → until_start (known_of v es) ≡ known_of v (until_start es) → until_start (known_of v (e ∷ es)) ≡ known_of v (until_start (e ∷ es))
  unfolding until_start
  until_step e es ih = go (is_known e.code) refl (is_of FrameStart e) refl
    where
      go : (b : Bool) → is_known e.code ≡ b → (c : Bool) → is_of FrameStart e ≡ c → until_start (known_of v (e ∷ es)) ≡ known_of v (until_start (e ∷ es))
      go true k true h = ap until_start (known_one v e es k) ∙ rw (front_of_lem FrameStart e, h) (sym none_known)
      go true k false h = ap until_start (known_one v e es k) ∙ rw (front_of_lem FrameStart e, h) (ap (λ (l : List Ev). front v e ∷ l) ih ∙ sym (known_one v e (until_start es) k))
      go false k true h = no_way (sym (not_of FrameStart e k) ∙ h)
      go false k false h = ap until_start (unknown_one v e es k) ∙ ih ∙ rw h (sym (unknown_one v e (until_start es) k))

  until_known : (es : List Ev) → until_start (known_of v es) ≡ known_of v (until_start es)
  unfolding until_start known_of
  until_known [] = refl
  until_known (e ∷ es) = until_step e es (until_known es)

  frames_step : (e : Ev) (es : List Ev) → frames_in (known_of v es) ≡ map (known_of v) (frames_in es) → frames_in (known_of v (e ∷ es)) ≡ map (known_of v) (frames_in (e ∷ es))
  unfolding frames_in keep
  frames_step e es ih = go (is_known e.code) refl (is_of FrameStart e) refl
    where
      go : (b : Bool) → is_known e.code ≡ b → (c : Bool) → is_of FrameStart e ≡ c → frames_in (known_of v (e ∷ es)) ≡ map (known_of v) (frames_in (e ∷ es))
      go true k true h = ap frames_in (known_one v e es k) ∙ rw (front_of_lem FrameStart e, h) (λ i. until_known es i ∷ ih i)
      go true k false h = ap frames_in (known_one v e es k) ∙ rw (front_of_lem FrameStart e, h) ih
      go false k true h = no_way (sym (not_of FrameStart e k) ∙ h)
      go false k false h = ap frames_in (unknown_one v e es k) ∙ rw h ih

  pub frames_known : (es : List Ev) → frames_in (known_of v es) ≡ map (known_of v) (frames_in es)
  unfolding frames_in known_of
  frames_known [] = refl
  frames_known (e ∷ es) = frames_step e es (frames_known es)

  -- ---- by slot

  module _ (family : Family) (six : head_size family ≡ 6) (k : ℕ) where
    said_of : (e : Ev) → is_of family e ≡ true → slot_said (said_by (front v e)) ≡ slot_said (said_by e)
    said_of e h = ap slot_said (front_said v e family (code_is family e h) six)

    by_step : (e : Ev) (es : List Ev) → payload_by family k (known_of v es) ≡ cut family (payload_by family k es)
        → payload_by family k (known_of v (e ∷ es)) ≡ cut family (payload_by family k (e ∷ es))
    unfolding payload_by
    by_step e es ih = go (is_known e.code) refl (is_of family e) refl
      where
        same : (c : Bool) → eqb (slot_said (said_by e)) k ≡ c → is_of family e ≡ true
            → cond (eqb (slot_said (said_by (front v e))) k) (front v e).payload (payload_by family k (known_of v es))
            ≡ cut family (cond (eqb (slot_said (said_by e)) k) e.payload (payload_by family k es))
        same true q h = ap (λ (n : ℕ). cond (eqb n k) (front v e).payload (payload_by family k (known_of v es))) (said_of e h) ∙ rw q (cut_is family e h)
        same false q h = ap (λ (n : ℕ). cond (eqb n k) (front v e).payload (payload_by family k (known_of v es))) (said_of e h) ∙ rw q ih

        go : (b : Bool) → is_known e.code ≡ b → (c : Bool) → is_of family e ≡ c → payload_by family k (known_of v (e ∷ es)) ≡ cut family (payload_by family k (e ∷ es))
        go true n true h = ap (payload_by family k) (known_one v e es n) ∙ rw (front_of_lem family e, h) (same (eqb (slot_said (said_by e)) k) refl h)
        go true n false h = ap (payload_by family k) (known_one v e es n) ∙ rw (front_of_lem family e, h) ih
        go false n true h = no_way (sym (not_of family e n) ∙ h)
        go false n false h = ap (payload_by family k) (unknown_one v e es n) ∙ rw h ih

    pub by_known : (es : List Ev) → payload_by family k (known_of v es) ≡ cut family (payload_by family k es)
    unfolding payload_by known_of
    by_known [] = sym (take-nil (record_size family v))
    by_known (e ∷ es) = by_step e es (by_known es)
