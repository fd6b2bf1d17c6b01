-- What the parts of a newer recorder's file ask and give, by what the functions promise that judge them.
-- Assumes nothing.
use Prim.Native.Nat.{ℕ, ◌+◌, ◌≤◌}
use native.Mathlib.Omega.{arith}
use mathlib.Core.Path.{◌≡◌, sym, ap, subst, ◌∙◌}
use mathlib.Core.Bool.{Bool, true, false, not}
use mathlib.Core.List.{List, [], ◌∷◌, map, head-eq_of_cons-eq}
use lib.ListN.{length, get_or, take, length-take}
use lib.Seq.{take-take, take_all}
use Rattle.wire.specs.Wire.{part}
use Rattle.format.specs.File.{Ev}
use Rattle.format.specs.declared.version.Version.{Version}
use Rattle.layout.specs.Payloads.{end_size}
use Rattle.grammar.specs.Productions.{end_event}
use Rattle.grammar.specs.WellFormed.{Each}
use Rattle.known.specs.Known.{is_newer, known_size, front, known_of}
use Rattle.known.proofs.Codes.{known_one}
use Rattle.read_scan.specs.declared.Ran.{Ran}
use Rattle.read_scan.specs.declared.Ran.TheVariants as ran
use Rattle.read_scan.specs.declared.tally.Tally.{Tally}
use Rattle.read_outline.specs.Listed.{listed_right}
use Rattle.read_outline.specs.declared.answer.Codes.{Codes}
use Rattle.read_outline.specs.declared.answer.Codes.TheVariants as codes
use Rattle.read_judge.specs.Found.{version_of, Found}
use Rattle.read_judge.specs.Inner.{Covers, Ready, start_fits, EndAt}
use Rattle.read_judge.proofs.StartLaws.{not_taken, not_left}
use Rattle.newer_events.specs.Some.{SomeCovers}
use Rattle.newer_events.proofs.Events.{front_stands, ends_before, covers_part}
use Rattle.newer_scan.specs.Frames.{Behind, FramesEnd, FramesRan}
use Rattle.newer_codes.specs.Codes.{CodesEnded, CodesRead}
use Rattle.newer_ends.specs.Ends.{EndsGood, EndsRead}
use Rattle.newer_ends.specs.declared.answer.Ends.{Ends}
use Rattle.newer_ends.specs.declared.answer.Ends.TheVariants as ends
use Rattle.newer_judge.specs.Inner.{Indexed, Known}
use Rattle.newer_judge.proofs.Stages as stages

-- the first end's payload stands behind the place where the frames end
ends_stand : (f spans : List ℕ) (v : Version) (at stop : ℕ) (es : List Ev) → Covers f spans at stop es → stop ≤ length f → Behind es → (ps : List (List ℕ)) → known_of v es ≡ map end_event ps
    → Each (λ bytes. length bytes ≡ end_size v) ps → EndAt f v (at + 1) ps
unfolding Each known_of
ends_stand f spans v at stop es c l b [] e h = tt
ends_stand f spans v at stop [] c l b (p ∷ ps) e h = absurd (let z : ◌≡◌ {A = ℕ} 0 (length (end_event p ∷ map end_event ps)) = ap length e in omega arith)
ends_stand f spans v at stop (x ∷ es) c l b (p ∷ ps) e h =
    let same : front v x ≡ end_event p = head-eq_of_cons-eq (sym (known_one v x es b.0) ∙ e) in
    let is : take (known_size v x) x.payload ≡ p = ap (λ (y : Ev). y.payload) same in
    let size = ap length is ∙ h.0 in
    let long = length-take (known_size v x) x.payload in
    let n : end_size v ≤ length x.payload = omega arith in
    let ends = ends_before f spans at stop x es c in (
      omega arith,
      front_stands f spans at stop x es c (end_size v) n
          ∙ sym (take-take (end_size v) (known_size v x) x.payload (omega arith)) ∙ ap (take (end_size v)) is ∙ take_all (end_size v) p (omega (arith, h.0)),
    )

module _ (f spans : List ℕ) (v : Version) (first stop len : ℕ) (pre : Ready f spans v first stop len × Indexed f spans × (is_newer v ≡ true)) where
  abbrev w : Version
  w = version_of f

  abbrev at : ℕ
  at = first + 1 + len

  same : v ≡ w
  same = pre.0.version_is

  ready : Ready f spans w first stop len
  ready = subst (λ (x : Version). Ready f spans x first stop len) same pre.0

  newer : is_newer w ≡ true
  newer = subst (λ (x : Version). is_newer x ≡ true) same pre.2

  abbrev raw : List Ev
  raw = ready.others

  pub within : stop ≤ length f
  within = ready.within

  start_covers : Covers f spans at stop raw
  start_covers = stages.start_covers f spans first stop len ready newer

  pub first_within : at ≤ stop
  first_within = omega (arith, start_covers.long)

  pub some_start : SomeCovers f spans at stop
  some_start = record { raw = raw; covers = start_covers }

  for_file : (P : Version → Type 0) → P v → P w
  for_file P = subst P same

  pub start_wrong : (b : Bool) → b ≡ start_fits v (part f (first + 1) len) → not b ≡ true → Found f → ⊥
  start_wrong b e t x = stages.start_fails f spans first stop len ready newer x (for_file (λ y. start_fits y (part f (first + 1) len) ≡ false) (sym e ∙ not_taken b t))

  module _ (c : Codes) (c-is : (v : Version) (raw : List Ev) → is_newer v ≡ true → Covers f spans at stop raw → CodesRead v at raw c) where
    coded : CodesRead w at raw c
    coded = c-is w raw newer start_covers

    pub codes_wrong_lem : c ≡ codes.Wrong → Found f → ⊥
    codes_wrong_lem e x = stages.codes_fail f spans first stop len ready newer x (subst (CodesRead w at ready.others) e coded)

    module _ (place blocks actual : ℕ) (c-told : c ≡ codes.Ended place blocks actual) where
      k : CodesEnded w at raw place blocks actual
      k = subst (CodesRead w at raw) c-told coded

      after_covers : Covers f spans place stop k.after
      after_covers =
          subst (λ (n : ℕ). Covers f spans n stop k.after) (sym k.at_is)
          (covers_part f spans at stop k.before k.after (subst (λ (l : List Ev). Covers f spans at stop l) k.parted start_covers))

      pub some_frames : SomeCovers f spans place stop
      some_frames = record { raw = k.after; covers = after_covers }

      pub listed_wrong : (b : Bool) → b ≡ listed_right v (get_or spans 0x3D 0) blocks actual → not b ≡ true → Found f → ⊥
      listed_wrong b e t x =
          stages.listed_fails f spans first stop len ready newer x k.before k.after k.parted k.blocks k.known_are k.good k.rest_is blocks actual k.count_is k.actual_is
          (for_file (λ y. listed_right y (get_or spans 0x3D 0) blocks actual ≡ false) (sym e ∙ not_taken b t))

      module _ (r : Ran) (r_is : (raw : List Ev) → Covers f spans place stop raw → FramesRan v place raw r) where
        scanned : FramesRan w place k.after r
        scanned = for_file (λ y. FramesRan y place k.after r) (r_is k.after after_covers)

        pub frames_wrong : r ≡ ran.Wrong → Found f → ⊥
        frames_wrong e x =
            stages.frames_fail f spans first stop len ready newer x k.before k.after k.parted k.blocks k.known_are k.good k.rest_is
            (subst (FramesRan w place k.after) e scanned)

        module _ (last : ℕ) (t : Tally) (r-told : r ≡ ran.Ended last t) where
          m : FramesEnd w place k.after last t
          m = subst (FramesRan w place k.after) r-told scanned

          last_covers : Covers f spans last stop m.after
          last_covers =
              subst (λ (n : ℕ). Covers f spans n stop m.after) (sym m.at_is)
              (covers_part f spans place stop m.before m.after (subst (λ (l : List Ev). Covers f spans place stop l) m.parted after_covers))

          pub some_ends : SomeCovers f spans last stop
          some_ends = record { raw = m.after; covers = last_covers }

          module _ (e : Ends) (e-is : (raw : List Ev) → Covers f spans last stop raw → EndsRead f v raw e) where
            ended : EndsRead f w m.after e
            ended = for_file (λ y. EndsRead f y m.after e) (e-is m.after last_covers)

            pub ends_wrong : e ≡ ends.Wrong → Found f → ⊥
            ends_wrong q x =
                stages.ends_fail f spans first stop len ready newer x k.before k.after k.parted k.blocks k.known_are k.good k.rest_is m.after m.rest_is
                (subst (EndsRead f w m.after) q ended)

            pub all_held : (fits listed : Bool) → fits ≡ start_fits v (part f (first + 1) len) → not fits ≡ false → listed ≡ listed_right v (get_or spans 0x3D 0) blocks actual → not listed ≡ false
                → (count here : ℕ) → e ≡ ends.Good count here
                → Known f first (record { version = v; block_len = len; codes_at = at; blocks = blocks; actual = actual; frames_at = place; tally = t; ends_at = last; ends = count })
            all_held fits listed fi ft li lt count here told =
                let g : EndsGood f w m.after count here = subst (EndsRead f w m.after) told ended in
                let right = for_file (λ y. listed_right y (get_or spans 0x3D 0) blocks actual ≡ true) (sym li ∙ not_left listed lt) in
                stages.held_known f spans first stop len ready newer pre.1 (for_file (λ y. start_fits y (part f (first + 1) len) ≡ true) (sym fi ∙ not_left fits ft))
                k.before k.after k.parted k.blocks k.known_are k.good place k.at_is (rw (← k.count_is, ← k.actual_is) right)
                m.before m.after m.parted m.rest_is last m.at_is t (sym m.tally_all)
                g.payloads g.known_are g.good (ends_stand f spans w last stop m.after last_covers within m.behind g.payloads g.known_are g.good.sized)
                v same blocks actual count k.count_is k.actual_is g.count_is
