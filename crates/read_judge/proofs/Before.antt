-- The parts of a file, judged before its walk is known.
-- Assumes nothing.
use Prim.Native.Nat.{ℕ, suc, ◌+◌, ◌≤◌}
use mathlib.Core.Path.{◌≡◌, refl, sym, ap, subst, ◌∙◌}
use mathlib.Core.Bool.{Bool, true, false, not}
use mathlib.Core.List.{List}
use mathlib.Core.Option.{none, some}
use lib.ListN.{get_or}
use Rattle.wire.specs.Wire.{part}
use Rattle.format.specs.Version.{accepted_of}
use Rattle.format.specs.declared.version.Version.{Version}
use Rattle.grammar.specs.WellFormed.{ascending}
use Rattle.grammar.specs.Machine.{initial}
use Rattle.read_scan.specs.Counts.{no_tally}
use Rattle.read_scan.specs.Inner.{scan, tallied, ran_of, tally_in}
use Rattle.read_scan.specs.declared.Ran.{Ran}
use Rattle.read_scan.specs.declared.Ran.TheVariants as ran
use Rattle.read_scan.specs.declared.tally.Tally.{Tally}
use Rattle.read_outline.specs.Inner.{codes_at, ends_at}
use Rattle.read_outline.specs.Listed.{listed_right}
use Rattle.read_outline.specs.declared.answer.Codes.{Codes}
use Rattle.read_outline.specs.declared.answer.Codes.TheVariants as codes
use Rattle.read_outline.specs.declared.answer.Ends.{Ends}
use Rattle.read_outline.specs.declared.answer.Ends.TheVariants as ended
use Rattle.read_judge.specs.Found.{version_of, Found}
use Rattle.read_judge.specs.Inner.{first_at, Ready, start_fits, changes, Holds, WalkDone, Started}
use Rattle.read_judge.proofs.StartLaws.{not_taken, not_left}
use Rattle.read_judge.proofs.Stages.{start_fails, codes_fail, listed_fails, frames_fail, changing_fails, ends_fail, holds}
use Rattle.read_judge.proofs.Steps.{ready}
use Rattle.read_judge.proofs.Passes.{first_within, codes_within, scan_within, walk_done}

module _ (f spans : List ℕ) (v : Version) (first stop len : ℕ) (s : Started f spans v first stop len) where
  abbrev at : ℕ
  at = first + 1 + len

  pub at_within : at ≤ stop
  at_within = first_within f spans stop at v first len s.opens refl s.headed.starts

  once_walked : WalkDone f → Ready f spans v first stop len
  once_walked k = ready f spans first stop true s.headed k v len (first_at f spans first stop) refl s.opens refl

  -- what is asked of the version that the code has, asked of the version that the file says
  for_file : (P : Version → Type 0) (k : WalkDone f) → P v → P (version_of f)
  for_file P k p = subst P (once_walked k).version_is p

  new : (k : WalkDone f) → accepted_of (version_of f) ≡ true
  new k = for_file (λ w. accepted_of w ≡ true) k s.new_enough

  pub start_wrong : (b : Bool) → b ≡ start_fits v (part f (first + 1) len) → not b ≡ true → WalkDone f → Found f → ⊥
  start_wrong b b-is t k x =
      start_fails f spans v first stop len (once_walked k) (new k) x (for_file (λ w. start_fits w (part f (first + 1) len) ≡ false) k (sym b-is ∙ not_taken b t))

  module _ (c : Codes) (c-is : c ≡ codes_at v f spans at stop) where
    pub codes_wrong_lem : c ≡ codes.Wrong → WalkDone f → Found f → ⊥
    codes_wrong_lem e k x = codes_fail f spans v first stop len (once_walked k) (new k) x (for_file (λ w. codes_at w f spans at stop ≡ codes.Wrong) k (sym c-is ∙ e))

    module _ (place blocks actual : ℕ) (c-told : c ≡ codes.Ended place blocks actual) where
      pub place_within : place ≤ stop
      place_within = codes_within f spans stop place v at blocks actual (sym c-is ∙ c-told) at_within

      answer : (k : WalkDone f) → codes_at (version_of f) f spans at stop ≡ codes.Ended place blocks actual
      answer k = for_file (λ w. codes_at w f spans at stop ≡ codes.Ended place blocks actual) k (sym c-is ∙ c-told)

      pub listed_wrong : (b : Bool) → b ≡ listed_right v (get_or spans 0x3D 0) blocks actual → not b ≡ true → WalkDone f → Found f → ⊥
      listed_wrong b b-is t k x =
          listed_fails f spans v first stop len (once_walked k) (new k) x place blocks actual (answer k)
          (for_file (λ w. listed_right w (get_or spans 0x3D 0) blocks actual ≡ false) k (sym b-is ∙ not_taken b t))

      module _ (r : Ran) (r_is : ran_of r ≡ scan v ascending f spans stop (suc stop) place initial) (t-is : tally_in r ≡ tallied v ascending f spans stop (suc stop) place initial no_tally) where
        pub frames_wrong : r ≡ ran.Wrong → WalkDone f → Found f → ⊥
        frames_wrong e k x =
            frames_fail f spans v first stop len (once_walked k) (new k) x place blocks actual (answer k)
            (for_file (λ w. scan w ascending f spans stop (suc stop) place initial ≡ none) k (sym r_is ∙ ap ran_of e))

        module _ (last : ℕ) (t : Tally) (r-told : r ≡ ran.Ended last t) where
          scanned : scan v ascending f spans stop (suc stop) place initial ≡ some last
          scanned = sym r_is ∙ ap ran_of r-told

          pub last_within : last ≤ stop
          last_within = scan_within f spans stop last v ascending (suc stop) place initial scanned place_within

          ran_as : (k : WalkDone f) → scan (version_of f) ascending f spans stop (suc stop) place initial ≡ some last
          ran_as k = for_file (λ w. scan w ascending f spans stop (suc stop) place initial ≡ some last) k scanned

          counts : (k : WalkDone f) → tallied (version_of f) ascending f spans stop (suc stop) place initial no_tally ≡ some t
          counts k = for_file (λ w. tallied w ascending f spans stop (suc stop) place initial no_tally ≡ some t) k (sym t-is ∙ ap tally_in r-told)

          pub changing_wrong : (b : Bool) → b ≡ changes v t → not b ≡ true → WalkDone f → Found f → ⊥
          changing_wrong b b-is n k x =
              changing_fails f spans v first stop len (once_walked k) (new k) x place blocks actual (answer k) t (counts k) (for_file (λ w. changes w t ≡ false) k (sym b-is ∙ not_taken b n))

          module _ (e : Ends) (e-is : e ≡ ends_at v f spans last stop) where
            pub ends_wrong : e ≡ ended.Wrong → WalkDone f → Found f → ⊥
            ends_wrong q k x =
                ends_fail f spans v first stop len (once_walked k) (new k) x place blocks actual (answer k) last (ran_as k) (for_file (λ w. ends_at w f spans last stop ≡ ended.Wrong) k (sym e-is ∙ q))

            -- where all tests pass, the walk is not refused
            module _ (fits listed changed : Bool) (fits_is : fits ≡ start_fits v (part f (first + 1) len)) (fits_told : not fits ≡ false)
                (listed-is : listed ≡ listed_right v (get_or spans 0x3D 0) blocks actual) (listed-told : not listed ≡ false)
                (changed-is : changed ≡ changes v t) (changed-told : not changed ≡ false) (count : ℕ) (e-told : e ≡ ended.Good count) where
              not_refused : WalkDone f
              not_refused = walk_done f spans first stop s.headed v len s.opens place blocks actual (sym c-is ∙ c-told) ascending (suc stop) initial last scanned count (sym e-is ∙ e-told)

              pub all_held : WalkDone f × Holds f first stop (record { version = v; block_len = len; codes_at = at; blocks = blocks; actual = actual; frames_at = place; tally = t; ends_at = last; ends = count })
              all_held =
                  let k = not_refused in
                  let y = once_walked k in (
                    k,
                    holds f spans v first stop len y (new k) (for_file (λ w. start_fits w (part f (first + 1) len) ≡ true) k (sym fits_is ∙ not_left fits fits_told)) place blocks actual (answer k)
                        (for_file (λ w. listed_right w (get_or spans 0x3D 0) blocks actual ≡ true) k (sym listed-is ∙ not_left listed listed-told)) last (ran_as k) t (counts k)
                        (for_file (λ w. changes w t ≡ true) k (sym changed-is ∙ not_left changed changed-told)) count
                        (for_file (λ w. ends_at w f spans last stop ≡ ended.Good count) k (sym e-is ∙ e-told)) y.version_is,
                  )
