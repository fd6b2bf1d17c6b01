-- The laws of the outcome: one for each way that a call ends.
-- Assumes nothing.
use mathlib.Core.Path.{◌≡◌, refl, ap, ◌∙◌}
use mathlib.Core.Bool.{true, false, not}
use mathlib.Core.List.{List, ◌++◌}
use Prim.Native.Nat.{ℕ, ◌≤◌, ◌<◌}
use borrow.Author.Tests.{lt-ltb, le-ltb, le-leb, lt-leb}
use lib.ListN.{length, drop}
use Rattle.std.specs.Prelude.{Ok, Err}
use Rattle.format.specs.Refusal.{lowest}
use Rattle.format.proofs.Refusals.{skip, here, none}
use Rattle.rollback.specs.Mask.{mask_of, needed, scratch_of, all_in_range, mask_refusals, masked_of, answer_of, mask_numbers, RollbackOutcome}
use Rattle.rollback.specs.declared.frame.Rollbacks.{Rollbacks}
use Rattle.format.specs.declared.refusal.Refusal.{Refusal}
use Rattle.format.specs.declared.refusal.Refusal.TheVariants.{TooMany, ShortOutput, OutOfRange}
use Rattle.format.specs.Refused.{number_of}
use Rattle.rollback.proofs.Places.{all_in_place}

outside : (ids : List ℕ) → 1048576 < needed ids → not (all_in_range ids) ≡ true
outside ids a = ap not (all_in_place ids ∙ lt-leb (needed ids) 1048576 a)

inside : (ids : List ℕ) → needed ids ≤ 1048576 → not (all_in_range ids) ≡ false
inside ids a = ap not (all_in_place ids ∙ le-leb (needed ids) 1048576 a)

-- the first two tests are passed
later : (ids : List ℕ) (m s r : ℕ) → length ids ≤ 1048576 → length ids ≤ m → r ≡ lowest (drop 2 (mask_refusals ids m s)) → r ≡ lowest (mask_refusals ids m s)
later ids m s r few long e = skip _ _ _ _ (le-ltb 1048576 (length ids) few) (skip _ _ _ _ (le-ltb m (length ids) long) e)

module _ {ids : List ℕ} {keep : Rollbacks} {mask scratch : List ℕ} where
  refused : (r : Refusal) → mask_numbers (Err r) ≡ masked_of (number_of r) (length ids) → number_of r ≡ lowest (mask_refusals ids (length mask) (length scratch))
      → RollbackOutcome ids keep mask scratch (Err r) mask scratch
  unfolding answer_of
  refused r q e = record { answer_is = q ∙ ap (λ (n : ℕ). masked_of n (length ids)) e; mask_is = refl; scratch_is = refl }

  pub too_many_lem : 1048576 < length ids → RollbackOutcome ids keep mask scratch (Err TooMany) mask scratch
  too_many_lem a = refused TooMany refl (here _ _ _ (lt-ltb 1048576 (length ids) a))

  module _ (few : length ids ≤ 1048576) where
    pub mask_short : length mask < length ids → RollbackOutcome ids keep mask scratch (Err ShortOutput) mask scratch
    mask_short a = refused ShortOutput refl (skip _ _ _ _ (le-ltb 1048576 (length ids) few) (here _ _ _ (lt-ltb (length mask) (length ids) a)))

    module _ (long : length ids ≤ length mask) where
      pub out_of_range : 1048576 < needed ids → RollbackOutcome ids keep mask scratch (Err OutOfRange) mask scratch
      out_of_range a = refused OutOfRange refl (later ids (length mask) (length scratch) 13 few long (here _ _ _ (outside ids a)))

      module _ (within : needed ids ≤ 1048576) where
        pub scratch_short : length scratch < needed ids → RollbackOutcome ids keep mask scratch (Err ShortOutput) mask scratch
        scratch_short a = refused ShortOutput refl (later ids (length mask) (length scratch) 12 few long (skip _ _ _ _ (inside ids within) (here _ _ _ (lt-ltb (length scratch) (needed ids) a))))

        pub written : {part marks : List ℕ} {need : ℕ} → needed ids ≤ length scratch → need ≡ needed ids → part ≡ mask_of keep ids → marks ≡ scratch_of ids (needed ids)
            → RollbackOutcome ids keep mask scratch (Ok (length ids)) (part ++ drop (length ids) mask) (marks ++ drop need scratch)
        unfolding answer_of
        written a n p m = record {
          answer_is =
              ap (λ (k : ℕ). masked_of k (length ids))
              (later ids (length mask) (length scratch) 0 few long (skip _ _ _ _ (inside ids within) (skip _ _ _ _ (le-ltb (length scratch) (needed ids) a) none)));
          mask_is = rw p;
          scratch_is = rw (m, n);
        }
