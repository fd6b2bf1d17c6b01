-- What is known of a file at each step of its check.
-- Assumes nothing.
use Prim.Native.Nat.{ℕ, ◌+◌, ◌≤◌}
use mathlib.Core.Path.{◌≡◌, refl, sym, ap, subst, ◌∙◌}
use mathlib.Core.Bool.{Bool, true, false, cond}
use mathlib.Core.List.{List}
use native.Mathlib.Omega.{arith}
use lib.ListN.{length, drop}
use Rattle.format.specs.Version.{accepted_of}
use Rattle.format.specs.declared.version.Version.{Version}
use Rattle.head.specs.Table.{stop_of}
use Rattle.head.specs.Inner.{HeadOf}
use Rattle.head.specs.declared.table.Head.{Head}
use Rattle.de.specs.Walk.{walk_of}
use Rattle.de.specs.Numbers.{walk_numbers}
use Rattle.de.specs.declared.Walked.{Walked}
use Rattle.de.specs.declared.Walked.TheVariants as walked
use Rattle.grammar.specs.Sound.{SoundEvents}
use Rattle.read_judge.specs.Inner.{Bytes, first_at, WalkDone, Headed, Started}
use Rattle.read_judge.specs.declared.first.First.{First}
use Rattle.read_judge.specs.declared.first.First.TheVariants.{Opens, Other}
use Rattle.read_judge.proofs.Steps as laws
use Rattle.read_judge.proofs.Passes.{first_within}
use Rattle.read_outline.specs.Inner.{Within}
use Rattle.check_parts.specs.Inner.{sound_at}
use Rattle.law_sound.proofs.Read.{present}
use Rattle.law_sound.proofs.Exactly.{sound_tests}
use Rattle.law_sound.proofs.Whole as file
use Rattle.check_file.specs.Check.{Answer, early, events, tail, sound, CheckOutcome}
use Rattle.check_file.specs.Inner.{is_tail}
use Rattle.check_file.specs.declared.Checked.{Checked}
use Rattle.check_file.proofs.Proper.{tail_yes, tail_right}

pub walk_refused : (f : List ℕ) (w : Walked) (number offset : ℕ) → walk_numbers w ≡ walk_numbers (walk_of f) → w ≡ walked.Refused number offset → Answer f number offset
walk_refused f w number offset e q = let (n, a, b) = laws.walk_early f w number offset e q in early n a b

pub head_refused : (f spans : List ℕ) (h : Head) → HeadOf h spans f → (h.refusal ≡ 0 → ⊥) → Answer f h.refusal h.offset
head_refused f spans h o n = let (m, a, b) = laws.head_early f spans h o n in early m a b

pub answer_as : (f : List ℕ) (r q : Checked) → r ≡ q → CheckOutcome f q → CheckOutcome f r
answer_as f r q e v = subst (λ (x : Checked). CheckOutcome f x) (sym e) v

absent : {b : Bool} → b ≡ true → b ≡ false → ⊥
absent p q = let z : ◌≡◌ {A = ℕ} 0 1 = ap (λ (c : Bool). cond c 0 1) (sym p ∙ q) in omega arith

-- ---- the events

module _ (f spans : List ℕ) (first stop : ℕ) (whole : Bool) (h : Headed f spans first stop whole) where
  module _ (k : WalkDone f) where
    pub opens_not : (e : First) → e ≡ first_at f spans first stop → e ≡ Other → Answer f 19 0
    opens_not e q o = let is = laws.opens_early f spans first stop whole h k e q o in early (λ z. omega arith) (sym is) (laws.offset_none f spans first stop whole h k)

    module _ (v : Version) (len : ℕ) (e : First) (q : e ≡ first_at f spans first stop) (o : e ≡ Opens v len) where
      pub too_new_lem : accepted_of v ≡ false → Answer f 1 0
      too_new_lem a = let is = laws.new_early f spans first stop whole h k v len e q o a in early (λ z. omega arith) (sym is) (laws.offset_none f spans first stop whole h k)

      module _ (a : accepted_of v ≡ true) where
        not_sound : (SoundEvents f → ⊥) → Answer f 19 0
        not_sound n = events (laws.none_early f spans first stop whole h k v len e q o a) n refl refl

        pub cut : whole ≡ false → Answer f 19 0
        cut w = not_sound (λ x. absent (present f x) (sym h.whole_is ∙ w))

  module _ (w : whole ≡ true) (v : Version) (len : ℕ) (e : First) (q : e ≡ first_at f spans first stop) (o : e ≡ Opens v len) where
    pub start_within : first + 1 + len ≤ stop
    start_within = first_within f spans stop (first + 1 + len) v first len (sym q ∙ o) refl h.starts

    pub place_within : Within f spans stop (first + 1 + len) × (15 ≤ length f)
    place_within = (record { under = start_within; long = h.within; all_codes = h.many }, file.long f h.accepted)

    module _ (a : accepted_of v ≡ true) (r : Bool) (r_is : r ≡ sound_at v f spans stop (first + 1 + len) len) where
      started : Started f spans v first stop len
      started = laws.started f spans first stop whole h w v len e q o a

      pub events_sound : r ≡ true → SoundEvents f
      events_sound t = (sound_tests f spans v first stop len started).0 (sym r_is ∙ t)

      pub events_wrong : r ≡ false → WalkDone f → Answer f 19 0
      events_wrong t k = not_sound k v len e q o a (λ x. absent ((sound_tests f spans v first stop len started).1 x) (sym r_is ∙ t))

-- ---- the tail

module _ (f : List ℕ) (x : SoundEvents f) (stop : ℕ) (s : stop ≡ stop_of f) (r : Bool) (r_is : r ≡ is_tail (drop stop f)) where
  test_is : r ≡ is_tail (drop (stop_of f) f)
  test_is = r_is ∙ ap (λ (n : ℕ). is_tail (drop n f)) s

  pub all_sound : Bytes f → r ≡ true → Answer f 0 0
  all_sound bytes t = sound (tail_yes f bytes x (sym test_is ∙ t)) refl refl

  pub tail_wrong : r ≡ false → Answer f 23 0
  tail_wrong t = tail x (λ y. absent (tail_right f y) (sym test_is ∙ t)) refl refl
