-- The known ones of a replay's events: the start whole, bytes as bytes; and parts of what stands between two places.
-- Assumes nothing.
use Prim.Native.Nat.{ℕ, zero, suc, ◌+◌, ◌≤◌}
use native.Mathlib.Omega.{arith}
use native.Mathlib.Decide.{dec_lt}
use mathlib.Core.Path.{◌≡◌, refl, sym, ap, subst, ◌∙◌}
use mathlib.Core.Bool.{Bool, true, false}
use mathlib.Core.List.{List, [], ◌∷◌, ◌++◌, append_assoc}
use lib.ListN.{length, get_or, take, drop}
use lib.Seq.{take-length}
use Rattle.wire.specs.Wire.{keep}
use Rattle.format.specs.File.{Ev, events_bytes}
use Rattle.format.specs.Refusal.{one_of}
use Rattle.format.specs.declared.version.Version.{Version}
use Rattle.grammar.specs.Productions.{start_event}
use Rattle.grammar.specs.WellFormed.{Each}
use Rattle.grammar.specs.Machine.{family_of, on_family}
use Rattle.grammar.proofs.Exactly.{Byte}
use Rattle.known.specs.Known.{is_known, known_size, front, known_of}
use Rattle.known.proofs.Codes.{known_one}
use Rattle.read_judge.specs.Inner.{Covers}
use Rattle.newer_events.proofs.Events.{events_both, covers_part}
use Rattle.newer_judge.specs.Inner.{Indexed}

-- ---- known events

start_front : (v : Version) (block : List ℕ) → front v (start_event block) ≡ start_event block
unfolding known_size family_of on_family
start_front v block = ap start_event (take-length block)

pub start_known : (v : Version) (block : List ℕ) (es : List Ev) → known_of v (start_event block ∷ es) ≡ start_event block ∷ known_of v es
unfolding is_known one_of
start_known v block es = known_one v (start_event block) es refl ∙ ap (λ (e : Ev). e ∷ known_of v es) (start_front v block)

bytes_front : (n : ℕ) (bs : List ℕ) → Each Byte bs → Each Byte (take n bs)
unfolding Each
bytes_front zero bs h = tt
bytes_front (suc n) [] h = tt
bytes_front (suc n) (b ∷ bs) h = (h.0, bytes_front n bs h.1)

pub known_bytes : (v : Version) (es : List Ev) → Each (λ e. Each Byte e.payload) es → Each (λ e. Each Byte e.payload) (known_of v es)
unfolding Each known_of keep
known_bytes v [] h = tt
known_bytes v (e ∷ es) h = go (is_known e.code) (known_bytes v es h.1)
  where
    go : (b : Bool) → Each (λ e. Each Byte e.payload) (known_of v es) → Each (λ e. Each Byte e.payload) (keep b (front v e ∷ []) ++ known_of v es)
    go true k = (bytes_front (known_size v e) e.payload h.0, k)
    go false k = k

-- ---- places

-- the first of some events, up to where the others begin
each_first : (P : Ev → Type 0) (xs ys : List Ev) → Each P (xs ++ ys) → Each P xs
unfolding Each
each_first P [] ys h = tt
each_first P (x ∷ xs) ys h = (h.0, each_first P xs ys h.1)

pub covers_first : (f spans : List ℕ) (place stop : ℕ) (xs ys : List Ev) → Covers f spans place stop (xs ++ ys) → (end : ℕ) → end ≡ place + length (events_bytes xs) → Covers f spans place end xs
covers_first f spans place stop xs ys c end e =
    let d = subst (λ (n : ℕ). Covers f spans n stop ys) (sym e) (covers_part f spans place stop xs ys c) in
    record {
      bytes_are =
          c.bytes_are
          ∙ ap (λ (l : List ℕ). l ++ drop stop f) (events_both xs ys)
          ∙ append_assoc (events_bytes xs) (events_bytes ys) (drop stop f)
          ∙ ap (λ (l : List ℕ). events_bytes xs ++ l) (sym d.bytes_are);
      long = e;
      spanned = each_first _ xs ys c.spanned;
      bytes = each_first _ xs ys c.bytes;
    }

-- by whichever spans the table gives
pub covers_by : (f spans : List ℕ) (place stop : ℕ) (es : List Ev) → Indexed f spans → Covers f spans place stop es → (others : List ℕ) → Indexed f others → Covers f others place stop es
unfolding Each
covers_by f spans place stop es i c others j = record { bytes_are = c.bytes_are; long = c.long; spanned = all es c.spanned; bytes = c.bytes }
  where
    beyond : (xs : List ℕ) (k : ℕ) → length xs ≤ k → get_or xs k 0 ≡ 0
    beyond [] k h = refl
    beyond (x ∷ xs) zero h = absurd (omega arith)
    beyond (x ∷ xs) (suc k) h = beyond xs k (omega arith)

    one : (c n : ℕ) → get_or spans c 0 ≡ suc n → get_or others c 0 ≡ suc n
    one c n e = elim (dec_lt c 256) [
      | yes l ↦ j.index c l ∙ sym (i.index c l) ∙ e
      | no l ↦ absurd (omega (arith, beyond spans c (omega (arith, i.many)), e))
    ]

    all : (es : List Ev) → Each (λ e. get_or spans e.code 0 ≡ suc (length e.payload)) es → Each (λ e. get_or others e.code 0 ≡ suc (length e.payload)) es
    all [] h = tt
    all (e ∷ es) h = (one e.code (length e.payload) h.0, all es h.1)
