-- Events that stand in a file, and the tests of one of them.
-- Assumes nothing.
use mathlib.Core.Path.{◌≡◌, refl, sym, ap, ◌∙◌}
use mathlib.Core.Bool.{Bool, true, false, not, ◌&&◌}
use mathlib.Core.List.{List, ◌∷◌, ◌++◌, append_assoc}
use Prim.Native.Nat.{ℕ, suc, ◌+◌, ◌≤◌, ◌<◌}
use native.Mathlib.Nat.{add-zero}
use native.Mathlib.Decide.{ℕ_discrete}
use native.Mathlib.Omega.{arith}
use borrow.Author.Tests.{le-leb, eq-eqb, ne_eqb, eqb-true}
use lib.Dec.{leb, eqb}
use lib.ListN.{length, get_or, take, drop, length-append, length-drop, get_or-append}
use lib.Seq.{get_or-drop, drop-drop, drop_at, take-append-le, drop-append-le}
use Rattle.wire.specs.Wire.{number, part}
use Rattle.format.specs.Version.{has_initiator}
use Rattle.format.specs.Event.{code_of}
use Rattle.format.specs.File.{Ev, event_bytes, events_bytes}
use Rattle.format.specs.declared.event.Event.TheVariants.{GeckoCodes, MessageSplitter}
use Rattle.format.specs.declared.version.Version.{Version}
use Rattle.layout.specs.Payloads.{end_size}
use Rattle.ending.specs.End.{initiator_wrong}
use Rattle.grammar.specs.WellFormed.{Each}
use Rattle.grammar.specs.Whole.{is_block, used_by, flag_in, is_last, is_full, is_end}
use Rattle.grammar.proofs.Tests.{both}
use Rattle.read_scan.proofs.Same.{Spanned}
use Rattle.read_outline.specs.Inner.{used_at, flag_at, block_at, full_at, last_at, initiator_at, end_here, right_at}
use Rattle.read_outline.proofs.Laws.{size_two}

-- events from a place up to stop, and others behind them
pub record Stands (file spans : List ℕ) (stop : ℕ) (tail : List ℕ) (at : ℕ) (es : List Ev) : Type 0 where
  pub long : stop ≡ at + length (events_bytes es)
  pub here : drop at file ≡ events_bytes es ++ tail
  pub spanned : Each (Spanned spans) es

and_false : (a : Bool) → (a && false) ≡ false
and_false true = refl
and_false false = refl

module _ (file spans : List ℕ) (stop : ℕ) (tail : List ℕ) (at : ℕ) (e : Ev) (es : List Ev) (s : Stands file spans stop tail at (e ∷ es)) where
  this : drop at file ≡ event_bytes e ++ (events_bytes es ++ tail)
  unfolding events_bytes
  this = s.here ∙ append_assoc (event_bytes e) (events_bytes es) tail

  pub size_of : stop ≡ at + suc (length e.payload) + length (events_bytes es)
  unfolding events_bytes
  size_of = omega (arith, s.long, length-append (event_bytes e) (events_bytes es))

  span_is : get_or spans e.code 0 ≡ suc (length e.payload)
  unfolding Each
  span_is = s.spanned.0

  pub next_stands : Stands file spans stop tail (at + suc (length e.payload)) es
  unfolding Each
  next_stands = record {
    long = size_of;
    here = sym (drop-drop (suc (length e.payload)) at file) ∙ ap (drop (suc (length e.payload))) this ∙ drop_at (event_bytes e) (events_bytes es ++ tail) (suc (length e.payload)) refl;
    spanned = s.spanned.1;
  }

  pub code_at : get_or file at 0 ≡ e.code
  code_at = ap (λ (n : ℕ). get_or file n 0) (sym (add-zero at)) ∙ sym (get_or-drop at file 0 0) ∙ ap (λ (l : List ℕ). get_or l 0 0) this

  byte_at : (k : ℕ) → k < length e.payload → get_or file (at + suc k) 0 ≡ get_or e.payload k 0
  byte_at k l = sym (get_or-drop at file (suc k) 0) ∙ ap (λ (l : List ℕ). get_or l (suc k) 0) this ∙ get_or-append e.payload (events_bytes es ++ tail) 0 k l

  pub payload_at_lem : drop (at + 1) file ≡ e.payload ++ (events_bytes es ++ tail)
  payload_at_lem = sym (drop-drop 1 at file) ∙ ap (drop 1) this

  pub part_at : (k n : ℕ) → k + n ≤ length e.payload → part file (at + suc k) n ≡ part e.payload k n
  unfolding part
  part_at k n l =
      ap (take n) (sym (drop-drop (suc k) at file) ∙ ap (drop (suc k)) this ∙ drop-append-le k e.payload (events_bytes es ++ tail) (omega arith))
      ∙ take-append-le n (drop k e.payload) (events_bytes es ++ tail) (omega (arith, length-drop k e.payload))

  -- ---- its tests, as a block

  block_at_lem : block_at file spans stop at ≡ is_block e
  unfolding block_at is_block
  block_at_lem =
      elim (ℕ_discrete e.code 0x10) [
        | yes c ↦
            let span : get_or spans 0x10 0 ≡ suc (length e.payload) = ap (λ (c : ℕ). get_or spans c 0) (sym c) ∙ span_is in
            elim (ℕ_discrete (length e.payload) 516) [
              | yes n ↦
                  rw (
                    le-leb (at + 517) stop (omega (arith, size_of)),
                    eq-eqb (get_or file at 0) 0x10 (code_at ∙ c),
                    eq-eqb e.code 0x10 c,
                    eq-eqb (get_or spans 0x10 0) 517 (omega (arith, span, n)),
                    eq-eqb (length e.payload) 516 n,
                    byte_at 514 (omega (arith, n)),
                  )
              | no n ↦
                  rw (
                    eq-eqb (get_or file at 0) 0x10 (code_at ∙ c),
                    eq-eqb e.code 0x10 c,
                    ne_eqb (get_or spans 0x10 0) 517 (λ q. n (omega (arith, span, q))),
                    ne_eqb (length e.payload) 516 n,
                  )
                  (and_false (leb (at + 517) stop))
            ]
        | no c ↦ rw (ne_eqb (get_or file at 0) 0x10 (λ q. c (sym code_at ∙ q)), ne_eqb e.code 0x10 c) (and_false (leb (at + 517) stop))
      ]

  pub block_size : is_block e ≡ true → length e.payload ≡ 516
  unfolding is_block
  block_size q =
      let m = (both (eqb e.code (code_of MessageSplitter)) (eqb (length e.payload) 516 && eqb (get_or e.payload 514 0) (code_of GeckoCodes)) q).1 in
      eqb-true (length e.payload) 516 (both (eqb (length e.payload) 516) (eqb (get_or e.payload 514 0) (code_of GeckoCodes)) m).0

  pub used_at_lem : is_block e ≡ true → used_at file at ≡ used_by e
  used_at_lem q = ap number (part_at 512 2 (omega (arith, block_size q)))

  flag_at_lem : is_block e ≡ true → flag_at file at ≡ flag_in e
  flag_at_lem q = byte_at 515 (omega (arith, block_size q))

  pub full_at_lem : (b : Bool) → is_block e ≡ b → full_at file spans stop at ≡ (b && is_full e)
  unfolding full_at is_full
  full_at_lem true q = rw (block_at_lem ∙ q, flag_at_lem q, used_at_lem q)
  full_at_lem false q = rw (block_at_lem ∙ q)

  pub last_at_lem : (v : Version) (b : Bool) → is_block e ≡ b → last_at v file spans stop at ≡ (b && (eqb (flag_in e) 1 && is_last v e))
  unfolding last_at is_last
  last_at_lem v true q = rw (block_at_lem ∙ q, flag_at_lem q, used_at_lem q)
  last_at_lem v false q = rw (block_at_lem ∙ q)

  -- ---- and as an end

  named_at : (v : Version) (b : Bool) → has_initiator v ≡ b → length e.payload ≡ end_size v → initiator_at v file at ≡ not (b && initiator_wrong (get_or e.payload 1 0))
  unfolding initiator_at
  named_at v true h n = rw (h, byte_at 1 (omega (arith, size_two v true (sym h) refl, n)))
  named_at v false h n = rw h

  pub end_stands : (v : Version) → end_here v file spans stop at ≡ is_end v e
  unfolding end_here is_end
  end_stands v =
      elim (ℕ_discrete e.code 0x39) [
        | yes c ↦
            let span : get_or spans 0x39 0 ≡ suc (length e.payload) = ap (λ (c : ℕ). get_or spans c 0) (sym c) ∙ span_is in
            elim (ℕ_discrete (length e.payload) (end_size v)) [
              | yes n ↦
                  rw (
                    le-leb (at + (1 + end_size v)) stop (omega (arith, size_of, n)),
                    eq-eqb (get_or file at 0) 0x39 (code_at ∙ c),
                    eq-eqb e.code 0x39 c,
                    eq-eqb (get_or spans 0x39 0) (1 + end_size v) (omega (arith, span, n)),
                    eq-eqb (length e.payload) (end_size v) n,
                  )
              | no n ↦
                  rw (
                    eq-eqb (get_or file at 0) 0x39 (code_at ∙ c),
                    eq-eqb e.code 0x39 c,
                    ne_eqb (get_or spans 0x39 0) (1 + end_size v) (λ q. n (omega (arith, span, q))),
                    ne_eqb (length e.payload) (end_size v) n,
                  )
                  (and_false (leb (at + (1 + end_size v)) stop))
            ]
        | no c ↦ rw (ne_eqb (get_or file at 0) 0x39 (λ q. c (sym code_at ∙ q)), ne_eqb e.code 0x39 c) (and_false (leb (at + (1 + end_size v)) stop))
      ]

  pub right_at_lem : (v : Version) → right_at v file spans stop at ≡ (is_end v e && not (has_initiator v && initiator_wrong (get_or e.payload 1 0)))
  unfolding right_at is_end
  right_at_lem v = go (is_end v e) refl
    where
      go : (b : Bool) → is_end v e ≡ b → (end_here v file spans stop at && initiator_at v file at) ≡ (b && not (has_initiator v && initiator_wrong (get_or e.payload 1 0)))
      go true q =
          let (c, n) = both (eqb e.code 0x39) (eqb (length e.payload) (end_size v)) q in
          rw (end_stands v ∙ q) (named_at v (has_initiator v) refl (eqb-true (length e.payload) (end_size v) n))
      go false q = rw (end_stands v ∙ q)
