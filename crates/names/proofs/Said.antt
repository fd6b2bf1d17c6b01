-- From a list's lines to the words of refusals and faults.
-- Assumes nothing.
use mathlib.Core.Path.{◌≡◌, refl, sym, ap, ◌∙◌}
use mathlib.Core.List.{List, [], ◌∷◌, map}
use Prim.Native.Nat.{ℕ, ◌+◌, ◌≤◌, ◌<◌}
use Prim.Native.String.{String}
use native.Mathlib.Decide.{dec_lt}
use native.Mathlib.Omega.{arith}
use borrow.Author.Tests.{lt-ltb, le-ltb}
use lib.Dec.{T, lit≤}
use lib.ListN.{length, get_or, replicate, length-map, get_or-map, get_or-eq_default}
use Rattle.wire.specs.Wire.{Wrote}
use Rattle.names.specs.Bytes.{bytes, filled}
use Rattle.names.specs.Inner.{line, unknown, said}
use Rattle.names.specs.Names.{refusal_words, words_of, fault_words, fault_words_of}
use Rattle.names.specs.declared.refusals.Words.{Words}
use Rattle.names.proofs.Texts.{over_zeros}
use Rattle.names.proofs.Called.{joined, fit, line_joined, joined_long, get_d_any}

unfoldable pub others : List (List ℕ)
others = unknown ∷ []

others_fit : T (fit 1 127 others)
unfolding others unknown bytes
others_fit = tt

pub others_line : line 0 (joined others) ≡ unknown
unfolding others
others_line = line_joined 1 127 others 0 others_fit

-- as long as the longest words of faults at most, which are shorter than those of refusals
pub unknown_short : length unknown ≤ 122
unfolding unknown bytes
unknown_short = lit≤ tt

-- what is said, and where it is put
module _ (list : List ℕ) {last n : ℕ} where
  pub said_unknown : last < n → unknown ≡ said list last n
  unfolding said
  said_unknown h = rw (lt-ltb last n h)

  pub said_known : {k : ℕ} → k ≡ n → n ≤ last → line k list ≡ said list last n
  unfolding said
  said_known e h = rw (e, le-ltb last n h)

pub said_filled : {text xs : List ℕ} {next : ℕ} → length xs ≤ 128 → Wrote (replicate 128 0) text 0 next xs → ◌≡◌ {A = Words} (record { text = text }) (record { text = filled 128 xs })
said_filled {xs = xs} h w = ap (λ (t : List ℕ). record { text = t }) (w.after_is ∙ over_zeros 128 xs h)

-- the lines of so many words, each of at most so many bytes and with its line end behind it
module _ (words : List String) (last most : ℕ) (many : length words ≡ last + 1) (right : T (fit 1 most (map bytes words))) where
  word_line : (n : ℕ) → n ≤ last → line n (joined (map bytes words)) ≡ bytes (get_or words n "for a reason that is not known here")
  unfolding bytes
  word_line n h =
      line_joined 1 most (map bytes words) n right
      ∙ get_or-map bytes words n ""
      ∙ ap bytes (get_d_any words n "" "for a reason that is not known here" (omega (arith, many)))

  pub said_words : (n : ℕ) → said (joined (map bytes words)) last n ≡ bytes (get_or words n "for a reason that is not known here")
  unfolding unknown
  said_words n = elim (dec_lt last n) [
    | yes h ↦
        let past : length words ≤ n = omega (arith, many, h) in
        sym (said_unknown (joined (map bytes words)) h) ∙ ap bytes (sym (get_or-eq_default words "for a reason that is not known here" past))
    | no h ↦ sym (said_known (joined (map bytes words)) refl (omega arith)) ∙ word_line n (omega arith)
  ]

  pub said_short : length unknown ≤ most → (n : ℕ) → length (said (joined (map bytes words)) last n) ≤ most
  said_short u n = elim (dec_lt last n) [
    | yes h ↦ rw (← said_unknown (joined (map bytes words)) h) u
    | no h ↦
        let e = ap length (line_joined 1 most (map bytes words) n right) in
        let s = joined_long 1 most (map bytes words) n right (rw length-map (omega (arith, many))) in
        let k = ap length (said_known (joined (map bytes words)) {last = last} {n = n} refl (omega arith)) in
        omega (arith, e, s.1, k)
  ]

-- ---- the words of every number, with a zero behind them in their field

refusals_many : length refusal_words ≡ 27 + 1
unfolding refusal_words
refusals_many = refl

refusals_fit : T (fit 1 127 (map bytes refusal_words))
unfolding refusal_words bytes
refusals_fit = tt

faults_many : length fault_words ≡ 22 + 1
unfolding fault_words
faults_many = refl

faults_fit : T (fit 1 122 (map bytes fault_words))
unfolding fault_words bytes
faults_fit = tt

pub words_short : (n : ℕ) → length (bytes (words_of n)) ≤ 127
words_short n =
    let e = ap length (said_words refusal_words 27 127 refusals_many refusals_fit n) in
    let s = said_short refusal_words 27 127 refusals_many refusals_fit (omega (arith, unknown_short)) n in
    omega (arith, e, s)

pub fault_words_short : (n : ℕ) → length (bytes (fault_words_of n)) ≤ 122
fault_words_short n =
    let e = ap length (said_words fault_words 22 122 faults_many faults_fit n) in
    let s = said_short fault_words 22 122 faults_many faults_fit unknown_short n in
    omega (arith, e, s)
