-- Whether a list of events is that of a well-formed replay, by tests from the first event to the last. It is what code is held to;
-- proofs/Whole.antt says that it is so exactly where there is such a replay.
-- Assumes nothing.
use Rattle.std.specs.Prelude.{ℕ, Bool, true, false, cond, ◌&&◌, List, [], ◌∷◌, ltb, leb, eqb, length, get_or}
use Rattle.std.proofs.Math.Option.{Option, none, some}
use Rattle.wire.specs.Wire.{number, part}
use Rattle.format.specs.Event.{code_of}
use Rattle.format.specs.File.{Ev}
use Rattle.format.specs.Version.{has_codes}
use Rattle.format.specs.declared.event.Event.TheVariants.{GameStart, GameEnd, GeckoCodes, MessageSplitter}
use Rattle.format.specs.declared.version.Version.{Version}
use Rattle.layout.specs.Payloads.{end_size}
use Rattle.start.specs.Length.{length_of}
use Rattle.grammar.specs.WellFormed.{Order}
use Rattle.grammar.specs.Machine.{initial, rest}

-- a start block that says the version, of a length that it may have
unfoldable pub says_version : Version → List ℕ → Bool
says_version v p = eqb (get_or p 0 0) v.major && (eqb (get_or p 1 0) v.minor && eqb (get_or p 2 0) v.patch)

unfoldable pub is_start : Version → Ev → Bool
is_start v e = eqb e.code (code_of GameStart) && (says_version v e.payload && (leb (length_of v) (length e.payload) && ltb (length e.payload) 65536))

-- a block of codes: 512 bytes, how many of them are codes, what they are a part of, and a flag
unfoldable pub is_block : Ev → Bool
is_block e = eqb e.code (code_of MessageSplitter) && (eqb (length e.payload) 516 && eqb (get_or e.payload 514 0) (code_of GeckoCodes))

abbrev pub used_by : Ev → ℕ
used_by e = number (part e.payload 512 2)

abbrev pub flag_in : Ev → ℕ
flag_in e = get_or e.payload 515 0

unfoldable pub is_last : Version → Ev → Bool
is_last v e = has_codes v && (ltb 0 (used_by e) && leb (used_by e) 512)

unfoldable pub is_full : Ev → Bool
is_full e = eqb (flag_in e) 0 && eqb (used_by e) 512

-- the events after the blocks of codes, of which there is one at least; and after those that there are
unfoldable pub blocks_rest : Version → List Ev → Option (List Ev)
blocks_rest v [] = none
blocks_rest v (e ∷ es) =
    cond (is_block e) (cond (eqb (flag_in e) 1) (cond (is_last v e) (some es) none) (cond (is_full e) (blocks_rest v es) none)) none

unfoldable pub codes_rest : Version → List Ev → Option (List Ev)
codes_rest v [] = some []
codes_rest v (e ∷ es) = cond (eqb e.code (code_of MessageSplitter)) (blocks_rest v (e ∷ es)) (some (e ∷ es))

-- at most two ends of the version's size
unfoldable pub is_end : Version → Ev → Bool
is_end v e = eqb e.code (code_of GameEnd) && eqb (length e.payload) (end_size v)

unfoldable pub are_ends : Version → List Ev → Bool
are_ends v [] = true
are_ends v (e ∷ []) = is_end v e
are_ends v (e ∷ f ∷ []) = is_end v e && is_end v f
are_ends v (e ∷ f ∷ g ∷ es) = false

unfoldable pub on_some : {A : Type 0} → Option A → (A → Bool) → Bool
on_some none f = false
on_some (some x) f = f x

unfoldable pub is_replay : Version → Order → List Ev → Bool
is_replay v o [] = false
is_replay v o (e ∷ es) = is_start v e && on_some (codes_rest v es) (λ t. on_some (rest v o initial t) (are_ends v))
