-- What functions promise each other: blocks of codes and ends over the bytes of a file, in the order in which code goes.
-- Assumes nothing.
use Rattle.std.specs.Prelude.{ℕ, zero, suc, ◌+◌, ◌*◌, ◌≤◌, ◌≡◌, Bool, true, not, cond, ◌&&◌, List, ltb, leb, eqb, length, get_or}
use Rattle.wire.specs.Wire.{number, part}
use Rattle.format.specs.Event.{code_of}
use Rattle.format.specs.Version.{has_initiator, has_codes}
use Rattle.format.specs.declared.event.Event.TheVariants.{GameEnd, GeckoCodes, MessageSplitter}
use Rattle.format.specs.declared.version.Version.{Version}
use Rattle.layout.specs.Payloads.{end_size}
use Rattle.ending.specs.End.{initiator_wrong}
use Rattle.read_outline.specs.declared.answer.Codes.{Codes}
use Rattle.read_outline.specs.declared.answer.Codes.TheVariants as codes
use Rattle.read_outline.specs.declared.answer.Ends.{Ends}
use Rattle.read_outline.specs.declared.answer.Ends.TheVariants as ends

-- a place in the event data of a file, and spans by code
pub record Within (file spans : List ℕ) (stop at : ℕ) : Type 0 where
  pub under : at ≤ stop
  pub long : stop ≤ length file
  pub all_codes : length spans ≡ 256

-- ---- blocks of codes: a code, 512 bytes, how many of them are codes, what they are a part of, and a flag

abbrev pub used_at : List ℕ → ℕ → ℕ
used_at file at = number (part file (at + 513) 2)

abbrev pub flag_at : List ℕ → ℕ → ℕ
flag_at file at = get_or file (at + 516) 0

module _ (file spans : List ℕ) (stop at : ℕ) where
  -- a block stands whole before stop
  unfoldable pub block_at : Bool
  block_at =
      leb (at + 517) stop
      && (eqb (get_or file at 0) (code_of MessageSplitter) && (eqb (get_or spans (code_of MessageSplitter) 0) 517 && eqb (get_or file (at + 515) 0) (code_of GeckoCodes)))

  -- it is full, and not the last
  unfoldable pub full_at : Bool
  full_at = block_at && (eqb (flag_at file at) 0 && eqb (used_at file at) 512)

module _ (v : Version) (file spans : List ℕ) (stop : ℕ) where
  -- it is the last
  unfoldable pub last_at : ℕ → Bool
  last_at at = block_at file spans stop at && (eqb (flag_at file at) 1 && (has_codes v && (ltb 0 (used_at file at) && leb (used_at file at) 512)))

  -- the last block, after n full ones
  unfoldable pub last_block : ℕ → ℕ → Codes
  last_block at n = cond (last_at at) (codes.Ended (at + 517) (n + 1) (512 * n + used_at file at)) codes.Wrong

  -- the blocks after n full ones, at most k of them
  unfoldable pub blocks_from : ℕ → ℕ → ℕ → Codes
  blocks_from zero at n = codes.Wrong
  blocks_from (suc k) at n = cond (full_at file spans stop at) (blocks_from k (at + 517) (n + 1)) (last_block at n)

-- the blocks that there are
unfoldable pub codes_at : Version → List ℕ → List ℕ → ℕ → ℕ → Codes
codes_at v file spans first stop =
    cond (ltb first stop && eqb (get_or file first 0) (code_of MessageSplitter)) (blocks_from v file spans stop (suc stop) first 0) (codes.Ended first 0 0)

-- ---- ends

-- from 2.0 the initiator is -1 .. 3
unfoldable pub initiator_at : Version → List ℕ → ℕ → Bool
initiator_at v file at = not (has_initiator v && initiator_wrong (get_or file (at + 2) 0))

-- the n bytes at one place are those at another
unfoldable pub same_run : List ℕ → ℕ → ℕ → ℕ → Bool
same_run file a b zero = true
same_run file a b (suc n) = eqb (get_or file a 0) (get_or file b 0) && same_run file (a + 1) (b + 1) n

-- how many bytes an end has, its code included
abbrev pub end_span : Version → ℕ
end_span v = 1 + end_size v

module _ (v : Version) (file spans : List ℕ) (stop : ℕ) where
  -- an end of the version's size stands whole before stop
  unfoldable pub end_here : ℕ → Bool
  end_here at = leb (at + end_span v) stop && (eqb (get_or file at 0) (code_of GameEnd) && eqb (get_or spans (code_of GameEnd) 0) (end_span v))

  -- and names an initiator that it may name
  unfoldable pub right_at : ℕ → Bool
  right_at at = end_here at && initiator_at v file at

  -- a second end, like the first, fills the rest
  unfoldable pub second_at : ℕ → ℕ → Bool
  second_at first at = right_at at && (eqb (at + (1 + end_size v)) stop && same_run file (first + 1) (at + 1) (end_size v))

-- the ends that fill the rest
unfoldable pub ends_at : Version → List ℕ → List ℕ → ℕ → ℕ → Ends
ends_at v file spans first stop =
    let next = first + (1 + end_size v) in
    cond (eqb first stop) (ends.Good 0)
    (cond (right_at v file spans stop first)
    (cond (eqb next stop) (ends.Good 1) (cond (second_at v file spans stop first next) (ends.Good 2) ends.Wrong)) ends.Wrong)
