-- What functions promise each other of a newer recorder's blocks of codes: by bytes, and by the events that are known.
-- Assumes nothing.
use Rattle.std.specs.Prelude.{ℕ, ◌+◌, ◌*◌, ◌≡◌, Bool, cond, ◌&&◌, List, ◌++◌, ltb, leb, eqb, length, get_or}
use Rattle.std.proofs.Math.Option.{none, some}
use Rattle.format.specs.Event.{code_of}
use Rattle.format.specs.File.{Ev, events_bytes}
use Rattle.format.specs.declared.event.Event.TheVariants.{GeckoCodes, MessageSplitter}
use Rattle.format.specs.declared.version.Version.{Version}
use Rattle.grammar.specs.Productions.{Block, codes_events, used_in}
use Rattle.grammar.specs.WellFormed.{Each, GoodCodes}
use Rattle.grammar.specs.Whole.{codes_rest}
use Rattle.read_outline.specs.Inner.{used_at, flag_at}
use Rattle.read_outline.specs.declared.answer.Codes.{Codes}
use Rattle.read_outline.specs.declared.answer.Codes.TheVariants as codes
use Rattle.read_judge.specs.Inner.{Covers}
use Rattle.known.specs.Known.{known_of}

-- ---- by bytes

abbrev pub block_span : List ℕ → ℕ
block_span spans = get_or spans (code_of MessageSplitter) 0

module _ (file spans : List ℕ) (stop at : ℕ) where
  -- a block of 516 bytes at least
  unfoldable pub block_at : Bool
  block_at = ltb at stop && (eqb (get_or file at 0) (code_of MessageSplitter) && (leb 517 (block_span spans) && eqb (get_or file (at + 515) 0) (code_of GeckoCodes)))

  -- it is full, and not the last
  unfoldable pub full_at : Bool
  full_at = block_at && (eqb (flag_at file at) 0 && eqb (used_at file at) 512)

  -- it is the last
  unfoldable pub last_at : Bool
  last_at = block_at && (eqb (flag_at file at) 1 && (ltb 0 (used_at file at) && leb (used_at file at) 512))

  -- the last block, after n full ones
  unfoldable pub last_block : ℕ → Codes
  last_block n = cond last_at (codes.Ended (at + block_span spans) (n + 1) (512 * n + used_at file at)) codes.Wrong

-- ---- by events

-- blocks of codes are what is known of the events up to a place
pub record CodesEnded (v : Version) (first : ℕ) (raw : List Ev) (at count actual : ℕ) : Type 0 where
  pub before : List Ev
  pub after : List Ev
  pub blocks : List Block
  pub parted : raw ≡ before ++ after
  pub at_is : at ≡ first + length (events_bytes before)
  pub known_are : known_of v before ≡ codes_events blocks
  pub good : GoodCodes v blocks
  pub rest_is : codes_rest v (known_of v raw) ≡ some (known_of v after)
  pub count_is : count ≡ length blocks
  pub actual_is : actual ≡ used_in blocks

abbrev pub CodesRead : Version → ℕ → List Ev → Codes → Type 0
CodesRead v first raw codes.Wrong = codes_rest v (known_of v raw) ≡ none
CodesRead v first raw (codes.Ended at count actual) = CodesEnded v first raw at count actual

-- of events from a place on, these blocks of 512 bytes are what is known first
pub record BlocksLie (file spans : List ℕ) (first stop : ℕ) (blocks : List Block) : Type 0 where
  pub version : Version
  pub raw : List Ev
  pub more : List Ev
  pub covers : Covers file spans first stop raw
  pub known_are : known_of version raw ≡ codes_events blocks ++ more
  pub sized : Each (λ b. length b.bytes ≡ 512) blocks

pub record SomeBlocks (file spans : List ℕ) (first stop count : ℕ) : Type 0 where
  pub blocks : List Block
  pub lie : BlocksLie file spans first stop blocks
  pub count_is : count ≡ length blocks
