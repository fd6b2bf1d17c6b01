-- What the reader's functions promise each other: the table by value, its index by code, the head of a file, and that a step goes on.
-- Assumes nothing.
use Rattle.std.specs.Prelude.{ℕ, ◌+◌, ◌≤◌, ◌<◌, ◌≡◌, Bool, List, length, get_or, replicate}
use Rattle.wire.specs.Wire.{tabulate}
use Rattle.format.specs.File.{Entry}
use Rattle.head.specs.Table.{stop_of, all_present, table_of, first_place, span_of, head_refusal, head_offset}
use Rattle.head.specs.declared.table.Table.{Table}
use Rattle.head.specs.declared.table.Head.{Head}
use Rattle.head.specs.declared.Step.{Step}
use Rattle.head.specs.declared.Step.TheVariants.{Event, Ends, Cut, Refused}

-- the entries that a table by value holds
unfoldable pub list_of : Table → List Entry
list_of t = tabulate t.len (λ i. record { code = get_or t.codes i 0; size = get_or t.sizes i 0 })

-- a table by value: 84 places, of which it fills no more
pub record Sound (t : Table) : Type 0 where
  pub few : t.len ≤ 84
  pub codes_many : length t.codes ≡ 84
  pub sizes_many : length t.sizes ≡ 84

-- room for an index, with nothing in it
pub record Blank (spans : List ℕ) : Type 0 where
  pub empty : spans ≡ replicate 256 0

-- at each code, the bytes that its events take
pub record Indexed (spans : List ℕ) (t : List Entry) : Type 0 where
  pub many : length spans ≡ 256
  pub spans_are : (c : ℕ) → c < 256 → get_or spans c 0 ≡ span_of c t

-- what the index says at each of the first n codes stands beside it, less the code's byte
abbrev pub Agree : List ℕ → List ℕ → ℕ → List ℕ → Type 0
Agree codes sizes n spans = (i : ℕ) → i < n → get_or spans (get_or codes i 0) 0 ≡ 1 + get_or sizes i 0

-- the head of f is accepted; these are n entries and the index of its table, where its events start, and where its event data ends,
-- whole or not
pub record Opened (codes sizes : List ℕ) (n : ℕ) (spans : List ℕ) (first stop : ℕ) (whole : Bool) (f : List ℕ) : Type 0 where
  pub accepted : head_refusal f ≡ 0
  pub in_codes : n ≤ length codes
  pub in_sizes : n ≤ length sizes
  pub agree : Agree codes sizes n spans
  pub index : Indexed spans (table_of f)
  pub first_is : first ≡ first_place (table_of f)
  pub stop_is : stop ≡ stop_of f
  pub whole_is : whole ≡ all_present f
  pub starts : first ≤ stop
  pub within : stop ≤ length f

-- what the head of a file gives: its refusal, or what reading events needs
pub record HeadOf (h : Head) (spans f : List ℕ) : Type 0 where
  pub refusal_is : h.refusal ≡ head_refusal f
  pub offset_is : h.offset ≡ head_offset (head_refusal f)
  pub opened : head_refusal f ≡ 0 → (n : ℕ) → n ≤ h.table.len
      → Opened h.table.codes h.table.sizes n spans h.first h.stop h.whole f

-- an event ends after its place, and within the data
abbrev pub Advances : ℕ → ℕ → Step → Type 0
Advances place stop (Event code at payload len next) = (place < next) × (next ≤ stop)
Advances place stop Ends = Unit {0}
Advances place stop Cut = Unit {0}
Advances place stop (Refused number offset) = Unit {0}
