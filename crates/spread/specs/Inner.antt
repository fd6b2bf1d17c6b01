-- What writers of several records at once ask and promise: lists in place, each at a place of its own, and the records of rows that follow each
-- other.
-- Assumes nothing.
use Rattle.std.specs.Prelude.{ℕ, zero, suc, ◌+◌, ◌≤◌, ◌<◌, ◌≡◌, List, length, get_or}
use Rattle.wire.specs.Wire.{be, splice}
use Rattle.format.specs.File.{event_bytes}
use Rattle.record.specs.Record.{record_of}
use Rattle.record.specs.Inner.{head_bytes}
use Rattle.record.specs.declared.Head.{Head}

-- the place `off` behind the one that a table has at i + t
unfoldable pub place_at : List ℕ → ℕ → ℕ → ℕ → ℕ
place_at places i off t = get_or places (i + t) 0 + off

-- xs with f 0 stored over it from place p 0 on, then f 1 from p 1 on, .., n of them
unfoldable pub spread : List ℕ → (ℕ → ℕ) → (ℕ → List ℕ) → ℕ → List ℕ
spread xs p f zero = xs
spread xs p f (suc n) = splice (spread xs p f n) (p n) (f n)

-- what a writer of eight parts needs: each ends before those after it begin, and they go into `out`
pub record Rooms (out : List ℕ) (p : ℕ → ℕ) (f : ℕ → List ℕ) : Type 0 where
  pub apart : (t u : ℕ) → t < u → u < 8 → p t + length (f t) ≤ p u
  pub fits : (t : ℕ) → t < 8 → p t + length (f t) ≤ length out

-- what it promises: f 0, .., f 7 went over `before`, each at its place, and next has the places after them
pub record Sown (before after : List ℕ) (p next : ℕ → ℕ) (f : ℕ → List ℕ) : Type 0 where
  pub next_is : (t : ℕ) → t < 8 → next t ≡ p t + length (f t)
  pub after_is : after ≡ spread before p f 8

-- the same of n parts, where the places after them do not matter
pub record Strewn (before after : List ℕ) (p : ℕ → ℕ) (f : ℕ → List ℕ) (n : ℕ) : Type 0 where
  pub after_is : after ≡ spread before p f n

-- n bytes go into `out` at each of eight places
abbrev pub Reach : List ℕ → List ℕ → ℕ → ℕ → Type 0
Reach out places i n = (t : ℕ) → t < 8 → get_or places (i + t) 0 + n ≤ length out

-- the cell that stands t cells further on, as four bytes
abbrev pub cell_at : List ℕ → ℕ → ℕ → List ℕ
cell_at cells first t = be 4 (get_or cells (first + t) 0)

-- a head with another frame id
abbrev pub head_on : Head → ℕ → Head
head_on h id = record { code = h.code; id = id; player = h.player; port = h.port; follower = h.follower }

abbrev pub head_at : Head → List ℕ → ℕ → ℕ → List ℕ
head_at h ids i t = head_bytes (head_on h (get_or ids (i + t) 0))

-- the record that stands t rows further on
abbrev pub record_at : Head → List ℕ → ℕ → List ℕ → List ℕ → ℕ → ℕ → ℕ → List ℕ
record_at h ids i ws cells stride first t = event_bytes (record_of (head_on h (get_or ids (i + t) 0)) ws cells stride (first + t))
