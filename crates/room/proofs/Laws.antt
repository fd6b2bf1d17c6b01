-- The laws of judging a plan, and of adding up its room.
-- Assumes nothing.
use mathlib.Core.Path.{◌≡◌, refl, sym, ap, ap₂, ◌∙◌}
use mathlib.Core.Bool.{Bool, true, false, cond}
use mathlib.Core.List.{List, map}
use Prim.Native.Nat.{ℕ, zero, suc, ◌+◌, ◌*◌, ◌≤◌}
use native.Mathlib.Nat.{mul-le-mul, zero-mul}
use native.Mathlib.Omega.{arith}
use borrow.Author.Tests.{eq-eqb, ne_eqb, ltb-false}
use lib.ListN.{length}
use Rattle.format.specs.File.{Entry, table_bytes}
use Rattle.format.specs.Refusal.{lowest}
use Rattle.format.specs.Refused.{number_of, number_in}
use Rattle.format.specs.declared.refusal.Refusal.{Refusal}
use Rattle.format.specs.declared.refusal.Refusal.TheVariants as refusal
use Rattle.std.specs.Prelude.{Result, Ok, Err}
use Rattle.format.specs.declared.event.Event.{Event}
use Rattle.format.specs.declared.event.Event.TheVariants as event
use Rattle.format.proofs.Files.{length_table}
use Rattle.format.proofs.Refusals.{passed}
use Rattle.layout.specs.Columns.{sum}
use Rattle.layout.specs.Payloads.{order, listed, payload_size, entries_of}
use Rattle.game.specs.declared.frames.Frames.{Frames}
use Rattle.frames.specs.Judge.{too_many}
use Rattle.frames.proofs.Accepted as frames
use Rattle.start.proofs.Refusals.{block_fits}
use Rattle.room.specs.Room.{with_frames, how_many, event_room, room_of, counted, room_refusals, room_answer, reserved}
use Rattle.room.specs.Inner.{Bounded, frames_room}
use Rattle.room.specs.declared.Plan.{Plan}

-- ---- judging

-- a test of the input, made of the plan
pub many_as : (p : Plan) (f : Frames) {b : Bool} (codes metadata : ℕ) → f ≡ counted p → b ≡ too_many f codes metadata → b ≡ too_many (counted p) codes metadata
many_as p f codes metadata e h = h ∙ ap (λ (x : Frames). too_many x codes metadata) e

-- no refusal has the number 0
pub numbered : (r : Refusal) → number_of r ≡ 0 → ⊥
numbered refusal.VersionTooNew e = omega arith
numbered refusal.TooMany e = omega arith
numbered refusal.BadStore e = omega arith
numbered refusal.WideCell e = omega arith
numbered refusal.BadOffsets e = omega arith
numbered refusal.BadPresence e = omega arith
numbered refusal.BadPorts e = omega arith
numbered refusal.BadBlock e = omega arith
numbered refusal.BadStart e = omega arith
numbered refusal.BadCodes e = omega arith
numbered refusal.BadEnd e = omega arith
numbered refusal.ShortOutput e = omega arith
numbered refusal.OutOfRange e = omega arith
numbered refusal.NotAReplay e = omega arith
numbered refusal.BadTable e = omega arith
numbered refusal.UnknownEvent e = omega arith
numbered refusal.BadPlace e = omega arith
numbered refusal.LongInput e = omega arith
numbered refusal.BadEvents e = omega arith
numbered refusal.TooDeep e = omega arith
numbered refusal.LongText e = omega arith
numbered refusal.RepeatedKey e = omega arith
numbered refusal.BadBody e = omega arith
numbered refusal.NoIndex e = omega arith
numbered refusal.BadIndex e = omega arith
numbered refusal.OtherReplay e = omega arith
numbered refusal.NoSuchId e = omega arith

-- an answer that is no refusal has it
pub unrefused : {A : Type 0} (x : Result A Refusal) → ((r : Refusal) → x ≡ Err r → ⊥) → number_in x ≡ 0
unrefused (Ok a) h = refl
unrefused (Err r) h = absurd (h r refl)

-- what is known of a plan that is not refused
pub bounded : (p : Plan) → lowest (room_refusals p) ≡ 0 → Bounded p
unfolding room_refusals
bounded p e =
    let (new, e1) = passed _ _ _ e in
    let (many, e2) = passed _ _ _ e1 in
    let (slots, e3) = passed _ _ _ e2 in
    let (block, e4) = passed _ _ _ e3 in
    let (modest, coded, body) = frames.counted (counted p) p.codes p.metadata many in
    record {
      modest = modest;
      slots = ltb-false _ _ slots;
      block = (block_fits p.version p.block block).1;
      codes = coded;
      metadata = body;
    }

pub refused_as_lem : (p : Plan) (n : ℕ) → n ≡ lowest (room_refusals p) → (n ≡ 0 → ⊥) → record { refused = n; bytes = 0 } ≡ reserved p
refused_as_lem p zero e h = absurd (h refl)
refused_as_lem p (suc k) e h = ap (λ (i : ℕ). room_answer i (room_of p)) e

pub reserved_as : (p : Plan) (n b : ℕ) → n ≡ lowest (room_refusals p) → n ≡ 0 → b ≡ room_of p → record { refused = 0; bytes = b } ≡ reserved p
reserved_as p n b e z h =
    ap₂ room_answer (sym z ∙ e) h

-- what the call answers where it refuses nothing
pub taken : (p : Plan) → (reserved p).refused ≡ 0 → (reserved p).bytes ≡ room_of p
taken p = go (lowest (room_refusals p))
  where
    go : (k : ℕ) → (room_answer k (room_of p)).refused ≡ 0 → (room_answer k (room_of p)).bytes ≡ room_of p
    go zero e = refl
    go (suc k) e = absurd (omega arith)

-- ---- adding up

pub rows_none : (p : Plan) (rows : ℕ) → p.counts.frames ≡ 0 → 0 ≡ with_frames p rows
rows_none p rows e = rw (eq-eqb p.counts.frames 0 e)

pub rows_all : (p : Plan) (rows : ℕ) → (p.counts.frames ≡ 0 → ⊥) → rows ≡ with_frames p rows
rows_all p rows h = rw (ne_eqb p.counts.frames 0 h)

-- slots times frames are few
pub players_few : (p : Plan) → Bounded p → p.slots * p.counts.frames ≤ 8388608
players_few p b = mul-le-mul b.slots b.modest.frames

-- a product of small numbers is small
pub product_small : (n s : ℕ) → n ≤ 8388608 → s ≤ 65536 → n * s ≤ 549755813888
product_small n s h k = mul-le-mul h k

module _ (p : Plan) (e : Event) where
  pub event_is : {n s : ℕ} {b : Bool} → b ≡ listed p.version true e → b ≡ true → n ≡ how_many p e → s ≡ payload_size p.version p.block 0 e
      → n * (1 + s) ≡ event_room p e
  unfolding event_room
  event_is q t h k = rw (sym q ∙ t, h, k)

  pub no_event : {b : Bool} → b ≡ listed p.version true e → b ≡ false → 0 ≡ event_room p e
  unfolding event_room
  no_event q f = rw (sym q ∙ f)

-- GeckoCodes is listed, but never written
pub no_codes : (p : Plan) → event_room p event.GeckoCodes ≡ 0
unfolding event_room how_many
no_codes p = go (listed p.version true event.GeckoCodes)
  where
    go : (b : Bool) → cond b (0 * (1 + payload_size p.version p.block 0 event.GeckoCodes)) 0 ≡ 0
    go true = zero-mul _
    go false = refl

pub events_are : (p : Plan) {a c f e : ℕ} → a ≡ event_room p event.GameStart → c ≡ event_room p event.MessageSplitter → f ≡ frames_room p → e ≡ event_room p event.GameEnd
    → a + (c + (f + e)) ≡ sum (map (event_room p) order)
unfolding sum
events_are p ea ec ef ee = omega (arith, ea, ec, ef, ee, no_codes p)

pub table_is_lem : (t : List Entry) (n : ℕ) → n ≡ length t → n ≤ 12 → (2 + 3 * n ≡ length (table_bytes t)) × (2 + 3 * n ≤ 38)
table_is_lem t n e h = (omega (arith, length_table t, e), omega arith)

pub room_is : (p : Plan) {t e : ℕ} → t ≡ length (table_bytes (entries_of p.version p.block true 0)) → e ≡ sum (map (event_room p) order)
    → 15 + (t + (e + (13 + p.metadata))) ≡ room_of p
unfolding room_of
room_is p et ee = ap₂ (λ (x y : ℕ). 15 + (x + (y + (13 + p.metadata)))) et ee
