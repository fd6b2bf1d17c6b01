-- The room never falls as a count rises; and what counts nothing: rows and codes that the version lacks, rows without frames, and the
-- code bytes over whole blocks of 512.
-- Assumes nothing.
use mathlib.Core.Path.{◌≡◌, refl, sym, ap, ◌∙◌}
use mathlib.Core.Bool.{Bool, true, false, cond}
use mathlib.Core.List.{List, [], ◌∷◌, map}
use Prim.Native.Nat.{ℕ, ◌+◌, ◌*◌, ◌/◌, ◌≤◌}
use native.Mathlib.Nat.{mul-le-mul}
use native.Mathlib.Omega.{arith}
use borrow.Author.Tests.{eqb-true, eqb-false}
use lib.Dec.{eqb, lit≤}
use lib.ListN.{length}
use Rattle.format.specs.File.{table_bytes}
use Rattle.format.specs.declared.event.Event.{Event}
use Rattle.format.specs.declared.event.Event.TheVariants as event
use Rattle.format.specs.declared.version.Version.{Version}
use Rattle.format.proofs.Files.{length_table}
use Rattle.format.proofs.Versions.{no_way}
use Rattle.format.specs.Version.{gte_of}
use Rattle.layout.specs.Columns.{chosen, sum, has_family}
use Rattle.layout.specs.declared.columns.Family.{Family}
use Rattle.layout.specs.declared.columns.Family.TheVariants.{Item, FodPlatform, DreamlandWhispy, StadiumTransformation}
use Rattle.layout.specs.Payloads.{order, listed, payload_size, entry_of, entries_of}
use Rattle.room.specs.Room.{with_frames, how_many, event_room, room_of, reserved, AtMost}
use Rattle.room.specs.declared.Plan.{Plan}
use Rattle.room.proofs.Laws.{taken}

-- ---- general: what is chosen by a test that holds wherever another does, and sums

pub chosen_more : {A B C : Type 0} (p q : A → Bool) (f : A → B) (g : A → C) → ((x : A) → p x ≡ true → q x ≡ true) → (xs : List A)
    → length (chosen p f xs) ≤ length (chosen q g xs)
unfolding chosen
chosen_more p q f g h [] = lit≤ tt
chosen_more p q f g h (x ∷ xs) = go (p x) (q x) refl refl (chosen_more p q f g h xs)
  where
    go : (a b : Bool) → p x ≡ a → q x ≡ b → length (chosen p f xs) ≤ length (chosen q g xs) → length (chosen p f (x ∷ xs)) ≤ length (chosen q g (x ∷ xs))
    go true true e d ih = rw (e, d) (omega arith)
    go false true e d ih = rw (e, d) (omega arith)
    go false false e d ih = rw (e, d) ih
    go true false e d ih = no_way (sym d ∙ h x e)

pub sum_more : {A : Type 0} (f g : A → ℕ) → ((x : A) → f x ≤ g x) → (xs : List A) → sum (map f xs) ≤ sum (map g xs)
unfolding sum
sum_more f g h [] = lit≤ tt
sum_more f g h (x ∷ xs) = let a = h x in let b = sum_more f g h xs in omega arith

-- ---- the parts of the room

-- the table's length does not look at sizes: only at what is listed
pub table_more : (v : Version) (x y : Bool) (b c i j : ℕ) → ((e : Event) → listed v x e ≡ true → listed v y e ≡ true)
    → length (table_bytes (entries_of v b x i)) ≤ length (table_bytes (entries_of v c y j))
unfolding entries_of
table_more v x y b c i j h =
    let n = chosen_more (listed v x) (listed v y) (entry_of v b i) (entry_of v c j) h order in
    omega (arith, length_table (chosen (listed v x) (entry_of v b i) order), length_table (chosen (listed v y) (entry_of v c j) order))

rows_more : (p q : Plan) (r s : ℕ) → p.counts.frames ≤ q.counts.frames → r ≤ s → with_frames p r ≤ with_frames q s
rows_more p q r s f h = go (eqb p.counts.frames 0) (eqb q.counts.frames 0) refl refl
  where
    go : (a b : Bool) → eqb p.counts.frames 0 ≡ a → eqb q.counts.frames 0 ≡ b → cond a 0 r ≤ cond b 0 s
    go true b e d = omega arith
    go false false e d = h
    go false true e d = absurd (eqb-false p.counts.frames 0 e (omega (arith, eqb-true q.counts.frames 0 d)))

many_more : {p q : Plan} → AtMost p q → (e : Event) → how_many p e ≤ how_many q e
unfolding how_many
many_more h event.Payloads = lit≤ tt
many_more h event.GameStart = lit≤ tt
many_more h event.FramePre = mul-le-mul h.slots h.frames
many_more h event.FramePost = mul-le-mul h.slots h.frames
many_more h event.GameEnd = lit≤ tt
many_more h event.FrameStart = h.frames
many_more {p} {q} h event.Item = rows_more p q _ _ h.frames h.items
many_more h event.FrameEnd = h.frames
many_more h event.GeckoCodes = lit≤ tt
many_more h event.MessageSplitter = let k = h.codes in omega arith
many_more {p} {q} h event.FodPlatform = rows_more p q _ _ h.frames h.fods
many_more {p} {q} h event.DreamlandWhispy = rows_more p q _ _ h.frames h.whispys
many_more {p} {q} h event.StadiumTransformation = rows_more p q _ _ h.frames h.stadiums

size_more : (v : Version) (b c : ℕ) → b ≤ c → (e : Event) → payload_size v b 0 e ≤ payload_size v c 0 e
unfolding payload_size
size_more v b c h event.Payloads = lit≤ tt
size_more v b c h event.GameStart = h
size_more v b c h event.FramePre = omega arith
size_more v b c h event.FramePost = omega arith
size_more v b c h event.GameEnd = omega arith
size_more v b c h event.FrameStart = omega arith
size_more v b c h event.Item = omega arith
size_more v b c h event.FrameEnd = omega arith
size_more v b c h event.GeckoCodes = omega arith
size_more v b c h event.MessageSplitter = omega arith
size_more v b c h event.FodPlatform = omega arith
size_more v b c h event.DreamlandWhispy = omega arith
size_more v b c h event.StadiumTransformation = omega arith

event_more : {p q : Plan} → AtMost p q → (e : Event) → event_room p e ≤ event_room q e
unfolding event_room
event_more {p} {q} h e =
    let same = ap (λ (v : Version). cond (listed v true e) (how_many p e * (1 + payload_size v p.block 0 e)) 0) h.version in
    let more = go (listed q.version true e) in
    omega (arith, same, more)
  where
    go : (b : Bool) → cond b (how_many p e * (1 + payload_size q.version p.block 0 e)) 0 ≤ cond b (how_many q e * (1 + payload_size q.version q.block 0 e)) 0
    go true = let k = size_more q.version p.block q.block h.block e in mul-le-mul (many_more h e) (omega arith)
    go false = lit≤ tt

-- ---- the answer never falls as a count rises
pub rising : {p q : Plan} → AtMost p q → room_of p ≤ room_of q
unfolding room_of
rising {p} {q} h =
    let same = ap (λ (v : Version). length (table_bytes (entries_of v p.block true 0))) h.version in
    let table = table_more q.version true true p.block q.block 0 0 (λ e t. t) in
    let events = sum_more (event_room p) (event_room q) (event_more h) order in
    let body = h.metadata in
    omega (arith, same, table, events, body)

-- of the call, where neither plan is refused
pub answer_rises : {p q : Plan} → AtMost p q → (reserved p).refused ≡ 0 → (reserved q).refused ≡ 0 → (reserved p).bytes ≤ (reserved q).bytes
answer_rises {p} {q} h a b = let r = rising h in omega (arith, taken p a, taken q b)

-- ---- what counts nothing

-- a plan without the rows and codes that its version lacks, without rows where it has no frames, and with whole blocks of codes
module _ (p : Plan) where
  abbrev kept : Family → ℕ → ℕ
  kept family rows = cond (has_family p.version family) (with_frames p rows) 0

  abbrev pub trimmed : Plan
  trimmed = record {
    version = p.version;
    block = p.block;
    slots = p.slots;
    counts = record {
      frames = p.counts.frames;
      items = kept Item p.counts.items;
      fods = kept FodPlatform p.counts.fods;
      whispys = kept DreamlandWhispy p.counts.whispys;
      stadiums = kept StadiumTransformation p.counts.stadiums;
    };
    codes = cond (gte_of p.version 3 3) (512 * (p.codes / 512)) 0;
    metadata = p.metadata;
  }

  rows_alike : (b : Bool) (rows s : ℕ) → cond b (with_frames p rows * s) 0 ≡ cond b (with_frames p (cond b (with_frames p rows) 0) * s) 0
  rows_alike false rows s = refl
  rows_alike true rows s = go (eqb p.counts.frames 0)
    where
      go : (z : Bool) → cond z 0 rows * s ≡ cond z 0 (cond z 0 rows) * s
      go true = refl
      go false = refl

  codes_alike : (b : Bool) (n s : ℕ) → cond b (n / 512 * s) 0 ≡ cond b (cond b (512 * (n / 512)) 0 / 512 * s) 0
  codes_alike false n s = refl
  codes_alike true n s = let same : n / 512 ≡ 512 * (n / 512) / 512 = omega arith in ap (λ (k : ℕ). k * s) same

  event_alike : (e : Event) → event_room p e ≡ event_room trimmed e
  unfolding event_room how_many listed payload_size
  event_alike event.Payloads = refl
  event_alike event.GameStart = refl
  event_alike event.FramePre = refl
  event_alike event.FramePost = refl
  event_alike event.GameEnd = refl
  event_alike event.FrameStart = refl
  event_alike event.Item = rows_alike (has_family p.version Item) p.counts.items _
  event_alike event.FrameEnd = refl
  event_alike event.GeckoCodes = refl
  event_alike event.MessageSplitter = codes_alike (gte_of p.version 3 3) p.codes 517
  event_alike event.FodPlatform = rows_alike (has_family p.version FodPlatform) p.counts.fods _
  event_alike event.DreamlandWhispy = rows_alike (has_family p.version DreamlandWhispy) p.counts.whispys _
  event_alike event.StadiumTransformation = rows_alike (has_family p.version StadiumTransformation) p.counts.stadiums _

  pub counts_nothing : room_of p ≡ room_of trimmed
  unfolding room_of
  counts_nothing =
      let less = sum_more (event_room p) (event_room trimmed) (λ e. let k = event_alike e in omega arith) order in
      let more = sum_more (event_room trimmed) (event_room p) (λ e. let k = event_alike e in omega arith) order in
      omega (arith, less, more)
