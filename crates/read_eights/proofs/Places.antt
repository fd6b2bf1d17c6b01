-- The laws of players' events by their places: what two frames bring goes to other cells, or adds other bits, so that event after event leaves what frame
-- after frame does; and one player has one block, so that its rows follow each other there.
-- Assumes nothing.
use Prim.Native.Nat.{ℕ, zero, suc, ◌+◌, ◌-◌, ◌*◌, ◌/◌, ◌%◌, ◌^◌, ◌≤◌, ◌<◌}
use mathlib.Core.Path.{◌≡◌, refl, sym, ap, ap₂, ◌∙◌}
use mathlib.Core.Bool.{Bool, true, false, cond, ◌&&◌}
use mathlib.Core.List.{List, [], ◌∷◌}
use native.Mathlib.Nat.{mul_assoc, add_assoc, add-zero, add-mod_right, mod-add-mod}
use native.Mathlib.Numerals.{add-one}
use native.Mathlib.Omega.{arith}
use borrow.Author.Tests.{ltb-true, ltb-false, eqb-true, eqb-false, eq-eqb, ne_eqb}
use lib.Arith.{digits_mod}
use lib.Dec.{eqb, ltb}
use lib.ListN.{length, get_or, set, take, drop, length-set}
use lib.Seq.{set-set, set_comm, set_out, get_or-set_same, get_or-set_other}
use Rattle.wire.specs.Wire.{number}
use Rattle.format.specs.File.{index_of}
use Rattle.layout.specs.Columns.{sum}
use Rattle.record.specs.Record.{read_back}
use Rattle.record.specs.Inner.{InStore}
use Rattle.gather.specs.Inner.{rows_at, Reach}
use Rattle.grammar.specs.WellFormed.{Each}
use Rattle.grammar.proofs.Tests.{both}
use Rattle.read_event.specs.Inner.{Told, told_at, span_by, block_of, seated, player_put, bit_put, Roomy, Long}
use Rattle.read_event.specs.Parts.{WholeBy, Seats, seats, Seating, seating, SeatSpans, SeatRooms, seat_told}
use Rattle.read_event.specs.declared.spans.Spans.{Spans}
use Rattle.read_event.proofs.Leaves.{in_block, player_put_lem, player_none, player_off, bit_put_lem, bit_none, bit_off}
use Rattle.read_event.proofs.Parts.{long_pre, long_post}
use Rattle.read_eights.specs.Bits.{bit_at, bits_put}
use Rattle.read_places.specs.Inner.{is_players, seat, frame_at, frames_at}
use Rattle.read_eights.specs.Inner.{SameHeads, across_at, team_at}
use Rattle.read_places.proofs.Scans.{each_get}

-- ---- two rows of one store that never share a cell

set_read : (ws b xs : List ℕ) (stride i j x : ℕ) → (i % stride ≡ j % stride → ⊥) → read_back ws b (set xs j x) stride i ≡ set (read_back ws b xs stride i) j x
unfolding read_back
set_read [] b xs stride i j x h = refl
set_read (w ∷ ws) b xs stride i j x h =
    ap (λ (l : List ℕ). read_back ws (drop w b) l stride (i + stride)) (set_comm xs j i x (number (take w b)) (λ e. h (ap (λ (k : ℕ). k % stride) (sym e))))
    ∙ set_read ws (drop w b) (set xs i (number (take w b))) stride (i + stride) j x (λ e. h (sym (add-mod_right i stride) ∙ e))

read_read : (vs ws a b xs : List ℕ) (stride i j : ℕ) → (i % stride ≡ j % stride → ⊥)
    → read_back vs a (read_back ws b xs stride j) stride i ≡ read_back ws b (read_back vs a xs stride i) stride j
unfolding read_back
read_read vs [] a b xs stride i j h = refl
read_read vs (w ∷ ws) a b xs stride i j h =
    read_read vs ws a (drop w b) (set xs j (number (take w b))) stride i (j + stride) (λ e. h (e ∙ add-mod_right j stride))
    ∙ ap (λ (l : List ℕ). read_back ws (drop w b) l stride (j + stride)) (set_read vs a xs stride i j (number (take w b)) h)

-- ---- two bits in one store

abbrev added : List ℕ → ℕ → ℕ → List ℕ
added xs i a = set xs i ((get_or xs i 0 + a) % 256)

added_here : (xs : List ℕ) (i a b : ℕ) → i < length xs → added (added xs i a) i b ≡ set xs i ((get_or xs i 0 + a + b) % 256)
added_here xs i a b h =
    set-set xs i _ _ ∙ ap (λ (x : ℕ). set xs i ((x + b) % 256)) (get_or-set_same xs i ((get_or xs i 0 + a) % 256) 0 h) ∙ ap (set xs i) (mod-add-mod (get_or xs i 0 + a) 256 b)

added_out : (xs : List ℕ) (i a b : ℕ) → length xs ≤ i → added (added xs i a) i b ≡ xs
added_out xs i a b h = set-set xs i _ _ ∙ set_out xs i _ h

added_other : (xs : List ℕ) (i j a b : ℕ) → (i ≡ j → ⊥) → added (added xs i a) j b ≡ set (added xs i a) j ((get_or xs j 0 + b) % 256)
added_other xs i j a b h = ap (λ (x : ℕ). set (added xs i a) j ((x + b) % 256)) (get_or-set_other xs i j ((get_or xs i 0 + a) % 256) 0 (λ e. h (sym e)))

bit_bit : (xs : List ℕ) (i j a b : ℕ) → added (added xs j b) i a ≡ added (added xs i a) j b
bit_bit xs i j a b = go (eqb i j) refl
  where
    here : (t : Bool) → ltb i (length xs) ≡ t → added (added xs i b) i a ≡ added (added xs i a) i b
    here true e =
        let h = ltb-true i (length xs) e in
        let s : get_or xs i 0 + b + a ≡ get_or xs i 0 + a + b = omega arith in
        added_here xs i b a h ∙ ap (λ (x : ℕ). set xs i (x % 256)) s ∙ sym (added_here xs i a b h)
    here false e = let h = ltb-false i (length xs) e in added_out xs i b a h ∙ sym (added_out xs i a b h)

    go : (t : Bool) → eqb i j ≡ t → added (added xs j b) i a ≡ added (added xs i a) j b
    go true e =
        let q = eqb-true i j e in
        ap (λ (k : ℕ). added (added xs k b) i a) (sym q) ∙ here (ltb i (length xs)) refl ∙ ap (λ (k : ℕ). added (added xs i a) k b) q
    go false e =
        let n = eqb-false i j e in
        added_other xs j i b a (λ q. n (sym q)) ∙ sym (set_comm xs i j _ _ n) ∙ sym (added_other xs i j a b n)

-- ---- two players' events of two frames

cond_cond : (s t : Bool) (f g : List ℕ → List ℕ) (xs : List ℕ) → (s ≡ true → t ≡ true → f (g xs) ≡ g (f xs))
    → cond s (f (cond t (g xs) xs)) (cond t (g xs) xs) ≡ cond t (g (cond s (f xs) xs)) (cond s (f xs) xs)
cond_cond true true f g xs h = h refl refl
cond_cond true false f g xs h = refl
cond_cond false true f g xs h = refl
cond_cond false false f g xs h = refl

-- the row of a seated player's cells
row_of : (on : Bool) (ws numbers : List ℕ) (t : Told) (rows n : ℕ) → seated on numbers t rows n ≡ true
    → (0 < n) × ((block_of numbers t * (length ws * rows) + (n - 1)) % rows ≡ n - 1)
row_of on ws numbers t rows n e =
    let a = (both on (ltb 0 n && (ltb (n - 1) rows && ltb (block_of numbers t) (length numbers))) e).1 in
    let b = both (ltb 0 n) (ltb (n - 1) rows && ltb (block_of numbers t) (length numbers)) a in
    let c = (both (ltb (n - 1) rows) (ltb (block_of numbers t) (length numbers)) b.1).0 in (
      ltb-true 0 n b.0,
      ap (λ (x : ℕ). (x + (n - 1)) % rows) (sym (mul_assoc (block_of numbers t) (length ws) rows)) ∙ digits_mod (block_of numbers t * length ws) (ltb-true (n - 1) rows c),
    )

player_player : (on off : Bool) (ws numbers : List ℕ) (t u : Told) (rows n m : ℕ) (xs : List ℕ) → (n ≡ m → ⊥)
    → player_put on ws numbers t rows n (player_put off ws numbers u rows m xs) ≡ player_put off ws numbers u rows m (player_put on ws numbers t rows n xs)
unfolding player_put
player_player on off ws numbers t u rows n m xs h =
    let i = block_of numbers t * (length ws * rows) + (n - 1) in
    let j = block_of numbers u * (length ws * rows) + (m - 1) in
    cond_cond (seated on numbers t rows n) (seated off numbers u rows m) (λ l. read_back ws t.own l rows i) (λ l. read_back ws u.own l rows j) xs
    (λ a b.
    let p = row_of on ws numbers t rows n a in
    let q = row_of off ws numbers u rows m b in
    read_read ws ws t.own u.own xs rows i j (λ e. let s : n - 1 ≡ m - 1 = sym p.1 ∙ e ∙ q.1 in h (omega (arith, p.0, q.0))))

bits_bits : (on off : Bool) (numbers : List ℕ) (t u : Told) (rows n m : ℕ) (xs : List ℕ)
    → bit_put on numbers t rows n (bit_put off numbers u rows m xs) ≡ bit_put off numbers u rows m (bit_put on numbers t rows n xs)
unfolding bit_put
bits_bits on off numbers t u rows n m xs =
    let i = block_of numbers t * ((rows + 7) / 8) + (n - 1) / 8 in
    let j = block_of numbers u * ((rows + 7) / 8) + (m - 1) / 8 in
    cond_cond (seated on numbers t rows n) (seated off numbers u rows m) (λ l. added l i (2 ^ ((n - 1) % 8))) (λ l. added l j (2 ^ ((m - 1) % 8))) xs
    (λ a b. bit_bit xs i j (2 ^ ((n - 1) % 8)) (2 ^ ((m - 1) % 8)))

-- ---- events of other frames

module _ (q : Seating) (file : List ℕ) where
  seat_seat : (n m at to : ℕ) (r : Seats) → (n ≡ m → ⊥) → seat q file n at (seat q file m to r) ≡ seat q file m to (seat q file n at r)
  unfolding seat_told
  seat_seat n m at to r h =
      let t = told_at file at in
      let u = told_at file to in
      let a = player_player (eqb t.code 0x37) (eqb u.code 0x37) q.pre q.numbers t u q.rows n m r.pres h in
      let b = player_player (eqb t.code 0x38) (eqb u.code 0x38) q.post q.numbers t u q.rows n m r.posts h in
      let c = bits_bits (eqb t.code 0x37) (eqb u.code 0x37) q.numbers t u q.rows n m r.presence in
      λ i. seats (a i) (b i) (c i)

  module _ (places : List ℕ) where
    frame_seat : (t j n m to : ℕ) (r : Seats) → (n ≡ m → ⊥) → frame_at q file places t j n (seat q file m to r) ≡ seat q file m to (frame_at q file places t j n r)
    unfolding frame_at
    frame_seat t zero n m to r h = refl
    frame_seat t (suc j) n m to r h =
        ap (seat q file n (get_or places (j * 8 + t) 0)) (frame_seat t j n m to r h) ∙ seat_seat n m (get_or places (j * 8 + t) 0) to (frame_at q file places t j n r) h

    frame_across : (t j n i m k : ℕ) (r : Seats) → k + m ≤ n → frame_at q file places t j n (across_at q file places i m k r) ≡ across_at q file places i m k (frame_at q file places t j n r)
    unfolding across_at
    frame_across t j n i zero k r h = refl
    frame_across t j n i (suc m) k r h =
        frame_seat t j n (k + m) (get_or places (i + m) 0) (across_at q file places i m k r) (λ e. omega arith)
        ∙ ap (seat q file (k + m) (get_or places (i + m) 0)) (frame_across t j n i m k r (omega arith))

    -- the last event of each frame, after all the rest
    frames_last : (j m n : ℕ) (r : Seats) → frames_at q file places (suc j) m n r ≡ across_at q file places (j * 8) m n (frames_at q file places j m n r)
    unfolding frames_at frame_at across_at
    frames_last j zero n r = refl
    frames_last j (suc m) n r =
        ap (seat q file (n + m) (get_or places (j * 8 + m) 0))
        (ap (frame_at q file places m j (n + m)) (frames_last j m n r) ∙ frame_across m j (n + m) (j * 8) m n (frames_at q file places j m n r) (omega arith))

    frames_none : (m n : ℕ) (r : Seats) → frames_at q file places 0 m n r ≡ r
    unfolding frames_at frame_at
    frames_none zero n r = refl
    frames_none (suc m) n r = frames_none m n r

    -- frame after frame is event after event
    pub frames_team : (j m n : ℕ) (r : Seats) → team_at q file places j m n r ≡ frames_at q file places j m n r
    unfolding team_at
    frames_team zero m n r = sym (frames_none m n r)
    frames_team (suc j) m n r = ap (across_at q file places (j * 8) m n) (frames_team j m n r) ∙ sym (frames_last j m n r)

-- ---- rows in a block

-- the last of eight
pub eight_in_block : (ws xs : List ℕ) (blocks rows b n : ℕ) → Roomy ws xs blocks rows → b < blocks → n + 8 ≤ rows → InStore ws (length xs) rows (b * (length ws * rows) + n + 7)
eight_in_block ws xs blocks rows b n q h k = rw (add_assoc (b * (length ws * rows)) n 7) (in_block ws xs blocks rows b (n + 7) q h (omega arith))

-- ---- one player's event

module _ (numbers : List ℕ) (t : Told) (rows i : ℕ) (h : i < rows) where
  one_less_lem : i + 1 - 1 ≡ i
  one_less_lem = omega arith

  module _ (b : ℕ) (q : b ≡ block_of numbers t) where
    put_row : (on : Bool) (ws xs : List ℕ) → on ≡ true → b < length numbers → read_back ws t.own xs rows (b * (length ws * rows) + i) ≡ player_put on ws numbers t rows (i + 1) xs
    put_row on ws xs e l = rw one_less_lem at (player_put_lem on ws numbers t rows (i + 1) xs e (omega arith) (omega (arith, h)) q l)

    put_bit : (on : Bool) (xs : List ℕ) → on ≡ true → b < length numbers → bit_at b rows i xs ≡ bit_put on numbers t rows (i + 1) xs
    put_bit on xs e l = rw one_less_lem at (bit_put_lem on numbers t rows (i + 1) xs e (omega arith) (omega (arith, h)) q l refl)

    no_row : (on : Bool) (ws xs : List ℕ) → length numbers ≤ b → xs ≡ player_put on ws numbers t rows (i + 1) xs
    no_row true ws xs l = player_none true ws numbers t rows (i + 1) xs refl (omega arith) (omega (arith, h)) q l
    no_row false ws xs l = player_off false ws numbers t rows (i + 1) xs refl

    no_bit : (on : Bool) (xs : List ℕ) → length numbers ≤ b → xs ≡ bit_put on numbers t rows (i + 1) xs
    no_bit true xs l = bit_none true numbers t rows (i + 1) xs refl (omega arith) (omega (arith, h)) q l
    no_bit false xs l = bit_off false numbers t rows (i + 1) xs refl

module _ (pre post numbers : List ℕ) (rows : ℕ) (file : List ℕ) (b at i : ℕ) (q : b ≡ block_of numbers (told_at file at)) (h : i < rows) (pres posts bits : List ℕ) where
  seat_pre : get_or file at 0 ≡ 0x37 → b < length numbers
      → seats (read_back pre (drop (at + 7) file) pres rows (b * (length pre * rows) + i)) posts (bit_at b rows i bits) ≡ seat (seating pre post numbers rows) file (i + 1) at (seats pres posts bits)
  unfolding seat_told
  seat_pre e l =
      let t = told_at file at in
      let on = eq-eqb (get_or file at 0) 0x37 e in
      let off = ne_eqb (get_or file at 0) 0x38 (λ z. absurd (omega arith)) in
      λ k. seats (put_row numbers t rows i h b q (eqb t.code 0x37) pre pres on l k) (player_off (eqb t.code 0x38) post numbers t rows (i + 1) posts off k)
      (put_bit numbers t rows i h b q (eqb t.code 0x37) bits on l k)

  seat_post : get_or file at 0 ≡ 0x38 → b < length numbers
      → seats pres (read_back post (drop (at + 7) file) posts rows (b * (length post * rows) + i)) bits ≡ seat (seating pre post numbers rows) file (i + 1) at (seats pres posts bits)
  unfolding seat_told
  seat_post e l =
      let t = told_at file at in
      let on = eq-eqb (get_or file at 0) 0x38 e in
      let off = ne_eqb (get_or file at 0) 0x37 (λ z. absurd (omega arith)) in
      λ k. seats (player_off (eqb t.code 0x37) pre numbers t rows (i + 1) pres off k) (put_row numbers t rows i h b q (eqb t.code 0x38) post posts on l k)
      (bit_off (eqb t.code 0x37) numbers t rows (i + 1) bits off k)

  seat_none : length numbers ≤ b → seats pres posts bits ≡ seat (seating pre post numbers rows) file (i + 1) at (seats pres posts bits)
  unfolding seat_told
  seat_none l =
      let t = told_at file at in
      λ k. seats (no_row numbers t rows i h b q (eqb t.code 0x37) pre pres l k) (no_row numbers t rows i h b q (eqb t.code 0x38) post posts l k)
      (no_bit numbers t rows i h b q (eqb t.code 0x37) bits l k)

-- ---- that event of several frames

-- m events of one code and one block
abbrev Steady : List ℕ → List ℕ → List ℕ → ℕ → ℕ → ℕ → ℕ → Type 0
Steady numbers file places i code b m = (t : ℕ) → t < m → (get_or file (get_or places (i + t) 0) 0 ≡ code) × (b ≡ block_of numbers (told_at file (get_or places (i + t) 0)))

module _ (pre post numbers : List ℕ) (rows : ℕ) (file places : List ℕ) (i b : ℕ) where
  abbrev Q : Seating
  Q = seating pre post numbers rows

  across_pre : (m row : ℕ) (pres posts bits : List ℕ) → Steady numbers file places i 0x37 b m → b < length numbers → row + m ≤ rows
      → seats (rows_at pre file places i 7 m pres rows (b * (length pre * rows) + row)) posts (bits_put b rows m row bits) ≡ across_at Q file places i m (row + 1) (seats pres posts bits)
  unfolding across_at rows_at bits_put
  across_pre zero row pres posts bits s l h = refl
  across_pre (suc m) row pres posts bits s l h =
      let z = s m (omega arith) in
      let at = get_or places (i + m) 0 in
      let cells = rows_at pre file places i 7 m pres rows (b * (length pre * rows) + row) in
      let bit = bits_put b rows m row bits in
      let n : row + m + 1 ≡ row + 1 + m = omega arith in
      ap (λ (x : ℕ). seats (read_back pre (drop (at + 7) file) cells rows x) posts (bit_at b rows (row + m) bit)) (add_assoc (b * (length pre * rows)) row m)
      ∙ seat_pre pre post numbers rows file b at (row + m) z.1 (omega arith) cells posts bit z.0 l
      ∙ ap₂ (λ (x : ℕ) (r : Seats). seat Q file x at r) n (across_pre m row pres posts bits (λ t k. s t (omega arith)) l (omega arith))

  across_post : (m row : ℕ) (pres posts bits : List ℕ) → Steady numbers file places i 0x38 b m → b < length numbers → row + m ≤ rows
      → seats pres (rows_at post file places i 7 m posts rows (b * (length post * rows) + row)) bits ≡ across_at Q file places i m (row + 1) (seats pres posts bits)
  unfolding across_at rows_at
  across_post zero row pres posts bits s l h = refl
  across_post (suc m) row pres posts bits s l h =
      let z = s m (omega arith) in
      let at = get_or places (i + m) 0 in
      let cells = rows_at post file places i 7 m posts rows (b * (length post * rows) + row) in
      let n : row + m + 1 ≡ row + 1 + m = omega arith in
      ap (λ (x : ℕ). seats pres (read_back post (drop (at + 7) file) cells rows x) bits) (add_assoc (b * (length post * rows)) row m)
      ∙ seat_post pre post numbers rows file b at (row + m) z.1 (omega arith) pres cells bits z.0 l
      ∙ ap₂ (λ (x : ℕ) (r : Seats). seat Q file x at r) n (across_post m row pres posts bits (λ t k. s t (omega arith)) l (omega arith))

  across_none : (code m row : ℕ) (pres posts bits : List ℕ) → Steady numbers file places i code b m → length numbers ≤ b → row + m ≤ rows
      → seats pres posts bits ≡ across_at Q file places i m (row + 1) (seats pres posts bits)
  unfolding across_at
  across_none code zero row pres posts bits s l h = refl
  across_none code (suc m) row pres posts bits s l h =
      let z = s m (omega arith) in
      let at = get_or places (i + m) 0 in
      let n : row + m + 1 ≡ row + 1 + m = omega arith in
      seat_none pre post numbers rows file b at (row + m) z.1 (omega arith) pres posts bits l
      ∙ ap₂ (λ (x : ℕ) (r : Seats). seat Q file x at r) n (across_none code m row pres posts bits (λ t k. s t (omega arith)) l (omega arith))

-- ---- the same player in eight frames

steady_same : (numbers file places : List ℕ) (i b : ℕ) → SameHeads file places i → b ≡ block_of numbers (told_at file (get_or places i 0)) → Steady numbers file places i (get_or file (get_or places i 0) 0) b 8
steady_same numbers file places i b s q t h = (s.code t h, q ∙ sym (ap₂ (λ (m n : ℕ). index_of (2 * m + n) numbers) (s.port t h) (s.follower t h)))

other_post : (code : ℕ) → is_players code ≡ true → (code ≡ 0x37 → ⊥) → code ≡ 0x38
unfolding is_players
other_post code p n = eqb-true code 0x38 (rw (ne_eqb code 0x37 n) at p)

pub is_post : {code : ℕ} → is_players code ≡ true → (code ≡ 0x37 → ⊥) → eqb code 0x38 ≡ true
is_post {code} p n = eq-eqb code 0x38 (other_post code p n)

module _ (pre post numbers : List ℕ) (rows : ℕ) (file places : List ℕ) (i b n : ℕ) (pres posts bits : List ℕ) where
  pub put_pre : {code : ℕ} → SameHeads file places i → code ≡ get_or file (get_or places i 0) 0 → code ≡ 0x37 → b ≡ block_of numbers (told_at file (get_or places i 0)) → b < length numbers → n + 8 ≤ rows
      → {pres' bits' : List ℕ} → pres' ≡ rows_at pre file places i 7 8 pres rows (b * (length pre * rows) + n) → bits' ≡ bits_put b rows 8 n bits
      → seats pres' posts bits' ≡ across_at (seating pre post numbers rows) file places i 8 (n + 1) (seats pres posts bits)
  put_pre {code} s e c q l h x y =
      let f : Steady numbers file places i 0x37 b 8 = rw (sym e, c) at (steady_same numbers file places i b s q) in
      ap₂ (λ (a d : List ℕ). seats a posts d) x y ∙ across_pre pre post numbers rows file places i b 8 n pres posts bits f l h

  pub put_post : {code : ℕ} → SameHeads file places i → code ≡ get_or file (get_or places i 0) 0 → is_players code ≡ true → (code ≡ 0x37 → ⊥) → b ≡ block_of numbers (told_at file (get_or places i 0)) → b < length numbers
      → n + 8 ≤ rows → {posts' : List ℕ} → posts' ≡ rows_at post file places i 7 8 posts rows (b * (length post * rows) + n)
      → seats pres posts' bits ≡ across_at (seating pre post numbers rows) file places i 8 (n + 1) (seats pres posts bits)
  put_post {code} s e p c q l h x =
      let f : Steady numbers file places i 0x38 b 8 = rw (sym e, other_post code p c) at (steady_same numbers file places i b s q) in
      ap (λ (a : List ℕ). seats pres a bits) x ∙ across_post pre post numbers rows file places i b 8 n pres posts bits f l h

  pub put_none : SameHeads file places i → b ≡ block_of numbers (told_at file (get_or places i 0)) → length numbers ≤ b → n + 8 ≤ rows
      → seats pres posts bits ≡ across_at (seating pre post numbers rows) file places i 8 (n + 1) (seats pres posts bits)
  put_none s q l h = across_none pre post numbers rows file places i b (get_or file (get_or places i 0) 0) 8 n pres posts bits (steady_same numbers file places i b s q) l h

-- ---- eight events of one code are whole

module _ (z : Spans) (q : Seating) (s : SeatSpans z q) (file places : List ℕ) (i : ℕ) (far : i + 8 ≤ length places) (whole : Each (WholeBy z file) places) (same : SameHeads file places i) where
  reach_by : (code : ℕ) (ws : List ℕ) → ((at : ℕ) → WholeBy z file at → Long file (at + 7) (eqb (get_or file at 0) code) ws) → eqb (get_or file (get_or places i 0) 0) code ≡ true
      → Reach file places i (7 + sum ws)
  reach_by code ws l e t h =
      let w = each_get (WholeBy z file) places (i + t) whole (omega arith) in
      let m = l (get_or places (i + t) 0) w (ap (λ (x : ℕ). eqb x code) (same.code t h) ∙ e) in
      omega arith

  pub reach_pre : eqb (get_or file (get_or places i 0) 0) 0x37 ≡ true → Reach file places i (7 + sum q.pre)
  reach_pre = reach_by 0x37 q.pre (λ at w. long_pre z file at w q s)

  pub reach_post : eqb (get_or file (get_or places i 0) 0) 0x38 ≡ true → Reach file places i (7 + sum q.post)
  reach_post = reach_by 0x38 q.post (λ at w. long_post z file at w q s)

-- a player's event has more than its head
pub player_seven : (z : Spans) (file : List ℕ) (at : ℕ) → WholeBy z file at → 7 ≤ z.pre → 7 ≤ z.post → is_players (get_or file at 0) ≡ true → at + 7 ≤ length file
unfolding is_players span_by
player_seven z file at w a b p = go (eqb (get_or file at 0) 0x37) refl
  where
    go : (t : Bool) → eqb (get_or file at 0) 0x37 ≡ t → at + 7 ≤ length file
    go true e = let s : span_by z (get_or file at 0) ≡ z.pre = ap (span_by z) (eqb-true (get_or file at 0) 0x37 e) in omega (arith, w.inside)
    go false e = let s : span_by z (get_or file at 0) ≡ z.post = ap (span_by z) (eqb-true (get_or file at 0) 0x38 (rw e at p)) in omega (arith, w.inside)

pub spans_seven : (z : Spans) (q : Seating) → SeatSpans z q → (7 ≤ z.pre) × (7 ≤ z.post)
spans_seven z q s = (omega (arith, s.pre), omega (arith, s.post))

-- ---- bits, one after another

pub record Marking (block frames n : ℕ) (bits₀ bits : List ℕ) (t : ℕ) : Type 0 where
  pub few : t ≤ 8
  pub same : length bits ≡ length bits₀
  pub is : bits ≡ bits_put block frames t n bits₀

module _ {block frames n : ℕ} {bits₀ : List ℕ} where
  pub marking_start : Marking block frames n bits₀ bits₀ 0
  unfolding bits_put
  marking_start = record { few = omega arith; same = refl; is = refl }

  pub marking_step : {bits : List ℕ} {t v : ℕ} → Marking block frames n bits₀ bits t → t < 8
      → v ≡ (get_or bits (block * ((frames + 7) / 8) + (n + t) / 8) 0 + 2 ^ ((n + t) % 8)) % 256
      → Marking block frames n bits₀ (set bits (block * ((frames + 7) / 8) + (n + t) / 8) v) (t + 1)
  unfolding bits_put
  marking_step {bits} {t} {v} m h e = record {
    few = omega arith;
    same = length-set bits (block * ((frames + 7) / 8) + (n + t) / 8) v ∙ m.same;
    is = ap (set bits (block * ((frames + 7) / 8) + (n + t) / 8)) e ∙ ap (bit_at block frames (n + t)) m.is ∙ rw (add-one t);
  }

  pub marking_done : {bits : List ℕ} {t : ℕ} → Marking block frames n bits₀ bits t → 8 ≤ t → bits ≡ bits_put block frames 8 n bits₀
  marking_done {bits} {t} m h = let e : t ≡ 8 = omega (arith, m.few) in m.is ∙ ap (λ (k : ℕ). bits_put block frames k n bits₀) e

-- ---- heads, one after another

pub record Heads (file places : List ℕ) (i m : ℕ) : Type 0 where
  pub code : (t : ℕ) → t < m → get_or file (get_or places (i + t) 0) 0 ≡ get_or file (get_or places i 0) 0
  pub port : (t : ℕ) → t < m → get_or file (get_or places (i + t) 0 + 5) 0 ≡ get_or file (get_or places i 0 + 5) 0
  pub follower : (t : ℕ) → t < m → get_or file (get_or places (i + t) 0 + 6) 0 ≡ get_or file (get_or places i 0 + 6) 0

module _ (file places : List ℕ) (i : ℕ) where
  none_more : (k : ℕ) (t : ℕ) → t < 1 → get_or file (get_or places (i + t) 0 + k) 0 ≡ get_or file (get_or places i 0 + k) 0
  none_more k t h = let e : i + t ≡ i = omega arith in ap (λ (x : ℕ). get_or file (get_or places x 0 + k) 0) e

  pub heads_one : Heads file places i 1
  heads_one = record {
    code = λ t h. let e : i + t ≡ i = omega arith in ap (λ (x : ℕ). get_or file (get_or places x 0) 0) e;
    port = none_more 5;
    follower = none_more 6;
  }

  lt_of : (t m : ℕ) → t < m + 1 → (t ≡ m → ⊥) → t < m
  lt_of t m l n = omega arith

  one_more : (f : ℕ → ℕ) (m x : ℕ) → ((t : ℕ) → t < m → f t ≡ x) → f m ≡ x → (t : ℕ) → t < m + 1 → f t ≡ x
  one_more f m x h e t l = go (eqb t m) refl
    where
      go : (b : Bool) → eqb t m ≡ b → f t ≡ x
      go true y = ap f (eqb-true t m y) ∙ e
      go false y = let n = eqb-false t m y in h t (lt_of t m l n)

  pub heads_more : {m : ℕ} → Heads file places i m → get_or file (get_or places (i + m) 0) 0 ≡ get_or file (get_or places i 0) 0
      → get_or file (get_or places (i + m) 0 + 5) 0 ≡ get_or file (get_or places i 0 + 5) 0 → get_or file (get_or places (i + m) 0 + 6) 0 ≡ get_or file (get_or places i 0 + 6) 0
      → Heads file places i (m + 1)
  heads_more {m} h a b c = record {
    code = one_more (λ (t : ℕ). get_or file (get_or places (i + t) 0) 0) m (get_or file (get_or places i 0) 0) h.code a;
    port = one_more (λ (t : ℕ). get_or file (get_or places (i + t) 0 + 5) 0) m (get_or file (get_or places i 0 + 5) 0) h.port b;
    follower = one_more (λ (t : ℕ). get_or file (get_or places (i + t) 0 + 6) 0) m (get_or file (get_or places i 0 + 6) 0) h.follower c;
  }

  pub heads_all : {m : ℕ} → Heads file places i m → 8 ≤ m → SameHeads file places i
  heads_all h l = record { code = λ t k. h.code t (omega arith); port = λ t k. h.port t (omega arith); follower = λ t k. h.follower t (omega arith) }

-- ---- stores of the same lengths, after some events

pub record Put (r₀ r to : Seats) : Type 0 where
  pub pres : length r.pres ≡ length r₀.pres
  pub posts : length r.posts ≡ length r₀.posts
  pub presence : length r.presence ≡ length r₀.presence
  pub is : r ≡ to

roomy_on : {ws xs ys : List ℕ} {blocks rows : ℕ} → Roomy ws xs blocks rows → length ys ≡ length xs → Roomy ws ys blocks rows
roomy_on q e = record { narrow = q.narrow; room = omega (arith, q.room) }

pub put_rooms : {q : Seating} {r₀ r to : Seats} → SeatRooms q r₀ → Put r₀ r to → SeatRooms q r
put_rooms m p = record { pres = roomy_on m.pres p.pres; posts = roomy_on m.posts p.posts; bits = omega (arith, m.bits, p.presence); modest = m.modest }

pub put_start : {r : Seats} → Put r r r
put_start = record { pres = refl; posts = refl; presence = refl; is = refl }

put_on : {r₀ r to r' to' : Seats} → Put r₀ r to → length r'.pres ≡ length r.pres → length r'.posts ≡ length r.posts → length r'.presence ≡ length r.presence → r' ≡ to' → Put r₀ r' to'
put_on p a b c e = record { pres = a ∙ p.pres; posts = b ∙ p.posts; presence = c ∙ p.presence; is = e }

module _ (q : Seating) (file places : List ℕ) {r₀ r r' : Seats} where
  module _ (a : length r'.pres ≡ length r.pres) (b : length r'.posts ≡ length r.posts) (c : length r'.presence ≡ length r.presence) where
    pub across_next : (i t n : ℕ) → Put r₀ r (across_at q file places i t n r₀) → r' ≡ seat q file (n + t) (get_or places (i + t) 0) r → Put r₀ r' (across_at q file places i (t + 1) n r₀)
    unfolding across_at
    across_next i t n p e = put_on p a b c (e ∙ ap (seat q file (n + t) (get_or places (i + t) 0)) p.is ∙ rw (add-one t))

    pub team_next : (j n : ℕ) → Put r₀ r (team_at q file places j 8 n r₀) → r' ≡ across_at q file places (j * 8) 8 n r → Put r₀ r' (team_at q file places (j + 1) 8 n r₀)
    unfolding team_at
    team_next j n p e = put_on p a b c (e ∙ ap (across_at q file places (j * 8) 8 n) p.is ∙ rw (add-one j))

    pub frame_next : (t j n : ℕ) → Put r₀ r (frame_at q file places t j n r₀) → r' ≡ seat q file n (get_or places (j * 8 + t) 0) r → Put r₀ r' (frame_at q file places t (j + 1) n r₀)
    unfolding frame_at
    frame_next t j n p e = put_on p a b c (e ∙ ap (seat q file n (get_or places (j * 8 + t) 0)) p.is ∙ rw (add-one j))

    pub frames_next : (count t n : ℕ) → Put r₀ r (frames_at q file places count t n r₀) → r' ≡ frame_at q file places t count (n + t) r → Put r₀ r' (frames_at q file places count (t + 1) n r₀)
    unfolding frames_at
    frames_next count t n p e = put_on p a b c (e ∙ ap (frame_at q file places t count (n + t)) p.is ∙ rw (add-one t))

module _ (q : Seating) (file places : List ℕ) (r : Seats) where
  pub across_start : (i n : ℕ) → Put r r (across_at q file places i 0 n r)
  unfolding across_at
  across_start i n = put_start

  pub team_start : (n : ℕ) → Put r r (team_at q file places 0 8 n r)
  unfolding team_at
  team_start n = put_start

  pub frame_start : (t n : ℕ) → Put r r (frame_at q file places t 0 n r)
  unfolding frame_at
  frame_start t n = put_start

  pub frames_start : (count n : ℕ) → Put r r (frames_at q file places count 0 n r)
  unfolding frames_at
  frames_start count n = put_start

  pub across_done : (i t n : ℕ) {r₀ : Seats} → Put r₀ r (across_at q file places i t n r₀) → t ≤ 8 → 8 ≤ t → r ≡ across_at q file places i 8 n r₀
  across_done i t n {r₀} p a b = let e : t ≡ 8 = omega arith in p.is ∙ ap (λ (k : ℕ). across_at q file places i k n r₀) e

  pub team_done : (j count n : ℕ) {r₀ : Seats} → Put r₀ r (team_at q file places j 8 n r₀) → j ≤ count → count ≤ j → r ≡ team_at q file places count 8 n r₀
  team_done j count n {r₀} p a b = let e : j ≡ count = omega arith in p.is ∙ ap (λ (k : ℕ). team_at q file places k 8 n r₀) e

  pub frame_done : (t j count n : ℕ) {r₀ : Seats} → Put r₀ r (frame_at q file places t j n r₀) → j ≤ count → count ≤ j → r ≡ frame_at q file places t count n r₀
  frame_done t j count n {r₀} p a b = let e : j ≡ count = omega arith in p.is ∙ ap (λ (k : ℕ). frame_at q file places t k n r₀) e

  pub frames_done : (count t many n : ℕ) {r₀ : Seats} → Put r₀ r (frames_at q file places count t n r₀) → t ≤ many → many ≤ t → r ≡ frames_at q file places count many n r₀
  frames_done count t many n {r₀} p a b = let e : t ≡ many = omega arith in p.is ∙ ap (λ (k : ℕ). frames_at q file places count k n r₀) e

  pub across_as : (i n m : ℕ) → n ≡ m → across_at q file places i 8 n r ≡ across_at q file places i 8 m r
  across_as i n m e = ap (λ (k : ℕ). across_at q file places i 8 k r) e

  pub batch_team : (count many n : ℕ) → many ≡ 8 → team_at q file places count 8 n r ≡ frames_at q file places count many n r
  batch_team count many n e = frames_team q file places count 8 n r ∙ ap (λ (k : ℕ). frames_at q file places count k n r) (sym e)
