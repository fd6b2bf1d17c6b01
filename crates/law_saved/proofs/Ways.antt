-- From the calls: the texts that a viewer reads, and the two ways of the match id's tail, of a start that is as its type says.
-- Assumes nothing.
use mathlib.Core.Path.{◌≡◌, sym, ap, ◌∙◌}
use mathlib.Core.Bool.{true, false}
use mathlib.Core.List.{List, [], ◌∷◌, ◌++◌}
use Prim.Native.Nat.{ℕ, zero, suc, ◌+◌, ◌-◌, ◌≤◌, ◌<◌}
use native.Mathlib.Omega.{arith}
use lib.ListN.{length, get_or, take, replicate, length-append, length-take}
use lib.Seq.{get_or-take}
use Rattle.wire.specs.Wire.{part}
use Rattle.format.specs.Mark.{yes}
use Rattle.format.specs.declared.version.Version.{Version}
use Rattle.patch.specs.Field.{text, read_at}
use Rattle.patch.proofs.Positions.{Misses, misses_append, misses_kept, part_clear, part_inside}
use Rattle.game.specs.MatchTails.{match_tail_of}
use Rattle.game.specs.declared.start.MatchTail.TheVariants.{Kept}
use Rattle.game.specs.Stores.{Stores}
use Rattle.game.specs.Zero.{no_seat}
use Rattle.game.specs.declared.Game.{Game}
use Rattle.game.specs.declared.start.Start.{Start}
use Rattle.game.specs.declared.start.Seat.{Seat}
use Rattle.start.specs.Gate.{reaches, match_from}
use Rattle.start.specs.Length.{length_of}
use Rattle.start.specs.Refusal.{bad_start}
use Rattle.start.specs.Block.{game_fields, seats_fields, mode_fields, match_fields, fields, start_block}
use Rattle.start.proofs.Blocks.{length_start_block}
use Rattle.start.proofs.Lengths.{long_enough}
use Rattle.start.proofs.Refusals.{block_fits, short_text, good_start}
use Rattle.start.proofs.Views as views
use Rattle.law_start.specs.Declared.{Declared, SeatDeclared}
use Rattle.law_start.proofs.Order.{own_match, rank, misses_above}
use Rattle.law_start.proofs.Fields.{game_spans, seats_spans, modes_spans}
use Rattle.std.specs.Prelude.{Ok}
use Rattle.ser.specs.Write.{file, refusal, write_numbers, WrittenNumbers, written_numbers, WriterOutcome}
use Rattle.ser.proofs.Answered.{accepted, written_file}
use Rattle.ser.proofs.Files.{file_parts}
use Rattle.ser.proofs.Viewed as viewed
use Rattle.ser.proofs.Viewed.{block_place, front, rest, length_front}
use Rattle.ser.proofs.Tails as tails
use Rattle.ser.proofs.Tails.{tailed, id_len, InTail}

-- ---- texts, of a start that is as its type says

arrays : (p : Seat) → SeatDeclared p → views.Arrays p
arrays p d = record { tag = d.tag.long; name = d.name.long; code = d.code.long; suid = d.suid.long }

module _ {g : Game} {s : Stores} {out out' : List ℕ} {n : ℕ} (o : WriterOutcome g s out (Ok n) out') (d : Declared g.start) where
  -- what a viewer reads of each text of each player who is there
  pub texts_shown : (k : ℕ) → k < 4 → yes (get_or g.start.seats k no_seat).given ≡ true
      → views.Read g.frames.version (take n out') (block_place g s) k (get_or g.start.seats k no_seat)
  texts_shown k l given = viewed.written_texts o d.seats k l given (arrays (get_or g.start.seats k no_seat) (d.each k l))

  -- and of the match id
  pub match_id_shown : reaches g.frames.version match_from ≡ true → read_at (take n out') (block_place g s + 701) 51 ≡ text g.start.match_info.id
  match_id_shown on = viewed.written_match_id o on d.id.long

-- ---- a tail that is kept is the template's

rank_is : (i : ℕ) → 701 ≤ i → rank i ≡ 7000 + i
unfolding rank
rank_is i h = let e = own_match i h in rw e (omega arith)

module _ (v : Version) (s : Start) (d : Declared s) (good : bad_start v s ≡ false) (kept : yes s.match_info.tail ≡ true) where
  abbrev len : ℕ
  len = s.match_info.id.len

  id_ends : length (text s.match_info.id ++ (0 ∷ [])) ≤ len + 1
  id_ends = omega (arith, length-append (text s.match_info.id) (0 ∷ []), length-take len s.match_info.id.bytes)

  way : match_tail_of s.match_info.tail ≡ Kept
  way = rw kept

  in_match : (i : ℕ) → 702 + len ≤ i → i < 752 → Misses i (match_fields v s.match_info)
  unfolding match_fields Misses
  in_match i a b =
      misses_kept i (reaches v match_from) _ (λ on.
      rw way ((λ x y. omega (arith, id_ends, a, y)), ((λ x y. omega (arith, a, y)), ((λ x y. omega (arith, b, x)), ((λ x y. omega (arith, b, x)), tt)))))

  not_stored : (i : ℕ) → 702 + len ≤ i → i < 752 → Misses i (fields v s)
  unfolding fields
  not_stored i a b =
      let (sound, fits, whole) = good_start v s good in
      let r = rank_is i (omega (arith, a)) in
      misses_append i (game_fields v s) _ (misses_above (length_of v) 0 (game_fields v s) 2000 i (game_spans v s d.four d.five) (omega (arith, r)))
      (misses_append i (seats_fields v 0 s.seats) _ (misses_above (length_of v) 2000 (seats_fields v 0 s.seats) 6000 i (seats_spans v 0 s.seats (omega (arith, d.seats)) sound) (omega (arith, r)))
      (misses_append i (mode_fields v s) _ (misses_above (length_of v) 6000 (mode_fields v s) 6701 i (modes_spans v s) (omega (arith, r, a))) (in_match i a b)))

  in_block : (template : List ℕ) → len ≤ 50 → part (start_block v s template) (702 + len) (50 - len) ≡ part template (702 + len) (50 - len)
  unfolding start_block
  in_block template short = part_clear template (fields v s) (702 + len) (50 - len) (λ i a b. not_stored i a (omega (arith, b, short)))

-- an answer that is a file
file_long : (k n m : ℕ) → written_numbers (Ok n) ≡ write_numbers k m → n ≡ m
file_long zero n m e = ap (λ (w : WrittenNumbers). w.len) e
file_long (suc k) n m e = let z : ◌≡◌ {A = ℕ} 0 1 = ap (λ (w : WrittenNumbers). w.kind) e in absurd (omega arith)

module _ {g : Game} {s : Stores} {out out' : List ℕ} {n : ℕ} (o : WriterOutcome g s out (Ok n) out') where
  -- cleared, every byte of the tail is zero
  pub tail_zero : reaches g.frames.version match_from ≡ true → g.start.match_info.tail ≡ 0
      → part (take n out') (block_place g s + (702 + id_len g)) (50 - id_len g) ≡ replicate (50 - id_len g) 0
  tail_zero on cleared = rw (written_file o) (tails.tail_cleared (accepted o) on cleared)

  -- kept, it is what the template has there
  pub tail_kept : Declared g.start → reaches g.frames.version match_from ≡ true → yes g.start.match_info.tail ≡ true
      → part (take n out') (block_place g s + (702 + id_len g)) (50 - id_len g) ≡ part s.template (702 + id_len g) (50 - id_len g)
  tail_kept d on kept =
      let p = accepted o in
      let v = g.frames.version in
      let short = short_text v match_from 50 g.start.match_info.id (good_start v g.start p.start).1 on in
      let long = (block_fits v (length s.template) p.block).0 in
      let block = start_block v g.start s.template in
      rw (written_file o, file_parts g s, ← length_front g s)
      (part_inside (front g s) block (rest g s) (702 + id_len g) (50 - id_len g) (omega (arith, length_start_block v g.start s.template, long, short, long_enough v 0 on))
      ∙ in_block v g.start d p.start kept s.template short)

  -- both ways, from two calls: one length, and no byte outside the tail differs
  module _ (k : ℕ) {to to' : List ℕ} {m : ℕ} (q : WriterOutcome (tailed k g) s to (Ok m) to') where
    pub ways_of_one_length : n ≡ m
    ways_of_one_length =
        file_long (refusal g s (length out)) n (length (file g s)) o.answer_is ∙ sym (tails.same_length g s k) ∙ sym (file_long (refusal (tailed k g) s (length to)) m (length (file (tailed k g) s)) q.answer_is)

    pub ways_differ_in_tail : (i : ℕ) → i < n → (InTail g s k i → ⊥) → get_or out' i 0 ≡ get_or to' i 0
    ways_differ_in_tail i l h =
        sym (get_or-take n out' i 0 l) ∙ ap (λ (x : List ℕ). get_or x i 0) (written_file o) ∙ sym (tails.same_outside g s k i h)
        ∙ sym (ap (λ (x : List ℕ). get_or x i 0) (written_file q)) ∙ get_or-take m to' i 0 (omega (arith, l, ways_of_one_length))
