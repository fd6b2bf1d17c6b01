-- The elements of a block stay bytes, whatever fields are stored over it.
-- Assumes nothing.
use mathlib.Core.Bool.{Bool, true, false}
use mathlib.Core.List.{List, [], ◌∷◌, ◌++◌}
use Prim.Native.Nat.{ℕ, zero, suc, ◌+◌, ◌-◌, ◌*◌, ◌/◌, ◌%◌, ◌^◌, ◌<◌}
use native.Mathlib.Omega.{arith}
use lib.ListN.{length, get_or, set, take, replicate}
use Rattle.wire.specs.Wire.{be, splice, keep}
use Rattle.format.specs.Mark.{yes}
use Rattle.format.specs.declared.version.Version.{Version}
use Rattle.game.specs.MatchTails.{match_tail_of}
use Rattle.game.specs.Zero.{no_seat}
use Rattle.game.specs.declared.start.MatchTail.{MatchTail}
use Rattle.game.specs.declared.start.MatchTail.TheVariants.{Cleared, Kept}
use Rattle.game.specs.declared.start.Text.{Text}
use Rattle.game.specs.declared.start.Seat.{Seat}
use Rattle.game.specs.declared.start.Match.{Match}
use Rattle.game.specs.declared.start.Start.{Start}
use Rattle.patch.specs.Patch.{Patch, patch, patched}
use Rattle.patch.specs.Field.{text, zero_filled}
use Rattle.start.specs.declared.gate.Gate.{Gate}
use Rattle.start.specs.Gate.{reaches, ucf_from, tag_from, pal_from, frozen_from, scene_from, netplay_from, suid_from, language_from, match_from}
use Rattle.start.specs.Block.{game_fields, number_field, text_field, player_fields, text_fields, port_fields, seats_fields, mode_fields, match_id, match_tail, match_fields, fields, start_block}
use Rattle.law_start.specs.Declared.{BytesDeclared, TextDeclared, SeatDeclared, Declared}

-- ---- lists of bytes

pub no_bytes : BytesDeclared []
no_bytes = record { byte = λ i. omega arith }

pub one_more : (x : ℕ) (xs : List ℕ) → x < 256 → BytesDeclared xs → BytesDeclared (x ∷ xs)
one_more x xs h b = record { byte = go }
  where
    go : (i : ℕ) → get_or (x ∷ xs) i 0 < 256
    go zero = h
    go (suc i) = b.byte i

pub rest_bytes_lem : (x : ℕ) (xs : List ℕ) → BytesDeclared (x ∷ xs) → BytesDeclared xs
rest_bytes_lem x xs b = record { byte = λ i. b.byte (suc i) }

pub be_bytes : (w x : ℕ) → BytesDeclared (be w x)
unfolding be
be_bytes zero x = no_bytes
be_bytes (suc w) x = one_more (x / 256 ^ w % 256) (be w x) (omega arith) (be_bytes w x)

pub append_bytes : (xs ys : List ℕ) → BytesDeclared xs → BytesDeclared ys → BytesDeclared (xs ++ ys)
append_bytes [] ys a b = b
append_bytes (x ∷ xs) ys a b = one_more x (xs ++ ys) (a.byte 0) (append_bytes xs ys (rest_bytes_lem x xs a) b)

take_bytes : (n : ℕ) (xs : List ℕ) → BytesDeclared xs → BytesDeclared (take n xs)
take_bytes zero xs a = no_bytes
take_bytes (suc n) [] a = no_bytes
take_bytes (suc n) (x ∷ xs) a = one_more x (take n xs) (a.byte 0) (take_bytes n xs (rest_bytes_lem x xs a))

zero_bytes : (n : ℕ) → BytesDeclared (replicate n 0)
zero_bytes zero = no_bytes
zero_bytes (suc n) = one_more 0 (replicate n 0) (omega arith) (zero_bytes n)

kept_bytes_lem : (on : Bool) (xs : List ℕ) → BytesDeclared xs → BytesDeclared (keep on xs)
unfolding keep
kept_bytes_lem true xs a = a
kept_bytes_lem false xs a = no_bytes

filled_bytes : (w : ℕ) (t : Text) → BytesDeclared t.bytes → BytesDeclared (zero_filled w t)
unfolding zero_filled
filled_bytes w t a = append_bytes (text t) _ (take_bytes t.len t.bytes a) (zero_bytes (w - t.len))

set_bytes : (xs : List ℕ) (at y : ℕ) → y < 256 → BytesDeclared xs → BytesDeclared (set xs at y)
set_bytes [] at y h a = a
set_bytes (x ∷ xs) zero y h a = one_more y xs h (rest_bytes_lem x xs a)
set_bytes (x ∷ xs) (suc at) y h a = one_more x (set xs at y) (a.byte 0) (set_bytes xs at y h (rest_bytes_lem x xs a))

splice_bytes : (xs : List ℕ) (at : ℕ) (ys : List ℕ) → BytesDeclared xs → BytesDeclared ys → BytesDeclared (splice xs at ys)
unfolding splice
splice_bytes xs at [] a b = a
splice_bytes xs at (y ∷ ys) a b = splice_bytes (set xs at y) (suc at) ys (set_bytes xs at y (b.byte 0) a) (rest_bytes_lem y ys b)

-- ---- patches of bytes

unfoldable pub Small : List Patch → Type 0
Small [] = Unit {0}
Small (p ∷ ps) = BytesDeclared p.bytes × Small ps

pub patched_bytes : (block : List ℕ) (ps : List Patch) → BytesDeclared block → Small ps → BytesDeclared (patched block ps)
unfolding patched Small
patched_bytes block [] a b = a
patched_bytes block (p ∷ ps) a b = patched_bytes (splice block p.offset p.bytes) ps (splice_bytes block p.offset p.bytes a b.0) b.1

none_small : Small []
unfolding Small
none_small = tt

more_small : (p : Patch) (ps : List Patch) → BytesDeclared p.bytes → Small ps → Small (p ∷ ps)
unfolding Small
more_small p ps a b = (a, b)

small_append : (ps qs : List Patch) → Small ps → Small qs → Small (ps ++ qs)
unfolding Small
small_append [] qs a b = b
small_append (p ∷ ps) qs a b = (a.0, small_append ps qs a.1 b)

small_kept : (on : Bool) (ps : List Patch) → Small ps → Small (keep on ps)
unfolding Small keep
small_kept true ps a = a
small_kept false ps a = tt

number : (at w x : ℕ) (ps : List Patch) → Small ps → Small (patch at (be w x) ∷ ps)
number at w x ps h = more_small (patch at (be w x)) ps (be_bytes w x) h

number_if : (at : ℕ) (on : Bool) (x : ℕ) (ps : List Patch) → Small ps → Small (patch at (keep on (be 1 x)) ∷ ps)
number_if at on x ps h = more_small (patch at (keep on (be 1 x))) ps (kept_bytes_lem on (be 1 x) (be_bytes 1 x)) h

module _ (v : Version) where
  field_small : (g : Gate) (at w x : ℕ) → Small (number_field v g at w x)
  field_small g at w x = small_kept (reaches v g) _ (number at w x [] none_small)

  text_small : (g : Gate) (at w : ℕ) (t : Text) → TextDeclared t → Small (text_field v g at w t)
  text_small g at w t d = small_kept (reaches v g) _ (more_small (patch at (zero_filled w t)) [] (filled_bytes w t d.small) none_small)

  game_small : (s : Start) → BytesDeclared s.bitfield → BytesDeclared s.item_spawn_bitfield → Small (game_fields v s)
  unfolding game_fields
  game_small s a b =
      number _ 1 _ _ (number _ 1 _ _ (number _ 1 _ _ (number _ 1 _ _ (number _ 1 _ _ (number _ 1 _ _ (number _ 1 _ _ (number _ 2 _ _ (number _ 4 _ _ (number _ 4 _ _ (number _ 4 _ _
      (more_small _ _ a (more_small _ _ b none_small))))))))))))

  player_small : (at : ℕ) (p : Seat) → Small (player_fields at p)
  unfolding player_fields
  player_small at p =
      number _ 1 _ _ (number _ 1 _ _ (number _ 1 _ _ (number _ 1 _ _ (number_if _ _ _ _ (number _ 1 _ _ (number_if _ _ _ _ (number _ 1 _ _ (number_if _ _ _ _
      (number _ 2 _ _ (number _ 2 _ _ (number _ 4 _ _ (number _ 4 _ _ (number _ 4 _ _ none_small)))))))))))))

  port_small : (n : ℕ) (p : Seat) → SeatDeclared p → Small (port_fields v n p)
  unfolding port_fields text_fields
  port_small n p d =
      small_append (player_fields (100 + 36 * n) p) _ (player_small (100 + 36 * n) p)
      (small_append (number_field v ucf_from (320 + 8 * n) 4 _) _ (field_small ucf_from _ 4 _)
      (small_append (number_field v ucf_from (324 + 8 * n) 4 _) _ (field_small ucf_from _ 4 _)
      (small_append (text_field v tag_from (352 + 16 * n) 16 _) _ (text_small tag_from _ 16 _ d.tag)
      (small_append (text_field v netplay_from (420 + 31 * n) 31 _) _ (text_small netplay_from _ 31 _ d.name)
      (small_append (text_field v netplay_from (544 + 10 * n) 10 _) _ (text_small netplay_from _ 10 _ d.code) (text_small suid_from _ 29 _ d.suid))))))

  seats_small : (m : ℕ) (ps : List Seat) → ((k : ℕ) → k < length ps → SeatDeclared (get_or ps k no_seat)) → Small (seats_fields v m ps)
  unfolding seats_fields
  seats_small m [] d = none_small
  seats_small m (p ∷ ps) d =
      small_append (keep (yes p.given) (port_fields v m p)) _ (small_kept (yes p.given) _ (port_small m p (d 0 (omega arith))))
      (seats_small (m + 1) ps (λ k h. d (suc k) (omega arith)))

  modes_small : (s : Start) → Small (mode_fields v s)
  unfolding mode_fields
  modes_small s =
      small_append (number_field v pal_from 416 1 _) _ (field_small pal_from _ 1 _)
      (small_append (number_field v frozen_from 417 1 _) _ (field_small frozen_from _ 1 _)
      (small_append (number_field v scene_from 418 1 _) _ (field_small scene_from _ 1 _)
      (small_append (number_field v scene_from 419 1 _) _ (field_small scene_from _ 1 _) (field_small language_from _ 1 _))))

  tail_small : (tail : MatchTail) (len : ℕ) → BytesDeclared (match_tail tail len).bytes
  tail_small Cleared len = zero_bytes (50 - len)
  tail_small Kept len = no_bytes

  match_small : (m : Match) → TextDeclared m.id → Small (match_fields v m)
  unfolding match_fields
  match_small m d =
      small_kept (reaches v match_from) _
      (more_small (match_id m.id) _ (append_bytes (text m.id) (0 ∷ []) (take_bytes m.id.len m.id.bytes d.small) (one_more 0 [] (omega arith) no_bytes))
      (more_small (match_tail (match_tail_of m.tail) m.id.len) _ (tail_small (match_tail_of m.tail) m.id.len) (number 752 4 _ _ (number 756 4 _ _ none_small))))

  pub block_bytes_lem : (s : Start) (t : List ℕ) → Declared s → BytesDeclared t → BytesDeclared (start_block v s t)
  unfolding start_block fields
  block_bytes_lem s t d small =
      patched_bytes t (fields v s) small
      (small_append (game_fields v s) _ (game_small s d.bits d.items)
      (small_append (seats_fields v 0 s.seats) _ (seats_small 0 s.seats (λ k h. d.each k (omega (arith, d.seats))))
      (small_append (mode_fields v s) _ (modes_small s) (match_small s.match_info d.id))))
