-- Whatever file is read whole, `write` accepts what it gave: none of the refusals 1 to 11 applies, and 12 only where the output is shorter than the file.
-- Assumes nothing.
use mathlib.Core.Path.{◌≡◌, refl, sym, ◌∙◌}
use mathlib.Core.Bool.{Bool, true, false, cond, ◌&&◌}
use mathlib.Core.List.{List, [], ◌∷◌}
use Prim.Native.Nat.{ℕ, ◌+◌, ◌-◌, ◌≤◌, ◌<◌}
use native.Mathlib.Omega.{arith}
use borrow.Author.Tests.{le-ltb, leb-true}
use lib.Dec.{eqb, ltb, leb}
use lib.ListN.{length, get_or, drop, length-take, length-drop}
use Rattle.wire.specs.Wire.{part}
use Rattle.format.specs.Mark.{yes}
use Rattle.format.specs.Refusal.{lowest}
use Rattle.format.specs.Version.{accepted_of, gte_of, has_initiator}
use Rattle.format.specs.declared.version.Version.{Version}
use Rattle.format.proofs.Refusals.{skip, none, lowest_after}
use Rattle.format.proofs.Versions.{no_way}
use Rattle.players.specs.Inner.{Modest}
use Rattle.frames.specs.Judge.{refusals}
use Rattle.frames.proofs.Accepted.{counted, numbered}
use Rattle.start.specs.Length.{length_of}
use Rattle.start.specs.Refusal.{block_wrong}
use Rattle.read_start.proofs.Accepted.{accepted}
use Rattle.codes.specs.Blocks.{codes_wrong}
use Rattle.ending.specs.End.{initiator_wrong, end_wrong}
use Rattle.head.specs.Table.{stop_of}
use Rattle.grammar.specs.Productions.{Replay, used_in, codes_bytes}
use Rattle.grammar.specs.WellFormed.{Each}
use Rattle.columns.specs.Columns.{frames_read, lent_read}
use Rattle.read_outline.proofs.Back.{not_wrong}
use Rattle.read_judge.specs.Found.{Found, version_of, gecko_span, too_big}
use Rattle.read_judge.specs.Inner.{Bytes}
use Rattle.measure.specs.Game.{bare, has_body, tail_kind, has_metadata, places_in, codes_mark, end_read, is_double, game_read}
use Rattle.ser.specs.Write.{given_bytes, file, judged, refusal}
use Rattle.ser.proofs.Outcomes.{numbered_eleven}
use Rattle.law_columns.proofs.Codes.{codes_right}
use Rattle.law_columns.proofs.Judged.{judged_frames}
use Rattle.law_accepted.specs.Again.{body_at, stores_again}
use Rattle.law_accepted.proofs.Payloads.{frames_bytes}

-- ---- 2: bytes that are given

given_few : (mark most : ℕ) (bytes : List ℕ) → length bytes ≤ most → given_bytes mark bytes ≤ most
given_few mark most bytes h = go (yes mark)
  where
    go : (b : Bool) → cond b (length bytes) 0 ≤ most
    go true = h
    go false = omega arith

-- a tail with a body has at most 65,548 bytes
body_fits : (t : List ℕ) → eqb (tail_kind t) 1 ≡ true → length t ≤ 65548
unfolding tail_kind has_body
body_fits t e = go (bare t) refl (leb 13 (length t)) refl (leb (length t) 65548) refl
  where
    go : (a : Bool) → bare t ≡ a → (b : Bool) → leb 13 (length t) ≡ b → (c : Bool) → leb (length t) 65548 ≡ c → length t ≤ 65548
    go a x b y true z = leb-true (length t) 65548 z
    go true x b y false z = no_way (rw x at e)
    go false x true y false z = no_way (rw (x, y, z) at e)
    go false x false y false z = no_way (rw (x, y) at e)

length_part_most : (f : List ℕ) (at n : ℕ) → length (part f at n) ≤ n
unfolding part
length_part_most f at n = omega (arith, length-take n (drop at f))

metadata_few : (f : List ℕ) (r : Replay) → length (body_at f (places_in f r)) ≤ 65535
metadata_few f r = go (has_metadata f) refl
  where
    go : (b : Bool) → has_metadata f ≡ b → length (part f (cond b (stop_of f + 11) 0) (cond b (length f - stop_of f - 13) 0)) ≤ 65535
    go true e = omega (arith, length_part_most f (stop_of f + 11) (length f - stop_of f - 13), body_fits (drop (stop_of f) f) e, length-drop (stop_of f) f)
    go false e = omega (arith, length_part_most f 0 0)

-- ---- 8: the block

block_right : (v : Version) (n : ℕ) → length_of v ≤ n → n < 65536 → block_wrong v n ≡ false
unfolding block_wrong
block_right v n a b = rw (le-ltb n (length_of v) a, le-ltb 65535 n (omega arith))

-- ---- 10: the codes

mark_since : (a b : Bool) → yes (cond (a && b) 1 0) ≡ true → a ≡ true
mark_since true b e = refl
mark_since false b e = no_way e

-- ---- 11: the ends

ends_right : (v : Version) (ends : List (List ℕ)) → (has_initiator v ≡ true → Each (λ bytes. initiator_wrong (get_or bytes 1 0) ≡ false) ends)
    → end_wrong v (end_read v ends) (is_double ends) ≡ false
unfolding end_wrong Each
ends_right v [] h = refl
ends_right v (p ∷ ends) h = not_wrong v p (is_double (p ∷ ends)) (λ e. (h e).0)

-- ---- all of them

module _ (f : List ℕ) (bytes : Bytes f) (new : accepted_of (version_of f) ≡ true) (x : Found f) (small : too_big (version_of f) x.replay ≡ false) where
  abbrev v : Version
  v = version_of f

  abbrev r : Replay
  r = x.replay

  few : Modest (frames_read v r.frames) × (length (codes_bytes r.codes) ≤ 16777216) × (◌≤◌ 0 65535)
  few = counted (frames_read v r.frames) (length (codes_bytes r.codes)) 0 small

  codes_fit : codes_wrong v (yes (codes_mark f v)) (codes_bytes r.codes) (used_in r.codes) ≡ false
  codes_fit = codes_right v (yes (codes_mark f v)) r.codes x.readable.well.codes (mark_since (gte_of v 3 3) (ltb 0 (gecko_span f)))

  frames_fit : (codes metadata : ℕ) → codes ≤ 16777216 → metadata ≤ 65535 → lowest (refusals (frames_read v r.frames) (lent_read v r.frames) codes metadata) ≡ 0
  frames_fit codes metadata c m =
      judged_frames v r.frames x.readable.well.frames (frames_bytes f bytes new x) codes metadata new few.0 c m

  -- no refusal from 1 to 11
  pub again : lowest (judged (game_read f r) (stores_again f r)) ≡ 0
  unfolding judged frames_read
  again =
      let g = game_read f r in
      let s = stores_again f r in
      let codes = given_bytes g.codes_given s.codes in
      let metadata = given_bytes g.metadata_given s.metadata in
      lowest_after (refusals g.frames s.lent codes metadata) _ (numbered g.frames s.lent codes metadata)
      (frames_fit codes metadata (given_few g.codes_given 16777216 s.codes few.1) (given_few g.metadata_given 65535 s.metadata (metadata_few f r)))
      ∙ sym (skip _ _ _ _ (block_right v (length r.block) x.readable.well.block x.readable.well.short)
      (skip _ _ _ _ (accepted r.block v x.readable.seats)
      (skip _ _ _ _ codes_fit
      (skip _ _ _ _ (ends_right v r.ends x.readable.initiators) none))))

  -- so that it is written wherever there is room for it
  pub again_written : (room : ℕ) → length (file (game_read f r) (stores_again f r)) ≤ room → refusal (game_read f r) (stores_again f r) room ≡ 0
  unfolding refusal
  again_written room fits =
      let g = game_read f r in
      let s = stores_again f r in
      lowest_after (judged g s) _ (numbered_eleven g s) again ∙ sym (skip 12 _ _ _ (le-ltb room (length (file g s)) fits) none)
