-- A replay that 3.18 can read back is one that a newer version can, with its start block made newer.
-- Assumes nothing.
use Prim.Native.Nat.{ℕ, suc, ◌+◌, ◌-◌, ◌*◌, ◌≤◌, ◌<◌}
use mathlib.Core.Path.{◌≡◌, refl, sym, ap, ◌∙◌}
use mathlib.Core.Bool.{true}
use mathlib.Core.List.{List, [], ◌∷◌, ◌++◌}
use native.Mathlib.Omega.{arith}
use lib.ListN.{length, get_or, take, drop, length-append, length-drop, get_or-append}
use lib.Seq.{take-append-le, drop-append-le, drop-drop, get_or-drop}
use Rattle.wire.specs.Wire.{part}
use Rattle.format.specs.Version.{has_initiator, gte_of, above}
use Rattle.format.specs.declared.version.Version.{Version}
use Rattle.format.proofs.Versions.{no_way}
use Rattle.layout.specs.Payloads.{end_size}
use Rattle.layout.specs.declared.columns.Family.{Family}
use Rattle.layout.specs.declared.columns.Family.TheVariants.{Pre, Post, FrameStart, Item, FrameEnd, FodPlatform, DreamlandWhispy, StadiumTransformation}
use Rattle.start.specs.Length.{length_of, reached}
use Rattle.grammar.specs.Productions.{Player, Frame, Block, Replay}
use Rattle.grammar.specs.WellFormed.{Order, ascending, GoodPlayer, GoodRow, GoodFrame, GoodCodes, WellFormed}
use Rattle.grammar.specs.Readable.{Readable}
use Rattle.grammar.proofs.Each.{each_so}
use Rattle.known.specs.Known.{is_newer}
use Rattle.known.proofs.Newest.{has_gate, has_family_lem}
use Rattle.law_known.specs.Made.{last, made_block, made_replay}
use Rattle.law_known.proofs.Late.{same_size, same_end, same_length}

-- a 3.18 start block has at least 760 bytes
pub last_length : length_of last ≡ 760
unfolding length_of reached gte_of above
last_length = refl

last_initiator : has_initiator last ≡ true
unfolding gte_of above
last_initiator = refl

-- ---- the block behind the version

module _ (v : Version) (block more : List ℕ) where
  made_drop : (at : ℕ) → 3 ≤ at → at ≤ length block → drop at (made_block v block more) ≡ drop at block ++ more
  made_drop at h k =
      let e : at ≡ suc (suc (suc (at - 3))) = omega arith in
      let back : 3 + (at - 3) ≡ at = omega arith in
      let n : at - 3 ≤ length (drop 3 block) = omega (arith, length-drop 3 block) in
      ap (λ (a : ℕ). drop a (made_block v block more)) e
      ∙ drop-append-le (at - 3) (drop 3 block) more n
      ∙ ap (λ (l : List ℕ). l ++ more) (drop-drop (at - 3) 3 block ∙ ap (λ (a : ℕ). drop a block) back)

  pub made_part : (at n : ℕ) → 3 ≤ at → at + n ≤ length block → part (made_block v block more) at n ≡ part block at n
  unfolding part
  made_part at n h k = ap (take n) (made_drop at h (omega arith)) ∙ take-append-le n (drop at block) more (omega (arith, length-drop at block))

  pub made_byte : (at : ℕ) → 3 ≤ at → at < length block → get_or (made_block v block more) at 0 ≡ get_or block at 0
  made_byte at h k =
      let e : at ≡ suc (suc (suc (at - 3))) = omega arith in
      let back : 3 + (at - 3) ≡ at = omega arith in
      ap (λ (a : ℕ). get_or (made_block v block more) a 0) e
      ∙ get_or-append (drop 3 block) more 0 (at - 3) (omega (arith, length-drop 3 block))
      ∙ get_or-drop 3 block (at - 3) 0
      ∙ ap (λ (a : ℕ). get_or block a 0) back

  pub made_length : 3 ≤ length block → length (made_block v block more) ≡ length block + length more
  made_length h = omega (arith, length-append (drop 3 block) more, length-drop 3 block)

-- ---- the replay

module _ (v : Version) (newer : is_newer v ≡ true) where
  row_good : (family : Family) (b : List ℕ) → GoodRow last family b → GoodRow v family b
  row_good family b h = record { has = has_family_lem v newer family; size = h.size ∙ sym (same_size v newer family) }

  player_good : (p : Player) → GoodPlayer last p → GoodPlayer v p
  player_good p h = record {
    port = h.port;
    follower = h.follower;
    pre = h.pre ∙ sym (same_size v newer Pre);
    post = h.post ∙ sym (same_size v newer Post);
  }

  frame_good : (o : Order) (f : Frame) → GoodFrame last o f → GoodFrame v o f
  frame_good o f h = record {
    id = h.id;
    start = h.start ∙ sym (same_size v newer FrameStart);
    players = each_so (GoodPlayer last) (GoodPlayer v) f.players player_good h.players;
    slots = h.slots;
    somebody = λ lacks. no_way (sym lacks ∙ has_family_lem v newer FrameStart);
    fods = each_so (GoodRow last FodPlatform) (GoodRow v FodPlatform) f.fods (row_good FodPlatform) h.fods;
    whispys = each_so (GoodRow last DreamlandWhispy) (GoodRow v DreamlandWhispy) f.whispys (row_good DreamlandWhispy) h.whispys;
    stadiums = each_so (GoodRow last StadiumTransformation) (GoodRow v StadiumTransformation) f.stadiums (row_good StadiumTransformation) h.stadiums;
    items = each_so (GoodRow last Item) (GoodRow v Item) f.items (row_good Item) h.items;
    end = h.end ∙ sym (same_size v newer FrameEnd);
  }

  codes_good : (bs : List Block) → GoodCodes last bs → GoodCodes v bs
  unfolding GoodCodes
  codes_good [] h = tt
  codes_good (b ∷ []) h = (has_gate v newer 3 (omega arith), h.1, h.2, h.3)
  codes_good (b ∷ c ∷ bs) h = (h.0, h.1, codes_good (c ∷ bs) h.2)

  pub made_well : (o : Order) (more : List ℕ) (r : Replay) → length r.block + length more < 65536 → WellFormed last o r → WellFormed v o (made_replay v more r)
  made_well o more r fits w =
      let long : 760 ≤ length r.block = omega (arith, w.block, last_length) in
      let n = made_length v r.block more (omega arith) in
      record {
        version = refl;
        block = omega (arith, n, same_length v newer, w.block);
        short = omega (arith, n);
        codes = codes_good r.codes w.codes;
        frames = each_so (GoodFrame last o) (GoodFrame v o) r.frames (frame_good o) w.frames;
        few = w.few;
        ends = each_so (λ bytes. length bytes ≡ end_size last) (λ bytes. length bytes ≡ end_size v) r.ends (λ bytes e. e ∙ sym (same_end v newer)) w.ends;
      }

  pub made_readable : (more : List ℕ) (r : Replay) → length r.block + length more < 65536 → Readable last r → Readable v (made_replay v more r)
  made_readable more r fits q =
      let long : 760 ≤ length r.block = omega (arith, q.well.block, last_length) in
      record {
        well = made_well ascending more r fits q.well;
        changing = λ lacks. no_way (sym lacks ∙ has_family_lem v newer FrameStart);
        seats = λ n h. let e = made_byte v r.block more (101 + 36 * n) (omega arith) (omega arith) in omega (arith, e, q.seats n h);
        alike = q.alike;
        initiators = λ has. q.initiators last_initiator;
      }
