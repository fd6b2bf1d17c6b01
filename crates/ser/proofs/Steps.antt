-- What the writer knows of a game that is not refused.
-- Assumes nothing.
use mathlib.Core.Path.{◌≡◌, sym, ap, ap₂, ◌∙◌}
use mathlib.Core.Bool.{Bool, true, cond}
use mathlib.Core.List.{List}
use Prim.Native.Nat.{ℕ, ◌+◌, ◌*◌, ◌≤◌, ◌<◌}
use native.Mathlib.Nat.{mul-le-mul}
use native.Mathlib.Omega.{arith}
use lib.ListN.{length}
use Rattle.wire.specs.Wire.{Room}
use Rattle.format.specs.Mark.{yes}
use Rattle.game.specs.Frames.{slots_of}
use Rattle.codes.specs.Blocks.{block_count}
use Rattle.codes.proofs.Laws.{right_codes}
use Rattle.game.specs.declared.Game.{Game}
use Rattle.game.specs.Stores.{Stores}
use Rattle.ser.specs.Write.{given_bytes, file}
use Rattle.ser.specs.Length.{raw_length}
use Rattle.ser.proofs.Files.{framed, length_raw, in_parts, file_parts}
use Rattle.ser.proofs.Most.{raw_small}
use Rattle.ser.proofs.Outcomes.{Passed, players_most, file_size}
use Rattle.start.proofs.Refusals.{block_fits}

module _ {g : Game} {s : Stores} (p : Passed g s) where
  pub whole : yes g.codes_given ≡ true → length s.codes ≡ 512 * block_count g.actual_size
  whole t = (right_codes g.frames.version (yes g.codes_given) s.codes g.actual_size p.coded t).1

  few_blocks : yes g.codes_given ≡ true → block_count g.actual_size ≤ 32768
  few_blocks t =
      let n : given_bytes g.codes_given s.codes ≡ length s.codes = rw t in
      omega (arith, p.codes_few, whole t)

  module _ (raw : ℕ) (e : raw ≡ raw_length g s.lent.presence (length s.template)) where
    pub total_is : (t : ℕ) (b : Bool) (m : ℕ) → b ≡ yes g.metadata_given → m ≡ given_bytes g.metadata_given s.metadata → t ≡ cond b (13 + m) 1
        → length (file g s) ≡ 15 + (raw + t)
    total_is t b m eb em et =
        file_size g s raw t (length_raw g s whole (framed p.frames) ∙ sym e) (et ∙ ap₂ (λ (x : Bool) (n : ℕ). cond x (13 + n) 1) eb em)

    pub raw_fits : length (slots_of g.frames) ≤ 8 → raw < 4294967296
    raw_fits few =
        let n = g.frames.counts.frames in
        let most = players_most s.lent.presence (slots_of g.frames) n in
        let eight : length (slots_of g.frames) * n ≤ 8 * 1048576 = mul-le-mul few p.frames.modest.frames in
        let small = raw_small g s.lent.presence (length s.template) p.frames.modest (omega arith) (block_fits g.frames.version (length s.template) p.block).1 few_blocks in
        omega arith

    pub file_as : file g s ≡ in_parts g s raw
    file_as = file_parts g s ∙ ap (in_parts g s) (length_raw g s whole (framed p.frames) ∙ sym e)

    pub room : {out : List ℕ} (total : ℕ) → length (file g s) ≡ total → total ≤ length out → Room out 0 (in_parts g s raw)
    room total q h = record { fits = omega (arith, ap length file_as) }
