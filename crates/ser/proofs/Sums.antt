-- The lengths of a file's parts.
-- Assumes nothing.
use mathlib.Core.Path.{◌≡◌, sym, ap, ap₂, ◌∙◌}
use mathlib.Core.Bool.{Bool, true, false, cond}
use mathlib.Core.List.{List}
use Prim.Native.Nat.{ℕ, ◌+◌, ◌*◌, ◌/◌, ◌≤◌, ◌<◌}
use native.Mathlib.Nat.{zero-mul, mul-zero, one-mul, mul-le-mul}
use native.Mathlib.Omega.{arith}
use borrow.Author.Tests.{eq-eqb, ne_eqb}
use lib.ListN.{length}
use Rattle.format.specs.File.{Entry, table_bytes}
use Rattle.format.proofs.Files.{length_table}
use Rattle.format.specs.declared.version.Version.{Version}
use Rattle.layout.specs.Columns.{has_family}
use Rattle.layout.specs.Payloads.{record_size, end_size, entries_of}
use Rattle.format.specs.Mark.{yes}
use Rattle.layout.specs.declared.columns.Family.{Family}
use Rattle.layout.specs.declared.columns.Family.TheVariants.{Pre, Post, FrameStart, Item, FrameEnd, FodPlatform, DreamlandWhispy, StadiumTransformation}
use Rattle.codes.specs.Blocks.{block_count}
use Rattle.ending.specs.Inner.{end_count}
use Rattle.game.specs.declared.end.End.{End}
use Rattle.events.specs.Length.{event_size, frames_length}
use Rattle.ser.specs.Length.{raw_length}
use Rattle.game.specs.declared.Game.{Game}
use Rattle.events.proofs.Sizes.{has_pre, has_post}
use Rattle.game.specs.Frames.{slots_of}
use Rattle.players.specs.Presence.{players_present}
use Rattle.game.specs.declared.frames.Frames.{Frames}

pub table_is_lem : (t : List Entry) (n : ℕ) → n ≡ length t → n ≤ 12 → (2 + 3 * n ≡ length (table_bytes t)) × (2 + 3 * n ≤ 38)
table_is_lem t n e h = (omega (arith, length_table t, e), omega arith)

-- a product of small numbers is small
pub small : (n s : ℕ) → n ≤ 8388608 → s ≤ 256 → n * s ≤ 2147483648
small n s h k = mul-le-mul h k

pub records_are : (v : Version) (family : Family) (n s : ℕ) (b : Bool) → b ≡ has_family v family → b ≡ true → s ≡ record_size family v → n * (1 + s) ≡ n * event_size v family
records_are v family n s b e t p = rw (sym e ∙ t, p)

pub no_records : (v : Version) (family : Family) (n : ℕ) (b : Bool) → b ≡ has_family v family → b ≡ false → 0 ≡ n * event_size v family
no_records v family n b e f = rw (sym e ∙ f) (sym (mul-zero n))

pub blocks_are : (actual p : ℕ) → p ≡ 512 * block_count actual → actual < 4294967296 → (p / 512 ≡ block_count actual) × (block_count actual ≤ 8388608)
unfolding block_count
blocks_are actual p e h = (omega arith, omega arith)

pub no_end : (e : End) (double s : ℕ) → e.given ≡ 0 → 0 ≡ end_count e double * s
no_end e double s h = rw (eq-eqb e.given 0 h) (sym (zero-mul s))

pub one_end : (e : End) (double s : ℕ) → (e.given ≡ 0 → ⊥) → double ≡ 0 → s ≡ end_count e double * s
one_end e double s h d = rw (ne_eqb e.given 0 h, eq-eqb double 0 d) (sym (one-mul s))

pub two_ends : (e : End) (double s : ℕ) → (e.given ≡ 0 → ⊥) → (double ≡ 0 → ⊥) → 2 * s ≡ end_count e double * s
two_ends e double s h d = rw (ne_eqb e.given 0 h, ne_eqb double 0 d)

-- the frames' parts, one after another
pub frames_are : (f : Frames) (bits : List ℕ) (p a b c d e g h i : ℕ) → p ≡ players_present bits (slots_of f) f.counts.frames
    → a ≡ f.counts.frames * event_size f.version FrameStart → b ≡ p * event_size f.version Pre → c ≡ f.counts.fods * event_size f.version FodPlatform
    → d ≡ f.counts.whispys * event_size f.version DreamlandWhispy → e ≡ f.counts.stadiums * event_size f.version StadiumTransformation
    → g ≡ f.counts.items * event_size f.version Item → h ≡ p * event_size f.version Post → i ≡ f.counts.frames * event_size f.version FrameEnd
    → a + (b + (c + (d + (e + (g + (h + i)))))) ≡ frames_length f bits
unfolding frames_length
frames_are f bits p a b c d e g h i ep ea eb ec ed ee eg eh ei =
    ap₂ ◌+◌ ea (ap₂ ◌+◌ (eb ∙ rw (has_pre f.version, ep)) (ap₂ ◌+◌ ec (ap₂ ◌+◌ ed (ap₂ ◌+◌ ee (ap₂ ◌+◌ eg (ap₂ ◌+◌ (eh ∙ rw (has_post f.version, ep)) ei))))))

-- and the parts of the length field
pub raw_is : (g : Game) (presence : List ℕ) (block : ℕ) (given : Bool) (t c f e : ℕ) → given ≡ yes g.codes_given
    → t ≡ length (table_bytes (entries_of g.frames.version block given g.actual_size)) → c ≡ cond given (block_count g.actual_size * 517) 0
    → f ≡ frames_length g.frames presence → e ≡ end_count g.end g.double_end * (1 + end_size g.frames.version)
    → t + (1 + block + (c + (f + e))) ≡ raw_length g presence block
unfolding raw_length
raw_is g presence block given t c f e eg et ec ef ee =
    ap₂ ◌+◌ (et ∙ ap (λ (b : Bool). length (table_bytes (entries_of g.frames.version block b g.actual_size))) eg)
    (ap (λ (n : ℕ). 1 + block + n) (ap₂ ◌+◌ (ec ∙ ap (λ (b : Bool). cond b (block_count g.actual_size * 517) 0) eg) (ap₂ ◌+◌ ef ee)))
