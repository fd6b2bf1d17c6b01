-- The files of the worked cases are sound: those of cases 1, 6, 7, 8 and 9; that of case 11 is case 6's.
-- Assumes nothing.
use Prim.Native.Nat.{ℕ, zero, suc, ◌^◌, ◌<◌}
use mathlib.Core.Path.{◌≡◌, refl, sym, ap, ◌∙◌}
use mathlib.Core.Bool.{false}
use mathlib.Core.List.{List, []}
use lib.Dec.{lit<}
use lib.ListN.{get_or, replicate}
use Rattle.format.specs.Mark.{yes}
use Rattle.format.proofs.Versions.{no_way}
use Rattle.game.specs.Stores.{Stores}
use Rattle.game.specs.declared.Game.{Game}
use Rattle.ser.specs.Write.{file, refusal}
use Rattle.law_tree.proofs.Good.{Bytes}
use Rattle.case_table.specs.Games.{block_alone, one_frame}
use Rattle.case_table.specs.Table.{answer, least, short, coded, cases, case_at, expected_at}
use Rattle.case_table.proofs.Computed.{case_holds}
use Rattle.check_file.specs.Check.{Answer, sound}
use Rattle.law_check.proofs.Written.{written_sound}

-- a game without metadata, and with one frame of id 0 or none
none_lent : (i : ℕ) → get_or {A = ℕ} [] i 0 < 2 ^ 32
none_lent i = lit< tt

one_lent : (i : ℕ) → get_or (replicate 1 0) i 0 < 2 ^ 32
one_lent zero = lit< tt
one_lent (suc i) = lit< tt

worked : (g : Game) (s : Stores) (room : ℕ) → refusal g s room ≡ 0 → ((i : ℕ) → get_or s.lent.cells.ids i 0 < 2 ^ 32) → Bytes g.frames.version → yes g.metadata_given ≡ false
    → Answer (file g s) 0 0
worked g s room accepted ids version none = sound (written_sound g s room accepted ids version (λ e. no_way (sym none ∙ e))) refl refl

-- a row of the table, whose first number is the refusal
first_number : (i : ℕ) → i < 17 → get_or (answer (case_at i).asked) 0 0 ≡ get_or (expected_at i) 0 0
first_number i l = ap (λ (numbers : List ℕ). get_or numbers 0 0) (case_holds i l)

case_1 : Answer (file least (block_alone (replicate 320 0))) 0 0
unfolding cases
case_1 = worked least (block_alone (replicate 320 0)) 351 (first_number 0 (lit< tt)) none_lent (record { major = lit< tt; minor = lit< tt; patch = lit< tt }) refl

case_6 : Answer (file short (one_frame [])) 0 0
unfolding cases
case_6 = worked short (one_frame []) 990 (first_number 5 (lit< tt)) one_lent (record { major = lit< tt; minor = lit< tt; patch = lit< tt }) refl

case_7 : Answer (file (coded 513) (one_frame (replicate 1024 0))) 0 0
unfolding cases
case_7 = worked (coded 513) (one_frame (replicate 1024 0)) 2030 (first_number 6 (lit< tt)) one_lent (record { major = lit< tt; minor = lit< tt; patch = lit< tt }) refl

case_8 : Answer (file (coded 512) (one_frame (replicate 512 0))) 0 0
unfolding cases
case_8 = worked (coded 512) (one_frame (replicate 512 0)) 1513 (first_number 8 (lit< tt)) one_lent (record { major = lit< tt; minor = lit< tt; patch = lit< tt }) refl

case_9 : Answer (file (coded 65536) (one_frame (replicate 65536 0))) 0 0
unfolding cases
case_9 = worked (coded 65536) (one_frame (replicate 65536 0)) 67172 (first_number 10 (lit< tt)) one_lent (record { major = lit< tt; minor = lit< tt; patch = lit< tt }) refl
