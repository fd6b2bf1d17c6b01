-- Two start blocks byte by byte, and the bytes of match ids, cleared and kept. The template's bytes are 170: they stay wherever the version writes no field.
-- Assumes nothing.
use mathlib.Core.Path.{◌≡◌, refl}
use mathlib.Core.List.{List, [], ◌∷◌, ◌++◌, map}
use Prim.Native.Nat.{ℕ}
use lib.ListN.{replicate}
use Rattle.wire.specs.Wire.{be, splice, keep, part}
use Rattle.format.specs.Version.{version, above, gte_of}
use Rattle.game.specs.MatchTails.{match_tail_of}
use Rattle.game.specs.declared.start.MatchTail.{MatchTail}
use Rattle.game.specs.declared.start.MatchTail.TheVariants.{Cleared, Kept}
use Rattle.start.proofs.Samples.{letters, netplay, player, nobody, start, start_tailed}
use Rattle.patch.specs.Patch.{patched}
use Rattle.patch.specs.Field.{zero_filled}
use Rattle.start.specs.Block.{game_fields, player_fields, text_fields, port_fields, seats_fields, mode_fields, match_fields, fields, start_block}

joined : List (List ℕ) → List ℕ
joined [] = []
joined (xs ∷ xss) = xs ++ joined xss

stays : ℕ → List ℕ
stays n = replicate n 170

zeros : ℕ → List ℕ
zeros n = replicate n 0

letter : ℕ → List ℕ
letter n = replicate n 65

-- 3.18.0, in port 1 a CPU with a team: all is written, and after the match id one zero, its tail kept
newest : start_block (version 3 18 0) (start (nobody ∷ player 1 1 1 1 1 3 (netplay 1 1 30 9 28) ∷ nobody ∷ nobody ∷ []) 1 4) (stays 760)
    ≡ joined
    ((3 ∷ 18 ∷ 0 ∷ [])  -- 0
    ∷ stays 1
    ∷ (1 ∷ 2 ∷ 3 ∷ 4 ∷ [])  -- 4
    ∷ stays 2
    ∷ (0 ∷ [])  -- 10
    ∷ stays 1
    ∷ (1 ∷ [])  -- 12
    ∷ stays 2
    ∷ (255 ∷ 254 ∷ [])  -- 15
    ∷ stays 1
    ∷ (0x1f ∷ 0x20 ∷ [])  -- 18
    ∷ (0 ∷ 0 ∷ 1 ∷ 224 ∷ [])  -- 20
    ∷ stays 15
    ∷ (5 ∷ 6 ∷ 7 ∷ 8 ∷ 9 ∷ [])  -- 39
    ∷ stays 8
    ∷ (63 ∷ 128 ∷ 0 ∷ 0 ∷ [])  -- 52
    ∷ stays 44
    ∷ stays 36
    ∷ (10 ∷ 1 ∷ 4 ∷ 2 ∷ [])  -- 136
    ∷ stays 3
    ∷ (3 ∷ 9 ∷ 1 ∷ [])  -- 143
    ∷ stays 2
    ∷ (192 ∷ [])  -- 148
    ∷ stays 2
    ∷ (7 ∷ [])  -- 151
    ∷ (1 ∷ 2 ∷ 3 ∷ 4 ∷ [])  -- 152
    ∷ stays 4
    ∷ (63 ∷ 128 ∷ 0 ∷ 0 ∷ [])  -- 160
    ∷ (63 ∷ 128 ∷ 0 ∷ 1 ∷ [])  -- 164
    ∷ (63 ∷ 128 ∷ 0 ∷ 2 ∷ [])  -- 168
    ∷ stays 144
    ∷ (10 ∷ 11 ∷ 12 ∷ 13 ∷ [])  -- 316
    ∷ stays 8
    ∷ (0 ∷ 0 ∷ 0 ∷ 1 ∷ [])  -- 328
    ∷ (1 ∷ 2 ∷ 3 ∷ 4 ∷ [])  -- 332
    ∷ stays 16
    ∷ stays 16
    ∷ letter 3  -- 368
    ∷ zeros 13  -- 371
    ∷ stays 32
    ∷ (1 ∷ [])  -- 416
    ∷ (0 ∷ [])  -- 417
    ∷ (11 ∷ 12 ∷ [])  -- 418
    ∷ stays 31
    ∷ letter 30  -- 451
    ∷ zeros 1  -- 481
    ∷ stays 62
    ∷ stays 10
    ∷ letter 9  -- 554
    ∷ zeros 1  -- 563
    ∷ stays 20
    ∷ stays 29
    ∷ letter 28  -- 613
    ∷ zeros 1  -- 641
    ∷ stays 58
    ∷ (1 ∷ [])  -- 700
    ∷ letter 4  -- 701
    ∷ zeros 1  -- 705
    ∷ stays 46
    ∷ (0 ∷ 0 ∷ 0 ∷ 5 ∷ [])  -- 752
    ∷ (0 ∷ 0 ∷ 0 ∷ 6 ∷ [])  -- 756
    ∷ [])
unfolding joined stays zeros letter start_block fields game_fields player_fields text_fields port_fields seats_fields mode_fields match_fields patched splice be keep zero_filled gte_of above
newest = refl

-- 0.1.0, in port 3 a human without a team, and a template of 330 bytes: no shade, no colour, no level, and nothing from 320 on
oldest : start_block (version 0 1 0) (start (nobody ∷ nobody ∷ nobody ∷ player 0 0 1 1 1 3 (netplay 1 1 30 9 28) ∷ []) 1 4) (stays 330)
    ≡ joined
    ((0 ∷ 1 ∷ 0 ∷ [])  -- 0
    ∷ stays 1
    ∷ (1 ∷ 2 ∷ 3 ∷ 4 ∷ [])  -- 4
    ∷ stays 2
    ∷ (0 ∷ [])  -- 10
    ∷ stays 1
    ∷ (1 ∷ [])  -- 12
    ∷ stays 2
    ∷ (255 ∷ 254 ∷ [])  -- 15
    ∷ stays 1
    ∷ (0x1f ∷ 0x20 ∷ [])  -- 18
    ∷ (0 ∷ 0 ∷ 1 ∷ 224 ∷ [])  -- 20
    ∷ stays 15
    ∷ (5 ∷ 6 ∷ 7 ∷ 8 ∷ 9 ∷ [])  -- 39
    ∷ stays 8
    ∷ (63 ∷ 128 ∷ 0 ∷ 0 ∷ [])  -- 52
    ∷ stays 44
    ∷ stays 108
    ∷ (10 ∷ 0 ∷ 4 ∷ 2 ∷ [])  -- 208
    ∷ stays 4
    ∷ (9 ∷ [])  -- 216
    ∷ stays 3
    ∷ (192 ∷ [])  -- 220
    ∷ stays 3
    ∷ (1 ∷ 2 ∷ 3 ∷ 4 ∷ [])  -- 224
    ∷ stays 4
    ∷ (63 ∷ 128 ∷ 0 ∷ 0 ∷ [])  -- 232
    ∷ (63 ∷ 128 ∷ 0 ∷ 1 ∷ [])  -- 236
    ∷ (63 ∷ 128 ∷ 0 ∷ 2 ∷ [])  -- 240
    ∷ stays 72
    ∷ (10 ∷ 11 ∷ 12 ∷ 13 ∷ [])  -- 316
    ∷ stays 10
    ∷ [])
unfolding joined stays zeros letter start_block fields game_fields player_fields text_fields port_fields seats_fields mode_fields match_fields patched splice be keep zero_filled gte_of above
oldest = refl

-- ---- the match id's tail

-- the 51 bytes from 701 on, for an id of so many bytes
id_bytes : MatchTail → ℕ → List ℕ
id_bytes tail n = part (start_block (version 3 18 0) (start_tailed tail (nobody ∷ nobody ∷ nobody ∷ nobody ∷ []) 1 (letters n)) (stays 760)) 701 51

cleared : map (id_bytes Cleared) (0 ∷ 1 ∷ 49 ∷ 50 ∷ []) ≡ zeros 51 ∷ (letter 1 ++ zeros 50) ∷ (letter 49 ++ zeros 2) ∷ (letter 50 ++ zeros 1) ∷ []
unfolding id_bytes part stays zeros letter start_block fields game_fields seats_fields mode_fields match_fields patched splice be keep gte_of above
cleared = refl

kept : map (id_bytes Kept) (0 ∷ 1 ∷ 49 ∷ 50 ∷ [])
    ≡ (zeros 1 ++ stays 50) ∷ (letter 1 ++ (zeros 1 ++ stays 49)) ∷ (letter 49 ++ (zeros 1 ++ stays 1)) ∷ (letter 50 ++ zeros 1) ∷ []
unfolding id_bytes part stays zeros letter start_block fields game_fields seats_fields mode_fields match_fields patched splice be keep gte_of above
kept = refl

-- every number but 0 is kept
ways : map match_tail_of (0 ∷ 1 ∷ 2 ∷ 255 ∷ []) ≡ Cleared ∷ Kept ∷ Kept ∷ Kept ∷ []
ways = refl
