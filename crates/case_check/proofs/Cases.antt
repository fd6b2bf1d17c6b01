-- What the check answers of small files of version 0.1.0: a sound one by each of its freedoms, and one for each rule of the block and of the tail.
-- Assumes nothing.
use Prim.Native.Nat.{ℕ, ◌≤◌}
use mathlib.Core.Path.{◌≡◌, refl, sym, ap, subst, ◌∙◌}
use mathlib.Core.Bool.{Bool, true, false, cond, ◌&&◌}
use mathlib.Core.List.{List, [], ◌∷◌, ◌++◌}
use native.Mathlib.Omega.{arith}
use borrow.Author.Tests.{ltb-true}
use lib.Dec.{lit<, lit≤, ltb}
use lib.ListN.{length, get_or, replicate}
use Rattle.wire.specs.Wire.{be, more, part, keep, splice}
use Rattle.format.specs.Event.{signature}
use Rattle.format.specs.Refusal.{lowest}
use Rattle.format.specs.File.{Entry, Ev, codes, entries_bytes, table_bytes, events_bytes, file_of}
use Rattle.format.specs.Version.{version, above, gte_of, accepted_of}
use Rattle.format.specs.declared.version.Version.{Version}
use Rattle.format.proofs.Versions.{no_way}
use Rattle.layout.specs.Columns.{has_family, columns_of, chosen, sum}
use Rattle.layout.specs.Payloads.{end_size, entries_of, listed, payload_size}
use Rattle.start.specs.Length.{length_of, reached}
use Rattle.ending.specs.Tail.{metadata_of, tail_of}
use Rattle.head.specs.Table.{starts_with, entries_in, table_of, unsigned, untabled, head_refusal}
use Rattle.head.specs.Step.{step_of}
use Rattle.de.specs.Walk.{run, walk_of}
use Rattle.de.specs.Cut.{events_read}
use Rattle.map.specs.Map.{text, empty, entry, text_bytes, value_bytes, body_of, fits_value, fits, has, same, twice_value, twice_in}
use Rattle.map_reader.specs.Answer.{whole_map}
use Rattle.map_reader.specs.Read as reader
use Rattle.measure.specs.Game.{bare, has_body, tail_kind}
use Rattle.grammar.specs.Productions.{Player, Frame, Replay, pre_event, post_event, start_event, end_event, codes_events, events_of_frame, events_of_frames, events_of, used_in}
use Rattle.grammar.specs.WellFormed.{Each, anyhow, nobody, may_precede, may_come, InOrder, GoodPlayer, GoodFrame, GoodCodes, WellFormed}
use Rattle.grammar.specs.Sound.{table_for, SoundEvents, Metadata, Sound}
use Rattle.grammar.specs.Whole.{says_version, is_start, is_block, is_last, is_full, blocks_rest, codes_rest, on_some, is_replay}
use Rattle.grammar.proofs.Tests.{both}
use Rattle.grammar.proofs.Each.{each_so}
use Rattle.grammar.proofs.Exactly.{Byte}
use Rattle.grammar.proofs.Whole.{Comes, whole}
use Rattle.read_judge.specs.Found.{version_of, early_refusal}
use Rattle.law_sound.proofs.Read as read
use Rattle.check_file.specs.Check.{Answer, early, events, tail, sound}
use Rattle.check_file.specs.Inner.{is_body, is_tail}
use Rattle.check_file.proofs.Proper.{tail_right}
use Rattle.frames.proofs.Opens.{opens_table}
use Rattle.read_judge.proofs.Opens.{opens_early, opens_machine}

abbrev old : Version
old = version 0 1 0

abbrev one : ℕ → ℕ → Entry
one c n = record { code = c; size = n }

abbrev start : List ℕ
start = 0 ∷ 1 ∷ 0 ∷ replicate 317 9

-- ---- a replay with all freedoms: ports 3 and 0, the latter's follower right behind it; the same id again, with another order; ends that are unlike; seats of type 9

abbrev who : ℕ → ℕ → Player
who port follower = record { port = port; follower = follower; pre = replicate 52 0; post = replicate 27 0 }

abbrev frame : List Player → Frame
frame ps = record { id = 5; start = []; players = ps; fods = []; whispys = []; stadiums = []; items = []; end = [] }

abbrev free : Replay
free = record { block = start; codes = []; frames = frame (who 3 0 ∷ who 0 0 ∷ who 0 1 ∷ []) ∷ frame (who 0 1 ∷ who 3 0 ∷ []) ∷ []; ends = (1 ∷ []) ∷ (2 ∷ []) ∷ [] }

good_who : (port follower : ℕ) → port ≤ 3 → follower ≤ 1 → GoodPlayer old (who port follower)
unfolding gte_of above columns_of chosen sum
good_who port follower p f = record { port = p; follower = f; pre = refl; post = refl }

free_well : WellFormed old anyhow free
unfolding Each InOrder may_come may_precede nobody GoodCodes length_of reached end_size gte_of above columns_of chosen sum
free_well = record {
  version = refl;
  block = lit≤ tt;
  short = lit< tt;
  codes = tt;
  frames = (
    record {
      id = lit< tt;
      start = refl;
      players = (good_who 3 0 (lit≤ tt) (lit≤ tt), (good_who 0 0 (lit≤ tt) (lit≤ tt), (good_who 0 1 (lit≤ tt) (lit≤ tt), tt)));
      slots = (refl, (refl, (refl, tt)));
      somebody = λ e. lit< tt;
      fods = tt;
      whispys = tt;
      stadiums = tt;
      items = tt;
      end = refl;
    },
    (
      record {
        id = lit< tt;
        start = refl;
        players = (good_who 0 1 (lit≤ tt) (lit≤ tt), (good_who 3 0 (lit≤ tt) (lit≤ tt), tt));
        slots = (refl, (refl, tt));
        somebody = λ e. lit< tt;
        fods = tt;
        whispys = tt;
        stadiums = tt;
        items = tt;
        end = refl;
      },
      tt,
    ),
  );
  few = lit≤ tt;
  ends = (refl, (refl, tt));
}

-- Pre 5, Post 5, Pre 5, Post 5: before 2.2 these are two frames
abbrev again : Replay
again = record { block = start; codes = []; frames = frame (who 1 0 ∷ []) ∷ frame (who 1 0 ∷ []) ∷ []; ends = [] }

again_well : WellFormed old anyhow again
unfolding Each InOrder may_come may_precede nobody GoodCodes length_of reached end_size gte_of above columns_of chosen sum
again_well =
    let one-frame : GoodFrame old anyhow (frame (who 1 0 ∷ [])) = record {
      id = lit< tt;
      start = refl;
      players = (good_who 1 0 (lit≤ tt) (lit≤ tt), tt);
      slots = (refl, tt);
      somebody = λ e. lit< tt;
      fods = tt;
      whispys = tt;
      stadiums = tt;
      items = tt;
      end = refl;
    } in
    record { version = refl; block = lit≤ tt; short = lit< tt; codes = tt; frames = (one-frame, (one-frame, tt)); few = lit≤ tt; ends = tt }

-- the body U 1 a S U 1 b
abbrev body : List ℕ
body = 0x55 ∷ 1 ∷ 0x61 ∷ 0x53 ∷ 0x55 ∷ 1 ∷ 0x62 ∷ []

body_read : Metadata body
unfolding body_of value_bytes text_bytes fits fits_value twice_in twice_value has
body_read = record { map = entry (0x61 ∷ []) (text (0x62 ∷ [])) empty; proper = record { fit = (lit< tt, lit< tt, tt); once = refl }; small = lit≤ tt; body_is = refl }

abbrev file : Replay → List ℕ → List ℕ
file r t = file_of (table_for old false r) (events_of old r) t

free_events : SoundEvents (file free (tail_of true body))
unfolding accepted_of above entries_of chosen listed payload_size has_family gte_of columns_of sum end_size used_in events_of codes_events events_of_frames events_of_frame keep table_bytes entries_bytes events_bytes be
free_events = record { version = old; listed = false; replay = free; tail = tail_of true body; accepted = refl; well = free_well; unlisted = λ e. refl; fits = lit< tt; file_is = refl }

free_sound : Sound (file free (tail_of true body))
unfolding free_events
free_sound = record { events = free_events; proper = record { given = true; body = body; metadata = λ e. body_read; tail_is = refl } }

yes : Answer (file free (tail_of true body)) 0 0
yes = sound free_sound refl refl

again_events : SoundEvents (file again (0x7d ∷ []))
unfolding accepted_of above entries_of chosen listed payload_size has_family gte_of columns_of sum end_size used_in events_of codes_events events_of_frames events_of_frame keep table_bytes entries_bytes events_bytes be
again_events = record { version = old; listed = false; replay = again; tail = 0x7d ∷ []; accepted = refl; well = again_well; unlisted = λ e. refl; fits = lit< tt; file_is = refl }

same_id_again : Answer (file again (0x7d ∷ [])) 0 0
unfolding again_events tail_of keep
same_id_again = sound (record { events = again_events; proper = record { given = false; body = []; metadata = λ e. no_way e; tail_is = refl } }) refl refl

-- ---- the smallest file, and what is wrong round it

abbrev small : Replay
small = record { block = start; codes = []; frames = []; ends = [] }

small_well : WellFormed old anyhow small
unfolding Each GoodCodes length_of reached gte_of above
small_well = record { version = refl; block = lit≤ tt; short = lit< tt; codes = tt; frames = tt; few = lit≤ tt; ends = tt }

small_block : (t : List ℕ) → SoundEvents (file small t)
unfolding accepted_of above entries_of chosen listed payload_size has_family gte_of columns_of sum end_size used_in events_of codes_events events_of_frames keep table_bytes entries_bytes events_bytes be
small_block t = record { version = old; listed = false; replay = small; tail = t; accepted = refl; well = small_well; unlisted = λ e. refl; fits = lit< tt; file_is = refl }

-- 23: two braces; a map that has a key twice
odd_tail : (t : List ℕ) → is_tail t ≡ false → Answer (file small t) 23 0
unfolding small_block
odd_tail t e =
    tail (small_block t)
    (λ x. let z : ◌≡◌ {A = ℕ} 0 1 = ap (λ (b : Bool). cond b 0 1) (sym (tail_right (file small t) x) ∙ ap is_tail (read.tail_is (file small t) (small_block t)) ∙ e) in omega arith) refl refl

two_braces : Answer (file small (0x7d ∷ 0x7d ∷ [])) 23 0
unfolding is_tail tail_kind bare has_body
two_braces = odd_tail (0x7d ∷ 0x7d ∷ []) refl

key_twice : Answer (file small (tail_of true (body ++ body))) 23 0
unfolding is_tail tail_kind bare has_body starts_with tail_of metadata_of keep is_body part whole_map reader.map_entries_in reader.value_in reader.key_wrong reader.text_stop reader.text_of has same reader.inside
key_twice = odd_tail (tail_of true (body ++ body)) refl

-- 19: a length field that says one byte more than there is
abbrev cut : List ℕ
cut = splice (file small []) 11 (be 4 336)

cut_short : Answer cut 19 0
unfolding opens_early opens_table codes_events events_of_frames events_of used_in splice
cut_short = events refl (λ x. let z : ◌≡◌ {A = ℕ} 0 1 = ap (λ (b : Bool). cond b 0 1) (sym (read.present cut x)) in omega arith) refl refl

-- 19: Post is listed before Pre
abbrev swapped : List ℕ
swapped = file_of (one 0x36 320 ∷ one 0x38 33 ∷ one 0x37 58 ∷ one 0x39 1 ∷ []) (start_event start ∷ []) (0x7d ∷ [])

second_listed : (f : List ℕ) (x : SoundEvents f) → version_of f ≡ old → get_or (codes (table_of f)) 1 0 ≡ 0x37
unfolding entries_of chosen listed payload_size has_family gte_of above
second_listed f x e =
    ap (λ (t : List Entry). get_or (codes t) 1 0) (read.table_is_lem f x ∙ ap (λ (v : Version). table_for v x.listed x.replay) (sym (read.version_is f x) ∙ e)) ∙ go x.listed
  where
    go : (g : Bool) → get_or (codes (table_for old g x.replay)) 1 0 ≡ 0x37
    go true = refl
    go false = refl

listed_first : Answer swapped 19 0
unfolding opens_early
listed_first = events refl (λ x. let z : ◌≡◌ {A = ℕ} 0x38 0x37 = second_listed swapped x refl in omega arith) refl refl

-- 19: the table has an entry more
abbrev longer : List ℕ
longer = file_of (one 0x36 320 ∷ one 0x37 58 ∷ one 0x38 33 ∷ one 0x39 1 ∷ one 0x42 4 ∷ []) (start_event start ∷ []) (0x7d ∷ [])

four_listed : (f : List ℕ) (x : SoundEvents f) → version_of f ≡ old → length (table_of f) ≡ 4
unfolding entries_of chosen listed payload_size has_family gte_of above
four_listed f x e =
    ap length (read.table_is_lem f x ∙ ap (λ (v : Version). table_for v x.listed x.replay) (sym (read.version_is f x) ∙ e)) ∙ go x.listed
  where
    go : (g : Bool) → length (table_for old g x.replay) ≡ 4
    go true = refl
    go false = refl

listed_more : Answer longer 19 0
unfolding opens_early
listed_more = events refl (λ x. let z : ◌≡◌ {A = ℕ} 5 4 = four_listed longer x refl in omega arith) refl refl

-- ---- 19: events that no replay has

under : List ℕ → Bool
under [] = true
under (x ∷ xs) = ltb x 256 && under xs

all_under : List Ev → Bool
all_under [] = true
all_under (e ∷ es) = under e.payload && all_under es

under_each : (l : List ℕ) → under l ≡ true → Each Byte l
unfolding under Each
under_each [] h = tt
under_each (x ∷ xs) h = let (a, b) = both (ltb x 256) (under xs) h in (ltb-true x 256 a, under_each xs b)

all_each : (es : List Ev) → all_under es ≡ true → Each (λ e. Each Byte e.payload) es
unfolding all_under Each
all_each [] h = tt
all_each (e ∷ es) h = let (a, b) = both (under e.payload) (all_under es) h in (under_each e.payload a, all_each es b)

-- no number comes before, its events are of bytes, and the tests say that no replay has them
abbrev Refuted : List ℕ → Type 0
Refuted f = (early_refusal f ≡ 0) × (all_under (events_read f) ≡ true) × (is_replay (version_of f) anyhow (events_read f) ≡ false)

not_replay : (f : List ℕ) → Refuted f → Answer f 19 0
not_replay f (e, b, n) =
    events e
    (λ x.
    let v = read.version_is f x in
    let comes : Comes (version_of f) anyhow (events_read f) = record {
      replay = x.replay;
      well = subst (λ (w : Version). WellFormed w anyhow x.replay) (sym v) x.well;
      events_are = read.events_are f x ∙ ap (λ (w : Version). events_of w x.replay) (sym v);
    } in
    let z : ◌≡◌ {A = ℕ} 0 1 = ap (λ (t : Bool). cond t 0 1) (sym ((whole (version_of f) anyhow (events_read f) (all_each (events_read f) b)).1 comes) ∙ n) in omega arith) refl refl

abbrev with : List Ev → List ℕ
with es = file_of (one 0x36 320 ∷ one 0x37 58 ∷ one 0x38 33 ∷ one 0x39 1 ∷ []) (start_event start ∷ es) (0x7d ∷ [])

abbrev pre : ℕ → ℕ → Ev
pre port follower = pre_event 5 (who port follower)

abbrev post : ℕ → ℕ → Ev
post port follower = post_event 5 (who port follower)

-- Posts in another order than the Pres; a follower before its leader; a follower apart from it; a player twice; port 4; follower 2; a Pre without its Post; a Post
-- without its Pre; a Post of another id; three ends; a frame behind an end; two starts
abbrev broken : List (List Ev)
broken =
    (pre 3 0 ∷ pre 0 0 ∷ post 0 0 ∷ post 3 0 ∷ [])
    ∷ (pre 0 1 ∷ pre 0 0 ∷ post 0 1 ∷ post 0 0 ∷ [])
    ∷ (pre 0 0 ∷ pre 3 0 ∷ pre 0 1 ∷ post 0 0 ∷ post 3 0 ∷ post 0 1 ∷ [])
    ∷ (pre 2 0 ∷ pre 2 0 ∷ post 2 0 ∷ post 2 0 ∷ [])
    ∷ (pre 4 0 ∷ post 4 0 ∷ [])
    ∷ (pre 1 2 ∷ post 1 2 ∷ [])
    ∷ (pre 1 0 ∷ [])
    ∷ (post 1 0 ∷ [])
    ∷ (pre 1 0 ∷ post_event 6 (who 1 0) ∷ [])
    ∷ (end_event (1 ∷ []) ∷ end_event (1 ∷ []) ∷ end_event (1 ∷ []) ∷ [])
    ∷ (end_event (1 ∷ []) ∷ pre 1 0 ∷ post 1 0 ∷ [])
    ∷ (start_event start ∷ [])
    ∷ []

all_broken : Each (λ es. Refuted (with es)) broken
unfolding opens_early opens_machine Each under all_under
all_broken = ((refl, refl, refl), ((refl, refl, refl), ((refl, refl, refl), ((refl, refl, refl), ((refl, refl, refl), ((refl, refl, refl), ((refl, refl, refl), ((refl, refl, refl), ((refl, refl, refl), ((refl, refl, refl), ((refl, refl, refl), ((refl, refl, refl), tt))))))))))))

each_broken : Each (λ es. Answer (with es) 19 0) broken
each_broken = each_so (λ es. Refuted (with es)) (λ es. Answer (with es) 19 0) broken (λ es. not_replay (with es)) all_broken

-- ---- 19: blocks of codes, at 3.3.0

abbrev coded : List Ev → List ℕ
coded bs = file_of (entries_of (version 3 3 0) 418 true 1) (start_event (3 ∷ 3 ∷ 0 ∷ replicate 415 0) ∷ bs) (0x7d ∷ [])

abbrev of_codes : ℕ → ℕ → ℕ → Ev
of_codes used kind last = record { code = 0x10; payload = replicate 512 0 ++ (be 2 used ++ (kind ∷ last ∷ [])) }

-- a flag of 2; a last block of no codes, or of 513 bytes; another code than 3D; no last block; one that is not full before the last
abbrev broken_blocks : List (List Ev)
broken_blocks =
    (of_codes 1 0x3d 2 ∷ [])
    ∷ (of_codes 0 0x3d 1 ∷ [])
    ∷ (of_codes 513 0x3d 1 ∷ [])
    ∷ (of_codes 1 0x3c 1 ∷ [])
    ∷ (of_codes 512 0x3d 0 ∷ [])
    ∷ (of_codes 511 0x3d 0 ∷ of_codes 1 0x3d 1 ∷ [])
    ∷ []

all_blocks : Each (λ bs. Refuted (coded bs)) broken_blocks
unfolding opens_early Each under all_under gte_of has_family columns_of chosen sum end_size length_of reached entries_of listed payload_size is_replay is_start says_version is_block is_last is_full blocks_rest codes_rest on_some
all_blocks = ((refl, refl, refl), ((refl, refl, refl), ((refl, refl, refl), ((refl, refl, refl), ((refl, refl, refl), ((refl, refl, refl), tt))))))

each_blocks : Each (λ bs. Answer (coded bs) 19 0) broken_blocks
each_blocks = each_so (λ bs. Refuted (coded bs)) (λ bs. Answer (coded bs) 19 0) broken_blocks (λ bs. not_replay (coded bs)) all_blocks

-- ---- numbers before the second 19

-- 14: a file of no byte
no_byte : Answer [] 14 0
unfolding lowest starts_with unsigned untabled head_refusal step_of run walk_of early_refusal
no_byte = early (λ z. omega arith) refl refl

abbrev file_of_lem : ℕ → Ev → List ℕ
file_of_lem size e = file_of (one 0x36 size ∷ []) (e ∷ []) (0x7d ∷ [])

abbrev event : ℕ → List ℕ → Ev
event c bytes = record { code = c; payload = bytes }

-- 15: nothing behind the length; 16: a code that is not listed; 17: an event past the data's end; 19: another event first, or one of three bytes; 1: 3.18.1
early_numbers : Answer (signature ++ be 4 0) 15 15
    × Answer (file_of_lem 4 (event 0x99 [])) 16 20
    × Answer (file_of_lem 4 (event 0x36 (3 ∷ []))) 17 20
    × Answer (file_of (one 0x39 1 ∷ []) (event 0x39 (0 ∷ []) ∷ []) (0x7d ∷ [])) 19 0
    × Answer (file_of_lem 3 (event 0x36 (0 ∷ 1 ∷ 0 ∷ []))) 19 0
    × Answer (file_of_lem 4 (event 0x36 (3 ∷ 18 ∷ 1 ∷ 0 ∷ []))) 1 0
unfolding opens_early
early_numbers = (
  early (λ z. omega arith) refl refl,
  early (λ z. omega arith) refl refl,
  early (λ z. omega arith) refl refl,
  early (λ z. omega arith) refl refl,
  early (λ z. omega arith) refl refl,
  early (λ z. omega arith) refl refl,
)
