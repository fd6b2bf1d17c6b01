-- The laws of the tests that refuse a start.
-- Assumes nothing.
use mathlib.Core.Path.{◌≡◌, refl, sym, ◌∙◌}
use mathlib.Core.Bool.{Bool, true, false, ◌&&◌}
use mathlib.Core.List.{List, [], ◌∷◌, map}
use Prim.Native.Nat.{ℕ, zero, suc, ◌+◌, ◌≤◌, ◌<◌}
use native.Mathlib.Numerals.{add-one}
use native.Mathlib.Omega.{arith}
use lib.Dec.{ltb, eqb}
use lib.ListN.{length, get_or, drop}
use lib.Seq.{drop-cons}
use borrow.Author.Tests.{ltb-false, lt-ltb, le-ltb, eq-eqb, ne_eqb}
use Rattle.format.specs.declared.version.Version.{Version}
use Rattle.format.proofs.Tests.{or_none, one_last, one_passed}
use Rattle.format.specs.Mark.{yes}
use Rattle.format.specs.Refusal.{one_of}
use Rattle.patch.specs.Field.{zero_inside}
use Rattle.start.specs.declared.gate.Gate.{Gate}
use Rattle.start.specs.Gate.{reaches, tag_from, netplay_from, suid_from, match_from}
use Rattle.start.specs.Length.{length_of}
use Rattle.start.specs.Refusal.{block_wrong, too_long, holds_zero, text_too_long, text_holds_zero, bad_seat, bad_start}
use Rattle.game.specs.declared.start.Text.{Text}
use Rattle.game.specs.declared.start.Seat.{Seat}
use Rattle.game.specs.declared.start.Start.{Start}

-- ---- the block's length; `l` is the code's

pub block_short : (v : Version) (n l : ℕ) → l ≡ length_of v → n < l → true ≡ block_wrong v n
unfolding block_wrong
block_short v n l e h = rw (lt-ltb n (length_of v) (omega (arith, e)))

pub block_else : (v : Version) (n l : ℕ) → l ≡ length_of v → l ≤ n → ltb 65535 n ≡ block_wrong v n
unfolding block_wrong
block_else v n l e h = rw (le-ltb n (length_of v) (omega (arith, e)))

pub block_fits : (v : Version) (n : ℕ) → block_wrong v n ≡ false → (length_of v ≤ n) × (n ≤ 65535)
unfolding block_wrong
block_fits v n e = let (a, b) = or_none (ltb n (length_of v)) (ltb 65535 n) e in (ltb-false n (length_of v) a, ltb-false 65535 n b)

-- ---- a list of tests, one by one; `on` is the code's answer to the first
module _ (on b : Bool) (bs : List Bool) (asked : on ≡ b) where
  pub one_here : on ≡ true → true ≡ one_of (b ∷ bs)
  unfolding one_of
  one_here e = rw (sym asked ∙ e)

  pub one_later : (r : Bool) → on ≡ false → r ≡ one_of bs → r ≡ one_of (b ∷ bs)
  unfolding one_of
  one_later r e h = rw (sym asked ∙ e) h

pub one_above : (a b : ℕ) (bs : List Bool) → a < b → true ≡ one_of (ltb a b ∷ bs)
one_above a b bs h = one_here true (ltb a b) bs (sym (lt-ltb a b h)) refl

pub none_above : (a b : ℕ) (bs : List Bool) (r : Bool) → b ≤ a → r ≡ one_of bs → r ≡ one_of (ltb a b ∷ bs)
none_above a b bs r h = one_later false (ltb a b) bs (sym (le-ltb a b h)) r refl

pub ruleset tests = (one_here, one_later, one_last, one_above, none_above)

-- ---- a test that is asked only where another holds
pub asked_on : (on g b : Bool) → on ≡ g → on ≡ true → b ≡ (g && b)
asked_on on g b e h = rw (sym e ∙ h)

pub asked_off : (on g b : Bool) → on ≡ g → on ≡ false → false ≡ (g && b)
asked_off on g b e h = rw (sym e ∙ h)

pub equal_on : (x y : ℕ) (b : Bool) → x ≡ y → b ≡ (eqb x y && b)
equal_on x y b e = asked_on true (eqb x y) b (sym (eq-eqb x y e)) refl

pub equal_off : (x y : ℕ) (b : Bool) → (x ≡ y → ⊥) → false ≡ (eqb x y && b)
equal_off x y b e = asked_off false (eqb x y) b (sym (ne_eqb x y e)) refl

pub given_on : (m : ℕ) (r b : Bool) → (m ≡ 0 → ⊥) → r ≡ b → r ≡ (yes m && b)
given_on m r b e h = rw (ne_eqb m 0 e) h

pub given_off : (m : ℕ) (b : Bool) → m ≡ 0 → false ≡ (yes m && b)
given_off m b e = rw (eq-eqb m 0 e)

-- ---- what is known of a start that is not refused

unasked : (a b : Bool) → (a && b) ≡ false → a ≡ true → b ≡ false
unasked true b e h = e
unasked false b e h = cc

pub short_text : (v : Version) (g : Gate) (limit : ℕ) (t : Text) → too_long v g limit t ≡ false → reaches v g ≡ true → t.len ≤ limit
unfolding too_long
short_text v g limit t e on = ltb-false limit t.len (unasked (reaches v g) (ltb limit t.len) e on)

pub clean_text : (v : Version) (g : Gate) (t : Text) → holds_zero v g t ≡ false → reaches v g ≡ true → zero_inside t ≡ false
unfolding holds_zero
clean_text v g t e on = unasked (reaches v g) (zero_inside t) e on

-- the texts that v writes of a player
pub record Short (v : Version) (p : Seat) : Type 0 where
  pub tag : reaches v tag_from ≡ true → p.name_tag.len ≤ 16
  pub name : reaches v netplay_from ≡ true → p.netplay.name.len ≤ 30
  pub code : reaches v netplay_from ≡ true → p.netplay.code.len ≤ 9
  pub suid : reaches v suid_from ≡ true → p.netplay.suid.len ≤ 28

pub short_texts : (v : Version) (p : Seat) → text_too_long v p ≡ false → Short v p
unfolding text_too_long
short_texts v p e =
    let a = one_passed _ _ e in
    let b = one_passed _ _ a.1 in
    let c = one_passed _ _ b.1 in
    let d = one_passed _ _ c.1 in
    record { tag = short_text v tag_from 16 _ a.0; name = short_text v netplay_from 30 _ b.0; code = short_text v netplay_from 9 _ c.0; suid = short_text v suid_from 28 _ d.0 }

pub record Clean (v : Version) (p : Seat) : Type 0 where
  pub tag : holds_zero v tag_from p.name_tag ≡ false
  pub name : holds_zero v netplay_from p.netplay.name ≡ false
  pub code : holds_zero v netplay_from p.netplay.code ≡ false
  pub suid : holds_zero v suid_from p.netplay.suid ≡ false

pub clean_texts : (v : Version) (p : Seat) → text_holds_zero v p ≡ false → Clean v p
unfolding text_holds_zero
clean_texts v p e =
    let a = one_passed _ _ e in
    let b = one_passed _ _ a.1 in
    let c = one_passed _ _ b.1 in
    record { tag = a.0; name = b.0; code = c.0; suid = (one_passed _ _ c.1).0 }

pub seat_texts : (v : Version) (p : Seat) → bad_seat v p ≡ false → yes p.given ≡ true → (text_too_long v p ≡ false) × (text_holds_zero v p ≡ false)
unfolding bad_seat
seat_texts v p e on =
    let a = one_passed _ _ (unasked (yes p.given) _ e on) in
    let b = one_passed _ _ a.1 in
    let c = one_passed _ _ b.1 in
    let d = one_passed _ _ c.1 in
    (d.0, (one_passed _ _ d.1).0)

-- an element of a list, and those after it
pub none_at : {A : Type 0} (f : A → Bool) (d : A) (xs : List A) (n : ℕ) → n < length xs → one_of (map f (drop n xs)) ≡ false → f (get_or xs n d) ≡ false
none_at f d xs n h e = (one_passed _ _ (rw (drop-cons xs n d h) at e)).0

none_past : {A : Type 0} (f : A → Bool) (xs : List A) (n : ℕ) → one_of (map f (drop n xs)) ≡ false → one_of (map f (drop (suc n) xs)) ≡ false
unfolding one_of
none_past f [] n e = refl
none_past f (x ∷ xs) zero e = (one_passed (f x) (map f xs) e).1
none_past f (x ∷ xs) (suc n) e = none_past f xs n e

pub none_later : {A : Type 0} (f : A → Bool) (xs : List A) (n : ℕ) → one_of (map f (drop n xs)) ≡ false → one_of (map f (drop (n + 1) xs)) ≡ false
none_later f xs n e = rw add-one (none_past f xs n e)

pub good_start : (v : Version) (s : Start) → bad_start v s ≡ false
    → (one_of (map (bad_seat v) s.seats) ≡ false) × (too_long v match_from 50 s.match_info.id ≡ false) × (holds_zero v match_from s.match_info.id ≡ false)
unfolding bad_start
good_start v s e =
    let a = one_passed _ _ e in
    let b = one_passed _ _ a.1 in
    let c = one_passed _ _ b.1 in
    let d = one_passed _ _ c.1 in
    let f = one_passed _ _ d.1 in
    let g = one_passed _ _ f.1 in
    let h = one_passed _ _ g.1 in
    (a.0, h.0, (one_passed _ _ h.1).0)
