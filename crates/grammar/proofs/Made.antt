-- A frame made of bodies by rank.
-- Assumes nothing.
use mathlib.Core.Path.{◌≡◌, refl, sym, ap, ◌∙◌}
use mathlib.Core.Bool.{Bool, true, false}
use mathlib.Core.List.{List, [], ◌∷◌, ◌++◌, map, append_assoc, append-nil, head-eq_of_cons-eq, tail-eq_of_cons-eq, cons≢nil}
use Prim.Native.Nat.{ℕ, ◌^◌, ◌<◌}
use native.Mathlib.Omega.{arith}
use lib.ListN.{length, get_or, drop, length-drop, length-map}
use Rattle.wire.specs.Wire.{keep, ranged}
use Rattle.format.specs.File.{Ev}
use Rattle.format.specs.declared.version.Version.{Version}
use Rattle.layout.specs.Columns.{has_family, size_of}
use Rattle.layout.specs.declared.columns.Family.TheVariants.{Pre, Post, FrameStart, Item, FrameEnd, FodPlatform, DreamlandWhispy, StadiumTransformation}
use Rattle.grammar.specs.Productions.{Player, Frame, row_event, pre_event, post_event, events_of_frame}
use Rattle.grammar.specs.WellFormed.{Each, Order, slot_of, GoodPlayer, GoodRow, GoodFrame}
use Rattle.grammar.proofs.Unique.{no_end, frame_then}
use Rattle.grammar.proofs.Left.{Bodies, left_events, GoodBody, Shape, Seated, slot_at, Matched}

-- ---- players of Pre and Post bodies

abbrev player_from : List ℕ → List ℕ → Player
player_from a b = record { port = get_or a 0 0; follower = get_or a 1 0; pre = drop 2 a; post = drop 2 b }

unfoldable pub zipped : List (List ℕ) → List (List ℕ) → List Player
zipped [] qs = []
zipped (a ∷ ps) [] = []
zipped (a ∷ ps) (b ∷ qs) = player_from a b ∷ zipped ps qs

body_is : (a : List ℕ) (p f : ℕ) → Seated a → p ≡ get_or a 0 0 → f ≡ get_or a 1 0 → p ∷ f ∷ drop 2 a ≡ a
body_is [] p f h x y = let k = h.long in absurd (omega arith)
body_is (a ∷ []) p f h x y = let k = h.long in absurd (omega arith)
body_is (a ∷ b ∷ l) p f h x y = λ i. x i ∷ y i ∷ l

record Zipped (v : Version) (id : ℕ) (ps qs : List (List ℕ)) : Type 0 where
  pres : map (pre_event id) (zipped ps qs) ≡ map (row_event Pre id) ps
  posts : map (post_event id) (zipped ps qs) ≡ map (row_event Post id) qs
  slots : map slot_of (zipped ps qs) ≡ map slot_at ps
  good : Each (GoodPlayer v) (zipped ps qs)

zip : (v : Version) (id : ℕ) (ps qs : List (List ℕ)) → Each Seated ps → Each Seated qs → Each (GoodBody v 2) ps → Each (GoodBody v 7) qs → map slot_at qs ≡ map slot_at ps
    → Zipped v id ps qs
unfolding Each zipped
zip v id [] [] s t g k q = record { pres = refl; posts = refl; slots = refl; good = tt }
zip v id [] (b ∷ qs) s t g k q = absurd (cons≢nil q)
zip v id (a ∷ ps) [] s t g k q = absurd (cons≢nil (sym q))
zip v id (a ∷ ps) (b ∷ qs) s t g k q =
    let e = head-eq_of_cons-eq q in
    let more = zip v id ps qs s.1 t.1 g.1 k.1 (tail-eq_of_cons-eq q) in
    let x = body_is a (get_or a 0 0) (get_or a 1 0) s.0 refl refl in
    let f1 = s.0.follower in
    let f2 = t.0.follower in
    let y = body_is b (get_or a 0 0) (get_or a 1 0) t.0 (omega arith) (omega arith) in
    let n1 = length-drop 2 a in
    let n2 = length-drop 2 b in
    record {
      pres = λ i. row_event Pre id (x i) ∷ more.pres i;
      posts = λ i. row_event Post id (y i) ∷ more.posts i;
      slots = λ i. slot_at a ∷ more.slots i;
      good = (record { port = s.0.port; follower = f1; pre = omega (arith, g.0.size); post = omega (arith, k.0.size) }, more.good);
    }

-- ---- the end

abbrev pub head_of : List (List ℕ) → List ℕ
head_of [] = []
head_of (b ∷ qs) = b

end_is : (v : Version) (id : ℕ) (xs : List (List ℕ)) → Each (GoodBody v 8) xs → (has_family v FrameEnd ≡ true → length xs ≡ 1)
    → (keep (has_family v FrameEnd) (row_event FrameEnd id (head_of xs) ∷ []) ≡ map (row_event FrameEnd id) xs) × (length (head_of xs) ≡ size_of FrameEnd v)
unfolding Each keep
end_is v id [] h one = go (has_family v FrameEnd) refl
  where
    go : (b : Bool) → has_family v FrameEnd ≡ b → (keep b (row_event FrameEnd id [] ∷ []) ≡ []) × (◌≡◌ {A = ℕ} 0 (size_of FrameEnd v))
    go true e = let n = one e in absurd (omega arith)
    go false e = (refl, sym (no_end v e))
end_is v id (b ∷ []) h one = (rw h.0.has, omega (arith, h.0.size))
end_is v id (b ∷ c ∷ qs) h one = let n = one h.0.has in absurd (omega arith)

each_to : {A : Type 0} (P Q : A → Type 0) → ((x : A) → P x → Q x) → (xs : List A) → Each P xs → Each Q xs
unfolding Each
each_to P Q f [] h = tt
each_to P Q f (x ∷ xs) h = (f x h.0, each_to P Q f xs h.1)

-- ---- the frame

abbrev pub made : ℕ → List ℕ → Bodies → Frame
made id start left = record {
  id = id;
  start = start;
  players = zipped (left 2) (left 7);
  fods = left 3;
  whispys = left 4;
  stadiums = left 5;
  items = left 6;
  end = head_of (left 8);
}

module _ (v : Version) (o : Order) (rank id : ℕ) (start : List ℕ) (left : Bodies) (under : rank < 8) (h : Shape v rank left) (m : Matched o [] left) where
  players : Zipped v id (left 2) (left 7)
  players = zip v id (left 2) (left 7) m.pres m.posts (h.sized 2) (h.sized 7) m.same

  some_length : length (zipped (left 2) (left 7)) ≡ length (left 2)
  some_length = sym (length-map (zipped (left 2) (left 7)) slot_of) ∙ ap length players.slots ∙ length-map (left 2) slot_at

  the_end : (keep (has_family v FrameEnd) (row_event FrameEnd id (head_of (left 8)) ∷ []) ≡ map (row_event FrameEnd id) (left 8)) × (length (head_of (left 8)) ≡ size_of FrameEnd v)
  the_end = end_is v id (left 8) (h.sized 8) (λ e. h.one e under)

  pub made_events : (t : List Ev) → events_of_frame v (made id start left) ++ t ≡ keep (has_family v FrameStart) (row_event FrameStart id start ∷ []) ++ (left_events id left ++ t)
  unfolding ranged
  made_events t = frame_then v (made id start left) t ∙ rw (players.pres, players.posts, the_end.0) (simp (append_assoc, append-nil))

  pub made_good : id < 2 ^ 32 → length start ≡ size_of FrameStart v → (has_family v FrameStart ≡ false → 0 < length (left 2)) → GoodFrame v o (made id start left)
  made_good i s n = record {
    id = i;
    start = s;
    players = players.good;
    slots = rw players.slots m.order;
    somebody = λ e. let k = n e in omega (arith, some_length, k);
    fods = each_to (GoodBody v 3) (GoodRow v FodPlatform) (λ b g. record { has = g.has; size = omega (arith, g.size) }) (left 3) (h.sized 3);
    whispys = each_to (GoodBody v 4) (GoodRow v DreamlandWhispy) (λ b g. record { has = g.has; size = omega (arith, g.size) }) (left 4) (h.sized 4);
    stadiums = each_to (GoodBody v 5) (GoodRow v StadiumTransformation) (λ b g. record { has = g.has; size = omega (arith, g.size) }) (left 5) (h.sized 5);
    items = each_to (GoodBody v 6) (GoodRow v Item) (λ b g. record { has = g.has; size = omega (arith, g.size) }) (left 6) (h.sized 6);
    end = the_end.1;
  }
