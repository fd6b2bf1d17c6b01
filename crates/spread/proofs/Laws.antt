-- The laws of `spread`: parts from their ends, parts side by side, parts that touch, and records of rows that follow each other.
-- Assumes nothing.
use mathlib.Core.Path.{◌≡◌, refl, sym, ap, ap₂, ◌∙◌}
use mathlib.Core.Bool.{Bool, true, false}
use mathlib.Core.List.{List, [], ◌∷◌, ◌++◌, append_assoc, append-nil}
use Prim.Native.Nat.{ℕ, zero, suc, ◌+◌, ◌-◌, ◌*◌, ◌≤◌, ◌<◌}
use native.Mathlib.Nat.{add-zero}
use native.Mathlib.Numerals.{add-one}
use native.Mathlib.Omega.{arith}
use lib.ListN.{length, get_or, take, length-append}
use lib.Seq.{take-length}
use Rattle.wire.specs.Wire.{be, splice, ranged, keep, Room, Wrote}
use Rattle.wire.proofs.Laws.{length_be, length_splice, splice_append, splice_splice}
use Rattle.wire.proofs.Writers.{behind_start, behind_step}
use Rattle.layout.specs.Columns.{sum}
use Rattle.record.specs.declared.Head.{Head}
use Rattle.record.specs.Record.{cells_bytes, player_bytes}
use Rattle.record.specs.Inner.{head_bytes}
use Rattle.record.proofs.Laws.{length_cells, cells_snoc, head_length_lem, head_room, record_parts, length_record, Turn}
use Rattle.spread.specs.Inner.{place_at, spread, Rooms, Sown, Strewn, Reach, cell_at, head_on, head_at, record_at}

pub place_is : (places : List ℕ) (i off t : ℕ) → place_at places i off t ≡ get_or places (i + t) 0 + off
unfolding place_at
place_is places i off t = refl

pub length_spread : (xs : List ℕ) (p : ℕ → ℕ) (f : ℕ → List ℕ) (n : ℕ) → length (spread xs p f n) ≡ length xs
unfolding spread
length_spread xs p f zero = refl
length_spread xs p f (suc n) = length_splice (spread xs p f n) (p n) (f n) ∙ length_spread xs p f n

pub spread_alike : (xs : List ℕ) (p : ℕ → ℕ) (f g : ℕ → List ℕ) (n : ℕ) → ((t : ℕ) → t < n → f t ≡ g t) → spread xs p f n ≡ spread xs p g n
unfolding spread
spread_alike xs p f g zero e = refl
spread_alike xs p f g (suc n) e =
    ap₂ (λ (l m : List ℕ). splice l (p n) m) (spread_alike xs p f g n (λ t h. e t (omega arith))) (e n (omega arith))

-- a loop over the parts: its start, and one more of them
pub strewn_start : {xs : List ℕ} {p : ℕ → ℕ} {f : ℕ → List ℕ} → Strewn xs xs p f 0
unfolding spread
strewn_start = record { after_is = refl }

module _ {xs now : List ℕ} {p : ℕ → ℕ} {f : ℕ → List ℕ} (t : ℕ) where
  pub strewn_step : {after : List ℕ} {at next : ℕ} → Strewn xs now p f t → Wrote now after at next (f t) → at ≡ p t → Strewn xs after p f (t + 1)
  unfolding spread
  strewn_step s w here = record { after_is = rw (add-one t, ← s.after_is, ← here) w.after_is }

  -- a part that is not there
  pub strewn_skip : Strewn xs now p f t → f t ≡ [] → Strewn xs now p f (t + 1)
  unfolding spread splice
  strewn_skip s e = record { after_is = rw (add-one t, e) s.after_is }

  pub strewn_length : Strewn xs now p f t → length now ≡ length xs
  strewn_length s = ap length s.after_is ∙ length_spread xs p f t

  pub strewn_done : Strewn xs now p f t → t ≤ 8 → 8 ≤ t → Strewn xs now p f 8
  strewn_done s h k = let e : t ≡ 8 = omega arith in rw e at s

-- ---- a part behind them all
spread_splice : (xs : List ℕ) (at : ℕ) (ys : List ℕ) (p : ℕ → ℕ) (f : ℕ → List ℕ) (n : ℕ) → ((t : ℕ) → t < n → p t + length (f t) ≤ at)
    → spread (splice xs at ys) p f n ≡ splice (spread xs p f n) at ys
unfolding spread
spread_splice xs at ys p f zero h = refl
spread_splice xs at ys p f (suc n) h =
    ap (λ (l : List ℕ). splice l (p n) (f n)) (spread_splice xs at ys p f n (λ t l. h t (omega arith)))
    ∙ sym (splice_splice (spread xs p f n) (p n) (f n) at ys (h n (omega arith)))

-- ---- a column behind parts: all four bytes of each v, of which the w lowest are wanted
one_behind : (xs : List ℕ) (at q : ℕ) (before : List ℕ) (w v : ℕ) → w ≤ 4 → 4 ≤ length before → q + 4 ≡ at + (length before + w)
    → splice (splice xs q (be 4 v)) at before ≡ splice xs at (before ++ be w v)
one_behind xs at q before w v small long place =
    (behind_step {first = xs} {all = before ++ be w v} {now = xs} {after = splice xs q (be 4 v)} {at = at}
    before (before ++ be w v) w v {q = q} {next = q + length (be 4 v)} small long place refl behind_start (record { next_is = refl; after_is = refl })).behind

module _ (before : ℕ → List ℕ) (v : ℕ → ℕ) (w : ℕ) (p q : ℕ → ℕ) where
  spread_behind : w ≤ 4 → (xs : List ℕ) (n : ℕ) → ((t : ℕ) → t < n → 4 ≤ length (before t)) → ((t : ℕ) → t < n → q t + 4 ≡ p t + (length (before t) + w))
      → ((t u : ℕ) → t < u → u < n → p t + length (before t) ≤ p u)
      → spread (spread xs q (λ j. be 4 (v j)) n) p before n ≡ spread xs p (λ j. before j ++ be w (v j)) n
  unfolding spread
  spread_behind small xs zero long place apart = refl
  spread_behind small xs (suc n) long place apart =
      let four = long n (omega arith) in
      let here = place n (omega arith) in
      ap (λ (l : List ℕ). splice l (p n) (before n))
      (spread_splice (spread xs q (λ j. be 4 (v j)) n) (q n) (be 4 (v n)) p before n (λ t h. let a = apart t n h (omega arith) in omega arith)
      ∙ ap (λ (l : List ℕ). splice l (q n) (be 4 (v n)))
      (spread_behind small xs n (λ t h. long t (omega arith)) (λ t h. place t (omega arith)) (λ t u h k. apart t u h (omega arith))))
      ∙ one_behind (spread xs p (λ j. before j ++ be w (v j)) n) (p n) (q n) (before n) w (v n) small four here

-- ---- parts from their ends: whoever writes `before` has then written `all`
pub record Behinds (first : List ℕ) (p : ℕ → ℕ) (all : ℕ → List ℕ) (now : List ℕ) (before : ℕ → List ℕ) : Type 0 where
  pub same : length now ≡ length first
  pub behind : spread now p before 8 ≡ spread first p all 8

module _ {first now after : List ℕ} {p : ℕ → ℕ} {all before : ℕ → List ℕ} where
  pub behinds_step : (more : ℕ → List ℕ) (v : ℕ → ℕ) (w : ℕ) (q : ℕ → ℕ) → w ≤ 4 → ((t : ℕ) → t < 8 → 4 ≤ length (before t)) → ((t : ℕ) → t < 8 → q t + 4 ≡ p t + (length (before t) + w))
      → ((t u : ℕ) → t < u → u < 8 → p t + length (before t) ≤ p u) → ((t : ℕ) → t < 8 → more t ≡ before t ++ be w (v t))
      → Behinds first p all now more → Strewn now after q (λ j. be 4 (v j)) 8 → Behinds first p all after before
  behinds_step more v w q small four place apart e b x = record {
    same = ap length x.after_is ∙ length_spread now q (λ j. be 4 (v j)) 8 ∙ b.same;
    behind =
        ap (λ (l : List ℕ). spread l p before 8) x.after_is
        ∙ spread_behind before v w p q small now 8 four place apart
        ∙ spread_alike now p (λ j. before j ++ be w (v j)) more 8 (λ t h. sym (e t h))
        ∙ b.behind;
  }

-- ---- parts side by side
module _ (f g : ℕ → List ℕ) (p q : ℕ → ℕ) where
  spread_both : (xs : List ℕ) (n : ℕ) → ((t : ℕ) → t < n → q t ≡ p t + length (f t)) → ((t u : ℕ) → t < u → u < n → q t + length (g t) ≤ p u)
      → spread (spread xs p f n) q g n ≡ spread xs p (λ t. f t ++ g t) n
  unfolding spread
  spread_both xs zero place apart = refl
  spread_both xs (suc n) place apart =
      ap (λ (l : List ℕ). splice l (q n) (g n))
      (spread_splice (spread xs p f n) (p n) (f n) q g n (λ t h. apart t n h (omega arith))
      ∙ ap (λ (l : List ℕ). splice l (p n) (f n)) (spread_both xs n (λ t h. place t (omega arith)) (λ t u h k. apart t u h (omega arith))))
      ∙ ap (λ (k : ℕ). splice (splice (spread xs p (λ t. f t ++ g t) n) (p n) (f n)) k (g n)) (place n (omega arith))
      ∙ sym (splice_append (spread xs p (λ t. f t ++ g t) n) (p n) (f n) (g n))

spread_empty : (f : ℕ → List ℕ) (p : ℕ → ℕ) (xs : List ℕ) (n : ℕ) → ((t : ℕ) → t < n → f t ≡ []) → spread xs p f n ≡ xs
unfolding spread splice
spread_empty f p xs zero e = refl
spread_empty f p xs (suc n) e =
    ap (λ (l : List ℕ). splice (spread xs p f n) (p n) l) (e n (omega arith)) ∙ spread_empty f p xs n (λ t h. e t (omega arith))

-- whoever sows `rest` over `now` at places p has then sown `all` over `first` at places at
pub record Rest (first : List ℕ) (at : ℕ → ℕ) (all : ℕ → List ℕ) (now : List ℕ) (p : ℕ → ℕ) (rest : ℕ → List ℕ) : Type 0 where
  pub on : (t : ℕ) → t < 8 → at t ≤ p t
  pub place : (t : ℕ) → t < 8 → p t + length (rest t) ≡ at t + length (all t)
  pub same : length now ≡ length first
  pub left : spread now p rest 8 ≡ spread first at all 8

pub rest_start : {first : List ℕ} {at : ℕ → ℕ} {all : ℕ → List ℕ} → Rest first at all first at all
rest_start {at = at} = record { on = λ t h. omega arith; place = λ t h. refl; same = refl; left = refl }

pub sown_length : {before after : List ℕ} {p next : ℕ → ℕ} {f : ℕ → List ℕ} → Sown before after p next f → length after ≡ length before
sown_length {before} {p = p} {f = f} w = ap length w.after_is ∙ length_spread before p f 8

parts : (more x rest : ℕ → List ℕ) → ((t : ℕ) → t < 8 → more t ≡ x t ++ rest t) → (t : ℕ) → t < 8 → length (more t) ≡ length (x t) + length (rest t)
parts more x rest e t h = ap length (e t h) ∙ length-append (x t) (rest t)

-- a part that is not there
pub rest_skip : {first now : List ℕ} {at p : ℕ → ℕ} {all more : ℕ → List ℕ} (rest : ℕ → List ℕ) → Rest first at all now p more → ((t : ℕ) → t < 8 → more t ≡ rest t) → Rest first at all now p rest
rest_skip {now = now} {p = p} {more = more} rest l e = record {
  on = l.on;
  place = λ t h. omega (arith, ap length (e t h), l.place t h);
  same = l.same;
  left = spread_alike now p rest more 8 (λ t h. sym (e t h)) ∙ l.left;
}

module _ {first now : List ℕ} {at p : ℕ → ℕ} {all more : ℕ → List ℕ} (x rest : ℕ → List ℕ) where
  pub rest_room : Rest first at all now p more → ((t : ℕ) → t < 8 → more t ≡ x t ++ rest t) → Rooms first at all → Rooms now p x
  rest_room l e r = record {
    apart = λ t u h k. let b : t < 8 = omega arith in omega (arith, parts more x rest e t b, l.place t b, r.apart t u h k, l.on u k);
    fits = λ t h. omega (arith, parts more x rest e t h, l.place t h, l.same, r.fits t h);
  }

  pub rest_step : {after : List ℕ} {next : ℕ → ℕ} → Rest first at all now p more → ((t : ℕ) → t < 8 → more t ≡ x t ++ rest t) → Rooms first at all → Sown now after p next x
      → Rest first at all after next rest
  rest_step {after} {next} l e r w = record {
    on = λ t h. omega (arith, l.on t h, w.next_is t h);
    place = λ t h. omega (arith, parts more x rest e t h, l.place t h, w.next_is t h);
    same = sown_length w ∙ l.same;
    left =
        ap (λ (a : List ℕ). spread a next rest 8) w.after_is
        ∙ spread_both x rest p next now 8 w.next_is
        (λ t u h k. let b : t < 8 = omega arith in omega (arith, w.next_is t b, parts more x rest e t b, l.place t b, r.apart t u h k, l.on u k))
        ∙ spread_alike now p (λ t. x t ++ rest t) more 8 (λ t h. sym (e t h))
        ∙ l.left;
  }

pub rest_done : {first now : List ℕ} {at p : ℕ → ℕ} {all rest : ℕ → List ℕ} → Rest first at all now p rest → ((t : ℕ) → t < 8 → rest t ≡ []) → Sown first now at p all
rest_done {now = now} {p = p} {rest = rest} l e = record {
  next_is = λ t h. omega (arith, ap length (e t h), l.place t h);
  after_is = sym (spread_empty rest p now 8 e) ∙ l.left;
}

keep_all : (xs : List ℕ) → keep true xs ≡ xs
unfolding keep
keep_all xs = refl

keep_none : (xs : List ℕ) → keep false xs ≡ []
unfolding keep
keep_none xs = refl

pub pair_long : (h : Head) → h.player ≡ true → length (player_bytes h) ≡ 2
pair_long h e = ap (λ (c : Bool). length (keep c (h.port ∷ h.follower ∷ []))) e ∙ ap length (keep_all (h.port ∷ h.follower ∷ []))

-- ---- parts that touch are written one after another
pub ranged_snoc : {A : Type 0} (f : ℕ → List A) (i n : ℕ) → ranged f i (suc n) ≡ ranged f i n ++ f (i + n)
unfolding ranged
ranged_snoc f i zero = append-nil (f i) ∙ ap f (sym (add-zero i))
ranged_snoc {A} f i (suc n) =
    let e : i + 1 + n ≡ i + suc n = omega arith in
    ap (λ (l : List A). f i ++ l) (ranged_snoc f (i + 1) n ∙ ap (λ (k : ℕ). ranged f (i + 1) n ++ f k) e)
    ∙ sym (append_assoc (f i) (ranged f (i + 1) n) (f (i + suc n)))

-- the parts begin one after another
abbrev pub Touching : (ℕ → ℕ) → (ℕ → List ℕ) → ℕ → Type 0
Touching p f at = (t : ℕ) → t < 8 → p t ≡ at + length (ranged f 0 t)

module _ (f : ℕ → List ℕ) where
  abbrev before : ℕ → ℕ
  before n = length (ranged f 0 n)

  before_step : (n : ℕ) → before (suc n) ≡ before n + length (f n)
  before_step n = ap length (ranged_snoc f 0 n) ∙ length-append (ranged f 0 n) (f (0 + n)) ∙ ap (λ (k : ℕ). before n + length (f k)) (omega arith)

  before_rises : (n d : ℕ) → before n ≤ before (n + d)
  before_rises n zero = rw (add-zero n) (omega arith)
  before_rises n (suc d) = let e : n + suc d ≡ suc (n + d) = omega arith in rw e (omega (arith, before_rises n d, before_step (n + d)))

  -- those before t and t itself end where any after it begins
  before_part : (t u : ℕ) → t < u → before t + length (f t) ≤ before u
  before_part t u h =
      let e : suc t + (u - suc t) ≡ u = omega arith in
      let r : before (suc t) ≤ before u = rw e at (before_rises (suc t) (u - suc t)) in
      omega (arith, before_step t)

  spread_whole : (p : ℕ → ℕ) (xs : List ℕ) (at n : ℕ) → ((t : ℕ) → t < n → p t ≡ at + before t) → spread xs p f n ≡ splice xs at (ranged f 0 n)
  unfolding spread splice ranged
  spread_whole p xs at zero e = refl
  spread_whole p xs at (suc n) e =
      ap₂ (λ (l : List ℕ) (k : ℕ). splice l k (f n)) (spread_whole p xs at n (λ t h. e t (omega arith))) (e n (omega arith))
      ∙ sym (splice_append xs at (ranged f 0 n) (f n))
      ∙ ap (λ (l : List ℕ). splice xs at l) (ap (λ (k : ℕ). ranged f 0 n ++ f k) (omega arith) ∙ sym (ranged_snoc f 0 n))

  pub touching_rooms : {out : List ℕ} {p : ℕ → ℕ} {at : ℕ} → Touching p f at → Room out at (ranged f 0 8) → Rooms out p f
  touching_rooms e r = record {
    apart = λ t u h k. omega (arith, e t (omega arith), e u k, before_part t u h);
    fits = λ t h. omega (arith, e t h, before_part t 8 h, r.fits);
  }

  pub sown_whole : {first after : List ℕ} {p next : ℕ → ℕ} {at end : ℕ} → Touching p f at → Sown first after p next f → end ≡ at + length (ranged f 0 8) → Wrote first after at end (ranged f 0 8)
  sown_whole {first} {p = p} {at = at} e w l = record { next_is = l; after_is = w.after_is ∙ spread_whole p first at 8 e }

-- ---- records of rows that follow each other
head_same : (h : Head) (id : ℕ) → length (head_bytes (head_on h id)) ≡ length (head_bytes h)
head_same h id = go h.player refl
  where
    go : (b : Bool) → h.player ≡ b → length (head_bytes (head_on h id)) ≡ length (head_bytes h)
    go b e = head_length_lem (head_on h id) b e ∙ sym (head_length_lem h b e)

head_at_lem : (h : Head) (ids : List ℕ) (i t : ℕ) → length (head_at h ids i t) ≡ length (head_bytes h)
head_at_lem h ids i t = head_same h (get_or ids (i + t) 0)

module _ (h : Head) (ids : List ℕ) (i : ℕ) (ws cells : List ℕ) (stride first : ℕ) where
  -- the head and the k first cells of the record t rows further on
  abbrev pub begun : ℕ → ℕ → List ℕ
  begun k t = head_at h ids i t ++ cells_bytes (take k ws) cells stride (first + t)

  length_begun : (k t : ℕ) → length (begun k t) ≡ length (head_bytes h) + sum (take k ws)
  length_begun k t = simp (length-append, length_cells, head_same h (get_or ids (i + t) 0))

  pub record_at_lem : (t : ℕ) → length (record_at h ids i ws cells stride first t) ≡ length (head_bytes h) + sum ws
  record_at_lem t = length_record (head_on h (get_or ids (i + t) 0)) ws cells stride (first + t) ∙ ap (λ (k : ℕ). k + sum ws) (head_same h (get_or ids (i + t) 0))

  -- where records have room their heads have
  pub heads_of : {out now : List ℕ} {p : ℕ → ℕ} → length now ≡ length out → Rooms out p (record_at h ids i ws cells stride first) → Rooms now p (head_at h ids i)
  heads_of e r = record {
    apart = λ t u l m. omega (arith, r.apart t u l m, record_at_lem t, head_at_lem h ids i t);
    fits = λ t l. omega (arith, r.fits t l, record_at_lem t, head_at_lem h ids i t, e);
  }

  pub records_start : {out : List ℕ} {p : ℕ → ℕ} → Behinds out p (record_at h ids i ws cells stride first) out (begun (length ws))
  records_start {out} {p} = record {
    same = refl;
    behind = spread_alike out p (begun (length ws)) (record_at h ids i ws cells stride first) 8
        (λ t l. rw take-length (sym (record_parts (head_on h (get_or ids (i + t) 0)) ws cells stride (first + t))));
  }

  pub records_step : {out now after : List ℕ} (places : List ℕ) (at off k q w : ℕ) → Turn ws cells stride (first + 7) k → 0 < k → k ≤ length ws
      → q ≡ off + (length (head_bytes h) + sum (take k ws)) → w ≡ get_or ws (k - 1) 0
      → Rooms out (place_at places at off) (record_at h ids i ws cells stride first)
      → Behinds out (place_at places at off) (record_at h ids i ws cells stride first) now (begun k)
      → Strewn now after (place_at places at (q - 4)) (cell_at cells (first + (k - 1) * stride)) 8
      → Behinds out (place_at places at off) (record_at h ids i ws cells stride first) after (begun (k - 1))
  records_step places at off k q w t some few eq ew r b s =
      let room = head_room h in
      let tail : (j : ℕ) → begun k j ≡ begun (k - 1) j ++ be w (get_or cells (first + (k - 1) * stride + j) 0) = λ j.
      let e : k ≡ suc (k - 1) = omega arith in
      let here : first + j + (k - 1) * stride ≡ first + (k - 1) * stride + j = omega arith in
      ap (λ (l : ℕ). head_at h ids i j ++ cells_bytes (take l ws) cells stride (first + j)) e
      ∙ ap (λ (l : List ℕ). head_at h ids i j ++ l) (cells_snoc stride ws cells (first + j) (k - 1) (omega arith) ∙ ap₂ (λ (a c : ℕ). cells_bytes (take (k - 1) ws) cells stride (first + j) ++ be a (get_or cells c 0)) (sym ew) here)
      ∙ sym (append_assoc (head_at h ids i j) (cells_bytes (take (k - 1) ws) cells stride (first + j)) (be w (get_or cells (first + (k - 1) * stride + j) 0)))
      in
      let long = length_begun (k - 1) in
      behinds_step (begun k) (λ j. get_or cells (first + (k - 1) * stride + j) 0) w (place_at places at (q - 4))
      (omega (arith, t.narrow)) (λ j l. omega (arith, long j))
      (λ j l. omega (arith, long j, t.total, place_is places at off j, place_is places at (q - 4) j))
      (λ j u l m. omega (arith, long j, record_at_lem j, t.total, t.within, r.apart j u l m))
      (λ j l. tail j) b s

  pub records_done : {out now after : List ℕ} {p : ℕ → ℕ} (k : ℕ) → k ≤ 0
      → Behinds out p (record_at h ids i ws cells stride first) now (begun k)
      → Strewn now after p (head_at h ids i) 8
      → Strewn out after p (record_at h ids i ws cells stride first) 8
  unfolding cells_bytes
  records_done zero l b s = record { after_is = s.after_is ∙ spread_alike _ _ (head_at h ids i) (begun 0) _ (λ t l. sym (append-nil (head_at h ids i t))) ∙ b.behind }
  records_done (suc k) l b s = absurd (omega arith)

-- ---- eight heads, part by part
module _ (h : Head) (ids : List ℕ) (j : ℕ) (places : List ℕ) (i off : ℕ) where
  abbrev x1 : ℕ → List ℕ
  x1 t = h.code ∷ []

  abbrev x3 : ℕ → List ℕ
  x3 t = player_bytes h

  cut : (t : ℕ) → head_at h ids j t ≡ x1 t ++ (cell_at ids j t ++ x3 t)
  unfolding head_bytes
  cut t = refl

  long : (t : ℕ) → length (head_at h ids j t) ≡ 5 + length (player_bytes h)
  long t = ap length (cut t) ∙ simp (length-append, length_be) (omega arith)

  -- room for each of them
  pub heads_room : {out : List ℕ} → Rooms out (place_at places i off) (head_at h ids j) → Reach out places i (off + (5 + length (player_bytes h)))
  heads_room r t l = omega (arith, r.fits t l, long t, place_is places i off t)

  pub heads_strewn : {a0 a1 a2 a3 : List ℕ} → Rooms a0 (place_at places i off) (head_at h ids j)
      → Strewn a0 a1 (place_at places i off) x1 8 → Strewn a1 a2 (place_at places i (off + 1)) (cell_at ids j) 8 → Strewn a2 a3 (place_at places i (off + 5)) x3 8
      → Strewn a0 a3 (place_at places i off) (head_at h ids j) 8
  heads_strewn {a0} {a1} r w1 w2 w3 =
      let p : (k t : ℕ) → place_at places i (off + k) t ≡ place_at places i off t + k = λ k t. omega (arith, place_is places i off t, place_is places i (off + k) t) in
      let apart : (t u : ℕ) → t < u → u < 8 → place_at places i off t + (5 + length (player_bytes h)) ≤ place_at places i off u = λ t u l m. omega (arith, r.apart t u l m, long t) in
      let four : (t : ℕ) → length (cell_at ids j t) ≡ 4 = λ t. length_be 4 (get_or ids (j + t) 0) in
      record {
        after_is =
            w3.after_is
            ∙ ap (λ (l : List ℕ). spread l (place_at places i (off + 5)) x3 8) w2.after_is
            ∙ spread_both (cell_at ids j) x3 (place_at places i (off + 1)) (place_at places i (off + 5)) a1 8
            (λ t l. omega (arith, p 1 t, p 5 t, four t))
            (λ t u l m. omega (arith, p 5 t, p 1 u, apart t u l m))
            ∙ ap (λ (l : List ℕ). spread l (place_at places i (off + 1)) (λ t. cell_at ids j t ++ x3 t) 8) w1.after_is
            ∙ spread_both x1 (λ t. cell_at ids j t ++ x3 t) (place_at places i off) (place_at places i (off + 1)) a0 8
            (λ t l. p 1 t)
            (λ t u l m. omega (arith, p 1 t, apart t u l m, length-append (cell_at ids j t) (x3 t), four t))
            ∙ spread_alike a0 (place_at places i off) (λ t. x1 t ++ (cell_at ids j t ++ x3 t)) (head_at h ids j) 8 (λ t l. sym (cut t));
      }

-- a player's bytes, and none
pub players_given : {a b : List ℕ} {p : ℕ → ℕ} (h : Head) → h.player ≡ true → Strewn a b p (λ t. h.port ∷ h.follower ∷ []) 8 → Strewn a b p (λ t. player_bytes h) 8
players_given {a} {p = p} h e w = record {
  after_is = w.after_is ∙ spread_alike a p (λ t. h.port ∷ h.follower ∷ []) (λ t. player_bytes h) 8 (λ t l. sym (kept h.player e));
}
  where
    kept : (b : Bool) → b ≡ true → keep b (h.port ∷ h.follower ∷ []) ≡ h.port ∷ h.follower ∷ []
    kept b e = ap (λ (c : Bool). keep c (h.port ∷ h.follower ∷ [])) e ∙ keep_all (h.port ∷ h.follower ∷ [])

pub players_none : (a : List ℕ) (p : ℕ → ℕ) (h : Head) → h.player ≡ false → Strewn a a p (λ t. player_bytes h) 8
players_none a p h e = record {
  after_is = sym (spread_empty (λ t. player_bytes h) p a 8 (λ t l. ap (λ (c : Bool). keep c (h.port ∷ h.follower ∷ [])) e ∙ keep_none (h.port ∷ h.follower ∷ [])));
}

-- ---- parts under another name, and parts that are not there
pub rooms_as : {out : List ℕ} {p : ℕ → ℕ} {f : ℕ → List ℕ} (g : ℕ → List ℕ) → ((t : ℕ) → t < 8 → f t ≡ g t) → Rooms out p f → Rooms out p g
rooms_as g e r = record {
  apart = λ t u h k. let b : t < 8 = omega arith in omega (arith, ap length (e t b), r.apart t u h k);
  fits = λ t h. omega (arith, ap length (e t h), r.fits t h);
}

pub sown_as : {before after : List ℕ} {p next : ℕ → ℕ} {f : ℕ → List ℕ} (g : ℕ → List ℕ) → ((t : ℕ) → t < 8 → f t ≡ g t) → Sown before after p next f → Sown before after p next g
sown_as {before} {p = p} {f = f} g e w = record {
  next_is = λ t h. omega (arith, ap length (e t h), w.next_is t h);
  after_is = w.after_is ∙ spread_alike before p f g 8 e;
}

pub sown_none : (out : List ℕ) (p : ℕ → ℕ) (f : ℕ → List ℕ) → ((t : ℕ) → t < 8 → f t ≡ []) → Sown out out p p f
sown_none out p f e = record {
  next_is = λ t h. omega (arith, ap length (e t h));
  after_is = sym (spread_empty f p out 8 e);
}
