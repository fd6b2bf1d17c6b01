-- The files of two games that agree in all but one port's card: one length, and no byte differs outside the payloads of that port's events.
-- Assumes nothing.
use mathlib.Core.Path.{◌≡◌, sym, ap, ap₂, subst, ◌∙◌}
use mathlib.Core.Bool.{true}
use mathlib.Core.List.{List, ◌++◌, append_assoc}
use Prim.Native.Nat.{ℕ, zero, suc, ◌+◌, ◌-◌, ◌<◌}
use native.Mathlib.Omega.{arith}
use native.Mathlib.Decide.{dec_lt}
use lib.ListN.{length, get_or, length-append, get_or-append}
use lib.Seq.{get_or-append-add, get_or-take}
use Rattle.wire.specs.Wire.{be}
use Rattle.wire.proofs.Laws.{length_be}
use Rattle.format.specs.Event.{signature}
use Rattle.format.specs.File.{Entry, Ev, table_bytes, events_bytes, file_of}
use Rattle.format.specs.Mark as mark
use Rattle.format.proofs.Files.{length_table}
use Rattle.layout.specs.Payloads.{entries_of}
use Rattle.layout.specs.declared.columns.Family.{Family}
use Rattle.ending.specs.Tail.{tail_of}
use Rattle.head.specs.Table.{first_place}
use Rattle.de.specs.Walk.{walk_of}
use Rattle.de.specs.Cut.{events_read}
use Rattle.de.specs.declared.Walked.TheVariants as walked
use Rattle.game.specs.Stores.{Stores}
use Rattle.game.specs.declared.Game.{Game}
use Rattle.game.specs.declared.frames.Frames.{Frames}
use Rattle.game.specs.declared.frames.Counts.{Counts}
use Rattle.ser.specs.Write.{entries, events, file, write_numbers, refusal, WrittenNumbers, written_numbers, WriterOutcome}
use Rattle.std.specs.Prelude.{Ok}
use Rattle.ser.proofs.Answered.{written_file}
use Rattle.ser.proofs.EveryCut.{uncut}
use Rattle.ser.proofs.Outcomes.{Passed}
use Rattle.law_card.specs.Card.{SameElsewhere, SamePlayers, Agree, Alongside, InCard}
use Rattle.law_card.proofs.Besides.{length_same, bytes_same, differ}
use Rattle.law_card.proofs.Forms.{slots_of_lem, port_of_lem, rows_of_lem}
use Rattle.law_card.proofs.Players.{events_beside}

-- ---- any events beside each other, under one table
module _ (port : ℕ) (t : List Entry) (tail : List ℕ) (es ds : List Ev) (h : Alongside port es ds) where
  -- what stands before the events
  abbrev front : List Ev → List ℕ
  front xs = signature ++ (be 4 (length (table_bytes t ++ events_bytes xs)) ++ table_bytes t)

  length_front : (xs : List Ev) → length (front xs) ≡ first_place t
  length_front xs = simp (length-append, length_be, length_table) (omega arith)

  file_parts : (xs : List Ev) → file_of t xs tail ≡ front xs ++ (events_bytes xs ++ tail)
  unfolding file_of
  file_parts xs =
      let n = be 4 (length (table_bytes t ++ events_bytes xs)) in
      sym (append_assoc signature (n ++ table_bytes t) (events_bytes xs ++ tail) ∙ ap (λ (l : List ℕ). signature ++ l) (append_assoc n (table_bytes t) (events_bytes xs ++ tail)))

  front_same : front es ≡ front ds
  front_same =
      ap (λ (n : ℕ). signature ++ (be 4 n ++ table_bytes t))
      (length-append (table_bytes t) (events_bytes es)
      ∙ ap (λ (n : ℕ). length (table_bytes t) + n) (bytes_same port es ds h)
      ∙ sym (length-append (table_bytes t) (events_bytes ds)))

  pub one_length : length (file_of t es tail) ≡ length (file_of t ds tail)
  one_length =
      let size : (xs : List Ev) → length (file_of t xs tail) ≡ first_place t + (length (events_bytes xs) + length tail) =
      λ xs. ap length (file_parts xs) ∙ length-append (front xs) (events_bytes xs ++ tail) ∙ ap₂ (λ (i j : ℕ). i + j) (length_front xs) (length-append (events_bytes xs) tail) in
      omega (arith, size es, size ds, bytes_same port es ds h)

  pub file_differs : (p : ℕ) → (get_or (file_of t es tail) p 0 ≡ get_or (file_of t ds tail) p 0 → ⊥) → InCard port es (first_place t) p
  file_differs p ne =
      let at : (xs : List Ev) → get_or (file_of t xs tail) p 0 ≡ get_or (front xs ++ (events_bytes xs ++ tail)) p 0 = λ xs. ap (λ (l : List ℕ). get_or l p 0) (file_parts xs) in
      elim (dec_lt p (first_place t)) [
        | yes l ↦
            let here : (xs : List Ev) → get_or (file_of t xs tail) p 0 ≡ get_or (front xs) p 0 =
            λ xs. at xs ∙ get_or-append (front xs) (events_bytes xs ++ tail) 0 p (omega (arith, length_front xs)) in
            absurd (ne (here es ∙ ap (λ (l : List ℕ). get_or l p 0) front_same ∙ sym (here ds)))
        | no r ↦
            let m = p - first_place t in
            let p-is : p ≡ first_place t + m = omega arith in
            let there : (xs : List Ev) → get_or (file_of t xs tail) p 0 ≡ get_or (events_bytes xs ++ tail) m 0 =
            λ xs.
            at xs
            ∙ ap (λ (j : ℕ). get_or (front xs ++ (events_bytes xs ++ tail)) j 0) (p-is ∙ ap (λ (j : ℕ). j + m) (sym (length_front xs)))
            ∙ get_or-append-add (front xs) (events_bytes xs ++ tail) m 0 in
            subst (λ (j : ℕ). InCard port es (first_place t) j) (sym p-is) (differ port es ds tail (first_place t) m h (λ q. ne (there es ∙ q ∙ sym (there ds))))
      ]

-- ---- what two games agree in, they agree in both ways
elsewhere_too : {f h : Frames} {port : ℕ} {family : Family} {a b : List ℕ} → SamePlayers f h → SameElsewhere f port family a b → SameElsewhere h port family b a
elsewhere_too {f} {h} {port} {family} {a} {b} p e = record {
  cell = λ block column row k l m ne.
      rw (← rows_of_lem p family, ← p.version)
      (sym (e.cell block column row (omega (arith, slots_of_lem p, k)) (rw p.version l) (omega (arith, rows_of_lem p family, m)) (λ z. ne (sym (port_of_lem p block) ∙ z))));
}

players_too : {f h : Frames} → SamePlayers f h → SamePlayers h f
players_too p = record {
  version = sym p.version;
  counts = sym p.counts;
  port_count = sym p.port_count;
  port = λ k. sym (p.port k);
  follower = λ k. sym (p.follower k);
}

pub both_ways : {g h : Game} {port : ℕ} {s t : Stores} → Agree g h port s t → Agree h g port t s
both_ways {g} {h} a = record {
  players = players_too a.players;
  start = sym a.start;
  end = sym a.end;
  double_end = sym a.double_end;
  codes_given = sym a.codes_given;
  metadata_given = sym a.metadata_given;
  actual_size = sym a.actual_size;
  lent = record {
    presence = record {
      in_frame = λ k i l m. sym (a.lent.presence.in_frame k i (omega (arith, slots_of_lem a.players, l)) (omega (arith, ap (λ (c : Counts). c.frames) a.players.counts, m)));
    };
    ids = sym a.lent.ids;
    starts = sym a.lent.starts;
    pres = elsewhere_too a.players a.lent.pres;
    posts = elsewhere_too a.players a.lent.posts;
    ends = sym a.lent.ends;
    items = sym a.lent.items;
    fods = sym a.lent.fods;
    whispys = sym a.lent.whispys;
    stadiums = sym a.lent.stadiums;
    offsets = sym a.lent.offsets;
  };
  template = sym a.template;
  codes = sym a.codes;
  metadata = sym a.metadata;
}

-- ---- the definition's files of two games
module _ {g h : Game} {port : ℕ} {s t : Stores} (a : Agree g h port s t) where
  pub one_table : entries g s ≡ entries h t
  one_table = λ i. entries_of (a.players.version i) (length (a.template i)) (mark.yes (a.codes_given i)) (a.actual_size i)

  -- the other file by its own events under this table, and before this tail
  file_is : file h t ≡ file_of (entries g s) (events h t) (tail_of (mark.yes g.metadata_given) s.metadata)
  unfolding file
  file_is = λ i. file_of (sym one_table i) (events h t) (tail_of (mark.yes (sym a.metadata_given i)) (sym a.metadata i))

  pub files_of_one_length : length (file g s) ≡ length (file h t)
  unfolding file
  files_of_one_length =
      one_length port (entries g s) (tail_of (mark.yes g.metadata_given) s.metadata) (events g s) (events h t) (events_beside a) ∙ ap length (sym file_is)

  here_only : (p : ℕ) → (get_or (file g s) p 0 ≡ get_or (file h t) p 0 → ⊥) → InCard port (events g s) (first_place (entries g s)) p
  unfolding file
  here_only p ne =
      file_differs port (entries g s) (tail_of (mark.yes g.metadata_given) s.metadata) (events g s) (events h t) (events_beside a) p
      (λ q. ne (q ∙ ap (λ (l : List ℕ). get_or l p 0) (sym file_is)))

-- a byte that differs is in the card in both files
pub differs_in_card : {g h : Game} {port : ℕ} {s t : Stores} → Agree g h port s t → (p : ℕ) → (get_or (file g s) p 0 ≡ get_or (file h t) p 0 → ⊥)
    → InCard port (events g s) (first_place (entries g s)) p × InCard port (events h t) (first_place (entries h t)) p
differs_in_card a p ne = (here_only a p ne, here_only (both_ways a) p (λ q. ne (sym q)))

-- the reader finds the same walk in both, and events beside each other
pub read_beside : {g h : Game} {port : ℕ} {s t : Stores} → Agree g h port s t → Passed g s → Passed h t
    → (walk_of (file g s) ≡ walk_of (file h t)) × Alongside port (events_read (file g s)) (events_read (file h t))
read_beside {g} {h} {port} {s} {t} a x y =
    let (es, w) = uncut x in
    let (ds, v) = uncut y in
    let al = events_beside a in
    let bytes : length (table_bytes (entries g s) ++ events_bytes (events g s)) ≡ length (table_bytes (entries h t) ++ events_bytes (events h t)) =
    length-append (table_bytes (entries g s)) (events_bytes (events g s))
    ∙ ap₂ (λ (i : List Entry) (j : ℕ). length (table_bytes i) + j) (one_table a) (bytes_same port (events g s) (events h t) al)
    ∙ sym (length-append (table_bytes (entries h t)) (events_bytes (events h t))) in (
      w ∙ ap₂ (λ (i j : ℕ). walked.Done i 0 true (15 + j)) (length_same port (events g s) (events h t) al) bytes ∙ sym v,
      subst (λ (l : List Ev). Alongside port l (events_read (file h t))) (sym es) (subst (λ (l : List Ev). Alongside port (events g s) l) (sym ds) al),
    )

-- ---- what `write` answered and left
answered_length : (k n m : ℕ) → written_numbers (Ok n) ≡ write_numbers k m → n ≡ m
answered_length zero n m e = ap (λ (w : WrittenNumbers). w.len) e
answered_length (suc k) n m e = let z : ◌≡◌ {A = ℕ} 0 1 = ap (λ (w : WrittenNumbers). w.kind) e in absurd (omega arith)

module _ {g h : Game} {port : ℕ} {s t : Stores} (a : Agree g h port s t) {out out' to to' : List ℕ} {n m : ℕ} (x : WriterOutcome g s out (Ok n) out')
    (y : WriterOutcome h t to (Ok m) to') where
  pub answers_of_one_length : n ≡ m
  answers_of_one_length =
      answered_length (refusal g s (length out)) n _ x.answer_is ∙ files_of_one_length a ∙ sym (answered_length (refusal h t (length to)) m _ y.answer_is)

  pub written_differs_in_card : (p : ℕ) → p < n → (get_or out' p 0 ≡ get_or to' p 0 → ⊥)
      → InCard port (events g s) (first_place (entries g s)) p × InCard port (events h t) (first_place (entries h t)) p
  written_differs_in_card p l ne =
      differs_in_card a p
      (λ q. ne
      (sym (get_or-take n out' p 0 l)
      ∙ ap (λ (f : List ℕ). get_or f p 0) (written_file x)
      ∙ q
      ∙ sym (ap (λ (f : List ℕ). get_or f p 0) (written_file y))
      ∙ get_or-take m to' p 0 (omega (arith, answers_of_one_length))))
