-- Laws of a run within a room: where it pauses, that with room for the longest line it comes further, and that it goes on as the whole run does.
use Prim.Native.Nat.{ℕ, zero, suc, ◌+◌, ◌-◌, ◌≤◌, ◌<◌}
use Rattle.std.specs.Prelude.{◌≡◌, Bool, true, false, eqb}
use Rattle.std.proofs.Math.Path.{refl, ap}
use Rattle.std.proofs.Common.{sym, ◌∙◌, subst, arith}
use mathlib.Core.List.{List, [], append_assoc}
use Rattle.std.proofs.Math.Decide.{dec_lt, ℕ_discrete}
use Rattle.std.proofs.Math.ListN.{length}
use borrow.Author.Tests.{ltb-true, lt-ltb, leb-false, le-leb, eqb-true}
use Rattle.definition.specs.Tests.{provided◌then◌else◌}
use Rattle.definition.specs.Limits.{image_bytes}
use Rattle.definition.specs.Answer.{number_of}
use Rattle.definition.specs.Decide.{call, event, resume, deposit, fetch}
use Rattle.definition.specs.World.{Step, own, latch}
use Rattle.definition.specs.Table.{Lent, table_step, start}
use Rattle.definition.specs.Trace.{Record, Found, found, spoiled, cut, board, one_record, step_of, read_at}
use Rattle.definition.specs.Lines.{line_of, broken, short_line, part_line}
use Rattle.definition.specs.Replay.{Room, endless, left, fits, less, Stop, at_end, before, Played, played, pauses, following, room_for, play_record, records, play_from, play_board, play_at}
use Rattle.laws.specs.Facts.{never, clash, either}
use Rattle.laws.specs.Fetched.{accepted_size}
use Rattle.laws.specs.Replays.{Forward, play_end, play_here, play_record_lem, play_none, play_board_lem, play_from_lem}

-- the longest line is that of a fetch of a whole image
abbrev pub longest_line : ℕ
longest_line = part_line image_bytes

-- what was written before a pause, and the run from there on
abbrev pub onward : Stop → Played → (Lent → ℕ → Played) → Played
onward at_end w rest = w
onward (before j) w rest = following w.written (rest w.after j)

follow_onward : (l : List ℕ) (w : Played) (rest : Lent → ℕ → Played) (at : Stop) → following l (onward at w rest) ≡ onward at (following l w) rest
follow_onward l w rest at_end = refl
follow_onward l w rest (before j) =
    let r = rest w.after j in
    λ i. record { after = r.after; written = sym (append_assoc l w.written r.written) i; stop = r.stop }

-- no line asks for more room than the longest
room_most : (s : Step) (x : Lent) → room_for s (table_step s x).answer ≤ longest_line
unfolding room_for
room_most (own p (call class r0 r1 r2 r3)) x = omega arith
room_most (own p (event driver j a0 a1 a2)) x = omega arith
room_most (own p resume) x = omega arith
room_most (own p (deposit driver j offset bytes)) x = omega arith
room_most (own p (fetch driver j offset n)) x =
    either (λ k. k ≤ longest_line) (eqb (number_of (table_step (own p (fetch driver j offset n)) x).answer) 0) _ _
    (λ e. let few : n ≤ image_bytes = (accepted_size p driver j offset n x (eqb-true _ 0 e)).1 in omega arith) (λ _. omega arith)
room_most (latch driver peak) x = omega arith

module _ (s : List ℕ) (forward : Forward s) where
  -- ---- where a run pauses: at a place of the trace, and not before the one it began at

  abbrev Later : ℕ → Played → Type 0
  Later i w = (p : ℕ) → w.stop ≡ before p → (i ≤ p) × (p < length s)

  here_later : (i : ℕ) (x : Lent) → i < length s → Later i (pauses x i)
  here_later i x h p e = let q : i ≡ p = cc in (omega arith, omega arith)

  ended_later : (i : ℕ) (x : Lent) (l : List ℕ) → Later i (played x l)
  ended_later i x l p e = never (cc)

  found_later : (on : Lent → ℕ → Room → Played) (x : Lent) (i : ℕ) (room : Room) → i < length s → (here : Found Record) → read_at one_record s i ≡ here
      → ((y : Lent) (j : ℕ) (rest : Room) → Later j (on y j rest)) → Later i (play_record on x i room here)
  unfolding play_record
  found_later on x i room h (found r j) e ih = either (Later i) _ _ _
      (λ _ p q. let (far, inside) = ih _ j _ p q in (omega (arith, forward i r j e), inside)) (λ _. here_later i x h)
  found_later on x i room h spoiled e ih = ended_later i x (broken i)
  found_later on x i room h cut e ih = ended_later i x (broken i)

  records_later : (n : ℕ) (x : Lent) (i : ℕ) (room : Room) → Later i (records n s x i room)
  unfolding records
  records_later zero x i room = ended_later i x []
  records_later (suc n) x i room = either (Later i) _ _ _
      (λ t. let h = ltb-true i (length s) t in either (Later i) _ _ _ (λ _. found_later (records n s) x i room h (read_at one_record s i) refl (λ y j rest. records_later n y j rest)) (λ _. here_later i x h))
      (λ _. ended_later i x [])

  pub play_later : (x : Lent) (i : ℕ) (room : Room) → Later i (play_from s x i room)
  unfolding play_from
  play_later x i room = records_later (length s - i) x i room

  -- ---- with room for the longest line it comes further

  further_here : (x : Lent) (i k : ℕ) → longest_line ≤ k → (on : Lent → ℕ → Room → Played) (here : Found Record) → read_at one_record s i ≡ here → ((y : Lent) (j : ℕ) (rest : Room) → Later j (on y j rest))
      → (p : ℕ) → (play_record on x i (left k) here).stop ≡ before p → i < p
  unfolding play_record
  further_here x i k wide on (found r j) e ih p = either (λ (w : Played). w.stop ≡ before p → i < p) _ _ _
      (λ _ q. omega (arith, forward i r j e, (ih _ j _ p q).0))
      (λ none _. let short = leb-false (room_for (step_of r) (table_step (step_of r) x).answer) k none in absurd (omega (arith, room_most (step_of r) x)))
  further_here x i k wide on spoiled e ih p = λ q. never (cc)
  further_here x i k wide on cut e ih p = λ q. never (cc)

  pub play_further : (x : Lent) (i k : ℕ) → longest_line ≤ k → (p : ℕ) → (play_from s x i (left k)).stop ≡ before p → i < p
  play_further x i k wide p q = elim (dec_lt i (length s)) [
    | yes h ↦ let is = play_here s forward x i (left k) h (le-leb short_line k (omega arith)) (read_at one_record s i) refl in
        further_here x i k wide (records (length s - i) s) (read_at one_record s i) refl (λ y j rest. records_later (length s - i) y j rest) p (sym (ap (λ (w : Played). w.stop) is) ∙ q)
    | no h ↦ let e : at_end ≡ before p = sym (ap (λ (w : Played). w.stop) (play_end s forward x i (left k) (omega arith))) ∙ q in never (cc)
  ]

  -- ---- what was written, followed by the run from the pause on, is the whole run

  abbrev whole_from : Lent → ℕ → Played
  whole_from y j = play_from s y j endless

  abbrev Whole : Lent → ℕ → Played → Type 0
  Whole x i w = whole_from x i ≡ onward w.stop w whole_from

  found_whole : (on : Lent → ℕ → Room → Played) (x : Lent) (i : ℕ) (room : Room) → i < length s → (here : Found Record) → read_at one_record s i ≡ here
      → ((y : Lent) (j : ℕ) (rest : Room) → i < j → Whole y j (on y j rest)) → Whole x i (play_record on x i room here)
  unfolding play_record
  found_whole on x i room h (found r j) e ih =
      let o = table_step (step_of r) x in
      let line = line_of o.answer in
      either (Whole x i) _ _ _
      (λ _. play_record_lem s forward x i endless h refl r j e refl ∙ ap (following line) (ih o.after j (less (length line) room) (forward i r j e)) ∙ follow_onward line (on o.after j (less (length line) room)) whole_from (on o.after j (less (length line) room)).stop)
      (λ _. refl)
  found_whole on x i room h spoiled e ih = play_here s forward x i endless h refl spoiled e
  found_whole on x i room h cut e ih = play_here s forward x i endless h refl cut e

  records_whole : (n : ℕ) (x : Lent) (i : ℕ) (room : Room) → length s ≤ i + n → Whole x i (records n s x i room)
  unfolding records
  records_whole zero x i room k = play_end s forward x i endless (omega arith)
  records_whole (suc n) x i room k = elim (dec_lt i (length s)) [
    | yes h ↦ either (Whole x i) _ _ _
        (λ _. either (Whole x i) _ _ _ (λ _. found_whole (records n s) x i room h (read_at one_record s i) refl (λ y j rest q. records_whole n y j rest (omega arith))) (λ _. refl))
        (λ t. clash (lt-ltb i (length s) h) t)
    | no h ↦ either (Whole x i) _ _ _ (λ t. let q = ltb-true i (length s) t in absurd (omega arith)) (λ _. play_end s forward x i endless (omega arith))
  ]

  pub play_whole : (x : Lent) (i : ℕ) (room : Room) → Whole x i (play_from s x i room)
  unfolding play_from
  play_whole x i room = records_whole (length s - i) x i room (omega arith)

  -- ---- from the board on, which ends after it begins

  module _ (begins : (words : List ℕ) (i : ℕ) → read_at board s 0 ≡ found words i → 0 < i) where
    board_stops : (x : Lent) (room : Room) (here : Found (List ℕ)) → read_at board s 0 ≡ here → (p : ℕ) → (play_board s x room here).stop ≡ before p → (0 < p) × (p ≤ length s)
    unfolding play_board
    board_stops x room (found words i) e p = either (λ (w : Played). w.stop ≡ before p → (0 < p) × (p ≤ length s)) _ _ _
        (λ _ q. never (cc)) (λ _ q. let (far, inside) = play_later _ i _ p q in (omega (arith, begins words i e), omega arith))
    board_stops x room spoiled e p = λ q. never (cc)
    board_stops x room cut e p = λ q. never (cc)

    -- a pause is at a place of the trace
    pub stops_in_trace : (x : Lent) (at : ℕ) (room : Room) (p : ℕ) → (play_at s x at room).stop ≡ before p → p ≤ length s
    stops_in_trace x at room p e = elim (ℕ_discrete at 0) [
      | yes z ↦ first (fits short_line room) refl (subst (λ at. (play_at s x at room).stop ≡ before p) z e)
      | no ne ↦ omega (arith, (play_later x at room p (sym (ap (λ (w : Played). w.stop) (play_from_lem s x room at ne)) ∙ e)).1)
    ]
      where
        first : (t : Bool) → fits short_line room ≡ t → (play_at s x 0 room).stop ≡ before p → p ≤ length s
        first true f q = (board_stops x room (read_at board s 0) refl p (sym (ap (λ (w : Played). w.stop) (play_board_lem s x room f (read_at board s 0) refl)) ∙ q)).1
        first false f q = let e : before 0 ≡ before p = sym (ap (λ (w : Played). w.stop) (play_none s x room f)) ∙ q in let z : 0 ≡ p = cc in omega arith

    -- and further on, where the longest line had room
    pub stops_further : (x : Lent) (at k p : ℕ) → longest_line ≤ k → (play_at s x at (left k)).stop ≡ before p → at < p
    stops_further x at k p wide e = elim (ℕ_discrete at 0) [
      | yes z ↦ let q = subst (λ at. (play_at s x at (left k)).stop ≡ before p) z e in
          let is = play_board_lem s x (left k) (le-leb short_line k (omega arith)) (read_at board s 0) refl in
          omega (arith, (board_stops x (left k) (read_at board s 0) refl p (sym (ap (λ (w : Played). w.stop) is) ∙ q)).0)
      | no ne ↦ play_further x at k wide p (sym (ap (λ (w : Played). w.stop) (play_from_lem s x (left k) at ne)) ∙ e)
    ]

    -- ---- what was written, followed by the run from the pause on, is the run without a limit

    abbrev whole_at : Lent → ℕ → Played
    whole_at y j = play_at s y j endless

    -- no record stands at place 0
    onward_at : (w : Played) (i : ℕ) → 0 < i → Later i w → onward w.stop w whole_from ≡ onward w.stop w whole_at
    onward_at w i h later = by w.stop refl
      where
        by : (at : Stop) → w.stop ≡ at → onward at w whole_from ≡ onward at w whole_at
        by at_end e = refl
        by (before j) e = ap (following w.written) (sym (play_from_lem s w.after endless j (λ z. absurd (omega (arith, (later j e).0)))))

    board_whole : (x : Lent) (room : Room) (here : Found (List ℕ)) → read_at board s 0 ≡ here → let w = play_board s x room here in play_board s x endless here ≡ onward w.stop w whole_at
    unfolding play_board provided◌then◌else◌
    board_whole x room (found words i) e = by (eqb (number_of (start words x).answer) 13)
      where
        line : List ℕ
        line = line_of (start words x).answer

        y : Lent
        y = (start words x).after

        by : (bad : Bool) → let w = following line (provided bad then played y [] else play_from s y i (less (length line) room)) in
            following line (provided bad then played y [] else play_from s y i endless) ≡ onward w.stop w whole_at
        by true = refl
        by false =
            let w = play_from s y i (less (length line) room) in
            ap (following line) (play_whole y i (less (length line) room) ∙ onward_at w i (begins words i e) (play_later y i (less (length line) room))) ∙ follow_onward line w whole_at w.stop
    board_whole x room spoiled e = refl
    board_whole x room cut e = refl

    pub run_whole : (x : Lent) (at : ℕ) (room : Room) → let w = play_at s x at room in play_at s x at endless ≡ onward w.stop w whole_at
    run_whole x at room = elim (ℕ_discrete at 0) [
      | yes z ↦ subst (λ at. play_at s x at endless ≡ onward (play_at s x at room).stop (play_at s x at room) whole_at) (sym z) (first (fits short_line room) refl)
      | no ne ↦ play_from_lem s x endless at ne ∙ play_whole x at room ∙ onward_at (play_from s x at room) at (omega arith) (play_later x at room) ∙ ap (λ (w : Played). onward w.stop w whole_at) (sym (play_from_lem s x room at ne))
    ]
      where
        first : (t : Bool) → fits short_line room ≡ t → play_at s x 0 endless ≡ onward (play_at s x 0 room).stop (play_at s x 0 room) whole_at
        first true f =
            play_board_lem s x endless refl (read_at board s 0) refl ∙ board_whole x room (read_at board s 0) refl
            ∙ ap (λ (w : Played). onward w.stop w whole_at) (sym (play_board_lem s x room f (read_at board s 0) refl))
        first false f = ap (λ (w : Played). onward w.stop w whole_at) (sym (play_none s x room f))
