-- Laws of the run over a trace: what is done with the board and at one record, and how the run goes on after it.
use Prim.Native.Nat.{ℕ, zero, suc, ◌+◌, ◌-◌, ◌≤◌, ◌<◌}
use Rattle.std.specs.Prelude.{◌≡◌, Bool, true, false, List, [], eqb}
use Rattle.std.proofs.Math.Path.{refl, ap}
use Rattle.std.proofs.Common.{◌∙◌, append-nil, lt-ltb, le-ltb, ne_eqb}
use native.Mathlib.Omega.{arith}
use Rattle.std.proofs.Math.ListN.{length}
use Rattle.std.proofs.Math.Dec.{ltb}
use Rattle.definition.specs.Tests.{provided◌then◌else◌}
use Rattle.definition.specs.Answer.{number_of}
use Rattle.definition.specs.Table.{Lent, table_step, start}
use Rattle.definition.specs.Trace.{Record, Found, found, spoiled, cut, board, one_record, step_of, read_at}
use Rattle.definition.specs.Lines.{line_of, short_line}
use Rattle.definition.specs.Replay.{Room, fits, less, Played, played, pauses, following, room_for, play_record, records, play_from, play_board, replay, play_at}

play_same : (f g : Lent → ℕ → Room → Played) (x : Lent) (i : ℕ) (room : Room) (here : Found Record) → ((r : Record) (j : ℕ) → here ≡ found r j → (y : Lent) (rest : Room) → f y j rest ≡ g y j rest)
    → play_record f x i room here ≡ play_record g x i room here
unfolding play_record
play_same f g x i room (found r j) h =
    let o = table_step (step_of r) x in
    ap (λ (rest : Played). provided fits (room_for (step_of r) o.answer) room then following (line_of o.answer) rest else pauses x i) (h r j refl o.after (less (length (line_of o.answer)) room))
play_same f g x i room spoiled h = refl
play_same f g x i room cut h = refl

-- each record ends after it begins
abbrev pub Forward : List ℕ → Type 0
Forward s = (i : ℕ) (r : Record) (j : ℕ) → read_at one_record s i ≡ found r j → i < j

module _ (s : List ℕ) (forward : Forward s) where
  -- any number of records that is enough gives the same run
  pub enough : (n m : ℕ) (x : Lent) (i : ℕ) (room : Room) → length s ≤ i + n → length s ≤ i + m → records n s x i room ≡ records m s x i room
  unfolding records provided◌then◌else◌
  enough zero zero x i room h k = refl
  enough zero (suc m) x i room h k = rw (le-ltb i (length s) (omega arith)) refl
  enough (suc n) zero x i room h k = rw (le-ltb i (length s) (omega arith)) refl
  enough (suc n) (suc m) x i room h k =
      ap (λ (r : Played). provided ltb i (length s) then (provided fits short_line room then r else pauses x i) else played x [])
      (play_same (records n s) (records m s) x i room (read_at one_record s i) (λ r j e y rest. enough n m y j rest (omega (arith, forward i r j e)) (omega (arith, forward i r j e))))

  module _ (x : Lent) (i : ℕ) (room : Room) where
    pub play_end : length s ≤ i → play_from s x i room ≡ played x []
    unfolding play_from records
    play_end h = let z : length s - i ≡ 0 = omega arith in rw z refl

    module _ (h : i < length s) where
      -- where a line might have no room, no record is read
      pub play_full : fits short_line room ≡ false → play_from s x i room ≡ pauses x i
      unfolding play_from records provided◌then◌else◌
      play_full e = enough (length s - i) (suc (length s - i)) x i room (omega arith) (omega arith) ∙ rw (lt-ltb i (length s) h, e)

      module _ (line : fits short_line room ≡ true) where
        -- by what is found there
        pub play_here : (here : Found Record) → read_at one_record s i ≡ here → play_from s x i room ≡ play_record (records (length s - i) s) x i room here
        unfolding play_from records provided◌then◌else◌
        play_here here e = enough (length s - i) (suc (length s - i)) x i room (omega arith) (omega arith) ∙ rw (lt-ltb i (length s) h, line) (ap (play_record (records (length s - i) s) x i room) e)

        module _ (r : Record) (j : ℕ) (e : read_at one_record s i ≡ found r j) where
          pub play_record_lem : fits (room_for (step_of r) (table_step (step_of r) x).answer) room ≡ true
              → play_from s x i room ≡ following (line_of (table_step (step_of r) x).answer) (play_from s (table_step (step_of r) x).after j (less (length (line_of (table_step (step_of r) x).answer)) room))
          unfolding play_from play_record provided◌then◌else◌
          play_record_lem q =
              let line = line_of (table_step (step_of r) x).answer in
              play_here (found r j) e ∙ rw q (ap (following line) (enough (length s - i) (length s - j) (table_step (step_of r) x).after j (less (length line) room) (omega (arith, forward i r j e)) (omega arith)))

          pub play_short : fits (room_for (step_of r) (table_step (step_of r) x).answer) room ≡ false → play_from s x i room ≡ pauses x i
          unfolding play_record provided◌then◌else◌
          play_short q = play_here (found r j) e ∙ rw q

-- ---- from the board on, and from another place on

module _ (s : List ℕ) (x : Lent) (room : Room) where
  pub play_none : fits short_line room ≡ false → play_at s x 0 room ≡ pauses x 0
  unfolding play_at replay provided◌then◌else◌
  play_none e = rw e

  pub play_board_lem : fits short_line room ≡ true → (here : Found (List ℕ)) → read_at board s 0 ≡ here → play_at s x 0 room ≡ play_board s x room here
  unfolding play_at replay provided◌then◌else◌
  play_board_lem line here e = rw line (ap (play_board s x room) e)

  module _ (words : List ℕ) (i : ℕ) where
    abbrev begins : Bool → Played
    begins bad =
        let o = start words x in
        following (line_of o.answer) (provided bad then played o.after [] else play_from s o.after i (less (length (line_of o.answer)) room))

    pub board_goes_on : eqb (number_of (start words x).answer) 13 ≡ false
        → play_board s x room (found words i) ≡ following (line_of (start words x).answer) (play_from s (start words x).after i (less (length (line_of (start words x).answer)) room))
    unfolding play_board provided◌then◌else◌
    board_goes_on e = ap begins e

    pub board_ends : eqb (number_of (start words x).answer) 13 ≡ true → play_board s x room (found words i) ≡ played (start words x).after (line_of (start words x).answer)
    unfolding play_board provided◌then◌else◌
    board_ends e = ap begins e ∙ ap (played (start words x).after) (append-nil (line_of (start words x).answer))

  pub play_from_lem : (i : ℕ) → (i ≡ 0 → ⊥) → play_at s x i room ≡ play_from s x i room
  unfolding play_at provided◌then◌else◌
  play_from_lem i h = rw (ne_eqb i 0 h)
