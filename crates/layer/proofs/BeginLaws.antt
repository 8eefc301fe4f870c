-- Laws of the run over a trace from its board on: what start gives it, and the public run.
use Prim.Native.Nat.{ℕ, ◌-◌, ◌≤◌, ◌<◌}
use mathlib.Core.Path.{◌≡◌, refl, sym, ap, ◌∙◌, subst}
use mathlib.Core.Bool.{Bool, true, false}
use mathlib.Core.List.{List, ◌++◌}
use native.Mathlib.Nat.{sub-zero}
use native.Mathlib.Omega.{arith}
use lib.ListN.{length, take, drop, length-append}
use lib.Seq.{length-take-le}
use lib.Dec.{eqb}
use borrow.Author.Tests.{ne_eqb, le-leb, lt-leb}
use denote.Enum.Bare.{sameb, same_true, same_false}
use Rattle.definition.specs.Answer.{number_of}
use Rattle.definition.specs.World.{Out}
use Rattle.definition.specs.Image.{well_formed}
use Rattle.definition.specs.Table.{Lent, start}
use Rattle.definition.specs.Trace.{found, board, read_at}
use Rattle.definition.specs.Lines.{line_of, broken, short_line}
use Rattle.definition.specs.Replay.{left, fits, Played, played, following, play_from, play_board, play_at}
use Rattle.laws.specs.Formed.{Begins, accepted, no_board, no_table, start_begins}
use Rattle.laws.specs.Replays.{play_none, play_board_lem, board_goes_on, board_ends, play_from_lem}
use Rattle.std.specs.Prelude.{Result, Ok, Err}
use Rattle.types.specs.declared.Answer.{Answer as Given}
use Rattle.types.specs.declared.Answer.TheVariants as says
use Rattle.types.specs.declared.Refusal.{Refusal}
use Rattle.types.specs.declared.Refusal.TheVariants.{NoBoard}
use Rattle.types.specs.contracts.Refusal.{the_type}
use Rattle.types.specs.Meaning.{number_of as number_of_refusal, refusal_of, answer_of, given_of}
use Rattle.trace.specs.declared.records.BoardError.{BoardError}
use Rattle.trace.specs.declared.records.BoardError.TheVariants as B
use Rattle.trace.specs.Answers.{words_of}
use Rattle.lines.specs.Puts.{Put}
use Rattle.lines.specs.PutLaws.{put_head, put_tail, put_fits}
use Rattle.layer.specs.declared.Progress.{Progress}
use Rattle.layer.specs.declared.Progress.TheVariants.{Ended, Paused}
use Rattle.layer.specs.Steps.{lent, gave, Starts}
use Rattle.layer.specs.Replaying.{progress_by, Leaves, Plays, room_at}
use Rattle.layer.proofs.ReplayLaws.{drop_same, leaves_ended, leaves_paused}
use Rattle.types.specs.Refusals.{some_number, one_refusal}

-- ---- the board

-- no answer has a number, and a number is that of one refusal
given_none : (x : Given) → number_of (answer_of x) ≡ 0
given_none (says.Registers r0 r1 r2 r3) = refl
given_none (says.Delivered pointer r0 r1 r2 r3) = refl
given_none says.Waiting = refl
given_none says.Nothing = refl
given_none says.Taken = refl
given_none says.Deposited = refl
given_none says.Latched = refl
given_none says.Started = refl
given_none (says.Exited code) = refl
given_none (says.Restarted code) = refl

-- what start gave, and the table that it left
module _ (words t : List ℕ) (given : Result Given Refusal) (t' : List ℕ) (began : Starts words t (given_of given) t') (m f : List ℕ) where
  gives : start words (lent t m f) ≡ gave (given_of given) (lent t' m f)
  gives = began m f

  -- the table is well formed exactly where nothing was refused
  begins : Begins (gave (given_of given) (lent t' m f))
  begins = subst Begins gives (start_begins words (lent t m f))

  pub begun_formed : (x : Given) → given ≡ Ok x → true ≡ well_formed t'
  begun_formed x e = by begins
    where
      number : number_of (given_of given) ≡ 0
      number = ap (λ g. number_of (given_of g)) e ∙ given_none x

      by : Begins (gave (given_of given) (lent t' m f)) → true ≡ well_formed t'
      by (accepted q w) = sym w
      by (no_board q) = absurd (omega (arith, number, ap number_of q))
      by (no_table q w) = absurd (omega (arith, number, ap number_of q))

  pub begun_refused : (e : Refusal) → given ≡ Err e → (e ≡ NoBoard → ⊥) → false ≡ well_formed t'
  begun_refused e q other = by begins
    where
      number : number_of (given_of given) ≡ number_of_refusal e
      number = ap (λ g. number_of (given_of g)) q

      by : Begins (gave (given_of given) (lent t' m f)) → false ≡ well_formed t'
      by (accepted q w) = absurd (some_number e (sym number ∙ ap number_of q))
      by (no_board q) = absurd (other (one_refusal e NoBoard (sym number ∙ ap number_of q)))
      by (no_table q w) = sym w

  module _ (s : List ℕ) (next : ℕ) (old out : List ℕ) (used : ℕ) (put : Put (line_of (given_of given)) 0 old out used) (same : length out ≡ length old) where
    written : take used out ≡ line_of (given_of given)
    written = put_head (omega arith) put

    is_bad : (b : Bool) → eqb (number_of (given_of given)) 13 ≡ b → eqb (number_of (start words (lent t m f)).answer) 13 ≡ b
    is_bad b e = ap (λ (o : Out Lent). eqb (number_of o.answer) 13) gives ∙ e

    abbrev run : Played
    run = play_board s (lent t m f) (left (length old)) (found words next)

    pub begun_bad : given ≡ Err NoBoard → Leaves run old (Ended used) (lent t' m f) out
    begun_bad e =
        leaves_ended run old (lent t' m f) out used (put_fits (omega arith) put same) same (put_tail (omega arith) put)
        (board_ends s (lent t m f) (left (length old)) words next (is_bad true (ap (λ g. eqb (number_of (given_of g)) 13) e)) ∙ ap (λ (o : Out Lent). played o.after (line_of o.answer)) gives ∙ ap (played (lent t' m f)) (sym written))

    pub begun_good : (number_of (given_of given) ≡ 13 → ⊥) → (r : Progress) (y : Lent) (new : List ℕ) → Leaves (following (take used out) (play_from s (lent t' m f) next (room_at used out))) out r y new → Leaves run old r y new
    begun_good h r y new leaves =
        let x' = lent t' m f in
        let a = given_of given in
        let room : length old - length (line_of a) ≡ length out - used = omega (arith, put.place) in
        let whole : run ≡ following (take used out) (play_from s x' next (room_at used out)) =
        board_goes_on s (lent t m f) (left (length old)) words next (is_bad false (ne_eqb (number_of a) 13 h))
        ∙ ap (λ (o : Out Lent). following (line_of o.answer) (play_from s o.after next (left (length old - length (line_of o.answer))))) gives
        ∙ ap (λ k. following (line_of a) (play_from s x' next (left k))) room ∙ ap (λ l. following l (play_from s x' next (room_at used out))) (sym written) in
        let later = play_from s x' next (room_at used out) in
        let far : used ≤ length (take used out ++ later.written) = omega (arith, length-append (take used out) later.written, length-take-le used out (omega (arith, put_fits (omega arith) put same))) in
        subst (λ (w : Played). Leaves w old r y new) (sym whole) (record {
          told = leaves.told;
          lent = leaves.lent;
          lines = leaves.lines ∙ ap (λ l. (take used out ++ later.written) ++ l) (drop_same used out old (put_tail (omega arith) put) (length (take used out ++ later.written)) far);
        })

-- it goes on after any answer, and after another refusal
pub not_ended : (given : Result Given Refusal) → (given ≡ Err NoBoard → ⊥) → number_of (given_of given) ≡ 13 → ⊥
not_ended (Ok x) h e = absurd (omega (arith, given_none x))
not_ended (Err e) h q = absurd (h (ap Err (one_refusal e NoBoard q)))

pub answered_on : {given : Result Given Refusal} {x : Given} → given ≡ Ok x → given ≡ Err NoBoard → ⊥
answered_on {given} {x} e q = let z : ◌≡◌ {A = ℕ} 0 13 = ap (λ (g : Result Given Refusal). refusal_of g) (sym e ∙ q) in absurd (omega (arith, z))

-- which refusal it is, as the code tests it: x is what was read of it
module _ {given : Result Given Refusal} {e x : Refusal} (is : given ≡ Err e) (read : x ≡ e) where
  pub no_board_given : true ≡ sameb the_type x NoBoard → given ≡ Err NoBoard
  no_board_given t = is ∙ ap Err (sym read ∙ same_true the_type _ x NoBoard (sym t))

  pub another : false ≡ sameb the_type x NoBoard → e ≡ NoBoard → ⊥
  another t q = same_false the_type x NoBoard (sym t) (read ∙ q)

  pub another_given : false ≡ sameb the_type x NoBoard → given ≡ Err NoBoard → ⊥
  another_given t q = another t (one_refusal e NoBoard (ap refusal_of (sym is ∙ q)))

-- ---- the public run

module _ (s : List ℕ) (x : Lent) (old : List ℕ) where
  -- where there is no room for a line it has not begun
  plays_none : length old < short_line → Plays s x 0 old (Paused 0 0) x old
  plays_none h = leaves_paused _ old x old 0 (omega arith) refl refl 0 (play_none s x (left (length old)) (lt-leb short_line (length old) h))

  -- the same by its parts, which the search looks for one by one
  pub none_told : length old < short_line → Paused 0 0 ≡ progress_by (play_at s x 0 (left (length old))).stop (length (play_at s x 0 (left (length old))).written)
  none_told h = (plays_none h).told

  pub none_lent : length old < short_line → x ≡ (play_at s x 0 (left (length old))).after
  none_lent h = (plays_none h).lent

  pub none_lines : length old < short_line → old ≡ (play_at s x 0 (left (length old))).written ++ drop (length (play_at s x 0 (left (length old))).written) old
  none_lines h = (plays_none h).lines

  module _ (h : short_line ≤ length old) where
    room : fits short_line (left (length old)) ≡ true
    room = le-leb short_line (length old) h

    -- nor has it anything but a line where the board is broken or cut
    pub plays_broken : (words : List ℕ) (e : BoardError) → read_at board s 0 ≡ words_of words (Err e) → (new : List ℕ) (end : ℕ) → Put (broken 0) 0 old new end → length new ≡ length old → Plays s x 0 old (Ended end) x new
    unfolding play_board
    plays_broken words e h' new end put same =
        leaves_ended _ old x new end (put_fits (omega arith) put same) same (put_tail (omega arith) put)
        (play_board_lem s x (left (length old)) room (words_of words (Err e)) h' ∙ line e ∙ ap (played x) (sym (put_head (omega arith) put)))
      where
        line : (e : BoardError) → play_board s x (left (length old)) (words_of words (Err e)) ≡ played x (broken 0)
        line B.Broken = refl
        line B.Cut = refl
        line B.NoRoom = refl

    pub plays_board : (words : List ℕ) (i : ℕ) → read_at board s 0 ≡ found words i → (r : Progress) (y : Lent) (new : List ℕ) → Leaves (play_board s x (left (length old)) (found words i)) old r y new → Plays s x 0 old r y new
    plays_board words i e r y new leaves = subst (λ (w : Played). Leaves w old r y new) (sym (play_board_lem s x (left (length old)) room (found words i) e)) leaves

  pub plays_on : (at : ℕ) → (at ≡ 0 → ⊥) → (r : Progress) (y : Lent) (new : List ℕ) → Leaves (following (take 0 old) (play_from s x at (room_at 0 old))) old r y new → Plays s x at old r y new
  plays_on at h r y new leaves = subst (λ (w : Played). Leaves w old r y new) (sym (play_from_lem s x (left (length old)) at h ∙ ap (λ k. play_from s x at (left k)) (sym (sub-zero (length old))))) leaves

pub plays_whole : (s : List ℕ) (x : Lent) (at : ℕ) (old : List ℕ) (r : Progress) (y : Lent) (new : List ℕ) → at ≡ 0 → Plays s x 0 old r y new → Plays s x at old r y new
plays_whole s x at old r y new e h = subst (λ at. Plays s x at old r y new) (sym e) h
