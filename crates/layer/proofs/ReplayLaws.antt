-- Laws of the run over a trace: what was written stands before what was there, and the loop over records.
use Prim.Native.Nat.{ℕ, ◌+◌, ◌-◌, ◌≤◌, ◌<◌}
use mathlib.Core.Path.{◌≡◌, refl, sym, ap, ap₂, ◌∙◌, subst}
use mathlib.Core.List.{List, ◌++◌, append-nil, append_assoc}
use native.Mathlib.Omega.{arith}
use lib.ListN.{length, take, drop, take-append-drop}
use lib.Seq.{drop-drop, length-take-le}
use Rattle.definition.specs.Table.{Lent}
use Rattle.definition.specs.Replay.{left, before, Played, played, pauses, following, play_from}
use Rattle.laws.specs.Replays.{play_end}
use Rattle.std.specs.Prelude.{Result, Ok, Err}
use Rattle.lines.specs.Puts.{Put}
use Rattle.lines.specs.PutLaws.{put_head, put_tail, put_fits}
use Rattle.layer.specs.declared.Progress.{Progress}
use Rattle.layer.specs.declared.Progress.TheVariants.{Ended, Paused}
use Rattle.layer.specs.Steps.{lent}
use Rattle.layer.specs.Replaying.{Leaves, room_at, Turned}
use Rattle.layer.specs.StatementLaws.{forward}

-- lists that are the same from one place on are so from a later one on
pub drop_same : (n : ℕ) (l l' : List ℕ) → drop n l ≡ drop n l' → (k : ℕ) → n ≤ k → drop k l ≡ drop k l'
drop_same n l l' e k h =
    let far : n + (k - n) ≡ k = omega arith in
    ap (λ k. drop k l) (sym far) ∙ sym (drop-drop (k - n) n l) ∙ ap (drop (k - n)) e ∙ drop-drop (k - n) n l' ∙ ap (λ k. drop k l') far

-- ---- what was written stands before what was there

module _ (run : Played) (old : List ℕ) (x : Lent) (new : List ℕ) (n : ℕ) (within : n ≤ length old) (size : length new ≡ length old) (rest : drop n new ≡ drop n old) where
  few : length (take n new) ≡ n
  few = length-take-le n new (omega arith)

  buffer : new ≡ take n new ++ drop (length (take n new)) old
  buffer = sym (take-append-drop n new) ∙ ap (λ l. take n new ++ l) (rest ∙ ap (λ k. drop k old) (sym few))

  pub leaves_ended : run ≡ played x (take n new) → Leaves run old (Ended n) x new
  leaves_ended e = subst (λ (w : Played). Leaves w old (Ended n) x new) (sym e) (record { told = ap Ended (sym few); lent = refl; lines = buffer })

  pub leaves_paused : (i : ℕ) → run ≡ following (take n new) (pauses x i) → Leaves run old (Paused i n) x new
  leaves_paused i e =
      subst (λ (w : Played). Leaves w old (Paused i n) x new) (sym (e ∙ (λ k. record { after = x; written = append-nil (take n new) k; stop = before i })))
      (record { told = ap (Paused i) (sym few); lent = refl; lines = buffer })

-- what is lent afterwards, by other names
pub leaves_as : (w : Played) (old : List ℕ) (r : Progress) (new : List ℕ) {t t' m m' f f' : List ℕ} → t ≡ t' → m ≡ m' → f ≡ f' → Leaves w old r (lent t m f) new → Leaves w old r (lent t' m' f') new
leaves_as w old r new et em ef leaves = subst (λ (y : Lent). Leaves w old r y new) (λ i. lent (et i) (em i) (ef i)) leaves

-- ---- the loop: the lines so far, followed by the records from here on in the room that is left, are the run

pub record Going (s : List ℕ) (run : Played) (old : List ℕ) (x : Lent) (new : List ℕ) (i n : ℕ) : Type 0 where
  pub lines : run ≡ following (take n new) (play_from s x i (room_at n old))
  pub within : n ≤ length old
  pub rest : drop n new ≡ drop n old
  pub size : length new ≡ length old

pub going_start : (s : List ℕ) (at from : ℕ) (old : List ℕ) (x : Lent) → from ≤ length old → Going s (following (take from old) (play_from s x at (room_at from old))) old x old at from
going_start s at from old x h = record { lines = refl; within = h; rest = refl; size = refl }

module _ (s : List ℕ) (run : Played) (old : List ℕ) (x : Lent) (new : List ℕ) (i n : ℕ) (g : Going s run old x new i n) where
  pub going_done : length s ≤ i → Leaves run old (Ended n) x new
  going_done h =
      leaves_ended run old x new n g.within g.size g.rest
      (g.lines ∙ ap (following (take n new)) (play_end s (forward s) x i (room_at n old) h) ∙ ap (played x) (append-nil (take n new)))

  -- by what became of the record here
  module _ (r : Result (ℕ × ℕ) Progress) (y : Lent) (new' : List ℕ) (turned : Turned s x i n new r y new') (same : length new' ≡ length new) where
    so : {u : Result (ℕ × ℕ) Progress} → r ≡ u → Turned s x i n new u y new'
    so e = subst (λ (u : Result (ℕ × ℕ) Progress). Turned s x i n new u y new') e turned

    here : run ≡ following (take n new) (play_from s x i (room_at n new))
    here = g.lines ∙ ap (λ k. following (take n new) (play_from s x i (left (k - n)))) (sym g.size)

    -- a line more
    module _ (l : List ℕ) (end : ℕ) (put : Put l n new new' end) where
      inside : n ≤ length new
      inside = omega (arith, g.within, g.size)

      lines_more : take end new' ≡ take n new ++ l
      lines_more = put_head inside put

      within_more : end ≤ length old
      within_more = omega (arith, put_fits inside put same, g.size)

      rest_more : drop end new' ≡ drop end old
      rest_more = put_tail inside put ∙ drop_same n new old g.rest end (omega (arith, put.place))

    pub going_on : {j end : ℕ} → r ≡ Ok (j, end) → Going s run old y new' j end × (i < j)
    unfolding Turned
    going_on {j} {end} e =
        let (l, (put, plays, far)) = so e in
        let left_so : length new - n - length l ≡ length old - end = omega (arith, g.size, put.place) in
        let rest = play_from s y j (room_at end old) in (
          record {
            lines = here ∙ ap (following (take n new)) (plays ∙ ap (λ k. following l (play_from s y j (left k))) left_so)
                ∙ (λ k. record { after = rest.after; written = (sym (append_assoc (take n new) l rest.written) ∙ ap (λ h. h ++ rest.written) (sym (lines_more l end put))) k; stop = rest.stop });
            within = within_more l end put;
            rest = rest_more l end put;
            size = same ∙ g.size;
          },
          far,
        )

    pub going_stops : (p : Progress) → r ≡ Err p → Leaves run old p y new'
    unfolding Turned
    going_stops (Ended end) e =
        let (l, (put, plays)) = so e in
        leaves_ended run old y new' end (within_more l end put) (same ∙ g.size) (rest_more l end put) (here ∙ ap (following (take n new)) plays ∙ ap (played y) (sym (lines_more l end put)))
    going_stops (Paused k m) e =
        let (at, used, (still, buffer), plays) = so e in
        let paused = leaves_paused run old x new n g.within g.size g.rest i (here ∙ ap (following (take n new)) plays) in
        subst (λ (p : Progress). Leaves run old p y new') (ap₂ Paused (sym at) (sym used))
        (subst (λ (y : Lent). Leaves run old (Paused i n) y new') (sym still) (subst (λ (l : List ℕ). Leaves run old (Paused i n) x l) (sym buffer) paused))
