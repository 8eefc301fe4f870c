-- A run over a trace in several calls: what they wrote, one after the other, is the run's lines.
use Rattle.std.specs.Prelude.{ℕ, ◌≡◌, List, length, take, drop}
use Rattle.std.proofs.Common.{sym, ap, ap₂, ◌∙◌, take_at}
use Rattle.definition.specs.Table.{Lent}
use Rattle.definition.specs.Replay.{endless, left, Played, played, following, play_at}
use Rattle.laws.specs.Pauses.{onward, run_whole}
use Rattle.layer.specs.declared.Progress.{Progress}
use Rattle.layer.specs.declared.Progress.TheVariants.{Ended, Paused}
use Rattle.layer.specs.Replaying.{Leaves}
use Rattle.bridge.specs.Replays.{Replayed, ended, went}
use Rattle.layer.specs.StatementLaws.{forward, board_forward, told_before, told_end}

-- the bytes that are told of are those that were written
front : (w : Played) (old : List ℕ) (r : Progress) (y : Lent) (new : List ℕ) (n : ℕ) → Leaves w old r y new → n ≡ length w.written → take n new ≡ w.written
front w old r y new n leaves e = ap (take n) leaves.lines ∙ take_at w.written (drop (length w.written) old) n (sym e)

-- what such calls wrote is the run's lines, and what is lent afterwards is the run's
pub replayed_whole : {s : List ℕ} {x y : Lent} {at : ℕ} {written : List ℕ} → Replayed s x at y written → play_at s x at endless ≡ played y written
replayed_whole {s} (ended x at old n y new p) =
    let w = play_at s x at (left (length old)) in
    let (stop, size) = told_end w n p.told in
    run_whole s (forward s) (board_forward s) x at (left (length old)) ∙ ap (λ at. onward at w (λ y j. play_at s y j endless)) stop
    ∙ (λ i. record { after = sym p.lent i; written = sym (front w old (Ended n) y new n p size) i; stop = stop i })
replayed_whole {s} (went x at old i n y new p r) =
    let w = play_at s x at (left (length old)) in
    let (stop, size) = told_before w i n p.told in
    run_whole s (forward s) (board_forward s) x at (left (length old)) ∙ ap (λ at. onward at w (λ y j. play_at s y j endless)) stop
    ∙ ap₂ (λ (l : List ℕ) (y : Lent). following l (play_at s y i endless)) (sym (front w old (Paused i n) y new n p size)) (sym p.lent) ∙ ap (following (take n new)) (replayed_whole r)
