-- Laws of the public statements, for whoever calls the layer: the answer to a fetch is its number and its part, which has the length that is
-- told of it; the bytes that a run has written are in the buffer, and a pause is at a place of the trace, further on where the longest line
-- had room.
use Rattle.std.specs.Prelude.{ℕ, ◌≤◌, ◌<◌, ◌≡◌, refl, List, length}
use Rattle.std.proofs.Common.{sym, ap, ◌∙◌, arith, length-append, length-take, length-drop}
use Rattle.definition.specs.Answer.{fetched, number_of}
use Rattle.definition.specs.Decide.{fetch}
use Rattle.definition.specs.World.{own}
use Rattle.definition.specs.Table.{Lent, table_step}
use Rattle.definition.specs.Trace.{found, board, read_at}
use Rattle.definition.specs.Replay.{left, Stop, at_end, before, Played, play_at}
use Rattle.laws.specs.Facts.{never}
use Rattle.laws.specs.Fetched.{fetches}
use Rattle.laws.specs.Replays.{Forward}
use Rattle.laws.specs.Pauses.{longest_line, stops_in_trace, stops_further}
use Rattle.trace.specs.TraceLaws.{record_end, board_end}
use Rattle.layer.specs.declared.Place.{Place}
use Rattle.layer.specs.declared.Progress.{Progress}
use Rattle.layer.specs.declared.Progress.TheVariants.{Ended, Paused}
use Rattle.layer.specs.Fetching.{part_of, part_at, Inside}
use Rattle.layer.specs.Replaying.{progress_by, Leaves, Plays}

-- ---- a fetch

-- the answer to a fetch is its number and its part
pub fetch_whole : (p driver j offset n : ℕ) (x : Lent) → let r = (table_step (own p (fetch driver j offset n)) x).answer in r ≡ fetched (number_of r) (part_of r)
fetch_whole p driver j offset n x =
    let t = fetches p driver j offset n x in
    t.whole ∙ ap (fetched (number_of (table_step (own p (fetch driver j offset n)) x).answer)) (sym (ap part_of t.whole))

-- the part at a place has the length that is told of it
pub part_size : (x : Place) (m f : List ℕ) → Inside x m f → x.length ≡ length (part_at x m f).bytes
part_size x m f h = simp (length-take, length-drop) (omega (arith, h.lent))

-- ---- a run over a trace

-- each record ends after it begins, and so does the board
pub forward : (s : List ℕ) → Forward s
forward s i r j e = omega (arith, (record_end s i r j e).0)

pub board_forward : (s words : List ℕ) (i : ℕ) → read_at board s 0 ≡ found words i → 0 < i
board_forward s words i e = (board_end s 0 words i e).0

-- the bytes written lie in the buffer, whose length stays
pub written_within : (w : Played) (old : List ℕ) (r : Progress) (y : Lent) (new : List ℕ) → Leaves w old r y new → length new ≡ length old → length w.written ≤ length old
written_within w old r y new h e = omega (arith, simp (length-append, length-drop) at (ap length h.lines))

-- what is told of a pause, and where the run stopped
pub told_before : (w : Played) (i n : ℕ) → Paused i n ≡ progress_by w.stop (length w.written) → (w.stop ≡ before i) × (n ≡ length w.written)
told_before w i n e = by w.stop refl e
  where
    by : (at : Stop) → w.stop ≡ at → Paused i n ≡ progress_by at (length w.written) → (w.stop ≡ before i) × (n ≡ length w.written)
    by at_end q e = never (cc)
    by (before j) q e = (q ∙ ap before (cc), cc)

pub told_end : (w : Played) (n : ℕ) → Ended n ≡ progress_by w.stop (length w.written) → (w.stop ≡ at_end) × (n ≡ length w.written)
told_end w n e = by w.stop refl e
  where
    by : (at : Stop) → w.stop ≡ at → Ended n ≡ progress_by at (length w.written) → (w.stop ≡ at_end) × (n ≡ length w.written)
    by at_end q e = (q, cc)
    by (before j) q e = never (cc)

module _ (s : List ℕ) (x : Lent) (at : ℕ) (old : List ℕ) (r : Progress) (y : Lent) (new : List ℕ) (plays : Plays s x at old r y new) where
  abbrev run : Played
  run = play_at s x at (left (length old))

  pub ended_within : {n : ℕ} → r ≡ Ended n → length new ≡ length old → n ≤ length old
  ended_within {n} e same = omega (arith, (told_end run n (sym e ∙ plays.told)).1, written_within run old r y new plays same)

  module _ {i n : ℕ} (e : r ≡ Paused i n) where
    stopped : (run.stop ≡ before i) × (n ≡ length run.written)
    stopped = told_before run i n (sym e ∙ plays.told)

    pub paused_within : length new ≡ length old → n ≤ length old
    paused_within same = omega (arith, stopped.1, written_within run old r y new plays same)

    -- a pause is at a place of the trace, and further on where the longest line had room
    pub paused_in_trace : i ≤ length s
    paused_in_trace = stops_in_trace s (forward s) (board_forward s) x at (left (length old)) i stopped.0

    pub paused_further : longest_line ≤ length old → at < i
    paused_further wide = stops_further s (forward s) (board_forward s) x at (length old) i wide stopped.0
