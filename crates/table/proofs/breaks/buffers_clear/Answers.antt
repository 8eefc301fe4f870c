-- Each buffer of the run by the definition's test.
use Rattle.std.proofs.Common.{rules, sym, ap, ◌+◌, Bool, ℕ}
use borrow.Author.Tests.{tests}
use lib.ListN.{get_or}
use Rattle.definition.specs.Limits.{kind_slots}
use Rattle.definition.specs.State.{null}
use Rattle.definition.specs.Area.{clears, break_clears}
use Rattle.definition.specs.Image.{read_process}
use Rattle.laws.specs.Reads.{break_read}
use Rattle.board.specs.Below.{all_below}
use Rattle.board.specs.Meaning.{areas_of}
use Rattle.table.proofs.breaks.buffers_clear.Goals as goal

pub returns : goal.returns
unfolding break_clears
returns c =
    let run = c.args.run.now in
    let clear : ℕ → ℕ → Bool = λ break i. clears (areas_of c.args.areas) break c.args.new (get_or (read_process run).slots (kind_slots + i) null) in
    all_below _ _ _ _ c.all.ensures.ran (cc) (clear (read_process run).break) (clear (get_or run 1 0)) (λ x b q k. search (rules, tests)) (λ i h. ap (λ break. clear break i) (sym (break_read run)))
