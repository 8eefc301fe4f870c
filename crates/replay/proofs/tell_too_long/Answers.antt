-- The line of a trace that is too long fits in its room.
use Rattle.std.proofs.Common.{ℕ, ◌≡◌, ◌≤◌, List, length, arith, sym, subst, length-take-le}
use Rattle.lines.specs.Puts.{Put}
use Rattle.lines.specs.PutLaws.{put_fits}
use Rattle.replay.proofs.tell_too_long.Goals as goal

fits : {l before after : List ℕ} {at next : ℕ} → at ≤ length before → Put l at before after next → length after ≡ length before → next ≤ length after
fits {next = next} here put same = subst (λ n. next ≤ n) (sym same) (put_fits here put same)

pub slice_bounds-line-end : goal.slice_bounds-line-end
slice_bounds-line-end g c = fits (omega arith) c.put_too_long-end.ensures c.put_too_long-end.auto.out

pub slice_bounds-put-end : goal.slice_bounds-put-end
slice_bounds-put-end g c = sym (length-take-le _ _ (fits (omega arith) c.put_too_long-end.ensures c.put_too_long-end.auto.out))
