-- What a turn writes follows what was written before.
use Rattle.std.proofs.Common.{◌∙◌, ◌++◌, rules, ap, sym, subst, take}
use Rattle.std.specs.Io.KnownBytes.{Appends}
use Rattle.std.proofs.KnownBytes.{Appends-trans}
use Rattle.std.proofs.Math.Seq.{take-add}
use Rattle.std.proofs.lemmas.List.{take_rest}
use Rattle.replay.proofs.streams.put.Goals as goal

pub loop-done-preserved : goal.loop-done-preserved
loop-done-preserved g c =
    let xs = c.args.bytes.now in
    let done = c.loop-done.done in
    let some = c.in_ok-some.some in
    let joined = ap (λ l. take done xs ++ take some l) (take_rest xs done) ∙ sym (take-add done some xs) in
    (search rules, search rules, subst (Appends _ _) joined (Appends-trans _ _ _ _ _ c.loop-done.invariant.2 c.in_ok-some.ensures.bytes))
