-- The part lies where the buffer does: in the image that has its area, and nowhere if none has.
use mathlib.Core.Path.{ap}
use native.Mathlib.Omega.{arith}
use Rattle.definition.specs.Decide.{fetch}
use Rattle.definition.specs.World.{own}
use Rattle.types.specs.Meaning.{area_named}
use Rattle.types.specs.declared.Image.TheVariants.{Memory, Flash}
use Rattle.layer.proofs.FetchLaws.{FoundAt, finds_none, fetch_refused, fetch_none, lies_nowhere, found_none, found_at}
use Rattle.layer.proofs.fetches.find.Goals as goal
use Rattle.layer.proofs.fetches.find.Goals.{in-Ram, in-Flash}

pub returns-in_err-pair : goal.returns-in_err-pair
returns-in_err-pair c = fetch_refused _ c.requires _ _ _ _ _ _ _ c.from_residual.ensures.1 c.in_err-pair.ensures.number

pub returns-then-length-eq0 : goal.returns-then-length-eq0
returns-then-length-eq0 c m f _ _ = finds_none m f (fetch_none _ c.requires _ _ _ _ _ c.in_ok-pair.ensures.number c.if-length-eq0.true m f)

pub returns-in-Empty : goal.returns-in-Empty
returns-in-Empty c m f _ _ =
    let found = c.in_ok-pair.ensures in
    finds_none m f (found_none _ c.requires _ _ _ _ _ found.number _ found.pair c.if-length-eq0.false _ c.area_of.ensures (lies_nowhere c.in-Empty.is) m f)

-- where the area is that of an image
found : (c : goal.After-struct_known-1)
    → FoundAt (own c.args.process.0 (fetch c.args.driver.0 c.args.slot c.args.offset c.args.length)) c.args.table.now c.in_ok-pair.pair.0 c.args.offset c.args.length c.match-area_of.image.0 c.match-area_of.image.1
found c =
    let found = c.in_ok-pair.ensures in
    let at = found_at _ c.requires _ _ _ _ _ found.number _ found.pair c.if-length-eq0.false _ c.area_of.ensures in
    elim c.match-area_of.branch [ in-Ram w ↦ at Memory _ (ap area_named w.in-Ram.is) w.image-is | in-Flash w ↦ at Flash _ (ap area_named w.in-Flash.is) w.image-is ]

pub overflow_sub-place : goal.overflow_sub-place
overflow_sub-place c = (found c).low

pub overflow_add-place : goal.overflow_add-place
overflow_add-place c = omega (arith, (found c).high)

pub returns : goal.returns
returns c = (found c).finds
