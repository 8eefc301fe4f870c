-- What a host is told that asks where a held buffer lies.
use Rattle.std.specs.Prelude.{Result, Ok, Err}
use Rattle.definition.specs.Located.{Located, refused, lies}
use Rattle.types.specs.declared.Refusal.{Refusal}
use Rattle.types.specs.Meaning.{pair_of, area_named, number_of}
use Rattle.layer.specs.declared.Buffer.{Buffer}

abbrev pub located_of : Result Buffer Refusal → Located
located_of (Ok buffer) = lies (area_named buffer.area) (pair_of buffer.pair)
located_of (Err refusal) = refused (number_of refusal)
