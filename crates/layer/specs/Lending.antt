-- What a run works on, as the definition's record of it.
use Rattle.std.specs.Prelude.{ℕ, Bool, List}
use Rattle.definition.specs.Table.{Lent as Images}
use Rattle.layer.specs.declared.replays.Lent.{Lent}
use Rattle.layer.specs.Steps.{lent}

abbrev pub lent_in : Lent → Images
lent_in l = lent l.table.now l.memory.now l.flash.now

-- what no step changes: which words and bytes are lent, by the names that the check has for them, the flash image, and whether the table is well formed
abbrev pub kept : Lent → ℕ × ℕ × List ℕ × Bool
kept l = (l.table.ghost_name, l.memory.ghost_name, l.flash.now, l.formed)
