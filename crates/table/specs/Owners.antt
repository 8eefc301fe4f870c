-- Laws of owners: how the code's comparisons of them go by their numbers.
use Rattle.std.specs.Prelude.{suc, ◌≡◌, eqb, Option, Some, None}
use Rattle.std.specs.Option.{option_eq}
use Rattle.std.proofs.Common.{sym}
use Rattle.std.proofs.Math.Path.{refl}
use Rattle.std.proofs.Math.Dec.{eqb-suc-zero, eqb-zero-suc, eqb-suc-suc}
use Rattle.types.specs.declared.Process.{Process}
use Rattle.types.specs.contracts.ProcessPartialEq.TheImpl.{eq-value}
use Rattle.table.specs.Meaning.{owner_number}

-- an owner is nobody where its number is 0
pub nobody_is : (o : Option Process) → option_eq eq-value.it o None ≡ eqb (owner_number o) 0
nobody_is None = refl
nobody_is (Some p) = sym (eqb-suc-zero p.0)

-- and process p where it is p + 1
pub owner_is : (o : Option Process) (p : Process) → option_eq eq-value.it o (Some p) ≡ eqb (owner_number o) (suc p.0)
owner_is None p = sym (eqb-zero-suc p.0)
owner_is (Some q) p = sym (eqb-suc-suc q.0 p.0)
