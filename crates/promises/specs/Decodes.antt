-- How the registers of each call are read.
use Rattle.std.specs.Prelude.{ℕ, ◌≤◌, ◌<◌, ◌≡◌, refl, false, eqb}
use Rattle.std.proofs.Common.{arith, le-leb, ne_eqb}
use Rattle.std.proofs.lemmas.Bool.{lt-leb}
use Rattle.definition.specs.Tests.{provided◌then◌else◌}
use Rattle.definition.specs.Board.{Kind, subscribe, read_write, read_only}
use Rattle.definition.specs.Answer.{failure, NOSUPPORT}
use Rattle.definition.specs.Call.{pair, known, aside, exchange, command, bound, decode, decode_yield, decode_memop, class_of}

-- ---- how the registers are read

pub decode_exchange : (kind : Kind) (driver j x y : ℕ) → decode (class_of kind) driver j x y ≡ known (exchange kind driver j (pair x y))
unfolding decode provided◌then◌else◌
decode_exchange subscribe driver j x y = refl
decode_exchange read_write driver j x y = refl
decode_exchange read_only driver j x y = refl

pub decode_command : (driver number x y : ℕ) → decode 2 driver number x y ≡ known (command driver number x y)
unfolding decode provided◌then◌else◌
decode_command driver number x y = refl

pub decode_yield_lem : (number address x y : ℕ) → decode 0 number address x y ≡ decode_yield number address
unfolding decode provided◌then◌else◌
decode_yield_lem number address x y = refl

-- numbers past those that are known
pub above : (n k : ℕ) → k < n → eqb n k ≡ false
above n k h = ne_eqb n k (λ e. omega arith)

pub decode_bound : (operation x y z : ℕ) → 2 ≤ operation → operation ≤ 6 → decode 5 operation x y z ≡ known (bound operation)
unfolding decode decode_memop provided◌then◌else◌
decode_bound n x y z h g = rw (above n 0 (omega arith), above n 1 (omega arith), le-leb n 6 g)

pub other_memop_lem : (operation x y z : ℕ) → 6 < operation → decode 5 operation x y z ≡ aside (failure NOSUPPORT)
unfolding decode decode_memop provided◌then◌else◌
other_memop_lem n x y z h = rw (above n 0 (omega arith), above n 1 (omega arith), lt-leb n 6 h)

pub other_class_lem : (class r0 r1 r2 r3 : ℕ) → 6 < class → decode class r0 r1 r2 r3 ≡ aside (failure NOSUPPORT)
unfolding decode provided◌then◌else◌
other_class_lem n r0 r1 r2 r3 h = rw (above n 0 (omega arith), above n 1 (omega arith), above n 2 (omega arith), above n 3 (omega arith), above n 4 (omega arith), above n 5 (omega arith), above n 6 h)
