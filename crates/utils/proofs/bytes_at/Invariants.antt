-- `utils::bytes_at` meets its contract: the bytes near the end, one by one.
use Rattle.std.proofs.Common.{◌≡◌, ℕ, ◌<◌, length, get_or}
use Rattle.def_wire.specs.Bytes.{byte_at}
use Rattle.utils.proofs.bytes_at.Given as goal

abbrev pub invariant-loop-q : goal.invariant-loop-q
invariant-loop-q g l =
    (length l.bytes ≡ g.row.N) × ((p : ℕ) → p < l.q → get_or l.bytes p 0 ≡ byte_at l.rest p)
