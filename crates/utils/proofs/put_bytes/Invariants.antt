-- `utils::put_bytes` meets its contract: of the bytes near the end, those that fit.
use Rattle.std.proofs.Common.{◌≡◌, take}
use Rattle.std.proofs.lemmas.List.Edits.{sets}
use Rattle.utils.proofs.put_bytes.Given as goal

abbrev pub invariant-loop-q : goal.invariant-loop-q
invariant-loop-q g l = l.out ≡ sets l.initial.out l.at (take l.q l.bytes)
