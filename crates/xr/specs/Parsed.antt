-- What a parsed packet is: how many blocks it has and who sent it, or the first of the refusals 1 to 6 that applies.
use Rattle.xr.specs.declared.Xr.{Xr}
use Rattle.std.specs.Prelude.{List, ℕ, Ok, Err}
use Rattle.def_refusals.specs.Answers.{Or}
use Rattle.def_wire.specs.declared.Reading.{Reading}
use Rattle.def_wire.specs.Packet.{count_of, ssrc_of}

abbrev pub parsed_to : List ℕ → Or ℕ → Or Xr
parsed_to s (Ok n) = Ok (record { blocks = n; ssrc = ssrc_of s })
parsed_to s (Err x) = Err x

unfoldable pub parsed_of : Reading → List ℕ → Or Xr
parsed_of r s = parsed_to s (count_of r s)
