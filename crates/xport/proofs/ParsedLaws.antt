-- A parsed packet laid out as numbers: its count of blocks and its sender's SSRC, or a refusal. Assumes nothing.
use Rattle.std.specs.Prelude.{Ok, Err}
use Rattle.xr.specs.declared.Xr.{Xr}
use Prim.Native.Nat.{ℕ}
use mathlib.Core.Path.{◌≡◌, refl}
use mathlib.Core.List.{List}
use Rattle.def_refusals.specs.Answers.{Or}
use Rattle.def_wire.specs.declared.Reading.{Reading}
use Rattle.def_wire.specs.Packet.{count_of}
use Rattle.xr.specs.Parsed.{parsed_to, parsed_of}
use Rattle.flat.specs.declared.Flat.{Flat}
use Rattle.flat.specs.Flat.{found, flat_refusal, flat_parsed}

abbrev pub flat_read : Or Xr → Flat
flat_read (Ok p) = found p.blocks p.ssrc
flat_read (Err x) = flat_refusal x

on-answer : (s : List ℕ) (a : Or ℕ) → flat_read (parsed_to s a) ≡ flat_parsed s a
unfolding flat_parsed
on-answer s (Ok n) = refl
on-answer s (Err x) = refl

pub parsed-flat : (r : Reading) (s : List ℕ) → flat_read (parsed_of r s) ≡ flat_parsed s (count_of r s)
unfolding parsed_of
parsed-flat r s = on-answer s (count_of r s)
