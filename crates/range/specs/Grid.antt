-- A block's range beside the crate's (RULES, "Crate reading"), which counts from begin itself, on the grid or not.
--     on_grid       whether begin is on the grid
--     from_begin    the range as the crate counts it
use Rattle.std.specs.Prelude.{◌%◌, ◌^◌, Bool, ◌==◌}
use Rattle.def_wire.specs.declared.Fields.{Fields}
use Rattle.def_standard.specs.declared.Range.{Range}
use Rattle.def_standard.specs.Range.{size_of}

abbrev pub on_grid : Fields → Bool
on_grid f = f.begin % 2 ^ f.thinning == 0

abbrev pub from_begin : Fields → Range
from_begin f = record { begin = f.begin; size = size_of f.begin f.end; thinning = f.thinning }
