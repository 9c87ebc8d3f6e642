-- Rows, by computation.
use mathlib.Core.Path.{refl}
use Rattle.examples.specs.Rows.{Rows}

pub rows-hold : Rows
rows-hold =
    record {
      big_endian = refl;
      example-4 = refl;
      with-padding = refl;
      little_endian = refl;
      header-record = refl;
      other-records = (refl, refl, refl);
      receipt-record = refl;
    }
