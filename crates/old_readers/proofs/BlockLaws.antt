-- What 15 comes to for the block of any record, whatever stands behind it. Assumes nothing.
use Rattle.std.specs.Prelude.{Option, Some, None}
use Prim.Native.Nat.{ℕ, ◌≤◌}
use mathlib.Core.Path.{◌≡◌}
use mathlib.Core.Bool.{true}
use mathlib.Core.List.{List, ◌++◌}
use native.Mathlib.Omega.{arith}
use lib.ListN.{length, length-append}
use Rattle.def_wire.specs.declared.Kind.{Kind}
use Rattle.laws.proofs.Tests.{true≢false}
use Rattle.def_wire.specs.declared.Reading.TheVariants.{Standard, Crate}
use Rattle.def_wire.specs.declared.Ranged.TheVariants.{Chunks, Times}
use Rattle.def_wire.specs.declared.Kind.TheVariants.{Spans, Clock, Echoes, Statistics}
use Rattle.def_wire.specs.Block.{kind_of}
use Rattle.def_jobs.specs.declared.Layout.TheVariants.{Careful}
use Rattle.def_jobs.specs.Shown.{record_of}
use Rattle.def_jobs.specs.Jobs.{Job, is_body, is_block_job}
use Rattle.def_jobs.specs.Layout.{bytes_as, block_bytes}
use Rattle.def_jobs.specs.Writing.{max_bytes, differs}
use Rattle.misled.specs.Misled.{misled_as, misled_by}
use Rattle.written.proofs.RecordsLaws.{Body}
use Rattle.old_readers.proofs.ChunksLaws.{chunks-mislead}
use Rattle.old_readers.proofs.TimesLaws.{times-mislead}
use Rattle.old_readers.proofs.OtherLaws.{clock-misleads-never, echoes-mislead, sums-mislead-never}

by_kind : (k : Option Kind) (j : Job) → is_body k j ≡ true → Body j → (rest : List ℕ)
    → length (bytes_as k Careful j ++ rest) ≤ max_bytes
    → differs (record_of Crate (bytes_as k Careful j ++ rest)) (record_of Standard (bytes_as k Careful j))
    ≡ misled_as k j (length rest)
by_kind (Some (Spans (Chunks a))) j g b rest h =
    let v = bytes_as (Some (Spans (Chunks a))) Careful j in
    chunks-mislead a j g b rest (omega (arith, length-append v rest, h))
by_kind (Some (Spans Times)) j g b rest h = times-mislead j g b rest h
by_kind (Some Clock) j g b rest h = clock-misleads-never j b rest
by_kind (Some Echoes) j g b rest h = echoes-mislead j g b rest h
by_kind (Some Statistics) j g b rest h = sums-mislead-never j rest _
by_kind None j g b rest h = true≢false g

pub block-misleads : (j : Job) → is_block_job j ≡ true → Body j → (rest : List ℕ)
    → length (block_bytes Careful j ++ rest) ≤ max_bytes
    → differs (record_of Crate (block_bytes Careful j ++ rest)) (record_of Standard (block_bytes Careful j))
    ≡ misled_by j (length rest)
unfolding is_block_job block_bytes misled_by
block-misleads j g b rest h = rw g (by_kind (kind_of j.kind) j g b rest h)
