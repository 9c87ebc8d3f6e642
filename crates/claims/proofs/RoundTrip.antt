-- A packet that was written reads back as its records ask. Assumes nothing.
use Rattle.std.specs.Prelude.{Option, Some, None}
use Prim.Native.Nat.{ℕ, ◌+◌}
use mathlib.Core.Path.{◌≡◌, refl}
use mathlib.Core.Bool.{true}
use mathlib.Core.List.{List}
use native.Mathlib.Omega.{arith}
use lib.ListN.{take}
use Rattle.def_wire.specs.declared.Kind.{Kind}
use Rattle.laws.proofs.Tests.{true≢false}
use Rattle.def_wire.specs.declared.Reading.TheVariants.{Standard}
use Rattle.def_wire.specs.declared.Ranged.TheVariants.{Chunks, Times}
use Rattle.def_wire.specs.declared.Kind.TheVariants.{Spans, Clock, Echoes, Statistics}
use Rattle.def_wire.specs.Packet.{view_of}
use Rattle.def_wire.specs.Block.{kind_of}
use Rattle.def_jobs.specs.declared.Layout.{Layout}
use Rattle.def_jobs.specs.Shown.{bare}
use Rattle.def_jobs.specs.Jobs.{Job, is_body, is_block_job, asked_as, asked_of}
use Rattle.def_jobs.specs.Writing.{packet_of}
use Rattle.written.specs.Shows.{record_at, Shows}
use Rattle.written.proofs.Shows.{written-shows}
use Rattle.xr.specs.Parsed.{parsed_of}
use Rattle.claims.proofs.Taken.{listed-taken}
use Rattle.claims.proofs.Answered.{shown-answered}
use Rattle.claims.specs.RoundTrip.{ReadBack, RoundTrip}

-- a record that asks for a block asks something
asks-some : (t : Option Kind) (j : Job) → is_body t j ≡ true → asked_as t j ≡ bare → ⊥
asks-some (Some (Spans (Chunks a))) j g e = let z : ◌≡◌ {A = ℕ} 0 1 = cc in omega arith
asks-some (Some (Spans Times)) j g e = let z : ◌≡◌ {A = ℕ} 0 1 = cc in omega arith
asks-some (Some Clock) j g e = let z : ◌≡◌ {A = ℕ} 0 1 = cc in omega arith
asks-some (Some Echoes) j g e = let z : ◌≡◌ {A = ℕ} 0 1 = cc in omega arith
asks-some (Some Statistics) j g e = let z : ◌≡◌ {A = ℕ} 0 1 = cc in omega arith
asks-some None j g e = true≢false g

pub not-bare : (j : Job) → is_block_job j ≡ true → asked_of j ≡ bare → ⊥
unfolding is_block_job asked_of
not-bare j = asks-some (kind_of j.kind) j

-- ---- the packet

pub reads-back : {layout : Layout} {js : List Job} {s : List ℕ} → Shows layout js s → ReadBack js s
unfolding parsed_of
reads-back {layout} {js} {s} h =
    record {
      counted = h.counted;
      parsed = rw (h.counted, h.sender);
      answered =
          λ k l. shown-answered Standard s k (asked_of (record_at js (k + 1))) (view_of Standard s k) refl
          (not-bare (record_at js (k + 1)) (h.asks k l)) (h.shows k l);
    }

pub round_trip : RoundTrip
round_trip layout list out out' n b p =
    reads-back (written-shows layout list (take n out') b (listed-taken out out' n (packet_of layout list) p))
