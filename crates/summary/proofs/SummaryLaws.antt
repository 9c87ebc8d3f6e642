-- The laws of the question for a summary: each way in which it ends, with what leads there as premises. Assumes
-- nothing.
use Rattle.std.specs.Prelude.{Ok, Err}
use Prim.Native.Nat.{ℕ}
use mathlib.Core.Path.{◌≡◌}
use mathlib.Core.List.{List}
use Rattle.def_refusals.specs.declared.Refusal.{Refusal}
use Rattle.def_wire.specs.declared.Reading.{Reading}
use Rattle.def_wire.specs.declared.Kind.TheVariants.{Statistics}
use Rattle.def_wire.specs.Packet.{locate, part}
use Rattle.def_wire.specs.Block.{check_of}
use Rattle.def_wire.specs.Summary.{summary_at, summary_of}
use Rattle.def_questions.specs.Packets.{summary_asked}

-- of a view
module _ (r : Reading) (v : List ℕ) where
  pub summary-shown : check_of r Statistics v ≡ Ok tt → Ok (summary_at v) ≡ summary_of r v
  unfolding summary_of
  summary-shown e = rw e

  pub summary-unfit : (x : Refusal) → check_of r Statistics v ≡ Err x → Err x ≡ summary_of r v
  unfolding summary_of
  summary-unfit x e = rw e

-- of a packet: where the block is located, and where it is not
module _ (r : Reading) (s : List ℕ) (k : ℕ) where
  pub summary-asked : (at n : ℕ) → locate r s k ≡ Ok (at, n) → summary_of r (part s at n) ≡ summary_asked r s k
  unfolding summary_asked
  summary-asked at n e = rw e

  pub summary-missing : (x : Refusal) → locate r s k ≡ Err x → Err x ≡ summary_asked r s k
  unfolding summary_asked
  summary-missing x e = rw e
