-- `dlrr::count` meets its contract: how many whole entries a view has behind its four header bytes.
use Rattle.dlrr.proofs.EntriesLaws.{length-entries}
use native.Mathlib.Omega.{arith}
use lib.ListN.{length}
use Prim.Native.Nat.{◌-◌, ◌/◌}
use mathlib.Core.Path.{◌≡◌, sym, ◌∙◌}
use Rattle.dlrr.proofs.count.Goals as goal

pub returns-then-v-lt4 : goal.returns-then-v-lt4
returns-then-v-lt4 c = let v = c.args.v.now in
    (let h : 0 ≡ (length v - 4) / 12 = omega arith in h) ∙ sym (length-entries v)

pub returns : goal.returns
returns c = sym (length-entries c.args.v.now)
