-- `utils::put_bytes` meets its contract: all bytes, those that fit, or none. Assumes nothing.
use Rattle.std.proofs.Common.{sym, ap, ◌∙◌, set, get_or, List, ℕ, ◌+◌, arith}
use Rattle.utils.proofs.StoresLaws.{sets-out, sets_mid, sets_more, sets_past}
use Rattle.utils.proofs.put_bytes.Goals as goal
use Rattle.utils.proofs.put_bytes.Goals.{then-q-room, else-q-room}

pub returns-then-room : goal.returns-then-room
returns-then-room g c = let w = c.copy_from_slice.ensures in
    sets_mid c.args.out.now _ _ c.args.at _ (omega arith) w.len w.after

pub loop-q-preserved : goal.loop-q-preserved
loop-q-preserved g c =
    let a = c.args in
    let q = c.loop-q.q in
    elim c.if-q-room.branch [
      | then-q-room w ↦
          w.out-is ∙ ap (λ (o : List ℕ). set o (a.at + q) (get_or a.bytes q 0)) c.loop-q.invariant
          ∙ sets_more a.out.now a.bytes a.at q (omega arith)
      | else-q-room w ↦
          w.out-is ∙ c.loop-q.invariant ∙ sets_past a.out.now a.bytes a.at q (omega arith) (omega arith)
    ]

pub returns-else-at-out : goal.returns-else-at-out
returns-else-at-out g c = sym (sets-out c.args.out.now c.args.at c.args.bytes c.if-at-out.false)
