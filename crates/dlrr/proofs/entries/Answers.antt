-- `dlrr::entries` meets its contract: the entries of a block's view.
use Rattle.laws.proofs.Passing.{handed-on}
use Rattle.dlrr.proofs.EntriesLaws.{entries-fine, entries-unfit, entries-listed, entries-full, entries-refused}
use Rattle.def_standard.specs.Standard.{entries_of}
use native.Mathlib.Omega.{arith}
use lib.ListN.{length}
use Prim.Native.Nat.{ℕ, min}
use mathlib.Core.Path.{sym, ap, ◌∙◌}
use Rattle.dlrr.proofs.entries.Goals as goal

pub returns-then-room-n : goal.returns-then-room-n
returns-then-room-n c = let a = c.args in
    entries-full _ a.ssrcs.now a.lasts.now a.delays.now (entries_of a.v.now) c.count-n.result
    c.min-room.result (entries-fine a.r a.v.now (sym c.check_echoes.ensures ∙ c.in_ok-check_echoes.was))
    c.count-n.ensures (c.min-room.ensures ∙ ap (λ (x : ℕ). min x (length a.delays.now))
    c.min.ensures) c.if-room-n.true

pub returns : goal.returns
returns c = let a = c.args in
    entries-listed _ a.ssrcs.now a.lasts.now a.delays.now (entries_of a.v.now) c.count-n.result _ _ _
    (entries-fine a.r a.v.now (sym c.check_echoes.ensures ∙ c.in_ok-check_echoes.was)) c.count-n.ensures
    (omega (arith, c.if-room-n.false, c.min-room.ensures, c.min.ensures)) c.store.ensures

pub returns-in_err-check_echoes : goal.returns-in_err-check_echoes
returns-in_err-check_echoes c = let a = c.args in
    rw (handed-on _ _ c.from_residual.ensures) (entries-refused _ a.ssrcs.now a.lasts.now a.delays.now c.in_err-check_echoes.field-0.0
    (entries-unfit a.r a.v.now c.in_err-check_echoes.field-0.0 (sym c.check_echoes.ensures ∙ c.in_err-check_echoes.was)))
