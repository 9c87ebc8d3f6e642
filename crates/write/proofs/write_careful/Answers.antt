-- `write::write_careful` meets its contract: 12, 14, 15, then 11 or the packet.
use mathlib.Core.Path.{sym, ◌∙◌}
use Rattle.laws.proofs.Answering.{turned-away}
use Rattle.laws.proofs.Passing.{handed-on}
use Rattle.def_jobs.specs.declared.Layout.TheVariants.{Careful}
use Rattle.write.proofs.PacketLaws.{packet-done, packet-misleads, packet-refused}
use Rattle.write.proofs.write_careful.Goals as goal

pub misleading-requires : goal.misleading-requires
misleading-requires c = sym c.packet_size.ensures ∙ c.in_ok-size.was

pub put-requires : goal.put-requires
put-requires c = sym c.packet_size.ensures ∙ c.in_ok-size.was

pub returns-in_err-size : goal.returns-in_err-size
returns-in_err-size c = let a = c.args in
    rw (handed-on _ _ c.from_residual.ensures) (turned-away _ a.out.now _
    (packet-refused Careful a.list.now _ (sym c.packet_size.ensures ∙ c.in_err-size.was)))

pub returns-in_err-misleading : goal.returns-in_err-misleading
returns-in_err-misleading c = let a = c.args in
    rw (handed-on _ _ c.from_residual-in_err-misleading.ensures) (turned-away _ a.out.now _
    (packet-misleads Careful a.list.now c.in_ok-size.size (sym c.packet_size.ensures ∙ c.in_ok-size.was)
    _ (sym c.misleading.ensures ∙ c.in_err-misleading.was)))

pub returns : goal.returns
returns c = let a = c.args in
    rw (packet-done Careful a.list.now c.in_ok-size.size (sym c.packet_size.ensures ∙ c.in_ok-size.was)
    (sym c.misleading.ensures ∙ c.in_ok-misleading.was))
    c.put.ensures
