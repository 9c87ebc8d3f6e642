-- `write::write_plain` meets its contract: 12, 14, then 11 or the packet.
use mathlib.Core.Path.{refl, sym, ◌∙◌}
use Rattle.laws.proofs.Answering.{turned-away}
use Rattle.laws.proofs.Passing.{handed-on}
use Rattle.write.proofs.PacketLaws.{packet-done, packet-refused}
use Rattle.def_jobs.specs.declared.Layout.TheVariants.{Plain}
use Rattle.write.proofs.write_plain.Goals as goal

pub put-requires : goal.put-requires
put-requires c = sym c.packet_size.ensures ∙ c.in_ok-size.was

pub returns-in_err-size : goal.returns-in_err-size
returns-in_err-size c = let a = c.args in
    rw (handed-on _ _ c.from_residual.ensures) (turned-away _ a.out.now _
    (packet-refused Plain a.list.now _ (sym c.packet_size.ensures ∙ c.in_err-size.was)))

pub returns : goal.returns
returns c = let a = c.args in
    rw (packet-done Plain a.list.now c.in_ok-size.size (sym c.packet_size.ensures ∙ c.in_ok-size.was) refl)
    c.put.ensures
