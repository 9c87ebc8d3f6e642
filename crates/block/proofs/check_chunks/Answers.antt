-- `block::check_chunks` meets its contract: 10, then 7, asked as type 1 or 2.
use Rattle.block.proofs.BlockLaws.{check-other, chunks-standard, chunks-crate}
use Rattle.def_wire.specs.declared.Ranged.TheVariants.{Chunks}
use Rattle.def_wire.specs.declared.Kind.TheVariants.{Spans}
use Rattle.def_wire.specs.Block.{type_of, rle_type}
use mathlib.Core.Path.{◌≡◌, sym, ◌∙◌}
use Rattle.block.proofs.check_chunks.Goals as goal
use Rattle.block.proofs.check_chunks.Goals.{Else-t-rle_type}

same : (e : Else-t-rle_type) → let a = e.args in type_of a.v.now ≡ rle_type a.a
same e =
    sym e.type_of-t.ensures ∙ e.if-t-rle_type.false ∙ e.rle_type.ensures

pub returns-then-t-rle_type : goal.returns-then-t-rle_type
returns-then-t-rle_type c = let a = c.args in
    c.other.ensures ∙ (rw c.type_of-t.ensures (check-other a.r (Spans (Chunks a.a)) a.v.now
    (λ q. c.if-t-rle_type.true (c.type_of-t.ensures ∙ q ∙ sym c.rle_type.ensures))))

pub returns-in-Standard : goal.returns-in-Standard
returns-in-Standard c = let a = c.args in
    c.check_words.ensures ∙ chunks-standard a.r a.v.now a.a (same (goal.at.returns-in-Standard c).Else-t-rle_type) c.in-Standard.is

pub returns-in-Crate : goal.returns-in-Crate
returns-in-Crate c = let a = c.args in
    c.rule.ensures
    ∙ chunks-crate a.r a.v.now a.a (same (goal.at.returns-in-Crate c).Else-t-rle_type) c.length_of-l.result c.length_of-l.ensures.0
    c.in-Crate.is
