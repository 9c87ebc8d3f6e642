-- `marks::fifteen_bits` meets its contract: four loads, near the end such as take a byte past it for 0.
use mathlib.Core.Path.{◌∙◌}
use Rattle.marks.proofs.FourLaws.{fifteen-bits}
use Rattle.marks.proofs.fifteen_bits.Goals as goal

pub returns-then-marks-at-ge15 : goal.returns-then-marks-at-ge15
returns-then-marks-at-ge15 c = c.join.ensures
    ∙ fifteen-bits c.args.marks.now c.args.at c.requires.0 c.load32.ensures c.load32-then-marks-at-ge15.ensures
    c.load32-then-marks-at-ge15-2.ensures c.load32-then-marks-at-ge15-3.ensures

pub returns : goal.returns
returns c = c.join-2.ensures
    ∙ fifteen-bits c.args.marks.now c.args.at c.requires.0 c.u32_from_be_bytes.ensures
    c.u32_from_be_bytes-2.ensures c.u32_from_be_bytes-3.ensures c.u32_from_be_bytes-4.ensures
