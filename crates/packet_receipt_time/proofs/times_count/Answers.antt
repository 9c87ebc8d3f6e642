-- `packet_receipt_time::times_count` meets its contract: how many times a view has from byte 12 on.
use Rattle.utils.proofs.BytesLaws.{length-words32}
use Rattle.std.proofs.Common.{◌≡◌, ◌-◌, ◌/◌, length, drop, sym, ◌∙◌, arith, length-drop}
use Rattle.packet_receipt_time.proofs.times_count.Goals as goal

pub returns-then-v-lt12 : goal.returns-then-v-lt12
returns-then-v-lt12 c = let v = c.args.v.now in
    (let e : 0 ≡ length (drop 12 v) / 4 = omega (arith, length-drop 12 v) in e) ∙ sym (length-words32 (drop 12 v))

pub returns : goal.returns
returns c = let v = c.args.v.now in
    (let e : (length v - 12) / 4 ≡ length (drop 12 v) / 4 = omega (arith, length-drop 12 v) in e)
    ∙ sym (length-words32 (drop 12 v))
