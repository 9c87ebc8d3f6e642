-- `builder::write_words` meets its contract: fields, words, and zero words.
use Rattle.laws.proofs.Stores.{same}
use Rattle.builder.proofs.BlockLaws.{few-zeros, words-room, words-wrote}
use Prim.Native.Nat.{◌+◌, ◌*◌, ◌≤◌}
use lib.ListN.{length, drop}
use native.Mathlib.Omega.{arith}
use Rattle.swap.specs.Swapped.{swapped16}
use Rattle.builder.proofs.write_words.Goals as goal
use Rattle.builder.proofs.write_words.Goals.{After-put_fields-words, After-zeros_behind-zeros}

few : (z : After-zeros_behind-zeros) → z.zeros_behind-zeros.result ≤ 2
few z =
    few-zeros z.args.layout z.args.a z.args.body.now z.requires.0 _ z.zeros_behind-zeros.ensures

-- behind the fields there is room for the rest
room : (f : After-put_fields-words) → f.put_fields-words.result + length (swapped16 (drop 10 f.args.body.now))
    + 2 * f.zeros_behind-zeros.result ≤ length f.put_fields-words.new.out
room f =
    words-room f.args.layout f.args.a f.args.body.now f.requires.0 _ f.zeros_behind-zeros.ensures _
    f.rle_type.ensures f.put_fields-words.ensures f.requires.1

pub swap16-end-requires : goal.swap16-end-requires
swap16-end-requires c = (c.requires.0.ten, omega (arith, room (goal.at.swap16-end-requires c).After-put_fields-words))

pub zero_words-requires : goal.zero_words-requires
zero_words-requires c = let v = c.swap16-end.ensures in
    (few (goal.at.zero_words-requires c).After-zeros_behind-zeros, omega (arith, v.past, same v, room (goal.at.zero_words-requires c).After-put_fields-words))

pub returns : goal.returns
returns c = words-wrote c.args.layout c.args.a c.args.body.now c.requires.0 _ c.zeros_behind-zeros.ensures _
    c.rle_type.ensures c.put_fields-words.ensures c.swap16-end.ensures c.zero_words.ensures

pub overflow_mul-zeros : goal.overflow_mul-zeros
overflow_mul-zeros c = omega (arith, few (goal.at.overflow_mul-zeros c).After-zeros_behind-zeros)

pub overflow_add-body : goal.overflow_add-body
overflow_add-body c = omega (arith, few (goal.at.overflow_add-body c).After-zeros_behind-zeros)
