-- `ones::put_places` meets its contract: there is no room, or the word's storer has it. Assumes nothing.
use Rattle.std.proofs.Common.{◌≡◌, ◌+◌, ◌<◌, ◌≤◌, length, take, drop, ap, ◌∙◌, arith}
use Rattle.def_standard.specs.Chunks.{values_in}
use Rattle.laws.proofs.Stores.{none}
use Rattle.ones.specs.Along.{along}
use Rattle.ones.proofs.ListingLaws.{fitting-all, fitting-none}
use Rattle.ones.proofs.WordLaws.{length-ones}
use Rattle.ones.proofs.RestLaws.{along-rest}
use Rattle.ones.proofs.put_places.Goals as goal
use Rattle.ones.proofs.put_places.Goals.{After-ones_before, After-rest_of-rest}

rest : (r : After-rest_of-rest) → let a = r.args in
    along a.step a.first (take a.room (values_in r.rest_of-rest.result)) ≡ (let a = r.args in along a.step a.first (take a.room (drop a.place (values_in a.w))))
rest r =
    let a = r.args in
    rw r.rest_of-rest.ensures (along-rest a.step a.first a.room a.w a.place)

-- as many
count : (o : After-ones_before) → o.ones_before.result ≡ length ((let a = o.args in along a.step a.first (take a.room (drop a.place (values_in a.w)))))
count o =
    let rest : let a = o.args in
    along a.step a.first (take a.room (values_in o.rest_of-rest.result)) ≡ (let a = o.args in along a.step a.first (take a.room (drop a.place (values_in a.w)))) = let a = o.args in
    rw o.rest_of-rest.ensures (along-rest a.step a.first a.room a.w a.place) in
    let a = o.args in
    o.ones_before.ensures ∙ length-ones a.step a.first a.room o.rest_of-rest.result ∙ ap length (rest)

pub returns-then-out-at : goal.returns-then-out-at
returns-then-out-at c = rw (fitting-none (length c.args.out.now) c.args.at ((let a = c.args in along a.step a.first (take a.room (drop a.place (values_in a.w))))) (let h = c.if-out-at.true in omega arith)) none

pub returns-then-out-at-2 : goal.returns-then-out-at-2
returns-then-out-at-2 c = let n = count (goal.at.returns-then-out-at-2 c).After-ones_before in
    let h : length c.args.out.now < c.args.at + length ((let a = c.args in along a.step a.first (take a.room (drop a.place (values_in a.w))))) = omega (arith, c.if-out-at-2.true, n) in
    rw (fitting-none (length c.args.out.now) c.args.at ((let a = c.args in along a.step a.first (take a.room (drop a.place (values_in a.w))))) h) none

pub store_word-requires : goal.store_word-requires
store_word-requires c = rw (rest (goal.at.store_word-requires c).After-rest_of-rest) (omega (arith, c.if-out-at-2.false, c.if-out-at.false, count (goal.at.store_word-requires c).After-ones_before))

pub returns : goal.returns
returns c = let h : c.args.at + length ((let a = c.args in along a.step a.first (take a.room (drop a.place (values_in a.w))))) ≤ length c.args.out.now =
    omega (arith, c.if-out-at-2.false, c.if-out-at.false, count (goal.at.returns c).After-ones_before) in
    rw (fitting-all (length c.args.out.now) c.args.at ((let a = c.args in along a.step a.first (take a.room (drop a.place (values_in a.w))))) h, ← rest (goal.at.returns c).After-rest_of-rest)
    c.store_word.ensures
