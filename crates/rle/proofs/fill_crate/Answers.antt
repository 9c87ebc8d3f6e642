-- `rle::fill_crate` meets its contract: the words can list none, or there is room for as many as they can list or as
-- were counted; else it is refused. Assumes nothing.
use Rattle.std.specs.Prelude.{Ok}
use Rattle.utils.proofs.PartLaws.{take-cut, length_cut}
use Rattle.rle.proofs.CrateLaws.{length-crate}
use Rattle.laws.proofs.Answering.{listed, full}
use Rattle.def_crate.specs.Crate.{crate_numbers_from}
use Rattle.def_wire.specs.Bytes.{words16}
use Rattle.def_refusals.specs.Answers.{Listed, Or}
use Rattle.rle.specs.Most.{most_of}
use lib.ListN.{length, take}
use mathlib.Core.List.{List, [], ◌∷◌}
use native.Mathlib.Omega.{arith}
use mathlib.Core.Path.{◌≡◌, refl, sym}
use Prim.Native.Nat.{ℕ, ◌≤◌}
use Rattle.rle.proofs.fill_crate.Goals as goal
use Rattle.rle.proofs.fill_crate.Goals.{After-min-size, Joined-out-most}
use Rattle.rle.proofs.fill_crate.Goals.{then-out-most+else-out-need, else-out-most}

-- the bytes that are read: no more than the longest packet has
abbrev read : After-min-size → List ℕ
read f = take f.min-size.result f.args.bytes.now

cut : (f : After-min-size) → f.min-size.result ≡ length (read f)
cut f = length_cut f.args.bytes.now 262144 f.min-size.result f.min-size.ensures

short : (f : After-min-size) → length (read f) ≤ 262144
short f = omega (arith, cut f, f.min-size.ensures)

-- what a range's bytes list, and what those list
abbrev numbers : After-min-size → List ℕ → List ℕ
numbers f bytes = let a = f.args in crate_numbers_from a.end a.thinning a.begin (words16 bytes)

abbrev whole : After-min-size → List ℕ
whole f = numbers f (read f)

-- no more than the words can list
most : (f : After-min-size) → length (whole f) ≤ most_of (words16 (read f))
most f = let a = f.args in length-crate a.end a.thinning a.begin _ (omega arith)

-- they are those that the contract names
asked : (f : After-min-size) {out : List ℕ} {r : Or ℕ} {out' : List ℕ} → Listed (Ok (whole f)) out r out'
    → Listed (Ok (numbers f (take 262144 f.args.bytes.now))) out r out'
asked f l = let b = f.args.bytes.now in rw (← take-cut b 262144 f.min-size.result f.min-size.ensures) l

-- a list of none
empty : (l : List ℕ) → length l ≡ 0 → l ≡ []
empty [] e = refl
empty (x ∷ l) e = absurd (omega (arith, e))

-- there is room: for as many as the words can list, or for as many as were counted
room : (c : Joined-out-most) → let a = c.args in
    length (crate_numbers_from a.end a.thinning a.begin (words16 (take c.min-size.result a.bytes.now)))
    ≤ length a.out.now
room c =
    let a = c.args in
    let most = length-crate a.end a.thinning a.begin (words16 (take c.min-size.result a.bytes.now)) (omega arith) in
    elim c.if-out-most.branch [
      | then-out-most+else-out-need w ↦ omega (arith, w.tally_crate-need.ensures, w.if-out-need.false)
      | else-out-most w ↦ omega (arith, w.if-out-most.false, c.at_most-most.ensures, most)
    ]

pub slice_bounds-part-end : goal.slice_bounds-part-end
slice_bounds-part-end c = cut (goal.at.slice_bounds-part-end c).After-min-size

pub at_most-most-requires : goal.at_most-most-requires
at_most-most-requires c = short (goal.at.at_most-most-requires c).After-min-size

pub returns-then-most-eq0 : goal.returns-then-most-eq0
returns-then-most-eq0 c = let f = (goal.at.returns-then-most-eq0 c).After-min-size in
    let e : length (whole f) ≡ 0 = omega (arith, c.if-most-eq0.true, c.at_most-most.ensures, most f) in
    let none = empty (whole f) e in
    asked f (listed (Ok (whole f)) _ (whole f) _ _ refl (omega (arith, e)) (sym e, rw none))

pub tally_crate-need-requires : goal.tally_crate-need-requires
tally_crate-need-requires c = short (goal.at.tally_crate-need-requires c).After-min-size

pub returns-then-out-need : goal.returns-then-out-need
returns-then-out-need c = let f = (goal.at.returns-then-out-need c).After-min-size in
    asked f (full (Ok (whole f)) _ (whole f) _ refl c.tally_crate-need.ensures c.if-out-need.true)

pub list_crate-requires : goal.list_crate-requires
list_crate-requires c = room (goal.at.list_crate-requires c).Joined-out-most

pub returns : goal.returns
returns c = let f = (goal.at.returns c).After-min-size in
    asked f
    (listed (Ok (whole f)) _ (whole f) _ _ refl (room (goal.at.returns c).Joined-out-most) c.list_crate.ensures)
