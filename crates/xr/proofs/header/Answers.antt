-- `xr::header` meets its contract: each way out cites a law of `header_of`, with the tests that led there.
use Rattle.std.specs.Prelude.{Ok}
use Prim.Native.Nat.{◌≤◌}
use mathlib.Core.Path.{◌≡◌, sym, ◌∙◌, ap}
use native.Mathlib.Omega.{arith}
use lib.ListN.{length}
use Rattle.def_wire.specs.Packet.{least_of, announced_of, padding_of, stop_of, header_of, is_bad_padding}
use mathlib.Core.Bool.{false}
use Rattle.xr.proofs.HeaderLaws.{least-ge, header-short, header-version, header-type, header-length}
use Rattle.xr.proofs.HeaderLaws.{header-padding, header-padded, header-plain, stop-plain, stop-standard}
use Rattle.xr.proofs.HeaderLaws.{stop-crate, good-padding}
use Rattle.xr.proofs.header.Goals as goal
use Rattle.xr.proofs.header.Goals.{Else-is_bad_padding, Else-s-fewest, Else-says-s}

-- the packet is long enough
long : (c : Else-s-fewest) → least_of c.args.r ≤ length c.args.s.now
long c =
    rw c.least-fewest.ensures at c.if-s-fewest.false

at-least-8 : (c : Else-s-fewest) → 8 ≤ length c.args.s.now
at-least-8 c =
    omega (arith, long c, least-ge c.args.r)

-- it is as long as it says
says : (c : Else-says-s) → announced_of c.args.s.now ≡ length c.args.s.now
says c =
    sym c.length_at-says.ensures.value ∙ c.if-says-s.false

-- padding that is not bad
good : (c : Else-is_bad_padding) → is_bad_padding (padding_of c.args.s.now) (length c.args.s.now) ≡ false
good c =
    rw c.from-n.ensures at
    (sym c.is_bad_padding.ensures ∙ c.if-is_bad_padding.false)

padded : (c : Else-is_bad_padding) → Ok (stop_of c.args.r c.args.s.now) ≡ header_of c.args.r c.args.s.now
padded c =
    let long : least_of c.args.r ≤ length c.args.s.now = rw c.least-fewest.ensures at c.if-s-fewest.false in
    let says : announced_of c.args.s.now ≡ length c.args.s.now = sym c.length_at-says.ensures.value ∙ c.if-says-s.false in
    header-padded c.args.r c.args.s.now (long) c.if-first-ne2.false c.if-kind.false
    (says) c.if-first-ne1.false (good c)

pub returns-then-s-fewest : goal.returns-then-s-fewest
returns-then-s-fewest c = rw c.least-fewest.ensures (header-short c.args.r c.args.s.now (rw c.least-fewest.ensures at c.if-s-fewest.true))

pub bounds-s-0 : goal.bounds-s-0
bounds-s-0 c = omega (arith, at-least-8 (goal.at.bounds-s-0 c).Else-s-fewest)

pub bounds-s-1 : goal.bounds-s-1
bounds-s-1 c = omega (arith, at-least-8 (goal.at.bounds-s-1 c).Else-s-fewest)

pub returns-then-first-ne2 : goal.returns-then-first-ne2
returns-then-first-ne2 c = header-version c.args.r c.args.s.now (long (goal.at.returns-then-first-ne2 c).Else-s-fewest)
    c.if-first-ne2.true

pub returns-then-kind : goal.returns-then-kind
returns-then-kind c = header-type c.args.r c.args.s.now (long (goal.at.returns-then-kind c).Else-s-fewest) (omega arith) c.if-kind.true

pub length_at-says-requires : goal.length_at-says-requires
length_at-says-requires c = omega (arith, at-least-8 (goal.at.length_at-says-requires c).Else-s-fewest)

pub returns-then-says-s : goal.returns-then-says-s
returns-then-says-s c = let k = c.length_at-says.ensures.value in
    rw k (header-length c.args.r c.args.s.now (long (goal.at.returns-then-says-s c).Else-s-fewest) c.if-first-ne2.false
    c.if-kind.false (λ q. c.if-says-s.true (k ∙ q)))

pub returns-then-first-ne1 : goal.returns-then-first-ne1
returns-then-first-ne1 c = ap Ok (sym (stop-plain c.args.r c.args.s.now c.if-first-ne1.true))
    ∙ header-plain c.args.r c.args.s.now (long (goal.at.returns-then-first-ne1 c).Else-s-fewest) c.if-first-ne2.false
    c.if-kind.false (says (goal.at.returns-then-first-ne1 c).Else-says-s) c.if-first-ne1.true

pub is_bad_padding-requires : goal.is_bad_padding-requires
is_bad_padding-requires c = omega (
  arith,
  at-least-8
      (goal.at.is_bad_padding-requires c).Else-s-fewest,
)

pub returns-then-is_bad_padding : goal.returns-then-is_bad_padding
returns-then-is_bad_padding c = rw c.from-n.ensures
    (header-padding c.args.r c.args.s.now (long (goal.at.returns-then-is_bad_padding c).Else-s-fewest) c.if-first-ne2.false
    c.if-kind.false (says (goal.at.returns-then-is_bad_padding c).Else-says-s) c.if-first-ne1.false (rw c.from-n.ensures at
    (sym c.is_bad_padding.ensures ∙ c.if-is_bad_padding.true)))

pub overflow_sub-result : goal.overflow_sub-result
overflow_sub-result c = omega (
  arith,
  c.from-n.ensures,
  (good-padding (padding_of c.args.s.now) (length c.args.s.now)
      (good (goal.at.overflow_sub-result c).Else-is_bad_padding)).1,
)

pub returns-in-Standard : goal.returns-in-Standard
returns-in-Standard c = ap Ok (stop-standard c.args.r c.args.s.now c.from-n.result c.in-Standard.is
    c.from-n.ensures c.if-first-ne1.false) ∙ padded (goal.at.returns-in-Standard c).Else-is_bad_padding

pub returns-in-Crate : goal.returns-in-Crate
returns-in-Crate c = ap Ok (stop-crate c.args.r c.args.s.now c.in-Crate.is) ∙ padded (goal.at.returns-in-Crate c).Else-is_bad_padding
