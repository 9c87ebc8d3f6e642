-- `block_events::put_numbers` meets its contract: the numbers, and a tag for each. Assumes nothing.
use Rattle.std.proofs.Common.{◌≡◌, ℕ, ◌+◌, ◌-◌, length, sym, ap, ◌∙◌, arith}
use lib.Seq.{sets}
use Rattle.def_wire.specs.Bytes.{words16}
use Rattle.def_standard.specs.Standard.{numbers_of}
use Rattle.event_lists.specs.Laid.{number_tags}
use Rattle.event_lists.proofs.LaidLaws.{laid-tags, laid-numbers}
use Rattle.block_events.proofs.PartLaws.{answered, filled-part, done-as, not-refused}
use Rattle.block_events.proofs.put_numbers.Goals as goal
use Rattle.block_events.proofs.put_numbers.Goals.{In-Ok}

-- as many were listed
counted : (c : In-Ok) → c.in-Ok.m ≡ length (numbers_of c.args.r (words16 c.args.words.now))
counted c =
    done-as (answered (numbers_of c.args.r (words16 c.args.words.now)) c.args.numbers.now c.args.n c.requires.1 c.fill_standard.ensures)
    c.in-Ok.is

pub overflow_add-n : goal.overflow_add-n
overflow_add-n c =
    omega (arith, counted (goal.at.overflow_add-n c).In-Ok, c.requires.0, c.well_formed)

pub put_tags-requires : goal.put_tags-requires
put_tags-requires c =
    (omega arith, omega (arith, counted (goal.at.put_tags-requires c).In-Ok, c.requires.0))

pub overflow_add-result : goal.overflow_add-result
overflow_add-result c =
    omega (arith, counted (goal.at.overflow_add-result c).In-Ok, c.requires.0, c.well_formed)

pub returns-in-Ok : goal.returns-in-Ok
returns-in-Ok c =
    let a = c.args in
    let xs = numbers_of a.r (words16 a.words.now) in
    let k = c.in-Ok.m in
    let e : a.n + k - a.n ≡ length xs = omega (arith, counted (goal.at.returns-in-Ok c).In-Ok) in
    record {
      tags_after = c.put_tags.ensures ∙ ap (λ (k : ℕ). sets a.tags.now a.n (number_tags k)) e
          ∙ sym (laid-tags xs a.n a.tags.now);
      numbers_after = filled-part xs a.numbers.now a.n c.requires.1 c.fill_standard.ensures
          ∙ sym (laid-numbers xs a.n a.numbers.now);
      value = omega (arith, counted (goal.at.returns-in-Ok c).In-Ok);
    }

pub returns-in-Err : goal.returns-in-Err
returns-in-Err c =
    not-refused (answered (numbers_of c.args.r (words16 c.args.words.now)) c.args.numbers.now c.args.n c.requires.1 c.fill_standard.ensures)
    c.in-Err.is
