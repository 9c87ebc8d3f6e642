-- `probe::answer` meets its contract: the reply of the kind.
use Rattle.probe.proofs.ReplyLaws.{replies, is-told, is_cut}
use Rattle.probe.proofs.KindLaws.{kind_1, kind_2, kind_3, kind-4, kind-5, kind-6, kind-7, kind-8}
use Rattle.probe.proofs.KindLaws.{kind-9, kind-10, kind-11, kind-12, kind-13, kind-14, kind-other}
use native.Mathlib.Omega.{arith}
use borrow.Author.Rules.{rules}
use Rattle.probe.proofs.answer.Goals as goal

pub returns-in-1 : goal.returns-in-1
returns-in-1 c = let q = replies (kind_1 _ _ c.in-1.is) (is-told c.dump.ensures c.served.ensures) in
    record { added = q.text; served_value = q.served }

pub returns-in-2 : goal.returns-in-2
returns-in-2 c = let q = replies (kind_2 _ _ c.in-2.is) c.listed.ensures in
    record { added = q.text; served_value = q.served }

pub returns-in-3 : goal.returns-in-3
returns-in-3 c = let q = replies (kind_3 _ _ c.in-3.is) c.shown_asked.ensures in
    record { added = q.text; served_value = q.served }

pub returns-in-4 : goal.returns-in-4
returns-in-4 c = let q = replies (kind-4 _ _ c.in-4.is) c.stretch_asked.ensures in
    record { added = q.text; served_value = q.served }

pub returns-in-5 : goal.returns-in-5
returns-in-5 c = let q = replies (kind-5 _ _ c.in-5.is) c.write_asked.ensures in
    record { added = q.text; served_value = q.served }

pub returns-in-6 : goal.returns-in-6
returns-in-6 c = let q = replies (kind-6 _ _ c.in-6.is) c.write_asked-in-6.ensures in
    record { added = q.text; served_value = q.served }

pub returns-in-7 : goal.returns-in-7
returns-in-7 c = let q = replies (kind-7 _ _ c.in-7.is) c.word_asked.ensures in
    record { added = q.text; served_value = q.served }

pub returns-in-8 : goal.returns-in-8
returns-in-8 c = let q = replies (kind-8 _ _ c.in-8.is) c.parse_asked.ensures in
    record { added = q.text; served_value = q.served }

pub returns-in-9 : goal.returns-in-9
returns-in-9 c =
    record {
      added = rw (← kind-9 c.args.kind c.args.p.now c.in-9.is) (search rules);
      served_value = rw (← kind-9 c.args.kind c.args.p.now c.in-9.is) (search rules);
    }

pub returns-in-10 : goal.returns-in-10
returns-in-10 c = let q = replies (kind-10 _ _ c.in-10.is) c.marks_asked.ensures in
    record { added = q.text; served_value = q.served }

pub returns-in-11 : goal.returns-in-11
returns-in-11 c = let q = replies (kind-11 _ _ c.in-11.is) c.view_asked.ensures in
    record { added = q.text; served_value = q.served }

pub returns-in-12 : goal.returns-in-12
returns-in-12 c = let q = replies (kind-12 _ _ c.in-12.is) c.portions_asked.ensures in
    record { added = q.text; served_value = q.served }

pub returns-in-13 : goal.returns-in-13
returns-in-13 c = let q = replies (kind-13 _ _ c.in-13.is) c.summary_asked.ensures in
    record { added = q.text; served_value = q.served }

pub returns-in-14 : goal.returns-in-14
returns-in-14 c =
    record {
      added = rw (← kind-14 c.args.kind c.args.p.now c.in-14.is) (search rules);
      served_value = rw (← kind-14 c.args.kind c.args.p.now c.in-14.is) (search rules);
    }

pub returns-in_default : goal.returns-in_default
returns-in_default c =
    let q = replies (kind-other _ _ (omega arith) (omega arith) (omega arith) (omega arith) (omega arith) (omega arith)
    (omega arith) (omega arith) (omega arith) (omega arith) (omega arith) (omega arith) (omega arith) (omega arith))
    (is_cut c.cut.ensures) in
    record { added = q.text; served_value = q.served }
