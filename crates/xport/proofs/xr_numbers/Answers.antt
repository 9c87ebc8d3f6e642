-- `xport::xr_numbers` meets its contract: the numbers of block k, asked as type t (1 or 2).
use Rattle.flat.proofs.FlatLaws.{flat-listed, flat-turned-away}
use Rattle.by_number.proofs.ByLaws.{numbers-viewed, numbers-refused}
use Rattle.xr.proofs.WalkLaws.{located-refused}
use Rattle.def_questions.specs.ByNumber.{numbers_by, numbers_view_by}
use Prim.Native.Nat.{ℕ}
use mathlib.Core.List.{List}
use mathlib.Core.Path.{sym, ap, ◌∙◌}
use Rattle.xport.proofs.xr_numbers.Goals as goal

pub find-requires : goal.find-requires
find-requires c = sym c.header.ensures ∙ c.in-Ok.is

pub returns-in-Ok-find : goal.returns-in-Ok-find
returns-in-Ok-find c = let a = c.args in
    let r = c.reading-q.result in
    flat-listed
    (ap (λ (w : List ℕ). numbers_view_by r a.t w) c.part.ensures.result_value
    ∙ numbers-viewed r a.packet.now a.k a.t c.in-Ok-find.at c.in-Ok-find.n
    (sym c.find.ensures ∙ c.in-Ok-find.is)
    ∙ ap (λ g. numbers_by g a.packet.now a.k a.t) c.reading-q.ensures)
    c.numbers_view.ensures c.answer.ensures

pub returns-in-Err-find : goal.returns-in-Err-find
returns-in-Err-find c = let a = c.args in
    flat-turned-away c.in-Err-find.x (ap (λ g. numbers_by g a.packet.now a.k a.t) c.reading-q.ensures)
    (numbers-refused c.reading-q.result a.packet.now a.k a.t c.in-Err-find.x
    (sym c.find.ensures ∙ c.in-Err-find.is))
    c.refusal.ensures

pub returns-in-Err : goal.returns-in-Err
returns-in-Err c = let a = c.args in
    let r = c.reading-q.result in
    flat-turned-away c.in-Err.x (ap (λ g. numbers_by g a.packet.now a.k a.t) c.reading-q.ensures)
    (numbers-refused r a.packet.now a.k a.t c.in-Err.x
    (sym (located-refused r a.packet.now a.k c.in-Err.x
    (sym c.header.ensures ∙ c.in-Err.is))))
    c.refusal-in-Err.ensures
