-- Read in this order.
-- What a state shows: ItemRun (one item, and what is behind it), BehindRun (what comes behind a block).
-- What is held: ValueLaws. A run of no length: LostLaws.
-- A block: UnitsRun (units of so many bytes in a row), WordsRun, TimesRun, EntriesRun (words, times, entries),
-- RangedRun (types 1 to 3), SummaryRun (type 6), KindLaws, CheckLaws, KindRun (by its kind), BlockRun (from its first
-- byte on).
-- A packet: BlocksRun (its blocks), CourseRun (`runs`: the fold gives def_portions' course).
-- A call: InnerLaws (the items of a block fill it), GoingLaws, TakenLaws (how many bytes a state has taken), PastLaws
-- (19), CallLaws (`call-answer`, `call-given`, `call-keeps`: a call gives what def_portions says).
-- A block whose bytes are all there: WholeBlock (what it shows, and the state behind it).
-- All bytes: WholeLaws (`whole`: they show what the reading questions answer).
pub mod ItemRun
pub mod BehindRun
pub mod ValueLaws
pub mod LostLaws
pub mod UnitsRun
pub mod WordsRun
pub mod TimesRun
pub mod EntriesRun
pub mod RangedRun
pub mod SummaryRun
pub mod KindLaws
pub mod CheckLaws
pub mod KindRun
pub mod BlockRun
pub mod BlocksRun
pub mod CourseRun
pub mod InnerLaws
pub mod GoingLaws
pub mod TakenLaws
pub mod PastLaws
pub mod CallLaws
pub mod WholeBlock
pub mod WholeLaws
pub mod Worked
