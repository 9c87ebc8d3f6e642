-- Same (when two records are the same), GoesOnLaws and ChunksLaws (blocks of types 1 and 2: what 15 comes to),
-- TimesLaws and OtherLaws (types 3, and 4 to 6), BlockLaws (any record's block), PacketLaws and PaddedLaws (the crate
-- reading of a carefully written packet), FaultLaws (15 by its records).
pub mod Same
pub mod GoesOnLaws
pub mod ApartLaws
pub mod ChunksLaws
pub mod TimesLaws
pub mod OtherLaws
pub mod BlockLaws
pub mod PacketLaws
pub mod PaddedLaws
pub mod FaultLaws
