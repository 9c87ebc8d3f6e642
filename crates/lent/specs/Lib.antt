-- Read in this order: Pattern (the pattern in lent memory), Telling (what is printed of a call that listed into it).
-- No answer rests on believing these: that the pattern stands after each call is proved (proofs/TellLaws.antt), so
-- that what is printed comes to def_probe's definitions, in which it does not occur.
pub mod Pattern
pub mod Telling
