-- What the programs print (RULES, "Views, cursors and the dump" and "Packets in portions"; README, "xrprobe"). Read in
-- this order: Lines (each line's text), Summaries (those of a summary), Dump (the dump of a packet), with the sample of
-- RULES beside it; EventLines (the lines of events).
pub mod Lines
pub mod Summaries
pub mod Dump
pub mod EventLines
