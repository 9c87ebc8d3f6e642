-- What the project claims beyond single functions, each a few plain lines about the public calls. Read in this order:
--     Cursor     the number cursor by calls of any budgets lists what the list functions list
--     Grid       a thinned block's numbers count from zero: position p by its distance, every number 0 mod 2^T
--     Walk       the reader from `new` by `moved` comes to each block
--     RoundTrip  the reading functions answer of a written packet what its records ask
--     Absent     a summary's numbers whose flags are clear are written, and read back as absent
--     Careful    a carefully written packet misleads no reader that keeps the old reading
--     Marks      words from heard marks cover them, and a report made of them reads back as the numbers heard
--     NoLostRun  nothing made here holds a run of ones of no length: words from marks, packets, one chunk word
--     Portions   however a packet's bytes are divided into calls, they show what the whole packet shows
--     Text       whatever buffer a text goes through, it is written out or waits; a number's digits are its own
-- and the crate of examples: the twelve examples and the worked facts of every clause of the definitions. proofs/
-- proves each claim under its name in small letters.
pub mod Cursor
pub mod Grid
pub mod Walk
pub mod RoundTrip
pub mod Absent
pub mod Careful
pub mod Marks
pub mod NoLostRun
pub mod Portions
pub mod Text
