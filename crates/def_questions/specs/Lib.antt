-- What each question is answered in each reading. Here stands the order of a reader's refusals: 1 to 6, 9, 10, 7, 8,
-- (16,) 11.
-- Read in this order: Questions (of a block's view), Packets (the same of a packet and a block's index), ByNumber
-- (the asked type by a number).
pub mod Questions
pub mod Packets
pub mod ByNumber
