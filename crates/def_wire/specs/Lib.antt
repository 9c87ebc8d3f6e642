-- The wire format (RFC 3611, 2 and 3; RULES, "Packet and blocks").
-- Read in this order: Bytes, Packet (header checks 1 to 5, the walk, 6, 9 and views), Block (header bytes, fields,
-- length rules, 10, 7, 8), Summary (type 6).
pub mod Bytes
pub mod Packet
pub mod Block
pub mod Summary
