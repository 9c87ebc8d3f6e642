-- What one byte does to the state of a packet that comes in portions, and what a call gives. Not to be believed:
-- `claims` has that it is what def_portions says of the bytes.
-- Read in this order: Steps (byte by byte), Call (one call).
pub mod Steps
pub mod Call
