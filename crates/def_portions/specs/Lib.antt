-- A packet that comes in portions, some bytes at a time (RULES, "Packets in portions"; the standard reading).
-- Read in this order: Events (what the bytes that have come so far show), Calls (what one call gives), Lists (how the
-- lent lists hold events).
pub mod Events
pub mod Calls
pub mod Lists
