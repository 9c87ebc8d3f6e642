-- FrameLaws (a packet's first bytes, zeros and padding), Unique (no second answer).
pub mod FrameLaws
pub mod Unique
