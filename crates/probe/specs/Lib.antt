-- Replied: what a function that answers a request promises (private).
pub mod Replied
