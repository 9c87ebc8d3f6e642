-- Pieces (a list of bytes that is taken piece by piece: private, what the trait of swap speaks of).
pub mod Pieces
