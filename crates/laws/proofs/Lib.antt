-- Tests (choices by a Bool), Stores (runs of stores), Filling (a list on its way into a slice, or only counted),
-- Answering (the ways in which a listing call ends), Passing (what a `?` hands on), Determined (what "no second answer" says).
pub mod Tests
pub mod Stores
pub mod Filling
pub mod Answering
pub mod Passing
pub mod Determined
