-- Places: a list's records by their places.
pub mod Places
