-- EntriesLaws (the entries one by one, each way in which a listing call ends), EntriesTurn (one turn of the storing
-- loop).
pub mod EntriesLaws
pub mod EntriesTurn
pub mod Unique
