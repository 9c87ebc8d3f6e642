-- PlacesLaws (L, the view and the next place, at a place), ReaderLaws (the reader's places and views are the walk's),
-- Held (what contracts say of a reader and a view), Unique and UniqueHeld (one answer each).
pub mod PlacesLaws
pub mod ReaderLaws
pub mod Held
pub mod Unique
pub mod UniqueHeld
