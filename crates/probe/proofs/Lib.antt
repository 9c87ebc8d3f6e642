-- ReplyLaws (a reply that is told, and one that is cut), KindLaws (which reply a kind has),
-- Unique (no second answer).
pub mod ReplyLaws
pub mod KindLaws
pub mod Unique
