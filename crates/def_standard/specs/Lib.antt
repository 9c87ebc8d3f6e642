-- The standard reading (RFC 3611, 4; RULES, "Standard reading"): each answer is a function of the block's own L
-- bytes v and nothing else.
-- Read in this order: Chunks (one chunk word), Listing (a list that goes by positions), Range (which positions are
-- inside, and their numbers), Standard (the four lists).
pub mod Chunks
pub mod Listing
pub mod Range
pub mod Standard
