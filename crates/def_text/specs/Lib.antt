-- Text (RULES, "Text through a lent buffer"). Read in this order: Buffer (what it means to add text to a lent buffer),
-- Numerals (characters, and numbers as text).
pub mod Buffer
pub mod Numerals
