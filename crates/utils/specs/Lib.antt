-- Padding: what rounding up to whole words gives, also near the largest number.
pub mod Padding
