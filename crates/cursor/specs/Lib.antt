-- Steps: what this crate's functions compute on their way, steps inside one word at once (private).
pub mod Steps
