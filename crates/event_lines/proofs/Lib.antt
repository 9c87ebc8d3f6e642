-- EventLineLaws (the lines of the events of four lists, as a loop goes through them).
pub mod EventLineLaws
pub mod Unique
