-- The standard number cursor (RULES, "Views, cursors and the dump").
pub mod Cursor
