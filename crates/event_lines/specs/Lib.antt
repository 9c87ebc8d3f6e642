-- At (the event at an index; private).
pub mod At
