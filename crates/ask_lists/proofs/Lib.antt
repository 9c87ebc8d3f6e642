-- RoomLaws (a line by the room that is lent), Unique (no second answer).
pub mod RoomLaws
pub mod Unique
