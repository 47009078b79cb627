-- fill, fill_room, write_all: one more read or write after the first ones
pub mod Fronts
