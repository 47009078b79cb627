-- what a list of entries says of a block
pub mod Entries
-- a configuration of blocks
pub mod Blocks
-- the rooms that tasks fill
pub mod Rooms
