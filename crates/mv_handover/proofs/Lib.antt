-- lists that are parts of lists, and items slot by slot
mod Lists
-- what a log says of what goes through a block, and what goes through it in any history
mod Logs
mod Blocks
-- take, put
mod Calls
-- produce, consume
mod Through
-- hand_over
mod Order
