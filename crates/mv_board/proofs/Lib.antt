-- what the views hold, and what one event makes of a history
pub mod Views
pub mod Machine
pub mod Requests
pub mod Events
pub mod Parking
pub mod Standing
-- each step on a word keeps the rule: Look, Exchange, Addition, Seats
pub mod Moves
pub mod Keeps
-- each step on the turn keeps the rule: Take, Give, Return; and so does Peek
pub mod Turns
pub mod TurnKeeps
-- `open`, and the callers of a new board
pub mod Boards
pub mod Fresh
-- how a call changes its caller: look, exchange, try_event and test on a word; event on the latch set; peek
pub mod Changing
pub mod Looks
pub mod Logging
pub mod WordEvents
pub mod LatchEvents
pub mod Peeking
-- what a listed watch promises of the reply
pub mod Answering
-- take_back, done and close
pub mod Joining
pub mod Ends
pub mod Closings
-- what a log says after one entry more, for the crates above
pub mod Acting
