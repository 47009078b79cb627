-- the discipline of each caller, by its own log
pub mod LatchOrder
-- the requests that a caller has at latches, by its own log
pub mod Held
-- which caller waits for which, and which can continue
pub mod WaitChain
