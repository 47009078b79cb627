-- the configuration
mod Pool
-- work, hand_out, await_answer: they make only entries that their task may make
mod Always
-- work: its token, and that no pause is refused
mod Tokens
-- await_answer, hand_out: no wait is refused
mod Waits
-- serve, worked, serve_all
mod Answers
mod Closing
-- begin, end
mod PoolRounds
