-- run_round
mod OneRound
-- restore
mod Writes
