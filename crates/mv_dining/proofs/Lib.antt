-- what a call leaves of a philosopher: take_fork, put_fork
mod Calls
