-- The lemmas that six laws of src/laws.rt are answered by: all but those on the configuration and on budgets.
pub mod EndsPosted
pub mod HandedOut
pub mod CountsAlone
pub mod Foreseen
pub mod NoneWrong
