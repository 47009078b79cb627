-- count, and what add_one makes
mod Counted
