-- What the tests keep of the calls that they poll.
pub mod Rings
