-- end_at
pub mod Places
-- split_line
pub mod FirstLine
-- texts whose lines all end with LF, for journals
pub mod Ended
-- split_field
pub mod Fields
-- split_part
pub mod Parts
-- wide_number_within
pub mod Numbers
-- texts whose faults are listed by line, in this crate and in those above
pub mod Faults
-- passes over the lines of a text that do not end as those of read_lines, in the crates above
pub mod Passes
