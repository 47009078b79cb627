-- The highest numbers of the text, except those that are limits of a run.
use Rattle.std.specs.Prelude.{ℕ}

-- the highest number of four bytes
abbrev pub highest_u32 : ℕ
highest_u32 = 4_294_967_295

-- the highest number of eight bytes
abbrev pub highest_u64 : ℕ
highest_u64 = 18_446_744_073_709_551_615

-- the highest completion code of an event control block, and the highest number of an exit: 30 bits
abbrev pub highest_ecb_code : ℕ
highest_ecb_code = 1_073_741_823

-- the highest release code: three bytes
abbrev pub highest_release_code : ℕ
highest_release_code = 16_777_215
