-- End codes: the end of a job, as a number.
use Rattle.std.specs.Prelude.{ℕ, ◌+◌, ◌*◌, ◌^◌}

-- the highest return code, and the highest user code and system code of an abend
abbrev pub highest_code : ℕ
highest_code = 4095

-- the number of user codes, by which the system code of an abend is multiplied in an end code
abbrev pub user_codes : ℕ
user_codes = 4096

-- the lowest end code of an abend, that of an abend with system code 0 and user code 0
abbrev pub lowest_abend : ℕ
lowest_abend = 2 ^ 24

-- the end code of a job that was not run, above those of all abends
abbrev pub not_run : ℕ
not_run = 2 ^ 25

-- the end code of a job that abended with this system code and this user code
abbrev pub abended : ℕ → ℕ → ℕ
abended system user = lowest_abend + user_codes * system + user
