-- The three ways in which a job ends, by its end code.
use Rattle.std.specs.Prelude.{ℕ, ◌-◌, ◌/◌, ◌%◌, ◌≤◌, Bool, ◌==◌, nat_le, ◌||◌, not, ◌⊎◌}
use Rattle.mv_deck.specs.EndCode.{highest_code, user_codes, lowest_abend, not_run}

-- an end code: the return code of a job that ended, the end of one that abended, or that of one that was not run
abbrev pub IsEndCode : ℕ → Type 0
IsEndCode end = (end ≤ highest_code) ⊎ ((lowest_abend ≤ end) × (end ≤ not_run))

-- whether a job ended: it did its steps up to a RETURN, or all of them, which is as RETURN 0
abbrev pub is_ended : ℕ → Bool
is_ended end = nat_le end highest_code

-- whether a job was not run: it did none of its steps
abbrev pub is_not_run : ℕ → Bool
is_not_run end = end == not_run

-- whether a job abended, as it did with every other end
abbrev pub is_abended : ℕ → Bool
is_abended end = not (is_ended end || is_not_run end)

-- the system code of an abend, 0 if it has none
abbrev pub system_code : ℕ → ℕ
system_code end = (end - lowest_abend) / user_codes

-- the user code of an abend, 0 if it has none
abbrev pub user_code : ℕ → ℕ
user_code end = (end - lowest_abend) % user_codes
