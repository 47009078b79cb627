-- What is said of a script: its first fault, or how many calls each task makes.
use Rattle.std.specs.Prelude.{ℕ, ◌+◌, nat_lt, List, [], ◌∷◌, ◌++◌, length, codes, decimal, Option, Some, None, if◌then◌else◌}
use Rattle.mv_line.specs.declared.fault.TextFault.{TextFault}
use Rattle.mv_scriptline.specs.declared.call.Call.{Call}
use Rattle.mv_script.specs.Fault.{first_fault}
use Rattle.mv_script.specs.Script.{script_of}
use Rattle.mv_diagnostics.specs.declared.sentences.TheConstants.{CALLS, GOOD_SCRIPT, LONG_SCRIPT, RUN_SCRIPT, TASK}
use Rattle.mv_diagnostics.specs.Limits.{card_limit}
use Rattle.mv_diagnostics.specs.Quote.{fault_text}
use Rattle.mv_diagnostics.specs.Sentence.{script_sentence}

-- a fault
abbrev pub fault_of_script_text : List ℕ → TextFault → List ℕ
fault_of_script_text bytes fault = fault_text (codes "script") bytes fault (script_sentence fault.kind)

-- how many calls each of these tasks makes, which are numbered from here on
abbrev pub tasks_text : List (List Call) → ℕ → List ℕ
tasks_text [] from = []
tasks_text (calls ∷ tasks) from =
    (TASK.now ++ decimal from) ++ (CALLS.now ++ decimal (length calls)) ++ codes "\n" ++ tasks_text tasks (from + 1)

-- of a script without fault
unfoldable pub calls_text : List (List Call) → List ℕ
calls_text tasks = GOOD_SCRIPT.now ++ tasks_text tasks 0 ++ RUN_SCRIPT.now

-- by its first fault
unfoldable pub found_text : List ℕ → Option TextFault → List ℕ
found_text bytes None = calls_text (script_of bytes).tasks
found_text bytes (Some fault) = fault_of_script_text bytes fault

-- what is said of a script
unfoldable pub script_text : List ℕ → List ℕ
script_text bytes = if nat_lt card_limit (length bytes) then LONG_SCRIPT.now else found_text bytes (first_fault bytes)
