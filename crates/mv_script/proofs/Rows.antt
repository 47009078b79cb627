-- Rows worked by hand: what the definitions of a script's text come to.
use Rattle.std.proofs.Common.{◌≡◌, ℕ, List, [], ◌∷◌, ◌++◌, Some, None, Ok, Err, refl, arith}
use Rattle.std.specs.Prelude.{codes, true, false}
use Rattle.mv_element.specs.declared.element.Token.{Token}
use Rattle.mv_latch.specs.declared.request.LatchForm.TheVariants.{Waiting, Posted}
use Rattle.mv_latch.specs.declared.request.Mode.TheVariants.{Shared, Exclusive}
use Rattle.mv_config.specs.Setup.{Setup}
use Rattle.mv_scriptline.specs.declared.call.Call.{Call}
use Rattle.mv_scriptline.specs.declared.call.Call.TheVariants as call
use Rattle.mv_scriptline.specs.declared.statement.Statement.{Statement}
use Rattle.mv_scriptline.specs.declared.statement.Statement.TheVariants as statement
use Rattle.mv_scriptline.specs.declared.words.Misread.TheVariants.{NoForm, BadNumber}
use Rattle.mv_scriptline.specs.Sizes.{SizesFace}
use Rattle.mv_script.specs.Costs.{script_setup}
use Rattle.mv_line.specs.Fault.{fault_at}
use Rattle.mv_script.specs.Fault.{first_fault}
use Rattle.mv_scriptline.specs.Operand.{table_with}
use Rattle.mv_script.specs.Script.{ScriptData, script_of}
use Rattle.mv_script.specs.Sound.{IsSound, IsObtainOf}
use Rattle.mv_scriptline.specs.Statement.{text_states}
use Rattle.mv_scriptline.specs.Words.{Read}

abbrev lf : List ℕ
lf = 10 ∷ []

-- two tasks and three blocks
abbrev some : SizesFace
some = record { tasks = 2; ecbs = 3; table = None }

-- what a text states there
abbrev states : List ℕ → Read Statement
states text = text_states some text

-- a token
abbrev token : ℕ → ℕ → Token
token n g = record { element = n; generation = g }

-- ---- forms

a_wait : states (codes "WAIT 2  0 1 2") ≡ Ok (statement.Call (call.Wait 2 (0 ∷ 1 ∷ 2 ∷ [])))
a_wait = refl

a_wait_for_none : states (codes "WAIT 0") ≡ Ok (statement.Call (call.Wait 0 []))
a_wait_for_none = refl

a_wait_for_nine : states (codes "WAIT 9 0 0 0 0 0 0 0 0 0") ≡ Err NoForm
a_wait_for_nine = refl

no_number_behind_a_bad_one : states (codes "POST 01 X") ≡ Err NoForm
no_number_behind_a_bad_one = refl

a_leading_zero : states (codes "POST 01 7") ≡ Err BadNumber
a_leading_zero = refl

no_block : states (codes "POST 3 7") ≡ Err BadNumber
no_block = refl

a_code_too_high : states (codes "POST 0 1073741824") ≡ Err BadNumber
a_code_too_high = refl

a_token : states (codes "PAUSE 7.262142") ≡ Ok (statement.Call (call.Pause (token 7 262142)))
a_token = refl

no_element : states (codes "PAUSE 8.0") ≡ Err BadNumber
no_element = refl

two_points : states (codes "PAUSE 7.0.1") ≡ Err NoForm
two_points = refl

a_transfer_without_a_pause : states (codes "TRANSFER - 0.0 3") ≡ Ok (statement.Call (call.Transfer None (token 0 0) 3))
a_transfer_without_a_pause = refl

an_obtain : states (codes "OBTAIN 99 18446744073709551615 X ECB 2") ≡ Ok
    (statement.Call (call.Obtain 99 18446744073709551615 Exclusive (Posted 2)))
an_obtain = refl

an_obtain_that_waits : states (codes "OBTAIN 0 1 S WAIT") ≡ Ok (statement.Call (call.Obtain 0 1 Shared Waiting))
an_obtain_that_waits = refl

no_requestor : states (codes "OBTAIN 0 18446744073709551616 S COND") ≡ Err BadNumber
no_requestor = refl

a_release : states (codes "FREE 1 C") ≡ Ok (statement.Call (call.Free 1 true))
a_release = refl

an_end_of_a_task : states (codes "EOT 5 - 0") ≡ Ok (statement.Call (call.EndTask 5 None 0))
an_end_of_a_task = refl

an_exit : states (codes "EXIT 0 1 2") ≡ Ok (statement.Exit 0 (1 ∷ 2 ∷ []))
an_exit = refl

an_exit_without_a_target : states (codes "EXIT 0") ≡ Err NoForm
an_exit_without_a_target = refl

-- task 1's, with latch 9, volume 2, and one event
a_table : states (codes "TABLE 1 9 2 0 1 1") ≡ Ok (statement.Table (table_with 1 9 2 0 1 1))
a_table = refl

a_table_of_five_words : states (codes "TABLE 1 100 2 0 1") ≡ Err NoForm
a_table_of_five_words = refl

an_event_without_a_table : states (codes "EVPOST 0 7") ≡ Err BadNumber
an_event_without_a_table = refl

no_tasks : states (codes "SCRIPT 0") ≡ Err BadNumber
no_tasks = refl

a_space_in_front : states (codes " TASK") ≡ Err NoForm
a_space_in_front = refl

a_word_behind_a_task : states (codes "TASK 1") ≡ Err NoForm
a_word_behind_a_task = refl

-- ---- a script, and what its calls cost

-- two tasks; block 0 starts an exit that posts the blocks 1 and 2
abbrev exits : List ℕ
exits =
    codes "SCRIPT 2" ++ lf ++ codes "ECB 0" ++ lf ++ codes "ECB 0" ++ lf ++ codes "ECB 1" ++ lf ++ codes "EXIT 0 1 2" ++ lf ++ lf
    ++ codes "TASK" ++ lf ++ codes "EXTEND 0 1" ++ lf ++ codes "POST 0 8" ++ lf ++ codes "OBTAIN 0 1 X WAIT" ++ lf ++ codes "FREE 1 U"
    ++ lf ++ codes "TASK" ++ lf ++ codes "EOT 1 0 7" ++ lf ++ codes "END" ++ lf

abbrev exits_tasks : List (List Call)
exits_tasks =
    (call.Extend 0 1 ∷ call.Post 0 8 ∷ call.Obtain 0 1 Exclusive Waiting ∷ call.Free 1 false ∷ [])
    ∷ (call.EndTask 1 (Some 0) 7 ∷ []) ∷ []

-- block 0 reaches three; a release costs 1 + 2 x 4 x 3. So the budgets are 1 + 3 + 2 + 25 and 4 + 25 + 3
exits_setup : Setup
exits_setup = script_setup 2 (0 ∷ 0 ∷ 1 ∷ []) (record { source = 0; targets = 1 ∷ 2 ∷ [] } ∷ []) (31 ∷ 32 ∷ [])

exits_script : script_of exits ≡ record { setup = exits_setup; tasks = exits_tasks; table = None }
unfolding exits_setup
exits_script = refl

exits_have_no_fault : first_fault exits ≡ None
unfolding first_fault
exits_have_no_fault = refl

-- a script whose one task checks an OBTAIN that it did not make
abbrev unasked : ScriptData
unasked = record { setup = exits_setup; tasks = (call.Check 1 ∷ []) ∷ []; table = None }

unasked_is_not_sound : ¬ IsSound unasked
unasked_is_not_sound h =
    let made : IsObtainOf [] 1 = h.tasks.0.sound.0.obtain in
    omega (arith, made.1)

-- ---- first faults

nothing : first_fault [] ≡ Some (fault_at 1 9)
unfolding first_fault
nothing = refl

no_obtain_yet : first_fault (codes "SCRIPT 1" ++ lf ++ codes "TASK" ++ lf ++ codes "CHECK 1" ++ lf ++ codes "END") ≡ Some (fault_at 3 8)
unfolding first_fault
no_obtain_yet = refl

an_exit_to_itself : first_fault (codes "SCRIPT 1" ++ lf ++ codes "ECB 0" ++ lf ++ codes "EXIT 0 0") ≡ Some (fault_at 3 7)
unfolding first_fault
an_exit_to_itself = refl

no_block_before_the_script : first_fault (codes "TEST 0") ≡ Some (fault_at 1 4)
unfolding first_fault
no_block_before_the_script = refl

a_volume_before_the_script : first_fault (codes "READ 0") ≡ Some (fault_at 1 5)
unfolding first_fault
a_volume_before_the_script = refl

too_few_tasks : first_fault (codes "SCRIPT 2" ++ lf ++ codes "TASK" ++ lf ++ codes "END") ≡ Some (fault_at 3 6)
unfolding first_fault
too_few_tasks = refl

too_many_tasks : first_fault (codes "SCRIPT 1" ++ lf ++ codes "TASK" ++ lf ++ codes "TASK") ≡ Some (fault_at 3 6)
unfolding first_fault
too_many_tasks = refl

a_second_end : first_fault (codes "SCRIPT 1" ++ lf ++ codes "TASK" ++ lf ++ codes "END" ++ lf ++ codes "END") ≡ Some (fault_at 4 5)
unfolding first_fault
a_second_end = refl

a_late_block : first_fault (codes "SCRIPT 1" ++ lf ++ codes "TASK" ++ lf ++ codes "ECB 0") ≡ Some (fault_at 3 5)
unfolding first_fault
a_late_block = refl

-- six blocks of the one task, and a table of them
abbrev events : List ℕ → List ℕ
events table =
    codes "SCRIPT 1" ++ lf ++ codes "ECB 0" ++ lf ++ codes "ECB 0" ++ lf ++ codes "ECB 0" ++ lf ++ codes "ECB 0" ++ lf ++ codes "ECB 0" ++
    lf
    ++ codes "ECB 0" ++ lf ++ table ++ lf ++ codes "TASK" ++ lf

-- three events in a row, and their slots behind them
a_use_of_an_event : first_fault (events (codes "TABLE 0 0 0 0 3 3") ++ codes "POST 0 1") ≡ Some (fault_at 10 11)
unfolding first_fault
a_use_of_an_event = refl

-- three slots from the last event on
a_table_that_meets_itself : first_fault (events (codes "TABLE 0 0 0 0 2 3")) ≡ Some (fault_at 8 12)
unfolding first_fault
a_table_that_meets_itself = refl

a_second_table : first_fault (events (codes "TABLE 0 0 0 0 3 3" ++ lf ++ codes "TABLE 0 0 0 0 2 3")) ≡ Some (fault_at 9 6)
unfolding first_fault
a_second_table = refl

a_long_line_of_spaces : first_fault
    (codes "SCRIPT 1" ++ lf ++ codes "                                                                                 ")
    ≡ Some (fault_at 2 2)
unfolding first_fault
a_long_line_of_spaces = refl
