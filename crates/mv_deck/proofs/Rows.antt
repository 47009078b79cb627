-- Rows worked by hand: what the definitions come to.
use Rattle.std.proofs.Common.{◌≡◌, ℕ, ◌<◌, false, List, [], ◌∷◌, ◌++◌, Some, None, refl, arith}
use Rattle.std.specs.Prelude.{codes}
use Rattle.std.specs.Fmt.{digits}
use Rattle.mv_latch.specs.declared.request.Mode.TheVariants.{Shared, Exclusive}
use Rattle.mv_deck.specs.declared.deck.After.{After}
use Rattle.mv_deck.specs.declared.deck.Step.{Step}
use Rattle.mv_deck.specs.declared.deck.Step.TheVariants.{Print, Use, Free, Count, Scan, Abend, Return}
use Rattle.mv_deck.specs.declared.form.Version.TheVariants.{One, Two}
use Rattle.mv_line.specs.Line.{lines_of, without_cr}
use Rattle.mv_line.specs.Field.{fields_of}
use Rattle.mv_line.specs.Part.{parts_at}
use Rattle.mv_deck.specs.Operand.{latch_of, amount_of, code_of, end_code_of}
use Rattle.mv_deck.specs.Statement.{Null, JobOf, PrintOf, UseOf, CountOf, AbendOf, ReturnOf, form_of, statement_of, version_of}
use Rattle.mv_deck.specs.Deck.{JobData, deck_of}
use Rattle.mv_line.specs.Fault.{fault_at}
use Rattle.mv_deck.specs.Fault.{first_fault}
use Rattle.mv_deck.specs.Held.{lacks_latch}
use Rattle.mv_deck.specs.Sound.{IsSound}
use Rattle.mv_deck.specs.Weight.{weight}
use Rattle.mv_deck.specs.Load.{job_lines, load_text, load_job, load_jobs}

abbrev lf : List ℕ
lf = 10 ∷ []

-- ---- lines: behind the last LF a line stands where it has a byte

no_line : lines_of [] ≡ []
no_line = refl

a_line_that_is_ended : lines_of (codes "A" ++ lf) ≡ codes "A" ∷ []
a_line_that_is_ended = refl

a_line_that_is_not : lines_of (codes "A" ++ lf ++ lf ++ codes " ") ≡ codes "A" ∷ [] ∷ codes " " ∷ []
a_line_that_is_not = refl

one_cr : without_cr (65 ∷ 13 ∷ 13 ∷ []) ≡ 65 ∷ 13 ∷ []
one_cr = refl

-- ---- fields and forms

three_fields : fields_of (codes "  ABEND  U0012 X ") ≡ codes "ABEND" ∷ codes "U0012" ∷ codes "X" ∷ []
three_fields = refl

the_null_statement : form_of One (codes "//") ≡ Some Null
the_null_statement = refl

a_job : form_of One (codes "//JOB JOB") ≡ Some (JobOf (codes "JOB") [])
a_job = refl

a_list_with_an_empty_part : form_of One (codes "//B JOB AFTER=A,") ≡ Some
    (JobOf (codes "B") (record { name = codes "A"; most = None } ∷ record { name = []; most = None } ∷ []))
unfolding parts_at
a_list_with_an_empty_part = refl

a_part_of_version_1 : form_of One (codes "//B JOB AFTER=A:4") ≡ Some (JobOf (codes "B") (record { name = codes "A:4"; most = None } ∷ []))
unfolding parts_at
a_part_of_version_1 = refl

a_part_of_version_2 : form_of Two (codes "//B JOB AFTER=A:4:2") ≡ Some
    (JobOf (codes "B") (record { name = codes "A"; most = Some (codes "4:2") } ∷ []))
unfolding parts_at
a_part_of_version_2 = refl

no_list : form_of Two (codes "//B JOB AFTER") ≡ None
no_list = refl

four_fields : form_of Two (codes "//B JOB AFTER= A") ≡ None
four_fields = refl

spaces_of_a_text : form_of One (codes "//  PRINT  A B") ≡ Some (PrintOf (codes " A B"))
spaces_of_a_text = refl

an_empty_text : statement_of One (codes "// PRINT  ") ≡ Some (PrintOf [])
an_empty_text = refl

a_use_of_no_latch : form_of One (codes "// USE 8 S") ≡ Some (UseOf (codes "8") Shared)
a_use_of_no_latch = refl

no_mode : form_of One (codes "// USE 0 Y") ≡ None
no_mode = refl

a_count : form_of One (codes "// COUNT 1 9999") ≡ Some (CountOf (codes "1") (codes "9999"))
a_count = refl

an_abend : form_of One (codes "// ABEND U12") ≡ Some (AbendOf (codes "U12"))
an_abend = refl

no_return_in_version_1 : form_of One (codes "// RETURN 1") ≡ None
no_return_in_version_1 = refl

a_return_in_version_2 : form_of Two (codes "// RETURN 1") ≡ Some (ReturnOf (codes "1"))
a_return_in_version_2 = refl

a_comment_states_nothing : statement_of One (codes "//* JOB") ≡ None
a_comment_states_nothing = refl

no_operation : form_of One (codes "// PRINTX") ≡ None
no_operation = refl

-- ---- versions

version_2_behind_comments : version_of (lines_of (codes "//* NOTE" ++ lf ++ lf ++ codes "//  DECK  2" ++ lf)) ≡ Two
version_2_behind_comments = refl

version_1_by_another_statement : version_of (lines_of (codes "//A JOB" ++ lf ++ codes "// DECK 2")) ≡ One
version_1_by_another_statement = refl

-- ---- numbers and codes

the_highest_latch : latch_of (codes "7") ≡ Some 7
the_highest_latch = refl

no_latch_8 : latch_of (codes "8") ≡ None
no_latch_8 = refl

no_latch_00 : latch_of (codes "00") ≡ None
no_latch_00 = refl

no_amount_0 : amount_of (codes "0") ≡ None
no_amount_0 = refl

the_highest_amount : amount_of (codes "9999") ≡ Some 9999
the_highest_amount = refl

no_amount_of_five_digits : amount_of (codes "10000") ≡ None
no_amount_of_five_digits = refl

the_highest_code : code_of (codes "4095") ≡ Some 4095
the_highest_code = refl

no_code_4096 : code_of (codes "4096") ≡ None
no_code_4096 = refl

protection : end_code_of (codes "S0C4") ≡ Some 17580032
protection = refl

user_12 : end_code_of (codes "U0012") ≡ Some 16777228
user_12 = refl

user_0 : end_code_of (codes "U0000") ≡ Some 16777216
user_0 = refl

no_system_0 : end_code_of (codes "S000") ≡ None
no_system_0 = refl

no_user_4096 : end_code_of (codes "U4096") ≡ None
no_user_4096 = refl

-- ---- a deck of version 2, and its weight for one initiator

abbrev small : List ℕ
small =
    codes "// DECK 2" ++ lf ++ codes "//LOAD JOB" ++ lf ++ codes "// PRINT ROWS 9" ++ lf ++ codes "// RETURN 4" ++ lf
    ++ codes "//REPORT JOB AFTER=LOAD:4" ++ lf ++ codes "// PRINT OK" ++ lf
    ++ codes "//CLEAN JOB AFTER=LOAD,REPORT:8" ++ lf ++ codes "// PRINT CLEANED" ++ lf ++ codes "//"

abbrev small_jobs : List JobData
small_jobs =
    record { name = codes "LOAD"; after = []; steps = Print (codes "ROWS 9") ∷ Return 4 ∷ [] }
    ∷ record { name = codes "REPORT"; after = record { job = 0; most = 4 } ∷ []; steps = Print (codes "OK") ∷ [] }
    ∷ record {
      name = codes "CLEAN";
      after = record { job = 0; most = 0 } ∷ record { job = 1; most = 8 } ∷ [];
      steps = Print (codes "CLEANED") ∷ [];
    }
    ∷ []

small_deck : deck_of small ≡ small_jobs
unfolding parts_at
small_deck = refl

small_weight : weight small_jobs 1 ≡ 66
small_weight = refl

small_has_no_fault : first_fault small 1 ≡ None
unfolding first_fault parts_at
small_has_no_fault = refl

-- ---- a deck with latches and volumes, and its weight for two initiators

abbrev counting : List ℕ
counting =
    codes "//A JOB" ++ lf ++ codes "// USE 1 X" ++ lf ++ codes "// COUNT 1 9999" ++ lf ++ codes "// SCAN 1" ++ lf ++ codes "// FREE 1"
    ++ lf ++ codes "//B JOB" ++ lf
    ++ codes "// USE 1 S" ++ lf ++ codes "// SCAN 1" ++ lf ++ codes "//"

abbrev counting_jobs : List JobData
counting_jobs =
    record { name = codes "A"; after = []; steps = Use 1 Exclusive ∷ Count 1 9999 ∷ Scan 1 ∷ Free 1 ∷ [] }
    ∷ record { name = codes "B"; after = []; steps = Use 1 Shared ∷ Scan 1 ∷ [] }
    ∷ []

counting_deck : deck_of counting ≡ counting_jobs
counting_deck = refl

counting_weight : weight counting_jobs 2 ≡ 92
counting_weight = refl

counting_has_no_fault : first_fault counting 2 ≡ None
unfolding first_fault
counting_has_no_fault = refl

-- ---- weights of decks that the program's tests run: three jobs by two initiators, and no job by one

abbrev payroll_jobs : List JobData
payroll_jobs =
    record { name = codes "PAYROLL"; after = []; steps = Print (codes "PAY RUN 7") ∷ Print (codes "DONE") ∷ [] }
    ∷ record { name = codes "BACKUP"; after = []; steps = Print (codes "COPYING") ∷ Abend 16777228 ∷ [] }
    ∷ record { name = codes "VERIFY"; after = record { job = 1; most = 0 } ∷ []; steps = Print (codes "CHECKED") ∷ [] }
    ∷ []

payroll_weight : weight payroll_jobs 2 ≡ 98
payroll_weight = refl

weight_of_no_job : weight [] 1 ≡ 9
weight_of_no_job = refl

-- ---- first faults

a_lower_latch : first_fault (codes "//A JOB" ++ lf ++ codes "// USE 3 X" ++ lf ++ codes "// USE 1 S" ++ lf ++ codes "//") 1 ≡ Some
    (fault_at 3 9)
unfolding first_fault
a_lower_latch = refl

a_job_after_itself : first_fault (codes "//A JOB AFTER=A") 1 ≡ Some (fault_at 1 6)
unfolding first_fault parts_at
a_job_after_itself = refl

a_use_before_any_job : first_fault (codes "// USE 1 S") 1 ≡ Some (fault_at 1 11)
unfolding first_fault
a_use_before_any_job = refl

a_count_under_a_shared_latch : first_fault (codes "//A JOB" ++ lf ++ codes "// USE 0 S" ++ lf ++ codes "// COUNT 0 1" ++ lf ++ codes "//")
    1 ≡ Some (fault_at 3 10)
unfolding first_fault
a_count_under_a_shared_latch = refl

a_return_code_too_high : first_fault (codes "// DECK 2" ++ lf ++ codes "//A JOB" ++ lf ++ codes "// RETURN 4096") 1 ≡ Some (fault_at 3 8)
unfolding first_fault
a_return_code_too_high = refl

a_return_in_a_deck_of_version_1 : first_fault (codes "//A JOB" ++ lf ++ codes "// RETURN 1" ++ lf ++ codes "//") 1 ≡ Some (fault_at 2 3)
unfolding first_fault
a_return_in_a_deck_of_version_1 = refl

a_late_deck : first_fault (codes "//A JOB" ++ lf ++ codes "// DECK 2" ++ lf ++ codes "//") 1 ≡ Some (fault_at 2 15)
unfolding first_fault
a_late_deck = refl

an_ended_job : first_fault (codes "// DECK 2" ++ lf ++ codes "//A JOB" ++ lf ++ codes "// RETURN 0" ++ lf ++ codes "// DECK 2") 1 ≡ Some
    (fault_at 4 13)
unfolding first_fault
an_ended_job = refl

nothing : first_fault [] 1 ≡ Some (fault_at 1 12)
unfolding first_fault
nothing = refl

-- ---- decks that are not sound, each of one job

abbrev one_job : List After → List Step → List JobData
one_job after steps = record { name = codes "A"; after = after; steps = steps } ∷ []

-- a COUNT in a volume whose latch is not held
unlatched_is_not_sound : ¬ IsSound (one_job [] (Count 0 1 ∷ [])) 1
unlatched_is_not_sound h =
    let held : lacks_latch [] (Count 0 1) ≡ false = h.jobs_stand.0.steps.0.latched in
    absurd cc

-- a job that waits for itself
self_awaited_is_not_sound : ¬ IsSound (one_job (record { job = 0; most = 0 } ∷ []) []) 1
self_awaited_is_not_sound h =
    let earlier : 0 < 0 = h.jobs_stand.0.earlier.0.0 in
    omega arith

-- ---- loads

the_load_of_one_job : load_text 1 ≡ codes "//J00000 JOB\n// USE 0 X\n// COUNT 0 1\n// PRINT WORK 0\n// FREE 0\n//\n"
unfolding digits
the_load_of_one_job = refl

a_job_with_each_kind_of_line : job_lines 13
    ≡ codes "//J00013 JOB AFTER=J00010" ∷ codes "// USE 5 X" ∷ codes "// COUNT 5 5" ∷ codes "// SCAN 5" ∷ codes "// PRINT WORK 13"
    ∷ codes "// ABEND U0013" ∷ []
unfolding digits
a_job_with_each_kind_of_line = refl

that_job : load_job 13 ≡ record {
  name = codes "J00013";
  after = record { job = 10; most = 0 } ∷ [];
  steps = Use 5 Exclusive ∷ Count 5 5 ∷ Scan 5 ∷ Print (codes "WORK 13") ∷ Abend 16777229 ∷ [];
}
unfolding digits
that_job = refl

the_weight_of_two_jobs : weight (load_jobs 2) 1 ≡ 55
the_weight_of_two_jobs = refl
