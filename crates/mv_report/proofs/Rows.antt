-- Worked rows of the definitions, by computing them.
use Rattle.std.proofs.Common.{◌≡◌, ℕ, List, [], ◌∷◌, ◌++◌, codes, refl}
use Rattle.std.specs.Fmt.{digits}
use Rattle.mv_deck.specs.declared.deck.Step.{Step}
use Rattle.mv_deck.specs.declared.deck.Step.TheVariants.{Print, Use, Free, Count, Scan, Abend, Return}
use Rattle.mv_deck.specs.declared.deck.After.{After}
use Rattle.mv_deck.specs.Deck.{JobData}
use Rattle.mv_latch.specs.declared.request.Mode.TheVariants.{Shared, Exclusive}
use Rattle.mv_report.specs.Report.{outcome_text}
use Rattle.mv_report.specs.Outcome.{ends, report}
use Rattle.mv_report.specs.Summary.{load_summary}

-- ---- ends

ends_normally : outcome_text 0 ≡ codes "ENDED"
ends_normally = refl

lowest_return_code : outcome_text 1 ≡ codes "ENDED RC 1"
unfolding digits
lowest_return_code = refl

highest_return_code : outcome_text 4095 ≡ codes "ENDED RC 4095"
unfolding digits
highest_return_code = refl

user_code_twelve : outcome_text 16777228 ≡ codes "ABENDED U0012"
user_code_twelve = refl

lowest_user_code : outcome_text 16777216 ≡ codes "ABENDED U0000"
lowest_user_code = refl

highest_user_code : outcome_text 16781311 ≡ codes "ABENDED U4095"
highest_user_code = refl

lowest_system_code : outcome_text 16781312 ≡ codes "ABENDED S001"
lowest_system_code = refl

system_code_0C4 : outcome_text 17580032 ≡ codes "ABENDED S0C4"
system_code_0C4 = refl

highest_system_code : outcome_text 33550336 ≡ codes "ABENDED SFFF"
highest_system_code = refl

-- a user code behind a system code does not show
both_codes : outcome_text 17580044 ≡ codes "ABENDED S0C4"
both_codes = refl

was_not_run : outcome_text 33554432 ≡ codes "NOT RUN"
was_not_run = refl

-- ---- reports of decks

abbrev job : List ℕ → List After → List Step → JobData
job name parts steps = record { name = name; after = parts; steps = steps }

-- a part of an AFTER
abbrev part : ℕ → ℕ → After
part j most = record { job = j; most = most }

abbrev payroll : List JobData
payroll =
    job (codes "PAYROLL") [] (Print (codes "PAY RUN 7") ∷ Print (codes "DONE") ∷ [])
    ∷ job (codes "BACKUP") [] (Print (codes "COPYING") ∷ Abend 16777228 ∷ [])
    ∷ job (codes "VERIFY") (part 1 0 ∷ []) (Print (codes "CHECKED") ∷ []) ∷ []

payroll_ends : ends payroll ≡ 0 ∷ 16777228 ∷ 33554432 ∷ []
payroll_ends = refl

payroll_report : report payroll
    ≡ codes "JOB PAYROLL ENDED\n| PAY RUN 7\n| DONE\nJOB BACKUP ABENDED U0012\n"
    ++ codes "| COPYING\nJOB VERIFY NOT RUN\nJOBS 3 ENDED 1 ABENDED 1 NOT RUN 1\nVOLUMES 0 0 0 0 0 0 0 0\n"
unfolding digits
payroll_report = refl

-- REPORT accepts the end of LOAD, and CLEAN does not
abbrev return_codes : List JobData
return_codes =
    job (codes "LOAD") [] (Print (codes "ROWS 9") ∷ Return 4 ∷ [])
    ∷ job (codes "REPORT") (part 0 4 ∷ []) (Print (codes "OK") ∷ [])
    ∷ job (codes "CLEAN") (part 0 0 ∷ part 1 8 ∷ []) (Print (codes "CLEANED") ∷ []) ∷ []

return_code_ends : ends return_codes ≡ 4 ∷ 0 ∷ 33554432 ∷ []
return_code_ends = refl

return_code_report : report return_codes
    ≡ codes "JOB LOAD ENDED RC 4\n| ROWS 9\nJOB REPORT ENDED\n"
    ++ codes "| OK\nJOB CLEAN NOT RUN\nJOBS 3 ENDED 2 ABENDED 0 NOT RUN 1\nVOLUMES 0 0 0 0 0 0 0 0\n"
unfolding digits
return_code_report = refl

-- an abend is above every accepted code, and so is the end of a job that was not run; what stands behind an end is not done
one_after_another : ends (job (codes "A") [] (Return 5 ∷ Abend 16777216 ∷ [])
    ∷ job (codes "B") (part 0 5 ∷ []) (Abend 16777216 ∷ Return 1 ∷ [])
    ∷ job (codes "C") (part 1 4095 ∷ []) []
    ∷ job (codes "D") (part 2 4095 ∷ []) [] ∷ [])
    ≡ 5 ∷ 16777216 ∷ 33554432 ∷ 33554432 ∷ []
one_after_another = refl

-- what a job added before its ABEND stays
counts_before_an_abend : report (job (codes "ADD") [] (Use 0 Exclusive ∷ Count 0 5 ∷ Abend 17580032 ∷ [])
    ∷ job (codes "NEXT") [] (Use 0 Exclusive ∷ Count 0 7 ∷ Free 0 ∷ []) ∷ [])
    ≡ codes "JOB ADD ABENDED S0C4\nJOB NEXT ENDED\n"
    ++ codes "JOBS 2 ENDED 1 ABENDED 1 NOT RUN 0\nVOLUMES 12 0 0 0 0 0 0 0\n"
unfolding digits
counts_before_an_abend = refl

counted_and_scanned : report (job (codes "A") [] (Use 1 Exclusive ∷ Count 1 9999 ∷ Scan 1 ∷ Free 1 ∷ [])
    ∷ job (codes "B") [] (Use 1 Shared ∷ Scan 1 ∷ []) ∷ [])
    ≡ codes "JOB A ENDED\n| SCAN 1 STEADY\nJOB B ENDED\n"
    ++ codes "| SCAN 1 STEADY\nJOBS 2 ENDED 2 ABENDED 0 NOT RUN 0\nVOLUMES 0 9999 0 0 0 0 0 0\n"
unfolding digits
counted_and_scanned = refl

no_job : report [] ≡ codes "JOBS 0 ENDED 0 ABENDED 0 NOT RUN 0\nVOLUMES 0 0 0 0 0 0 0 0\n"
unfolding digits
no_job = refl

-- what follows an ABEND is not done
after_an_abend : report (job (codes "A") [] (Abend 17580032 ∷ Print (codes "NEVER") ∷ Abend 16777216 ∷ []) ∷ [])
    ≡ codes "JOB A ABENDED S0C4\n"
    ++ codes "JOBS 1 ENDED 0 ABENDED 1 NOT RUN 0\nVOLUMES 0 0 0 0 0 0 0 0\n"
unfolding digits
after_an_abend = refl

-- ---- summaries of loads

load_1_1 : load_summary 1 1 ≡ codes "LOAD 1 1\nJOBS 1 ENDED 1 ABENDED 0 NOT RUN 0\nVOLUMES 1 0 0 0 0 0 0 0\n"
unfolding digits
load_1_1 = refl

load_7_2 : load_summary 7 2 ≡ codes "LOAD 7 2\nJOBS 7 ENDED 6 ABENDED 1 NOT RUN 0\nVOLUMES 1 2 3 4 5 6 7 0\n"
unfolding digits
load_7_2 = refl

load_40_3 : load_summary 40 3 ≡ codes "LOAD 40 3\nJOBS 40 ENDED 34 ABENDED 5 NOT RUN 1\nVOLUMES 31 27 23 19 15 20 25 24\n"
unfolding digits
load_40_3 = refl
