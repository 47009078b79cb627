-- Of a run, what the initiators bring back is one right record of each job.
use Rattle.std.proofs.Common.{◌≡◌, ℕ, suc, ◌<◌, ◌≤◌, ◌==◌, List, [], ◌∷◌, length, if◌then◌else◌, refl, sym, ap, ◌∙◌, subst, arith}
use Rattle.std.specs.List.{AllByRecursion}
use Rattle.mv_machine.proofs.Lists.{all_map, all_append, all_filter}
use Rattle.mv_machine.specs.declared.entry.Entry.{Entry}
use Rattle.mv_machine.specs.Legal.{of}
use Rattle.mv_config.specs.Setup.{Setup}
use Rattle.mv_machine.specs.System.{opening}
use Rattle.mv_calls.specs.Keeping.{nothing_kept}
use Rattle.mv_calls.specs.Program.{Heard, Says, entries}
use Rattle.mv_calls.specs.Runs.{heard_in}
use Rattle.mv_deck.specs.Deck.{JobData}
use Rattle.mv_deck.specs.EndCode.{not_run}
use Rattle.mv_report.specs.Outcome.{own_end, steps_with}
use Rattle.mv_plan.specs.HandingOut.{right_code}
use Rattle.mv_plan.specs.Jobs.{job_at, end_of}
use Rattle.mv_plan.specs.SpoolRun.{IsRun}
use Rattle.mv_plan.specs.SpoolSetup.{spool_setup, initiator}
use Rattle.mv_plan.specs.SpoolTasks.{initiating}
use Rattle.mv_plan.proofs.deck.Ends.{code_parts, few_jobs, skipped_ends, end_by_mark}
use Rattle.mv_plan.proofs.deck.Planned.{IsPlanned}
use Rattle.mv_plan.proofs.results.CountsAlone.{are_counted_alone}
use Rattle.mv_plan.proofs.results.HandedOut.{are_handed_out}
use Rattle.mv_plan.proofs.volumes.Totals.{codes_of}
use Rattle.mv_plan.proofs.walks.Histories.{Stood, stood}
use Rattle.mv_plan.proofs.walks.Walks.{start_points}
use Rattle.mv_work.specs.Records.{JobRecord}
use Rattle.mv_work.specs.Recording.{AreNotesOf, IsRecorded, AreRecorded, AreBrought, all_records}
use Rattle.mv_work.proofs.Histories.{initiator_is}
use Rattle.mv_work.proofs.brought.Forgetting.{forgets_says}
use Rattle.mv_work.proofs.brought.Histories.{GivesInitiators, entries_heard, plain_from, all_given}
use Rattle.mv_work.proofs.brought.OneRecord.{OneAbout, list_at, one_record}
use Rattle.mv_work.proofs.brought.Brings.{ArePlain, nothing_told}
use Rattle.mv_work.proofs.brought.Rounds.{IsOwn, AreRounds, initiator_rounds}

-- ---- lists

all_flat : (P : JobRecord → Type 0) (records : List (List JobRecord))
    → ((i : ℕ) → i < length records → AllByRecursion P (list_at records i)) → AllByRecursion P (all_records records)
all_flat P [] each = tt
all_flat P (rs ∷ records) each =
    all_append P rs (all_records records) (each 0 (omega arith)) (all_flat P records (λ i lt. each (suc i) (omega arith)))

-- ---- a run

module _ (deck : List JobData) (initiators : ℕ) (some : 1 ≤ initiators) (planned : IsPlanned deck initiators) (es : List Entry)
    (run : IsRun deck initiators es) (records : List (List JobRecord)) (brought : AreBrought deck initiators es records) where
  abbrev c : Setup
  c = spool_setup deck initiators

  abbrev heard_by : ℕ → List Heard
  heard_by i = heard_in c (initiator i) es

  givers : AllByRecursion (GivesInitiators initiators) es
  givers =
      let st : Stood deck initiators some planned es = stood deck initiators some planned es run.follow in
      all_given c deck initiators (opening c) (start_points deck initiators) es st.points st.walk

  -- what each initiator brought
  rounds_of : (i : ℕ) → i < initiators → AreRounds deck (codes_of (of (initiator i) es)) (list_at records i)
  rounds_of i lt =
      let says : Says (initiating c deck i (nothing_kept (initiator i))) (heard_by i) =
      subst (λ call. Says (call (nothing_kept (initiator i))) (heard_by i)) (initiator_is deck initiators i lt)
      (run.follow.says (initiator i) (omega arith)) in
      let noted = (forgets_says c deck i (nothing_kept (initiator i)) (heard_by i)).1 says in
      let own : entries (heard_by i) ≡ of (initiator i) es = entries_heard c (initiator i) es in
      subst (λ l. AreRounds deck (codes_of l) (list_at records i)) own
      (initiator_rounds c deck i (list_at records i) (nothing_kept (initiator i)) (heard_by i) planned.jobs noted (brought.each i lt)
      (subst (λ l. ArePlain nothing_told l) (sym own)
      (plain_from c (initiator i) es (are_counted_alone deck initiators some planned es run).scans (opening c) [] es nothing_told refl
      run.follow.legal tt)))

  all_own : AllByRecursion (IsOwn deck) (all_records records)
  all_own = all_flat (IsOwn deck) records (λ i lt. (rounds_of i (let n = brought.count in omega arith)).1)

  -- the one record of a job
  is_recorded : (j : ℕ) → j < length deck → IsRecorded deck (all_records records) j
  is_recorded j lt =
      let one : OneAbout j (right_code deck j) (all_records records) =
      one_record deck initiators es records j (right_code deck j) (few_jobs deck initiators planned) lt
      ((are_handed_out deck initiators some planned es run).jobs j lt).given givers brought.count rounds_of in
      let found : AllByRecursion (IsOwn deck) (one.found ∷ []) =
      subst (λ rs. AllByRecursion (IsOwn deck) rs) one.alone
      (all_filter (IsOwn deck) (λ r. r.job == j) (all_records records) all_own) in
      let own : IsOwn deck one.found = found.0 in
      let is : (one.found.job ≡ j) × ((one.found.end == not_run) ≡ (end_of deck j == not_run)) =
      code_parts (length deck) one.found.job j (one.found.end == not_run) (end_of deck j == not_run) (few_jobs deck initiators planned)
      own.job lt one.named in
      let end : one.found.end ≡ end_of deck j =
      own.end ∙ ap (λ b. if b then not_run else own_end (job_at deck one.found.job).steps) is.1
      ∙ ap (λ k. if end_of deck j == not_run then not_run else own_end (job_at deck k).steps) is.0
      ∙ end_by_mark deck j (end_of deck j == not_run) planned.jobs lt (sym (skipped_ends deck j planned.jobs lt)) in
      record {
        found = one.found;
        alone = one.alone;
        end = end;
        notes = subst (λ k. AreNotesOf (steps_with (end_of deck j) (job_at deck k).steps) 0 one.found.notes) is.0
            (subst (λ e. AreNotesOf (steps_with e (job_at deck one.found.job).steps) 0 one.found.notes) end own.notes);
      }

  pub are_recorded : AreRecorded deck (all_records records)
  are_recorded = record { each = is_recorded; known = all_map (λ r own. own.job) (all_records records) all_own }
