-- What an initiator brings back, by what it heard: for each code that it was given a record, which is right as far as the code and
-- the deck's job say.
use Rattle.std.proofs.Common.{◌≡◌, ℕ, zero, suc, ◌+◌, ◌<◌, ◌==◌, Bool, true, false, List, [], ◌∷◌, ◌++◌, length, map, Option, Some, None}
use Rattle.std.proofs.Common.{if◌then◌else◌, refl, sym, ap, ◌∙◌, subst, append-nil, append_assoc, arith}
use Rattle.std.specs.List.{list_any, AllByRecursion}
use Rattle.std.proofs.lemmas.Bool.{ne_eqb, eqb-true}
use Rattle.mv_element.specs.declared.element.Token.{Token}
use Rattle.mv_config.specs.Setup.{Setup}
use Rattle.mv_calls.specs.Endings.{end_of_job}
use Rattle.mv_calls.specs.Keeping.{Kept}
use Rattle.mv_calls.specs.declared.outcomes.Given.{Given}
use Rattle.mv_calls.specs.Pauses.{allocate, pause, deallocate}
use Rattle.mv_calls.specs.Posts.{post}
use Rattle.mv_calls.specs.Program.{Done, Heard, Call, Says, left, entries, accepted, finished, wrong}
use Rattle.mv_deck.specs.Deck.{JobData}
use Rattle.mv_deck.specs.EndCode.{not_run}
use Rattle.mv_report.specs.Outcome.{own_end, before_end, steps_with}
use Rattle.mv_plan.specs.Jobs.{job_at}
use Rattle.mv_plan.specs.SpoolSetup.{done, idle}
use Rattle.mv_plan.specs.SpoolTasks.{Named, named_by, job_named, code_of}
use Rattle.mv_plan.proofs.deck.Ends.{sound_job, own_end_below}
use Rattle.mv_plan.proofs.deck.Planned.{ArePlannedJobs}
use Rattle.mv_plan.proofs.points.Initiator.{named_is}
use Rattle.mv_plan.proofs.volumes.Totals.{codes_of}
use Rattle.mv_work.specs.declared.records.Noted.{Noted}
use Rattle.mv_work.specs.Initiating.{job_then}
use Rattle.mv_work.specs.Records.{JobRecord}
use Rattle.mv_work.specs.Noting.{record_of, all_steps_noted, job_noted, rounds_noted, initiating_noted}
use Rattle.mv_work.specs.Recording.{AreNotesOf}
use Rattle.mv_work.proofs.brought.Brings.{ArePlain, Brings, Past, brings_then, codes_told, is_brought, nothing_told, pause_then, quiet_then}
use Rattle.mv_work.proofs.brought.Brings.{quiet_accepted}
use Rattle.mv_work.proofs.brought.Quiet.{post_quiet, allocate_quiet, deallocate_quiet, end_quiet}
use Rattle.mv_work.proofs.brought.StepNotes.{steps_bring}

-- ---- a job

-- a record is of a job of the deck, with an end that the job may have, and with the notes of what it does then
pub record IsOwn (deck : List JobData) (r : JobRecord) : Type 0 where
  pub job : r.job < length deck
  pub end : r.end ≡ (if r.end == not_run then not_run else own_end (job_at deck r.job).steps)
  pub notes : AreNotesOf (steps_with r.end (job_at deck r.job).steps) 0 r.notes

-- the record of a job that a code named
record IsOf (deck : List JobData) (named : Named) (r : JobRecord) : Type 0 where
  same : r.job ≡ named.job
  mark : (r.end == not_run) ≡ named.skipped
  own : IsOwn deck r

-- so a job is brought, and no code was given since
abbrev IsOneOf : List JobData → Named → List ℕ → Past → JobRecord → Type 0
IsOneOf deck named codes t r = IsOf deck named r × (t.codes ≡ codes)

module _ (c : Setup) (deck : List JobData) (planned : ArePlannedJobs 0 deck) where
  -- one that was run
  run_of : (job : ℕ) → job < length deck → (notes : List Noted) → AreNotesOf (before_end (job_at deck job).steps) 0 notes
      → IsOf deck (record { job = job; skipped = false }) (record_of job (own_end (job_at deck job).steps) notes)
  run_of job lt notes are =
      let below : own_end (job_at deck job).steps < not_run =
      own_end_below (job_at deck job).steps [] (sound_job 0 deck job planned lt).steps in
      let not : (own_end (job_at deck job).steps == not_run) ≡ false =
      ne_eqb (own_end (job_at deck job).steps) not_run (λ e. absurd (omega arith)) in
      record {
        same = refl;
        mark = not;
        own = record {
          job = lt;
          end = sym (ap (λ b. if b then not_run else own_end (job_at deck job).steps) not);
          notes = subst (λ b. AreNotesOf (if b then [] else before_end (job_at deck job).steps) 0 notes) (sym not) are;
        };
      }

  steps_of : (job : ℕ) → job < length deck → (skipped : Bool) (p : Past) (kept : Kept)
      → Brings (IsOneOf deck (record { job = job; skipped = skipped }) p.codes) p (all_steps_noted c (job_at deck job) job skipped kept)
  steps_of job lt true p kept =
      (record { same = refl; mark = refl; own = record { job = lt; end = refl; notes = refl } }, refl)
  steps_of job lt false p kept =
      steps_bring c job p.codes (IsOneOf deck (record { job = job; skipped = false }) p.codes) (λ latch. None) 0 []
      (job_at deck job).steps p kept refl (λ new t are q. (run_of job lt new are, q))

  -- what a job that was named comes to
  job_brings : (named : Named) → named.job < length deck → (p : Past) (kept : Kept)
      → Brings (IsOneOf deck named p.codes) p (job_noted c deck named kept)
  job_brings named lt p kept =
      brings_then (IsOneOf deck named p.codes) (IsOneOf deck named p.codes) p kept
      (all_steps_noted c (job_at deck named.job) named.job named.skipped kept) _ (steps_of named.job lt named.skipped p kept) (λ r k t w.
      quiet_then (IsOneOf deck named p.codes) t k (end_of_job c (named.job + 1) (done (length deck) named.job) r.end k)
      (λ counts. finished r) (end_quiet c (named.job + 1) (done (length deck) named.job) r.end k) (λ counts j u e. (w.0, e ∙ w.1)))

-- ---- the rounds

-- the code that named the job of a record
abbrev pub code_named : JobRecord → ℕ
code_named r = code_of r.job (r.end == not_run)

module _ (c : Setup) (deck : List JobData) (planned : ArePlannedJobs 0 deck) (i : ℕ) (R : Past → List JobRecord → Type 0) where
  -- these records and new ones are so: one for each code that was given since, and then 0 was given
  abbrev Takes : List ℕ → List JobRecord → Type 0
  Takes codes records = (new : List JobRecord) (t : Past) → AllByRecursion (IsOwn deck) new
      → t.codes ≡ codes ++ (map code_named new ++ 0 ∷ []) → R t (records ++ new)

  -- what follows a gift, by whether its code is 0
  abbrev given_call : Bool → ℕ → List JobRecord → Given → Call (List JobRecord)
  given_call b more records gift = if b then accepted (deallocate c gift.next) (λ closed. finished records)
      else named_by (job_named (length deck) gift.code) (map (λ r. r.job) records) more (job_then c deck i more records gift.next)

  -- so it is where so many rounds are left
  abbrev AreSo : ℕ → Type 0
  AreSo more = (records : List JobRecord) (token : Token) (p : Past) (kept : Kept) → Takes p.codes records
      → Brings R p (rounds_noted c deck i more records token kept)

  module _ (records : List JobRecord) (gift : Given) (codes : List ℕ) (take : Takes codes records) (u : Past)
      (told : u.codes ≡ codes ++ gift.code ∷ []) (k : Kept) where
    last_round : gift.code ≡ 0 → Brings R u (accepted (deallocate c gift.next) (λ closed. finished records) k)
    last_round z =
        quiet_accepted R u k (deallocate c gift.next k) (λ closed. finished records) (deallocate_quiet c gift.next k) (λ closed j t e.
        subst (λ rs. R t rs) (append-nil records) (take [] t tt (e ∙ told ∙ ap (λ n. codes ++ n ∷ []) z)))

    named_to : (more : ℕ) → AreSo more → (named : Named) → named.job < length deck → gift.code ≡ code_of named.job named.skipped
        → Brings R u (job_then c deck i more records gift.next named k)
    named_to more so named lt is =
        brings_then (IsOneOf deck named u.codes) R u k (job_noted c deck named k) _ (job_brings c deck planned named lt u k) (λ r j t w.
        let same : gift.code ≡ code_named r =
        is ∙ ap (λ m. code_of m named.skipped) (sym w.0.same) ∙ ap (λ b. code_of r.job b) (sym w.0.mark) in
        so (records ++ r ∷ []) gift.next t j (λ new v own q.
        let rest : List ℕ = map code_named new ++ 0 ∷ [] in
        subst (λ rs. R v rs) (sym (append_assoc records (r ∷ []) new)) (take (r ∷ new) v (w.0.own, own)
        (q ∙ ap (λ cs. cs ++ rest) (w.1 ∙ told) ∙ append_assoc codes (gift.code ∷ []) rest ∙ ap (λ n. codes ++ (n ∷ rest)) same))))

    slot_to : (more : ℕ) → AreSo more → (slot : Option Named) (times : ℕ) → job_named (length deck) gift.code ≡ slot
        → Brings R u (named_by slot (map (λ r. r.job) records) times (job_then c deck i more records gift.next) k)
    slot_to more so None times q = tt
    slot_to more so (Some named) zero q = tt
    slot_to more so (Some named) (suc times) q = go (list_any (λ j. j == named.job) (map (λ r. r.job) records)) where
      is : (named.job < length deck) × (gift.code ≡ code_of named.job named.skipped)
      is = named_is (length deck) gift.code named q

      go : (b : Bool) → Brings R u ((if b then wrong else job_then c deck i more records gift.next named) k)
      go true = tt
      go false = named_to more so named is.0 is.1

    given_to : (more : ℕ) → AreSo more → (b : Bool) → (gift.code == 0) ≡ b → Brings R u (given_call b more records gift k)
    given_to more so true z = last_round (eqb-true gift.code 0 z)
    given_to more so false z = slot_to more so (job_named (length deck) gift.code) more refl

  rounds_bring : (more : ℕ) → AreSo more
  rounds_bring zero records token p kept take = tt
  rounds_bring (suc more) records token p kept take =
      let given : Given → Call (List JobRecord) = λ gift. given_call (gift.code == 0) more records gift in
      quiet_then R p kept (post c (idle (length deck) i) token.generation kept) (λ posted. accepted (pause c token) given)
      (post_quiet c (idle (length deck) i) token.generation kept) (λ posted k t e.
      pause_then R t token given (λ gift j u told. given_to records gift p.codes take u (told ∙ ap (λ cs. cs ++ gift.code ∷ []) e) j more
      (rounds_bring more) (gift.code == 0) refl) k c)

  initiating_brings : (p : Past) (kept : Kept) → Takes p.codes [] → Brings R p (initiating_noted c deck i kept)
  initiating_brings p kept take =
      quiet_accepted R p kept (allocate c kept) (rounds_noted c deck i (length deck + 1) []) (allocate_quiet c kept) (λ token k t e.
      rounds_bring (length deck + 1) [] token t k (λ new v own q. take new v own (q ∙ ap (λ cs. cs ++ (map code_named new ++ 0 ∷ [])) e)))

-- an initiator that is done has a record for each code that it was given, and was then given 0
abbrev pub AreRounds : List JobData → List ℕ → List JobRecord → Type 0
AreRounds deck codes records = (codes ≡ map code_named records ++ 0 ∷ []) × AllByRecursion (IsOwn deck) records

pub initiator_rounds : (c : Setup) (deck : List JobData) (i : ℕ) (out : List JobRecord) (kept : Kept) (hs : List Heard)
    → ArePlannedJobs 0 deck → Says (initiating_noted c deck i kept) hs → left (initiating_noted c deck i kept) hs ≡ Done out
    → ArePlain nothing_told (entries hs) → AreRounds deck (codes_of (entries hs)) out
initiator_rounds c deck i out kept hs planned s e w =
    subst (λ codes. AreRounds deck codes out) (codes_told nothing_told (entries hs))
    (is_brought (λ t rs. AreRounds deck t.codes rs) nothing_told (initiating_noted c deck i kept) hs out
    (initiating_brings c deck planned i (λ t rs. AreRounds deck t.codes rs) nothing_told kept (λ new t own q. (q, own))) s e w)
