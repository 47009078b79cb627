-- The tasks that note say what the plan's say: whoever forgets the records has the plan's programs.
use Rattle.std.proofs.Common.{◌≡◌, ℕ, zero, suc, ◌+◌, ◌^◌, ◌==◌, nat_lt, Bool, true, false, List, [], ◌∷◌, ◌++◌, length, Option}
use Rattle.std.proofs.Common.{Some, None, Result, if◌then◌else◌, refl, sym, ap, ◌∙◌}
use Rattle.std.specs.List.{list_any}
use Rattle.mv_element.specs.declared.element.Token.{Token}
use Rattle.mv_latch.specs.declared.request.LatchForm.TheVariants.{Waiting}
use Rattle.mv_config.specs.Setup.{Setup}
use Rattle.mv_machine.specs.System.{with_at}
use Rattle.mv_calls.specs.Endings.{end_of_job}
use Rattle.mv_calls.specs.Keeping.{Kept, kept_after}
use Rattle.mv_calls.specs.LatchCalls.{Requested, GrantedAs, PendingAs, obtain, release_latch}
use Rattle.mv_calls.specs.declared.outcomes.Purged.{Purged}
use Rattle.mv_calls.specs.declared.outcomes.Given.{Given}
use Rattle.mv_calls.specs.Pauses.{allocate, pause, deallocate}
use Rattle.mv_calls.specs.Posts.{post}
use Rattle.mv_calls.specs.Program.{Program, Do, Done, Early, Wrong, Heard, Says, left, Call, going_on, followed, accepted, finished, wrong}
use Rattle.mv_calls.specs.Refusal.{Refusal}
use Rattle.mv_calls.specs.Waits.{read_volume, write_volume}
use Rattle.mv_calls.proofs.Programs.{same_says}
use Rattle.mv_deck.specs.Deck.{JobData}
use Rattle.mv_deck.specs.declared.deck.Step.{Step}
use Rattle.mv_deck.specs.declared.deck.Step.TheVariants.{Print, Use, Free, Count, Scan, Abend, Return}
use Rattle.mv_deck.specs.EndCode.{not_run}
use Rattle.mv_plan.specs.Jobs.{job_at}
use Rattle.mv_plan.specs.SpoolSetup.{done, idle}
use Rattle.mv_plan.specs.SpoolTasks.{Named, granted_as, freed, counted, named_by, job_named, run_steps, job_done, run_job, rounds}
use Rattle.mv_plan.specs.SpoolTasks.{initiating}
use Rattle.mv_work.specs.declared.records.Noted.{Noted}
use Rattle.mv_work.specs.declared.records.Noted.TheVariants.{Printed, Scanned}
use Rattle.mv_work.specs.Initiating.{job_then, jobs_of_records}
use Rattle.mv_work.specs.Noting.{record_of, steps_noted, all_steps_noted, job_noted, rounds_noted, initiating_noted}
use Rattle.mv_work.specs.Records.{JobRecord}
use Rattle.mv_work.proofs.Calls.{accepted-assoc, followed-assoc}
use Rattle.mv_work.proofs.Rounds.{jobs_more}

-- ---- calls of two parts, the second of which is followed by something

module _ {X B : Type 0} (f : X → Call B) where
  followed_by : {A : Type 0} (call : Call A) (x : A → Call X) (y : A → Call B) → ((a : A) → followed (x a) f ≡ y a)
      → followed (followed call x) f ≡ followed call y
  followed_by call x y each = followed-assoc call x f ∙ ap (followed call) (λ i a. each a i)

  accepted_by : {A : Type 0} (call : Call (Result A Refusal)) (x : A → Call X) (y : A → Call B) → ((a : A) → followed (x a) f ≡ y a)
      → followed (accepted call x) f ≡ accepted call y
  accepted_by call x y each = accepted-assoc call x f ∙ ap (accepted call) (λ i a. each a i)

  named_as : (slot : Option Named) (before : List ℕ) (left : ℕ) (x : Named → Call X) (y : Named → Call B)
      → ((named : Named) → followed (x named) f ≡ y named) → followed (named_by slot before left x) f ≡ named_by slot before left y
  named_as None before left x y each = refl
  named_as (Some named) before zero x y each = refl
  named_as (Some named) before (suc left) x y each = go (list_any (λ j. j == named.job) before) where
    go : (b : Bool) → followed (if b then wrong else x named) f ≡ (if b then wrong else y named)
    go true = refl
    go false = each named

-- two calls that begin alike
module _ {X Y B : Type 0} (f : X → Call B) (g : Y → Call B) where
  followed_both : {A : Type 0} (call : Call A) (x : A → Call X) (y : A → Call Y) → ((a : A) → followed (x a) f ≡ followed (y a) g)
      → followed (followed call x) f ≡ followed (followed call y) g
  followed_both call x y each = followed_by f call x (λ a. followed (y a) g) each ∙ sym (followed-assoc call y g)

  accepted_both : {A : Type 0} (call : Call (Result A Refusal)) (x : A → Call X) (y : A → Call Y)
      → ((a : A) → followed (x a) f ≡ followed (y a) g) → followed (accepted call x) f ≡ followed (accepted call y) g
  accepted_both call x y each = accepted_by f call x (λ a. followed (y a) g) each ∙ sym (accepted-assoc call y g)

  granted_both : (x : ℕ → Call X) (y : ℕ → Call Y) → ((id : ℕ) → followed (x id) f ≡ followed (y id) g) → (o : Requested)
      → followed (granted_as x o) f ≡ followed (granted_as y o) g
  granted_both x y each (GrantedAs id) = each id
  granted_both x y each (PendingAs id) = refl

  freed_both : (c : Setup) (latch : ℕ) (slot : Option ℕ) (x : Call X) (y : Call Y) → followed x f ≡ followed y g
      → followed (freed c latch slot x) f ≡ followed (freed c latch slot y) g
  freed_both c latch None x y e = refl
  freed_both c latch (Some id) x y e = accepted_both (release_latch c latch id false) (λ granted. x) (λ granted. y) (λ granted. e)

  counted_both : (v amount n : ℕ) (x : Call X) (y : Call Y) → followed x f ≡ followed y g
      → followed (counted v amount x n) f ≡ followed (counted v amount y n) g
  counted_both v amount n x y e = go (nat_lt (n + amount) (2 ^ 32)) where
    go : (b : Bool) → followed (if b then followed (write_volume v (n + amount)) (λ stored. x) else wrong) f
        ≡ followed (if b then followed (write_volume v (n + amount)) (λ stored. y) else wrong) g
    go true = followed_both (write_volume v (n + amount)) (λ stored. x) (λ stored. y) (λ stored. e)
    go false = refl

-- ---- a job: what follows its record by its end alone may follow the end

module _ {B : Type 0} (c : Setup) (job : ℕ) (f : JobRecord → Call B) (g : ℕ → Call B)
    (same : (end : ℕ) (notes : List Noted) → f (record_of job end notes) ≡ g end) where
  steps_forget : (requests : ℕ → Option ℕ) (place : ℕ) (notes : List Noted) (steps : List Step)
      → followed (steps_noted c job requests place notes steps) f ≡ followed (run_steps c (job + 1) requests steps) g
  steps_forget requests place notes [] = same 0 notes
  steps_forget requests place notes (Print text ∷ steps) = steps_forget requests (place + 1) (notes ++ Printed place ∷ []) steps
  steps_forget requests place notes (Use latch mode ∷ steps) =
      accepted_both f g (obtain c latch (job + 1) mode Waiting) _ _
      (granted_both f g _ _ (λ id. steps_forget (with_at requests latch (Some id)) (place + 1) notes steps))
  steps_forget requests place notes (Free latch ∷ steps) =
      freed_both f g c latch (requests latch) _ _ (steps_forget requests (place + 1) notes steps)
  steps_forget requests place notes (Count v amount ∷ steps) =
      followed_both f g (read_volume v) _ _ (λ n. counted_both f g v amount n _ _ (steps_forget requests (place + 1) notes steps))
  steps_forget requests place notes (Scan v ∷ steps) =
      followed_both f g (read_volume v) _ _ (λ first. followed_both f g (read_volume v) _ _ (λ second.
      steps_forget requests (place + 1) (notes ++ Scanned place first second ∷ []) steps))
  steps_forget requests place notes (Abend code ∷ steps) = same code notes
  steps_forget requests place notes (Return code ∷ steps) = same code notes

  all_steps_forget : (data_of_job : JobData) (skipped : Bool)
      → followed (all_steps_noted c data_of_job job skipped) f ≡ followed (job_done c (job + 1) data_of_job skipped) g
  all_steps_forget data_of_job true = same not_run []
  all_steps_forget data_of_job false = steps_forget (λ latch. None) 0 [] data_of_job.steps

-- an initiator of the plan answers nothing
abbrev pub forgotten : List JobRecord → Call (List ℕ)
forgotten records = finished []

module _ (c : Setup) (deck : List JobData) where
  job_forgets : {B : Type 0} (named : Named) (f : JobRecord → Call B) (later : Call B)
      → ((end : ℕ) (notes : List Noted) → f (record_of named.job end notes) ≡ later)
      → followed (job_noted c deck named) f ≡ followed (run_job c deck named) (λ counts. later)
  job_forgets named f later each =
      let ends : ℕ → Call Purged = λ code. end_of_job c (named.job + 1) (done (length deck) named.job) code in
      let noted : JobRecord → Call JobRecord = λ r. followed (ends r.end) (λ counts. finished r) in
      followed-assoc (all_steps_noted c (job_at deck named.job) named.job named.skipped) noted f
      ∙ all_steps_forget c named.job (λ r. followed (noted r) f) (λ code. followed (ends code) (λ counts. later))
      (λ end notes. followed_by f (ends end) (λ counts. finished (record_of named.job end notes)) (λ counts. later)
      (λ counts. each end notes)) (job_at deck named.job) named.skipped
      ∙ sym (followed-assoc (job_done c (named.job + 1) (job_at deck named.job) named.skipped) ends (λ counts. later))

  -- ---- an initiator

  module _ (i : ℕ) where
    rounds_forget : (more : ℕ) (records : List JobRecord) (token : Token)
        → followed (rounds_noted c deck i more records token) forgotten ≡ rounds c deck i more (jobs_of_records records) token
    rounds_forget zero records token = refl
    rounds_forget (suc more) records token =
        followed_by forgotten (post c (idle (length deck) i) token.generation) _ _ (λ posted.
        accepted_by forgotten (pause c token) _ _ (λ gift. given gift (λ rs. rounds_forget more rs gift.next) (gift.code == 0))) where
          given : (gift : Given) → ((rs : List JobRecord) → followed (rounds_noted c deck i more rs gift.next) forgotten
              ≡ rounds c deck i more (jobs_of_records rs) gift.next) → (b : Bool)
              → followed (if b then accepted (deallocate c gift.next) (λ closed. finished records)
              else named_by (job_named (length deck) gift.code) (jobs_of_records records) more (job_then c deck i more records gift.next))
              forgotten
              ≡ (if b then accepted (deallocate c gift.next) (λ closed. finished [])
              else named_by (job_named (length deck) gift.code) (jobs_of_records records) more (λ named.
              followed (run_job c deck named) (λ counts. rounds c deck i more (jobs_of_records records ++ named.job ∷ []) gift.next)))
          given gift so true = accepted-assoc (deallocate c gift.next) (λ closed. finished records) forgotten
          given gift so false = named_as forgotten (job_named (length deck) gift.code) (jobs_of_records records) more _ _ (λ named.
              followed-assoc (job_noted c deck named) _ forgotten ∙ job_forgets named _ _ (λ end notes.
              let r = record_of named.job end notes in so (records ++ r ∷ [])
              ∙ ap (λ before. rounds c deck i more before gift.next) (jobs_more records r)))

    -- an initiator that notes, and forgets, is the plan's
    pub initiating_forgets : followed (initiating_noted c deck i) forgotten ≡ initiating c deck i
    initiating_forgets = accepted_by forgotten (allocate c) _ _ (rounds_forget (length deck + 1) [])

-- ---- what is heard of both

module _ {A B : Type 0} (b : B) where
  says_on : (kept : Kept) (p : Program A) (hs : List Heard)
      → (Says p hs → Says (going_on kept p (λ a. finished b)) hs) × (Says (going_on kept p (λ a. finished b)) hs → Says p hs)
  says_on kept p [] = (λ s. tt, λ s. tt)
  says_on kept (Do o op next) (h ∷ hs) =
      let rest = says_on (kept_after kept o op h.entry.reply) (next h) hs in (λ s. (s.0, rest.0 s.1), λ s. (s.0, rest.1 s.1))
  says_on kept p (h ∷ hs) = (λ s. absurd (cc s.0), λ s. absurd (cc s.0))

  left_on : (kept : Kept) (p : Program A) (hs : List Heard)
      → (k : Kept) × (left (going_on kept p (λ a. finished b)) hs ≡ going_on k (left p hs) (λ a. finished b))
  left_on kept p [] = (kept, refl)
  left_on kept (Do o op next) (h ∷ hs) = left_on (kept_after kept o op h.entry.reply) (next h) hs
  left_on kept (Done a) (h ∷ hs) = left_on kept Wrong hs
  left_on kept Early (h ∷ hs) = left_on kept Early hs
  left_on kept Wrong (h ∷ hs) = left_on kept Wrong hs

  done_on : (kept : Kept) (p : Program A) (answer : B) → going_on kept p (λ a. finished b) ≡ Done answer → (a : A) × (p ≡ Done a)
  done_on kept (Done a) answer e = (a, refl)
  done_on kept p answer e = absurd (cc e)

module _ (c : Setup) (deck : List JobData) (i : ℕ) (kept : Kept) (hs : List Heard) where
  plan : initiating c deck i kept ≡ followed (initiating_noted c deck i) forgotten kept
  plan = sym (ap (λ call. call kept) (initiating_forgets c deck i))

  pub forgets_says : (Says (initiating_noted c deck i kept) hs → Says (initiating c deck i kept) hs)
      × (Says (initiating c deck i kept) hs → Says (initiating_noted c deck i kept) hs)
  forgets_says =
      let both = says_on [] kept (initiating_noted c deck i kept) hs in
      (λ s. same_says _ _ hs plan (both.0 s), λ s. both.1 (same_says _ _ hs (sym plan) s))

  pub forgets_done : (records : List JobRecord) → left (initiating_noted c deck i kept) hs ≡ Done records
      → left (initiating c deck i kept) hs ≡ Done []
  forgets_done records e =
      let on = left_on [] kept (initiating_noted c deck i kept) hs in
      ap (λ p. left p hs) plan ∙ on.1 ∙ ap (λ p. going_on on.0 p (λ records. finished [])) e

  pub done_noted : (answer : List ℕ) → left (initiating c deck i kept) hs ≡ Done answer
      → (records : List JobRecord) × (left (initiating_noted c deck i kept) hs ≡ Done records)
  done_noted answer e =
      let on = left_on [] kept (initiating_noted c deck i kept) hs in
      done_on [] on.0 (left (initiating_noted c deck i kept) hs) answer (sym on.1 ∙ sym (ap (λ p. left p hs) plan) ∙ e)
