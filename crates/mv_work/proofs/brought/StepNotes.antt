-- What is noted of a job's steps: notes of the steps that were done, and the end; and no code is given by them.
use Rattle.std.proofs.Common.{◌≡◌, ℕ, ◌+◌, List, [], ◌∷◌, ◌++◌, Option, Some, refl, sym, ap, ◌∙◌, subst, append-nil, append_assoc}
use Rattle.mv_latch.specs.declared.request.LatchForm.TheVariants.{Waiting}
use Rattle.mv_config.specs.Setup.{Setup}
use Rattle.mv_machine.specs.System.{with_at}
use Rattle.mv_calls.specs.Keeping.{Kept}
use Rattle.mv_calls.specs.LatchCalls.{obtain}
use Rattle.mv_calls.specs.Program.{Call, followed}
use Rattle.mv_calls.specs.Waits.{read_volume}
use Rattle.mv_deck.specs.declared.deck.Step.{Step}
use Rattle.mv_deck.specs.declared.deck.Step.TheVariants.{Print, Use, Free, Count, Scan, Abend, Return}
use Rattle.mv_report.specs.Outcome.{own_end, before_end}
use Rattle.mv_plan.specs.SpoolTasks.{granted_as, counted}
use Rattle.mv_work.specs.declared.records.Noted.{Noted}
use Rattle.mv_work.specs.declared.records.Noted.TheVariants.{Printed, Scanned}
use Rattle.mv_work.specs.Records.{JobRecord}
use Rattle.mv_work.specs.Noting.{record_of, steps_noted}
use Rattle.mv_work.specs.Recording.{AreNotesOf}
use Rattle.mv_work.proofs.brought.Brings.{Brings, Past, counted_then, freed_then, granted_then, quiet_accepted, read_then, then_told}
use Rattle.mv_work.proofs.brought.Quiet.{obtain_quiet}

module _ (c : Setup) (job : ℕ) (codes : List ℕ) (R : Past → JobRecord → Type 0) where
  -- the record of these steps done is so, behind what was noted before, where no code was given
  abbrev pub TakesSteps : ℕ → List Noted → List Step → Type 0
  TakesSteps place notes steps = (new : List Noted) (t : Past) → AreNotesOf (before_end steps) place new → t.codes ≡ codes
      → R t (record_of job (own_end steps) (notes ++ new))

  -- a job that has ended
  over : (t : Past) (code : ℕ) (notes : List Noted) → R t (record_of job code (notes ++ [])) → R t (record_of job code notes)
  over t code notes x = subst (λ ns. R t (record_of job code ns)) (append-nil notes) x

  -- with a note in front
  noted_on : (t : Past) (code : ℕ) (notes new : List Noted) (note : Noted) → R t (record_of job code (notes ++ note ∷ new))
      → R t (record_of job code ((notes ++ note ∷ []) ++ new))
  noted_on t code notes new note x = subst (λ ns. R t (record_of job code ns)) (sym (append_assoc notes (note ∷ []) new)) x

  pub steps_bring : (requests : ℕ → Option ℕ) (place : ℕ) (notes : List Noted) (steps : List Step) (p : Past) (kept : Kept)
      → p.codes ≡ codes → TakesSteps place notes steps → Brings R p (steps_noted c job requests place notes steps kept)
  steps_bring requests place notes [] p kept e take = over p 0 notes (take [] p refl e)
  steps_bring requests place notes (Print text ∷ steps) p kept e take =
      steps_bring requests (place + 1) (notes ++ Printed place ∷ []) steps p kept e
      (λ new t are q. noted_on t (own_end steps) notes new (Printed place) (take (Printed place ∷ new) t (new, refl, are) q))
  steps_bring requests place notes (Use latch mode ∷ steps) p kept e take =
      let later : ℕ → Call JobRecord = λ id. steps_noted c job (with_at requests latch (Some id)) (place + 1) notes steps in
      quiet_accepted R p kept (obtain c latch (job + 1) mode Waiting kept) (granted_as later) (obtain_quiet c latch (job + 1) mode kept)
      (λ o k t q. granted_then R t later o k (λ id. steps_bring (with_at requests latch (Some id)) (place + 1) notes steps t k (q ∙ e) take))
  steps_bring requests place notes (Free latch ∷ steps) p kept e take =
      freed_then R p kept c latch (requests latch) (steps_noted c job requests (place + 1) notes steps)
      (λ k t q. steps_bring requests (place + 1) notes steps t k (q ∙ e) take)
  steps_bring requests place notes (Count v amount ∷ steps) p kept e take =
      let later : Call JobRecord = steps_noted c job requests (place + 1) notes steps in
      read_then R p kept v (counted v amount later) (λ n k once read same none. counted_then R (then_told p once) k v amount n later
      (λ j t q. steps_bring requests (place + 1) notes steps t j (q ∙ none ∙ e) take))
  steps_bring requests place notes (Scan v ∷ steps) p kept e take =
      let later : ℕ → ℕ → Call JobRecord = λ first second.
      steps_noted c job requests (place + 1) (notes ++ Scanned place first second ∷ []) steps in
      read_then R p kept v (λ first. followed (read_volume v) (later first)) (λ first k once read same none.
      read_then R (then_told p once) k v (later first) (λ second j again reread tells still.
      steps_bring requests (place + 1) (notes ++ Scanned place first second ∷ []) steps
      (then_told (then_told p once) again) j (still ∙ none ∙ e) (λ new t are q.
      let number : first ≡ second = cc (sym read.2 ∙ tells v read.0 read.1 reread.0 reread.1 ∙ reread.2) in
      noted_on t (own_end steps) notes new (Scanned place first second)
      (take (Scanned place first second ∷ new) t (first, new, ap (λ z. Scanned place first z ∷ new) (sym number), are) q))))
  steps_bring requests place notes (Abend code ∷ steps) p kept e take = over p code notes (take [] p refl e)
  steps_bring requests place notes (Return code ∷ steps) p kept e take = over p code notes (take [] p refl e)
