-- A job's end by the ends of the whole deck, where it waits for earlier jobs alone.
use Rattle.std.proofs.Common.{◌≡◌, ℕ, ◌<◌, Bool, List, [], ◌∷◌, ◌++◌, length, get_or, refl, sym, ap, ◌∙◌, subst, arith, if◌then◌else◌}
use Rattle.std.specs.Prelude.{All}
use Rattle.std.specs.List.{AllByRecursion}
use Rattle.std.proofs.lemmas.List.{get_or_append_left, length-append}
use Rattle.std.proofs.lemmas.List.Elements.{recursion_from_All}
use Rattle.std.proofs.Math.Seq.{get_or-append_seam}
use Rattle.mv_deck.specs.declared.deck.After.{After}
use Rattle.mv_deck.specs.Deck.{JobData}
use Rattle.mv_deck.specs.EndCode.{not_run}
use Rattle.mv_report.specs.Outcome.{own_end, some_unaccepted, end_behind, ends_from, ends}
use Rattle.mv_report.proofs.Lengths.{one_end_per_job}

-- the ends of jobs behind others
ends_from-append : (es : List ℕ) (before behind : List JobData) → ends_from es (before ++ behind) ≡ ends_from (ends_from es before) behind
ends_from-append es [] behind = refl
ends_from-append es (job ∷ before) behind = ends_from-append (es ++ end_behind es job ∷ []) before behind

-- the jobs behind change no end
pub ends_stay : (es : List ℕ) (jobs : List JobData) (i : ℕ) → i < length es → get_or (ends_from es jobs) i 0 ≡ get_or es i 0
ends_stay es [] i lt = refl
ends_stay es (job ∷ jobs) i lt =
    let more : i < length (es ++ end_behind es job ∷ []) = omega (arith, length-append es (end_behind es job ∷ [])) in
    ends_stay (es ++ end_behind es job ∷ []) jobs i more ∙ get_or_append_left es (end_behind es job ∷ []) 0 i lt

-- what a part accepts goes by the end of its job alone
pub same_unaccepted : (es fs : List ℕ) (parts : List After) → AllByRecursion (λ part. get_or es part.job 0 ≡ get_or fs part.job 0) parts
    → some_unaccepted es parts ≡ some_unaccepted fs parts
same_unaccepted es fs [] same = refl
same_unaccepted es fs (part ∷ parts) same = rw (same.0, same_unaccepted es fs parts same.1) refl

-- the ends of earlier jobs are those of the whole deck
pub known_ends : (es : List ℕ) (jobs : List JobData) (parts : List After) → AllByRecursion (λ part. part.job < length es) parts
    → AllByRecursion (λ part. get_or es part.job 0 ≡ get_or (ends_from es jobs) part.job 0) parts
known_ends es jobs [] below = tt
known_ends es jobs (part ∷ parts) below = (sym (ends_stay es jobs part.job below.0), known_ends es jobs parts below.1)

-- the end of the next job
next_end : (es : List ℕ) (job : JobData) (behind : List JobData) → AllByRecursion (λ part. part.job < length es) job.after
    → get_or (ends_from es (job ∷ behind)) (length es) 0 ≡ end_behind (ends_from es (job ∷ behind)) job
next_end es job behind below =
    let here : length es < length (es ++ end_behind es job ∷ []) = omega (arith, length-append es (end_behind es job ∷ [])) in
    ends_stay (es ++ end_behind es job ∷ []) behind (length es) here
    ∙ get_or-append_seam es (end_behind es job) [] 0
    ∙ ap (λ (b : Bool). if b then not_run else own_end job.steps)
    (same_unaccepted es (ends_from es (job ∷ behind)) job.after (known_ends es (job ∷ behind) job.after below))

pub ends_by_accepted_codes : (before behind : List JobData) (job : JobData) → All (λ part. part.job < length before) job.after
    → get_or (ends (before ++ job ∷ behind)) (length before) 0 ≡ end_behind (ends (before ++ job ∷ behind)) job
ends_by_accepted_codes before behind job earlier =
    let count : length before ≡ length (ends before) = sym (one_end_per_job before) in
    let below : AllByRecursion (λ part. part.job < length (ends before)) job.after =
    subst (λ n. AllByRecursion (λ part. part.job < n) job.after) count
    (recursion_from_All (λ part. part.job < length before) job.after earlier) in
    rw (ends_from-append [] before (job ∷ behind)) (ap (λ n. get_or (ends_from (ends before) (job ∷ behind)) n 0) count
    ∙ next_end (ends before) job behind below)
