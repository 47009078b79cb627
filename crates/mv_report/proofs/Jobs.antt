-- The jobs' part of a report, one job longer.
use Rattle.std.proofs.Common.{◌≡◌, ℕ, ◌+◌, ◌<◌, List, [], ◌∷◌, ◌++◌, length, get_or, take, map, sym, ap, ◌∙◌, append_assoc, arith}
use Rattle.std.proofs.lemmas.List.{append-nil, take_more, length-take, length-map, map-append}
use Rattle.mv_deck.specs.declared.deck.Job.{Job}
use Rattle.mv_deck.specs.Deck.{JobData, job_data}
use Rattle.mv_report.specs.Report.{job_text, jobs_text}

-- where all three lists are as long
jobs_text-push : (jobs : List JobData) (ends : List ℕ) (lines : List (List (List ℕ))) (job : JobData) (end : ℕ) (texts : List (List ℕ))
    → length jobs ≡ length ends → length jobs ≡ length lines
    → jobs_text (jobs ++ job ∷ []) (ends ++ end ∷ []) (lines ++ texts ∷ []) ≡ jobs_text jobs ends lines ++ job_text job.name end texts
jobs_text-push [] [] [] job end texts e l = append-nil (job_text job.name end texts)
jobs_text-push (j ∷ jobs) (n ∷ ends) (t ∷ lines) job end texts e l =
    rw (jobs_text-push jobs ends lines job end texts (omega arith) (omega arith))
    (sym (append_assoc (job_text j.name n t) (jobs_text jobs ends lines) (job_text job.name end texts)))
jobs_text-push [] (n ∷ ends) lines job end texts e l = absurd (omega arith)
jobs_text-push [] [] (t ∷ lines) job end texts e l = absurd (omega arith)
jobs_text-push (j ∷ jobs) [] lines job end texts e l = absurd (omega arith)
jobs_text-push (j ∷ jobs) (n ∷ ends) [] job end texts e l = absurd (omega arith)

pub jobs_text-more : (jobs : List Job) (ends : List ℕ) (lines : List (List (List ℕ))) (i : ℕ) (job : Job) (texts : List (List ℕ))
    → length ends ≡ length jobs → length lines ≡ length jobs → i < length jobs → job ≡ get_or jobs i job → texts ≡ get_or lines i texts
    → jobs_text (map job_data (take (i + 1) jobs)) (take (i + 1) ends) (take (i + 1) lines)
    ≡ jobs_text (map job_data (take i jobs)) (take i ends) (take i lines) ++ job_text job.name (get_or ends i 0) texts
jobs_text-more jobs ends lines i job texts e l lt is_job is_texts =
    let jobs-is : take (i + 1) jobs ≡ take i jobs ++ job ∷ [] =
    take_more jobs i job lt ∙ ap (λ (j : Job). take i jobs ++ j ∷ []) (sym is_job) in
    let ends-is : take (i + 1) ends ≡ take i ends ++ get_or ends i 0 ∷ [] = take_more ends i 0 (omega arith) in
    let lines-is : take (i + 1) lines ≡ take i lines ++ texts ∷ [] =
    take_more lines i texts (omega arith) ∙ ap (λ (t : List (List ℕ)). take i lines ++ t ∷ []) (sym is_texts) in
    rw (jobs-is, ends-is, lines-is, map-append job_data (take i jobs) (job ∷ []))
    (jobs_text-push (map job_data (take i jobs)) (take i ends) (take i lines) (job_data job) (get_or ends i 0) texts
    (simp length-map (omega (arith, length-take i jobs, length-take i ends)))
    (simp length-map (omega (arith, length-take i jobs, length-take i lines))))
