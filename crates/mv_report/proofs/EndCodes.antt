-- Where each ABEND and each RETURN of a deck has an end code, each of its jobs ends with one.
use Rattle.std.proofs.Common.{ℕ, cond, Bool, true, false, List, [], ◌∷◌, ◌++◌, All, inl, inr, arith}
use Rattle.std.specs.List.{AllByRecursion}
use Rattle.std.proofs.lemmas.List.Elements.{All-from_recursion}
use Rattle.mv_deck.specs.declared.deck.Step.{Step}
use Rattle.mv_deck.specs.declared.deck.Step.TheVariants.{Print, Use, Free, Count, Scan, Abend, Return}
use Rattle.mv_deck.specs.Deck.{JobData}
use Rattle.mv_deck.specs.EndCode.{not_run}
use Rattle.mv_report.specs.EndCode.{IsEndCode}
use Rattle.mv_report.specs.Outcome.{own_end, some_unaccepted, end_behind, ends_from, ends}

-- each ABEND and each RETURN of these steps has an end code
abbrev pub HaveEndCodes : List Step → Type 0
HaveEndCodes [] = Unit {0}
HaveEndCodes (Abend code ∷ steps) = IsEndCode code × HaveEndCodes steps
HaveEndCodes (Return code ∷ steps) = IsEndCode code × HaveEndCodes steps
HaveEndCodes (step ∷ steps) = HaveEndCodes steps

own_end_is_end_code : (steps : List Step) → HaveEndCodes steps → IsEndCode (own_end steps)
own_end_is_end_code [] h = inl (omega arith)
own_end_is_end_code (Abend code ∷ steps) h = h.0
own_end_is_end_code (Return code ∷ steps) h = h.0
own_end_is_end_code (Print text ∷ steps) h = own_end_is_end_code steps h
own_end_is_end_code (Use latch mode ∷ steps) h = own_end_is_end_code steps h
own_end_is_end_code (Free latch ∷ steps) h = own_end_is_end_code steps h
own_end_is_end_code (Count volume amount ∷ steps) h = own_end_is_end_code steps h
own_end_is_end_code (Scan volume ∷ steps) h = own_end_is_end_code steps h

end_is_end_code : (es : List ℕ) (job : JobData) → HaveEndCodes job.steps → IsEndCode (end_behind es job)
end_is_end_code es job h = either (some_unaccepted es job.after) where
  either : (b : Bool) → IsEndCode (cond b not_run (own_end job.steps))
  either true = inr (omega arith, omega arith)
  either false = own_end_is_end_code job.steps h

one_more : (es : List ℕ) (end : ℕ) → AllByRecursion IsEndCode es → IsEndCode end → AllByRecursion IsEndCode (es ++ end ∷ [])
one_more [] end h is = (is, tt)
one_more (e ∷ es) end h is = (h.0, one_more es end h.1 is)

each_end : (es : List ℕ) (jobs : List JobData) → AllByRecursion IsEndCode es → AllByRecursion (λ job. HaveEndCodes job.steps) jobs
    → AllByRecursion IsEndCode (ends_from es jobs)
each_end es [] before h = before
each_end es (job ∷ jobs) before h =
    each_end (es ++ end_behind es job ∷ []) jobs (one_more es (end_behind es job) before (end_is_end_code es job h.0)) h.1

pub ends_are_end_codes : (deck : List JobData) → AllByRecursion (λ job. HaveEndCodes job.steps) deck → All IsEndCode (ends deck)
ends_are_end_codes deck h = All-from_recursion IsEndCode (ends deck) (each_end [] deck tt h)
