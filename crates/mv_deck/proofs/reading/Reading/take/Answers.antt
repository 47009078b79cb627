use Rattle.std.proofs.Common.{Some, List, ℕ, option_map, sym, ap, ◌∙◌}
use Rattle.std.specs.Option.{option_and_then}
use Rattle.mv_deck.specs.declared.deck.Step.TheVariants.{Print, Use, Free, Count, Scan, Abend, Return}
use Rattle.mv_deck.specs.Operand.{amount_of}
use Rattle.mv_deck.specs.Statement.{PrintOf, UseOf, FreeOf, CountOf, ScanOf, AbendOf, ReturnOf}
use Rattle.mv_deck.proofs.reading.Reading.take.Goals as goal

pub returns-in-Null : goal.returns-in-Null
returns-in-Null c = λ n v earlier b. rw c.in-Null.is (c.take_null.ensures n v earlier b)

pub returns-in-Deck : goal.returns-in-Deck
returns-in-Deck c = λ n v earlier b. rw c.in-Deck.is (c.take_deck.ensures n v earlier b)

pub returns-in-Job : goal.returns-in-Job
returns-in-Job c = λ n v earlier b. rw c.in-Job.is (c.take_job.ensures n v earlier b)

pub returns-in_ok-bytes-in-Print : goal.returns-in_ok-bytes-in-Print
returns-in_ok-bytes-in-Print c = λ n v earlier b.
    rw c.in-Print.is
    (c.take_step.ensures n v earlier (PrintOf c.in-Print.text.now) b
    (ap (λ (x : List ℕ). Some (Print x)) (sym c.in_ok-bytes-in-Print.ensures.items)))

pub returns-in-Some : goal.returns-in-Some
returns-in-Some c = λ n v earlier b.
    rw c.in-Use.is
    (c.take_step-in-Some.ensures n v earlier (UseOf c.in-Use.text.now c.in-Use.mode) b
    (ap (option_map (λ l. Use l c.in-Use.mode)) (sym c.latch.ensures.number ∙ c.in-Some.is)))

pub returns-in-Some-latch : goal.returns-in-Some-latch
returns-in-Some-latch c = λ n v earlier b.
    rw c.in-Free.is
    (c.take_step-in-Some-latch.ensures n v earlier (FreeOf c.in-Free.text.now) b
    (ap (option_map Free) (sym c.latch-in-Free.ensures.number ∙ c.in-Some-latch.is)))

pub returns-in-Some-Some : goal.returns-in-Some-Some
returns-in-Some-Some c = λ n v earlier b.
    rw c.in-Count.is
    (c.take_step-in-Some-Some.ensures n v earlier (CountOf c.in-Count.text.now c.in-Count.number.now) b
    (ap (option_and_then (λ l. option_map (Count l) (amount_of c.in-Count.number.now)))
    (sym c.latch-in-Count.ensures.number ∙ c.in-Some-Some.is-0)
    ∙ ap (option_map (Count c.in-Some-Some.volume)) (sym c.amount.ensures ∙ c.in-Some-Some.is-1)))

pub returns-in-Some-latch-2 : goal.returns-in-Some-latch-2
returns-in-Some-latch-2 c = λ n v earlier b.
    rw c.in-Scan.is
    (c.take_step-in-Some-latch-2.ensures n v earlier (ScanOf c.in-Scan.text.now) b
    (ap (option_map Scan) (sym c.latch-in-Scan.ensures.number ∙ c.in-Some-latch-2.is)))

pub returns-in-Some-end_code : goal.returns-in-Some-end_code
returns-in-Some-end_code c = λ n v earlier b.
    rw c.in-Abend.is
    (c.take_step-in-Some-end_code.ensures n v earlier (AbendOf c.in-Abend.text.now) b
    (ap (option_map Abend) (sym c.end_code.ensures ∙ c.in-Some-end_code.is)))

pub returns-in-Some-code : goal.returns-in-Some-code
returns-in-Some-code c = λ n v earlier b.
    rw c.in-Return.is
    (c.take_step-in-Some-code.ensures n v earlier (ReturnOf c.in-Return.text.now) b
    (ap (option_map Return) (sym c.code.ensures ∙ c.in-Some-code.is)))
