use Rattle.std.proofs.Common.{◌≡◌, ◌+◌, ◌*◌, ◌-◌, ◌<◌, true, false, List, ◌∷◌, ◌++◌, [], map, length, Some, sym, ap, subst, ◌∙◌, arith}
use Rattle.std.specs.Prelude.{nat_lt}
use Rattle.std.proofs.lemmas.List.{length-map}
use Rattle.mv_deck.specs.Deck.{jobs_of, fresh_job}
use Rattle.mv_deck.specs.Fault.{kind_number, kinds_of_statement, kinds_behind}
use Rattle.mv_line.specs.Fault.{TellsLowest, first_of_list}
use Rattle.mv_deck.specs.Form.{part_data, listed}
use Rattle.mv_deck.specs.Reading.{jobs_read}
use Rattle.mv_deck.specs.Statement.{JobOf, AfterPart}
use Rattle.mv_deck.specs.Weight.{weight, heaviest}
use Rattle.mv_deck.proofs.Behind.{behind_job, job_weight, new_name}
use Rattle.mv_deck.proofs.Told.{job_heavy, job_fine, light, heavy}
use Rattle.mv_deck.proofs.reading.Reading.take_job.Goals as goal

pub returns-in-Err : goal.returns-in-Err
returns-in-Err c = λ n v earlier b.
    let e : map part_data c.deref.result.now ≡ listed v c.args.list = ap (map part_data) c.deref.ensures.value ∙ c.in_ok-parts.ensures
    ∙ ap (λ x. listed x c.args.list) b.version in
    subst (λ (x : List AfterPart). TellsLowest kind_number c.in-Err.refusal
    (kinds_of_statement n earlier (Some (JobOf c.args.name.now x)))) e
    (c.in-Err.ensures.kinds n v earlier b)

pub returns-then-weight-self : goal.returns-then-weight-self
returns-then-weight-self c = λ n v earlier b.
    let e : map part_data c.deref.result.now ≡ listed v c.args.list = ap (map part_data) c.deref.ensures.value ∙ c.in_ok-parts.ensures
    ∙ ap (λ x. listed x c.args.list) b.version in
    let good = c.in_default.ensures.kinds n v earlier b in
    let parts : List AfterPart = map part_data c.deref.result.now in
    let count : length parts ≡ c.len.result = length-map c.deref.result.now part_data ∙ c.deref.ensures.len ∙ sym c.len.ensures in
    let initiators : c.args.self.now.initiators ≡ n = b.initiators_are in
    let more : c.args.self.now.room < 8 + 9 * n + 2 * length parts =
    omega (arith, c.if-weight-self.true, count, initiators) in
    let weighs : nat_lt heaviest (weight (jobs_of earlier ++ fresh_job (jobs_of earlier) c.args.name.now parts ∷ []) n) ≡ true =
    ap (λ x. nat_lt heaviest x) (job_weight n (jobs_of earlier) c.args.name.now parts) ∙ heavy c.args.self.now.room
    (weight (jobs_of earlier) n) (8 + 9 * n + 2 * length parts) b.kept.room more in
    subst (λ (x : List AfterPart). first_of_list (kinds_behind n earlier (jobs_of earlier) (JobOf c.args.name.now x)) ≡ Some 14) e
    (job_heavy n earlier (jobs_of earlier) c.args.name.now parts good weighs)

pub returns : goal.returns
returns c = λ n v earlier b.
    let e : map part_data c.deref.result.now ≡ listed v c.args.list = ap (map part_data) c.deref.ensures.value ∙ c.in_ok-parts.ensures
    ∙ ap (λ x. listed x c.args.list) b.version in
    let same : c.deref-2.result.now ≡ c.deref.result.now = c.deref-2.ensures.value ∙ sym c.deref.ensures.value in
    let good = c.in_default.ensures.kinds n v earlier b in
    let parts : List AfterPart = map part_data c.deref.result.now in
    let count : length parts ≡ c.len.result = length-map c.deref.result.now part_data ∙ c.deref.ensures.len ∙ sym c.len.ensures in
    let initiators : c.args.self.now.initiators ≡ n = b.initiators_are in
    let begin = c.in_ok-begin.ensures in
    let read : jobs_read c.begin.new.self ≡ jobs_of earlier ++ fresh_job (jobs_of earlier) c.args.name.now parts ∷ [] =
    begin.jobs (jobs_of earlier) b.kept.named b.jobs
    ∙ ap (λ x. jobs_of earlier ++ fresh_job (jobs_of earlier) c.args.name.now (map part_data x) ∷ []) same in
    let left : c.begin.new.self.room - (8 + 9 * c.args.self.now.initiators + 2 * c.len.result) + (8 + 9 * n + 2 * length parts)
    ≡ c.args.self.now.room = omega (arith, begin.others.0, count, initiators, c.if-weight-self.false) in
    let total : c.begin.new.self.room - (8 + 9 * c.args.self.now.initiators + 2 * c.len.result) +
    (weight (jobs_of earlier) n + (8 + 9 * n + 2 * length parts)) ≡ heaviest = omega (arith, left, b.kept.room) in
    let weighs : nat_lt heaviest (weight (jobs_of earlier ++ fresh_job (jobs_of earlier) c.args.name.now parts ∷ []) n) ≡ false =
    ap (λ x. nat_lt heaviest x) (job_weight n (jobs_of earlier) c.args.name.now parts)
    ∙ light (c.begin.new.self.room - (8 + 9 * c.args.self.now.initiators + 2 * c.len.result))
    (weight (jobs_of earlier) n + (8 + 9 * n + 2 * length parts)) total in
    rw (sym e) (
      job_fine n earlier (jobs_of earlier) c.args.name.now parts good weighs,
      behind_job n v earlier c.args.self.now _ c.args.name.now parts b (new_name earlier c.args.name.now parts good) (record {
        jobs_are = read;
        names = begin.names (jobs_of earlier) b.jobs;
        begun = begin.begun;
        held_none = begin.held;
        closed = begin.flags.0;
        stated = begin.flags.1;
        ended = begin.flags.2;
        room = left;
        initiators_are = begin.others.1;
        version = begin.others.2;
      }),
    )
