use Rattle.std.proofs.Common.{◌≡◌, List, length, map, sum_by, ap, ◌∙◌, arith}
use Rattle.mv_deck.specs.declared.deck.Job.{Job}
use Rattle.mv_deck.specs.Deck.{deck_data, job_data}
use Rattle.mv_work.specs.Initiating.{job_marks}
use Rattle.mv_work.proofs.Decks.{job_count}
use Rattle.mv_work.proofs.Rounds.{left_all}
use Rattle.mv_work.proofs.initiator.Initiator.with_room.Goals as goal

pub returns-clause-room : goal.returns-clause-room
returns-clause-room c =
    let jobs = deck_data c.args.deck.now in
    let given = c.in_ok-none_given.field-0.items in
    let none = c.in_ok-none_given.ensures.none in
    let size = c.in_ok-none_given.ensures.size in
    let count = job_count c.args.deck.now.jobs.items in
    let long = c.len.ensures in
    let all = left_all job_marks given jobs none (let e : length given ≡ length jobs = omega arith in e) in
    let marks = c.in_ok-room.ensures ∙ ap (λ (js : List Job). sum_by job_marks (map job_data js)) c.deref.ensures.value in
    let room = c.in_ok-with_room.ensures.room in omega arith
