-- The server's room has the answers of the round, and those requests are no longer left.
use Rattle.std.proofs.Common.{◌++◌, ap, ◌∙◌}
use Rattle.mv_server.proofs.PoolRounds.{served_round, served_more, still_left, fits_in, fewer_left}
use Rattle.mv_server.proofs.rounds.RequestsService.end.Goals as goal

pub split_at-requires : goal.split_at-requires
split_at-requires c =
    let work = c.requires.round.1 in
    let during = c.requires.round.2 in
    let is = served_round _ _ _ work _ c.pop.new.self.items c.in-Some.answers _ _ work.requests.now c.requires.round.3
    (λ b k old t new done. done) during.1.config c.in-Some.ensures.items in
    fits_in _ _ _ _ _ during.1 is (c.len.ensures ∙ c.in-Some.answers.ok.0)

pub returns-clause-between : goal.returns-clause-between
returns-clause-between c =
    let answers = c.args.self.now.answers.items in
    let gives = c.in_ok-extend_from_slice.ensures.items ∙ ap (λ xs. answers ++ xs) c.deref.ensures.value in
    λ first work during round.
    let requests = work.requests.now in
    let is = served_round _ _ _ work _ c.pop.new.self.items c.in-Some.answers _ _ requests round (λ b k old t new done. done)
    during.1.config c.in-Some.ensures.items in
    let part = still_left _ requests _ _ _ _ during.1 is (c.len.ensures ∙ c.in-Some.answers.ok.0) c.split_at.ensures.back in
    served_more _ _ _ requests _ _ answers _ _ during.0 part is gives

pub returns-clause-fewer : goal.returns-clause-fewer
returns-clause-fewer c =
    let work = c.requires.round.1 in
    let during = c.requires.round.2 in
    let is = served_round _ _ _ work _ c.pop.new.self.items c.in-Some.answers _ _ work.requests.now c.requires.round.3
    (λ b k old t new done. done) during.1.config c.in-Some.ensures.items in
    fewer_left _ _ _ _ during.1 (still_left _ _ _ _ _ _ during.1 is (c.len.ensures ∙ c.in-Some.answers.ok.0) c.split_at.ensures.back)
