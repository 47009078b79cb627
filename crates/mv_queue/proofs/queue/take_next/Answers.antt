use Rattle.std.proofs.Common.{[], ◌∷◌, ◌++◌, sym, ap, ◌∙◌}
use Rattle.std.proofs.lemmas.List.{append-nil}
use Rattle.mv_queue.specs.Queue.{went_in, came_out}
use Rattle.mv_queue.proofs.queue.take_next.Goals as goal

pub returns-in_default-clause-taken : goal.returns-in_default-clause-taken
returns-in_default-clause-taken g c =
    c.requires.taken
    ∙ sym (c.await_news.ensures.taken_out ∙ append-nil (came_out c.take_item.new.task.log) ∙ c.in_default.ensures.taken_out
    ∙ append-nil (came_out c.args.task.now.log))

pub returns-in_default-clause-put : goal.returns-in_default-clause-put
returns-in_default-clause-put g c =
    c.await_news.ensures.put_in ∙ append-nil (went_in c.take_item.new.task.log) ∙ c.in_default.ensures.put_in
    ∙ append-nil (went_in c.args.task.now.log)

pub returns-clause-taken : goal.returns-clause-taken
returns-clause-taken g c =
    c.push_reserved.ensures.items ∙ ap (λ xs. xs ++ c.in-Some.item ∷ []) c.requires.taken
    ∙ sym (c.tell.ensures.taken_out ∙ append-nil (came_out c.take_item.new.task.log) ∙ c.in-Some.ensures.taken_out)

pub returns-clause-put : goal.returns-clause-put
returns-clause-put g c =
    c.tell.ensures.put_in ∙ append-nil (went_in c.take_item.new.task.log) ∙ c.in-Some.ensures.put_in
    ∙ append-nil (went_in c.args.task.now.log)
