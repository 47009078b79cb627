use Rattle.std.proofs.Common.{[], ◌∷◌, ◌++◌, if◌then◌else◌, sym, ap, ◌∙◌, subst, append_assoc}
use Rattle.std.proofs.lemmas.List.{append-nil}
use Rattle.mv_queue.specs.Queue.{went_in, came_out, Did}
use Rattle.mv_queue.proofs.queue.put_next.Goals as goal

pub returns-then-put_item-clause-put : goal.returns-then-put_item-clause-put
returns-then-put_item-clause-put g c =
    let t = c.args.task.now in
    let u = c.put_item.new.task in
    let item = c.in-Some.item.now in
    let did : Did c.args.station.now 7 (item ∷ []) [] [] t u =
    subst (λ r. Did c.args.station.now 7 (if r then item ∷ [] else []) [] [] t u) c.if-put_item.true c.put_item.ensures in
    ap (λ xs. xs ++ c.in-Some.later.now) (c.tell.ensures.put_in ∙ append-nil (went_in u.log) ∙ did.put_in)
    ∙ append_assoc (went_in t.log) (item ∷ []) c.in-Some.later.now ∙ ap (λ xs. went_in t.log ++ xs) (sym c.in-Some.ensures.cases.0)

pub returns-then-put_item-clause-taken : goal.returns-then-put_item-clause-taken
returns-then-put_item-clause-taken g c =
    c.tell.ensures.taken_out ∙ append-nil (came_out c.put_item.new.task.log) ∙ c.put_item.ensures.taken_out
    ∙ append-nil (came_out c.args.task.now.log)

pub returns-clause-put : goal.returns-clause-put
returns-clause-put g c =
    let t = c.args.task.now in
    let u = c.put_item.new.task in
    let item = c.in-Some.item.now in
    let did : Did c.args.station.now 7 [] [] [] t u =
    subst (λ r. Did c.args.station.now 7 (if r then item ∷ [] else []) [] [] t u) c.if-put_item.false c.put_item.ensures in
    ap (λ xs. xs ++ c.args.items.now)
    (c.await_news.ensures.put_in ∙ append-nil (went_in u.log) ∙ did.put_in ∙ append-nil (went_in t.log))

pub returns-clause-taken : goal.returns-clause-taken
returns-clause-taken g c =
    c.await_news.ensures.taken_out ∙ append-nil (came_out c.put_item.new.task.log) ∙ c.put_item.ensures.taken_out
    ∙ append-nil (came_out c.args.task.now.log)
