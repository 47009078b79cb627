use Rattle.std.proofs.Common.{◌≡◌, ℕ, ◌+◌, ◌<◌, ◌≤◌, length, List, reverse, ◌++◌, ◌∷◌, [], refl, sym, ap, ◌∙◌, subst, arith}
use Rattle.std.proofs.lemmas.List.{reverse-append, reverse-reverse}
use Rattle.std.specs.List.{AllByRecursion}
use Rattle.mv_calls.specs.Posts.{posted_next}
use Rattle.mv_config.specs.Reach.{reach, total}
use Rattle.mv_board.specs.Faces.{CallerFace}
use Rattle.mv_calls.specs.Rest.{IsAtRest}
use Rattle.mv_wait.specs.Task.{blocks_in}
use Rattle.mv_wait.proofs.Posts.{Underway, begun, going, ended, all_below}
use Rattle.mv_wait.proofs.station.Station.post.Given as bound
use Rattle.mv_wait.proofs.Parts.{still_of}
use Rattle.mv_wait.proofs.Recording.{of_inside}
use Rattle.mv_wait.proofs.station.Station.post.Goals as goal
use Rattle.mv_wait.proofs.station.Station.post.Goals.{In-Some}

pub loop-next-init : goal.loop-next-init
loop-next-init g c =
    let one = c.post_one-answer.ensures.posted in
    let t = c.task.inside.caller in
    let u = c.post_one-answer.new.caller in
    let a = c.post_one-answer.result in
    let less = one.event.1.left in
    let room = c.task.invariant.room in
    let same = c.post_one-answer.ensures.capacity in
    let config = c.args.self.now.config in
    let view = c.task.view_is in
    let work : reverse c.post_one-answer.new.pending.items ≡ posted_next config one.reply =
    ap reverse (one.pending ∙ ap (λ xs. xs ++ reverse (posted_next config one.reply)) c.task.invariant.idle)
    ∙ reverse-reverse (posted_next config one.reply) in record {
      underway =
          subst (λ (d : CallerFace). Underway config c.args.code c.args.ecb d a u (reverse c.post_one-answer.new.pending.items)) view
          (subst (λ ns. Underway config c.args.code c.args.ecb t a u ns) (sym work)
          (begun config c.args.code t u c.args.ecb one.reply a c.requires.block one.answer one.event one.leads
          (subst (λ (d : CallerFace). reach config c.args.ecb ≤ d.left) (sym view) c.requires.task.left) one.few
          (subst (λ (d : CallerFace). IsAtRest d.log) (sym view) c.requires.task.rest)));
      told = one.event.1.shown.0 ∙ ap (λ (d : CallerFace). d.told) view;
      recorded = c.post_one-answer.ensures.recorded;
      room = omega arith;
      places = c.task.invariant.places ∙ sym (ap blocks_in one.event.1.same.about);
    }

length_zero : (xs : List ℕ) → length xs ≡ 0 → xs ≡ []
length_zero [] e = refl
length_zero (x ∷ xs) e = absurd (omega arith)

-- what was pending, the next block first
next_first : (pending later : List ℕ) (n : ℕ) → pending ≡ later ++ n ∷ [] → reverse pending ≡ n ∷ reverse later
next_first pending later n is = ap reverse is ∙ reverse-append later (n ∷ [])

-- the next block is one of the configuration's, and so is each behind it
are_blocks : (g : bound.Over) (c : In-Some g)
    → AllByRecursion (λ e. e < length c.args.self.now.config.owners) (c.in-Some.next ∷ reverse c.pop.new.self.items)
are_blocks g c =
    let w = c.loop-next.invariant.underway in
    let config = c.args.self.now.config in
    let work = next_first c.loop-next.task-inside.pending.items c.pop.new.self.items c.in-Some.next c.in-Some.ensures.items in
    subst (AllByRecursion (λ e. e < length config.owners)) (w.flat_is ∙ work) (all_below config c.args.code w.frames w.deep)

pub post_one-requires-clause-block : goal.post_one-requires-clause-block
post_one-requires-clause-block g c = (are_blocks g (goal.at.post_one-requires-clause-block g c).In-Some).0

pub post_one-requires-clause-blocks : goal.post_one-requires-clause-blocks
post_one-requires-clause-blocks g c = (are_blocks g (goal.at.post_one-requires-clause-blocks g c).In-Some).1

pub loop-next-preserved : goal.loop-next-preserved
loop-next-preserved g c =
    let u = c.loop-next.invariant.underway in
    let config = c.args.self.now.config in
    let one = c.post_one.ensures.posted in
    let less = one.event.1.left in
    let room = c.loop-next.invariant.room in
    let later = c.pop.new.self.items in
    let work = next_first c.loop-next.task-inside.pending.items later c.in-Some.next c.in-Some.ensures.items in
    let a = c.post_one-answer.result in
    let w = subst (Underway config c.args.code c.args.ecb c.args.task.now a c.loop-next.task-inside.caller) work u in
    let more : posted_next config one.reply ++ reverse later ≡ reverse c.post_one.new.pending.items =
    sym (ap reverse one.pending
    ∙ (reverse-append later (reverse (posted_next config one.reply))
    ∙ ap (λ xs. xs ++ reverse later) (reverse-reverse (posted_next config one.reply)))) in record {
      underway = subst (Underway config c.args.code c.args.ecb c.args.task.now a c.post_one.new.caller) more
          (going config c.args.code c.args.ecb c.args.task.now a c.loop-next.task-inside.caller c.in-Some.next (reverse later)
          c.post_one.new.caller
          one.reply c.post_one.result w one.answer one.event one.leads one.few);
      told = one.event.1.shown.0 ∙ c.loop-next.invariant.told;
      recorded = c.post_one.ensures.recorded;
      room = (let same = c.post_one.ensures.capacity ∙ c.in-Some.ensures.capacity in omega arith);
      places = c.loop-next.invariant.places ∙ sym (ap blocks_in one.event.1.same.about);
    }

pub returns-clause-served : goal.returns-clause-served
returns-clause-served g c =
    let u = c.loop-next.invariant.underway in
    let config = c.args.self.now.config in
    let none : c.loop-next.task-inside.pending.items ≡ [] =
    length_zero c.loop-next.task-inside.pending.items (let n = c.in_default.ensures.cases.0 in omega arith) in
    let a = c.post_one-answer.result in
    ended config c.args.code c.args.ecb c.args.task.now a c.loop-next.task-inside.caller c.requires.task.rest
    (subst (λ ns. Underway config c.args.code c.args.ecb c.args.task.now a c.loop-next.task-inside.caller (reverse ns)) none u)

pub invariant_of-task : goal.invariant_of-task
invariant_of-task g c = record {
  recorded = c.loop-next.invariant.recorded;
  idle = length_zero c.pop.new.self.items (let n = c.in_default.ensures.cases.1 in omega arith);
  room = subst (λ n. c.loop-next.task-inside.caller.left ≤ n) (sym c.in_default.ensures.capacity) c.loop-next.invariant.room;
  places = c.loop-next.invariant.places;
}

pub post_one-answer-requires-clause-task : goal.post_one-answer-requires-clause-task
post_one-answer-requires-clause-task g c =
    of_inside c.args.self.now c.args.self.now c.args.task.now c.task.inside.caller c.task.view_is refl c.requires.task.board

pub post_one-answer-requires-clause-blocks : goal.post_one-answer-requires-clause-blocks
post_one-answer-requires-clause-blocks g c =
    subst (λ (xs : List ℕ). AllByRecursion (λ e. e < length c.args.self.now.config.owners) (reverse xs)) (sym c.task.invariant.idle) tt

nothing_more : (n m : ℕ) → n ≤ m → n + 0 ≤ m
nothing_more n m few = omega arith

pub post_one-answer-requires-clause-left : goal.post_one-answer-requires-clause-left
post_one-answer-requires-clause-left g c =
    let config = c.args.self.now.config in
    let left = subst (λ (d : CallerFace). reach config c.args.ecb ≤ d.left) (sym c.task.view_is) c.requires.task.left in
    subst (λ (xs : List ℕ). total (reach config) (c.args.ecb ∷ reverse xs) ≤ c.task.inside.caller.left) (sym c.task.invariant.idle)
    (nothing_more (reach config c.args.ecb) c.task.inside.caller.left left)

pub post_one-requires-clause-task : goal.post_one-requires-clause-task
post_one-requires-clause-task g c =
    still_of c.args.self.now c.args.self.now c.args.task.now c.loop-next.task-inside.caller
    c.loop-next.invariant.underway.runs.went.same c.requires.task.board refl

pub post_one-requires-clause-left : goal.post_one-requires-clause-left
post_one-requires-clause-left g c =
    let work = next_first c.loop-next.task-inside.pending.items c.pop.new.self.items c.in-Some.next c.in-Some.ensures.items in
    subst (λ (ns : List ℕ). total (reach c.args.self.now.config) ns ≤ c.loop-next.task-inside.caller.left) work
    c.loop-next.invariant.underway.left
