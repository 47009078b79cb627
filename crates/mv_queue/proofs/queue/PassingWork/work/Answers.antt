use Rattle.std.proofs.Common.{ℕ, refl, sym, subst}
use Rattle.mv_wait.specs.Prelude.{BoardFace, CallerFace, IsFresh}
use Rattle.mv_guarded.proofs.Careful.{careful_fresh}
use Rattle.mv_queue.specs.Queue.{IsAllowed, IsEven, IsReady, IsOpen}
use Rattle.mv_queue.proofs.queue.PassingWork.work.Goals as goal

new_ready : (b : BoardFace) (tries : ℕ) (t : CallerFace) → IsOpen b tries → IsFresh b t.number t → IsReady b t
new_ready b tries t is new = record {
  config = (tries, is.config);
  careful = careful_fresh IsAllowed b t.number t new;
  even = subst IsEven (sym new.log) (refl, refl);
}

pub put_all-requires-clause-ready : goal.put_all-requires-clause-ready
put_all-requires-clause-ready g c = new_ready c.args.station.now c.args.self.now.tries c.args.task.now c.requires.start.0 c.requires.fresh

pub put_all-requires-in-1-clause-ready : goal.put_all-requires-in-1-clause-ready
put_all-requires-in-1-clause-ready g c = new_ready c.args.station.now c.args.self.now.tries c.args.task.now c.requires.start.0 c.requires.fresh

pub take_all-requires-clause-ready : goal.take_all-requires-clause-ready
take_all-requires-clause-ready g c = new_ready c.args.station.now c.args.self.now.tries c.args.task.now c.requires.start.0 c.requires.fresh
