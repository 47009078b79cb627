use Rattle.std.proofs.Common.{◌≡◌, ◌-◌, ◌∙◌, ◌<◌, ◌≤◌, [], ◌∷◌, ◌++◌, length, get_or, set, sym, ap, subst, arith, length-set}
use Rattle.mv_machine.specs.declared.entry.Object.TheVariants.{Ecb}
use Rattle.mv_config.specs.Setup.{Setup, owner_of}
use Rattle.mv_board.specs.declared.watch.Watch.TheVariants as watch
use Rattle.mv_board.specs.Faces.{BoardFace, with_watch}
use Rattle.mv_wait.specs.Ready.{AreReadyBut}
use Rattle.mv_wait.specs.Waiting.{AreOwnUpTo}
use Rattle.mv_wait.proofs.Parts.{still_of}
use Rattle.mv_wait.proofs.Runs.{went_then, went_look}
use Rattle.mv_wait.proofs.Unready.{own_still, ready_more}
use Rattle.mv_wait.proofs.station.Station.look_at_unready.Goals as goal

pub peek-requires-clause-board : goal.peek-requires-clause-board
peek-requires-clause-board g c = still_of c.args.self.now c.self.inside.board c.args.caller.now c.loop-open.caller
    c.loop-open.invariant.went.same
    c.requires.task c.self.view_is

pub peek-requires-clause-own : goal.peek-requires-clause-own
peek-requires-clause-own g c =
    let e = get_or c.loop-open.places c.loop-open.open 0 in
    let config : c.self.inside.board.config ≡ c.args.self.now.config = ap (λ (b : BoardFace). b.config) c.self.view_is in
    let test = c.loop-open-test.true in
    let left = c.if-spare-unready.true in
    let one = c.loop-open.invariant.own c.loop-open.open (omega arith) in (
      subst (λ (s : Setup). e < length s.owners) (sym config) one.0,
      subst (λ (s : Setup). owner_of s e ≡ c.loop-open.caller.number) (sym config) one.1,
    )

pub loop-open-preserved-then-peek : goal.loop-open-preserved-then-peek
loop-open-preserved-then-peek g c =
    let since = c.loop-open.invariant in
    let look = c.peek.ensures.look in
    let places = c.loop-open.places in
    let m = c.loop-open.unready in
    let j = c.loop-open.open in
    let e = get_or places j 0 in
    let after = set places j (get_or places (m - 1) 0) in
    let test = c.loop-open-test.true in
    let left = c.if-spare-unready.true in
    let all = since.size in
    let same = since.places in
    let room = c.requires.size in
    let lt : j < m = omega arith in
    let size : m ≤ length places = omega arith in
    let ready : c.peek.new.caller.ready ≡ c.loop-open.caller.ready ++ watch.Ecb e ∷ [] =
    look.ready ∙ ap (λ b. with_watch b (watch.Ecb e) c.loop-open.caller.ready) c.if-peek.true in record {
      went = went_then [] [] c.args.caller.now c.loop-open.caller c.peek.new.caller since.went
          (went_look c.loop-open.caller (Ecb e) look.word c.peek.new.caller look.found);
      places = length-set places j (get_or places (m - 1) 0) ∙ same;
      size = omega arith;
      own = subst (λ k. AreOwnUpTo c.args.self.now.config k after (m - 1)) (sym look.found.same.number)
          (own_still places m j lt size c.args.self.now.config c.loop-open.caller.number since.own);
      ready = subst (λ ws. AreReadyBut after (m - 1) ws c.args.ecbs.now) (sym ready)
          (ready_more places m j lt size c.loop-open.caller.ready c.args.ecbs.now since.ready);
    }

pub loop-open-preserved : goal.loop-open-preserved
loop-open-preserved g c =
    let since = c.loop-open.invariant in
    let look = c.peek.ensures.look in
    let e = get_or c.loop-open.places c.loop-open.open 0 in
    let ready : c.peek.new.caller.ready ≡ c.loop-open.caller.ready =
    look.ready ∙ ap (λ b. with_watch b (watch.Ecb e) c.loop-open.caller.ready) c.if-peek.false in record {
      went = went_then [] [] c.args.caller.now c.loop-open.caller c.peek.new.caller since.went
          (went_look c.loop-open.caller (Ecb e) look.word c.peek.new.caller look.found);
      places = since.places;
      size = since.size;
      own = subst (λ k. AreOwnUpTo c.args.self.now.config k c.loop-open.places c.loop-open.unready) (sym look.found.same.number) since.own;
      ready = subst (λ ws. AreReadyBut c.loop-open.places c.loop-open.unready ws c.args.ecbs.now) (sym ready) since.ready;
    }
