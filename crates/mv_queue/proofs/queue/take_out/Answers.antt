use Rattle.mv_wait.proofs.Compose.{served_left}
use Rattle.mv_attach.proofs.Says.{always_read}
use Rattle.mv_wait.specs.Prelude.{BoardFace, CallerFace, kept_of, read_volume, write_volume, Volume, IsServed}
use Rattle.mv_guarded.proofs.Careful.{careful_event}
use Rattle.mv_guarded.proofs.Holding.{read_held, read_inside, read_one, read_past_read}
use Rattle.mv_wait.specs.Prelude.mode.{Exclusive}
use Rattle.mv_wait.specs.Prelude.volume_op.{Read}
use Rattle.mv_ordered.proofs.Calls.{IsPlain}
use Rattle.mv_ordered.specs.Held.{held}
use Rattle.mv_queue.proofs.Calls.{counts_item}
use Rattle.mv_queue.proofs.Logs.{Tally, Tells, tally, tells_taken}
use Rattle.mv_queue.specs.Queue.{Did, HasSeen, IsAllowed, IsReady, slot}
use Rattle.mv_queue.specs.Setup.{taken_count}
use Rattle.std.proofs.Common.{None, Some, [], arith, inl, inr, refl, subst, sym, ℕ, ◌+◌, ◌<◌, ◌∷◌, ◌≡◌}
use Rattle.mv_queue.proofs.queue.take_out.Goals as goal
use Rattle.mv_wait.specs.Prelude.op_on

takes_item : (b : BoardFace) (taken put item : ℕ) (Are : Unit {0} → Type 0) (t u v : CallerFace)
    → HasSeen t.number taken put t.log → taken < put → IsServed 1 (read_volume (slot taken)) (λ a. a ≡ item) t u
    → IsServed 1 (write_volume taken_count (taken + 1)) Are u v → IsReady b t → Did b 2 [] (item ∷ []) (held t.log) t v
takes_item b taken put item Are t u v seen some read =
    let n = slot taken in
    let one = read_one n item t u read in
    let e = one.entry in λ counted r.
    let tells : Tells None (Some item) None None e.object e.op e.reply =
    subst (λ o. Tells None (Some item) None None o e.op e.reply) (sym one.reads.object)
    (subst (λ op. Tells None (Some item) None None (Volume n) op e.reply) (sym one.reads.op)
    (subst (λ x. Tells None (Some item) None None (Volume n) (op_on.Volume Read) x) (sym one.reads.reply) (tells_taken n item (omega arith)))) in
    let first : Tally None (Some item) None None t.log u.log =
    subst (Tally None (Some item) None None t.log) (sym one.logged) (tally None (Some item) None None t.log e tells) in
    let a = first.longer_in in
    let d = first.longer_out in
    let f = first.put_counts in
    let g = first.take_counts in
    let even_in = r.even.0 in
    let even_out = r.even.1 in
    counts_item b taken_count taken [] (item ∷ []) Are t u v (omega arith) (record {
      config = r.config;
      careful = careful_event IsAllowed b (read_volume n) (λ x. x ≡ item) e t u read (always_read (λ o op. IsPlain op) n (kept_of t.number t.log) tt)
          one.logged (subst (λ o. IsAllowed t.number t.log o e.op) (sym one.reads.object)
          (subst (λ op. IsAllowed t.number t.log (Volume n) op) (sym one.reads.op)
          (inl (record { taken_is = taken; put_is = put; seen = seen; even = r.even; some = some; here = refl })))) r.careful;
      number = read.same.number;
      left = served_left 1 (read_volume n) (λ x. x ≡ item) t u read;
      put_in = first.into;
      taken_out = first.out;
      latches = read_held n item t u read;
      holds = (read_inside 0 n item Exclusive t u seen.holds read).0;
      read = read_past_read 0 taken_count taken n item t u seen.read_taken read;
      owes = inr (refl, (omega arith, omega arith));
    }) counted

pub returns : goal.returns
returns g c =
    takes_item c.args.station.now c.args.taken c.args.put c.read_volume-item.result _ c.args.task.now c.read_volume-item.new.task
    c.write_volume.new.task c.requires.seen c.requires.some c.read_volume-item.ensures.served c.write_volume.ensures.served c.requires.ready
