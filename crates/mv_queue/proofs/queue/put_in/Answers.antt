use Rattle.mv_wait.proofs.Compose.{served_left}
use Rattle.mv_attach.proofs.Says.{always_write}
use Rattle.mv_wait.specs.Prelude.{BoardFace, CallerFace, kept_of, write_volume, Volume, IsServed}
use Rattle.mv_guarded.proofs.Careful.{careful_event}
use Rattle.mv_guarded.proofs.Holding.{read_past_write, write_held, write_inside, wrote_one}
use Rattle.mv_wait.specs.Prelude.mode.{Exclusive}
use Rattle.mv_ordered.proofs.Calls.{IsPlain}
use Rattle.mv_ordered.specs.Held.{held}
use Rattle.mv_queue.proofs.Calls.{counts_item}
use Rattle.mv_queue.proofs.Logs.{Tally, Tells, tally, tells_put}
use Rattle.mv_queue.specs.Queue.{Did, HasSeen, IsAllowed, IsReady, slot}
use Rattle.mv_queue.specs.Setup.{put_count, room}
use Rattle.std.proofs.Common.{None, Some, [], arith, inl, refl, subst, sym, ℕ, ◌+◌, ◌<◌, ◌∷◌}
use Rattle.mv_queue.proofs.queue.put_in.Goals as goal

puts_item : (b : BoardFace) (taken put item : ℕ) (Is Are : Unit {0} → Type 0) (t u v : CallerFace)
    → HasSeen t.number taken put t.log → put < taken + room → IsServed 1 (write_volume (slot put) item) Is t u
    → IsServed 1 (write_volume put_count (put + 1)) Are u v → IsReady b t → Did b 2 (item ∷ []) [] (held t.log) t v
puts_item b taken put item Is Are t u v seen free written =
    let n = slot put in
    let one = wrote_one n item Is t u written in
    let e = one.heard.entry in λ counted r.
    let tells : Tells (Some item) None None None e.object e.op e.reply =
    subst (λ o. Tells (Some item) None None None o e.op e.reply) (sym one.object)
    (subst (λ op. Tells (Some item) None None None (Volume n) op e.reply) (sym one.makes) (tells_put n item e.reply (omega arith))) in
    let first : Tally (Some item) None None None t.log u.log =
    subst (Tally (Some item) None None None t.log) (sym one.logged) (tally (Some item) None None None t.log e tells) in
    let a = first.longer_in in
    let d = first.longer_out in
    let f = first.put_counts in
    let g = first.take_counts in
    let even_in = r.even.0 in
    let even_out = r.even.1 in
    counts_item b put_count put (item ∷ []) [] Are t u v (omega arith) (record {
      config = r.config;
      careful = careful_event IsAllowed b (write_volume n item) Is e t u written (always_write (λ o op. IsPlain op) n item (kept_of t.number t.log) tt)
          one.logged (subst (λ o. IsAllowed t.number t.log o e.op) (sym one.object)
          (subst (λ op. IsAllowed t.number t.log (Volume n) op) (sym one.makes)
          (inl (record { taken_is = taken; put_is = put; seen = seen; even = r.even; free = free; here = refl })))) r.careful;
      number = written.same.number;
      left = served_left 1 (write_volume n item) Is t u written;
      put_in = first.into;
      taken_out = first.out;
      latches = write_held n item Is t u written;
      holds = write_inside 0 n item Exclusive Is t u seen.holds written;
      read = read_past_write 0 put_count put n item Is t u (λ is. absurd (omega arith)) seen.read_put written;
      owes = inl (refl, (omega arith, omega arith));
    }) counted

pub returns : goal.returns
returns g c =
    puts_item c.args.station.now c.args.taken c.args.put c.args.item _ _ c.args.task.now c.write_volume.new.task c.write_volume-2.new.task
    c.requires.seen c.requires.free c.write_volume.ensures.served c.write_volume-2.ensures.served c.requires.ready
