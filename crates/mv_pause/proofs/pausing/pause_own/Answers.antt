use Rattle.mv_pause.proofs.Served.{is_mine}
use Rattle.mv_pause.proofs.pausing.pause_own.Goals as goal

pub end_pause-requires-clause-pausing : goal.end_pause-requires-clause-pausing
end_pause-requires-clause-pausing g c =
    let t = c.args.task.now in (
      t,
      record {
        may = record { rest = c.requires.task.rest; element = c.requires.element; left = c.requires.task.left };
        own = is_mine c.args.station.now.config t.number t.log c.args.token c.requires.own;
        parked = c.begin_own.new.task;
        event = c.in_default.ensures;
        since = c.park_for.ensures.went;
      },
    )

pub returns : goal.returns
returns g c =
    let t = c.args.task.now in
    c.end_pause.ensures t
    (record {
      may = record { rest = c.requires.task.rest; element = c.requires.element; left = c.requires.task.left };
      own = is_mine c.args.station.now.config t.number t.log c.args.token c.requires.own;
      parked = c.begin_own.new.task;
      event = c.in_default.ensures;
      since = c.park_for.ensures.went;
    })
