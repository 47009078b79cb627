use Rattle.std.proofs.Common.{append-nil}
use Rattle.mv_work.proofs.Marks.{marked}
use Rattle.mv_work.proofs.records.InitiatorRecord.note.Goals as goal

pub returns : goal.returns
returns c = record {
  noted = rw (← c.self.view_is) (marked _ _ _ _ _ c.push_reserved.ensures.items c.push_reserved.ensures.capacity (append-nil _));
}
