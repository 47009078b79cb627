use Rattle.std.proofs.Common.{refl, arith}
use Rattle.mv_calls.specs.Keeping.{kept_of}
use Rattle.mv_scriptline.specs.declared.call.Call.TheVariants as call
use Rattle.mv_script.specs.Costs.{no_table, nothing_asked}
use Rattle.mv_script.proofs.Suffices.{suffices}
use Rattle.mv_runscript.proofs.Makes.{may_paid, plain_makes}
use Rattle.mv_runscript.proofs.Served.{served_with}
use Rattle.mv_runscript.proofs.serving.serve.Goals as goal

-- what each asks of the task
pub post-requires-clause-task : goal.post-requires-clause-task
post-requires-clause-task g c = let may = may_paid c.args.station.now c.in-Post.is c.requires.task in may

pub try_post-requires-clause-task : goal.try_post-requires-clause-task
try_post-requires-clause-task g c = let may = may_paid c.args.station.now c.in-TryPost.is c.requires.task in may

pub clear-requires-clause-task : goal.clear-requires-clause-task
clear-requires-clause-task g c = let may = may_paid c.args.station.now c.in-Clear.is c.requires.task in may

pub extend-requires-clause-task : goal.extend-requires-clause-task
extend-requires-clause-task g c = let may = may_paid c.args.station.now c.in-Extend.is c.requires.task in may

pub test_ecb-requires-clause-task : goal.test_ecb-requires-clause-task
test_ecb-requires-clause-task g c = let may = may_paid c.args.station.now c.in-Test.is c.requires.task in may

pub read_volume-requires-clause-task : goal.read_volume-requires-clause-task
read_volume-requires-clause-task g c = let may = may_paid c.args.station.now c.in-Read.is c.requires.task in may

pub write_volume-requires-clause-task : goal.write_volume-requires-clause-task
write_volume-requires-clause-task g c = let may = may_paid c.args.station.now c.in-Write.is c.requires.task in may

pub allocate-requires : goal.allocate-requires
allocate-requires g c = let may = may_paid c.args.station.now c.in-Alloc.is c.requires.task in record { task = may }

pub pause-requires-clause-task : goal.pause-requires-clause-task
pause-requires-clause-task g c = let may = may_paid c.args.station.now c.in-Pause.is c.requires.task in may

pub release-requires-clause-task : goal.release-requires-clause-task
release-requires-clause-task g c = let may = may_paid c.args.station.now c.in-Release.is c.requires.task in may

pub try_release_token-requires-clause-task : goal.try_release_token-requires-clause-task
try_release_token-requires-clause-task g c = let may = may_paid c.args.station.now c.in-TryRelease.is c.requires.task in may

pub transfer-requires-clause-task : goal.transfer-requires-clause-task
transfer-requires-clause-task g c = let may = may_paid c.args.station.now c.in-Transfer.is c.requires.task in may

pub deallocate-requires-clause-task : goal.deallocate-requires-clause-task
deallocate-requires-clause-task g c = let may = may_paid c.args.station.now c.in-Dealloc.is c.requires.task in may

pub test_element-requires-clause-task : goal.test_element-requires-clause-task
test_element-requires-clause-task g c = let may = may_paid c.args.station.now c.in-TestElement.is c.requires.task in may

pub check-requires-clause-task : goal.check-requires-clause-task
check-requires-clause-task g c = let may = may_paid c.args.station.now c.in-Check.is c.requires.task in may

pub free-requires-clause-task : goal.free-requires-clause-task
free-requires-clause-task g c = let may = may_paid c.args.station.now c.in-Free.is c.requires.task in may

pub purge-requires : goal.purge-requires
purge-requires g c = let may = may_paid c.args.station.now c.in-Purge.is c.requires.task in record { task = may }

pub event_posted-requires-clause-task : goal.event_posted-requires-clause-task
event_posted-requires-clause-task g c = let may = may_paid c.args.station.now c.in-PostEvent.is c.requires.task in may

pub event_taken-requires-clause-task : goal.event_taken-requires-clause-task
event_taken-requires-clause-task g c = let may = may_paid c.args.station.now c.in-NextEvent.is c.requires.task in may

pub end_of_task-requires-clause-task : goal.end_of_task-requires-clause-task
end_of_task-requires-clause-task g c =
    let e = c.in-EndTask in
    let few = suffices c.args.station.now.config (kept_of c.args.task.now.number c.args.task.now.log) no_table nothing_asked
    (call.EndTask e.requestor e.mother e.code) in
    let may = may_paid c.args.station.now e.is c.requires.task in
    let left = may.left in record {
      board = may.board;
      rest = may.rest;
      left = omega arith;
    }

-- what each did
pub returns-in-Post : goal.returns-in-Post
returns-in-Post g c =
    plain_makes (call.Post c.in-Post.ecb c.in-Post.code) c.in-Post.is refl refl
    (served_with c.posted.ensures c.post.ensures.served)

pub returns-in-Clear : goal.returns-in-Clear
returns-in-Clear g c =
    plain_makes (call.Clear c.in-Clear.ecb) c.in-Clear.is refl refl
    (served_with c.cleared.ensures c.clear.ensures.served)

pub returns-in-Extend : goal.returns-in-Extend
returns-in-Extend g c =
    plain_makes (call.Extend c.in-Extend.ecb c.in-Extend.exit) c.in-Extend.is refl refl
    (served_with c.extended.ensures c.extend.ensures.served)

pub returns-in-Test : goal.returns-in-Test
returns-in-Test g c = plain_makes (call.Test c.in-Test.ecb) c.in-Test.is refl refl (served_with refl c.test_ecb.ensures.served)

pub returns-in-Read : goal.returns-in-Read
returns-in-Read g c = plain_makes (call.Read c.in-Read.volume) c.in-Read.is refl refl (served_with refl c.read_volume.ensures.served)

pub returns-in-Write : goal.returns-in-Write
returns-in-Write g c =
    plain_makes (call.Write c.in-Write.volume c.in-Write.number) c.in-Write.is refl refl
    (served_with refl c.write_volume.ensures.served)

pub returns-in-Alloc : goal.returns-in-Alloc
returns-in-Alloc g c = plain_makes call.Alloc c.in-Alloc.is refl refl (served_with c.allocated.ensures c.allocate.ensures.served)

pub returns-in-Pause : goal.returns-in-Pause
returns-in-Pause g c =
    plain_makes (call.Pause c.in-Pause.token) c.in-Pause.is refl refl
    (served_with c.paused.ensures c.pause.ensures.served)

pub returns-in-Release : goal.returns-in-Release
returns-in-Release g c =
    plain_makes (call.Release c.in-Release.token c.in-Release.code) c.in-Release.is refl refl
    (served_with c.released.ensures c.release.ensures.served)

pub returns-in-Transfer : goal.returns-in-Transfer
returns-in-Transfer g c =
    plain_makes (call.Transfer c.in-Transfer.current c.in-Transfer.target c.in-Transfer.code) c.in-Transfer.is refl refl
    (served_with c.transferred.ensures c.transfer.ensures.served)

pub returns-in-Dealloc : goal.returns-in-Dealloc
returns-in-Dealloc g c =
    plain_makes (call.Dealloc c.in-Dealloc.token) c.in-Dealloc.is refl refl
    (served_with c.deallocated.ensures c.deallocate.ensures.served)

pub returns-in-TestElement : goal.returns-in-TestElement
returns-in-TestElement g c =
    plain_makes (call.TestElement c.in-TestElement.element) c.in-TestElement.is refl refl
    (served_with refl c.test_element.ensures.served)

pub returns-in-Purge : goal.returns-in-Purge
returns-in-Purge g c =
    plain_makes (call.Purge c.in-Purge.requestor) c.in-Purge.is refl refl
    (served_with c.purged.ensures c.purge.ensures.served)

pub returns-in-EndTask : goal.returns-in-EndTask
returns-in-EndTask g c =
    plain_makes (call.EndTask c.in-EndTask.requestor c.in-EndTask.mother c.in-EndTask.code) c.in-EndTask.is refl refl
    (served_with c.purged-in-EndTask.ensures c.end_of_task.ensures.served)

pub returns-in-PostEvent : goal.returns-in-PostEvent
returns-in-PostEvent g c =
    plain_makes (call.PostEvent c.in-PostEvent.index c.in-PostEvent.code) c.in-PostEvent.is refl refl c.event_posted.ensures

pub returns-in-NextEvent : goal.returns-in-NextEvent
returns-in-NextEvent g c = plain_makes (call.NextEvent c.in-NextEvent.position) c.in-NextEvent.is refl refl c.event_taken.ensures
