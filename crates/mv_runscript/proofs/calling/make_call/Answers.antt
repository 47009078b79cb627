use Rattle.std.proofs.Common.{ℕ, ◌*◌, ◌<◌, ◌≤◌, List, ◌∷◌, [], length, refl, sym, ap, ◌∙◌, subst, arith, length-append}
use Rattle.std.specs.Prelude.{count_by}
use Rattle.std.specs.List.{AllByRecursion}
use Rattle.mv_calls.specs.Services as service
use Rattle.mv_machine.proofs.Lists.{all_front, all_back}
use Rattle.mv_calls.specs.declared.outcomes.WaitSlot.{WaitSlot}
use Rattle.mv_wait.specs.Run.{MayCall}
use Rattle.mv_scriptline.specs.declared.call.Call.{Call}
use Rattle.mv_scriptline.specs.declared.call.Call.TheVariants as call
use Rattle.mv_scriptline.specs.Limits.{most_waited}
use Rattle.mv_script.specs.Script.{is_obtain}
use Rattle.mv_runscript.specs.Making.{AreGoodIn, HaveSlots, MakesCall, is_wait}
use Rattle.mv_runscript.specs.Served.{MakesService}
use Rattle.mv_runscript.proofs.Makes.{may_paid, known_makes, plain_makes}
use Rattle.mv_runscript.proofs.Obtains.{latch_low, posts_there, requests_more, tokens_more}
use Rattle.mv_runscript.proofs.calling.make_call.Goals as goal

-- a WAIT
pub wait_in-requires-clause-blocks : goal.wait_in-requires-clause-blocks
wait_in-requires-clause-blocks g c =
    let config = c.args.station.now.config in
    let good = subst (AreGoodIn config c.args.table.now) c.in-Wait.is c.requires.numbers in
    subst (AllByRecursion (λ e. e < length config.owners)) (sym (c.deref.ensures.value ∙ c.ecbs.view_is)) good.1.1

pub wait_in-requires-clause-room : goal.wait_in-requires-clause-room
wait_in-requires-clause-room g c =
    let few = (subst (AreGoodIn c.args.station.now.config c.args.table.now) c.in-Wait.is c.requires.numbers).1.0 in
    let size = ap length (c.deref.ensures.value ∙ c.ecbs.view_is) in
    let room = (all_back (λ (slots : List WaitSlot). most_waited ≤ length slots) c.pop.new.self.items (c.in-Some.room ∷ [])
    (subst HaveSlots c.in-Some.ensures.items c.requires.slots)).0 in
    omega arith

pub wait_in-requires-clause-task : goal.wait_in-requires-clause-task
wait_in-requires-clause-task g c =
    let b = c.args.station.now in
    let t = c.args.task.now in
    let may = may_paid b c.in-Wait.is c.requires.task in
    subst (λ (es : List ℕ). MayCall b (2 * length es) t) (sym (c.deref.ensures.value ∙ c.ecbs.view_is)) may

pub returns-in-Some-clause-makes : goal.returns-in-Some-clause-makes
returns-in-Some-clause-makes g c =
    let count = c.in-Wait.count in
    plain_makes (call.Wait count c.in-Wait.ecbs) c.in-Wait.is refl refl
    (subst (λ (es : List ℕ). MakesService c.args.station.now.config (service.Wait count es) c.wait_in.result c.args.task.now c.wait_in.new.task)
    (c.deref.ensures.value ∙ c.ecbs.view_is) c.wait_in.ensures)

pub returns-in-Some-clause-count : goal.returns-in-Some-clause-count
returns-in-Some-clause-count g c =
    let none = ap (λ (d : Call). count_by is_obtain (d ∷ [])) c.in-Wait.is in omega arith

pub returns-in-Some-clause-slots : goal.returns-in-Some-clause-slots
returns-in-Some-clause-slots g c =
    all_front (λ (slots : List WaitSlot). most_waited ≤ length slots) c.pop.new.self.items (c.in-Some.room ∷ [])
    (subst HaveSlots c.in-Some.ensures.items c.requires.slots)

pub returns-in-Some-clause-rooms : goal.returns-in-Some-clause-rooms
returns-in-Some-clause-rooms g c =
    let one = ap (λ (d : Call). count_by is_wait (d ∷ [])) c.in-Wait.is in
    let more = ap length c.in-Some.ensures.items ∙ length-append c.pop.new.self.items (c.in-Some.room ∷ []) in
    omega arith

-- an OBTAIN
pub obtain-outcome-requires-clause-block : goal.obtain-outcome-requires-clause-block
obtain-outcome-requires-clause-block g c =
    let config = c.args.station.now.config in
    posts_there config c.args.table.now c.in-Obtain.form
    (subst (AreGoodIn config c.args.table.now) c.in-Obtain.is c.requires.numbers).1

pub obtain-outcome-requires-clause-task : goal.obtain-outcome-requires-clause-task
obtain-outcome-requires-clause-task g c = let may = may_paid c.args.station.now c.in-Obtain.is c.requires.task in may

pub push_reserved-requires : goal.push_reserved-requires
push_reserved-requires g c =
    let room = c.requires.room (ap is_obtain c.in-Obtain.is) in omega arith

pub returns-in-Obtain-clause-makes : goal.returns-in-Obtain-clause-makes
returns-in-Obtain-clause-makes g c =
    subst (λ (d : Call). MakesCall c.args.station.now.config c.args.table.now d c.obtained.result c.args.requests.now.items
    c.push_reserved.new.self.items c.args.task.now c.obtain-outcome.new.task) (sym c.in-Obtain.is)
    (known_makes refl c.obtained.ensures c.obtain-outcome.ensures.served
    (requests_more c.in-Obtain.latch c.obtain-outcome.result c.request_in.result c.args.requests.now.items c.push_reserved.new.self.items
    c.obtain-outcome.ensures.latch c.request_in.ensures c.push_reserved.ensures.items))

pub returns-in-Obtain-clause-requests : goal.returns-in-Obtain-clause-requests
returns-in-Obtain-clause-requests g c =
    let asked = c.in-Obtain in
    tokens_more asked.latch c.obtain-outcome.result c.request_in.result c.args.requests.now.items c.push_reserved.new.self.items
    c.obtain-outcome.ensures.latch c.request_in.ensures c.push_reserved.ensures.items
    (latch_low c.args.station.now.config asked.latch asked.requestor asked.mode asked.form c.args.task.now c.obtain-outcome.new.task
    c.obtain-outcome.result c.requires.config c.obtain-outcome.ensures.causes)
    c.requires.requests

pub returns-in-Obtain-clause-count : goal.returns-in-Obtain-clause-count
returns-in-Obtain-clause-count g c =
    let one = ap (λ (d : Call). count_by is_obtain (d ∷ [])) c.in-Obtain.is in
    let put = ap length c.push_reserved.ensures.items in
    let more = length-append c.args.requests.now.items (c.request_in.result ∷ []) in
    omega arith
