use Rattle.std.proofs.Common.{◌≡◌, ◌+◌, ◌<◌, ◌≤◌, length, reverse, vec_capacity, ◌++◌, ◌∷◌, [], sym, ap, ◌∙◌}
use Rattle.std.proofs.Common.{subst, arith}
use Rattle.std.specs.List.{AllByRecursion}
use Rattle.std.proofs.lemmas.List.{length-reverse}
use Rattle.mv_config.specs.Check.{IsValid}
use Rattle.mv_config.specs.Reach.{reach, total}
use Rattle.mv_config.specs.Setup.{Setup, targets_of}
use Rattle.mv_ecb.specs.declared.operation.EcbOp.TheVariants.{Post}
use Rattle.mv_machine.specs.declared.entry.Object.TheVariants.{Ecb}
use Rattle.mv_machine.specs.declared.entry.Op.TheVariants as op_on
use Rattle.mv_machine.specs.declared.entry.Reply.{Reply}
use Rattle.mv_machine.specs.declared.entry.Reply.TheVariants as reply_of
use Rattle.mv_board.specs.Faces.{BoardFace, Happened}
use Rattle.mv_calls.specs.Posts.{posted_next}
use Rattle.mv_wait.specs.Posted.{PostedOne, answer_in, exit_in}
use Rattle.mv_wait.proofs.Admits.{may_post}
use Rattle.mv_wait.proofs.Answering.{says_posted}
use Rattle.mv_wait.proofs.Low.{fits_of}
use Rattle.mv_wait.proofs.Recording.{reply_kind, recorded_on}
use Rattle.mv_wait.proofs.Exits.{posted_reply, came_leads, next_is, reach_some, room_for}
use Rattle.mv_wait.proofs.station.Station.post_one.Goals as goal

pub event-reply-requires-clause-left : goal.event-reply-requires-clause-left
event-reply-requires-clause-left g c =
    let left = c.requires.left in
    let one = reach_some c.args.self.now.config c.args.ecb c.requires.block in omega arith

pub event-reply-requires-clause-admitted : goal.event-reply-requires-clause-admitted
event-reply-requires-clause-admitted g c =
    let fits = fits_of c.args.self.now.config c.args.caller.now c.args.keep.now c.requires.task.1 c.requires.recorded in
    may_post c.self.inside.board.config c.args.caller.now.number c.args.ecb c.args.code c.args.caller.now.log
    (subst (λ (b : BoardFace). c.args.caller.now.number < b.config.callers) (sym c.self.view_is) fits.caller)
    (subst (λ (b : BoardFace). c.args.ecb < length b.config.owners) (sym c.self.view_is) c.requires.block) c.requires.code

pub follow-requires-clause-kinds : goal.follow-requires-clause-kinds
follow-requires-clause-kinds g c =
    reply_kind c.self.inside.board.config c.args.caller.now c.event-reply.new.caller (Ecb c.args.ecb) (op_on.Ecb (Post c.args.code))
    c.event-reply.result c.event-reply.ensures.event c.event-reply.ensures.possible

pub posted-answer-requires : goal.posted-answer-requires
posted-answer-requires g c = says_posted c.self.inside.board.config c.args.caller.now c.event-reply.new.caller c.args.ecb c.args.code
    c.event-reply.result c.event-reply.ensures.event c.event-reply.ensures.possible

pub note-requires : goal.note-requires
note-requires g c =
    let d = c.self.inside.board.config in
    let same : d ≡ c.args.self.now.config = ap (λ (b : BoardFace). b.config) c.self.view_is in
    let t = c.args.caller.now in
    let valid : IsValid d = subst IsValid (sym same)
    (fits_of c.args.self.now.config t c.args.keep.now c.requires.task.1 c.requires.recorded).valid in
    let u = c.event-reply.new.caller in
    let p = posted_reply c.event-reply.result c.posted-answer.result.0 c.posted-answer.ensures.answer in
    let h : Happened t (Ecb c.args.ecb) (op_on.Ecb (Post c.args.code)) (reply_of.Ecb p.0) u =
    subst (λ (r : Reply). Happened t (Ecb c.args.ecb) (op_on.Ecb (Post c.args.code)) r u) p.1 c.event-reply.ensures.event in
    let there : c.args.ecb < length d.owners = subst (λ (s : Setup). c.args.ecb < length s.owners) (sym same) c.requires.block in
    let leads = came_leads d t u c.args.ecb c.args.code p.0 valid there h c.event-reply.ensures.possible in
    let blocks = subst (λ (s : Setup). AllByRecursion (λ e. e < length s.owners) (reverse c.args.pending.now.items))
    (sym same) c.requires.blocks in
    let cost = subst (λ (s : Setup). reach s c.args.ecb + total (reach s) (reverse c.args.pending.now.items) ≤ t.left)
    (sym same) c.requires.left in
    let room = room_for d c.args.ecb t.left (vec_capacity c.args.pending.now) (posted_next d p.0) (reverse c.args.pending.now.items) valid
    leads blocks cost (let kept = c.requires.recorded.few in omega arith) c.requires.room in
    let size = length-reverse c.args.pending.now.items in
    let exit : c.posted-answer.result.1 ≡ exit_in (reply_of.Ecb p.0) = sym c.posted-answer.ensures.exit ∙ ap exit_in p.1 in
    let targets : c.targets.result.now ≡ posted_next d p.0 =
    c.targets.ensures.targets ∙ ((λ i. targets_of (c.config-2.ensures i) (exit i)) ∙ sym (next_is d p.0)) in
    let count = ap length targets in omega arith

pub returns-clause-posted : goal.returns-clause-posted
returns-clause-posted g c =
    let d = c.self.inside.board.config in
    let same : d ≡ c.args.self.now.config = ap (λ (b : BoardFace). b.config) c.self.view_is in
    let t = c.args.caller.now in
    let valid : IsValid d = subst IsValid (sym same)
    (fits_of c.args.self.now.config t c.args.keep.now c.requires.task.1 c.requires.recorded).valid in
    let u = c.event-reply.new.caller in
    let p = posted_reply c.event-reply.result c.posted-answer.result.0 c.posted-answer.ensures.answer in
    let h : Happened t (Ecb c.args.ecb) (op_on.Ecb (Post c.args.code)) (reply_of.Ecb p.0) u =
    subst (λ (r : Reply). Happened t (Ecb c.args.ecb) (op_on.Ecb (Post c.args.code)) r u) p.1 c.event-reply.ensures.event in
    let there : c.args.ecb < length d.owners = subst (λ (s : Setup). c.args.ecb < length s.owners) (sym same) c.requires.block in
    let leads = came_leads d t u c.args.ecb c.args.code p.0 valid there h c.event-reply.ensures.possible in
    let exit : c.posted-answer.result.1 ≡ exit_in (reply_of.Ecb p.0) = sym c.posted-answer.ensures.exit ∙ ap exit_in p.1 in
    let targets : c.targets.result.now ≡ posted_next d p.0 =
    c.targets.ensures.targets ∙ ((λ i. targets_of (c.config-2.ensures i) (exit i)) ∙ sym (next_is d p.0)) in
    subst (λ (s : Setup). PostedOne s c.args.code c.args.ecb t c.args.pending.now.items c.posted-answer.result.0 u
    c.note.new.pending.items) same (record {
      reply = p.0;
      answer = sym (ap answer_in p.1) ∙ c.posted-answer.ensures.answer;
      event = h;
      leads = leads;
      few = (let kept = c.requires.recorded.few in omega arith);
      pending = c.note.ensures.noted ∙ ap (λ ts. c.args.pending.now.items ++ reverse ts) targets;
    })

pub returns-clause-recorded : goal.returns-clause-recorded
returns-clause-recorded g c =
    let f = c.follow.ensures in
    recorded_on c.self.inside.board.config c.args.caller.now c.event-reply.new.caller (Ecb c.args.ecb) (op_on.Ecb (Post c.args.code))
    c.event-reply.result c.args.keep.now c.follow.new.self c.event-reply.ensures.event c.event-reply.ensures.possible
    (c.requires.task.1 ∙ sym (ap (λ (b : BoardFace). b.config ∷ []) c.self.view_is)) f.kept f.same f.sizes f.room f.capacity
    c.requires.recorded
