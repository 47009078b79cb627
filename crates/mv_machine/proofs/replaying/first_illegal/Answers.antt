-- One entry after another.
use Rattle.std.proofs.Common.{◌≡◌, ◌≤◌, Some, get_or, arith, sym, ◌∙◌}
use Rattle.std.proofs.lemmas.Bool.{false≢true}
use Rattle.std.proofs.lemmas.List.{get_or_read}
use Rattle.std.proofs.lemmas.List.Elements.{All-get_or}
use Rattle.mv_config.specs.Limits.{highest_place}
use Rattle.mv_machine.specs.declared.entry.Entry.{Entry}
use Rattle.mv_machine.specs.State.{system_of, wakes_of}
use Rattle.mv_machine.proofs.Replays.{no_entry, pass_legal, pass_after, pass_wakes, pass_places, pass_illegal}
use Rattle.mv_machine.proofs.replaying.first_illegal.Goals as goal

pub loop-i-preserved : goal.loop-i-preserved
loop-i-preserved c =
    let config = c.args.config.now in
    let first = system_of c.args.state.now in
    let before = system_of c.loop-i.state in
    let entries = c.args.entries.now in
    let e = c.index-entries-i.result in
    let read : e ≡ get_or entries c.loop-i.i no_entry = get_or_read entries c.loop-i.i e (omega arith) c.index-entries-i.is no_entry in
    let m = c.advance-machine.result in
    let stepped = c.advance-machine.ensures in
    let known = c.loop-i.invariant in
    let same : m ≡ Some (e.place, e.reply) = c.is_answer.ensures.0 c.if-not-is_answer.false in
    let low : e.place ≤ highest_place = rw read (All-get_or (λ (x : Entry). x.place ≤ highest_place) entries c.loop-i.i no_entry
    (omega arith) c.requires.places) in
    record {
      legal = pass_legal config first before entries c.loop-i.i (omega arith) known.legal known.state m e read stepped.answered same;
      state = stepped.after ∙ pass_after config first before entries c.loop-i.i
          (omega arith) known.legal known.state m e read stepped.answered same;
      wakes = stepped.wakes ∙ pass_wakes config first before entries c.loop-i.i
          (omega arith) known.legal known.state m e read stepped.answered (wakes_of c.args.state.now)
          (wakes_of c.loop-i.state) known.wakes same;
      opened = stepped.opened;
      places = λ o. rw (stepped.after) (pass_places config first before entries c.loop-i.i
          (omega arith) known.legal known.state m e read stepped.answered low known.places same o);
    }

pub returns-then-not-is_answer-clause-legal : goal.returns-then-not-is_answer-clause-legal
returns-then-not-is_answer-clause-legal c =
    let entries = c.args.entries.now in
    let e = c.index-entries-i.result in
    let read : e ≡ get_or entries c.loop-i.i no_entry = get_or_read entries c.loop-i.i e (omega arith) c.index-entries-i.is no_entry in
    pass_illegal c.args.config.now (system_of c.args.state.now) (system_of c.loop-i.state) entries c.loop-i.i
    (omega arith) c.loop-i.invariant.legal c.loop-i.invariant.state c.advance-machine.result e read c.advance-machine.ensures.answered
    (λ same. false≢true (sym c.if-not-is_answer.true ∙ c.is_answer.ensures.1 same))
