-- Each entry that is given is numbered, and its line is put behind the others.
use Rattle.std.proofs.Common.{ℕ, List, [], ◌∷◌, ◌++◌, length, Some, subst, refl, sym, ap, ◌∙◌, arith}
use Rattle.std.proofs.lemmas.List.{length-append}
use Rattle.std.specs.Prelude.{OnOk, OnErr}
use Rattle.mv_io.specs.Sink.{Appends, AppendsFront}
use Rattle.mv_machine.specs.declared.entry.Entry.{Entry}
use Rattle.mv_machine.specs.History.{IsGiven}
use Rattle.mv_config.specs.Setup.{Setup}
use Rattle.mv_calls.specs.Counters.{HasCounted, IsCountable, IsCountedNext}
use Rattle.mv_entrytext.specs.HistoryText.{IsWrittenSoFar, text_up_to}
use Rattle.mv_entrytext.specs.Journal.{EntryOf, line}
use Rattle.mv_entrytext.proofs.OnePass.{given_countable, shorter_so_far, split_there}
use Rattle.mv_entrytext.proofs.WrittenSoFar.{all_there, cut_so_far, head_waits, if_refused, written_more, text_line_more}
use Rattle.mv_entrytext.proofs.history_text.HistoryText.write.Goals as goal

pub loop-entry-init : goal.loop-entry-init
loop-entry-init g c =
    let x = c.self.inside in
    let known = c.self.invariant in
    let old = g.K.Sink.taken c.args.journal.now in
    record {
      config = refl;
      whole = ap (λ (es : List Entry). es ++ x.history.coming) known.whole;
      counted = subst (λ (es : List Entry). HasCounted x.history.config es x.counters) (sym known.whole) known.counted;
      written = subst (λ (es : List Entry). IsWrittenSoFar old old x.piece.items (text_up_to x.history.config es)) (sym known.whole)
          (head_waits old x.history.config x.piece.items known.head);
      room = known.room;
      count = sym (ap (λ (es : List Entry). length es) known.whole);
      faults = omega arith;
    }

pub returns-in_err-make_room-clause-cut : goal.returns-in_err-make_room-clause-cut
returns-in_err-make_room-clause-cut g c =
    let x = c.self.inside in
    let h = c.loop-entry.history in
    let known = c.loop-entry.invariant in
    let old = g.K.Sink.taken c.args.journal.now in
    let now = g.K.Sink.taken c.make_room.new.journal in
    if_refused c.from_residual.result
    (subst (λ (text : List ℕ). AppendsFront old now text) c.self.view_is
    (cut_so_far old now x.history.config h.past h.coming x.history.coming known.whole
    (c.in_err-make_room.ensures.cut old (text_up_to x.history.config h.past) known.written)))

pub count-call-requires : goal.count-call-requires
count-call-requires g c =
    let start = c.self.inside.history.config in
    let all = c.self.inside.history.coming in
    let h = c.loop-entry.history in
    let e = c.in-Some.entry in
    let known = c.loop-entry.invariant in
    let given : IsGiven h e c.next.new.self = c.in-Some.ensures in
    let next = given_countable start c.config.result.now all h c.next.new.self e c.wakes.result.now c.loop-entry.counters c.config.ensures
    known.config known.whole given c.self.invariant.legal known.counted (c.wakes.ensures ∙ c.state.ensures.wakes) in
    record {
      countable = (
        h.past,
        subst (λ (z : Setup). IsCountable z h.past e c.wakes.result.now c.loop-entry.counters) (sym next.0) next.1,
        omega (
          arith,
          shorter_so_far all h.past h.coming c.next.new.self.coming e known.whole given.coming,
          c.self.invariant.few,
        ),
      );
    }

pub loop-entry-preserved : goal.loop-entry-preserved
loop-entry-preserved g c =
    let start = c.self.inside.history.config in
    let all = c.self.inside.history.coming in
    let h = c.loop-entry.history in
    let new = c.next.new.self in
    let e = c.in-Some.entry in
    let n = c.count-call.result in
    let known = c.loop-entry.invariant in
    let given : IsGiven h e new = c.in-Some.ensures in
    let next = given_countable start c.config.result.now all h new e c.wakes.result.now c.loop-entry.counters c.config.ensures
    known.config known.whole given c.self.invariant.legal known.counted (c.wakes.ensures ∙ c.state.ensures.wakes) in
    let counted : IsCountedNext start h.past e n c.count-call.new.self =
    subst (λ (z : Setup). IsCountedNext z h.past e n c.count-call.new.self) next.0 (c.count-call.ensures h.past
    (subst (λ (z : Setup). IsCountable z h.past e c.wakes.result.now c.loop-entry.counters) (sym next.0) next.1)) in
    let old = g.K.Sink.taken c.args.journal.now in
    let now = g.K.Sink.taken c.make_room.new.journal in
    let longer = c.put_entry_line.new.out.items in
    let written : IsWrittenSoFar old now longer (text_up_to start h.past ++ line (EntryOf (Some n) e)) =
    written_more old now c.make_room.new.piece.items longer (text_up_to start h.past) (line (EntryOf (Some n) e))
    c.put_entry_line.ensures.text
    (c.in_ok-make_room.ensures.written old (text_up_to start h.past) known.written) in
    record {
      config = given.config ∙ known.config;
      whole = ap (λ (es : List Entry). es ++ new.coming) given.past
          ∙ split_there all h.past h.coming new.coming e known.whole given.coming;
      counted = subst (λ (es : List Entry). HasCounted start es c.count-call.new.self) (sym given.past) counted.counted;
      written = subst (λ (text : List ℕ). IsWrittenSoFar old now longer text)
          (sym (ap (λ (es : List Entry). text_up_to start es) given.past ∙ text_line_more start h.past e n counted.number)) written;
      room = omega (arith, known.room, c.in_ok-make_room.ensures.capacity, c.put_entry_line.ensures.capacity);
      count = omega (arith, known.count, ap (λ (es : List Entry). length es) given.past, length-append h.past (e ∷ []));
      faults = omega (arith, known.faults, c.in_ok-make_room.ensures.count);
    }

-- the text is whole with the end's line
pub returns-clause-whole : goal.returns-clause-whole
returns-clause-whole g c =
    let x = c.self.inside in
    let h = c.loop-entry.history in
    let known = c.loop-entry.invariant in
    let old = g.K.Sink.taken c.args.journal.now in
    let now = g.K.Sink.taken c.write_end.new.journal in
    subst (λ (text : List ℕ). OnOk c.write_end.result (Appends old now text))
    (all_there x.history.config h.past h.coming x.history.coming c.loop-entry.count c.args.self known.whole c.in_default.ensures.0
    known.count c.self.view_is) (c.write_end.ensures.whole old (text_up_to x.history.config h.past) known.written)

pub returns-clause-cut : goal.returns-clause-cut
returns-clause-cut g c =
    let x = c.self.inside in
    let h = c.loop-entry.history in
    let known = c.loop-entry.invariant in
    let old = g.K.Sink.taken c.args.journal.now in
    let now = g.K.Sink.taken c.write_end.new.journal in
    subst (λ (text : List ℕ). OnErr c.write_end.result (AppendsFront old now text))
    (all_there x.history.config h.past h.coming x.history.coming c.loop-entry.count c.args.self known.whole c.in_default.ensures.0
    known.count c.self.view_is) (c.write_end.ensures.cut old (text_up_to x.history.config h.past) known.written)
