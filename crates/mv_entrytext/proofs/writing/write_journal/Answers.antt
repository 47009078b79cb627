-- Entry after entry is judged, and each is legal; its line stands behind the others.
use Rattle.std.proofs.Common.{◌≡◌, ◌+◌, ◌<◌, ◌++◌, ◌∷◌, [], List, length, take, get_or, subst, refl, sym, ap, ◌∙◌, arith}
use Rattle.std.proofs.lemmas.List.{append-nil, get_or_read, take_all}
use Rattle.std.proofs.lemmas.List.Elements.{All-push}
use Rattle.std.specs.Prelude.{All}
use Rattle.std.specs.List.{flat_map}
use Rattle.mv_machine.specs.declared.entry.Entry.{Entry}
use Rattle.mv_calls.specs.Numbers.{calls}
use Rattle.mv_calls.proofs.call_numbers.Judged.{judged_there, legal_there}
use Rattle.mv_calls.proofs.call_numbers.Prefixes.{one_more}
use Rattle.mv_operationtext.specs.declared.version.Version.TheVariants.{Two}
use Rattle.mv_operationtext.specs.EntryText.{IsTyped}
use Rattle.mv_entrytext.specs.Journal.{Line, End, entry_lines, head_text, line}
use Rattle.mv_entrytext.specs.Writer.{IsWrittenTo}
use Rattle.mv_entrytext.proofs.OnePass.{call_line_more, text_over}
use Rattle.mv_entrytext.proofs.writing.write_journal.Goals as goal

pub unreachable-requires : goal.unreachable-requires
unreachable-requires c =
    let config = c.args.config.now in
    let es = c.args.entries.now in
    let i = c.loop-entry.entry-index in
    let e = c.entry-item.result in
    let lt : i < length es = omega arith in
    c.in_default.ensures (take i es) c.loop-entry.invariant.judged
    (legal_there config es i e lt (get_or_read es i e lt c.entry-item.is e) c.requires.legal)

pub loop-entry-preserved : goal.loop-entry-preserved
loop-entry-preserved c =
    let config = c.args.config.now in
    let es = c.args.entries.now in
    let i = c.loop-entry.entry-index in
    let e = c.entry-item.result in
    let known = c.loop-entry.invariant in
    let lt : i < length es = omega arith in
    let read : e ≡ get_or es i e = get_or_read es i e lt c.entry-item.is e in
    let there : take (i + 1) es ≡ take i es ++ e ∷ [] = one_more es i e lt read in
    let next = c.in-Some.ensures (take i es) known.judged in
    let written = c.in_ok-push.ensures.text Two config (entry_lines (take i es) (calls config (take i es))) known.text in
    let lines : IsWrittenTo Two config (entry_lines (take i es ++ e ∷ []) (calls config (take i es ++ e ∷ []))) c.push.new.self =
    subst (λ (ls : List Line). IsWrittenTo Two config ls c.push.new.self)
    (sym (call_line_more config (take i es) e c.in-Some.call next.number)) written in
    record {
      judged = judged_there config es i e c.next.new.self lt read next.judged;
      text = subst (λ (xs : List Entry). IsWrittenTo Two config (entry_lines xs (calls config xs)) c.push.new.self) (sym there) lines;
      typed = subst (λ (xs : List Entry). All IsTyped xs) (sym there)
          (All-push IsTyped (take i es) e known.typed c.in_ok-push.ensures.typed);
    }

pub returns-clause-text : goal.returns-clause-text
returns-clause-text c =
    let config = c.args.config.now in
    let es = c.args.entries.now in
    let i = c.loop-entry.entry-index in
    let whole : take i es ≡ es = take_all i es (omega arith) in
    c.in_ok-text.ensures Two config (entry_lines (take i es) (calls config (take i es))) c.loop-entry.invariant.text
    ∙ ap (λ (xs : List Entry). head_text Two config ++ flat_map line (entry_lines xs (calls config xs)) ++ line (End (length es))) whole
    ∙ text_over config es es [] (append-nil es) refl

pub returns-clause-typed : goal.returns-clause-typed
returns-clause-typed c =
    let es = c.args.entries.now in
    let whole = take_all c.loop-entry.entry-index es (omega arith) in
    subst (λ (xs : List Entry). All IsTyped xs) whole c.loop-entry.invariant.typed
