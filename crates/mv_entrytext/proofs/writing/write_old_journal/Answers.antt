-- Each entry's line stands behind the others.
use Rattle.std.proofs.Common.{◌≡◌, ◌+◌, ◌<◌, ◌++◌, ◌∷◌, [], List, length, take, subst, sym, ap, ◌∙◌, arith}
use Rattle.std.proofs.lemmas.List.{get_or_read, take_all}
use Rattle.std.proofs.lemmas.List.Elements.{All-push}
use Rattle.std.specs.Prelude.{All}
use Rattle.std.specs.List.{flat_map}
use Rattle.mv_machine.specs.declared.entry.Entry.{Entry}
use Rattle.mv_calls.proofs.call_numbers.Prefixes.{one_more}
use Rattle.mv_operationtext.specs.declared.version.Version.TheVariants.{One}
use Rattle.mv_operationtext.specs.EntryText.{IsTyped}
use Rattle.mv_entrytext.specs.Journal.{Line, End, entry_lines, head_text, line}
use Rattle.mv_entrytext.specs.Writer.{IsWrittenTo}
use Rattle.mv_entrytext.proofs.CallNumbers.{plain_more}
use Rattle.mv_entrytext.proofs.OnePass.{plain_over}
use Rattle.mv_entrytext.proofs.writing.write_old_journal.Goals as goal

pub loop-entry-preserved : goal.loop-entry-preserved
loop-entry-preserved c =
    let config = c.args.config.now in
    let es = c.args.entries.now in
    let i = c.loop-entry.entry-index in
    let e = c.entry-item.result in
    let known = c.loop-entry.invariant in
    let lt : i < length es = omega arith in
    let there : take (i + 1) es ≡ take i es ++ e ∷ [] = one_more es i e lt (get_or_read es i e lt c.entry-item.is e) in
    let written = c.in_ok-push.ensures.text One config (entry_lines (take i es) []) known.text in
    let lines : IsWrittenTo One config (entry_lines (take i es ++ e ∷ []) []) c.push.new.self =
    subst (λ (ls : List Line). IsWrittenTo One config ls c.push.new.self) (sym (plain_more (take i es) e)) written in
    record {
      text = subst (λ (xs : List Entry). IsWrittenTo One config (entry_lines xs []) c.push.new.self) (sym there) lines;
      typed = subst (λ (xs : List Entry). All IsTyped xs) (sym there)
          (All-push IsTyped (take i es) e known.typed c.in_ok-push.ensures.typed);
    }

pub returns-clause-text : goal.returns-clause-text
returns-clause-text c =
    let config = c.args.config.now in
    let es = c.args.entries.now in
    let i = c.loop-entry.entry-index in
    let whole : take i es ≡ es = take_all i es (omega arith) in
    c.in_ok-text.ensures One config (entry_lines (take i es) []) c.loop-entry.invariant.text
    ∙ ap (λ (xs : List Entry). head_text One config ++ flat_map line (entry_lines xs []) ++ line (End (length es))) whole
    ∙ plain_over config es
