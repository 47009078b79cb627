-- An entry at the front of a text, with LF behind it, is the one on the text's first line.
use Rattle.std.proofs.Common.{◌≡◌, ℕ, ◌-◌, ◌<◌, true, List, ◌∷◌, ◌++◌, length, take, drop, Option, Some, refl, ap, ◌∙◌, arith}
use Rattle.std.proofs.lemmas.Grind.{common_steps}
use Rattle.std.proofs.lemmas.List.{length-append}
use Rattle.mv_machine.specs.declared.entry.Entry.{Entry}
use Rattle.mv_line.specs.Line.{lines_of}
use Rattle.mv_line.proofs.Ended.{line_first}
use Rattle.mv_operationtext.specs.declared.version.Version.{Version}
use Rattle.mv_operationtext.specs.EntryText.{entry_text, entry_read}
use Rattle.mv_entrytext.specs.Journal.{EntryOf}
use Rattle.mv_entrytext.specs.Lines.{AtEntries, line_read}
use Rattle.mv_entrytext.proofs.OneLine.{is_one_line}
use Rattle.mv_entrytext.proofs.LinesAgain.{entry_line_read}
use Rattle.mv_operationtext.proofs.KindsTaken.{takes_entry}
use Rattle.mv_entrytext.proofs.reader.entry_in_front.Goals.{In-10}
use Rattle.mv_entrytext.proofs.reader.entry_in_front.Goals as goal

module _ (v : Version) (text behind : List ℕ) (x : Option ℕ × Entry) (read : entry_read true v text ≡ Some (x, 10 ∷ behind)) where
  spelled : text ≡ entry_text x.0 x.1 ++ 10 ∷ behind
  spelled = (takes_entry v text (10 ∷ behind) x read).0

  first_here : lines_of text ≡ entry_text x.0 x.1 ∷ lines_of behind
  first_here = ap lines_of spelled ∙ line_first (entry_text x.0 x.1) behind (is_one_line (EntryOf x.0 x.1))

  shorter_behind : length behind < length text
  shorter_behind =
      let long : length text ≡ length (entry_text x.0 x.1 ++ 10 ∷ behind) = ap (λ (y : List ℕ). length y) spelled in
      omega (arith, long, length-append (entry_text x.0 x.1) (10 ∷ behind))

  -- the line says this entry
  says : line_read true (AtEntries v) (entry_text x.0 x.1) ≡ Some (EntryOf x.0 x.1)
  says = let t = takes_entry v text (10 ∷ behind) x read in entry_line_read v x.0 x.1 t.1.0 t.1.1

-- here an entry is in front, and LF behind it
in_front : (c : In-10) → entry_read true c.args.version c.args.lines.now.left.now
    ≡ Some (c.in_ok-found.found, 10 ∷ take (length c.in_ok-found.rest.now - 1) (drop 1 c.in_ok-found.rest.now))
in_front c = grind (arith, common_steps)

pub pass-requires : goal.pass-requires
pass-requires c = shorter_behind _ _ _ _ (in_front (goal.at.pass-requires c).In-10)

pub returns : goal.returns
returns c =
    let read = in_front (goal.at.returns c).In-10 in (
      record {
        here = refl;
        first = rw c.pass.ensures.0 (first_here _ _ _ _ read);
        next = c.pass.ensures.1;
        shorter = rw c.pass.ensures.0 (shorter_behind _ _ _ _ read);
      },
      says _ _ _ _ read,
    )
