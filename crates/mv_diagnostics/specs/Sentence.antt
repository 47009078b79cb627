-- Which sentence each kind of fault has, by its number, and which name a byte. The sentences stand in src/sentences.rt.
use Rattle.std.specs.Prelude.{ℕ, ◌==◌, List, if◌then◌else◌}
use Rattle.mv_diagnostics.specs.declared.sentences.TheConstants.{FOREIGN_BYTE, TOO_LONG, NO_STATEMENT, BAD_NAME}
use Rattle.mv_diagnostics.specs.declared.sentences.TheConstants.{REPEATED_NAME, UNKNOWN_AFTER, CROWDED_AFTER, BAD_OPERAND}
use Rattle.mv_diagnostics.specs.declared.sentences.TheConstants.{LATCH_ORDER, LATCH_NOT_HELD, MISPLACED, NO_NULL}
use Rattle.mv_diagnostics.specs.declared.sentences.TheConstants.{AFTER_END, TOO_HEAVY, LATE_DECK, NO_LINE}
use Rattle.mv_diagnostics.specs.declared.sentences.TheConstants.{BAD_NUMBER, OUT_OF_ORDER, MISCOUNTED, LEADS_DOWN}
use Rattle.mv_diagnostics.specs.declared.sentences.TheConstants.{NO_OBTAIN, NO_END, TOO_COSTLY, USES_TABLE}
use Rattle.mv_diagnostics.specs.declared.sentences.TheConstants.{BAD_TABLE, NO_ENTRY, BAD_DIGITS, BAD_CONFIG}
use Rattle.mv_diagnostics.specs.declared.sentences.TheConstants.{WRONG_COUNT, CUT_OFF, TAB, CARRIAGE_RETURN}
use Rattle.mv_diagnostics.specs.declared.sentences.TheConstants.{BYTE_ORDER_MARK, UNNAMED}

-- of decks
abbrev pub deck_sentence : ℕ → List ℕ
deck_sentence kind =
    if kind == 1 then FOREIGN_BYTE.now
    else if kind == 2 then TOO_LONG.now
    else if kind == 3 then NO_STATEMENT.now
    else if kind == 4 then BAD_NAME.now
    else if kind == 5 then REPEATED_NAME.now
    else if kind == 6 then UNKNOWN_AFTER.now
    else if kind == 7 then CROWDED_AFTER.now
    else if kind == 8 then BAD_OPERAND.now
    else if kind == 9 then LATCH_ORDER.now
    else if kind == 10 then LATCH_NOT_HELD.now
    else if kind == 11 then MISPLACED.now
    else if kind == 12 then NO_NULL.now
    else if kind == 13 then AFTER_END.now
    else if kind == 14 then TOO_HEAVY.now
    else LATE_DECK.now

-- of scripts
abbrev pub script_sentence : ℕ → List ℕ
script_sentence kind =
    if kind == 1 then FOREIGN_BYTE.now
    else if kind == 2 then TOO_LONG.now
    else if kind == 3 then NO_LINE.now
    else if kind == 4 then BAD_NUMBER.now
    else if kind == 5 then OUT_OF_ORDER.now
    else if kind == 6 then MISCOUNTED.now
    else if kind == 7 then LEADS_DOWN.now
    else if kind == 8 then NO_OBTAIN.now
    else if kind == 9 then NO_END.now
    else if kind == 10 then TOO_COSTLY.now
    else if kind == 11 then USES_TABLE.now
    else BAD_TABLE.now

-- of journals
abbrev pub journal_sentence : ℕ → List ℕ
journal_sentence kind =
    if kind == 1 then NO_ENTRY.now
    else if kind == 2 then BAD_DIGITS.now
    else if kind == 3 then BAD_CONFIG.now
    else if kind == 4 then WRONG_COUNT.now
    else CUT_OFF.now

-- what a byte is that is not printable
abbrev pub byte_name : ℕ → List ℕ
byte_name byte =
    if byte == 9 then TAB.now
    else if byte == 13 then CARRIAGE_RETURN.now
    else if byte == 239 then BYTE_ORDER_MARK.now
    else UNNAMED.now
