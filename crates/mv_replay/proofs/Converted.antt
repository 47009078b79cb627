-- What a legal text is in its version, and what it is converted to.
use Rattle.std.proofs.Common.{◌≡◌, ℕ, ◌≤◌, List, length, Option, Some, None, refl}
use Rattle.mv_machine.specs.declared.entry.Entry.{Entry}
use Rattle.mv_machine.specs.Legal.{Legal}
use Rattle.mv_config.specs.Setup.{Setup}
use Rattle.mv_calls.specs.Numbers.{calls}
use Rattle.mv_operationtext.specs.declared.version.Version.{Version}
use Rattle.mv_operationtext.specs.declared.version.Version.TheVariants.{One, Two}
use Rattle.mv_operationtext.specs.Ranges.{highest_u32}
use Rattle.mv_entrytext.specs.Fault.{HasJournal, AreCallsIn}
use Rattle.mv_entrytext.specs.Journal.{text_of, journal_text}
use Rattle.mv_entrytext.proofs.CallNumbers.{calls_are_numbers}
use Rattle.mv_entrytext.proofs.Stated.{states}
use Rattle.mv_replay.specs.declared.command.JournalCommand.TheVariants.{Convert}
use Rattle.mv_replay.specs.Course.{is_copied, made_of, IsMade}
use Rattle.mv_replay.specs.Judgement.{calls_in, IsLegalJournal}
use Rattle.mv_replay.specs.Outcome.{IsConversion}

-- the machine's numbers are such as a text may have
pub right_calls : (v : Version) (c : Setup) (es : List Entry) → length es ≤ highest_u32 → AreCallsIn v es (calls_in v c es)
right_calls One c es le = refl
right_calls Two c es le = calls_are_numbers c es le

-- a legal text in a version
pub text_is_legal : (v : Version) (c : Setup) (es : List Entry) → HasJournal c es → Legal c es
    → IsLegalJournal (text_of v c es (calls_in v c es)) (length es)
text_is_legal v c es h l =
    record {
      version = v;
      setup = c;
      entries = es;
      states = states (text_of v c es (calls_in v c es)) v c es (calls_in v c es) h (right_calls v c es h.count) refl;
      legal = l;
      number = refl;
    }

-- so it is converted to the text of its configuration and entries in version 2
pub is_converted : (v : Version) (c : Setup) (es : List Entry) → HasJournal c es → Legal c es
    → IsConversion (text_of v c es (calls_in v c es)) (journal_text c es)
unfolding text_is_legal
is_converted v c es h l = record {
  count = length es;
  legal = text_is_legal v c es h l;
  reported = states (journal_text c es) Two c es (calls c es) h (calls_are_numbers c es h.count) refl;
}

-- and what was made of it for a conversion is that text
pub made_so : (v : Version) (bytes : List ℕ) (c : Setup) (es : List Entry) (made : Option (List ℕ))
    → bytes ≡ text_of v c es (calls_in v c es) → IsMade (is_copied Convert v) c es made → made_of bytes made ≡ journal_text c es
made_so One bytes c es (Some text) is m = m
made_so One bytes c es None is m = absurd m
made_so Two bytes c es (Some text) is m = absurd m
made_so Two bytes c es None is m = is
