-- What a writer of a journal has written.
use Rattle.std.specs.Prelude.{◌≡◌, List, ◌++◌}
use Rattle.std.specs.List.{flat_map}
use Rattle.mv_config.specs.Setup.{Setup}
use Rattle.mv_operationtext.specs.declared.version.Version.{Version}
use Rattle.mv_entrytext.specs.declared.writing.JournalWriter.{JournalWriter}
use Rattle.mv_entrytext.specs.Journal.{Line, line, head_text}

-- the writer has written the head of a text, and then these lines
abbrev pub IsWrittenTo : Version → Setup → List Line → JournalWriter → Type 0
IsWrittenTo v c lines w = w.out.items ≡ head_text v c ++ flat_map line lines
