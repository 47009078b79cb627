-- The forms of a script's lines: their words, and what these state.
use Rattle.std.specs.Prelude.{ℕ, List, [], ◌∷◌, length, Option, Some, None, Ok, Err, codes, nat_lt, if◌then◌else◌}
use Rattle.std.specs.Str.{bytes_eq}
use Rattle.mv_latch.specs.declared.request.LatchForm.{LatchForm}
use Rattle.mv_latch.specs.declared.request.LatchForm.TheVariants.{Conditional, Waiting, Posted}
use Rattle.mv_latch.specs.declared.request.Mode.{Mode}
use Rattle.mv_calls.specs.declared.table.Table.{Table}
use Rattle.mv_line.specs.Byte.{is_within}
use Rattle.mv_line.specs.Field.{fields_of}
use Rattle.mv_line.specs.Line.{begins_with_space, shown, is_ignored}
use Rattle.mv_scriptline.specs.declared.call.Call.{Call}
use Rattle.mv_scriptline.specs.declared.call.Call.TheVariants as call
use Rattle.mv_scriptline.specs.declared.statement.Statement.{Statement}
use Rattle.mv_scriptline.specs.declared.statement.Statement.TheVariants as statement
use Rattle.mv_scriptline.specs.declared.words.Misread.TheVariants.{NoForm}
use Rattle.mv_scriptline.specs.Sizes.{SizesFace}
use Rattle.mv_scriptline.specs.Limits.{most_targets, most_waited}
use Rattle.mv_scriptline.specs.Operand.{number_of_tasks, task, ecb, volume, latch, count, ecb_code, release_code, place, any_number, requestor}
use Rattle.mv_scriptline.specs.Operand.{element, token, or_hyphen, mode, conditional, event, event_position, table_size, table_with}
use Rattle.mv_scriptline.specs.Words.{Read, making, both, each, none, one, two, three, led_by}

-- ---- the calls: the word of each, and what the words after it are read as

-- a WAIT, by the words after it: a count, and up to eight blocks
abbrev pub wait : SizesFace → List (List ℕ) → Read Call
wait z [] = Err NoForm
wait z (n ∷ ecbs) =
    if nat_lt most_waited (length ecbs) then Err NoForm
    else making (λ (p : ℕ × List ℕ). call.Wait p.0 p.1) (both (count n) (each (ecb z) ecbs))

-- the form of an OBTAIN, which says what happens if the latch is not granted at once: `COND`, `WAIT`, or `ECB` and a block
abbrev pub form : SizesFace → List (List ℕ) → Read LatchForm
form z [] = Err NoForm
form z (word ∷ []) =
    if bytes_eq word (codes "COND") then Ok Conditional
    else if bytes_eq word (codes "WAIT") then Ok Waiting
    else Err NoForm
form z (word ∷ block ∷ []) = if bytes_eq word (codes "ECB") then making (λ e. Posted e) (ecb z block) else Err NoForm
form z (word ∷ block ∷ other ∷ words) = Err NoForm

-- an OBTAIN, by the words after it: a latch, a requestor, a mode and a form
abbrev pub obtain : SizesFace → List (List ℕ) → Read Call
obtain z words =
    making (λ (p : ℕ × (ℕ × (Mode × LatchForm))). call.Obtain p.0 p.1.0 p.1.1.0 p.1.1.1)
    (led_by latch (led_by requestor (led_by mode (form z))) words)

-- a call on the table of events
abbrev pub table_call : SizesFace → List ℕ → List (List ℕ) → Read Call
table_call z word words =
    if bytes_eq word (codes "EVPOST") then making (λ p. call.PostEvent p.0 p.1) (two (event z) ecb_code words)
    else if bytes_eq word (codes "EVNEXT") then making (λ k. call.NextEvent k) (one (event_position z) words)
    else Err NoForm

-- a call on latches, the end of a task, or a call on the table
abbrev pub latch_call : SizesFace → List ℕ → List (List ℕ) → Read Call
latch_call z word words =
    if bytes_eq word (codes "OBTAIN") then obtain z words
    else if bytes_eq word (codes "CHECK") then making (λ k. call.Check k) (one any_number words)
    else if bytes_eq word (codes "FREE") then making (λ p. call.Free p.0 p.1) (two any_number conditional words)
    else if bytes_eq word (codes "PURGE") then making (λ r. call.Purge r) (one requestor words)
    else if bytes_eq word (codes "EOT") then
    making (λ p. call.EndTask p.0 p.1.0 p.1.1) (three requestor (or_hyphen (ecb z)) ecb_code words)
    else table_call z word words

-- a call on pause elements, or one of the calls above
abbrev pub element_call : SizesFace → List ℕ → List (List ℕ) → Read Call
element_call z word words =
    if bytes_eq word (codes "ALLOC") then none call.Alloc words
    else if bytes_eq word (codes "PAUSE") then making (λ t. call.Pause t) (one (token z) words)
    else if bytes_eq word (codes "RELEASE") then making (λ p. call.Release p.0 p.1) (two (token z) release_code words)
    else if bytes_eq word (codes "TRYRELEASE") then
    making (λ p. call.TryRelease p.0 p.1.0 p.1.1) (three (token z) place release_code words)
    else if bytes_eq word (codes "TRANSFER") then
    making (λ p. call.Transfer p.0 p.1.0 p.1.1) (three (or_hyphen (token z)) (token z) release_code words)
    else if bytes_eq word (codes "DEALLOC") then making (λ t. call.Dealloc t) (one (token z) words)
    else if bytes_eq word (codes "TESTP") then making (λ n. call.TestElement n) (one (element z) words)
    else latch_call z word words

-- a call on event control blocks and volumes, or one of the calls above
abbrev pub other_call : SizesFace → List ℕ → List (List ℕ) → Read Call
other_call z word words =
    if bytes_eq word (codes "POST") then making (λ p. call.Post p.0 p.1) (two (ecb z) ecb_code words)
    else if bytes_eq word (codes "TRYPOST") then making (λ p. call.TryPost p.0 p.1.0 p.1.1) (three (ecb z) place ecb_code words)
    else if bytes_eq word (codes "CLEAR") then making (λ e. call.Clear e) (one (ecb z) words)
    else if bytes_eq word (codes "EXTEND") then making (λ p. call.Extend p.0 p.1) (two (ecb z) any_number words)
    else if bytes_eq word (codes "TEST") then making (λ e. call.Test e) (one (ecb z) words)
    else if bytes_eq word (codes "READ") then making (λ v. call.Read v) (one volume words)
    else if bytes_eq word (codes "WRITE") then making (λ p. call.Write p.0 p.1) (two volume any_number words)
    else element_call z word words

-- a call: a WAIT, or another one
abbrev pub call_of : SizesFace → List ℕ → List (List ℕ) → Read Call
call_of z word words = if bytes_eq word (codes "WAIT") then wait z words else other_call z word words

-- ---- the lines

-- an EXIT, by the words after it: a source, and one to four targets
abbrev pub exit : SizesFace → List (List ℕ) → Read Statement
exit z [] = Err NoForm
exit z (source ∷ targets) =
    if is_within 1 most_targets (length targets) then
    making (λ (p : ℕ × List ℕ). statement.Exit p.0 p.1) (both (ecb z source) (each (ecb z) targets))
    else Err NoForm

-- a TABLE, by the words after it: its owner, latch and volume, its first event and its first slot, and how many of each it has
abbrev pub table : SizesFace → List (List ℕ) → Read Table
table z words =
    making (λ (p : ℕ × (ℕ × (ℕ × (ℕ × (ℕ × ℕ))))). table_with p.0 p.1.0 p.1.1.0 p.1.1.1.0 p.1.1.1.1.0 p.1.1.1.1.1)
    (led_by (task z) (led_by latch (led_by volume (three (ecb z) (ecb z) table_size))) words)

-- a line after the head, by its first word: a task, a call or the end
abbrev pub statement_behind_head : SizesFace → List ℕ → List (List ℕ) → Read Statement
statement_behind_head z word words =
    if bytes_eq word (codes "TASK") then none statement.Task words
    else if bytes_eq word (codes "END") then none statement.End words
    else making (λ c. statement.Call c) (call_of z word words)

-- a line, by its first word
abbrev pub stated : SizesFace → List ℕ → List (List ℕ) → Read Statement
stated z word words =
    if bytes_eq word (codes "SCRIPT") then making (λ t. statement.Script t) (one number_of_tasks words)
    else if bytes_eq word (codes "ECB") then making (λ k. statement.Ecb k) (one (task z) words)
    else if bytes_eq word (codes "EXIT") then exit z words
    else if bytes_eq word (codes "TABLE") then making (λ t. statement.Table t) (table z words)
    else statement_behind_head z word words

-- a line, by its words
abbrev pub words_state : SizesFace → List (List ℕ) → Read Statement
words_state z [] = Err NoForm
words_state z (word ∷ words) = stated z word words

-- the statement of a text, where z says what the script's lines may name so far
abbrev pub text_states : SizesFace → List ℕ → Read Statement
text_states z text = if begins_with_space text then Err NoForm else words_state z (fields_of text)

-- the statement of a line, unless the line is ignored
abbrev pub line_states : SizesFace → List ℕ → Option (Read Statement)
line_states z line = if is_ignored line then None else Some (text_states z (shown line))
