-- One entry further in the judgement of a text, and its end.
use Rattle.std.proofs.Common.{◌≡◌, ℕ, ◌+◌, Bool, true, false, List, [], ◌∷◌, ◌++◌, length, Option, Some, None}
use Rattle.std.proofs.Common.{Result, Ok, Err, subst, refl, sym, ap, ◌∙◌}
use Rattle.std.specs.Prelude.{OnOk, option_map}
use Rattle.std.specs.List.{flat_map}
use Rattle.std.proofs.lemmas.Option.{same_Some}
use Rattle.mv_machine.specs.declared.entry.Entry.{Entry}
use Rattle.mv_machine.specs.Legal.{Legal}
use Rattle.mv_config.specs.Setup.{Setup}
use Rattle.mv_calls.specs.declared.judge.Judge.{Judge}
use Rattle.mv_calls.specs.Judge.{IsJudgedNext}
use Rattle.mv_calls.specs.Numbers.{calls}
use Rattle.mv_operationtext.specs.declared.version.Version.{Version}
use Rattle.mv_operationtext.specs.declared.version.Version.TheVariants.{One, Two}
use Rattle.mv_entrytext.specs.declared.writing.JournalWriter.{JournalWriter}
use Rattle.mv_entrytext.specs.Fault.{AreCallsIn, HasJournal, IsTextIn}
use Rattle.mv_entrytext.specs.Journal.{Line, EntryOf, End, line, first_line, entry_lines, head_text, text_of}
use Rattle.mv_operationtext.specs.Version.{number_of}
use Rattle.mv_entrytext.specs.Lines.{with_call}
use Rattle.mv_entrytext.specs.Writer.{IsWrittenTo}
use Rattle.mv_entrytext.proofs.OnePass.{call_line_more}
use Rattle.mv_entrytext.proofs.Stated.{states}
use Rattle.mv_replay.specs.Course.{is_copied, IsCopied, IsRightTo, IsWrongAt, IsCourse, IsMade, IsJudged}
use Rattle.mv_replay.specs.declared.command.JournalCommand.{JournalCommand}
use Rattle.mv_replay.specs.declared.judging.Judged.{Judged}
use Rattle.mv_replay.specs.Judgement.{calls_in, IsFirstWrong, IsIllegalAt}
use Rattle.mv_replay.proofs.Converted.{right_calls}
use Rattle.mv_replay.proofs.Wrong.{still_wrong, wrong_now, right_now, not_right}

-- ---- what is copied

-- where it was written, it is copied
pub copied_now : {A B : Type 0} (copied : Bool) (c : Setup) (es : List Entry) (e : Entry) (n : ℕ) (old : Option JournalWriter)
    (w new : JournalWriter) (r : Result A B) → old ≡ Some w → IsCopied copied c es old → calls c (es ++ e ∷ []) ≡ calls c es ++ n ∷ []
    → ((lines : List Line) → IsWrittenTo Two c lines w → OnOk r (IsWrittenTo Two c (lines ++ EntryOf (Some n) e ∷ []) new))
    → OnOk r (IsCopied copied c (es ++ e ∷ []) (Some new))
copied_now true c es e n None w new r is h number push = absurd h
copied_now true c es e n (Some x) w new r is h number push =
    subst (λ (ls : List Line). OnOk r (IsWrittenTo Two c ls new)) (sym (call_line_more c es e n number))
    (push (entry_lines es (calls c es))
    (subst (λ (y : JournalWriter). IsWrittenTo Two c (entry_lines es (calls c es)) y) (same_Some x w is) h))
copied_now false c es e n (Some x) w new r is h number push = absurd h
copied_now false c es e n None w new r is h number push = absurd cc

-- the copy is whole with its last line
pub made_now : (copied : Bool) (c : Setup) (es : List Entry) (count : ℕ) (old : Option JournalWriter) (w : JournalWriter) (text : List ℕ)
    → old ≡ Some w → IsCopied copied c es old → count ≡ length es
    → ((lines : List Line) → IsWrittenTo Two c lines w → text ≡ head_text Two c ++ flat_map line lines ++ line (End count))
    → IsMade copied c es (Some text)
unfolding text_of
made_now true c es count None w text is h number end = absurd h
made_now true c es count (Some x) w text is h number end =
    end (entry_lines es (calls c es))
    (subst (λ (y : JournalWriter). IsWrittenTo Two c (entry_lines es (calls c es)) y) (same_Some x w is) h)
    ∙ ap (λ (n : ℕ). head_text Two c ++ flat_map line (entry_lines es (calls c es)) ++ line (End n)) number
made_now false c es count (Some x) w text is h number end = absurd h
made_now false c es count None w text is h number end = absurd cc

-- or there is none
pub none_made : (copied : Bool) (c : Setup) (es : List Entry) (old : Option JournalWriter) → old ≡ None → IsCopied copied c es old
    → IsMade copied c es None
none_made true c es None is h = absurd h
none_made true c es (Some x) is h = absurd cc
none_made false c es None is h = tt
none_made false c es (Some x) is h = absurd h

-- ---- by the line that is wrong, if there is one

-- there is none
pub right_so : (v : Version) (copied : Bool) (c : Setup) (es : List Entry) (ns : List ℕ) (wrong : Option ℕ) (j : Judge)
    (copy : Option JournalWriter) → wrong ≡ None → IsCourse v copied c es ns wrong j copy → IsRightTo v copied c es ns j copy
right_so v copied c es ns None j copy is h = h
right_so v copied c es ns (Some line) j copy is h = absurd cc

pub so_right : (v : Version) (copied : Bool) (c : Setup) (es : List Entry) (ns : List ℕ) (wrong : Option ℕ) (j : Judge)
    (copy : Option JournalWriter) → wrong ≡ None → IsRightTo v copied c es ns j copy → IsCourse v copied c es ns wrong j copy
so_right v copied c es ns None j copy is h = h
so_right v copied c es ns (Some line) j copy is h = absurd cc

-- there is one
pub wrong_so : (v : Version) (copied : Bool) (c : Setup) (es : List Entry) (ns : List ℕ) (wrong : Option ℕ) (line : ℕ) (j : Judge)
    (copy : Option JournalWriter) → wrong ≡ Some line → IsCourse v copied c es ns wrong j copy → IsWrongAt v c es ns line
wrong_so v copied c es ns wrong line j copy is h = subst (λ (o : Option ℕ). IsCourse v copied c es ns o j copy) is h

-- ---- an entry more

-- behind what is wrong
pub wrong_still : (v : Version) (c : Setup) (es : List Entry) (ns : List ℕ) (told : Option ℕ) (e : Entry) (line : ℕ) → AreCallsIn v es ns
    → AreCallsIn v (es ++ e ∷ []) (with_call told ns) → IsWrongAt v c es ns line → IsWrongAt v c (es ++ e ∷ []) (with_call told ns) line
wrong_still v c es ns told e line before now w = record {
  index = w.index;
  first = still_wrong v c es ns told e w.index before now w.first;
  place = w.place;
}

-- as the course has it
pub course_still : (v : Version) (copied : Bool) (c : Setup) (es : List Entry) (ns : List ℕ) (told : Option ℕ) (e : Entry)
    (wrong : Option ℕ) (line : ℕ) (j : Judge) (copy : Option JournalWriter) → wrong ≡ Some line
    → IsCourse v copied c es ns wrong j copy → AreCallsIn v es ns → AreCallsIn v (es ++ e ∷ []) (with_call told ns)
    → IsCourse v copied c (es ++ e ∷ []) (with_call told ns) wrong j copy
course_still v copied c es ns told e None line j copy is h before now = absurd cc
course_still v copied c es ns told e (Some l) line j copy is h before now = wrong_still v c es ns told e l before now h

-- with another number than its call's
pub wrong_by_number : (v : Version) (copied : Bool) (c : Setup) (es : List Entry) (ns : List ℕ) (told : Option ℕ) (e : Entry) (n line : ℕ)
    (old new : Judge) (copy : Option JournalWriter) → IsRightTo v copied c es ns old copy → AreCallsIn v es ns
    → AreCallsIn v (es ++ e ∷ []) (with_call told ns) → line ≡ first_line c + length es → IsJudgedNext c es e n new
    → (((k : ℕ) → told ≡ Some k → k ≡ n) → ⊥) → IsWrongAt v c (es ++ e ∷ []) (with_call told ns) line
wrong_by_number v copied c es ns told e n line old new copy h before now at next other = record {
  index = length es;
  first = wrong_now v c es ns told e before now h.right (not_right v c es ns told e n now before next.number other);
  place = at;
}

-- not the machine's
pub wrong_by_entry : (v : Version) (copied : Bool) (c : Setup) (es : List Entry) (ns : List ℕ) (told : Option ℕ) (e : Entry) (line : ℕ)
    (old : Judge) (copy : Option JournalWriter) → IsRightTo v copied c es ns old copy → AreCallsIn v es ns
    → AreCallsIn v (es ++ e ∷ []) (with_call told ns) → line ≡ first_line c + length es → (Legal c (es ++ e ∷ []) → ⊥)
    → IsWrongAt v c (es ++ e ∷ []) (with_call told ns) line
wrong_by_entry v copied c es ns told e line old copy h before now at other = record {
  index = length es;
  first = wrong_now v c es ns told e before now h.right (λ r. other r.legal);
  place = at;
}

-- or right
pub right_still : (v : Version) (copied : Bool) (c : Setup) (es : List Entry) (ns : List ℕ) (told : Option ℕ) (e : Entry) (n : ℕ)
    (old new : Judge) (before_copy copy : Option JournalWriter) → IsRightTo v copied c es ns old before_copy → AreCallsIn v es ns
    → AreCallsIn v (es ++ e ∷ []) (with_call told ns) → IsJudgedNext c es e n new → ((k : ℕ) → told ≡ Some k → k ≡ n)
    → IsCopied copied c (es ++ e ∷ []) copy → IsRightTo v copied c (es ++ e ∷ []) (with_call told ns) new copy
right_still v copied c es ns told e n old new before_copy copy h before now next same is = record {
  right = right_now v c es ns told e n now before h.right next.judged.legal next.number same;
  judged = next.judged;
  copy_is = is;
}

-- where its line was written
pub right_on : {A B : Type 0} (r : Result A B) (v : Version) (copied : Bool) (c : Setup) (es : List Entry) (ns : List ℕ)
    (told : Option ℕ) (e : Entry) (n : ℕ) (wrong : Option ℕ) (old new : Judge) (before_copy copy : Option JournalWriter) → wrong ≡ None
    → IsRightTo v copied c es ns old before_copy → AreCallsIn v es ns → AreCallsIn v (es ++ e ∷ []) (with_call told ns)
    → IsJudgedNext c es e n new → ((k : ℕ) → told ≡ Some k → k ≡ n) → OnOk r (IsCopied copied c (es ++ e ∷ []) copy)
    → OnOk r (IsCourse v copied c (es ++ e ∷ []) (with_call told ns) wrong new copy)
right_on (Ok x) v copied c es ns told e n wrong old new before_copy copy none h before now next same is =
    so_right v copied c (es ++ e ∷ []) (with_call told ns) wrong new copy none
    (right_still v copied c es ns told e n old new before_copy copy h before now next same is)
right_on (Err y) v copied c es ns told e n wrong old new before_copy copy none h before now next same is = tt

-- ---- the end

same_version : (v w : Version) → number_of v ≡ number_of w → v ≡ w
same_version One One e = refl
same_version One Two e = absurd cc
same_version Two One e = absurd cc
same_version Two Two e = refl

-- with a wrong entry
pub ends_wrong : (v : Version) (bytes : List ℕ) (c : Setup) (es : List Entry) (ns : List ℕ) (line : ℕ) → HasJournal c es
    → IsTextIn (number_of v) bytes c es ns → IsWrongAt v c es ns line → IsIllegalAt bytes line
ends_wrong v bytes c es ns line h t w =
    let same = same_version v t.version t.number in
    record {
      version = t.version;
      setup = c;
      entries = es;
      calls = ns;
      states = states bytes t.version c es ns h t.calls t.text;
      index = w.index;
      first = subst (λ (x : Version). IsFirstWrong x c es ns w.index) same w.first;
      place = w.place;
    }

-- without one
pub ends_right : (command : JournalCommand) (v : Version) (bytes : List ℕ) (c : Setup) (es : List Entry) (ns : List ℕ) (judged : Judged)
    (copy : Option JournalWriter) → IsRightTo v (is_copied command v) c es ns judged.judge copy → HasJournal c es
    → IsTextIn (number_of v) bytes c es ns → judged.count ≡ length es → judged.config ≡ c
    → IsMade (is_copied command v) c es (option_map (λ t. t.items) judged.second) → IsJudged command bytes judged
ends_right command v bytes c es ns judged copy h journal t number config is =
    let same = same_version v t.version t.number in
    record {
      legal = record {
        version = v;
        setup = c;
        entries = es;
        states = states bytes v c es (calls_in v c es) journal (right_calls v c es journal.count)
            (subst (λ (x : Version). bytes ≡ text_of x c es ns) (sym same) t.text
            ∙ ap (λ (ms : List ℕ). text_of v c es ms) h.right.numbers);
        legal = h.right.legal;
        number = number;
      };
      made = is;
      config = config;
      judged = h.judged;
    }
