-- What a try answers in a run: it did what it asks for, or another word was met.
use Rattle.std.proofs.Common.{◌≡◌, ℕ, zero, suc, ◌+◌, ◌<◌, Bool, true, false, ◌&&◌, eqb, List, [], ◌∷◌, ◌++◌, length, map, Option}
use Rattle.std.proofs.Common.{Some, None, Result, Ok, refl, sym, ap, ◌∙◌, subst, arith, append_assoc, length-append}
use Rattle.std.specs.Prelude.{slice_get, unwrap_or, option_and_then, option_map, if◌then◌else◌}
use Rattle.std.specs.List.{AllByRecursion, range_with_len}
use Rattle.std.proofs.lemmas.Bool.{eq-eqb}
use Rattle.std.proofs.lemmas.List.{append-nil}
use Rattle.std.proofs.lemmas.List.FromFn.{length-map-range_with_len, get_or-map-range_with_len}
use Rattle.std.proofs.lemmas.Option.{slice_get-get_or}
use Rattle.mv_ecb.specs.Word.{Zero}
use Rattle.mv_ecb.specs.declared.operation.EcbOp.TheVariants as ecb_op
use Rattle.mv_ecb.specs.declared.operation.EcbReply.TheVariants as ecb_reply
use Rattle.mv_element.specs.Element.{generation_limit, reset}
use Rattle.mv_element.specs.declared.element.Token.{Token}
use Rattle.mv_element.specs.declared.operation.ElementOp.TheVariants as element_op
use Rattle.mv_element.specs.declared.operation.ElementReply.TheVariants as element_reply
use Rattle.mv_machine.specs.declared.entry.Entry.{Entry}
use Rattle.mv_machine.specs.declared.entry.Object.TheVariants.{Ecb, Element}
use Rattle.mv_machine.specs.declared.entry.Op.TheVariants as op_on
use Rattle.mv_machine.specs.declared.entry.Reply.{Reply}
use Rattle.mv_machine.specs.declared.entry.Reply.TheVariants as reply_of
use Rattle.mv_machine.specs.declared.packing.WordState.{WordState}
use Rattle.mv_machine.specs.declared.packing.WordState.TheVariants as state
use Rattle.mv_machine.specs.Packing.{reply_in}
use Rattle.mv_config.specs.Setup.{Setup}
use Rattle.mv_machine.proofs.Words.{packed_unpacks}
use Rattle.mv_calls.specs.declared.table.Table.{Table}
use Rattle.mv_calls.specs.Keeping.{Kept, kept_after, nothing_kept}
use Rattle.mv_calls.specs.declared.outcomes.ReleaseAnswer.{ReleaseAnswer}
use Rattle.mv_calls.specs.declared.outcomes.ReleaseAnswer.TheVariants as release_answer
use Rattle.mv_calls.specs.Pauses.{released, same_release_reply, try_release}
use Rattle.mv_calls.specs.declared.outcomes.PostAnswer.{PostAnswer}
use Rattle.mv_calls.specs.declared.outcomes.PostAnswer.TheVariants as post_answer
use Rattle.mv_calls.specs.Posts.{posting, expected_of, is_expected, same_post_reply, try_post}
use Rattle.mv_calls.specs.Program.{Program, Do, Done, Early, Wrong, Heard, left, going_on, followed, finished, on_ecb, on_element}
use Rattle.mv_calls.specs.Program as program
use Rattle.mv_calls.specs.Refusal.{Refusal}
use Rattle.mv_calls.specs.Runs.{heard_in, left_in}
use Rattle.mv_calls.specs.Services as service
use Rattle.mv_calls.specs.Services.{Service}
use Rattle.mv_script.specs.declared.answer.Answer.{Answer}
use Rattle.mv_script.specs.declared.answer.Answer.TheVariants as answer
use Rattle.mv_scriptline.specs.declared.call.Call.{Call}
use Rattle.mv_scriptline.specs.declared.call.Call.TheVariants as call
use Rattle.mv_scriptline.specs.Sizes.{SizesFace}
use Rattle.mv_script.specs.Answered.{answer_to}
use Rattle.mv_script.specs.Costs.{zero_at, reset_at, service_of}
use Rattle.mv_script.specs.Fault.{obtain_meant}
use Rattle.mv_script.specs.Run.{IsScriptRun, past_in, task_answers, script_answers, answer_at, unless_moved}
use Rattle.mv_script.specs.Script.{ScriptData}
use Rattle.mv_script.specs.Sound.{HasGoodNumbers, AreSoundCalls, IsSoundTask, IsSound, sizes_of}
use Rattle.mv_script.specs.Tasks.{Past, Moves, no_past, lacks_request, request_of, answered, served, made, made_all, calls_at, named_table}
use Rattle.mv_script.specs.Tasks.{task_program}

-- ---- programs that are done

early_stays : {A : Type 0} (hs : List Heard) → left {A = A} Early hs ≡ Early
early_stays [] = refl
early_stays (h ∷ hs) = early_stays hs

wrong_stays : {A : Type 0} (hs : List Heard) → left {A = A} Wrong hs ≡ Wrong
wrong_stays [] = refl
wrong_stays (h ∷ hs) = wrong_stays hs

never_done : {A : Type 0} (hs : List Heard) (a : A) → left Wrong hs ≡ Done a → ⊥
never_done hs a e = let w = sym (wrong_stays hs) ∙ e in cc w

-- a program that has answered hears no more
done_is : {A : Type 0} (a b : A) (hs : List Heard) → left (Done a) hs ≡ Done b → a ≡ b
done_is a b [] e = cc
done_is a b (h ∷ hs) e = absurd (never_done hs b e)

-- two calls in order are done: the first is on some events, and the second on others
record Parts {A B : Type 0} (p : Program A) (f : A → program.Call B) (b : B) : Type 0 where
  events : List Heard
  later : List Heard
  answer : A
  kept : Kept
  done : left p events ≡ Done answer
  more : left (f answer kept) later ≡ Done b

parts : {A B : Type 0} (kept : Kept) (p : Program A) (f : A → program.Call B) (hs : List Heard) (b : B)
    → left (going_on kept p f) hs ≡ Done b → Parts p f b
parts kept (Do o op next) f [] b e = absurd (cc e)
parts kept (Do o op next) f (h ∷ hs) b e =
    let r = parts (kept_after kept o op h.entry.reply) (next h) f hs b e in record {
      events = h ∷ r.events;
      later = r.later;
      answer = r.answer;
      kept = r.kept;
      done = r.done;
      more = r.more;
    }
parts kept (Done a) f hs b e = record { events = []; later = hs; answer = a; kept = kept; done = refl; more = e }
parts kept Early f hs b e = let w = sym (early_stays hs) ∙ e in absurd (cc w)
parts kept Wrong f hs b e = absurd (never_done hs b e)

-- ---- a try by its one event

-- a post that was expected of a zero block is answered so
post_as_expected : (is : Bool) (reply : Reply) (hs : List Heard) (a : PostAnswer)
    → left (if is && same_post_reply (reply_of.Ecb ecb_reply.Posted) reply then on_ecb reply (posting (λ p. Done p)) else Wrong) hs ≡ Done a
    → a ≡ post_answer.Posted
post_as_expected false reply hs a e = absurd (never_done hs a e)
post_as_expected true (reply_of.Ecb ecb_reply.Posted) hs a e = sym (done_is post_answer.Posted a hs e)
post_as_expected true (reply_of.Ecb _) hs a e = absurd (never_done hs a e)
post_as_expected true _ hs a e = absurd (never_done hs a e)

zero_expected : (e place code : ℕ)
    → expected_of (Ecb e) (op_on.Ecb (ecb_op.Post code)) (zero_at place) ≡ Some (place, reply_of.Ecb ecb_reply.Posted)
zero_expected e place code =
    ap (option_and_then (λ (u : ℕ × WordState). option_map (λ (r : Reply). (u.0, r)) (reply_in (op_on.Ecb (ecb_op.Post code)) u.1)))
    (packed_unpacks (Ecb e) place (state.Ecb Zero) tt)

post_answers : (e place code : ℕ) (kept : Kept) (hs : List Heard) (a : PostAnswer)
    → left (try_post e (zero_at place) code kept) hs ≡ Done a → a ≡ post_answer.Posted
post_answers e place code kept [] a is = absurd (cc is)
post_answers e place code kept (h ∷ hs) a is =
    let r = h.entry.reply in
    post_as_expected (eqb place h.entry.place) r hs a
    (subst (λ x. left (if is_expected same_post_reply x h.entry.place r then on_ecb r (posting (λ p. Done p)) else Wrong) hs ≡ Done a)
    (zero_expected e place code) is)

-- and a release that was expected of an element that is neither paused nor released
release_as_expected : (is : Bool) (reply : Reply) (hs : List Heard) (a : Result ReleaseAnswer Refusal)
    → left (if is && same_release_reply (reply_of.Element element_reply.Early) reply then on_element reply released else Wrong) hs ≡ Done a
    → a ≡ Ok release_answer.Early
release_as_expected false reply hs a e = absurd (never_done hs a e)
release_as_expected true (reply_of.Element element_reply.Early) hs a e = sym (done_is (Ok release_answer.Early) a hs e)
release_as_expected true (reply_of.Element _) hs a e = absurd (never_done hs a e)
release_as_expected true _ hs a e = absurd (never_done hs a e)

reset_expected : (t : Token) (place code : ℕ) → t.generation < generation_limit
    → expected_of (Element t.element) (op_on.Element (element_op.Release t.generation code)) (reset_at t.generation place)
    ≡ Some (place, reply_of.Element element_reply.Early)
reset_expected t place code lt =
    ap (option_and_then (λ (u : ℕ × WordState). option_map (λ (r : Reply). (u.0, r))
    (reply_in (op_on.Element (element_op.Release t.generation code)) u.1)))
    (packed_unpacks (Element t.element) place (state.Element (reset t.generation)) (lt, omega arith))
    ∙ rw (eq-eqb t.generation t.generation refl) refl

release_answers : (t : Token) (place code : ℕ) (kept : Kept) (hs : List Heard) (a : Result ReleaseAnswer Refusal)
    → t.generation < generation_limit → left (try_release t (reset_at t.generation place) code kept) hs ≡ Done a
    → a ≡ Ok release_answer.Early
release_answers t place code kept [] a lt is = absurd (cc is)
release_answers t place code kept (h ∷ hs) a lt is =
    let r = h.entry.reply in
    release_as_expected (eqb place h.entry.place) r hs a
    (subst (λ x. left (if is_expected same_release_reply x h.entry.place r then on_element r released else Wrong) hs ≡ Done a)
    (reset_expected t place code lt) is)

-- ---- one call of a task

-- it answers one thing
one_answer : (c : Setup) (t : Table) (m : Option ℕ) (past : Past) (d : Call) (kept : Kept) (hs : List Heard) (next : Past)
    → left (made c t m past d kept) hs ≡ Done next → (a : Answer) × (next.answers ≡ past.answers ++ a ∷ [])
one_answer c t (Some w) past d kept hs next e =
    (answer.Moved w, ap (λ (p : Past). p.answers) (sym (done_is (answered past (answer.Moved w)) next hs e)))
one_answer c t None past d kept hs next e = go (lacks_request past.requests (obtain_meant d)) e where
  s : Service
  s = service_of t (request_of past.requests) d

  go : (b : Bool)
      → left ((if b then finished (answered past answer.NoToken)
      else followed (service.program c s) (λ a. finished (served past s a))) kept) hs ≡ Done next
      → (a : Answer) × (next.answers ≡ past.answers ++ a ∷ [])
  go true e = (answer.NoToken, ap (λ (p : Past). p.answers) (sym (done_is (answered past answer.NoToken) next hs e)))
  go false e =
      let r = parts kept (service.program c s kept) (λ a. finished (served past s a)) hs next e in
      (answer_to s r.answer, ap (λ (p : Past). p.answers) (sym (done_is (served past s r.answer) next r.later r.more)))

-- a TRYPOST
one_post : (c : Setup) (t : Table) (m : Option ℕ) (past : Past) (ecb place code : ℕ) (kept : Kept) (hs : List Heard) (next : Past)
    → left (made c t m past (call.TryPost ecb place code) kept) hs ≡ Done next
    → next.answers ≡ past.answers ++ unless_moved m answer.Posted ∷ []
one_post c t (Some w) past ecb place code kept hs next e =
    ap (λ (p : Past). p.answers) (sym (done_is (answered past (answer.Moved w)) next hs e))
one_post c t None past ecb place code kept hs next e =
    let s = service.TryPost ecb (zero_at place) code in
    let r = parts kept (service.program c s kept) (λ a. finished (served past s a)) hs next e in
    let is = post_answers ecb place code kept r.events r.answer r.done in
    ap (λ (p : Past). p.answers) (sym (done_is (served past s r.answer) next r.later r.more))
    ∙ ap (λ (a : PostAnswer). past.answers ++ answer_to s a ∷ []) is

-- a TRYRELEASE
one_release : (c : Setup) (table : Table) (m : Option ℕ) (past : Past) (t : Token) (place code : ℕ) (kept : Kept) (hs : List Heard)
    (next : Past)
    → t.generation < generation_limit → left (made c table m past (call.TryRelease t place code) kept) hs ≡ Done next
    → next.answers ≡ past.answers ++ unless_moved m answer.Early ∷ []
one_release c table (Some w) past t place code kept hs next lt e =
    ap (λ (p : Past). p.answers) (sym (done_is (answered past (answer.Moved w)) next hs e))
one_release c table None past t place code kept hs next lt e =
    let s = service.TryRelease t (reset_at t.generation place) code in
    let r = parts kept (service.program c s kept) (λ a. finished (served past s a)) hs next e in
    let is = release_answers t place code kept r.events r.answer lt r.done in
    ap (λ (p : Past). p.answers) (sym (done_is (served past s r.answer) next r.later r.more))
    ∙ ap (λ (a : Result ReleaseAnswer Refusal). past.answers ++ answer_to s a ∷ []) is

-- ---- a call among all of a task

-- more calls answer more
more_answers : (c : Setup) (t : Table) (moved : ℕ → Option ℕ) (past : Past) (calls : List Call) (kept : Kept) (hs : List Heard)
    (last : Past)
    → left (made_all c t moved past calls kept) hs ≡ Done last → (rest : List Answer) × (last.answers ≡ past.answers ++ rest)
more_answers c t moved past [] kept hs last e =
    ([], ap (λ (p : Past). p.answers) (sym (done_is past last hs e)) ∙ sym (append-nil past.answers))
more_answers c t moved past (d ∷ calls) kept hs last e =
    let r = parts kept (made c t (moved (length past.answers)) past d kept) (λ next. made_all c t moved next calls) hs last e in
    let one = one_answer c t (moved (length past.answers)) past d kept r.events r.answer r.done in
    let more = more_answers c t moved r.answer calls r.kept r.later last r.more in (
      one.0 ∷ more.0,
      more.1 ∙ ap (λ (xs : List Answer). xs ++ more.0) one.1 ∙ append_assoc past.answers (one.0 ∷ []) more.0,
    )

-- the call at this place was made, behind as many others, and others behind it
record IsMadeAt (c : Setup) (t : Table) (moved : ℕ → Option ℕ) (d : Call) (place : ℕ) (last : Past) : Type 0 where
  before : Past
  place_is : length before.answers ≡ place
  kept : Kept
  events : List Heard
  behind : Past
  done : left (made c t (moved place) before d kept) events ≡ Done behind
  rest : List Answer
  all : last.answers ≡ behind.answers ++ rest

made_at : (c : Setup) (t : Table) (moved : ℕ → Option ℕ) (past : Past) (calls : List Call) (kept : Kept) (hs : List Heard) (last : Past)
    (i n : ℕ) (d : Call)
    → left (made_all c t moved past calls kept) hs ≡ Done last → slice_get calls i ≡ Some d → length past.answers + i ≡ n
    → IsMadeAt c t moved d n last
made_at c t moved past [] kept hs last i n d e at place = absurd (cc at)
made_at c t moved past (x ∷ calls) kept hs last zero n d e at place =
    let r = parts kept (made c t (moved (length past.answers)) past x kept) (λ next. made_all c t moved next calls) hs last e in
    let more = more_answers c t moved r.answer calls r.kept r.later last r.more in
    let here : length past.answers ≡ n = omega arith in
    let same : x ≡ d = cc at in record {
      before = past;
      place_is = here;
      kept = kept;
      events = r.events;
      behind = r.answer;
      done = subst (λ (y : Call). left (made c t (moved n) past y kept) r.events ≡ Done r.answer) same
          (subst (λ (m : ℕ). left (made c t (moved m) past x kept) r.events ≡ Done r.answer) here r.done);
      rest = more.0;
      all = more.1;
    }
made_at c t moved past (x ∷ calls) kept hs last (suc i) n d e at place =
    let r = parts kept (made c t (moved (length past.answers)) past x kept) (λ next. made_all c t moved next calls) hs last e in
    let one = one_answer c t (moved (length past.answers)) past x kept r.events r.answer r.done in
    let longer : length r.answer.answers ≡ length past.answers + 1 =
    ap (λ (xs : List Answer). length xs) one.1 ∙ length-append past.answers (one.0 ∷ []) in
    made_at c t moved r.answer calls r.kept r.later last i n d r.more at (omega arith)

-- ---- in a run

behind_all : (xs : List Answer) (a : Answer) (rest : List Answer) (i : ℕ) → length xs ≡ i → slice_get ((xs ++ a ∷ []) ++ rest) i ≡ Some a
behind_all [] a rest i e = subst (λ (j : ℕ). slice_get (a ∷ rest) j ≡ Some a) e refl
behind_all (x ∷ xs) a rest i e =
    subst (λ (j : ℕ). slice_get (((x ∷ xs) ++ a ∷ []) ++ rest) j ≡ Some a) e (behind_all xs a rest (length xs) refl)

-- the numbers of a call of a sound script are good
call_good : (z : SizesFace) (before calls : List Call) (i : ℕ) (d : Call) → AreSoundCalls z before calls → slice_get calls i ≡ Some d
    → HasGoodNumbers z d
call_good z before [] i d sound at = absurd (cc at)
call_good z before (x ∷ calls) zero d sound at = let same : x ≡ d = cc at in subst (HasGoodNumbers z) same sound.0.numbers
call_good z before (x ∷ calls) (suc i) d sound at = call_good z (before ++ x ∷ []) calls i d sound.1 at

pub calls_good : (z : SizesFace) (tasks : List (List Call)) (k : ℕ) → AllByRecursion (IsSoundTask z) tasks
    → AreSoundCalls z [] (unwrap_or (slice_get tasks k) [])
calls_good z [] k sound = tt
calls_good z (task ∷ tasks) zero sound = sound.0.sound
calls_good z (task ∷ tasks) (suc k) sound = calls_good z tasks k sound.1

-- a task with a call is one
has_task : (tasks : List (List Call)) (k i : ℕ) (d : Call) → slice_get (unwrap_or (slice_get tasks k) []) i ≡ Some d → k < length tasks
has_task [] k i d at = absurd (cc at)
has_task (task ∷ tasks) zero i d at = omega arith
has_task (task ∷ tasks) (suc k) i d at = let lt = has_task tasks k i d at in omega arith

module _ (script : ScriptData) (moves : Moves) (es : List Entry) (k i : ℕ) (d : Call) (sound : IsSound script)
    (run : IsScriptRun script moves es) (at : slice_get (calls_at script k) i ≡ Some d) where
  within : k < length script.tasks
  within = has_task script.tasks k i d at

  done : (last : Past) × (left_in script.setup (task_program script moves) k es ≡ Done last)
  done = run.finish.done k (let n = ap (λ (s : Setup). s.callers) sound.setup in omega (arith, within, n))

  -- the call was made
  call_made : IsMadeAt script.setup (named_table script.table) (moves k) d i done.0
  call_made =
      made_at script.setup (named_table script.table) (moves k) no_past (calls_at script k) (nothing_kept k) (heard_in script.setup k es)
      done.0 i i d done.1 at
      (omega arith)

  answers_are : slice_get (script_answers script moves es) k ≡ Some done.0.answers
  answers_are =
      let f = task_answers script moves es in
      let n = length script.tasks in
      slice_get-get_or (map f (range_with_len 0 n)) k [] (let l = length-map-range_with_len f 0 n in omega (arith, within))
      ∙ ap (λ (xs : List Answer). Some xs) (get_or-map-range_with_len f 0 n k k [] within (omega arith))
      ∙ ap (λ (p : Program Past). Some (past_in p).answers) done.1

  -- so it answered what it has added
  answered_so : (a : Answer) → call_made.behind.answers ≡ call_made.before.answers ++ a ∷ []
      → answer_at (script_answers script moves es) k i ≡ Some a
  answered_so a adds =
      let m = call_made in
      ap (option_and_then (λ (task : List Answer). slice_get task i)) answers_are
      ∙ ap (λ (xs : List Answer). slice_get xs i) (m.all ∙ ap (λ (xs : List Answer). xs ++ m.rest) adds)
      ∙ behind_all m.before.answers a m.rest i m.place_is

pub post_tried : (script : ScriptData) (moves : Moves) (es : List Entry) (k i ecb place code : ℕ)
    → IsSound script → IsScriptRun script moves es → slice_get (calls_at script k) i ≡ Some (call.TryPost ecb place code)
    → answer_at (script_answers script moves es) k i ≡ Some (unless_moved (moves k i) answer.Posted)
post_tried script moves es k i ecb place code sound run at =
    let d = call.TryPost ecb place code in
    let m = call_made script moves es k i d sound run at in
    answered_so script moves es k i d sound run at (unless_moved (moves k i) answer.Posted)
    (one_post script.setup (named_table script.table) (moves k i) m.before ecb place code m.kept m.events m.behind m.done)

pub release_tried : (script : ScriptData) (moves : Moves) (es : List Entry) (k i : ℕ) (token : Token) (place code : ℕ)
    → IsSound script → IsScriptRun script moves es → slice_get (calls_at script k) i ≡ Some (call.TryRelease token place code)
    → answer_at (script_answers script moves es) k i ≡ Some (unless_moved (moves k i) answer.Early)
release_tried script moves es k i token place code sound run at =
    let d = call.TryRelease token place code in
    let m = call_made script moves es k i d sound run at in
    let z = sizes_of script in
    let good = call_good z [] (calls_at script k) i d (calls_good z script.tasks k sound.tasks) at in
    answered_so script moves es k i d sound run at (unless_moved (moves k i) answer.Early)
    (one_release script.setup (named_table script.table) (moves k i) m.before token place code m.kept m.events m.behind
    (omega (arith, good.0.1)) m.done)
