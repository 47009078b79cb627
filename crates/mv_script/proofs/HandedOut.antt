-- A script with a table leaves it to its two calls, so what they are told is what the law on tables says.
use Rattle.std.proofs.Common.{◌≡◌, ◌==◌, ℕ, zero, suc, ◌+◌, ◌<◌, nat_lt, Bool, true, false, List, [], ◌∷◌, ◌++◌, length}
use Rattle.std.proofs.Common.{Option, Some, None, Result, Ok, Err, refl, sym, ap, ◌∙◌, subst, arith, if◌then◌else◌, append-nil}
use Rattle.std.proofs.Common.{append_assoc, length-append, inl}
use Rattle.std.specs.Prelude.{slice_get, slice_index_or, unwrap_or, is_none, option_and_then}
use Rattle.std.specs.List.{AllByRecursion, list_any}
use Rattle.std.proofs.lemmas.Bool.{or_parts, ltb-true, lt-ltb, eq-eqb}
use Rattle.std.proofs.lemmas.List.FromFn.{get_or-map-range_with_len}
use Rattle.mv_latch.specs.declared.request.LatchForm.{LatchForm}
use Rattle.mv_latch.specs.declared.request.LatchForm.TheVariants.{Conditional, Waiting, Posted}
use Rattle.mv_machine.specs.declared.entry.Entry.{Entry}
use Rattle.mv_machine.specs.declared.entry.Object.{Object}
use Rattle.mv_config.specs.Setup.{Setup}
use Rattle.mv_machine.proofs.Lists.{all_append, all_push, all_front, all_back}
use Rattle.mv_calls.specs.declared.table.Table.{Table}
use Rattle.mv_calls.specs.Events.{Entering, EnteredAt, WasComplete, Finding, first_event_requestor}
use Rattle.mv_calls.specs.Keeping.{Kept, kept_from, nothing_kept}
use Rattle.mv_calls.specs.LatchCalls.{Requested, GrantedAs, PendingAs}
use Rattle.mv_calls.specs.Program.{Program, Heard, IsDoneOn, followed, finished, entries}
use Rattle.mv_calls.specs.Refusal.{Refusal}
use Rattle.mv_calls.specs.Refusal as refusal
use Rattle.mv_calls.specs.Runs.{heard_in}
use Rattle.mv_calls.specs.Services.{Service}
use Rattle.mv_calls.specs.Services as service
use Rattle.mv_calls.specs.Table.{IsTableOf, IsSoundTable}
use Rattle.mv_calls.proofs.Making.{kept_caller}
use Rattle.mv_calls.proofs.TableFacts.{checked_is_sound}
use Rattle.mv_eventlaws.specs.Completions.{Completion, completions}
use Rattle.mv_eventlaws.specs.Discipline.{Deed, Posts, Takes}
use Rattle.mv_eventlaws.specs.Order.{MayCome, IsAnswered, IsTableInOrder}
use Rattle.mv_eventlaws.specs.Served.{Served, AreServed, is_block, IsElsewhere, IsElsewhereIfAny, PostsElsewhere, IsOther, Spares}
use Rattle.mv_eventlaws.specs.Served.{deed_of, deeds_of, is_own}
use Rattle.mv_script.proofs.Cutting.{cut_followed}
use Rattle.mv_eventlaws.proofs.Disciplining.{are_disciplined, served_in_order}
use Rattle.mv_eventlaws.proofs.Programs.{done_is}
use Rattle.mv_script.specs.declared.answer.Answer.{Answer}
use Rattle.mv_script.specs.declared.answer.Answer.TheVariants as answer
use Rattle.mv_scriptline.specs.declared.call.Call.{Call}
use Rattle.mv_scriptline.specs.declared.call.Call.TheVariants as call
use Rattle.mv_scriptline.specs.Sizes.{SizesFace}
use Rattle.mv_script.specs.Answered.{refused, answer_to}
use Rattle.mv_script.specs.Costs.{Asked, service_of}
use Rattle.mv_script.specs.Events.{IsEntered, ReportsEvent, IsToldInOrder, AreToldInOrder, AreHandedOut, EventsAreHandedOut}
use Rattle.mv_script.specs.Fault.{obtain_meant}
use Rattle.mv_scriptline.specs.Operand.{event_count}
use Rattle.mv_script.specs.Run.{try_target, IsScriptRun, past_in, task_answers, script_answers}
use Rattle.mv_script.specs.Script.{ScriptData}
use Rattle.mv_script.specs.Sound.{IfThere, HasGoodNumbers, AreSoundCalls, IsSound, sizes_of}
use Rattle.mv_script.specs.Table.{is_block_if_any, posts_block, is_event_requestor, uses, uses_any}
use Rattle.mv_script.specs.Tasks.{Past, Moves, no_past, request_of, lacks_request, request_in, requests_with, answered, served}
use Rattle.mv_script.specs.Tasks.{made, made_all, named_table, calls_at}
use Rattle.mv_script.proofs.Refusals.{RefusesPost, RefusesNext, post_refused, next_refused}
use Rattle.mv_script.proofs.Tries.{calls_good}

-- ---- what a call that leaves the table alone asks of the services

-- each request so far is of another latch
abbrev AreOthers : Table → List (Option Asked) → Type 0
AreOthers t requests = AllByRecursion (IfThere (λ (a : Asked). IsOther t a.latch)) requests

obtained_other : (t : Table) (latch : ℕ) (a : Result Requested Refusal) → IsOther t latch
    → IfThere (λ (b : Asked). IsOther t b.latch) (request_in latch a)
obtained_other t latch (Ok (GrantedAs id)) o = o
obtained_other t latch (Ok (PendingAs id)) o = o
obtained_other t latch (Err why) o = tt

others_with : (t : Table) (requests : List (Option Asked)) (s : Service) (a : service.Answer s) → Spares t s → AreOthers t requests
    → AreOthers t (requests_with requests s a)
others_with t requests (service.Obtain latch requestor mode form) a m w =
    all_push (IfThere (λ (b : Asked). IsOther t b.latch)) requests (request_in latch a) w (obtained_other t latch a m.0)
others_with t requests s a m w = w

-- a request that there is
held_other : (t : Table) (requests : List (Option Asked)) (n : ℕ) → AreOthers t requests
    → is_none (option_and_then (λ (r : Option Asked). r) (slice_get requests n)) ≡ false
    → IsOther t (unwrap_or (option_and_then (λ (r : Option Asked). r) (slice_get requests n)) (record { latch = 0; id = 0 })).latch
held_other t [] n w e = absurd (cc e)
held_other t (None ∷ requests) zero w e = absurd (cc e)
held_other t (Some a ∷ requests) zero w e = w.0
held_other t (r ∷ requests) (suc n) w e = held_other t requests n w.1 e

none_of_table : (t : Table) (ecbs : List ℕ) → list_any (is_block t) ecbs ≡ false → AllByRecursion (IsElsewhere t) ecbs
none_of_table t [] e = tt
none_of_table t (n ∷ ecbs) e =
    let a = or_parts (is_block t n) (list_any (is_block t) ecbs) e in (a.0, none_of_table t ecbs a.1)

posts_elsewhere : (t : Table) (form : LatchForm) → posts_block t form ≡ false → PostsElsewhere t form
posts_elsewhere t Conditional e = tt
posts_elsewhere t Waiting e = tt
posts_elsewhere t (Posted n) e = e

is_elsewhere : (t : Table) (mother : Option ℕ) → is_block_if_any t mother ≡ false → IsElsewhereIfAny t mother
is_elsewhere t None e = tt
is_elsewhere t (Some n) e = e

low_requestor : (requestor : ℕ) → is_event_requestor requestor ≡ false → requestor < first_event_requestor
low_requestor requestor e = grind arith

-- a post of an event names one that the table has
abbrev IsOfTable : Table → Call → Type 0
IsOfTable t (call.PostEvent index code) = index < t.size
IsOfTable t d = Unit {0}

of_table : (z : SizesFace) (t : Table) (d : Call) → z.table ≡ Some t → HasGoodNumbers z d → IsOfTable t d
of_table z t (call.PostEvent index code) is good = subst (λ (o : Option Table). index < event_count o) is good.0
of_table z t d is good = tt

spared : (t : Table) (requests : List (Option Asked)) (d : Call) → uses t d ≡ false → IsOfTable t d
    → lacks_request requests (obtain_meant d) ≡ false → AreOthers t requests → Spares t (service_of t (request_of requests) d)
spared t requests (call.Wait count ecbs) e own has w = none_of_table t ecbs e
spared t requests (call.Post ecb code) e own has w = e
spared t requests (call.TryPost ecb place code) e own has w = e
spared t requests (call.Clear ecb) e own has w = e
spared t requests (call.Extend ecb exit) e own has w = e
spared t requests (call.Test ecb) e own has w = tt
spared t requests (call.Read volume) e own has w = tt
spared t requests (call.Write volume number) e own has w = e
spared t requests call.Alloc e own has w = tt
spared t requests (call.Pause token) e own has w = tt
spared t requests (call.Release token code) e own has w = tt
spared t requests (call.TryRelease token place code) e own has w = tt
spared t requests (call.Transfer current target code) e own has w = tt
spared t requests (call.Dealloc token) e own has w = tt
spared t requests (call.TestElement element) e own has w = tt
spared t requests (call.Obtain latch requestor mode form) e own has w =
    let a = or_parts (latch == t.latch) _ e in
    let b = or_parts (is_event_requestor requestor) (posts_block t form) a.1 in
    (a.0, posts_elsewhere t form b.1)
spared t requests (call.Check k) e own has w = tt
spared t requests (call.Free k conditional) e own has w = held_other t requests _ w has
spared t requests (call.Purge requestor) e own has w = low_requestor requestor e
spared t requests (call.EndTask requestor mother code) e own has w =
    let a = or_parts (is_event_requestor requestor) (is_block_if_any t mother) e in
    (low_requestor requestor a.0, is_elsewhere t mother a.1)
spared t requests (call.PostEvent index code) e own has w = (own, inl refl)
spared t requests (call.NextEvent position) e own has w = inl refl

-- ---- what it is told

module _ (done : List Completion) where
  refused_post : (index code : ℕ) (why : Refusal) → RefusesPost why → MayCome why → IsEntered done index code (refused why)
  refused_post index code refusal.Quota m h = tt
  refused_post index code refusal.Purged m h = h
  refused_post index code (refusal.Broken count) m h = h
  refused_post index code why m h = absurd m

  refused_next : (position : ℕ) (why : Refusal) → RefusesNext why → MayCome why → ReportsEvent done position (refused why)
  refused_next position refusal.NotOwner m h = tt
  refused_next position refusal.Drained m h = tt
  refused_next position (refusal.Strange index) m h = h
  refused_next position why m h = absurd m

  module _ (c : Setup) (t : Table) (exists : t.latch < c.latches) (kept : Kept) (hs : List Heard) where
    -- a table is its own
    own_deed : (d : Deed) → AllByRecursion (IsAnswered done) (if is_own t t then d ∷ [] else [])
        → AllByRecursion (IsAnswered done) (d ∷ [])
    own_deed d h = subst (λ (b : Bool). AllByRecursion (IsAnswered done) (if b then d ∷ [] else [])) (eq-eqb t.latch t.latch refl) h

    posted_told : (index code : ℕ) (a : Result Entering Refusal)
        → IsDoneOn (service.program c (service.PostEvent t index code) kept) hs a
        → AllByRecursion (IsAnswered done) (deed_of t (service.PostEvent t index code) a)
        → IsEntered done index code (answer_to (service.PostEvent t index code) a)
    posted_told index code (Ok (EnteredAt position)) w h = (own_deed (Posts index code (Ok (EnteredAt position))) h).0
    posted_told index code (Ok (WasComplete old)) w h = (own_deed (Posts index code (Ok (WasComplete old))) h).0
    posted_told index code (Err why) w h = refused_post index code why (post_refused c t (Err why) index code kept hs exists w)
        (own_deed (Posts index code (Err why)) h).0

    taken_told : (position : ℕ) (a : Result Finding Refusal) → IsDoneOn (service.program c (service.NextEvent t position) kept) hs a
        → AllByRecursion (IsAnswered done) (deed_of t (service.NextEvent t position) a)
        → ReportsEvent done position (answer_to (service.NextEvent t position) a)
    taken_told position (Ok found) w h =
        let x : IsAnswered done (Takes position (Ok found)) = (own_deed (Takes position (Ok found)) h).0 in
        (x.0, x.1, x.2.index, x.2.word)
    taken_told position (Err why) w h = refused_next position why (next_refused c t (Err why) position kept hs w)
        (own_deed (Takes position (Err why)) h).0

    service_told : (asked : ℕ → Asked) (d : Call) (a : service.Answer (service_of t asked d))
        → IsDoneOn (service.program c (service_of t asked d) kept) hs a
        → AllByRecursion (IsAnswered done) (deed_of t (service_of t asked d) a)
        → IsToldInOrder done d (answer_to (service_of t asked d) a)
    service_told asked (call.PostEvent index code) a w h = posted_told index code a w h
    service_told asked (call.NextEvent position) a w h = taken_told position a w h
    service_told asked d a w h = tt

  -- a call that asks no service is none on the table
  try_told : (d : Call) (a : Answer) (x : Object × ℕ) → try_target d ≡ Some x → IsToldInOrder done d a
  try_told (call.PostEvent index code) a x is = absurd (cc is)
  try_told (call.NextEvent position) a x is = absurd (cc is)
  try_told d a x is = tt

  lacking_told : (requests : List (Option Asked)) (d : Call) (a : Answer) → lacks_request requests (obtain_meant d) ≡ true
      → IsToldInOrder done d a
  lacking_told requests (call.PostEvent index code) a is = absurd (cc is)
  lacking_told requests (call.NextEvent position) a is = absurd (cc is)
  lacking_told requests d a is = tt

  -- ---- one call of a task

  module _ (c : Setup) (t : Table) (exists : t.latch < c.latches) where
    record IsOne (kept : Kept) (piece : List Heard) (d : Call) (past next : Past) : Type 0 where
      others : AreOthers t next.requests
      served : List Served
      goes : (rest : List Served) (later : List Heard) (k : ℕ) → kept.caller ≡ k → AreServed c k rest later
          → AreServed c k (served ++ rest) (piece ++ later)
      spare : AllByRecursion (λ m. Spares t m.service) served
      answer : Answer
      adds : next.answers ≡ past.answers ++ answer ∷ []
      told : AllByRecursion (IsAnswered done) (deeds_of t served) → IsToldInOrder done d answer

    -- it asked no service
    nothing : (kept : Kept) (piece : List Heard) (d : Call) (past next : Past) (a : Answer) → AreOthers t past.requests
        → (piece ≡ []) × (answered past a ≡ next) → IsToldInOrder done d a → IsOne kept piece d past next
    nothing kept piece d past next a o r told = record {
      others = subst (λ (p : Past). AreOthers t p.requests) r.1 o;
      served = [];
      goes = λ rest later k its w. subst (λ (l : List Heard). AreServed c k rest (l ++ later)) (sym r.0) w;
      spare = tt;
      answer = a;
      adds = ap (λ (p : Past). p.answers) (sym r.1);
      told = λ h. told;
    }

    one_call : (m : Option ℕ) (past next : Past) (d : Call) (kept : Kept) (piece : List Heard) → uses t d ≡ false → IsOfTable t d
        → ((w : ℕ) → m ≡ Some w → (x : Object × ℕ) × (try_target d ≡ Some x)) → AreOthers t past.requests
        → IsDoneOn (made c t m past d kept) piece next → IsOne kept piece d past next
    one_call (Some w) past next d kept piece e own tries o is =
        let r = done_is (answered past (answer.Moved w)) piece next is in
        let x = tries w refl in
        nothing kept piece d past next (answer.Moved w) o r (try_told d (answer.Moved w) x.0 x.1)
    one_call None past next d kept piece e own tries o is = go (lacks_request past.requests (obtain_meant d)) refl is where
      s : Service
      s = service_of t (request_of past.requests) d

      go : (b : Bool) → lacks_request past.requests (obtain_meant d) ≡ b
          → IsDoneOn ((if b then finished (answered past answer.NoToken)
          else followed (service.program c (service_of t (request_of past.requests) d))
          (λ a. finished (served past (service_of t (request_of past.requests) d) a))) kept) piece next
          → IsOne kept piece d past next
      go true lacks is =
          let r = done_is (answered past answer.NoToken) piece next is in
          nothing kept piece d past next answer.NoToken o r (lacking_told past.requests d answer.NoToken lacks)
      go false has is =
          let cut = cut_followed (service.program c (service_of t (request_of past.requests) d))
          (λ a. finished (served past (service_of t (request_of past.requests) d) a)) kept piece next is in
          let r = done_is (served past (service_of t (request_of past.requests) d) cut.first) cut.later next cut.goes_on in
          let spare = spared t past.requests d e own has o in
          record {
            others = subst (λ (p : Past). AreOthers t p.requests) r.1
                (others_with t past.requests (service_of t (request_of past.requests) d) cut.first spare o);
            served = record { service = service_of t (request_of past.requests) d; answer = cut.first } ∷ [];
            goes = λ rest later k its w. (
              later,
              record {
                kept = kept;
                its = its;
                piece = cut.piece;
                split = ap (λ (l : List Heard). l ++ later) (cut.split ∙ ap (λ (l : List Heard). cut.piece ++ l) r.0 ∙ append-nil
                    cut.piece);
                done = cut.done;
              },
              w,
            );
            spare = (spare, tt);
            answer = answer_to (service_of t (request_of past.requests) d) cut.first;
            adds = ap (λ (p : Past). p.answers) (sym r.1);
            told = λ h. service_told c t exists kept cut.piece (request_of past.requests) d cut.first cut.done
                (subst (λ (ds : List Deed). AllByRecursion (IsAnswered done) ds)
                (append-nil (deed_of t (service_of t (request_of past.requests) d) cut.first)) h);
          }

    -- ---- all calls of a task

    deeds_on : (xs ys : List Served) → deeds_of t (xs ++ ys) ≡ deeds_of t xs ++ deeds_of t ys
    deeds_on [] ys = refl
    deeds_on (m ∷ xs) ys =
        ap (λ (ds : List Deed). deed_of t m.service m.answer ++ ds) (deeds_on xs ys)
        ∙ sym (append_assoc (deed_of t m.service m.answer) (deeds_of t xs) (deeds_of t ys))

    one_more : (before next : List Answer) (a : Answer) → next ≡ before ++ a ∷ [] → length next ≡ length before + 1
    one_more before next a e = ap (λ (xs : List Answer). length xs) e ∙ length-append before (a ∷ [])

    adds_on : (before next last : List Answer) (a : Answer) (answers : List Answer) → next ≡ before ++ a ∷ [] → last ≡ next ++ answers
        → last ≡ before ++ a ∷ answers
    adds_on before next last a answers e f = f ∙ ap (λ (xs : List Answer). xs ++ answers) e ∙ append_assoc before (a ∷ []) answers

    record AreAll (k : ℕ) (hs : List Heard) (calls : List Call) (past end : Past) : Type 0 where
      served : List Served
      goes : AreServed c k served hs
      spare : AllByRecursion (λ m. Spares t m.service) served
      answers : List Answer
      adds : end.answers ≡ past.answers ++ answers
      told : AllByRecursion (IsAnswered done) (deeds_of t served) → AreToldInOrder done calls answers

    -- a word was met by tries alone
    abbrev AreTries : (ℕ → Option ℕ) → ℕ → List Call → Type 0
    AreTries moved n calls = (j w : ℕ) → moved (n + j) ≡ Some w
        → (d : Call) × (slice_get calls j ≡ Some d) × ((x : Object × ℕ) × (try_target d ≡ Some x))

    all_calls : (z : SizesFace) → z.table ≡ Some t → (moved : ℕ → Option ℕ) (before calls : List Call) (past end : Past) (kept : Kept)
        (k : ℕ) (hs : List Heard) → kept.caller ≡ k → AreOthers t past.requests → AreSoundCalls z before calls
        → AreTries moved (length past.answers) calls → IsDoneOn (made_all c t moved past calls kept) hs end → AreAll k hs calls past end
    all_calls z is moved before [] past end kept k hs its o sound tries w =
        let r = done_is past hs end w in record {
          served = [];
          goes = r.0;
          spare = tt;
          answers = [];
          adds = ap (λ (p : Past). p.answers) (sym r.1) ∙ sym (append-nil past.answers);
          told = λ h. tt;
        }
    all_calls z is moved before (d ∷ calls) past end kept k hs its o sound tries w =
        let cut = cut_followed (made c t (moved (length past.answers)) past d) (λ next. made_all c t moved next calls) kept hs end w in
        let one : IsOne kept cut.piece d past cut.first =
        one_call (moved (length past.answers)) past cut.first d kept cut.piece
        (subst (λ (x : Option Table). uses_any x d ≡ false) is sound.0.spares)
        (of_table z t d is sound.0.numbers)
        (λ v met. here (tries 0 v (ap moved (let e : length past.answers + 0 ≡ length past.answers = omega arith in e) ∙ met))) o cut.done
        in
        let more : length cut.first.answers ≡ length past.answers + 1 = one_more past.answers cut.first.answers one.answer one.adds in
        let rest : AreAll k cut.later calls cut.first end =
        all_calls z is moved (before ++ d ∷ []) calls cut.first end (kept_from kept (entries cut.piece)) k cut.later
        (kept_caller kept (entries cut.piece) ∙ its) one.others sound.1
        (λ j v met. tries (suc j) v (ap moved (let e : length past.answers + suc j ≡ length cut.first.answers + j = omega arith in e) ∙
        met))
        cut.goes_on in
        record {
          served = one.served ++ rest.served;
          goes = subst (AreServed c k (one.served ++ rest.served)) (sym cut.split) (one.goes rest.served cut.later k its rest.goes);
          spare = all_append (λ m. Spares t m.service) one.served rest.served one.spare rest.spare;
          answers = one.answer ∷ rest.answers;
          adds = adds_on past.answers cut.first.answers end.answers one.answer rest.answers one.adds rest.adds;
          told = λ h. (
            one.told (all_front (IsAnswered done) (deeds_of t one.served) (deeds_of t rest.served)
                (subst (AllByRecursion (IsAnswered done)) (deeds_on one.served rest.served) h)),
            rest.told (all_back (IsAnswered done) (deeds_of t one.served) (deeds_of t rest.served)
                (subst (AllByRecursion (IsAnswered done)) (deeds_on one.served rest.served) h)),
          );
        } where
          here : (e : Call) × (slice_get (d ∷ calls) 0 ≡ Some e) × ((x : Object × ℕ) × (try_target e ≡ Some x))
              → (x : Object × ℕ) × (try_target d ≡ Some x)
          here h = let same : d ≡ h.0 = cc h.1 in (h.2.0, ap try_target same ∙ h.2.1)

-- ---- one for each number below a limit

chosen_at : {A : Type 0} (P : ℕ → A → Type 0) (n : ℕ) (other : A) → ((k : ℕ) → k < n → (a : A) × P k a) → (k : ℕ) (b : Bool)
    → nat_lt k n ≡ b → A
chosen_at P n other each k true e = (each k (ltb-true k n e)).0
chosen_at P n other each k false e = other

abbrev chosen : {A : Type 0} (P : ℕ → A → Type 0) (n : ℕ) (other : A) → ((k : ℕ) → k < n → (a : A) × P k a) → ℕ → A
chosen P n other each k = chosen_at P n other each k (nat_lt k n) refl

chosen_is : {A : Type 0} (P : ℕ → A → Type 0) (n : ℕ) (other : A) (each : (k : ℕ) → k < n → (a : A) × P k a) (k : ℕ) → k < n
    → P k (chosen P n other each k)
unfolding chosen_at
chosen_is P n other each k lt = go (nat_lt k n) refl where
  go : (b : Bool) (e : nat_lt k n ≡ b) → P k (chosen_at P n other each k b e)
  go true e = (each k (ltb-true k n e)).1
  go false e = absurd (cc (sym e, lt-ltb k n lt))

-- ---- the law

module _ (script : ScriptData) (moves : Moves) (es : List Entry) (sound : IsSound script) (run : IsScriptRun script moves es) (t : Table)
    (is : script.table ≡ Some t) where
  abbrev done : List Completion
  done = completions t es

  table : IsTableOf script.setup t
  table = subst (IfThere (IsTableOf script.setup)) is sound.table

  sound_table : IsSoundTable script.setup t
  sound_table = checked_is_sound script.setup t table

  same_count : script.setup.callers ≡ length script.tasks
  same_count = ap (λ (s : Setup). s.callers) sound.setup

  -- what is shown of a task's calls of services
  abbrev IsOfTask : ℕ → List Served → Type 0
  IsOfTask k served =
      AreServed script.setup k served (heard_in script.setup k es) × AllByRecursion (λ m. Spares t m.service) served
      × (AllByRecursion (IsAnswered done) (deeds_of t served) → AreToldInOrder done (calls_at script k) (task_answers script moves es k))

  of_task : (k : ℕ) → k < script.setup.callers → (served : List Served) × IsOfTask k served
  of_task k lt =
      let f = run.finish.done k lt in
      let names : named_table script.table ≡ t = ap named_table is in
      let whole : IsDoneOn (made_all script.setup t (moves k) no_past (calls_at script k) (nothing_kept k)) (heard_in script.setup k es)
      f.0 =
      subst (λ (u : Table). IsDoneOn (made_all script.setup u (moves k) no_past (calls_at script k) (nothing_kept k))
      (heard_in script.setup k es) f.0) names (record { says = run.finish.follow.says k lt; done = f.1 }) in
      let a = all_calls done script.setup t sound_table.latch (sizes_of script) is (moves k) []
      (calls_at script k)
      no_past f.0 (nothing_kept k) k (heard_in script.setup k es) refl tt (calls_good (sizes_of script) script.tasks k sound.tasks)
      (λ j w met. tries j w (ap (moves k) (let e : j ≡ 0 + j = omega arith in e) ∙ met)) whole in
      let answers : a.answers ≡ task_answers script moves es k =
      sym a.adds ∙ sym (ap (λ (p : Program Past). (past_in p).answers) f.1) in
      (a.served, (a.goes, a.spare, λ h. subst (AreToldInOrder done (calls_at script k)) answers (a.told h))) where
        tries : (j w : ℕ) → moves k j ≡ Some w
            → (d : Call) × (slice_get (calls_at script k) j ≡ Some d) × ((x : Object × ℕ) × (try_target d ≡ Some x))
        tries j w met =
            let m = run.met k j w (omega (arith, lt, same_count)) met in (m.call, m.made, ((m.object, m.expected), m.tries))

  abbrev calls_of : ℕ → List Served
  calls_of = chosen IsOfTask script.setup.callers [] of_task

  their : (k : ℕ) → k < script.setup.callers → IsOfTask k (calls_of k)
  their k lt = chosen_is IsOfTask script.setup.callers [] of_task k lt

  in_order : IsTableInOrder script.setup t (λ k. deeds_of t (calls_of k)) es
  in_order =
      let legal = run.finish.follow.legal in
      served_in_order script.setup t calls_of es sound_table legal
      (are_disciplined script.setup t calls_of es sound_table legal (λ k lt. (their k lt).0) (λ k lt. (their k lt).1))

  answers_at : (k : ℕ) → k < length script.tasks → slice_index_or (script_answers script moves es) k [] ≡ task_answers script moves es k
  answers_at k lt = get_or-map-range_with_len (task_answers script moves es) 0 (length script.tasks) k k [] lt (omega arith)

  pub by_table : AreHandedOut script (script_answers script moves es) es t
  by_table = record {
    told = λ k lt.
        let below : k < script.setup.callers = omega (arith, lt, same_count) in
        subst (AreToldInOrder done (calls_at script k)) (sym (answers_at k lt)) ((their k below).2 (in_order.answers k below));
    shown = in_order.shown;
  }

pub handed_out : (script : ScriptData) (moves : Moves) (es : List Entry) → IsSound script → IsScriptRun script moves es
    → EventsAreHandedOut script (script_answers script moves es) es
handed_out script moves es sound run = go script.table refl where
  go : (o : Option Table) → script.table ≡ o → IfThere (AreHandedOut script (script_answers script moves es) es) o
  go None is = tt
  go (Some t) is = by_table script moves es sound run t is
