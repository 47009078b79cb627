-- No call makes more events than it may need. The posts of exits and of wakes are counted in proofs/Posting; here the rest of each
-- call is, reply by reply.
use Rattle.std.proofs.Common.{Result, Ok, Err, cond, ◌<◌, nat_lt, ltb-true, refl, sym, ap, ◌∙◌, subst, arith, append_assoc}
use Rattle.std.proofs.Common.{◌≡◌, ℕ, suc, ◌+◌, ◌*◌, ◌≤◌, Bool, true, false, List, [], ◌∷◌, ◌++◌, length, Option}
use Rattle.std.proofs.Common.{Some, None}
use Rattle.std.proofs.lemmas.Bool.{eq-eqb}
use Rattle.std.proofs.lemmas.List.{append-nil, append_cancel_right}
use Rattle.std.specs.List.{AllByRecursion}
use Rattle.mv_element.specs.declared.element.Token.{Token}
use Rattle.mv_element.specs.declared.operation.ElementReply.TheVariants as element_reply
use Rattle.mv_latch.specs.LatchSet.{wakes}
use Rattle.mv_latch.specs.declared.operation.LatchOp.TheVariants.{Confirm}
use Rattle.mv_latch.specs.declared.operation.LatchOp.{LatchOp}
use Rattle.mv_latch.specs.declared.operation.LatchReply.TheVariants as latch_reply
use Rattle.mv_latch.specs.declared.operation.Wake.{Wake}
use Rattle.mv_latch.specs.declared.request.LatchForm.TheVariants as form_of
use Rattle.mv_latch.specs.declared.request.LatchForm.{LatchForm}
use Rattle.mv_latch.specs.declared.request.Mode.{Mode}
use Rattle.mv_latch.specs.declared.request.Mode.TheVariants.{Exclusive}
use Rattle.mv_calls.specs.Exits.{NameOwnExits, HaveFairWakes}
use Rattle.mv_machine.specs.Legal.{after}
use Rattle.mv_machine.specs.Parts.{IsPossible}
use Rattle.mv_config.specs.Reach.{reach, release_cost, total}
use Rattle.mv_config.specs.Setup.{Setup, is_on_exit}
use Rattle.mv_machine.specs.System.{System}
use Rattle.mv_machine.specs.Told.{told, told_at}
use Rattle.mv_machine.specs.Waking.{AreFairWakes, blocks_of}
use Rattle.mv_calls.specs.Endings as endings
use Rattle.mv_calls.specs.Keeping.{Kept}
use Rattle.mv_calls.specs.LatchCalls as latches
use Rattle.mv_calls.specs.declared.outcomes.Purged.{Purged}
use Rattle.mv_calls.specs.Made.{told_with, told_by, HasItsWakes, HaveTheirWakes}
use Rattle.mv_calls.specs.Pauses as pauses
use Rattle.mv_calls.specs.Posts as posts
use Rattle.mv_calls.specs.declared.outcomes.PostAnswer.{PostAnswer}
use Rattle.mv_calls.specs.declared.outcomes.PostAnswer.TheVariants as answer
use Rattle.mv_calls.specs.Program.{Program, Do, Done, Early, Wrong, Heard, Says, and_then, on_element}
use Rattle.mv_calls.specs.Program.{entries}
use Rattle.mv_calls.specs.Program.{on_latch, unless_refused, finished}
use Rattle.mv_calls.specs.Refusal.{Refusal}
use Rattle.mv_calls.specs.Services as services
use Rattle.mv_calls.specs.Services.{Service, program, most_events, transfer_events, obtain_events, mother_events, HasItsTable}
use Rattle.mv_calls.specs.Table.{IsSoundTable, event_block, slot_block}
use Rattle.mv_calls.specs.declared.table.Table.{Table}
use Rattle.mv_calls.specs.Events as events
use Rattle.mv_calls.specs.Refusal.{Broken, Strange}
use Rattle.mv_calls.proofs.TableFacts.{reaches_itself}
use Rattle.mv_calls.proofs.Posting.{follow_asks}
use Rattle.mv_calls.specs.Waits as waits
use Rattle.mv_machine.specs.declared.entry.Entry.{Entry}
use Rattle.mv_machine.specs.declared.entry.Object.TheVariants.{Latches}
use Rattle.mv_machine.specs.declared.entry.Object.{Object}
use Rattle.mv_machine.specs.declared.entry.Op.TheVariants as op_on
use Rattle.mv_machine.specs.declared.entry.Op.{Op}
use Rattle.mv_machine.specs.declared.entry.Reply.TheVariants as reply_of
use Rattle.mv_machine.specs.declared.entry.Reply.{Reply}
use Rattle.mv_calls.proofs.Behind.{last_is_behind, front_is_possible}
use Rattle.mv_machine.proofs.Histories.{by_last}
use Rattle.mv_machine.proofs.Lists.{all_push}
use Rattle.mv_calls.proofs.Replies.{HasOneEvent, by_arm, by_settle, by_pause, by_close, gave_ends, enough_ends, confirmed_ends}
use Rattle.mv_calls.proofs.Replies.{try_post_once, clear_once, extend_once, test_ecb_once, read_volume_once, write_volume_once}
use Rattle.mv_calls.proofs.Replies.{allocate_once, release_once, try_release_once, deallocate_once, test_element_once, check_latch_once}
use Rattle.mv_calls.proofs.Replies.{obtain_once}
use Rattle.mv_calls.proofs.Posting.{Asks, HasOwnExit, both_ask, none_asks, post_asks, wakes_ask}
use Rattle.mv_calls.proofs.Uses.{last_same, wakes_of_next, call_exits}
use Rattle.mv_calls.proofs.Making.{entries-append, told_by-append}
use Rattle.mv_calls.specs.declared.outcomes.WaitSlot.{WaitSlot}
use Rattle.mv_calls.specs.declared.outcomes.WaitSlot.TheVariants as wait_slot

-- a bound may be wider
wider : {A : Type 0} (P : Heard → Type 0) (m n : ℕ) (p : Program A) → m ≤ n → Asks P m p → Asks P n p
wider P m n p le few hs each s = omega (arith, few hs each s)

-- one event, and then what is asked behind it
one_more : {A : Type 0} (P : Heard → Type 0) (n : ℕ) (o : Object) (op : Op) (next : Heard → Program A)
    → ((h : Heard) → P h → Asks P n (next h)) → Asks P (suc n) (Do o op next)
one_more P n o op next later [] each s = omega arith
one_more P n o op next later (h ∷ hs) each s = let rest : length hs ≤ n = later h each.0 hs each.1 s.1 in omega arith

-- one event, and nothing behind it
once_asks : {A : Type 0} (P : Heard → Type 0) (p : Program A) → HasOneEvent p → Asks P 1 p
once_asks P (Do o op next) once = one_more P 0 o op next (λ h is. none_asks P 0 (next h) (once.behind h))
once_asks P (Done a) once = none_asks P 1 (Done a) tt
once_asks P Early once = none_asks P 1 Early tt
once_asks P Wrong once = none_asks P 1 Wrong tt

-- a refusal asks for nothing
unless_asks : {A : Type 0} (P : Heard → Type 0) (n : ℕ) (why : Option Refusal) (p : Program (Result A Refusal)) → Asks P n p
    → Asks P n (unless_refused why p)
unless_asks P n None p few = few
unless_asks P n (Some why) p few = none_asks P n (Done (Err why)) tt

-- ---- waits

-- a settle for each block
settles_ask : (P : Heard → Type 0) (es : List ℕ) (found : List WaitSlot) (f : List WaitSlot
    → Program (Result (List WaitSlot) Refusal))
    → ((slots : List WaitSlot) → Asks P 0 (f slots)) → Asks P (length es) (waits.settle_all es found f)
settles_ask P [] found f last = last found
settles_ask P (e ∷ es) found f last = one_more P (length es) _ _ _
    (λ h is. by_settle (Asks P (length es)) (none_asks P (length es)) _ (λ slot. settles_ask P es (found ++ slot ∷ []) f last)
    h.entry.reply)

-- an arm for each block
arms_ask : {A : Type 0} (P : Heard → Type 0) (es : List ℕ) (n : ℕ) (p : Program A) → Asks P n p
    → Asks P (length es + n) (waits.arm_all es p)
arms_ask P [] n p few = wider P n _ p (omega arith) few
arms_ask P (e ∷ es) n p few = wider P (suc (length es + n)) _ _ (omega arith)
    (one_more P (length es + n) _ _ _ (λ h is. by_arm (Asks P (length es + n)) (none_asks P (length es + n)) _ (arms_ask P es n p few)
    h.entry.reply))

-- a wait
wait_asks : (P : Heard → Type 0) (c : Setup) (count : ℕ) (es : List ℕ) (kept : Kept) → Asks P (2 * length es) (waits.wait c count es kept)
wait_asks P c count es kept =
    unless_asks P (2 * length es) _ _
    (wider P (length es + length es) (2 * length es) _ (omega arith)
    (arms_ask P es (length es) _ (settles_ask P es [] (waits.enough count) (λ slots. none_asks P 0 _ (enough_ends count slots)))))

-- ---- pauses and transfers

-- a pause
pause_asks : (P : Heard → Type 0) (c : Setup) (t : Token) (kept : Kept) → Asks P 2 (pauses.pause c t kept)
pause_asks P c t kept = unless_asks P 2 _ _ (one_more P 1 _ _ _
    (λ h is. by_pause (Asks P 1) (none_asks P 1) t.element t.generation (λ ends. once_asks P _ ends) h.entry.reply))

-- what a transfer may ask for behind its release
abbrev behind : Option Token → ℕ
behind None = 0
behind (Some t) = 2

-- the pause of a transfer
current_asks : (P : Heard → Type 0) (c : Setup) (current : Option Token) (kept : Kept)
    → Asks P (behind current) (pauses.pause_current c current kept)
current_asks P c None kept = none_asks P 0 (Done (Ok None)) tt
current_asks P c (Some t) kept =
    wider P (2 + 0) 2 _ (omega arith) (both_ask P 2 0 (pauses.pause c t kept) pauses.gave (pause_asks P c t kept)
    (λ answer. none_asks P 0 _ (gave_ends answer)))

-- behind the release of a transfer
transferred_asks : (P : Heard → Type 0) (c : Setup) (current : Option Token) (kept : Kept) (r : Reply)
    → Asks P (behind current) (on_element r (pauses.transferred c current kept))
transferred_asks P c current kept (reply_of.Element element_reply.Early) = current_asks P c current kept
transferred_asks P c current kept (reply_of.Element element_reply.Woke) = current_asks P c current kept
transferred_asks P c current kept (reply_of.Element (element_reply.Spent g)) = none_asks P _ _ tt
transferred_asks P c current kept (reply_of.Element element_reply.Already) = none_asks P _ _ tt
transferred_asks P c current kept r = none_asks P _ _ tt

-- a transfer
transfer_asks : (P : Heard → Type 0) (c : Setup) (current : Option Token) (target : Token) (code : ℕ) (kept : Kept)
    → Asks P (transfer_events current) (pauses.transfer c current target code kept)
transfer_asks P c current target code kept = unless_asks P (transfer_events current) _ _
    (wider P (suc (behind current)) (transfer_events current) _ (fits current)
    (one_more P (behind current) _ _ _ (λ h is. transferred_asks P c current kept h.entry.reply))) where
      fits : (t : Option Token) → suc (behind t) ≤ transfer_events t
      fits None = omega arith
      fits (Some t) = omega arith

-- ---- latches

-- what was heard is as the machine has it: its reply names an own exit, if it names one, and its wakes are fair
abbrev IsHeard : Setup → Heard → Type 0
IsHeard c h = HasOwnExit c h × AreFairWakes c h.wakes

-- both of a list
heard_of : (c : Setup) (hs : List Heard) → NameOwnExits c hs → HaveFairWakes c hs → AllByRecursion (IsHeard c) hs
heard_of c [] own fair = tt
heard_of c (h ∷ hs) own fair = ((own.0, fair.0), heard_of c hs own.1 fair.1)

-- and the first alone
own_of : (c : Setup) (hs : List Heard) → AllByRecursion (IsHeard c) hs → NameOwnExits c hs
own_of c [] each = tt
own_of c (h ∷ hs) each = (each.0.0, own_of c hs each.1)

-- a bound that asks for own exits alone
by_exits : {A : Type 0} (c : Setup) (n : ℕ) (p : Program A) → Asks (HasOwnExit c) n p → Asks (IsHeard c) n p
by_exits c n p few hs each s = few hs (own_of c hs each) s

-- the posts of some wakes, and then an answer
wakes_need : {A : Type 0} (c : Setup) (ws : List Wake) (kept : Kept) (a : A) → total (reach c) (blocks_of ws) ≤ 524287
    → Asks (IsHeard c) (total (reach c) (blocks_of ws)) (posts.wakes_posted c ws kept (Done a))
wakes_need c ws kept a low =
    wider (IsHeard c) (total (reach c) (blocks_of ws) + 0) (total (reach c) (blocks_of ws)) _ (omega arith)
    (by_exits c _ _ (wakes_ask c ws kept (Done a) 0 (none_asks (HasOwnExit c) 0 (Done a) tt) low))

-- behind the release of a latch
let_go_asks : (c : Setup) (conditional : Bool) (ws : List Wake) (kept : Kept) (r : Reply) → total (reach c) (blocks_of ws) ≤ 524287
    → Asks (IsHeard c) (total (reach c) (blocks_of ws)) (on_latch r (latches.let_go c conditional ws kept))
let_go_asks c conditional ws kept (reply_of.Latch (latch_reply.Released granted)) low = wakes_need c ws kept (Ok granted) low
let_go_asks c conditional ws kept (reply_of.Latch latch_reply.Gone) low = none_asks (IsHeard c) _ _ tt
let_go_asks c true ws kept (reply_of.Latch latch_reply.Waiting) low = none_asks (IsHeard c) _ _ tt
let_go_asks c conditional ws kept r low = none_asks (IsHeard c) _ _ tt

-- behind a purge
purged_asks : (c : Setup) (ws : List Wake) (kept : Kept) (r : Reply) → total (reach c) (blocks_of ws) ≤ 524287
    → Asks (IsHeard c) (total (reach c) (blocks_of ws)) (on_latch r (latches.purged c ws kept))
purged_asks c ws kept (reply_of.Latch (latch_reply.Purged removed granted)) low =
    wakes_need c ws kept (record { removed = removed; granted = granted }) low
purged_asks c ws kept r low = none_asks (IsHeard c) _ _ tt

-- an event whose wakes are then posted costs no more than a release may
cost_asks : {A : Type 0} (c : Setup) (o : Object) (op : Op) (next : Heard → Program A) → release_cost c ≤ 524287
    → ((h : Heard) → total (reach c) (blocks_of h.wakes) ≤ 524287 → Asks (IsHeard c) (total (reach c) (blocks_of h.wakes)) (next h))
    → Asks (IsHeard c) (release_cost c) (Do o op next)
cost_asks c o op next exact later [] each s = omega arith
cost_asks c o op next exact later (h ∷ hs) each s =
    let cost : total (reach c) (blocks_of h.wakes) + 1 ≤ release_cost c = each.0.1.cost exact in
    let rest : length hs ≤ total (reach c) (blocks_of h.wakes) = later h (omega (arith, cost, exact)) hs each.1 s.1 in
    omega (arith, cost, rest)

-- behind an obtain of the Waiting form there may be a confirm
waiting_asks : (P : Heard → Type 0) (latch : ℕ) (r : Reply) → Asks P 1 (on_latch r (latches.obtained latch form_of.Waiting))
waiting_asks P latch (reply_of.Latch (latch_reply.Queued id)) = once_asks P _ (record { behind = λ h. confirmed_ends id h.entry.reply })
waiting_asks P latch (reply_of.Latch (latch_reply.Granted id)) = none_asks P 1 _ tt
waiting_asks P latch r = none_asks P 1 _ tt

-- an obtain
obtain_asks : (P : Heard → Type 0) (c : Setup) (latch requestor : ℕ) (mode : Mode) (form : LatchForm) (kept : Kept)
    → Asks P (obtain_events form) (latches.obtain c latch requestor mode form kept)
obtain_asks P c latch requestor mode form_of.Waiting kept =
    unless_asks P 2 _ _ (one_more P 1 _ _ _ (λ h is. waiting_asks P latch h.entry.reply))
obtain_asks P c latch requestor mode form_of.Conditional kept =
    once_asks P _ (obtain_once c latch requestor mode form_of.Conditional kept (λ e. cc e))
obtain_asks P c latch requestor mode (form_of.Posted e) kept =
    once_asks P _ (obtain_once c latch requestor mode (form_of.Posted e) kept (λ q. cc q))

-- ---- ends of jobs and tasks

-- the post of a mother's block, if there is one
mother_asks : (c : Setup) (mother : Option ℕ) (code : ℕ) (kept : Kept) (counts : Purged) → mother_events c mother ≤ 524287
    → Asks (IsHeard c) (mother_events c mother) (posts.wake_posted c mother code kept (Done counts))
mother_asks c None code kept counts low = none_asks (IsHeard c) 0 (Done counts) tt
mother_asks c (Some e) code kept counts low =
    wider (IsHeard c) (reach c e + 0) (reach c e) _ (omega arith)
    (both_ask (IsHeard c) (reach c e) 0 (posts.post c e code kept) (λ p. Done counts) (by_exits c _ _ (post_asks c code e kept low))
    (λ p. none_asks (IsHeard c) 0 (Done counts) tt))

-- a purge
purge_asks : (c : Setup) (requestor : ℕ) (kept : Kept) → release_cost c ≤ 524287
    → Asks (IsHeard c) (release_cost c) (latches.purge c requestor kept)
purge_asks c requestor kept exact = cost_asks c _ _ _ exact (λ h low. purged_asks c h.wakes kept h.entry.reply low)

-- a purge and the post behind it
ending_asks : (c : Setup) (requestor : ℕ) (mother : Option ℕ) (code : ℕ) (kept : Kept) → release_cost c ≤ 524287
    → mother_events c mother ≤ 524287
    → Asks (IsHeard c) (release_cost c + mother_events c mother)
    (and_then (latches.purge c requestor kept) (λ counts. posts.wake_posted c mother code kept (Done counts)))
ending_asks c requestor mother code kept exact low =
    both_ask (IsHeard c) (release_cost c) (mother_events c mother) (latches.purge c requestor kept)
    (λ counts. posts.wake_posted c mother code kept (Done counts)) (purge_asks c requestor kept exact)
    (λ counts. mother_asks c mother code kept counts low)

-- a close for each element
closes_ask : {A : Type 0} (P : Heard → Type 0) (kept : Kept) (ns : List ℕ) (n : ℕ) (p : Program A) → Asks P n p
    → Asks P (length ns + n) (endings.close_all kept ns p)
closes_ask P kept [] n p few = wider P n _ p (omega arith) few
closes_ask P kept (m ∷ ns) n p few = wider P (suc (length ns + n)) _ _ (omega arith)
    (one_more P (length ns + n) _ _ _ (λ h is. by_close (Asks P (length ns + n)) (none_asks P (length ns + n)) _
    (closes_ask P kept ns n p few) h.entry.reply))

-- ---- tables of events

-- a release of a latch
release_asks : (c : Setup) (latch id : ℕ) (conditional : Bool) (kept : Kept) → release_cost c ≤ 524287
    → Asks (IsHeard c) (release_cost c) (latches.release_latch c latch id conditional kept)
release_asks c latch id conditional kept low =
    cost_asks c _ _ _ low (λ h fits. let_go_asks c conditional h.wakes kept h.entry.reply fits)

-- a release, whatever it answers
freed_asks : {A : Type 0} (c : Setup) (t : Table) (id : ℕ) (answer : A) (kept : Kept) → release_cost c ≤ 524287
    → Asks (IsHeard c) (release_cost c) (events.freed c t id answer kept)
freed_asks c t id answer kept low =
    wider (IsHeard c) (release_cost c + 0) (release_cost c) _ (omega arith)
    (follow_asks (IsHeard c) (release_cost c) 0 (latches.release_latch c t.latch id false) (λ released. finished answer) kept
    (release_asks c t.latch id false kept low) (λ a now. none_asks (IsHeard c) 0 (Done answer) tt))

-- a post of a block that is on no exit
alone_asks : (c : Setup) (block code : ℕ) (kept : Kept) → is_on_exit c block ≡ false
    → Asks (IsHeard c) 1 (posts.post c block code kept)
alone_asks c block code kept none =
    let one = reaches_itself c block none in
    wider (IsHeard c) (reach c block) 1 _ one (by_exits c _ _ (post_asks c code block kept (omega arith)))

-- an event that gets a position
entered_asks : (c : Setup) (t : Table) (index id k : ℕ) (kept : Kept) → IsSoundTable c t → k < t.size → release_cost c ≤ 524287
    → Asks (IsHeard c) (2 + release_cost c) (events.entered c t index id k kept)
entered_asks c t index id k kept sound lt low =
    wider (IsHeard c) (1 + (1 + release_cost c)) (2 + release_cost c) _ (omega arith)
    (follow_asks (IsHeard c) 1 (1 + release_cost c) (waits.write_volume t.volume (k + 1)) _ kept
    (once_asks (IsHeard c) _ (write_volume_once t.volume (k + 1) kept))
    (λ stored now. follow_asks (IsHeard c) 1 (release_cost c) (posts.post c (slot_block t k) index) _ now
    (alone_asks c (slot_block t k) index now (sound.alone k lt).1) (λ posted later. freed_asks c t id _ later low)))

-- an event that was counted
counted_asks : (c : Setup) (t : Table) (index id k : ℕ) (kept : Kept) → IsSoundTable c t → release_cost c ≤ 524287
    → Asks (IsHeard c) (2 + release_cost c) (events.count_read c t index id k kept)
counted_asks c t index id k kept sound low = go (nat_lt k t.size) refl where
  go : (b : Bool) → nat_lt k t.size ≡ b → Asks (IsHeard c) (2 + release_cost c)
      (cond b (events.entered c t index id k) (events.freed c t id (Err (Broken k))) kept)
  go true is = entered_asks c t index id k kept sound (ltb-true k t.size is) low
  go false is = wider (IsHeard c) (release_cost c) (2 + release_cost c) _ (omega arith) (freed_asks c t id _ kept low)

-- what follows the post of an event
event_posted_asks : (c : Setup) (t : Table) (index id : ℕ) (p : PostAnswer) (kept : Kept) → IsSoundTable c t → release_cost c ≤ 524287
    → Asks (IsHeard c) (3 + release_cost c) (events.event_posted c t index id p kept)
event_posted_asks c t index id (answer.Already code) kept sound low =
    wider (IsHeard c) (release_cost c) (3 + release_cost c) _ (omega arith) (freed_asks c t id _ kept low)
event_posted_asks c t index id answer.Posted kept sound low =
    wider (IsHeard c) (1 + (2 + release_cost c)) (3 + release_cost c) _ (omega arith)
    (follow_asks (IsHeard c) 1 (2 + release_cost c) (waits.read_volume t.volume) (events.count_read c t index id) kept
    (once_asks (IsHeard c) _ (read_volume_once t.volume kept)) (λ k now. counted_asks c t index id k now sound low))
event_posted_asks c t index id answer.Woke kept sound low =
    wider (IsHeard c) (1 + (2 + release_cost c)) (3 + release_cost c) _ (omega arith)
    (follow_asks (IsHeard c) 1 (2 + release_cost c) (waits.read_volume t.volume) (events.count_read c t index id) kept
    (once_asks (IsHeard c) _ (read_volume_once t.volume kept)) (λ k now. counted_asks c t index id k now sound low))

-- what follows the obtain
with_latch_asks : (c : Setup) (t : Table) (index code : ℕ) (got : Result latches.Requested Refusal) (kept : Kept) → IsSoundTable c t
    → index < t.size → release_cost c ≤ 524287 → Asks (IsHeard c) (4 + release_cost c) (events.with_latch c t index code got kept)
with_latch_asks c t index code (Ok (latches.GrantedAs id)) kept sound lt low =
    wider (IsHeard c) (1 + (3 + release_cost c)) (4 + release_cost c) _ (omega arith)
    (follow_asks (IsHeard c) 1 (3 + release_cost c) (posts.post c (event_block t index) code) (events.event_posted c t index id) kept
    (alone_asks c (event_block t index) code kept (sound.alone index lt).0)
    (λ p now. event_posted_asks c t index id p now sound low))
with_latch_asks c t index code (Ok (latches.PendingAs id)) kept sound lt low = none_asks (IsHeard c) _ Wrong tt
with_latch_asks c t index code (Err why) kept sound lt low = none_asks (IsHeard c) _ (Done (Err why)) tt

-- a post of an event
post_event_asks : (c : Setup) (t : Table) (index code : ℕ) (kept : Kept) → IsSoundTable c t → index < t.size → 6 + release_cost c ≤ 524287
    → Asks (IsHeard c) (6 + release_cost c) (events.post_event c t index code kept)
post_event_asks c t index code kept sound lt low =
    wider (IsHeard c) (2 + (4 + release_cost c)) (6 + release_cost c) _ (omega arith)
    (follow_asks (IsHeard c) 2 (4 + release_cost c)
    (latches.obtain c t.latch (events.event_requestor kept.caller) Exclusive form_of.Waiting) (events.with_latch c t index code) kept
    (obtain_asks (IsHeard c) c t.latch (events.event_requestor kept.caller) Exclusive form_of.Waiting kept)
    (λ got now. with_latch_asks c t index code got now sound lt (omega arith)))

-- what follows the wait for a slot
slot_found_asks : (P : Heard → Type 0) (t : Table) (a : Result (List WaitSlot) Refusal) (kept : Kept)
    → Asks P 1 (events.slot_found t a kept)
slot_found_asks P t (Ok (wait_slot.Complete index ∷ [])) kept = go (nat_lt index t.size) where
  go : (b : Bool) → Asks P 1 (cond b (events.handed_out t index) (finished (Err (Strange index))) kept)
  go true = wider P (1 + 0) 1 _ (omega arith)
      (follow_asks P 1 0 (waits.test_ecb (event_block t index)) (λ word. finished (Ok (record { index = index; word = word }))) kept
      (once_asks P _ (test_ecb_once (event_block t index) kept)) (λ word now. none_asks P 0 (Done _) tt))
  go false = none_asks P 1 (Done _) tt
slot_found_asks P t a kept = none_asks P 1 Wrong tt

-- the next event
next_event_asks : (P : Heard → Type 0) (c : Setup) (t : Table) (position : ℕ) (kept : Kept)
    → Asks P 3 (events.next_event c t position kept)
next_event_asks P c t position kept =
    unless_asks P 3 (events.next_event_refusal t position kept) _
    (wider P (2 + 1) 3 _ (omega arith)
    (follow_asks P 2 1 (waits.wait c 1 (slot_block t position ∷ [])) (events.slot_found t) kept
    (wait_asks P c 1 (slot_block t position ∷ []) kept) (λ a now. slot_found_asks P t a now)))

-- ---- each call

-- each call by its row
call_asks : (c : Setup) (kept : Kept) (s : Service) → HasItsTable c s → most_events c kept s ≤ 524287
    → Asks (IsHeard c) (most_events c kept s) (program c s kept)
call_asks c kept (services.Wait count blocks) its low = wait_asks (IsHeard c) c count blocks kept
call_asks c kept (services.Post block code) its low = by_exits c _ _ (post_asks c code block kept low)
call_asks c kept (services.TryPost block expected code) its low = once_asks (IsHeard c) _ (try_post_once block expected code kept)
call_asks c kept (services.Clear block) its low = once_asks (IsHeard c) _ (clear_once c block kept)
call_asks c kept (services.Extend block exit) its low = once_asks (IsHeard c) _ (extend_once c block exit kept)
call_asks c kept (services.TestEcb block) its low = once_asks (IsHeard c) _ (test_ecb_once block kept)
call_asks c kept (services.ReadVolume volume) its low = once_asks (IsHeard c) _ (read_volume_once volume kept)
call_asks c kept (services.WriteVolume volume number) its low = once_asks (IsHeard c) _ (write_volume_once volume number kept)
call_asks c kept services.Allocate its low = once_asks (IsHeard c) _ (allocate_once c kept)
call_asks c kept (services.Pause token) its low = pause_asks (IsHeard c) c token kept
call_asks c kept (services.Release token code) its low = once_asks (IsHeard c) _ (release_once token code kept)
call_asks c kept (services.TryRelease token expected code) its low = once_asks (IsHeard c) _ (try_release_once token expected code kept)
call_asks c kept (services.Transfer current target code) its low = transfer_asks (IsHeard c) c current target code kept
call_asks c kept (services.Deallocate token) its low = once_asks (IsHeard c) _ (deallocate_once c token kept)
call_asks c kept (services.TestElement element) its low = once_asks (IsHeard c) _ (test_element_once element kept)
call_asks c kept (services.Obtain latch requestor mode form) its low = obtain_asks (IsHeard c) c latch requestor mode form kept
call_asks c kept (services.CheckLatch latch id) its low = once_asks (IsHeard c) _ (check_latch_once latch id kept)
call_asks c kept (services.ReleaseLatch latch id conditional) its low =
    cost_asks c _ _ _ low (λ h fits. let_go_asks c conditional h.wakes kept h.entry.reply fits)
call_asks c kept (services.Purge requestor) its low = purge_asks c requestor kept low
call_asks c kept (services.EndOfJob requestor block code) its low =
    ending_asks c requestor (Some block) code kept (omega arith) (omega arith)
call_asks c kept (services.EndOfTask requestor mother code) its low =
    wider (IsHeard c) _ _ _ (omega arith)
    (closes_ask (IsHeard c) kept (endings.used_elements c kept) (release_cost c + mother_events c mother) _
    (ending_asks c requestor mother code kept (omega arith) (omega arith)))
call_asks c kept (services.PostEvent table index code) its low = post_event_asks c table index code kept its.0 its.1 low
call_asks c kept (services.NextEvent table position) its low = next_event_asks (IsHeard c) c table position kept

-- as the law says it
pub call_needs : (c : Setup) (kept : Kept) (s : Service) (hs : List Heard) → HasItsTable c s → most_events c kept s ≤ 524287
    → NameOwnExits c hs → HaveFairWakes c hs → Says (program c s kept) hs → length hs ≤ most_events c kept s
call_needs c kept s hs its low own fair says = call_asks c kept s its low hs (heard_of c hs own fair) says

-- ---- in a log that is possible, what was heard is so

-- the last event of a log and what was told with it: its wakes are fair, and what was told before is that of the log before
told_apart : (c : Setup) (s : System) (k j : ℕ) (o : Object) (op : Op) (ws : List Wake) (xs ys : List (List Wake)) → j ≡ k
    → ((x : LatchOp) → AreFairWakes c (wakes k x s.latches.state)) → HasItsWakes o op ws
    → xs ++ told_at s k j o op ≡ ys ++ told_with o op ws → (xs ≡ ys) × AreFairWakes c ws
told_apart c s k j Latches (op_on.Latch op) ws xs ys own fair its e =
    let one : told_at s k j Latches (op_on.Latch op) ≡ wakes k op s.latches.state ∷ [] =
    ap (λ b. cond b (wakes j op s.latches.state ∷ []) []) (eq-eqb j k own) ∙ ap (λ i. wakes i op s.latches.state ∷ []) own in
    let same : xs ++ wakes k op s.latches.state ∷ [] ≡ ys ++ ws ∷ [] = ap (λ z. xs ++ z) (sym one) ∙ e in
    let last : wakes k op s.latches.state ≡ ws = last_same xs ys (wakes k op s.latches.state) ws same in (
      append_cancel_right xs ys (ws ∷ []) (ap (λ w. xs ++ w ∷ []) (sym last) ∙ same),
      subst (AreFairWakes c) last (fair op),
    )
told_apart c s k j o op ws xs ys own fair its e = (
  sym (append-nil xs) ∙ e ∙ append-nil ys,
  subst (AreFairWakes c) (sym its) (fair (Confirm 0 0)),
)

-- the wakes of a front of what was heard are its own
their_front : (hs : List Heard) (h : Heard) → HaveTheirWakes (hs ++ h ∷ []) → HaveTheirWakes hs
    × HasItsWakes h.entry.object h.entry.op h.wakes
their_front [] h w = (tt, w.0)
their_front (x ∷ hs) h w = let rest = their_front hs h w.1 in ((w.0, rest.0), rest.1)

-- the wakes of all that was heard are fair
pub heard_is_fair : (c : Setup) (k : ℕ) (log : List Entry) (shown : List (List Wake)) (hs : List Heard)
    → IsPossible c k (log ++ entries hs) (shown ++ told_by hs) → HaveTheirWakes hs → HaveFairWakes c hs
heard_is_fair c k log shown hs =
    by_last (λ xs. IsPossible c k (log ++ entries xs) (shown ++ told_by xs) → HaveTheirWakes xs → HaveFairWakes c xs)
    (λ p w. tt) step hs where
      step : (xs : List Heard) (h : Heard)
          → (IsPossible c k (log ++ entries xs) (shown ++ told_by xs) → HaveTheirWakes xs → HaveFairWakes c xs)
          → IsPossible c k (log ++ entries (xs ++ h ∷ [])) (shown ++ told_by (xs ++ h ∷ [])) → HaveTheirWakes (xs ++ h ∷ [])
          → HaveFairWakes c (xs ++ h ∷ [])
      step xs h ih p w =
          let logs : log ++ entries (xs ++ h ∷ []) ≡ (log ++ entries xs) ++ h.entry ∷ [] =
          ap (λ es. log ++ es) (entries-append xs (h ∷ [])) ∙ sym (append_assoc log (entries xs) (h.entry ∷ [])) in
          let tolds : shown ++ told_by (xs ++ h ∷ []) ≡ (shown ++ told_by xs) ++ told_with h.entry.object h.entry.op h.wakes =
          ap (λ ws. shown ++ ws) (told_by-append xs (h ∷ []))
          ∙ sym (append_assoc shown (told_by xs) (told_with h.entry.object h.entry.op h.wakes ++ []))
          ∙ ap (λ ws. (shown ++ told_by xs) ++ ws) (append-nil (told_with h.entry.object h.entry.op h.wakes)) in
          let q : IsPossible c k ((log ++ entries xs) ++ h.entry ∷ [])
          ((shown ++ told_by xs) ++ told_with h.entry.object h.entry.op h.wakes) =
          subst (IsPossible c k ((log ++ entries xs) ++ h.entry ∷ [])) tolds
          (subst (λ es. IsPossible c k es (shown ++ told_by (xs ++ h ∷ []))) logs p) in
          let b = last_is_behind c k (log ++ entries xs) h.entry _ q in
          let their = their_front xs h w in
          let apart = told_apart c (after c b.before) k h.entry.caller h.entry.object h.entry.op h.wakes (told c k b.before)
          (shown ++ told_by xs) b.caller (λ x. wakes_of_next c b.before k x b.legal) their.1 b.told in
          let front : IsPossible c k (log ++ entries xs) (shown ++ told_by xs) =
          subst (IsPossible c k (log ++ entries xs)) apart.0 (front_is_possible c k (log ++ entries xs) h.entry _ b) in
          all_push (λ x. AreFairWakes c x.wakes) xs h (ih front their.0) apart.1

-- so a call keeps to its events in such a log
pub call_keeps : (c : Setup) (k : ℕ) (kept : Kept) (s : Service) (log : List Entry) (shown : List (List Wake)) (hs : List Heard)
    → IsPossible c k (log ++ entries hs) (shown ++ told_by hs) → HaveTheirWakes hs → HasItsTable c s → most_events c kept s ≤ 524287
    → Says (program c s kept) hs → length hs ≤ most_events c kept s
call_keeps c k kept s log shown hs p w its low says =
    call_needs c kept s hs its low (call_exits c k log hs (shown ++ told_by hs) p) (heard_is_fair c k log shown hs p w) says
