-- Why a call on a table is refused, by its program.
use Rattle.std.proofs.Common.{◌≡◌, ◌==◌, ℕ, ◌+◌, if◌then◌else◌, ◌<◌, nat_lt, Bool, true, false, not, List, [], ◌∷◌, None}
use Rattle.std.proofs.Common.{Result, Ok, Err, subst}
use Rattle.std.proofs.lemmas.Bool.{lt-ltb}
use Rattle.std.specs.Option.{option_or}
use Rattle.mv_latch.specs.declared.operation.LatchOp.TheVariants as latch_op
use Rattle.mv_latch.specs.declared.operation.LatchReply.TheVariants as latch_reply
use Rattle.mv_latch.specs.declared.request.LatchForm.TheVariants.{Waiting}
use Rattle.mv_latch.specs.declared.request.Mode.TheVariants.{Exclusive}
use Rattle.mv_machine.specs.declared.entry.Object.TheVariants.{Latches}
use Rattle.mv_machine.specs.declared.entry.Op.TheVariants as op_on
use Rattle.mv_machine.specs.declared.entry.Reply.{Reply}
use Rattle.mv_machine.specs.declared.entry.Reply.TheVariants as reply_of
use Rattle.mv_machine.specs.Kept.{keeps_quotas}
use Rattle.mv_config.specs.Setup.{Setup}
use Rattle.mv_calls.specs.declared.table.Table.{Table}
use Rattle.mv_calls.specs.Events.{Entering, Finding, EnteredAt, WasComplete, event_requestor, freed, entered, count_read, event_posted}
use Rattle.mv_calls.specs.Events.{with_latch, post_event, handed_out, indexed, slot_found, next_event}
use Rattle.mv_calls.specs.Keeping.{Kept}
use Rattle.mv_calls.specs.LatchCalls.{Requested, GrantedAs, PendingAs, confirmed, obtained, obtain, release_latch}
use Rattle.mv_calls.specs.declared.outcomes.PostAnswer.{PostAnswer}
use Rattle.mv_calls.specs.declared.outcomes.PostAnswer.TheVariants as post_answer
use Rattle.mv_calls.specs.Posts.{post}
use Rattle.mv_calls.specs.Program.{Do, Done, Heard, IsDoneOn, on_latch, unless_refused, followed, finished}
use Rattle.mv_calls.specs.Refusal.{Refusal}
use Rattle.mv_calls.specs.Refusal as refusal
use Rattle.mv_calls.specs.Table.{event_block, slot_block}
use Rattle.mv_calls.specs.Waits.{refused_if, wait, test_ecb, read_volume, write_volume}
use Rattle.mv_calls.specs.declared.outcomes.WaitSlot.{WaitSlot}
use Rattle.mv_calls.specs.declared.outcomes.WaitSlot.TheVariants as wait_slot
use Rattle.mv_script.proofs.Cutting.{cut_followed}
use Rattle.mv_eventlaws.proofs.Programs.{goes_on, not_over, wrong_never, early_never, done_is}

-- what is said of a refusal, where there is one
abbrev pub IfRefused : {A : Type 0} → (Refusal → Type 0) → Result A Refusal → Type 0
IfRefused P (Ok a) = Unit {0}
IfRefused P (Err why) = P why

-- a post of an event may be refused for these
abbrev pub RefusesPost : Refusal → Type 0
RefusesPost refusal.Quota = Unit {0}
RefusesPost refusal.Purged = Unit {0}
RefusesPost (refusal.Broken count) = Unit {0}
RefusesPost why = ⊥

-- and the next event for these
abbrev pub RefusesNext : Refusal → Type 0
RefusesNext refusal.NotOwner = Unit {0}
RefusesNext refusal.Drained = Unit {0}
RefusesNext (refusal.Strange index) = Unit {0}
RefusesNext why = ⊥

-- a program that has answered
answers_so : {A : Type 0} (P : Result A Refusal → Type 0) (a answer : Result A Refusal) (hs : List Heard) → IsDoneOn (Done a) hs answer
    → P a → P answer
answers_so P a answer hs w h = subst P (done_is a hs answer w).1 h

-- ---- a post of an event

module _ (c : Setup) (t : Table) where
  -- the latch, which there is
  module _ (requestor : ℕ) (answer : Result Requested Refusal) where
    by_confirm : (id : ℕ) (reply : Reply) (hs : List Heard) → IsDoneOn (on_latch reply (confirmed id)) hs answer
        → IfRefused RefusesPost answer
    by_confirm id (reply_of.Latch (latch_reply.Granted same)) hs w = answers_so (IfRefused RefusesPost) (Ok (GrantedAs id)) answer hs w tt
    by_confirm id (reply_of.Latch latch_reply.Waiting) hs w = absurd (early_never hs answer w)
    by_confirm id (reply_of.Latch latch_reply.Gone) hs w = answers_so (IfRefused RefusesPost) (Err refusal.Purged) answer hs w tt
    by_confirm id (reply_of.Latch _) hs w = absurd (wrong_never hs answer w)
    by_confirm id _ hs w = absurd (wrong_never hs answer w)

    confirm : (id : ℕ) (hs : List Heard)
        → IsDoneOn (Do Latches (op_on.Latch (latch_op.Confirm t.latch id)) (λ h. on_latch h.entry.reply (confirmed id))) hs answer
        → IfRefused RefusesPost answer
    confirm id [] w = absurd (not_over _ _ _ answer w)
    confirm id (h ∷ hs) w = by_confirm id h.entry.reply hs (goes_on _ _ _ h hs answer w).rest

    by_reply : (reply : Reply) (hs : List Heard) → IsDoneOn (on_latch reply (obtained t.latch Waiting)) hs answer
        → IfRefused RefusesPost answer
    by_reply (reply_of.Latch (latch_reply.Granted id)) hs w = answers_so (IfRefused RefusesPost) (Ok (GrantedAs id)) answer hs w tt
    by_reply (reply_of.Latch (latch_reply.Queued id)) hs w = confirm id hs w
    by_reply (reply_of.Latch _) hs w = absurd (wrong_never hs answer w)
    by_reply _ hs w = absurd (wrong_never hs answer w)

    asked : (hs : List Heard)
        → IsDoneOn (Do Latches (op_on.Latch (latch_op.Obtain t.latch requestor Exclusive Waiting))
        (λ h. on_latch h.entry.reply (obtained t.latch Waiting))) hs answer
        → IfRefused RefusesPost answer
    asked [] w = absurd (not_over _ _ _ answer w)
    asked (h ∷ hs) w = by_reply h.entry.reply hs (goes_on _ _ _ h hs answer w).rest

    obtain_refused : t.latch < c.latches → (kept : Kept) (hs : List Heard)
        → IsDoneOn (obtain c t.latch requestor Exclusive Waiting kept) hs answer → IfRefused RefusesPost answer
    obtain_refused lt kept hs w = go (nat_lt t.latch c.latches) (keeps_quotas c kept.requests Waiting) (lt-ltb t.latch c.latches lt) w where
      go : (b q : Bool) → b ≡ true
          → IsDoneOn (unless_refused
          (option_or (refused_if (not b) refusal.BadLatch) (option_or None (refused_if (not q) refusal.Quota)))
          (Do Latches (op_on.Latch (latch_op.Obtain t.latch requestor Exclusive Waiting))
          (λ h. on_latch h.entry.reply (obtained t.latch Waiting)))) hs answer
          → IfRefused RefusesPost answer
      go false q e w = absurd (cc e)
      go true false e w = answers_so (IfRefused RefusesPost) (Err refusal.Quota) answer hs w tt
      go true true e w = asked hs w

  module _ (answer : Result Entering Refusal) where
    -- with the release nothing is refused that was not
    when_freed : (id : ℕ) (a : Result Entering Refusal) (kept : Kept) (hs : List Heard) → IsDoneOn (freed c t id a kept) hs answer
        → IfRefused RefusesPost a → IfRefused RefusesPost answer
    when_freed id a kept hs w h =
        let cut = cut_followed (release_latch c t.latch id false) (λ released. finished a) kept hs answer w in
        answers_so (IfRefused RefusesPost) a answer cut.later cut.goes_on h

    when_entered : (index id k : ℕ) (kept : Kept) (hs : List Heard) → IsDoneOn (entered c t index id k kept) hs answer
        → IfRefused RefusesPost answer
    when_entered index id k kept hs w =
        let write = cut_followed (write_volume t.volume (k + 1)) (λ stored.
        followed (post c (slot_block t k) index) (λ posting. freed c t id (Ok (EnteredAt k)))) kept hs answer w in
        let tell = cut_followed (post c (slot_block t k) index) (λ posting. freed c t id (Ok (EnteredAt k))) _ write.later answer
        write.goes_on in
        when_freed id (Ok (EnteredAt k)) _ tell.later tell.goes_on tt

    when_counted : (index id k : ℕ) (kept : Kept) (hs : List Heard) → IsDoneOn (count_read c t index id k kept) hs answer
        → IfRefused RefusesPost answer
    when_counted index id k kept hs w = go (nat_lt k t.size) w where
      go : (b : Bool) → IsDoneOn ((if b then entered c t index id k else freed c t id (Err (refusal.Broken k))) kept) hs answer
          → IfRefused RefusesPost answer
      go true w = when_entered index id k kept hs w
      go false w = when_freed id (Err (refusal.Broken k)) kept hs w tt

    when_read : (index id : ℕ) (kept : Kept) (hs : List Heard)
        → IsDoneOn (followed (read_volume t.volume) (count_read c t index id) kept) hs answer → IfRefused RefusesPost answer
    when_read index id kept hs w =
        let cut = cut_followed (read_volume t.volume) (count_read c t index id) kept hs answer w in
        when_counted index id cut.first _ cut.later cut.goes_on

    when_posted : (index id : ℕ) (p : PostAnswer) (kept : Kept) (hs : List Heard) → IsDoneOn (event_posted c t index id p kept) hs answer
        → IfRefused RefusesPost answer
    when_posted index id (post_answer.Already code) kept hs w = when_freed id (Ok (WasComplete code)) kept hs w tt
    when_posted index id post_answer.Posted kept hs w = when_read index id kept hs w
    when_posted index id post_answer.Woke kept hs w = when_read index id kept hs w

    when_obtained : (index code : ℕ) (o : Result Requested Refusal) (kept : Kept) (hs : List Heard)
        → IsDoneOn (with_latch c t index code o kept) hs answer → IfRefused RefusesPost o → IfRefused RefusesPost answer
    when_obtained index code (Ok (GrantedAs id)) kept hs w h =
        let cut = cut_followed (post c (event_block t index) code) (event_posted c t index id) kept hs answer w in
        when_posted index id cut.first _ cut.later cut.goes_on
    when_obtained index code (Ok (PendingAs id)) kept hs w h = absurd (wrong_never hs answer w)
    when_obtained index code (Err why) kept hs w h = answers_so (IfRefused RefusesPost) (Err why) answer hs w h

    pub post_refused : (index code : ℕ) (kept : Kept) (hs : List Heard) → t.latch < c.latches
        → IsDoneOn (post_event c t index code kept) hs answer → IfRefused RefusesPost answer
    post_refused index code kept hs lt w =
        let cut = cut_followed (obtain c t.latch (event_requestor kept.caller) Exclusive Waiting) (with_latch c t index code) kept hs answer
        w in
        when_obtained index code cut.first _ cut.later cut.goes_on
        (obtain_refused (event_requestor kept.caller) cut.first lt kept cut.piece cut.done)

  -- ---- the next event

  module _ (answer : Result Finding Refusal) where
    when_indexed : (index : ℕ) (kept : Kept) (hs : List Heard) → IsDoneOn (indexed t index kept) hs answer → IfRefused RefusesNext answer
    when_indexed index kept hs w = go (nat_lt index t.size) w where
      go : (b : Bool) → IsDoneOn ((if b then handed_out t index else finished (Err (refusal.Strange index))) kept) hs answer
          → IfRefused RefusesNext answer
      go true w =
          let cut = cut_followed (test_ecb (event_block t index)) (λ word. finished (Ok (record { index = index; word = word }))) kept hs
          answer w in
          answers_so (IfRefused RefusesNext) (Ok (record { index = index; word = cut.first })) answer cut.later cut.goes_on tt
      go false w = answers_so (IfRefused RefusesNext) (Err (refusal.Strange index)) answer hs w tt

    when_found : (found : Result (List WaitSlot) Refusal) (kept : Kept) (hs : List Heard) → IsDoneOn (slot_found t found kept) hs answer
        → IfRefused RefusesNext answer
    when_found (Ok (wait_slot.Complete index ∷ [])) kept hs w = when_indexed index kept hs w
    when_found (Ok []) kept hs w = absurd (wrong_never hs answer w)
    when_found (Ok (wait_slot.Open ∷ slots)) kept hs w = absurd (wrong_never hs answer w)
    when_found (Ok (wait_slot.Complete index ∷ other ∷ slots)) kept hs w = absurd (wrong_never hs answer w)
    when_found (Err why) kept hs w = absurd (wrong_never hs answer w)

    pub next_refused : (position : ℕ) (kept : Kept) (hs : List Heard) → IsDoneOn (next_event c t position kept) hs answer
        → IfRefused RefusesNext answer
    next_refused position kept hs w = go (t.owner == kept.caller) (nat_lt position t.size) w where
      go : (a b : Bool)
          → IsDoneOn (unless_refused
          (option_or (refused_if (not a) refusal.NotOwner) (refused_if (not b) refusal.Drained))
          (followed (wait c 1 (slot_block t position ∷ [])) (slot_found t) kept)) hs answer
          → IfRefused RefusesNext answer
      go false b w = answers_so (IfRefused RefusesNext) (Err refusal.NotOwner) answer hs w tt
      go true false w = answers_so (IfRefused RefusesNext) (Err refusal.Drained) answer hs w tt
      go true true w =
          let cut = cut_followed (wait c 1 (slot_block t position ∷ [])) (slot_found t) kept hs answer w in
          when_found cut.first _ cut.later cut.goes_on
