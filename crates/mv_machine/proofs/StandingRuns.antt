-- Along a legal list a caller's requests stand by its own entries.
use Rattle.std.proofs.Common.{◌≡◌, ◌<◌, ℕ, nat_lt, Bool, true, false, not, ◌&&◌, List, [], ◌∷◌, ◌++◌, length, set, cond, inl}
use Rattle.std.proofs.Common.{inr, refl, sym, subst, arith}
use Rattle.std.specs.List.{Contains, list_any}
use Rattle.std.proofs.lemmas.Bool.{cases_eq, false≢true, eq-eqb, ne_eqb, and_parts}
use Rattle.std.proofs.lemmas.Bool.Decides.{nat_tests}
use Rattle.mv_latch.specs.declared.operation.LatchOp.{LatchOp}
use Rattle.mv_latch.specs.declared.operation.LatchOp.TheVariants.{Obtain, Confirm, Release, Purge}
use Rattle.mv_latch.specs.declared.operation.LatchReply.{LatchReply}
use Rattle.mv_latch.specs.declared.operation.LatchReply.TheVariants.{Granted, Queued, NotNow, Waiting, Gone, Released}
use Rattle.mv_latch.specs.declared.request.LatchForm.{LatchForm}
use Rattle.mv_latch.specs.declared.request.Mode.{Mode}
use Rattle.mv_latch.specs.declared.request.Request.{Request}
use Rattle.mv_latch.specs.Latch.{granted, grants, blocker, obtain_step, confirm_reply, release_step, newly_granted, without}
use Rattle.mv_latch.specs.LatchSet.{list_of, latch_admitted, latch_step}
use Rattle.mv_latch.specs.Request.{queues, of_caller, of_requestor, is_own}
use Rattle.mv_latch.proofs.Changes.{list_replaced, list_elsewhere, list_purged}
use Rattle.mv_machine.specs.declared.entry.Entry.{Entry}
use Rattle.mv_machine.specs.declared.entry.Object.{Object}
use Rattle.mv_machine.specs.declared.entry.Object.TheVariants.{Ecb, Element, Volume, Latches}
use Rattle.mv_machine.specs.declared.entry.Op.{Op}
use Rattle.mv_machine.specs.declared.entry.Op.TheVariants as op_on
use Rattle.mv_machine.specs.declared.entry.Reply.{Reply}
use Rattle.mv_machine.specs.declared.entry.Reply.TheVariants as reply_of
use Rattle.mv_machine.specs.Kept.{StandingRequest, stands_after, stands_with, standing_from, standing}
use Rattle.mv_machine.specs.Legal.{IsNext, next, after_from, LegalFrom, Legal, after, of}
use Rattle.mv_config.specs.Setup.{Setup}
use Rattle.mv_machine.specs.System.{System, opening, moved, latches_of, admitted}
use Rattle.mv_machine.proofs.EntryRuns.{entry_of}
use Rattle.mv_machine.proofs.LatchRuns.{list_at, empty_list}
use Rattle.mv_machine.proofs.Standing.{stood, Within, within_kept_more, mine, is_mine, mine_within_left, within_released}
use Rattle.mv_machine.proofs.Standing.{within_elsewhere, within_purged, within_gone, within_obtained, mine_not_pushed, has_within}

-- a caller's requests of a list stand at a latch
abbrev pub Stand : ℕ → ℕ → List Request → List StandingRequest → Type 0
Stand k latch qs ts = Within latch (mine k qs) ts

-- and so in each list
abbrev pub AllLatches : ℕ → List (List Request) → List StandingRequest → Type 0
AllLatches k lists ts = (latch : ℕ) → Stand k latch (list_of lists latch) ts

-- ---- the caller's own operation, at the latch that it names
obtained : (k latch place requestor : ℕ) (mode : Mode) (form : LatchForm) (qs : List Request) (ts : List StandingRequest)
    → Stand k latch qs ts
    → let r : Request = record { id = place; caller = k; requestor = requestor; mode = mode; form = form } in
    Stand k latch (obtain_step r qs).0 (stands_after k ts (Obtain latch requestor mode form) (obtain_step r qs).1)
obtained k latch place requestor mode form qs ts w =
    let r : Request = record { id = place; caller = k; requestor = requestor; mode = mode; form = form } in
    let more : Stand k latch (qs ++ r ∷ []) (ts ++ stood latch r ∷ []) = within_obtained k latch r qs ts (eq-eqb k k refl) w in
    go (grants qs r) (queues form) more where
      go : (b d : Bool) → let r : Request = record { id = place; caller = k; requestor = requestor; mode = mode; form = form } in
          Stand k latch (qs ++ r ∷ []) (ts ++ stood latch r ∷ [])
          → let z : List Request × LatchReply =
          cond b (qs ++ r ∷ [], Granted place) (cond d (qs ++ r ∷ [], Queued place) (qs, NotNow (blocker r qs))) in
          Stand k latch z.0 (stands_after k ts (Obtain latch requestor mode form) z.1)
      go true d more = more
      go false true more = more
      go false false more = w

confirmed : (k latch id : ℕ) (qs : List Request) (ts : List StandingRequest) → Stand k latch qs ts
    → Stand k latch qs (stands_after k ts (Confirm latch id) (confirm_reply k id qs))
confirmed k latch id qs ts w = go (list_any (is_own k id) (granted qs)) (list_any (is_own k id) qs) refl where
  go : (b d : Bool) → list_any (is_own k id) qs ≡ d
      → Stand k latch qs (stands_after k ts (Confirm latch id) (cond b (Granted id) (cond d Waiting Gone)))
  go true d e = w
  go false true e = w
  go false false e = within_gone k latch id qs ts e w

released : (k latch id : ℕ) (conditional : Bool) (qs : List Request) (ts : List StandingRequest) → Stand k latch qs ts
    → let z : List Request × LatchReply = release_step k id conditional qs in
    Stand k latch z.0 (stands_after k ts (Release latch id conditional) z.1)
released k latch id conditional qs ts w =
    go (list_any (is_own k id) qs) (conditional && not (list_any (is_own k id) (granted qs))) refl where
      go : (b d : Bool) → list_any (is_own k id) qs ≡ b
          → let z : List Request × LatchReply =
          cond (not b) (qs, Gone) (cond d (qs, Waiting) (without k id qs, Released (length (newly_granted qs (without k id qs))))) in
          Stand k latch z.0 (stands_after k ts (Release latch id conditional) z.1)
      go false d e = within_gone k latch id qs ts e w
      go true true e = w
      go true false e = within_released k latch id qs ts w

-- ---- and at any other
obtained_elsewhere : (k other latch requestor : ℕ) (mode : Mode) (form : LatchForm) (reply : LatchReply) (qs : List Request)
    (ts : List StandingRequest)
    → Within other qs ts
    → Within other qs (stands_after k ts (Obtain latch requestor mode form) reply)
obtained_elsewhere k other latch requestor mode form (Granted id) qs ts w = within_kept_more other qs ts _ w
obtained_elsewhere k other latch requestor mode form (Queued id) qs ts w = within_kept_more other qs ts _ w
obtained_elsewhere k other latch requestor mode form reply qs ts w = w

confirmed_elsewhere : (k other latch id : ℕ) (reply : LatchReply) (qs : List Request) (ts : List StandingRequest) → (other ≡ latch → ⊥)
    → Within other qs ts
    → Within other qs (stands_after k ts (Confirm latch id) reply)
confirmed_elsewhere k other latch id Gone qs ts apart w = within_elsewhere other latch id qs ts apart w
confirmed_elsewhere k other latch id reply qs ts apart w = w

released_elsewhere : (k other latch id : ℕ) (conditional : Bool) (reply : LatchReply) (qs : List Request) (ts : List StandingRequest)
    → (other ≡ latch → ⊥) → Within other qs ts
    → Within other qs (stands_after k ts (Release latch id conditional) reply)
released_elsewhere k other latch id conditional Gone qs ts apart w = within_elsewhere other latch id qs ts apart w
released_elsewhere k other latch id conditional (Released n) qs ts apart w = within_elsewhere other latch id qs ts apart w
released_elsewhere k other latch id conditional reply qs ts apart w = w

-- ---- each list after an operation
-- the latch that is named exists
abbrev pub NamesLatch : LatchOp → List (List Request) → Type 0
NamesLatch (Obtain latch requestor mode form) lists = latch < length lists
NamesLatch (Confirm latch id) lists = latch < length lists
NamesLatch (Release latch id conditional) lists = latch < length lists
NamesLatch (Purge requestor) lists = Unit {0}

pub names_latch : (c : Setup) (k : ℕ) (op : LatchOp) (lists : List (List Request)) → latch_admitted k op (latches_of c lists) ≡ true
    → NamesLatch op lists
names_latch c k (Obtain latch requestor mode form) lists a =
    let lt : nat_lt latch (length lists) ≡ true = (and_parts _ _ a).0 in grind (arith, nat_tests)
names_latch c k (Confirm latch id) lists a = grind (arith, nat_tests)
names_latch c k (Release latch id conditional) lists a = grind (arith, nat_tests)
names_latch c k (Purge requestor) lists a = tt

-- what is so at one latch and at each other is so at all
everywhere : (P : ℕ → Type 0) (latch : ℕ) → P latch → ((other : ℕ) → (other ≡ latch → ⊥) → P other) → (other : ℕ) → P other
everywhere P latch here there other = elim (cases_eq other latch) [ inl e ↦ subst P (sym e) here | inr apart ↦ there other apart ]

replaced : (k latch : ℕ) (lists : List (List Request)) (qs : List Request) (ts : List StandingRequest) → latch < length lists
    → Stand k latch qs ts → ((other : ℕ) → (other ≡ latch → ⊥) → Stand k other (list_of lists other) ts)
    → AllLatches k (set lists latch qs) ts
replaced k latch lists qs ts lt here there =
    everywhere (λ other. Stand k other (list_of (set lists latch qs) other) ts) latch (rw (list_replaced lists latch qs lt) here)
    (λ other apart. rw (list_elsewhere lists latch other qs apart) (there other apart))

own_step : (k place : ℕ) (op : LatchOp) (lists : List (List Request)) (ts : List StandingRequest) → NamesLatch op lists
    → AllLatches k lists ts → AllLatches k (latch_step k place op lists).0 (stands_after k ts op (latch_step k place op lists).1)
own_step k place (Obtain latch requestor mode form) lists ts lt w =
    replaced k latch lists _ _ lt (obtained k latch place requestor mode form (list_of lists latch) ts (w latch))
    (λ other apart. obtained_elsewhere k other latch requestor mode form _ (mine k (list_of lists other)) ts (w other))
own_step k place (Confirm latch id) lists ts lt w =
    let us : List StandingRequest = stands_after k ts (Confirm latch id) (confirm_reply k id (list_of lists latch)) in
    everywhere (λ other. Stand k other (list_of lists other) us) latch (confirmed k latch id (list_of lists latch) ts (w latch))
    (λ other apart. confirmed_elsewhere k other latch id _ (mine k (list_of lists other)) ts apart (w other))
own_step k place (Release latch id conditional) lists ts lt w =
    replaced k latch lists _ _ lt (released k latch id conditional (list_of lists latch) ts (w latch))
    (λ other apart. released_elsewhere k other latch id conditional _ (mine k (list_of lists other)) ts apart (w other))
own_step k place (Purge requestor) lists ts lt w =
    λ other. rw (list_purged requestor lists other) (within_purged k other requestor (list_of lists other) ts (w other))

-- ---- another caller's operation brings none of the caller's requests
either : (k latch : ℕ) (ts : List StandingRequest) (b : Bool) (x y : List Request × LatchReply) → Stand k latch x.0 ts
    → Stand k latch y.0 ts → Stand k latch (cond b x y).0 ts
either k latch ts true x y wx wy = wx
either k latch ts false x y wx wy = wy

obtained_by : (k latch : ℕ) (r : Request) (qs : List Request) (ts : List StandingRequest) → of_caller k r ≡ false → Stand k latch qs ts
    → Stand k latch (obtain_step r qs).0 ts
obtained_by k latch r qs ts other w =
    let more : Stand k latch (qs ++ r ∷ []) ts = rw (mine_not_pushed k r qs other) w in
    search either

released_by : (k j latch id : ℕ) (conditional : Bool) (qs : List Request) (ts : List StandingRequest) → Stand k latch qs ts
    → Stand k latch (release_step j id conditional qs).0 ts
released_by k j latch id conditional qs ts w =
    let fewer : Stand k latch (without j id qs) ts = mine_within_left k latch (λ q. not (is_own j id q)) qs ts w in
    search either

other_step : (k j place : ℕ) (op : LatchOp) (lists : List (List Request)) (ts : List StandingRequest) → (j ≡ k → ⊥) → NamesLatch op lists
    → AllLatches k lists ts → AllLatches k (latch_step j place op lists).0 ts
other_step k j place (Obtain latch requestor mode form) lists ts apart lt w =
    replaced k latch lists _ ts lt
    (obtained_by k latch (record { id = place; caller = j; requestor = requestor; mode = mode; form = form }) (list_of lists latch) ts
    (ne_eqb j k apart) (w latch)) (λ other _. w other)
other_step k j place (Confirm latch id) lists ts apart lt w = w
other_step k j place (Release latch id conditional) lists ts apart lt w =
    replaced k latch lists _ ts lt (released_by k j latch id conditional (list_of lists latch) ts (w latch)) (λ other _. w other)
other_step k j place (Purge requestor) lists ts apart lt w =
    λ other. rw (list_purged requestor lists other)
    (mine_within_left k other (λ q. not (of_requestor requestor q)) (list_of lists other) ts (w other))

-- ---- one entry
pub names_of : (c : Setup) (s : System) (k : ℕ) (op : LatchOp) → admitted c s k Latches (op_on.Latch op) ≡ true
    → NamesLatch op s.latches.state
names_of c s k op a = names_latch c k op s.latches.state (and_parts _ _ a).1

own_entry : (c : Setup) (s : System) (k : ℕ) (o : Object) (p : ℕ) (op : Op) (r : Reply) (ts : List StandingRequest)
    → IsNext c s (entry_of k o p op r) → AllLatches k s.latches.state ts
    → AllLatches k (moved s k o op).latches.state (stands_with k ts o op r)
own_entry c s k Latches p (op_on.Latch op) (reply_of.Latch y) ts h w =
    let e : y ≡ (latch_step k s.latches.place op s.latches.state).1 = cc h.reply in
    rw e (own_step k s.latches.place op s.latches.state ts (names_of c s k op h.admits) w)
own_entry c s k Latches p (op_on.Latch op) r ts h w = absurd (cc h.reply)
own_entry c s k (Ecb m) p (op_on.Ecb op) r ts h w = w
own_entry c s k (Element m) p (op_on.Element op) r ts h w = w
own_entry c s k (Volume m) p (op_on.Volume op) r ts h w = w
own_entry c s k o p op r ts h w = absurd (false≢true h.admits)

other_entry : (c : Setup) (s : System) (k j : ℕ) (o : Object) (p : ℕ) (op : Op) (r : Reply) (ts : List StandingRequest) → (j ≡ k → ⊥)
    → IsNext c s (entry_of j o p op r) → AllLatches k s.latches.state ts
    → AllLatches k (moved s j o op).latches.state ts
other_entry c s k j Latches p (op_on.Latch op) r ts apart h w =
    other_step k j s.latches.place op s.latches.state ts apart (names_of c s j op h.admits) w
other_entry c s k j (Ecb m) p (op_on.Ecb op) r ts apart h w = w
other_entry c s k j (Element m) p (op_on.Element op) r ts apart h w = w
other_entry c s k j (Volume m) p (op_on.Volume op) r ts apart h w = w
other_entry c s k j o p op r ts apart h w = absurd (false≢true h.admits)

-- ---- a legal list
stand_along : (c : Setup) (s : System) (k : ℕ) (es : List Entry) (ts : List StandingRequest) → LegalFrom c s es
    → AllLatches k s.latches.state ts → AllLatches k (after_from s es).latches.state (standing_from ts (of k es))
stand_along c s k [] ts l w = w
stand_along c s k (e ∷ es) ts l w = elim (cases_eq e.caller k) [
  | inl own ↦
      let mid : AllLatches k (next s e).latches.state (stands_with e.caller ts e.object e.op e.reply) =
      subst (λ j. AllLatches j (next s e).latches.state (stands_with e.caller ts e.object e.op e.reply)) own
      (own_entry c s e.caller e.object e.place e.op e.reply ts l.0 (subst (λ j. AllLatches j s.latches.state ts) (sym own) w)) in
      rw (eq-eqb e.caller k own) (stand_along c (next s e) k es (stands_with e.caller ts e.object e.op e.reply) l.1 mid)
  | inr apart ↦
      rw (ne_eqb e.caller k apart)
      (stand_along c (next s e) k es ts l.1 (other_entry c s k e.caller e.object e.place e.op e.reply ts apart l.0 w))
]

pub stand : (c : Setup) (es : List Entry) (k : ℕ) → Legal c es → AllLatches k (after c es).latches.state (standing (of k es))
stand c es k l = stand_along c (opening c) k es [] l (λ latch. rw (empty_list c.latches latch) tt)

pub stands : (c : Setup) (es : List Entry) (latch : ℕ) (q : Request) → Legal c es → Contains (list_at (after c es) latch) q
    → Contains (standing (of q.caller es)) (stood latch q)
stands c es latch q l i =
    has_within latch q (mine q.caller (list_at (after c es) latch)) (standing (of q.caller es)) (stand c es q.caller l latch)
    (is_mine q.caller q (list_at (after c es) latch) (eq-eqb q.caller q.caller refl) i)
