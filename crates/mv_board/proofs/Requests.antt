-- A caller's own latch requests: their numbers are earlier than the place, one that no longer waits never waits again, and what
-- the lists say of one.
use Rattle.std.proofs.Common.{◌≡◌, ◌⊎◌, ℕ, ◌+◌, ◌<◌, ◌==◌, Bool, true, false, cond, List, [], ◌∷◌, ◌++◌, length, inl, inr, ⊎_elim, refl}
use Rattle.std.proofs.Common.{sym, ◌∙◌, subst, arith}
use Rattle.std.proofs.lemmas.Bool.{false≢true, true≢false, eqb-true}
use Rattle.std.proofs.lemmas.List.{length-replicate}
use Rattle.std.specs.List.{list_any}
use mathlib.Core.Logic.{dite}
use native.Mathlib.Decide.{ℕ_discrete}
use Rattle.mv_latch.specs.declared.operation.LatchOp.TheVariants.{Obtain}
use Rattle.mv_latch.specs.declared.operation.LatchReply.{LatchReply}
use Rattle.mv_latch.specs.declared.operation.LatchReply.TheVariants.{Granted, Queued, NotNow, Waiting, Gone}
use Rattle.mv_latch.specs.declared.request.Request.{Request}
use Rattle.mv_latch.specs.Latch.{granted, grants, blocker, obtain_step, confirm_reply, is_settled}
use Rattle.mv_latch.specs.LatchSet.{list_of}
use Rattle.mv_latch.specs.Request.{is_own, queues}
use Rattle.mv_machine.specs.declared.entry.Entry.{Entry}
use Rattle.mv_machine.specs.declared.entry.Object.{Object}
use Rattle.mv_machine.specs.declared.entry.Object.TheVariants.{Latches}
use Rattle.mv_machine.specs.declared.entry.Op.{Op}
use Rattle.mv_machine.specs.declared.entry.Op.TheVariants as op_on
use Rattle.mv_machine.specs.declared.entry.Reply.{Reply}
use Rattle.mv_machine.specs.declared.entry.Reply.TheVariants as reply_of
use Rattle.mv_machine.specs.Legal.{IsNext, LegalFrom, Legal, after, after_from, next, of}
use Rattle.mv_machine.specs.Owned.{IsGranted, IsGone}
use Rattle.mv_config.specs.Setup.{Setup}
use Rattle.mv_machine.specs.System.{System, opening, place_of, moved}
use Rattle.mv_machine.proofs.Allowed.{lists_next}
use Rattle.mv_machine.proofs.EntryRuns.{entry_of}
use Rattle.mv_machine.proofs.GrantRuns.{gone_stays, granted_or_gone}
use Rattle.mv_machine.proofs.Histories.{place-after, place-moved}
use Rattle.mv_machine.proofs.Longer.{front_is_legal}
use Rattle.mv_machine.proofs.Places.{of_mine, of_other}
use Rattle.mv_machine.proofs.StandingRuns.{names_of}
use Rattle.mv_machine.specs.Kept.{makes, HasMade}

-- ---- the number of a request is the place of the event that made it

-- the reply of an obtain that makes a request
obtained : (r : Request) (qs : List Request) (i : ℕ) → ((obtain_step r qs).1 ≡ Granted i) ⊎ ((obtain_step r qs).1 ≡ Queued i) → r.id ≡ i
obtained r qs i e = go (grants qs r) (queues r.form) e
  where
    go : (b d : Bool)
        → let z : List Request × LatchReply =
        cond b (qs ++ r ∷ [], Granted r.id) (cond d (qs ++ r ∷ [], Queued r.id) (qs, NotNow (blocker r qs))) in
        (z.1 ≡ Granted i) ⊎ (z.1 ≡ Queued i) → r.id ≡ i
    go true d (inl e) = cc
    go true d (inr e) = absurd (cc e)
    go false true (inl e) = absurd (cc e)
    go false true (inr e) = cc
    go false false (inl e) = absurd (cc e)
    go false false (inr e) = absurd (cc e)

same_request : (l latch i id : ℕ) → cond (l == latch) (i == id) false ≡ true → (l ≡ latch) × (i ≡ id)
same_request l latch i id e = go (l == latch) refl e
  where
    go : (b : Bool) → (l == latch) ≡ b → cond b (i == id) false ≡ true → (l ≡ latch) × (i ≡ id)
    go true is e = (eqb-true l latch is, eqb-true i id e)
    go false is e = absurd (false≢true e)

makes_on : (c : Setup) (s : System) (k : ℕ) (o : Object) (p : ℕ) (op : Op) (r : Reply) (latch id : ℕ) → IsNext c s (entry_of k o p op r)
    → makes latch id op r ≡ true
    → (o ≡ Latches) × (s.latches.place ≡ id)
makes_on c s k Latches p (op_on.Latch (Obtain l requestor mode form)) (reply_of.Latch (Granted i)) latch id n m =
    let r : Request = record { id = s.latches.place; caller = k; requestor = requestor; mode = mode; form = form } in
    (refl, obtained r (list_of s.latches.state l) i (inl (cc (n.reply))) ∙ (same_request l latch i id m).1)
makes_on c s k Latches p (op_on.Latch (Obtain l requestor mode form)) (reply_of.Latch (Queued i)) latch id n m =
    let r : Request = record { id = s.latches.place; caller = k; requestor = requestor; mode = mode; form = form } in
    (refl, obtained r (list_of s.latches.state l) i (inr (cc (n.reply))) ∙ (same_request l latch i id m).1)
makes_on c s k o p (op_on.Latch (Obtain l requestor mode form)) (reply_of.Latch (Granted i)) latch id n m = absurd (false≢true n.admits)
makes_on c s k o p (op_on.Latch (Obtain l requestor mode form)) (reply_of.Latch (Queued i)) latch id n m = absurd (false≢true n.admits)
makes_on c s k o p op r latch id n m = absurd (false≢true m)

made_from : (c : Setup) (s : System) (es : List Entry) (k latch id : ℕ) → LegalFrom c s es → HasMade latch id (of k es)
    → id < place_of (after_from s es) Latches
made_from c s [] k latch id l m = absurd m
made_from c s (e ∷ es) k latch id l m = dite (ℕ_discrete e.caller k)
    (λ mine. ⊎_elim
    (λ (here : makes latch id e.op e.reply ≡ true).
    let on = makes_on c s e.caller e.object e.place e.op e.reply latch id l.0 here in
    let rises = place-moved c s e.caller Latches e.place e.op e.reply Latches
    (subst (λ o. IsNext c s (entry_of e.caller o e.place e.op e.reply)) on.0 l.0) in
    let there : place_of (next s e) Latches ≡ place_of s Latches + 1 =
    subst (λ o. place_of (moved s e.caller o e.op) Latches ≡ place_of s Latches + 1) (sym on.0) rises in
    let later = place-after c (next s e) es Latches l.1 in omega (arith, on.1, there, later))
    (λ later. made_from c (next s e) es k latch id l.1 later)
    (subst (HasMade latch id) (of_mine k e es mine) m))
    (λ other. made_from c (next s e) es k latch id l.1 (subst (HasMade latch id) (of_other k e es other) m))

pub made_earlier : (c : Setup) (h : List Entry) (k latch id : ℕ) → Legal c h → HasMade latch id (of k h) → id < place_of (after c h) Latches
made_earlier c h k latch id l m = made_from c (opening c) h k latch id l m

-- ---- its latch exists

names_on : (c : Setup) (s : System) (k : ℕ) (o : Object) (p : ℕ) (op : Op) (r : Reply) (latch id : ℕ) → IsNext c s (entry_of k o p op r)
    → makes latch id op r ≡ true → latch < length s.latches.state
names_on c s k Latches p (op_on.Latch (Obtain l requestor mode form)) (reply_of.Latch (Granted i)) latch id n m =
    subst (λ z. z < length s.latches.state) (same_request l latch i id m).0 (names_of c s k (Obtain l requestor mode form) n.admits)
names_on c s k Latches p (op_on.Latch (Obtain l requestor mode form)) (reply_of.Latch (Queued i)) latch id n m =
    subst (λ z. z < length s.latches.state) (same_request l latch i id m).0 (names_of c s k (Obtain l requestor mode form) n.admits)
names_on c s k o p (op_on.Latch (Obtain l requestor mode form)) (reply_of.Latch (Granted i)) latch id n m = absurd (false≢true n.admits)
names_on c s k o p (op_on.Latch (Obtain l requestor mode form)) (reply_of.Latch (Queued i)) latch id n m = absurd (false≢true n.admits)
names_on c s k o p op r latch id n m = absurd (false≢true m)

latch_from : (c : Setup) (s : System) (es : List Entry) (k latch id : ℕ) → length s.latches.state ≡ c.latches → LegalFrom c s es
    → HasMade latch id (of k es) → latch < c.latches
latch_from c s [] k latch id count l m = absurd m
latch_from c s (e ∷ es) k latch id count l m =
    let later : HasMade latch id (of k es) → latch < c.latches =
    latch_from c (next s e) es k latch id (lists_next c s e.caller e.object e.place e.op e.reply l.0 count) l.1 in
    dite (ℕ_discrete e.caller k)
    (λ mine. ⊎_elim
    (λ (here : makes latch id e.op e.reply ≡ true).
    subst (λ n. latch < n) count (names_on c s e.caller e.object e.place e.op e.reply latch id l.0 here))
    later
    (subst (HasMade latch id) (of_mine k e es mine) m))
    (λ other. later (subst (HasMade latch id) (of_other k e es other) m))

pub latch_exists : (c : Setup) (h : List Entry) (k latch id : ℕ) → Legal c h → HasMade latch id (of k h) → latch < c.latches
latch_exists c h k latch id l m = latch_from c (opening c) h k latch id (length-replicate c.latches []) l m

-- ---- one that no longer waits

abbrev pub Settled : ℕ → ℕ → ℕ → System → Type 0
Settled k latch id s = IsGranted k latch id s ⊎ IsGone k latch id s

-- it never waits again, whoever's event is next
pub settled_next : (c : Setup) (h : List Entry) (e : Entry) (k latch id : ℕ) → Legal c (h ++ e ∷ []) → HasMade latch id (of k h)
    → Settled k latch id (after c h)
    → Settled k latch id (after c (h ++ e ∷ []))
settled_next c h e k latch id l made (inl holds) = granted_or_gone c h (e ∷ []) k latch id l holds
settled_next c h e k latch id l made (inr gone) =
    inr (gone_stays c h (e ∷ []) k latch id l (made_earlier c h k latch id (front_is_legal c h e l) made) gone)

-- and the lists say so
settled_reply : (id : ℕ) (b d : Bool) → (b ≡ true) ⊎ (d ≡ false) → is_settled (cond b (Granted id) (cond d Waiting Gone)) ≡ true
settled_reply id true d s = refl
settled_reply id false false s = refl
settled_reply id false true (inl e) = absurd (false≢true e)
settled_reply id false true (inr e) = absurd (true≢false e)

reply_settled : (id : ℕ) (b d : Bool) → is_settled (cond b (Granted id) (cond d Waiting Gone)) ≡ true → (b ≡ true) ⊎ (d ≡ false)
reply_settled id true d s = inl refl
reply_settled id false false s = inr refl
reply_settled id false true s = absurd (false≢true s)

pub says_settled : (k id : ℕ) (qs : List Request) → (list_any (is_own k id) (granted qs) ≡ true) ⊎ (list_any (is_own k id) qs ≡ false)
    → is_settled (confirm_reply k id qs) ≡ true
says_settled k id qs s = settled_reply id (list_any (is_own k id) (granted qs)) (list_any (is_own k id) qs) s

pub settled_as_said : (k id : ℕ) (qs : List Request) → is_settled (confirm_reply k id qs) ≡ true
    → (list_any (is_own k id) (granted qs) ≡ true) ⊎ (list_any (is_own k id) qs ≡ false)
settled_as_said k id qs s = reply_settled id (list_any (is_own k id) (granted qs)) (list_any (is_own k id) qs) s
