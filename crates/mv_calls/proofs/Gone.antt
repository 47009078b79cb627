-- Where a request that stands by its caller's entries is gone, and where it stays granted.
use Rattle.std.proofs.Common.{◌≡◌, ◌↔◌, ◌⊎◌, ℕ, ◌<◌, ◌≤◌, Bool, true, false, not, ◌&&◌, List, [], ◌∷◌, ◌++◌, length, cond, inl, inr}
use Rattle.std.proofs.Common.{refl, sym, ap, ◌∙◌, subst, arith, append_assoc}
use Rattle.std.specs.List.{Contains, list_any}
use Rattle.std.proofs.lemmas.Bool.{false≢true, eqb-true, eq-eqb, and_parts, false_from_ne_true}
use Rattle.std.proofs.Math.ListN.{get_or-map}
use Rattle.mv_latch.specs.declared.operation.LatchOp.TheVariants.{Confirm, Release, Purge}
use Rattle.mv_latch.specs.declared.operation.LatchReply.{LatchReply}
use Rattle.mv_latch.specs.declared.operation.LatchReply.TheVariants.{Granted, Waiting, Gone, Released}
use Rattle.mv_latch.specs.declared.request.Request.{Request}
use Rattle.mv_latch.specs.Latch.{granted, confirm_reply, release_step, newly_granted, without, purged}
use Rattle.mv_latch.specs.Request.{is_own, of_requestor}
use Rattle.mv_latch.proofs.Members.{found, finds, passes, was_in}
use Rattle.mv_machine.specs.declared.entry.Entry.{Entry}
use Rattle.mv_machine.specs.declared.entry.Object.{Object}
use Rattle.mv_machine.specs.declared.entry.Object.TheVariants.{Latches}
use Rattle.mv_machine.specs.declared.entry.Op.{Op}
use Rattle.mv_machine.specs.declared.entry.Op.TheVariants as op_on
use Rattle.mv_machine.specs.declared.entry.Reply.TheVariants as reply_of
use Rattle.mv_machine.specs.Kept.{StandingRequest, standing}
use Rattle.mv_machine.specs.Legal.{IsNext, next, Legal, after, of}
use Rattle.mv_machine.specs.Owned.{IsGranted, IsGone}
use Rattle.mv_config.specs.Setup.{Setup}
use Rattle.mv_machine.specs.System.{System, opening, moved}
use Rattle.mv_machine.proofs.GrantRuns.{gone_stays, granted_or_gone}
use Rattle.mv_machine.proofs.Histories.{LegalFrom-front}
use Rattle.mv_machine.proofs.LatchRuns.{list_at}
use Rattle.mv_machine.proofs.Longer.{after_longer, front_is_legal}
use Rattle.mv_machine.proofs.Standing.{stood}
use Rattle.mv_machine.proofs.StandingRuns.{stands}
use Rattle.mv_machine.specs.Leaving.{WasPurged}
use Rattle.mv_machine.proofs.Grants.{in_granted}
use Rattle.mv_calls.proofs.Removals.{place_up, risen, same_standing, stands_below, stands_or_purged}
use Rattle.mv_machine.proofs.Replies.{latch_reply_is}

-- the request of this number that is in the list is the one that stands
pub one_request : (c : Setup) (k : ℕ) (t : StandingRequest) (es : List Entry) (q : Request) → Legal c es → Contains (standing (of k es)) t
    → Contains (list_at (after c es) t.latch) q → is_own k t.request.id q ≡ true → q ≡ t.request
one_request c k t es q l i j own =
    let number : q.id ≡ t.request.id = eqb-true q.id t.request.id (and_parts _ _ own).0 in
    let caller : q.caller ≡ k = eqb-true q.caller k (and_parts _ _ own).1 in
    let too : Contains (standing (of k es)) (stood t.latch q) = subst (λ n. Contains (standing (of n es)) (stood t.latch q)) caller
    (stands c es t.latch q l j) in
    ap (λ (u : StandingRequest). u.request) (same_standing 0 (stood t.latch q) t (standing (of k es)) (risen c k es l).rises too i number)

-- a standing request is found by its caller and number
pub its_own : (c : Setup) (k : ℕ) (t : StandingRequest) (es : List Entry) → Legal c es → Contains (standing (of k es)) t
    → is_own k t.request.id t.request ≡ true
its_own c k t es l i = rw (eq-eqb t.request.id t.request.id refl, eq-eqb t.request.caller k (stands_below c k es t l i).1) refl

-- ---- gone
purge_moves : (s : System) (j : ℕ) (o : Object) (op : Op) (requestor latch : ℕ) → o ≡ Latches → op ≡ op_on.Latch (Purge requestor)
    → list_at (moved s j o op) latch ≡ purged requestor (list_at s latch)
purge_moves s j o op requestor latch is op_is =
    ap (λ (x : Object). list_at (moved s j x op) latch) is
    ∙ (ap (λ (x : Op). list_at (moved s j Latches x) latch) op_is ∙ get_or-map (purged requestor) s.latches.state latch [])

-- what a purge leaves is not the requestor's
not_requestor : (requestor : ℕ) (q : Request) → not (of_requestor requestor q) ≡ true → q.requestor ≡ requestor → ⊥
not_requestor requestor q passed is = false≢true (ap (λ b. not b) (sym (eq-eqb q.requestor requestor is)) ∙ passed)

-- so a purge leaves no request of this number
none_found : (c : Setup) (k : ℕ) (t : StandingRequest) (es : List Entry) → Legal c es → Contains (standing (of k es)) t
    → list_any (is_own k t.request.id) (purged t.request.requestor (list_at (after c es) t.latch)) ≡ true → ⊥
none_found c k t es l i any =
    let f = found (is_own k t.request.id) (purged t.request.requestor (list_at (after c es) t.latch)) any in
    let test : Request → Bool = λ q. not (of_requestor t.request.requestor q) in
    let same : f.0 ≡ t.request = one_request c k t es f.0 l i (was_in test f.0 (list_at (after c es) t.latch) f.1) f.2 in
    not_requestor t.request.requestor f.0 (passes test f.0 (list_at (after c es) t.latch) f.1) (ap (λ (q : Request). q.requestor) same)

-- a request that was purged is gone
pub purged_is_gone : (c : Setup) (k : ℕ) (t : StandingRequest) (es : List Entry) → Legal c es → WasPurged k t es
    → IsGone k t.latch t.request.id (after c es)
purged_is_gone c k t es l w =
    let whole : es ≡ (w.before ++ w.purge ∷ []) ++ w.later = w.split ∙ sym (append_assoc w.before (w.purge ∷ []) w.later) in
    let legal : Legal c ((w.before ++ w.purge ∷ []) ++ w.later) = subst (Legal c) whole l in
    let upto : Legal c (w.before ++ w.purge ∷ []) = LegalFrom-front c (opening c) (w.before ++ w.purge ∷ []) w.later legal in
    let front : Legal c w.before = front_is_legal c w.before w.purge upto in
    let below : t.request.id < (after c w.before).latches.place = (stands_below c k w.before t front w.stood).0 in
    let up : (after c w.before).latches.place ≤ (next (after c w.before) w.purge).latches.place =
    place_up (after c w.before) w.purge.caller w.purge.object w.purge.op in
    let early : t.request.id < (after c (w.before ++ w.purge ∷ [])).latches.place = subst (λ (s : System). t.request.id < s.latches.place)
    (sym (after_longer c w.before w.purge)) (omega arith) in
    let gone : IsGone k t.latch t.request.id (after c (w.before ++ w.purge ∷ [])) =
    subst (λ (s : System). IsGone k t.latch t.request.id s) (sym (after_longer c w.before w.purge))
    (ap (list_any (is_own k t.request.id)) (purge_moves
    (after c w.before) w.purge.caller w.purge.object w.purge.op t.request.requestor t.latch w.object w.op)
    ∙ false_from_ne_true (list_any (is_own k t.request.id) (purged t.request.requestor (list_at (after c w.before) t.latch)))
    (none_found c k t w.before front w.stood)) in
    subst (λ (xs : List Entry). IsGone k t.latch t.request.id (after c xs)) (sym whole)
    (gone_stays c (w.before ++ w.purge ∷ []) w.later k t.latch t.request.id legal early gone)

-- one that is gone, and stands by its caller's entries, was purged
pub gone_was_purged : (c : Setup) (k : ℕ) (t : StandingRequest) (es : List Entry) → Legal c es → Contains (standing (of k es)) t
    → IsGone k t.latch t.request.id (after c es) → WasPurged k t es
gone_was_purged c k t es l i gone = elim (stands_or_purged c k t es l i) [
  | inl there ↦ absurd (false≢true (sym gone ∙ finds (is_own k t.request.id) t.request (list_at (after c es) t.latch) there
      (its_own c k t es l i)))
  | inr w ↦ w
]

-- so it is gone exactly then
pub gone_exactly : (c : Setup) (k : ℕ) (t : StandingRequest) (es : List Entry) → Legal c es → Contains (standing (of k es)) t
    → (IsGone k t.latch t.request.id (after c es) ↔ WasPurged k t es)
gone_exactly c k t es l i = (gone_was_purged c k t es l i, purged_is_gone c k t es l)

-- ---- so a confirm and a release of it are answered
none_granted : (k id : ℕ) (qs : List Request) → list_any (is_own k id) qs ≡ false → list_any (is_own k id) (granted qs) ≡ false
none_granted k id qs none = false_from_ne_true (list_any (is_own k id) (granted qs)) (λ any. let f = found (is_own k id) (granted qs) any in
    false≢true (sym none ∙ finds (is_own k id) f.0 qs (in_granted f.0 qs f.1) f.2))

-- a confirm finds a request gone exactly where it is in no list
confirm_is : (k id : ℕ) (qs : List Request) → (confirm_reply k id qs ≡ Gone) ↔ (list_any (is_own k id) qs ≡ false)
confirm_is k id qs = (
  forth (list_any (is_own k id) (granted qs)) (list_any (is_own k id) qs),
  λ none. rw
      (none_granted k id qs none, none) refl,
) where
  forth : (b d : Bool) → cond b (Granted id) (cond d Waiting Gone) ≡ Gone → d ≡ false
  forth true d e = absurd (cc e)
  forth false true e = absurd (cc e)
  forth false false e = refl

-- so does a release
release_is : (k id : ℕ) (conditional : Bool) (qs : List Request)
    → ((release_step k id conditional qs).1 ≡ Gone) ↔ (list_any (is_own k id) qs ≡ false)
release_is k id conditional qs = (
  forth (list_any (is_own k id) qs) (conditional && not (list_any (is_own k id) (granted qs))) (without k id qs)
      (length (newly_granted qs (without k id qs))),
  λ none. rw none refl,
) where
  forth : (b d : Bool) (rs : List Request) (n : ℕ)
      → (cond {A = List Request × LatchReply} (not b) (qs, Gone)
      (cond {A = List Request × LatchReply} d (qs, Waiting) (rs, Released n))).1 ≡ Gone → b ≡ false
  forth true true rs n e = absurd (cc e)
  forth true false rs n e = absurd (cc e)
  forth false d rs n e = refl

-- a confirm of a standing request is answered Gone exactly where it was purged
pub confirm_gone : (c : Setup) (es : List Entry) (e : Entry) (t : StandingRequest) → Legal c es → IsNext c (after c es) e
    → e.object ≡ Latches → e.op ≡ op_on.Latch (Confirm t.latch t.request.id) → Contains (standing (of e.caller es)) t
    → ((e.reply ≡ reply_of.Latch Gone) ↔ WasPurged e.caller t es)
confirm_gone c es e t l h o is i =
    let r : e.reply ≡ reply_of.Latch (confirm_reply e.caller t.request.id (list_at (after c es) t.latch)) =
    latch_reply_is c (after c es) e (Confirm t.latch t.request.id) h o is in
    let ways = confirm_is e.caller t.request.id (list_at (after c es) t.latch) in (
      (λ gone. let q : confirm_reply e.caller t.request.id (list_at (after c es) t.latch) ≡ Gone = cc in gone_was_purged c e.caller t es l i
          (ways.0 q)),
      (λ w. r ∙ ap (λ y. reply_of.Latch y) (ways.1 (purged_is_gone c e.caller t es l w))),
    )

-- so is a release
pub release_gone : (c : Setup) (es : List Entry) (e : Entry) (t : StandingRequest) (conditional : Bool) → Legal c es
    → IsNext c (after c es) e → e.object ≡ Latches → e.op ≡ op_on.Latch (Release t.latch t.request.id conditional)
    → Contains (standing (of e.caller es)) t
    → ((e.reply ≡ reply_of.Latch Gone) ↔ WasPurged e.caller t es)
release_gone c es e t conditional l h o is i =
    let r : e.reply ≡ reply_of.Latch (release_step e.caller t.request.id conditional (list_at (after c es) t.latch)).1 =
    latch_reply_is c (after c es) e (Release t.latch t.request.id conditional) h o is in
    let ways = release_is e.caller t.request.id conditional (list_at (after c es) t.latch) in (
      (λ gone. let q : (release_step e.caller t.request.id conditional (list_at (after c es) t.latch)).1 ≡ Gone = cc in
          gone_was_purged c e.caller t es l i (ways.0 q)),
      (λ w. r ∙ ap (λ y. reply_of.Latch y) (ways.1 (purged_is_gone c e.caller t es l w))),
    )

-- ---- a confirm and a release, by what the lists have
pub confirm_finds_granted : (c : Setup) (s : System) (e : Entry) (latch id : ℕ) → IsNext c s e → e.object ≡ Latches
    → e.op ≡ op_on.Latch (Confirm latch id) → IsGranted e.caller latch id s → e.reply ≡ reply_of.Latch (Granted id)
confirm_finds_granted c s e latch id h o is holds =
    latch_reply_is c s e (Confirm latch id) h o is
    ∙ ap (λ b. reply_of.Latch (cond b (Granted id) (cond (list_any (is_own e.caller id) (list_at s latch)) Waiting Gone))) holds

-- a confirm of a request that is gone
pub confirm_finds_gone : (c : Setup) (s : System) (e : Entry) (latch id : ℕ) → IsNext c s e → e.object ≡ Latches
    → e.op ≡ op_on.Latch (Confirm latch id) → IsGone e.caller latch id s → e.reply ≡ reply_of.Latch Gone
confirm_finds_gone c s e latch id h o is gone =
    latch_reply_is c s e (Confirm latch id) h o is ∙ ap (λ y. reply_of.Latch y) ((confirm_is e.caller id (list_at s latch)).1 gone)

-- what is found among the granted is found in the list
any_of_granted : (k id : ℕ) (qs : List Request) → list_any (is_own k id) (granted qs) ≡ true → list_any (is_own k id) qs ≡ true
any_of_granted k id qs any = let f = found (is_own k id) (granted qs) any in finds (is_own k id) f.0 qs (in_granted f.0 qs f.1) f.2

-- a granted request is released
released_reply : (k id : ℕ) (conditional : Bool) (qs : List Request) → list_any (is_own k id) (granted qs) ≡ true → (n : ℕ)
    × ((release_step k id conditional qs).1 ≡ Released n)
released_reply k id conditional qs any = (
  length (newly_granted qs (without k id qs)),
  go (list_any (is_own k id) qs)
      (list_any (is_own k id) (granted qs)) conditional (any_of_granted k id qs any) any,
) where
  go : (b d v : Bool) → b ≡ true → d ≡ true
      → (cond {A = List Request × LatchReply} (not b) (qs, Gone)
      (cond {A = List Request × LatchReply} (v && not d) (qs, Waiting)
      (without k id qs, Released (length (newly_granted qs (without k id qs)))))).1 ≡ Released
      (length (newly_granted qs (without k id qs)))
  go true true true p q = refl
  go true true false p q = refl
  go false d v p q = absurd (false≢true p)
  go true false v p q = absurd (false≢true q)

-- so a release of it is answered
pub release_finds_granted : (c : Setup) (s : System) (e : Entry) (latch id : ℕ) (conditional : Bool) → IsNext c s e → e.object ≡ Latches
    → e.op ≡ op_on.Latch (Release latch id conditional) → IsGranted e.caller latch id s
    → (n : ℕ) × (e.reply ≡ reply_of.Latch (Released n))
release_finds_granted c s e latch id conditional h o is holds =
    let r = released_reply e.caller id conditional (list_at s latch) holds in
    (r.0, latch_reply_is c s e (Release latch id conditional) h o is ∙ ap (λ y. reply_of.Latch y) r.1)

-- by the caller's own entries: a request that was granted and still stands is granted, or was purged
pub granted_or_purged : (c : Setup) (xs ys : List Entry) (k : ℕ) (t : StandingRequest) → Legal c (xs ++ ys)
    → Contains (standing (of k (xs ++ ys))) t → IsGranted k t.latch t.request.id (after c xs)
    → IsGranted k t.latch t.request.id (after c (xs ++ ys)) ⊎ WasPurged k t (xs ++ ys)
granted_or_purged c xs ys k t l i holds = elim (granted_or_gone c xs ys k t.latch t.request.id l holds) [
  | inl granted ↦ inl granted
  | inr gone ↦ inr (gone_was_purged c k t (xs ++ ys) l i gone)
]
