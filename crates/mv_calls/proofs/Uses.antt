-- The laws as a caller uses them: by what it knows of its own log.
use Rattle.std.proofs.Common.{◌≡◌, ℕ, ◌+◌, ◌≤◌, ◌==◌, Bool, true, false, List, [], ◌∷◌, ◌++◌, length, cond, refl, sym, ap, ◌∙◌, subst}
use Rattle.std.proofs.Common.{arith, length-append}
use Rattle.std.specs.List.{AllByRecursion, Contains}
use Rattle.std.proofs.lemmas.Bool.{eq-eqb, eqb-true}
use Rattle.std.proofs.lemmas.List.Elements.{All-from_recursion, All-contains}
use Rattle.mv_latch.specs.declared.operation.LatchOp.{LatchOp}
use Rattle.mv_latch.specs.declared.operation.Wake.{Wake}
use Rattle.mv_latch.specs.declared.request.Request.{Request}
use Rattle.mv_latch.specs.LatchSet.{list_of, wakes, count_in}
use Rattle.mv_latch.specs.Request.{of_caller, posted_of}
use Rattle.mv_machine.specs.declared.entry.Entry.{Entry}
use Rattle.mv_machine.specs.declared.entry.Object.{Object}
use Rattle.mv_machine.specs.declared.entry.Object.TheVariants.{Latches}
use Rattle.mv_machine.specs.declared.entry.Op.{Op}
use Rattle.mv_machine.specs.declared.entry.Op.TheVariants as op_on
use Rattle.mv_config.specs.Check.{IsValid}
use Rattle.mv_machine.specs.Kept.{stands_with, standing_from, standing}
use Rattle.mv_machine.specs.Legal.{IsNext, Legal, after, of}
use Rattle.mv_machine.specs.Parts.{IsPossible}
use Rattle.mv_config.specs.Reach.{reach}
use Rattle.mv_config.specs.Setup.{Setup}
use Rattle.mv_machine.specs.System.{System}
use Rattle.mv_machine.specs.Told.{told, told_at}
use Rattle.mv_machine.proofs.Histories.{by_last}
use Rattle.mv_machine.proofs.LatchRuns.{list_at}
use Rattle.mv_machine.proofs.Lists.{all_push, all_back, all_filter}
use Rattle.mv_machine.proofs.Longer.{last_is_next, front_is_legal, legal_longer}
use Rattle.mv_machine.proofs.OneHistory.{budgets_fit}
use Rattle.mv_calls.specs.Exits.{NamesOwnExit, NameOwnExits}
use Rattle.mv_calls.specs.Keeping.{Kept, kept_after, kept_from, kept_of, nothing_kept}
use Rattle.mv_calls.specs.Posts.{post}
use Rattle.mv_calls.specs.Program.{Heard, Says, entries}
use Rattle.mv_machine.specs.Replies.{NamesUpTo}
use Rattle.mv_machine.specs.Waking.{IsFair, IsFairWake, AreFairWakes}
use Rattle.mv_calls.proofs.Behind.{last_is_behind}
use Rattle.mv_calls.proofs.Generations.{next_names}
use Rattle.mv_calls.proofs.Posting.{exits_are_own, post_asks}
use Rattle.mv_machine.proofs.Requests.{all_of_list, requests_kept}
use Rattle.mv_calls.proofs.Making.{kept_caller}
use Rattle.mv_calls.proofs.Wakes.{wakes_are_fair, few_wakes_post, wakes_cost}

-- ---- each entry of a legal list
pub each_entry : (c : Setup) (P : Entry → Type 0) → ((xs : List Entry) (e : Entry) → Legal c xs → IsNext c (after c xs) e → P e)
    → (es : List Entry) → Legal c es → AllByRecursion P es
each_entry c P holds es = by_last (λ xs. Legal c xs → AllByRecursion P xs) (λ l. tt)
    (λ xs e ih l. all_push P xs e (ih (front_is_legal c xs e l)) (holds xs e (front_is_legal c xs e l) (last_is_next c xs e l))) es

-- each entry of a possible log names an exit of its own
own_exits : (c : Setup) (k : ℕ) (log : List Entry) (shown : List (List Wake)) → IsPossible c k log shown
    → AllByRecursion (λ e. NamesOwnExit c e.object e.reply) log
own_exits c k log shown p =
    subst (AllByRecursion (λ e. NamesOwnExit c e.object e.reply)) p.logged
    (all_filter (λ e. NamesOwnExit c e.object e.reply) (λ e. e.caller == k) p.history
    (each_entry c (λ e. NamesOwnExit c e.object e.reply) (λ xs e l h. exits_are_own c xs e l h) p.history p.legal))

-- so does what was heard of it
heard_exits : (c : Setup) (hs : List Heard) → AllByRecursion (λ e. NamesOwnExit c e.object e.reply) (entries hs) → NameOwnExits c hs
heard_exits c [] a = tt
heard_exits c (h ∷ hs) a = (a.0, heard_exits c hs a.1)

-- what a call heard in a possible log names own exits
pub call_exits : (c : Setup) (k : ℕ) (log : List Entry) (hs : List Heard) (shown : List (List Wake))
    → IsPossible c k (log ++ entries hs) shown → NameOwnExits c hs
call_exits c k log hs shown p = heard_exits c hs (all_back (λ e. NamesOwnExit c e.object e.reply) log (entries hs)
    (own_exits c k (log ++ entries hs) shown p))

-- ---- the last event of a possible log
pub possible_names : (c : Setup) (k : ℕ) (log : List Entry) (e : Entry) (shown : List (List Wake)) → IsValid c
    → IsPossible c k (log ++ e ∷ []) shown → NamesUpTo 262143 e.reply
possible_names c k log e shown valid p =
    let b = last_is_behind c k log e shown p in
    let most : length (b.before ++ e ∷ []) ≤ 524287 = budgets_fit c (b.before ++ e ∷ []) valid
    (legal_longer c b.before e b.legal b.follows) b.budgets in
    let size : length (b.before ++ e ∷ []) ≡ length b.before + 1 = length-append b.before (e ∷ []) in
    next_names c b.before e b.legal b.follows (omega arith)

-- two lists that are one have one last element
pub last_same : {A : Type 0} (xs ys : List A) (x y : A) → xs ++ x ∷ [] ≡ ys ++ y ∷ [] → x ≡ y
last_same [] [] x y e = cc e
last_same [] (a ∷ []) x y e = absurd (cc e)
last_same [] (a ∷ b ∷ ys) x y e = absurd (cc e)
last_same (a ∷ []) [] x y e = absurd (cc e)
last_same (a ∷ b ∷ xs) [] x y e = absurd (cc e)
last_same (a ∷ xs) (b ∷ ys) x y e = let rest : xs ++ x ∷ [] ≡ ys ++ y ∷ [] = cc e in last_same xs ys x y rest

-- what is told of an event of the caller's own on the latch set
told_of_latch : (s : System) (k j : ℕ) (o : Object) (op : Op) (x : LatchOp) → j ≡ k → o ≡ Latches → op ≡ op_on.Latch x
    → told_at s k j o op ≡ wakes k x s.latches.state ∷ []
told_of_latch s k j o op x own is op_is =
    ap (λ (z : Object). told_at s k j z op) is ∙ (ap (λ (z : Op). told_at s k j Latches z) op_is
    ∙ (ap (λ b. cond b (wakes j x s.latches.state ∷ []) []) (eq-eqb j k own) ∙ ap (λ i. wakes i x s.latches.state ∷ []) own))

-- the wakes of an event after a legal list
pub wakes_of_next : (c : Setup) (es : List Entry) (k : ℕ) (op : LatchOp) → Legal c es
    → AreFairWakes c (wakes k op (after c es).latches.state)
wakes_of_next c es k op l = record {
  each = All-from_recursion (IsFairWake c) (wakes k op (after c es).latches.state) (wakes_are_fair c es k op l);
  few = few_wakes_post c es k op l;
  cost = λ exact. wakes_cost c es k op l exact;
}

-- the last wakes that a caller was told
pub wakes_heard : (c : Setup) (k : ℕ) (log : List Entry) (e : Entry) (op : LatchOp) (shown : List (List Wake)) (ws : List Wake)
    → IsPossible c k (log ++ e ∷ []) (shown ++ ws ∷ []) → e.object ≡ Latches → e.op ≡ op_on.Latch op → AreFairWakes c ws
wakes_heard c k log e op shown ws p o is =
    let b = last_is_behind c k log e (shown ++ ws ∷ []) p in
    let one : told_at (after c b.before) k e.caller e.object e.op ≡ wakes k op (after c b.before).latches.state ∷ [] =
    told_of_latch (after c b.before) k e.caller e.object e.op op b.caller o is in
    let all : told c k b.before ++ wakes k op (after c b.before).latches.state ∷ [] ≡ shown ++ ws ∷ [] =
    ap (λ z. told c k b.before ++ z) (sym one) ∙ b.told in
    subst (AreFairWakes c) (last_same (told c k b.before) shown (wakes k op (after c b.before).latches.state) ws all)
    (wakes_of_next c b.before k op b.legal)

-- ---- requests
pub listed_is_fair : (c : Setup) (es : List Entry) (latch : ℕ) (q : Request) → Legal c es
    → Contains (list_of (after c es).latches.state latch) q → IsFair c q
listed_is_fair c es latch q l i = All-contains (IsFair c) (list_at (after c es) latch) q
    (All-from_recursion (IsFair c) (list_at (after c es) latch)
    (all_of_list (IsFair c) (after c es).latches.state latch (requests_kept c es l).fair)) i

-- ---- what is kept of a caller's part
requests_from : (k : ℕ) (kept : Kept) (es : List Entry) → kept.caller ≡ k
    → (kept_from kept (of k es)).requests ≡ standing_from kept.requests (of k es)
requests_from k kept [] own = refl
requests_from k kept (e ∷ es) own = go (e.caller == k) refl (λ more is. requests_from k more es is) where
  go : (b : Bool) → (e.caller == k) ≡ b → ((more : Kept) → more.caller ≡ k
      → (kept_from more (of k es)).requests ≡ standing_from more.requests (of k es))
      → (kept_from kept (cond b (e ∷ of k es) (of k es))).requests ≡ standing_from kept.requests (cond b (e ∷ of k es) (of k es))
  go true is rest =
      let same : e.caller ≡ kept.caller = eqb-true e.caller k is ∙ sym own in
      rest (kept_after kept e.object e.op e.reply) own
      ∙ ap (λ j. standing_from (stands_with j kept.requests e.object e.op e.reply) (of k es)) (sym same)
  go false is rest = rest kept own

-- the requests that a caller keeps are those that stand
pub kept_requests : (k : ℕ) (es : List Entry) → (kept_of k (of k es)).requests ≡ standing (of k es)
kept_requests k es = requests_from k (nothing_kept k) es refl

-- what a caller keeps says which caller it is
pub caller_is : (k : ℕ) (log : List Entry) → (kept_of k log).caller ≡ k
caller_is k log = kept_caller (nothing_kept k) log

-- each caller's requests keep its quota
pub all_kept : (c : Setup) (es : List Entry) (k : ℕ) → Legal c es → count_in (of_caller k) (after c es).latches.state ≤ c.quota
all_kept c es k l = (requests_kept c es l).quotas.all k

-- and those of the Posted form theirs
pub posted_kept : (c : Setup) (es : List Entry) (k : ℕ) → Legal c es → count_in (posted_of k) (after c es).latches.state ≤ c.posted_quota
posted_kept c es k l = (requests_kept c es l).quotas.posted k

-- a post hears of at most its reach of events
pub post_hears : (c : Setup) (code e : ℕ) (kept : Kept) (hs : List Heard) → reach c e ≤ 524287 → NameOwnExits c hs
    → Says (post c e code kept) hs → length hs ≤ reach c e
post_hears c code e kept hs few names s = post_asks c code e kept few hs names s
