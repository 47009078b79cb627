-- The requests at the latches are their callers', and the quotas are kept.
use Rattle.std.proofs.Common.{◌≡◌, ℕ, zero, suc, ◌+◌, ◌<◌, ◌≤◌, nat_lt, Bool, true, false, not, ◌||◌, List, [], ◌∷◌, ◌++◌, length}
use Rattle.std.proofs.Common.{map, filter, set, replicate, cond, refl, sym, ap, ◌∙◌, subst, arith}
use Rattle.std.specs.List.{AllByRecursion}
use Rattle.std.proofs.lemmas.Bool.{false≢true, and_parts, eqb-true, ltb-true}
use Rattle.std.proofs.lemmas.Bool.Decides.{nat_tests}
use Rattle.mv_latch.specs.declared.operation.LatchOp.{LatchOp}
use Rattle.mv_latch.specs.declared.operation.LatchOp.TheVariants.{Obtain, Confirm, Release, Purge}
use Rattle.mv_latch.specs.declared.operation.LatchReply.{LatchReply}
use Rattle.mv_latch.specs.declared.request.LatchForm.{LatchForm}
use Rattle.mv_latch.specs.declared.request.LatchForm.TheVariants.{Conditional, Waiting, Posted}
use Rattle.mv_latch.specs.declared.request.Mode.{Mode}
use Rattle.mv_latch.specs.declared.request.Request.{Request}
use Rattle.mv_latch.specs.Latch.{obtain_step, release_step, without, purged}
use Rattle.mv_latch.specs.LatchSet.{list_of, count_in, latch_step, latch_admitted}
use Rattle.mv_latch.specs.Request.{is_posted, of_caller, posted_of, of_requestor, is_own}
use Rattle.mv_latch.proofs.Quotas.{count_set, count_new, count_obtained, count_released, count_purged}
use Rattle.mv_latch.proofs.Splits.{all_filter}
use Rattle.mv_machine.specs.declared.entry.Entry.{Entry}
use Rattle.mv_machine.specs.declared.entry.Object.{Object}
use Rattle.mv_machine.specs.declared.entry.Object.TheVariants.{Ecb, Element, Volume, Latches}
use Rattle.mv_machine.specs.declared.entry.Op.{Op}
use Rattle.mv_machine.specs.declared.entry.Op.TheVariants as op_on
use Rattle.mv_machine.specs.declared.entry.Reply.{Reply}
use Rattle.mv_machine.specs.Legal.{IsNext, Legal, after}
use Rattle.mv_config.specs.Setup.{Setup, owner_of}
use Rattle.mv_machine.specs.System.{System, opening, moved, latches_of, posts_own_ecb}
use Rattle.mv_config.proofs.Chains.{all_set}
use Rattle.mv_machine.proofs.Lists.{all_push}
use Rattle.mv_machine.proofs.EntryRuns.{entry_of, along_all}
use Rattle.mv_machine.proofs.StandingRuns.{NamesLatch, names_latch}
use Rattle.mv_machine.specs.Waking.{IsFair, KeepsQuotas}

-- each request of all lists is fair
abbrev pub AllFair : Setup → List (List Request) → Type 0
AllFair c lists = AllByRecursion (λ qs. AllByRecursion (IsFair c) qs) lists

-- ---- requests of lists
pub all_of_list : (P : Request → Type 0) (lists : List (List Request)) (latch : ℕ) → AllByRecursion (λ qs. AllByRecursion P qs) lists
    → AllByRecursion P (list_of lists latch)
all_of_list P [] latch a = tt
all_of_list P (qs ∷ lists) zero a = a.0
all_of_list P (qs ∷ lists) (suc latch) a = all_of_list P lists latch a.1

-- what holds of all requests of all lists still does after a purge
pub all_purged : (P : Request → Type 0) (requestor : ℕ) (lists : List (List Request)) → AllByRecursion (λ qs. AllByRecursion P qs) lists
    → AllByRecursion (λ qs. AllByRecursion P qs) (map (purged requestor) lists)
all_purged P requestor [] a = tt
all_purged P requestor (qs ∷ lists) a = (all_filter P (λ q. not (of_requestor requestor q)) qs a.0, all_purged P requestor lists a.1)

-- and of empty lists
all_new : (P : Request → Type 0) (n : ℕ) → AllByRecursion (λ qs. AllByRecursion P qs) (replicate n [])
all_new P zero = tt
all_new P (suc n) = (tt, all_new P n)

-- and of either of two results
all_either : (P : Request → Type 0) (b : Bool) (x y : List Request × LatchReply) → AllByRecursion P x.0 → AllByRecursion P y.0
    → AllByRecursion P (cond b x y).0
all_either P true x y a b = a
all_either P false x y a b = b

-- and after an obtain, where it holds of the new request
all_obtained : (P : Request → Type 0) (r : Request) (qs : List Request) → AllByRecursion P qs → P r → AllByRecursion P (obtain_step r qs).0
all_obtained P r qs a p =
    let more : AllByRecursion P (qs ++ r ∷ []) = all_push P qs r a p in
    search all_either

-- and after a release
pub all_released : (P : Request → Type 0) (k id : ℕ) (conditional : Bool) (qs : List Request) → AllByRecursion P qs
    → AllByRecursion P (release_step k id conditional qs).0
all_released P k id conditional qs a =
    let fewer : AllByRecursion P (without k id qs) = all_filter P (λ q. not (is_own k id q)) qs a in
    search all_either

-- what holds of the request that an operation puts in line, if it does
abbrev pub IfNew : (Request → Type 0) → ℕ → ℕ → LatchOp → Type 0
IfNew P k place (Obtain latch requestor mode form) =
    P (record { id = place; caller = k; requestor = requestor; mode = mode; form = form })
IfNew P k place op = Unit {0}

-- and after each operation, where it holds of the request that is new
pub all_stepped : (P : Request → Type 0) (k place : ℕ) (op : LatchOp) (lists : List (List Request)) → IfNew P k place op
    → AllByRecursion (λ qs. AllByRecursion P qs) lists → AllByRecursion (λ qs. AllByRecursion P qs) (latch_step k place op lists).0
all_stepped P k place (Obtain latch requestor mode form) lists new a =
    all_set (λ qs. AllByRecursion P qs) lists latch _
    (all_obtained P (record { id = place; caller = k; requestor = requestor; mode = mode; form = form }) (list_of lists latch)
    (all_of_list P lists latch a) new) a
all_stepped P k place (Confirm latch id) lists new a = a
all_stepped P k place (Release latch id conditional) lists new a =
    all_set (λ qs. AllByRecursion P qs) lists latch _
    (all_released P k id conditional (list_of lists latch) (all_of_list P lists latch a)) a
all_stepped P k place (Purge requestor) lists new a = all_purged P requestor lists a

-- ---- each is fair
fair_request : (c : Setup) (k latch requestor id : ℕ) (mode : Mode) (form : LatchForm) → k < c.callers
    → posts_own_ecb c k (Obtain latch requestor mode form) ≡ true
    → IsFair c (record { id = id; caller = k; requestor = requestor; mode = mode; form = form })
fair_request c k latch requestor id mode (Posted e) lt own =
    let there : nat_lt e (length c.owners) ≡ true = (and_parts _ _ own).0 in
    (lt, (grind (arith, nat_tests), eqb-true (owner_of c e) k (and_parts _ _ own).1))
fair_request c k latch requestor id mode Conditional lt own = (lt, tt)
fair_request c k latch requestor id mode Waiting lt own = (lt, tt)

-- each operation that is admitted leaves all requests fair
fair_step : (c : Setup) (k place : ℕ) (op : LatchOp) (lists : List (List Request)) → k < c.callers → posts_own_ecb c k op ≡ true
    → AllFair c lists → AllFair c (latch_step k place op lists).0
fair_step c k place op lists lt own a = all_stepped (IsFair c) k place op lists (fair_new op own) a where
  fair_new : (op : LatchOp) → posts_own_ecb c k op ≡ true → IfNew (IsFair c) k place op
  fair_new (Obtain latch requestor mode form) own = fair_request c k latch requestor place mode form lt own
  fair_new op own = tt

-- ---- the quotas
-- one more, where there is room for one that meets the test
more_fits : (t : Request → Bool) (most latch : ℕ) (r : Request) (lists : List (List Request)) → latch < length lists
    → (t r ≡ true → count_in t lists < most) → count_in t lists ≤ most
    → count_in t (set lists latch (obtain_step r (list_of lists latch)).0) ≤ most
more_fits t most latch r lists lt free fit =
    let counts : count_in t (set lists latch (obtain_step r (list_of lists latch)).0) ≤ count_in t lists + length (filter t (r ∷ [])) =
    omega (arith, count_set t lists latch (obtain_step r (list_of lists latch)).0 lt, count_obtained t r (list_of lists latch)) in
    go (t r) refl counts where
      go : (b : Bool) → t r ≡ b → count_in t (set lists latch (obtain_step r (list_of lists latch)).0) ≤ count_in t lists + length
          (cond b (r ∷ []) []) → count_in t (set lists latch (obtain_step r (list_of lists latch)).0) ≤ most
      go true is le = let f = free is in omega arith
      go false is le = omega arith

-- so a release keeps a bound
fewer_fit : (t : Request → Bool) (most latch k id : ℕ) (conditional : Bool) (lists : List (List Request)) → latch < length lists
    → count_in t lists ≤ most
    → count_in t (set lists latch (release_step k id conditional (list_of lists latch)).0) ≤ most
fewer_fit t most latch k id conditional lists lt fit =
    omega (
      arith,
      count_set t lists latch (release_step k id conditional (list_of lists latch)).0 lt,
      count_released t k id conditional (list_of lists latch),
    )

-- an obtain that is admitted has room in the quota
room_for_one : (c : Setup) (k latch requestor : ℕ) (mode : Mode) (form : LatchForm) (lists : List (List Request))
    → latch_admitted k (Obtain latch requestor mode form) (latches_of c lists) ≡ true → count_in (of_caller k) lists < c.quota
room_for_one c k latch requestor mode form lists a =
    ltb-true (count_in (of_caller k) lists) c.quota (and_parts _ _ (and_parts _ _ a).1).0

-- and one of the Posted form in that quota
room_for_posted : (c : Setup) (k latch requestor : ℕ) (mode : Mode) (form : LatchForm) (lists : List (List Request))
    → latch_admitted k (Obtain latch requestor mode form) (latches_of c lists) ≡ true → is_posted form ≡ true
    → count_in (posted_of k) lists < c.posted_quota
room_for_posted c k latch requestor mode form lists a is =
    let q : (not (is_posted form) || nat_lt (count_in (posted_of k) lists) c.posted_quota) ≡ true = (and_parts _ _ (and_parts _ _ a).1).1 in
    ltb-true (count_in (posted_of k) lists) c.posted_quota
    (ap (λ b. not b || nat_lt (count_in (posted_of k) lists) c.posted_quota) (sym is) ∙ q)

-- each operation that is admitted keeps the quotas
quotas_step : (c : Setup) (k place : ℕ) (op : LatchOp) (lists : List (List Request)) → latch_admitted k op (latches_of c lists) ≡ true
    → NamesLatch op lists → KeepsQuotas c lists → KeepsQuotas c (latch_step k place op lists).0
quotas_step c k place (Obtain latch requestor mode form) lists a lt q =
    let r : Request = record { id = place; caller = k; requestor = requestor; mode = mode; form = form } in record {
      all = λ j. more_fits (of_caller j) c.quota latch r lists lt
          (λ is. subst (λ i. count_in (of_caller i) lists < c.quota) (eqb-true k j is) (room_for_one c k latch requestor mode form lists a))
          (q.all j);
      posted = λ j. more_fits (posted_of j) c.posted_quota latch r lists lt
          (λ is. subst (λ i. count_in (posted_of i) lists < c.posted_quota) (eqb-true k j (and_parts _ _ is).0)
          (room_for_posted c k latch requestor mode form lists a (and_parts _ _ is).1)) (q.posted j);
    }
quotas_step c k place (Confirm latch id) lists a lt q = q
quotas_step c k place (Release latch id conditional) lists a lt q = record {
  all = λ j. fewer_fit (of_caller j) c.quota latch k id conditional lists lt (q.all j);
  posted = λ j. fewer_fit (posted_of j) c.posted_quota latch k id conditional lists lt (q.posted j);
}
quotas_step c k place (Purge requestor) lists a lt q = record {
  all = λ j. omega (arith, count_purged (of_caller j) requestor lists, q.all j);
  posted = λ j. omega (arith, count_purged (posted_of j) requestor lists, q.posted j);
}

-- ---- along a legal list

-- what all lists keep to: each request is fair, and the quotas are kept
pub record KeepsRequests (c : Setup) (s : System) : Type 0 where
  pub fair : AllFair c s.latches.state
  pub quotas : KeepsQuotas c s.latches.state

-- each next entry keeps both
requests_next : (c : Setup) (s : System) (k : ℕ) (o : Object) (p : ℕ) (op : Op) (r : Reply) → IsNext c s (entry_of k o p op r)
    → KeepsRequests c s → KeepsRequests c (moved s k o op)
requests_next c s k Latches p (op_on.Latch op) r h w =
    let front : nat_lt k c.callers ≡ true = (and_parts _ _ (and_parts _ _ h.admits).0).0 in
    let own : posts_own_ecb c k op ≡ true = (and_parts _ _ (and_parts _ _ h.admits).0).1 in
    let may : latch_admitted k op (latches_of c s.latches.state) ≡ true = (and_parts _ _ h.admits).1 in
    record {
      fair = fair_step c k s.latches.place op s.latches.state (ltb-true k c.callers front) own w.fair;
      quotas = quotas_step c k s.latches.place op s.latches.state may (names_latch c k op s.latches.state may) w.quotas;
    }
requests_next c s k (Ecb m) p (op_on.Ecb op) r h w = record { fair = w.fair; quotas = w.quotas }
requests_next c s k (Element m) p (op_on.Element op) r h w = record { fair = w.fair; quotas = w.quotas }
requests_next c s k (Volume m) p (op_on.Volume op) r h w = record { fair = w.fair; quotas = w.quotas }
requests_next c s k o p op r h w = absurd (false≢true h.admits)

-- so does each legal list
pub requests_kept : (c : Setup) (es : List Entry) → Legal c es → KeepsRequests c (after c es)
requests_kept c es l = along_all c (KeepsRequests c) (λ s e h w. requests_next c s e.caller e.object e.place e.op e.reply h w)
    (opening c) es l
    (record {
      fair = all_new (IsFair c) c.latches;
      quotas = record {
        all = λ k. omega (arith, count_new (of_caller k) c.latches);
        posted =
            λ k. omega (arith, count_new (posted_of k) c.latches);
      };
    })
