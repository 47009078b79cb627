-- Every legal history is orderly at the latch set: granted requests are the first of their list, an exclusive one is alone, a
-- granted one stays granted, and a purged requestor has no request until one of its own is made to stand.
use Rattle.std.proofs.Common.{◌≡◌, ℕ, ◌==◌, Bool, true, false, IsTrue, not, List, [], ◌∷◌, ◌++◌, length, filter, map, cond}
use Rattle.std.proofs.Common.{inl, inr, refl, sym, ap, ◌∙◌, subst, arith}
use Rattle.std.specs.List.{AllByRecursion, Contains}
use Rattle.std.proofs.lemmas.Bool.{false≢true, eqb-true}
use Rattle.mv_latch.specs.declared.operation.LatchOp.{LatchOp}
use Rattle.mv_latch.specs.declared.operation.LatchOp.TheVariants.{Obtain, Confirm, Release, Purge}
use Rattle.mv_latch.specs.declared.operation.LatchReply.{LatchReply}
use Rattle.mv_latch.specs.declared.operation.LatchReply.TheVariants.{Granted, Queued, NotNow}
use Rattle.mv_latch.specs.declared.request.Request.{Request}
use Rattle.mv_latch.specs.Latch.{shared_front, granted, waiting, grants, blocker, obtain_step, purged}
use Rattle.mv_latch.specs.LatchSet.{count_in, list_of, latch_step}
use Rattle.mv_latch.specs.Request.{shared_request, of_requestor, queues}
use Rattle.mv_latch.specs.declared.request.LatchForm.{LatchForm}
use Rattle.mv_latch.specs.declared.request.Mode.{Mode}
use Rattle.mv_latch.proofs.Members.{not_in_empty, first_or_rest}
use Rattle.mv_latch.proofs.Splits.{front_shared, granted_split}
use Rattle.mv_machine.specs.declared.entry.Entry.{Entry}
use Rattle.mv_machine.specs.declared.entry.Object.{Object}
use Rattle.mv_machine.specs.declared.entry.Object.TheVariants.{Ecb, Element, Volume, Latches}
use Rattle.mv_machine.specs.declared.entry.Op.{Op}
use Rattle.mv_machine.specs.declared.entry.Op.TheVariants as op_on
use Rattle.mv_machine.specs.declared.entry.Reply.{Reply}
use Rattle.mv_machine.specs.declared.entry.Reply.TheVariants as reply_of
use Rattle.mv_machine.specs.Legal.{IsNext, next, Legal, LegalFrom, after}
use Rattle.mv_machine.specs.Orderly.{queue, obtained_by, purged_by, AreOrderlyLatches, IsOrderly}
use Rattle.mv_config.specs.Setup.{Setup}
use Rattle.mv_machine.specs.System.{System, opening, moved}
use Rattle.mv_config.proofs.Chains.{all_set}
use Rattle.mv_machine.proofs.ElementRuns.{elements_are_orderly}
use Rattle.mv_machine.proofs.EntryRuns.{entry_of, along, at_end}
use Rattle.mv_machine.proofs.Grants.{granted_next}
use Rattle.mv_machine.proofs.Histories.{LegalFrom-front, LegalFrom-rest}
use Rattle.mv_machine.proofs.LatchRuns.{numbers_rise}
use Rattle.mv_machine.proofs.Lists.{all_at, all_push}
use Rattle.mv_machine.proofs.Longer.{after_longer}
use Rattle.mv_machine.proofs.Replies.{latches_answer}
use Rattle.mv_machine.proofs.Requests.{all_of_list, all_released, all_purged}

-- ---- the granted requests of a list

-- an exclusive granted request is the only one
stands_alone : (qs : List Request) (q : Request) → Contains (granted qs) q → shared_request q ≡ false → granted qs ≡ q ∷ []
stands_alone [] q i exclusive = absurd (not_in_empty q i)
stands_alone (x ∷ xs) q i exclusive = go (shared_request x) refl i where
  go : (b : Bool) → shared_request x ≡ b → Contains (granted (x ∷ xs)) q → granted (x ∷ xs) ≡ q ∷ []
  go true is j =
      let front : granted (x ∷ xs) ≡ shared_front (x ∷ xs) = rw is refl in
      let shared : shared_request q ≡ true =
      all_at (λ y. shared_request y ≡ true) (shared_front (x ∷ xs)) q (front_shared (x ∷ xs)) (subst (λ ys. Contains ys q) front j) in
      absurd (false≢true (sym exclusive ∙ shared))
  go false is j =
      let alone : granted (x ∷ xs) ≡ x ∷ [] = rw is refl in
      elim (first_or_rest x [] q (subst (λ ys. Contains ys q) alone j)) [
        | inl same ↦ alone ∙ ap (λ y. y ∷ []) same
        | inr none ↦ absurd (not_in_empty q none)
      ]

-- ---- a purged requestor

-- a request is another requestor's
abbrev IsNotOf : ℕ → Request → Type 0
IsNotOf r q = of_requestor r q ≡ false

-- and so are all
abbrev NoneOf : ℕ → List (List Request) → Type 0
NoneOf r lists = AllByRecursion (λ qs. AllByRecursion (IsNotOf r) qs) lists

-- a purge leaves no request of its requestor in a list
left_of : (r : ℕ) (qs : List Request) → AllByRecursion (IsNotOf r) (purged r qs)
left_of r [] = tt
left_of r (q ∷ qs) = go (of_requestor r q) refl (left_of r qs) where
  go : (b : Bool) → of_requestor r q ≡ b → AllByRecursion (IsNotOf r) (purged r qs)
      → AllByRecursion (IsNotOf r) (cond (not b) (q ∷ purged r qs) (purged r qs))
  go true is rest = rest
  go false is rest = (is, rest)

-- nor in all lists
left_of_all : (r : ℕ) (lists : List (List Request)) → NoneOf r (map (purged r) lists)
left_of_all r [] = tt
left_of_all r (qs ∷ lists) = (left_of r qs, left_of_all r lists)

-- so none is counted in a list
none_counted : (r : ℕ) (qs : List Request) → AllByRecursion (IsNotOf r) qs → length (filter (of_requestor r) qs) ≡ 0
none_counted r [] a = refl
none_counted r (q ∷ qs) a = ap (λ b. length (cond b (q ∷ filter (of_requestor r) qs) (filter (of_requestor r) qs))) a.0
    ∙ none_counted r qs a.1

-- nor in all
none_in : (r : ℕ) (lists : List (List Request)) → NoneOf r lists → count_in (of_requestor r) lists ≡ 0
none_in r [] a = refl
none_in r (qs ∷ lists) a = let here = none_counted r qs a.0 in let there = none_in r lists a.1 in omega (arith, here, there)

-- an obtain that makes no request of it stand leaves it none
none_obtained : (r latch requestor : ℕ) (mode : Mode) (form : LatchForm) (x : Request) (qs : List Request) → x.requestor ≡ requestor
    → obtained_by r (op_on.Latch (Obtain latch requestor mode form)) (reply_of.Latch (obtain_step x qs).1) ≡ false
    → AllByRecursion (IsNotOf r) qs → AllByRecursion (IsNotOf r) (obtain_step x qs).0
none_obtained r latch requestor mode form x qs own by a = go (grants qs x) (queues x.form) by where
  other : (requestor == r) ≡ false → AllByRecursion (IsNotOf r) (qs ++ x ∷ [])
  other none = all_push (IsNotOf r) qs x a (ap (λ n. n == r) own ∙ none)

  go : (b d : Bool)
      → let z : List Request × LatchReply = cond b (qs ++ x ∷ [], Granted x.id)
      (cond d (qs ++ x ∷ [], Queued x.id) (qs, NotNow (blocker x qs))) in
      obtained_by r (op_on.Latch (Obtain latch requestor mode form)) (reply_of.Latch z.1) ≡ false → AllByRecursion (IsNotOf r) z.0
  go true d none = other none
  go false true none = other none
  go false false none = a

-- an operation that makes none stand leaves none
none_step : (r k place : ℕ) (op : LatchOp) (lists : List (List Request))
    → obtained_by r (op_on.Latch op) (reply_of.Latch (latch_step k place op lists).1) ≡ false
    → NoneOf r lists → NoneOf r (latch_step k place op lists).0
none_step r k place (Obtain latch requestor mode form) lists none a =
    all_set (λ qs. AllByRecursion (IsNotOf r) qs) lists latch _
    (none_obtained r latch requestor mode form (record { id = place; caller = k; requestor = requestor; mode = mode; form = form })
    (list_of lists latch) refl none (all_of_list (IsNotOf r) lists latch a)) a
none_step r k place (Confirm latch id) lists none a = a
none_step r k place (Release latch id conditional) lists none a =
    all_set (λ qs. AllByRecursion (IsNotOf r) qs) lists latch _
    (all_released (IsNotOf r) k id conditional (list_of lists latch) (all_of_list (IsNotOf r) lists latch a)) a
none_step r k place (Purge requestor) lists none a = all_purged (IsNotOf r) requestor lists a

-- so does an entry
none_moved : (c : Setup) (r : ℕ) (s : System) (k : ℕ) (o : Object) (p : ℕ) (op : Op) (reply : Reply)
    → IsNext c s (entry_of k o p op reply) → obtained_by r op reply ≡ false → NoneOf r s.latches.state
    → NoneOf r (moved s k o op).latches.state
none_moved c r s k Latches p (op_on.Latch op) reply h none a =
    none_step r k s.latches.place op s.latches.state
    (subst (λ y. obtained_by r (op_on.Latch op) y ≡ false)
    (latches_answer c s k p op reply h) none) a
none_moved c r s k (Ecb n) p (op_on.Ecb op) reply h none a = a
none_moved c r s k (Element n) p (op_on.Element op) reply h none a = a
none_moved c r s k (Volume n) p (op_on.Volume op) reply h none a = a
none_moved c r s k o p op reply h none a = absurd (false≢true h.admits)

-- and a purge of it leaves it none
purge_moved : (c : Setup) (r : ℕ) (s : System) (k : ℕ) (o : Object) (p : ℕ) (op : Op) (reply : Reply)
    → IsNext c s (entry_of k o p op reply) → IsTrue (purged_by r op) → NoneOf r (moved s k o op).latches.state
purge_moved c r s k Latches p (op_on.Latch (Purge requestor)) reply h by =
    subst (λ n. NoneOf r (map (purged n) s.latches.state)) (sym (eqb-true requestor r by)) (left_of_all r s.latches.state)
purge_moved c r s k (Ecb n) p (op_on.Ecb op) reply h by = absurd (false≢true by)
purge_moved c r s k (Element n) p (op_on.Element op) reply h by = absurd (false≢true by)
purge_moved c r s k (Volume n) p (op_on.Volume op) reply h by = absurd (false≢true by)
purge_moved c r s k Latches p (op_on.Latch (Obtain latch requestor mode form)) reply h by = absurd (false≢true by)
purge_moved c r s k Latches p (op_on.Latch (Confirm latch id)) reply h by = absurd (false≢true by)
purge_moved c r s k Latches p (op_on.Latch (Release latch id conditional)) reply h by = absurd (false≢true by)
purge_moved c r s k o p op reply h by = absurd (false≢true h.admits)

-- ---- along a legal list

-- a purged requestor has none until one of its own stands
holds_nothing : (c : Setup) (es : List Entry) → Legal c es → (r : ℕ) (xs ys zs : List Entry) (e : Entry) → es ≡ xs ++ e ∷ (ys ++ zs)
    → IsTrue (purged_by r e.op) → AllByRecursion (λ y. obtained_by r y.op y.reply ≡ false) ys
    → count_in (of_requestor r) (after c (xs ++ e ∷ ys)).latches.state ≡ 0
holds_nothing c es l r xs ys zs e whole by none =
    let rest : LegalFrom c (after c xs) (e ∷ (ys ++ zs)) = LegalFrom-rest c (opening c) xs (e ∷ (ys ++ zs)) (subst (Legal c) whole l) in
    let later : LegalFrom c (next (after c xs) e) ys = LegalFrom-front c (next (after c xs) e) ys zs rest.1 in
    none_in r (after c (xs ++ e ∷ ys)).latches.state
    (at_end c (λ s. NoneOf r s.latches.state) xs (e ∷ ys)
    (along c (λ s. NoneOf r s.latches.state) (λ y. obtained_by r y.op y.reply ≡ false)
    (λ s y h n a. none_moved c r s y.caller y.object y.place y.op y.reply h n a) (next (after c xs) e) ys later none
    (purge_moved c r (after c xs) e.caller e.object e.place e.op e.reply rest.0 by)))

-- a granted request that stays in its list stays granted
stays_so : (c : Setup) (es : List Entry) → Legal c es → (xs ys : List Entry) (e : Entry) (latch : ℕ) (q : Request) → es ≡ xs ++ e ∷ ys
    → Contains (granted (queue c xs latch)) q → Contains (queue c (xs ++ e ∷ []) latch) q
    → Contains (granted (queue c (xs ++ e ∷ []) latch)) q
stays_so c es l xs ys e latch q whole g i =
    let h : IsNext c (after c xs) e = (LegalFrom-rest c (opening c) xs (e ∷ ys) (subst (Legal c) whole l)).0 in
    subst (λ s. Contains (granted (list_of s.latches.state latch)) q) (sym (after_longer c xs e))
    (granted_next c (after c xs) e (record { latch = latch; request = q }) h
    (subst (λ s. Contains (list_of s.latches.state latch) q) (after_longer c xs e) i) g)

-- the part of latches
pub latches_are_orderly : (c : Setup) (es : List Entry) → Legal c es → AreOrderlyLatches c es
latches_are_orderly c es l = record {
  in_order = λ xs ys latch whole. (
    numbers_rise c xs latch (LegalFrom-front c (opening c) xs ys (subst (Legal c) whole l)),
    (waiting (queue c xs latch), granted_split (queue c xs latch)),
  );
  alone = λ xs ys latch q whole i exclusive. stands_alone (queue c xs latch) q i exclusive;
  stays = λ xs ys e latch q whole g i. stays_so c es l xs ys e latch q whole g i;
  purged = λ r xs ys zs e whole by none. holds_nothing c es l r xs ys zs e whole by none;
}

-- and the whole
pub history_is_orderly : (c : Setup) (es : List Entry) → Legal c es → IsOrderly c es
history_is_orderly c es l = record { elements = elements_are_orderly c es l; latches = latches_are_orderly c es l }
