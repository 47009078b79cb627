-- What a section of a latch keeps others from.
use Rattle.std.proofs.Common.{◌≡◌, ◌≢◌, ℕ, Bool, true, false, ◌||◌, List, [], ◌∷◌, ◌++◌, cond, inl, inr, refl, sym, ap}
use Rattle.std.proofs.Common.{◌∙◌, subst, append_assoc}
use Rattle.std.specs.List.{AllByRecursion, Contains, list_any}
use Rattle.std.proofs.lemmas.Bool.{cases_eq, false≢true, true≢false, eqb-true, eq-eqb, and_parts, false_from_ne_true}
use Rattle.std.proofs.lemmas.List.{get_or-set_same}
use Rattle.std.proofs.lemmas.List.Elements.{All-contains, All-from_recursion}
use mathlib.Core.Logic.{dite}
use native.Mathlib.Decide.{ℕ_discrete}
use Rattle.mv_latch.specs.declared.operation.LatchOp.TheVariants.{Obtain, Confirm}
use Rattle.mv_latch.specs.declared.operation.LatchReply.{LatchReply}
use Rattle.mv_latch.specs.declared.operation.LatchReply.TheVariants.{Granted, Queued, NotNow, Waiting, Gone}
use Rattle.mv_latch.specs.declared.request.LatchForm.{LatchForm}
use Rattle.mv_latch.specs.declared.request.Mode.{Mode}
use Rattle.mv_latch.specs.declared.request.Mode.TheVariants.{Exclusive, Shared}
use Rattle.mv_latch.specs.declared.request.Request.{Request}
use Rattle.mv_latch.specs.Latch.{shared_front, granted, grants, blocker}
use Rattle.mv_latch.specs.LatchSet.{list_of}
use Rattle.mv_latch.specs.Request.{is_own, queues, shared_request}
use Rattle.mv_latch.proofs.Members.{not_in_empty, first_or_rest, found, finds}
use Rattle.mv_latch.proofs.Splits.{front_shared}
use Rattle.mv_machine.specs.declared.entry.Entry.{Entry}
use Rattle.mv_machine.specs.declared.entry.Object.{Object}
use Rattle.mv_machine.specs.declared.entry.Object.TheVariants.{Ecb, Element, Volume, Latches}
use Rattle.mv_machine.specs.declared.entry.Op.{Op}
use Rattle.mv_machine.specs.declared.entry.Op.TheVariants as op_on
use Rattle.mv_machine.specs.declared.entry.Reply.{Reply}
use Rattle.mv_machine.specs.declared.entry.Reply.TheVariants as reply_of
use Rattle.mv_machine.specs.declared.entry.VolumeOp.TheVariants.{Read, Write}
use Rattle.mv_machine.specs.Kept.{StandingRequest, standing}
use Rattle.mv_machine.specs.Leaving.{takes_out, NoneTakesOut, WasPurged}
use Rattle.mv_machine.specs.Legal.{IsNext, LegalFrom, next, Legal, after, after_from, of}
use Rattle.mv_machine.specs.Owned.{IsGranted}
use Rattle.mv_config.specs.Setup.{Setup}
use Rattle.mv_machine.specs.System.{System, opening, moved}
use Rattle.mv_machine.proofs.EntryRuns.{entry_of, rest_is_legal}
use Rattle.mv_machine.proofs.Grants.{in_granted, granted_next, granted_stays, stays_next}
use Rattle.mv_machine.proofs.Histories.{LegalFrom-front, after_from-append, with_at-same, with_at-other}
use Rattle.mv_machine.proofs.LatchRuns.{list_at}
use Rattle.mv_machine.proofs.Lists.{all_back}
use Rattle.mv_machine.proofs.Longer.{after_longer, last_is_next, front_is_legal}
use Rattle.mv_machine.proofs.Places.{of_mine, of_other}
use Rattle.mv_machine.proofs.StandingRuns.{names_of}
use Rattle.mv_calls.specs.Sections.{tells_grant, IsHolder, IsSection, HoldsAlone, IsGuarded, AreOwn, is_write}
use Rattle.mv_calls.proofs.Gone.{granted_or_purged, its_own, one_request}
use Rattle.mv_calls.proofs.Removals.{stands_below}
use Rattle.mv_calls.proofs.Queues.{granted_at_once}

-- ---- who is told so holds the latch

-- an obtain that is granted
obtain_tells : (k place latch requestor id i : ℕ) (mode : Mode) (form : LatchForm) (qs : List Request) (b d : Bool)
    → let r : Request = record { id = place; caller = k; requestor = requestor; mode = mode; form = form } in
    grants qs r ≡ b → queues form ≡ d
    → (cond {A = List Request × LatchReply} b (qs ++ r ∷ [], Granted place)
    (cond {A = List Request × LatchReply} d (qs ++ r ∷ [], Queued place) (qs, NotNow (blocker r qs)))).1 ≡ Granted i
    → i ≡ id
    → list_any (is_own k id) (granted (cond {A = List Request × LatchReply} b (qs ++ r ∷ [], Granted place)
    (cond {A = List Request × LatchReply} d (qs ++ r ∷ [], Queued place) (qs, NotNow (blocker r qs)))).0) ≡ true
obtain_tells k place latch requestor id i mode form qs true d g q e same =
    let r : Request = record { id = place; caller = k; requestor = requestor; mode = mode; form = form } in
    let number : place ≡ i = cc e in
    finds (is_own k id) r (granted (qs ++ r ∷ [])) (granted_at_once qs r g)
    (rw (eq-eqb place id (number ∙ same), eq-eqb k k refl) refl)
obtain_tells k place latch requestor id i mode form qs false true g q e same = absurd (cc e)
obtain_tells k place latch requestor id i mode form qs false false g q e same = absurd (cc e)

-- a confirm that is
confirm_tells : (k id asked i : ℕ) (qs : List Request) (b d : Bool) → list_any (is_own k asked) (granted qs) ≡ b
    → cond b (Granted asked) (cond d Waiting Gone) ≡ Granted i → i ≡ id → list_any (is_own k id) (granted qs) ≡ true
confirm_tells k id asked i qs true d is e same =
    let number : asked ≡ i = cc e in subst (λ n. list_any (is_own k n) (granted qs) ≡ true) (number ∙ same) is
confirm_tells k id asked i qs false true is e same = absurd (cc e)
confirm_tells k id asked i qs false false is e same = absurd (cc e)

told_moved : (c : Setup) (s : System) (k : ℕ) (o : Object) (p : ℕ) (op : Op) (r : Reply) (latch id : ℕ)
    → IsNext c s (entry_of k o p op r) → tells_grant latch id op r ≡ true → IsGranted k latch id (moved s k o op)
told_moved c s k Latches p (op_on.Latch (Obtain l requestor mode form)) (reply_of.Latch (Granted i)) latch id h is =
    let place = s.latches.place in
    let qs = list_of s.latches.state l in
    let x : Request = record { id = place; caller = k; requestor = requestor; mode = mode; form = form } in
    let both = and_parts _ _ is in
    let here : l ≡ latch = eqb-true l latch both.0 in
    let lt = names_of c s k (Obtain l requestor mode form) h.admits in
    subst (λ n. list_any (is_own k id) (granted (list_at (moved s k Latches (op_on.Latch (Obtain l requestor mode form))) n)) ≡ true) here
    (rw (get_or-set_same s.latches.state l _ [] lt)
    (obtain_tells k place l requestor id i mode form qs (grants qs x) (queues form) refl refl (cc (sym h.reply))
    (eqb-true i id both.1)))
told_moved c s k Latches p (op_on.Latch (Confirm l asked)) (reply_of.Latch (Granted i)) latch id h is =
    let both = and_parts _ _ is in
    let here : l ≡ latch = eqb-true l latch both.0 in
    let qs = list_of s.latches.state l in
    subst (λ n. IsGranted k n id s) here
    (confirm_tells k id asked i qs (list_any (is_own k asked) (granted qs)) (list_any (is_own k asked) qs) refl (cc (sym h.reply))
    (eqb-true i id both.1))
told_moved c s k (Ecb n) p (op_on.Latch op) r latch id h is = absurd (false≢true h.admits)
told_moved c s k (Element n) p (op_on.Latch op) r latch id h is = absurd (false≢true h.admits)
told_moved c s k (Volume n) p (op_on.Latch op) r latch id h is = absurd (false≢true h.admits)
told_moved c s k o p op r latch id h is = absurd (false≢true is)

told_is_granted : (c : Setup) (s : System) (e : Entry) (latch id : ℕ) → IsNext c s e → tells_grant latch id e.op e.reply ≡ true
    → IsGranted e.caller latch id (next s e)
told_is_granted c s e latch id h is = told_moved c s e.caller e.object e.place e.op e.reply latch id h is

-- the entry that told it, among all
record Telling (k latch id : ℕ) (es : List Entry) : Type 0 where
  before : List Entry
  entry : Entry
  later : List Entry
  split : es ≡ before ++ entry ∷ later
  mine : entry.caller ≡ k
  tells : tells_grant latch id entry.op entry.reply ≡ true

telling_later : (k latch id : ℕ) (x : Entry) (es : List Entry) → Telling k latch id es → Telling k latch id (x ∷ es)
telling_later k latch id x es w = record {
  before = x ∷ w.before;
  entry = w.entry;
  later = w.later;
  split = ap (λ ys. x ∷ ys) w.split;
  mine = w.mine;
  tells = w.tells;
}

telling : (k latch id : ℕ) (es : List Entry) → list_any (λ e. tells_grant latch id e.op e.reply) (of k es) ≡ true → Telling k latch id es
telling k latch id [] any = absurd (false≢true any)
telling k latch id (e ∷ es) any = dite (ℕ_discrete e.caller k)
    (λ mine. here mine (telling k latch id es) (tells_grant latch id e.op e.reply) refl (rw (of_mine k e es mine) at any))
    (λ other. telling_later k latch id e es (telling k latch id es (rw (of_other k e es other) at any)))
  where
    here : e.caller ≡ k → (list_any (λ x. tells_grant latch id x.op x.reply) (of k es) ≡ true → Telling k latch id es) → (b : Bool)
        → tells_grant latch id e.op e.reply ≡ b
        → (b || list_any (λ x. tells_grant latch id x.op x.reply) (of k es)) ≡ true → Telling k latch id (e ∷ es)
    here mine rest true is any = record { before = []; entry = e; later = es; split = refl; mine = mine; tells = is }
    here mine rest false is any = telling_later k latch id e es (rest any)

-- who by its own entries holds a latch, and was not purged, holds it
pub holder_holds : (c : Setup) (k : ℕ) (t : StandingRequest) (es : List Entry) → Legal c es → IsHolder k t es
    → IsGranted k t.latch t.request.id (after c es)
holder_holds c k t es l h =
    let w = telling k t.latch t.request.id es h.granted.told in
    let upto = w.before ++ w.entry ∷ [] in
    let whole : es ≡ upto ++ w.later = w.split ∙ sym (append_assoc w.before (w.entry ∷ []) w.later) in
    let legal : Legal c (upto ++ w.later) = subst (Legal c) whole l in
    let front : Legal c upto = LegalFrom-front c (opening c) upto w.later legal in
    let told : IsGranted w.entry.caller t.latch t.request.id (next (after c w.before) w.entry) =
    told_is_granted c (after c w.before) w.entry t.latch t.request.id (last_is_next c w.before w.entry front) w.tells in
    let then_held : IsGranted k t.latch t.request.id (after c upto) =
    subst (λ (s : System). IsGranted k t.latch t.request.id s) (sym (after_longer c w.before w.entry))
    (subst (λ j. IsGranted j t.latch t.request.id (next (after c w.before) w.entry)) w.mine told) in
    let stands : Contains (standing (of k (upto ++ w.later))) t = subst (λ xs. Contains (standing (of k xs)) t) whole h.granted.stands in
    elim (granted_or_purged c upto w.later k t legal stands then_held) [
      | inl held ↦ subst (λ xs. IsGranted k t.latch t.request.id (after c xs)) (sym whole) held
      | inr purged ↦ absurd (h.kept (subst (WasPurged k t) (sym whole) purged))
    ]

-- so its request is among those that hold it
holder_in : (c : Setup) (k : ℕ) (t : StandingRequest) (es : List Entry) → Legal c es → IsHolder k t es
    → Contains (granted (list_at (after c es) t.latch)) t.request
holder_in c k t es l h =
    let f = found (is_own k t.request.id) (granted (list_at (after c es) t.latch)) (holder_holds c k t es l h) in
    let there = in_granted f.0 (list_at (after c es) t.latch) f.1 in
    subst (Contains (granted (list_at (after c es) t.latch))) (one_request c k t es f.0 l h.granted.stands there f.2) f.1

-- ---- who holds a latch alone

exclusive_only : (qs : List Request) (q r : Request) → q.mode ≡ Exclusive → Contains (granted qs) q → Contains (granted qs) r → q ≡ r
exclusive_only [] q r alone i j = absurd (not_in_empty q i)
exclusive_only (x ∷ xs) q r alone i j = go (shared_request x) refl i j where
  only : (y : Request) → Contains (x ∷ []) y → x ≡ y
  only y here = elim (first_or_rest x [] y here) [ inl e ↦ e | inr none ↦ absurd (not_in_empty y none) ]

  go : (b : Bool) → shared_request x ≡ b → Contains (cond b (shared_front (x ∷ xs)) (x ∷ [])) q
      → Contains (cond b (shared_front (x ∷ xs)) (x ∷ [])) r → q ≡ r
  go true is i j =
      let shared : shared_request q ≡ true = All-contains (λ y. shared_request y ≡ true) (shared_front (x ∷ xs)) q
      (All-from_recursion (λ y. shared_request y ≡ true) (shared_front (x ∷ xs)) (front_shared (x ∷ xs))) i in
      absurd (false≢true (sym (ap (λ (m : Mode). shared_request (record q { mode = m })) alone) ∙ shared))
  go false is i j = sym (only q i) ∙ only r j

-- one that holds it alone, and another that holds it: they are one
both : (c : Setup) (j k : ℕ) (t u : StandingRequest) (es : List Entry) → Legal c es → IsHolder j u es → u.latch ≡ t.latch
    → u.request.mode ≡ Exclusive → Contains (granted (list_at (after c es) t.latch)) t.request → t.request.caller ≡ k
    → (j ≡ k) × (u.request ≡ t.request)
both c j k t u es l h here alone in_list mine =
    let there : Contains (granted (list_at (after c es) t.latch)) u.request =
    subst (λ n. Contains (granted (list_at (after c es) n)) u.request) here (holder_in c j u es l h) in
    let one : u.request ≡ t.request = exclusive_only (list_at (after c es) t.latch) u.request t.request alone there in_list in
    (sym (stands_below c j es u l h.granted.stands).1 ∙ (ap (λ (q : Request). q.caller) one ∙ mine), one)

pub one_holder : (c : Setup) (j k : ℕ) (t u : StandingRequest) (es : List Entry) → Legal c es → IsHolder j t es → IsHolder k u es
    → t.latch ≡ u.latch → t.request.mode ≡ Exclusive → (j ≡ k) × (t.request ≡ u.request)
one_holder c j k t u es l h g here alone =
    both c j k u t es l h here alone (holder_in c k u es l g) (stands_below c k es u l g.granted.stands).1

-- what no other caller's entry takes out was not purged
pub not_purged : (k : ℕ) (t : StandingRequest) (es : List Entry)
    → AllByRecursion (λ e. e.caller ≢ k → takes_out t e.caller e.object e.op ≡ false) es → WasPurged k t es → ⊥
not_purged k t es none w =
    let all = subst (AllByRecursion (λ e. e.caller ≢ k → takes_out t e.caller e.object e.op ≡ false)) w.split none in
    let keeps : takes_out t w.purge.caller w.purge.object w.purge.op ≡ false = (all_back (λ e. e.caller ≢ k
    → takes_out t e.caller e.object e.op ≡ false) w.before (w.purge ∷ w.later) all).0 w.other in
    let takes : takes_out t w.purge.caller w.purge.object w.purge.op ≡ true =
    ap (λ (x : Object). takes_out t w.purge.caller x w.purge.op) w.object
    ∙ (ap (λ (x : Op). takes_out t w.purge.caller Latches x) w.op ∙ eq-eqb t.request.requestor t.request.requestor refl) in
    true≢false (sym takes ∙ keeps)

-- ---- a section

section_in : (c : Setup) (k : ℕ) (t : StandingRequest) (before inside : List Entry) → Legal c (before ++ inside)
    → IsSection k t before inside → Contains (granted (list_at (after c (before ++ inside)) t.latch)) t.request
section_in c k t before inside l s =
    granted_stays c before inside t l s.stays
    (holder_in c k t before (LegalFrom-front c (opening c) before inside l) s.entered)

mine : (c : Setup) (k : ℕ) (t : StandingRequest) (before inside : List Entry) → Legal c (before ++ inside) → IsSection k t before inside
    → t.request.caller ≡ k
mine c k t before inside l s =
    (stands_below c k before t (LegalFrom-front c (opening c) before inside l) s.entered.granted.stands).1

pub section_holds : (c : Setup) (k : ℕ) (t : StandingRequest) (before inside : List Entry) → Legal c (before ++ inside)
    → IsSection k t before inside → IsGranted k t.latch t.request.id (after c (before ++ inside))
section_holds c k t before inside l s =
    finds (is_own k t.request.id) t.request (granted (list_at (after c (before ++ inside)) t.latch)) (section_in c k t before inside l s)
    (its_own c k t before (LegalFrom-front c (opening c) before inside l) s.entered.granted.stands)

-- what is told granted takes nothing out
takes_nothing : (t : StandingRequest) (latch id j : ℕ) (o : Object) (op : Op) (r : Reply) → tells_grant latch id op r ≡ true
    → takes_out t j o op ≡ false
takes_nothing t latch id j Latches (op_on.Latch (Obtain l requestor mode form)) r is = refl
takes_nothing t latch id j Latches (op_on.Latch (Confirm l asked)) r is = refl
takes_nothing t latch id j (Ecb n) op r is = refl
takes_nothing t latch id j (Element n) op r is = refl
takes_nothing t latch id j (Volume n) op r is = refl
takes_nothing t latch id j o op r is = absurd (false≢true is)

-- nobody else is told granted while it is held alone
pub none_beside : (c : Setup) (k : ℕ) (t : StandingRequest) (before inside : List Entry) (e : Entry) (id : ℕ)
    → Legal c (before ++ inside ++ e ∷ []) → IsSection k t before inside → t.request.mode ≡ Exclusive → e.caller ≢ k
    → tells_grant t.latch id e.op e.reply ≡ false
none_beside c k t before inside e id l s alone other =
    let es = before ++ inside in
    let front : Legal c es = front_is_legal c es e l in
    let is_next : IsNext c (after c es) e = last_is_next c es e l in
    false_from_ne_true (tells_grant t.latch id e.op e.reply) (λ tells.
    let stays = stays_next c (after c es) e t is_next (takes_nothing t t.latch id e.caller e.object e.op e.reply tells)
    (in_granted t.request (list_at (after c es) t.latch) (section_in c k t before inside front s)) in
    let held = granted_next c (after c es) e t is_next stays (section_in c k t before inside front s) in
    let f = found (is_own e.caller id) (granted (list_at (next (after c es) e) t.latch))
    (told_is_granted c (after c es) e t.latch id is_next tells) in
    let one : t.request ≡ f.0 = exclusive_only (list_at (next (after c es) e) t.latch) t.request f.0 alone held f.1 in
    let its : f.0.caller ≡ e.caller = eqb-true f.0.caller e.caller (and_parts _ _ f.2).1 in
    other (sym its ∙ (ap (λ (q : Request). q.caller) (sym one) ∙ mine c k t before inside front s)))

-- ---- what a latch guards

front_stays : (t : StandingRequest) (xs ys : List Entry) → NoneTakesOut t (xs ++ ys) → NoneTakesOut t xs
front_stays t [] ys none = tt
front_stays t (x ∷ xs) ys none = (none.0, front_stays t xs ys none.1)

module _ (c : Setup) (k : ℕ) (t : StandingRequest) (kind : Op → Bool) (o : Object) (before : List Entry) where
  from_here : (front rest : List Entry) → Legal c (before ++ (front ++ rest)) → IsHolder k t before → NoneTakesOut t (front ++ rest)
      → IsGuarded kind t.latch o (before ++ (front ++ rest)) → AreOwn kind o k t rest
  from_here front [] l h none guarded = tt
  from_here front (e ∷ rest) l h none guarded = (
    (λ at_o is.
        let cut : before ++ (front ++ e ∷ rest) ≡ (before ++ front) ++ e ∷ rest = sym (append_assoc before front (e ∷ rest)) in
        let legal : Legal c (before ++ front) = LegalFrom-front c (opening c) (before ++ front) (e ∷ rest) (subst (Legal c) cut l) in
        let section : IsSection k t before front = record { entered = h; stays = front_stays t front (e ∷ rest) none } in
        let alone : HoldsAlone t.latch e.caller (before ++ front) = guarded (before ++ front) rest e cut at_o is in
        let one = both c e.caller k t alone.request (before ++ front) legal alone.holder alone.here alone.exclusive
        (section_in c k t before front legal section) (mine c k t before front legal section) in
        (one.0, ap (λ (q : Request). q.mode) (sym one.1) ∙ alone.exclusive)),
    (let more : front ++ e ∷ rest ≡ (front ++ e ∷ []) ++ rest = sym (append_assoc front (e ∷ []) rest) in
        from_here (front ++ e ∷ []) rest (subst (λ xs. Legal c (before ++ xs)) more l) h (subst (NoneTakesOut t) more none)
        (subst (λ xs. IsGuarded kind t.latch o (before ++ xs)) more guarded)),
  )

pub section_is_own : (c : Setup) (k : ℕ) (t : StandingRequest) (kind : Op → Bool) (o : Object) (before inside : List Entry)
    → Legal c (before ++ inside) → IsSection k t before inside → IsGuarded kind t.latch o (before ++ inside) → AreOwn kind o k t inside
section_is_own c k t kind o before inside l s guarded = from_here c k t kind o before [] inside l s.entered s.stays guarded

-- ---- a volume that nobody writes

abbrev Unwritten : ℕ → List Entry → Type 0
Unwritten n es = AllByRecursion (λ e. e.object ≡ Volume n → is_write e.op ≡ true → ⊥) es

same_moved : (c : Setup) (s : System) (k : ℕ) (o : Object) (p : ℕ) (op : Op) (r : Reply) (n : ℕ) → IsNext c s (entry_of k o p op r)
    → (o ≡ Volume n → is_write op ≡ true → ⊥) → ((moved s k o op).volume n).state ≡ (s.volume n).state
same_moved c s k (Volume m) p (op_on.Volume Read) r n h none = elim (cases_eq n m) [
  | inl same ↦ ap (λ z. z.state) (with_at-same s.volume m _ n same) ∙ ap (λ j. (s.volume j).state) (sym same)
  | inr other ↦ ap (λ z. z.state) (with_at-other s.volume m _ n other)
]
same_moved c s k (Volume m) p (op_on.Volume (Write w)) r n h none = elim (cases_eq n m) [
  | inl same ↦ absurd (none (ap (λ j. Volume j) (sym same)) refl)
  | inr other ↦ ap (λ z. z.state) (with_at-other s.volume m _ n other)
]
same_moved c s k (Ecb m) p (op_on.Ecb op) r n h none = refl
same_moved c s k (Element m) p (op_on.Element op) r n h none = refl
same_moved c s k Latches p (op_on.Latch op) r n h none = refl
same_moved c s k o p op r n h none = absurd (false≢true h.admits)

unwritten_same : (c : Setup) (s : System) (n : ℕ) (es : List Entry) → LegalFrom c s es → Unwritten n es
    → ((after_from s es).volume n).state ≡ (s.volume n).state
unwritten_same c s n [] l none = refl
unwritten_same c s n (e ∷ es) l none =
    unwritten_same c (next s e) n es l.1 none.1 ∙ same_moved c s e.caller e.object e.place e.op e.reply n l.0 none.0

not_exclusive : (t : StandingRequest) → t.request.mode ≡ Shared → t.request.mode ≡ Exclusive → ⊥
not_exclusive t shared alone = let e : Shared ≡ Exclusive = sym shared ∙ alone in cc

none_written : (k n : ℕ) (t : StandingRequest) (es : List Entry) → t.request.mode ≡ Shared → AreOwn is_write (Volume n) k t es
    → Unwritten n es
none_written k n t [] shared own = tt
none_written k n t (e ∷ es) shared own =
    ((λ there is. not_exclusive t shared (own.0 there is).1), none_written k n t es shared own.1)

pub section_keeps_volume : (c : Setup) (k : ℕ) (t : StandingRequest) (n : ℕ) (before inside : List Entry) → Legal c (before ++ inside)
    → IsSection k t before inside → t.request.mode ≡ Shared → IsGuarded is_write t.latch (Volume n) (before ++ inside)
    → ((after c (before ++ inside)).volume n).state ≡ ((after c before).volume n).state
section_keeps_volume c k t n before inside l s shared guarded =
    ap (λ z. (z.volume n).state) (after_from-append (opening c) before inside)
    ∙ unwritten_same c (after c before) n inside (rest_is_legal c before inside l)
    (none_written k n t inside shared (section_is_own c k t is_write (Volume n) before inside l s guarded))
