-- What the lock order says of one caller's log: a request that the caller waits for is for the highest latch of all that stand; and no
-- block is armed and no pause has begun while a request stands.
use Rattle.std.proofs.Common.{◌≡◌, ℕ, ◌<◌, Bool, true, false, not, ◌⊎◌, inl, inr, List, [], ◌∷◌, ◌++◌, refl, sym, ap, ◌∙◌, subst}
use Rattle.std.proofs.Common.{append_assoc}
use Rattle.std.specs.List.{AllByRecursion, Contains}
use Rattle.std.proofs.lemmas.Bool.{cases_eq, false≢true}
use Rattle.std.proofs.lemmas.List.Elements.{Contains-push_cases}
use Rattle.mv_ecb.specs.declared.operation.EcbOp.TheVariants as ecb_op
use Rattle.mv_element.specs.declared.operation.ElementReply.TheVariants as element_reply
use Rattle.mv_latch.specs.declared.operation.LatchOp.TheVariants.{Obtain, Confirm, Release, Purge}
use Rattle.mv_latch.specs.declared.operation.LatchReply.TheVariants.{Queued, Purged}
use Rattle.mv_latch.specs.declared.request.LatchForm.TheVariants as form_of
use Rattle.mv_latch.proofs.Members.{not_in_empty, was_in}
use Rattle.mv_machine.specs.declared.entry.Entry.{Entry}
use Rattle.mv_machine.specs.declared.entry.Object.{Object}
use Rattle.mv_machine.specs.declared.entry.Object.TheVariants.{Ecb, Element, Latches}
use Rattle.mv_machine.specs.declared.entry.Op.{Op}
use Rattle.mv_machine.specs.declared.entry.Op.TheVariants as op_on
use Rattle.mv_machine.specs.declared.entry.Reply.{Reply}
use Rattle.mv_machine.specs.declared.entry.Reply.TheVariants as reply_of
use Rattle.mv_machine.specs.Kept.{StandingRequest, is_for, stands_with, standing}
use Rattle.mv_machine.specs.System.{with_at}
use Rattle.mv_machine.proofs.Histories.{by_last, with_at-same, with_at-other}
use Rattle.mv_machine.proofs.Lists.{all_at, all_front, all_back}
use Rattle.mv_calls.specs.Rest.{OpenWaits, no_waits, queued_with, waits_after, open_waits}
use Rattle.mv_calls.proofs.Making.{waits_from-append}
use Rattle.mv_calls.proofs.Removals.{standing_from-append, stood_at_confirm, stood_at_release}
use Rattle.mv_ordered.specs.LatchOrder.{AreBelow, KeepsOrder, ObtainsInRisingOrder, begins_wait, WaitsWithoutLatches}

-- ---- tables of marks

abbrev Table : Type 0
Table = ℕ → ℕ → Bool

-- one mark more: the new one, or one that was there
was_marked : (f : Table) (latch id m j : ℕ) → with_at f latch (with_at (f latch) id true) m j ≡ true
    → ((m ≡ latch) × (j ≡ id)) ⊎ (f m j ≡ true)
was_marked f latch id m j is = elim (cases_eq m latch) [
  | inl here ↦ elim (cases_eq j id) [
    | inl too ↦ inl (here, too)
    | inr apart ↦ inr (ap (λ n. f n j) here ∙ (sym (with_at-other (f latch) id true j apart)
        ∙ (ap (λ g. g j) (sym (with_at-same f latch (with_at (f latch) id true) m here)) ∙ is)))
  ]
  | inr apart ↦ inr (ap (λ g. g j) (sym (with_at-other f latch (with_at (f latch) id true) m apart)) ∙ is)
]

-- one mark less: each was there
was_left : (f : Table) (latch id m j : ℕ) → with_at f latch (with_at (f latch) id false) m j ≡ true → f m j ≡ true
was_left f latch id m j is = elim (cases_eq m latch) [
  | inl here ↦ elim (cases_eq j id) [
    | inl too ↦ absurd (false≢true (sym (with_at-same (f latch) id false j too)
        ∙ (ap (λ g. g j) (sym (with_at-same f latch (with_at (f latch) id false) m here)) ∙ is)))
    | inr apart ↦ ap (λ n. f n j) here ∙ (sym (with_at-other (f latch) id false j apart)
        ∙ (ap (λ g. g j) (sym (with_at-same f latch (with_at (f latch) id false) m here)) ∙ is))
  ]
  | inr apart ↦ ap (λ g. g j) (sym (with_at-other f latch (with_at (f latch) id false) m apart)) ∙ is
]

-- a row without marks, of which one is cleared
none_left : (f : ℕ → Bool) (n : ℕ) → ((m : ℕ) → f m ≡ false) → (m : ℕ) → with_at f n false m ≡ false
none_left f n none m = elim (cases_eq m n) [
  | inl here ↦ with_at-same f n false m here
  | inr apart ↦ with_at-other f n false m apart ∙ none m
]

-- ---- prefixes of a log
pub order_prefix : (xs ys : List Entry) → ObtainsInRisingOrder (xs ++ ys) → ObtainsInRisingOrder xs
order_prefix xs ys o before later e split =
    o before (later ++ ys) e (ap (λ z. z ++ ys) split ∙ append_assoc before (e ∷ later) ys)

pub apart_prefix : (xs ys : List Entry) → WaitsWithoutLatches (xs ++ ys) → WaitsWithoutLatches xs
apart_prefix xs ys a before later e split =
    a before (later ++ ys) e (ap (λ z. z ++ ys) split ∙ append_assoc before (e ∷ later) ys)

-- ---- a log with more entries

-- an entry of a list with one more is the last, or is in the list
split_push : (log : List Entry) (x : Entry) (before later : List Entry) (e : Entry) → log ++ x ∷ [] ≡ before ++ e ∷ later
    → ((log ≡ before) × (x ≡ e)) ⊎ ((rest : List Entry) × (log ≡ before ++ e ∷ rest))
split_push [] x [] later e is = inl (refl, cc is)
split_push [] x (b ∷ before) later e is = absurd (none before (cc is)) where
  none : (before : List Entry) → [] ≡ before ++ e ∷ later → ⊥
  none [] is = cc is
  none (b ∷ before) is = cc is
split_push (l ∷ log) x [] later e is = let same : l ≡ e = cc is in inr (log, ap (λ y. y ∷ log) same)
split_push (l ∷ log) x (b ∷ before) later e is =
    let same : l ≡ b = cc is in
    let rest : log ++ x ∷ [] ≡ before ++ e ∷ later = cc is in
    elim (split_push log x before later e rest) [
      | inl both ↦ inl (ap (λ y. y ∷ log) same ∙ ap (λ ys. b ∷ ys) both.0, both.1)
      | inr more ↦ inr (more.0, ap (λ y. y ∷ log) same ∙ ap (λ ys. b ∷ ys) more.1)
    ]

-- the empty log keeps to the order, and so does a log with an entry more that keeps to it
pub order_empty : ObtainsInRisingOrder []
order_empty [] later e is = absurd (cc is)
order_empty (b ∷ before) later e is = absurd (cc is)

pub order_push : (log : List Entry) (x : Entry) → ObtainsInRisingOrder log → KeepsOrder log x.op → ObtainsInRisingOrder (log ++ x ∷ [])
order_push log x o keeps before later e split = elim (split_push log x before later e split) [
  | inl last ↦ subst (λ (y : Entry). KeepsOrder before y.op) last.1 (subst (λ ys. KeepsOrder ys x.op) last.0 keeps)
  | inr old ↦ o before old.0 e old.1
]

-- the same of waiting without latches
pub apart_empty : WaitsWithoutLatches []
apart_empty [] later e is = absurd (cc is)
apart_empty (b ∷ before) later e is = absurd (cc is)

pub apart_push : (log : List Entry) (x : Entry) → WaitsWithoutLatches log → (begins_wait x.op ≡ true → standing log ≡ [])
    → WaitsWithoutLatches (log ++ x ∷ [])
apart_push log x a none before later e split = elim (split_push log x before later e split) [
  | inl last ↦ subst (λ (y : Entry). begins_wait y.op ≡ true → standing before ≡ []) last.1
      (subst (λ ys. begins_wait x.op ≡ true → standing ys ≡ []) last.0 none)
  | inr old ↦ a before old.0 e old.1
]

-- ---- what stood before an entry

-- an operation that is no obtain
abbrev pub IsNoObtain : Op → Type 0
IsNoObtain (op_on.Latch (Obtain latch requestor mode form)) = ⊥
IsNoObtain op = Unit {0}

-- makes no request stand
pub still_stood : (k : ℕ) (ts : List StandingRequest) (o : Object) (op : Op) (r : Reply) (t : StandingRequest) → IsNoObtain op
    → Contains (stands_with k ts o op r) t → Contains ts t
still_stood k ts Latches (op_on.Latch (Obtain latch requestor mode form)) r t none i = absurd none
still_stood k ts Latches (op_on.Latch (Confirm latch id)) (reply_of.Latch y) t none i = stood_at_confirm k ts t latch id y i
still_stood k ts Latches (op_on.Latch (Release latch id conditional)) (reply_of.Latch y) t none i =
    stood_at_release k ts t latch id conditional y i
still_stood k ts Latches (op_on.Latch (Purge requestor)) (reply_of.Latch (Purged removed granted)) t none i =
    was_in (λ u. not (is_for requestor u)) t ts i
still_stood k ts o op r t none i = i

-- ---- a request that is waited for is the highest

-- each of these is for a lower latch, or is the request of this number at this latch
abbrev pub AreUpTo : ℕ → ℕ → List StandingRequest → Type 0
AreUpTo latch id ts = (t : StandingRequest) → Contains ts t → (t.latch < latch) ⊎ ((t.latch ≡ latch) × (t.request.id ≡ id))

-- an obtain that is queued opens the one wait
new_is_highest : (latch id m j : ℕ) (ts : List StandingRequest) (u : StandingRequest) → u.latch ≡ latch → u.request.id ≡ id
    → AreBelow latch ts → (m ≡ latch) × (j ≡ id) → AreUpTo m j (ts ++ u ∷ [])
new_is_highest latch id m j ts u at number below same t i = elim (Contains-push_cases ts u t i) [
  | inl old ↦ inl (subst (λ n. t.latch < n) (sym same.0) (all_at (λ x. x.latch < latch) ts t below old))
  | inr is ↦ inr (
    ap (λ (x : StandingRequest). x.latch) (sym is) ∙ (at ∙ sym same.0),
    ap (λ (x : StandingRequest). x.request.id) (sym is) ∙ (number ∙ sym same.1),
  )
]

highest_step : (xs : List Entry) (k : ℕ) (o : Object) (op : Op) (r : Reply) → KeepsOrder xs op
    → ((latch id : ℕ) → (open_waits xs).queued latch id ≡ true → AreUpTo latch id (standing xs))
    → (latch id : ℕ) → queued_with (open_waits xs).queued o op r latch id ≡ true → AreUpTo latch id (stands_with k (standing xs) o op r)
highest_step xs k Latches (op_on.Latch (Obtain latch requestor mode form_of.Waiting)) (reply_of.Latch (Queued id)) keeps ih m j is =
    elim (was_marked (open_waits xs).queued latch id m j is) [
      | inl new ↦ new_is_highest latch id m j (standing xs)
          (record {
            latch = latch;
            request = record { id = id; caller = k; requestor = requestor; mode = mode; form = form_of.Waiting };
          }) refl refl (keeps.above refl) new
      | inr old ↦ absurd (false≢true (sym (keeps.rest.queued m j) ∙ old))
    ]
highest_step xs k Latches (op_on.Latch (Obtain latch requestor mode form)) (reply_of.Latch y) keeps ih m j is =
    absurd (false≢true (sym (keeps.rest.queued m j) ∙ is))
highest_step xs k o (op_on.Latch (Obtain latch requestor mode form)) r keeps ih m j is =
    absurd (false≢true (sym (keeps.rest.queued m j) ∙ is))
highest_step xs k Latches (op_on.Latch (Confirm latch id)) (reply_of.Latch y) keeps ih m j is =
    λ t i. ih m j (was_left (open_waits xs).queued latch id m j is) t (stood_at_confirm k (standing xs) t latch id y i)
highest_step xs k Latches (op_on.Latch op) (reply_of.Latch y) keeps ih m j is =
    λ t i. ih m j is t (still_stood k (standing xs) Latches (op_on.Latch op) (reply_of.Latch y) t tt i)
highest_step xs k o op r keeps ih m j is = λ t i. ih m j is t (still_stood k (standing xs) o op r t tt i)

pub highest : (log : List Entry) → ObtainsInRisingOrder log → (latch id : ℕ) → (open_waits log).queued latch id ≡ true
    → AreUpTo latch id (standing log)
highest = by_last (λ log. ObtainsInRisingOrder log → (latch id : ℕ) → (open_waits log).queued latch id ≡ true
    → AreUpTo latch id (standing log)) (λ o latch id is. absurd (false≢true is))
    (λ xs e ih o latch id is.
    let step = highest_step xs e.caller e.object e.op e.reply (o xs [] e refl) (ih (order_prefix xs (e ∷ []) o)) latch id
    (subst (λ (w : OpenWaits). w.queued latch id ≡ true) (waits_from-append no_waits xs (e ∷ [])) is) in
    subst (AreUpTo latch id) (sym (standing_from-append [] xs (e ∷ []))) step)

-- ---- no other wait is open while a request stands

-- whether a reply says that a pause has begun
abbrev pub parks : Reply → Bool
parks (reply_of.Element element_reply.Parked) = true
parks reply = false

-- only a pause is answered so
abbrev pub IsPausedByPause : Op → Reply → Type 0
IsPausedByPause op r = parks r ≡ true → begins_wait op ≡ true

-- no block is armed, and no pause has begun
pub record WaitsForNothingElse (w : OpenWaits) : Type 0 where
  pub armed : (n : ℕ) → w.armed n ≡ false
  pub parked : (n : ℕ) → w.parked n ≡ false

apart_step : (xs : List Entry) (k : ℕ) (o : Object) (op : Op) (r : Reply) → KeepsOrder xs op
    → (begins_wait op ≡ true → standing xs ≡ []) → IsPausedByPause op r
    → ((t : StandingRequest) → Contains (standing xs) t → WaitsForNothingElse (open_waits xs))
    → (t : StandingRequest) → Contains (stands_with k (standing xs) o op r) t → WaitsForNothingElse (waits_after (open_waits xs) o op r)
apart_step xs k (Ecb n) (op_on.Ecb ecb_op.Arm) r keeps apart only ih t i =
    absurd (not_in_empty t (subst (λ ts. Contains ts t) (apart refl) i))
apart_step xs k (Ecb n) (op_on.Ecb ecb_op.Settle) r keeps apart only ih t i =
    let old = ih t i in record { armed = none_left (open_waits xs).armed n old.armed; parked = old.parked }
apart_step xs k (Element n) op (reply_of.Element element_reply.Parked) keeps apart only ih t i =
    absurd (not_in_empty t (subst (λ ts. Contains ts t) (apart (only refl)) i))
apart_step xs k (Element n) op (reply_of.Element (element_reply.Given code next)) keeps apart only ih t i =
    let old = ih t i in record { armed = old.armed; parked = none_left (open_waits xs).parked n old.parked }
apart_step xs k o (op_on.Latch (Obtain latch requestor mode form)) r keeps apart only ih t i =
    record { armed = keeps.rest.armed; parked = keeps.rest.parked }
apart_step xs k o op r keeps apart only ih t i =
    let old = ih t (still_stood k (standing xs) o op r t tt i) in record { armed = old.armed; parked = old.parked }

pub nothing_else : (log : List Entry) → ObtainsInRisingOrder log → WaitsWithoutLatches log
    → AllByRecursion (λ e. IsPausedByPause e.op e.reply) log → (t : StandingRequest) → Contains (standing log) t
    → WaitsForNothingElse (open_waits log)
nothing_else = by_last (λ log. ObtainsInRisingOrder log → WaitsWithoutLatches log → AllByRecursion (λ e. IsPausedByPause e.op e.reply) log
    → (t : StandingRequest) → Contains (standing log) t → WaitsForNothingElse (open_waits log)) (λ o a only t i. absurd (not_in_empty t i))
    (λ xs e ih o a only t i.
    let step = apart_step xs e.caller e.object e.op e.reply (o xs [] e refl) (a xs [] e refl)
    (all_back (λ x. IsPausedByPause x.op x.reply) xs (e ∷ []) only).0
    (ih (order_prefix xs (e ∷ []) o) (apart_prefix xs (e ∷ []) a) (all_front (λ x. IsPausedByPause x.op x.reply) xs (e ∷ []) only)) t
    (subst (λ ts. Contains ts t) (standing_from-append [] xs (e ∷ [])) i) in
    subst WaitsForNothingElse (sym (waits_from-append no_waits xs (e ∷ []))) step)
