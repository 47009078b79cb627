-- Of a legal history, entry by entry: what each caller's part keeps to all entries do, what a block was found complete with was posted,
-- and what a pause was given was released.
use Rattle.std.proofs.Common.{◌≡◌, ℕ, ◌+◌, ◌<◌, ◌==◌, List, [], ◌∷◌, ◌++◌, ◌⊎◌, inl, inr, Some, refl, sym, ap, ◌∙◌, subst, arith}
use Rattle.std.proofs.Common.{append_assoc}
use Rattle.std.proofs.lemmas.Bool.{cases_eq, eq-eqb, ne_eqb, false≢true}
use Rattle.std.proofs.lemmas.List.Elements.{Contains-append_left, Contains-append_right, filter_map-append}
use Rattle.std.specs.List.{AllByRecursion, Contains}
use Rattle.mv_ecb.specs.declared.operation.EcbOp.{EcbOp}
use Rattle.mv_ecb.specs.declared.operation.EcbOp.TheVariants.{Arm, Extend, Settle, Post, Test}
use Rattle.mv_ecb.specs.declared.operation.EcbReply.TheVariants as ecb_reply
use Rattle.mv_ecb.specs.Table.{ecb_step}
use Rattle.mv_ecb.specs.Word.{EcbState, Zero, Waiting, Extended, Complete}
use Rattle.mv_element.specs.declared.operation.ElementOp.{ElementOp}
use Rattle.mv_element.specs.declared.operation.ElementOp.TheVariants.{Release}
use Rattle.mv_element.specs.declared.operation.ElementReply.{ElementReply}
use Rattle.mv_element.specs.declared.operation.ElementReply.TheVariants.{Given, Early, Woke}
use Rattle.mv_latch.proofs.Members.{first_is_in, rest_is_in}
use Rattle.mv_machine.specs.declared.entry.Entry.{Entry}
use Rattle.mv_machine.specs.declared.entry.Object.{Object}
use Rattle.mv_machine.specs.declared.entry.Object.TheVariants.{Ecb, Element, Volume, Latches}
use Rattle.mv_machine.specs.declared.entry.Op.{Op}
use Rattle.mv_machine.specs.declared.entry.Op.TheVariants as op_on
use Rattle.mv_machine.specs.declared.entry.Reply.{Reply}
use Rattle.mv_machine.specs.declared.entry.Reply.TheVariants as reply_of
use Rattle.mv_machine.specs.Elements.{ElementEvent, as_element_event, element_events, accepted_code, releases, given_code, only_if}
use Rattle.mv_machine.specs.Elements.{IsOrderlyElement}
use Rattle.mv_machine.specs.Legal.{IsNext, LegalFrom, Legal, next, of}
use Rattle.mv_config.specs.Setup.{Setup}
use Rattle.mv_machine.specs.System.{System, opening}
use Rattle.mv_machine.proofs.EntryRuns.{entry_of}
use Rattle.mv_machine.proofs.Lists.{all_at, all_filter, all_front}
use Rattle.mv_machine.proofs.Orderly.{history_is_orderly}
use Rattle.mv_board.specs.Faces.{CallerFace}
use Rattle.mv_machine.proofs.Places.{of_mine, of_other}
use Rattle.mv_calls.proofs.Interleaved.{callers_exist}
use Rattle.mv_wait.specs.OneBlock.{WaitedFor}
use Rattle.mv_attach.specs.Entries.{Finds, IsAccepted, IsPosted}

-- ---- what each caller's part keeps to

parts_all : (P : ℕ → Entry → Type 0) (m : ℕ) (es : List Entry) → AllByRecursion (λ e. e.caller < m) es
    → ((k : ℕ) → k < m → AllByRecursion (P k) (of k es)) → AllByRecursion (λ e. P e.caller e) es
parts_all P m [] callers parts = tt
parts_all P m (e ∷ es) callers parts = (
  (subst (AllByRecursion (P e.caller)) (of_mine e.caller e es refl) (parts e.caller callers.0)).0,
  parts_all P m es callers.1 (λ k lt. rest k lt (cases_eq e.caller k)),
) where
  rest : (k : ℕ) → k < m → (e.caller ≡ k) ⊎ (e.caller ≡ k → ⊥) → AllByRecursion (P k) (of k es)
  rest k lt (inl own) = (subst (AllByRecursion (P k)) (of_mine k e es own) (parts k lt)).1
  rest k lt (inr other) = subst (AllByRecursion (P k)) (of_other k e es other) (parts k lt)

pub all_entries : (P : ℕ → Entry → Type 0) (c : Setup) (es : List Entry) → Legal c es
    → ((k : ℕ) → k < c.callers → AllByRecursion (P k) (of k es)) → AllByRecursion (λ e. P e.caller e) es
all_entries P c es legal parts = parts_all P c.callers es (callers_exist c (opening c) es legal) parts

-- an entry of one caller's part is one of all
pub own_entry : (k : ℕ) (es : List Entry) (e : Entry) → Contains (of k es) e → Contains es e
own_entry k es e member = all_at (λ x. Contains es x) (of k es) e
    (all_filter (λ x. Contains es x) (λ (x : Entry). x.caller == k) es (each es (λ x i. i))) member where
      each : (xs : List Entry) → ((x : Entry) → Contains xs x → Contains es x) → AllByRecursion (λ x. Contains es x) xs
      each [] within = tt
      each (x ∷ xs) within = (within x (first_is_in x xs x refl), each xs (λ y i. within y (rest_is_in x xs y i)))

-- ---- what a block was found complete with

-- a block that is complete was so before, or is now posted
complete_by : (op : EcbOp) (x : EcbState) (code : ℕ) → (ecb_step op x).0 ≡ Complete code
    → (x ≡ Complete code) ⊎ ((op ≡ Post code) × IsAccepted (ecb_step op x).1)
complete_by Arm (Complete d) code is = inl is
complete_by (Extend y) (Complete d) code is = inl is
complete_by Settle (Complete d) code is = inl is
complete_by (Post d) Zero code is = inr (ap Post (cc is), tt)
complete_by (Post d) Waiting code is = inr (ap Post (cc is), tt)
complete_by (Post d) (Extended y) code is = inr (ap Post (cc is), tt)
complete_by (Post d) (Complete e) code is = inl is
complete_by Test x code is = inl is
complete_by op x code is = absurd (cc is)

-- who is told that it is complete is told its code
told_by : (op : EcbOp) (x : EcbState) (code : ℕ) → (ecb_step op x).1 ≡ ecb_reply.Complete code → x ≡ Complete code
told_by op x code is = grind arith

module _ (journal : List Entry) where
  -- each block that is complete was posted with its code
  abbrev ArePosted : System → Type 0
  ArePosted s = (n code : ℕ) → (s.ecb n).state ≡ Complete code → IsPosted journal n code

  abbrev IsTrueFind : Entry → Type 0
  IsTrueFind e = (n code : ℕ) → e.object ≡ Ecb n → e.reply ≡ reply_of.Ecb (ecb_reply.Complete code) → IsPosted journal n code

  posted_next : (c : Setup) (s : System) (k : ℕ) (o : Object) (p : ℕ) (op : Op) (r : Reply) → IsNext c s (entry_of k o p op r)
      → Contains journal (entry_of k o p op r) → ArePosted s
      → ArePosted (next s (entry_of k o p op r)) × IsTrueFind (entry_of k o p op r)
  posted_next c s k (Ecb m) p (op_on.Ecb op) r h member all = (λ n code is. then_at n code (cases_eq n m) is, found) where
    reply_is : r ≡ reply_of.Ecb (ecb_step op (s.ecb m).state).1
    reply_is = cc h.reply

    then_at : (n code : ℕ) → (n ≡ m) ⊎ (n ≡ m → ⊥) → ((next s (entry_of k (Ecb m) p (op_on.Ecb op) r)).ecb n).state ≡ Complete code
        → IsPosted journal n code
    then_at n code (inl same) is = elim (complete_by op (s.ecb m).state code (rw (eq-eqb n m same) at is)) [
      | inl was ↦ all n code (ap (λ j. (s.ecb j).state) same ∙ was)
      | inr post ↦ record {
        entry = entry_of k (Ecb m) p (op_on.Ecb op) r;
        member = member;
        object = ap Ecb (sym same);
        post = ap op_on.Ecb post.0;
        told = (ecb_step op (s.ecb m).state).1;
        reply = reply_is;
        accepted = post.1;
      }
    ]
    then_at n code (inr other) is = all n code (rw (ne_eqb n m other) at is)

    found : IsTrueFind (entry_of k (Ecb m) p (op_on.Ecb op) r)
    found n code at is =
        let same : m ≡ n = cc at in
        let told : (ecb_step op (s.ecb m).state).1 ≡ ecb_reply.Complete code = cc (sym reply_is ∙ is) in
        all n code (ap (λ j. (s.ecb j).state) (sym same) ∙ told_by op (s.ecb m).state code told)
  posted_next c s k (Element m) p (op_on.Element op) r h member all = (all, λ n code at is. absurd (cc at))
  posted_next c s k (Volume m) p (op_on.Volume op) r h member all = (all, λ n code at is. absurd (cc at))
  posted_next c s k Latches p (op_on.Latch op) r h member all = (all, λ n code at is. absurd (cc at))
  posted_next c s k o p op r h member all = absurd (false≢true h.admits)

  all_posted : (c : Setup) (s : System) (es : List Entry) → LegalFrom c s es → ((e : Entry) → Contains es e → Contains journal e)
      → ArePosted s → AllByRecursion IsTrueFind es
  all_posted c s [] legal within all = tt
  all_posted c s (e ∷ es) legal within all =
      let one = posted_next c s e.caller e.object e.place e.op e.reply legal.0 (within e (first_is_in e es e refl)) all in
      (one.1, all_posted c (next s e) es legal.1 (λ f i. within f (rest_is_in e es f i)) one.0)

-- what an entry of one caller's part found a block complete with was posted, by an entry of the same history
pub found_was_posted : (c : Setup) (es : List Entry) (k n code : ℕ) → Legal c es → Finds (of k es) n code → IsPosted es n code
found_was_posted c es k n code legal f =
    all_at (IsTrueFind es) es f.entry (all_posted es c (opening c) es legal (λ e i. i) (λ m d is. absurd (cc is)))
    (own_entry k es f.entry f.member) n code f.object f.found

-- what a log finds, a longer one finds
pub finds_longer : (old new more : List Entry) (n code : ℕ) → new ≡ old ++ more → Finds old n code → Finds new n code
finds_longer old new more n code logged f = record {
  entry = f.entry;
  member = subst (λ es. Contains es f.entry) (sym logged) (Contains-append_left old more f.entry f.member);
  object = f.object;
  found = f.found;
}

-- a wait for one block found it so
pub waited_finds : (ecb code : ℕ) (t u : CallerFace) → WaitedFor ecb code t u → Finds u.log ecb code
waited_finds ecb code t u w = record {
  entry = w.second;
  member = subst (λ es. Contains es w.second) (sym w.logged)
      (Contains-append_right t.log (w.first ∷ w.second ∷ []) w.second
      (rest_is_in w.first (w.second ∷ []) w.second (first_is_in w.second [] w.second refl)));
  object = w.settle.0;
  found = w.found;
}

-- ---- what a pause was given

-- one of these entries is a release of this generation of an element, with this code
pub record IsReleased (es : List Entry) (element generation code : ℕ) : Type 0 where
  pub entry : Entry
  pub member : Contains es entry
  pub object : entry.object ≡ Element element
  pub release : entry.op ≡ op_on.Element (Release generation code)

module _ (journal : List Entry) (n : ℕ) where
  abbrev IsGood : ElementEvent → Type 0
  IsGood v = (g code : ℕ) → v.op ≡ Release g code → IsReleased journal n g code

  abbrev event : ℕ → ℕ → ElementOp → ElementReply → ElementEvent
  event k p op r = record { caller = k; place = p; op = op; reply = r }

  taken : (g h d : ℕ) (k p : ℕ) (r : ElementReply) (vs : List ElementEvent) → IsGood (event k p (Release h d) r)
      → AllByRecursion (IsReleased journal n g) (releases g vs) → accepted_code g (event k p (Release h d) r) ≡ only_if (h == g) d
      → AllByRecursion (IsReleased journal n g) (releases g (event k p (Release h d) r ∷ vs))
  taken g h d k p r vs good rest is = elim (cases_eq h g) [
    | inl same ↦ rw (is, eq-eqb h g same) (good g d (ap (λ x. Release x d) same), rest)
    | inr other ↦ rw (is, ne_eqb h g other) rest
  ]

  codes_next : (g k p : ℕ) (op : ElementOp) (r : ElementReply) (vs : List ElementEvent) → IsGood (event k p op r)
      → AllByRecursion (IsReleased journal n g) (releases g vs)
      → AllByRecursion (IsReleased journal n g) (releases g (event k p op r ∷ vs))
  codes_next g k p (Release h d) Early vs good rest = taken g h d k p Early vs good rest refl
  codes_next g k p (Release h d) Woke vs good rest = taken g h d k p Woke vs good rest refl
  codes_next g k p op Early vs good rest = rest
  codes_next g k p op Woke vs good rest = rest
  codes_next g k p op r vs good rest = rest

  codes_good : (g : ℕ) (vs : List ElementEvent) → AllByRecursion IsGood vs → AllByRecursion (IsReleased journal n g) (releases g vs)
  codes_good g [] good = tt
  codes_good g (v ∷ vs) good = codes_next g v.caller v.place v.op v.reply vs good.0 (codes_good g vs good.1)

  good_next : (k : ℕ) (o : Object) (p : ℕ) (op : Op) (r : Reply) (es : List Entry) → Contains journal (entry_of k o p op r)
      → AllByRecursion IsGood (element_events n es) → AllByRecursion IsGood (element_events n (entry_of k o p op r ∷ es))
  good_next k (Element m) p (op_on.Element op) (reply_of.Element r) es member rest = elim (cases_eq m n) [
    | inl same ↦ rw (eq-eqb m n same) (
      (λ g code is. record {
        entry = entry_of k (Element m) p (op_on.Element op) (reply_of.Element r);
        member = member;
        object = ap Element same;
        release = ap op_on.Element is;
      }),
      rest,
    )
    | inr other ↦ rw (ne_eqb m n other) rest
  ]
  good_next k o p op r es member rest = rest

  all_good : (es : List Entry) → ((e : Entry) → Contains es e → Contains journal e) → AllByRecursion IsGood (element_events n es)
  all_good [] within = tt
  all_good (e ∷ es) within = good_next e.caller e.object e.place e.op e.reply es (within e (first_is_in e es e refl))
      (all_good es (λ f i. within f (rest_is_in e es f i)))

  abbrev IsTrueGift : Entry → Type 0
  IsTrueGift e = (g code : ℕ) → e.object ≡ Element n → e.reply ≡ reply_of.Element (Given code (g + 1)) → IsReleased journal n g code

  module _ (vs : List ElementEvent) (orderly : IsOrderlyElement vs) (good : AllByRecursion IsGood vs) where
    given_first : (c : Setup) (s : System) (k : ℕ) (o : Object) (p : ℕ) (op : Op) (r : Reply) (es : List Entry) (front : List ElementEvent)
        → IsNext c s (entry_of k o p op r) → vs ≡ front ++ element_events n (entry_of k o p op r ∷ es) → IsTrueGift (entry_of k o p op r)
    given_first c s k (Element m) p (op_on.Element op) (reply_of.Element x) es front h is = λ g code at given.
        let same : m ≡ n = cc at in
        let reply : x ≡ Given code (g + 1) = cc given in
        let later = element_events n es in
        let split : vs ≡ front ++ event k p op x ∷ later = is ∙ ap (λ ws. front ++ ws) (rw (eq-eqb m n same) refl) in
        let code_is : given_code g x ≡ Some code = ap (given_code g) reply ∙ rw (eq-eqb (g + 1) (g + 1) refl) refl in
        let was = orderly.reached g code front later (event k p op x) split code_is in
        (subst (AllByRecursion (IsReleased journal n g)) was.0
        (codes_good g front (all_front IsGood front (event k p op x ∷ later) (subst (AllByRecursion IsGood) split good)))).0
    given_first c s k (Element m) p (op_on.Element op) r es front h is = λ g code at given. absurd (cc given)
    given_first c s k (Element m) p op r es front h is = absurd (false≢true h.admits)
    given_first c s k o p op r es front h is = λ g code at given. absurd (cc at)

    given_all : (c : Setup) (s : System) (es : List Entry) (front : List ElementEvent) → LegalFrom c s es
        → vs ≡ front ++ element_events n es → AllByRecursion IsTrueGift es
    given_all c s [] front legal is = tt
    given_all c s (e ∷ es) front legal is = (
      given_first c s e.caller e.object e.place e.op e.reply es front legal.0 is,
      given_all c (next s e) es (front ++ element_events n (e ∷ [])) legal.1
          (is ∙ ap (λ ws. front ++ ws) (filter_map-append (as_element_event n) (e ∷ []) es)
          ∙ sym (append_assoc front (element_events n (e ∷ [])) (element_events n es))),
    )

-- what an entry gave the pause of a generation was released, by an entry of the same history
pub gift_was_released : (c : Setup) (es : List Entry) (e : Entry) (n g code : ℕ) → Legal c es → Contains es e → e.object ≡ Element n
    → e.reply ≡ reply_of.Element (Given code (g + 1)) → IsReleased es n g code
gift_was_released c es e n g code legal member object reply =
    let vs = element_events n es in
    all_at (IsTrueGift es n) es e
    (given_all es n vs ((history_is_orderly c es legal).elements n) (all_good es n es (λ f i. i)) c (opening c) es [] legal refl)
    member g code object reply
