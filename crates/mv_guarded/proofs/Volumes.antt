-- What a volume has after entries: what was written last. For programs, and for the laws.
use Rattle.std.proofs.Common.{◌≡◌, ℕ, true, List, [], ◌∷◌, ◌++◌, inl, inr, Some, refl, sym, ap, ◌∙◌, subst, if◌then◌else◌}
use Rattle.std.proofs.Common.{append_assoc}
use Rattle.std.proofs.lemmas.Bool.{cases_eq, eq-eqb, ne_eqb, false≢true}
use Rattle.std.proofs.lemmas.List.{append-nil}
use Rattle.mv_machine.specs.declared.entry.Entry.{Entry}
use Rattle.mv_machine.specs.declared.entry.Object.{Object}
use Rattle.mv_machine.specs.declared.entry.Object.TheVariants.{Ecb, Element, Volume, Latches}
use Rattle.mv_machine.specs.declared.entry.Op.{Op}
use Rattle.mv_machine.specs.declared.entry.Op.TheVariants as op_on
use Rattle.mv_machine.specs.declared.entry.Reply.{Reply}
use Rattle.mv_machine.specs.declared.entry.Reply.TheVariants as reply_of
use Rattle.mv_machine.specs.declared.entry.VolumeOp.TheVariants.{Read, Write}
use Rattle.mv_machine.specs.declared.entry.VolumeReply.TheVariants.{Value}
use Rattle.mv_machine.specs.Legal.{IsNext, LegalFrom, Legal, next, after, after_from, of}
use Rattle.mv_config.specs.Setup.{Setup}
use Rattle.mv_machine.specs.System.{System, opening, moved, reply_to}
use Rattle.mv_machine.proofs.EntryRuns.{entry_of, rest_is_legal}
use Rattle.mv_machine.proofs.Histories.{after_from-append, with_at-same, with_at-other}
use Rattle.mv_machine.proofs.Longer.{after_longer}
use Rattle.mv_machine.proofs.Places.{of_mine, of_other}
use Rattle.mv_calls.specs.Sections.{is_write}
use Rattle.mv_guarded.specs.Guarded.{value, value_with, value_from, IsUnwritten, IsOnlyWriter, Reads}

pub value-append : (n x : ℕ) (es fs : List Entry) → value_from n x (es ++ fs) ≡ value_from n (value_from n x es) fs
value-append n x [] fs = refl
value-append n x (e ∷ es) fs = value-append n (value_with n x e.object e.op) es fs

moved_value : (c : Setup) (s : System) (k : ℕ) (o : Object) (p : ℕ) (op : Op) (r : Reply) (n : ℕ) → IsNext c s (entry_of k o p op r)
    → ((moved s k o op).volume n).state ≡ value_with n (s.volume n).state o op
moved_value c s k (Volume m) p (op_on.Volume Read) r n h = elim (cases_eq n m) [
  | inl same ↦ ap (λ z. z.state) (with_at-same s.volume m _ n same) ∙ ap (λ j. (s.volume j).state) (sym same)
  | inr other ↦ ap (λ z. z.state) (with_at-other s.volume m _ n other)
]
moved_value c s k (Volume m) p (op_on.Volume (Write w)) r n h = elim (cases_eq n m) [
  | inl same ↦ ap (λ z. z.state) (with_at-same s.volume m _ n same)
      ∙ sym (ap (λ b. if b then w else (s.volume n).state) (eq-eqb m n (sym same)))
  | inr other ↦ ap (λ z. z.state) (with_at-other s.volume m _ n other)
      ∙ sym (ap (λ b. if b then w else (s.volume n).state) (ne_eqb m n (λ e. other (sym e))))
]
moved_value c s k (Ecb m) p (op_on.Ecb op) r n h = refl
moved_value c s k (Element m) p (op_on.Element op) r n h = refl
moved_value c s k Latches p (op_on.Latch op) r n h = refl
moved_value c s k o p op r n h = absurd (false≢true h.admits)

-- an operation that does not write it
pub unwritten : (n x : ℕ) (o : Object) (op : Op) → (o ≡ Volume n → is_write op ≡ true → ⊥) → value_with n x o op ≡ x
unwritten n x (Volume m) (op_on.Volume (Write y)) none = elim (cases_eq m n) [
  | inl same ↦ absurd (none (ap (λ j. Volume j) same) refl)
  | inr other ↦ ap (λ b. if b then y else x) (ne_eqb m n other)
]
unwritten n x o op none = refl

-- a write is of a number
pub write_of : (op : Op) → is_write op ≡ true → (x : ℕ) × (op ≡ op_on.Volume (Write x))
write_of (op_on.Volume (Write x)) is = (x, refl)
write_of op is = absurd (false≢true is)

-- ---- entries that do not write it

stays_from : (c : Setup) (s : System) (n : ℕ) (es : List Entry) → LegalFrom c s es → IsUnwritten n es
    → ((after_from s es).volume n).state ≡ (s.volume n).state
stays_from c s n [] l none = refl
stays_from c s n (e ∷ es) l none = stays_from c (next s e) n es l.1 none.1
    ∙ moved_value c s e.caller e.object e.place e.op e.reply n l.0 ∙ unwritten n (s.volume n).state e.object e.op none.0

pub stays_same : (c : Setup) (n : ℕ) (xs ys : List Entry) → Legal c (xs ++ ys) → IsUnwritten n ys → value c (xs ++ ys) n ≡ value c xs n
stays_same c n xs ys l none =
    ap (λ (s : System). (s.volume n).state) (after_from-append (opening c) xs ys)
    ∙ stays_from c (after c xs) n ys (rest_is_legal c xs ys l) none

-- ---- the only writer

written_from : (c : Setup) (s : System) (w n : ℕ) (es : List Entry) → LegalFrom c s es → IsOnlyWriter w n es
    → ((after_from s es).volume n).state ≡ value_from n (s.volume n).state (of w es)
written_from c s w n [] l by = refl
written_from c s w n (e ∷ es) l by = written_from c (next s e) w n es l.1 by.1 ∙ elim (cases_eq e.caller w) [
  | inl own ↦ ap (λ x. value_from n x (of w es)) step ∙ sym (ap (value_from n (s.volume n).state) (of_mine w e es own))
  | inr other ↦ ap (λ x. value_from n x (of w es)) (step ∙ unwritten n (s.volume n).state e.object e.op (λ at is. other (by.0 at is)))
      ∙ sym (ap (value_from n (s.volume n).state) (of_other w e es other))
] where
  step : ((next s e).volume n).state ≡ value_with n (s.volume n).state e.object e.op
  step = moved_value c s e.caller e.object e.place e.op e.reply n l.0

pub only_writer : (c : Setup) (es : List Entry) (w n : ℕ) → Legal c es → IsOnlyWriter w n es → value c es n ≡ value_from n 0 (of w es)
only_writer c es w n l by = written_from c (opening c) w n es l by

-- ---- a read

pub read_is_value : (c : Setup) (before : List Entry) (e : Entry) (later : List Entry) (n x : ℕ) → Legal c (before ++ e ∷ later)
    → Reads n x e → x ≡ value c before n
read_is_value c before e later n x l r =
    let s = after c before in
    let h : IsNext c s e = (rest_is_legal c before (e ∷ later) l).0 in
    let told : Some (reply_of.Volume (Value x)) ≡ reply_to s e.caller (Volume n) (op_on.Volume Read) =
    ap (λ y. Some y) (sym r.reply) ∙ h.reply ∙ (λ i. reply_to s e.caller (r.object i) (r.op i)) in cc told

-- the reply of a read
pub read_replies : (c : Setup) (before : List Entry) (e : Entry) (later : List Entry) (n : ℕ) → Legal c (before ++ e ∷ later)
    → e.object ≡ Volume n → e.op ≡ op_on.Volume Read → e.reply ≡ reply_of.Volume (Value (value c before n))
read_replies c before e later n l at is =
    let s = after c before in
    let told : Some e.reply ≡ reply_to s e.caller (Volume n) (op_on.Volume Read) =
    (rest_is_legal c before (e ∷ later) l).0.reply ∙ (λ i. reply_to s e.caller (at i) (is i)) in cc told

-- ---- one entry more

pub value_next : (c : Setup) (before : List Entry) (e : Entry) (later : List Entry) (n : ℕ) → Legal c (before ++ e ∷ later)
    → value c (before ++ e ∷ []) n ≡ value_with n (value c before n) e.object e.op
value_next c before e later n l =
    ap (λ (s : System). (s.volume n).state) (after_longer c before e)
    ∙ moved_value c (after c before) e.caller e.object e.place e.op e.reply n (rest_is_legal c before (e ∷ later) l).0

-- a write
pub value_written : (c : Setup) (before : List Entry) (e : Entry) (later : List Entry) (n x : ℕ) → Legal c (before ++ e ∷ later)
    → e.object ≡ Volume n → e.op ≡ op_on.Volume (Write x) → value c (before ++ e ∷ []) n ≡ x
value_written c before e later n x l at is =
    value_next c before e later n l ∙ (λ i. value_with n (value c before n) (at i) (is i))
    ∙ ap (λ b. if b then x else value c before n) (eq-eqb n n refl)

-- any other entry
pub value_kept : (c : Setup) (before : List Entry) (e : Entry) (later : List Entry) (n : ℕ) → Legal c (before ++ e ∷ later)
    → (e.object ≡ Volume n → is_write e.op ≡ true → ⊥) → value c (before ++ e ∷ []) n ≡ value c before n
value_kept c before e later n l none = value_next c before e later n l ∙ unwritten n (value c before n) e.object e.op none

-- ---- what holds at each moment

module _ (c : Setup) (es : List Entry) (legal : Legal c es) (n : ℕ) (P : List Entry → ℕ → Type 0)
    (step : (before : List Entry) (e : Entry) (later : List Entry) → es ≡ before ++ e ∷ later → P before (value c before n)
    → P (before ++ e ∷ []) (value_with n (value c before n) e.object e.op)) where
  moment_next : (before : List Entry) (e : Entry) (later : List Entry) → es ≡ before ++ e ∷ later → P before (value c before n)
      → P (before ++ e ∷ []) (value c (before ++ e ∷ []) n)
  moment_next before e later is p =
      subst (P (before ++ e ∷ [])) (sym (value_next c before e later n (subst (Legal c) is legal))) (step before e later is p)

  moments : (before rest later : List Entry) → es ≡ before ++ (rest ++ later) → P before (value c before n)
      → P (before ++ rest) (value c (before ++ rest) n)
  moments before [] later is p = subst (λ xs. P xs (value c xs n)) (sym (append-nil before)) p
  moments before (e ∷ rest) later is p =
      subst (λ xs. P xs (value c xs n)) (append_assoc before (e ∷ []) rest)
      (moments (before ++ e ∷ []) rest later (is ∙ sym (append_assoc before (e ∷ []) (rest ++ later)))
      (moment_next before e (rest ++ later) is p))

  -- what holds of no entry and zero, and each entry keeps, holds of each moment and the volume's number there
  pub at_each_moment : P [] 0 → (before later : List Entry) → es ≡ before ++ later → P before (value c before n)
  at_each_moment first before later is = moments [] before later is first
