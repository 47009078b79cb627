-- Programs whose answers are so, with what their caller was told by then: whatever is heard of them in a run.
use Rattle.std.proofs.Common.{◌≡◌, ℕ, ◌+◌, ◌^◌, nat_lt, Bool, true, false, List, [], ◌∷◌, ◌++◌, Option, Some, None, Result, Ok, Err, refl}
use Rattle.std.proofs.Common.{if◌then◌else◌, sym, ap, ◌∙◌, subst, append-nil, append_assoc}
use Rattle.std.proofs.lemmas.Option.{some_pair_parts}
use Rattle.mv_element.specs.declared.element.Token.{Token}
use Rattle.mv_element.specs.declared.operation.ElementOp.TheVariants as element_op
use Rattle.mv_element.specs.declared.operation.ElementReply.TheVariants as element_reply
use Rattle.mv_machine.specs.declared.entry.Entry.{Entry}
use Rattle.mv_machine.specs.declared.entry.Object.TheVariants.{Element, Volume}
use Rattle.mv_machine.specs.declared.entry.Op.TheVariants as op_on
use Rattle.mv_machine.specs.declared.entry.Reply.{Reply}
use Rattle.mv_machine.specs.declared.entry.Reply.TheVariants as reply_of
use Rattle.mv_machine.specs.declared.entry.VolumeOp.TheVariants as volume_op
use Rattle.mv_machine.specs.declared.entry.VolumeReply.TheVariants as volume_reply
use Rattle.mv_config.specs.Setup.{Setup}
use Rattle.mv_calls.specs.Keeping.{Kept, kept_after}
use Rattle.mv_calls.specs.LatchCalls.{Requested, GrantedAs, PendingAs, release_latch}
use Rattle.mv_calls.specs.declared.outcomes.Given.{Given}
use Rattle.mv_calls.specs.Pauses.{gift_of, pause, paused, resumed, is_others_token}
use Rattle.mv_calls.specs.Program.{Program, Do, Done, Early, Wrong, Heard, Call, Says, left, entries, going_on, unrefused, followed, wrong}
use Rattle.mv_calls.specs.Program.{accepted, on_element, on_volume, unless_refused}
use Rattle.mv_calls.specs.Refusal.{Refusal}
use Rattle.mv_calls.specs.Refusal as refusal
use Rattle.mv_calls.specs.Waits.{read_volume, write_volume, the_value, refused_if}
use Rattle.mv_plan.specs.HandingOut.{gift_code}
use Rattle.mv_plan.specs.SpoolTasks.{granted_as, freed, counted}
use Rattle.mv_plan.proofs.points.Asks.{IsNoPause}
use Rattle.mv_plan.proofs.volumes.Totals.{with_code, codes_of}
use Rattle.mv_work.proofs.brought.Quiet.{Quiet, release_quiet, write_quiet}

-- ---- what a caller was told

-- the codes that it was given, and its last entry
pub record Past : Type 0 where
  pub codes : List ℕ
  pub last : Option Entry

-- nothing yet
abbrev pub nothing_told : Past
nothing_told = record { codes = []; last = None }

abbrev pub and_code : List ℕ → Option ℕ → List ℕ
and_code codes None = codes
and_code codes (Some code) = codes ++ code ∷ []

abbrev pub then_told : Past → Entry → Past
then_told p e = record { codes = and_code p.codes (gift_code e.reply); last = Some e }

abbrev pub all_told : Past → List Entry → Past
all_told p [] = p
all_told p (e ∷ es) = all_told (then_told p e) es

pub codes_told : (p : Past) (es : List Entry) → (all_told p es).codes ≡ p.codes ++ codes_of es
codes_told p [] = sym (append-nil p.codes)
codes_told p (e ∷ es) = codes_told (then_told p e) es ∙ go (gift_code e.reply) where
  go : (slot : Option ℕ) → and_code p.codes slot ++ codes_of es ≡ p.codes ++ with_code slot (codes_of es)
  go None = refl
  go (Some code) = append_assoc p.codes (code ∷ []) (codes_of es)

-- where this entry and the caller's last read one volume, both tell one number
abbrev pub TellsTheSame : Option Entry → Entry → Type 0
TellsTheSame None again = Unit {0}
TellsTheSame (Some once) again = (v : ℕ) → once.object ≡ Volume v → once.op ≡ op_on.Volume volume_op.Read → again.object ≡ Volume v
    → again.op ≡ op_on.Volume volume_op.Read → once.reply ≡ again.reply

-- so a run has it, and what is no pause gives no code
abbrev pub IsPlain : Past → Entry → Type 0
IsPlain p e = (IsNoPause e.object e.op → gift_code e.reply ≡ None) × TellsTheSame p.last e

abbrev pub ArePlain : Past → List Entry → Type 0
ArePlain p [] = Unit {0}
ArePlain p (e ∷ es) = IsPlain p e × ArePlain (then_told p e) es

-- ---- programs

-- whatever is heard of the program behind this, an answer is so
abbrev pub Brings : {A : Type 0} → (Past → A → Type 0) → Past → Program A → Type 0
Brings R p (Do o op next) =
    (h : Heard) → h.entry.object ≡ o → h.entry.op ≡ op → IsPlain p h.entry → Brings R (then_told p h.entry) (next h)
Brings R p (Done a) = R p a
Brings R p Early = Unit {0}
Brings R p Wrong = Unit {0}

pub is_brought : {A : Type 0} (R : Past → A → Type 0) (p : Past) (q : Program A) (hs : List Heard) (a : A) → Brings R p q → Says q hs
    → left q hs ≡ Done a → ArePlain p (entries hs) → R (all_told p (entries hs)) a
is_brought R p (Do o op next) [] a b s e w = absurd (cc e)
is_brought R p (Do o op next) (h ∷ hs) a b s e w =
    let is : (o ≡ h.entry.object) × (op ≡ h.entry.op) = some_pair_parts o h.entry.object op h.entry.op s.0 in
    is_brought R (then_told p h.entry) (next h) hs a (b h (sym is.0) (sym is.1) w.0) s.1 e w.1
is_brought R p (Done answer) [] a b s e w = subst (λ z. R p z) (let is : answer ≡ a = cc e in is) b
is_brought R p Early [] a b s e w = absurd (cc e)
is_brought R p Wrong [] a b s e w = absurd (cc e)
is_brought R p (Done answer) (h ∷ hs) a b s e w = absurd (cc s.0)
is_brought R p Early (h ∷ hs) a b s e w = absurd (cc s.0)
is_brought R p Wrong (h ∷ hs) a b s e w = absurd (cc s.0)

-- ---- programs one after the other

pub brings_then : {A B : Type 0} (R : Past → A → Type 0) (S : Past → B → Type 0) (p : Past) (kept : Kept) (q : Program A) (f : A → Call B)
    → Brings R p q → ((a : A) (k : Kept) (t : Past) → R t a → Brings S t (f a k)) → Brings S p (going_on kept q f)
brings_then R S p kept (Do o op next) f b each = λ h on does w.
    brings_then R S (then_told p h.entry) (kept_after kept o op h.entry.reply) (next h) f (b h on does w) each
brings_then R S p kept (Done a) f b each = each a kept p b
brings_then R S p kept Early f b each = tt
brings_then R S p kept Wrong f b each = tt

module _ {B : Type 0} (S : Past → B → Type 0) where
  -- a program that pauses nowhere is given no code
  pub quiet_then : {A : Type 0} (p : Past) (kept : Kept) (q : Program A) (f : A → Call B) → Quiet q
      → ((a : A) (k : Kept) (t : Past) → t.codes ≡ p.codes → Brings S t (f a k)) → Brings S p (going_on kept q f)
  quiet_then p kept (Do o op next) f q each = λ h on does w.
      let none : gift_code h.entry.reply ≡ None =
      w.0 (subst (λ z. IsNoPause h.entry.object z) (sym does) (subst (λ z. IsNoPause z op) (sym on) q.0)) in
      quiet_then (then_told p h.entry) (kept_after kept o op h.entry.reply) (next h) f (q.1 h)
      (λ a k t e. each a k t (e ∙ ap (and_code p.codes) none))
  quiet_then p kept (Done a) f q each = each a kept p refl
  quiet_then p kept Early f q each = tt
  quiet_then p kept Wrong f q each = tt

  -- one that is not to be refused
  pub quiet_accepted : {A : Type 0} (p : Past) (kept : Kept) (q : Program (Result A Refusal)) (f : A → Call B) → Quiet q
      → ((a : A) (k : Kept) (t : Past) → t.codes ≡ p.codes → Brings S t (f a k)) → Brings S p (going_on kept q (unrefused f))
  quiet_accepted {A} p kept q f quiet each = quiet_then p kept q (unrefused f) quiet go where
    go : (r : Result A Refusal) (k : Kept) (t : Past) → t.codes ≡ p.codes → Brings S t (unrefused f r k)
    go (Ok a) k t e = each a k t e
    go (Err why) k t e = tt

  -- ---- the calls of steps

  pub granted_then : (t : Past) (f : ℕ → Call B) (o : Requested) (k : Kept) → ((id : ℕ) → Brings S t (f id k))
      → Brings S t (granted_as f o k)
  granted_then t f (GrantedAs id) k each = each id
  granted_then t f (PendingAs id) k each = tt

  pub freed_then : (p : Past) (kept : Kept) (c : Setup) (latch : ℕ) (slot : Option ℕ) (f : Call B)
      → ((k : Kept) (t : Past) → t.codes ≡ p.codes → Brings S t (f k)) → Brings S p (freed c latch slot f kept)
  freed_then p kept c latch None f each = tt
  freed_then p kept c latch (Some id) f each =
      quiet_accepted p kept (release_latch c latch id false kept) (λ granted. f) (release_quiet c latch id kept) (λ granted. each)

  pub counted_then : (p : Past) (kept : Kept) (v amount n : ℕ) (f : Call B)
      → ((k : Kept) (t : Past) → t.codes ≡ p.codes → Brings S t (f k)) → Brings S p (counted v amount f n kept)
  counted_then p kept v amount n f each = go (nat_lt (n + amount) (2 ^ 32)) where
    go : (b : Bool) → Brings S p ((if b then followed (write_volume v (n + amount)) (λ stored. f) else wrong) kept)
    go true = quiet_then p kept (write_volume v (n + amount) kept) (λ stored. f) (write_quiet v (n + amount) kept) (λ stored. each)
    go false = tt

  -- ---- a read

  -- the event of a read that told this number
  abbrev pub Read : ℕ → ℕ → Entry → Type 0
  Read v n e = (e.object ≡ Volume v) × (e.op ≡ op_on.Volume volume_op.Read) × (e.reply ≡ reply_of.Volume (volume_reply.Value n))

  pub read_then : (p : Past) (kept : Kept) (v : ℕ) (f : ℕ → Call B)
      → ((n : ℕ) (k : Kept) (e : Entry) → Read v n e → TellsTheSame p.last e → (then_told p e).codes ≡ p.codes
      → Brings S (then_told p e) (f n k)) → Brings S p (followed (read_volume v) f kept)
  read_then p kept v f each = λ h on does w. go h on does w h.entry.reply refl where
    go : (h : Heard) → h.entry.object ≡ Volume v → h.entry.op ≡ op_on.Volume volume_op.Read → IsPlain p h.entry → (r : Reply)
        → h.entry.reply ≡ r → Brings S (then_told p h.entry)
        (going_on (kept_after kept (Volume v) (op_on.Volume volume_op.Read) h.entry.reply) (on_volume r the_value) f)
    go h on does w (reply_of.Volume (volume_reply.Value n)) q =
        each n _ h.entry (on, does, q) w.1 (ap (λ r. and_code p.codes (gift_code r)) q)
    go h on does w r q = tt

  -- ---- a pause: the caller is given one code

  module _ (p : Past) (t : Token) (f : Given → Call B)
      (each : (gift : Given) (k : Kept) (u : Past) → u.codes ≡ p.codes ++ gift.code ∷ [] → Brings S u (f gift k)) where
    resumes : (u : Past) → u.codes ≡ p.codes → (k : Kept) (e : Entry) (r : Reply) → e.reply ≡ r
        → Brings S (then_told u e) (going_on k (on_element r (resumed t.element)) (unrefused f))
    resumes u same k e (reply_of.Element (element_reply.Given code next)) q = each (gift_of t.element code next) k (then_told u e)
        (ap (λ r. and_code u.codes (gift_code r)) q ∙ ap (λ cs. cs ++ code ∷ []) same)
    resumes u same k e r q = tt

    pauses : (k : Kept) (e : Entry) (r : Reply) → e.reply ≡ r
        → Brings S (then_told p e) (going_on k (on_element r (paused t.element t.generation)) (unrefused f))
    pauses k e (reply_of.Element (element_reply.Given code next)) q =
        each (gift_of t.element code next) k (then_told p e) (ap (λ r. and_code p.codes (gift_code r)) q)
    pauses k e (reply_of.Element element_reply.Parked) q = λ h on does w.
        resumes (then_told p e) (ap (λ r. and_code p.codes (gift_code r)) q) _ h.entry h.entry.reply refl
    pauses k e r q = tt

    abbrev asking : Program (Result Given Refusal)
    asking = Do (Element t.element) (op_on.Element (element_op.Pause t.generation))
        (λ h. on_element h.entry.reply (paused t.element t.generation))

    pub pause_then : (kept : Kept) (c : Setup) → Brings S p (accepted (pause c t) f kept)
    pause_then kept c = go (refused_if (is_others_token c kept t) refusal.NotOwner) where
      go : (slot : Option Refusal) → Brings S p (going_on kept (unless_refused slot asking) (unrefused f))
      go None = λ h on does w. pauses _ h.entry h.entry.reply refl
      go (Some why) = tt
