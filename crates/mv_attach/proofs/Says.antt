-- Which events each call may say: what holds of these holds of each entry of the call. With `served_grown`, for programs whose proofs go by
-- what each task's log keeps to.
use Rattle.std.proofs.Common.{◌≡◌, ℕ, zero, suc, List, [], ◌∷◌, ◌++◌, length, Option, Some, None, Result, Ok, Bool, true, false, nat_le}
use Rattle.std.proofs.Common.{refl, if◌then◌else◌}
use Rattle.std.specs.List.{AllByRecursion}
use Rattle.mv_ecb.specs.declared.operation.EcbOp.TheVariants as ecb_op
use Rattle.mv_ecb.specs.declared.operation.EcbReply.{EcbReply}
use Rattle.mv_ecb.specs.declared.operation.EcbReply.TheVariants as ecb_reply
use Rattle.mv_element.specs.declared.element.Token.{Token}
use Rattle.mv_element.specs.declared.operation.ElementOp.TheVariants as element_op
use Rattle.mv_element.specs.declared.operation.ElementReply.{ElementReply}
use Rattle.mv_element.specs.declared.operation.ElementReply.TheVariants as element_reply
use Rattle.mv_latch.specs.declared.operation.LatchOp.TheVariants.{Obtain, Confirm}
use Rattle.mv_latch.specs.declared.operation.LatchReply.{LatchReply}
use Rattle.mv_latch.specs.declared.operation.LatchReply.TheVariants as latch_reply
use Rattle.mv_latch.specs.declared.request.LatchForm.TheVariants.{Waiting}
use Rattle.mv_latch.specs.declared.request.Mode.{Mode}
use Rattle.mv_machine.specs.declared.entry.Object.{Object}
use Rattle.mv_machine.specs.declared.entry.Object.TheVariants.{Ecb, Element, Volume, Latches}
use Rattle.mv_machine.specs.declared.entry.Op.{Op}
use Rattle.mv_machine.specs.declared.entry.Op.TheVariants as op_on
use Rattle.mv_machine.specs.declared.entry.VolumeOp.TheVariants as volume_op
use Rattle.mv_machine.specs.declared.entry.VolumeReply.{VolumeReply}
use Rattle.mv_machine.specs.declared.entry.VolumeReply.TheVariants as volume_reply
use Rattle.mv_config.specs.Setup.{Setup, targets_of}
use Rattle.mv_calls.specs.Keeping.{Kept}
use Rattle.mv_calls.specs.LatchCalls.{obtain, obtain_refusal, obtained, confirmed}
use Rattle.mv_calls.specs.Pauses.{allocate, open_lowest, lowest_free, opened, pause, paused, resumed, release, released}
use Rattle.mv_calls.specs.Pauses.{is_others_token}
use Rattle.mv_calls.specs.Posts.{post, post_within, posting, posted_next, each_posted}
use Rattle.mv_calls.specs.Program.{Program, Do, Done, Early, on_ecb, on_element, on_latch}
use Rattle.mv_calls.specs.Refusal.{Refusal}
use Rattle.mv_calls.specs.Refusal as refusal
use Rattle.mv_calls.specs.Waits.{wait, wait_refusal, refused_if, is_others_block, clear, the_word, arm_all, armed, settle_all, settled}
use Rattle.mv_calls.specs.Waits.{enough, complete_count, read_volume, the_value, write_volume, stored}
use Rattle.mv_calls.specs.declared.outcomes.WaitSlot.{WaitSlot}
use Rattle.mv_calls.specs.declared.outcomes.WaitSlot.TheVariants as wait_slot
use Rattle.mv_attach.proofs.Always.{Always, always_ecb, always_element, always_latch, always_volume, always_unless}

module _ (P : Object → Op → Type 0) where
  -- ---- blocks

  abbrev MayArm : ℕ → Type 0
  MayArm e = P (Ecb e) (op_on.Ecb ecb_op.Arm)

  abbrev MaySettle : ℕ → Type 0
  MaySettle e = P (Ecb e) (op_on.Ecb ecb_op.Settle)

  always_armed : {A : Type 0} (p : Program A) → Always P p → (x : EcbReply) → Always P (armed p x)
  always_armed p a ecb_reply.Armed = a
  always_armed p a (ecb_reply.Complete c) = a
  always_armed p a x = tt

  always_arm : {A : Type 0} (es : List ℕ) (p : Program A) → AllByRecursion MayArm es → Always P p → Always P (arm_all es p)
  always_arm [] p may a = a
  always_arm (e ∷ es) p may a =
      (may.0, λ h. always_ecb P h.entry.reply (armed (arm_all es p)) (always_armed (arm_all es p) (always_arm es p may.1 a)))

  always_settled : {A : Type 0} (f : WaitSlot → Program A) → ((o : WaitSlot) → Always P (f o)) → (x : EcbReply) → Always P (settled f x)
  always_settled f a ecb_reply.Open = a wait_slot.Open
  always_settled f a (ecb_reply.Complete c) = a (wait_slot.Complete c)
  always_settled f a x = tt

  always_settle : {A : Type 0} (es : List ℕ) (found : List WaitSlot) (f : List WaitSlot → Program A) → AllByRecursion MaySettle es
      → ((slots : List WaitSlot) → Always P (f slots)) → Always P (settle_all es found f)
  always_settle [] found f may a = a found
  always_settle (e ∷ es) found f may a = (
    may.0,
    λ h. always_ecb P h.entry.reply (settled (λ slot. settle_all es (found ++ slot ∷ []) f))
        (always_settled (λ slot. settle_all es (found ++ slot ∷ []) f) (λ slot. always_settle es (found ++ slot ∷ []) f may.1 a)),
  )

  enough_if : (b : Bool) (slots : List WaitSlot) → Always {A = Result (List WaitSlot) Refusal} P (if b then Done (Ok slots) else Early)
  enough_if true slots = tt
  enough_if false slots = tt

  -- a wait arms and settles its blocks
  pub always_wait : (c : Setup) (count : ℕ) (es : List ℕ) (kept : Kept) → AllByRecursion MayArm es → AllByRecursion MaySettle es
      → Always P (wait c count es kept)
  always_wait c count es kept arm settle =
      always_unless P (wait_refusal c count es kept) (arm_all es (settle_all es [] (enough count)))
      (always_arm es (settle_all es [] (enough count)) arm
      (always_settle es [] (enough count) settle (λ slots. enough_if (nat_le count (complete_count slots)) slots)))

  -- a clear is one
  pub always_clear : (c : Setup) (e : ℕ) (kept : Kept) → P (Ecb e) (op_on.Ecb ecb_op.Clear) → Always P (clear c e kept)
  always_clear c e kept may =
      always_unless P (refused_if (is_others_block c kept e) refusal.NotOwner)
      (Do (Ecb e) (op_on.Ecb ecb_op.Clear) (λ h. on_ecb h.entry.reply (the_word (λ w. Done (Ok w)))))
      (may, λ h. always_ecb P h.entry.reply (the_word (λ w. Done (Ok w))) (λ x. on x)) where
        on : (x : EcbReply) → Always P (the_word {A = Result ℕ Refusal} (λ w. Done (Ok w)) x)
        on (ecb_reply.Word w) = tt
        on x = tt

  no_targets : (c : Setup) (x : ℕ) → c.exits ≡ [] → targets_of c x ≡ []
  no_targets c zero none = refl
  no_targets c (suc x) none = rw none refl

  always_within : (c : Setup) (depth code e : ℕ) → c.exits ≡ [] → P (Ecb e) (op_on.Ecb (ecb_op.Post code))
      → Always P (post_within depth c code e)
  always_within c zero code e none may = tt
  always_within c (suc depth) code e none may = (
    may,
    λ h. always_ecb P h.entry.reply (λ r. posting (λ a. each_posted (post_within depth c code) (posted_next c r) a) r) (λ x. on x),
  ) where
    on : (x : EcbReply) → Always P (posting (λ a. each_posted (post_within depth c code) (posted_next c x) a) x)
    on ecb_reply.Posted = tt
    on (ecb_reply.Woke x) = rw (no_targets c x none) tt
    on (ecb_reply.Already d) = tt
    on x = tt

  -- a post is one, where the configuration has no exits
  pub always_post : (c : Setup) (e code : ℕ) (kept : Kept) → c.exits ≡ [] → P (Ecb e) (op_on.Ecb (ecb_op.Post code))
      → Always P (post c e code kept)
  always_post c e code kept none may = always_within c (length c.owners) code e none may

  -- ---- elements

  -- an allocation opens an element
  pub always_allocate : (c : Setup) (kept : Kept) → ((n : ℕ) → P (Element n) (op_on.Element element_op.Open)) → Always P (allocate c kept)
  always_allocate c kept may = on (lowest_free c kept) where
    reply : (n : ℕ) (x : ElementReply) → Always P (opened n x)
    reply n (element_reply.Opened g) = tt
    reply n x = tt

    on : (o : Option ℕ) → Always P (open_lowest o)
    on None = tt
    on (Some n) = (may n, λ h. always_element P h.entry.reply (opened n) (reply n))

  -- a pause is a pause and a resume of its token
  pub always_pause : (c : Setup) (t : Token) (kept : Kept) → P (Element t.element) (op_on.Element (element_op.Pause t.generation))
      → P (Element t.element) (op_on.Element (element_op.Resume t.generation)) → Always P (pause c t kept)
  always_pause c t kept may again =
      always_unless P (refused_if (is_others_token c kept t) refusal.NotOwner)
      (Do (Element t.element) (op_on.Element (element_op.Pause t.generation))
      (λ h. on_element h.entry.reply (paused t.element t.generation)))
      (may, λ h. always_element P h.entry.reply (paused t.element t.generation) (λ x. on x)) where
        last : (x : ElementReply) → Always P (resumed t.element x)
        last (element_reply.Given code next) = tt
        last element_reply.NotYet = tt
        last x = tt

        on : (x : ElementReply) → Always P (paused t.element t.generation x)
        on (element_reply.Given code next) = tt
        on element_reply.Parked = (again, λ h. always_element P h.entry.reply (resumed t.element) (λ x. last x))
        on (element_reply.Spent g) = tt
        on x = tt

  -- a release is one of its token with its code
  pub always_release : (t : Token) (code : ℕ) (kept : Kept) → P (Element t.element) (op_on.Element (element_op.Release t.generation code))
      → Always P (release t code kept)
  always_release t code kept may = (may, λ h. always_element P h.entry.reply released (λ x. on x)) where
    on : (x : ElementReply) → Always P (released x)
    on element_reply.Early = tt
    on element_reply.Woke = tt
    on (element_reply.Spent g) = tt
    on element_reply.Already = tt
    on x = tt

  -- ---- volumes

  pub always_read : (v : ℕ) (kept : Kept) → P (Volume v) (op_on.Volume volume_op.Read) → Always P (read_volume v kept)
  always_read v kept may = (may, λ h. always_volume P h.entry.reply the_value (λ x. on x)) where
    on : (x : VolumeReply) → Always P (the_value x)
    on (volume_reply.Value n) = tt
    on x = tt

  pub always_write : (v n : ℕ) (kept : Kept) → P (Volume v) (op_on.Volume (volume_op.Write n)) → Always P (write_volume v n kept)
  always_write v n kept may = (may, λ h. always_volume P h.entry.reply stored (λ x. on x)) where
    on : (x : VolumeReply) → Always P (stored x)
    on volume_reply.Stored = tt
    on x = tt

  -- ---- latches

  -- an obtain of the waiting form is one, and a confirm of its request
  pub always_obtain : (c : Setup) (latch requestor : ℕ) (mode : Mode) (kept : Kept)
      → P Latches (op_on.Latch (Obtain latch requestor mode Waiting)) → ((id : ℕ) → P Latches (op_on.Latch (Confirm latch id)))
      → Always P (obtain c latch requestor mode Waiting kept)
  always_obtain c latch requestor mode kept may again =
      always_unless P (obtain_refusal c latch requestor mode Waiting kept)
      (Do Latches (op_on.Latch (Obtain latch requestor mode Waiting)) (λ h. on_latch h.entry.reply (obtained latch Waiting)))
      (may, λ h. always_latch P h.entry.reply (obtained latch Waiting) (λ x. on x)) where
        last : (id : ℕ) (x : LatchReply) → Always P (confirmed id x)
        last id (latch_reply.Granted same) = tt
        last id latch_reply.Waiting = tt
        last id latch_reply.Gone = tt
        last id x = tt

        on : (x : LatchReply) → Always P (obtained latch Waiting x)
        on (latch_reply.Granted id) = tt
        on (latch_reply.Queued id) = (again id, λ h. always_latch P h.entry.reply (confirmed id) (λ x. last id x))
        on x = tt
