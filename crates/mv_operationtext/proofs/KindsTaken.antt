-- Each operation, reply and entry that is read strictly is written so.
use Rattle.std.specs.Prelude.{codes}
use Rattle.std.proofs.Common.{subst, ◌∙◌, append_assoc, ◌≡◌, ℕ, ◌≤◌, true, false, List, ◌∷◌, ◌++◌, Option, Some, None, decimal, refl, sym}
use Rattle.std.proofs.Common.{ap, arith}
use Rattle.mv_ecb.specs.declared.operation.EcbOp.TheVariants as ecb_op_of
use Rattle.mv_ecb.specs.declared.operation.EcbReply.TheVariants as ecb_reply_of
use Rattle.mv_element.specs.declared.element.ElementState.{ElementState}
use Rattle.mv_element.specs.declared.element.Phase.{Phase}
use Rattle.mv_element.specs.declared.element.Phase.TheVariants.{Free, Reset, Prereleased, Paused, Released}
use Rattle.mv_element.specs.declared.operation.ElementOp.TheVariants as element_op_of
use Rattle.mv_element.specs.declared.operation.ElementReply.TheVariants as element_reply_of
use Rattle.mv_latch.specs.declared.request.Mode.TheVariants.{Shared, Exclusive}
use Rattle.mv_latch.specs.declared.request.LatchForm.TheVariants as form
use Rattle.mv_latch.specs.declared.operation.LatchOp.TheVariants as latch_op_of
use Rattle.mv_latch.specs.declared.operation.LatchReply.TheVariants as latch_reply_of
use Rattle.mv_machine.specs.declared.entry.VolumeOp.TheVariants.{Read, Write}
use Rattle.mv_machine.specs.declared.entry.VolumeReply.TheVariants.{Value, Stored}
use Rattle.mv_element.specs.Element.{in_phase}
use Rattle.mv_operationtext.specs.Words.{◌<+>◌}
use Rattle.mv_operationtext.specs.Reading.{number, any_u32, any_u64, parted, parted_by, parted_at}
use Rattle.mv_operationtext.specs.Ranges.{highest_u32, highest_u64, highest_ecb_code, highest_release_code}
use Rattle.mv_operationtext.specs.EcbText.{ecb_op_text, ecb_reply_text, IsEcbOpInRange, IsEcbReplyInRange, IsEcbReplyTyped, ecb_op, ecb_reply}
use Rattle.mv_operationtext.specs.ElementText.{phase_text, element_op_text, element_reply_text, IsElementOpInRange, IsElementOpTyped}
use Rattle.mv_operationtext.specs.ElementText.{IsElementReplyInRange, release_code, reached_generation, phase, highest_kept, kept_code}
use Rattle.mv_operationtext.specs.ElementText.{element_state, element_op, telling_reply, element_reply}
use Rattle.mv_operationtext.specs.VolumeText.{volume_op_text, volume_reply_text, IsVolumeOpTyped, IsVolumeReplyTyped, volume_op, volume_reply}
use Rattle.mv_operationtext.specs.LatchText.{mode_text, form_text, condition_text, latch_op_text, latch_reply_text, IsFormTyped}
use Rattle.mv_operationtext.specs.LatchText.{IsLatchOpTyped, IsLatchReplyTyped, mode_read, form_read, condition, two_u32, obtain_rest, obtain}
use Rattle.mv_operationtext.specs.LatchText.{release, latch_op, latch_reply}
use Rattle.mv_operationtext.specs.declared.version.Version.{Version}
use Rattle.mv_operationtext.specs.declared.version.Version.TheVariants.{One, Two}
use Rattle.mv_operationtext.specs.EntryText.{caller_text, caller_read, object_text, op_text, reply_text, entry_text, IsEventInRange}
use Rattle.mv_operationtext.specs.EntryText.{IsObjectTyped, IsOpTyped, IsReplyTyped, HasText, object_read, deed, deed_on, entry_of, entry_on}
use Rattle.mv_operationtext.specs.EntryText.{entry_read}
use Rattle.mv_machine.specs.declared.entry.Object.{Object}
use Rattle.mv_machine.specs.declared.entry.Object.TheVariants.{Ecb, Element, Volume, Latches}
use Rattle.mv_machine.specs.declared.entry.Op.{Op}
use Rattle.mv_machine.specs.declared.entry.Op.TheVariants as op_on
use Rattle.mv_machine.specs.declared.entry.Reply.{Reply}
use Rattle.mv_machine.specs.declared.entry.Reply.TheVariants as reply_of
use Rattle.mv_machine.specs.declared.entry.Entry.{Entry}
use Rattle.mv_config.specs.Limits.{highest_generation, highest_place}
use Rattle.mv_operationtext.specs.Reading.{Reader}
use Rattle.mv_operationtext.proofs.OneCallNumber.{IsCallIn}
use Rattle.mv_operationtext.proofs.Again.{state_text, highest_kept-le}
use Rattle.mv_operationtext.proofs.Taken.{Takes, takes_word, takes_part, takes_number_behind, word_or, part_or, u32_or, takes_made}
use Rattle.mv_operationtext.proofs.Taken.{takes_parted, takes_parted_at, takes_number, takes_u32, takes_u64}

-- ---- event control blocks

takes_code : Takes decimal (λ n. n ≤ highest_ecb_code) (number true 0 highest_ecb_code)
takes_code text rest n e = let t = takes_number 0 highest_ecb_code (omega arith) text rest n e in (t.0, t.1.1)

takes_exit : Takes decimal (λ n. (1 ≤ n) × (n ≤ highest_ecb_code)) (number true 1 highest_ecb_code)
takes_exit = takes_number 1 highest_ecb_code (omega arith)

takes_ecb_op : Takes ecb_op_text (λ op. IsEcbOpInRange op) (ecb_op true)
unfolding ecb_op
takes_ecb_op =
    let word = word_or ecb_op_text (λ op. IsEcbOpInRange op) in
    let part = part_or ecb_op_text (λ op. IsEcbOpInRange op) in
    word (codes "ARM") ecb_op_of.Arm refl tt _
    (part _ (codes "EXTEND ") (λ x. ecb_op_of.Extend x) decimal (λ x. (1 ≤ x) × (x ≤ highest_ecb_code)) (number true 1 highest_ecb_code)
    (λ x. refl) (λ x h. h) takes_exit _
    (word (codes "SETTLE") ecb_op_of.Settle refl tt _
    (word (codes "CLEAR") ecb_op_of.Clear refl tt _
    (part _ (codes "POST ") (λ x. ecb_op_of.Post x) decimal (λ x. x ≤ highest_ecb_code) (number true 0 highest_ecb_code) (λ x. refl)
    (λ x h. h) takes_code _
    (takes_word ecb_op_text (λ op. IsEcbOpInRange op) (codes "TEST") ecb_op_of.Test refl tt)))))

takes_ecb_reply : Takes ecb_reply_text (λ r. IsEcbReplyInRange r × IsEcbReplyTyped r) (ecb_reply true)
unfolding ecb_reply
takes_ecb_reply =
    let word = word_or ecb_reply_text (λ r. IsEcbReplyInRange r × IsEcbReplyTyped r) in
    let part = part_or ecb_reply_text (λ r. IsEcbReplyInRange r × IsEcbReplyTyped r) in
    word (codes "ARMED") ecb_reply_of.Armed refl (tt, tt) _
    (part _ (codes "LINKED ") (λ x. ecb_reply_of.Linked x) decimal (λ x. (1 ≤ x) × (x ≤ highest_ecb_code))
    (number true 1 highest_ecb_code) (λ x. refl) (λ x h. (h, tt)) takes_exit _
    (part _ (codes "COMPLETE ") (λ x. ecb_reply_of.Complete x) decimal (λ x. x ≤ highest_ecb_code) (number true 0 highest_ecb_code)
    (λ x. refl) (λ x h. (h, tt)) takes_code _
    (word (codes "WAITING") ecb_reply_of.Waiting refl (tt, tt) _
    (word (codes "OPEN") ecb_reply_of.Open refl (tt, tt) _
    (word (codes "POSTED") ecb_reply_of.Posted refl (tt, tt) _
    (part _ (codes "WOKE ") (λ x. ecb_reply_of.Woke x) decimal (λ x. x ≤ highest_ecb_code) (number true 0 highest_ecb_code) (λ x. refl)
    (λ x h. (h, tt)) takes_code _
    (part _ (codes "ALREADY ") (λ x. ecb_reply_of.Already x) decimal (λ x. x ≤ highest_ecb_code) (number true 0 highest_ecb_code)
    (λ x. refl) (λ x h. (h, tt)) takes_code _
    (takes_number_behind ecb_reply_text (λ r. IsEcbReplyInRange r × IsEcbReplyTyped r) (codes "WORD ") (λ x. ecb_reply_of.Word x)
    (λ x. refl) (λ x h. (tt, h))))))))))

-- ---- pause elements

takes_release : Takes decimal (λ n. n ≤ highest_release_code) (release_code true)
takes_release text rest n e = let t = takes_number 0 highest_release_code (omega arith) text rest n e in (t.0, t.1.1)

takes_generation : Takes decimal (λ n. n ≤ highest_generation) (reached_generation true)
takes_generation text rest n e = let t = takes_number 0 highest_generation (omega arith) text rest n e in (t.0, t.1.1)

takes_phase : Takes phase_text (λ p. Unit {0}) (phase)
unfolding phase
takes_phase =
    let word = word_or phase_text (λ p. Unit {0}) in
    word (codes "FREE") Free refl tt _
    (word (codes "RESET") Reset refl tt _
    (word (codes "PAUSED") Paused refl tt _
    (word (codes "RELEASED") Released refl tt _
    (takes_word phase_text (λ p. Unit {0}) (codes "PRERELEASED") Prereleased refl tt))))

takes_kept : (p : Phase) → Takes decimal (λ n. n ≤ highest_kept p) (kept_code true p)
takes_kept p text rest n e = let t = takes_number 0 (highest_kept p) (highest_kept-le p) text rest n e in (t.0, t.1.1)

abbrev parts_text : ℕ × (Phase × ℕ) → List ℕ
parts_text x = decimal x.0 <+> phase_text x.1.0 <+> decimal x.1.1

abbrev AreParts : ℕ × (Phase × ℕ) → Type 0
AreParts x = (x.0 ≤ highest_generation) × (Unit {0} × (x.1.1 ≤ highest_kept x.1.0))

parts_are : (g : ℕ) (p : Phase) (d : ℕ) → d ≤ highest_kept p → decimal g <+> phase_text p <+> decimal d ≡ state_text (in_phase p g d)
parts_are g Free d le = let z : d ≡ 0 = omega arith in ap (λ (n : ℕ). decimal g <+> phase_text Free <+> decimal n) z
parts_are g Reset d le = let z : d ≡ 0 = omega arith in ap (λ (n : ℕ). decimal g <+> phase_text Reset <+> decimal n) z
parts_are g Prereleased d le = refl
parts_are g Paused d le = let z : d ≡ 0 = omega arith in ap (λ (n : ℕ). decimal g <+> phase_text Paused <+> decimal n) z
parts_are g Released d le = refl

abbrev pub IsStateFine : ElementState → Type 0
IsStateFine s = (s.generation ≤ highest_generation) × (s.code ≤ highest_release_code)

state_fine : (g : ℕ) (p : Phase) (d : ℕ) → g ≤ highest_generation → d ≤ highest_kept p → IsStateFine (in_phase p g d)
state_fine g Free d lg ld = (lg, omega arith)
state_fine g Reset d lg ld = (lg, omega arith)
state_fine g Prereleased d lg ld = (lg, ld)
state_fine g Paused d lg ld = (lg, omega arith)
state_fine g Released d lg ld = (lg, ld)

takes_state : Takes state_text (λ s. IsStateFine s) (element_state true)
unfolding element_state
takes_state =
    takes_made state_text (λ s. IsStateFine s) (λ x. in_phase x.1.0 x.0 x.1.1) parts_text (λ x. AreParts x)
    (parted (reached_generation true) (parted_by phase (kept_code true)))
    (λ x h. parts_are x.0 x.1.0 x.1.1 h.1.1) (λ x h. state_fine x.0 x.1.0 x.1.1 h.0 h.1.1)
    (takes_parted (reached_generation true) (λ _. parted_by phase (kept_code true)) decimal (λ q. phase_text q.0 <+> decimal q.1)
    (λ n. n ≤ highest_generation) (λ _ q. Unit {0} × (q.1 ≤ highest_kept q.0)) takes_generation
    (λ _ _. takes_parted phase (kept_code true) phase_text decimal (λ p. Unit {0}) (λ p d. d ≤ highest_kept p) takes_phase
    (λ p _. takes_kept p)))

abbrev pub pair_text : ℕ × ℕ → List ℕ
pair_text p = decimal p.0 <+> decimal p.1

takes_element_op : Takes element_op_text (λ op. IsElementOpInRange op × IsElementOpTyped op) (element_op true)
unfolding element_op
takes_element_op =
    let word = word_or element_op_text (λ op. IsElementOpInRange op × IsElementOpTyped op) in
    let u32 = u32_or element_op_text (λ op. IsElementOpInRange op × IsElementOpTyped op) in
    let part = part_or element_op_text (λ op. IsElementOpInRange op × IsElementOpTyped op) in
    word (codes "OPEN") element_op_of.Open refl (tt, tt) _
    (u32 (codes "PAUSE ") (λ x. element_op_of.Pause x) (λ x. refl) (λ x h. (tt, h)) _
    (u32 (codes "RESUME ") (λ x. element_op_of.Resume x) (λ x. refl) (λ x h. (tt, h)) _
    (part _ (codes "RELEASE ") (λ x. element_op_of.Release x.0 x.1) pair_text (λ x. (x.0 ≤ highest_u32) × (x.1 ≤ highest_release_code))
    (parted (any_u32 true) (release_code true)) (λ x. refl) (λ x h. (h.1, h.0))
    (takes_parted (any_u32 true) (λ _. release_code true) decimal decimal (λ n. n ≤ highest_u32) (λ _ n. n ≤ highest_release_code)
    takes_u32 (λ _ _. takes_release)) _
    (u32 (codes "CLOSE ") (λ x. element_op_of.Close x) (λ x. refl) (λ x h. (tt, h)) _
    (takes_word element_op_text (λ op. IsElementOpInRange op × IsElementOpTyped op) (codes "TEST") element_op_of.Test refl (tt, tt))))))

takes_telling : Takes element_reply_text (λ r. IsElementReplyInRange r) (telling_reply true)
unfolding telling_reply
takes_telling =
    let part = part_or element_reply_text (λ r. IsElementReplyInRange r) in
    part _ (codes "OPENED ") (λ x. element_reply_of.Opened x) decimal (λ x. x ≤ highest_generation) (reached_generation true)
    (λ x. refl) (λ x h. h) takes_generation _
    (part _ (codes "GIVEN ") (λ x. element_reply_of.Given x.0 x.1) pair_text
    (λ x. (x.0 ≤ highest_release_code) × (x.1 ≤ highest_generation)) (parted (release_code true) (reached_generation true)) (λ x. refl)
    (λ x h. h)
    (takes_parted (release_code true) (λ _. reached_generation true) decimal decimal (λ n. n ≤ highest_release_code)
    (λ _ n. n ≤ highest_generation) takes_release (λ _ _. takes_generation)) _
    (part _ (codes "SPENT ") (λ x. element_reply_of.Spent x) decimal (λ x. x ≤ highest_generation) (reached_generation true) (λ x. refl)
    (λ x h. h) takes_generation _
    (takes_part element_reply_text (λ r. IsElementReplyInRange r) _ (codes "STATE ") (λ s. element_reply_of.State s) state_text
    (λ s. IsStateFine s) (element_state true) (λ s. refl) (λ s h. h) takes_state)))

takes_element_reply : Takes element_reply_text (λ r. IsElementReplyInRange r) (element_reply true)
unfolding element_reply
takes_element_reply =
    let word = word_or element_reply_text (λ r. IsElementReplyInRange r) in
    word (codes "INUSE") element_reply_of.InUse refl tt _
    (word (codes "PARKED") element_reply_of.Parked refl tt _
    (word (codes "BUSY") element_reply_of.Busy refl tt _
    (word (codes "NOTYET") element_reply_of.NotYet refl tt _
    (word (codes "EARLY") element_reply_of.Early refl tt _
    (word (codes "WOKE") element_reply_of.Woke refl tt _
    (word (codes "ALREADY") element_reply_of.Already refl tt _
    (word (codes "CLOSED") element_reply_of.Closed refl tt _
    (takes_telling))))))))

-- ---- volumes

takes_volume_op : Takes volume_op_text (λ op. IsVolumeOpTyped op) (volume_op true)
unfolding volume_op
takes_volume_op =
    word_or volume_op_text (λ op. IsVolumeOpTyped op) (codes "READ") Read refl tt _
    (takes_number_behind volume_op_text (λ op. IsVolumeOpTyped op) (codes "WRITE ") (λ x. Write x) (λ x. refl) (λ x h. h))

takes_volume_reply : Takes volume_reply_text (λ r. IsVolumeReplyTyped r) (volume_reply true)
unfolding volume_reply
takes_volume_reply =
    u32_or volume_reply_text (λ r. IsVolumeReplyTyped r) (codes "VALUE ") (λ x. Value x) (λ x. refl) (λ x h. h) _
    (takes_word volume_reply_text (λ r. IsVolumeReplyTyped r) (codes "STORED") Stored refl tt)

-- ---- the latch set

takes_mode : Takes mode_text (λ m. Unit {0}) (mode_read)
unfolding mode_read
takes_mode =
    word_or mode_text (λ m. Unit {0}) (codes "S") Shared refl tt _
    (takes_word mode_text (λ m. Unit {0}) (codes "X") Exclusive refl tt)

takes_form : Takes form_text (λ f. IsFormTyped f) (form_read true)
unfolding form_read
takes_form =
    let word = word_or form_text (λ f. IsFormTyped f) in
    word (codes "C") form.Conditional refl tt _
    (word (codes "W") form.Waiting refl tt _
    (takes_number_behind form_text (λ f. IsFormTyped f) (codes "P") (λ x. form.Posted x) (λ x. refl) (λ x h. h)))

takes_condition : Takes condition_text (λ b. Unit {0}) (condition)
unfolding condition
takes_condition =
    word_or condition_text (λ b. Unit {0}) (codes "C") true refl tt _
    (takes_word condition_text (λ b. Unit {0}) (codes "U") false refl tt)

pub takes_two : Takes pair_text (λ x. (x.0 ≤ highest_u32) × (x.1 ≤ highest_u32)) (two_u32 true)
takes_two =
    takes_parted (any_u32 true) (λ _. any_u32 true) decimal decimal (λ n. n ≤ highest_u32) (λ _ n. n ≤ highest_u32) takes_u32
    (λ _ _. takes_u32)

takes_latch_op : Takes latch_op_text (λ op. IsLatchOpTyped op) (latch_op true)
unfolding latch_op obtain release obtain_rest
takes_latch_op =
    let part = part_or latch_op_text (λ op. IsLatchOpTyped op) in
    part _ (codes "OBTAIN ") (λ x. latch_op_of.Obtain x.0 x.1.0 x.1.1.0 x.1.1.1)
    (λ x. decimal x.0 <+> decimal x.1.0 <+> mode_text x.1.1.0 <+> form_text x.1.1.1)
    (λ x. (x.0 ≤ highest_u32) × ((x.1.0 ≤ highest_u64) × (Unit {0} × IsFormTyped x.1.1.1)))
    (parted (any_u32 true) (parted (any_u64 true) (parted mode_read (form_read true)))) (λ x. refl) (λ x h. (h.0, h.1.0, h.1.1.1))
    (takes_parted (any_u32 true) (λ _. parted (any_u64 true) (parted mode_read (form_read true))) decimal
    (λ y. decimal y.0 <+> mode_text y.1.0 <+> form_text y.1.1) (λ n. n ≤ highest_u32)
    (λ _ y. (y.0 ≤ highest_u64) × (Unit {0} × IsFormTyped y.1.1)) takes_u32
    (λ _ _. takes_parted (any_u64 true) (λ _. parted mode_read (form_read true)) decimal (λ z. mode_text z.0 <+> form_text z.1)
    (λ n. n ≤ highest_u64) (λ _ z. Unit {0} × IsFormTyped z.1) takes_u64
    (λ _ _. takes_parted mode_read (λ _. form_read true) mode_text form_text (λ m. Unit {0}) (λ _ f. IsFormTyped f) takes_mode
    (λ _ _. takes_form)))) _
    (part _ (codes "CONFIRM ") (λ x. latch_op_of.Confirm x.0 x.1) pair_text (λ x. (x.0 ≤ highest_u32) × (x.1 ≤ highest_u32))
    (two_u32 true) (λ x. refl) (λ x h. h) takes_two _
    (part _ (codes "RELEASE ") (λ x. latch_op_of.Release x.0 x.1.0 x.1.1) (λ x. decimal x.0 <+> decimal x.1.0 <+> condition_text x.1.1)
    (λ x. (x.0 ≤ highest_u32) × ((x.1.0 ≤ highest_u32) × Unit {0})) (parted (any_u32 true) (parted (any_u32 true) condition))
    (λ x. refl) (λ x h. (h.0, h.1.0))
    (takes_parted (any_u32 true) (λ _. parted (any_u32 true) condition) decimal (λ y. decimal y.0 <+> condition_text y.1)
    (λ n. n ≤ highest_u32) (λ _ y. (y.0 ≤ highest_u32) × Unit {0}) takes_u32
    (λ _ _. takes_parted (any_u32 true) (λ _. condition) decimal condition_text (λ n. n ≤ highest_u32) (λ _ b. Unit {0}) takes_u32
    (λ _ _. takes_condition))) _
    (takes_part latch_op_text (λ op. IsLatchOpTyped op) _ (codes "PURGE ") (λ x. latch_op_of.Purge x) decimal (λ x. x ≤ highest_u64)
    (any_u64 true) (λ x. refl) (λ x h. h) takes_u64)))

takes_latch_reply : Takes latch_reply_text (λ r. IsLatchReplyTyped r) (latch_reply true)
unfolding latch_reply
takes_latch_reply =
    let word = word_or latch_reply_text (λ r. IsLatchReplyTyped r) in
    let u32 = u32_or latch_reply_text (λ r. IsLatchReplyTyped r) in
    u32 (codes "GRANTED ") (λ x. latch_reply_of.Granted x) (λ x. refl) (λ x h. h) _
    (u32 (codes "QUEUED ") (λ x. latch_reply_of.Queued x) (λ x. refl) (λ x h. h) _
    (u32 (codes "NOTNOW ") (λ x. latch_reply_of.NotNow x) (λ x. refl) (λ x h. h) _
    (word (codes "WAITING") latch_reply_of.Waiting refl tt _
    (word (codes "GONE") latch_reply_of.Gone refl tt _
    (u32 (codes "RELEASED ") (λ x. latch_reply_of.Released x) (λ x. refl) (λ x h. h) _
    (takes_part latch_reply_text (λ r. IsLatchReplyTyped r) _ (codes "PURGED ") (λ x. latch_reply_of.Purged x.0 x.1) pair_text
    (λ x. (x.0 ≤ highest_u32) × (x.1 ≤ highest_u32)) (two_u32 true) (λ x. refl) (λ x h. h) takes_two))))))

-- ---- entries

takes_object : Takes object_text (λ o. IsObjectTyped o) (object_read true)
unfolding object_read
takes_object =
    let u32 = u32_or object_text (λ o. IsObjectTyped o) in
    u32 (codes "E") (λ x. Ecb x) (λ x. refl) (λ x h. h) _
    (u32 (codes "P") (λ x. Element x) (λ x. refl) (λ x h. h) _
    (u32 (codes "V") (λ x. Volume x) (λ x. refl) (λ x h. h) _
    (takes_word object_text (λ o. IsObjectTyped o) (codes "L") Latches refl tt)))

-- what stands behind an entry's object
abbrev pub tail_text : Entry → List ℕ
tail_text e = decimal e.place <+> op_text e.op <+> codes "=" <+> reply_text e.reply

pub record IsTail (caller : ℕ) (o : Object) (e : Entry) : Type 0 where
  pub caller_is : e.caller ≡ caller
  pub object_is : e.object ≡ o
  pub place : e.place ≤ highest_place
  pub event : IsEventInRange e.object e.op e.reply
  pub op : IsOpTyped e.op
  pub reply : IsReplyTyped e.reply

-- what was done, and which deeds on an object are fine
abbrev deed_text : (Op × Reply) → List ℕ
deed_text x = op_text x.0 <+> codes "=" <+> reply_text x.1

abbrev IsDeed : Object → (Op × Reply) → Type 0
IsDeed o x = IsEventInRange o x.0 x.1 × (IsOpTyped x.0 × IsReplyTyped x.1)

takes_deed : {O R : Type 0} (op_reader : Reader O) (reply_reader : Reader R) (show : O → List ℕ) (tell : R → List ℕ) (Fine : O → Type 0)
    (Good : R → Type 0) → Takes show Fine op_reader → Takes tell Good reply_reader
    → Takes (λ x. show x.0 <+> codes "=" <+> tell x.1) (λ x. Fine x.0 × Good x.1) (deed op_reader reply_reader)
takes_deed op_reader reply_reader show tell Fine Good one two =
    takes_parted_at (codes " = ") op_reader (λ _. reply_reader) show tell Fine (λ _ r. Good r) one (λ _ _. two)

takes_deed_on : (o : Object) → Takes deed_text (λ x. IsDeed o x) (deed_on true o)
takes_deed_on (Ecb n) =
    takes_made deed_text (λ x. IsDeed (Ecb n) x) (λ x. (op_on.Ecb x.0, reply_of.Ecb x.1))
    (λ x. ecb_op_text x.0 <+> codes "=" <+> ecb_reply_text x.1)
    (λ x. IsEcbOpInRange x.0 × (IsEcbReplyInRange x.1 × IsEcbReplyTyped x.1)) (deed (ecb_op true) (ecb_reply true)) (λ x h. refl)
    (λ x h. ((h.0, h.1.0), (tt, h.1.1)))
    (takes_deed (ecb_op true) (ecb_reply true) ecb_op_text ecb_reply_text (λ op. IsEcbOpInRange op)
    (λ r. IsEcbReplyInRange r × IsEcbReplyTyped r) takes_ecb_op takes_ecb_reply)
takes_deed_on (Element n) =
    takes_made deed_text (λ x. IsDeed (Element n) x) (λ x. (op_on.Element x.0, reply_of.Element x.1))
    (λ x. element_op_text x.0 <+> codes "=" <+> element_reply_text x.1)
    (λ x. (IsElementOpInRange x.0 × IsElementOpTyped x.0) × IsElementReplyInRange x.1) (deed (element_op true) (element_reply true))
    (λ x h. refl) (λ x h. ((h.0.0, h.1), (h.0.1, tt)))
    (takes_deed (element_op true) (element_reply true) element_op_text element_reply_text
    (λ op. IsElementOpInRange op × IsElementOpTyped op) (λ r. IsElementReplyInRange r) takes_element_op takes_element_reply)
takes_deed_on (Volume n) =
    takes_made deed_text (λ x. IsDeed (Volume n) x) (λ x. (op_on.Volume x.0, reply_of.Volume x.1))
    (λ x. volume_op_text x.0 <+> codes "=" <+> volume_reply_text x.1) (λ x. IsVolumeOpTyped x.0 × IsVolumeReplyTyped x.1)
    (deed (volume_op true) (volume_reply true)) (λ x h. refl) (λ x h. (tt, h))
    (takes_deed (volume_op true) (volume_reply true) volume_op_text volume_reply_text (λ op. IsVolumeOpTyped op)
    (λ r. IsVolumeReplyTyped r) takes_volume_op takes_volume_reply)
takes_deed_on Latches =
    takes_made deed_text (λ x. IsDeed Latches x) (λ x. (op_on.Latch x.0, reply_of.Latch x.1))
    (λ x. latch_op_text x.0 <+> codes "=" <+> latch_reply_text x.1) (λ x. IsLatchOpTyped x.0 × IsLatchReplyTyped x.1)
    (deed (latch_op true) (latch_reply true)) (λ x h. refl) (λ x h. (tt, h))
    (takes_deed (latch_op true) (latch_reply true) latch_op_text latch_reply_text (λ op. IsLatchOpTyped op) (λ r. IsLatchReplyTyped r)
    takes_latch_op takes_latch_reply)

takes_entry_on : (caller : ℕ) (o : Object) → Takes tail_text (λ e. IsTail caller o e) (entry_on true caller o)
takes_entry_on caller o =
    takes_made tail_text (λ e. IsTail caller o e) (λ x. entry_of caller o x.0 x.1.0 x.1.1) (λ x. decimal x.0 <+> deed_text x.1)
    (λ x. (x.0 ≤ highest_place) × IsDeed o x.1) (parted (number true 0 highest_place) (deed_on true o)) (λ x h. refl)
    (λ x h. record { caller_is = refl; object_is = refl; place = h.0; event = h.1.0; op = h.1.1.0; reply = h.1.1.1 })
    (takes_parted (number true 0 highest_place) (λ _. deed_on true o) decimal deed_text (λ n. n ≤ highest_place) (λ _ x. IsDeed o x)
    (λ text rest n e. let t = takes_number 0 highest_place (omega arith) text rest n e in (t.0, t.1.1)) (λ _ _. takes_deed_on o))

-- ---- who made an entry

-- a caller, and the number of its call, are fine
abbrev IsCaller : Version → (ℕ × Option ℕ) → Type 0
IsCaller v x = (x.0 ≤ highest_u32) × IsCallIn v x.1

-- both as they are written
abbrev who_text : (ℕ × Option ℕ) → List ℕ
who_text x = caller_text x.0 x.1

takes_caller : (v : Version) → Takes who_text (λ x. IsCaller v x) (caller_read true v)
unfolding caller_read
takes_caller One =
    takes_made who_text (λ x. IsCaller One x) (λ caller. (caller, None)) decimal (λ n. n ≤ highest_u32) (any_u32 true)
    (λ n h. refl) (λ n h. (h, tt)) takes_u32
takes_caller Two =
    takes_made who_text (λ x. IsCaller Two x) (λ x. (x.0, Some x.1)) (λ (x : ℕ × ℕ). decimal x.0 ++ 46 ∷ decimal x.1)
    (λ x. (x.0 ≤ highest_u32) × (x.1 ≤ highest_u32)) (parted_at (codes ".") (any_u32 true) (λ caller. any_u32 true)) (λ x h. refl)
    (λ x h. h)
    (takes_parted_at (codes ".") (any_u32 true) (λ _. any_u32 true) decimal decimal (λ n. n ≤ highest_u32) (λ _ n. n ≤ highest_u32)
    takes_u32 (λ _ _. takes_u32))

-- the caller and the object, and what stands behind them
abbrev FrontAnd : Type 0
FrontAnd = ((ℕ × Option ℕ) × Object) × Entry

abbrev front_and_tail : FrontAnd → List ℕ
front_and_tail x = (who_text x.0.0 <+> object_text x.0.1) <+> tail_text x.1

abbrev AreFine : Version → FrontAnd → Type 0
AreFine v x = (IsCaller v x.0.0 × IsObjectTyped x.0.1) × IsTail x.0.0.0 x.0.1 x.1

is_entry : (k : ℕ) (call : Option ℕ) (o : Object) (e : Entry) → IsTail k o e
    → (caller_text k call <+> object_text o) <+> tail_text e ≡ entry_text call e
unfolding entry_text
is_entry k call o e t =
    ap (λ (n : ℕ). (caller_text n call <+> object_text o) <+> tail_text e) (sym t.caller_is)
    ∙ ap (λ (p : Object). (caller_text e.caller call <+> object_text p) <+> tail_text e) (sym t.object_is)
    ∙ append_assoc (caller_text e.caller call) (32 ∷ object_text e.object) (32 ∷ tail_text e)

has_text : (k : ℕ) (o : Object) (e : Entry) → k ≤ highest_u32 → IsObjectTyped o → IsTail k o e → HasText e
has_text k o e le t h = (
  record { place = h.place; event = h.event },
  record {
    caller = omega (arith, h.caller_is);
    object = subst (λ p. IsObjectTyped p) (sym h.object_is) t;
    op = h.op;
    reply = h.reply;
  },
)

-- an entry's text with the number of its call, and which are fine
abbrev pub numbered_text : (Option ℕ × Entry) → List ℕ
numbered_text x = entry_text x.0 x.1

abbrev pub IsNumbered : Version → (Option ℕ × Entry) → Type 0
IsNumbered v x = HasText x.1 × IsCallIn v x.0

pub takes_entry : (v : Version) → Takes numbered_text (λ x. IsNumbered v x) (entry_read true v)
unfolding entry_read
takes_entry v =
    takes_made numbered_text (λ x. IsNumbered v x) (λ x. (x.0.0.1, x.1)) front_and_tail (λ x. AreFine v x)
    (parted_by (parted (caller_read true v) (object_read true)) (λ front. entry_on true front.0.0 front.1))
    (λ x h. is_entry x.0.0.0 x.0.0.1 x.0.1 x.1 h.1) (λ x h. (has_text x.0.0.0 x.0.1 x.1 h.0.0.0 h.0.1 h.1, h.0.0.1))
    (takes_parted (parted (caller_read true v) (object_read true)) (λ front. entry_on true front.0.0 front.1)
    (λ p. who_text p.0 <+> object_text p.1) tail_text (λ p. IsCaller v p.0 × IsObjectTyped p.1) (λ p e. IsTail p.0.0 p.1 e)
    (takes_parted (caller_read true v) (λ _. object_read true) who_text object_text (λ x. IsCaller v x) (λ _ o. IsObjectTyped o)
    (takes_caller v) (λ _ _. takes_object)) (λ p _. takes_entry_on p.0.0 p.1))
