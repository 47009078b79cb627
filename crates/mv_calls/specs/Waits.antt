-- Waits, and the other calls on event control blocks and volumes.
use Rattle.std.specs.Prelude.{◌≡◌, ℕ, ◌+◌, ◌==◌, nat_le, nat_lt, Bool, not, List, [], ◌∷◌, ◌++◌, length, Option, Some, None, Result, Ok}
use Rattle.std.specs.Prelude.{Err, if◌then◌else◌}
use Rattle.std.specs.List.{AllByRecursion, list_any}
use Rattle.std.specs.Option.{option_or}
use Rattle.mv_ecb.specs.declared.operation.EcbOp.TheVariants as ecb_op
use Rattle.mv_ecb.specs.declared.operation.EcbReply.{EcbReply}
use Rattle.mv_ecb.specs.declared.operation.EcbReply.TheVariants as ecb_reply
use Rattle.mv_machine.specs.declared.entry.Object.TheVariants.{Ecb, Volume}
use Rattle.mv_machine.specs.declared.entry.Op.TheVariants as op_on
use Rattle.mv_machine.specs.declared.entry.VolumeOp.TheVariants as volume_op
use Rattle.mv_machine.specs.declared.entry.VolumeReply.{VolumeReply}
use Rattle.mv_machine.specs.declared.entry.VolumeReply.TheVariants as volume_reply
use Rattle.mv_config.specs.Setup.{Setup, owner_of, is_exit_of}
use Rattle.mv_calls.specs.Keeping.{Kept}
use Rattle.mv_calls.specs.Program.{Program, Do, Done, Early, Wrong, Call, on_ecb, on_volume, unless_refused}
use Rattle.mv_calls.specs.Refusal.{Refusal}
use Rattle.mv_calls.specs.Refusal as refusal
use Rattle.mv_calls.specs.declared.outcomes.WaitSlot.{WaitSlot}
use Rattle.mv_calls.specs.declared.outcomes.WaitSlot.TheVariants as wait_slot

-- a refusal if a test holds
abbrev pub refused_if : Bool → Refusal → Option Refusal
refused_if b why = if b then Some why else None

-- the refusal of the first position, counted from p, whose block meets a test
abbrev pub refused_at : (ℕ → Refusal) → (ℕ → Bool) → ℕ → List ℕ → Option Refusal
refused_at why test p [] = None
refused_at why test p (e ∷ es) = if test e then Some (why p) else refused_at why test (p + 1) es

-- the refusal of the first position, counted from p, whose block is earlier in the list or among `before`
abbrev pub doubled_at : List ℕ → ℕ → List ℕ → Option Refusal
doubled_at before p [] = None
doubled_at before p (e ∷ es) =
    if list_any (λ b. b == e) before then Some (refusal.Doubled p) else doubled_at (before ++ e ∷ []) (p + 1) es

-- all of these numbers are different
abbrev pub AreDistinct : List ℕ → Type 0
AreDistinct [] = Unit {0}
AreDistinct (n ∷ ns) = AllByRecursion (λ m. m ≡ n → ⊥) ns × AreDistinct ns

-- whether a block is another caller's
abbrev pub is_others_block : Setup → Kept → ℕ → Bool
is_others_block c kept e = not (owner_of c e == kept.caller)

-- ---- wait

-- why a wait is refused: its count is above the length of its list; a block is listed twice, is another caller's, or is
-- extended
abbrev pub wait_refusal : Setup → ℕ → List ℕ → Kept → Option Refusal
wait_refusal c count es kept =
    option_or (refused_if (nat_lt (length es) count) refusal.TooMany)
    (option_or (doubled_at [] 0 es)
    (option_or (refused_at refusal.NotOwnerAt (is_others_block c kept) 0 es)
    (refused_at refusal.ExtendedAt kept.extended 0 es)))

-- the rest of a wait after the reply to an Arm: the wait bit was set, or the block was complete
abbrev pub armed : {A : Type 0} → Program A → EcbReply → Program A
armed p ecb_reply.Armed = p
armed p (ecb_reply.Complete c) = p
armed p reply = Wrong

-- each block is armed, and then the program p follows
abbrev pub arm_all : {A : Type 0} → List ℕ → Program A → Program A
arm_all [] p = p
arm_all (e ∷ es) p = Do (Ecb e) (op_on.Ecb ecb_op.Arm) (λ h. on_ecb h.entry.reply (armed (arm_all es p)))

-- the rest of a wait after the reply to a settle: by the code that the block is complete with, or none if it is open
abbrev pub settled : {A : Type 0} → (WaitSlot → Program A) → EcbReply → Program A
settled f (ecb_reply.Complete c) = f (wait_slot.Complete c)
settled f ecb_reply.Open = f wait_slot.Open
settled f reply = Wrong

-- each block is settled, and then the program goes on by the codes that were found, after those found before
abbrev pub settle_all : {A : Type 0} → List ℕ → List WaitSlot → (List WaitSlot → Program A) → Program A
settle_all [] found f = f found
settle_all (e ∷ es) found f = Do (Ecb e) (op_on.Ecb ecb_op.Settle)
    (λ h. on_ecb h.entry.reply (settled (λ slot. settle_all es (found ++ slot ∷ []) f)))

-- how many blocks were found complete
abbrev pub complete_count : List WaitSlot → ℕ
complete_count [] = 0
complete_count (wait_slot.Complete code ∷ slots) = 1 + complete_count slots
complete_count (wait_slot.Open ∷ slots) = complete_count slots

-- the end of a wait: if fewer blocks are complete than its count, it has ended too soon
abbrev pub enough : ℕ → List WaitSlot → Program (Result (List WaitSlot) Refusal)
enough count slots = if nat_le count (complete_count slots) then Done (Ok slots) else Early

-- wait: arms each block, and then settles each, in the order of the list. The answer has for each block its code, or none
abbrev pub wait : Setup → ℕ → List ℕ → Call (Result (List WaitSlot) Refusal)
wait c count es kept = unless_refused (wait_refusal c count es kept) (arm_all es (settle_all es [] (enough count)))

-- ---- the other calls on blocks

-- the rest of a call by the word that a block had
abbrev pub the_word : {A : Type 0} → (ℕ → Program A) → EcbReply → Program A
the_word f (ecb_reply.Word w) = f w
the_word f reply = Wrong

-- clear: zeroes the block, and returns the word from before
abbrev pub clear : Setup → ℕ → Call (Result ℕ Refusal)
clear c e kept =
    unless_refused (refused_if (is_others_block c kept e) refusal.NotOwner)
    (Do (Ecb e) (op_on.Ecb ecb_op.Clear) (λ h. on_ecb h.entry.reply (the_word (λ w. Done (Ok w)))))

-- why an extend is refused: the block is another caller's, the exit does not start from it, or it is extended
abbrev pub extend_refusal : Setup → ℕ → ℕ → Kept → Option Refusal
extend_refusal c e exit kept =
    option_or (refused_if (is_others_block c kept e) refusal.NotOwner)
    (option_or (refused_if (not (is_exit_of c exit e)) refusal.BadExit)
    (refused_if (kept.extended e) refusal.Extended))

-- the rest of an extend after its reply
abbrev pub extended : EcbReply → Program (Result (Unit {0}) Refusal)
extended ecb_reply.Armed = Done (Ok tt)
extended (ecb_reply.Complete code) = Done (Err (refusal.Complete code))
extended reply = Wrong

-- extend: the next post of the block is to start an exit
abbrev pub extend : Setup → ℕ → ℕ → Call (Result (Unit {0}) Refusal)
extend c e exit kept =
    unless_refused (extend_refusal c e exit kept) (Do (Ecb e) (op_on.Ecb (ecb_op.Extend exit)) (λ h. on_ecb h.entry.reply extended))

-- test: reads the block's word
abbrev pub test_ecb : ℕ → Call ℕ
test_ecb e kept = Do (Ecb e) (op_on.Ecb ecb_op.Test) (λ h. on_ecb h.entry.reply (the_word (λ w. Done w)))

-- ---- volumes

-- the rest of a read after its reply
abbrev pub the_value : VolumeReply → Program ℕ
the_value (volume_reply.Value n) = Done n
the_value reply = Wrong

-- read: the number in a volume
abbrev pub read_volume : ℕ → Call ℕ
read_volume v kept = Do (Volume v) (op_on.Volume volume_op.Read) (λ h. on_volume h.entry.reply the_value)

-- the rest of a write after its reply
abbrev pub stored : VolumeReply → Program (Unit {0})
stored volume_reply.Stored = Done tt
stored reply = Wrong

-- write: sets the number in a volume
abbrev pub write_volume : ℕ → ℕ → Call (Unit {0})
write_volume v n kept = Do (Volume v) (op_on.Volume (volume_op.Write n)) (λ h. on_volume h.entry.reply stored)
