-- Operations on the latch set and their replies: their words, their ranges, and how they are read.
use Rattle.std.specs.Prelude.{ℕ, ◌≤◌, Bool, true, false, List, ◌++◌, codes, decimal}
use Rattle.mv_latch.specs.declared.request.Mode.{Mode}
use Rattle.mv_latch.specs.declared.request.Mode.TheVariants.{Shared, Exclusive}
use Rattle.mv_latch.specs.declared.request.LatchForm.{LatchForm}
use Rattle.mv_latch.specs.declared.request.LatchForm.TheVariants as form
use Rattle.mv_latch.specs.declared.operation.LatchOp.{LatchOp}
use Rattle.mv_latch.specs.declared.operation.LatchOp.TheVariants.{Obtain, Confirm, Release, Purge}
use Rattle.mv_latch.specs.declared.operation.LatchReply.{LatchReply}
use Rattle.mv_latch.specs.declared.operation.LatchReply.TheVariants.{Granted, Queued, NotNow, Waiting, Gone, Released, Purged}
use Rattle.mv_operationtext.specs.Ranges.{highest_u32, highest_u64}
use Rattle.mv_operationtext.specs.Words.{◌<+>◌}
use Rattle.mv_operationtext.specs.Reading.{Reader, word, behind, ◌or◌, made, parted, any_u32, any_u64}

-- ---- words

-- the word of a mode
abbrev pub mode_text : Mode → List ℕ
mode_text Shared = codes "S"
mode_text Exclusive = codes "X"

-- the text of a form: the Posted form has the number of an event control block
abbrev pub form_text : LatchForm → List ℕ
form_text form.Conditional = codes "C"
form_text form.Waiting = codes "W"
form_text (form.Posted ecb) = codes "P" ++ decimal ecb

-- the word of whether a release is conditional
abbrev pub condition_text : Bool → List ℕ
condition_text true = codes "C"
condition_text false = codes "U"

-- the words of an operation, with its numbers
abbrev pub latch_op_text : LatchOp → List ℕ
latch_op_text (Obtain latch requestor mode form) =
    codes "OBTAIN" <+> decimal latch <+> decimal requestor <+> mode_text mode <+> form_text form
latch_op_text (Confirm latch id) = codes "CONFIRM" <+> decimal latch <+> decimal id
latch_op_text (Release latch id conditional) = codes "RELEASE" <+> decimal latch <+> decimal id <+> condition_text conditional
latch_op_text (Purge requestor) = codes "PURGE" <+> decimal requestor

-- the words of a reply, with its numbers
abbrev pub latch_reply_text : LatchReply → List ℕ
latch_reply_text (Granted id) = codes "GRANTED" <+> decimal id
latch_reply_text (Queued id) = codes "QUEUED" <+> decimal id
latch_reply_text (NotNow id) = codes "NOTNOW" <+> decimal id
latch_reply_text Waiting = codes "WAITING"
latch_reply_text Gone = codes "GONE"
latch_reply_text (Released granted) = codes "RELEASED" <+> decimal granted
latch_reply_text (Purged removed granted) = codes "PURGED" <+> decimal removed <+> decimal granted

-- ---- ranges: each number may be any number of its type

-- the number of a form fits its type
abbrev pub IsFormTyped : LatchForm → Type 0
IsFormTyped (form.Posted ecb) = ecb ≤ highest_u32
IsFormTyped _ = Unit {0}

-- the numbers of an operation fit their types
abbrev pub IsLatchOpTyped : LatchOp → Type 0
IsLatchOpTyped (Obtain latch requestor mode form) = (latch ≤ highest_u32) × (requestor ≤ highest_u64) × IsFormTyped form
IsLatchOpTyped (Confirm latch id) = (latch ≤ highest_u32) × (id ≤ highest_u32)
IsLatchOpTyped (Release latch id conditional) = (latch ≤ highest_u32) × (id ≤ highest_u32)
IsLatchOpTyped (Purge requestor) = requestor ≤ highest_u64

-- the numbers of a reply fit their types
abbrev pub IsLatchReplyTyped : LatchReply → Type 0
IsLatchReplyTyped (Granted id) = id ≤ highest_u32
IsLatchReplyTyped (Queued id) = id ≤ highest_u32
IsLatchReplyTyped (NotNow id) = id ≤ highest_u32
IsLatchReplyTyped (Released granted) = granted ≤ highest_u32
IsLatchReplyTyped (Purged removed granted) = (removed ≤ highest_u32) × (granted ≤ highest_u32)
IsLatchReplyTyped _ = Unit {0}

-- ---- reading

-- reads a mode
unfoldable pub mode_read : Reader Mode
mode_read = word (codes "S") Shared or word (codes "X") Exclusive

-- reads a form
unfoldable pub form_read : Bool → Reader LatchForm
form_read strict =
    word (codes "C") form.Conditional
    or word (codes "W") form.Waiting
    or made (λ ecb. form.Posted ecb) (behind (codes "P") (any_u32 strict))

-- reads whether a release is conditional
unfoldable pub condition : Reader Bool
condition = word (codes "C") true or word (codes "U") false

-- reads two numbers of four bytes with one space between
abbrev pub two_u32 : Bool → Reader (ℕ × ℕ)
two_u32 strict = parted (any_u32 strict) (any_u32 strict)

-- reads the rest of an obtain: a requestor, a mode and a form
unfoldable pub obtain_rest : Bool → Reader (ℕ × (Mode × LatchForm))
obtain_rest strict = parted (any_u64 strict) (parted mode_read (form_read strict))

-- reads an obtain
unfoldable pub obtain : Bool → Reader LatchOp
obtain strict =
    made (λ x. Obtain x.0 x.1.0 x.1.1.0 x.1.1.1) (behind (codes "OBTAIN ") (parted (any_u32 strict) (obtain_rest strict)))

-- reads a release
unfoldable pub release : Bool → Reader LatchOp
release strict =
    made (λ x. Release x.0 x.1.0 x.1.1)
    (behind (codes "RELEASE ") (parted (any_u32 strict) (parted (any_u32 strict) condition)))

-- reads an operation
unfoldable pub latch_op : Bool → Reader LatchOp
latch_op strict =
    obtain strict
    or made (λ x. Confirm x.0 x.1) (behind (codes "CONFIRM ") (two_u32 strict))
    or release strict
    or made (λ requestor. Purge requestor) (behind (codes "PURGE ") (any_u64 strict))

-- reads a reply
unfoldable pub latch_reply : Bool → Reader LatchReply
latch_reply strict =
    made (λ id. Granted id) (behind (codes "GRANTED ") (any_u32 strict))
    or made (λ id. Queued id) (behind (codes "QUEUED ") (any_u32 strict))
    or made (λ id. NotNow id) (behind (codes "NOTNOW ") (any_u32 strict))
    or word (codes "WAITING") Waiting
    or word (codes "GONE") Gone
    or made (λ granted. Released granted) (behind (codes "RELEASED ") (any_u32 strict))
    or made (λ x. Purged x.0 x.1) (behind (codes "PURGED ") (two_u32 strict))
