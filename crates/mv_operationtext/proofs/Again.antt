-- Each operation and reply that is written is read again.
use Rattle.std.proofs.Common.{◌≡◌, ℕ, ◌≤◌, Bool, true, false, List, ◌∷◌, ◌++◌, Some, decimal, refl, ap, arith}
use Rattle.std.proofs.lemmas.Bool.{eqb-true}
use Rattle.mv_ecb.specs.declared.operation.EcbOp.{EcbOp}
use Rattle.mv_ecb.specs.declared.operation.EcbOp.TheVariants as ecb_op_of
use Rattle.mv_ecb.specs.declared.operation.EcbReply.{EcbReply}
use Rattle.mv_ecb.specs.declared.operation.EcbReply.TheVariants as ecb_reply_of
use Rattle.mv_element.specs.Code.{keeps_code}
use Rattle.mv_element.specs.declared.element.ElementState.{ElementState}
use Rattle.mv_element.specs.declared.element.Phase.{Phase}
use Rattle.mv_element.specs.declared.element.Phase.TheVariants.{Free, Reset, Prereleased, Paused, Released}
use Rattle.mv_element.specs.declared.operation.ElementOp.{ElementOp}
use Rattle.mv_element.specs.declared.operation.ElementOp.TheVariants as element_op_of
use Rattle.mv_element.specs.declared.operation.ElementReply.{ElementReply}
use Rattle.mv_element.specs.declared.operation.ElementReply.TheVariants as element_reply_of
use Rattle.mv_element.proofs.States.{state_by_phase}
use Rattle.mv_latch.specs.declared.request.Mode.{Mode}
use Rattle.mv_latch.specs.declared.request.Mode.TheVariants.{Shared, Exclusive}
use Rattle.mv_latch.specs.declared.request.LatchForm.{LatchForm}
use Rattle.mv_latch.specs.declared.request.LatchForm.TheVariants as form
use Rattle.mv_latch.specs.declared.operation.LatchOp.{LatchOp}
use Rattle.mv_latch.specs.declared.operation.LatchOp.TheVariants as latch_op_of
use Rattle.mv_latch.specs.declared.operation.LatchReply.{LatchReply}
use Rattle.mv_latch.specs.declared.operation.LatchReply.TheVariants as latch_reply_of
use Rattle.mv_machine.specs.declared.entry.VolumeOp.{VolumeOp}
use Rattle.mv_machine.specs.declared.entry.VolumeOp.TheVariants.{Read, Write}
use Rattle.mv_machine.specs.declared.entry.VolumeReply.{VolumeReply}
use Rattle.mv_machine.specs.declared.entry.VolumeReply.TheVariants.{Value, Stored}
use Rattle.mv_config.specs.Limits.{highest_generation}
use Rattle.mv_operationtext.specs.Words.{◌<+>◌}
use Rattle.mv_operationtext.specs.Reading.{behind, after, number, any_u32, any_u64, parted, parted_by}
use Rattle.mv_operationtext.specs.Ranges.{highest_u32, highest_u64, highest_ecb_code, highest_release_code}
use Rattle.mv_operationtext.specs.EcbText.{ecb_op_text, ecb_reply_text, IsEcbOpInRange, IsEcbReplyInRange, IsEcbReplyTyped, ecb_op, ecb_reply}
use Rattle.mv_operationtext.specs.ElementText.{phase_text, element_op_text, element_reply_text, IsElementOpInRange, IsElementOpTyped}
use Rattle.mv_operationtext.specs.ElementText.{IsElementReplyInRange, release_code, reached_generation, phase, highest_kept, kept_code}
use Rattle.mv_operationtext.specs.ElementText.{element_state, element_op, telling_reply, element_reply}
use Rattle.mv_operationtext.specs.VolumeText.{volume_op_text, volume_reply_text, IsVolumeOpTyped, IsVolumeReplyTyped, volume_op, volume_reply}
use Rattle.mv_operationtext.specs.LatchText.{mode_text, form_text, condition_text, latch_op_text, latch_reply_text, IsFormTyped}
use Rattle.mv_operationtext.specs.LatchText.{IsLatchOpTyped, IsLatchReplyTyped, mode_read, form_read, condition, two_u32, obtain_rest, obtain}
use Rattle.mv_operationtext.specs.LatchText.{release, latch_op, latch_reply}
use Rattle.mv_operationtext.proofs.Numbers.{Ends, number_again, u32_again, u64_again, parted_again}

-- ---- event control blocks

code_again : (n : ℕ) (rest : List ℕ) → n ≤ highest_ecb_code → Ends rest
    → number true 0 highest_ecb_code (decimal n ++ rest) ≡ Some (n, rest)
code_again n rest le e = number_again 0 highest_ecb_code n rest (omega arith) le (omega arith) e

exit_again : (n : ℕ) (rest : List ℕ) → 1 ≤ n → n ≤ highest_ecb_code → Ends rest
    → number true 1 highest_ecb_code (decimal n ++ rest) ≡ Some (n, rest)
exit_again n rest lo le e = number_again 1 highest_ecb_code n rest lo le (omega arith) e

pub ecb_op_again : (op : EcbOp) (rest : List ℕ) → IsEcbOpInRange op → Ends rest → ecb_op true (ecb_op_text op ++ rest) ≡ Some (op, rest)
unfolding ecb_op behind after
ecb_op_again ecb_op_of.Arm rest h e = refl
ecb_op_again (ecb_op_of.Extend exit) rest h e = rw (exit_again exit rest h.0 h.1 e) refl
ecb_op_again ecb_op_of.Settle rest h e = refl
ecb_op_again ecb_op_of.Clear rest h e = refl
ecb_op_again (ecb_op_of.Post code) rest h e = rw (code_again code rest h e) refl
ecb_op_again ecb_op_of.Test rest h e = refl

pub ecb_reply_again : (r : EcbReply) (rest : List ℕ) → IsEcbReplyInRange r → IsEcbReplyTyped r → Ends rest
    → ecb_reply true (ecb_reply_text r ++ rest) ≡ Some (r, rest)
unfolding ecb_reply behind after
ecb_reply_again ecb_reply_of.Armed rest h t e = refl
ecb_reply_again (ecb_reply_of.Linked exit) rest h t e = rw (exit_again exit rest h.0 h.1 e) refl
ecb_reply_again (ecb_reply_of.Complete code) rest h t e = rw (code_again code rest h e) refl
ecb_reply_again ecb_reply_of.Waiting rest h t e = refl
ecb_reply_again ecb_reply_of.Open rest h t e = refl
ecb_reply_again ecb_reply_of.Posted rest h t e = refl
ecb_reply_again (ecb_reply_of.Woke exit) rest h t e = rw (code_again exit rest h e) refl
ecb_reply_again (ecb_reply_of.Already code) rest h t e = rw (code_again code rest h e) refl
ecb_reply_again (ecb_reply_of.Word word) rest h t e = rw (u32_again word rest t e) refl

-- ---- pause elements

release_again : (n : ℕ) (rest : List ℕ) → n ≤ highest_release_code → Ends rest → release_code true (decimal n ++ rest) ≡ Some (n, rest)
release_again n rest le e = number_again 0 highest_release_code n rest (omega arith) le (omega arith) e

generation_again : (n : ℕ) (rest : List ℕ) → n ≤ highest_generation → Ends rest
    → reached_generation true (decimal n ++ rest) ≡ Some (n, rest)
generation_again n rest le e = number_again 0 highest_generation n rest (omega arith) le (omega arith) e

phase_again : (p : Phase) (rest : List ℕ) → phase (phase_text p ++ rest) ≡ Some (p, rest)
unfolding phase behind after
phase_again Free rest = refl
phase_again Reset rest = refl
phase_again Prereleased rest = refl
phase_again Paused rest = refl
phase_again Released rest = refl

pub element_op_again : (op : ElementOp) (rest : List ℕ) → IsElementOpInRange op → IsElementOpTyped op → Ends rest
    → element_op true (element_op_text op ++ rest) ≡ Some (op, rest)
unfolding element_op behind after
element_op_again element_op_of.Open rest h t e = refl
element_op_again (element_op_of.Pause g) rest h t e = rw (u32_again g rest t e) refl
element_op_again (element_op_of.Resume g) rest h t e = rw (u32_again g rest t e) refl
element_op_again (element_op_of.Release g d) rest h t e =
    rw (parted_again (any_u32 true) (λ _. release_code true) g d (decimal g) (decimal d) rest
    (u32_again g (32 ∷ (decimal d ++ rest)) t refl) (release_again d rest h e)) refl
element_op_again (element_op_of.Close g) rest h t e = rw (u32_again g rest t e) refl
element_op_again element_op_of.Test rest h t e = refl

no_code : (s : ElementState) (p : Phase) → s.phase ≡ p → keeps_code p ≡ false → s.code ≡ 0
no_code s p e none = eqb-true s.code 0 (rw (e, none) at s.kept)

kept_fits : (s : ElementState) (p : Phase) → s.phase ≡ p → s.code ≤ highest_release_code → s.code ≤ highest_kept p
kept_fits s Free e le = omega (arith, no_code s Free e refl)
kept_fits s Reset e le = omega (arith, no_code s Reset e refl)
kept_fits s Prereleased e le = le
kept_fits s Paused e le = omega (arith, no_code s Paused e refl)
kept_fits s Released e le = le

pub highest_kept-le : (p : Phase) → highest_kept p ≤ highest_u64
highest_kept-le Free = omega arith
highest_kept-le Reset = omega arith
highest_kept-le Prereleased = omega arith
highest_kept-le Paused = omega arith
highest_kept-le Released = omega arith

abbrev pub state_text : ElementState → List ℕ
state_text s = decimal s.generation <+> phase_text s.phase <+> decimal s.code

state_again : (s : ElementState) (rest : List ℕ) → s.generation ≤ highest_generation → s.code ≤ highest_release_code → Ends rest
    → element_state true (state_text s ++ rest) ≡ Some (s, rest)
unfolding element_state
state_again s rest g c e =
    let code = number_again 0 (highest_kept s.phase) s.code rest (omega arith) (kept_fits s s.phase refl c) (highest_kept-le s.phase) e in
    let tail =
    parted_again phase (kept_code true) s.phase s.code (phase_text s.phase) (decimal s.code) rest
    (phase_again s.phase (32 ∷ (decimal s.code ++ rest))) code in
    let all =
    parted_again (reached_generation true) (λ _. parted_by phase (kept_code true)) s.generation (s.phase, s.code) (decimal s.generation)
    (phase_text s.phase <+> decimal s.code) rest
    (generation_again s.generation (32 ∷ ((phase_text s.phase <+> decimal s.code) ++ rest)) g refl) tail in
    rw all (ap (λ (x : ElementState). Some (x, rest)) (state_by_phase s))

pub element_reply_again : (r : ElementReply) (rest : List ℕ) → IsElementReplyInRange r → Ends rest
    → element_reply true (element_reply_text r ++ rest) ≡ Some (r, rest)
unfolding element_reply telling_reply behind after
element_reply_again (element_reply_of.Opened g) rest h e = rw (generation_again g rest h e) refl
element_reply_again element_reply_of.InUse rest h e = refl
element_reply_again element_reply_of.Parked rest h e = refl
element_reply_again (element_reply_of.Given code next) rest h e =
    rw (parted_again (release_code true) (λ _. reached_generation true) code next (decimal code) (decimal next) rest
    (release_again code (32 ∷ (decimal next ++ rest)) h.0 refl) (generation_again next rest h.1 e)) refl
element_reply_again (element_reply_of.Spent g) rest h e = rw (generation_again g rest h e) refl
element_reply_again element_reply_of.Busy rest h e = refl
element_reply_again element_reply_of.NotYet rest h e = refl
element_reply_again element_reply_of.Early rest h e = refl
element_reply_again element_reply_of.Woke rest h e = refl
element_reply_again element_reply_of.Already rest h e = refl
element_reply_again element_reply_of.Closed rest h e = refl
element_reply_again (element_reply_of.State s) rest h e = rw (state_again s rest h.0 h.1 e) refl

-- ---- volumes

pub volume_op_again : (op : VolumeOp) (rest : List ℕ) → IsVolumeOpTyped op → Ends rest
    → volume_op true (volume_op_text op ++ rest) ≡ Some (op, rest)
unfolding volume_op behind after
volume_op_again Read rest t e = refl
volume_op_again (Write n) rest t e = rw (u32_again n rest t e) refl

pub volume_reply_again : (r : VolumeReply) (rest : List ℕ) → IsVolumeReplyTyped r → Ends rest
    → volume_reply true (volume_reply_text r ++ rest) ≡ Some (r, rest)
unfolding volume_reply behind after
volume_reply_again (Value n) rest t e = rw (u32_again n rest t e) refl
volume_reply_again Stored rest t e = refl

-- ---- the latch set

mode_again : (m : Mode) (rest : List ℕ) → mode_read (mode_text m ++ rest) ≡ Some (m, rest)
unfolding mode_read behind after
mode_again Shared rest = refl
mode_again Exclusive rest = refl

form_again : (f : LatchForm) (rest : List ℕ) → IsFormTyped f → Ends rest → form_read true (form_text f ++ rest) ≡ Some (f, rest)
unfolding form_read behind after
form_again form.Conditional rest t e = refl
form_again form.Waiting rest t e = refl
form_again (form.Posted ecb) rest t e = rw (u32_again ecb rest t e) refl

condition_again : (b : Bool) (rest : List ℕ) → condition (condition_text b ++ rest) ≡ Some (b, rest)
unfolding condition behind after
condition_again true rest = refl
condition_again false rest = refl

two_again : (a b : ℕ) (rest : List ℕ) → a ≤ highest_u32 → b ≤ highest_u32 → Ends rest
    → two_u32 true ((decimal a <+> decimal b) ++ rest) ≡ Some ((a, b), rest)
two_again a b rest la lb e =
    parted_again (any_u32 true) (λ _. any_u32 true) a b (decimal a) (decimal b) rest (u32_again a (32 ∷ (decimal b ++ rest)) la refl)
    (u32_again b rest lb e)

pub latch_reply_again : (r : LatchReply) (rest : List ℕ) → IsLatchReplyTyped r → Ends rest
    → latch_reply true (latch_reply_text r ++ rest) ≡ Some (r, rest)
unfolding latch_reply behind after
latch_reply_again (latch_reply_of.Granted id) rest t e = rw (u32_again id rest t e) refl
latch_reply_again (latch_reply_of.Queued id) rest t e = rw (u32_again id rest t e) refl
latch_reply_again (latch_reply_of.NotNow id) rest t e = rw (u32_again id rest t e) refl
latch_reply_again latch_reply_of.Waiting rest t e = refl
latch_reply_again latch_reply_of.Gone rest t e = refl
latch_reply_again (latch_reply_of.Released n) rest t e = rw (u32_again n rest t e) refl
latch_reply_again (latch_reply_of.Purged m n) rest t e = rw (two_again m n rest t.0 t.1 e) refl

-- the requestor, the mode and the form of an obtain
obtain_tail : (requestor : ℕ) (mode : Mode) (f : LatchForm) (rest : List ℕ) → requestor ≤ highest_u64 → IsFormTyped f → Ends rest
    → parted (any_u64 true) (parted mode_read (form_read true)) ((decimal requestor <+> mode_text mode <+> form_text f) ++ rest)
    ≡ Some ((requestor, (mode, f)), rest)
obtain_tail requestor mode f rest le t e =
    let last =
    parted_again mode_read (λ _. form_read true) mode f (mode_text mode) (form_text f) rest
    (mode_again mode (32 ∷ (form_text f ++ rest))) (form_again f rest t e) in
    parted_again (any_u64 true) (λ _. parted mode_read (form_read true)) requestor (mode, f) (decimal requestor)
    (mode_text mode <+> form_text f) rest (u64_again requestor (32 ∷ ((mode_text mode <+> form_text f) ++ rest)) le refl) last

release_tail : (id : ℕ) (b : Bool) (rest : List ℕ) → id ≤ highest_u32
    → parted (any_u32 true) condition ((decimal id <+> condition_text b) ++ rest) ≡ Some ((id, b), rest)
release_tail id b rest le =
    parted_again (any_u32 true) (λ _. condition) id b (decimal id) (condition_text b) rest
    (u32_again id (32 ∷ (condition_text b ++ rest)) le refl) (condition_again b rest)

pub latch_op_again : (op : LatchOp) (rest : List ℕ) → IsLatchOpTyped op → Ends rest
    → latch_op true (latch_op_text op ++ rest) ≡ Some (op, rest)
unfolding latch_op obtain release obtain_rest behind after
latch_op_again (latch_op_of.Obtain latch requestor mode f) rest t e =
    rw (parted_again (any_u32 true) (λ _. parted (any_u64 true) (parted mode_read (form_read true))) latch (requestor, (mode, f))
    (decimal latch) (decimal requestor <+> mode_text mode <+> form_text f) rest
    (u32_again latch (32 ∷ ((decimal requestor <+> mode_text mode <+> form_text f) ++ rest)) t.0 refl)
    (obtain_tail requestor mode f rest t.1 t.2 e)) refl
latch_op_again (latch_op_of.Confirm latch id) rest t e = rw (two_again latch id rest t.0 t.1 e) refl
latch_op_again (latch_op_of.Release latch id b) rest t e =
    rw (parted_again (any_u32 true) (λ _. parted (any_u32 true) condition) latch (id, b) (decimal latch) (decimal id <+> condition_text b)
    rest
    (u32_again latch (32 ∷ ((decimal id <+> condition_text b) ++ rest)) t.0 refl) (release_tail id b rest t.1)) refl
latch_op_again (latch_op_of.Purge requestor) rest t e = rw (u64_again requestor rest t e) refl
