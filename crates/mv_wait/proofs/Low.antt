-- The generations and codes that replies name, and the generations that are kept, are low.
use Rattle.std.proofs.Common.{◌≡◌, ℕ, ◌≤◌, List, [], ◌∷◌, ap, ◌∙◌, subst, arith}
use Rattle.std.specs.List.{AllByRecursion}
use Rattle.mv_latch.specs.declared.operation.Wake.{Wake}
use Rattle.mv_config.specs.Check.{IsValid}
use Rattle.mv_machine.specs.Legal.{after}
use Rattle.mv_config.specs.Limits.{highest_generation}
use Rattle.mv_machine.specs.Parts.{IsPossible}
use Rattle.mv_config.specs.Setup.{Setup, element_owner}
use Rattle.mv_machine.specs.declared.entry.Entry.{Entry}
use Rattle.mv_machine.specs.declared.entry.Object.{Object}
use Rattle.mv_machine.specs.declared.entry.Op.{Op}
use Rattle.mv_machine.specs.declared.entry.Reply.{Reply}
use Rattle.mv_machine.specs.declared.entry.Reply.TheVariants as reply_of
use Rattle.mv_machine.proofs.Budgets.{no_high_generation}
use Rattle.mv_machine.proofs.OneHistory.{budgets_fit}
use Rattle.mv_board.specs.Faces.{CallerFace, Happened}
use Rattle.mv_machine.specs.Replies.{NamesUpTo, NamesLowCode}
use Rattle.mv_calls.specs.Keeping.{kept_of}
use Rattle.mv_calls.proofs.Elements.{element_agrees}
use Rattle.mv_calls.proofs.Codes.{possible_names_low}
use Rattle.mv_calls.proofs.Uses.{possible_names}
use Rattle.mv_wait.specs.declared.keep.Keep.{Keep}
use Rattle.mv_wait.specs.Task.{Fits, IsRecorded}
use Rattle.mv_wait.specs.Waiting.{settle_reply, HasLowCode}
use Rattle.mv_calls.specs.declared.outcomes.WaitSlot.{WaitSlot}
use Rattle.mv_calls.specs.declared.outcomes.WaitSlot.TheVariants as slot
use Rattle.mv_wait.proofs.Runs.{entry_of}

-- the tables fit the task's configuration
pub fits_of : (s : Setup) (t : CallerFace) (k : Keep) → t.about ≡ s ∷ [] → IsRecorded t k → Fits t k s
fits_of s t k about r = (subst (AllByRecursion (Fits t k)) about r.fits).0

pub names_low : (c : Setup) (t u : CallerFace) (o : Object) (op : Op) (reply : Reply) → Happened t o op reply u
    → IsPossible c u.number u.log u.told → IsValid c → NamesUpTo highest_generation reply
names_low c t u o op reply h p v = possible_names c t.number t.log (entry_of t o h.0 op reply) u.told v
    (subst (λ (z : ℕ × List Entry). IsPossible c z.0 z.1 u.told) (λ i. (h.1.same.number i, h.1.logged i)) p)

pub names_low_code : (c : Setup) (t u : CallerFace) (o : Object) (op : Op) (reply : Reply) → Happened t o op reply u
    → IsPossible c u.number u.log u.told → NamesLowCode reply
names_low_code c t u o op reply h p = possible_names_low c t.number t.log (entry_of t o h.0 op reply) u.told
    (subst (λ (z : ℕ × List Entry). IsPossible c z.0 z.1 u.told) (λ i. (h.1.same.number i, h.1.logged i)) p)

-- so is the code of a slot
pub slot_is_low : (found : WaitSlot) → NamesLowCode (reply_of.Ecb (settle_reply found)) → HasLowCode found
slot_is_low (slot.Complete code) low = low
slot_is_low slot.Open low = tt

-- an owner keeps the generation that its element has
pub kept_low : (c : Setup) (k n : ℕ) (log : List Entry) (shown : List (List Wake)) → IsValid c → IsPossible c k log shown
    → element_owner c n ≡ k → (kept_of k log).generation n ≤ highest_generation
kept_low c k n log shown v p own =
    let few = budgets_fit c p.history v p.legal p.budgets in
    let low = no_high_generation c p.history n p.legal (omega arith) in
    let agrees = element_agrees c n k own p.history p.legal in
    let same : ((after c p.history).element n).state.generation ≡ (kept_of k log).generation n =
    agrees.0 ∙ ap (λ es. (kept_of k es).generation n) p.logged in
    omega arith
