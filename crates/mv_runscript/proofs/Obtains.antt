-- The request that an obtain got, behind those of the OBTAINs before.
use Rattle.std.proofs.Common.{◌≡◌, ℕ, ◌<◌, Bool, true, false, List, [], ◌∷◌, ◌++◌, Option, Some, None, Result, Ok, Err, refl, sym, ap, ◌∙◌}
use Rattle.std.proofs.Common.{subst, arith}
use Rattle.std.specs.Prelude.{nat_lt, not, length, IfOk, IfSome, MatchResult, option_map}
use Rattle.std.proofs.lemmas.Bool.{ltb-true}
use Rattle.std.proofs.lemmas.List.{map-append}
use Rattle.std.specs.Option.{option_or}
use Rattle.mv_latch.specs.Request.{posted_ecb}
use Rattle.mv_latch.specs.declared.request.LatchForm.{LatchForm}
use Rattle.mv_latch.specs.declared.request.LatchForm.TheVariants.{Conditional, Waiting, Posted}
use Rattle.mv_latch.specs.declared.request.Mode.{Mode}
use Rattle.mv_latchset.specs.declared.obtaining.Obtained.{Obtained}
use Rattle.mv_latchset.specs.declared.obtaining.Obtained.TheVariants.{Granted, Pending}
use Rattle.mv_latchset.specs.declared.obtaining.ObtainRefusal.{ObtainRefusal}
use Rattle.mv_latchset.specs.declared.token.LatchToken.{LatchToken}
use Rattle.mv_latchset.specs.Answers.{obtain_answer}
use Rattle.mv_latchset.specs.Obtaining.{IsOfLatch, IsObtainedBy, IsRefusedBy}
use Rattle.mv_latch.specs.declared.operation.LatchOp.TheVariants.{Obtain}
use Rattle.mv_board.specs.Faces.{CallerFace}
use Rattle.mv_config.specs.Setup.{Setup}
use Rattle.mv_machine.proofs.Lists.{all_push}
use Rattle.mv_calls.specs.declared.table.Table.{Table}
use Rattle.mv_calls.specs.Keeping.{Kept, kept_of}
use Rattle.mv_calls.specs.LatchCalls.{obtain_refusal}
use Rattle.mv_calls.specs.Refusal.{Refusal}
use Rattle.mv_calls.specs.Refusal as refusal
use Rattle.mv_calls.specs.Waits.{refused_if}
use Rattle.mv_scriptline.specs.Limits.{latches}
use Rattle.mv_script.specs.Sound.{IfThere, HasEcb}
use Rattle.mv_script.specs.Tasks.{request_in}
use Rattle.mv_runscript.specs.Making.{asked_by, requests_of, token_in, AreOfLatches, IsForScripts}

-- its latch and its number are those of the program
asked_is : (latch : ℕ) (outcome : Result Obtained ObtainRefusal) → IfOk outcome (IsOfLatch latch)
    → request_in latch (obtain_answer outcome) ≡ option_map asked_by (token_in outcome)
asked_is latch (Ok (Granted token)) own = ap (λ l. Some (record { latch = l; id = token.id })) (sym own)
asked_is latch (Ok (Pending token)) own = ap (λ l. Some (record { latch = l; id = token.id })) (sym own)
asked_is latch (Err why) own = refl

-- what is not refused is of a latch that there is
there_is : (c : Setup) (latch : ℕ) (rest : Option Refusal) (b : Bool) → nat_lt latch c.latches ≡ b
    → option_or (refused_if (not b) refusal.BadLatch) rest ≡ None → latch < c.latches
there_is c latch rest true is none = ltb-true latch c.latches is
there_is c latch rest false is none = absurd (cc none)

pub latch_exists : (c : Setup) (latch requestor : ℕ) (mode : Mode) (form : LatchForm) (kept : Kept)
    → obtain_refusal c latch requestor mode form kept ≡ None → latch < c.latches
latch_exists c latch requestor mode form kept none = there_is c latch _ (nat_lt latch c.latches) refl none

-- and so is the latch of an obtain that got a request
pub latch_low : (c : Setup) (latch requestor : ℕ) (mode : Mode) (form : LatchForm) (t u : CallerFace)
    (outcome : Result Obtained ObtainRefusal) → IsForScripts c
    → MatchResult outcome
    (λ got. (obtain_refusal c latch requestor mode form (kept_of t.number t.log) ≡ None)
    × IsObtainedBy (Obtain latch requestor mode form) latch form t got u)
    (λ why. IsRefusedBy c latch requestor mode form t why u)
    → IfOk outcome (λ got. latch < latches)
latch_low c latch requestor mode form t u (Ok got) is cause =
    let below = latch_exists c latch requestor mode form (kept_of t.number t.log) cause.0 in
    let count = is.latch_count in omega arith
latch_low c latch requestor mode form t u (Err why) is cause = tt

-- it is of a latch that there is
fits : (latch : ℕ) (outcome : Result Obtained ObtainRefusal) → IfOk outcome (IsOfLatch latch) → IfOk outcome (λ got. latch < latches)
    → IfThere (λ (t : LatchToken). t.latch < latches) (token_in outcome)
fits latch (Ok (Granted token)) own low = subst (λ l. l < latches) (sym own) low
fits latch (Ok (Pending token)) own low = subst (λ l. l < latches) (sym own) low
fits latch (Err why) own low = tt

-- what was put behind the requests before is the request that was got
module _ (latch : ℕ) (outcome : Result Obtained ObtainRefusal) (token : Option LatchToken) (old new : List (Option LatchToken))
    (own : IfOk outcome (IsOfLatch latch)) (got : token ≡ token_in outcome) (put : new ≡ old ++ token ∷ []) where
  pub requests_more : requests_of old ++ request_in latch (obtain_answer outcome) ∷ [] ≡ requests_of new
  requests_more =
      ap (λ r. requests_of old ++ r ∷ []) (asked_is latch outcome own ∙ ap (option_map asked_by) (sym got))
      ∙ sym (map-append (λ (t : Option LatchToken). option_map asked_by t) old (token ∷ [])) ∙ ap requests_of (sym put)

  pub tokens_more : IfOk outcome (λ got. latch < latches) → AreOfLatches old → AreOfLatches new
  tokens_more low all =
      subst AreOfLatches (sym put) (all_push (IfThere (λ (t : LatchToken). t.latch < latches)) old token all
      (subst (IfThere (λ (t : LatchToken). t.latch < latches)) (sym got) (fits latch outcome own low)))

-- a form of a good OBTAIN posts a block that there is, if it posts one
pub posts_there : (c : Setup) (table : Option Table) (form : LatchForm)
    → HasEcb (record { tasks = c.callers; ecbs = length c.owners; table = table }) form
    → IfSome (posted_ecb form) (λ e. e < length c.owners)
posts_there c table Conditional has = tt
posts_there c table Waiting has = tt
posts_there c table (Posted e) has = has
