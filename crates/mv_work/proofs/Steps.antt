-- The steps of a job, one by one. Used by on_granted and run_on.
use Rattle.std.proofs.Common.{◌≡◌, ℕ, ◌+◌, ◌<◌, ◌≤◌, ◌==◌, Bool, true, false, List, [], ◌∷◌, ◌++◌, length, set, Option, Some, None, refl}
use Rattle.std.proofs.Common.{get_or, option_map, sym, ap, ◌∙◌, subst, if◌then◌else◌, arith}
use Rattle.std.proofs.lemmas.Bool.{eq-eqb, eqb-true}
use Rattle.std.proofs.lemmas.List.{get_or-set_same, get_or-set_other, length-set}
use Rattle.mv_machine.specs.System.{with_at}
use Rattle.mv_latchset.specs.declared.token.LatchToken.{LatchToken}
use Rattle.mv_plan.proofs.lists.{all_get}
use Rattle.mv_work.specs.declared.initiator.Initiator.{Initiator}
use Rattle.mv_work.specs.Initiating.{AreGiven, IsAtJob, jobs_of_records}
use Rattle.mv_work.specs.Records.{Recorded}
use Rattle.mv_work.specs.Spool.{SpoolFace}
use Rattle.mv_work.specs.Steps.{AreKept, requests_of}

-- the number of a request
abbrev pub id_of : LatchToken → ℕ
id_of t = t.id

-- a token that is kept at its latch
pub kept_with : (tokens : List (Option LatchToken)) (latch : ℕ) (token : LatchToken) → latch < length tokens
    → requests_of (set tokens latch (Some token)) ≡ with_at (requests_of tokens) latch (Some token.id)
kept_with tokens latch token lt i k = by_case (k == latch) refl i where
  by_case : (b : Bool) → (k == latch) ≡ b
      → requests_of (set tokens latch (Some token)) k ≡ with_at (requests_of tokens) latch (Some token.id) k
  by_case true is =
      ap (λ m. requests_of (set tokens latch (Some token)) m) (eqb-true k latch is)
      ∙ ap (λ o. option_map id_of o) (get_or-set_same tokens latch (Some token) None lt)
      ∙ sym (ap (λ (b : Bool). if b then Some token.id else requests_of tokens k) is)
  by_case false is =
      ap (λ o. option_map id_of o) (get_or-set_other tokens latch k (Some token) None (λ q. absurd (cc (sym is ∙ eq-eqb k latch q))))
      ∙ sym (ap (λ (b : Bool). if b then Some token.id else requests_of tokens k) is)

-- each is still of its latch
pub still_kept : {tokens : List (Option LatchToken)} (latch : ℕ) (token : LatchToken) → latch < length tokens → token.latch ≡ latch
    → AreKept tokens → AreKept (set tokens latch (Some token))
still_kept {tokens} latch token lt own kept = record {
  count = length-set tokens latch (Some token) ∙ kept.count;
  own = λ k t is. by_case k t (k == latch) refl is;
} where
  by_case : (k : ℕ) (t : LatchToken) (b : Bool) → (k == latch) ≡ b → get_or (set tokens latch (Some token)) k None ≡ Some t → t.latch ≡ k
  by_case k t true e is =
      let same = eqb-true k latch e in
      let here = get_or-set_same tokens latch (Some token) None lt in
      let one : token ≡ t = cc in
      ap (λ (x : LatchToken). x.latch) (sym one) ∙ own ∙ sym same
  by_case k t false e is =
      kept.own k t (sym (get_or-set_other tokens latch k (Some token) None (λ q. absurd (cc (sym e ∙ eq-eqb k latch q)))) ∙ is)

-- a job that begins has no request yet
pub no_requests : requests_of (None ∷ None ∷ None ∷ None ∷ None ∷ None ∷ None ∷ None ∷ []) ≡ (λ (latch : ℕ). None)
no_requests i latch =
    let none : List (Option LatchToken) = None ∷ None ∷ None ∷ None ∷ None ∷ None ∷ None ∷ None ∷ [] in
    ap (λ o. option_map id_of o) (all_get (λ o. o ≡ None) none latch None
    (refl, (refl, (refl, (refl, (refl, (refl, (refl, (refl, tt)))))))) refl) i

-- a job that still runs, with what is noted now
pub still_at : {s : SpoolFace} {me : Initiator} {round job marks : ℕ} (noted : Recorded) (less : ℕ) → noted.jobs ≡ me.noted.jobs
    → less + me.noted.room ≤ noted.room + marks → IsAtJob s me round job marks
    → IsAtJob s (record { index = me.index; given = me.given; noted = noted }) round job less
still_at {me = me} {job = job} noted less jobs room at = record {
  index = at.index;
  round = at.round;
  job = at.job;
  size = at.size;
  given = subst (λ js. AreGiven (js ++ job ∷ []) me.given.items) (ap jobs_of_records (sym jobs)) at.given;
  room = (let few = at.room in omega arith);
}
