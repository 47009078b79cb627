-- Which call that is left would end a wait.
use Rattle.std.specs.Prelude.{ℕ, Bool, false, ◌+◌, ◌==◌, List, [], ◌∷◌, drop, length, option_map, Option, Some, None}
use Rattle.std.specs.List.{position}
use Rattle.mv_latch.specs.declared.request.LatchForm.TheVariants.{Posted}
use Rattle.mv_pollscript.specs.declared.finding.Deed.{Deed}
use Rattle.mv_pollscript.specs.declared.finding.Deed.TheVariants.{Posts, Releases}
use Rattle.mv_pollscript.specs.declared.finding.Place.{Place}
use Rattle.mv_script.specs.declared.answer.Answer.{Answer}
use Rattle.mv_scriptline.specs.declared.call.Call.{Call}
use Rattle.mv_scriptline.specs.declared.call.Call.TheVariants as call

-- whether a call posts this block by its number, or releases a token of this element
abbrev pub does : Deed → Call → Bool
does (Posts e) (call.Post ecb code) = ecb == e
does (Posts e) (call.TryPost ecb place code) = ecb == e
does (Posts e) (call.EndTask requestor (Some ecb) code) = ecb == e
does (Posts e) (call.Obtain latch requestor mode (Posted ecb)) = ecb == e
does (Posts e) _ = false
does (Releases n) (call.Release token code) = token.element == n
does (Releases n) (call.TryRelease token place code) = token.element == n
does (Releases n) (call.Transfer current target code) = target.element == n
does (Releases n) _ = false

-- the number, counted from 1, of the first of these calls after the first `made` that does this
abbrev pub place_in : Deed → List Call → ℕ → Option ℕ
place_in deed calls made = option_map (λ ahead. made + ahead + 1) (position (does deed) (drop made calls))

-- the place of a call of task k, if there is one, and otherwise another place
abbrev pub or_place : ℕ → Option ℕ → Option Place → Option Place
or_place k (Some n) other = Some (record { task = k; call = n })
or_place k None other = other

-- the first call that does this among those without an answer, of the tasks from k on
abbrev pub first_call : Deed → ℕ → List (List Call) → List (List Answer) → Option Place
first_call deed k (calls ∷ lists) (own ∷ answers) =
    or_place k (place_in deed calls (length own)) (first_call deed (k + 1) lists answers)
first_call deed k [] answers = None
first_call deed k (calls ∷ lists) [] = None
