-- No two requests of the lists have one number.
use Rattle.std.proofs.Common.{◌≡◌, ℕ, ◌+◌, ◌≤◌, Bool, true, false, List, [], ◌∷◌, length, filter, set, cond, inl, inr}
use Rattle.std.proofs.Common.{subst, arith}
use Rattle.std.proofs.lemmas.Bool.{cases_eq, false≢true}
use Rattle.mv_latch.specs.declared.operation.LatchOp.{LatchOp}
use Rattle.mv_latch.specs.declared.operation.LatchOp.TheVariants.{Obtain, Confirm, Release, Purge}
use Rattle.mv_latch.specs.declared.request.Request.{Request}
use Rattle.mv_latch.specs.Latch.{obtain_step, release_step}
use Rattle.mv_latch.specs.LatchSet.{list_of, count_in, latch_step, IsNewId}
use Rattle.mv_latch.specs.Request.{has_id}
use Rattle.mv_latch.proofs.Numbers.{none_but}
use Rattle.mv_latch.proofs.Quotas.{count_set, count_new, count_obtained, count_released, count_purged}
use Rattle.mv_machine.specs.declared.entry.Entry.{Entry}
use Rattle.mv_machine.specs.declared.entry.Object.{Object}
use Rattle.mv_machine.specs.declared.entry.Object.TheVariants.{Ecb, Element, Volume, Latches}
use Rattle.mv_machine.specs.declared.entry.Op.{Op}
use Rattle.mv_machine.specs.declared.entry.Op.TheVariants as op_on
use Rattle.mv_machine.specs.declared.entry.Reply.{Reply}
use Rattle.mv_machine.specs.Legal.{IsNext, Legal, after}
use Rattle.mv_config.specs.Setup.{Setup}
use Rattle.mv_machine.specs.System.{System, opening, moved}
use Rattle.mv_machine.proofs.EntryRuns.{entry_of, along_all}
use Rattle.mv_machine.proofs.LatchIds.{new_from_next, none_in_new}
use Rattle.mv_machine.proofs.StandingRuns.{NamesLatch, names_of}

one_at_most : (t : Request → Bool) (r : Request) → length (filter t (r ∷ [])) ≤ 1
one_at_most t r = elim (t r) as (λ b. length (cond b (r ∷ []) []) ≤ 1) [ true ↦ omega arith | false ↦ omega arith ]

-- each number is in the lists once at most
abbrev pub Differ : List (List Request) → Type 0
Differ lists = (id : ℕ) → count_in (has_id id) lists ≤ 1

differ_next : (k place : ℕ) (op : LatchOp) (lists : List (List Request)) → NamesLatch op lists → IsNewId place lists → Differ lists
    → Differ (latch_step k place op lists).0
differ_next k place (Obtain latch requestor mode form) lists lt new d =
    λ id. let r : Request = record { id = place; caller = k; requestor = requestor; mode = mode; form = form } in
    let t : Request → Bool = has_id id in
    let old : List Request = list_of lists latch in
    let counts : count_in t (set lists latch (obtain_step r old).0) ≤ count_in t lists + length (filter t (r ∷ [])) =
    omega (arith, count_set t lists latch (obtain_step r old).0 lt, count_obtained t r old) in
    elim (cases_eq place id) [
      | inl e ↦ omega (arith, counts, one_at_most t r, subst (λ i. count_in (has_id i) lists ≡ 0) e new)
      | inr other ↦ omega (arith, counts, none_but id r other, d id)
    ]
differ_next k place (Confirm latch id) lists lt new d = d
differ_next k place (Release latch own conditional) lists lt new d =
    λ id. let old : List Request = list_of lists latch in
    let left : List Request = (release_step k own conditional old).0 in
    omega (arith, count_set (has_id id) lists latch left lt, count_released (has_id id) k own conditional old, d id)
differ_next k place (Purge requestor) lists lt new d = λ id. omega (arith, count_purged (has_id id) requestor lists, d id)

-- and none is there from the place on
record Numbered (s : System) : Type 0 where
  differ : Differ s.latches.state
  new : (id : ℕ) → s.latches.place ≤ id → IsNewId id s.latches.state

numbered_next : (c : Setup) (s : System) (k : ℕ) (o : Object) (p : ℕ) (op : Op) (r : Reply) → IsNext c s (entry_of k o p op r) → Numbered s
    → Numbered (moved s k o op)
numbered_next c s k Latches p (op_on.Latch op) r h w = record {
  differ = differ_next k s.latches.place op s.latches.state (names_of c s k op h.admits) (w.new s.latches.place (omega arith)) w.differ;
  new = new_from_next k s.latches.place op s.latches.state w.new;
}
numbered_next c s k (Ecb m) p (op_on.Ecb op) r h w = record { differ = w.differ; new = w.new }
numbered_next c s k (Element m) p (op_on.Element op) r h w = record { differ = w.differ; new = w.new }
numbered_next c s k (Volume m) p (op_on.Volume op) r h w = record { differ = w.differ; new = w.new }
numbered_next c s k o p op r h w = absurd (false≢true h.admits)

numbered : (c : Setup) (es : List Entry) → Legal c es → Numbered (after c es)
numbered c es l =
    along_all c Numbered (λ s e h w. numbered_next c s e.caller e.object e.place e.op e.reply h w) (opening c) es l
    (record { differ = λ id. omega (arith, count_new (has_id id) c.latches); new = λ id _. none_in_new c.latches id })

pub numbers_differ : (c : Setup) (es : List Entry) (id : ℕ) → Legal c es → count_in (has_id id) (after c es).latches.state ≤ 1
numbers_differ c es id l = (numbered c es l).differ id

pub numbers_ahead_are_new : (c : Setup) (es : List Entry) (id : ℕ) → Legal c es → (after c es).latches.place ≤ id
    → IsNewId id (after c es).latches.state
numbers_ahead_are_new c es id l le = (numbered c es l).new id le
