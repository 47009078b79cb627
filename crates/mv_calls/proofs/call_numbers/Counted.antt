-- One entry more behind a list that has been counted.
use Rattle.std.proofs.Common.{◌≡◌, ℕ, ◌+◌, ◌<◌, ◌≤◌, ◌-◌, ◌^◌, List, [], ◌∷◌, ◌++◌, length, set, get_or, subst, refl, sym, ap, ◌∙◌, arith}
use Rattle.std.proofs.Common.{vec_capacity, if◌then◌else◌}
use Rattle.std.proofs.lemmas.Bool.{eq-eqb}
use Rattle.std.proofs.lemmas.List.{length-set}
use Rattle.std.proofs.lemmas.List.Elements.{All-get_or, All-set}
use Rattle.std.specs.Prelude.{All}
use Rattle.mv_latch.specs.declared.operation.Wake.{Wake}
use Rattle.mv_machine.specs.declared.entry.Entry.{Entry}
use Rattle.mv_machine.specs.Legal.{IsNext, next, after_from, after}
use Rattle.mv_config.specs.Setup.{Setup}
use Rattle.mv_machine.specs.System.{System, opening, after_step, wakes_after, with_at}
use Rattle.mv_machine.specs.Told.{last_wakes}
use Rattle.mv_machine.proofs.Histories.{after_from-append}
use Rattle.mv_machine.proofs.Longer.{last_is_next}
use Rattle.mv_machine.proofs.Merged.{caller_there}
use Rattle.mv_machine.proofs.Replays.{last_wakes_from-append, shown_is}
use Rattle.mv_calls.specs.declared.counters.CallCounters.{CallCounters}
use Rattle.mv_calls.specs.declared.counting.Counter.{Counter}
use Rattle.mv_calls.specs.Counters.{numbering_of, numbering_at, HasRoom, IsCountable, IsCountedNext}
use Rattle.mv_calls.specs.Numbers.{Numbering, unnumbered, numbered, numbered_at, numbering_from, numbering_after, calls, calls_from}
use Rattle.mv_calls.proofs.call_numbers.Kept.{counted-read, numbered_so, one_counted, round_low}
use Rattle.mv_calls.proofs.call_numbers.Pending.{pending_fit}

-- ---- the machine that takes a step with the entry

-- the machine is then the one behind all
pub stepped_after : (c : Setup) (es : List Entry) (e : Entry) (s t : System) → IsNext c (after c es) e → s ≡ after c es
    → t ≡ after_step c s e.caller e.object e.op → t ≡ after c (es ++ e ∷ [])
stepped_after c es e s t n was is =
    let stepped : after_step c (after c es) e.caller e.object e.op ≡ next (after c es) e = rw (n.admits) refl in
    is ∙ ap (λ (x : System). after_step c x e.caller e.object e.op) was ∙ stepped ∙ sym (after_from-append (opening c) es (e ∷ []))

-- and shows the wakes behind all
pub stepped_wakes : (c : Setup) (es : List Entry) (e : Entry) (s : System) (shown ws : List Wake) → IsNext c (after c es) e
    → s ≡ after c es → shown ≡ last_wakes c es → ws ≡ wakes_after c s shown e.caller e.object e.op → ws ≡ last_wakes c (es ++ e ∷ [])
stepped_wakes c es e s shown ws n was showed is =
    is ∙ ap (λ (x : System). wakes_after c x shown e.caller e.object e.op) was
    ∙ ap (λ (x : List Wake). wakes_after c (after c es) x e.caller e.object e.op) showed
    ∙ shown_is c (after c es) (last_wakes c es) e.caller e.object e.op n.admits
    ∙ sym (last_wakes_from-append (opening c) [] es (e ∷ []))

-- ---- the counters

-- what is kept with one entry more
kept_more : (c : Setup) (s : System) (table : ℕ → Numbering) (es : List Entry) (e : Entry)
    → numbering_from c s table (es ++ e ∷ []) ≡ with_at (numbering_from c s table es) e.caller
    (numbered_at c (after_from s es) (numbering_from c s table es) e)
kept_more c s table [] e = refl
kept_more c s table (x ∷ es) e = kept_more c (next s x) (with_at table x.caller (numbered_at c s table x)) es e

-- its number comes behind the others
pub calls_more : (c : Setup) (s : System) (table : ℕ → Numbering) (es : List Entry) (e : Entry)
    → calls_from c s table (es ++ e ∷ []) ≡ calls_from c s table es
    ++ (numbered_at c (after_from s es) (numbering_from c s table es) e).group ∷ []
calls_more c s table [] e = refl
calls_more c s table (x ∷ es) e =
    ap (λ ns. (numbered_at c s table x).group ∷ ns)
    (calls_more c (next s x) (with_at table x.caller (numbered_at c s table x)) es e)

-- no group number is above the number of entries
kept_low : (c : Setup) (s : System) (table : ℕ → Numbering) (es : List Entry) (i : ℕ) → ((k : ℕ) → (table k).group ≤ i) → (k : ℕ)
    → (numbering_from c s table es k).group ≤ i + length es
kept_low c s table [] i low k = omega (arith, low k)
kept_low c s table (e ∷ es) i low k =
    omega (arith, kept_low c (next s e) (with_at table e.caller (numbered_at c s table e)) es (i + 1) (round_low c s table e i low) k)

module _ (c : Setup) (es : List Entry) (e : Entry) (ws : List Wake) (x : CallCounters) (h : IsCountable c es e ws x) where
  -- its caller is counted
  pub countable_there : e.caller < length x.counters.items
  countable_there = rw (h.counted.callers)
      (caller_there c (after c es) e.caller e.object e.op (last_is_next c es e h.legal).admits)

  -- its number can be told
  pub countable_low : length es < 2 ^ 32 - 1 → (old : Counter) → old ≡ get_or x.counters.items e.caller old → old.group < 2 ^ 32 - 1
  countable_low few old is =
      let low = kept_low c (opening c) (λ k. unnumbered) es 0 (λ k. omega arith) e.caller in
      let here : (numbering_at x.counters.items e.caller).group < 2 ^ 32 - 1 =
      subst (λ (t : ℕ → Numbering). (t e.caller).group < 2 ^ 32 - 1) (sym h.counted.kept) (omega (arith, low, few)) in
      subst (λ (t : Numbering). t.group < 2 ^ 32 - 1) (counted-read x.counters.items e.caller old countable_there is) here

  -- the wakes are those that the machine shows
  told : ws ≡ wakes_after c (after c es) (last_wakes c es) e.caller e.object e.op
  told = h.wakes ∙ last_wakes_from-append (opening c) [] es (e ∷ [])
      ∙ sym (shown_is c (after c es) (last_wakes c es) e.caller e.object e.op (last_is_next c es e h.legal).admits)

  -- so its caller's counter becomes what its numbering becomes
  numbered_there : (old : Counter) → old ≡ get_or x.counters.items e.caller old
      → numbered c (numbering_of old) e ws ≡ numbered_at c (after c es) (numbering_after c es) e
  numbered_there old is =
      numbered_so c (after c es) (last_wakes c es) ws x.counters.items e old (last_is_next c es e h.legal) countable_there is told
      ∙ ap (λ (t : ℕ → Numbering). numbered_at c (after c es) t e) h.counted.kept

  -- which is kept of it then
  kept_there : numbering_after c (es ++ e ∷ []) e.caller ≡ numbered_at c (after c es) (numbering_after c es) e
  kept_there =
      ap (λ (t : ℕ → Numbering). t e.caller) (kept_more c (opening c) (λ k. unnumbered) es e)
      ∙ ap (λ b. if b then numbered_at c (after c es) (numbering_after c es) e else numbering_after c es e.caller) (eq-eqb e.caller e.caller refl)

  has_room : (old : Counter) → old ≡ get_or x.counters.items e.caller old → HasRoom c old
  has_room old is =
      subst (HasRoom c) (sym is) (All-get_or (HasRoom c) x.counters.items e.caller old countable_there h.counted.room)

  -- and the counter has room for what is pending then
  pub countable_room : (old : Counter) → old ≡ get_or x.counters.items e.caller old
      → length (numbered c (numbering_of old) e ws).pending ≤ vec_capacity old.pending
  countable_room old is =
      subst (λ (t : Numbering). length t.pending ≤ vec_capacity old.pending) (kept_there ∙ sym (numbered_there old is))
      (omega (arith, pending_fit c (es ++ e ∷ []) e.caller h.counted.valid h.legal, has_room old is))

  -- and it is counted
  pub counted_more : (y : CallCounters) (old new : Counter) (n : ℕ) → old ≡ get_or x.counters.items e.caller old
      → y.counters.items ≡ set x.counters.items e.caller new → n ≡ (numbered c (numbering_of old) e ws).group
      → numbering_of new ≡ numbered c (numbering_of old) e ws → vec_capacity new.pending ≡ vec_capacity old.pending
      → IsCountedNext c es e n y
  counted_more y old new n is written number becomes room =
      let same : n ≡ (numbered_at c (after c es) (numbering_after c es) e).group =
      number ∙ ap (λ (t : Numbering). t.group) (numbered_there old is) in
      record {
        counted = record {
          valid = h.counted.valid;
          kept = ap (λ (xs : List Counter). numbering_at xs) written
              ∙ one_counted c (after c es) (last_wakes c es) ws x.counters.items e old new (last_is_next c es e h.legal) countable_there is
              told becomes
              ∙ ap (λ (t : ℕ → Numbering). with_at t e.caller (numbered_at c (after c es) t e)) h.counted.kept
              ∙ sym (kept_more c (opening c) (λ k. unnumbered) es e);
          callers = ap (λ (xs : List Counter). length xs) written ∙ length-set x.counters.items e.caller new ∙ h.counted.callers;
          room = subst (λ (xs : List Counter). All (HasRoom c) xs) (sym written)
              (All-set (HasRoom c) x.counters.items e.caller new (omega (arith, room, has_room old is)) h.counted.room);
        };
        number = calls_more c (opening c) (λ k. unnumbered) es e ∙ ap (λ (m : ℕ). calls c es ++ m ∷ []) (sym same);
      }
