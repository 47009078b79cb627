-- A history that is kept as logs gives its entries one by one.
use Rattle.std.proofs.Common.{◌≡◌, ◌-◌, ◌≤◌, List, [], ◌∷◌, ◌++◌, length, take, replicate, set, sum, sym, refl, ap}
use Rattle.std.proofs.Common.{◌∙◌, subst, arith, length-append, length-set}
use Rattle.std.proofs.lemmas.List.{length-replicate}
use Rattle.std.proofs.Math.Seq.{take-append_seam}
use Rattle.std.specs.List.{AllByRecursion}
use Rattle.std.specs.Vec.{with_item}
use Rattle.mv_machine.specs.declared.entry.Entry.{Entry}
use Rattle.mv_machine.specs.declared.merging.History.TheInside.{Inside}
use Rattle.mv_machine.specs.declared.merging.Picked.{Picked}
use Rattle.mv_machine.specs.declared.state.State.{State}
use Rattle.mv_machine.specs.History.{IsGiven}
use Rattle.mv_machine.specs.Legal.{Legal, after}
use Rattle.mv_config.specs.Limits.{events_limit, highest_place}
use Rattle.mv_machine.specs.Merge.{merged, merge_from, risen, entry_count, AreOneHistory}
use Rattle.mv_machine.specs.Room.{IsRoomFor, IsPicked, IsHistory, history_of, past_of, coming_of, lefts}
use Rattle.mv_config.specs.Setup.{Setup}
use Rattle.mv_machine.specs.State.{Exists, IsOpenedWith, system_of, wakes_of}
use Rattle.mv_machine.specs.System.{System, place_of, after_step, wakes_after}
use Rattle.mv_machine.specs.Told.{last_wakes}
use Rattle.mv_machine.proofs.Lefts.{gives_one, lefts_zero, pick_taken}
use Rattle.mv_machine.proofs.Merged.{starts, total_parts}
use Rattle.mv_machine.proofs.MergeSteps.{there, place_low, before, steps, shows, places_rise}
use Rattle.mv_machine.proofs.OneHistory.{logs_count, logs_legal, logs_parts, logs_total, on_logs}

-- what stands before the end of a list
front_is : (xs ys whole : List Entry) → xs ++ ys ≡ whole → take (length whole - length ys) whole ≡ xs
front_is xs ys whole cut =
    let front : length whole - length ys ≡ length xs = omega (arith, ap length cut, length-append xs ys) in
    ap (λ n. take n whole) front ∙ ap (λ l. take (length xs) l) (sym cut) ∙ take-append_seam xs ys

-- the merge of the logs has as many entries as they
all_few : (c : Setup) (logs : List (List Entry)) → AreOneHistory c logs → sum c.budgets ≤ events_limit
    → length (merged logs) ≤ events_limit
all_few c logs h few =
    let total : entry_count logs ≡ length (merged logs) =
    ap entry_count (sym (logs_parts c logs h)) ∙ total_parts c (merged logs) (logs_legal c logs h) in
    omega (arith, total, logs_total c logs h, few)

-- ---- at the beginning all is still to come
module _ (x : Inside) (one : AreOneHistory x.config x.logs.items)
    (opening : IsRoomFor x.config (record { state = x.state; merged = x.merged })) where
  left_is : lefts x.merged.items x.logs.items ≡ x.logs.items
  left_is =
      ap (λ ms. lefts ms x.logs.items)
      (opening.logs ∙ ap (λ n. replicate n 0) (sym (logs_count x.config x.logs.items one))) ∙ lefts_zero x.logs.items

  pub coming_all : coming_of x ≡ merged x.logs.items
  coming_all = let places = ap place_of opening.opening ∙ starts x.config in
      λ i. merge_from (entry_count (left_is i)) (places i) (left_is i)

  pub past_none : past_of x ≡ []
  past_none = front_is [] (coming_of x) (merged x.logs.items) coming_all

  pub begins : IsHistory x
  begins = record {
    one = one;
    few = all_few x.config x.logs.items one opening.few;
    logs = ap length opening.logs ∙ (length-replicate x.config.callers 0 ∙ sym (logs_count x.config x.logs.items one));
    whole = ap (λ past. past ++ coming_of x) past_none ∙ coming_all;
    opened = opening.opened;
    after = opening.opening ∙ ap (after x.config) (sym past_none);
    wakes = opening.unshown ∙ ap (last_wakes x.config) (sym past_none);
  }

-- ---- at any time
module _ (x : Inside) (known : IsHistory x) where
  pub objects_there : AllByRecursion (λ log. AllByRecursion (λ e. Exists x.state e.object) log) x.logs.items
  objects_there = on_logs x.config (λ o. Exists x.state o) (λ o. there x.config x.state o known.opened) x.logs.items known.one

  -- one entry more
  module _ (p : Picked) (is : IsPicked (place_of (system_of x.state)) x.merged.items x.logs.items p) where
    rest : List (List Entry)
    rest = lefts (set x.merged.items p.caller p.merged) x.logs.items

    later : List Entry
    later = merge_from (entry_count rest) (risen (place_of (system_of x.state)) p.entry.object) rest

    legal : Legal x.config (merged x.logs.items)
    legal = logs_legal x.config x.logs.items known.one

    cut : (past_of x ++ p.entry ∷ []) ++ later ≡ merged x.logs.items
    unfolding rest later
    cut =
        pick_taken (place_of (system_of x.state)) _ (lefts x.merged.items x.logs.items) _ p.entry (past_of x)
        (merged x.logs.items) is.picks refl known.whole

    pub place_fits : place_of (system_of x.state) p.entry.object ≤ highest_place
    place_fits =
        let so_far = before x.config (merged x.logs.items) (past_of x) later p.entry legal cut in
        let low : place_of (system_of x.state) p.entry.object ≤ length (past_of x) =
        subst (λ (z : System). place_of z p.entry.object ≤ length (past_of x)) (sym known.after)
        (place_low x.config (past_of x) p.entry.object so_far) in
        omega (
          arith,
          low,
          ap length cut,
          length-append (past_of x ++ p.entry ∷ []) later,
          length-append (past_of x) (p.entry ∷ []),
          known.few,
        )

    -- the machine makes it
    module _ (s : State) (opened : IsOpenedWith x.config s)
        (steps_to : system_of s
        ≡ after_step x.config (system_of x.state) p.entry.caller p.entry.object p.entry.op)
        (shows_then : wakes_of s
        ≡ wakes_after x.config (system_of x.state) (wakes_of x.state) p.entry.caller p.entry.object p.entry.op) where
      abbrev pub then : Inside
      then = record { config = x.config; logs = x.logs; state = s; merged = with_item x.merged p.caller p.merged }

      made : system_of s ≡ after x.config (past_of x ++ p.entry ∷ [])
      made =
          steps_to
          ∙ (ap (λ z. after_step x.config z p.entry.caller p.entry.object p.entry.op) known.after
          ∙ steps x.config (merged x.logs.items) (past_of x) later p.entry legal cut)

      places : place_of (system_of s) ≡ risen (place_of (system_of x.state)) p.entry.object
      places =
          ap place_of made
          ∙ (places_rise x.config (merged x.logs.items) (past_of x) later p.entry legal cut
          ∙ ap (λ z. risen (place_of z) p.entry.object) (sym known.after))

      coming_later : coming_of then ≡ later
      unfolding later rest
      coming_later = λ i. merge_from (entry_count rest) (places i) rest

      whole_then : (past_of x ++ p.entry ∷ []) ++ coming_of then ≡ merged x.logs.items
      whole_then = ap (λ l. (past_of x ++ p.entry ∷ []) ++ l) coming_later ∙ cut

      past_then : past_of then ≡ past_of x ++ p.entry ∷ []
      past_then = front_is (past_of x ++ p.entry ∷ []) (coming_of then) (merged x.logs.items) whole_then

      pub goes_on : IsHistory then
      goes_on = record {
        one = known.one;
        few = known.few;
        logs = length-set x.merged.items p.caller p.merged ∙ known.logs;
        whole = ap (λ past. past ++ coming_of then) past_then ∙ whole_then;
        opened = opened;
        after = made ∙ ap (after x.config) (sym past_then);
        wakes = shows_then
            ∙ ((λ i. wakes_after x.config (known.after i) (known.wakes i) p.entry.caller p.entry.object p.entry.op)
            ∙ (shows x.config (merged x.logs.items) (past_of x) later p.entry legal cut
            ∙ ap (last_wakes x.config) (sym past_then)));
      }

      pub given : IsGiven (history_of x) p.entry (history_of then)
      unfolding later rest
      given = record {
        config = refl;
        past = past_then;
        coming =
            gives_one (place_of (system_of x.state)) (lefts x.merged.items x.logs.items) p.entry rest is.picks
            ∙ ap (λ l. p.entry ∷ l) (sym coming_later);
      }
