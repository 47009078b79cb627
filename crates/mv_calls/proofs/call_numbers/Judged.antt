-- One entry more behind a list that has been judged.
use Rattle.std.proofs.Common.{◌≡◌, ℕ, ◌+◌, ◌<◌, List, [], ◌∷◌, ◌++◌, length, take, get_or, subst, sym, ap, ◌∙◌}
use Rattle.mv_latch.specs.declared.operation.Wake.{Wake}
use Rattle.mv_machine.specs.declared.entry.Entry.{Entry}
use Rattle.mv_machine.specs.Legal.{IsNext, Legal, after}
use Rattle.mv_config.specs.Setup.{Setup}
use Rattle.mv_machine.specs.State.{system_of, wakes_of, IsOpenedWith}
use Rattle.mv_machine.specs.System.{System, opening, after_step, wakes_after}
use Rattle.mv_machine.proofs.Longer.{last_is_next}
use Rattle.mv_machine.proofs.Replays.{legal_push}
use Rattle.mv_calls.specs.declared.judge.Judge.{Judge}
use Rattle.mv_calls.specs.Counters.{IsCountable, IsCountedNext}
use Rattle.mv_calls.specs.Judge.{HasJudged, IsJudgedNext}
use Rattle.mv_calls.specs.Numbers.{calls}
use Rattle.mv_calls.proofs.call_numbers.Prefixes.{legal_take, one_more}
use Rattle.mv_calls.proofs.call_numbers.Counted.{stepped_after, stepped_wakes}

module _ (c : Setup) (es : List Entry) (j : Judge) (e : Entry) (h : HasJudged c es j) where
  next_there : IsNext c (system_of j.state) e → IsNext c (after c es) e
  next_there n = subst (λ (s : System). IsNext c s e) h.state n

  -- an entry that is the machine's next is counted
  pub judged_countable : (ws : List Wake) → IsNext c (system_of j.state) e
      → ws ≡ wakes_after c (system_of j.state) (wakes_of j.state) e.caller e.object e.op
      → IsCountable c es e ws j.counters
  judged_countable ws n is = record {
    counted = h.counters;
    legal = legal_push c (opening c) es e h.legal (next_there n);
    wakes = stepped_wakes c es e (system_of j.state) (wakes_of j.state) ws (next_there n) h.state h.wakes is;
  }

  -- and then is judged
  pub judged_more : (new : Judge) (number : ℕ) → IsNext c (system_of j.state) e
      → system_of new.state ≡ after_step c (system_of j.state) e.caller e.object e.op
      → wakes_of new.state ≡ wakes_after c (system_of j.state) (wakes_of j.state) e.caller e.object e.op → IsOpenedWith c new.state
      → IsCountedNext c es e number new.counters → IsJudgedNext c es e number new
  judged_more new number n state wakes opened counted = record {
    judged = record {
      legal = legal_push c (opening c) es e h.legal (next_there n);
      state = stepped_after c es e (system_of j.state) (system_of new.state) (next_there n) h.state state;
      wakes = stepped_wakes c es e (system_of j.state) (wakes_of j.state) (wakes_of new.state) (next_there n) h.state h.wakes wakes;
      opened = opened;
      counters = counted.counted;
    };
    number = counted.number;
  }

  -- and one that is not is not legal there
  pub unfit_more : (IsNext c (system_of j.state) e → ⊥) → Legal c (es ++ e ∷ []) → ⊥
  unfit_more other l = other (subst (λ (s : System). IsNext c s e) (sym h.state) (last_is_next c es e l))

-- ---- in the middle of a list, whose entries up to here are judged

-- one more of them
pub judged_there : (c : Setup) (es : List Entry) (i : ℕ) (e : Entry) (j : Judge) → i < length es → e ≡ get_or es i e
    → HasJudged c (take i es ++ e ∷ []) j → HasJudged c (take (i + 1) es) j
judged_there c es i e j lt at h = subst (λ (xs : List Entry). HasJudged c xs j) (sym (one_more es i e lt at)) h

-- and its number behind the others
pub numbers_there : (c : Setup) (es : List Entry) (ns : List ℕ) (i n : ℕ) (e : Entry) → i < length es → e ≡ get_or es i e
    → calls c (take i es) ≡ ns → calls c (take i es ++ e ∷ []) ≡ calls c (take i es) ++ n ∷ [] → calls c (take (i + 1) es) ≡ ns ++ n ∷ []
numbers_there c es ns i n e lt at so next =
    ap (λ (xs : List Entry). calls c xs) (one_more es i e lt at) ∙ next ∙ ap (λ (xs : List ℕ). xs ++ n ∷ []) so

-- where the whole is legal, so it is up to there
pub legal_there : (c : Setup) (es : List Entry) (i : ℕ) (e : Entry) → i < length es → e ≡ get_or es i e → Legal c es
    → Legal c (take i es ++ e ∷ [])
legal_there c es i e lt at l = subst (λ (xs : List Entry). Legal c xs) (one_more es i e lt at) (legal_take c (i + 1) es l)
