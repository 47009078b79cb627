-- Entry after entry is told.
use Rattle.std.proofs.Common.{◌≡◌, ◌<◌, ℕ, List, length, slice_get, Some, None, inl, inr, sym, ◌∙◌, subst, arith}
use Rattle.std.proofs.lemmas.List.{take_all}
use Rattle.std.proofs.lemmas.List.Elements.{All-more}
use Rattle.std.proofs.lemmas.Option.{get_or_from_slice_get, slice_get_cases}
use Rattle.std.specs.Prelude.{All}
use Rattle.mv_machine.specs.declared.entry.Entry.{Entry}
use Rattle.mv_operationtext.specs.EntryText.{IsTyped}
use Rattle.mv_entrytext.proofs.typed.tell_log.Goals as goal
use Rattle.mv_entrytext.proofs.typed.tell_log.Goals.{in-Some, in_default}

-- an entry stands at each position below the length
nothing_there : {A : Type 0} (es : List Entry) (i : ℕ) → i < length es → slice_get es i ≡ None → A
nothing_there es i there none =
    elim (slice_get_cases es i).1 [
      | inl h ↦ absurd (some_none (sym h.2 ∙ none))
      | inr h ↦ absurd (omega (arith, h.0, there))
    ]
  where
    some_none : {e : Entry} → Some e ≡ None → ⊥
    some_none q = cc

pub loop-at-preserved : goal.loop-at-preserved
loop-at-preserved c =
    let es = c.args.log.now in
    let i = c.loop-at.at in
    let there : i < length es = omega (arith, c.loop-at-test.true, c.len-at-end.ensures) in
    elim c.match-get.branch [
      | in-Some w ↦
          (let e = w.in-Some.entry in
          All-more IsTyped es i e there c.loop-at.invariant
          (subst IsTyped (sym (get_or_from_slice_get es i e e (sym c.get.ensures ∙ w.in-Some.is))) w.tell_entry.ensures))
      | in_default w ↦ nothing_there es i there (sym c.get.ensures ∙ w.in_default.is)
    ]

pub returns : goal.returns
returns c =
    subst (λ (xs : List Entry). All IsTyped xs)
    (take_all c.loop-at.at c.args.log.now (omega (arith, c.loop-at-test.false, c.len-at-end.ensures))) c.loop-at.invariant
