-- If each caller has released its latches in the end, one that has made its last entry is waited for by no other.
use Rattle.std.proofs.Common.{◌≡◌, ℕ, List, [], ◌∷◌, ◌++◌, length, map, refl, sym, ap, ◌∙◌}
use Rattle.std.proofs.lemmas.Bool.{eqb-true}
use Rattle.std.proofs.lemmas.List.{append-nil}
use Rattle.mv_machine.specs.declared.entry.Entry.{Entry}
use Rattle.mv_machine.specs.Kept.{StandingRequest, standing}
use Rattle.mv_machine.specs.Legal.{of}
use Rattle.mv_config.specs.Setup.{Setup}
use Rattle.mv_machine.proofs.Objects.{of-append}
use Rattle.mv_ordered.specs.Held.{named, held}
use Rattle.mv_ordered.specs.WaitChain.{KeepsLockDiscipline}
use Rattle.mv_ordered.proofs.Chains.{someone_continues}
use Rattle.mv_guarded.specs.Guarded.{AllReleased, UnfinishedContinue, has_finished}

none_named : (ts : List StandingRequest) → map named ts ≡ [] → ts ≡ []
none_named [] is = refl
none_named (t ∷ ts) is = absurd (cc is)

none_of_length : (es : List Entry) → length es ≡ 0 → es ≡ []
none_of_length [] is = refl
none_of_length (e ∷ es) is = absurd (cc is)

-- who has made its last entry has what it has in the end
none_stand : (es before later : List Entry) (k : ℕ) → es ≡ before ++ later → held (of k es) ≡ [] → of k later ≡ []
    → standing (of k before) ≡ []
none_stand es before later k is released none =
    none_named (standing (of k before))
    (ap held (sym (ap (of k) is ∙ of-append k before later ∙ ap (λ xs. of k before ++ xs) none ∙ append-nil (of k before))) ∙ released)

pub unfinished_continue : (c : Setup) (es : List Entry) → KeepsLockDiscipline c es → AllReleased c es → UnfinishedContinue c es
unfinished_continue c es keeps released before later k latch is waits =
    someone_continues c es before later (has_finished later) k latch is keeps
    (λ j lt finished. none_stand es before later j is (released j lt)
    (none_of_length (of j later) (eqb-true (length (of j later)) 0 finished))) waits
