-- A load is short, and has no fault.
use Rattle.std.proofs.Common.{◌≡◌, ℕ, List, Some, None, length, ap, sym, subst, ◌∙◌, arith}
use Rattle.mv_line.specs.declared.fault.TextFault.{TextFault}
use Rattle.mv_line.specs.declared.fault.TextRefusal.{TextRefusal}
use Rattle.mv_line.specs.declared.fault.TextRefusal.TheVariants.{Fault}
use Rattle.mv_deck.specs.Fault.{first_fault, TellsFirst}
use Rattle.mv_deck.specs.Load.{load_text}
use Rattle.mv_deck.proofs.LoadBytes.{load_bytes}
use Rattle.mv_deck.proofs.Loads.{no_fault}
use Rattle.mv_program.proofs.texts.deck_of_load.Goals as goal

-- of a text without fault none is told
none_is_told : (text : List ℕ) (n : ℕ) (f : TextFault) → first_fault text n ≡ None → TellsFirst (Fault f) (first_fault text n) → ⊥
none_is_told text n f none told =
    let both : None ≡ Some f = sym none ∙ told in
    absurd cc

pub read_deck-requires-clause-short : goal.read_deck-requires-clause-short
read_deck-requires-clause-short c =
    omega (arith, ap length (c.deref.ensures.value ∙ c.in_ok-text.ensures.text), load_bytes c.args.jobs c.requires.jobs.1)

pub unreachable-requires : goal.unreachable-requires
unreachable-requires c =
    let n = c.args.initiators in
    let same : c.deref.result.now ≡ load_text c.args.jobs = c.deref.ensures.value ∙ c.in_ok-text.ensures.text in
    none_is_told (load_text c.args.jobs) n c.in-Ok-fault.field-0
    (no_fault c.args.jobs n c.requires.jobs.0 c.requires.jobs.1 c.requires.initiators.1)
    (subst (λ (r : TextRefusal). TellsFirst r (first_fault (load_text c.args.jobs) n)) c.in-Ok-fault.ensures
    (subst (λ (bytes : List ℕ). TellsFirst c.in-Err.refusal (first_fault bytes n)) same c.in-Err.ensures.fault))
