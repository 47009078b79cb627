-- One log after another.
use Rattle.std.proofs.Common.{◌≡◌, ◌<◌, ◌≢◌, ℕ, List, [], Option, length, get_or, slice_get, option_map, Some, sym, ap, ◌∙◌, arith}
use Rattle.std.proofs.lemmas.List.{get_or_read}
use Rattle.mv_machine.specs.declared.entry.Entry.{Entry}
use Rattle.mv_machine.specs.declared.entry.Object.{Object}
use Rattle.mv_machine.specs.Log.{subject_of}
use Rattle.mv_machine.specs.State.{system_of}
use Rattle.mv_machine.specs.System.{place_of}
use Rattle.mv_machine.proofs.Lefts.{past_end, past_other, picks_here, at_end}
use Rattle.mv_machine.proofs.Compacts.{Had, had, had_none, one_entry}
use Rattle.mv_machine.proofs.merging.ready.Goals as goal
use Rattle.mv_machine.proofs.merging.ready.Goals.{in-Some+else-place, in_default}

pub loop-caller-preserved : goal.loop-caller-preserved
loop-caller-preserved c =
    let logs = c.args.logs.now in
    let merged = c.args.merged.now in
    let k = c.loop-caller.caller in
    let p = place_of (system_of c.args.state.now) in
    let inside : k < length logs = omega arith in
    let read : List Entry → Option (Object × ℕ) = (λ es. option_map subject_of (slice_get es (get_or merged k 0))) in
    let log : c.index-logs-caller.result ≡ get_or logs k [] =
    get_or_read logs k c.index-logs-caller.result inside c.index-logs-caller.is [] in
    let told : (o : Object) (n : ℕ) → read c.index-logs-caller.result ≡ Some (o, n) → Had (get_or logs k []) (get_or merged k 0) o n =
    (λ o n is. had (get_or logs k []) (get_or merged k 0) o n (ap read (sym log) ∙ is)) in
    elim c.match-subject.branch [
      | in-Some+else-place w ↦
          (let h = told w.in-Some.object w.in-Some.place (sym c.subject.ensures.subject ∙ w.in-Some.is) in
          let other : h.entry.place ≢ p h.entry.object =
          (λ same. w.if-place.false (w.place.ensures ∙ (ap p (sym h.object) ∙ (sym same ∙ h.place)))) in
          past_other p merged logs k h.entry c.requires.merged inside h.is other c.loop-caller.invariant)
      | in_default w ↦
          (let none = had_none (get_or logs k []) (get_or merged k 0)
          (ap read (sym log) ∙ (sym c.subject.ensures.subject ∙ w.in_default.is)) in
          past_end p merged logs k c.requires.merged inside none c.loop-caller.invariant)
    ]

pub returns-then-place : goal.returns-then-place
returns-then-place c =
    let logs = c.args.logs.now in
    let merged = c.args.merged.now in
    let k = c.loop-caller.caller in
    let e = c.in-Some-get.entry in
    let inside : k < length logs = omega arith in
    let log : c.index-logs-caller.result ≡ get_or logs k [] =
    get_or_read logs k c.index-logs-caller.result inside c.index-logs-caller.is [] in
    let here : slice_get (get_or logs k []) (get_or merged k 0) ≡ Some e =
    ap (λ es. slice_get es (get_or merged k 0)) (sym log) ∙ (sym c.get.ensures ∙ c.in-Some-get.is) in
    let h = had (get_or logs k []) (get_or merged k 0) c.in-Some.object c.in-Some.place
    (ap (λ es. option_map subject_of (slice_get es (get_or merged k 0))) (sym log)
    ∙ (sym c.subject.ensures.subject ∙ c.in-Some.is)) in
    let same = one_entry (get_or logs k []) (get_or merged k 0) h.entry e h.is here in
    let place : e.place ≡ place_of (system_of c.args.state.now) e.object =
    rw (sym same) (h.place ∙ (sym c.if-place.true ∙ (c.place.ensures ∙ ap (place_of (system_of c.args.state.now)) (sym h.object)))) in
    record {
      caller = omega arith;
      picks = picks_here (place_of (system_of c.args.state.now)) merged logs k e c.requires.merged inside
          here place c.loop-caller.invariant;
    }

pub returns : goal.returns
returns c =
    at_end (place_of (system_of c.args.state.now)) c.args.merged.now c.args.logs.now c.loop-caller.caller c.requires.merged (omega arith)
    c.loop-caller.invariant
