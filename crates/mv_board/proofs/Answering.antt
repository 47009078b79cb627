-- What a listed watch promises of the event that the caller waits for.
use Rattle.std.proofs.Common.{◌≡◌, ℕ, true, Some, refl, sym, ap, ◌∙◌, arith}
use Rattle.mv_ecb.specs.declared.operation.EcbOp.TheVariants.{Settle}
use Rattle.mv_ecb.specs.Table.{ecb_step}
use Rattle.mv_ecb.specs.Word.{EcbState, is_complete}
use Rattle.mv_element.specs.declared.element.ElementState.{ElementState}
use Rattle.mv_element.specs.declared.operation.ElementOp.TheVariants.{Resume}
use Rattle.mv_element.specs.Table.{element_step}
use Rattle.mv_machine.specs.declared.entry.Object.{Object}
use Rattle.mv_machine.specs.declared.entry.Object.TheVariants.{Ecb, Element, Latches}
use Rattle.mv_machine.specs.declared.entry.Op.{Op}
use Rattle.mv_machine.specs.declared.entry.Op.TheVariants as op_on
use Rattle.mv_machine.specs.declared.entry.Reply.{Reply}
use Rattle.mv_machine.specs.declared.entry.Reply.TheVariants as reply_of
use Rattle.mv_machine.specs.declared.packing.WordState.{WordState}
use Rattle.mv_machine.specs.declared.packing.WordState.TheVariants as state
use Rattle.mv_machine.specs.Packing.{reply_in}
use Rattle.mv_config.specs.Setup.{Setup}
use Rattle.mv_board.specs.declared.view.View.{View}
use Rattle.mv_board.specs.declared.watch.Watch.TheVariants as watch
use Rattle.mv_board.specs.Faces.{CallerFace, IsAsListed, is_given, is_complete_reply}
use Rattle.mv_element.specs.Element.{is_released}
use Rattle.mv_board.specs.Steps.{MadeAfterLooks, is_ready}
use Rattle.mv_board.specs.View.{own}
use Rattle.mv_board.specs.Words.{HasWord}
use Rattle.mv_board.proofs.Changing.{read_parts}
use Rattle.mv_board.proofs.TurnKeeps.{one_state}

-- ---- the tables

settles : (s : EcbState) → is_complete s ≡ true → is_complete_reply (reply_of.Ecb (ecb_step Settle s).1) ≡ true
settles s is = grind arith

resumes : (g : ℕ) (s : ElementState) → is_released s.phase ≡ true → s.generation ≡ g
    → is_given (reply_of.Element (element_step (Resume g) s).1) ≡ true
resumes g s is now = grind arith

ecb_answer : (s : WordState) (r : Reply) → reply_in (op_on.Ecb Settle) s ≡ Some r → is_ready s ≡ true → is_complete_reply r ≡ true
ecb_answer (state.Ecb s) r is ready = let same : reply_of.Ecb (ecb_step Settle s).1 ≡ r = cc is in ap is_complete_reply (sym same)
    ∙ settles s ready
ecb_answer s r is ready = absurd (cc is)

element_answer : (g : ℕ) (s : WordState) (r : Reply) → reply_in (op_on.Element (Resume g)) s ≡ Some r → is_ready s ≡ true
    → ((z : ElementState) → s ≡ state.Element z → z.generation ≡ g) → is_given r ≡ true
element_answer g (state.Element s) r is ready now =
    let same : reply_of.Element (element_step (Resume g) s).1 ≡ r = cc is in ap is_given (sym same) ∙ resumes g s ready (now s refl)
element_answer g s r is ready now = absurd (cc is)

-- ---- the event

-- the state that was met last gave the reply
replied : (v : View) (o : Object) (op : Op) (place : ℕ) (reply : Reply) (new : View) (m : MadeAfterLooks v o op place reply new)
    → reply_in op m.meets.state ≡ Some reply
replied v o op place reply new m =
    let there = read_parts o op m.word place m.changes.0 reply m.changes.1 in
    ap (reply_in op) (one_state o m.word m.meets.place place m.meets.state there.0 m.meets.unpacks there.1) ∙ there.2

pub as_listed : (k : Setup) (f : CallerFace) (v : View) (o : Object) (op : Op) (place : ℕ) (reply : Reply) (new : View) → HasWord k o
    → MadeAfterLooks v o op place reply new
    → f.ready ≡ v.ready → f.log ≡ (own v).log → IsAsListed f o op reply
as_listed k f v (Ecb n) (op_on.Ecb Settle) place r new has m ready log =
    rw ready (λ there. ecb_answer m.meets.state r (replied v _ _ place _ new m) (m.meets.ready (watch.Ecb n) refl there))
as_listed k f v (Element n) (op_on.Element (Resume g)) place r new has m ready log =
    rw (ready, log) (λ there parks. element_answer g m.meets.state r (replied v _ _ place _ new m)
    (m.meets.ready (watch.Element n) refl there)
    (λ z is. m.meets.pause n g z refl is there parks))
as_listed k f v Latches op place reply new has m ready log = absurd has
as_listed k f v o op place reply new has m ready log = tt
