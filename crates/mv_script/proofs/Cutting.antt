-- What was heard of calls that were set one after the other is cut where the first is done.
use Rattle.std.proofs.Common.{◌≡◌, List, [], ◌∷◌, ◌++◌, refl, ap, subst}
use Rattle.std.proofs.lemmas.Option.{some_pair_parts}
use Rattle.mv_calls.specs.Keeping.{Kept, kept_after, kept_from}
use Rattle.mv_calls.specs.Program.{Program, Do, Done, Early, Wrong, Call, Heard, IsDoneOn, going_on, followed, entries}
use Rattle.mv_eventlaws.proofs.Programs.{early_never, wrong_never}

-- a program that is done, and behind it the call that follows by its answer, begun with what is kept by then
pub record IsCut {A B : Type 0} (kept : Kept) (p : Program A) (f : A → Call B) (hs : List Heard) (answer : B) : Type 0 where
  pub piece : List Heard
  pub later : List Heard
  pub first : A
  pub split : hs ≡ piece ++ later
  pub done : IsDoneOn p piece first
  pub goes_on : IsDoneOn (f first (kept_from kept (entries piece))) later answer

pub cut : {A B : Type 0} (kept : Kept) (p : Program A) (f : A → Call B) (hs : List Heard) (answer : B)
    → IsDoneOn (going_on kept p f) hs answer → IsCut kept p f hs answer
cut kept (Done a) f hs answer w = record {
  piece = [];
  later = hs;
  first = a;
  split = refl;
  done = record { says = tt; done = refl };
  goes_on = w;
}
cut kept Early f hs answer w = absurd (early_never hs answer w)
cut kept Wrong f hs answer w = absurd (wrong_never hs answer w)
cut kept (Do o op follow) f [] answer w = absurd (cc w.done)
cut kept (Do o op follow) f (h ∷ hs) answer w =
    let r : IsCut (kept_after kept o op h.entry.reply) (follow h) f hs answer =
    cut (kept_after kept o op h.entry.reply) (follow h) f hs answer (record { says = w.says.1; done = w.done }) in
    let q : (o ≡ h.entry.object) × (op ≡ h.entry.op) = some_pair_parts o h.entry.object op h.entry.op w.says.0 in
    record {
      piece = h ∷ r.piece;
      later = r.later;
      first = r.first;
      split = ap (λ l. h ∷ l) r.split;
      done = record { says = (w.says.0, r.done.says); done = r.done.done };
      goes_on = subst (λ z. IsDoneOn (f r.first (kept_from (kept_after kept z h.entry.op h.entry.reply) (entries r.piece))) r.later
          answer) q.0
          (subst (λ z. IsDoneOn (f r.first (kept_from (kept_after kept o z h.entry.reply) (entries r.piece))) r.later answer) q.1
          r.goes_on);
    }

-- a call and the call that follows it
pub cut_followed : {A B : Type 0} (call : Call A) (f : A → Call B) (kept : Kept) (hs : List Heard) (answer : B)
    → IsDoneOn (followed call f kept) hs answer → IsCut kept (call kept) f hs answer
cut_followed call f kept hs answer w = cut kept (call kept) f hs answer w
