-- What a handle holds after a step, and after it was opened.
use Rattle.std.proofs.Common.{◌≡◌, ℕ, List, [], ◌∷◌, Option, Some, None, sym, ap, ◌∙◌, subst, refl}
use Rattle.mv_machine.specs.declared.entry.Object.{Object}
use Rattle.mv_machine.specs.declared.entry.Op.{Op}
use Rattle.mv_machine.specs.declared.entry.Reply.{Reply}
use Rattle.mv_config.specs.Setup.{Setup}
use Rattle.mv_machine.specs.System.{answer}
use Rattle.mv_oracle.specs.declared.answer.Answer.{Answer}
use Rattle.mv_oracle.specs.declared.oracle.Oracle.{Oracle}
use Rattle.mv_oracle.specs.Machine.{Holds, Machine, machine_of, after_operation}
use Rattle.mv_oracle.specs.Stepping.{IsMade, IsStepped}

module _ (N N' : Machine → Type 0) (kept : (m : Machine) → N m → N' m) where
  made_kept : (b t : Machine) (o : Option (ℕ × Reply)) (status : ℕ) (a : Answer) → IsMade b t o status a N → IsMade b t o status a N'
  made_kept b t (Some x) status a m = (m.0, m.1, kept t m.2)
  made_kept b t None status a m = (m.0, kept b m.1)

  stepped_kept : (c : Setup) (s : Machine) (k : ℕ) (r : Option (Object × Op)) (status : ℕ) (a : Answer)
      → IsStepped c s k r status a N → IsStepped c s k r status a N'
  stepped_kept c s k None status a m = (m.0, kept s m.1)
  stepped_kept c s k (Some x) status a m = (
    λ low. made_kept s (after_operation c s k x.0 x.1) (answer c s.system k x.0 x.1) status a (m.0 low),
    λ high. ((m.1 high).0, kept s (m.1 high).1),
  )

-- the only one of a list
first_of : Oracle → List Oracle → Oracle
first_of x [] = x
first_of x (y ∷ ys) = y

-- a handle holds one machine
pub held_one : (x y : Oracle) (held : List Oracle) → held ≡ x ∷ [] → held ≡ y ∷ [] → x ≡ y
unfolding first_of
held_one x y held had has = ap (first_of x) (sym had ∙ has)

pub oracle_of : (old : Oracle) (before : List Oracle) (c : Setup) (m : Machine) → Holds before c m → before ≡ old ∷ []
    → (old.config ≡ c) × (machine_of old ≡ m)
oracle_of old before c m h had =
    let is : old ≡ h.oracle = held_one old h.oracle before had h.one in
    (ap (λ (o : Oracle). o.config) is ∙ h.config, ap machine_of is ∙ h.machine)

pub step_holds : (old new : Oracle) (before after : List Oracle) (c : Setup) (m : Machine) (k : ℕ) (r : Option (Object × Op)) (status : ℕ)
    (a : Answer) → Holds before c m → before ≡ old ∷ [] → after ≡ new ∷ [] → new.config ≡ old.config
    → IsStepped old.config (machine_of old) k r status a (λ t. machine_of new ≡ t)
    → IsStepped c m k r status a (λ t. Holds after c t)
step_holds old new before after c m k r status a h had has same stepped =
    let is = oracle_of old before c m h had in
    let N : Machine → Type 0 = λ t. machine_of new ≡ t in
    let at_c : IsStepped c (machine_of old) k r status a N = subst (λ (x : Setup). IsStepped x
    (machine_of old) k r status a N) is.0 stepped in
    let at_m : IsStepped c m k r status a N = subst (λ (x : Machine). IsStepped c x k r status a N) is.1 at_c in
    stepped_kept N (λ t. Holds after c t)
    (λ t e. record { oracle = new; one = has; config = same ∙ is.0; machine = e }) c m k r status a at_m

-- a handle that holds a machine
pub holds : (o : Oracle) (held : List Oracle) → held ≡ o ∷ [] → Holds held o.config (machine_of o)
holds o held has = record { oracle = o; one = has; config = refl; machine = refl }

-- what is shown of the machine is shown of what the handle holds
pub shown_of : (P : Setup → Machine → Type 0) (old : Oracle) (before : List Oracle) (c : Setup) (m : Machine) → Holds before c m
    → before ≡ old ∷ [] → P old.config (machine_of old) → P c m
shown_of P old before c m h had shown =
    let is = oracle_of old before c m h had in
    let at_c : P c (machine_of old) = subst (λ (x : Setup). P x (machine_of old)) is.0 shown in
    subst (λ (x : Machine). P c x) is.1 at_c
