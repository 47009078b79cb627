-- An exit starts from a block that its owner holds extended.
use Rattle.std.proofs.Common.{◌≡◌, ℕ, ◌-◌, ◌==◌, ◌&&◌, nat_lt, Bool, true, false, List, cond, Option, Some, None, slice_get, refl, sym}
use Rattle.std.proofs.Common.{subst}
use Rattle.std.proofs.lemmas.Bool.{false≢true, and_parts, or_left, eqb-true}
use Rattle.std.proofs.lemmas.Map.Keys.{any_passes_from_place}
use Rattle.std.specs.List.{list_any}
use Rattle.mv_ecb.specs.Table.{code_limit}
use Rattle.mv_ecb.specs.declared.operation.EcbOp.TheVariants as ecb_op
use Rattle.mv_ecb.specs.declared.operation.EcbReply.TheVariants as ecb_reply
use Rattle.mv_latch.specs.declared.operation.Wake.{Wake}
use Rattle.mv_machine.specs.declared.entry.Entry.{Entry}
use Rattle.mv_machine.specs.declared.entry.Object.{Object}
use Rattle.mv_machine.specs.declared.entry.Object.TheVariants.{Ecb}
use Rattle.mv_machine.specs.declared.entry.Op.{Op}
use Rattle.mv_machine.specs.declared.entry.Op.TheVariants as op_on
use Rattle.mv_machine.specs.declared.entry.Reply.{Reply}
use Rattle.mv_machine.specs.declared.entry.Reply.TheVariants as reply_of
use Rattle.mv_machine.specs.Parts.{IsPossible}
use Rattle.mv_config.specs.Setup.{Setup, SetupExit, owner_of, is_exit_of, starts_from, is_on, is_on_exit}
use Rattle.mv_machine.specs.System.{System, admitted}
use Rattle.mv_calls.specs.Exits.{StartsExit}
use Rattle.mv_calls.specs.Keeping.{kept_of, extended_with}
use Rattle.mv_calls.proofs.Folds.{known}

-- the source of an exit is on it
pub source_is_on : (c : Setup) (n : ℕ) → StartsExit c n → is_on_exit c n ≡ true
source_is_on c n starts = found (slice_get c.exits (starts.0 - 1)) refl
    (and_parts (nat_lt 0 starts.0) (starts_from n (slice_get c.exits (starts.0 - 1))) starts.1).1 where
      found : (y : Option SetupExit) → slice_get c.exits (starts.0 - 1) ≡ y → starts_from n y ≡ true → is_on_exit c n ≡ true
      found None at is = absurd (false≢true is)
      found (Some y) at is = any_passes_from_place (λ z. is_on z n) c.exits (starts.0 - 1) y at
          (or_left (y.source == n) (list_any (λ target. target == n) y.targets) is)

-- an exit starts from each block that is held
abbrev AllStart : Setup → (ℕ → Bool) → Type 0
AllStart c held = (n : ℕ) → held n ≡ true → StartsExit c n

-- an extend is admitted by an exit of its block
own_exit : (c : Setup) (s : System) (k n x : ℕ) → admitted c s k (Ecb n) (op_on.Ecb (ecb_op.Extend x)) ≡ true → is_exit_of c x n ≡ true
own_exit c s k n x a =
    let may = (and_parts _ ((owner_of c n == k) && (nat_lt x code_limit && is_exit_of c x n)) a).1 in
    (and_parts (nat_lt x code_limit) (is_exit_of c x n)
    (and_parts (owner_of c n == k) (nat_lt x code_limit && is_exit_of c x n) may).1).1

one_held : (c : Setup) (held : ℕ → Bool) (n : ℕ) → AllStart c held → StartsExit c n → AllStart c (λ m. cond (m == n) true (held m))
one_held c held n all here m is = go (m == n) refl is where
  go : (b : Bool) → (m == n) ≡ b → cond b true (held m) ≡ true → StartsExit c m
  go true same q = subst (StartsExit c) (sym (eqb-true m n same)) here
  go false same q = all m q

one_free : (c : Setup) (held : ℕ → Bool) (n : ℕ) → AllStart c held → AllStart c (λ m. cond (m == n) false (held m))
one_free c held n all m is = go (m == n) is where
  go : (b : Bool) → cond b false (held m) ≡ true → StartsExit c m
  go true q = absurd (false≢true q)
  go false q = all m q

-- so after one of the caller's events
held_on : (c : Setup) (s : System) (k : ℕ) (held : ℕ → Bool) (o : Object) (op : Op) (r : Reply) → admitted c s k o op ≡ true
    → AllStart c held → AllStart c (extended_with held o op r)
held_on c s k held (Ecb n) (op_on.Ecb (ecb_op.Extend x)) (reply_of.Ecb ecb_reply.Armed) a all =
    one_held c held n all (x, own_exit c s k n x a)
held_on c s k held (Ecb n) (op_on.Ecb ecb_op.Clear) r a all = one_free c held n all
held_on c s k held o op r a all = all

-- by a possible log
pub extended_starts_exit : (c : Setup) (k : ℕ) (log : List Entry) (shown : List (List Wake)) → IsPossible c k log shown
    → (n : ℕ) → (kept_of k log).extended n ≡ true → StartsExit c n
extended_starts_exit c k log shown p =
    subst (λ es. AllStart c (kept_of k es).extended) p.logged
    (known c k (λ s w kept. AllStart c kept.extended)
    (λ s e w kept own h all. held_on c s e.caller kept.extended e.object e.op e.reply h.admits all) (λ s e w kept other h all. all)
    p.history p.legal (λ n is. absurd (false≢true is)))
