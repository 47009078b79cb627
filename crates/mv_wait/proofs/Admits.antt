-- Operations that a caller may make.
use Rattle.std.proofs.Common.{◌≡◌, ℕ, ◌<◌, ◌^◌, true, List, length, refl}
use Rattle.std.proofs.lemmas.Bool.{eq-eqb, lt-ltb}
use Rattle.mv_ecb.specs.declared.operation.EcbOp.TheVariants.{Arm, Settle, Clear, Post}
use Rattle.mv_machine.specs.declared.entry.Entry.{Entry}
use Rattle.mv_machine.specs.declared.entry.Object.TheVariants.{Ecb, Volume}
use Rattle.mv_machine.specs.declared.entry.Op.TheVariants as op_on
use Rattle.mv_machine.specs.declared.entry.VolumeOp.TheVariants.{Write}
use Rattle.mv_machine.specs.Kept.{allowed}
use Rattle.mv_config.specs.Setup.{Setup, owner_of}

pub may_arm : (c : Setup) (k e : ℕ) (log : List Entry) → k < c.callers → e < length c.owners → owner_of c e ≡ k
    → allowed c k log (Ecb e) (op_on.Ecb Arm) ≡ true
may_arm c k e log lt there own = rw (lt-ltb k c.callers lt, lt-ltb e (length c.owners) there, eq-eqb (owner_of c e) k own) refl

pub may_settle : (c : Setup) (k e : ℕ) (log : List Entry) → k < c.callers → e < length c.owners → owner_of c e ≡ k
    → allowed c k log (Ecb e) (op_on.Ecb Settle) ≡ true
may_settle c k e log lt there own = rw (lt-ltb k c.callers lt, lt-ltb e (length c.owners) there, eq-eqb (owner_of c e) k own) refl

pub may_clear : (c : Setup) (k e : ℕ) (log : List Entry) → k < c.callers → e < length c.owners → owner_of c e ≡ k
    → allowed c k log (Ecb e) (op_on.Ecb Clear) ≡ true
may_clear c k e log lt there own = rw (lt-ltb k c.callers lt, lt-ltb e (length c.owners) there, eq-eqb (owner_of c e) k own) refl

pub may_post : (c : Setup) (k e d : ℕ) (log : List Entry) → k < c.callers → e < length c.owners → d < 2 ^ 30
    → allowed c k log (Ecb e) (op_on.Ecb (Post d)) ≡ true
may_post c k e d log lt there few = rw (lt-ltb k c.callers lt, lt-ltb e (length c.owners) there, lt-ltb d (2 ^ 30) few) refl

pub may_write : (c : Setup) (k v m : ℕ) (log : List Entry) → k < c.callers → v < c.volumes → m < 2 ^ 32
    → allowed c k log (Volume v) (op_on.Volume (Write m)) ≡ true
may_write c k v m log lt there few = rw (lt-ltb k c.callers lt, lt-ltb v c.volumes there, lt-ltb m (2 ^ 32) few) refl
