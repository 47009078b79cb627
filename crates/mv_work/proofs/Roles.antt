-- Works in the order of their tasks' numbers, and what the initiators among them bring back. Used by Histories.
use Rattle.std.proofs.Common.{◌≡◌, ℕ, suc, ◌+◌, ◌<◌, ◌≤◌, List, [], ◌∷◌, ◌++◌, length, get_or, map, drop, refl, ap, ◌∙◌, subst, arith}
use Rattle.mv_plan.specs.SpoolSetup.{reader, scheduler, initiator, writer}
use Rattle.mv_work.specs.declared.work.Role.{Role}
use Rattle.mv_work.specs.declared.work.Role.TheVariants.{Reader, Scheduler, Initiator, Writer}
use Rattle.mv_work.specs.declared.work.SpoolWork.{SpoolWork}
use Rattle.mv_work.specs.Records.{JobRecord}
use Rattle.mv_work.specs.Works.{IsWriter, records, records_in}

-- the role of task k, where there are i initiators
abbrev pub IsRole : ℕ → ℕ → Role → Type 0
IsRole i k Reader = k ≡ reader
IsRole i k (Scheduler stage) = k ≡ scheduler
IsRole i k (Initiator me stage) = (k ≡ initiator me.index) × (me.index < i)
IsRole i k (Writer ends job) = k ≡ writer i

-- what an initiator noted
abbrev pub noted_in : Role → List JobRecord
noted_in Reader = []
noted_in (Scheduler stage) = []
noted_in (Initiator me stage) = me.noted.jobs
noted_in (Writer ends job) = []

-- the last task writes
pub last_writes : (i : ℕ) (r : Role) → IsRole i (writer i) r → IsWriter r
last_writes i Reader is = absurd (omega arith)
last_writes i (Scheduler stage) is = absurd (omega arith)
last_writes i (Initiator me stage) is = absurd (let own = is.0 in let lt = is.1 in omega arith)
last_writes i (Writer ends job) is = tt

-- the works of the tasks from number k on
abbrev AreRoles : ℕ → ℕ → List SpoolWork → Type 0
AreRoles i k [] = Unit {0}
AreRoles i k (w ∷ ws) = IsRole i k w.role × AreRoles i (suc k) ws

are_roles : (i j : ℕ) (ws : List SpoolWork) → ((k : ℕ) (d : SpoolWork) → k < length ws → IsRole i (j + k) (get_or ws k d).role)
    → AreRoles i j ws
are_roles i j [] each = tt
are_roles i j (w ∷ ws) each = (
  subst (λ k. IsRole i k w.role) (let e : j + 0 ≡ j = omega arith in e) (each 0 w (omega arith)),
  are_roles i (suc j) ws (λ k d lt.
      subst (λ n. IsRole i n (get_or ws k d).role) (let e : j + suc k ≡ suc j + k = omega arith in e) (each (suc k) d (omega arith))),
)

-- an initiator brings back one list
records_one : (i k : ℕ) (r : Role) → IsRole i k r → 2 ≤ k → k < i + 2 → records_in r ≡ noted_in r ∷ []
records_one i k Reader is low high = absurd (omega arith)
records_one i k (Scheduler stage) is low high = absurd (omega arith)
records_one i k (Initiator me stage) is low high = refl
records_one i k (Writer ends job) is low high = absurd (omega arith)

-- the reader and the scheduler none
records_none : (i k : ℕ) (r : Role) → IsRole i k r → k < 2 → records_in r ≡ []
records_none i k Reader is low = refl
records_none i k (Scheduler stage) is low = refl
records_none i k (Initiator me stage) is low = absurd (let own = is.0 in omega arith)
records_none i k (Writer ends job) is low = refl

records_each : (i k : ℕ) (ws : List SpoolWork) → AreRoles i k ws → 2 ≤ k → k + length ws ≤ i + 2
    → records ws ≡ map (λ (w : SpoolWork). noted_in w.role) ws
records_each i k [] are low high = refl
records_each i k (w ∷ ws) are low high =
    ap (λ rs. rs ++ records ws) (records_one i k w.role are.0 low (omega arith))
    ∙ ap (λ rs. noted_in w.role ∷ rs) (records_each i (suc k) ws are.1 (omega arith) (omega arith))

records_all : (i : ℕ) (ws : List SpoolWork) → AreRoles i 0 ws → length ws ≡ i + 2
    → records ws ≡ drop 2 (map (λ (w : SpoolWork). noted_in w.role) ws)
records_all i [] are size = absurd (omega arith)
records_all i (a ∷ []) are size = absurd (omega arith)
records_all i (a ∷ b ∷ ws) are size =
    ap (λ rs. rs ++ (records_in b.role ++ records ws)) (records_none i 0 a.role are.0 (omega arith))
    ∙ ap (λ rs. rs ++ records ws) (records_none i 1 b.role are.1.0 (omega arith))
    ∙ records_each i 2 ws are.1.1 (omega arith) (omega arith)

-- the works of all tasks before the writer's bring back what the initiators noted, in order
pub records_front : (i : ℕ) (ws : List SpoolWork) → length ws ≡ i + 2
    → ((k : ℕ) (d : SpoolWork) → k < length ws → IsRole i k (get_or ws k d).role)
    → records ws ≡ drop 2 (map (λ (w : SpoolWork). noted_in w.role) ws)
records_front i ws size each =
    records_all i ws
    (are_roles i 0 ws (λ k d lt. subst (λ n. IsRole i n (get_or ws k d).role) (let e : k ≡ 0 + k = omega arith in e) (each k d lt)))
    size
