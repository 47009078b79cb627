-- What one more entry tells of a log, or of a history: which item it puts in or takes out, and what it counts.
use Rattle.mv_guarded.proofs.Gathered.{gathered_more, nothing_gathered, numbers}
use Rattle.mv_wait.specs.Prelude.latch_op.{Purge}
use Rattle.mv_wait.specs.Prelude.{Entry, Object, Ecb, Element, Latches, Volume, Op, Reply}
use Rattle.mv_wait.specs.Prelude.volume_op.{Read, Write}
use Rattle.mv_wait.specs.Prelude.volume_reply.{Value}
use Rattle.mv_queue.specs.Queue.{IsAllowed, IsEven, OwesPut, OwesTake, came_out, count_by, counted, put_by, taken_by, went_in}
use Rattle.mv_queue.specs.Setup.{put_count, room, taken_count}
use Rattle.std.proofs.Common.{List, None, Option, Some, [], ap, arith, if◌then◌else◌, inl, inr, length, refl, subst, sym, ℕ, ◌++◌, ◌+◌, ◌<◌}
use Rattle.std.proofs.Common.{◌∙◌, ◌∷◌, ◌≡◌, ◌≤◌, ◌⊎◌}
use Rattle.std.proofs.lemmas.Bool.{le-ltb, lt-ltb, ne_eqb}
use Rattle.std.proofs.lemmas.List.{append-nil, length-append}
use Rattle.std.specs.List.{AllByRecursion, filter_map}
use Rattle.mv_wait.specs.Prelude.op_on
use Rattle.mv_wait.specs.Prelude.reply_of

-- ---- what an operation with its reply tells

-- the item that it puts in, the one that it takes out, and what it writes into the counts of these
pub record Tells (put taken puts takes : Option ℕ) (o : Object) (op : Op) (r : Reply) : Type 0 where
  pub put_is : put_by o op ≡ put
  pub taken_is : taken_by o op r ≡ taken
  pub puts_is : count_by put_count o op ≡ puts
  pub takes_is : count_by taken_count o op ≡ takes

-- it moves no item and counts none
abbrev pub IsStill : Object → Op → Type 0
IsStill object (op_on.Latch (Purge requestor)) = ⊥
IsStill (Volume n) (op_on.Volume (Write x)) = ⊥
IsStill (Volume n) (op_on.Volume Read) = room ≤ n
IsStill object op = Unit {0}

pub tells_nothing : (o : Object) (op : Op) (r : Reply) → IsStill o op → Tells None None None None o op r
tells_nothing o (op_on.Latch (Purge requestor)) r still = absurd still
tells_nothing (Volume n) (op_on.Volume (Write x)) r still = absurd still
tells_nothing (Volume n) (op_on.Volume Read) (reply_of.Volume (Value x)) still =
    record { put_is = refl; taken_is = ap (λ b. if b then Some x else None) (le-ltb n room still); puts_is = refl; takes_is = refl }
tells_nothing (Volume n) op r still = record { put_is = refl; taken_is = refl; puts_is = refl; takes_is = refl }
tells_nothing (Ecb n) op r still = record { put_is = refl; taken_is = refl; puts_is = refl; takes_is = refl }
tells_nothing (Element n) op r still = record { put_is = refl; taken_is = refl; puts_is = refl; takes_is = refl }
tells_nothing Latches op r still = record { put_is = refl; taken_is = refl; puts_is = refl; takes_is = refl }

pub tells_put : (n x : ℕ) (r : Reply) → n < room → Tells (Some x) None None None (Volume n) (op_on.Volume (Write x)) r
tells_put n x r low = record {
  put_is = ap (λ b. if b then Some x else None) (lt-ltb n room low);
  taken_is = refl;
  puts_is = ap (λ b. if b then Some x else None) (ne_eqb n put_count (λ is. absurd (omega arith)));
  takes_is = ap (λ b. if b then Some x else None) (ne_eqb n taken_count (λ is. absurd (omega arith)));
}

pub tells_taken : (n x : ℕ) → n < room → Tells None (Some x) None None (Volume n) (op_on.Volume Read) (reply_of.Volume (Value x))
tells_taken n x low =
    record { put_is = refl; taken_is = ap (λ b. if b then Some x else None) (lt-ltb n room low); puts_is = refl; takes_is = refl }

pub tells_puts : (n x : ℕ) (r : Reply) → n ≡ put_count → Tells None None (Some x) None (Volume n) (op_on.Volume (Write x)) r
tells_puts n x r is = subst (λ m. Tells None None (Some x) None (Volume m) (op_on.Volume (Write x)) r) (sym is)
    (record { put_is = refl; taken_is = refl; puts_is = refl; takes_is = refl })

pub tells_takes : (n x : ℕ) (r : Reply) → n ≡ taken_count → Tells None None None (Some x) (Volume n) (op_on.Volume (Write x)) r
tells_takes n x r is = subst (λ m. Tells None None None (Some x) (Volume m) (op_on.Volume (Write x)) r) (sym is)
    (record { put_is = refl; taken_is = refl; puts_is = refl; takes_is = refl })

-- ---- entries that have it as the last one

-- how items and counts go on from some entries to more
pub record Tally (put taken puts takes : Option ℕ) (old new : List Entry) : Type 0 where
  pub into : went_in new ≡ went_in old ++ numbers put
  pub out : came_out new ≡ came_out old ++ numbers taken
  pub longer_in : length (went_in new) ≡ length (went_in old) + length (numbers put)
  pub longer_out : length (came_out new) ≡ length (came_out old) + length (numbers taken)
  pub put_counts : counted put_count new ≡ counted put_count old + length (numbers puts)
  pub take_counts : counted taken_count new ≡ counted taken_count old + length (numbers takes)

pub tally : (put taken puts takes : Option ℕ) (es : List Entry) (e : Entry) → Tells put taken puts takes e.object e.op e.reply
    → Tally put taken puts takes es (es ++ e ∷ [])
tally put taken puts takes es e t =
    let into = gathered_more (λ x. put_by x.object x.op) es e put t.put_is in
    let out = gathered_more (λ x. taken_by x.object x.op x.reply) es e taken t.taken_is in record {
      into = into;
      out = out;
      longer_in = ap length into ∙ length-append (went_in es) (numbers put);
      longer_out = ap length out ∙ length-append (came_out es) (numbers taken);
      put_counts = ap length (gathered_more (λ x. count_by put_count x.object x.op) es e puts t.puts_is)
          ∙ length-append (filter_map (λ x. count_by put_count x.object x.op) es) (numbers puts);
      take_counts = ap length (gathered_more (λ x. count_by taken_count x.object x.op) es e takes t.takes_is)
          ∙ length-append (filter_map (λ x. count_by taken_count x.object x.op) es) (numbers takes);
    }

-- what is counted after it, if it counts what was owed, or nothing was
pub even_still : (log new : List Entry) → Tally None None None None log new → IsEven log → IsEven new
even_still log new t even =
    let a = t.longer_in in
    let b = t.longer_out in
    let d = t.put_counts in let e = t.take_counts in let v = even.0 in let w = even.1 in (omega arith, omega arith)

pub even_counted : (log : List Entry) (n x : ℕ) (e : Entry) → e.object ≡ Volume n → e.op ≡ op_on.Volume (Write x)
    → ((n ≡ put_count) × OwesPut log) ⊎ ((n ≡ taken_count) × OwesTake log) → IsEven (log ++ e ∷ [])
even_counted log n x e at is (inl owes) =
    let t = tally None None (Some x) None log e
    (subst (λ o. Tells None None (Some x) None o e.op e.reply) (sym at)
    (subst (λ op. Tells None None (Some x) None (Volume n) op e.reply) (sym is) (tells_puts n x e.reply owes.0))) in
    let a = t.longer_in in
    let b = t.longer_out in
    let d = t.put_counts in let f = t.take_counts in let v = owes.1.0 in let w = owes.1.1 in (omega arith, omega arith)
even_counted log n x e at is (inr owes) =
    let t = tally None None None (Some x) log e
    (subst (λ o. Tells None None None (Some x) o e.op e.reply) (sym at)
    (subst (λ op. Tells None None None (Some x) (Volume n) op e.reply) (sym is) (tells_takes n x e.reply owes.0))) in
    let a = t.longer_in in
    let b = t.longer_out in
    let d = t.put_counts in let f = t.take_counts in let v = owes.1.0 in let w = owes.1.1 in (omega arith, omega arith)

-- a write of a count moves no item
pub count_moves : (log : List Entry) (n x : ℕ) (e : Entry) → e.object ≡ Volume n → e.op ≡ op_on.Volume (Write x) → room ≤ n
    → (went_in (log ++ e ∷ []) ≡ went_in log) × (came_out (log ++ e ∷ []) ≡ came_out log)
count_moves log n x e at is high = (
  gathered_more (λ y. put_by y.object y.op) log e None
      ((λ i. put_by (at i) (is i)) ∙ ap (λ b. if b then Some x else None) (le-ltb n room high)) ∙ append-nil (went_in log),
  gathered_more (λ y. taken_by y.object y.op y.reply) log e None (λ i. taken_by (at i) (is i) e.reply) ∙ append-nil (came_out log),
)

-- ---- a log and entries that tell nothing

allowed_still : (k : ℕ) (log : List Entry) (o : Object) (op : Op) → IsEven log → IsStill o op → IsAllowed k log o op
allowed_still k log o (op_on.Latch (Purge requestor)) even still = absurd still
allowed_still k log (Volume n) (op_on.Volume (Write x)) even still = absurd still
allowed_still k log (Volume n) (op_on.Volume Read) even still = inr (still, even)
allowed_still k log o op even still = even

pub still_next : (k : ℕ) (log : List Entry) (e : Entry) → IsEven log → IsStill e.object e.op
    → IsAllowed k log e.object e.op × IsEven (log ++ e ∷ [])
still_next k log e even still = (
  allowed_still k log e.object e.op even still,
  even_still log (log ++ e ∷ []) (tally None None None None log e (tells_nothing e.object e.op e.reply still)) even,
)

pub still_in : (log es : List Entry) → AllByRecursion (λ e. IsStill e.object e.op) es → went_in (log ++ es) ≡ went_in log ++ []
still_in log es = nothing_gathered (λ e. put_by e.object e.op) IsStill (λ e is. (tells_nothing e.object e.op e.reply is).put_is) log es

pub still_out : (log es : List Entry) → AllByRecursion (λ e. IsStill e.object e.op) es → came_out (log ++ es) ≡ came_out log ++ []
still_out log es =
    nothing_gathered (λ e. taken_by e.object e.op e.reply) IsStill (λ e is. (tells_nothing e.object e.op e.reply is).taken_is) log es
