-- A call, in the order of the kinds.
use Rattle.std.proofs.Common.{◌≡◌, ℕ, ◌+◌, Bool, List, [], ◌∷◌, true, false, length, refl, sym, ap, subst, ◌∙◌, arith, ◌<◌, ◌≤◌}
use Rattle.std.specs.Prelude.{Option, Some, is_some, nat_le, replicate}
use Rattle.std.proofs.lemmas.Bool.{le-leb, lt-leb}
use Rattle.std.proofs.lemmas.List.Sums.{count_by-le-length}
use Rattle.mv_config.specs.Setup.{Setup}
use Rattle.mv_calls.specs.declared.table.Table.{Table}
use Rattle.mv_scriptline.specs.declared.call.Call.{Call}
use Rattle.mv_scriptline.specs.declared.statement.Statement.{Statement}
use Rattle.mv_scriptline.specs.declared.statement.Statement.TheVariants as statement
use Rattle.mv_script.specs.Costs.{cost}
use Rattle.mv_script.specs.Fault.{is_out_of_order, is_miscounted, lacks_obtain, is_no_obtain, obtain_meant, uses_table}
use Rattle.mv_scriptline.specs.Limits.{most_calls}
use Rattle.mv_script.specs.Reading.{Notes, notes_of, Stands, HasCosts, progress_of, setup_in}
use Rattle.mv_script.specs.Script.{task_count, owners_of, exits_of, table_of, is_obtain}
use Rattle.mv_script.specs.Sound.{HasGoodNumbers}
use Rattle.mv_script.specs.Table.{uses_any}
use Rattle.mv_script.proofs.Behind.{late_call, last_calls, spends_within, too_much, not_much, taken_call}
use Rattle.mv_script.proofs.Costs.{cost_same}
use Rattle.mv_script.proofs.Told.{many, none, much, used}
use Rattle.mv_script.proofs.reading.Reading.take_call.Goals.{After-lacks_obtain}
use Rattle.mv_script.proofs.reading.Reading.take_call.Goals as goal

-- what is known of a call where a task has begun
module _ (earlier : List Statement) (n : Notes) (b : Stands earlier n) (call : Call) (k : Setup) (is : n.costs ≡ Some k)
    (going : n.ended ≡ false) where
  -- a task has begun
  begun : is_some n.costs ≡ true
  begun = ap is_some is

  -- the call is in order
  order : is_out_of_order earlier (statement.Call call) ≡ false
  order = sym (late_call earlier n b call) ∙ rw (begun, going) refl

  -- one call too many
  crowded : most_calls ≤ length n.calls → is_miscounted earlier (statement.Call call) ≡ true
  crowded le = ap (λ (l : List Call). nat_le most_calls (length l)) (last_calls earlier n b begun) ∙ le-leb most_calls (length n.calls) le

  -- not one too many
  counted : length n.calls < most_calls → is_miscounted earlier (statement.Call call) ≡ false
  counted lt = ap (λ (l : List Call). nat_le most_calls (length l)) (last_calls earlier n b begun) ∙ lt-leb most_calls (length n.calls) lt

  -- which OBTAIN is meant
  means : lacks_obtain earlier (statement.Call call) ≡ is_no_obtain n.calls (obtain_meant call)
  means = ap (λ (l : List Call). is_no_obtain l (obtain_meant call)) (last_calls earlier n b begun)

  -- whether it uses the table, by the table so far
  use_own : (o : Option Table) (uses : Bool) → o ≡ n.table → uses ≡ uses_any o call → uses_any n.table call ≡ uses
  use_own o uses e f = ap (λ (x : Option Table). uses_any x call) (sym e) ∙ sym f

  -- and by the statements
  use_stated : (o : Option Table) (uses : Bool) → o ≡ n.table → uses ≡ uses_any o call → uses_table earlier (statement.Call call) ≡ uses
  use_stated o uses e f = ap (λ (x : Option Table). uses_any x call) (sym b.far.table) ∙ use_own o uses e f

  -- by which configuration calls cost
  costs_by : k ≡ setup_in (progress_of earlier) (replicate (progress_of earlier).stated 0)
  costs_by =
      let p = progress_of earlier in
      subst (λ (o : Option Setup). HasCosts o (setup_in p (replicate p.stated 0))) is b.far.costs

  -- what the call costs
  price : (m : ℕ) → m ≡ cost k call → m ≡ cost (setup_in (progress_of earlier) []) call
  price m e =
      e ∙ ap (λ (s : Setup). cost s call) costs_by ∙ cost_same (task_count earlier) (owners_of earlier) (exits_of earlier)
      (replicate (progress_of earlier).stated 0) [] call

pub cost-cost-requires-clause-numbers : goal.cost-cost-requires-clause-numbers
cost-cost-requires-clause-numbers c =
    let earlier = c.requires.0 in
    let b = c.requires.1.0 in
    let same = costs_by earlier (notes_of c.args.self.now) b c.args.call c.in-Some.costs c.in-Some.is c.if-self.false in (
      table_of earlier,
      subst (λ (s : Setup). HasGoodNumbers (record { tasks = s.callers; ecbs = length s.owners; table = table_of earlier }) c.args.call)
          (sym same) c.requires.1.1,
    )

pub returns-then-len-ge-MOST_CALLS : goal.returns-then-len-ge-MOST_CALLS
returns-then-len-ge-MOST_CALLS c = λ earlier b good.
    let n = notes_of c.args.self.now in
    let o = order earlier n b c.args.call c.in-Some.costs c.in-Some.is c.if-self.false in
    let m = crowded earlier n b c.args.call c.in-Some.costs c.in-Some.is c.if-self.false
    (omega (arith, c.len.ensures, c.if-len-ge-MOST_CALLS.true)) in
    many earlier (statement.Call c.args.call) o m

-- once it was asked whether its OBTAIN is lacking: it is in order, it is not one too many, and that is what was answered
asked : (c : After-lacks_obtain) (earlier : List Statement) → Stands earlier (notes_of c.args.self.now)
    → (is_out_of_order earlier (statement.Call c.args.call) ≡ false) × (is_miscounted earlier (statement.Call c.args.call) ≡ false)
    × (lacks_obtain earlier (statement.Call c.args.call) ≡ c.lacks_obtain.result)
asked c earlier b =
    let n = notes_of c.args.self.now in (
      order earlier n b c.args.call c.in-Some.costs c.in-Some.is c.if-self.false,
      counted earlier n b c.args.call c.in-Some.costs c.in-Some.is c.if-self.false
          (omega (arith, c.len.ensures, c.if-len-ge-MOST_CALLS.false)),
      means earlier n b c.args.call c.in-Some.costs c.in-Some.is c.if-self.false
          ∙ sym (c.lacks_obtain.ensures n.calls (sym b.far.obtains)),
    )

pub returns-then-lacks_obtain : goal.returns-then-lacks_obtain
returns-then-lacks_obtain c = λ earlier b good.
    let a = asked (goal.at.returns-then-lacks_obtain c).After-lacks_obtain earlier b in
    none earlier (statement.Call c.args.call) a.0 a.1 refl (a.2 ∙ c.if-lacks_obtain.true)

pub returns-then-cost-self : goal.returns-then-cost-self
returns-then-cost-self c = λ earlier b good.
    let n = notes_of c.args.self.now in
    let a = asked (goal.at.returns-then-cost-self c).After-lacks_obtain earlier b in
    let d = price earlier n b c.args.call c.in-Some.costs c.in-Some.is c.if-self.false c.cost-cost.result c.cost-cost.ensures in
    much earlier (statement.Call c.args.call) a.0 a.1 refl (a.2 ∙ c.if-lacks_obtain.false)
    (too_much earlier n b c.args.call (begun earlier n b c.args.call c.in-Some.costs c.in-Some.is c.if-self.false)
    (omega (arith, d, c.if-cost-self.true)))

pub returns-then-uses_any : goal.returns-then-uses_any
returns-then-uses_any c = λ earlier b good.
    let n = notes_of c.args.self.now in
    let a = asked (goal.at.returns-then-uses_any c).After-lacks_obtain earlier b in
    let d = price earlier n b c.args.call c.in-Some.costs c.in-Some.is c.if-self.false c.cost-cost.result c.cost-cost.ensures in
    let e = not_much earlier n b c.args.call (begun earlier n b c.args.call c.in-Some.costs c.in-Some.is c.if-self.false)
    (omega (arith, d, c.if-cost-self.false)) in
    used earlier (statement.Call c.args.call) a.0 a.1 refl (a.2 ∙ c.if-lacks_obtain.false) e
    (use_stated earlier n b c.args.call c.in-Some.costs c.in-Some.is c.if-self.false c.stated_table.result c.uses_any.result
    c.stated_table.ensures c.uses_any.ensures ∙ c.if-uses_any.true)

pub overflow_add-self : goal.overflow_add-self
overflow_add-self c =
    let within = spends_within c.requires.0 (notes_of c.args.self.now) c.requires.1.0 (ap is_some c.in-Some.is) in
    omega (arith, c.if-cost-self.false)

pub overflow_add-self-2 : goal.overflow_add-self-2
overflow_add-self-2 c =
    let before = c.requires.1.0.far.obtains in
    let few = count_by-le-length is_obtain (notes_of c.args.self.now).calls in
    let one = count_by-le-length is_obtain (c.args.call ∷ []) in
    omega (arith, c.obtain_count.ensures, c.len.ensures, c.if-len-ge-MOST_CALLS.false)

pub returns : goal.returns
returns c = λ earlier b good.
    let n = notes_of c.args.self.now in
    let o = order earlier n b c.args.call c.in-Some.costs c.in-Some.is c.if-self.false in
    let l = sym (c.lacks_obtain.ensures n.calls (sym b.far.obtains)) ∙ c.if-lacks_obtain.false in
    let d = price earlier n b c.args.call c.in-Some.costs c.in-Some.is c.if-self.false c.cost-cost.result c.cost-cost.ensures in
    rw (c.in_ok-push.ensures.items, d)
    (taken_call earlier n b c.args.call (n.obtains + c.obtain_count.result) o
    (begun earlier n b c.args.call c.in-Some.costs c.in-Some.is c.if-self.false)
    (omega (arith, c.len.ensures, c.if-len-ge-MOST_CALLS.false)) good l (omega (arith, d, c.if-cost-self.false))
    (use_own earlier n b c.args.call c.in-Some.costs c.in-Some.is c.if-self.false c.stated_table.result c.uses_any.result
    c.stated_table.ensures c.uses_any.ensures ∙ c.if-uses_any.false)
    (ap (λ (m : ℕ). n.obtains + m) c.obtain_count.ensures))
