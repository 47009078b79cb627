-- The script of a text without fault can be run.
use Rattle.std.proofs.Common.{◌≡◌, ℕ, suc, ◌+◌, ◌<◌, ◌≤◌, Bool, true, false, not, ◌&&◌, List, [], ◌∷◌, ◌++◌, length, map, Option, Some}
use Rattle.std.proofs.lemmas.List.{append-nil}
use Rattle.std.proofs.Common.{None, Ok, Err, refl, sym, ap, subst, ◌∙◌, arith}
use Rattle.std.specs.Prelude.{nat_lt, nat_le, sum, fold}
use Rattle.mv_line.specs.Line.{lines_of}
use Rattle.mv_config.specs.Limits.{events_limit}
use Rattle.mv_calls.specs.Table.{table_refusal}
use Rattle.mv_calls.proofs.TableFacts.{can_have_is}
use Rattle.mv_line.specs.Line.{shown, is_ignored, is_foreign, is_too_long}
use Rattle.mv_scriptline.specs.declared.fault.Kind.{Kind}
use Rattle.mv_scriptline.specs.declared.fault.Kind.TheVariants.{ForeignByte, TooLong, NoForm, BadNumber}
use Rattle.mv_scriptline.specs.declared.fault.Kind.TheVariants.{BadTable}
use Rattle.mv_scriptline.specs.declared.statement.Statement.{Statement}
use Rattle.mv_scriptline.specs.declared.statement.Statement.TheVariants as statement
use Rattle.mv_script.specs.Costs.{costs_of}
use Rattle.mv_script.specs.Fault.{has_script, has_task, has_end, is_out_of_order, is_miscounted, leads_down, lacks_obtain}
use Rattle.mv_script.specs.Fault.{uses_table, is_bad_table}
use Rattle.mv_script.specs.Fault.{is_too_costly, kinds_of, kinds_of_statement, kinds_behind, first_fault}
use Rattle.mv_line.specs.Fault.{faults_by_line, first_of_list, when}
use Rattle.mv_line.proofs.Faults.{none_when, line_passed, no_kinds, no_fault_at_end}
use Rattle.mv_script.specs.Fault.{line_rules, has_no_form, has_bad_number}
use Rattle.mv_scriptline.specs.Kind.{kind_number}
use Rattle.mv_scriptline.specs.Limits.{most_ecbs, most_exits, most_calls}
use Rattle.mv_script.specs.Reading.{progress_of, budgets_in, IsSoundSoFar}
use Rattle.mv_script.specs.Script.{task_count, owners_of, exits_of, table_of, tasks_of, last_task, budgets_of, sizes_behind, added}
use Rattle.mv_script.specs.Script.{with_line}
use Rattle.mv_script.specs.Script.{statements_of, script_in, script_of, setup_with}
use Rattle.mv_script.specs.Sound.{IsSound, IsGoodStatement}
use Rattle.mv_scriptline.specs.Statement.{line_states, text_states}
use Rattle.mv_scriptline.specs.Words.{Read}
use Rattle.mv_script.proofs.Costs.{costs_same, map_same}
use Rattle.mv_script.proofs.Good.{read_well}
use Rattle.mv_script.proofs.Progresses.{one_ecb, one_exit, one_table, one_task, one_call, the_end, sound_at_first, sound_script}
use Rattle.mv_script.proofs.Progresses.{sound_table}
use Rattle.mv_script.proofs.Progresses.{sound_ecb, sound_exit, sound_task, sound_call, sound_end, call_cost, is_positive}
use Rattle.mv_script.proofs.Behind.{only_first, stays_first, none_of}
use Rattle.std.proofs.lemmas.Bool.{or_parts}

-- ---- what holds behind statements without fault

pub record Holds (statements : List Statement) : Type 0 where
  pub sound : IsSoundSoFar (progress_of statements)
  pub first : has_script statements ≡ false → statements ≡ []

-- ---- a statement without kinds

pub record IsFine (earlier : List Statement) (s : Statement) : Type 0 where
  pub order : is_out_of_order earlier s ≡ false
  pub count : is_miscounted earlier s ≡ false
  pub up : leads_down s ≡ false
  pub obtain : lacks_obtain earlier s ≡ false
  pub cheap : is_too_costly earlier s ≡ false
  pub spares : uses_table earlier s ≡ false
  pub fits : is_bad_table earlier s ≡ false

-- the last one
none_last : (b : Bool) (k : Kind) → when kind_number b k ≡ [] → b ≡ false
none_last false k e = refl
none_last true k e = absurd cc

-- where the order is kept, the other answers count
and_true : (b : Bool) → (b && true) ≡ b
and_true true = refl
and_true false = refl

is_fine : (earlier : List Statement) (s : Statement) → kinds_behind earlier s ≡ [] → IsFine earlier s
is_fine earlier s e =
    let a = none_when (is_out_of_order earlier s) _ _ e in
    let keeps : (b : Bool) → (b && not (is_out_of_order earlier s)) ≡ false → b ≡ false =
    λ b h. sym (and_true b) ∙ ap (λ (o : Bool). b && not o) (sym a.0) ∙ h in
    let m = none_when (is_miscounted earlier s && not (is_out_of_order earlier s)) _ _ a.1 in
    let d = none_when (leads_down s && not (is_out_of_order earlier s)) _ _ m.1 in
    let o = none_when (lacks_obtain earlier s && not (is_out_of_order earlier s)) _ _ d.1 in
    let c = none_when (is_too_costly earlier s && not (is_out_of_order earlier s)) _ _ o.1 in
    let u = none_when (uses_table earlier s && not (is_out_of_order earlier s)) _ _ c.1 in
    record {
      order = a.0;
      count = keeps (is_miscounted earlier s) m.0;
      up = keeps (leads_down s) d.0;
      obtain = keeps (lacks_obtain earlier s) o.0;
      cheap = keeps (is_too_costly earlier s) c.0;
      spares = keeps (uses_table earlier s) u.0;
      fits = keeps (is_bad_table earlier s) (none_last _ BadTable u.1);
    }

-- ---- one more statement

few : (k m : ℕ) → nat_le k m ≡ false → m < k
few k m e = grind arith

light : (m : ℕ) → nat_lt events_limit m ≡ false → m ≤ events_limit
light m e = grind arith

enough : (k m : ℕ) → nat_lt m k ≡ false → k ≤ m
enough k m e = grind arith

holds_more : (earlier : List Statement) (s : Statement) → Holds earlier → IsGoodStatement (sizes_behind earlier) s → IsFine earlier s
    → Holds (earlier ++ s ∷ [])
holds_more [] (statement.Script t) h g f = record { sound = sound_script t g.0 g.1; first = λ e. absurd cc }
holds_more (r ∷ earlier) (statement.Script t) h g f = absurd (late (length earlier) f.order) where
  late : (m : ℕ) → nat_lt 0 (suc m) ≡ false → ⊥
  late m e = absurd (grind arith)
holds_more earlier (statement.Ecb owner) h g f =
    let a = only_first (has_script earlier) _ f.order in
    let x = or_parts _ _ a.1 in
    let u = or_parts _ _ x.1 in
    let t = or_parts _ _ u.1 in
    record {
      sound = subst IsSoundSoFar (sym (one_ecb earlier owner))
          (sound_ecb (progress_of earlier) h.sound owner x.0 (none_of (table_of earlier) u.0) t.0
          (few most_ecbs (length (owners_of earlier)) f.count) g);
      first = stays_first earlier (statement.Ecb owner) refl a.0;
    }
holds_more earlier (statement.Exit source targets) h g f =
    let a = only_first (has_script earlier) _ f.order in
    let u = or_parts _ _ a.1 in
    let t = or_parts _ _ u.1 in
    record {
      sound = subst IsSoundSoFar (sym (one_exit earlier source targets))
          (sound_exit (progress_of earlier) h.sound source targets (none_of (table_of earlier) u.0) t.0
          (few most_exits (length (exits_of earlier)) f.count)
          g.0 g.1.0 g.1.1.0 g.1.1.1 f.up);
      first = stays_first earlier (statement.Exit source targets) refl a.0;
    }
holds_more earlier (statement.Table t) h g f =
    let a = only_first (has_script earlier) _ f.order in
    let e = or_parts _ _ a.1 in
    record {
      sound = subst IsSoundSoFar (sym (one_table earlier t (none_of (table_of earlier) f.count)))
          (sound_table (progress_of earlier) h.sound t e.0 (none_of (table_refusal (setup_with earlier []) t)
          (can_have_is (setup_with earlier []) t ∙ f.fits)));
      first = stays_first earlier (statement.Table t) refl a.0;
    }
holds_more earlier statement.Task h g f =
    let a = only_first (has_script earlier) _ f.order in
    record {
      sound = subst IsSoundSoFar (sym (one_task earlier))
          (sound_task (progress_of earlier) h.sound (few (task_count earlier) (length (tasks_of earlier)) f.count) a.1);
      first = stays_first earlier statement.Task refl a.0;
    }
holds_more earlier (statement.Call c) h g f =
    let a = only_first (has_task earlier) _ f.order in
    let total = ap (λ (p : _). sum (budgets_in p)) (one_call earlier c) ∙ call_cost (progress_of earlier) h.sound c a.0 in
    let le : sum (budgets_of (earlier ++ statement.Call c ∷ [])) ≤ events_limit = light _ f.cheap in
    let some : 1 ≤ length (tasks_of earlier) = is_positive (length (tasks_of earlier)) (sym h.sound.task ∙ a.0) in
    record {
      sound = subst IsSoundSoFar (sym (one_call earlier c))
          (sound_call (progress_of earlier) h.sound c a.0 a.1 (few most_calls (length (last_task (tasks_of earlier))) f.count) g f.obtain
          f.spares (omega (arith, total, le)));
      first = stays_first earlier (statement.Call c) refl
          (h.sound.script ∙ up (task_count earlier) (omega (arith, some, h.sound.few_tasks)));
    } where
      up : (m : ℕ) → 1 ≤ m → nat_lt 0 m ≡ true
      up m le = grind arith
holds_more earlier statement.End h g f =
    let a = only_first (has_script earlier) _ f.order in
    record {
      sound = subst IsSoundSoFar (sym (the_end earlier))
          (sound_end (progress_of earlier) h.sound (enough (task_count earlier) (length (tasks_of earlier)) f.count));
      first = stays_first earlier statement.End refl a.0;
    }

-- ---- one more line

-- what the kinds of a line say of what it states
states_fine : (earlier : List Statement) (line : List ℕ) (states : Option (Read Statement))
    → when kind_number (is_foreign line) ForeignByte ++ (when kind_number (is_too_long line) TooLong
    ++ (when kind_number (has_no_form states) NoForm ++ (when kind_number (has_bad_number states) BadNumber
    ++ kinds_of_statement earlier states))) ≡ []
    → kinds_of_statement earlier states ≡ []
states_fine earlier line states e =
    let a = none_when (is_foreign line) _ _ e in
    let b = none_when (is_too_long line) _ _ a.1 in
    let c = none_when (has_no_form states) _ _ b.1 in
    (none_when (has_bad_number states) _ _ c.1).1

-- what a line states is good
line_well : (earlier : List Statement) (line : List ℕ) (s : Statement) → line_states (sizes_behind earlier) line ≡ Some (Ok s)
    → IsGoodStatement (sizes_behind earlier) s
line_well earlier line s e = go (is_ignored line) refl where
  go : (b : Bool) → is_ignored line ≡ b → IsGoodStatement (sizes_behind earlier) s
  go true i = absurd (cc (none i, e)) where
    none : is_ignored line ≡ true → line_states (sizes_behind earlier) line ≡ None
    none i = rw i refl
  go false i = read_well (sizes_behind earlier) (shown line) s (cc (some i, e)) where
    some : is_ignored line ≡ false → line_states (sizes_behind earlier) line ≡ Some (text_states (sizes_behind earlier) (shown line))
    some i = rw i refl

line_holds : (earlier : List Statement) (line : List ℕ) → Holds earlier → kinds_of earlier line ≡ [] → Holds (with_line earlier line)
line_holds earlier line h e = go (line_states (sizes_behind earlier) line) refl (states_fine earlier line _ e) where
  go : (states : Option (Read Statement)) → line_states (sizes_behind earlier) line ≡ states → kinds_of_statement earlier states ≡ []
      → Holds (earlier ++ added states)
  go None is k = subst Holds (sym (append-nil earlier)) h
  go (Some (Ok s)) is k = holds_more earlier s h (line_well earlier line s is) (is_fine earlier s k)
  go (Some (Err why)) is k = subst Holds (sym (append-nil earlier)) h

-- ---- all lines

-- what holds behind all lines, where they have no fault
lines_hold : (number : ℕ) (earlier : List Statement) (lines : List (List ℕ)) → Holds earlier
    → first_of_list (faults_by_line line_rules number earlier lines) ≡ None
    → Holds (fold with_line earlier lines) × (has_end (fold with_line earlier lines) ≡ true)
lines_hold number earlier [] h e = (h, no_fault_at_end line_rules number earlier e)
lines_hold number earlier (line ∷ lines) h e =
    let none : kinds_of earlier line ≡ [] = no_kinds line_rules number earlier line lines e in
    lines_hold (number + 1) (with_line earlier line) lines (line_holds earlier line h none)
    (ap first_of_list (sym (line_passed line_rules number earlier line lines none)) ∙ e)

-- ---- the script

-- budgets by the configuration that has them
same_budgets : (statements : List Statement)
    → budgets_of statements ≡ map (costs_of (setup_with statements (budgets_of statements))) (tasks_of statements)
same_budgets statements =
    map_same (costs_of (setup_with statements [])) (costs_of (setup_with statements (budgets_of statements)))
    (λ calls. costs_same (task_count statements) (owners_of statements) (exits_of statements) [] (budgets_of statements) calls)
    (tasks_of statements)

-- the script of statements behind which a script is whole
pub whole : (statements : List Statement) → Holds statements → has_end statements ≡ true → IsSound (script_in statements)
whole statements h e =
    let same : length (tasks_of statements) ≡ task_count statements = h.sound.ended e in
    record {
      some = omega (arith, same, is_positive (task_count statements) (sym h.sound.script ∙ begun));
      few = omega (arith, same, h.sound.few);
      setup = rw (same, sym (same_budgets statements)) refl;
      few_ecbs = h.sound.few_ecbs;
      owners = rw same h.sound.owners;
      few_exits = h.sound.few_exits;
      exits = rw same h.sound.exits;
      tasks = rw same h.sound.tasks;
      light = h.sound.light;
      table = h.sound.table;
    } where
      begun : has_script statements ≡ true
      begun = go (has_script statements) refl where
        go : (b : Bool) → has_script statements ≡ b → has_script statements ≡ true
        go true is = is
        go false is = absurd (cc (ap has_end (h.first is), e))

-- the script of a text without fault
pub sound : (bytes : List ℕ) → first_fault bytes ≡ None → IsSound (script_of bytes)
unfolding first_fault
sound bytes e =
    let h = lines_hold 1 [] (lines_of bytes) (record { sound = sound_at_first; first = λ f. refl }) e in
    whole (statements_of (lines_of bytes)) h.0 h.1
