use Rattle.std.proofs.Common.{◌≡◌, None, option_map, refl, sym, ap, ◌∙◌, subst, arith}
use Rattle.std.specs.List.{AllByRecursion}
use Rattle.mv_config.specs.Setup.{owner_of}
use Rattle.mv_board.specs.Faces.{CallerFace}
use Rattle.mv_calls.specs.Keeping.{kept_of, nothing_kept}
use Rattle.mv_calls.specs.Program.{Wrong}
use Rattle.mv_calls.specs.Rest.{IsAtRest}
use Rattle.mv_calls.specs.Waits.{wait_refusal}
use Rattle.mv_calls.proofs.Making.{kept_caller}
use Rattle.mv_wait.specs.Answers.{wait_refused}
use Rattle.mv_wait.specs.Waiting.{ArePlain, AreOwn, ArmsAll}
use Rattle.mv_wait.proofs.Parts.{still_of, same_view}
use Rattle.mv_wait.proofs.Unrefusing.{accepted_wait, accepted_own, both_own}
use Rattle.mv_wait.proofs.station.Station.begin_wait.Goals as goal

pub returns-in-Some-clause-begun : goal.returns-in-Some-clause-begun
returns-in-Some-clause-begun g c =
    (sym c.refuses_wait.ensures.refusal ∙ ap (λ o. option_map wait_refused o) c.in-Some.is, c.refuses_wait.ensures.same)

pub arm_all-requires : goal.arm_all-requires
arm_all-requires g c =
    let t = c.args.task.now in
    let u = c.refuses_wait.new.task in
    let s = c.args.self.now.config in
    let es = c.args.ecbs.now in
    let same = c.refuses_wait.ensures.same in
    let none : wait_refusal s c.args.count es (kept_of t.number t.log) ≡ None =
    sym c.refuses_wait.ensures.refusal ∙ ap (λ o. option_map wait_refused o) c.in_default.is in
    let a = accepted_wait s t.number c.args.count es (kept_of t.number t.log) none in
    let much = c.requires.task.left in
    let left = ap (λ (d : CallerFace). d.left) same in record {
      task = record {
        board = still_of c.args.self.now c.args.self.now t u (same_view t u same) c.requires.task.board refl;
        rest = subst (λ (d : CallerFace). IsAtRest d.log) (sym same) c.requires.task.rest;
        left = omega arith;
      };
      own = subst (λ (d : CallerFace). AreOwn s d.number es) (sym same)
          (both_own s t.number es c.requires.blocks
          (subst (λ k. AllByRecursion (λ e. owner_of s e ≡ k) es) (kept_caller (nothing_kept t.number) t.log) a.own));
      plain = subst (λ (d : CallerFace). ArePlain d es) (sym same) a.plain;
      distinct = a.distinct;
    }

pub returns-clause-begun : goal.returns-clause-begun
returns-clause-begun g c =
    let t = c.args.task.now in
    let u = c.arm_all.new.task in
    let s = c.args.self.now.config in
    let es = c.args.ecbs.now in
    let none : wait_refusal s c.args.count es (kept_of t.number t.log) ≡ None =
    sym c.refuses_wait.ensures.refusal ∙ ap (λ o. option_map wait_refused o) c.in_default.is in
    let a = accepted_wait s t.number c.args.count es (kept_of t.number t.log) none in
    let arms : ArmsAll es t u = subst (λ (d : CallerFace). ArmsAll es d u) c.refuses_wait.ensures.same c.arm_all.ensures.armed in record {
      accepted = none;
      arms = arms;
      waits = c.arm_all.ensures.waits;
      own = accepted_own s t u es c.requires.blocks a (arms Wrong).went.same;
      plain = c.arm_all.ensures.plain;
      distinct = a.distinct;
    }
