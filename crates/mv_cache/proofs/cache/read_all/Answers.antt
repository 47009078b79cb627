use Rattle.std.proofs.Common.{◌∷◌, [], length, Vec, Global, vec_capacity, sym, ap, ◌∙◌, subst, arith}
use Rattle.std.proofs.lemmas.List.{length-append}
use Rattle.std.specs.List.{AllByRecursion}
use Rattle.mv_wait.proofs.Lists.{all_push}
use Rattle.mv_cache.specs.declared.cache.Pair.{Pair}
use Rattle.mv_cache.specs.Whole.{WasRead}
use Rattle.mv_cache.proofs.Calls.{all_read_later}
use Rattle.mv_cache.proofs.cache.read_all.Goals as goal
use Rattle.mv_cache.proofs.cache.read_all.Goals.{in-Some, in_default}

pub loop-made-preserved : goal.loop-made-preserved
loop-made-preserved g c =
    let since = c.loop-made.invariant in
    let left = since.left in
    let count = since.count in
    let space = since.room in
    let old = c.loop-made.room.items in
    let t = c.loop-made.task in
    let u = c.read_pair.new.task in
    let spent = c.read_pair.ensures.left in
    let reads : AllByRecursion (WasRead u.number u.log) old = all_read_later t u old c.read_pair.ensures.longer since.read in record {
      ready = c.read_pair.ensures.ready;
      bare = c.read_pair.ensures.bare;
      number = c.read_pair.ensures.longer.number ∙ since.number;
      left = omega arith;
      count = elim c.match-read_pair.branch [
        | in-Some w ↦
            let is = ap (λ (r : Vec Pair Global). length r.items) w.room-is in
            let size = ap length w.push_reserved.ensures.items ∙ length-append old (w.in-Some.pair ∷ []) in omega arith
        | in_default w ↦ let is = ap (λ (r : Vec Pair Global). length r.items) w.room-is in omega arith
      ];
      room = elim c.match-read_pair.branch [
        | in-Some w ↦
            let is = ap (λ (r : Vec Pair Global). vec_capacity r) w.room-is in
            let same = w.push_reserved.ensures.capacity in omega arith
        | in_default w ↦ let is = ap (λ (r : Vec Pair Global). vec_capacity r) w.room-is in omega arith
      ];
      read = elim c.match-read_pair.branch [
        | in-Some w ↦
            subst (AllByRecursion (WasRead u.number u.log))
            (sym (ap (λ (r : Vec Pair Global). r.items) w.room-is ∙ w.push_reserved.ensures.items))
            (all_push (WasRead u.number u.log) old w.in-Some.pair reads w.in-Some.ensures.read)
        | in_default w ↦
            subst (AllByRecursion (WasRead u.number u.log)) (sym (ap (λ (r : Vec Pair Global). r.items) w.room-is)) reads
      ];
    }
