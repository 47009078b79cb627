use Rattle.std.proofs.Common.{◌≡◌, ◌<◌, ℕ, zero, suc, Bool, false, List, get_or, length, [], ◌∷◌, ap, ◌∙◌, arith}
use Rattle.mv_board.specs.Faces.{CallerFace}
use Rattle.mv_calls.specs.Keeping.{kept_of}
use Rattle.mv_wait.proofs.Low.{fits_of}
use Rattle.mv_wait.proofs.task.Task.extended.Goals as goal

-- what was read, with any default
get_or_read_at : (xs : List Bool) (i : ℕ) (x d : Bool) → i < length xs → x ≡ get_or xs i x → x ≡ get_or xs i d
get_or_read_at [] i x d lt e = absurd (omega arith)
get_or_read_at (y ∷ xs) zero x d lt e = e
get_or_read_at (y ∷ xs) (suc i) x d lt e = get_or_read_at xs i x d (omega arith) e

pub index-requires : goal.index-requires
index-requires c =
    let about = ap (λ (d : CallerFace). d.about) c.self.view_is ∙ c.requires.1 in
    let size = (fits_of c.requires.0 c.self.inside.caller c.self.inside.keep about c.self.invariant.recorded).blocks in
    let lt = c.requires.2 in omega arith

pub returns : goal.returns
returns c =
    let about = ap (λ (d : CallerFace). d.about) c.self.view_is ∙ c.requires.1 in
    let size = (fits_of c.requires.0 c.self.inside.caller c.self.inside.keep about c.self.invariant.recorded).blocks in
    let lt = c.requires.2 in
    let below : c.args.ecb < length c.self.inside.keep.extended.items = omega arith in
    get_or_read_at c.self.inside.keep.extended.items c.args.ecb c.index.result.now false below c.index.ensures
    ∙ (c.self.invariant.recorded.kept.extended c.args.ecb below
    ∙ ap (λ (d : CallerFace). (kept_of d.number d.log).extended c.args.ecb) c.self.view_is)
