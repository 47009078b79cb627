-- The waiter is told the code that is posted. Used by complete.
use Rattle.std.proofs.Common.{◌≡◌, ℕ, ◌<◌, List, get_or, refl, subst}
use Rattle.mv_wait.specs.Prelude.{Entry, Legal, of, Setup}
use Rattle.mv_wait.proofs.Lists.{all_at}
use Rattle.mv_attach.specs.Entries.{Finds, IsPosted}
use Rattle.mv_attach.proofs.Entries.{all_entries, found_was_posted}
use Rattle.mv_completion.specs.Told.{IsTold, PostsIt, HasDone}

-- what was found complete was posted, and every post has this code
pub told_code : (c : Setup) (es : List Entry) (code : ℕ) (rooms : List ℕ) (d : ℕ) → Legal c es → 0 < c.callers
    → ((k : ℕ) → k < c.callers → HasDone code k (of k es) (get_or rooms k d)) → IsTold code (get_or rooms 0 d) es
told_code c es code rooms d legal some done =
    let told = get_or rooms 0 d in
    let finds = (done 0 some).finds refl in
    let was = found_was_posted c es 0 0 told legal finds in
    let posts = all_entries (λ k e. PostsIt code e.object e.op) c es legal (λ k lt. (done k lt).posts) in
    let same : told ≡ code = rw (was.object, was.post) at (all_at (λ e. PostsIt code e.object e.op) es was.entry posts was.member) in
    record { is = same; found = subst (Finds (of 0 es) 0) same finds; posted = subst (IsPosted es 0) same was }
