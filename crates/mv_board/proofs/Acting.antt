-- What a caller's log says with one entry more.
use Rattle.std.proofs.Common.{◌≡◌, ℕ, true, List, [], ◌∷◌, ◌++◌, inl, inr, refl}
use Rattle.mv_machine.specs.declared.entry.Entry.{Entry}
use Rattle.mv_machine.specs.Kept.{StandingRequest, stands_with, standing_from, makes, HasMade}

-- which requests stand
pub standing_more : (ts : List StandingRequest) (log : List Entry) (e : Entry)
    → standing_from ts (log ++ e ∷ []) ≡ stands_with e.caller (standing_from ts log) e.object e.op e.reply
standing_more ts [] e = refl
standing_more ts (x ∷ log) e = standing_more (stands_with x.caller ts x.object x.op x.reply) log e

-- and which it made
pub made_more : (latch id : ℕ) (log : List Entry) (e : Entry) → makes latch id e.op e.reply ≡ true → HasMade latch id (log ++ e ∷ [])
made_more latch id [] e made = inl made
made_more latch id (x ∷ log) e made = inr (made_more latch id log e made)
