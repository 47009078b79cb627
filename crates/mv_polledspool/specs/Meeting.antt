-- The polled call of what a task waits for. Here u is the task before the call's first poll, and v the task now.
use Rattle.std.specs.Prelude.{◌≡◌, ℕ, ◌≤◌, [], ◌∷◌, length, Result, Ok, Err}
use Rattle.mv_board.specs.Faces.{CallerFace}
use Rattle.mv_element.specs.declared.element.Token.{Token}
use Rattle.mv_latch.specs.declared.request.Mode.{Mode}
use Rattle.mv_config.specs.Setup.{Setup}
use Rattle.mv_polled.specs.Waiting.{WaitFace, new_wait, IsWaitAt}
use Rattle.mv_polled.specs.Pausing.{PauseFace, new_pause, IsPauseAt}
use Rattle.mv_polled.specs.Obtaining.{ObtainFace, new_obtain, IsObtainAt}
use Rattle.mv_polledspool.specs.declared.meeting.Call.{Call}
use Rattle.mv_polledspool.specs.declared.meeting.Call.TheVariants as call
use Rattle.mv_polledspool.specs.declared.meeting.Meeting.{Meeting}
use Rattle.mv_polled.specs.declared.turn.Turn.{Turn}
use Rattle.mv_polled.specs.declared.turn.Turn.TheVariants.{Ready, Pending}
use Rattle.mv_work.specs.declared.need.Blocks.{Blocks}
use Rattle.mv_work.specs.declared.need.Need.{Need}
use Rattle.mv_work.specs.declared.need.Need.TheVariants as need
use Rattle.mv_work.specs.Needs.{most_blocks}

-- the meeting has room for a wait for as many blocks as a task may wait for
abbrev pub HasRoom : Meeting → Type 0
HasRoom m = m.wait.room ≡ most_blocks

-- the call for this need was taken up, and was not polled yet
abbrev pub IsTaken : Need → Call → WaitFace → Type 0
IsTaken (need.Blocks b) call.Wait w = w ≡ new_wait most_blocks b.count b.ecbs.items
IsTaken (need.Block e) call.Block w = w ≡ new_wait most_blocks 1 (e ∷ [])
IsTaken (need.Pause token) (call.Pause p) w = p ≡ new_pause token
IsTaken (need.Latch latch requestor mode) (call.Obtain q) w = q ≡ new_obtain latch requestor mode
IsTaken n c w = ⊥

-- the meeting has taken up the call for this need, and has not polled it yet
abbrev pub IsTakenUp : Need → Meeting → Type 0
IsTakenUp n m = IsTaken n m.call m.wait

-- the call is a wait for these blocks, and may be polled
abbrev pub IsWaitFor : Setup → Blocks → WaitFace → CallerFace → CallerFace → Type 0
IsWaitFor c b w u v =
    (w.count ≡ b.count) × (w.ecbs ≡ b.ecbs.items) × (length b.ecbs.items ≤ most_blocks) × IsWaitAt c w u v

-- the call is a wait for this block, and may be polled
abbrev pub IsBlockFor : Setup → ℕ → WaitFace → CallerFace → CallerFace → Type 0
IsBlockFor c e w u v = (w.count ≡ 1) × (w.ecbs ≡ e ∷ []) × IsWaitAt c w u v

-- the call is a pause with this token, and may be polled
abbrev pub IsPauseFor : Setup → Token → PauseFace → CallerFace → CallerFace → Type 0
IsPauseFor c token p u v = (p.token ≡ token) × IsPauseAt c p u v

-- the call is an obtain of this latch, and may be polled
abbrev pub IsObtainFor : Setup → ℕ → ℕ → Mode → ObtainFace → CallerFace → CallerFace → Type 0
IsObtainFor c latch requestor mode q u v =
    (q.latch ≡ latch) × (q.requestor ≡ requestor) × (q.mode ≡ mode) × IsObtainAt c q u v

-- the call is the one for this need, and may be polled
abbrev pub IsCallOf : Setup → Need → Call → WaitFace → CallerFace → CallerFace → Type 0
IsCallOf c (need.Blocks b) call.Wait w u v = IsWaitFor c b w u v
IsCallOf c (need.Block e) call.Block w u v = IsBlockFor c e w u v
IsCallOf c (need.Pause token) (call.Pause p) w u v = IsPauseFor c token p u v
IsCallOf c (need.Latch latch requestor mode) (call.Obtain q) w u v = IsObtainFor c latch requestor mode q u v
IsCallOf c n k w u v = ⊥

-- the meeting has the call for this need, which may be polled
abbrev pub IsMeeting : Setup → Need → Meeting → CallerFace → CallerFace → Type 0
IsMeeting c n m u v = IsCallOf c n m.call m.wait u v

-- P holds of the answer of a poll or of its error, or Q holds if there is neither yet
abbrev pub MatchPolled : {A E : Type 0} → Result (Turn A) E → (Result A E → Type 0) → Type 0 → Type 0
MatchPolled (Ok (Ready a)) P Q = P (Ok a)
MatchPolled (Ok Pending) P Q = Q
MatchPolled (Err e) P Q = P (Err e)
