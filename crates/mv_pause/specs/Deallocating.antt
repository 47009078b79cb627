-- The reasons for which an element is not given back.
use Rattle.std.specs.Prelude.{◌≡◌, true, false}
use Rattle.mv_element.specs.declared.element.Token.{Token}
use Rattle.mv_element.specs.declared.operation.ElementOp.TheVariants.{Close}
use Rattle.mv_element.specs.declared.operation.ElementReply.TheVariants as element_reply
use Rattle.mv_config.specs.Setup.{Setup}
use Rattle.mv_board.specs.Faces.{CallerFace}
use Rattle.mv_calls.specs.Keeping.{kept_of}
use Rattle.mv_calls.specs.Pauses.{is_others_token}
use Rattle.mv_pause.specs.Replies.{HappenedOn}
use Rattle.mv_pause.specs.declared.deallocating.DeallocateRefusal.{DeallocateRefusal}
use Rattle.mv_pause.specs.declared.deallocating.DeallocateRefusal.TheVariants as refused

-- The reason for which a deallocate failed: the element is another caller's, and no event was made, or the token is spent, as the
-- reply to the close says.
abbrev pub IsDeallocateCause : Setup → Token → CallerFace → DeallocateRefusal → CallerFace → Type 0
IsDeallocateCause c token t refused.NotOwner u = (is_others_token c (kept_of t.number t.log) token ≡ true) × (u ≡ t)
IsDeallocateCause c token t (refused.Spent now) u =
    (is_others_token c (kept_of t.number t.log) token ≡ false) × HappenedOn token t (Close token.generation) (element_reply.Spent now) u
