-- What a board and its callers say of each other, and of the words of the objects.
use Rattle.std.proofs.Common.{◌≡◌, ◌<◌, ℕ, sym, ap, ◌∙◌, subst}
use Rattle.mv_machine.specs.declared.entry.Object.{Object}
use Rattle.mv_board.specs.declared.board.Board.TheInside as board
use Rattle.mv_board.specs.declared.caller.Caller.TheInside as caller
use Rattle.mv_board.specs.Board.{board_of, IsOpen}
use Rattle.mv_board.specs.Caller.{face_of}
use Rattle.mv_board.specs.Faces.{BoardFace, CallerFace, IsOf}
use Rattle.mv_board.specs.Words.{HasWord, word_number, object_of}
use Rattle.mv_board.proofs.Machine.{object_again, in_table}

pub same_table : (b : board.Inside) (c : caller.Inside) (f : BoardFace) (g : CallerFace) → board_of b ≡ f → face_of c ≡ g → IsOf f g
    → c.seat.table_id ≡ b.table.shared.table_id
same_table b c f g fb gc of = ap (λ (x : CallerFace). x.table) gc ∙ (of.0 ∙ sym (ap (λ (x : BoardFace). x.table) fb))

pub has_word : (b : board.Inside) (f : BoardFace) (o : Object) → board_of b ≡ f → HasWord f.config o → HasWord b.config o
has_word b f o fb has = subst (λ (x : BoardFace). HasWord x.config o) (sym fb) has

-- the number of an object's word is that of a word of the table
pub below : (b : board.Inside) (o : Object) (n : ℕ) → IsOpen b → HasWord b.config o → n ≡ word_number o → n < b.table.shared.table_id.words
below b o n is has e = subst (λ m. m < b.table.shared.table_id.words) (sym e)
    (subst (λ m. word_number o < m) (sym is.words) (in_table b.config o is.valid has))

-- the object of that word
pub object_is : (b : board.Inside) (o : Object) (n : ℕ) → IsOpen b → HasWord b.config o → n ≡ word_number o → object_of n ≡ o
object_is b o n is has e = ap object_of e ∙ object_again b.config o is.valid has
