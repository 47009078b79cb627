use Rattle.std.proofs.Common.{◌≡◌, ℕ, ◌+◌, List, length, get_or, replicate, ap, ◌∙◌, arith}
use Rattle.std.proofs.lemmas.List.{length-replicate}
use Rattle.mv_config.specs.Setup.{Setup}
use Rattle.mv_board.specs.Words.{word_count}
use Rattle.mv_board.proofs.Fresh.{zeros}
use Rattle.mv_board.proofs.Keeps.{opens}
use Rattle.mv_board.proofs.board.table_of.Goals as goal

pub new-requires : goal.new-requires
new-requires c =
    let n : ℕ = 265 + c.len.result in
    let all : c.deref.result.now ≡ replicate {A = ℕ} n 0 = c.deref.ensures.value ∙ c.in_ok-words.ensures.items_if_clones_equal (λ y h. h) in
    let owners : length c.config.result.now.owners.items ≡ length c.args.config.now.owners =
    ap (λ (k : Setup). length k.owners) c.config.ensures.given in
    let count = c.len.ensures in
    let size = ap length all ∙ length-replicate n 0 in
    let wide : length c.deref.result.now ≡ word_count c.args.config.now = omega (arith, c.config.result.now.owners.ok.0) in
    rw c.in_ok-slots.ensures.items (
    opens c.args.config.now c.deref.result.now c.in_ok-lists_of.field-0 c.config.ensures.valid wide
    (λ i. ap (λ (l : List ℕ). get_or l i 0) all ∙ zeros n i) c.in_ok-lists_of.ensures
    )
