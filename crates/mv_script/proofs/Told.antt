-- The kinds of fault of a statement, by the answers to what is asked of it.
use Rattle.std.proofs.Common.{◌≡◌, true, false, List, [], Some, refl}
use Rattle.mv_scriptline.specs.declared.statement.Statement.{Statement}
use Rattle.mv_script.specs.Fault.{is_out_of_order, is_miscounted, leads_down, lacks_obtain, is_too_costly, uses_table, is_bad_table}
use Rattle.mv_script.specs.Fault.{kinds_behind}
use Rattle.mv_line.specs.Fault.{first_of_list}

module _ (earlier : List Statement) (s : Statement) where
  -- kind 6
  pub many : is_out_of_order earlier s ≡ false → is_miscounted earlier s ≡ true → first_of_list (kinds_behind earlier s) ≡ Some 6
  many a b = rw (a, b) refl

  -- kind 8
  pub none : is_out_of_order earlier s ≡ false → is_miscounted earlier s ≡ false → leads_down s ≡ false → lacks_obtain earlier s ≡ true
      → first_of_list (kinds_behind earlier s) ≡ Some 8
  none a b c d = rw (a, b, c, d) refl

  -- kind 10
  pub much : is_out_of_order earlier s ≡ false → is_miscounted earlier s ≡ false → leads_down s ≡ false → lacks_obtain earlier s ≡ false
      → is_too_costly earlier s ≡ true → first_of_list (kinds_behind earlier s) ≡ Some 10
  much a b c d e = rw (a, b, c, d, e) refl

  -- kind 11
  pub used : is_out_of_order earlier s ≡ false → is_miscounted earlier s ≡ false → leads_down s ≡ false → lacks_obtain earlier s ≡ false
      → is_too_costly earlier s ≡ false → uses_table earlier s ≡ true → first_of_list (kinds_behind earlier s) ≡ Some 11
  used a b c d e f = rw (a, b, c, d, e, f) refl

  -- kind 12
  pub unfit : is_out_of_order earlier s ≡ false → is_miscounted earlier s ≡ false → leads_down s ≡ false → lacks_obtain earlier s ≡ false
      → is_too_costly earlier s ≡ false → uses_table earlier s ≡ false → is_bad_table earlier s ≡ true
      → first_of_list (kinds_behind earlier s) ≡ Some 12
  unfit a b c d e f g = rw (a, b, c, d, e, f, g) refl

  -- no kind
  pub fine : is_out_of_order earlier s ≡ false → is_miscounted earlier s ≡ false → leads_down s ≡ false → lacks_obtain earlier s ≡ false
      → is_too_costly earlier s ≡ false → uses_table earlier s ≡ false → is_bad_table earlier s ≡ false → kinds_behind earlier s ≡ []
  fine a b c d e f g = rw (a, b, c, d, e, f, g) refl
