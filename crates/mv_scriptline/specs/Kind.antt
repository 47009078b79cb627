-- The numbers of the kinds of fault.
use Rattle.std.specs.Prelude.{ℕ}
use Rattle.mv_scriptline.specs.declared.fault.Kind.{Kind}
use Rattle.mv_scriptline.specs.declared.fault.Kind.TheVariants.{ForeignByte, TooLong, NoForm, BadNumber, OutOfOrder, Miscounted, LeadsDown}
use Rattle.mv_scriptline.specs.declared.fault.Kind.TheVariants.{NoObtain, NoEnd, TooCostly, UsesTable, BadTable}

-- the number of a kind
abbrev pub kind_number : Kind → ℕ
kind_number ForeignByte = 1
kind_number TooLong = 2
kind_number NoForm = 3
kind_number BadNumber = 4
kind_number OutOfOrder = 5
kind_number Miscounted = 6
kind_number LeadsDown = 7
kind_number NoObtain = 8
kind_number NoEnd = 9
kind_number TooCostly = 10
kind_number UsesTable = 11
kind_number BadTable = 12
