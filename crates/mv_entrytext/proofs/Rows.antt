-- Worked rows: texts with their first faults, and a journal with none.
use Rattle.std.proofs.Common.{◌≡◌, [], Some, None, refl}
use Rattle.std.specs.Prelude.{codes}
use Rattle.mv_entrytext.specs.declared.fault.Kind.TheVariants.{NoForm, BadNumber, BadConfig, Cut}
use Rattle.mv_line.specs.Fault.{fault_at}
use Rattle.mv_entrytext.specs.Fault.{kind_number, text_fault}
use Rattle.mv_entrytext.specs.Lines.{next_line, count_line}
use Rattle.mv_operationtext.specs.Reading.{behind, after, number, parted_at}

pub empty_text : text_fault [] ≡ Some (fault_at 1 (kind_number Cut))
unfolding text_fault
empty_text = refl

pub leading_zero : text_fault (codes "JOURNAL 1\nCALLERS 01\n") ≡ Some (fault_at 2 (kind_number BadNumber))
unfolding text_fault next_line count_line behind after number
leading_zero = refl

pub bad_form_goes_first : text_fault (codes "JOURNAL 1\nCALLERS 01 \n") ≡ Some (fault_at 2 (kind_number NoForm))
unfolding text_fault next_line count_line behind after number
bad_form_goes_first = refl

pub no_budget : text_fault (codes "JOURNAL 1\nCALLERS 1\nELEMENTS 1\nVOLUMES 1\nLATCHES 1\nQUOTA 1 0\nEVENTS\n")
    ≡ Some (fault_at 7 (kind_number BadConfig))
unfolding text_fault next_line count_line behind after number parted_at
no_budget = refl

pub no_entry : text_fault (codes "JOURNAL 1\nCALLERS 1\nELEMENTS 1\nVOLUMES 1\nLATCHES 1\nQUOTA 1 0\nBUDGET 0\nEVENTS\nEND 0\n") ≡ None
unfolding text_fault next_line count_line behind after number parted_at
no_entry = refl
