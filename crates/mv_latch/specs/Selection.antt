-- Which requests of a list are selected.
use Rattle.std.specs.Prelude.{Bool}
use Rattle.mv_latch.specs.declared.selection.Selection.{Selection}
use Rattle.mv_latch.specs.declared.selection.Selection.TheVariants.{Own, Of, By, PostedBy}
use Rattle.mv_latch.specs.declared.request.Request.{Request}
use Rattle.mv_latch.specs.Request.{is_own, of_requestor, of_caller, posted_of}

-- whether a request is selected
abbrev pub selects : Selection → Request → Bool
selects (Own caller id) q = is_own caller id q
selects (Of requestor) q = of_requestor requestor q
selects (By caller) q = of_caller caller q
selects (PostedBy caller) q = posted_of caller q
