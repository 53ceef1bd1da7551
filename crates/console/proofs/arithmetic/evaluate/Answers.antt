use Rattle.std.proofs.Common.{FitsSigned, w64, rules}
use Rattle.std.proofs.lemmas.Int.{to_z-of_z}
use Rattle.std.proofs.lemmas.Result.{err_from_is_err_and}
use Rattle.std.proofs.lemmas.Str.{IsCharBoundary-start}
use Rattle.console.proofs.LineLemmas.{asked_only, asked_value, assigned_explained, assigned_only, assigned_value, scan_explained}
use Rattle.console.proofs.arithmetic.evaluate.Goals as goal

-- a refusal for want of memory stands at the start
pub returns-in_err-set-in-Some-clause-at : goal.returns-in_err-set-in-Some-clause-at
returns-in_err-set-in-Some-clause-at c =
    let p = err_from_is_err_and c.from_residual-in_err-set-in-Some.result c.from_residual-in_err-set-in-Some.ensures.1 in
    rw (p.1, p.2) (IsCharBoundary-start c.args.text.now c.utf8.text)

pub returns-in-Some-clause-value : goal.returns-in-Some-clause-value
returns-in-Some-clause-value c =
    let fits : FitsSigned w64 c.in_ok-value-in-Some.value = search rules in
    let worth = c.in_ok-value-in-Some.ensures in
    let marks = rw c.as_slice.ensures.value at c.in-Some.ensures.some in
    let set = rw (to_z-of_z w64 c.in_ok-value-in-Some.value fits) at c.in_ok-set-in-Some.ensures.ok in
    rw (to_z-of_z w64 c.in_ok-value-in-Some.value fits)
    (assigned_value _ c.args.text.now c.in_ok-line.line _ c.in_ok-line.ensures.ok worth.whole _ _ marks.0 marks.1 worth.ok set)

pub returns-clause-value : goal.returns-clause-value
returns-clause-value c =
    let fits : FitsSigned w64 c.in_ok-line_value-in-None.field-0 = search rules in
    let worth = c.in_ok-line_value-in-None.ensures in
    rw (to_z-of_z w64 c.in_ok-line_value-in-None.field-0 fits)
    (asked_value _ c.args.text.now c.in_ok-line.line _ c.in_ok-line.ensures.ok worth.whole worth.ok)

-- the scan was refused
pub returns-in_err-line-clause-refused : goal.returns-in_err-line-clause-refused
returns-in_err-line-clause-refused c =
    let p = err_from_is_err_and c.from_residual.result c.from_residual.ensures.1 in
    rw (p.1, p.2) (scan_explained c.args.names.now c.args.text.now c.in_err-line.field-0.0.complaint c.in_err-line.ensures.refused)

-- the expression behind `=` was refused
pub returns-in_err-value-in-Some-clause-refused : goal.returns-in_err-value-in-Some-clause-refused
returns-in_err-value-in-Some-clause-refused c =
    let p = err_from_is_err_and c.from_residual-in_err-value-in-Some.result c.from_residual-in_err-value-in-Some.ensures.1 in
    let marks = rw c.as_slice.ensures.value at c.in-Some.ensures.some in
    rw (p.1, p.2)
    (assigned_explained c.args.names.now c.args.text.now c.in_ok-line.line c.in_ok-line.ensures.ok c.in_err-value-in-Some.field-0.0 c.in-Some.name.now marks.0 marks.1
    c.in_err-value-in-Some.ensures.settled)

-- the value of the expression behind `=`
pub returns-in-Some-clause-only : goal.returns-in-Some-clause-only
returns-in-Some-clause-only c =
    let fits : FitsSigned w64 c.in_ok-value-in-Some.value = search rules in
    let marks = rw c.as_slice.ensures.value at c.in-Some.ensures.some in
    rw (to_z-of_z w64 c.in_ok-value-in-Some.value fits)
    (assigned_only c.args.names.now c.args.text.now c.in_ok-line.line c.in_ok-line.ensures.ok c.in_ok-value-in-Some.value c.in-Some.name.now marks.0 marks.1
    c.in_ok-value-in-Some.ensures.settled)

-- the value of a line that is an expression
pub returns-clause-only : goal.returns-clause-only
returns-clause-only c =
    let fits : FitsSigned w64 c.in_ok-line_value-in-None.field-0 = search rules in
    let no_name = rw c.as_slice.ensures.value at c.in-None.ensures.none in
    rw (to_z-of_z w64 c.in_ok-line_value-in-None.field-0 fits)
    (asked_only c.args.names.now c.args.text.now c.in_ok-line.line c.in_ok-line.ensures.ok c.in_ok-line_value-in-None.field-0 no_name
    c.in_ok-line_value-in-None.ensures.settled)
