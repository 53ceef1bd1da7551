use Rattle.std.proofs.Common.{rules, ◌∙◌, ap, not, IfSome}
use Rattle.line_parts.proofs.LoadLemmas.{at_err, begins_known, loads_bare, loads_headed, nothing_read, rest_no_text, rest_too_many, stops_as}
use Rattle.line_parts.specs.HistoryText.{lines_of}
use Rattle.line_parts.specs.LoadStop.{AddsToNoText, HasTooManyLines, LoadsToNoText}
use Rattle.line_parts.proofs.history.file.FileHistory.load_text.Goals as goal

pub returns-in_err-headed-clause-beginning : goal.returns-in_err-headed-clause-beginning
returns-in_err-headed-clause-beginning g c =
    let known = nothing_read (g.B.Read.remaining c.args.reader.now) c.args.self.now c.load_first.new.self c.in_err-headed.ensures.unchanged in
    at_err c.from_residual.result known

pub returns-in_err-taken-clause-beginning : goal.returns-in_err-taken-clause-beginning
returns-in_err-taken-clause-beginning g c =
    let known = begins_known (g.B.Read.remaining c.args.reader.now) (g.B.Read.remaining c.load_first.new.reader) c.in_ok-headed.headed
    c.args.self.now c.load_first.new.self c.load_rest.new.self c.in_ok-headed.ensures.begins c.in_err-taken.ensures.beginning in
    at_err c.from_residual-in_err-taken.result known

pub returns-then-is_none-clause-loads : goal.returns-then-is_none-clause-loads
returns-then-is_none-clause-loads g c =
    loads_bare (g.B.Read.remaining c.args.reader.now) (g.B.Read.remaining c.load_first.new.reader) c.in_ok-headed.headed c.in_ok-taken.taken
    c.args.self.now c.load_first.new.self c.load_rest.new.self c.settle.new.self (c.is_none.ensures ∙ ap not c.if-is_none.true) c.in_ok-headed.ensures.begins
    c.in_ok-taken.ensures.all c.settle.ensures

pub returns-clause-loads : goal.returns-clause-loads
returns-clause-loads g c =
    loads_headed (g.B.Read.remaining c.args.reader.now) (g.B.Read.remaining c.load_first.new.reader) c.in_ok-headed.headed c.in_ok-taken.taken
    c.args.self.now c.load_first.new.self c.load_rest.new.self c.settle.new.self (c.is_none.ensures ∙ ap not c.if-is_none.false) c.in_ok-headed.ensures.begins
    c.in_ok-taken.ensures.all c.settle.ensures

pub returns-in_err-taken-clause-stops : goal.returns-in_err-taken-clause-stops
returns-in_err-taken-clause-stops g c =
    let text = g.B.Read.remaining c.args.reader.now in
    let rest = g.B.Read.remaining c.load_first.new.reader in
    stops_as c.from_residual-in_err-taken.result
    (IfSome rest (λ r. AddsToNoText c.in_ok-headed.headed (lines_of r) c.load_first.new.self c.load_rest.new.self)) (IfSome rest HasTooManyLines)
    (IfSome text (λ t. LoadsToNoText t c.args.self.now c.load_rest.new.self)) (IfSome text HasTooManyLines)
    (rest_no_text text rest c.in_ok-headed.headed c.args.self.now c.load_first.new.self c.load_rest.new.self c.in_ok-headed.ensures.begins)
    (rest_too_many text rest c.in_ok-headed.headed c.args.self.now c.load_first.new.self c.in_ok-headed.ensures.begins) (search rules)
