use Rattle.std.proofs.Common.{rules, IfSome}
use Rattle.std.specs.Str.{IsUtf8}
use Rattle.line_parts.proofs.LoadLemmas.{first_no_text, stops_as}
use Rattle.line_parts.specs.LoadStop.{LoadsToNoText}
use Rattle.line_parts.proofs.history.file.FileHistory.load_first.Goals as goal

pub returns-in_err-add_bytes-clause-stops : goal.returns-in_err-add_bytes-clause-stops
returns-in_err-add_bytes-clause-stops g c =
    let text = g.B.Read.remaining c.args.reader.now in
    stops_as c.from_residual-in_err-add_bytes.result (¬ (IsUtf8 c.read_line.new.line.items)) ⊥
    (IfSome text (λ t. LoadsToNoText t c.args.self.now c.add_bytes.new.self)) ⊥
    (first_no_text text (g.B.Read.remaining c.read_line.new.reader) c.read_line.new.line.items c.args.self.now c.add_bytes.new.self
    (search rules) (search rules) (search rules) (search rules)) (λ none. none) (search rules)
