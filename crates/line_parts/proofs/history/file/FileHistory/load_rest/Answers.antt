use Rattle.std.proofs.Common.{rules, ◌≡◌, ◌&&◌, ap, arith, IfSome}
use Rattle.line_parts.proofs.LoadLemmas.{at_err, loading_beginning, loading_more, loading_no_text, loading_too_many, stops_as}
use Rattle.line_parts.specs.HistoryText.{lines_of}
use Rattle.line_parts.specs.LoadStop.{AddsToNoText, HasTooManyLines, SaysNoText}
use Rattle.line_parts.proofs.history.file.FileHistory.load_rest.Goals as goal
use Rattle.line_parts.proofs.history.file.FileHistory.load_rest.Goals.{then-taken, else-taken}

pub returns-in_err-read_line-clause-beginning : goal.returns-in_err-read_line-clause-beginning
returns-in_err-read_line-clause-beginning g c =
    let known = loading_beginning c.args.headed (g.B.Read.remaining c.args.reader.now) (g.B.Read.remaining c.loop.reader)
    c.args.self.now c.loop.self c.loop.taken c.loop.counter c.loop.invariant in
    at_err c.from_residual.result known

pub returns-in_err-added-clause-beginning : goal.returns-in_err-added-clause-beginning
returns-in_err-added-clause-beginning g c =
    let known = loading_beginning c.args.headed (g.B.Read.remaining c.args.reader.now) (g.B.Read.remaining c.loop.reader)
    c.args.self.now c.loop.self c.loop.taken c.loop.counter c.loop.invariant in
    rw c.in_err-added.ensures.unchanged (at_err c.from_residual-in_err-added.result known)

pub loop-preserved : goal.loop-preserved
loop-preserved g c =
    let both : c.if-taken.taken ≡ (c.loop.taken && c.in_ok-added.added) = elim c.if-taken.branch [
      | then-taken w ↦ let e = ap (λ b. b && c.in_ok-added.added) w.if-taken.true in cc e
      | else-taken w ↦ let e = ap (λ b. b && c.in_ok-added.added) w.if-taken.false in cc e
    ] in
    let goes_on = rw c.if-not-branch.false at c.in_ok-read_line.ensures.goes_on in
    let adds = rw c.as_slice.ensures.value at c.in_ok-added.ensures.adds in
    rw both (loading_more c.args.headed (g.B.Read.remaining c.args.reader.now) (g.B.Read.remaining c.loop.reader)
    (g.B.Read.remaining c.read_line.new.reader) c.args.self.now c.loop.self c.load_line.new.self c.read_line.new.line.items
    c.loop.taken c.in_ok-added.added c.loop.counter c.loop.invariant goes_on adds)

pub returns-clause-beginning : goal.returns-clause-beginning
returns-clause-beginning g c =
    loading_beginning c.args.headed (g.B.Read.remaining c.args.reader.now) (g.B.Read.remaining c.loop.reader) c.args.self.now
    c.loop.self c.loop.taken c.loop.counter c.loop.invariant

pub returns-in_err-added-clause-stops : goal.returns-in_err-added-clause-stops
returns-in_err-added-clause-stops g c =
    let text = g.B.Read.remaining c.args.reader.now in
    let goes_on = rw c.if-not-branch.false at c.in_ok-read_line.ensures.goes_on in
    stops_as c.from_residual-in_err-added.result (SaysNoText c.args.headed c.read_line.new.line.items) ⊥
    (IfSome text (λ t. AddsToNoText c.args.headed (lines_of t) c.args.self.now c.load_line.new.self)) (IfSome text HasTooManyLines)
    (loading_no_text c.args.headed text (g.B.Read.remaining c.loop.reader) (g.B.Read.remaining c.read_line.new.reader) c.args.self.now
    c.loop.self c.load_line.new.self c.read_line.new.line.items c.loop.taken c.loop.counter c.loop.invariant goes_on c.in_err-added.ensures.unchanged)
    (λ none. absurd none) (rw (← c.as_slice.ensures.value) (search rules))

pub returns-clause-stops : goal.returns-clause-stops
returns-clause-stops g c =
    loading_too_many c.args.headed (g.B.Read.remaining c.args.reader.now) (g.B.Read.remaining c.loop.reader) c.args.self.now
    c.loop.self c.loop.taken c.loop.counter c.loop.invariant (omega arith)
