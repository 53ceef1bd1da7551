use Rattle.std.proofs.Common.{arith, ◌≡◌, ◌<◌, true, false, length}
use Rattle.std.specs.Io.BufRead.{ends_with_byte}
use Rattle.line_parts.proofs.LoadLemmas.{read_one, trimmed_kept, trimmed_cut}
use Rattle.line_parts.proofs.history.lines.read_line.Goals as goal

pub returns-then-not-pop_if_last-clause-goes_on : goal.returns-then-not-pop_if_last-clause-goes_on
returns-then-not-pop_if_last-clause-goes_on g c =
    let some : 0 < length c.read_until.new.buf.items = omega (arith, c.in-Ok.ensures.ok, c.read_until.new.buf.ok.0, c.in-Ok.field-0-test) in
    let kept : false ≡ ends_with_byte 10 c.read_until.new.buf.items = cc (c.pop_if_last.ensures.popped, c.if-not-pop_if_last.true) in
    read_one _ _ c.clear.new.self.items c.read_until.new.buf.items c.pop_if_last.new.bytes.items c.clear.ensures.items
    c.in-Ok.ensures.bytes some c.in-Ok.ensures.rest (trimmed_kept c.read_until.new.buf.items _ kept c.pop_if_last.ensures.rest)

pub returns-clause-goes_on : goal.returns-clause-goes_on
returns-clause-goes_on g c =
    let some : 0 < length c.read_until.new.buf.items = omega (arith, c.in-Ok.ensures.ok, c.read_until.new.buf.ok.0, c.in-Ok.field-0-test) in
    let cut : true ≡ ends_with_byte 10 c.read_until.new.buf.items = cc (c.pop_if_last.ensures.popped, c.if-not-pop_if_last.false) in
    read_one _ _ c.clear.new.self.items c.read_until.new.buf.items c.pop_if_last-2.new.bytes.items c.clear.ensures.items
    c.in-Ok.ensures.bytes some c.in-Ok.ensures.rest
    (trimmed_cut c.read_until.new.buf.items c.pop_if_last.new.bytes.items _ cut c.pop_if_last.ensures.rest c.pop_if_last-2.ensures.rest)
