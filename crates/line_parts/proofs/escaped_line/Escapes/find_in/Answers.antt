use Rattle.memchr.specs.Find.{is_byte2, is_byte3}
use Rattle.line_parts.proofs.EscapeLemmas.{found_in, plain-v2, plain-v3}
use Rattle.line_parts.specs.declared.escaped_line.Escapes.TheVariants.{V2, V3}
use Rattle.line_parts.proofs.escaped_line.Escapes.find_in.Goals as goal

pub returns-in-V2-clause-plain : goal.returns-in-V2-clause-plain
returns-in-V2-clause-plain c =
    rw c.in-V2.is (found_in V2 c.args.line.now (is_byte2 92 10) c.memchr2.result plain-v2 c.memchr2.ensures)

pub returns-in-V3-clause-plain : goal.returns-in-V3-clause-plain
returns-in-V3-clause-plain c =
    rw c.in-V3.is (found_in V3 c.args.line.now (is_byte3 92 10 13) c.memchr3.result plain-v3 c.memchr3.ensures)
