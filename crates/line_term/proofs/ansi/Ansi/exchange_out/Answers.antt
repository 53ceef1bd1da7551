use Rattle.line_term.proofs.KnownLemmas.{none-known}
use Rattle.line_term.proofs.ansi.Ansi.exchange_out.Goals as goal

pub invariant_of-self : goal.invariant_of-self
invariant_of-self g c =
    record { text_is_plain = c.args.self.now.text_is_plain; told = none-known g.O.Write.contents _ _ _ _ _ c.requires }
