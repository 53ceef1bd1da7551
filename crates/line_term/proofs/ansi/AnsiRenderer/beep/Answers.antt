use Rattle.line_term.proofs.KnownLemmas.{sent-bell}
use Rattle.line_term.proofs.ansi.AnsiRenderer.beep.Goals as goal

pub invariant_of-self : goal.invariant_of-self
invariant_of-self g c =
    record { text_is_plain = c.args.self.now.text_is_plain; told = sent-bell g.O.Write _ _ _ _ _ _ _ _ _ c.send.ensures.sends c.args.self.now.told }
