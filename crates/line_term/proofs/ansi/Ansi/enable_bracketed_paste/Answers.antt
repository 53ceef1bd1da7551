use Rattle.line_term.proofs.KnownLemmas.{sent-aside}
use Rattle.line_term.proofs.MoveLemmas.{marked-turns}
use Rattle.line_term.proofs.ansi.Ansi.enable_bracketed_paste.Goals as goal

pub invariant_of-self : goal.invariant_of-self
invariant_of-self g c =
    let sent = c.send.ensures in
    record { text_is_plain = c.args.self.now.text_is_plain; told = sent-aside g.O.Write _ _ _ _ _ _ _ _ _ _ _ marked-turns sent.sends sent.whole sent.part c.args.self.now.told }
