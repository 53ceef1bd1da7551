use Rattle.line_term.specs.Escape.{release}
use Rattle.line_term.proofs.KnownLemmas.{stays-known, turns-if}
use Rattle.line_term.proofs.MoveLemmas.{release-turns}
use Rattle.line_term.proofs.ansi.AnsiRenderer.end_synchronized_update.Goals as goal

pub invariant_of-self-2 : goal.invariant_of-self-2
invariant_of-self-2 g c =
    let sent = c.in_ok-send_if.ensures in
    let wanted = c.args.self.now.synchronized in
    record {
      text_is_plain = c.args.self.now.text_is_plain;
      told = rw sent.whole (stays-known g.O.Write.contents _ _ _ _ _ _ _ (turns-if wanted release release-turns) sent.sends.written c.args.self.now.told);
    }
