use Rattle.std.proofs.Common.{◌∙◌, ap, option_map, sym}
use Rattle.line_input.specs.Binding.{handled}
use Rattle.line_input.proofs.BoundLemmas.{each-handler, if-ok, keys-handler, mouse-handler, on-ok, rebinds-keys}
use Rattle.line_input.proofs.bindings.Bindings.insert.Goals as goal

pub returns-in-Any-clause-old : goal.returns-in-Any-clause-old
returns-in-Any-clause-old g c =
    rw c.in-Any.is (ap (option_map (handled _)) c.replace.ensures.value ∙ sym (each-handler (handled g.C.ConditionalEventHandler) c.args.self.now.any c.args.self.now.mouse c.args.self.now.sequences))

pub returns-in-KeySeq-clause-bound : goal.returns-in-KeySeq-clause-bound
returns-in-KeySeq-clause-bound g c =
    rw c.in-KeySeq.is (on-ok c.insert.result
    (λ puts. rebinds-keys (handled g.C.ConditionalEventHandler) c.args.self.now.any c.args.self.now.mouse c.args.self.now.sequences c.args.handler c.insert.new.self c.in-KeySeq.keys.items puts)
    (rw c.deref.ensures.value at c.insert.ensures.puts))

pub returns-in-KeySeq-clause-old : goal.returns-in-KeySeq-clause-old
returns-in-KeySeq-clause-old g c =
    rw c.in-KeySeq.is (if-ok c.insert.result
    (λ old is. ap (option_map (handled _)) is ∙ sym (keys-handler (handled g.C.ConditionalEventHandler) c.args.self.now.any c.args.self.now.mouse c.args.self.now.sequences c.in-KeySeq.keys.items))
    (rw c.deref.ensures.value at c.insert.ensures.old))

pub returns-in-Mouse-clause-old : goal.returns-in-Mouse-clause-old
returns-in-Mouse-clause-old g c =
    rw c.in-Mouse.is (ap (option_map (handled _)) c.replace-in-Mouse.ensures.value ∙ sym (mouse-handler (handled g.C.ConditionalEventHandler) c.args.self.now.any c.args.self.now.mouse c.args.self.now.sequences))
