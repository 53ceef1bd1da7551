use Rattle.line_screen.specs.MeasureLaws.{measured-one}
use Rattle.line_screen.proofs.plain.PlainRenderer.write_and_flush.Goals as goal

pub returns-clause-shown : goal.returns-clause-shown
returns-clause-shown g c = λ ch e print room.
    let one = measured-one c.args.self.now.columns ch c.args.self.now.place room.free print in
    cc (c.in_ok-push_str.ensures.bytes)
