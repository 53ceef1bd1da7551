use Rattle.tests_steps.specs.ScreenLaws.{measured_by_bytes-one}
use Rattle.tests_steps.proofs.recorder.RecorderRenderer.write_and_flush.Goals as goal

pub returns-clause-shown : goal.returns-clause-shown
returns-clause-shown g c = λ ch e print room.
    let one = measured_by_bytes-one c.args.self.now.columns ch c.args.self.now.place room.free print in
    let noted = c.in_ok-note.ensures in
    cc (c.in_ok-push_str.ensures.bytes, noted.columns, noted.place, noted.prompt, noted.text, noted.origin, noted.hint)
