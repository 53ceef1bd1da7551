use Rattle.std.proofs.Common.{arith, ◌≡◌, ◌<◌, ◌≤◌, ◌∙◌, true, false, [], length, take, refl, sym}
use Rattle.std.proofs.lemmas.List.{length-take}
use Rattle.line_term.specs.Decoder.{finished, flushed, read}
use Rattle.line_session.specs.Reading as reading
use Rattle.line_session.specs.Reading.{most_at_once}
use Rattle.line_session.specs.Sitting.{suspends}
use Rattle.line_session.proofs.ReadingLemmas.{reads_running, reads_stopped}
use Rattle.line_session.proofs.editor.Editor.read_on.Goals as goal

pub returns-then-is_suspended-clause-hears : goal.returns-then-is_suspended-clause-hears
returns-then-is_suspended-clause-hears g c = λ begun line.
    let fed = c.in_ok-feed.ensures in
    let stopped : suspends c.args.self.now ≡ true = sym c.is_suspended.ensures ∙ c.if-is_suspended.true in
    record {
      turn = read c.args.self.now.decoder [];
      reads = reads_stopped _ _ _ _ _ stopped;
      came = fed.came begun line;
      keeps = fed.keeps;
    }

pub returns-then-count-gt0-clause-hears : goal.returns-then-count-gt0-clause-hears
returns-then-count-gt0-clause-hears g c = λ begun line.
    let took = c.in_ok-count.ensures.bytes in
    let fed = c.in_ok-feed-2.ensures in
    let running : suspends c.args.self.now ≡ false = sym c.is_suspended.ensures ∙ c.if-is_suspended.false in
    let count = c.in_ok-count.count in
    let is = length-take count c.read.new.buf in
    let some : 0 < length (take count c.read.new.buf) = omega (arith, is, c.in_ok-count.ensures.bound, c.if-count-gt0.true) in
    let most : length (take count c.read.new.buf) ≤ most_at_once =
    omega (arith, is, c.in_ok-count.ensures.bound, c.requires.most, c.read.auto.buf) in
    record {
      turn = read c.args.self.now.decoder _;
      reads = reads_running _ _ _ _ _ _ _ _ running (c.requires.on running) (reading.bytes _ some most took.0);
      came = fed.came begun line;
      keeps = fed.keeps;
    }

pub returns-then-pauses-clause-hears : goal.returns-then-pauses-clause-hears
returns-then-pauses-clause-hears g c = λ begun line.
    let none : c.in_ok-count.count ≡ 0 = omega (arith, c.if-count-gt0.false) in
    let took = rw none at c.in_ok-count.ensures.bytes in
    let fed = c.in_ok-flush.ensures in
    let running : suspends c.args.self.now ≡ false = sym c.is_suspended.ensures ∙ c.if-is_suspended.false in
    let room : 0 < length c.read.new.buf = omega (arith, c.requires.some, c.read.auto.buf) in
    record {
      turn = flushed c.args.self.now.decoder;
      reads = reads_running _ _ _ _ _ _ _ _ running (c.requires.on running) (reading.pause c.if-pauses.true took.0 (took.1 refl room));
      came = fed.came begun line;
      keeps = fed.keeps;
    }

pub returns-clause-hears : goal.returns-clause-hears
returns-clause-hears g c = λ begun line.
    let none : c.in_ok-count.count ≡ 0 = omega (arith, c.if-count-gt0.false) in
    let took = rw none at c.in_ok-count.ensures.bytes in
    let fed = c.in_ok-finish.ensures in
    let running : suspends c.args.self.now ≡ false = sym c.is_suspended.ensures ∙ c.if-is_suspended.false in
    let room : 0 < length c.read.new.buf = omega (arith, c.requires.some, c.read.auto.buf) in
    record {
      turn = finished c.args.self.now.decoder;
      reads = reads_running _ _ _ _ _ _ _ _ running (c.requires.on running) (reading.end c.if-pauses.false took.0 (took.1 refl room));
      came = fed.came begun line;
      keeps = fed.keeps;
    }
