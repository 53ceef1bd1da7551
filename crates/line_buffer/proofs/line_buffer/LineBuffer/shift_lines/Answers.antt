use Rattle.std.proofs.Common.{rules, ◌≡◌, ◌+◌, ◌-◌, length, drop, ap, ap₂, ◌∙◌, sym, refl, ℕ, List, arith, length-drop}
use Rattle.line_buffer.specs.Changes.{Changes, Entry}
use Rattle.line_buffer.specs.Indent.{indented, with_indents}
use Rattle.line_buffer.proofs.FrontLemmas.{next_start}
use Rattle.line_buffer.proofs.IndentLemmas.{shifted_last, shifted_more, shifting_start}
use Rattle.line_buffer.proofs.line_buffer.LineBuffer.shift_lines.Goals as goal

pub loop-spaces-init : goal.loop-spaces-init
loop-spaces-init c = record {
  shifting = shifting_start c.args.dedent c.args.amount c.args.self.now c.args.changes.now.entries c.args.start c.args.end c.requires.lines.ordered c.requires.lines.within c.requires.before;
  groups = refl;
  tells = record { tells = λ start told. told };
  boundary = c.requires.lines.boundary;
}

pub returns-then-len-stop : goal.returns-then-len-stop
returns-then-len-stop c =
    record {
      line =
          let told = ap (λ (s : Changes). s.entries) c.in_ok-stop.ensures.changes in
          let behind : length (drop c.args.end c.args.self.now.text) ≡ c.len.result - c.args.end = omega (arith, c.len.ensures.value, length-drop c.args.end c.args.self.now.text) in
          let done : length c.shift_line.new.self.text - c.in_ok-stop.stop ≡ length (drop c.args.end c.args.self.now.text) = omega (arith, c.len-in-loop-spaces.ensures.value) in
          (shifted_last c.args.dedent c.args.amount (drop c.args.end c.args.self.now.text) (indented c.args.dedent c.args.amount c.args.self.now (c.args.start, c.args.end))
          (with_indents c.args.dedent c.args.amount c.args.self.now.text (c.args.start, c.args.end) c.args.changes.now.entries) c.loop-spaces.self c.shift_line.new.self c.loop-spaces.changes.entries c.shift_line.new.changes.entries
          c.loop-spaces.place c.in_ok-stop.stop c.loop-spaces.invariant.shifting c.requires.lines.end c.in_ok-stop.ensures.line told c.in_ok-stop.ensures.stop done).0;
      changes =
          let told = ap (λ (s : Changes). s.entries) c.in_ok-stop.ensures.changes in
          let behind : length (drop c.args.end c.args.self.now.text) ≡ c.len.result - c.args.end = omega (arith, c.len.ensures.value, length-drop c.args.end c.args.self.now.text) in
          let done : length c.shift_line.new.self.text - c.in_ok-stop.stop ≡ length (drop c.args.end c.args.self.now.text) = omega (arith, c.len-in-loop-spaces.ensures.value) in
          let all = (shifted_last c.args.dedent c.args.amount (drop c.args.end c.args.self.now.text) (indented c.args.dedent c.args.amount c.args.self.now (c.args.start, c.args.end))
          (with_indents c.args.dedent c.args.amount c.args.self.now.text (c.args.start, c.args.end) c.args.changes.now.entries) c.loop-spaces.self c.shift_line.new.self c.loop-spaces.changes.entries c.shift_line.new.changes.entries
          c.loop-spaces.place c.in_ok-stop.stop c.loop-spaces.invariant.shifting c.requires.lines.end c.in_ok-stop.ensures.line told c.in_ok-stop.ensures.stop done).1 in
          let to_changes = λ (es : List Entry) (n : ℕ). let made : Changes = record { entries = es; open_groups = n } in made in
          c.in_ok-stop.ensures.changes ∙ ap₂ to_changes (sym told ∙ all) c.loop-spaces.invariant.groups;
      tells = search rules;
      cursor = search rules;
    }

pub loop-spaces-preserved : goal.loop-spaces-preserved
loop-spaces-preserved c =
    let told = ap (λ (s : Changes). s.entries) c.in_ok-stop.ensures.changes in
    let behind : length (drop c.args.end c.args.self.now.text) ≡ c.len.result - c.args.end = omega (arith, c.len.ensures.value, length-drop c.args.end c.args.self.now.text) in
    let more = shifted_more c.args.dedent c.args.amount (drop c.args.end c.args.self.now.text) (indented c.args.dedent c.args.amount c.args.self.now (c.args.start, c.args.end))
    (with_indents c.args.dedent c.args.amount c.args.self.now.text (c.args.start, c.args.end) c.args.changes.now.entries) c.loop-spaces.self c.shift_line.new.self c.loop-spaces.changes.entries c.shift_line.new.changes.entries
    c.loop-spaces.place c.in_ok-stop.stop c.loop-spaces.invariant.shifting c.requires.lines.end c.in_ok-stop.ensures.line told c.in_ok-stop.ensures.stop
    (λ e. c.if-len-stop.false (omega (arith, c.len-in-loop-spaces.ensures.value))) in
    let next : c.line_stop-place.result ≡ c.in_ok-stop.stop + 1 = c.line_stop-place.ensures.offset.place ∙ next_start c.shift_line.new.self.text more.1.0 c.in_ok-stop.stop more.1.1 in
    record {
      shifting = rw next more.0;
      groups = ap (λ (s : Changes). s.open_groups) c.in_ok-stop.ensures.changes ∙ c.loop-spaces.invariant.groups;
      tells = record { tells = λ start told. c.in_ok-stop.ensures.tells.tells start (c.loop-spaces.invariant.tells.tells start told) };
      boundary = c.line_stop-place.ensures.offset.boundary;
    }

pub loop-spaces-smaller : goal.loop-spaces-smaller
loop-spaces-smaller c =
    let told = ap (λ (s : Changes). s.entries) c.in_ok-stop.ensures.changes in
    let behind : length (drop c.args.end c.args.self.now.text) ≡ c.len.result - c.args.end = omega (arith, c.len.ensures.value, length-drop c.args.end c.args.self.now.text) in
    let more = shifted_more c.args.dedent c.args.amount (drop c.args.end c.args.self.now.text) (indented c.args.dedent c.args.amount c.args.self.now (c.args.start, c.args.end))
    (with_indents c.args.dedent c.args.amount c.args.self.now.text (c.args.start, c.args.end) c.args.changes.now.entries) c.loop-spaces.self c.shift_line.new.self c.loop-spaces.changes.entries c.shift_line.new.changes.entries
    c.loop-spaces.place c.in_ok-stop.stop c.loop-spaces.invariant.shifting c.requires.lines.end c.in_ok-stop.ensures.line told c.in_ok-stop.ensures.stop
    (λ e. c.if-len-stop.false (omega (arith, c.len-in-loop-spaces.ensures.value))) in
    let next : c.line_stop-place.result ≡ c.in_ok-stop.stop + 1 = c.line_stop-place.ensures.offset.place ∙ next_start c.shift_line.new.self.text more.1.0 c.in_ok-stop.stop more.1.1 in
    omega (arith, next, more.2)
