use Rattle.std.proofs.Common.{rules, ◌≡◌, ◌∙◌, ◌++◌, true, option_map, string_bytes, refl, sym, ap, ap₂}
use Rattle.std.specs.List.{list_all}
use Rattle.line_buffer.specs.Printable.{is_plain}
use Rattle.line_keys.specs.Model.Display.{Screen, Surface}
use Rattle.line_screen.specs.Measure.{measured}
use Rattle.line_term.specs.Drawn.{cleaned}
use Rattle.line_term.specs.Painted.{wrap, wrap_ending}
use Rattle.line_term.proofs.KnownLemmas.{when-sent}
use Rattle.line_term.proofs.PartLemmas.{room-shown, typed-bytes, typed-plain, typed-whole, when-ok, wrote}
use Rattle.line_term.proofs.ansi.AnsiRenderer.write_and_flush.Goals as goal

pub invariant_of-self-2-clause-told : goal.invariant_of-self-2-clause-told
invariant_of-self-2-clause-told g c =
    let shown = c.args.self.now.shown in
    let buf = c.args.buf.now in
    let measure = measured shown.columns in
    let sent = c.send-2.ensures in
    let went = c.in_ok-write_and_flush-2.ensures in
    let ends : c.calculate_position-end.result ≡ measure buf shown.place = c.calculate_position-end.ensures ∙ ap (measure buf) c.cursor-place.ensures in
    let bytes : c.as_bytes-2.result.now ≡ cleaned buf ++ wrap measure buf shown.place =
    c.as_bytes-2.ensures.value ∙ c.in_ok-push_wrap.ensures.appends
    ∙ ap₂ (λ b w. b ++ w) (c.in_ok-push_cleaned.ensures.appends ∙ ap (λ b. b ++ cleaned buf) c.clear.ensures.bytes)
    (ap₂ (λ p e. wrap_ending measure buf p e) c.cursor-place.ensures ends) in
    when-sent g.O.Write _ _ _ _ c.args.self.now.out _ _ _ _ _ _ sent.sends sent.whole sent.part
    (λ whole grows. rw ends (wrote g.O.Write.contents _ _ c.args.self.now.whole c.args.self.now.plain c.follows.result _ c.args.self.now.end c.args.self.now.out _ _ _ buf _
    shown.some_columns (ap (λ (s : Surface). s.columns) went.keeps.surface) c.args.self.now.text_is_plain c.follows.ensures whole went.written
    grows bytes c.args.self.now.told))

pub returns-clause-shown : goal.returns-clause-shown
returns-clause-shown g c = λ char buf_is print room.
    let shown = c.args.self.now.shown in
    let buf = c.args.buf.now in
    let went = c.in_ok-write_and_flush-2.ensures in
    room-shown shown.columns _ char c.args.self.now.whole c.args.self.now.plain c.follows.result _ c.args.self.now.end _ _ _ _ buf refl refl shown.some_columns
    (ap (λ (s : Surface). s.columns) went.keeps.surface) buf_is print room c.args.self.now.text_is_plain c.follows.ensures c.in_ok-send.ensures.whole
    (c.calculate_position-end.ensures ∙ ap (measured shown.columns buf) c.cursor-place.ensures) went.written

pub invariant_of-self-then-goes_on_in_row : goal.invariant_of-self-then-goes_on_in_row
invariant_of-self-then-goes_on_in_row g c =
    let shown = c.args.self.now.shown in
    let buf = c.args.buf.now in
    let screen : Screen = record {
      position = shown.place;
      prompt = string_bytes shown.prompt;
      text = string_bytes shown.text;
      origin = shown.origin;
      behind = option_map string_bytes shown.hint;
      known = true;
    } in
    let follows = c.if-goes_on_in_row.ensures.follows refl in
    let room_left = c.if-goes_on_in_row.ensures.room refl in
    let sent = c.send.ensures in
    let went = c.in_ok-write_and_flush.ensures in
    let ends : c.cursor-self.result ≡ measured shown.columns buf shown.place = c.cursor-self.ensures ∙ ap (λ (s : Screen). s.position) went.written in
    let plain = sym c.args.self.now.text_is_plain ∙ c.if-self.true in
    let bytes = c.as_bytes.ensures.value ∙ sym (typed-bytes shown.columns screen c.args.self.now.end buf follows room_left) in
    record {
      text_is_plain = c.if-self.true ∙ sym (ap (λ (s : Screen). list_all is_plain s.text) went.written ∙ typed-plain shown.columns screen c.args.self.now.end buf follows plain);
      told = when-sent g.O.Write _ _ _ _ c.args.self.now.out _ _ _ _ _ _ sent.sends sent.whole sent.part
          (λ whole grows. rw ends (wrote g.O.Write.contents _ _ c.args.self.now.whole c.args.self.now.plain true _ c.args.self.now.end c.args.self.now.out _ _ _ buf _
          shown.some_columns (ap (λ (s : Surface). s.columns) went.keeps.surface) c.args.self.now.text_is_plain (sym follows) (typed-whole _ _ _ c.if-self.true whole) went.written
          grows bytes c.args.self.now.told));
    }

pub returns-then-goes_on_in_row-clause-shown : goal.returns-then-goes_on_in_row-clause-shown
returns-then-goes_on_in_row-clause-shown g c = λ char buf_is print room.
    let shown = c.args.self.now.shown in
    let buf = c.args.buf.now in
    let follows = c.if-goes_on_in_row.ensures.follows refl in
    let room_left = c.if-goes_on_in_row.ensures.room refl in
    let went = c.in_ok-write_and_flush.ensures in
    when-ok c.send.result _ c.send.ensures.whole
    (λ same. room-shown shown.columns _ char c.args.self.now.whole c.args.self.now.plain true _ c.args.self.now.end _ _ _ _ buf refl refl shown.some_columns
    (ap (λ (s : Surface). s.columns) went.keeps.surface) buf_is print room c.args.self.now.text_is_plain (sym follows) (typed-whole _ _ _ c.if-self.true same)
    (c.cursor-self.ensures ∙ ap (λ (s : Screen). s.position) went.written) went.written)

pub returns-then-goes_on_in_row-clause-writes : goal.returns-then-goes_on_in_row-clause-writes
returns-then-goes_on_in_row-clause-writes g c =
    let shown = c.args.self.now.shown in
    let screen : Screen = record {
      position = shown.place;
      prompt = string_bytes shown.prompt;
      text = string_bytes shown.text;
      origin = shown.origin;
      behind = option_map string_bytes shown.hint;
      known = true;
    } in
    let follows = c.if-goes_on_in_row.ensures.follows refl in
    let room_left = c.if-goes_on_in_row.ensures.room refl in
    rw (typed-bytes shown.columns screen c.args.self.now.end c.args.buf.now follows room_left) (search rules)
