use Rattle.std.proofs.Common.{rules, ◌≡◌, ◌+◌, ◌-◌, ◌≤◌, max, [], ◌∷◌, true, length, take, drop, ap, ◌∙◌, sym, refl, arith}
use Rattle.std.specs.List.{remove_range}
use Rattle.std.specs.Str.{IsCharBoundary}
use Rattle.line_buffer.specs.Changes.{with_delete, with_entries}
use Rattle.line_buffer.specs.Indent.{blank_front}
use Rattle.line_buffer.specs.Line.{Line, end_of_line, with_cursor}
use Rattle.line_buffer.specs.Lines.{line_from}
use Rattle.line_buffer.proofs.FrontLemmas.{boundary_back_without_front, boundary_before_loss, cursor_back_without_front, end_without_front, gone_from_front, line_fits, line_is, line_without_front}
use Rattle.line_buffer.proofs.IndentLemmas.{moved_before, moved_from}
use Rattle.line_buffer.proofs.line_buffer.LineBuffer.dedent_line.Goals as goal
use Rattle.line_buffer.proofs.line_buffer.LineBuffer.dedent_line.Goals.{then-cursor-start, else-cursor-start}

pub overflow_add-start : goal.overflow_add-start
overflow_add-start c =
    let text = c.args.self.now.text in
    let start = c.args.start in
    let lost = c.blank_len-lost.result in
    let within = c.requires.boundary.0 in
    let line = line_is text c.text_from-rest.result.now c.range.result.now start c.first_line_len.result c.text_from-rest.ensures c.first_line_len.ensures.place c.range.ensures.value in
    let fits : lost ≤ length (line_from text start) = omega (arith, c.blank_len-lost.ensures.boundary.0, ap length line) in
    omega (arith, line_fits text start within, c.len.ensures.value)

pub set_pos-requires : goal.set_pos-requires
set_pos-requires c =
    let text = c.args.self.now.text in
    let start = c.args.start in
    let lost = c.blank_len-lost.result in
    let within = c.requires.boundary.0 in
    let line = line_is text c.text_from-rest.result.now c.range.result.now start c.first_line_len.result c.text_from-rest.ensures c.first_line_len.ensures.place c.range.ensures.value in
    let fits : lost ≤ length (line_from text start) = omega (arith, c.blank_len-lost.ensures.boundary.0, ap length line) in
    let made = c.in_ok-delete_range.ensures.line in
    let gone : c.delete_range.new.self.text ≡ remove_range text start (start + lost) = ap (λ (x : Line). x.text) made in
    let cursor = c.pos-cursor.ensures.value in
    let there : IsCharBoundary c.delete_range.new.self.text start = rw (← ap (λ (x : Line). x.cursor) made) c.in_ok-delete_range.ensures.cursor in
    let here : IsCharBoundary text c.args.self.now.cursor = rw (← cursor) c.pos-cursor.ensures.boundary in
    let place : IsCharBoundary c.delete_range.new.self.text c.if-cursor-start.place = elim c.if-cursor-start.branch [
      | then-cursor-start w ↦ rw (w.place-is, cursor) (boundary_before_loss text start lost within fits c.delete_range.new.self.text c.args.self.now.cursor gone here (omega (arith, w.if-cursor-start.true, cursor)))
      | else-cursor-start w ↦
          let back : c.if-cursor-start.place ≡ max (length c.delete_range.new.self.text - (length text - c.args.self.now.cursor)) start =
          omega (arith, w.place-is, w.max-place.ensures, w.saturating_sub.ensures, w.len-else-cursor-start.ensures.value, c.len.ensures.value, cursor) in
          rw back (boundary_back_without_front text c.delete_range.new.self.text start lost c.args.self.now.cursor within fits gone here there (omega (arith, w.if-cursor-start.false, cursor)))
    ] in
    place

pub returns : goal.returns
returns c =
    let text = c.args.self.now.text in
    let start = c.args.start in
    let lost = c.blank_len-lost.result in
    let within = c.requires.boundary.0 in
    let line = line_is text c.text_from-rest.result.now c.range.result.now start c.first_line_len.result c.text_from-rest.ensures c.first_line_len.ensures.place c.range.ensures.value in
    let fits : lost ≤ length (line_from text start) = omega (arith, c.blank_len-lost.ensures.boundary.0, ap length line) in
    let made = c.in_ok-delete_range.ensures.line in
    let gone : c.delete_range.new.self.text ≡ remove_range text start (start + lost) = ap (λ (x : Line). x.text) made in
    let cursor = c.pos-cursor.ensures.value in
    let is : lost ≡ length (blank_front c.args.amount (line_from text start)) = c.blank_len-lost.ensures.len ∙ ap (λ x. length (blank_front c.args.amount x)) line in
    record {
      line =
          let l = c.args.self.now in
          let place : c.if-cursor-start.place ≡ moved_from true c.args.amount start (line_from text start ∷ []) l.cursor = elim c.if-cursor-start.branch [
            | then-cursor-start w ↦ w.place-is ∙ cursor ∙ sym (moved_before true c.args.amount start (line_from text start ∷ []) l.cursor (omega (arith, w.if-cursor-start.true, cursor)))
            | else-cursor-start w ↦
                let back = cursor_back_without_front text c.delete_range.new.self.text c.args.amount start l.cursor lost (line_from text start) (omega (arith, w.if-cursor-start.false, cursor))
                (omega (arith, c.pos-cursor.ensures.boundary.0, cursor)) (omega (arith, line_fits text start within)) is fits gone in
                omega (arith, w.place-is, w.max-place.ensures, w.saturating_sub.ensures, w.len-else-cursor-start.ensures.value, c.len.ensures.value, cursor, back)
          ] in
          c.set_pos.ensures.line ∙ ap (λ (x : Line). with_cursor x c.if-cursor-start.place) made
          ∙ line_without_front l c.args.amount start lost c.if-cursor-start.place within fits is place;
      changes =
          let bytes = ap (take lost) (sym line) ∙ c.blank_len-lost.ensures.bytes ∙ ap (λ x. blank_front c.args.amount x) line in
          c.in_ok-delete_range.ensures.changes
          ∙ ap (λ x. with_entries c.args.changes.now (with_delete start x c.args.changes.now.entries)) (gone_from_front text start lost within fits ∙ bytes);
      tells = search rules;
      cursor =
          let there : IsCharBoundary c.delete_range.new.self.text start = rw (← ap (λ (x : Line). x.cursor) made) c.in_ok-delete_range.ensures.cursor in
          let here : IsCharBoundary text c.args.self.now.cursor = rw (← cursor) c.pos-cursor.ensures.boundary in
          let place : IsCharBoundary c.delete_range.new.self.text c.if-cursor-start.place = elim c.if-cursor-start.branch [
            | then-cursor-start w ↦ rw (w.place-is, cursor) (boundary_before_loss text start lost within fits c.delete_range.new.self.text c.args.self.now.cursor gone here (omega (arith, w.if-cursor-start.true, cursor)))
            | else-cursor-start w ↦
                let back : c.if-cursor-start.place ≡ max (length c.delete_range.new.self.text - (length text - c.args.self.now.cursor)) start =
                omega (arith, w.place-is, w.max-place.ensures, w.saturating_sub.ensures, w.len-else-cursor-start.ensures.value, c.len.ensures.value, cursor) in
                rw back (boundary_back_without_front text c.delete_range.new.self.text start lost c.args.self.now.cursor within fits gone here there (omega (arith, w.if-cursor-start.false, cursor)))
          ] in
          rw c.set_pos.ensures.line place;
      stop =
          c.end_of_line-stop.ensures.place ∙ ap end_of_line made ∙ end_without_front text start lost within fits (remove_range text start (start + lost)) refl
          ∙ ap (λ n. start + length (drop n (line_from text start))) is;
      boundary = search rules;
    }
