use Rattle.std.proofs.Common.{rules, ◌≡◌, ◌+◌, [], ◌∷◌, ◌++◌, false, length, ap, ◌∙◌, sym, refl, arith}
use Rattle.std.specs.List.{insert_slice}
use Rattle.std.proofs.lemmas.Grind.{common_steps}
use Rattle.line_buffer.specs.Line.{Line, end_of_line, inserted_at_cursor, with_cursor}
use Rattle.line_buffer.specs.Lines.{line_from}
use Rattle.line_buffer.proofs.FrontLemmas.{cursor_back_with_front, end_with_front, line_with_front}
use Rattle.line_buffer.proofs.IndentLemmas.{moved_before, moved_from}
use Rattle.line_buffer.proofs.line_buffer.LineBuffer.indent_line.Goals as goal
use Rattle.line_buffer.proofs.line_buffer.LineBuffer.indent_line.Goals.{then-cursor-start, else-cursor-start}

pub returns : goal.returns
returns c =
    record {
      line =
          let l = c.args.self.now in
          let t = c.args.spaces.now in
          let start = c.args.start in
          let line = line_from l.text start in
          let made = c.in_ok-insert_told.ensures.edit.line ∙ ap (λ (x : Line). inserted_at_cursor x t) c.set_pos.ensures.line in
          let text : c.insert_told.new.self.text ≡ insert_slice l.text start t = ap (λ (x : Line). x.text) made in
          let cursor = c.pos-cursor.ensures.value in
          let place : c.if-cursor-start.place ≡ moved_from false (length t) start (line ∷ []) l.cursor = elim c.if-cursor-start.branch [
            | then-cursor-start w ↦ w.place-is ∙ cursor ∙ sym (moved_before false (length t) start (line ∷ []) l.cursor (omega (arith, w.if-cursor-start.true, cursor)))
            | else-cursor-start w ↦
                let back = cursor_back_with_front l.text c.insert_told.new.self.text t start l.cursor line (omega (arith, w.if-cursor-start.false, cursor)) (omega (arith, c.pos-cursor.ensures.boundary.0, cursor)) text in
                omega (arith, w.place-is, w.len-else-cursor-start.ensures.value, c.len.ensures.value, cursor, back)
          ] in
          c.set_pos-2.ensures.line ∙ ap (λ (x : Line). with_cursor x c.if-cursor-start.place) made
          ∙ line_with_front l t start c.if-cursor-start.place c.requires.boundary.0 c.requires.spaces place;
      changes = search rules;
      tells = search rules;
      cursor = grind (arith, common_steps);
      stop =
          let l = c.args.self.now in
          let t = c.args.spaces.now in
          let start = c.args.start in
          let made = c.in_ok-insert_told.ensures.edit.line ∙ ap (λ (x : Line). inserted_at_cursor x t) c.set_pos.ensures.line in
          c.end_of_line-stop.ensures.place ∙ ap end_of_line made ∙ end_with_front l.text t start c.requires.boundary.0 (insert_slice l.text start t) refl
          ∙ ap (λ x. start + length (x ++ line_from l.text start)) c.requires.spaces;
      boundary = grind (arith, common_steps);
    }
