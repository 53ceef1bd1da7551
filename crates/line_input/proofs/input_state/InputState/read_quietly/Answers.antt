use Rattle.std.proofs.Common.{arith, rules, [], ◌∷◌, refl, ◌∙◌}
use Rattle.std.proofs.lemmas.Grind.{common_steps}
use Rattle.std.specs.String.{string_bytes}
use Rattle.std.proofs.lemmas.Result.{err_from_is_err_and}
use Rattle.line_buffer.specs.Search.{opposite}
use Rattle.line_keys.specs.Item.{key, paste}
use Rattle.line_input.specs.Tail.{by_last_change, by_paste, by_replacement}
use Rattle.line_input.specs.Binding.{bound_of}
use Rattle.line_input.specs.Input.{in_mode}
use Rattle.line_input.specs.InputState.{input_of}
use Rattle.line_input.proofs.ReadingLemmas.{fault_dry, on_err}
use Rattle.line_input.proofs.TailLemmas.{again_read, changed_place, command_read, paste_ends, replacement_ends, search_ends, search_read, stays_read, tail_stops}
use Rattle.line_input.proofs.input_state.InputState.read_quietly.Goals as goal

pub returns-in_err-next_key-in-Search-clause-reads : goal.returns-in_err-next_key-in-Search-clause-reads
returns-in_err-next_key-in-Search-clause-reads g c =
    let p = err_from_is_err_and c.from_residual.result c.from_residual.ensures.1 in
    rw (p.1, p.2) (λ no.
    let dry = fault_dry _ _ c.in_err-next_key-in-Search.ensures.fault no in
    (dry.0, rw c.in-Search.is (search_ends _ _ _ _ _ _ _ _ _ _ dry.1 c.in_err-next_key-in-Search.ensures.kept)))

pub returns-in_err-read_pasted_text-in-Paste-clause-reads : goal.returns-in_err-read_pasted_text-in-Paste-clause-reads
returns-in_err-read_pasted_text-in-Paste-clause-reads g c =
    let p = err_from_is_err_and c.from_residual-in_err-read_pasted_text-in-Paste.result c.from_residual-in_err-read_pasted_text-in-Paste.ensures.1 in
    rw (p.1, p.2) (λ no.
    let dry = fault_dry _ _ c.in_err-read_pasted_text-in-Paste.ensures.fault no in
    (dry.0, rw c.in-Paste.is (paste_ends _ _ _ _ _ _ _ _ dry.1 c.in_err-read_pasted_text-in-Paste.ensures.kept)))

pub returns-in_err-next_key-in-ReplaceChar-clause-reads : goal.returns-in_err-next_key-in-ReplaceChar-clause-reads
returns-in_err-next_key-in-ReplaceChar-clause-reads g c =
    let p = err_from_is_err_and c.from_residual-in_err-next_key-in-ReplaceChar.result c.from_residual-in_err-next_key-in-ReplaceChar.ensures.1 in
    rw (p.1, p.2) (λ no.
    let dry = fault_dry _ _ c.in_err-next_key-in-ReplaceChar.ensures.fault no in
    (dry.0, rw c.in-ReplaceChar.is (replacement_ends _ _ _ _ _ _ _ _ _ dry.1 c.in_err-next_key-in-ReplaceChar.ensures.kept)))

pub returns-in-Command-clause-reads : goal.returns-in-Command-clause-reads
returns-in-Command-clause-reads g c =
    rw c.in-Command.is (stays_read _ _ _ _ _ _ c.args.rdr.now c.args.rdr.now _ _ _ _ c.args.rdr.now c.behind.ensures.search c.behind.ensures.command
    (command_read _ _ _ _ _ _ c.args.rdr.now c.args.rdr.now _))

pub returns-in_ok-next_key-in-Search-clause-reads : goal.returns-in_ok-next_key-in-Search-clause-reads
returns-in_ok-next_key-in-Search-clause-reads g c =
    rw c.in-Search.is (search_read _ _ _ _ _ _ _ _ _ _ c.in_ok-next_key-in-Search.field-0 _ _ _ _ c.in_ok-next_key-in-Search.ensures.took c.of_key-found.ensures c.place_of.ensures (c.behind-in-Search.ensures.command ∙ c.move_or.ensures) c.or.ensures)

pub returns-in-SearchAgain-clause-reads : goal.returns-in-SearchAgain-clause-reads
returns-in-SearchAgain-clause-reads g c =
    rw c.in-SearchAgain.is (again_read _ _ _ _ _ _ c.args.rdr.now c.args.rdr.now _ (λ search. search) _ _ _ c.behind-in-SearchAgain.ensures.search c.place_of-in-SearchAgain.ensures
    (c.behind-in-SearchAgain.ensures.command ∙ c.move_or-in-SearchAgain.ensures))

pub returns-in-SearchBack-clause-reads : goal.returns-in-SearchBack-clause-reads
returns-in-SearchBack-clause-reads g c =
    let place = changed_place _ (λ search. opposite search) _ _ _ c.place_of-in-SearchBack.ensures c.opposite_of.ensures in
    rw c.in-SearchBack.is (again_read _ _ _ _ _ _ c.args.rdr.now c.args.rdr.now _ (λ search. opposite search) _ _ _ c.behind-in-SearchBack.ensures.search place
    (c.behind-in-SearchBack.ensures.command ∙ c.move_or-in-SearchBack.ensures))

pub returns-in_ok-read_pasted_text-in-Paste-clause-reads : goal.returns-in_ok-read_pasted_text-in-Paste-clause-reads
returns-in_ok-read_pasted_text-in-Paste-clause-reads g c =
    rw c.in-Paste.is (stays_read _ _ _ _ _ _ c.args.rdr.now c.args.rdr.now _ _ _ _ _ c.behind-in-Paste.ensures.search c.behind-in-Paste.ensures.command (record {
      items = paste (string_bytes c.in_ok-read_pasted_text-in-Paste.field-0) ∷ [];
      cut = c.in_ok-read_pasted_text-in-Paste.ensures.took;
      comes = by_paste (string_bytes c.in_ok-read_pasted_text-in-Paste.field-0);
    }))

pub returns-in_ok-next_key-in-ReplaceChar-clause-reads : goal.returns-in_ok-next_key-in-ReplaceChar-clause-reads
returns-in_ok-next_key-in-ReplaceChar-clause-reads g c =
    rw c.in-ReplaceChar.is (stays_read _ _ _ _ _ _ c.args.rdr.now c.args.rdr.now _ _ _ _ _ c.behind-in-ReplaceChar.ensures.search
    (c.behind-in-ReplaceChar.ensures.command ∙ c.replaced_by.ensures) (record {
      items = key c.in_ok-next_key-in-ReplaceChar.field-0 ∷ [];
      cut = c.in_ok-next_key-in-ReplaceChar.ensures.took;
      comes = by_replacement _ c.in_ok-next_key-in-ReplaceChar.field-0;
    }))

pub returns-in_ok-again-in-Again-clause-reads : goal.returns-in_ok-again-in-Again-clause-reads
returns-in_ok-again-in-Again-clause-reads g c =
    rw c.in-Again.is (stays_read _ _ _ _ _ _ c.args.rdr.now c.args.rdr.now _ _ _ _ c.args.rdr.now c.behind-in-Again.ensures.search
    (c.behind-in-Again.ensures.command ∙ c.in_ok-again-in-Again.ensures.command) (record { items = []; cut = refl; comes = by_last_change _ }))

pub returns-in_err-next_key-in-Search-clause-within : goal.returns-in_err-next_key-in-Search-clause-within
returns-in_err-next_key-in-Search-clause-within g c =
    on_err c.from_residual.result (rw c.in-Search.is (tail_stops _ (bound_of g.C.ConditionalEventHandler c.args.self.now.bindings.now) (g.W.EditorState.environment c.args.wrt.now) (g.W.EditorState.draft c.args.wrt.now) (in_mode c.args.mode (input_of c.args.self.now)) c.args.count _ _ _ _ c.in_err-next_key-in-Search.ensures.kept))

pub returns-in_err-read_pasted_text-in-Paste-clause-within : goal.returns-in_err-read_pasted_text-in-Paste-clause-within
returns-in_err-read_pasted_text-in-Paste-clause-within g c =
    on_err c.from_residual-in_err-read_pasted_text-in-Paste.result (rw c.in-Paste.is (tail_stops _ (bound_of g.C.ConditionalEventHandler c.args.self.now.bindings.now) (g.W.EditorState.environment c.args.wrt.now) (g.W.EditorState.draft c.args.wrt.now) (in_mode c.args.mode (input_of c.args.self.now)) c.args.count _ _ _ _ c.in_err-read_pasted_text-in-Paste.ensures.kept))

pub returns-in_err-next_key-in-ReplaceChar-clause-within : goal.returns-in_err-next_key-in-ReplaceChar-clause-within
returns-in_err-next_key-in-ReplaceChar-clause-within g c =
    on_err c.from_residual-in_err-next_key-in-ReplaceChar.result (rw c.in-ReplaceChar.is (tail_stops _ (bound_of g.C.ConditionalEventHandler c.args.self.now.bindings.now) (g.W.EditorState.environment c.args.wrt.now) (g.W.EditorState.draft c.args.wrt.now) (in_mode c.args.mode (input_of c.args.self.now)) c.args.count _ _ _ _ c.in_err-next_key-in-ReplaceChar.ensures.kept))

pub returns-in_err-again-in-Again-clause-within : goal.returns-in_err-again-in-Again-clause-within
returns-in_err-again-in-Again-clause-within g c =
    on_err c.from_residual-in_err-again-in-Again.result (rw c.in-Again.is (tail_stops _ (bound_of g.C.ConditionalEventHandler c.args.self.now.bindings.now) (g.W.EditorState.environment c.args.wrt.now) (g.W.EditorState.draft c.args.wrt.now) (in_mode c.args.mode (input_of c.args.self.now)) c.args.count _ c.args.rdr.now c.args.rdr.now _ refl))

pub returns-in_ok-next_key-in-Search-clause-items : goal.returns-in_ok-next_key-in-Search-clause-items
returns-in_ok-next_key-in-Search-clause-items g c =
    record {
      own = search rules;
      counts = search rules;
      fewer = grind (arith, common_steps);
      not_interrupted = search rules;
      io = search rules;
      quiet = search rules;
    }

pub returns-in_ok-read_pasted_text-in-Paste-clause-items : goal.returns-in_ok-read_pasted_text-in-Paste-clause-items
returns-in_ok-read_pasted_text-in-Paste-clause-items g c =
    record {
      own = search rules;
      counts = search rules;
      fewer = grind (arith, common_steps);
      not_interrupted = search rules;
      io = search rules;
      quiet = search rules;
    }

pub returns-in_ok-next_key-in-ReplaceChar-clause-items : goal.returns-in_ok-next_key-in-ReplaceChar-clause-items
returns-in_ok-next_key-in-ReplaceChar-clause-items g c =
    record {
      own = search rules;
      counts = search rules;
      fewer = grind (arith, common_steps);
      not_interrupted = search rules;
      io = search rules;
      quiet = search rules;
    }
