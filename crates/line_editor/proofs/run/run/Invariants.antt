use Rattle.std.proofs.Common.{◌≡◌, Option, option_map, length}
use Rattle.std.specs.Borrow.{GName}
use Rattle.line_parts.specs.Helped.{completion_by, hint_by, lights_by, sure_by, update_by, verdict_by}
use Rattle.line_parts.specs.Hint.{suggestion_of}
use Rattle.line_keys.specs.declared.editor_state.EditorState.{Ghosts}
use Rattle.line_editor.specs.declared.edit.State.{State}
use Rattle.line_input.specs.InputState.{keys_of}
use Rattle.line_editor.specs.Outcomes.{session}
use Rattle.line_editor.proofs.UnderwayLemmas.{Underway}
use Rattle.line_editor.proofs.run.run.Given as goal

-- what contracts see of the state
abbrev pub editor_state : (g : goal.Over) → Ghosts (State g.row.W.Denot g.row.H.Denot g.row.P.Denot g.row.S.Denot g.row.W-Reader.Denot g.row.H-Candidate.Denot g.row.H-Hint.Denot g.W.ScreenState g.W.Reader.RawReader g.P.Prompt)
editor_state g = record {
  Loan = GName × Option GName;
  draft = λ s. record {
    line = s.line.edited.line;
    saved = s.line.saved_line_for_history;
    index = s.context.ctx.index;
    hint = option_map (suggestion_of g.H.Hint.Hint) s.line.hint;
    changes = s.line.edited.changes;
  };
  environment = λ s. record {
    hint_at = hint_by g.H.Hinter.hint_at s.context.helper;
    verdict_at = verdict_by g.H.Validator.verdict_at s.context.helper;
    lights = lights_by g.H.Highlighter.lights s.context.helper;
    completion_at = completion_by g.H.Completer.completion_at s.context.helper;
    updated = update_by g.H.Completer.updated s.context.helper;
    lines = g.S.History.lines s.context.ctx.history;
  };
  display = λ s. record {
    surface = g.W.ScreenState.surface s.view.out.now;
    prompt = g.P.Prompt.raw_text s.view.prompt.now;
    prompt_end = s.view.drawn.prompt_size;
    layout = s.view.drawn.layout;
    screen = g.W.ScreenState.screen s.view.out.now;
    lit = s.view.drawn.highlight_char;
  };
  loan = λ s. (s.view.out.ghost_name, option_map (λ h. h.ghost_name) s.context.helper);
  sure = λ s. sure_by g.H.Hinter.sure g.H.Validator.sure g.H.Completer.sure (g.S.History.sure s.context.ctx.history) s.context.helper;
  failures = λ s. g.W.ScreenState.failures s.view.out.now;
  redraws = λ s. g.W.ScreenState.redraws s.view.out.now;
}

abbrev pub invariant-turns : goal.invariant-turns
invariant-turns g l =
    let k = keys_of g.C.ConditionalEventHandler in
    Underway (editor_state g) g.W.Reader.RawReader l.fn.config.indent_size
    (session l.fn.state (k l.fn.input_state) l.fn.rdr l.fn.kill_ring) (session l.state (k l.input_state) l.rdr l.kill_ring)
    × (l.kill_ring.size ≡ l.fn.kill_ring.size)

abbrev pub decreases-turns : goal.decreases-turns
decreases-turns g l = length (g.W.Reader.RawReader.rest l.rdr)
