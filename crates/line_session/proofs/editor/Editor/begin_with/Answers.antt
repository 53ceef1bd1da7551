use Rattle.line_session.proofs.CameLemmas.{began_so, begun_so, kept_so}
use Rattle.line_session.proofs.editor.Editor.begin_with.Goals as goal

pub returns : goal.returns
returns g c =
    let starts = c.in_ok-start.ensures.starts in
    let turns = c.take_turns.ensures in
    record {
      came = begun_so _ _ _ _ _ _ _ _ _ starts (turns.came starts.begun starts.line);
      keeps = kept_so _ _ _ _ _ starts.keeps turns.keeps;
      left_so = began_so _ _ _ _ _ _ _ _ starts turns.left;
      faults = turns.faults;
    }
