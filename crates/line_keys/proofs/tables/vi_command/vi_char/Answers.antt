use Rattle.line_keys.proofs.TableLemmas.{passed_over}
use Rattle.line_keys.proofs.tables.vi_command.vi_char.Goals as goal

pub returns : goal.returns
returns g c =
    passed_over _ _ _ _ _ _ c.in_default.is c.vi_move.ensures
    (passed_over _ _ _ _ _ _ c.in_default-vi_search.is c.vi_search.ensures
    (passed_over _ _ _ _ _ _ c.in_default-vi_enter.is c.vi_enter.ensures
    (passed_over _ _ _ _ _ _ c.in_default-vi_change.is c.vi_change.ensures c.vi_line.ensures)))
