-- Settings that are equal are the same.
use Rattle.std.proofs.Common.{rules, ◌≡◌, ℕ, Bool, true, false, ◌&&◌, Option, Some, None, refl, ap, nat_eq}
use Rattle.std.proofs.lemmas.Bool.{eqb-true}
use Rattle.std.specs.Option.{option_eq}
use mathlib.Core.Bool.{beq}
use denote.Enum.Bare.{same_true}
use Rattle.line_buffer.specs.contracts.layout.GraphemeClusterMode as GraphemeClusterMode
use Rattle.line_config.specs.contracts.config.Behavior as Behavior
use Rattle.line_config.specs.contracts.config.BellStyle as BellStyle
use Rattle.line_config.specs.contracts.config.ColorMode as ColorMode
use Rattle.line_config.specs.contracts.config.CompletionType as CompletionType
use Rattle.line_config.specs.contracts.config.ConfigEq.TheImpl.Laws.{laws-law}
use Rattle.line_config.specs.contracts.config.EditMode as EditMode
use Rattle.line_config.specs.contracts.config.HistoryDuplicates as HistoryDuplicates
use Rattle.line_config.specs.Settings.{Settings}
use Rattle.line_config.proofs.laws.equal_is_same.Goals as goal

-- a test of two equalities is one of both
both : (a b : Bool) → (a && b) ≡ true → (a ≡ true) × (b ≡ true)
both true b h = (refl, h)
both false b h = cc

same_bool : (a b : Bool) → beq a b ≡ true → a ≡ b
same_bool true true h = refl
same_bool true false h = cc
same_bool false true h = cc
same_bool false false h = refl

same_option : (a b : Option ℕ) → option_eq nat_eq a b ≡ true → a ≡ b
same_option (Some a) (Some b) h = ap Some (eqb-true a b h)
same_option (Some a) None h = cc
same_option None (Some b) h = cc
same_option None None h = refl

-- settings, field by field
abbrev fields : Settings → Settings
fields s = record {
  max_history_size = s.max_history_size;
  history_duplicates = s.history_duplicates;
  history_ignore_space = s.history_ignore_space;
  completion_type = s.completion_type;
  completion_prompt_limit = s.completion_prompt_limit;
  completion_show_all_if_ambiguous = s.completion_show_all_if_ambiguous;
  keyseq_timeout = s.keyseq_timeout;
  edit_mode = s.edit_mode;
  auto_add_history = s.auto_add_history;
  bell_style = s.bell_style;
  color_mode = s.color_mode;
  grapheme_cluster_mode = s.grapheme_cluster_mode;
  behavior = s.behavior;
  tab_stop = s.tab_stop;
  indent_size = s.indent_size;
  check_cursor_position = s.check_cursor_position;
  enable_bracketed_paste = s.enable_bracketed_paste;
  enable_synchronized_output = s.enable_synchronized_output;
  enable_signals = s.enable_signals;
}

-- settings are the same where each is
same_settings : (one other : Settings) → one.max_history_size ≡ other.max_history_size
    → one.history_duplicates ≡ other.history_duplicates
    → one.history_ignore_space ≡ other.history_ignore_space
    → one.completion_type ≡ other.completion_type
    → one.completion_prompt_limit ≡ other.completion_prompt_limit
    → one.completion_show_all_if_ambiguous ≡ other.completion_show_all_if_ambiguous
    → one.keyseq_timeout ≡ other.keyseq_timeout
    → one.edit_mode ≡ other.edit_mode
    → one.auto_add_history ≡ other.auto_add_history
    → one.bell_style ≡ other.bell_style
    → one.color_mode ≡ other.color_mode
    → one.grapheme_cluster_mode ≡ other.grapheme_cluster_mode
    → one.behavior ≡ other.behavior
    → one.tab_stop ≡ other.tab_stop
    → one.indent_size ≡ other.indent_size
    → one.check_cursor_position ≡ other.check_cursor_position
    → one.enable_bracketed_paste ≡ other.enable_bracketed_paste
    → one.enable_synchronized_output ≡ other.enable_synchronized_output
    → one.enable_signals ≡ other.enable_signals
    → fields one ≡ fields other
same_settings one other e0 e1 e2 e3 e4 e5 e6 e7 e8 e9 e10 e11 e12 e13 e14 e15 e16 e17 e18 = cc

pub returns-clause-config : goal.returns-clause-config
returns-clause-config c one other = (
  λ equal.
      let p0 = both _ _ equal in
      let p1 = both _ _ p0.1 in
      let p2 = both _ _ p1.1 in
      let p3 = both _ _ p2.1 in
      let p4 = both _ _ p3.1 in
      let p5 = both _ _ p4.1 in
      let p6 = both _ _ p5.1 in
      let p7 = both _ _ p6.1 in
      let p8 = both _ _ p7.1 in
      let p9 = both _ _ p8.1 in
      let p10 = both _ _ p9.1 in
      let p11 = both _ _ p10.1 in
      let p12 = both _ _ p11.1 in
      let p13 = both _ _ p12.1 in
      let p14 = both _ _ p13.1 in
      let p15 = both _ _ p14.1 in
      let p16 = both _ _ p15.1 in
      let p17 = both _ _ p16.1 in
      same_settings _ _ (eqb-true _ _ p0.0)
      (same_true HistoryDuplicates.the_type (search rules) _ _ p1.0)
      (same_bool _ _ p2.0)
      (same_true CompletionType.the_type (search rules) _ _ p3.0)
      (eqb-true _ _ p4.0)
      (same_bool _ _ p5.0)
      (same_option _ _ p6.0)
      (same_true EditMode.the_type (search rules) _ _ p7.0)
      (same_bool _ _ p8.0)
      (same_true BellStyle.the_type (search rules) _ _ p9.0)
      (same_true ColorMode.the_type (search rules) _ _ p10.0)
      (same_true GraphemeClusterMode.the_type (search rules) _ _ p11.0)
      (same_true Behavior.the_type (search rules) _ _ p12.0)
      (eqb-true _ _ p13.0)
      (eqb-true _ _ p14.0)
      (same_bool _ _ p15.0)
      (same_bool _ _ p16.0)
      (same_bool _ _ p17.0)
      (same_bool _ _ p17.1),
  λ same. rw (← same) (laws-law.refl one),
)
