use Rattle.line_editor.specs.Operation.{by_movement}
use Rattle.line_editor.specs.Phrase.{behind_key, of_mode}
use Rattle.line_editor.specs.Tail.{alone, by_motion}
use Rattle.line_keys.specs.Item.{key}
use Rattle.line_keys.specs.Key.{event}
use Rattle.line_keys.specs.declared.keys.KeyCode.TheVariants.{Esc}
use Rattle.line_keys.specs.declared.keys.TheConstants.Modifiers.{NONE}
use Rattle.std.proofs.Common.{[], refl, ◌∷◌}
use Rattle.tests_screen.specs.Spoken.{plain, with_alt}
use Rattle.tests_screen.proofs.vi_phrases.insert_mode.Goals as goal

pub returns-clause-zero : goal.returns-clause-zero
returns-clause-zero c = λ environment. (
  _,
  behind_key (record {
    first = with_alt 48;
    plain = plain 48;
    rest = [];
    cut = refl;
    stands = refl;
    within = _;
    spelled = record {
      typed = [];
      last = plain 48;
      tail = [];
      cut = refl;
      counted = refl;
      behind = _;
      keyed = (_, alone _, refl);
      told = refl;
    };
    told = refl;
  }),
  refl,
  refl,
)

pub returns-clause-killed : goal.returns-clause-killed
returns-clause-killed c = λ environment. (
  _,
  behind_key (record {
    first = with_alt 100;
    plain = plain 100;
    rest = key (plain 119) ∷ [];
    cut = refl;
    stands = refl;
    within = _;
    spelled = record {
      typed = [];
      last = plain 100;
      tail = key (plain 119) ∷ [];
      cut = refl;
      counted = refl;
      behind = _;
      keyed = (
        _,
        by_motion _ _ _ _ (record {
          typed = [];
          last = plain 119;
          tail = [];
          cut = refl;
          counted = refl;
          behind = _;
          reaches = by_movement _;
          told = refl;
        }),
        refl,
      );
      told = refl;
    };
    told = refl;
  }),
  refl,
  refl,
)

pub returns-clause-counted : goal.returns-clause-counted
returns-clause-counted c = λ environment. (
  _,
  behind_key (record {
    first = with_alt 49;
    plain = plain 49;
    rest = key (plain 50) ∷ key (plain 120) ∷ [];
    cut = refl;
    stands = refl;
    within = _;
    spelled = record {
      typed = plain 49 ∷ plain 50 ∷ [];
      last = plain 120;
      tail = [];
      cut = refl;
      counted = refl;
      behind = _;
      keyed = (_, alone _, refl);
      told = refl;
    };
    told = refl;
  }),
  refl,
  refl,
)

pub returns-clause-plain_key : goal.returns-clause-plain_key
returns-clause-plain_key c = λ environment. (
  _,
  behind_key (record {
    first = with_alt 119;
    plain = plain 119;
    rest = [];
    cut = refl;
    stands = refl;
    within = _;
    spelled = record {
      typed = [];
      last = plain 119;
      tail = [];
      cut = refl;
      counted = refl;
      behind = _;
      keyed = (refl, refl);
      told = refl;
    };
    told = refl;
  }),
  refl,
  refl,
)

pub returns-clause-in_command_mode : goal.returns-clause-in_command_mode
returns-clause-in_command_mode c = λ environment. (
  _,
  of_mode (record {
    typed = [];
    last = plain 119;
    tail = [];
    cut = refl;
    counted = refl;
    behind = _;
    keyed = (refl, refl);
    told = refl;
  }),
  refl,
  refl,
)

pub returns-clause-own_key : goal.returns-clause-own_key
returns-clause-own_key c = λ environment. (
  _,
  of_mode (record {
    typed = [];
    last = with_alt 119;
    tail = [];
    cut = refl;
    counted = refl;
    behind = _;
    keyed = (refl, refl);
    told = refl;
  }),
  refl,
  refl,
)

pub returns-clause-begun : goal.returns-clause-begun
returns-clause-begun c = λ environment. (
  _,
  of_mode (record {
    typed = [];
    last = plain 105;
    tail = [];
    cut = refl;
    counted = refl;
    behind = _;
    keyed = (_, alone _, refl);
    told = refl;
  }),
  refl,
)

pub returns-clause-ended : goal.returns-clause-ended
returns-clause-ended c = λ environment. (
  _,
  of_mode (record {
    typed = [];
    last = event Esc NONE;
    tail = [];
    cut = refl;
    counted = refl;
    behind = _;
    keyed = (_, alone _, refl);
    told = refl;
  }),
  refl,
)

pub returns-clause-by_alt : goal.returns-clause-by_alt
returns-clause-by_alt c = λ environment. (
  _,
  behind_key (record {
    first = with_alt 105;
    plain = plain 105;
    rest = [];
    cut = refl;
    stands = refl;
    within = _;
    spelled = record {
      typed = [];
      last = plain 105;
      tail = [];
      cut = refl;
      counted = refl;
      behind = _;
      keyed = (_, alone _, refl);
      told = refl;
    };
    told = refl;
  }),
  refl,
)
