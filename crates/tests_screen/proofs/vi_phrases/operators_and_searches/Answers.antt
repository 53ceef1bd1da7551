use Rattle.line_editor.specs.Operation.{by_movement, nowhere, to_character, to_last}
use Rattle.line_editor.specs.Phrase.{of_mode}
use Rattle.line_editor.specs.Tail.{alone, by_character, by_last_search, by_motion}
use Rattle.line_keys.specs.Item.{key}
use Rattle.line_keys.specs.Key.{event}
use Rattle.line_keys.specs.declared.keys.KeyCode.TheVariants.{Enter}
use Rattle.line_keys.specs.declared.keys.TheConstants.Modifiers.{NONE}
use Rattle.std.proofs.Common.{[], refl, ◌∷◌}
use Rattle.tests_screen.specs.Spoken.{plain}
use Rattle.tests_screen.proofs.vi_phrases.operators_and_searches.Goals as goal

pub returns-clause-zero : goal.returns-clause-zero
returns-clause-zero c = λ environment. (
  _,
  of_mode (record {
    typed = [];
    last = plain 48;
    tail = [];
    cut = refl;
    counted = refl;
    behind = _;
    keyed = (_, alone _, refl);
    told = refl;
  }),
  refl,
  refl,
)

pub returns-clause-multiplied : goal.returns-clause-multiplied
returns-clause-multiplied c = λ environment. (
  _,
  of_mode (record {
    typed = plain 50 ∷ [];
    last = plain 100;
    tail = key (plain 51) ∷ key (plain 119) ∷ [];
    cut = refl;
    counted = refl;
    behind = _;
    keyed = (
      _,
      by_motion _ _ _ _ (record {
        typed = plain 51 ∷ [];
        last = plain 119;
        tail = [];
        cut = refl;
        counted = refl;
        behind = _;
        reaches = by_movement _;
        told = refl;
      }),
      refl,
    );
    told = refl;
  }),
  refl,
  refl,
)

pub returns-clause-saturated : goal.returns-clause-saturated
returns-clause-saturated c = λ environment. (
  _,
  of_mode (record {
    typed = plain 49 ∷ plain 50 ∷ plain 51 ∷ plain 52 ∷ plain 53 ∷ [];
    last = plain 100;
    tail = key (plain 57) ∷ key (plain 57) ∷ key (plain 57) ∷ key (plain 57) ∷ key (plain 108) ∷ [];
    cut = refl;
    counted = refl;
    behind = _;
    keyed = (
      _,
      by_motion _ _ _ _ (record {
        typed = plain 57 ∷ plain 57 ∷ plain 57 ∷ plain 57 ∷ [];
        last = plain 108;
        tail = [];
        cut = refl;
        counted = refl;
        behind = _;
        reaches = by_movement _;
        told = refl;
      }),
      refl,
    );
    told = refl;
  }),
  refl,
  refl,
)

pub returns-clause-whole : goal.returns-clause-whole
returns-clause-whole c = λ environment. (
  _,
  of_mode (record {
    typed = plain 51 ∷ [];
    last = plain 100;
    tail = key (plain 100) ∷ [];
    cut = refl;
    counted = refl;
    behind = _;
    keyed = (
      _,
      by_motion _ _ _ _ (record {
        typed = [];
        last = plain 100;
        tail = [];
        cut = refl;
        counted = refl;
        behind = _;
        reaches = by_movement _;
        told = refl;
      }),
      refl,
    );
    told = refl;
  }),
  refl,
  refl,
)

pub returns-clause-counted : goal.returns-clause-counted
returns-clause-counted c = λ environment. (
  _,
  of_mode (record {
    typed = [];
    last = plain 100;
    tail = key (plain 50) ∷ key (plain 100) ∷ [];
    cut = refl;
    counted = refl;
    behind = _;
    keyed = (
      _,
      by_motion _ _ _ _ (record {
        typed = plain 50 ∷ [];
        last = plain 100;
        tail = [];
        cut = refl;
        counted = refl;
        behind = _;
        reaches = nowhere;
        told = refl;
      }),
      refl,
    );
    told = refl;
  }),
  refl,
  refl,
)

pub returns-clause-other : goal.returns-clause-other
returns-clause-other c = λ environment. (
  _,
  of_mode (record {
    typed = [];
    last = plain 100;
    tail = key (plain 99) ∷ [];
    cut = refl;
    counted = refl;
    behind = _;
    keyed = (
      _,
      by_motion _ _ _ _ (record {
        typed = [];
        last = plain 99;
        tail = [];
        cut = refl;
        counted = refl;
        behind = _;
        reaches = nowhere;
        told = refl;
      }),
      refl,
    );
    told = refl;
  }),
  refl,
  refl,
)

pub returns-clause-vi_word : goal.returns-clause-vi_word
returns-clause-vi_word c = λ environment. (
  _,
  of_mode (record {
    typed = [];
    last = plain 99;
    tail = key (plain 119) ∷ [];
    cut = refl;
    counted = refl;
    behind = _;
    keyed = (
      _,
      by_motion _ _ _ _ (record {
        typed = [];
        last = plain 119;
        tail = [];
        cut = refl;
        counted = refl;
        behind = _;
        reaches = by_movement _;
        told = refl;
      }),
      refl,
    );
    told = refl;
  }),
  refl,
  refl,
)

pub returns-clause-big_word : goal.returns-clause-big_word
returns-clause-big_word c = λ environment. (
  _,
  of_mode (record {
    typed = [];
    last = plain 99;
    tail = key (plain 87) ∷ [];
    cut = refl;
    counted = refl;
    behind = _;
    keyed = (
      _,
      by_motion _ _ _ _ (record {
        typed = [];
        last = plain 87;
        tail = [];
        cut = refl;
        counted = refl;
        behind = _;
        reaches = by_movement _;
        told = refl;
      }),
      refl,
    );
    told = refl;
  }),
  refl,
  refl,
)

pub returns-clause-killed : goal.returns-clause-killed
returns-clause-killed c = λ environment. (
  _,
  of_mode (record {
    typed = [];
    last = plain 100;
    tail = key (plain 87) ∷ [];
    cut = refl;
    counted = refl;
    behind = _;
    keyed = (
      _,
      by_motion _ _ _ _ (record {
        typed = [];
        last = plain 87;
        tail = [];
        cut = refl;
        counted = refl;
        behind = _;
        reaches = by_movement _;
        told = refl;
      }),
      refl,
    );
    told = refl;
  }),
  refl,
  refl,
)

pub returns-clause-changes_nothing : goal.returns-clause-changes_nothing
returns-clause-changes_nothing c = λ environment. (
  _,
  of_mode (record {
    typed = [];
    last = plain 99;
    tail = key (plain 113) ∷ [];
    cut = refl;
    counted = refl;
    behind = _;
    keyed = (
      _,
      by_motion _ _ _ _ (record {
        typed = [];
        last = plain 113;
        tail = [];
        cut = refl;
        counted = refl;
        behind = _;
        reaches = nowhere;
        told = refl;
      }),
      refl,
    );
    told = refl;
  }),
  refl,
  refl,
)

pub returns-clause-moved : goal.returns-clause-moved
returns-clause-moved c = λ environment. (
  _,
  of_mode (record {
    typed = [];
    last = plain 102;
    tail = key (plain 120) ∷ [];
    cut = refl;
    counted = refl;
    behind = _;
    keyed = (_, by_character _ _ _, refl);
    told = refl;
  }),
  refl,
  refl,
)

pub returns-clause-killed_to_a_character : goal.returns-clause-killed_to_a_character
returns-clause-killed_to_a_character c = λ environment. (
  _,
  of_mode (record {
    typed = [];
    last = plain 100;
    tail = key (plain 50) ∷ key (plain 116) ∷ key (plain 120) ∷ [];
    cut = refl;
    counted = refl;
    behind = _;
    keyed = (
      _,
      by_motion _ _ _ _ (record {
        typed = plain 50 ∷ [];
        last = plain 116;
        tail = key (plain 120) ∷ [];
        cut = refl;
        counted = refl;
        behind = _;
        reaches = to_character _ _ _;
        told = refl;
      }),
      refl,
    );
    told = refl;
  }),
  refl,
  refl,
)

pub returns-clause-other_key : goal.returns-clause-other_key
returns-clause-other_key c = λ environment. (
  _,
  of_mode (record {
    typed = [];
    last = plain 102;
    tail = key (event Enter NONE) ∷ [];
    cut = refl;
    counted = refl;
    behind = _;
    keyed = (_, by_character _ _ _, refl);
    told = refl;
  }),
  refl,
  refl,
)

pub returns-clause-same : goal.returns-clause-same
returns-clause-same c = λ environment. (
  _,
  of_mode (record {
    typed = plain 51 ∷ [];
    last = plain 59;
    tail = [];
    cut = refl;
    counted = refl;
    behind = _;
    keyed = (_, by_last_search _ _, refl);
    told = refl;
  }),
  refl,
  refl,
)

pub returns-clause-opposite : goal.returns-clause-opposite
returns-clause-opposite c = λ environment. (
  _,
  of_mode (record {
    typed = [];
    last = plain 44;
    tail = [];
    cut = refl;
    counted = refl;
    behind = _;
    keyed = (_, by_last_search _ _, refl);
    told = refl;
  }),
  refl,
  refl,
)

pub returns-clause-killed_to_the_last : goal.returns-clause-killed_to_the_last
returns-clause-killed_to_the_last c = λ environment. (
  _,
  of_mode (record {
    typed = [];
    last = plain 100;
    tail = key (plain 44) ∷ [];
    cut = refl;
    counted = refl;
    behind = _;
    keyed = (
      _,
      by_motion _ _ _ _ (record {
        typed = [];
        last = plain 44;
        tail = [];
        cut = refl;
        counted = refl;
        behind = _;
        reaches = to_last _ _;
        told = refl;
      }),
      refl,
    );
    told = refl;
  }),
  refl,
  refl,
)

pub returns-clause-without_a_search : goal.returns-clause-without_a_search
returns-clause-without_a_search c = λ environment. (
  _,
  of_mode (record {
    typed = [];
    last = plain 59;
    tail = [];
    cut = refl;
    counted = refl;
    behind = _;
    keyed = (_, by_last_search _ _, refl);
    told = refl;
  }),
  refl,
  refl,
)

pub returns-clause-no_motion : goal.returns-clause-no_motion
returns-clause-no_motion c = λ environment. (
  _,
  of_mode (record {
    typed = [];
    last = plain 100;
    tail = key (plain 59) ∷ [];
    cut = refl;
    counted = refl;
    behind = _;
    keyed = (
      _,
      by_motion _ _ _ _ (record {
        typed = [];
        last = plain 59;
        tail = [];
        cut = refl;
        counted = refl;
        behind = _;
        reaches = to_last _ _;
        told = refl;
      }),
      refl,
    );
    told = refl;
  }),
  refl,
  refl,
)
