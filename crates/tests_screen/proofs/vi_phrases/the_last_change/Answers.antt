use Rattle.line_editor.specs.Phrase.{of_mode}
use Rattle.line_editor.specs.Tail.{by_last_change}
use Rattle.std.proofs.Common.{[], refl, ◌∷◌}
use Rattle.tests_screen.specs.Spoken.{plain}
use Rattle.tests_screen.proofs.vi_phrases.the_last_change.Goals as goal

pub returns-clause-nothing : goal.returns-clause-nothing
returns-clause-nothing c = λ environment. (
  _,
  of_mode (record {
    typed = plain 50 ∷ [];
    last = plain 46;
    tail = [];
    cut = refl;
    counted = refl;
    behind = _;
    keyed = (_, by_last_change _, refl);
    told = refl;
  }),
  refl,
  refl,
)

pub returns-clause-killed : goal.returns-clause-killed
returns-clause-killed c = λ environment. (
  _,
  of_mode (record {
    typed = plain 50 ∷ [];
    last = plain 46;
    tail = [];
    cut = refl;
    counted = refl;
    behind = _;
    keyed = (_, by_last_change _, refl);
    told = refl;
  }),
  refl,
  refl,
)

pub returns-clause-kept : goal.returns-clause-kept
returns-clause-kept c = λ environment. (
  _,
  of_mode (record {
    typed = [];
    last = plain 46;
    tail = [];
    cut = refl;
    counted = refl;
    behind = _;
    keyed = (_, by_last_change _, refl);
    told = refl;
  }),
  refl,
  refl,
)

pub returns-clause-copied : goal.returns-clause-copied
returns-clause-copied c = λ environment. (
  _,
  of_mode (record {
    typed = plain 50 ∷ [];
    last = plain 46;
    tail = [];
    cut = refl;
    counted = refl;
    behind = _;
    keyed = (_, by_last_change _, refl);
    told = refl;
  }),
  refl,
  refl,
)

pub returns-clause-yanked : goal.returns-clause-yanked
returns-clause-yanked c = λ environment. (
  _,
  of_mode (record {
    typed = plain 50 ∷ [];
    last = plain 46;
    tail = [];
    cut = refl;
    counted = refl;
    behind = _;
    keyed = (_, by_last_change _, refl);
    told = refl;
  }),
  refl,
  refl,
)

pub returns-clause-replaced : goal.returns-clause-replaced
returns-clause-replaced c = λ environment. (
  _,
  of_mode (record {
    typed = plain 50 ∷ [];
    last = plain 46;
    tail = [];
    cut = refl;
    counted = refl;
    behind = _;
    keyed = (_, by_last_change _, refl);
    told = refl;
  }),
  refl,
  refl,
)

pub returns-clause-without_count : goal.returns-clause-without_count
returns-clause-without_count c = λ environment. (
  _,
  of_mode (record {
    typed = plain 50 ∷ [];
    last = plain 46;
    tail = [];
    cut = refl;
    counted = refl;
    behind = _;
    keyed = (_, by_last_change _, refl);
    told = refl;
  }),
  refl,
  refl,
)

pub returns-clause-replaced_by_text : goal.returns-clause-replaced_by_text
returns-clause-replaced_by_text c = λ environment. (
  _,
  of_mode (record {
    typed = plain 50 ∷ [];
    last = plain 46;
    tail = [];
    cut = refl;
    counted = refl;
    behind = _;
    keyed = (_, by_last_change _, refl);
    told = refl;
  }),
  refl,
  refl,
)

pub returns-clause-typed_over : goal.returns-clause-typed_over
returns-clause-typed_over c = λ environment. (
  _,
  of_mode (record {
    typed = plain 50 ∷ [];
    last = plain 46;
    tail = [];
    cut = refl;
    counted = refl;
    behind = _;
    keyed = (_, by_last_change _, refl);
    told = refl;
  }),
  refl,
  refl,
)

pub returns-clause-typed : goal.returns-clause-typed
returns-clause-typed c = λ environment. (
  _,
  of_mode (record {
    typed = plain 50 ∷ [];
    last = plain 46;
    tail = [];
    cut = refl;
    counted = refl;
    behind = _;
    keyed = (_, by_last_change _, refl);
    told = refl;
  }),
  refl,
  refl,
)

pub returns-clause-untyped : goal.returns-clause-untyped
returns-clause-untyped c = λ environment. (
  _,
  of_mode (record {
    typed = plain 50 ∷ [];
    last = plain 46;
    tail = [];
    cut = refl;
    counted = refl;
    behind = _;
    keyed = (_, by_last_change _, refl);
    told = refl;
  }),
  refl,
  refl,
)
