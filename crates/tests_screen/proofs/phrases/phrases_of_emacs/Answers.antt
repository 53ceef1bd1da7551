use Rattle.line_buffer.specs.declared.movement.CharSearch.TheVariants.{Forward}
use Rattle.line_input.proofs.SequenceLemmas.{one_in_vain, two_answered, two_in_vain}
use Rattle.line_editor.specs.ItemShown.{kept}
use Rattle.line_editor.specs.Phrase.{of_mode}
use Rattle.line_editor.specs.Tail.{alone, by_character, by_paste, by_second_in_vain, by_second_key, by_sequence, in_vain}
use Rattle.line_keys.specs.Command.{noop}
use Rattle.line_keys.specs.Item.{key, paste}
use Rattle.line_keys.specs.Key.{event}
use Rattle.line_keys.specs.declared.keys.KeyCode.TheVariants.{BracketedPasteStart, Char, Enter, F}
use Rattle.line_keys.specs.declared.keys.TheConstants.Modifiers.{ALT, CTRL, NONE}
use Rattle.std.proofs.Common.{[], refl, ◌∷◌}
use Rattle.tests_screen.proofs.phrases.phrases_of_emacs.Goals as goal

pub returns-clause-three_times_a : goal.returns-clause-three_times_a
returns-clause-three_times_a c = λ environment. of_mode (record {
  typed = event (Char 51) ALT ∷ [];
  last = event (Char 97) NONE;
  tail = [];
  cut = refl;
  counted = refl;
  behind = _;
  keyed = (_, alone _, refl);
  told = refl;
})

pub returns-clause-two_back : goal.returns-clause-two_back
returns-clause-two_back c = λ environment. of_mode (record {
  typed = event (Char 45) ALT ∷ event (Char 50) NONE ∷ [];
  last = event (Char 70) CTRL;
  tail = [];
  cut = refl;
  counted = refl;
  behind = _;
  keyed = (_, alone _, refl);
  told = refl;
})

pub returns-clause-undo_three : goal.returns-clause-undo_three
returns-clause-undo_three c = λ environment. of_mode (record {
  typed = event (Char 51) ALT ∷ [];
  last = event (Char 88) CTRL;
  tail = key (event (Char 85) CTRL) ∷ [];
  cut = refl;
  counted = refl;
  behind = _;
  keyed = (_, by_second_key _ (event (Char 85) CTRL) (one_in_vain _ _ refl), refl);
  told = refl;
})

pub returns-clause-paste_once : goal.returns-clause-paste_once
returns-clause-paste_once c = λ environment. of_mode (record {
  typed = [];
  last = event BracketedPasteStart NONE;
  tail = paste (120 ∷ []) ∷ [];
  cut = refl;
  counted = refl;
  behind = _;
  keyed = (_, by_paste (120 ∷ []), refl);
  told = refl;
})

pub returns-clause-control_x_begins : goal.returns-clause-control_x_begins
returns-clause-control_x_begins c = λ environment. record {
  rest = key (event (Char 85) CTRL) ∷ [];
  read = _;
  proper = λ empty. cc;
  comes = of_mode (record {
    typed = [];
    last = event (Char 88) CTRL;
    tail = key (event (Char 85) CTRL) ∷ [];
    cut = refl;
    counted = refl;
    behind = _;
    keyed = (_, by_second_key _ (event (Char 85) CTRL) (one_in_vain _ _ refl), refl);
    told = refl;
  });
  shown = kept ∷ [];
  later = kept ∷ [];
  drawn = refl;
  each = refl;
}

pub returns-clause-back_to_a_character : goal.returns-clause-back_to_a_character
returns-clause-back_to_a_character c = λ environment. of_mode (record {
  typed = event (Char 45) ALT ∷ [];
  last = event (Char 93) CTRL;
  tail = key (event (Char 97) NONE) ∷ [];
  cut = refl;
  counted = refl;
  behind = _;
  keyed = (_, by_character _ _ (event (Char 97) NONE), refl);
  told = refl;
})

pub returns-clause-no_table : goal.returns-clause-no_table
returns-clause-no_table c = λ environment. of_mode (record {
  typed = [];
  last = event (F 4) NONE;
  tail = [];
  cut = refl;
  counted = refl;
  behind = _;
  keyed = (_, in_vain [] (one_in_vain _ _ refl), refl);
  told = refl;
})

pub returns-clause-plain_key : goal.returns-clause-plain_key
returns-clause-plain_key c = λ s environment draft last. by_character 2 (λ c. Forward c) (event (Char 98) NONE)

pub returns-clause-other_key : goal.returns-clause-other_key
returns-clause-other_key c = λ s environment draft last. by_character 2 (λ c. Forward c) (event Enter NONE)

pub returns-clause-bound_sequence : goal.returns-clause-bound_sequence
returns-clause-bound_sequence c = λ environment. of_mode (record {
  typed = [];
  last = event (Char 88) CTRL;
  tail = key (event (Char 97) NONE) ∷ [];
  cut = refl;
  counted = refl;
  behind = _;
  keyed = (_, by_sequence _ (event (Char 97) NONE ∷ []) noop refl (two_answered _ _ (event (Char 97) NONE) refl noop refl), refl);
  told = refl;
})

pub returns-clause-read_in_vain : goal.returns-clause-read_in_vain
returns-clause-read_in_vain c = λ environment. of_mode (record {
  typed = [];
  last = event (Char 88) CTRL;
  tail = key (event (Char 98) NONE) ∷ [];
  cut = refl;
  counted = refl;
  behind = _;
  keyed = (_, by_second_in_vain _ (event (Char 98) NONE) [] (two_in_vain _ _ (event (Char 98) NONE) refl refl refl), refl);
  told = refl;
})

pub returns-clause-second_key_of_all : goal.returns-clause-second_key_of_all
returns-clause-second_key_of_all c = λ environment. of_mode (record {
  typed = [];
  last = event (Char 88) CTRL;
  tail = key (event (Char 85) CTRL) ∷ [];
  cut = refl;
  counted = refl;
  behind = _;
  keyed = (_, by_second_in_vain _ (event (Char 85) CTRL) [] (two_in_vain _ _ (event (Char 85) CTRL) refl refl refl), refl);
  told = refl;
})

pub returns-clause-without_an_answer : goal.returns-clause-without_an_answer
returns-clause-without_an_answer c = λ environment. of_mode (record {
  typed = [];
  last = event (F 4) NONE;
  tail = key (event (Char 97) NONE) ∷ [];
  cut = refl;
  counted = refl;
  behind = _;
  keyed = (_, in_vain (event (Char 97) NONE ∷ []) (two_in_vain _ _ (event (Char 97) NONE) refl refl refl), refl);
  told = refl;
})

pub returns-clause-takes_the_count : goal.returns-clause-takes_the_count
returns-clause-takes_the_count c = λ environment. of_mode (record {
  typed = event (Char 51) ALT ∷ [];
  last = event (F 2) NONE;
  tail = [];
  cut = refl;
  counted = refl;
  behind = _;
  keyed = (refl, refl);
  told = refl;
})

pub returns-clause-each_key : goal.returns-clause-each_key
returns-clause-each_key c = λ environment. of_mode (record {
  typed = [];
  last = event (Char 97) NONE;
  tail = [];
  cut = refl;
  counted = refl;
  behind = _;
  keyed = (refl, refl);
  told = refl;
})
