use Rattle.std.proofs.Common.{rules}
use Rattle.line_parts.specs.Completed.{breaks_word}
use Rattle.line_parts.proofs.PathLemmas.{path_in_double, path_in_single, path_of_word, shorter_behind, within_behind}
use Rattle.line_parts.proofs.completion.paths.path_before.Goals as goal

pub returns-in_default-clause-path : goal.returns-in_default-clause-path
returns-in_default-clause-path c =
    path_of_word c.args.text.now _ _ _ c.utf8.text c.in_default.ensures.open
    (c.extract_word-start.ensures.start breaks_word (λ d answer good post. post))
    c.extract_word-start.ensures.text c.in_ok-unescape.ensures.text

pub overflow_sub-start : goal.overflow_sub-start
overflow_sub-start c = shorter_behind c.args.text.now _ c.in-Some.quote c.utf8.text c.in-Some.ensures.utf8 c.in-Some.ensures.open

pub returns-in_ok-unescape-in-Double-clause-path :
    goal.returns-in_ok-unescape-in-Double-clause-path
returns-in_ok-unescape-in-Double-clause-path c =
    path_in_double c.args.text.now _ _ c.in-Some.quote c.in-Double.is c.utf8.text c.in-Some.ensures.utf8 c.in-Some.ensures.open
    c.in_ok-unescape-in-Double.ensures.text

pub returns-in_ok-unescape-in-Double-clause-within :
    goal.returns-in_ok-unescape-in-Double-clause-within
returns-in_ok-unescape-in-Double-clause-within c =
    within_behind c.args.text.now _ c.in-Some.quote c.utf8.text c.in-Some.ensures.utf8 c.in-Some.ensures.open

pub returns-in_default-quote : goal.returns-in_default-quote
returns-in_default-quote c = record {
  path = path_in_single c.args.text.now _ c.in-Some.quote (search rules) c.utf8.text c.in-Some.ensures.utf8 c.in-Some.ensures.open;
  within = within_behind c.args.text.now _ c.in-Some.quote c.utf8.text c.in-Some.ensures.utf8 c.in-Some.ensures.open;
  memory = search rules;
}
