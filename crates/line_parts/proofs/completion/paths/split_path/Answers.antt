use Rattle.std.proofs.Common.{◌==◌, ◌∙◌, ap, drop, take}
use Rattle.std.proofs.Math.Seq.{take-length}
use Rattle.line_parts.proofs.PathLemmas.{begins_name, range_from_start, text_before, text_behind}
use Rattle.line_parts.proofs.completion.paths.split_path.Goals as goal

pub returns-clause-folder : goal.returns-clause-folder
returns-clause-folder c =
    c.range.ensures.value ∙ range_from_start c.args.path.now c.extract_word-start.result.0
    ∙ ap (λ n. take n c.args.path.now) (begins_name c.args.path.now _ (c.extract_word-start.ensures.start (λ d. d == 47) (λ d answer good post. post)))
    ∙ text_before c.args.path.now _ c.utf8.path

pub returns-clause-name : goal.returns-clause-name
returns-clause-name c =
    c.extract_word-start.ensures.text ∙ ap (λ l. drop c.extract_word-start.result.0 l) (take-length c.args.path.now)
    ∙ ap (λ n. drop n c.args.path.now) (begins_name c.args.path.now _ (c.extract_word-start.ensures.start (λ d. d == 47) (λ d answer good post. post)))
    ∙ text_behind c.args.path.now _ c.utf8.path
