use Rattle.std.proofs.Common.{◌∙◌, ap, map, string_bytes, sym}
use Rattle.line_parts.specs.WordList.{beginning_with, breaks_words}
use Rattle.line_parts.proofs.WordListLemmas.{completed_so}
use Rattle.line_parts.proofs.completion.word_list.WordsCompleter.complete.Goals as goal

pub returns-clause-answer : goal.returns-clause-answer
returns-clause-answer g c = sym (completed_so c.args.self.now.words.items _ _ _ _ c.extract_word-start.result.0
    (c.extract_word-start.ensures.start breaks_words (λ d answer good post. post)) c.extract_word-start.ensures.text
    (c.in_ok-beginning_with.ensures.words ∙ ap (λ l. beginning_with c.extract_word-start.result.1.now (map string_bytes l)) c.as_slice.ensures.value))
