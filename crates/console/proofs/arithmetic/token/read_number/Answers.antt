use Rattle.std.proofs.Common.{refl, w64}
use Rattle.std.proofs.lemmas.Int.{to_z-of_z}
use Rattle.console.proofs.SpellingLemmas.{number_read, parsed_run, unparsed_run}
use Rattle.console.proofs.arithmetic.token.read_number.Goals as goal

pub returns-in-Ok-clause-ok : goal.returns-in-Ok-clause-ok
returns-in-Ok-clause-ok c =
    let ran = c.run_end-end.ensures in
    let parsed = parsed_run c.args.text.now c.args.at c.run_end-end.result c.range.result.now _ _ c.requires.within c.requires.begins ran.end c.range.ensures.value c.parse.ensures.value.0 c.in-Ok.is in
    rw (to_z-of_z w64 c.in-Ok.number parsed.0)
    (number_read c.args.text.now c.args.at c.run_end-end.result _ c.range.result.now c.in-Ok.number c.requires.within c.requires.begins ran.end c.range.ensures.value ran.boundary parsed.1 refl)

pub returns-in-Err-clause-too_large : goal.returns-in-Err-clause-too_large
returns-in-Err-clause-too_large c =
    unparsed_run c.args.text.now c.args.at c.run_end-end.result c.range.result.now _ _ c.requires.within c.requires.begins
    c.run_end-end.ensures.end c.range.ensures.value c.parse.ensures.value.0 c.in-Err.is
