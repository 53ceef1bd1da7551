use Rattle.std.proofs.Common.{refl}
use Rattle.console.proofs.SpellingLemmas.{name_read}
use Rattle.console.proofs.arithmetic.token.read_name.Goals as goal

pub returns : goal.returns
returns c =
    let ran = c.run_end-end.ensures in
    name_read c.args.text.now c.args.at c.run_end-end.result _ c.range.result c.requires.within c.requires.begins ran.end c.range.ensures.value ran.boundary refl
