use Rattle.std.proofs.Common.{◌≡◌, ◌<◌, ◌≤◌, length, get_or, false, arith, sym, ◌∙◌}
use Rattle.std.proofs.lemmas.Grind.{common_steps}
use Rattle.std.specs.Char.{is_ascii_digit}
use Rattle.console.specs.Spelling.{begins_name}
use Rattle.console.proofs.ReadingLemmas.{end_ends, other_ends}
use Rattle.console.proofs.SpellingLemmas.{mark_read}
use Rattle.console.proofs.arithmetic.token.read_token.Goals as goal

pub returns-else-begins_name-clause-ok : goal.returns-else-begins_name-clause-ok
returns-else-begins_name-clause-ok c =
    let within : c.args.at < length c.args.text.now = grind (arith, common_steps) in
    let is : get_or c.args.text.now c.args.at 0 ≡ c.in-Some.byte = grind (arith, common_steps) in
    mark_read c.args.text.now c.args.at c.in-Some.byte c.read_mark.result within is c.utf8.text c.read_mark.ensures.some

-- no byte is there
pub returns-in_default-clause-none : goal.returns-in_default-clause-none
returns-in_default-clause-none c =
    let past : length c.args.text.now ≤ c.args.at = grind (arith, common_steps) in
    end_ends c.args.text.now c.args.at c.requires.boundary.0 past

-- another byte is there
pub returns-else-begins_name-clause-none : goal.returns-else-begins_name-clause-none
returns-else-begins_name-clause-none c =
    let within : c.args.at < length c.args.text.now = grind (arith, common_steps) in
    let is : get_or c.args.text.now c.args.at 0 ≡ c.in-Some.byte = grind (arith, common_steps) in
    let no_digit : is_ascii_digit c.in-Some.byte ≡ false = sym c.passes.ensures ∙ c.if-passes.false in
    let no_letter : begins_name c.in-Some.byte ≡ false = sym c.begins_name.ensures ∙ c.if-begins_name.false in
    other_ends c.args.text.now c.args.at within c.in-Some.byte is (c.requires.unblank within) no_digit no_letter c.read_mark.result c.read_mark.ensures.none
