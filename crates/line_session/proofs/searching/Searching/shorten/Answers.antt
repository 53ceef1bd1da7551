use Rattle.std.proofs.Common.{◌∙◌, ap, string_bytes}
use Rattle.std.specs.Prelude.{◌++◌, option_to_list}
use Rattle.line_session.specs.Searching.{search_value}
use Rattle.line_session.proofs.SearchingLemmas.{less_one, newest_first, shortened_so}
use Rattle.line_session.proofs.searching.Searching.shorten.Goals as goal

pub returns-in-Some : goal.returns-in-Some
returns-in-Some c =
    let old = c.args.self.now in
    let places = c.pop.new.self.items in
    let term = c.pop-in-Some.new.self in
    shortened_so (search_value old) (string_bytes term) c.in-Some.place _
    (newest_first places old.shorter.items c.in-Some.place (c.pop.ensures.items ∙ ap (λ p. places ++ option_to_list p) c.in-Some.is))
    (less_one old.term term c.pop-in-Some.result c.pop-in-Some.ensures.bytes c.pop-in-Some.ensures.none c.pop-in-Some.ensures.bound)
